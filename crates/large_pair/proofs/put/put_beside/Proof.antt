-- `large_pair::put::put_beside` meets its contract: the second row stands behind the first.
use Prim.Native.Nat.{ℕ, ◌+◌, ◌*◌}
use mathlib.Core.Path.{◌≡◌, refl, ap, ◌∙◌}
use mathlib.Core.List.{List, ◌++◌}
use native.Mathlib.Omega.{arith}
use borrow.Author.Rules.{rules}
use lib.ListN.{length}
use lib.Seq.{sets}
use Rattle.float_laws.specs.Stores.{sets-append}
use Rattle.large_pair.specs.LargePair.{words_of, floats_of}
use Rattle.large_pair.specs.Workings.Pieces.{meeting}
use Rattle.large_pair.proofs.put.put_beside.Statement.{statement}
use Rattle.large_pair.proofs.put.put_beside.Tie as tie

behind : {A : Type 0} (old mid now xs ys : List A) (row width : ℕ) → length xs ≡ width → mid ≡ sets old (row * width) xs
    → now ≡ sets mid ((row + 1) * width) ys → now ≡ sets old (row * width) (xs ++ ys)
behind {A} old mid now xs ys row width long first second =
    let next : (row + 1) * width ≡ row * width + length xs = omega (arith, long) in
    second
    ∙ ap (λ (k : ℕ). sets mid k ys) next
    ∙ ap (λ (l : List A). sets l (row * width + length xs) ys) first
    ∙ sets-append old (row * width) xs ys

put-pair-requires : tie.Need-put_pair-requires
put-pair-requires c κs =
    let h = c.requires in
    (omega (arith, h.0), (h.1.0, (h.1.1.0, h.1.1.1.0)))

put-pair-requires-2 : tie.Need-put_pair-requires-2
put-pair-requires-2 c κs =
    let h = c.requires in
    (h.0, (search rules, (search rules, h.1.1.1.1)))

returns : tie.Need-returns
returns c =
    let a = c.args in
    let p = meeting a.eps a.v a.u_first in
    let q = meeting a.eps a.v a.u_second in (
      behind a.results.now _ _ (words_of p) (words_of q) a.row 3 refl c.put_pair.ensures.0
          c.put_pair-2.ensures.0,
      behind a.points.now _ _ (floats_of p) (floats_of q) a.row 4 refl c.put_pair.ensures.1
          c.put_pair-2.ensures.1,
    )

pub put_beside_spec : {M : Type 1} → statement M
put_beside_spec =
    tie.close
    (tie.spec put-pair-requires (λ c. search rules) put-pair-requires-2 (λ c. search rules) (λ c. search rules) returns)
