-- `layout_packed::put::put_number` meets its contract. The loop's invariant: to put the groups that are left after what
-- stands now is to put all of them, and there is room for them. Assumes nothing.
use Prim.Native.Nat.{ℕ, ◌+◌, ◌≤◌}
use mathlib.Core.Path.{◌≡◌, refl, ◌∙◌}
use mathlib.Core.List.{List}
use native.Mathlib.Omega.{arith}
use borrow.Author.Rules.{rules}
use lib.ListN.{length}
use Rattle.put_text.specs.Workings.Put.{Put}
use Rattle.layout_packed.specs.Groups.{groups_of}
use Rattle.layout_packed.specs.Laws.Put.{groups-next, groups-some, put_last, put_next}
use Rattle.layout_packed.proofs.put.put_number.Statement.{statement}
use Rattle.layout_packed.proofs.put.put_number.Tie as tie

abbrev invariant-loop : tie.invariant-loop-left
invariant-loop out₀ at n i₀ left₀ out i left =
    (i + length (groups_of left) ≤ length out) × (length out ≡ length out₀)
    × ((now : List ℕ) (next : ℕ) → Put (groups_of left) out i now next → Put (groups_of n) out₀ at now next)

abbrev decreases-loop : tie.decreases-loop-left
decreases-loop out₀ at n i₀ left₀ out i left = left

loop-holds : tie.Need-loop-left-init invariant-loop decreases-loop
loop-holds c = (c.requires, refl, λ now next p. p)

put-byte-requires : tie.Need-put_byte-i-requires invariant-loop decreases-loop
put-byte-requires c κs =
    omega (arith, c.loop-left.invariant.0, groups-some c.loop-left.left)

loop-again : tie.Need-loop-left-preserved invariant-loop decreases-loop
loop-again c =
    let inv = c.loop-left.invariant in
    let left = c.loop-left.left in
    let large = c.loop-left-test.true in
    let byte = c.put_byte-i.ensures in (
      omega (arith, inv.0, groups-next left large, byte.after, c.put_byte-i.auto.out),
      c.put_byte-i.auto.out ∙ inv.1,
      λ now next p.
          inv.2 now next (put_next left large byte p),
    )

put-byte-requires-2 : tie.Need-put_byte-requires invariant-loop decreases-loop
put-byte-requires-2 c κs =
    omega (arith, c.loop-left.invariant.0, groups-some c.loop-left.left)

returns : tie.Need-returns invariant-loop decreases-loop
returns c =
    c.loop-left.invariant.2 _ _ (put_last _ c.loop-left-test.false c.put_byte.ensures)

pub put_number_spec : {M : Type 1} → statement M
put_number_spec =
    tie.close
    (tie.spec
    invariant-loop decreases-loop loop-holds (λ c. search rules) (λ c. search rules) put-byte-requires (λ c. search rules) loop-again
    (λ c. search rules) put-byte-requires-2 (λ c. search rules) returns)
