-- `large_pair::put::put_results` meets its contract: in each of its four ways it makes the definition's parts, which are all fit
-- for the pair's own check, and writes their meetings in the definition's order (Laws/Parts).
use mathlib.Core.Path.{sym, ◌∙◌}
use native.Mathlib.Omega.{arith}
use borrow.Author.Rules.{rules}
use Rattle.large_pair.specs.Results.{whole, first_half, second_half}
use Rattle.large_pair.specs.Laws.Fine.{PairFine, pair-listed}
use Rattle.large_pair.specs.Laws.Parts.{
  Ready,
  fit,
  whole_ready,
  first-ready,
  second-ready,
  none-cut,
  u-cut,
  v-cut,
  all-cut,
}
use Rattle.large_pair.proofs.put.put_results.Statement.{statement}
use Rattle.large_pair.proofs.put.put_results.Tie as tie

abbrev start : tie.After-is_large → tie.Start
start i = i.before.before.before.before

fine : (i : tie.After-is_large)
    → let a = (start i).args in PairFine a.v1 a.v2 a.u1 a.u2 a.eps
fine i = (pair-listed _ _ _ _ _).0 (start i).requires.1.1.1.1

-- ---- the first segment is cut
v-first : (c : tie.After-with_circle-v_first)
    → let a = (start c.before.before.before.before).args in Ready c.with_circle-v_first.result (first_half a.v1 a.v2)
v-first c =
    let i = c.before.before.before.before in
    first-ready (fine i).v (start i).requires.1.1.0 i.is_large.ensures c.if-is_large.true c.with_circle-v_first.ensures

v-second : (c : tie.After-with_circle-v_second)
    → let a = (start c.before.before.before.before.before.before).args in Ready c.with_circle-v_second.result (second_half a.v1 a.v2)
v-second c =
    let i = c.before.before.before.before.before.before in
    second-ready (fine i).v (start i).requires.1.1.0 i.is_large.ensures c.if-is_large.true c.with_circle-v_second.ensures

-- and so is the second
u-first : (c : tie.After-with_circle-u_first)
    → let a = (start c.before.before.before.before.before.before.before.before.before.before).args in
    Ready c.with_circle-u_first.result (first_half a.u1 a.u2)
u-first c =
    let i = c.before.before.before.before.before.before.before.before.before.before in
    first-ready (fine i).u (start i).requires.1.1.1.0 i.is_large-u_cut.ensures c.if-u_cut.true c.with_circle-u_first.ensures

u-second : (c : tie.After-with_circle-u_second)
    → let a = (start c.before.before.before.before.before.before.before.before.before.before.before.before).args in
    Ready c.with_circle-u_second.result (second_half a.u1 a.u2)
u-second c =
    let i = c.before.before.before.before.before.before.before.before.before.before.before.before in
    second-ready (fine i).u (start i).requires.1.1.1.0 i.is_large-u_cut.ensures c.if-u_cut.true
    c.with_circle-u_second.ensures

put-beside-requires : tie.Need-put_beside-requires
put-beside-requires c κs =
    let u2 = c.before.before in
    let u1 = u2.before.before in
    let v1 = u1.before.before.before.before.before.before in
    let i = v1.before.before.before.before in (
      omega arith,
      (
        (start i).requires.0,
        (
          (start i).requires.1.0,
          (
            fit (fine i) (v-first v1) (u-first u1),
            fit (fine i) (v-first v1) (u-second u2),
          ),
        ),
      ),
    )

put-beside-requires-2 : tie.Need-put_beside-requires-then-u_cut
put-beside-requires-2 c κs =
    let u2 = c.before.before.before.before.before.before.before.before.before in
    let u1 = u2.before.before in
    let v2 = u1.before.before.before.before in
    let i = v2.before.before.before.before.before.before in
    let kept = c.put_beside.auto in (
      omega arith,
      (
        omega (arith, kept.results, (start i).requires.0),
        (
          omega (arith, kept.points, (start i).requires.1.0),
          (
            fit (fine i) (v-second v2) (u-first u1),
            fit (fine i) (v-second v2) (u-second u2),
          ),
        ),
      ),
    )

returns : tie.Need-returns-then-u_cut
returns c =
    let u2 = c.before.before.before.before.before.before.before.before.before.before.before.before.before.before in
    let u1 = u2.before.before in
    let v2 = u1.before.before.before.before in
    let v1 = v2.before.before in
    all-cut _ _ _ _ _ (sym v1.is_large.ensures ∙ v1.if-is_large.true)
    (sym v1.is_large-u_cut.ensures ∙ u1.if-u_cut.true)
    (v-first v1) (v-second v2) (u-first u1) (u-second u2)
    c.put_beside.ensures.0 c.put_beside.ensures.1
    c.put_beside-then-u_cut.ensures.0 c.put_beside-then-u_cut.ensures.1

-- the second is not
u-whole : (c : tie.After-with_circle-u_whole)
    → let a = (start c.before.before.before.before.before.before.before.before).args in
    Ready c.with_circle-u_whole.result (whole a.u1 a.u2)
u-whole c =
    let i = c.before.before.before.before.before.before.before.before in
    whole_ready (fine i).u (start i).requires.1.1.1.0 i.is_large-u_cut.ensures c.if-u_cut.false c.with_circle-u_whole.ensures

put-pair-requires : tie.Need-put_pair-requires
put-pair-requires c κs =
    let u = c.before.before in
    let v1 = u.before.before.before.before in
    let i = v1.before.before.before.before in
    (omega arith, ((start i).requires.0, ((start i).requires.1.0, fit (fine i) (v-first v1) (u-whole u))))

put-pair-requires-2 : tie.Need-put_pair-requires-then-is_large
put-pair-requires-2 c κs =
    let u = c.before.before.before.before.before.before.before.before.before in
    let v2 = u.before.before in
    let i = v2.before.before.before.before.before.before in
    let kept = c.put_pair.auto in (
      omega arith,
      (
        omega (arith, kept.results, (start i).requires.0),
        (
          omega (arith, kept.points, (start i).requires.1.0),
          fit (fine i) (v-second v2) (u-whole u),
        ),
      ),
    )

returns-2 : tie.Need-returns-then-is_large
returns-2 c =
    let u = c.before.before.before.before.before.before.before.before.before.before.before.before.before.before in
    let v2 = u.before.before in
    let v1 = v2.before.before in
    v-cut _ _ _ _ _ (sym v1.is_large.ensures ∙ v1.if-is_large.true)
    (sym v1.is_large-u_cut.ensures ∙ u.if-u_cut.false)
    (v-first v1) (v-second v2) (u-whole u)
    c.put_pair.ensures.0 c.put_pair.ensures.1
    c.put_pair-then-is_large.ensures.0 c.put_pair-then-is_large.ensures.1

-- ---- the first is not cut
v-whole : (c : tie.After-with_circle-v_whole)
    → let a = (start c.before.before).args in Ready c.with_circle-v_whole.result (whole a.v1 a.v2)
v-whole c =
    let i = c.before.before in
    whole_ready (fine i).v (start i).requires.1.1.0 i.is_large.ensures c.if-is_large.false c.with_circle-v_whole.ensures

-- the second is
u-first-alone : (c : tie.After-with_circle-u_first-then-u_cut-2)
    → let a = (start c.before.before.before.before.before.before).args in Ready c.with_circle-u_first-then-u_cut-2.result (first_half a.u1 a.u2)
u-first-alone c =
    let i = c.before.before.before.before.before.before in
    first-ready (fine i).u (start i).requires.1.1.1.0 i.is_large-u_cut.ensures c.if-u_cut-2.true c.with_circle-u_first-then-u_cut-2.ensures

u-second-alone : (c : tie.After-with_circle-u_second-then-u_cut-2)
    → let a = (start c.before.before.before.before.before.before.before.before).args in
    Ready c.with_circle-u_second-then-u_cut-2.result (second_half a.u1 a.u2)
u-second-alone c =
    let i = c.before.before.before.before.before.before.before.before in
    second-ready (fine i).u (start i).requires.1.1.1.0 i.is_large-u_cut.ensures c.if-u_cut-2.true
    c.with_circle-u_second-then-u_cut-2.ensures

put-beside-requires-3 : tie.Need-put_beside-requires-then-u_cut-2
put-beside-requires-3 c κs =
    let u2 = c.before.before in
    let u1 = u2.before.before in
    let v = u1.before.before.before.before in
    let i = v.before.before in (
      omega arith,
      (
        (start i).requires.0,
        (
          (start i).requires.1.0,
          (
            fit (fine i) (v-whole v) (u-first-alone u1),
            fit (fine i) (v-whole v) (u-second-alone u2),
          ),
        ),
      ),
    )

returns-3 : tie.Need-returns-then-u_cut-2
returns-3 c =
    let u2 = c.before.before.before.before.before.before.before in
    let u1 = u2.before.before in
    let v = u1.before.before.before.before in
    u-cut _ _ _ _ _ (sym v.is_large.ensures ∙ v.if-is_large.false)
    (sym v.is_large-u_cut.ensures ∙ u1.if-u_cut-2.true)
    (v-whole v) (u-first-alone u1) (u-second-alone u2) c.put_beside-then-u_cut-2.ensures.0 c.put_beside-then-u_cut-2.ensures.1

-- neither is
u-whole-alone : (c : tie.After-with_circle-u_whole-2)
    → let a = (start c.before.before.before.before).args in Ready c.with_circle-u_whole-2.result (whole a.u1 a.u2)
u-whole-alone c =
    let i = c.before.before.before.before in
    whole_ready (fine i).u (start i).requires.1.1.1.0 i.is_large-u_cut.ensures c.if-u_cut-2.false c.with_circle-u_whole-2.ensures

put-pair-requires-3 : tie.Need-put_pair-requires-2
put-pair-requires-3 c κs =
    let u = c.before.before in
    let v = u.before.before in
    let i = v.before.before in
    (omega arith, ((start i).requires.0, ((start i).requires.1.0, fit (fine i) (v-whole v) (u-whole-alone u))))

returns-4 : tie.Need-returns
returns-4 c =
    let u = c.before.before.before.before.before.before.before in
    let v = u.before.before in
    none-cut _ _ _ _ _ (sym v.is_large.ensures ∙ v.if-is_large.false)
    (sym v.is_large-u_cut.ensures ∙ u.if-u_cut-2.false)
    (v-whole v) (u-whole-alone u) c.put_pair-2.ensures.0 c.put_pair-2.ensures.1

pub put_results_spec : {M : Type 1} → statement M
put_results_spec =
    tie.close
    (tie.spec
    (λ c. search rules) (λ c. search rules) (λ c. search rules) (λ c. search rules) (λ c. search rules) (λ c. search rules)
    put-beside-requires put-beside-requires-2 (λ c. search rules) (λ c. search rules) returns
    (λ c. search rules) put-pair-requires put-pair-requires-2 (λ c. search rules) (λ c. search rules) returns-2
    (λ c. search rules) (λ c. search rules) (λ c. search rules) put-beside-requires-3 (λ c. search rules) (λ c. search rules)
    returns-3
    (λ c. search rules) put-pair-requires-3 (λ c. search rules) (λ c. search rules) returns-4)
