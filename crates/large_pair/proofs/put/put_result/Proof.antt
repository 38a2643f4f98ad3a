-- `large_pair::put::put_result` meets its contract: its stores are those of the result's words and floats.
use Prim.Native.Nat.{ℕ, ◌+◌, ◌*◌}
use mathlib.Core.Path.{◌≡◌}
use mathlib.Core.List.{List}
use native.Mathlib.Omega.{arith}
use borrow.Author.Rules.{rules}
use lib.ListN.{set, length-set}
use lib.Seq.{sets}
use lib.Ieee.{Float}
use Rattle.float_laws.specs.Stores.{three-set, four-set}
use Rattle.arcs.specs.declared.pline_seg_intr.PlineSegIntr.{PlineSegIntr}
use Rattle.answers.specs.declared.class_and_points.ClassAndPoints.{ClassAndPoints}
use Rattle.answers.specs.ClassAndPoints.{class_and_points}
use Rattle.large_pair.specs.LargePair.{words_of, floats_of}
use Rattle.large_pair.specs.Workings.Pieces.{result_of}
use Rattle.large_pair.proofs.put.put_result.Statement.{statement}
use Rattle.large_pair.proofs.put.put_result.Tie as tie

module _ (m : ClassAndPoints) (met : PlineSegIntr) (is : m ≡ class_and_points met) (a b : ℕ) where
  words : (l : List ℕ) (at : ℕ) → set (set (set l at a) (at + 1) b) (at + 2) m.class ≡ sets l at (words_of (result_of a b met))
  unfolding class_and_points
  words l at = rw is (three-set l at a b (class_and_points met).class)

  floats : (l : List Float) (at : ℕ)
      → set (set (set (set l at m.x1) (at + 1) m.y1) (at + 2) m.x2) (at + 3) m.y2
      ≡ sets l at (floats_of (result_of a b met))
  unfolding class_and_points
  floats l at =
      let n = class_and_points met in
      rw is (four-set l at n.x1 n.y1 n.x2 n.y2)

returns : tie.Need-returns
returns c =
    let e = c.class_and_points-m.ensures in
    let a = c.args in (
      words _ _ e a.v_half a.u_half a.results.now (a.row * 3),
      floats _ _ e a.v_half a.u_half a.points.now (a.row * 4),
    )

pub put_result_spec : {M : Type 1} → statement M
put_result_spec =
    tie.close
    (tie.spec
    (λ c. search rules) (λ c. search rules) (λ c. search rules)
    (λ c. search rules) (λ c. search rules) (λ c. search rules)
    (λ c. simp length-set (omega arith)) (λ c. search rules) (λ c. search rules)
    (λ c. simp length-set (omega arith)) (λ c. search rules) (λ c. search rules)
    (λ c. search rules) (λ c. search rules) (λ c. search rules)
    (λ c. simp length-set (omega arith)) (λ c. search rules) (λ c. search rules)
    (λ c. simp length-set (omega arith)) (λ c. search rules) (λ c. search rules)
    (λ c. simp length-set (omega arith))
    (λ c. search rules) (λ c. search rules) returns)
