-- `listing_pairs::row::look_of` meets its contract: class 0 makes no row, and every other class the row of the definition.
use Prim.Native.Nat.{ℕ, zero, suc}
use mathlib.Core.Path.{◌≡◌, refl, sym, ap, ◌∙◌}
use mathlib.Core.Logic.{◌≢◌}
use Rattle.arcs.specs.declared.pline_seg_intr.PlineSegIntr.{PlineSegIntr}
use Rattle.crossing.specs.PlineSegIntr.{class_of}
use Rattle.answers.specs.declared.class_and_points.ClassAndPoints.{ClassAndPoints}
use Rattle.answers.specs.ClassAndPoints.{class_and_points}
use Rattle.listing_pairs.specs.declared.row.Look.{Look}
use Rattle.listing_pairs.specs.declared.row.Look.TheVariants.{Nothing, Made}
use Rattle.listing_pairs.specs.Row.{row, unless_apart, look_of}
use Rattle.listing_pairs.proofs.row.look_of.Statement.{statement}
use Rattle.listing_pairs.proofs.row.look_of.Tie as tie

module _ (i j : ℕ) (met : PlineSegIntr) (m : ClassAndPoints) (is : m ≡ class_and_points met) where
  class-is : m.class ≡ class_of met
  unfolding class_and_points
  class-is = ap (λ (k : ClassAndPoints). k.class) is

  no_row : m.class ≡ 0 → Nothing ≡ look_of i j met
  unfolding look_of
  no_row e = rw (sym class-is ∙ e) refl

  a-row : m.class ≢ 0
      → Made (record { i = i; j = j; class = m.class; x1 = m.x1; y1 = m.y1; x2 = m.x2; y2 = m.y2 }) ≡ look_of i j met
  unfolding look_of class_and_points
  a-row e = ap made is ∙ sym (go (class_of met) (λ z. e (class-is ∙ z)))
    where
      made : ClassAndPoints → Look
      made k = Made (record { i = i; j = j; class = k.class; x1 = k.x1; y1 = k.y1; x2 = k.x2; y2 = k.y2 })

      go : (class : ℕ) → class ≢ 0 → unless_apart class (row i j met) ≡ Made (row i j met)
      go zero e = absurd (e refl)
      go (suc class) e = refl

pub look_of_spec : {M : Type 1} → statement M
look_of_spec =
    tie.close
    (tie.spec
    (λ c κs. tt)
    (λ c. no_row _ _ _ _ c.class_and_points-m.ensures c.if-m-eq0.true)
    (λ c. a-row _ _ _ _ c.class_and_points-m.ensures c.if-m-eq0.false))
