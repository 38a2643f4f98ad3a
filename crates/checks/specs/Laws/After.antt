-- Checks that stand after others. f is what was found before: if the numbers are inside their limits, f stays.
use Rattle.std.specs.Prelude.{◌≡◌, ◌∷◌, ℕ, T, Float}
use Rattle.std.proofs.Common.{sym, ap, ◌∙◌}
use Rattle.checks.specs.Checked.{Checked}
use Rattle.checks.specs.Fault.{later}
use Rattle.checks.specs.First.{first}
use Rattle.checks.specs.Lists.{point_checks, vertex_checks, circle_checks}
use Rattle.checks.specs.Laws.Later.{fine-right}
use Rattle.checks.specs.Workings.Inside.{point_inside, vertex_inside, circle_inside}
use Rattle.checks.specs.Workings.Inside as inside

pub point-passed : (f : Checked) (x y : Float) (owner index : ℕ) → T (point_inside x y)
    → f ≡ first (f ∷ point_checks x y owner index)
point-passed f x y owner index h = sym (fine-right f) ∙ ap (later f) (inside.point-passed x y owner index h)

pub vertex-passed : (f : Checked) (x y bulge : Float) (owner index : ℕ) → T (vertex_inside x y bulge)
    → f ≡ first (f ∷ vertex_checks x y bulge owner index)
vertex-passed f x y bulge owner index h = sym (fine-right f) ∙ ap (later f) (inside.vertex-passed x y bulge owner index h)

pub circle-passed : (f : Checked) (r x y : Float) (owner : ℕ) → T (circle_inside r x y)
    → f ≡ first (f ∷ circle_checks r x y owner)
circle-passed f r x y owner h = sym (fine-right f) ∙ ap (later f) (inside.circle-passed r x y owner h)
