-- The two dues that the code names are those at which the text may end.
use mathlib.Core.Logic.{◌⊎◌, inl, inr}
use Rattle.std.specs.Prelude.{◌≡◌, refl, true, false}
use Rattle.dxf_form.specs.Order.{may_end}
use Rattle.dxf_form.specs.declared.order.Due.{Due}
use Rattle.dxf_form.specs.declared.order.Due.TheVariants as Due·
use Rattle.dxf_form.proofs.order.may_end.Goals as goal

ends : (due : Due) → (due ≡ Due·.Vertex) ⊎ (due ≡ Due·.Bulge) → true ≡ may_end due
ends due (inl e) = rw e
ends due (inr e) = rw e

goes_on : (due : Due) → (due ≡ Due·.Vertex → ⊥) → (due ≡ Due·.Bulge → ⊥) → false ≡ may_end due
goes_on Due·.Count v b = refl
goes_on Due·.Flags v b = refl
goes_on Due·.Vertex v b = absurd (v refl)
goes_on Due·.Y v b = refl
goes_on Due·.Bulge v b = absurd (b refl)

pub returns-in-Vertex : goal.returns-in-Vertex
returns-in-Vertex c = ends c.args.due c.in-Vertex.is

pub returns-in_default : goal.returns-in_default
returns-in_default c = goes_on c.args.due c.in_default.not-Vertex c.in_default.not-Bulge
