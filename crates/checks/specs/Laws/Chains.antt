-- Lists of checks, one after another; and which numbers pass the checks of a point, a vertex and a circle.
use Rattle.checks.specs.Checked.{Checked}
use Rattle.std.specs.Prelude.{◌≡◌, false, ◌↔◌, List, [], ◌∷◌, ◌++◌, ℕ, Float, Ok}
use Rattle.std.proofs.Common.{sym, ap, ◌∙◌}
use Rattle.std.proofs.Math.Logic.Iff
use Rattle.checks.specs.declared.fault.Item.TheVariants.{X, Y, Bulge, Radius, CenterX, CenterY, Trace}
use Rattle.checks.specs.Fault.{at, later}
use Rattle.checks.specs.Limit
use Rattle.checks.specs.Each
use Rattle.checks.specs.First.{first}
use Rattle.checks.specs.Number.{no_trace}
use Rattle.checks.specs.Lists.{point_checks, vertex_checks, traced_checks, circle_checks}
use Rattle.checks.specs.Laws.Later.{fine-left, later-assoc, same-fine, then-fine, alone-fine}
use Rattle.checks.specs.Laws.Fine.{Within, Between, coordinate-fine, bulge-fine, trace-fine}
use Rattle.checks.specs.Laws.Fine.{radius-fine, center-fine}

-- ---- as lists

-- one list after another
pub first-append : (cs ds : List Checked) → first (cs ++ ds) ≡ later (first cs) (first ds)
first-append [] ds = sym (fine-left (first ds))
first-append (c ∷ cs) ds = ap (later c) (first-append cs ds) ∙ sym (later-assoc c (first cs) (first ds))

pub append-fine : (cs ds : List Checked) {F G : Type 0} → ((first cs ≡ Ok tt) ↔ F) → ((first ds ≡ Ok tt) ↔ G)
    → ((first (cs ++ ds) ≡ Ok tt) ↔ (F × G))
append-fine cs ds p q = same-fine (first-append cs ds) (then-fine p q)

-- ---- what passes
pub record PointFine (x y : Float) : Type 0 where
  pub at_x : Within Limit.coordinate x
  pub at_y : Within Limit.coordinate y

pub record VertexFine (x y b : Float) : Type 0 where
  pub point : PointFine x y
  pub bulge : Within Limit.bulge b

-- a path's vertex has a trace too
pub record TracedFine (x y b t : Float) : Type 0 where
  pub vertex : VertexFine x y b
  pub trace : no_trace t ≡ false

pub record CircleFine (r x y : Float) : Type 0 where
  pub radius : Between Limit.radius_least Limit.radius_most r
  pub at_x : Within Limit.center x
  pub at_y : Within Limit.center y

-- the checks of a list all pass exactly for such numbers
module _ (x y : Float) (owner : ℕ) where
  pub point-listed : (index : ℕ) → (first (point_checks x y owner index) ≡ Ok tt) ↔ PointFine x y
  point-listed index =
      Iff.trans
      (then-fine (coordinate-fine x (at owner index X)) (alone-fine (coordinate-fine y (at owner index Y))))
      (λ h. record { at_x = h.0; at_y = h.1 }, λ p. (p.at_x, p.at_y))

  pub vertex-listed : (b : Float) (index : ℕ) → (first (vertex_checks x y b owner index) ≡ Ok tt) ↔ VertexFine x y b
  vertex-listed b index =
      let last : List Checked = Each.bulge b (at owner index Bulge) ∷ [] in
      let last-fine = alone-fine (bulge-fine b (at owner index Bulge)) in
      Iff.trans
      (append-fine (point_checks x y owner index) last (point-listed index) last-fine)
      (λ h. record { point = h.0; bulge = h.1 }, λ v. (v.point, v.bulge))

  pub traced-listed : (b t : Float) (index : ℕ) → (first (traced_checks x y b t owner index) ≡ Ok tt) ↔ TracedFine x y b t
  traced-listed b t index =
      let last : List Checked = Each.trace t (at owner index Trace) ∷ [] in
      let last-fine = alone-fine (trace-fine t (at owner index Trace)) in
      Iff.trans
      (append-fine (vertex_checks x y b owner index) last (vertex-listed b index) last-fine)
      (λ h. record { vertex = h.0; trace = h.1 }, λ v. (v.vertex, v.trace))

  pub circle-listed : (r : Float) → (first (circle_checks r x y owner) ≡ Ok tt) ↔ CircleFine r x y
  circle-listed r =
      let center = then-fine (center-fine x (at owner 0 CenterX)) (alone-fine (center-fine y (at owner 0 CenterY))) in
      Iff.trans
      (then-fine (radius-fine r (at owner 0 Radius)) center)
      (λ h. record { radius = h.0; at_x = h.1.0; at_y = h.1.1 }, λ c. (c.radius, (c.at_x, c.at_y)))
