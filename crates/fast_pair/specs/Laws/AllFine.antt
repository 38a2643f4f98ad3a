-- The pair call's check finds no fault: shown from its numbers one by one, and from the quick test of them.
use Rattle.checks.specs.Checked.{Checked}
use Rattle.std.specs.Prelude.{◌≡◌, refl, Bool, true, false, cond, ◌&&◌, ◌||◌, List, [], ◌∷◌, ◌++◌, ℕ, T, Float, Ok}
use Rattle.std.proofs.Common.{◌∙◌}
use Rattle.std.specs.Float.Ieee.{of_bits}
use Rattle.std.specs.Float.Ieee.Bits.{is_true}
use Rattle.std.specs.Float.Ieee.Fits.{and_l, and_r}
use Rattle.float_laws.specs.Chains.{between-finite}
use Rattle.floats.specs.Ops.{◌≼◌, ◌≽◌}
use Rattle.plane.specs.PlineVertex.{pos, bulge_is_zero}
use Rattle.plane.specs.Vector2 as vector2
use Rattle.plane.specs.declared.pline_vertex.PlineVertex.{PlineVertex}
use Rattle.checks.specs.Fault.{later}
use Rattle.checks.specs.Limit
use Rattle.checks.specs.Each
use Rattle.checks.specs.Arc.{arc_chord}
use Rattle.checks.specs.Calls.{check_pline_seg}
use Rattle.checks.specs.First.{first}
use Rattle.checks.specs.Lists.{point_checks, vertex_checks}
use Rattle.checks.specs.Laws.Chains as chains
use Rattle.checks.specs.Laws.Chord.{square_least, long-fine}
use Rattle.checks.specs.Laws.Fine.{Between, epsilon-fine}
use Rattle.checks.specs.Workings.Inside.{inside, of-coordinate, of-bulge}
use Rattle.checks.specs.Laws.Later.{fine-right, later-fine}
use Rattle.fast_pair.specs.Workings.AllFine.{point_fine, segment_fine, epsilon_fine, pair_fine}

-- ---- from its numbers
both-fine : (cs ds : List Checked) → first cs ≡ Ok tt → first ds ≡ Ok tt → first (cs ++ ds) ≡ Ok tt
both-fine cs ds e f = chains.first-append cs ds ∙ (later-fine (first cs) (first ds)).1 (e, f)

-- one segment, v or u
pub record Sound (v1 v2 : PlineVertex) (owner : ℕ) : Type 0 where
  pub start : chains.VertexFine v1.x v1.y v1.bulge
  pub end : chains.PointFine v2.x v2.y
  pub arc : arc_chord v1 v2 owner 0 ≡ Ok tt

pub look-fine : (v1 v2 u1 u2 : PlineVertex) (epsilon : Float) → Each.epsilon epsilon ≡ Ok tt
    → Sound v1 v2 0 → Sound u1 u2 1 → check_pline_seg v1 v2 u1 u2 epsilon ≡ Ok tt
unfolding check_pline_seg
look-fine v1 v2 u1 u2 epsilon e fv fu =
    let eps = Each.epsilon epsilon in
    let c0 : List Checked = eps ∷ [] in
    let c1 = vertex_checks v1.x v1.y v1.bulge 0 0 in
    let c2 = point_checks v2.x v2.y 0 1 in
    let c3 = vertex_checks u1.x u1.y u1.bulge 1 0 in
    let c4 = point_checks u2.x u2.y 1 1 in
    let arc-v = arc_chord v1 v2 0 0 in
    let arc-u = arc_chord u1 u2 1 0 in
    let c5 : List Checked = arc-v ∷ arc-u ∷ [] in
    let f0 : first c0 ≡ (Ok tt) = fine-right eps ∙ e in
    let f5 : first c5 ≡ (Ok tt) = (later-fine arc-v (later arc-u (Ok tt))).1 (fv.arc, fine-right arc-u ∙ fu.arc) in
    let f1 = both-fine c0 c1 f0 ((chains.vertex-listed v1.x v1.y 0 v1.bulge 0).1 fv.start) in
    let f2 = both-fine (c0 ++ c1) c2 f1 ((chains.point-listed v2.x v2.y 0 1).1 fv.end) in
    let f3 = both-fine (c0 ++ c1 ++ c2) c3 f2 ((chains.vertex-listed u1.x u1.y 1 u1.bulge 0).1 fu.start) in
    let f4 = both-fine (c0 ++ c1 ++ c2 ++ c3) c4 f3 ((chains.point-listed u2.x u2.y 1 1).1 fu.end) in
    both-fine (c0 ++ c1 ++ c2 ++ c3 ++ c4) c5 f4 f5

-- ---- from the quick test
pub of-epsilon : (x : Float) → T (epsilon_fine x) → Between Limit.epsilon_least Limit.epsilon_most x
unfolding of_bits
of-epsilon x h =
    let above = and_l (x ≽ Limit.epsilon_least) (x ≼ Limit.epsilon_most) h in
    let below = and_r (x ≽ Limit.epsilon_least) (x ≼ Limit.epsilon_most) h in
    record { number = between-finite Limit.epsilon_least x Limit.epsilon_most tt tt above below; above = above; below = below }

of-point : (v : PlineVertex) → T (point_fine v) → chains.PointFine v.x v.y
of-point v h =
    let x = inside Limit.coordinate v.x in
    let y = inside Limit.coordinate v.y in
    record { at_x = of-coordinate v.x (and_l x y h); at_y = of-coordinate v.y (and_r x y h) }

of-arc : (v1 v2 : PlineVertex) (owner : ℕ)
    → T (bulge_is_zero v1 || (vector2.dot (vector2.sub (pos v2) (pos v1)) (vector2.sub (pos v2) (pos v1)) ≽ square_least))
    → arc_chord v1 v2 owner 0 ≡ Ok tt
unfolding arc_chord
of-arc v1 v2 owner h =
    let chord = vector2.sub (pos v2) (pos v1) in
    let s = vector2.dot chord chord in
    go (bulge_is_zero v1) (s ≽ square_least) h (λ e. long-fine chord s refl e _)
  where
    go : (line long : Bool) {c : Checked} → T (line || long) → (long ≡ true → c ≡ Ok tt) → cond line (Ok tt) c ≡ Ok tt
    go true long t f = refl
    go false long t f = f (is_true long t)

pub of-segment : (v1 v2 : PlineVertex) (owner : ℕ) → T (segment_fine v1 v2) → Sound v1 v2 owner
unfolding segment_fine
of-segment v1 v2 owner h =
    let chord = vector2.sub (pos v2) (pos v1) in
    let bulge = inside Limit.bulge v1.bulge in
    let ends = (point_fine v1 && bulge) && point_fine v2 in
    let long = bulge_is_zero v1 || (vector2.dot chord chord ≽ square_least) in
    let both = and_l ends long h in
    let vertex = and_l (point_fine v1 && bulge) (point_fine v2) both in
    record {
      start =
          record {
            point = of-point v1 (and_l (point_fine v1) bulge vertex);
            bulge = of-bulge v1.bulge (and_r (point_fine v1) bulge vertex);
          };
      end = of-point v2 (and_r (point_fine v1 && bulge) (point_fine v2) both);
      arc = of-arc v1 v2 owner (and_r ends long h);
    }

pub fine-by-tests : (v1 v2 u1 u2 : PlineVertex) (eps : Float) → T (pair_fine v1 v2 u1 u2 eps)
    → check_pline_seg v1 v2 u1 u2 eps ≡ Ok tt
unfolding pair_fine
fine-by-tests v1 v2 u1 u2 eps h =
    let v = segment_fine v1 v2 in
    let u = segment_fine u1 u2 in
    let both = and_r (epsilon_fine eps) (v && u) h in
    look-fine v1 v2 u1 u2 eps
    ((epsilon-fine eps).1 (of-epsilon eps (and_l (epsilon_fine eps) (v && u) h)))
    (of-segment v1 v2 0 (and_l v u both)) (of-segment u1 u2 1 (and_r v u both))
