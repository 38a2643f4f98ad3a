-- What the check of a pair says if it finds no fault, and that it finds no fault only in such pairs. Then every part of the one
-- segment passes the pair's own check with every part of the other.
use Rattle.checks.specs.Checked.{Checked}
use Rattle.std.specs.Prelude.{◌≡◌, ◌↔◌, Bool, ◌&&◌, List, [], ◌∷◌, ◌++◌, ℕ, Float, Ok}
use Rattle.std.proofs.Math.Path.{refl}
use Rattle.std.proofs.Common.{sym, ◌∙◌, subst, true≢false}
use Rattle.std.proofs.Math.Logic.Iff
use Rattle.std.proofs.Math.Bool.{true, false, cond}
use Rattle.std.proofs.lemmas.Bool.{false≢true}
use denote.Floats.{passes}
use Rattle.std.proofs.Math.Dec.{T}
use Rattle.std.specs.Float.Ieee.{of_bits, le}
use Rattle.std.specs.Float.Ieee.Bits.{is_false}
use Rattle.std.specs.Float.Ieee.Fits.{and_l, and_r}
use Rattle.float_laws.specs.Chains as order
use Rattle.floats.specs.Ops.{◌≻◌, f1}
use Rattle.floats.specs.F64
use Rattle.plane.specs.declared.pline_vertex.PlineVertex.{PlineVertex}
use Rattle.plane.specs.PlineVertex as vertices
use Rattle.checks.specs.Limit
use Rattle.checks.specs.Each
use Rattle.checks.specs.First.{first}
use Rattle.checks.specs.Lists.{point_checks}
use Rattle.checks.specs.Laws.Later.{alone-fine}
use Rattle.checks.specs.Laws.Fine.{Within, Between, epsilon-fine}
use Rattle.checks.specs.Laws.Chains.{PointFine, point-listed, append-fine}
use Rattle.paths.specs.Laws.Fine.{arc-fine}
use Rattle.fast_pair.specs.Workings.AllFine.{segment_fine, epsilon_fine, pair_fine}
use Rattle.fast_pair.specs.Laws.AllFine.{Sound, of-segment, of-epsilon}
use Rattle.checks.specs.Workings.Inside.{inside, of-large-bulge}
use Rattle.cuts.specs.declared.cut.Halves.{Halves}
use Rattle.cuts.specs.Cut.{is_large, bent, cut_vertex, halve}
use Rattle.cuts.specs.LargeChecks.{vertex_checks, segment_checks}
use Rattle.cuts.specs.Laws.Fine.{SegmentFine, HalvesFine, vertex-passed, segment-listed}
use Rattle.cuts.specs.Laws.Sound as cut
use Rattle.large_pair.specs.LargePair.{large_pair_checks}
use Rattle.large_pair.specs.Workings.Starts.{starts}
use Rattle.large_pair.specs.Workings.PartsFine.{parts_fine}

-- ---- the check, as a list
-- one segment
pub record EndsFine (v1 v2 : PlineVertex) : Type 0 where
  pub start : PointFine v1.x v1.y
  pub bulge : Within Limit.large_bulge v1.bulge
  pub end : PointFine v2.x v2.y
  pub segment : SegmentFine v1 v2

pub record PairFine (v1 v2 u1 u2 : PlineVertex) (pos_equal_eps : Float) : Type 0 where
  pub epsilon : Between Limit.epsilon_least Limit.epsilon_most pos_equal_eps
  pub v : EndsFine v1 v2
  pub u : EndsFine u1 u2

pub pair-listed : (v1 v2 u1 u2 : PlineVertex) (pos_equal_eps : Float)
    → (first (large_pair_checks v1 v2 u1 u2 pos_equal_eps) ≡ Ok tt) ↔ PairFine v1 v2 u1 u2 pos_equal_eps
pair-listed v1 v2 u1 u2 pos_equal_eps =
    let c0 : List Checked = Each.epsilon pos_equal_eps ∷ [] in
    let c1 = vertex_checks v1.x v1.y v1.bulge 0 0 in
    let c2 = point_checks v2.x v2.y 0 1 in
    let c3 = vertex_checks u1.x u1.y u1.bulge 1 0 in
    let c4 = point_checks u2.x u2.y 1 1 in
    let c5 = segment_checks v1 v2 0 0 in
    let c6 = segment_checks u1 u2 1 0 in
    let f1 = append-fine c0 c1 (alone-fine (epsilon-fine pos_equal_eps)) (vertex-passed v1.x v1.y 0 v1.bulge 0) in
    let f2 = append-fine (c0 ++ c1) c2 f1 (point-listed v2.x v2.y 0 1) in
    let f3 = append-fine (c0 ++ c1 ++ c2) c3 f2 (vertex-passed u1.x u1.y 1 u1.bulge 0) in
    let f4 = append-fine (c0 ++ c1 ++ c2 ++ c3) c4 f3 (point-listed u2.x u2.y 1 1) in
    let f5 = append-fine (c0 ++ c1 ++ c2 ++ c3 ++ c4) c5 f4 (segment-listed v1 v2 0 0) in
    let f6 = append-fine (c0 ++ c1 ++ c2 ++ c3 ++ c4 ++ c5) c6 f5 (segment-listed u1 u2 1 0) in
    Iff.trans f6 (
      λ h.
          let b = h.0.0.0.0 in
          record {
            epsilon = b.0.0;
            v = record { start = b.0.1.0; bulge = b.0.1.1; end = b.1; segment = h.0.1 };
            u = record { start = h.0.0.0.1.0; bulge = h.0.0.0.1.1; end = h.0.0.1; segment = h.1 };
          },
      λ f. (
        (
          ((((f.epsilon, (f.v.start, f.v.bulge)), f.v.end), (f.u.start, f.u.bulge)), f.u.end),
          f.v.segment,
        ),
        f.u.segment,
      ),
    )

-- ---- the quick test
-- a bulge of at most 1 is one of at most 16
small-bulge : (b : Float) → Within Limit.bulge b → Within Limit.large_bulge b
unfolding of_bits le
small-bulge b w = record { number = w.number; small = order.le_trans (F64.abs b) Limit.bulge Limit.large_bulge w.small tt }

module _ (v1 v2 : PlineVertex) where
  -- of a segment that is cut
  by-halves : is_large v1.bulge ≡ true → Within Limit.large_bulge v1.bulge
      → Sound (bent v1) (cut_vertex v1 v2) 0 → Sound (cut_vertex v1 v2) v2 0 → EndsFine v1 v2
  unfolding bent vertices.new
  by-halves large b first second =
      record {
        start = first.start.point;
        bulge = b;
        end = second.end;
        segment = record {
          cut = λ e. record {
            point = first.end;
            first = (arc-fine (bent v1) (cut_vertex v1 v2) 0 0).0 first.arc;
            second = (arc-fine (cut_vertex v1 v2) v2 0 0).0 second.arc;
          };
          whole = λ e. absurd (false≢true (sym e ∙ large));
        };
      }

  by_whole : is_large v1.bulge ≡ false → Sound v1 v2 0 → EndsFine v1 v2
  by_whole whole s =
      record {
        start = s.start.point;
        bulge = small-bulge v1.bulge s.start.bulge;
        end = s.end;
        segment = record {
          cut = λ e. absurd (true≢false (sym e ∙ whole));
          whole = λ e. (arc-fine v1 v2 0 0).0 s.arc;
        };
      }

  pub quick : (h : Halves) → h ≡ starts v1 v2 → T (parts_fine v1 v2 h) → EndsFine v1 v2
  unfolding starts parts_fine halve
  quick h e t = go (is_large v1.bulge) refl h e t
    where
      go : (large : Bool) → is_large v1.bulge ≡ large → (h : Halves)
          → h ≡ cond large (halve v1 v2) (record { first = v1; second = v2 })
          → T (cond large
          (inside Limit.large_bulge v1.bulge && (segment_fine h.first h.second && segment_fine h.second v2))
          (segment_fine v1 v2))
          → EndsFine v1 v2
      go true l h e t =
          let a = inside Limit.large_bulge v1.bulge in
          let f = segment_fine h.first h.second in
          let s = segment_fine h.second v2 in
          let both = and_r a (f && s) t in
          by-halves l (of-large-bulge v1.bulge (and_l a (f && s) t))
          (subst (λ (k : Halves). Sound k.first k.second 0) e (of-segment h.first h.second 0 (and_l f s both)))
          (subst (λ (k : Halves). Sound k.second v2 0) e (of-segment h.second v2 0 (and_r f s both)))
      go false l h e t = by_whole l (of-segment v1 v2 0 t)

-- all numbers of the pair
pub quick-pair : (v1 v2 u1 u2 : PlineVertex) (v u : Halves) (pos_equal_eps : Float) → v ≡ starts v1 v2 → u ≡ starts u1 u2
    → T (epsilon_fine pos_equal_eps && (parts_fine v1 v2 v && parts_fine u1 u2 u))
    → first (large_pair_checks v1 v2 u1 u2 pos_equal_eps) ≡ Ok tt
quick-pair v1 v2 u1 u2 v u pos_equal_eps ev eu t =
    let a = epsilon_fine pos_equal_eps in
    let f = parts_fine v1 v2 v in
    let s = parts_fine u1 u2 u in
    let both = and_r a (f && s) t in
    (pair-listed v1 v2 u1 u2 pos_equal_eps).1 (record {
      epsilon = of-epsilon pos_equal_eps (and_l a (f && s) t);
      v = quick v1 v2 v ev (and_l f s both);
      u = quick u1 u2 u eu (and_r f s both);
    })

-- as the code makes the tests
pub by_tests : (v1 v2 u1 u2 : PlineVertex) (v u : Halves) (pos_equal_eps : Float) {a b c : Bool}
    → v ≡ starts v1 v2 → u ≡ starts u1 u2
    → a ≡ epsilon_fine pos_equal_eps → b ≡ parts_fine v1 v2 v → c ≡ parts_fine u1 u2 u → (a && (b && c)) ≡ true
    → first (large_pair_checks v1 v2 u1 u2 pos_equal_eps) ≡ Ok tt
by_tests v1 v2 u1 u2 v u pos_equal_eps ev eu ea eb ec all =
    quick-pair v1 v2 u1 u2 v u pos_equal_eps ev eu (rw (← ea, ← eb, ← ec) (passes _ all))

-- ---- every part passes
-- a segment that passes the checks of the old mode, at its place in a pair
at_place : (a b : PlineVertex) (owner : ℕ) → cut.Sound a b → Sound a b owner
at_place a b owner s = record { start = s.start; end = s.end; arc = (arc-fine a b owner 0).1 s.arc }

module _ (v1 v2 : PlineVertex) (fine : EndsFine v1 v2) (owner : ℕ) where
  pub whole-sound : is_large v1.bulge ≡ false → Sound v1 v2 owner
  whole-sound e = at_place v1 v2 owner (cut.whole-sound v1 v2 fine.start fine.bulge fine.end fine.segment e)

  halves-sound : is_large v1.bulge ≡ true → cut.BothSound v1 v2
  halves-sound e = cut.halves-sound v1 v2 fine.start fine.bulge fine.end fine.segment e

  pub first-sound : is_large v1.bulge ≡ true → Sound (bent v1) (cut_vertex v1 v2) owner
  first-sound e = at_place (bent v1) (cut_vertex v1 v2) owner (halves-sound e).first

  pub second-sound : is_large v1.bulge ≡ true → Sound (cut_vertex v1 v2) v2 owner
  second-sound e = at_place (cut_vertex v1 v2) v2 owner (halves-sound e).second

-- ---- a pair that the pair call's quick test finds fine is not cut
pub record QuickWhole (v1 v2 u1 u2 : PlineVertex) (pos_equal_eps : Float) : Type 0 where
  pub v-whole : is_large v1.bulge ≡ false
  pub u-whole : is_large u1.bulge ≡ false
  pub checked : first (large_pair_checks v1 v2 u1 u2 pos_equal_eps) ≡ Ok tt

small-not-large : (b : Float) → Within Limit.bulge b → is_large b ≡ false
unfolding is_large
small-not-large b w = is_false (F64.abs b ≻ f1) (order.le_not_lt (F64.abs b) f1 w.small)

pub quick-whole : (v1 v2 u1 u2 : PlineVertex) (pos_equal_eps : Float) → T (pair_fine v1 v2 u1 u2 pos_equal_eps)
    → QuickWhole v1 v2 u1 u2 pos_equal_eps
unfolding pair_fine
quick-whole v1 v2 u1 u2 pos_equal_eps t =
    let a = epsilon_fine pos_equal_eps in
    let f = segment_fine v1 v2 in
    let s = segment_fine u1 u2 in
    let both = and_r a (f && s) t in
    let v = of-segment v1 v2 0 (and_l f s both) in
    let u = of-segment u1 u2 0 (and_r f s both) in
    let v-whole = small-not-large v1.bulge v.start.bulge in
    let u-whole = small-not-large u1.bulge u.start.bulge in
    record {
      v-whole = v-whole;
      u-whole = u-whole;
      checked = (pair-listed v1 v2 u1 u2 pos_equal_eps).1 (record {
        epsilon = of-epsilon pos_equal_eps (and_l a (f && s) t);
        v = by_whole v1 v2 v-whole v;
        u = by_whole u1 u2 u-whole u;
      });
    }
