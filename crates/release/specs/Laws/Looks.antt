-- What a pair of segments of accepted paths gives in a listing: a good row, if it makes one. A path is given with the count of
-- its segments, so that this serves both modes: the cut path has a count of its own.
use Rattle.checks.specs.Checked.{Checked}
use Rattle.std.specs.Prelude.{◌≡◌, Bool, true, false, cond, List, [], ◌∷◌, ◌++◌, ℕ, zero, suc, ◌<◌, Float, Ok}
use Rattle.std.proofs.Math.Logic.Iff
use Rattle.checks.specs.Each as each
use Rattle.checks.specs.Fault.{later}
use Rattle.checks.specs.First.{first as first_fault}
use Rattle.checks.specs.Laws.Later.{then-fine, alone-fine}
use Rattle.checks.specs.Laws.Fine.{epsilon-fine}
use Rattle.checks.specs.Laws.Chains.{PointFine, VertexFine, append-fine}
use Rattle.crossing.specs.PlineSeg.{pline_seg}
use Rattle.crossing.specs.PlineSegIntr.{class_of}
use Rattle.paths.specs.declared.path.Segment.{Segment}
use Rattle.paths.specs.Segments.{segment_from, segment_count}
use Rattle.paths.specs.Check.{path_checks, check_path}
use Rattle.paths.specs.Laws.Fine.{path-fine, segment-fine}
use Rattle.cuts.specs.CutPath.{cut_path, cut_count}
use Rattle.cuts.specs.LargeChecks.{large_path_checks}
use Rattle.cuts.specs.Laws.Fine.{path-listed}
use Rattle.cuts.specs.Laws.Sound.{path-sound}
use Rattle.listing_pairs.specs.declared.row.Row.{Row}
use Rattle.listing_pairs.specs.declared.row.Look.{Look}
use Rattle.listing_pairs.specs.declared.row.Look.TheVariants.{Skipped, Nothing}
use Rattle.listing_pairs.specs.Row.{row, unless_apart, look_of}
use Rattle.listing_pairs.specs.Order.{Pair}
use Rattle.listing_pairs.specs.Look.{look, self_look_of, traced_look}
use Rattle.listing_pairs.specs.Neighbours.{at_joint}
use Rattle.listing_pairs.specs.Traces.{one_trace, traced}
use Rattle.finite.specs.Doubles.{Epsilon}
use Rattle.release.specs.Release.{GoodRow}
use Rattle.release.specs.Laws.Pair.{pair-good}
use Rattle.release.specs.Laws.Rows.{Inside, GoodLook}

-- ---- a path whose first n segments have accepted ends
pub record Ends (s : Segment) : Type 0 where
  pub start : VertexFine s.v1.x s.v1.y s.v1.bulge
  pub end : PointFine s.v2.x s.v2.y

abbrev pub Sound : List Float → ℕ → Type 0
Sound path n = (k : ℕ) → k < n → Ends (segment_from path k)

pub old-sound : (path : List Float) (closed : Bool) (owner : ℕ) → first_fault (path_checks path closed owner) ≡ Ok tt
    → Sound path (segment_count path closed)
unfolding check_path later
old-sound path closed owner e k h =
    let s = segment-fine path closed ((path-fine (Ok tt) path closed owner).0 e).1 k h in
    record { start = s.start; end = s.end.point }

pub cut-sound : (path : List Float) (closed : Bool) (owner : ℕ) → first_fault (large_path_checks path closed owner) ≡ Ok tt
    → Sound (cut_path path closed) (cut_count path closed)
cut-sound path closed owner e k h =
    let s = (path-sound path closed ((path-listed path closed owner).0 e) k h).sound in
    record { start = s.start; end = s.end }

-- ---- one pair
made : (P : Row → Type 0) (class : ℕ) (r : Row) → P r → GoodLook P (unless_apart class r)
made P zero r h = tt
made P (suc class) r h = h

either : (P : Row → Type 0) (b : Bool) (s t : Look) → GoodLook P s → GoodLook P t → GoodLook P (cond b s t)
either P true s t a b = a
either P false s t a b = b

module _ (first second : List Float) (n m : ℕ) (eps : Float) (A : Sound first n) (B : Sound second m) (E : Epsilon eps) where
  pair_row : (i j : ℕ) → i < n → j < m
      → (let v = segment_from first i in
      let u = segment_from second j in
      GoodRow first n second m (row i j (pline_seg v.v1 v.v2 u.v1 u.v2 eps)))
  pair_row i j hi hj =
      let v = segment_from first i in
      let u = segment_from second j in
      record {
        of-first = hi;
        of-second = hj;
        good = pair-good v.v1 v.v2 u.v1 u.v2 eps (A i hi).start (A i hi).end (B j hj).start (B j hj).end E;
      }

  looked : (i j : ℕ) → i < n → j < m → GoodLook (GoodRow first n second m) (look first second eps i j)
  unfolding look look_of
  looked i j hi hj =
      let v = segment_from first i in
      let u = segment_from second j in
      let met = pline_seg v.v1 v.v2 u.v1 u.v2 eps in
      made (GoodRow first n second m) (class_of met) (row i j met) (pair_row i j hi hj)

  traced-good : (f : ℕ → ℕ → Look) → ((i j : ℕ) → i < n → j < m → GoodLook (GoodRow first n second m) (f i j))
      → (p : Pair) → Inside n m p → GoodLook (GoodRow first n second m) (traced first second f p.i p.j)
  unfolding traced
  traced-good f h p q =
      either (GoodRow first n second m) (one_trace first second p) Skipped (f p.i p.j) tt (h p.i p.j q.0 q.1)

  pub mutual-good : (p : Pair) → Inside n m p → GoodLook (GoodRow first n second m) (traced_look first second eps p.i p.j)
  mutual-good = traced-good (look first second eps) looked

module _ (path : List Float) (n : ℕ) (closed : Bool) (eps : Float) (A : Sound path n) (E : Epsilon eps) where
  self-looked : (i j : ℕ) → i < n → j < n → GoodLook (GoodRow path n path n) (self_look_of n path closed eps i j)
  unfolding self_look_of look_of
  self-looked i j hi hj =
      let v = segment_from path i in
      let u = segment_from path j in
      let met = pline_seg v.v1 v.v2 u.v1 u.v2 eps in
      either (GoodRow path n path n) (at_joint path closed n eps i j met) Nothing (unless_apart (class_of met) (row i j met)) tt
      (made (GoodRow path n path n) (class_of met) (row i j met) (pair_row path path n n eps A A E i j hi hj))

  pub self-good : (p : Pair) → Inside n n p
      → GoodLook (GoodRow path n path n) (traced path path (self_look_of n path closed eps) p.i p.j)
  self-good = traced-good path path n n eps A A E (self_look_of n path closed eps) self-looked

-- ---- what the checks say: epsilon, the lengths, then the paths
pub record TwoFine (first second : List Checked) (eps : Float) : Type 0 where
  pub epsilon : Epsilon eps
  pub one : first_fault first ≡ Ok tt
  pub two : first_fault second ≡ Ok tt

pub two-fine : (eps : Float) (s t : Checked) (cs ds : List Checked)
    → first_fault ((each.epsilon eps ∷ s ∷ t ∷ []) ++ cs ++ ds) ≡ Ok tt → TwoFine cs ds eps
two-fine eps s t cs ds e =
    let c0 : List Checked = each.epsilon eps ∷ s ∷ t ∷ [] in
    let f0 = then-fine (epsilon-fine eps) (then-fine Iff.rfl (alone-fine Iff.rfl)) in
    let f1 = append-fine c0 cs f0 Iff.rfl in
    let g = (append-fine (c0 ++ cs) ds f1 Iff.rfl).0 e in
    record { epsilon = g.0.0.0; one = g.0.1; two = g.1 }

pub record OneFine (path : List Checked) (eps : Float) : Type 0 where
  pub epsilon : Epsilon eps
  pub one : first_fault path ≡ Ok tt

pub one-fine : (eps : Float) (s : Checked) (cs : List Checked) → first_fault ((each.epsilon eps ∷ s ∷ []) ++ cs) ≡ Ok tt
    → OneFine cs eps
one-fine eps s cs e =
    let c0 : List Checked = each.epsilon eps ∷ s ∷ [] in
    let f0 = then-fine (epsilon-fine eps) (alone-fine Iff.rfl) in
    let g = (append-fine c0 cs f0 Iff.rfl).0 e in
    record { epsilon = g.0.0; one = g.1 }
