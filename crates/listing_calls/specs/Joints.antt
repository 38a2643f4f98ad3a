-- Neighbours in a self listing: when exactly a pair makes a row; that a pair which shares no vertex, and an overlap, makes one
-- whenever it meets; and that no such row is left out of a listing, boxed or not. A pair of one trace is passed over. What is
-- said of a pair is said of a path of n segments, for any n: the cut path of a large arc may have more than a call takes.
use Rattle.std.proofs.Math.Path.{◌≡◌, refl}
use Rattle.std.proofs.Common.{sym, ap, subst, ◌∙◌, arith, length-append}
use Rattle.std.specs.Prelude.{Bool, ◌&&◌, ◌||◌, ◌↔◌, ◌⊎◌, List, [], ◌∷◌, ◌++◌, Float, length}
use Rattle.std.proofs.Math.Bool.{true, false, cond, true≢false}
use Rattle.std.proofs.Math.Logic.{inl, inr}
use Prim.Native.Nat.{ℕ, zero, suc, ◌+◌, ◌<◌, zero-le}
use Rattle.plane.specs.declared.vector2.Vector2.{Vector2}
use Rattle.plane.specs.PlineVertex.{pos}
use Rattle.plane.specs.Vector2.{fuzzy_eq_eps}
use Rattle.checks.specs.First.{first as first_fault}
use Rattle.crossing.specs.PlineSegIntr.{class_of}
use Rattle.arcs.specs.declared.pline_seg_intr.PlineSegIntr.{PlineSegIntr}
use Rattle.arcs.specs.declared.pline_seg_intr.PlineSegIntr.TheVariants.{
  NoIntersect,
  TangentIntersect,
  OneIntersect,
  TwoIntersects,
  OverlappingLines,
  OverlappingArcs,
}
use Rattle.paths.specs.Path.{vertex}
use Rattle.paths.specs.Segments.{segment_count}
use Rattle.boxes.specs.Index.{index}
use Rattle.listing_pairs.specs.declared.row.Look.{Look}
use Rattle.listing_pairs.specs.declared.row.Look.TheVariants.{Skipped, Nothing, Made}
use Rattle.listing_pairs.specs.Row.{row, unless_apart, look_of}
use Rattle.listing_pairs.specs.Order.{self_pairs}
use Rattle.listing_pairs.specs.Look.{self_look_of, traced_self_look}
use Rattle.listing_pairs.specs.Traces.{one_trace, traced}
use Rattle.listing_pairs.specs.Boxed.{boxes_meet, boxed_pairs}
use Rattle.listing_pairs.specs.Neighbours.{shared_vertices, near_some, only_at, at_joint}
use Rattle.listing_outcomes.specs.Answer.{Listed}
use Rattle.listing_outcomes.specs.Outcome.{outcome}
use Rattle.listing_outcomes.specs.BoxedOutcome.{boxed_outcome}
use Rattle.listing_calls.specs.Listing.{self_checks, self_listing}
use Rattle.listing_calls.specs.Boxed.{self_boxed}
use Rattle.listing_calls.specs.Refusals.{all}
use Rattle.listing_calls.specs.BoxedRefusals.{boxed_checks}
use Rattle.listing_calls.specs.HasRow.{HasRow}
use Rattle.listing_calls.specs.Complete.{pair_of, listed-row-of}
use Rattle.listing_calls.specs.Laws.Complete.{Within, pairs-have, those-have}

-- ---- the rule, in types: the pair is tangent, or meets in one point or in two, and each of its points is near
abbrev pub EachNear : (Vector2 → Bool) → PlineSegIntr → Type 0
EachNear near NoIntersect = ⊥
EachNear near (TangentIntersect p) = near p ≡ true
EachNear near (OneIntersect p) = near p ≡ true
EachNear near (TwoIntersects p q) = (near p ≡ true) × (near q ≡ true)
EachNear near (OverlappingLines p q) = ⊥
EachNear near (OverlappingArcs p q) = ⊥

both : (a b : Bool) → ((a && b) ≡ true) ↔ ((a ≡ true) × (b ≡ true))
both true b = (λ e. (refl, e), λ h. h.1)
both false b = (λ e. absurd (true≢false (sym e)), λ h. absurd (true≢false (sym h.0)))

never : (false ≡ true) ↔ ⊥
never = (λ e. true≢false (sym e), λ z. absurd z)

pub only-at-when : (near : Vector2 → Bool) (m : PlineSegIntr) → (only_at near m ≡ true) ↔ EachNear near m
unfolding only_at
only-at-when near NoIntersect = never
only-at-when near (TangentIntersect p) = (λ e. e, λ e. e)
only-at-when near (OneIntersect p) = (λ e. e, λ e. e)
only-at-when near (TwoIntersects p q) = both (near p) (near q)
only-at-when near (OverlappingLines p q) = never
only-at-when near (OverlappingArcs p q) = never

-- near some vertex of a list: there is one, and the point is near it in each coordinate
pub near-some-when : (path : List Float) (epsilon : Float) (ks : List ℕ) (p : Vector2)
    → (near_some path epsilon ks p ≡ true)
    ↔ ((k : ℕ) × Within k ks × (fuzzy_eq_eps p (pos (vertex path k)) epsilon ≡ true))
near-some-when path epsilon [] p = (λ e. absurd (true≢false (sym e)), λ h. absurd (none h.1))
  where
    none : {k : ℕ} → Within k [] → ⊥
    none {k} w = omega (arith, ap length w.is, length-append w.before (k ∷ w.after))
near-some-when path epsilon (k ∷ ks) p = (
  forth (fuzzy_eq_eps p (pos (vertex path k)) epsilon) refl (near-some-when path epsilon ks p).0,
  λ h. back h.0 h.1 h.2 (λ w. (near-some-when path epsilon ks p).1 (h.0, w, h.2)),
)
  where
    forth : (b : Bool) → fuzzy_eq_eps p (pos (vertex path k)) epsilon ≡ b
        → (near_some path epsilon ks p ≡ true → (m : ℕ) × Within m ks × (fuzzy_eq_eps p (pos (vertex path m)) epsilon ≡ true))
        → (b || near_some path epsilon ks p) ≡ true
        → (m : ℕ) × Within m (k ∷ ks) × (fuzzy_eq_eps p (pos (vertex path m)) epsilon ≡ true)
    forth true is later e = (k, record { before = []; after = ks; is = refl }, is)
    forth false is later e =
        let h = later e in
        (h.0, record { before = k ∷ h.1.before; after = h.1.after; is = ap (λ (l : List ℕ). k ∷ l) h.1.is }, h.2)

    back : (m : ℕ) → Within m (k ∷ ks) → fuzzy_eq_eps p (pos (vertex path m)) epsilon ≡ true
        → (Within m ks → near_some path epsilon ks p ≡ true)
        → (fuzzy_eq_eps p (pos (vertex path k)) epsilon || near_some path epsilon ks p) ≡ true
    back m w near later = at w.before w.after w.is
      where
        at : (before after : List ℕ) → k ∷ ks ≡ before ++ m ∷ after
            → (fuzzy_eq_eps p (pos (vertex path k)) epsilon || near_some path epsilon ks p) ≡ true
        at [] after e =
            let same : k ≡ m = cc in
            ap (λ (b : Bool). b || near_some path epsilon ks p)
            (ap (λ (n : ℕ). fuzzy_eq_eps p (pos (vertex path n)) epsilon) same ∙ near)
        at (x ∷ before) after e =
            let rest : ks ≡ before ++ m ∷ after = cc in
            ap (λ (b : Bool). fuzzy_eq_eps p (pos (vertex path k)) epsilon || b)
            (later (record { before = before; after = after; is = rest }))
            ∙ or-true (fuzzy_eq_eps p (pos (vertex path k)) epsilon)
          where
            or-true : (b : Bool) → (b || true) ≡ true
            or-true true = refl
            or-true false = refl

-- ---- one pair of a path of n segments
module _ (n : ℕ) (path : List Float) (closed : Bool) (epsilon : Float) (i j : ℕ) where
  -- how segments i and j meet, and which vertices they share
  abbrev pub met : PlineSegIntr
  met = pair_of path path epsilon i j

  abbrev pub shared : List ℕ
  shared = shared_vertices n closed i j

  -- it makes a row, or it makes none and is looked at all the same
  abbrev pub AtJoint : Type 0
  AtJoint = EachNear (near_some path epsilon shared) met

  abbrev silent : Bool
  silent = at_joint path closed n epsilon i j met

  silent-when : (silent ≡ true) ↔ AtJoint
  unfolding at_joint
  silent-when = only-at-when (near_some path epsilon shared) met

  -- ---- if the pair is looked at: no row exactly if the two are apart or at a joint
  silent-pair : (self_look_of n path closed epsilon i j ≡ Nothing) ↔ ((class_of met ≡ 0) ⊎ AtJoint)
  unfolding self_look_of look_of
  silent-pair = (forth (class_of met) silent refl refl, back)
    where
      forth : (class : ℕ) (b : Bool) → class_of met ≡ class → silent ≡ b
          → cond b Nothing (unless_apart class (row i j met)) ≡ Nothing → (class_of met ≡ 0) ⊎ AtJoint
      forth class true e f h = inr (silent-when.0 f)
      forth zero false e f h = inl e
      forth (suc class) false e f h = let z : ◌≡◌ {A = ℕ} 0 1 = cc in absurd (omega (arith, z))

      back : (class_of met ≡ 0) ⊎ AtJoint → cond silent Nothing (unless_apart (class_of met) (row i j met)) ≡ Nothing
      back (inl e) = go silent (class_of met) e
        where
          go : (b : Bool) (class : ℕ) → class ≡ 0 → cond b Nothing (unless_apart class (row i j met)) ≡ Nothing
          go true class e = refl
          go false zero e = refl
          go false (suc class) e = absurd (omega (arith, e))
      back (inr h) = rw (silent-when.1 h) refl

  -- a row exactly if they meet, and not only at a joint
  row-pair : (self_look_of n path closed epsilon i j ≡ Made (row i j met)) ↔ ((0 < class_of met) × (AtJoint → ⊥))
  unfolding self_look_of look_of
  row-pair = (forth (class_of met) silent refl refl, back)
    where
      forth : (class : ℕ) (b : Bool) → class_of met ≡ class → silent ≡ b
          → cond b Nothing (unless_apart class (row i j met)) ≡ Made (row i j met) → (0 < class_of met) × (AtJoint → ⊥)
      forth class true e f h = let z : ◌≡◌ {A = ℕ} 0 1 = cc in absurd (omega (arith, z))
      forth zero false e f h = let z : ◌≡◌ {A = ℕ} 0 1 = cc in absurd (omega (arith, z))
      forth (suc class) false e f h = (omega (arith, e), λ a. true≢false (sym (silent-when.1 a) ∙ f))

      back : (0 < class_of met) × (AtJoint → ⊥)
          → cond silent Nothing (unless_apart (class_of met) (row i j met)) ≡ Made (row i j met)
      back h = go silent refl (class_of met) h.0
        where
          go : (b : Bool) → silent ≡ b → (class : ℕ) → 0 < class
              → cond b Nothing (unless_apart class (row i j met)) ≡ Made (row i j met)
          go true f class l = absurd (h.1 (silent-when.0 f))
          go false f zero l = absurd (omega (arith, l))
          go false f (suc class) l = refl

  -- ---- in a listing: a pair of one trace is skipped, and any other is as above
  abbrev pub in_listing : Look
  in_listing = traced path path (self_look_of n path closed epsilon) i j

  abbrev pub OneTrace : Bool
  OneTrace = one_trace path path (record { i = i; j = j })

  split : {P : Type 0} (s r : Look) → (Skipped ≡ r → ⊥) → ((s ≡ r) ↔ P) → (b : Bool) → (cond b Skipped s ≡ r) ↔ (P × (b ≡ false))
  split s r unlike when true = (λ e. absurd (unlike e), λ h. absurd (true≢false h.1))
  split s r unlike when false = (λ e. (when.0 e, refl), λ h. when.1 h.0)

  pub skipped-when : (in_listing ≡ Skipped) ↔ (OneTrace ≡ true)
  unfolding traced self_look_of look_of
  skipped-when = go OneTrace silent (class_of met)
    where
      clash : {A : Type 0} {s : Look} → s ≡ Nothing → s ≡ Skipped → A
      clash e f = let z : ◌≡◌ {A = ℕ} 0 1 = cc in absurd (omega (arith, z))

      made : {A : Type 0} {s : Look} → s ≡ Made (row i j met) → s ≡ Skipped → A
      made e f = let z : ◌≡◌ {A = ℕ} 0 1 = cc in absurd (omega (arith, z))

      go : (b c : Bool) (class : ℕ) → (cond b Skipped (cond c Nothing (unless_apart class (row i j met))) ≡ Skipped) ↔ (b ≡ true)
      go true c class = (λ e. refl, λ e. refl)
      go false true class = (λ e. clash refl e, λ e. absurd (true≢false (sym e)))
      go false false zero = (λ e. clash refl e, λ e. absurd (true≢false (sym e)))
      go false false (suc class) = (λ e. made refl e, λ e. absurd (true≢false (sym e)))

  -- it is looked at and makes no row exactly if the two are apart or at a joint
  pub no-row-when : (in_listing ≡ Nothing) ↔ (((class_of met ≡ 0) ⊎ AtJoint) × (OneTrace ≡ false))
  unfolding traced
  no-row-when =
      split (self_look_of n path closed epsilon i j) Nothing (λ e. let z : ◌≡◌ {A = ℕ} 0 1 = cc in omega (arith, z)) silent-pair
      OneTrace

  -- it makes a row exactly if they meet, and not only at a joint
  pub row-when : (in_listing ≡ Made (row i j met)) ↔ (((0 < class_of met) × (AtJoint → ⊥)) × (OneTrace ≡ false))
  unfolding traced
  row-when =
      split (self_look_of n path closed epsilon i j) (Made (row i j met))
      (λ e. let z : ◌≡◌ {A = ℕ} 0 1 = cc in omega (arith, z)) row-pair OneTrace

  -- a pair that shares no vertex is never at a joint, and neither is an overlap
  pub no-neighbours : shared ≡ [] → AtJoint → ⊥
  no-neighbours none h = go met (subst (λ (ks : List ℕ). EachNear (near_some path epsilon ks) met) none h)
    where
      go : (m : PlineSegIntr) → EachNear (near_some path epsilon []) m → ⊥
      go NoIntersect z = z
      go (TangentIntersect p) z = true≢false (sym z)
      go (OneIntersect p) z = true≢false (sym z)
      go (TwoIntersects p q) z = true≢false (sym z.0)
      go (OverlappingLines p q) z = z
      go (OverlappingArcs p q) z = z

  pub overlaps : 3 < class_of met → AtJoint → ⊥
  overlaps = go met
    where
      go : (m : PlineSegIntr) → 3 < class_of m → EachNear (near_some path epsilon shared) m → ⊥
      go NoIntersect l z = z
      go (TangentIntersect p) l z = omega (arith, l)
      go (OneIntersect p) l z = omega (arith, l)
      go (TwoIntersects p q) l z = omega (arith, l)
      go (OverlappingLines p q) l z = z
      go (OverlappingArcs p q) l z = z

-- ---- a listing: no such row is left out
-- every i < j is one of the pairs
pub own_pair : (n i j : ℕ) → i < j → j < n → Within (record { i = i; j = j }) (self_pairs n)
own_pair n i j order last =
    pairs-have (λ i. i + 1) (λ i. n) i j n 0 zero-le (omega (arith, order, last)) (omega (arith, order)) last

module _ (path : List Float) (closed : Bool) (epsilon : Float) (rows pairs i j : ℕ) (order : i < j)
    (last : j < segment_count path closed) (meets : 0 < class_of (pair_of path path epsilon i j))
    (elsewhere : AtJoint (segment_count path closed) path closed epsilon i j → ⊥)
    (other : one_trace path path (record { i = i; j = j }) ≡ false) where
  here : Within (record { i = i; j = j }) (self_pairs (segment_count path closed))
  here = own_pair (segment_count path closed) i j order last

  made : traced_self_look path closed epsilon i j ≡ Made (row i j (pair_of path path epsilon i j))
  made = (row-when (segment_count path closed) path closed epsilon i j).1 ((meets, elsewhere), other)

  pub self-complete : (indices : List ℕ) (points : List Float)
      → (self_listing path closed epsilon indices points).answer ≡ Listed rows pairs
      → HasRow rows (self_listing path closed epsilon indices points).indices i j
  unfolding self_listing outcome
  self-complete indices points e =
      let f = traced_self_look path closed epsilon in
      let ps = self_pairs (segment_count path closed) in
      listed-row-of (first_fault (all (self_checks path closed epsilon) f ps indices points)) f ps indices points rows pairs i j
      (pair_of path path epsilon i j) e here made

  pub self-boxed-complete : boxes_meet path path epsilon (record { i = i; j = j }) ≡ true
      → (boxes : List Float) (indices : List ℕ) (points : List Float)
      → (self_boxed path closed epsilon boxes indices points).listing.answer ≡ Listed rows pairs
      → HasRow rows (self_boxed path closed epsilon boxes indices points).listing.indices i j
  unfolding self_boxed boxed_outcome
  self-boxed-complete boxed boxes indices points e =
      let f = traced_self_look path closed epsilon in
      let n = segment_count path closed in
      let ps = boxed_pairs path path epsilon (self_pairs n) in
      let idx = index path epsilon n in
      listed-row-of (first_fault (boxed_checks (self_checks path closed epsilon) f ps idx boxes indices points)) f ps indices points
      rows pairs i j (pair_of path path epsilon i j) e
      (those-have (boxes_meet path path epsilon) (record { i = i; j = j }) (self_pairs n) boxed here) made
