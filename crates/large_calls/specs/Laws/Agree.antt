-- The checks of both modes agree, but for refusal 3 of the old one: if its first fault is another, or if there is none, so it
-- is in the mode of large arcs. If there is none, no bulge is above 1 in magnitude.
use Rattle.checks.specs.Checked.{Checked}
use Rattle.std.specs.Prelude.{◌≡◌, refl, Bool, true, false, not, List, [], ◌∷◌, ◌++◌, ℕ, zero, suc, ◌+◌, ◌*◌, ◌%◌, ◌≤◌, ◌<◌, eqb, Float, length, Err, Ok}
use Rattle.std.proofs.Common.{sym, ap, ◌∙◌, subst, true≢false, arith, eqb-true}
use Rattle.std.proofs.Math.Logic.Iff
use Rattle.std.specs.Float.Ieee.{lt}
use Rattle.floats.specs.Ops.{f1}
use Rattle.floats.specs.F64
use Rattle.checks.specs.declared.fault.Item.TheVariants.{Bulge, Trace}
use Rattle.checks.specs.declared.fault.Place.{Place}
use Rattle.checks.specs.declared.fault.Fault.{Fault}
use Rattle.checks.specs.Fault.{at, refuse, later}
use Rattle.checks.specs.First.{first as first_fault}
use Rattle.checks.specs.Each
use Rattle.checks.specs.Limit
use Rattle.checks.specs.Lists as lists
use Rattle.checks.specs.Number.{beyond}
use Rattle.checks.specs.Refusal
use Rattle.checks.specs.Laws.Chains.{first-append}
use Rattle.checks.specs.Laws.Later.{fine-left, later-fine}
use Rattle.paths.specs.Path.{numbers_a_vertex, vertex_count, vertex, trace}
use Rattle.paths.specs.PathRefusals as table
use Rattle.paths.specs.Shape.{shape}
use Rattle.paths.specs.Segments.{segment_count}
use Rattle.paths.specs.Check.{along, path_checks}
use Rattle.paths.specs.Check as old
use Rattle.paths.specs.Laws.Along.{along-fine}
use Rattle.paths.specs.Laws.Fine.{vertex-fine}
use Rattle.cuts.specs.Cut.{is_large}
use Rattle.cuts.specs.LargeChecks.{large_path_checks}
use Rattle.cuts.specs.LargeChecks as large
use Rattle.listing_calls.specs.Listing.{mutual_checks, self_checks}
use Rattle.large_listings.specs.LargeListings.{mutual_large_checks, self_large_checks}
use Rattle.large_listings.specs.NoLarge.{Plain}
use Rattle.large_listings.specs.Laws.NoLarge.{not-larger, checks-same}
use Rattle.large_calls.specs.Workings.Answers.{of_bulge}

-- ---- two checks
abbrev pub over_bulge : Checked → Bool
over_bulge (Ok _) = false
over_bulge (Err fault) = of_bulge fault

abbrev pub Agree : Checked → Checked → Type 0
Agree before after = over_bulge before ≡ false → after ≡ before

agree_same : (c : Checked) → Agree c c
agree_same c e = refl

-- one after the other; the later ones need not agree behind a fault
agree-later : (a b c d : Checked) → Agree a b → (a ≡ Ok tt → Agree c d) → Agree (later a c) (later b d)
unfolding later
agree-later (Ok _) b c d p q e = ap (λ (x : Checked). later x d) (p refl) ∙ q refl e
agree-later (Err f) b c d p q e = ap (λ (x : Checked). later x d) (p e)

-- ---- lists of checks
abbrev pub AgreeAll : List Checked → List Checked → Type 0
AgreeAll cs ds = Agree (first_fault cs) (first_fault ds)

agree-append : (cs ds es fs : List Checked) → AgreeAll cs ds → (first_fault cs ≡ Ok tt → AgreeAll es fs)
    → AgreeAll (cs ++ es) (ds ++ fs)
agree-append cs ds es fs p q =
    rw (first-append cs es, first-append ds fs)
    (agree-later (first_fault cs) (first_fault ds) (first_fault es) (first_fault fs) p q)

-- ---- a bulge
agree-tests : (s t : Bool) (p : Place) → (s ≡ false → t ≡ false) → Agree (refuse s Refusal.bulge p) (refuse t Refusal.bulge p)
unfolding refuse
agree-tests true t p h e = absurd (true≢false e)
agree-tests false t p h e = ap (λ (b : Bool). refuse b Refusal.bulge p) (h refl)

agree-bulge : (b : Float) (p : Place) → Agree (Each.bulge b p) (Each.large_bulge b p)
unfolding Each.bulge Each.large_bulge Each.finite_then beyond
agree-bulge b p =
    agree-later (Each.finite b p) (Each.finite b p) (refuse (beyond Limit.bulge b) Refusal.bulge p)
    (refuse (beyond Limit.large_bulge b) Refusal.bulge p) (agree_same (Each.finite b p))
    (λ h. agree-tests (beyond Limit.bulge b) (beyond Limit.large_bulge b) p (not-larger (F64.abs b)))

-- ---- a path
agree-one : (c d : Checked) → Agree c d → AgreeAll (c ∷ []) (d ∷ [])
agree-one c d p = agree-later c d (Ok tt) (Ok tt) p (λ h. agree_same (Ok tt))

agree-vertex : (path : List Float) (owner i : ℕ) → AgreeAll (old.of_vertex path owner i) (large.of_vertex path owner i)
unfolding old.of_vertex large.of_vertex
agree-vertex path owner i =
    let v = vertex path i in
    let point = lists.point_checks v.x v.y owner i in
    let p = at owner i Bulge in
    let last : List Checked = Each.trace (trace path i) (at owner i Trace) ∷ [] in
    agree-append (point ++ (Each.bulge v.bulge p ∷ [])) (point ++ (Each.large_bulge v.bulge p ∷ [])) last last
    (agree-append point point (Each.bulge v.bulge p ∷ []) (Each.large_bulge v.bulge p ∷ []) (agree_same (first_fault point))
    (λ h. agree-one (Each.bulge v.bulge p) (Each.large_bulge v.bulge p) (agree-bulge v.bulge p)))
    (λ h. agree_same (first_fault last))

agree-along : (f g : ℕ → List Checked) → ((j : ℕ) → AgreeAll (f j) (g j)) → (i k : ℕ) → AgreeAll (along f i k) (along g i k)
agree-along f g each i zero = agree_same (Ok tt)
agree-along f g each i (suc k) =
    agree-append (f i) (g i) (along f (i + 1) k) (along g (i + 1) k) (each i) (λ h. agree-along f g each (i + 1) k)

-- an accepted bulge of the old mode
said-no : (b : Bool) (n : ℕ) (p : Place) → refuse b n p ≡ Ok tt → b ≡ false
unfolding refuse
said-no false n p e = refl
said-no true n p e = let z : ◌≡◌ {A = ℕ} 0 1 = cc in absurd (omega (arith, z))

fine-bulge : (b : Float) (p : Place) → Each.bulge b p ≡ Ok tt → is_large b ≡ false
unfolding is_large beyond Each.bulge Each.finite_then
fine-bulge b p e =
    said-no (beyond Limit.bulge b) Refusal.bulge p
    ((later-fine (Each.finite b p) (refuse (beyond Limit.bulge b) Refusal.bulge p)).0 e).1

module _ (path : List Float) (owner : ℕ) where
  fine-vertex : (i : ℕ) → first_fault (old.of_vertex path owner i) ≡ Ok tt → is_large (vertex path i).bulge ≡ false
  unfolding old.of_vertex
  fine-vertex i e =
      let v = vertex path i in
      let after-x = ((later-fine _ _).0 e).1 in
      let after-y = ((later-fine _ _).0 after-x).1 in
      fine-bulge v.bulge (at owner i Bulge) ((later-fine _ _).0 after-y).0

  fine-vertices : first_fault (old.vertex_checks path owner) ≡ Ok tt
      → (i : ℕ) → i < vertex_count path → is_large (vertex path i).bulge ≡ false
  fine-vertices e i h =
      fine-vertex i ((along-fine (old.of_vertex path owner) (vertex_count path) (λ j. Iff.rfl)).0 e i h)

  agree-path : (closed : Bool) → AgreeAll (path_checks path closed owner) (large_path_checks path closed owner)
  agree-path closed = go (first_fault (old.vertex_checks path owner)) refl
    where
      never : (f : Fault) → ◌≡◌ {A = Checked} (Ok tt) (Err f) → ⊥
      never f e = let z : ◌≡◌ {A = ℕ} 0 1 = cc in omega (arith, z)

      go : (c : Checked) → first_fault (old.vertex_checks path owner) ≡ c
          → AgreeAll (path_checks path closed owner) (large_path_checks path closed owner)
      go (Ok _) h = λ e. ap first_fault (checks-same path (fine-vertices h) owner closed)
      go (Err f) h =
          agree-append (old.vertex_checks path owner) (large.all_vertices path owner) (old.arc_checks path closed owner)
          (large.all_segments path closed owner)
          (agree-along (old.of_vertex path owner) (large.of_vertex path owner) (agree-vertex path owner) 0 (vertex_count path))
          (λ g. absurd (never f (sym g ∙ h)))

fine-both : (cs ds : List Checked) → first_fault (cs ++ ds) ≡ Ok tt → (first_fault cs ≡ Ok tt) × (first_fault ds ≡ Ok tt)
fine-both cs ds e = (later-fine (first_fault cs) (first_fault ds)).0 (sym (first-append cs ds) ∙ e)

fine-plain : (path : List Float) (closed : Bool) (owner : ℕ) → shape path owner ≡ Ok tt
    → first_fault (path_checks path closed owner) ≡ Ok tt → Plain path
fine-plain path closed owner s e =
    let whole : length path % numbers_a_vertex ≡ 0 =
    eqb-true (length path % numbers_a_vertex) 0 (denied (eqb (length path % numbers_a_vertex) 0)
    ((table.shape path owner).fine.0 s).0) in
    record {
      none = fine-vertices path owner (fine-both (old.vertex_checks path owner) (old.arc_checks path closed owner) e).0;
      whole = omega (arith, whole);
    }
  where
    denied : (b : Bool) → not b ≡ false → b ≡ true
    denied true e = refl
    denied false e = sym e

-- ---- the calls
module _ (first : List Float) (first_closed : Bool) (second : List Float) (second_closed : Bool) (epsilon : Float) where
  abbrev shapes : List Checked
  shapes = Each.epsilon epsilon ∷ shape first 0 ∷ shape second 1 ∷ []

  pub agree-mutual : AgreeAll (mutual_checks first first_closed second second_closed epsilon)
      (mutual_large_checks first first_closed second second_closed epsilon)
  agree-mutual =
      let one = path_checks first first_closed 0 in
      let two = large_path_checks first first_closed 0 in
      agree-append (shapes ++ one) (shapes ++ two) (path_checks second second_closed 1) (large_path_checks second second_closed 1)
      (agree-append shapes shapes one two (agree_same (first_fault shapes)) (λ h. agree-path first 0 first_closed))
      (λ h. agree-path second 1 second_closed)

  pub plain-mutual : first_fault (mutual_checks first first_closed second second_closed epsilon) ≡ Ok tt
      → Plain first × Plain second
  plain-mutual e =
      let one = path_checks first first_closed 0 in
      let all = fine-both (shapes ++ one) (path_checks second second_closed 1) e in
      let some = fine-both shapes one all.0 in
      let of-paths = ((later-fine _ _).0 some.0).1 in
      let of-first = (later-fine _ _).0 of-paths in (
        fine-plain first first_closed 0 of-first.0 some.1,
        fine-plain second second_closed 1 ((later-fine _ _).0 of-first.1).0 all.1,
      )

module _ (path : List Float) (closed : Bool) (epsilon : Float) where
  abbrev its_shape : List Checked
  its_shape = Each.epsilon epsilon ∷ shape path 0 ∷ []

  pub agree-self : AgreeAll (self_checks path closed epsilon) (self_large_checks path closed epsilon)
  agree-self =
      agree-append its_shape its_shape (path_checks path closed 0) (large_path_checks path closed 0)
      (agree_same (first_fault its_shape)) (λ h. agree-path path 0 closed)

  pub plain-self : first_fault (self_checks path closed epsilon) ≡ Ok tt → Plain path
  plain-self e =
      let all = fine-both its_shape (path_checks path closed 0) e in
      fine-plain path closed 0 ((later-fine _ _).0 ((later-fine _ _).0 all.0).1).0 all.1
