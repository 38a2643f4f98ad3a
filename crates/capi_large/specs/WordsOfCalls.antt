-- The word that a call returns for a refusal gives the fault back: for each call of the mode of large arcs, if its definition
-- refuses with the fault f, the word has f's number, item, owner and index in its parts. The number of results is no word.
use Rattle.checks.specs.Checked.{Checked}
use Rattle.std.specs.Prelude.{ℕ, ◌+◌, ◌<◌, ◌≡◌, refl, Bool, cond, ltb, length, Float, Err, Ok}
use Rattle.std.proofs.Common.{sym, subst, inl, inr, arith}
use Rattle.std.proofs.Math.Bool.{true, false}
use mathlib.Core.List.{List, [], ◌∷◌, ◌++◌}
use Rattle.plane.specs.declared.pline_vertex.PlineVertex.{PlineVertex}
use Rattle.checks.specs.declared.fault.Item.TheVariants.{X, Y, Bulge, Report}
use Rattle.checks.specs.declared.fault.Fault.{Fault}
use Rattle.checks.specs.Each
use Rattle.checks.specs.First as firsts
use Rattle.checks.specs.Lists.{point_checks}
use Rattle.checks.specs.ExactlyWhen.{no_number}
use Rattle.checks.specs.Fault.{at, refuse, whole}
use Rattle.checks.specs.Refusal
use Rattle.checks.specs.Words.{refused_in, Fits, parts, case-not-refused}
use Rattle.checks.specs.Laws.RefusalNumbers.{Small, fine, and, append, epsilon, coordinate, large-bulge}
use Rattle.capi.specs.WordsOfCalls.{Shown}
use Rattle.cuts.specs.LargeChecks.{vertex_checks, segment_checks}
use Rattle.cuts.specs.Laws.RefusalNumbers.{segment-small}
use Rattle.large_pair.specs.LargePair.{large_pair_checks, results_of, Result, by_checks, large_pair, refusal}
use Rattle.large_pair.specs.Results.{one-two-or-four}
use Rattle.large_pair.specs.Refusals.{short}
use Rattle.listing_pairs.specs.declared.row.Row.{Row}
use Rattle.listing_outcomes.specs.Answer.{Listed, ListingAnswer, Paged}
use Rattle.listing_outcomes.specs.Outcome.{Outcome}
use Rattle.checks.specs.declared.call.CallError.TheVariants.{NoRoom, Refused}
use Rattle.month.specs.Report.{words, full}
use Rattle.month.specs.Counted.{unchanged, report_check, counted_of, Answered}
use Rattle.month.specs.Laws.Cases.{same_answer}
use Rattle.large_outcomes.specs.LargeOutcome.{large_of, large_outcome, large_page_outcome, large_boxed_outcome}
use Rattle.large_listings.specs.LargeListings.{
  mutual_large,
  self_large,
  mutual_page_large,
  self_page_large,
  mutual_boxed_large,
  self_boxed_large,
  mutual_numbers,
  self_numbers,
  mutual_large_look,
  self_large_look,
  mutual_large_pairs,
  self_large_pairs,
}
use Rattle.large_outcomes.specs.LargeRow.{large_room}
use Rattle.listing_pairs.specs.Rows.{rows_of, looked_at}
use Rattle.listing_pairs.specs.Page.{page}
use Rattle.listing_pairs.specs.Boxed.{boxed_pairs}
use Rattle.cuts.specs.CutPath.{cut_path}
use lib.ListN.{drop}
use Rattle.large_counted.specs.LargeCounted.{mutual_large_rows, mutual_counted_large}
use Rattle.dxf_large.specs.Large.{import_large, export_large}
use Rattle.dxf_large.specs.Laws.RefusalNumbers.{import-fits, export-fits}
use Rattle.capi_large.specs.Laws.RefusalNumbers as laws

shown : {g f : Fault} → g ≡ f → Fits g → Shown f
shown {g} {f} e h = let k = subst Fits e h in record { fits = k; parts_are = parts f k }

-- ---- the pair
ends : (owner index : ℕ) → owner < 2 → index < 2 → (x y : Float) → Small (firsts.first (point_checks x y owner index))
ends owner index h k x y =
    and (coordinate x (at owner index X) (record { owner = omega (arith, h); index = omega (arith, k) }))
    (and (coordinate y (at owner index Y) (record { owner = omega (arith, h); index = omega (arith, k) })) fine)

vertex : (owner : ℕ) → owner < 2 → (v : PlineVertex) → Small (firsts.first (vertex_checks v.x v.y v.bulge owner 0))
vertex owner h v =
    let last : List Checked = Each.large_bulge v.bulge (at owner 0 Bulge) ∷ [] in
    append (point_checks v.x v.y owner 0) last (ends owner 0 h (omega arith) v.x v.y)
    (and (large-bulge v.bulge (at owner 0 Bulge) (record { owner = omega (arith, h); index = omega arith })) fine)

small : (v1 v2 u1 u2 : PlineVertex) (pos_equal_eps : Float) → Small (firsts.first (large_pair_checks v1 v2 u1 u2 pos_equal_eps))
small v1 v2 u1 u2 pos_equal_eps =
    let c0 : List Checked = Each.epsilon pos_equal_eps ∷ [] in
    let c1 = vertex_checks v1.x v1.y v1.bulge 0 0 in
    let c2 = point_checks v2.x v2.y 0 1 in
    let c3 = vertex_checks u1.x u1.y u1.bulge 1 0 in
    let c4 = point_checks u2.x u2.y 1 1 in
    let c5 = segment_checks v1 v2 0 0 in
    let c6 = segment_checks u1 u2 1 0 in
    let s1 = append c0 c1 (and (epsilon pos_equal_eps) fine) (vertex 0 (omega arith) v1) in
    let s2 = append (c0 ++ c1) c2 s1 (ends 0 1 (omega arith) (omega arith) v2.x v2.y) in
    let s3 = append (c0 ++ c1 ++ c2) c3 s2 (vertex 1 (omega arith) u1) in
    let s4 = append (c0 ++ c1 ++ c2 ++ c3) c4 s3 (ends 1 1 (omega arith) (omega arith) u2.x u2.y) in
    let s5 = append (c0 ++ c1 ++ c2 ++ c3 ++ c4) c5 s4 (segment-small v1 v2 0 0 (omega arith) (omega arith)) in
    append (c0 ++ c1 ++ c2 ++ c3 ++ c4 ++ c5) c6 s5 (segment-small u1 u2 1 0 (omega arith) (omega arith))

module _ (v1 v2 u1 u2 : PlineVertex) (pos_equal_eps : Float) (results : List ℕ) (points : List Float) where
  pub pair-large : (f : Fault) → (large_pair v1 v2 u1 u2 pos_equal_eps results points).answer ≡ Err (Refused f) → Shown f
  unfolding large_pair
  pair-large =
      go (short results points) (firsts.first (large_pair_checks v1 v2 u1 u2 pos_equal_eps)) (results_of v1 v2 u1 u2 pos_equal_eps)
      (small v1 v2 u1 u2 pos_equal_eps)
    where
      go : (s : Bool) (c : Checked) (found : List Result) → Small c → (f : Fault)
          → (cond s (record { answer = Err NoRoom; results = results; points = points }) (by_checks c found results points)
          ).answer ≡ Err (Refused f)
          → Shown f
      go true c found k f e = absurd (no_number cc)
      go false (Ok _) found k f e = absurd (no_number cc)
      go false (Err g) found k f e =
          let same : g ≡ f = cc in shown same (k.fits g refl)

  -- the number of results is no word
  pub count-not-refused : refused_in (length (results_of v1 v2 u1 u2 pos_equal_eps)) ≡ false
  count-not-refused =
      let n = length (results_of v1 v2 u1 u2 pos_equal_eps) in
      case-not-refused n
      (elim (one-two-or-four v1 v2 u1 u2 pos_equal_eps) [
        | inl e ↦ omega (arith, e)
        | inr more ↦ elim more [ inl e ↦ omega (arith, e) | inr e ↦ omega (arith, e) ]
      ])

-- ---- listings, boxed or not, and pages
module _ {A : Type 0} (refused : Fault → A) (same : (f g : Fault) → refused f ≡ refused g → f ≡ g) where
  of-large : (numbers : Row → List ℕ) (c : Checked) (answer : A) (rows : List Row) (i : List ℕ) (p : List Float) → Small c
      → ((f : Fault) → answer ≡ refused f → ⊥)
      → (f : Fault) → (large_of numbers refused c answer rows i p).answer ≡ refused f → Shown f
  of-large numbers (Ok _) answer rows i p k other f e = absurd (other f e)
  of-large numbers (Err g) answer rows i p k other f e = shown (same g f e) (k.fits g refl)

listing-other : {rows pairs : ℕ} (f : Fault) → Listed rows pairs ≡ Err f → ⊥
listing-other f e = no_number (sym cc)

page-other : {rows passed next all : ℕ} (f : Fault) → Paged rows passed next all ≡ Err f → ⊥
page-other f e = no_number (sym cc)

module _ (first : List Float) (first_closed : Bool) (second : List Float) (second_closed : Bool) (eps : Float)
    (i : List ℕ) (p : List Float) where
  pub mutual-large : (f : Fault) → (mutual_large first first_closed second second_closed eps i p).answer ≡ Err f
      → Shown f
  unfolding mutual_large large_outcome
  mutual-large =
      let look = mutual_large_look first first_closed second second_closed eps in
      let ps = mutual_large_pairs first first_closed second second_closed in
      let rows = rows_of look ps in
      of-large Err (λ f g e. cc) (mutual_numbers first first_closed second second_closed) _ (Listed (length rows) (looked_at look ps)) rows i p
      (laws.mutual-small _ i p first first_closed second second_closed eps) (λ f e. listing-other f e)

  pub mutual-page-large : (position budget : ℕ) (f : Fault)
      → (mutual_page_large first first_closed second second_closed eps position budget i p).answer ≡ Err f → Shown f
  unfolding mutual_page_large large_page_outcome
  mutual-page-large position budget =
      let look = mutual_large_look first first_closed second second_closed eps in
      let ps = mutual_large_pairs first first_closed second second_closed in
      let q = page look (drop position ps) (large_room i p) budget in
      of-large Err (λ f g e. cc) (mutual_numbers first first_closed second second_closed) _
      (Paged (length q.rows) q.passed (position + q.passed) (length ps)) q.rows i p
      (laws.mutual-page-small position _ budget i p first first_closed second second_closed eps) (λ f e. page-other f e)

  pub mutual-boxed-large : (b : List Float) (f : Fault)
      → (mutual_boxed_large first first_closed second second_closed eps b i p).listing.answer ≡ Err f → Shown f
  unfolding mutual_boxed_large large_boxed_outcome
  mutual-boxed-large b =
      let look = mutual_large_look first first_closed second second_closed eps in
      let ps = boxed_pairs (cut_path first first_closed) (cut_path second second_closed) eps (mutual_large_pairs first first_closed second second_closed) in
      let rows = rows_of look ps in
      of-large Err (λ f g e. cc) (mutual_numbers first first_closed second second_closed) _ (Listed (length rows) (looked_at look ps)) rows i p
      (laws.mutual-boxed-small _ b _ i p first first_closed second second_closed eps) (λ f e. listing-other f e)

module _ (path : List Float) (closed : Bool) (eps : Float) (i : List ℕ) (p : List Float) where
  pub self-large : (f : Fault) → (self_large path closed eps i p).answer ≡ Err f → Shown f
  unfolding self_large large_outcome
  self-large =
      let look = self_large_look path closed eps in
      let ps = self_large_pairs path closed in
      let rows = rows_of look ps in
      of-large Err (λ f g e. cc) (self_numbers path closed) _ (Listed (length rows) (looked_at look ps)) rows i p
      (laws.self-small _ i p path closed eps) (λ f e. listing-other f e)

  pub self-page-large : (position budget : ℕ) (f : Fault)
      → (self_page_large path closed eps position budget i p).answer ≡ Err f → Shown f
  unfolding self_page_large large_page_outcome
  self-page-large position budget =
      let look = self_large_look path closed eps in
      let ps = self_large_pairs path closed in
      let q = page look (drop position ps) (large_room i p) budget in
      of-large Err (λ f g e. cc) (self_numbers path closed) _
      (Paged (length q.rows) q.passed (position + q.passed) (length ps)) q.rows i p
      (laws.self-page-small position _ budget i p path closed eps) (λ f e. page-other f e)

  pub self-boxed-large : (b : List Float) (f : Fault)
      → (self_boxed_large path closed eps b i p).listing.answer ≡ Err f → Shown f
  unfolding self_boxed_large large_boxed_outcome
  self-boxed-large b =
      let look = self_large_look path closed eps in
      let ps = boxed_pairs (cut_path path closed) (cut_path path closed) eps (self_large_pairs path closed) in
      let rows = rows_of look ps in
      of-large Err (λ f g e. cc) (self_numbers path closed) _ (Listed (length rows) (looked_at look ps)) rows i p
      (laws.self-boxed-small _ b _ i p path closed eps) (λ f e. listing-other f e)

-- ---- a counted listing: 19, and what the listing refuses
nineteen : Shown (whole Refusal.report Report)
nineteen =
    shown refl (record { known = omega arith; number = omega arith; place = record { owner = omega arith; index = omega arith } })

of-counted : (short full : Bool) (listing : Outcome ListingAnswer) (rows : List Row) (i : List ℕ) (p : List Float) (w : List ℕ)
    → ((f : Fault) → listing.answer ≡ Err f → Shown f) → (f : Fault)
    → (cond short (unchanged (Err NoRoom) i p w) (counted_of (refuse full Refusal.report (at 0 0 Report)) listing rows i p w)
    ).listing.answer ≡ Answered (Err f)
    → Shown f
unfolding refuse
of-counted true full listing rows i p w of-listing f e = absurd (no_number cc)
of-counted false true listing rows i p w of-listing f e =
    let same : whole Refusal.report Report ≡ f = cc in subst Shown same nineteen
of-counted false false listing rows i p w of-listing f e = of-listing f (same_answer e)

pub mutual-counted-large : (first : List Float) (first_closed : Bool) (second : List Float) (second_closed : Bool) (eps : Float)
    (i : List ℕ) (p : List Float) (w : List ℕ) (f : Fault)
    → (mutual_counted_large first first_closed second second_closed eps i p w).listing.answer ≡ Answered (Err f)
    → Shown f
unfolding mutual_counted_large report_check
mutual-counted-large first first_closed second second_closed eps i p w =
    of-counted (ltb (length w) words) (full w) (mutual_large first first_closed second second_closed eps i p)
    (mutual_large_rows first first_closed second second_closed eps) i p w
    (mutual-large first first_closed second second_closed eps i p)

-- ---- imports and exports
pub dxf-import-large : (text : List ℕ) (old : List Float) (f : Fault) → (import_large text old).answer ≡ Err f → Shown f
dxf-import-large text old f e = shown refl (import-fits text old f e)

pub dxf-export-large : (path : List Float) (closed : Bool) (old : List ℕ) (f : Fault)
    → (export_large path closed old).answer ≡ Err f → Shown f
dxf-export-large path closed old f e = shown refl (export-fits path closed old f e)
