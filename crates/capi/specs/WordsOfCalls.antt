-- The word that a call returns for a refusal gives the fault back: for each call for C, if its definition refuses with the
-- fault f, the word has f's number, item, owner and index in its parts (`Parts`), and is neither a case's number nor the code
-- of no room.
use Rattle.checks.specs.Checked.{Checked}
use Rattle.std.specs.Prelude.{◌≡◌, refl, Bool, false, List, [], ◌∷◌, ◌++◌, ℕ, Float, Err, Ok}
use Rattle.std.proofs.Common.{sym, subst, inl, inr, arith}
use Rattle.plane.specs.declared.vector2.Vector2.{Vector2}
use Rattle.plane.specs.declared.pline_vertex.PlineVertex.{PlineVertex}
use Rattle.checks.specs.declared.fault.Item.TheVariants.{Report}
use Rattle.checks.specs.declared.fault.Fault.{Fault}
use Rattle.checks.specs.Calls as calls
use Rattle.checks.specs.Fault.{whole}
use Rattle.checks.specs.Refusal
use Rattle.checks.specs.Answered.{answered}
use Rattle.checks.specs.ExactlyWhen.{Distinct, no_number}
use Rattle.checks.specs.Word.{word}
use Rattle.checks.specs.Words.{Fits, refused_in, Parts, parts}
use Rattle.checks.specs.Laws.RefusalNumbers.{Small, smalls}
use Rattle.crossing.specs.LineLine.{line_line}
use Rattle.crossing.specs.LineCircle.{line_circle}
use Rattle.crossing.specs.CircleCircle.{circle_circle}
use Rattle.crossing.specs.PlineSeg.{pline_seg}
use Rattle.crossing.specs.LineLineIntersect as lines
use Rattle.crossing.specs.LineCircleIntersect as line_and_circle
use Rattle.crossing.specs.CircleCircleIntersect as circles
use Rattle.crossing.specs.PlineSegIntersect as pairs
use Rattle.findings.specs.Report.{reported, pline_seg_findings}
use Rattle.listing_pairs.specs.declared.row.Row.{Row}
use Rattle.listing_outcomes.specs.Answer.{Listed, Paged}
use Rattle.listing_outcomes.specs.Outcome.{outcome_of, outcome}
use Rattle.listing_outcomes.specs.PageOutcome.{page_outcome}
use Rattle.listing_outcomes.specs.BoxedOutcome.{boxed_outcome}
use Rattle.checks.specs.declared.call.CallError.TheVariants.{Refused}
use Rattle.listing_calls.specs.Listing.{mutual_listing, self_listing}
use Rattle.listing_calls.specs.Pages.{mutual_page, self_page}
use Rattle.listing_calls.specs.Boxed.{mutual_boxed, self_boxed}
use Rattle.listing_calls.specs.Laws.RefusalNumbers as laws
use Rattle.month.specs.Counted.{mutual_counted, Answered}
use Rattle.month.specs.Join.{join}
use Rattle.month.specs.Refusals.{refused-by, join-else}
use Rattle.dxf_read.specs.Import.{import_dxf}
use Rattle.dxf_read.specs.Laws.RefusalNumbers.{import-fits}
use Rattle.dxf_write.specs.Export.{export_dxf}
use Rattle.dxf_write.specs.Laws.RefusalNumbers.{export-fits}
use Rattle.capi.specs.Handed.{no_room_code}

-- the fault fits into a word, and its number is not 1; and its word gives it back
pub record Shown (f : Fault) : Type 0 where
  pub fits : Fits f
  pub parts_are : Parts f (word f)

shown : {g f : Fault} → g ≡ f → Fits g → Shown f
shown {g} {f} e h = let k = subst Fits e h in record { fits = k; parts_are = parts f k }

-- ---- from a check that found the fault
module _ {I A : Type 0} (refused : Fault → A) (met : I → A) (distinct : Distinct refused met) where
  of-checked : (c : Checked) (i : I) → Small c → (f : Fault) → answered refused met c i ≡ refused f → Shown f
  of-checked (Ok _) i small f e = absurd (distinct.kinds f i (sym e))
  of-checked (Err g) i small f e =
      shown (distinct.faults g f e) (small.fits g refl)

-- ---- the kernels and the pair call
pub line-line : (v1 v2 u1 u2 : Vector2) (eps : Float) (f : Fault)
    → lines.line_line_intr v1 v2 u1 u2 eps ≡ Err f → Shown f
unfolding lines.line_line_intr calls.check_line_line
line-line v1 v2 u1 u2 eps =
    of-checked Err Ok (record { faults = λ f g e. cc; kinds = λ f i e. no_number cc })
    (calls.check_line_line v1 v2 u1 u2 eps) (line_line v1 v2 u1 u2 eps) (search smalls depth 30)

pub line-circle : (p0 p1 : Vector2) (r : Float) (c : Vector2) (eps : Float) (f : Fault)
    → line_and_circle.line_circle_intr p0 p1 r c eps ≡ Err f → Shown f
unfolding line_and_circle.line_circle_intr calls.check_line_circle
line-circle p0 p1 r c eps =
    of-checked Err Ok (record { faults = λ f g e. cc; kinds = λ f i e. no_number cc })
    (calls.check_line_circle p0 p1 r c eps) (line_circle p0 p1 r c eps) (search smalls depth 30)

pub circle-circle : (r1 : Float) (c1 : Vector2) (r2 : Float) (c2 : Vector2) (eps : Float) (f : Fault)
    → circles.circle_circle_intr r1 c1 r2 c2 eps ≡ Err f → Shown f
unfolding circles.circle_circle_intr calls.check_circle_circle
circle-circle r1 c1 r2 c2 eps =
    of-checked Err Ok (record { faults = λ f g e. cc; kinds = λ f i e. no_number cc })
    (calls.check_circle_circle r1 c1 r2 c2 eps) (circle_circle r1 c1 r2 c2 eps) (search smalls depth 30)

pub pline-seg : (v1 v2 u1 u2 : PlineVertex) (eps : Float) (f : Fault)
    → pairs.pline_seg_intr v1 v2 u1 u2 eps ≡ Err f → Shown f
unfolding pairs.pline_seg_intr calls.check_pline_seg
pline-seg v1 v2 u1 u2 eps =
    of-checked Err Ok (record { faults = λ f g e. cc; kinds = λ f i e. no_number cc })
    (calls.check_pline_seg v1 v2 u1 u2 eps) (pline_seg v1 v2 u1 u2 eps) (search smalls depth 30)

pub pline-seg-findings : (v1 v2 u1 u2 : PlineVertex) (eps : Float) (f : Fault)
    → pline_seg_findings v1 v2 u1 u2 eps ≡ Err f → Shown f
unfolding pline_seg_findings calls.check_pline_seg
pline-seg-findings v1 v2 u1 u2 eps =
    of-checked Err Ok (record { faults = λ f g e. cc; kinds = λ f i e. no_number cc })
    (calls.check_pline_seg v1 v2 u1 u2 eps) (reported v1 v2 u1 u2 eps) (search smalls depth 30)

-- ---- listings, boxed or not, and pages
module _ {A : Type 0} (refused : Fault → A) (same : (f g : Fault) → refused f ≡ refused g → f ≡ g) where
  of-outcome : (c : Checked) (answer : A) (rows : List Row) (i : List ℕ) (p : List Float) → Small c
      → ((f : Fault) → answer ≡ refused f → ⊥)
      → (f : Fault) → (outcome_of refused c answer rows i p).answer ≡ refused f → Shown f
  of-outcome (Ok _) answer rows i p small other f e = absurd (other f e)
  of-outcome (Err g) answer rows i p small other f e =
      shown (same g f e) (small.fits g refl)

listing-other : {rows pairs : ℕ} (f : Fault) → Listed rows pairs ≡ Err f → ⊥
listing-other f e = no_number (sym cc)

page-other : {rows passed next all : ℕ} (f : Fault) → Paged rows passed next all ≡ Err f → ⊥
page-other f e = no_number (sym cc)

module _ (first : List Float) (first_closed : Bool) (second : List Float) (second_closed : Bool) (eps : Float)
    (i : List ℕ) (p : List Float) where
  pub mutual-listing : (f : Fault) → (mutual_listing first first_closed second second_closed eps i p).answer ≡ Err f
      → Shown f
  unfolding mutual_listing outcome
  mutual-listing =
      of-outcome Err (λ f g e. cc) _ _ _ i p (laws.mutual-small _ i p first first_closed second second_closed eps)
      (λ f e. listing-other f e)

  pub mutual-page : (position budget : ℕ) (f : Fault)
      → (mutual_page first first_closed second second_closed eps position budget i p).answer ≡ Err f → Shown f
  unfolding mutual_page page_outcome
  mutual-page position budget =
      of-outcome Err (λ f g e. cc) _ _ _ i p
      (laws.mutual-page-small position _ budget i p first first_closed second second_closed eps) (λ f e. page-other f e)

  pub mutual-boxed : (b : List Float) (f : Fault)
      → (mutual_boxed first first_closed second second_closed eps b i p).listing.answer ≡ Err f → Shown f
  unfolding mutual_boxed boxed_outcome
  mutual-boxed b =
      of-outcome Err (λ f g e. cc) _ _ _ i p
      (laws.mutual-boxed-small _ b _ i p first first_closed second second_closed eps) (λ f e. listing-other f e)

module _ (path : List Float) (closed : Bool) (eps : Float) (i : List ℕ) (p : List Float) where
  pub self-listing : (f : Fault) → (self_listing path closed eps i p).answer ≡ Err f → Shown f
  unfolding self_listing outcome
  self-listing =
      of-outcome Err (λ f g e. cc) _ _ _ i p (laws.self-small _ i p path closed eps) (λ f e. listing-other f e)

  pub self-page : (position budget : ℕ) (f : Fault)
      → (self_page path closed eps position budget i p).answer ≡ Err f → Shown f
  unfolding self_page page_outcome
  self-page position budget =
      of-outcome Err (λ f g e. cc) _ _ _ i p (laws.self-page-small position _ budget i p path closed eps)
      (λ f e. page-other f e)

  pub self-boxed : (b : List Float) (f : Fault)
      → (self_boxed path closed eps b i p).listing.answer ≡ Err f → Shown f
  unfolding self_boxed boxed_outcome
  self-boxed b =
      of-outcome Err (λ f g e. cc) _ _ _ i p (laws.self-boxed-small _ b _ i p path closed eps)
      (λ f e. listing-other f e)

-- ---- counted listings and joins: 19, and what the listing refuses
nineteen : Shown (whole Refusal.report Report)
nineteen =
    shown refl (record { known = omega arith; number = omega arith; place = record { owner = omega arith; index = omega arith } })

pub mutual-counted : (first : List Float) (first_closed : Bool) (second : List Float) (second_closed : Bool) (eps : Float)
    (i : List ℕ) (p : List Float) (w : List ℕ) (f : Fault)
    → (mutual_counted first first_closed second second_closed eps i p w).listing.answer ≡ Answered (Err f) → Shown f
mutual-counted first first_closed second second_closed eps i p w f e =
    elim (refused-by first first_closed second second_closed eps i p w f e) [
      | inl report ↦ subst Shown (sym report) nineteen
      | inr listing ↦ mutual-listing first first_closed second second_closed eps i p f listing
    ]

pub join-of-reports : (into other : List ℕ) (f : Fault) → (join into other).answer ≡ Err (Refused f) → Shown f
join-of-reports into other f e = subst Shown (sym (join-else into other f e)) nineteen

-- ---- imports and exports
pub dxf-import : (text : List ℕ) (old : List Float) (f : Fault) → (import_dxf text old).answer ≡ Err f → Shown f
dxf-import text old f e = shown refl (import-fits text old f e)

pub dxf-export : (path : List Float) (closed : Bool) (old : List ℕ) (f : Fault)
    → (export_dxf path closed old).answer ≡ Err f → Shown f
dxf-export path closed old f e = shown refl (export-fits path closed old f e)

-- ---- the code of no room is no word
pub no-room-not-refused : refused_in no_room_code ≡ false
no-room-not-refused = refl
