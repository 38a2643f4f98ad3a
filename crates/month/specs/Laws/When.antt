-- When a counted listing and a join answer what: the arguments.
use Rattle.checks.specs.Checked.{Checked}
use Rattle.std.specs.Prelude.{◌≡◌, Bool, ◌||◌, ◌↔◌, ◌⊎◌, List, [], ◌∷◌, ℕ, suc, ◌+◌, ◌≤◌, ◌<◌, leb, ltb, Float, length, take, Err, Ok}
use Rattle.std.proofs.Math.Path.{refl, ap}
use Rattle.std.proofs.Common.{sym, ◌∙◌, true≢false, arith, ltb-true, ltb-false, lt-ltb, le-ltb, leb-true}
use Rattle.std.proofs.Math.Bool.{true, false}
use Rattle.std.proofs.Math.Logic.{inl, inr}
use Rattle.std.proofs.Math.Seq.{slice, length-slice, get_or-drop, get_or-take}
use Rattle.checks.specs.declared.fault.Item.TheVariants.{Report}
use Rattle.checks.specs.declared.fault.Fault.{Fault}
use Rattle.checks.specs.Fault.{at, whole, refuse, later}
use Rattle.checks.specs.Refusal
use Rattle.checks.specs.First.{first as first_fault}
use Rattle.checks.specs.Answered.{answered}
use Rattle.checks.specs.ExactlyWhen.{ExactlyWhen, Distinct, exactly-when}
use Rattle.listing_pairs.specs.declared.row.Row.{Row}
use Rattle.listing_outcomes.specs.Answer.{ListingAnswer}
use Rattle.listing_outcomes.specs.Outcome.{Outcome}
use Rattle.checks.specs.declared.call.CallError.TheVariants.{NoRoom, Refused}
use Rattle.listing_calls.specs.Refusals as listings
use Rattle.month.specs.Report.{words, layouts, pairs, most_layouts, largest, most_held, word, some_above, full}
use Rattle.month.specs.Counted.{CountedOutcome, counted_of, report_check, counted_listing, CountedAnswer, Answered}
use Rattle.month.specs.Join.{JoinOutcome, too_much, join, JoinAnswer}
use Rattle.month.specs.Given.{among, given}
use Rattle.month.specs.Laws.Words.{sums, length-sums, word-sums, much-fits, full-by-layouts}
use Rattle.month.specs.Laws.Listings.{words-held}
use Rattle.month.specs.Laws.Cases.{no-room-is, full_is, counted_is, same_answer, room-told, same-fault}
use Rattle.month.specs.Laws.Joins.{short-is, much-is, joined_is}

-- ---- a word above a limit
pub record Where (limit : ℕ) (l : List ℕ) : Type 0 where
  pub k : ℕ
  pub below : k < length l
  pub above : limit < word l k

found : (limit : ℕ) (l : List ℕ) → some_above limit l ≡ true → Where limit l
found limit [] e = absurd (true≢false (sym e))
found limit (w ∷ l) e = go (ltb limit w) (ltb-true limit w) (found limit l) e
  where
    go : (b : Bool) → (b ≡ true → limit < w) → (some_above limit l ≡ true → Where limit l) → (b || some_above limit l) ≡ true
        → Where limit (w ∷ l)
    go true is rest e = record { k = 0; below = omega arith; above = is refl }
    go false is rest e = let f = rest e in record { k = suc f.k; below = omega (arith, f.below); above = f.above }

-- ---- a full report
pub record Large (report : List ℕ) : Type 0 where
  pub k : ℕ
  pub from : pairs ≤ k
  pub below : k < words
  pub above : most_held < word report k

module _ (report : List ℕ) where
  pub by-layouts : most_layouts ≤ word report layouts → full report ≡ true
  by-layouts h = sym (full-by-layouts report h)

  module _ (long : words ≤ length report) where
    pub by_word : (k : ℕ) → k < words → most_held < word report k → full report ≡ true
    by_word k h above = go (full report) refl
      where
        go : (b : Bool) → full report ≡ b → full report ≡ true
        go true e = e
        go false e = absurd (omega (arith, words-held report long e k h, above))

    pub full_by : full report ≡ true → (most_layouts ≤ word report layouts) ⊎ Large report
    unfolding full
    full_by e = go (leb most_layouts (word report layouts)) (leb-true most_layouts (word report layouts)) e
      where
        go : (b : Bool) → (b ≡ true → most_layouts ≤ word report layouts)
            → (b || some_above most_held (slice pairs words report)) ≡ true → (most_layouts ≤ word report layouts) ⊎ Large report
        go true is e = inl (is refl)
        go false is e =
            let f = found most_held (slice pairs words report) e in
            let below : 1 + f.k < words = omega (arith, f.below, length-slice 1 words report long) in
            let same : word (slice pairs words report) f.k ≡ word report (1 + f.k) =
            get_or-drop 1 (take words report) f.k 0 ∙ get_or-take words report (1 + f.k) 0 below in
            inr (record { k = 1 + f.k; from = omega arith; below = below; above = omega (arith, f.above, same) })

-- ---- a counted listing, of any listing
module _ (listing : Outcome ListingAnswer) (rows : List Row) (indices : List ℕ) (points : List Float) (report : List ℕ) where
  abbrev o : CountedOutcome
  o = counted_listing listing rows indices points report

  abbrev told : CountedOutcome → CountedAnswer
  told x = x.listing.answer

  pub no-room-when : ((counted_listing listing rows indices points report).listing.answer ≡ Err NoRoom) ↔ (length report < words)
  no-room-when = (
    λ e. go (ltb (length report) words) (ltb-true (length report) words) (ltb-false (length report) words) (full report) refl e,
    λ h. ap told (no-room-is listing rows indices points report h),
  )
    where
      go : (t : Bool) → (t ≡ true → length report < words) → (t ≡ false → words ≤ length report)
          → (b : Bool) → full report ≡ b → o.listing.answer ≡ Err NoRoom → length report < words
      go true short long b f e = short refl
      go false short long true f e =
          absurd (room-told (Err (whole Refusal.report Report)) (sym e ∙ ap told (full_is listing rows indices points report (long refl) f)))
      go false short long false f e =
          absurd (room-told listing.answer (sym e ∙ ap told (counted_is listing rows indices points report (long refl) f)))

  -- if the listing gives only refusals of the others, 19 tells that the report is full
  pub nineteen : ((f : Fault) → listing.answer ≡ Err f → among f.number given ≡ true)
      → words ≤ length report → (f : Fault) → f.number ≡ Refusal.report
      → (counted_listing listing rows indices points report).listing.answer ≡ Answered (Err f)
      → full report ≡ true
  nineteen known long f is e = go (full report) refl
    where
      go : (b : Bool) → full report ≡ b → full report ≡ true
      go true x = x
      go false x =
          let its : listing.answer ≡ Err f =
          same_answer (sym (ap told (counted_is listing rows indices points report long x)) ∙ e) in
          absurd (true≢false (sym (known f its) ∙ ap (λ (n : ℕ). among n given) is))

  pub refused-by : (f : Fault)
      → (counted_listing listing rows indices points report).listing.answer ≡ Answered (Err f)
      → (f ≡ whole Refusal.report Report) ⊎ (listing.answer ≡ Err f)
  refused-by f e =
      go (ltb (length report) words) (ltb-true (length report) words) (ltb-false (length report) words) (full report) refl
    where
      go : (t : Bool) → (t ≡ true → length report < words) → (t ≡ false → words ≤ length report)
          → (b : Bool) → full report ≡ b → (f ≡ whole Refusal.report Report) ⊎ (listing.answer ≡ Err f)
      go true short long b x =
          absurd (room-told (Err f) (sym (ap told (no-room-is listing rows indices points report (short refl))) ∙ e))
      go false short long true x =
          inl (sym (same-fault (same_answer
          (sym (ap told (full_is listing rows indices points report (long refl) x)) ∙ e))))
      go false short long false x =
          inr (same_answer (sym (ap told (counted_is listing rows indices points report (long refl) x)) ∙ e))

  -- ---- all refusals, if the listing answers by the first fault of these checks
  abbrev refusal : Fault → CountedAnswer
  refusal f = Answered (Err f)

  abbrev listed : listings.Counts → CountedAnswer
  listed c = Answered (listings.counted c)

  distinct : Distinct refusal listed
  distinct = record { faults = λ f g e. same-fault (same_answer e); kinds = λ f i e. (listings.distinct).kinds f i (same_answer e) }

  lifted : (c : Checked) (counts : listings.Counts)
      → Answered (answered Err listings.counted c counts) ≡ answered refusal listed c counts
  lifted (Ok _) counts = refl
  lifted (Err g) counts = refl

  same : (b : Bool) (c : Checked) (counts : listings.Counts) → listing.answer ≡ answered Err listings.counted c counts
      → (counted_of (refuse b Refusal.report (at 0 0 Report)) listing rows indices points report).listing.answer
      ≡ answered refusal listed (later (refuse b Refusal.report (at 0 0 Report)) c) counts
  unfolding refuse later
  same true c counts is = refl
  same false c counts is = ap Answered is ∙ lifted c counts

  pub counted-when : (all : List Checked) (counts : listings.Counts)
      → listing.answer ≡ answered Err listings.counted (first_fault all) counts
      → words ≤ length report
      → ExactlyWhen (λ f. Answered (Err f)) (λ c. Answered (listings.counted c))
      (counted_listing listing rows indices points report).listing.answer (report_check report ∷ all) counts
  unfolding report_check
  counted-when all counts is long =
      rw (le-ltb (length report) words long, same (full report) (first_fault all) counts is)
      (exactly-when refusal listed distinct (refuse (full report) Refusal.report (at 0 0 Report) ∷ all) counts)

  -- a refusal leaves the rows' slices unchanged, if the listing's own does
  pub refused-leaves : listings.Untouched listing indices points → (f : Fault)
      → (counted_listing listing rows indices points report).listing.answer ≡ Answered (Err f)
      → ((counted_listing listing rows indices points report).listing.indices ≡ indices)
      × ((counted_listing listing rows indices points report).listing.points ≡ points)
  refused-leaves kept f e =
      go (ltb (length report) words) (ltb-true (length report) words) (ltb-false (length report) words) (full report) refl
    where
      go : (t : Bool) → (t ≡ true → length report < words) → (t ≡ false → words ≤ length report)
          → (b : Bool) → full report ≡ b → (o.listing.indices ≡ indices) × (o.listing.points ≡ points)
      go true short long b x =
          let is = no-room-is listing rows indices points report (short refl) in
          (ap (λ (y : CountedOutcome). y.listing.indices) is, ap (λ (y : CountedOutcome). y.listing.points) is)
      go false short long true x =
          let is = full_is listing rows indices points report (long refl) x in
          (ap (λ (y : CountedOutcome). y.listing.indices) is, ap (λ (y : CountedOutcome). y.listing.points) is)
      go false short long false x =
          let is = counted_is listing rows indices points report (long refl) x in
          let its = kept.as-found f (same_answer (sym (ap told is) ∙ e)) in (
            ap (λ (y : CountedOutcome). y.listing.indices) is ∙ its.0,
            ap (λ (y : CountedOutcome). y.listing.points) is ∙ its.1,
          )

-- ---- a join
pub record Over (into other : List ℕ) : Type 0 where
  pub k : ℕ
  pub below : k < words
  pub above : largest < word into k + word other k

module _ (into other : List ℕ) where
  abbrev its : JoinOutcome → JoinAnswer
  its x = x.answer

  or-true : (a b : Bool) → (a || b) ≡ true → (a ≡ true) ⊎ (b ≡ true)
  or-true true b e = inl refl
  or-true false b e = inr e

  or-false : (a b : Bool) → a ≡ false → b ≡ false → (a || b) ≡ false
  or-false true b x y = x
  or-false false b x y = y

  room-or-joined : ◌≡◌ {A = JoinAnswer} (Ok tt) (Err NoRoom) → ⊥
  room-or-joined e = let z : ◌≡◌ {A = ℕ} 0 1 = sym cc in omega (arith, z)

  room-or-refused : {f : Fault} → ◌≡◌ {A = JoinAnswer} (Err (Refused f)) (Err NoRoom) → ⊥
  room-or-refused e = let z : ◌≡◌ {A = ℕ} 0 1 = sym cc in omega (arith, z)

  refused-or-joined : {f : Fault} → ◌≡◌ {A = JoinAnswer} (Ok tt) (Err (Refused f)) → ⊥
  refused-or-joined e = let z : ◌≡◌ {A = ℕ} 0 1 = sym cc in omega (arith, z)

  join-same : {f g : Fault} → ◌≡◌ {A = JoinAnswer} (Err (Refused f)) (Err (Refused g)) → f ≡ g
  join-same e = cc

  pub join-no-room-when : ((join into other).answer ≡ Err NoRoom) ↔ ((length into < words) ⊎ (length other < words))
  join-no-room-when = (
    λ e. to (ltb (length into) words || ltb (length other) words) refl (too_much into other) refl e,
    λ h. ap its (short-is into other (from h)),
  )
    where
      to : (s : Bool) → (ltb (length into) words || ltb (length other) words) ≡ s
          → (t : Bool) → too_much into other ≡ t → (join into other).answer ≡ Err NoRoom
          → (length into < words) ⊎ (length other < words)
      to true s t u e =
          elim (or-true (ltb (length into) words) (ltb (length other) words) s) [
            | inl a ↦ inl (ltb-true (length into) words a)
            | inr b ↦ inr (ltb-true (length other) words b)
          ]
      to false s true u e = absurd (room-or-refused (sym (ap its (much-is into other s u)) ∙ e))
      to false s false u e = absurd (room-or-joined (sym (ap its (joined_is into other s u)) ∙ e))

      right : (a : Bool) → (a || true) ≡ true
      right true = refl
      right false = refl

      from : (length into < words) ⊎ (length other < words) → (ltb (length into) words || ltb (length other) words) ≡ true
      from (inl a) = ap (λ (b : Bool). b || ltb (length other) words) (lt-ltb (length into) words a)
      from (inr b) =
          ap (λ (c : Bool). ltb (length into) words || c) (lt-ltb (length other) words b) ∙ right (ltb (length into) words)

  pub join-fault : (f : Fault) → (join into other).answer ≡ Err (Refused f) → f ≡ whole Refusal.report Report
  join-fault f e = go (ltb (length into) words || ltb (length other) words) refl (too_much into other) refl
    where
      go : (s : Bool) → (ltb (length into) words || ltb (length other) words) ≡ s
          → (t : Bool) → too_much into other ≡ t → f ≡ whole Refusal.report Report
      go true s t u = absurd (room-or-refused (sym e ∙ ap its (short-is into other s)))
      go false s true u = join-same (sym e ∙ ap its (much-is into other s u))
      go false s false u = absurd (refused-or-joined (sym (ap its (joined_is into other s u)) ∙ e))

  pub join-leaves : ((join into other).answer ≡ Ok tt → ⊥) → (join into other).into ≡ into
  join-leaves h = go (ltb (length into) words || ltb (length other) words) refl (too_much into other) refl
    where
      go : (s : Bool) → (ltb (length into) words || ltb (length other) words) ≡ s
          → (t : Bool) → too_much into other ≡ t → (join into other).into ≡ into
      go true s t u = ap (λ (x : JoinOutcome). x.into) (short-is into other s)
      go false s true u = ap (λ (x : JoinOutcome). x.into) (much-is into other s u)
      go false s false u = absurd (h (ap its (joined_is into other s u)))

  pub much-layouts : most_layouts < word into layouts + word other layouts → too_much into other ≡ true
  unfolding too_much
  much-layouts h = rw (lt-ltb most_layouts (word into layouts + word other layouts) h) refl

  module _ (long : words ≤ length into) (long-other : words ≤ length other) where
    both_long : (ltb (length into) words || ltb (length other) words) ≡ false
    both_long =
        or-false (ltb (length into) words) (ltb (length other) words) (le-ltb (length into) words long)
        (le-ltb (length other) words long-other)

    pub join-much : too_much into other ≡ true → (join into other).answer ≡ Err (Refused (whole Refusal.report Report))
    join-much e = ap its (much-is into other both_long e)

    pub join-refused : (f : Fault) → (join into other).answer ≡ Err (Refused f) → too_much into other ≡ true
    join-refused f e = go (too_much into other) refl
      where
        go : (t : Bool) → too_much into other ≡ t → too_much into other ≡ true
        go true u = u
        go false u = absurd (refused-or-joined (sym (ap its (joined_is into other both_long u)) ∙ e))

    pub much-word : (k : ℕ) → k < words → largest < word into k + word other k → too_much into other ≡ true
    much-word k below above = go (too_much into other) refl
      where
        go : (t : Bool) → too_much into other ≡ t → too_much into other ≡ true
        go true u = u
        go false u = absurd (omega (arith, (much-fits into other long long-other (sym u)).each k below, above))

    pub much-by : too_much into other ≡ true → (most_layouts < word into layouts + word other layouts) ⊎ Over into other
    unfolding too_much
    much-by e =
        elim (or-true (ltb most_layouts (word into layouts + word other layouts)) (some_above largest (sums into other)) e) [
          | inl a ↦ inl (ltb-true most_layouts (word into layouts + word other layouts) a)
          | inr b ↦ inr (over (found largest (sums into other) b))
        ]
      where
        over : Where largest (sums into other) → Over into other
        over f =
            let below : f.k < words = omega (arith, f.below, length-sums into other long long-other) in
            record {
              k = f.k;
              below = below;
              above = omega (arith, f.above, word-sums into other long long-other f.k below);
            }
