-- The three cases of a counted listing as equations, and which of them an answer tells; for any listing.
use Rattle.std.specs.Prelude.{◌≡◌, Bool, true, false, List, ℕ, ◌≤◌, ◌<◌, ltb, Float, length, Err, Ok}
use Rattle.std.proofs.Math.Path.{refl}
use Rattle.std.proofs.Common.{sym, ap, ◌∙◌, arith, lt-ltb, le-ltb, ltb-true, ltb-false}
use Rattle.checks.specs.declared.fault.Item.TheVariants.{Report}
use Rattle.checks.specs.declared.fault.Fault.{Fault}
use Rattle.checks.specs.Fault.{whole, refuse}
use Rattle.checks.specs.Refusal
use Rattle.listing_pairs.specs.declared.row.Row.{Row}
use Rattle.listing_outcomes.specs.Answer.{Listed, ListingAnswer}
use Rattle.listing_outcomes.specs.Outcome.{Outcome}
use Rattle.checks.specs.declared.call.CallError.TheVariants.{NoRoom}
use Rattle.month.specs.Report.{words, full, plus}
use Rattle.month.specs.Counted.{CountedOutcome, adds, unchanged, counted, report_check, counted_listing, Answered, CountedAnswer}

pub same_answer : {a b : ListingAnswer} → Answered a ≡ Answered b → a ≡ b
same_answer {a = Err f} {b = Err g} e = cc
same_answer {a = Err f} {b = Ok d} e = cc
same_answer {a = Ok c} {b = Err g} e = cc
same_answer {a = Ok c} {b = Ok d} e = cc

pub room-told : (a : ListingAnswer) → ◌≡◌ {A = CountedAnswer} (Err NoRoom) (Answered a) → ⊥
room-told (Err f) e = cc
room-told (Ok c) e = cc

pub kinds-differ : {f : Fault} {k m : ℕ} → Err f ≡ Listed k m → ⊥
kinds-differ e = let z : ◌≡◌ {A = ℕ} 0 1 = cc in omega (arith, z)

pub same-fault : {f g : Fault} → ◌≡◌ {A = ListingAnswer} (Err f) (Err g) → f ≡ g
same-fault e = cc

module _ (listing : Outcome ListingAnswer) (rows : List Row) (indices : List ℕ) (points : List Float) (report : List ℕ) where
  abbrev o : CountedOutcome
  o = counted_listing listing rows indices points report

  pub no-room-is : length report < words
      → counted_listing listing rows indices points report ≡ unchanged (Err NoRoom) indices points report
  no-room-is h = rw (lt-ltb (length report) words h) refl

  pub full_is : words ≤ length report → full report ≡ true
      → counted_listing listing rows indices points report
      ≡ unchanged (Answered (Err (whole Refusal.report Report))) indices points report
  unfolding report_check refuse
  full_is long e = rw (le-ltb (length report) words long, e) refl

  pub counted_is : words ≤ length report → full report ≡ false
      → counted_listing listing rows indices points report ≡ counted listing rows report
  unfolding report_check refuse
  counted_is long e = rw (le-ltb (length report) words long, e) refl

  -- what an answer of the listing tells: there was room, and the report was not full
  pub record Told (a : ListingAnswer) : Type 0 where
    pub long : words ≤ length report
    pub roomy : full report ≡ false
    pub listed : listing.answer ≡ a
    pub sum : (counted_listing listing rows indices points report).report ≡ plus report (adds a rows)

  told : (a : ListingAnswer) → o.listing.answer ≡ Answered a
      → (a ≡ Err (whole Refusal.report Report) → ⊥) → Told a
  told a e other =
      go (ltb (length report) words) (ltb-true (length report) words) (ltb-false (length report) words) (full report) refl
    where
      as-counted : words ≤ length report → full report ≡ false → Told a
      as-counted long roomy =
          let is = counted_is long roomy in
          let its : listing.answer ≡ a = same_answer (sym (ap (λ (x : CountedOutcome). x.listing.answer) is) ∙ e) in
          record {
            long = long;
            roomy = roomy;
            listed = its;
            sum =
                ap (λ (x : CountedOutcome). x.report) is
                ∙ ap (λ (x : ListingAnswer). plus report (adds x rows)) its;
          }

      go : (t : Bool) → (t ≡ true → length report < words) → (t ≡ false → words ≤ length report)
          → (b : Bool) → full report ≡ b → Told a
      go true short long b f =
          absurd (room-told a (sym (ap (λ (x : CountedOutcome). x.listing.answer) (no-room-is (short refl))) ∙ e))
      go false short long true f =
          absurd (other
          (sym (same_answer (sym (ap (λ (x : CountedOutcome). x.listing.answer) (full_is (long refl) f)) ∙ e))))
      go false short long false f = as-counted (long refl) f

  pub told-listed : (n looked : ℕ)
      → (counted_listing listing rows indices points report).listing.answer ≡ Answered (Listed n looked)
      → Told (Listed n looked)
  told-listed n looked e = told (Listed n looked) e (λ x. kinds-differ (sym x))

  pub told-refused : (f : Fault)
      → (counted_listing listing rows indices points report).listing.answer ≡ Answered (Err f)
      → (f.number ≡ Refusal.report → ⊥) → Told (Err f)
  told-refused f e other = told (Err f) e (λ x. other (ap (λ (g : Fault). g.number) (same-fault x)))
