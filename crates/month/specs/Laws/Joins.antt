-- What a join tells that was not refused, and the first layouts of two lists.
use Rattle.std.specs.Prelude.{◌≡◌, Bool, cond, ◌||◌, List, [], ◌∷◌, ◌++◌, ℕ, zero, suc, ◌+◌, ◌≤◌, ◌<◌, ltb, length, take, Err, Ok}
use Rattle.std.proofs.Math.Path.{refl}
use Rattle.std.proofs.Common.{sym, ap, ◌∙◌, arith}
use Rattle.std.proofs.Math.Bool.{true, false}
use borrow.Author.Tests.{ltb-true, ltb-false, lt-ltb, le-ltb}
use Rattle.checks.specs.declared.fault.Item.TheVariants.{Report}
use Rattle.checks.specs.declared.fault.Fault.{Fault}
use Rattle.checks.specs.Fault.{whole, refuse}
use Rattle.checks.specs.Refusal
use Rattle.month.specs.Report.{words, layouts, most_layouts, largest, word, some_above, plus}
use Rattle.month.specs.Join.{JoinOutcome, too_much, join_check, joined_of, join, JoinAnswer}
use Rattle.checks.specs.declared.call.CallError.TheVariants.{NoRoom, Refused}

-- ---- the three cases
module _ (into other : List ℕ) where
  pub short-is : (ltb (length into) words || ltb (length other) words) ≡ true
      → join into other ≡ record { answer = Err NoRoom; into = into }
  unfolding join
  short-is e = rw e refl

  module _ (long : (ltb (length into) words || ltb (length other) words) ≡ false) where
    pub much-is : too_much into other ≡ true
        → join into other ≡ record { answer = Err (Refused (whole Refusal.report Report)); into = into }
    unfolding join join_check refuse
    much-is e = rw (long, e) refl

    pub joined_is : too_much into other ≡ false
        → join into other ≡ record { answer = Ok tt; into = plus into (take words other) }
    unfolding join join_check refuse
    joined_is e = rw (long, e) refl

  pub record Told : Type 0 where
    pub few : word into layouts + word other layouts ≤ most_layouts
    pub sum : (join into other).into ≡ plus into (take words other)

  room-or : ◌≡◌ {A = JoinAnswer} (Err NoRoom) (Ok tt) → ⊥
  room-or e = let z : ◌≡◌ {A = ℕ} 0 1 = cc in omega (arith, z)

  refused-or : {f : Fault} → ◌≡◌ {A = JoinAnswer} (Err (Refused f)) (Ok tt) → ⊥
  refused-or e = let z : ◌≡◌ {A = ℕ} 0 1 = cc in omega (arith, z)

  few-layouts : too_much into other ≡ false → word into layouts + word other layouts ≤ most_layouts
  unfolding too_much
  few-layouts e =
      ltb-false most_layouts (word into layouts + word other layouts)
      (first-no (ltb most_layouts (word into layouts + word other layouts))
      (some_above largest (plus (take words into) (take words other))) e)
    where
      first-no : (a b : Bool) → (a || b) ≡ false → a ≡ false
      first-no true b e = e
      first-no false b e = refl

  pub joined-told : (join into other).answer ≡ Ok tt → Told
  joined-told e = go (ltb (length into) words || ltb (length other) words) refl (too_much into other) refl
    where
      go : (s : Bool) → (ltb (length into) words || ltb (length other) words) ≡ s
          → (t : Bool) → too_much into other ≡ t → Told
      go true s t u = absurd (room-or (sym (ap (λ (o : JoinOutcome). o.answer) (short-is s)) ∙ e))
      go false s true u = absurd (refused-or (sym (ap (λ (o : JoinOutcome). o.answer) (much-is s u)) ∙ e))
      go false s false u = record { few = few-layouts u; sum = ap (λ (o : JoinOutcome). o.into) (joined_is s u) }

-- ---- the first of two lists
module _ {A : Type 0} where
  take-fewer : (m : ℕ) (l : List A) → length (take (suc m) l) ≤ m → take (suc m) l ≡ take m l
  take-fewer zero [] h = refl
  take-fewer zero (x ∷ l) h = absurd (omega (arith, h))
  take-fewer (suc m) [] h = refl
  take-fewer (suc m) (x ∷ l) h = ap (λ (r : List A). x ∷ r) (take-fewer m l (omega (arith, h)))

  pub take-both : (m : ℕ) (ks ls : List A) → length (take m ks) + length (take m ls) ≤ m
      → take m (ks ++ ls) ≡ take m ks ++ take m ls
  take-both zero ks ls h = refl
  take-both (suc m) [] ls h = refl
  take-both (suc m) (k ∷ ks) ls h =
      let same = take-fewer m ls (omega (arith, h)) in
      ap (λ (r : List A). k ∷ r)
      (take-both m ks ls (omega (arith, h, ap length same)) ∙ ap (λ (r : List A). take m ks ++ r) (sym same))
