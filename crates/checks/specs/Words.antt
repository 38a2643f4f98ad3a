-- What a word gives back. The header's macros take it apart; for a fault whose parts fit, they give its number, item, owner and
-- index. So two such faults that differ have different words. A case's number is no word.
use Rattle.std.specs.Prelude.{◌≡◌, refl, Bool, true, false, ℕ, ◌/◌, ◌%◌, ◌<◌, eqb}
use Rattle.std.proofs.Common.{sym, ap, ◌∙◌, eq-eqb, ne_eqb, arith}
use Rattle.checks.specs.declared.fault.Item.{Item}
use Rattle.checks.specs.declared.fault.Place.{Place}
use Rattle.checks.specs.declared.fault.Fault.{Fault}
use Rattle.checks.specs.Fault.{at}
use Rattle.checks.specs.FaultNumbers.{items, item, item-below, item_back, item-same}
use Rattle.checks.specs.Refusal.{numbers_below}
use Rattle.checks.specs.Word.{item_unit, owner_unit, index_unit, item_width, owners, indices, word_of, word}

-- ---- the macros: VJ_IS_REFUSED, VJ_NUMBER, VJ_ITEM, VJ_OWNER, VJ_INDEX
abbrev pub refused_in : ℕ → Bool
refused_in w = eqb (w / numbers_below % numbers_below) 1

abbrev pub number_in : ℕ → ℕ
number_in w = w % numbers_below

abbrev pub item_in : ℕ → ℕ
item_in w = w / item_unit % item_width

abbrev pub owner_in : ℕ → ℕ
owner_in w = w / owner_unit % owners

abbrev pub index_in : ℕ → ℕ
index_in w = w / index_unit

-- ---- a fault that fits
pub record FitsPlace (p : Place) : Type 0 where
  pub owner : p.owner < owners
  pub index : p.index < indices

pub record Fits (f : Fault) : Type 0 where
  -- 1 is not given any more
  pub known : 1 < f.number
  pub number : f.number < numbers_below
  pub place : FitsPlace f.place

-- ---- its parts come back
pub record Parts (f : Fault) (w : ℕ) : Type 0 where
  pub refused : refused_in w ≡ true
  pub number : number_in w ≡ f.number
  pub item-is : item_in w ≡ item f.place.item
  pub owner : owner_in w ≡ f.place.owner
  pub index : index_in w ≡ f.place.index

-- the arithmetic: n, i, o and x in their places
module _ (n i o x : ℕ) (hn : n < numbers_below) (hi : i < items) (ho : o < owners) (hx : x < indices) where
  abbrev w : ℕ
  w = word_of n o x i

  one : w / numbers_below % numbers_below ≡ 1
  one = omega (arith, hn, hi, ho, hx)

  first : w % numbers_below ≡ n
  first = omega (arith, hn, hi, ho, hx)

  second : w / item_unit % item_width ≡ i
  second = omega (arith, hn, hi, ho, hx)

  third : w / owner_unit % owners ≡ o
  third = omega (arith, hn, hi, ho, hx)

  fourth : w / index_unit ≡ x
  fourth = omega (arith, hn, hi, ho, hx)

pub parts : (f : Fault) → Fits f → Parts f (word f)
unfolding word
parts f h =
    let n = f.number in
    let i = item f.place.item in
    let o = f.place.owner in
    let x = f.place.index in
    let hi = item-below f.place.item in
    record {
      refused = eq-eqb _ 1 (one n i o x h.number hi h.place.owner h.place.index);
      number = first n i o x h.number hi h.place.owner h.place.index;
      item-is = second n i o x h.number hi h.place.owner h.place.index;
      owner = third n i o x h.number hi h.place.owner h.place.index;
      index = fourth n i o x h.number hi h.place.owner h.place.index;
    }

-- a case's number is no word
pub case-not-refused : (n : ℕ) → n < numbers_below → refused_in n ≡ false
case-not-refused n h = ne_eqb (n / numbers_below % numbers_below) 1 (λ e. omega (arith, h, e))

-- ---- so faults that differ have different words
fault-back : (n o x i : ℕ) → Fault
fault-back n o x i = record { number = n; place = at o x (item_back i) }

pub one-word-one-fault : (f g : Fault) → Fits f → Fits g → word f ≡ word g → f ≡ g
unfolding fault-back
one-word-one-fault f g hf hg e =
    let p = parts f hf in
    let q = parts g hg in
    sym (back f) ∙ same (sym p.number ∙ ap number_in e ∙ q.number) (sym p.owner ∙ ap owner_in e ∙ q.owner)
    (sym p.index ∙ ap index_in e ∙ q.index) (sym p.item-is ∙ ap item_in e ∙ q.item-is) ∙ back g
  where
    back : (f : Fault) → fault-back f.number f.place.owner f.place.index (item f.place.item) ≡ f
    back f =
        ap (λ (i : Item). record { number = f.number; place = at f.place.owner f.place.index i })
        (item-same f.place.item)

    same : {n m o p x y i j : ℕ} → n ≡ m → o ≡ p → x ≡ y → i ≡ j → fault-back n o x i ≡ fault-back m p y j
    same a b c d = rw (a, b, c, d) refl
