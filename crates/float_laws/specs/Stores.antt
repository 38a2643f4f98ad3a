-- Values in a list: copied to its front one after the other, stored from a place on, and read back; and the numbers of things,
-- one thing after the other.
use Rattle.std.specs.Prelude.{◌≡◌, refl, List, [], ◌∷◌, ◌++◌, ℕ, suc, ◌+◌, ◌*◌, ◌<◌, ◌≤◌, length, set, get_or, take, drop}
use Rattle.std.proofs.Common.{sym, ap, ◌∙◌, append_assoc, zero-le, zero-add, add-zero, add-mul, add-one, arith, length-append, length-set, length-take-le, get_or-append-add, get_or-set_other}
use Rattle.std.proofs.Math.ListN.{get_or-append}
use Rattle.std.proofs.Math.Seq.{paste, paste-zero, paste-suc}
use Rattle.std.proofs.lemmas.List.Edits.{sets, sets-eq}
use Rattle.float_laws.specs.Flat.{flat}

-- ---- a loop that copies to the front: after k turns the first k of n are copied
pub record Copied {A : Type 0} (from : List A) (n : ℕ) (before now : List A) (k : ℕ) : Type 0 where
  pub front : now ≡ paste before 0 from k
  pub within : k ≤ n
  pub long : length now ≡ length before

module _ {A : Type 0} where
  pub copy-starts : (from to : List A) (n : ℕ) → Copied from n to to 0
  copy-starts from to n = record { front = paste-zero to 0 from; within = zero-le; long = refl }

  pub copy-turn : {from before now : List A} {n k : ℕ} (z : A) → Copied from n before now k → k < n → n ≤ length from
      → n ≤ length before → Copied from n before (set now k (get_or from k z)) (k + 1)
  copy-turn {from} {before} {now} {n} {k} z s below enough room = record {
    front =
        ap (λ (l : List A). set l k (get_or from k z)) s.front
        ∙ ap (λ (i : ℕ). set (paste before 0 from k) i (get_or from k z)) (sym (zero-add k))
        ∙ paste-suc before 0 from k z (omega arith) (omega arith)
        ∙ ap (paste before 0 from) (sym (add-one k));
    within = omega arith;
    long = length-set now k (get_or from k z) ∙ s.long;
  }

  pub copy-ends : {from before now : List A} {n k : ℕ} → Copied from n before now k → n ≤ k → now ≡ paste before 0 from n
  copy-ends {from} {before} {now} {n} {k} s done =
      let all : k ≡ n = omega arith in s.front ∙ ap (paste before 0 from) all

  -- ---- stores
  -- one after the other, from a place on
  pub three-set : (l : List A) (at : ℕ) (x y z : A) → set (set (set l at x) (at + 1) y) (at + 2) z ≡ sets l at (x ∷ y ∷ z ∷ [])
  three-set l at x y z =
      let one : at + 1 ≡ suc at = omega arith in
      let two : at + 2 ≡ suc (suc at) = omega arith in
      rw (one, two) refl

  pub four-set : (l : List A) (at : ℕ) (x y z w : A)
      → set (set (set (set l at x) (at + 1) y) (at + 2) z) (at + 3) w ≡ sets l at (x ∷ y ∷ z ∷ w ∷ [])
  four-set l at x y z w =
      let one : at + 1 ≡ suc at = omega arith in
      let two : at + 2 ≡ suc (suc at) = omega arith in
      let three : at + 3 ≡ suc (suc (suc at)) = omega arith in
      rw (one, two, three) refl

  pub sets-append : (l : List A) (i : ℕ) (vs ws : List A) → sets (sets l i vs) (i + length vs) ws ≡ sets l i (vs ++ ws)
  sets-append l i [] ws = ap (λ (k : ℕ). sets l k ws) (add-zero i)
  sets-append l i (v ∷ vs) ws =
      let e : i + suc (length vs) ≡ suc i + length vs = omega arith in
      ap (λ (k : ℕ). sets (sets (set l i v) (suc i) vs) k ws) e ∙ sets-append (set l i v) (suc i) vs ws

  -- what stands before them
  pub sets-before : (l vs : List A) (i n : ℕ) (d : A) → n < i → get_or (sets l i vs) n d ≡ get_or l n d
  sets-before l [] i n d h = refl
  sets-before l (v ∷ vs) i n d h =
      sets-before (set l i v) vs (suc i) n d (omega (arith, h))
      ∙ get_or-set_other l i n v d (λ (e : n ≡ i). omega (arith, h, e))

  -- and behind them
  pub sets_behind : (l vs : List A) (i n : ℕ) (d : A) → i + length vs ≤ n → get_or (sets l i vs) n d ≡ get_or l n d
  sets_behind l [] i n d h = refl
  sets_behind l (v ∷ vs) i n d h =
      sets_behind (set l i v) vs (suc i) n d (omega (arith, h))
      ∙ get_or-set_other l i n v d (λ (e : n ≡ i). omega (arith, h, e))

  -- read back
  pub sets-read : (l vs : List A) (i n : ℕ) (d : A) → i + length vs ≤ length l → n < length vs
      → get_or (sets l i vs) (i + n) d ≡ get_or vs n d
  sets-read l vs i n d room inside =
      let front : length (take i l) ≡ i = length-take-le i l (omega (arith, room)) in
      let short : i + n < length (take i l ++ vs) = omega (arith, length-append (take i l) vs, front, inside) in
      ap (λ (k : List A). get_or k (i + n) d) (sets-eq vs l i room)
      ∙ get_or-append (take i l ++ vs) (drop (i + length vs) l) d (i + n) short
      ∙ ap (λ (k : ℕ). get_or (take i l ++ vs) (k + n) d) (sym front)
      ∙ get_or-append-add (take i l) vs n d

-- ---- the numbers of things, one thing after the other
module _ {A : Type 0} {B : Type 0} where
  pub flat_append : (numbers : B → List A) (bs more : List B)
      → flat numbers (bs ++ more) ≡ flat numbers bs ++ flat numbers more
  flat_append numbers [] more = refl
  flat_append numbers (b ∷ bs) more =
      ap (λ (l : List A). numbers b ++ l) (flat_append numbers bs more)
      ∙ sym (append_assoc (numbers b) (flat numbers bs) (flat numbers more))

  pub flat-length : (numbers : B → List A) (width : ℕ) → ((b : B) → length (numbers b) ≡ width)
      → (bs : List B) → length (flat numbers bs) ≡ length bs * width
  flat-length numbers width each [] = omega arith
  flat-length numbers width each (b ∷ bs) =
      let n = length bs in
      omega (
        arith,
        length-append (numbers b) (flat numbers bs),
        each b,
        flat-length numbers width each bs,
        add-mul n 1 width,
      )
