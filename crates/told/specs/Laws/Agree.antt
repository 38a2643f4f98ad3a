-- When computed points and an answer's points agree: a computed point that counts is one of the answer's points, and a point of
-- the answer is an end or a computed point that counts. If there are two of each, the first stands first and the second second.
use Rattle.std.specs.Prelude.{◌≡◌, refl, Bool, true, false, List, [], ◌∷◌, map, ◌⊎◌}
use Rattle.std.proofs.Common.{sym, ap, subst, ◌∙◌, inl, inr}
use Rattle.std.proofs.lemmas.Bool.{false≢true}
use Rattle.plane.specs.declared.vector2.Vector2.{Vector2}
use Rattle.told.specs.Stands.{Has}

-- a computed point, and whether it counts
pub record Mark : Type 0 where
  pub point : Vector2
  pub counts : Bool

abbrev pub Backed : (Vector2 → Type 0) → List Mark → Vector2 → Type 0
Backed End ms p = End p ⊎ ((m : Mark) × Has m ms × (m.counts ≡ true) × (m.point ≡ p))

abbrev IfTwo : (Vector2 → Vector2 → Type 0) → List Vector2 → Type 0
IfTwo P [] = Unit
IfTwo P (p ∷ []) = Unit
IfTwo P (p ∷ q ∷ []) = P p q
IfTwo P (p ∷ q ∷ r ∷ rest) = Unit

-- where computed points stand, if the answer has two points
abbrev pub Placed : List Mark → List Vector2 → Type 0
Placed [] ps = Unit
Placed (m ∷ []) ps = IfTwo (λ p q. m.counts ≡ false) ps
Placed (m ∷ n ∷ []) ps = IfTwo (λ p q. (m.counts ≡ true → m.point ≡ p) × (n.counts ≡ true → n.point ≡ q)) ps
Placed (m ∷ n ∷ k ∷ rest) ps = Unit

pub record Agree (End : Vector2 → Type 0) (ms : List Mark) (ps : List Vector2) : Type 0 where
  pub stands : (m : Mark) → Has m ms → m.counts ≡ true → Has m.point ps
  pub backed : (p : Vector2) → Has p ps → Backed End ms p
  pub placed : Placed ms ps

-- ---- lists

turned : {A : Type 0} {x a b : A} → Has x (a ∷ b ∷ []) → Has x (b ∷ a ∷ [])
turned (inl h) = inr (inl h)
turned (inr (inl h)) = inl h
turned (inr (inr h)) = absurd h

the_one : {A : Type 0} {x a : A} → Has x (a ∷ []) → x ≡ a
the_one (inl h) = h
the_one (inr h) = absurd h

pub mapped : {A B : Type 0} (f : A → B) (x : A) (l : List A) → Has x l → Has (f x) (map f l)
mapped f x [] h = absurd h
mapped f x (y ∷ l) (inl h) = inl (ap f h)
mapped f x (y ∷ l) (inr h) = inr (mapped f x l h)

pub from-map : {A B : Type 0} (f : A → B) (y : B) (l : List A) → Has y (map f l) → (x : A) × Has x l × (f x ≡ y)
from-map f y [] h = absurd h
from-map f y (x ∷ l) (inl h) = (x, inl refl, sym h)
from-map f y (x ∷ l) (inr h) = let found = from-map f y l h in (found.0, inr found.1, found.2)

-- ---- a computed point more: what was backed still is, and one that does not count is not in the answer

wider : (End : Vector2 → Type 0) (ms ns : List Mark) (p : Vector2) → ((m : Mark) → Has m ms → Has m ns)
    → Backed End ms p → Backed End ns p
wider End ms ns p f (inl h) = inl h
wider End ms ns p f (inr h) = inr (h.0, f h.0 h.1, h.2, h.3)

does_not : {m n : Mark} → m.counts ≡ false → n ≡ m → n.counts ≡ true → ⊥
does_not is same t = false≢true (sym is ∙ ap (λ (k : Mark). k.counts) (sym same) ∙ t)

-- ---- one point

module _ {End : Vector2 → Type 0} where
  pub nothing : Agree End [] []
  nothing = record { stands = λ m h t. absurd h; backed = λ p h. absurd h; placed = tt }

  -- a computed point that counts
  pub itself : (m : Mark) → m.counts ≡ true → Agree End (m ∷ []) (m.point ∷ [])
  itself m is =
      record {
        stands = λ n h t. inl (ap (λ (k : Mark). k.point) (the_one h));
        backed = λ p h. inr (m, inl refl, is, sym (the_one h));
        placed = tt;
      }

  -- an end, and no computed point that counts
  pub one_end : (p : Vector2) → End p → Agree End [] (p ∷ [])
  one_end p is = record { stands = λ m h t. absurd h; backed = λ q h. inl (subst End (sym (the_one h)) is); placed = tt }

  pub two_ends : (p q : Vector2) → End p → End q → Agree End [] (p ∷ q ∷ [])
  two_ends p q is is' = record { stands = λ m h t. absurd h; backed = from; placed = tt }
    where
      from : (r : Vector2) → Has r (p ∷ q ∷ []) → Backed End [] r
      from r (inl h) = inl (subst End (sym h) is)
      from r (inr h) = inl (subst End (sym (the_one h)) is')

  -- ---- a computed point more, which does not count

  pub left_out : {ms : List Mark} {ps : List Vector2} (m : Mark) → m.counts ≡ false → Agree End ms ps → Agree End (m ∷ ms) ps
  left_out {ms} {ps} m is w =
      record {
        stands = at;
        backed = λ p h. wider End ms (m ∷ ms) p (λ n h. inr h) (w.backed p h);
        placed = put ms ps w.placed;
      }
    where
      at : (n : Mark) → Has n (m ∷ ms) → n.counts ≡ true → Has n.point ps
      at n (inl same) t = absurd (does_not is same t)
      at n (inr h) t = w.stands n h t

      put : (ns : List Mark) (qs : List Vector2) → Placed ns qs → Placed (m ∷ ns) qs
      put [] [] h = tt
      put [] (p ∷ []) h = tt
      put [] (p ∷ q ∷ []) h = is
      put [] (p ∷ q ∷ r ∷ rest) h = tt
      put (n ∷ []) [] h = tt
      put (n ∷ []) (p ∷ []) h = tt
      put (n ∷ []) (p ∷ q ∷ []) h = (λ t. absurd (false≢true (sym is ∙ t)), λ t. absurd (false≢true (sym h ∙ t)))
      put (n ∷ []) (p ∷ q ∷ r ∷ rest) h = tt
      put (n ∷ k ∷ rest) qs h = tt

  -- the second of two
  pub second-left-out : {m : Mark} {ps : List Vector2} (n : Mark) → n.counts ≡ false → Agree End (m ∷ []) ps
      → Agree End (m ∷ n ∷ []) ps
  second-left-out {m} {ps} n is w =
      record {
        stands = at;
        backed = λ p h. wider End (m ∷ []) (m ∷ n ∷ []) p (λ k h. inl (the_one h)) (w.backed p h);
        placed = put ps w.placed;
      }
    where
      at : (k : Mark) → Has k (m ∷ n ∷ []) → k.counts ≡ true → Has k.point ps
      at k (inl same) t = w.stands k (inl same) t
      at k (inr h) t = absurd (does_not is (the_one h) t)

      put : (qs : List Vector2) → Placed (m ∷ []) qs → Placed (m ∷ n ∷ []) qs
      put [] h = tt
      put (p ∷ []) h = tt
      put (p ∷ q ∷ []) h = (λ t. absurd (false≢true (sym h ∙ t)), λ t. absurd (false≢true (sym is ∙ t)))
      put (p ∷ q ∷ r ∷ rest) h = tt

  -- an end stands in
  pub instead : (m : Mark) (p : Vector2) → m.counts ≡ false → End p → Agree End (m ∷ []) (p ∷ [])
  instead m p is is-end = left_out m is (one_end p is-end)

  -- ---- two points

  pub beside : {m n : Mark} {p q : Vector2} → Agree End (m ∷ []) (p ∷ []) → Agree End (n ∷ []) (q ∷ [])
      → Agree End (m ∷ n ∷ []) (p ∷ q ∷ [])
  beside {m} {n} {p} {q} w z =
      record {
        stands = at;
        backed = from;
        placed = (λ t. the_one (w.stands m (inl refl) t), λ t. the_one (z.stands n (inl refl) t));
      }
    where
      at : (k : Mark) → Has k (m ∷ n ∷ []) → k.counts ≡ true → Has k.point (p ∷ q ∷ [])
      at k (inl same) t = inl (the_one (w.stands k (inl same) t))
      at k (inr h) t = inr (z.stands k h t)

      from : (r : Vector2) → Has r (p ∷ q ∷ []) → Backed End (m ∷ n ∷ []) r
      from r (inl same) = wider End (m ∷ []) (m ∷ n ∷ []) r (λ k h. inl (the_one h)) (w.backed r (inl same))
      from r (inr h) = wider End (n ∷ []) (m ∷ n ∷ []) r (λ k h. inr h) (z.backed r h)

  pub exchanged : {m n : Mark} {p q : Vector2} → Agree End (m ∷ n ∷ []) (p ∷ q ∷ []) → Agree End (n ∷ m ∷ []) (q ∷ p ∷ [])
  exchanged {m} {n} {p} {q} w =
      record {
        stands = λ k h t. turned (w.stands k (turned h) t);
        backed = λ r h. wider End (m ∷ n ∷ []) (n ∷ m ∷ []) r (λ k h. turned h) (w.backed r (turned h));
        placed = (w.placed.1, w.placed.0);
      }
