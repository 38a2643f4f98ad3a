-- How many results there are, and in which order: one, two or four; the halves of the first segment are outermost.
use Rattle.std.specs.Prelude.{ℕ, ◌*◌, ◌≡◌, refl, Bool, true, false, cond, ◌⊎◌, List, [], ◌∷◌, length, Float}
use Rattle.std.proofs.Common.{inl, inr}
use Rattle.float_laws.specs.Flat.{flat}
use Rattle.plane.specs.declared.pline_vertex.PlineVertex.{PlineVertex}
use Rattle.crossing.specs.PlineSeg.{pline_seg}
use Rattle.cuts.specs.Cut.{is_large, bent, cut_vertex}
use Rattle.large_pair.specs.LargePair.{Part, Result, parts_of, result, results_of}

-- two parts if the segment is cut, else one
abbrev pub parts : PlineVertex → ℕ
parts v1 = cond (is_large v1.bulge) 2 1

abbrev pub whole : PlineVertex → PlineVertex → Part
whole v1 v2 = record { half = 0; start = v1; end = v2 }

abbrev pub first_half : PlineVertex → PlineVertex → Part
first_half v1 v2 = record { half = 1; start = bent v1; end = cut_vertex v1 v2 }

abbrev pub second_half : PlineVertex → PlineVertex → Part
second_half v1 v2 = record { half = 2; start = cut_vertex v1 v2; end = v2 }

-- by whether it is cut
abbrev parts_by : Bool → PlineVertex → PlineVertex → List Part
parts_by large v1 v2 = cond large (first_half v1 v2 ∷ second_half v1 v2 ∷ []) (whole v1 v2 ∷ [])

module _ (v1 v2 u1 u2 : PlineVertex) (pos_equal_eps : Float) where
  abbrev meet : Part → Part → Result
  meet v u = result pos_equal_eps v u

  abbrev found : List Result
  found = results_of v1 v2 u1 u2 pos_equal_eps

  -- ---- how many
  pub count : length found ≡ parts v1 * parts u1
  count = go (is_large v1.bulge) (is_large u1.bulge)
    where
      go : (v u : Bool)
          → length (flat
          (λ (a : Part). flat (λ (b : Part). meet a b ∷ []) (parts_by u u1 u2)) (parts_by v v1 v2))
          ≡ cond v 2 1 * cond u 2 1
      go true true = refl
      go true false = refl
      go false true = refl
      go false false = refl

  pub one-two-or-four : (length found ≡ 1) ⊎ ((length found ≡ 2) ⊎ (length found ≡ 4))
  one-two-or-four = go (is_large v1.bulge) (is_large u1.bulge) (length found) count
    where
      go : (v u : Bool) (n : ℕ) → n ≡ cond v 2 1 * cond u 2 1 → (n ≡ 1) ⊎ ((n ≡ 2) ⊎ (n ≡ 4))
      go true true n e = inr (inr e)
      go true false n e = inr (inl e)
      go false true n e = inr (inl e)
      go false false n e = inl e

  -- ---- in which order
  pub neither-cut : is_large v1.bulge ≡ false → is_large u1.bulge ≡ false → found ≡ meet (whole v1 v2) (whole u1 u2) ∷ []
  neither-cut e f = rw (e, f) refl

  pub first-cut : is_large v1.bulge ≡ true → is_large u1.bulge ≡ false
      → found ≡ meet (first_half v1 v2) (whole u1 u2) ∷ meet (second_half v1 v2) (whole u1 u2) ∷ []
  first-cut e f = rw (e, f) refl

  pub second-cut : is_large v1.bulge ≡ false → is_large u1.bulge ≡ true
      → found ≡ meet (whole v1 v2) (first_half u1 u2) ∷ meet (whole v1 v2) (second_half u1 u2) ∷ []
  second-cut e f = rw (e, f) refl

  pub both-cut : is_large v1.bulge ≡ true → is_large u1.bulge ≡ true
      → found
      ≡ meet (first_half v1 v2) (first_half u1 u2)
      ∷ meet (first_half v1 v2) (second_half u1 u2)
      ∷ meet (second_half v1 v2) (first_half u1 u2)
      ∷ meet (second_half v1 v2) (second_half u1 u2)
      ∷ []
  both-cut e f = rw (e, f) refl
