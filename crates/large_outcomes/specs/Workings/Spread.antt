-- Rows of three numbers, spread into rows of five from the last to the first, as `src/spread.rt` does it. `five` says what five
-- numbers a row's three become: by the names of both paths' segments, or with halves 0. A name is one word: the index of a
-- segment times 4, and its half.
use Rattle.std.specs.Prelude.{List, [], ◌∷◌, ℕ, zero, suc, ◌+◌, ◌*◌, ◌/◌, ◌%◌, get_or}
use Rattle.std.proofs.lemmas.List.Edits.{sets}
use Rattle.listing_pairs.specs.declared.row.Row.{Row}
use Rattle.listing_pairs.specs.Row.{indices_a_row}
use Rattle.large_outcomes.specs.LargeRow.{large_indices_a_row}

abbrev pub halves : ℕ
halves = 4

-- two names and the class
abbrev pub names_and_class : ℕ → ℕ → ℕ → List ℕ
names_and_class first second class =
    first / halves ∷ first % halves ∷ second / halves ∷ second % halves ∷ class ∷ []

-- by the words of both paths' names
abbrev pub by_names : List ℕ → List ℕ → ℕ → ℕ → ℕ → List ℕ
by_names first second i j class = names_and_class (get_or first i 0) (get_or second j 0) class

-- no segment is cut
abbrev pub zero_halves : ℕ → ℕ → ℕ → List ℕ
zero_halves i j class = i ∷ 0 ∷ j ∷ 0 ∷ class ∷ []

-- what row k of three numbers becomes
abbrev pub spread_row : (ℕ → ℕ → ℕ → List ℕ) → List ℕ → ℕ → List ℕ
spread_row five l k =
    five (get_or l (k * indices_a_row) 0) (get_or l (k * indices_a_row + 1) 0) (get_or l (k * indices_a_row + 2) 0)

abbrev pub spread : (ℕ → ℕ → ℕ → List ℕ) → ℕ → List ℕ → List ℕ
spread five zero l = l
spread five (suc k) l = spread five k (sets l (k * large_indices_a_row) (spread_row five l k))

-- the five numbers of a row
abbrev pub numbers_by : (ℕ → ℕ → ℕ → List ℕ) → Row → List ℕ
numbers_by five r = five r.i r.j r.class

abbrev pub five_of : List ℕ → List ℕ → Row → List ℕ
five_of first second = numbers_by (by_names first second)
