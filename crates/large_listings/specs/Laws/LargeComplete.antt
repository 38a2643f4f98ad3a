-- Where the five numbers of a row stand in the slice.
use Rattle.std.specs.Prelude.{◌≡◌, refl, List, [], ◌∷◌, ◌++◌, ℕ, ◌+◌, ◌*◌, ◌<◌, ◌≤◌, length, get_or, drop}
use Rattle.std.proofs.Common.{sym, ap, ◌∙◌, append_assoc, add-zero, arith, length-append, get_or-append-add}
use Rattle.float_laws.specs.Stores.{flat_append, flat-length}
use Rattle.cuts.specs.CutPath.{Name}
use Rattle.listing_pairs.specs.declared.row.Row.{Row}
use Rattle.listing_pairs.specs.Row.{numbers_of_rows}
use Rattle.listing_outcomes.specs.Outcome.{overwrite}
use Rattle.listing_calls.specs.Laws.Complete.{Within}
use Rattle.large_outcomes.specs.LargeRow.{large_indices_a_row, large_indices_of}
use Rattle.large_listings.specs.HasLargeRow.{LargeRowAt}

module _ (first second : ℕ → Name) where
  abbrev five : Row → List ℕ
  five = large_indices_of first second

  pub large-row-in-slice : (r : Row) (rows : List Row) (old : List ℕ) (w : Within r rows)
      → (length w.before < length rows)
      × LargeRowAt (overwrite old (numbers_of_rows (large_indices_of first second) rows)) (length w.before) (first r.i)
      (second r.j)
  large-row-in-slice r rows old w =
      let k = length w.before in
      let numbers = numbers_of_rows five rows in
      let front = numbers_of_rows five w.before in
      let rest = numbers_of_rows five w.after ++ drop (length numbers) old in
      let count = ap length w.is ∙ length-append w.before (r ∷ w.after) in
      let long : length front ≡ k * large_indices_a_row = flat-length five large_indices_a_row (λ r. refl) w.before in
      let shown : overwrite old numbers ≡ front ++ (five r ++ rest) =
      ap (λ (l : List ℕ). l ++ drop (length numbers) old)
      (ap (numbers_of_rows five) w.is ∙ flat_append five w.before (r ∷ w.after))
      ∙ append_assoc front (numbers_of_rows five (r ∷ w.after)) (drop (length numbers) old) in
      let whole = ap length shown ∙ length-append front (five r ++ rest) in
      let at : (n : ℕ) → get_or (overwrite old numbers) (k * large_indices_a_row + n) 0 ≡ get_or (five r ++ rest) n 0 =
      λ n. ap (λ (l : List ℕ). get_or l (k * large_indices_a_row + n) 0) shown
      ∙ ap (λ (m : ℕ). get_or (front ++ (five r ++ rest)) (m + n) 0) (sym long)
      ∙ get_or-append-add front (five r ++ rest) n 0 in (
        omega (arith, count),
        record {
          inside = omega (arith, whole, long);
          first = ap (λ (m : ℕ). get_or (overwrite old numbers) m 0) (sym (add-zero (k * large_indices_a_row))) ∙ at 0;
          first-half = at 1;
          second = at 2;
          second-half = at 3;
        },
      )
