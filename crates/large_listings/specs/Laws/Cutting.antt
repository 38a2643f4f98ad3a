-- What was written to the front of a slice is the front of it.
use Rattle.std.specs.Prelude.{◌≡◌, refl, Bool, true, false, cond, ◌&&◌, List, ◌++◌, map, ℕ, zero, suc, ◌+◌, ◌*◌, ◌≤◌, Float, ltb, length, take, drop}
use Rattle.std.proofs.Common.{sym, ap, ◌∙◌, zero-add, add-mul, arith, length-append, take_at}
use Rattle.std.proofs.lemmas.List.{length-map}
use Rattle.std.proofs.lemmas.List.Edits.{sets, sets-eq}
use Rattle.std.proofs.Math.Seq.{length-sets}
use Rattle.paths.specs.Path.{vertex_count}
use Rattle.paths.specs.Segments.{segment_count, segment_from}
use Rattle.paths.specs.Laws.Segments.{count-within}
use Rattle.cuts.specs.Cut.{is_large, bent, cut_vertex}
use Rattle.cuts.specs.CutPath.{joined, numbers_of, vertices_of, cut_path, cut_count, names, word_of, name_words}
use Rattle.cuts.specs.Segments.{count_most}
use Rattle.cuts.specs.Written.{Put}
use Rattle.large_listings.specs.declared.cutting.Sizes.{Sizes}
use Rattle.large_listings.specs.Workings.Cutting.{Roomy, Cut}

module _ {A : Type 0} (list old now : List A) (next : ℕ) (put : Put list old 0 now next) (room : length list ≤ length old) where
  ends : next ≡ length list
  ends = put.behind ∙ zero-add (length list)

  pub put_front : take next now ≡ list
  put_front =
      ap (λ (l : List A). take next l) (put.contents ∙ sets-eq list old 0 (omega (arith, room)))
      ∙ take_at list (drop (0 + length list) old) next (sym ends)

  pub put-inside : next ≤ length now
  put-inside = omega (arith, ends, room, ap length put.contents, length-sets old 0 list)

-- ---- the cut path is at most twice as long as the path
joined-short : (part : ℕ → List Float) (b : ℕ) → ((i : ℕ) → length (part i) ≤ b) → (i k : ℕ) → length (joined part i k) ≤ k * b
joined-short part b short i zero = omega arith
joined-short part b short i (suc k) =
    omega (
      arith,
      length-append (part i) (joined part (i + 1) k),
      short i,
      joined-short part b short (i + 1) k,
      add-mul k 1 b,
    )

vertices-short : (path : List Float) (n i : ℕ) → length (vertices_of path n i) ≤ 8
unfolding vertices_of
vertices-short path n i = go (ltb i n && is_large (segment_from path i).v1.bulge)
  where
    go : (b : Bool)
        → length (cond b
        (numbers_of (bent (segment_from path i).v1) (segment_from path i).trace
        ++ numbers_of (cut_vertex (segment_from path i).v1 (segment_from path i).v2) (segment_from path i).trace)
        (numbers_of (segment_from path i).v1 (segment_from path i).trace))
        ≤ 8
    go true = omega arith
    go false = omega arith

cut_fits : (path : List Float) (closed : Bool) → length (cut_path path closed) ≤ length path * 2
unfolding cut_path
cut_fits path closed =
    omega (
      arith,
      joined-short (vertices_of path (segment_count path closed)) 8 (vertices-short path (segment_count path closed)) 0
          (vertex_count path),
    )

pub cut-done : (path : List Float) (closed : Bool) (floats floats₁ : List Float) (names names₁ : List ℕ) (n k : ℕ)
    → Put (cut_path path closed) floats 0 floats₁ n → Put (name_words path closed) names 0 names₁ k
    → Roomy path floats names
    → Cut path closed floats₁ names₁ (record { floats = n; segments = k })
cut-done path closed floats floats₁ others others₁ n k a b room =
    let fits : length (cut_path path closed) ≤ length floats = omega (arith, cut_fits path closed, room.floats-fit) in
    let names-fit : cut_count path closed ≤ length others =
    omega (arith, count_most path closed, count-within path closed, room.names-fit) in
    let count : length (name_words path closed) ≡ cut_count path closed = length-map (names path closed) word_of in
    let few : length (name_words path closed) ≤ length others = omega (arith, count, names-fit) in
    record {
      path-is = put_front (cut_path path closed) floats floats₁ n a fits;
      names-are = put_front (name_words path closed) others others₁ k b few;
      count-is = ends (name_words path closed) others others₁ k b few ∙ count;
      inside = put-inside (cut_path path closed) floats floats₁ n a fits;
      names-inside = put-inside (name_words path closed) others others₁ k b few;
    }
