-- If a call of the old mode takes the cut path, that is if it has at most 4,096 vertices, then the old mode finds as many
-- segments in it, and the rows of the mode of large arcs are the old mode's rows of the cut paths.
use Rattle.std.specs.Prelude.{◌≡◌, refl, Bool, true, false, cond, List, ℕ, ◌+◌, ◌-◌, ◌*◌, ◌≤◌, ◌<◌, ltb, Float}
use Rattle.std.proofs.Common.{sym, ap, ◌∙◌, arith, ltb-true, ltb-false, lt-ltb, le-ltb}
use Rattle.paths.specs.Path.{vertex_count}
use Rattle.paths.specs.Shape.{refused}
use Rattle.paths.specs.Segments.{segment_count}
use Rattle.cuts.specs.CutPath.{cut_path, cut_count}
use Rattle.cuts.specs.Segments.{count-least, count_most, vertices}
use Rattle.listing_pairs.specs.Order.{mutual_pairs, self_pairs}
use Rattle.listing_pairs.specs.Look.{traced_look, self_look_of, traced_self_look}
use Rattle.listing_pairs.specs.Traces.{traced}
use Rattle.listing_pairs.specs.Rows.{rows_of}
use Rattle.month.specs.Counted.{mutual_rows}
use Rattle.large_listings.specs.LargeListings.{mutual_large_look, mutual_large_pairs, self_large_look, self_large_pairs}

-- a path that gets neither 6 nor 7, and neither does its cut path
pub record Taken (path : List Float) (closed : Bool) : Type 0 where
  pub before : refused path ≡ false
  pub cut : refused (cut_path path closed) ≡ false

count : (path : List Float) (closed : Bool) → refused path ≡ false
    → segment_count path closed ≡ cond (ltb (vertex_count path) 2) 0 (cond closed (vertex_count path) (vertex_count path - 1))
unfolding segment_count
count path closed e = rw e refl

pub same_count : (path : List Float) (closed : Bool) → Taken path closed
    → segment_count (cut_path path closed) closed ≡ cut_count path closed
same_count path closed t =
    count (cut_path path closed) closed t.cut
    ∙ go closed (vertex_count path) (vertex_count (cut_path path closed)) (segment_count path closed) (cut_count path closed)
    (count path closed t.before) (vertices path closed) (count-least path closed) (count_most path closed)
  where
    go : (b : Bool) (c d n m : ℕ) → n ≡ cond (ltb c 2) 0 (cond b c (c - 1)) → d + n ≡ m + c → n ≤ m → m ≤ n * 2
        → cond (ltb d 2) 0 (cond b d (d - 1)) ≡ m
    go b c d n m is sum least most = few (ltb c 2) (ltb-true c 2) (ltb-false c 2) is
      where
        none : (x : ℕ) → d < 2 → cond (ltb d 2) 0 x ≡ 0
        none x h = ap (λ (t : Bool). cond t 0 x) (lt-ltb d 2 h)

        some : (x : ℕ) → 2 ≤ d → cond (ltb d 2) 0 x ≡ x
        some x h = ap (λ (t : Bool). cond t 0 x) (le-ltb d 2 h)

        few : (t : Bool) → (t ≡ true → c < 2) → (t ≡ false → 2 ≤ c) → n ≡ cond t 0 (cond b c (c - 1))
            → cond (ltb d 2) 0 (cond b d (d - 1)) ≡ m
        few true short long e =
            none (cond b d (d - 1)) (omega (arith, short refl, e, sum, least, most)) ∙ omega (arith, e, least, most)
        few false short long e = by b e
          where
            by : (b : Bool) → n ≡ cond b c (c - 1) → cond (ltb d 2) 0 (cond b d (d - 1)) ≡ m
            by true f = some d (omega (arith, long refl, f, sum, least)) ∙ omega (arith, f, sum)
            by false f = some (d - 1) (omega (arith, long refl, f, sum, least)) ∙ omega (arith, long refl, f, sum)

-- ---- the rows
pub mutual-rows-same : (first : List Float) (first_closed : Bool) (second : List Float) (second_closed : Bool) (epsilon : Float)
    → Taken first first_closed → Taken second second_closed
    → rows_of (mutual_large_look first first_closed second second_closed epsilon)
    (mutual_large_pairs first first_closed second second_closed)
    ≡ mutual_rows (cut_path first first_closed) first_closed (cut_path second second_closed) second_closed epsilon
mutual-rows-same first first_closed second second_closed epsilon t u =
    let f = traced_look (cut_path first first_closed) (cut_path second second_closed) epsilon in
    ap (λ (n : ℕ). rows_of f (mutual_pairs n (cut_count second second_closed))) (sym (same_count first first_closed t))
    ∙ ap (λ (m : ℕ). rows_of f (mutual_pairs (segment_count (cut_path first first_closed) first_closed) m))
    (sym (same_count second second_closed u))

pub self-rows-same : (path : List Float) (closed : Bool) (epsilon : Float) → Taken path closed
    → rows_of (self_large_look path closed epsilon) (self_large_pairs path closed)
    ≡ rows_of (traced_self_look (cut_path path closed) closed epsilon) (self_pairs (segment_count (cut_path path closed) closed))
self-rows-same path closed epsilon t =
    let cut = cut_path path closed in
    ap (λ (n : ℕ). rows_of (traced cut cut (self_look_of n cut closed epsilon)) (self_pairs n)) (sym (same_count path closed t))
