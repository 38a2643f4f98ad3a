-- A path has at most as many segments as vertices, and at most 4,096; a segment ends at a vertex of the path; and what `segment`
-- answers for an index that is a segment's, and for one that is not.
use Rattle.std.specs.Prelude.{◌≡◌, refl, Bool, true, false, cond, List, ℕ, ◌+◌, ◌-◌, ◌≤◌, ◌<◌, ltb, Float}
use Rattle.std.proofs.Common.{arith, ltb-true, ltb-false}
use Rattle.checks.specs.Laws.Fine.{neither}
use Rattle.paths.specs.Path.{most_vertices, vertex_count}
use Rattle.paths.specs.Shape.{broken, too_long, refused}
use Rattle.paths.specs.Segments.{segment_count, after}

pub count-within : (path : List Float) (closed : Bool) → segment_count path closed ≤ vertex_count path
unfolding segment_count
count-within path closed = go (refused path) (ltb (vertex_count path) 2) closed (vertex_count path)
  where
    go : (a b c : Bool) (n : ℕ) → cond a 0 (cond b 0 (cond c n (n - 1))) ≤ n
    go true b c n = omega arith
    go false true c n = omega arith
    go false false true n = omega arith
    go false false false n = omega arith

pub after-within : (path : List Float) (i : ℕ) → i < vertex_count path → after path i < vertex_count path
unfolding after
after-within path i h = go (ltb (i + 1) (vertex_count path)) (ltb-true (i + 1) (vertex_count path))
  where
    go : (b : Bool) → (b ≡ true → i + 1 < vertex_count path) → cond b (i + 1) 0 < vertex_count path
    go true below = below refl
    go false below = omega (arith, h)

pub few-vertices : (path : List Float) → refused path ≡ false → vertex_count path ≤ most_vertices
unfolding refused
few-vertices path e = ltb-false most_vertices (vertex_count path) ((neither (broken path) (too_long path)).0 e).1

pub few-segments : (path : List Float) (closed : Bool) → segment_count path closed ≤ most_vertices
unfolding segment_count
few-segments path closed = go (refused path) (few-vertices path) (ltb (vertex_count path) 2) closed (vertex_count path) refl
  where
    go : (a : Bool) → (a ≡ false → vertex_count path ≤ most_vertices) → (b c : Bool) (n : ℕ) → n ≡ vertex_count path
        → cond a 0 (cond b 0 (cond c n (n - 1))) ≤ most_vertices
    go true few b c n e = omega arith
    go false few true c n e = omega arith
    go false few false true n e = omega (arith, few refl, e)
    go false few false false n e = omega (arith, few refl, e)
