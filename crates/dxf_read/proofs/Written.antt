-- The floats of a vertex, as they are written.
use Prim.Native.Nat.{ℕ, suc, ◌+◌, ◌*◌, ◌-◌, ◌≤◌, ◌<◌}
use mathlib.Core.Path.{◌≡◌}
use mathlib.Core.List.{List, [], ◌∷◌}
use native.Mathlib.Omega.{arith}
use borrow.Author.Tests.{lt-ltb, le-ltb, eq-eqb, ne_eqb}
use lib.ListN.{set}
use lib.Seq.{sets}
use lib.Ieee.{Float}
use Rattle.paths.specs.Path.{numbers_a_vertex, most_vertices}
use Rattle.dxf_form.specs.Numbers.{trace}
use Rattle.dxf_read.specs.Workings.Scanning.{started, changed}

-- four floats written one after the other
four-set : (old : List Float) (k : ℕ) (x y b t : Float)
    → set (set (set (set old k x) (k + 1) y) (k + 2) b) (k + 3) t ≡ sets old k (x ∷ y ∷ b ∷ t ∷ [])
four-set old k x y b t =
    let one : k + 1 ≡ suc k = omega arith in
    let two : k + 2 ≡ suc (suc k) = omega arith in
    let three : k + 3 ≡ suc (suc (suc k)) = omega arith in
    rw (one, two, three)

module _ (x : Float) (n : ℕ) (out : List Float) where
  pub all-started : n < most_vertices
      → set (set (set (set out (n * numbers_a_vertex) x) (n * numbers_a_vertex + 1) trace) (n * numbers_a_vertex + 2) trace)
      (n * numbers_a_vertex + 3) trace
      ≡ started x n out
  unfolding started
  all-started h = rw (lt-ltb n most_vertices h) (four-set out (n * numbers_a_vertex) x trace trace trace)

  pub not-started : most_vertices ≤ n → out ≡ started x n out
  unfolding started
  not-started h = rw (le-ltb n most_vertices h)

module _ (k : ℕ) (v : Float) (n : ℕ) (out : List Float) where
  pub none-changed : n ≡ 0 → out ≡ changed k v n out
  unfolding changed
  none-changed h = rw (eq-eqb n 0 h)

  module _ (some : n ≡ 0 → ⊥) where
    pub past-changed : most_vertices < n → out ≡ changed k v n out
    unfolding changed
    past-changed h = rw (ne_eqb n 0 some, lt-ltb most_vertices n h)

    pub last-changed : n ≤ most_vertices → set out ((n - 1) * numbers_a_vertex + k) v ≡ changed k v n out
    unfolding changed
    last-changed h = rw (ne_eqb n 0 some, le-ltb most_vertices n h)
