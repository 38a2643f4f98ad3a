-- What the checks of one path, or of two, find fits into a word: epsilon's, the shapes', and then any checks of a path's numbers
-- that do so for every path of a fair shape. Both modes of arcs are instances.
use Rattle.checks.specs.Checked.{Checked}
use Rattle.std.specs.Prelude.{◌≡◌, Bool, List, [], ◌∷◌, ◌++◌, ℕ, ◌≤◌, ◌<◌, Float, Ok}
use Rattle.std.proofs.Common.{sym, ◌∙◌, arith}
use Rattle.checks.specs.Each
use Rattle.checks.specs.First.{first as first_fault}
use Rattle.checks.specs.Word.{owners}
use Rattle.checks.specs.Laws.Chains.{first-append}
use Rattle.checks.specs.Laws.Later.{later-fine}
use Rattle.checks.specs.Laws.RefusalNumbers.{Small, fine, and, epsilon, append-then}
use Rattle.paths.specs.Path.{most_vertices, vertex_count}
use Rattle.paths.specs.Shape.{shape}
use Rattle.paths.specs.Laws.RefusalNumbers.{shape-small, shape-few}

-- the earlier of two lists of checks is fine if both are
front-fine : (cs ds : List Checked) → first_fault (cs ++ ds) ≡ Ok tt → first_fault cs ≡ Ok tt
front-fine cs ds e = ((later-fine (first_fault cs) (first_fault ds)).0 (sym (first-append cs ds) ∙ e)).0

-- ---- two paths' shapes
module _ (first second : List Float) (eps : Float) where
  abbrev shapes : List Checked
  shapes = Each.epsilon eps ∷ shape first 0 ∷ shape second 1 ∷ []

  abbrev later-shapes : List Checked
  later-shapes = shape first 0 ∷ shape second 1 ∷ []

  shapes-small : Small (first_fault shapes)
  shapes-small =
      and (epsilon eps) (and (shape-small first 0 (omega arith)) (and (shape-small second 1 (omega arith)) fine))

  both-shapes : first_fault shapes ≡ Ok tt → first_fault later-shapes ≡ Ok tt
  both-shapes e = ((later-fine (Each.epsilon eps) (first_fault later-shapes)).0 e).1

  first-shape : first_fault shapes ≡ Ok tt → shape first 0 ≡ Ok tt
  first-shape e = ((later-fine (shape first 0) (first_fault (shape second 1 ∷ []))).0 (both-shapes e)).0

  second-shape : first_fault shapes ≡ Ok tt → shape second 1 ≡ Ok tt
  second-shape e =
      ((later-fine (shape second 1) (Ok tt)).0 ((later-fine (shape first 0) (first_fault (shape second 1 ∷ []))).0 (both-shapes e)).1).0

-- ---- with the paths' numbers
module _ (of_path : List Float → Bool → ℕ → List Checked)
    (small : (path : List Float) (owner : ℕ) → owner < owners → (closed : Bool) → vertex_count path ≤ most_vertices
    → Small (first_fault (of_path path closed owner))) where
  pub two-paths : (first : List Float) (first_closed : Bool) (second : List Float) (second_closed : Bool) (eps : Float)
      → Small (first_fault (shapes first second eps ++ of_path first first_closed 0 ++ of_path second second_closed 1))
  two-paths first first_closed second second_closed eps =
      append-then (shapes first second eps ++ of_path first first_closed 0) (of_path second second_closed 1)
      (append-then (shapes first second eps) (of_path first first_closed 0) (shapes-small first second eps)
      (λ e. small first 0 (omega arith) first_closed (shape-few first 0 (first-shape first second eps e))))
      (λ e. small second 1 (omega arith) second_closed
      (shape-few second 1
      (second-shape first second eps (front-fine (shapes first second eps) (of_path first first_closed 0) e))))

  pub one-path : (path : List Float) (closed : Bool) (eps : Float)
      → Small (first_fault ((Each.epsilon eps ∷ shape path 0 ∷ []) ++ of_path path closed 0))
  one-path path closed eps =
      let shaped : List Checked = Each.epsilon eps ∷ shape path 0 ∷ [] in
      append-then shaped (of_path path closed 0) (and (epsilon eps) (and (shape-small path 0 (omega arith)) fine))
      (λ e. small path 0 (omega arith) closed
      (shape-few path 0 ((later-fine (shape path 0) (Ok tt)).0
      ((later-fine (Each.epsilon eps) (first_fault (shape path 0 ∷ []))).0 e).1).0))
