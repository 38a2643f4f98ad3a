-- A path that begins with a large arc, as `src/old_answer.rt` tests it.
use Rattle.std.specs.Prelude.{◌≡◌, refl, Bool, false, cond, List, ℕ, ◌≤◌, ◌<◌, Float}
use Rattle.std.proofs.Common.{sym, ap, ◌∙◌, arith, le-ltb, lt-ltb}
use Rattle.plane.specs.declared.pline_vertex.PlineVertex.{PlineVertex}
use Rattle.paths.specs.Path.{vertex_count, vertex}
use Rattle.cuts.specs.Cut.{is_large}
use Rattle.large_calls.specs.Workings.Answers.{starts_large}

pub starts-so : (path : List Float) (n : ℕ) → n ≡ vertex_count path → 0 < n → (v : PlineVertex) → v ≡ vertex path 0 → (r : Bool)
    → r ≡ is_large v.bulge → r ≡ starts_large path
unfolding starts_large
starts-so path n is some v there r told =
    rw (lt-ltb 0 (vertex_count path) (omega (arith, is, some))) (told ∙ ap (λ (u : PlineVertex). is_large u.bulge) there)

pub starts-not : (path : List Float) (n : ℕ) → n ≡ vertex_count path → n ≤ 0 → false ≡ starts_large path
unfolding starts_large
starts-not path n is none = rw (le-ltb 0 (vertex_count path) (omega (arith, is, none))) refl
