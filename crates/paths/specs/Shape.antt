-- The scope's refusals 6 and 7: the check of a lent slice before those of its numbers. The place of the fault is the path,
-- `Length`.
use Rattle.checks.specs.Checked.{Checked}
use Rattle.std.specs.Prelude.{Bool, not, ◌||◌, List, ℕ, ◌%◌, eqb, ltb, length, Float}
use Rattle.checks.specs.declared.fault.Item.TheVariants.{Length}
use Rattle.checks.specs.Fault.{at, refuse, later}
use Rattle.checks.specs.Refusal
use Rattle.paths.specs.Path.{numbers_a_vertex, most_vertices, vertex_count}

-- the length is no multiple of 4
abbrev pub broken : List Float → Bool
broken path = not (eqb (length path % numbers_a_vertex) 0)

-- there are more than 4,096 vertices
abbrev pub too_long : List Float → Bool
too_long path = ltb most_vertices (vertex_count path)

-- the path gets refusal 6 or 7
unfoldable pub refused : List Float → Bool
refused path = broken path || too_long path

-- 6, then 7
unfoldable pub shape : List Float → ℕ → Checked
shape path owner =
    let place = at owner 0 Length in
    later (refuse (broken path) Refusal.path_length place) (refuse (too_long path) Refusal.vertices place)
