-- What the functions of src/base_math.rt answer: base_math.rs, line for line.
use Rattle.std.specs.Prelude.{cond, Float}
use Rattle.floats.specs.Ops.{◌⊖◌, ◌⊘◌, ◌≺◌}
use Rattle.floats.specs.F64
use Rattle.plane.specs.Vector2 as vector2
use Rattle.plane.specs.declared.vector2.Vector2.{Vector2}
use Rattle.plane.specs.declared.base_math.MinMax.{MinMax}

-- base_math.rs 16-21
unfoldable pub min_max : Float → Float → MinMax
min_max v1 v2 = cond (v1 ≺ v2) (record { min = v1; max = v2 }) (record { min = v2; max = v1 })

-- base_math.rs 260-266
unfoldable pub dist_squared : Vector2 → Vector2 → Float
dist_squared p0 p1 =
    let d = vector2.sub p0 p1 in
    vector2.dot d d

-- base_math.rs 299-304
unfoldable pub point_from_parametric : Vector2 → Vector2 → Float → Vector2
point_from_parametric p0 p1 t = vector2.add p0 (vector2.scale (vector2.sub p1 p0) t)

-- base_math.rs 312-336; the release build counts, and it does not read epsilon
unfoldable pub parametric_from_point : Vector2 → Vector2 → Vector2 → Float → Float
parametric_from_point p0 p1 point epsilon =
    let x_diff = p1.x ⊖ p0.x in
    let y_diff = p1.y ⊖ p0.y in
    cond (F64.abs x_diff ≺ F64.abs y_diff)
    ((point.y ⊖ p0.y) ⊘ y_diff)
    ((point.x ⊖ p0.x) ⊘ x_diff)
