-- What the comparisons of src/fuzzy.rt answer: from the scope's rules, since the text of the Rust's fuzzy traits is not at hand.
use Rattle.std.specs.Prelude.{Bool, ◌&&◌, Float}
use Rattle.std.specs.Float.{binary64}
use Rattle.std.specs.Float.Ieee.{of_bits}
use Rattle.floats.specs.Ops.{◌⊕◌, ◌⊖◌, ◌≺◌, ◌≻◌}
use Rattle.floats.specs.F64

-- the default epsilon: 1e-8
abbrev pub fuzzy_epsilon : Float
fuzzy_epsilon = of_bits binary64 0x3e45_798e_e230_8c3a

-- near zero: |a| < eps
unfoldable pub fuzzy_eq_zero_eps : Float → Float → Bool
fuzzy_eq_zero_eps a eps = F64.abs a ≺ eps

abbrev pub fuzzy_eq_zero : Float → Bool
fuzzy_eq_zero a = fuzzy_eq_zero_eps a fuzzy_epsilon

-- near equal: |a - b| < eps
unfoldable pub fuzzy_eq_eps : Float → Float → Float → Bool
fuzzy_eq_eps a b eps = F64.abs (a ⊖ b) ≺ eps

-- "greater": a + eps > b
abbrev pub fuzzy_gt_eps : Float → Float → Float → Bool
fuzzy_gt_eps a b eps = a ⊕ eps ≻ b

-- "less": a < b + eps
abbrev pub fuzzy_lt_eps : Float → Float → Float → Bool
fuzzy_lt_eps a b eps = a ≺ b ⊕ eps

-- in range: both
unfoldable pub fuzzy_in_range_eps : Float → Float → Float → Float → Bool
fuzzy_in_range_eps a min max eps = fuzzy_gt_eps a min eps && fuzzy_lt_eps a max eps
