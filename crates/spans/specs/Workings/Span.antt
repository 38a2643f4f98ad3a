-- Spans, operation by operation: src/span.rt.
use Rattle.std.specs.Prelude.{Bool, cond, ◌||◌, Float}
use Rattle.std.specs.Float.Ieee.{neg}
use Rattle.floats.specs.Ops.{◌⊕◌, ◌⊖◌, ◌⊗◌, ◌⊘◌, ◌≺◌, ◌≼◌, ◌≽◌, f0, f2}
use Rattle.spans.specs.declared.span.Span.{Span}

unfoldable pub lower : Float → Float → Float
lower a b = cond (a ≺ b) a b

unfoldable pub upper : Float → Float → Float
upper a b = cond (a ≺ b) b a

unfoldable pub between : Float → Float → Span
between a b = record { least = lower a b; most = upper a b }

unfoldable pub plus : Float → Span → Span
plus c s = record { least = c ⊕ s.least; most = c ⊕ s.most }

unfoldable pub less : Float → Span → Span
less c s = record { least = c ⊖ s.most; most = c ⊖ s.least }

unfoldable pub minus : Span → Float → Span
minus s c = record { least = s.least ⊖ c; most = s.most ⊖ c }

unfoldable pub difference : Span → Span → Span
difference s t = record { least = s.least ⊖ t.most; most = s.most ⊖ t.least }

unfoldable pub sum : Span → Span → Span
sum s t = record { least = s.least ⊕ t.least; most = s.most ⊕ t.most }

unfoldable pub times : Float → Span → Span
times c s = between (c ⊗ s.least) (c ⊗ s.most)

unfoldable pub doubled : Span → Span
doubled s = record { least = f2 ⊗ s.least; most = f2 ⊗ s.most }

unfoldable pub over : Span → Float → Span
over s c = between (s.least ⊘ c) (s.most ⊘ c)

unfoldable pub under : Float → Span → Span
under c s = between (c ⊘ s.least) (c ⊘ s.most)

unfoldable pub ratio : Span → Span → Span
ratio s t =
    cond (s.least ≽ f0)
    (record { least = s.least ⊘ t.most; most = s.most ⊘ t.least })
    (record { least = s.least ⊘ t.least; most = s.most ⊘ t.most })

unfoldable pub square : Span → Span
square s =
    let a = s.least ⊗ s.least in
    let b = s.most ⊗ s.most in
    cond (s.least ≽ f0) (record { least = a; most = b }) (record { least = b; most = a })

unfoldable pub apart : Span → Float → Bool
apart gap eps = (gap.least ≽ eps) || (gap.most ≼ neg eps)
