-- When a span holds a root: src/root.rt.
use Rattle.std.specs.Prelude.{Bool, ◌&&◌}
use Rattle.floats.specs.Ops.{◌⊗◌, ◌≺◌}
use Rattle.crossing.specs.Workings.FarLine.{moderate}
use Rattle.spans.specs.declared.span.Span.{Span}

unfoldable pub holds_root : Span → Span → Bool
holds_root q s =
    ((moderate q.least && moderate q.most) && (moderate s.least && moderate s.most))
    && ((s.least ⊗ s.least ≺ q.least) && (q.most ≺ s.most ⊗ s.most))
