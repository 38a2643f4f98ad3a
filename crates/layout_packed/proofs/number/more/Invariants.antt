-- The loop of `layout_packed::number::more`: what is left of the file, after the groups so far, reads as the whole does. The
-- groups so far stay below what the next one counts, and that stays small, so nothing overflows.
use Rattle.std.proofs.Common.{◌≡◌, ◌+◌, ◌*◌, ◌≤◌, ◌<◌, drop}
use Rattle.layout_packed.specs.Limits as written
use Rattle.layout_packed.specs.Workings.Reader.{more_from}
use Rattle.layout_packed.proofs.number.more.Given as goal

abbrev pub invariant-loop-i : goal.invariant-loop-i
invariant-loop-i l =
    (l.n < l.scale) × (l.scale ≤ 128 * written.coordinate)
    × (more_from l.most l.start l.scale l.n l.i (drop l.i l.bytes)
    ≡ more_from l.most l.start 128 l.low (l.start + 1) (drop (l.start + 1) l.bytes))
