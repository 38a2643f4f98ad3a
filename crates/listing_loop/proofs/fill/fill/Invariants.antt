-- The state of Laws/Loop holds before each segment of the first path, and before each run of the second path's.
use Rattle.std.proofs.Common.{◌≡◌, ◌≤◌, ◌-◌, length}
use Rattle.listing_loop.specs.Laws.Loop.{State}
use Rattle.listing_loop.proofs.fill.fill.Given as goal

abbrev pub invariant-loop-i : goal.invariant-loop-i
invariant-loop-i l =
    record {
      marks : length l.marks ≡ length l.fn.marks;
      state :
          State l.first l.second l.kept l.job l.grain l.how l.part l.fn.indices l.fn.points
          l.i l.j l.rows l.budget l.looked l.indices l.points l.marks;
    }

abbrev pub invariant-loop-j : goal.invariant-loop-j
invariant-loop-j l =
    record {
      low : l.start ≤ l.j;
      spent : l.j - l.start ≤ l.budget;
      marks : length l.marks ≡ length l.fn.marks;
      state :
          State l.first l.second l.kept l.job l.grain l.how l.part l.fn.indices l.fn.points
          l.i l.j l.rows (l.budget - (l.j - l.start)) l.looked l.indices l.points l.marks;
    }

abbrev pub decreases-loop-j : goal.decreases-loop-j
decreases-loop-j l = l.end - l.j
