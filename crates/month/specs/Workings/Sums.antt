-- When the words of two reports can be added one by one.
use Rattle.std.specs.Prelude.{List, ℕ, ◌+◌, ◌≤◌, ◌<◌}
use Rattle.month.specs.Report.{words, largest, word}

-- each sum fits 64 bits
pub record AllFit (into other : List ℕ) : Type 0 where
  pub each : (k : ℕ) → k < words → word into k + word other k ≤ largest
