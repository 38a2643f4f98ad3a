-- `capi_large::pair_large::vj_pair_large` meets its contract: what `pline_seg_large` answers and leaves is handed over.
use Prim.Native.Nat.{ℕ}
use mathlib.Core.Path.{◌≡◌, ap, ◌∙◌}
use mathlib.Core.List.{List}
use borrow.Author.Rules.{rules}
use lib.Ieee.{Float}
use Rattle.large_pair.specs.LargePair.{LargeOutcome, LeavesLarge, LargePair}
use Rattle.capi_large.specs.HandedLarge.{large_code, HandedLarge}
use Rattle.capi_large.proofs.pair_large.vj_pair_large.Statement.{statement}
use Rattle.capi_large.proofs.pair_large.vj_pair_large.Tie as tie

handed : (o : LargeOutcome) (a : LargePair) (n : ℕ) (r : List ℕ) (p : List Float) → LeavesLarge o a r p → n ≡ large_code a
    → HandedLarge o n r p
handed o a n r p leaves code_is =
    record {
      code_is = code_is ∙ ap large_code leaves.answer-is;
      results-hold = leaves.results-hold;
      points-hold = leaves.points-hold;
    }

pub vj_pair_large_spec : {M : Type 1} → statement M
vj_pair_large_spec =
    tie.close
    (tie.spec
    (λ c. search rules) (λ c. search rules) (λ c. search rules) (λ c. search rules) (λ c. search handed))
