-- A refusal has no rows.
use Rattle.large_calls.proofs.old_answer.spread_paged.Goals as goal

pub spread_zeros-requires : goal.spread_zeros-requires
spread_zeros-requires c = rw c.in-Ok.is at c.requires
