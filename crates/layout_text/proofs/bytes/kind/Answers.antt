-- `layout_text::bytes::kind` meets its contract: a byte below the digits that is none of the three has no kind of its own.
-- The other arms open the definition. Assumes nothing.
use Rattle.std.proofs.Common.{◌≡◌, ◌≢◌, ℕ, ◌<◌, arith, lt-ltb, ne_eqb}
use Rattle.layout_text.specs.Workings.Reader.{kind_of, other}
use Rattle.layout_text.proofs.bytes.kind.Goals as goal

low-kind : (b : ℕ) → b < 48 → b ≢ 45 → b ≢ 32 → b ≢ 10 → kind_of b ≡ other
unfolding kind_of
low-kind b h minus space newline = simp (lt-ltb _ _ h, ne_eqb _ 45 minus, ne_eqb _ 32 space, ne_eqb _ 10 newline)

pub returns-in_default : goal.returns-in_default
returns-in_default c = simp (low-kind c.args.b (omega arith) (omega arith) (omega arith) (omega arith))
