-- `records::text::is_number` meets its contract: both say of each variant the same. Assumes nothing.
use Rattle.std.proofs.Common.{◌≡◌, ◌∙◌, ℕ, Option, Some, None, refl}
use Rattle.std.specs.Option.{is_some}
use Rattle.records.specs.Text.{is_number}
use Rattle.records.proofs.text.is_number.Goals as goal

same : (f : Option ℕ) → is_some f ≡ is_number f
unfolding is_number
same (Some x) = refl
same None = refl

pub returns : goal.returns
returns c = c.is_some.ensures ∙ same c.args.f
