-- `is_infinite` meets its contract: a number over zero is the infinity of its sign, and an infinity is equal to itself alone.
use mathlib.Core.Path.{◌≡◌, refl}
use mathlib.Core.Bool.{true, false, ◌||◌}
use lib.Ieee.{Float, nan, inf, fin, binary64, of_bits, neg, div, eq}
use Rattle.floats.specs.Ops.{f0, f1}
use Rattle.checks.specs.Number.{is_infinite}
use Rattle.checks.proofs.number.is_infinite.Statement.{statement}
use Rattle.checks.proofs.number.is_infinite.Tie as tie

plus : div binary64 f1 f0 ≡ inf false
unfolding div of_bits
plus = refl

minus : div binary64 (neg f1) f0 ≡ inf true
unfolding div neg of_bits
minus = refl

one_of_two : (x : Float) → (eq x (inf false) || eq x (inf true)) ≡ is_infinite x
unfolding eq is_infinite
one_of_two nan = refl
one_of_two (inf true) = refl
one_of_two (inf false) = refl
one_of_two (fin s m e) = refl

returns : tie.Need-returns
returns c = simp (plus, minus) (one_of_two c.args.x)

pub is_infinite_spec : {M : Type 1} → statement M
is_infinite_spec = tie.close (tie.spec returns)
