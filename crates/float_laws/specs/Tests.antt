-- Tests, and what one of two tests says of both.
use Rattle.std.specs.Prelude.{◌≡◌, refl, Bool, true, false, ◌||◌, T}

-- tests that agree are equal
pub same_test : (a b : Bool) → (T a → T b) → (T b → T a) → a ≡ b
same_test true true p q = refl
same_test true false p q = absurd (p tt)
same_test false true p q = absurd (q tt)
same_test false false p q = refl

pub either : (a b : Bool) {P : Type 0} → (T a → P) → (T b → P) → T (a || b) → P
either true b f g t = f tt
either false b f g t = g t

pub left-of : (a b : Bool) → T a → T (a || b)
left-of true b t = tt
left-of false b t = absurd t

pub right_of : (a b : Bool) → T b → T (a || b)
right_of true b t = tt
right_of false b t = t
