-- What holds of both branches holds of the one that a test picks; each may use what the test said.
use Rattle.std.specs.Prelude.{◌≡◌, refl, Bool, true, false, cond}

pub by-test : {A : Type 0} (P : A → Type 0) (b : Bool) (x y : A) → (b ≡ true → P x) → (b ≡ false → P y) → P (cond b x y)
by-test P true x y f g = f refl
by-test P false x y f g = g refl
