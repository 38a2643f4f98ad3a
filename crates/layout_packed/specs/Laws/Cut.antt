-- A fault stays where it is if bytes behind it are cut off.
use Rattle.std.specs.Prelude.{ℕ, ◌+◌, ◌-◌, ◌<◌, ◌≡◌, List, [], ◌∷◌, ◌++◌, length, take, drop}
use Rattle.std.proofs.Common.{sym, ap, ◌∙◌, append_assoc, arith, take-append-drop, length-take}
use Rattle.std.proofs.Math.Seq.{take-append-add}
use Rattle.layout_packed.specs.Groups.{groups_of}
use Rattle.layout_packed.specs.Packed.{joined}
use Rattle.layout_packed.specs.Fault.{NoNumber, Wrong, FaultAt}

no-number-cut : (most j : ℕ) (rest : List ℕ) → NoNumber most rest → NoNumber most (take j rest)
no-number-cut most j rest none n r h e =
    none n (r ++ drop j rest) h
    (sym (take-append-drop j rest) ∙ ap (λ (l : List ℕ). l ++ drop j rest) e ∙ append_assoc (groups_of n) r (drop j rest))

wrong-cut : (due : List ℕ) (j : ℕ) (rest : List ℕ) → 0 < j → Wrong due rest → Wrong due (take j rest)
wrong-cut [] j rest h w = simp length-take (omega arith)
wrong-cut (most ∷ due) j rest h w = no-number-cut most j rest w

pub fault-cut : (bytes : List ℕ) {k : ℕ} (m : ℕ) → k < m → FaultAt bytes k → FaultAt (take m bytes) k
fault-cut bytes {k} m h f =
    let j = m - length (joined f.numbers) in
    let some : 0 < j = omega (arith, f.here) in
    let whole : m ≡ length (joined f.numbers) + j = omega (arith, f.here) in
    record {
      numbers = f.numbers;
      due = f.due;
      rest = take j f.rest;
      is =
          ap (λ (n : ℕ). take n bytes) whole
          ∙ ap (take (length (joined f.numbers) + j)) f.is
          ∙ take-append-add (joined f.numbers) f.rest j;
      here = f.here;
      sound = f.sound;
      wrong = wrong-cut f.due j f.rest some f.wrong;
    }
