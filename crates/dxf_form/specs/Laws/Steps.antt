-- One step of the reader: a group, and then what remains is read.
use Rattle.std.specs.Prelude.{ℕ, zero, suc, ◌+◌, ◌≤◌, ◌<◌, ◌≡◌, refl, List, [], ◌∷◌, length}
use Rattle.std.proofs.Common.{ap, arith}
use Rattle.dxf_form.specs.Form.{Group}
use Rattle.dxf_form.specs.Order.{turn_of, after}
use Rattle.dxf_form.specs.Workings.Reader.{Pair, fault, pair, before, carried_on, pair_of, read_from}
use Rattle.dxf_form.specs.Laws.Pairs.{pair-shortens}
use Rattle.dxf_form.specs.declared.order.Due.{Due}

-- no text has more groups than bytes
pub read-enough : (k j : ℕ) (due : Due) (lines : ℕ) (text : List ℕ) → length text ≤ k → length text ≤ j
    → read_from k due lines text ≡ read_from j due lines text
unfolding read_from
read-enough zero zero due lines [] h g = refl
read-enough zero (suc j) due lines [] h g = refl
read-enough (suc k) zero due lines [] h g = refl
read-enough (suc k) (suc j) due lines [] h g = refl
read-enough zero j due lines (b ∷ t) h g = absurd (omega arith)
read-enough (suc k) zero due lines (b ∷ t) h g = absurd (omega arith)
read-enough (suc k) (suc j) due lines (b ∷ t) h g =
    go (pair_of due (b ∷ t)) (λ g2 rest e. pair-shortens due (b ∷ t) e) (λ d rest p q. read-enough k j d (lines + 2) rest p q)
  where
    go : (p : Pair) → ((g2 : Group) (rest : List ℕ) → p ≡ pair g2 rest → length rest < suc (length t))
        → ((d : Due) (rest : List ℕ) → length rest ≤ k → length rest ≤ j
        → read_from k d (lines + 2) rest ≡ read_from j d (lines + 2) rest)
        → carried_on lines (λ g2 rest. read_from k (after due (turn_of due g2)) (lines + 2) rest) p
        ≡ carried_on lines (λ g2 rest. read_from j (after due (turn_of due g2)) (lines + 2) rest) p
    go (fault number line) short later = refl
    go (pair g2 rest) short later =
        let s = short g2 rest refl in
        ap (before g2) (later (after due (turn_of due g2)) rest (omega arith) (omega arith))

pub read_step : (due : Due) (lines : ℕ) (text : List ℕ) → 0 < length text
    → read_from (length text) due lines text
    ≡ carried_on lines (λ g rest. read_from (length rest) (after due (turn_of due g)) (lines + 2) rest) (pair_of due text)
unfolding read_from
read_step due lines [] h = absurd (omega arith)
read_step due lines (b ∷ t) h = go (pair_of due (b ∷ t)) (λ g2 rest e. pair-shortens due (b ∷ t) e)
  where
    go : (p : Pair) → ((g2 : Group) (rest : List ℕ) → p ≡ pair g2 rest → length rest < suc (length t))
        → carried_on lines (λ g2 rest. read_from (length t) (after due (turn_of due g2)) (lines + 2) rest) p
        ≡ carried_on lines (λ g2 rest. read_from (length rest) (after due (turn_of due g2)) (lines + 2) rest) p
    go (fault number line) short = refl
    go (pair g2 rest) short =
        let s = short g2 rest refl in
        ap (before g2)
        (read-enough (length t) (length rest) (after due (turn_of due g2)) (lines + 2) rest (omega arith) (omega arith))
