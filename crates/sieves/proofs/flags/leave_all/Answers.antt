-- One flag after the other is what `fill` leaves.
use Rattle.std.proofs.Common.{◌≡◌, List, ℕ, zero, suc, ◌+◌, ◌-◌, ◌≤◌, ◌++◌, length, take, drop, set, replicate, refl, ap, sym, ◌∙◌, add-one, arith, length-take-le}
use Rattle.std.proofs.lemmas.List.Edits.{fill_more}
use Rattle.sieves.specs.Workings.Flags.{every, flag, flags_from}
use Rattle.sieves.proofs.flags.leave_all.Goals as goal

filled : (from count : ℕ) (l : List ℕ) → count ≤ length l → flags_from every from count l ≡ replicate count 1 ++ drop count l
unfolding flags_from flag
filled from zero l room = refl
filled from (suc count) l room =
    ap (λ (now : List ℕ). set now count 1) (filled from count l (omega (arith, room)))
    ∙ fill_more count 1 l (omega (arith, room))
    ∙ ap (λ (n : ℕ). replicate n 1 ++ drop n l) (add-one count)

pub returns : goal.returns
unfolding flag
returns c =
    let l = c.args.flags.now in
    let n = c.args.to - c.args.from in
    let long : length (take n l) ≡ n = length-take-le n l c.requires.1 in
    let up : c.flag.result ≡ 1 = c.flag.ensures in
    let each = c.fill.ensures.after (λ y h. h) in
    ap (λ (front : List ℕ). front ++ drop n l)
    (each ∙ ap (λ (k : ℕ). replicate k c.flag.result) long ∙ ap (replicate n) up)
    ∙ sym (filled c.args.from n l c.requires.1)
