-- Values that are skipped: what is passed is a line of any bytes, and every such line is passed.
use Rattle.std.specs.Prelude.{ℕ, ◌≡◌, refl, Bool, true, false, cond, List, [], ◌∷◌, ◌++◌, eqb}
use Rattle.std.proofs.Common.{sym, ap, arith, eqb-true}
use Rattle.dxf_form.specs.Form.{Skipped, none, more, First}
use Rattle.dxf_form.specs.Workings.Reader.{cut, over, skip_line}

-- `cut` is never `over`
pub never-over : {P : Type 0} {rest : List ℕ} → cut ≡ over rest → P
never-over e = let z : ◌≡◌ {A = ℕ} 0 1 = cc in absurd (omega arith)

pub skip-spelt : (text : List ℕ) {rest : List ℕ} → skip_line text ≡ over rest → First Skipped text rest
unfolding skip_line
skip-spelt [] e = never-over e
skip-spelt (b ∷ t) {rest} e = go (eqb b 10) refl (skip-spelt t) e
  where
    go : (ended : Bool) → eqb b 10 ≡ ended → (skip_line t ≡ over rest → First Skipped t rest)
        → cond ended (over t) (skip_line t) ≡ over rest
        → First Skipped (b ∷ t) rest
    go true is later e =
        let same : t ≡ rest = cc in
        record { line = []; is = rw (eqb-true b 10 is, same); holds = none }
    go false is later e =
        let s = later e in
        record { line = b ∷ s.line; is = ap (λ (l : List ℕ). b ∷ l) s.is; holds = more is s.holds }

pub skip-reads : (line rest : List ℕ) → Skipped line → skip_line (line ++ (10 ∷ rest)) ≡ over rest
unfolding skip_line
skip-reads [] rest none = refl
skip-reads (b ∷ line) rest (more h s) = rw h (skip-reads line rest s)

-- ---- a text is cut exactly if it has no newline

pub cut-skipped : (text : List ℕ) → skip_line text ≡ cut → Skipped text
unfolding skip_line
cut-skipped [] e = none
cut-skipped (b ∷ t) e = go (eqb b 10) refl (cut-skipped t) e
  where
    go : (ended : Bool) → eqb b 10 ≡ ended → (skip_line t ≡ cut → Skipped t) → cond ended (over t) (skip_line t) ≡ cut
        → Skipped (b ∷ t)
    go true is later e = never-over (sym e)
    go false is later e = more is (later e)

pub skipped-cut : (text : List ℕ) → Skipped text → skip_line text ≡ cut
unfolding skip_line
skipped-cut [] none = refl
skipped-cut (b ∷ t) (more h s) = rw h (skipped-cut t s)
