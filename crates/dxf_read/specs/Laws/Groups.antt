-- A group whose numbers are kept is read as the group of dxf_form's reader; and the turn of a code is that of its group.
use Rattle.std.specs.Prelude.{ℕ, ◌≡◌, refl, Bool, true, false, cond, List, eqb, ℤ}
use Rattle.std.proofs.Common.{ap, ◌∙◌, true≢false, arith}
use Rattle.dxf_form.specs.Form.{Group, count, flags, x, y, bulge}
use Rattle.dxf_form.specs.Form.{count_code, flags_code, x_code, y_code, bulge_code}
use Rattle.dxf_form.specs.Order.{turn_at, turn_of, out_of_place, count_turn, flags_turn, x_turn, y_turn, bulge_turn}
use Rattle.dxf_form.specs.Refusal
use Rattle.dxf_form.specs.Workings.Reader as reader
use Rattle.dxf_form.specs.Workings.Reader.{Got, nothing, got, fault, pair, Passed, cut, over, is_empty}
use Rattle.dxf_form.specs.declared.order.Due.{Due}
use Rattle.dxf_form.specs.declared.order.Due.TheVariants as Due·
use Rattle.dxf_form.specs.declared.order.Turn.{Turn}
use Rattle.dxf_form.specs.declared.order.Turn.TheVariants as Turn·
use Rattle.dxf_read.specs.Workings.Kept as code
use Rattle.dxf_read.specs.Workings.Kept.{kept, kept_whole, kept_got, kept_number, kept_group, kept_pair}
use Rattle.dxf_read.specs.Workings.Pairs.{group_by}
use Rattle.dxf_read.specs.Laws.Kept.{eqb-kept, whole-line, number-line}

-- ---- a group's value

whole-value : (g : ℕ → Group) → ((n : ℕ) → g (kept n) ≡ kept_group (g n)) → (v : Got ℕ)
    → reader.whole_value g (kept_got v) ≡ kept_pair (reader.whole_value g v)
whole-value g same nothing = refl
whole-value g same (got n rest) = ap (λ (k : Group). pair k rest) (same n)

number-value : (g : ℤ → Group) → ((z : ℤ) → g (kept_whole z) ≡ kept_group (g z)) → (v : Got ℤ)
    → reader.number_value g (kept_number v) ≡ kept_pair (reader.number_value g v)
number-value g same nothing = refl
number-value g same (got z rest) = ap (λ (k : Group). pair k rest) (same z)

skipped-value : (v : Passed) → reader.skipped_value v ≡ kept_pair (reader.skipped_value v)
skipped-value cut = refl
skipped-value (over rest) = refl

value-for : (turn : Turn) (t : List ℕ) → code.value_for turn t ≡ kept_pair (reader.value_for turn t)
value-for Turn·.Count t = ap (reader.whole_value count) (whole-line t) ∙ whole-value count (λ n. refl) (reader.whole_line t)
value-for Turn·.Flags t = ap (reader.whole_value flags) (whole-line t) ∙ whole-value flags (λ n. refl) (reader.whole_line t)
value-for Turn·.X t = ap (reader.number_value x) (number-line t) ∙ number-value x (λ z. refl) (reader.number_line t)
value-for Turn·.Y t = ap (reader.number_value y) (number-line t) ∙ number-value y (λ z. refl) (reader.number_line t)
value-for Turn·.Bulge t = ap (reader.number_value bulge) (number-line t) ∙ number-value bulge (λ z. refl) (reader.number_line t)
value-for Turn·.Other t = skipped-value (reader.skip_line t)
value-for Turn·.OutOfPlace t = refl

after-code : (turn : Turn) (t : List ℕ) → code.after_code turn t ≡ kept_pair (reader.after_code turn t)
unfolding code.after_code
after-code turn t = go (out_of_place turn) (is_empty t)
  where
    go : (out none : Bool) → cond out (fault Refusal.group 1) (cond none (fault Refusal.group 2) (code.value_for turn t))
        ≡ kept_pair (cond out (fault Refusal.group 1) (cond none (fault Refusal.group 2) (reader.value_for turn t)))
    go true none = refl
    go false true = refl
    go false false = value-for turn t

-- ---- a group

turn-kept : (due : Due) (c : ℕ) → turn_at due (kept c) ≡ turn_at due c
turn-kept due c =
    rw (
      eqb-kept c count_code (omega arith),
      eqb-kept c flags_code (omega arith),
      eqb-kept c x_code (omega arith),
      eqb-kept c y_code (omega arith),
      eqb-kept c bulge_code (omega arith),
    )

by-code-lem : (due : Due) (v : Got ℕ) → code.by_code due (kept_got v) ≡ kept_pair (reader.by_code due v)
by-code-lem due nothing = refl
by-code-lem due (got c rest) = ap (λ (turn : Turn). code.after_code turn rest) (turn-kept due c) ∙ after-code (turn_at due c) rest

pub pair-of-lem : (due : Due) (t : List ℕ) → code.pair_of due t ≡ kept_pair (reader.pair_of due t)
unfolding code.pair_of reader.pair_of
pair-of-lem due t = ap (code.by_code due) (whole-line t) ∙ by-code-lem due (reader.whole_line t)

-- ---- the turn of a code is that of its group

abbrev Right : Due → Bool → ℕ → Turn → Type 0
Right due negative n turn = out_of_place turn ≡ false → turn_of due (group_by turn negative n) ≡ turn

pick : (P : Turn → Type 0) (test : Bool) {a b : Turn} → P a → P b → P (cond test a b)
pick P true p q = p
pick P false p q = q

module _ (negative : Bool) (n : ℕ) where
  right-count : (due : Due) → Right due negative n (count_turn due)
  right-count Due·.Count h = refl
  right-count Due·.Flags h = absurd (true≢false h)
  right-count Due·.Vertex h = absurd (true≢false h)
  right-count Due·.Y h = absurd (true≢false h)
  right-count Due·.Bulge h = absurd (true≢false h)

  right-flags : (due : Due) → Right due negative n (flags_turn due)
  right-flags Due·.Count h = absurd (true≢false h)
  right-flags Due·.Flags h = refl
  right-flags Due·.Vertex h = absurd (true≢false h)
  right-flags Due·.Y h = absurd (true≢false h)
  right-flags Due·.Bulge h = absurd (true≢false h)

  right-x : (due : Due) → Right due negative n (x_turn due)
  right-x Due·.Count h = absurd (true≢false h)
  right-x Due·.Flags h = absurd (true≢false h)
  right-x Due·.Vertex h = refl
  right-x Due·.Y h = absurd (true≢false h)
  right-x Due·.Bulge h = refl

  right-y : (due : Due) → Right due negative n (y_turn due)
  right-y Due·.Count h = absurd (true≢false h)
  right-y Due·.Flags h = absurd (true≢false h)
  right-y Due·.Vertex h = absurd (true≢false h)
  right-y Due·.Y h = refl
  right-y Due·.Bulge h = absurd (true≢false h)

  right-bulge : (due : Due) → Right due negative n (bulge_turn due)
  right-bulge Due·.Count h = absurd (true≢false h)
  right-bulge Due·.Flags h = absurd (true≢false h)
  right-bulge Due·.Vertex h = absurd (true≢false h)
  right-bulge Due·.Y h = absurd (true≢false h)
  right-bulge Due·.Bulge h = refl

  pub in-turn : (due : Due) (c : ℕ) → out_of_place (turn_at due c) ≡ false
      → turn_of due (group_by (turn_at due c) negative n) ≡ turn_at due c
  in-turn due c =
      pick (Right due negative n) (eqb c count_code) (right-count due)
      (pick (Right due negative n) (eqb c flags_code) (right-flags due)
      (pick (Right due negative n) (eqb c x_code) (right-x due)
      (pick (Right due negative n) (eqb c y_code) (right-y due)
      (pick (Right due negative n) (eqb c bulge_code) (right-bulge due) (λ h. refl)))))
