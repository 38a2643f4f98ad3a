-- A page and the pairs that remain after it make up the whole. For any sequence and any `look`.
use Rattle.std.specs.Prelude.{◌≡◌, Bool, true, false, length, take}
use Rattle.std.proofs.Math.Path.{refl}
use Rattle.std.proofs.Common.{sym, ap, ◌∙◌, true≢false, arith, length-append}
use mathlib.Core.List.{List, [], ◌∷◌, ◌++◌, append-nil}
use Prim.Native.Nat.{ℕ, zero, suc, ◌+◌, ◌≤◌, ◌<◌}
use Rattle.listing_pairs.specs.declared.row.Row.{Row}
use Rattle.listing_pairs.specs.declared.row.Look.{Look}
use Rattle.listing_pairs.specs.declared.row.Look.TheVariants.{Skipped, Nothing, Made}
use Rattle.listing_pairs.specs.Order.{Pair}
use Rattle.listing_pairs.specs.Rows.{onto, count, rows_of, looked_at}
use Rattle.listing_pairs.specs.Page.{Page, page, stop, pass, turn}

-- whether no pair remains
abbrev pub empty : List Pair → Bool
empty [] = true
empty (p ∷ ps) = false

empty-nil : (ps : List Pair) → empty ps ≡ true → ps ≡ []
empty-nil [] e = refl
empty-nil (p ∷ ps) e = absurd (true≢false (sym e))

module _ (look : ℕ → ℕ → Look) where
  -- A page and the remaining pairs make up the whole; the page has no more rows than fit and passes no more pairs than its
  -- budget. If pairs remain and the budget is for all, it is full and one of them makes a row.
  pub record Joins (ps : List Pair) (room budget : ℕ) (q : Page) : Type 0 where
    pub rows : q.rows ++ rows_of look q.rest ≡ rows_of look ps
    pub looked : q.looked + looked_at look q.rest ≡ looked_at look ps
    pub passed : q.passed + length q.rest ≡ length ps
    pub few : length q.rows ≤ room
    pub allowed : q.passed ≤ budget
    pub full : length ps ≤ budget → empty q.rest ≡ false
        → (length q.rows ≡ room) × (0 < length (rows_of look q.rest))

  turn-joins : (s : Look) (p : Pair) (ps : List Pair) (go : ℕ → Page) (room budget : ℕ)
      → ((room : ℕ) → Joins ps room budget (go room))
      → rows_of look (p ∷ ps) ≡ onto s (rows_of look ps)
      → looked_at look (p ∷ ps) ≡ count s (looked_at look ps)
      → Joins (p ∷ ps) room (suc budget) (turn s (p ∷ ps) go room)
  turn-joins Skipped p ps go room budget rest e g =
      let j = rest room in
      record {
        rows = j.rows ∙ sym e;
        looked = j.looked ∙ sym g;
        passed = omega (arith, j.passed);
        few = j.few;
        allowed = omega (arith, j.allowed);
        full = λ b n. j.full (omega (arith, b)) n;
      }
  turn-joins Nothing p ps go room budget rest e g =
      let j = rest room in
      record {
        rows = j.rows ∙ sym e;
        looked = omega (arith, j.looked, g);
        passed = omega (arith, j.passed);
        few = j.few;
        allowed = omega (arith, j.allowed);
        full = λ b n. j.full (omega (arith, b)) n;
      }
  turn-joins (Made r) p ps go zero budget rest e g =
      record {
        rows = refl;
        looked = omega arith;
        passed = omega arith;
        few = omega arith;
        allowed = omega arith;
        full = λ b n. (refl, omega (arith, ap length e));
      }
  turn-joins (Made r) p ps go (suc room) budget rest e g =
      let j = rest room in
      record {
        rows = ap (λ (l : List Row). r ∷ l) j.rows ∙ sym e;
        looked = omega (arith, j.looked, g);
        passed = omega (arith, j.passed);
        few = omega (arith, j.few);
        allowed = omega (arith, j.allowed);
        full = λ b n. let rest = j.full (omega (arith, b)) n in (ap suc rest.0, rest.1);
      }

  pub joins : (ps : List Pair) (room budget : ℕ) → Joins ps room budget (page look ps room budget)
  unfolding page
  joins [] room budget =
      record {
        rows = refl;
        looked = omega arith;
        passed = omega arith;
        few = omega arith;
        allowed = omega arith;
        full = λ b n. absurd (true≢false n);
      }
  joins (p ∷ ps) room zero =
      record {
        rows = refl;
        looked = omega arith;
        passed = omega arith;
        few = omega arith;
        allowed = omega arith;
        full = λ b n. absurd (omega (arith, b));
      }
  joins (p ∷ ps) room (suc budget) =
      turn-joins (look p.i p.j) p ps (λ left. page look ps left budget) room budget (λ left. joins ps left budget) refl refl

  module _ {ps : List Pair} {room budget : ℕ} {q : Page} (j : Joins ps room budget q) where
    -- if no pair remains, the page is the whole
    pub whole-rows : empty q.rest ≡ true → q.rows ≡ rows_of look ps
    whole-rows e =
        sym (append-nil q.rows) ∙ ap (λ (l : List Pair). q.rows ++ rows_of look l) (sym (empty-nil q.rest e)) ∙ j.rows

    pub whole-looked : empty q.rest ≡ true → q.looked ≡ looked_at look ps
    whole-looked e = omega (arith, ap (looked_at look) (empty-nil q.rest e), j.looked)

    -- if pairs remain though the budget is for all, the whole has more rows than fit
    pub too_many : length ps ≤ budget → empty q.rest ≡ false → room < length (rows_of look ps)
    too_many b e =
        let n = length-append q.rows (rows_of look q.rest) in
        omega (arith, ap length j.rows, n, (j.full b e).0, (j.full b e).1)

  -- if all rows fit and the budget is for all, no pair remains
  pub all_fit : (ps : List Pair) (room budget : ℕ) → length ps ≤ budget → length (rows_of look ps) ≤ room
      → empty (page look ps room budget).rest ≡ true
  all_fit ps room budget b h = go (empty (page look ps room budget).rest) refl
    where
      go : (x : Bool) → empty (page look ps room budget).rest ≡ x → x ≡ true
      go true e = refl
      go false e = absurd (omega (arith, too_many (joins ps room budget) b e, h))

  -- ---- a pair makes at most one row
  onto-few : (s : Look) (rows : List Row) (n : ℕ) → length rows ≤ n → length (onto s rows) ≤ suc n
  onto-few Skipped rows n h = omega (arith, h)
  onto-few Nothing rows n h = omega (arith, h)
  onto-few (Made r) rows n h = omega (arith, h)

  pub few-rows : (ps : List Pair) → length (rows_of look ps) ≤ length ps
  few-rows [] = omega arith
  few-rows (p ∷ ps) = onto-few (look p.i p.j) (rows_of look ps) (length ps) (few-rows ps)

  count-few : (s : Look) (m n : ℕ) → m ≤ n → count s m ≤ suc n
  count-few Skipped m n h = omega (arith, h)
  count-few Nothing m n h = omega (arith, h)
  count-few (Made r) m n h = omega (arith, h)

  pub few-looked : (ps : List Pair) → looked_at look ps ≤ length ps
  few-looked [] = omega arith
  few-looked (p ∷ ps) = count-few (look p.i p.j) (looked_at look ps) (length ps) (few-looked ps)

  -- ---- the rows of a page are those of the pairs that it passed
  turn-taken : (s : Look) (p : Pair) (ps : List Pair) (go : ℕ → Page) (room : ℕ) → look p.i p.j ≡ s
      → ((room : ℕ) → (go room).rows ≡ rows_of look (take (go room).passed ps))
      → (turn s (p ∷ ps) go room).rows ≡ rows_of look (take (turn s (p ∷ ps) go room).passed (p ∷ ps))
  turn-taken Skipped p ps go room e rest = rw e (rest room)
  turn-taken Nothing p ps go room e rest = rw e (rest room)
  turn-taken (Made r) p ps go zero e rest = refl
  turn-taken (Made r) p ps go (suc room) e rest = rw e (ap (λ (l : List Row). r ∷ l) (rest room))

  pub taken : (ps : List Pair) (room budget : ℕ)
      → (page look ps room budget).rows ≡ rows_of look (take (page look ps room budget).passed ps)
  unfolding page
  taken [] room budget = refl
  taken (p ∷ ps) room zero = refl
  taken (p ∷ ps) room (suc budget) =
      turn-taken (look p.i p.j) p ps (λ left. page look ps left budget) room refl (λ left. taken ps left budget)

  -- ---- if a row fits and there is a budget, the first pair is passed
  turn_on : (s : Look) (here : List Pair) (go : ℕ → Page) (room : ℕ) → 0 < (turn s here go (suc room)).passed
  turn_on Skipped here go room = omega arith
  turn_on Nothing here go room = omega arith
  turn_on (Made r) here go room = omega arith

  pub passes-one : (ps : List Pair) (room budget : ℕ) → 0 < length ps → 0 < room → 0 < budget
      → 0 < (page look ps room budget).passed
  unfolding page
  passes-one [] room budget h r b = absurd (omega (arith, h))
  passes-one (p ∷ ps) zero budget h r b = absurd (omega (arith, r))
  passes-one (p ∷ ps) (suc room) zero h r b = absurd (omega (arith, b))
  passes-one (p ∷ ps) (suc room) (suc budget) h r b =
      turn_on (look p.i p.j) (p ∷ ps) (λ left. page look ps left budget) room
