-- The first fault of an export, after any checks that leave only small numbers: it is theirs; or 23 at the first number without
-- a text; or 24.
use Rattle.checks.specs.Checked.{Checked}
use Rattle.std.specs.Prelude.{◌≡◌, ℕ, zero, suc, ◌+◌, ◌*◌, ◌<◌, ◌≤◌, Bool, true, false, T, ◌↔◌, List, [], ◌∷◌, ◌++◌, length, drop, nat_lt, Float, Result, Err, Ok}
use Rattle.std.proofs.Math.Path.{refl, subst}
use Rattle.std.proofs.Common.{sym, ap, ◌∙◌, inl, inr, eq-or-lt_of_le, arith, lt-ltb, le-ltb, ltb-true, ltb-false}
use Rattle.std.proofs.Math.Logic.Iff
use Rattle.std.proofs.Math.Bool.{true≢false}
use Rattle.std.proofs.lemmas.List.Edits.{sets, sets-eq}
use Rattle.std.specs.Float.{binary64}
use Rattle.std.specs.Float.Ieee.{fits, le}
use Rattle.floats.specs.F64
use Rattle.plane.specs.declared.pline_vertex.PlineVertex.{PlineVertex}
use Rattle.plane.specs.PlineVertex as vertices
use Rattle.checks.specs.declared.fault.Item.{Item}
use Rattle.checks.specs.declared.fault.Item.TheVariants.{X, Y, Bulge, Room}
use Rattle.checks.specs.declared.fault.Place.{Place}
use Rattle.checks.specs.declared.fault.Fault.{Fault}
use Rattle.checks.specs.Fault.{at, refuse, later, whole}
use Rattle.checks.specs.First.{first}
use Rattle.checks.specs.FirstFault.{FirstFault, first-bad, first_fine}
use Rattle.checks.specs.Limit
use Rattle.checks.specs.Laws.Chains.{first-append}
use Rattle.checks.specs.Laws.Later.{fine-right, later-fine, later-bad}
use Rattle.paths.specs.Path.{vertex_count, number, vertex}
use Rattle.paths.specs.Check.{along}
use Rattle.paths.specs.Laws.Along.{along-fine}
use Rattle.dxf_form.specs.Refusal
use Rattle.dxf_write.specs.Millionths.{Found, none, found, is_none, millionths_of}
use Rattle.dxf_write.specs.Written.{number_bytes}
use Rattle.dxf_write.specs.Export.{bytes_of, of_texts, text_checks, room_check, by_checks, export_after, Exports}
use Rattle.dxf_write.specs.When.{HasText, VertexHasText, NoTextOf, no-x, no-y, no-bulge, TextsBelow}
use Rattle.dxf_write.specs.When.{NoText, NoRoom, Exportable}
use Rattle.dxf_write.specs.OnlyCandidate.{found-reads, found-when}
use Rattle.dxf_write.specs.Spelt.{number-spelt}
use Rattle.dxf_write.specs.Workings.Told.{no_text}
use Rattle.dxf_write.specs.Laws.Back.{refuse-fine}
use Rattle.dxf_write.specs.Laws.Low.{numbers_below, Low}

is-bad : Checked → Bool
is-bad (Ok _) = false
is-bad (Err f) = true

never : {P : Type 0} {f : Fault} → ◌≡◌ {A = Checked} (Ok tt) (Err f) → P
unfolding is-bad
never e = absurd (true≢false (sym (ap is-bad e)))

number_of : Checked → ℕ
number_of (Ok _) = 0
number_of (Err f) = f.number

item_of : Checked → Item
item_of (Ok _) = X
item_of (Err f) = f.place.item

index_of : Checked → ℕ
index_of (Ok _) = 0
index_of (Err f) = f.place.index

-- whether bytes are answered
abbrev tagged : Result ℕ Fault → Bool
tagged (Ok n) = true
tagged (Err f) = false

-- ---- a number's text

pub record SmallVertex (v : PlineVertex) : Type 0 where
  pub x-small : T (le (F64.abs v.x) Limit.coordinate)
  pub y-small : T (le (F64.abs v.y) Limit.coordinate)
  pub bulge-small : T (le (F64.abs v.bulge) Limit.coordinate)

pub has-text : (x : Float) → T (fits binary64 x) → T (le (F64.abs x) Limit.coordinate)
    → (is_none (millionths_of x) ≡ false) ↔ HasText x
has-text x f64 small = (
  go (millionths_of x) refl,
  λ t. ap is_none ((found-when x f64 small t.millionths).1 t.is),
)
  where
    go : (m : Found) → millionths_of x ≡ m → is_none m ≡ false → HasText x
    go none e h = absurd (true≢false h)
    go (found z) e h =
        record { line = number_bytes z; millionths = z; spelt = number-spelt z; is = found-reads x f64 z e }

-- ---- a vertex

-- the three checks
abbrev three : ℕ → Bool → Bool → Bool → Checked
three i a b c =
    first (refuse a Refusal.no_text (at 0 i X)
    ∷ refuse b Refusal.no_text (at 0 i Y)
    ∷ refuse c Refusal.no_text (at 0 i Bulge)
    ∷ [])

no-fault : (b : Bool) (n : ℕ) (p : Place) → b ≡ false → refuse b n p ≡ Ok tt
unfolding refuse
no-fault b n p e = rw e

yes : (d : Bool) {P : Type 0} → ((d ≡ false) ↔ P) → (P → ⊥) → d ≡ true
yes true e n = refl
yes false e n = absurd (n (e.0 refl))

-- by what each test says
module _ (v : PlineVertex) (i : ℕ) {a b c : Bool} (at_x : (a ≡ false) ↔ HasText v.x) (at_y : (b ≡ false) ↔ HasText v.y)
    (at-bulge : (c ≡ false) ↔ HasText v.bulge) where
  three-fine : (three i a b c ≡ Ok tt) ↔ VertexHasText v
  three-fine = (
    λ e.
        let f = (later-fine _ _).0 e in
        let g = (later-fine _ _).0 f.1 in
        let h = (later-fine _ _).0 g.1 in
        record {
          x-text = at_x.0 (refuse-fine _ _ _ f.0);
          y-text = at_y.0 (refuse-fine _ _ _ g.0);
          bulge-text = at-bulge.0 (refuse-fine _ _ _ h.0);
        },
    λ t.
        (later-fine _ _).1 (
          no-fault _ _ _ (at_x.1 t.x-text),
          (later-fine _ _).1 (
            no-fault _ _ _ (at_y.1 t.y-text),
            (later-fine _ _).1 (no-fault _ _ _ (at-bulge.1 t.bulge-text), refl),
          ),
        ),
  )

  three-bad : (item : Item) → (three i a b c ≡ Err (no_text i item)) ↔ NoTextOf v item
  unfolding refuse later item_of
  three-bad item = (to a b c at_x at_y at-bulge, from)
    where
      to : (a b c : Bool) → (a ≡ false) ↔ HasText v.x → (b ≡ false) ↔ HasText v.y → (c ≡ false) ↔ HasText v.bulge
          → three i a b c ≡ Err (no_text i item) → NoTextOf v item
      to true b c p q r e = subst (NoTextOf v) (ap item_of e) (no-x (λ t. true≢false (p.1 t)))
      to false true c p q r e = subst (NoTextOf v) (ap item_of e) (no-y (p.0 refl) (λ t. true≢false (q.1 t)))
      to false false true p q r e =
          subst (NoTextOf v) (ap item_of e) (no-bulge (p.0 refl) (q.0 refl) (λ t. true≢false (r.1 t)))
      to false false false p q r e = never e

      from : {item : Item} → NoTextOf v item → three i a b c ≡ Err (no_text i item)
      from (no-x n) = rw (yes a at_x n)
      from (no-y t n) = rw (at_x.1 t, yes b at_y n)
      from (no-bulge t u n) = rw (at_x.1 t, at_y.1 u, yes c at-bulge n)

-- what such a fault is, whatever the numbers are
three-place : (i : ℕ) (a b c : Bool) (f : Fault) → three i a b c ≡ Err f
    → (f.number ≡ Refusal.no_text) × (f.place.index ≡ i)
unfolding refuse later number_of index_of
three-place i true b c f e = (sym (ap number_of e), sym (ap index_of e))
three-place i false true c f e = (sym (ap number_of e), sym (ap index_of e))
three-place i false false true f e = (sym (ap number_of e), sym (ap index_of e))
three-place i false false false f e = never e

module _ (path : List Float) (i : ℕ) where
  vertex-place : (f : Fault) → first (of_texts path i) ≡ Err f → (f.number ≡ Refusal.no_text) × (f.place.index ≡ i)
  unfolding of_texts
  vertex-place f e = three-place i _ _ _ f e

  module _ (f64 : (k : ℕ) → T (fits binary64 (number path k))) (small : SmallVertex (vertex path i)) where
    pub vertex-texts : (first (of_texts path i) ≡ Ok tt) ↔ VertexHasText (vertex path i)
    unfolding of_texts vertex vertices.new
    vertex-texts =
        three-fine (vertex path i) i (has-text _ (f64 (i * 4)) small.x-small) (has-text _ (f64 (i * 4 + 1)) small.y-small)
        (has-text _ (f64 (i * 4 + 2)) small.bulge-small)

    pub vertex-no-text : (item : Item) → (first (of_texts path i) ≡ Err (no_text i item)) ↔ NoTextOf (vertex path i) item
    unfolding of_texts vertex vertices.new
    vertex-no-text item =
        three-bad (vertex path i) i (has-text _ (f64 (i * 4)) small.x-small) (has-text _ (f64 (i * 4 + 1)) small.y-small)
        (has-text _ (f64 (i * 4 + 2)) small.bulge-small) item

-- ---- lists one after the other: the first fault is that of the first list that has one

pub record FirstAt (checks : ℕ → List Checked) (i k : ℕ) (f : Fault) : Type 0 where
  pub j : ℕ
  pub from : i ≤ j
  pub below : j < i + k
  pub before : (m : ℕ) → i ≤ m → m < j → first (checks m) ≡ Ok tt
  pub here : first (checks j) ≡ Err f

module _ (checks : ℕ → List Checked) (f : Fault) where
  along-at : (k i : ℕ) → first (along checks i k) ≡ Err f → FirstAt checks i k f
  along-at zero i e = never e
  along-at (suc k) i e =
      elim ((later-bad _ _ f).0 (sym (first-append (checks i) (along checks (i + 1) k)) ∙ e)) [
        | inl h ↦ record {
          j = i;
          from = omega arith;
          below = omega arith;
          before = λ m l less. absurd (omega (arith, l, less));
          here = h;
        }
        | inr h ↦
            let r = along-at k (i + 1) h.1 in
            record {
              j = r.j;
              from = omega (arith, r.from);
              below = omega (arith, r.below);
              before = λ m l less.
                  elim (eq-or-lt_of_le l) [
                    | inl same ↦ ap (λ (z : ℕ). first (checks z)) (sym same) ∙ h.0
                    | inr past ↦ r.before m (omega (arith, past)) less
                  ];
              here = r.here;
            }
      ]

  at-along : (k i : ℕ) → FirstAt checks i k f → first (along checks i k) ≡ Err f
  at-along zero i r = absurd (omega (arith, r.from, r.below))
  at-along (suc k) i r =
      first-append (checks i) (along checks (i + 1) k)
      ∙ (later-bad _ _ f).1 (elim (eq-or-lt_of_le r.from) [
        | inl same ↦ inl (ap (λ (z : ℕ). first (checks z)) same ∙ r.here)
        | inr past ↦
            inr (
              r.before i (omega arith) past,
              at-along k (i + 1) (record {
                j = r.j;
                from = omega (arith, past);
                below = omega (arith, r.below);
                before = λ m l less. r.before m (omega (arith, l)) less;
                here = r.here;
              }),
            )
      ])

-- ---- all checks

-- after a path's own checks its numbers are small, and their faults are neither 23 nor 24
pub record Judged (own : List Checked) (path : List Float) : Type 0 where
  pub low : Low (first own)
  pub small : first own ≡ Ok tt → (i : ℕ) → i < vertex_count path → SmallVertex (vertex path i)

room-fault : (path : List Float) (closed : Bool) (old : List ℕ)
    → (room_check path closed old ≡ Err (whole Refusal.room Room)) ↔ (length old < length (bytes_of path closed))
unfolding refuse
room-fault path closed old = (
  λ e. go (nat_lt (length old) (length (bytes_of path closed))) refl e,
  λ h. rw (lt-ltb _ _ h),
)
  where
    go : (b : Bool) → nat_lt (length old) (length (bytes_of path closed)) ≡ b
        → refuse b Refusal.room (at 0 0 Room) ≡ Err (whole Refusal.room Room) → length old < length (bytes_of path closed)
    go true is e = ltb-true _ _ is
    go false is e = never e

room-number : (b : Bool) (f : Fault) → refuse b Refusal.room (at 0 0 Room) ≡ Err f → f.number ≡ Refusal.room
unfolding refuse number_of
room-number true f e = sym (ap number_of e)
room-number false f e = never e

module _ (own : List Checked) (path : List Float) (closed : Bool) (old : List ℕ) where
  abbrev pub all_checks : List Checked
  all_checks = own ++ (text_checks path ++ (room_check path closed old ∷ []))

  in-turn : first all_checks ≡ later (first own) (later (first (text_checks path)) (room_check path closed old))
  in-turn =
      first-append own (text_checks path ++ (room_check path closed old ∷ []))
      ∙ ap (later (first own))
      (first-append (text_checks path) (room_check path closed old ∷ [])
      ∙ ap (later (first (text_checks path))) (fine-right (room_check path closed old)))

  -- the answer is that of the first fault
  pub refused-after : (f : Fault) → ((export_after own path closed old).answer ≡ Err f) ↔ FirstFault f all_checks
  unfolding export_after
  refused-after f = Iff.trans (by (first all_checks)) (first-bad all_checks f)
    where
      fault-of : Fault → Result ℕ Fault → Fault
      fault-of f (Ok n) = f
      fault-of f (Err g) = g

      by : (c : Checked) → ((by_checks (bytes_of path closed) old c).answer ≡ Err f) ↔ (c ≡ Err f)
      by (Ok _) = (λ e. absurd (true≢false (ap tagged e)), λ e. never e)
      by (Err g) = (λ e. ap Err (ap (fault-of f) e), λ e. ap (λ (c : Checked). (by_checks (bytes_of path closed) old c).answer) e)

  -- and the bytes exactly if there is none
  pub bytes_after :
      ((export_after own path closed old).answer ≡ Ok (length (bytes_of path closed))) ↔ (first all_checks ≡ Ok tt)
  unfolding export_after
  bytes_after = by (first all_checks)
    where
      by : (c : Checked)
          → ((by_checks (bytes_of path closed) old c).answer ≡ Ok (length (bytes_of path closed))) ↔ (c ≡ Ok tt)
      by (Ok _) = (λ e. refl, λ e. refl)
      by (Err g) = (λ e. absurd (true≢false (sym (ap tagged e))), λ e. never (sym e))

  module _ (judged : Judged own path) (f64 : (k : ℕ) → T (fits binary64 (number path k))) where
    -- the texts
    all-texts : first own ≡ Ok tt → (first (text_checks path) ≡ Ok tt) ↔ TextsBelow path (vertex_count path)
    all-texts fine =
        let along = along-fine (of_texts path) (vertex_count path) (λ j. Iff.rfl) in (
          λ e i l. (vertex-texts path i f64 (judged.small fine i l)).0 (along.0 e i l),
          λ h. along.1 (λ i l. (vertex-texts path i f64 (judged.small fine i l)).1 (h i l)),
        )

    first-text : first own ≡ Ok tt → (i : ℕ) (item : Item) → first (text_checks path) ≡ Err (no_text i item)
        → NoText own path i item
    first-text fine i item e =
        let r = along-at (of_texts path) (no_text i item) (vertex_count path) 0 e in
        let same = (vertex-place path r.j (no_text i item) r.here).1 in
        let below : i < vertex_count path = omega (arith, r.below, same) in
        record {
          own-fine = (first_fine own).0 fine;
          inside = below;
          before = λ m l.
              (vertex-texts path m f64 (judged.small fine m (omega (arith, l, below)))).0
              (r.before m (omega arith) (omega (arith, l, same)));
          here =
              (vertex-no-text path i f64 (judged.small fine i below) item).0
              (ap (λ (z : ℕ). first (of_texts path z)) same ∙ r.here);
        }

    text-first : (i : ℕ) (item : Item) → NoText own path i item → first (text_checks path) ≡ Err (no_text i item)
    text-first i item t =
        let fine = (first_fine own).1 t.own-fine in
        at-along (of_texts path) (no_text i item) (vertex_count path) 0 (record {
          j = i;
          from = omega arith;
          below = omega (arith, t.inside);
          before = λ m l less.
              (vertex-texts path m f64 (judged.small fine m (omega (arith, less, t.inside)))).1 (t.before m less);
          here = (vertex-no-text path i f64 (judged.small fine i t.inside) item).1 t.here;
        })

    texts-number : (f : Fault) → first (text_checks path) ≡ Err f → f.number ≡ Refusal.no_text
    texts-number f e =
        let r = along-at (of_texts path) f (vertex_count path) 0 e in (vertex-place path r.j f r.here).0

    -- which of the three it is
    data Which (f : Fault) : Type 0 where
      in-own : first own ≡ Err f → Which f
      in-texts : first own ≡ Ok tt → first (text_checks path) ≡ Err f → Which f
      in-room : first own ≡ Ok tt → first (text_checks path) ≡ Ok tt → room_check path closed old ≡ Err f → Which f

    which : (f : Fault) → FirstFault f all_checks → Which f
    which f h =
        elim ((later-bad _ _ f).0 (sym in-turn ∙ (first-bad all_checks f).1 h)) [
          | inl e ↦ in-own e
          | inr e ↦
              elim ((later-bad _ _ f).0 e.1) [
                | inl t ↦ in-texts e.0 t
                | inr t ↦ in-room e.0 t.0 t.1
              ]
        ]

    of-which : (f : Fault) → Which f → FirstFault f all_checks
    of-which f w = (first-bad all_checks f).0 (in-turn ∙ go w)
      where
        go : Which f → later (first own) (later (first (text_checks path)) (room_check path closed old)) ≡ Err f
        go (in-own e) = (later-bad _ _ f).1 (inl e)
        go (in-texts e t) = (later-bad _ _ f).1 (inr (e, (later-bad _ _ f).1 (inl t)))
        go (in-room e t r) = (later-bad _ _ f).1 (inr (e, (later-bad _ _ f).1 (inr (t, r))))

    -- a path's own
    pub own-after : (f : Fault) → f.number < numbers_below → FirstFault f all_checks ↔ FirstFault f own
    own-after f low = (λ h. go (which f h), λ h. of-which f (in-own ((first-bad own f).1 h)))
      where
        go : Which f → FirstFault f own
        go (in-own e) = (first-bad own f).0 e
        go (in-texts e t) = let z = texts-number f t in absurd (omega (arith, z, low))
        go (in-room e t r) = let z = room-number _ f r in absurd (omega (arith, z, low))

    -- 23
    pub no-text-after : (i : ℕ) (item : Item) → FirstFault (no_text i item) all_checks ↔ NoText own path i item
    no-text-after i item = (
      λ h. go (which (no_text i item) h),
      λ t. of-which (no_text i item) (in-texts ((first_fine own).1 t.own-fine) (text-first i item t)),
    )
      where
        go : Which (no_text i item) → NoText own path i item
        go (in-own e) = let z = judged.low.below (no_text i item) e in absurd (omega (arith, z))
        go (in-texts e t) = first-text e i item t
        go (in-room e t r) = let z = room-number _ (no_text i item) r in absurd (omega (arith, z))

    -- 24
    pub no-room-after : FirstFault (whole Refusal.room Room) all_checks ↔ NoRoom own path closed old
    no-room-after = (
      λ h. go (which (whole Refusal.room Room) h),
      λ n.
          let fine = (first_fine own).1 n.own-fine in
          of-which (whole Refusal.room Room)
          (in-room fine ((all-texts fine).1 n.texts) ((room-fault path closed old).1 n.short)),
    )
      where
        go : Which (whole Refusal.room Room) → NoRoom own path closed old
        go (in-own e) = let z = judged.low.below (whole Refusal.room Room) e in absurd (omega (arith, z))
        go (in-texts e t) = let z = texts-number (whole Refusal.room Room) t in absurd (omega (arith, z))
        go (in-room e t r) = record {
          own-fine = (first_fine own).0 e;
          texts = (all-texts e).0 t;
          short = (room-fault path closed old).0 r;
        }

    -- none
    pub fine-after : (first all_checks ≡ Ok tt) ↔ Exportable own path closed old
    fine-after = (
      λ e.
          let a = (later-fine _ _).0 (sym in-turn ∙ e) in
          let b = (later-fine _ _).0 a.1 in
          record {
            own-fine = (first_fine own).0 a.0;
            texts = (all-texts a.0).0 b.0;
            inside = ltb-false _ _ (refuse-fine _ _ _ b.1);
          },
      λ x.
          let fine = (first_fine own).1 x.own-fine in
          let fits_in : room_check path closed old ≡ (Ok tt) = no-fault _ _ _ (le-ltb _ _ x.inside) in
          in-turn ∙ (later-fine _ _).1 (fine, (later-fine _ _).1 ((all-texts fine).1 x.texts, fits_in)),
    )

  -- ---- what the text holds

  module _ {r : Result ℕ Fault} {now : List ℕ} (x : Exports (export_after own path closed old) r now) where
    pub keeps-after : (f : Fault) → r ≡ Err f → now ≡ old
    unfolding export_after
    keeps-after f e = x.text-holds ∙ go (first all_checks) (sym x.answer-is ∙ e)
      where
        go : (c : Checked) → (by_checks (bytes_of path closed) old c).answer ≡ Err f
            → (by_checks (bytes_of path closed) old c).text ≡ old
        go (Ok _) e = absurd (true≢false (ap tagged e))
        go (Err g) e = refl

    pub front-after : (n : ℕ) → r ≡ Ok n → now ≡ bytes_of path closed ++ drop n old
    unfolding export_after
    front-after n e = x.text-holds ∙ go (first all_checks) refl (sym x.answer-is ∙ e)
      where
        count_of : Result ℕ Fault → ℕ
        count_of (Ok k) = k
        count_of (Err f) = 0

        zero_more : (n : ℕ) → 0 + n ≡ n
        zero_more n = omega arith

        go : (c : Checked) → first all_checks ≡ c → (by_checks (bytes_of path closed) old c).answer ≡ Ok n
            → (by_checks (bytes_of path closed) old c).text ≡ bytes_of path closed ++ drop n old
        go (Ok _) is e =
            let b = bytes_of path closed in
            let all = (later-fine _ _).0 (sym in-turn ∙ is) in
            let last = ((later-fine _ _).0 all.1).1 in
            let inside : length b ≤ length old = ltb-false _ _ (refuse-fine _ _ _ last) in
            let whole : sets old 0 b ≡ b ++ drop (length b) old =
            rw (zero_more (length b)) at (sets-eq b old 0 (omega (arith, inside))) in
            whole ∙ ap (λ (k : ℕ). b ++ drop k old) (ap count_of e)
        go (Err f) is e = absurd (true≢false (sym (ap tagged e)))
