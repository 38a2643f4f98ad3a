-- The reader accepts exactly the packed forms of layouts within the limits, and it reads the packed form of a layout as that
-- layout. So each layout has one packed form.
use Rattle.std.specs.Prelude.{ℕ, ◌≡◌, refl, List}
use Rattle.std.proofs.Common.{sym, ap, ◌∙◌, arith}
use Rattle.layouts.specs.Layout.{Layout, Within}
use Rattle.layout_packed.specs.Packed.{numbers_of, packed_of}
use Rattle.layout_packed.specs.Workings.Reader.{Unpacked, broken_at, layout, reads_packed}
use Rattle.layout_packed.specs.Laws.Order.{complete-fine, complete-alike}
use Rattle.layout_packed.specs.Laws.Faults.{sound-layout, reads-fault, reads-layout}
use Rattle.layout_packed.specs.Laws.Apart.{numbers_apart}

-- each layout within the limits has one packed form: no two of them have the same bytes
pub one-packed : (l k : Layout) → Within l → Within k → packed_of l ≡ packed_of k → l ≡ k
unfolding packed_of
one-packed l k w v e = numbers_apart l k (complete-alike (numbers_of l) (numbers_of k) (sound-layout l w) (sound-layout k v) e)

-- no other bytes are accepted: what is read as a layout is the packed form of that layout, which is within the limits
pub read-is-packed : (bytes : List ℕ) (l : Layout) → reads_packed bytes ≡ layout l → (bytes ≡ packed_of l) × Within l
read-is-packed bytes l e = reads-layout bytes e

-- no packed form is refused: that of a layout is read as that layout
pub packed-reads : (l : Layout) → Within l → reads_packed (packed_of l) ≡ layout l
unfolding packed_of
packed-reads l w = go (reads_packed (packed_of l)) refl
  where
    go : (u : Unpacked) → reads_packed (packed_of l) ≡ u → u ≡ layout l
    go (broken_at k) e = absurd (complete-fine (numbers_of l) (sound-layout l w) (reads-fault (packed_of l) e))
    go (layout k) e =
        let s = read-is-packed (packed_of l) k e in
        ap layout (sym (one-packed l k w s.1 s.0))

-- ---- a file is refused exactly if no layout within the limits has these bytes

pub refused-no-layout : (bytes : List ℕ) (k : ℕ) → reads_packed bytes ≡ broken_at k → (l : Layout) → Within l → bytes ≡ packed_of l
    → ⊥
refused-no-layout bytes k e l w is =
    let both : broken_at k ≡ layout l = sym e ∙ ap reads_packed is ∙ packed-reads l w in
    let z : ◌≡◌ {A = ℕ} 0 1 = cc in
    omega arith

pub record Refused (bytes : List ℕ) : Type 0 where
  pub at : ℕ
  pub is : reads_packed bytes ≡ broken_at at

pub no-layout-refused : (bytes : List ℕ) → ((l : Layout) → Within l → bytes ≡ packed_of l → ⊥) → Refused bytes
no-layout-refused bytes none = go (reads_packed bytes) refl
  where
    go : (u : Unpacked) → reads_packed bytes ≡ u → Refused bytes
    go (broken_at k) e = record { at = k; is = e }
    go (layout l) e = let s = read-is-packed bytes l e in absurd (none l s.1 s.0)
