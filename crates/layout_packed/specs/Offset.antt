-- The offset that is told is that of Fault.antt: the reader tells K exactly if the fault lies at K, and it lies at one offset
-- only.
use Rattle.std.specs.Prelude.{ℕ, ◌≤◌, ◌≡◌, refl, ◌↔◌, List, ℤ}
use Rattle.std.proofs.Common.{ap}
use Rattle.layouts.specs.Limits as limit
use Rattle.layouts.specs.Layout.{Layout, magnitude}
use Rattle.layout_packed.specs.Limits as written
use Rattle.layout_packed.specs.Groups.{zigzag}
use Rattle.layout_packed.specs.Packed.{numbers_of, joined, packed_of}
use Rattle.layout_packed.specs.Fault.{FaultAt}
use Rattle.layout_packed.specs.Workings.Reader.{Unpacked, broken_at, layout, meant, reads_packed}
use Rattle.layout_packed.specs.Laws.Zigzag.{zigzag-most, most-zigzag, zigzag-meant}
use Rattle.layout_packed.specs.Laws.Apart.{zigzag-apart}
use Rattle.layout_packed.specs.Laws.Order.{complete-fine, fault-alike}
use Rattle.layout_packed.specs.Laws.Faults.{sound-layout, reads-fault, reads-layout}

-- ---- the ranges: a coordinate or bulge is within its limit exactly if the number that is written for it is

pub coordinate-range : (z : ℤ) → (magnitude z ≤ limit.coordinate) ↔ (zigzag z ≤ written.coordinate)
coordinate-range z = (zigzag-most z limit.coordinate, most-zigzag z limit.coordinate)

pub bulge-range : (z : ℤ) → (magnitude z ≤ limit.bulge) ↔ (zigzag z ≤ written.bulge)
bulge-range z = (zigzag-most z limit.bulge, most-zigzag z limit.bulge)

-- and every number is written for one of them, and for no other
pub written-for : (n : ℕ) → (z : ℤ) × (zigzag z ≡ n)
written-for n = (meant n, zigzag-meant n)

pub written_once : (z w : ℤ) → zigzag z ≡ zigzag w → z ≡ w
written_once = zigzag-apart

-- ---- the offset

-- a file has a fault at one offset at most
pub fault-only : (bytes : List ℕ) (k j : ℕ) → FaultAt bytes k → FaultAt bytes j → k ≡ j
fault-only bytes k j f g = fault-alike f g

-- so no other offset will do: not that of the faulty number's last byte, for one
pub fault-nowhere-else : (bytes : List ℕ) (k j : ℕ) → FaultAt bytes k → (k ≡ j → ⊥) → FaultAt bytes j → ⊥
fault-nowhere-else bytes k j f other g = other (fault-only bytes k j f g)

-- the reader tells it, and tells nothing else
pub fault-told : (bytes : List ℕ) (k : ℕ) → (reads_packed bytes ≡ broken_at k) ↔ FaultAt bytes k
unfolding packed_of
fault-told bytes k = (λ e. reads-fault bytes e, λ f. go (reads_packed bytes) refl f)
  where
    fine : (l : Layout) → reads_packed bytes ≡ layout l → FaultAt bytes k → ⊥
    fine l e f =
        let s = reads-layout bytes e in
        let g : FaultAt (joined (numbers_of l)) k = rw s.0 at f in
        complete-fine (numbers_of l) (sound-layout l s.1) g

    go : (u : Unpacked) → reads_packed bytes ≡ u → FaultAt bytes k → u ≡ broken_at k
    go (broken_at j) e f = ap broken_at (fault-only bytes j k (reads-fault bytes e) f)
    go (layout l) e f = absurd (fine l e f)
