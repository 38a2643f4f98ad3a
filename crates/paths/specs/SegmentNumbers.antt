-- The answer of `segment` in numbers: none, or x, y and bulge of the segment's first vertex, then of its second, and the
-- segment's trace. Two answers with the same numbers are the same.
use Rattle.paths.specs.declared.path.Segment.{Segment}
use Rattle.std.specs.Prelude.{◌≡◌, refl, List, [], ◌∷◌, Float, None, Option, Some}
use Rattle.std.proofs.Common.{sym, ap, ◌∙◌}

abbrev pub segment_numbers : Option Segment → List Float
segment_numbers None = []
segment_numbers (Some s) = s.v1.x ∷ s.v1.y ∷ s.v1.bulge ∷ s.v2.x ∷ s.v2.y ∷ s.v2.bulge ∷ s.trace ∷ []

-- ---- back from the numbers
back : List Float → Option Segment
back [] = None
back (a ∷ []) = None
back (a ∷ b ∷ []) = None
back (a ∷ b ∷ c ∷ []) = None
back (a ∷ b ∷ c ∷ d ∷ []) = None
back (a ∷ b ∷ c ∷ d ∷ e ∷ []) = None
back (a ∷ b ∷ c ∷ d ∷ e ∷ f ∷ []) = None
back (a ∷ b ∷ c ∷ d ∷ e ∷ f ∷ t ∷ rest) =
    Some (record { v1 = record { x = a; y = b; bulge = c }; v2 = record { x = d; y = e; bulge = f }; trace = t })

numbers-back : (a : Option Segment) → back (segment_numbers a) ≡ a
unfolding back
numbers-back None = refl
numbers-back (Some s) = refl

pub same_numbers : (a b : Option Segment) → segment_numbers a ≡ segment_numbers b → a ≡ b
same_numbers a b e = sym (numbers-back a) ∙ ap back e ∙ numbers-back b
