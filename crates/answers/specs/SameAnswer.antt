-- Two answers with the same numbers are the same answer, for each of the four calls: an answer can be built again from its
-- numbers.
use Rattle.crossing.specs.declared.line_line_intr.LineLineIntr.{LineLineIntr}
use Rattle.crossing.specs.declared.line_circle_intr.LineCircleIntr.{LineCircleIntr}
use Rattle.crossing.specs.declared.circle_circle_intr.CircleCircleIntr.{CircleCircleIntr}
use Rattle.arcs.specs.declared.pline_seg_intr.PlineSegIntr.{PlineSegIntr}
use Rattle.std.specs.Prelude.{◌≡◌, refl, cond, List, [], ◌∷◌, eqb, Float, Err, Ok, Result}
use Rattle.std.proofs.Common.{sym, ap, ◌∙◌}
use Rattle.plane.specs.declared.vector2.Vector2.{Vector2}
use Rattle.checks.specs.declared.fault.Item.{Item}
use Rattle.checks.specs.declared.fault.Fault.{Fault}
use Rattle.checks.specs.Fault.{at}
use Rattle.checks.specs.FaultNumbers.{item_back, item-same}
use Rattle.arcs.specs.declared.pline_seg_intr.PlineSegIntr.TheVariants as pline_seg_is
use Rattle.crossing.specs.AnswerNumbers.{AnswerNumbers, of_fault}
use Rattle.answers.specs.Laws.Answers.{answer, again}
use Rattle.crossing.specs.LineLineIntersect as lines
use Rattle.crossing.specs.LineCircleIntersect as line_and_circle
use Rattle.crossing.specs.CircleCircleIntersect as circles
use Rattle.crossing.specs.PlineSegIntersect as pairs
use Rattle.crossing.specs.declared.line_line_intr.LineLineIntr.TheVariants as line_line_is
use Rattle.crossing.specs.declared.line_circle_intr.LineCircleIntr.TheVariants as line_circle_is
use Rattle.crossing.specs.declared.circle_circle_intr.CircleCircleIntr.TheVariants as circle_circle_is

-- if answers can be built again from their numbers, equal numbers mean equal answers
same_by : {A : Type 0} (numbers : A → AnswerNumbers) (back : AnswerNumbers → A) → ((a : A) → back (numbers a) ≡ a) → (a b : A)
    → numbers a ≡ numbers b → a ≡ b
same_by numbers back is a b e = sym (is a) ∙ ap back e ∙ is b

-- the fault of a refusal
fault_of : AnswerNumbers → Fault
fault_of t = record { number = t.number; place = at t.owner t.index (item_back t.item) }

fault-again : (f : Fault) → fault_of (of_fault f) ≡ f
unfolding fault_of
fault-again f = ap (λ (i : Item). record { number = f.number; place = at f.place.owner f.place.index i })
    (item-same f.place.item)

-- one, two or four values, and what stands for any other count
abbrev one : {A : Type 0} → (Float → A) → A → List Float → A
one f other [] = other
one f other (a ∷ rest) = f a

abbrev two : {A : Type 0} → (Float → Float → A) → A → List Float → A
two f other [] = other
two f other (a ∷ rest) = one (f a) other rest

abbrev four : {A : Type 0} → (Float → Float → Float → Float → A) → A → List Float → A
four f other [] = other
four f other (a ∷ []) = other
four f other (a ∷ b ∷ rest) = two (f a b) other rest

abbrev point : Float → Float → Vector2
point x y = record { x = x; y = y }

-- ---- two lines
line-line-back : AnswerNumbers → Result LineLineIntr Fault
line-line-back t =
    cond t.refused (Err (fault_of t))
    (cond (eqb t.number 1)
    (two (λ a b. Ok (line_line_is.TrueIntersect a b))
    (Ok line_line_is.NoIntersect) t.values)
    (cond (eqb t.number 2)
    (two (λ a b. Ok (line_line_is.Overlapping a b))
    (Ok line_line_is.NoIntersect) t.values)
    (cond (eqb t.number 3)
    (two (λ a b. Ok (line_line_is.FalseIntersect a b))
    (Ok line_line_is.NoIntersect) t.values)
    (Ok line_line_is.NoIntersect))))

line-line-again : (a : Result LineLineIntr Fault) → line-line-back (lines.numbers_of a) ≡ a
unfolding line-line-back
line-line-again (Err f) = ap Err (fault-again f)
line-line-again (Ok line_line_is.NoIntersect) = refl
line-line-again (Ok (line_line_is.TrueIntersect t1 t2)) = refl
line-line-again (Ok (line_line_is.Overlapping t0 t1)) = refl
line-line-again (Ok (line_line_is.FalseIntersect t1 t2)) = refl

pub line-line : (a b : Result LineLineIntr Fault) → lines.numbers_of a ≡ lines.numbers_of b → a ≡ b
line-line = same_by lines.numbers_of line-line-back line-line-again

-- ---- a line and a circle
line-circle-back : AnswerNumbers → Result LineCircleIntr Fault
line-circle-back t =
    cond t.refused (Err (fault_of t))
    (cond (eqb t.number 1)
    (one (λ a. Ok (line_circle_is.TangentIntersect a))
    (Ok line_circle_is.NoIntersect) t.values)
    (cond (eqb t.number 2)
    (two (λ a b. Ok (line_circle_is.TwoIntersects a b))
    (Ok line_circle_is.NoIntersect) t.values)
    (Ok line_circle_is.NoIntersect)))

line-circle-again : (a : Result LineCircleIntr Fault) → line-circle-back (line_and_circle.numbers_of a) ≡ a
unfolding line-circle-back
line-circle-again (Err f) = ap Err (fault-again f)
line-circle-again (Ok line_circle_is.NoIntersect) = refl
line-circle-again (Ok (line_circle_is.TangentIntersect t0)) = refl
line-circle-again (Ok (line_circle_is.TwoIntersects t0 t1)) = refl

pub line-circle : (a b : Result LineCircleIntr Fault) → line_and_circle.numbers_of a ≡ line_and_circle.numbers_of b → a ≡ b
line-circle = same_by line_and_circle.numbers_of line-circle-back line-circle-again

-- ---- two circles
circle-circle-back : AnswerNumbers → Result CircleCircleIntr Fault
circle-circle-back t =
    cond t.refused (Err (fault_of t))
    (cond (eqb t.number 1)
    (two (λ a b. Ok (circle_circle_is.TangentIntersect (point a b)))
    (Ok circle_circle_is.NoIntersect) t.values)
    (cond (eqb t.number 2)
    (four (λ a b c d. Ok (circle_circle_is.TwoIntersects (point a b) (point c d)))
    (Ok circle_circle_is.NoIntersect) t.values)
    (cond (eqb t.number 3) (Ok circle_circle_is.Overlapping)
    (Ok circle_circle_is.NoIntersect))))

circle-circle-again : (a : Result CircleCircleIntr Fault) → circle-circle-back (circles.numbers_of a) ≡ a
unfolding circle-circle-back
circle-circle-again (Err f) = ap Err (fault-again f)
circle-circle-again (Ok circle_circle_is.NoIntersect) = refl
circle-circle-again (Ok (circle_circle_is.TangentIntersect p)) = refl
circle-circle-again (Ok (circle_circle_is.TwoIntersects p q)) = refl
circle-circle-again (Ok circle_circle_is.Overlapping) = refl

pub circle-circle : (a b : Result CircleCircleIntr Fault) → circles.numbers_of a ≡ circles.numbers_of b → a ≡ b
circle-circle = same_by circles.numbers_of circle-circle-back circle-circle-again

-- ---- the pair call
pline-seg-back : AnswerNumbers → Result PlineSegIntr Fault
pline-seg-back t =
    cond t.refused (Err (fault_of t))
    (four (λ a b c d. Ok (answer t.number (point a b) (point c d))) (Ok pline_seg_is.NoIntersect) t.values)

pline-seg-again : (a : Result PlineSegIntr Fault) → pline-seg-back (pairs.numbers_of a) ≡ a
unfolding pline-seg-back
pline-seg-again (Err f) = ap Err (fault-again f)
pline-seg-again (Ok r) = ap Ok (sym (again r))

pub pline-seg : (a b : Result PlineSegIntr Fault) → pairs.numbers_of a ≡ pairs.numbers_of b → a ≡ b
pline-seg = same_by pairs.numbers_of pline-seg-back pline-seg-again
