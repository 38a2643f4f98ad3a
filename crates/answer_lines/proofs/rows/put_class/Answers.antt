-- `answer_lines::rows::put_class` meets its contract: its tests are the definition's. Assumes nothing.
use Rattle.std.proofs.Common.{◌≡◌, ℕ, ◌≤◌, Bool, true, false, cond, List, length, arith, ne_eqb}
use lib.Dec.{lit≤}
use Rattle.answer_lines.specs.Lines.{class_text}
use Rattle.answer_lines.specs.Sizes.{name}
use Rattle.put_text.specs.Workings.Put.{Put, PutIn}
use Rattle.put_text.specs.Laws.Put.{word_in}
use Rattle.answer_lines.proofs.rows.put_class.Goals as goal

-- a class's name is no longer than the longest
either : (test : Bool) (a b : List ℕ) → length a ≤ name → length b ≤ name → length (cond test a b) ≤ name
either true a b h k = h
either false a b h k = k

short : (class : ℕ) → length (class_text class) ≤ name
unfolding class_text
short class = search (either, lit≤) depth 8

-- the name of n, put where the class is n
named : (class n : ℕ) (old now : List ℕ) (at next : ℕ) → class ≡ n → Put (class_text n) old at now next
    → PutIn name (class_text class) old at now next
named class n old now at next e p = rw e (word_in name p (short n))

pub returns-then-class-eq1 : goal.returns-then-class-eq1
unfolding class_text
returns-then-class-eq1 c = named _ 1 _ _ _ _ c.if-class-eq1.true c.put_word.ensures

pub returns-then-class-eq2 : goal.returns-then-class-eq2
unfolding class_text
returns-then-class-eq2 c = named _ 2 _ _ _ _ c.if-class-eq2.true c.put_word-then-class-eq2.ensures

pub returns-then-class-eq3 : goal.returns-then-class-eq3
unfolding class_text
returns-then-class-eq3 c = named _ 3 _ _ _ _ c.if-class-eq3.true c.put_word-then-class-eq3.ensures

pub returns-then-class-eq4 : goal.returns-then-class-eq4
unfolding class_text
returns-then-class-eq4 c = named _ 4 _ _ _ _ c.if-class-eq4.true c.put_word-then-class-eq4.ensures

pub returns-then-class-eq5 : goal.returns-then-class-eq5
unfolding class_text
returns-then-class-eq5 c = named _ 5 _ _ _ _ c.if-class-eq5.true c.put_word-then-class-eq5.ensures

pub returns : goal.returns
unfolding class_text
returns c =
    simp (
      ne_eqb _ 1 c.if-class-eq1.false,
      ne_eqb _ 2 c.if-class-eq2.false,
      ne_eqb _ 3 c.if-class-eq3.false,
      ne_eqb _ 4 c.if-class-eq4.false,
      ne_eqb _ 5 c.if-class-eq5.false,
    ) (word_in name c.put_word-2.ensures (omega arith))
