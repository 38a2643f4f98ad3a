-- `month::count::count` meets its contract: what the answer adds is small, so that every sum fits.
use borrow.Author.Rules.{rules}
use Rattle.month.specs.Laws.Listings.{refused-small, listed_small, adds-asked, adds-done}
use Rattle.month.proofs.count.count.Statement.{statement}
use Rattle.month.proofs.count.count.Tie as tie

-- ---- a refusal
add-words-requires : tie.Need-add_words-requires
add-words-requires c κs =
    let p = c.requires in
    adds-asked _ _ _ p.long p.roomy c.refused_adds-adds.ensures (refused-small _)

returns : tie.Need-returns-in-Err
returns c =
    simp c.in-Err.is
    (adds-done _ c.args.report.now _ _ c.add_words.ensures c.refused_adds-adds.ensures (refused-small _))

-- ---- rows and pairs
listed-adds-requires : tie.Need-listed_adds-adds-requires
listed-adds-requires c κs =
    let is = c.requires.listed _ _ c.in-Ok.is in (is.few-rows, is.inside)

add-words-requires-2 : tie.Need-add_words-requires-in-Ok
add-words-requires-2 c κs =
    let p = c.requires in
    let is = p.listed _ _ c.in-Ok.is in
    adds-asked _ _ _ p.long p.roomy c.listed_adds-adds.ensures (listed_small _ _ _ is.few-rows is.few-pairs)

returns-2 : tie.Need-returns-in-Ok
returns-2 c =
    let is = c.requires.listed _ _ c.in-Ok.is in
    simp c.in-Ok.is
    (adds-done _ c.args.report.now _ _ c.add_words-in-Ok.ensures c.listed_adds-adds.ensures
    (listed_small _ _ _ is.few-rows is.few-pairs))

pub count_spec : {M : Type 1} → statement M
count_spec =
    tie.close
    (tie.spec
    (λ c. search rules)
    (λ c κs. c.requires.refused _ c.in-Err.is)
    (λ c. search rules) add-words-requires
    (λ c. search rules) listed-adds-requires (λ c. search rules) add-words-requires-2
    (λ c. search rules) returns (λ c. search rules) returns-2)
