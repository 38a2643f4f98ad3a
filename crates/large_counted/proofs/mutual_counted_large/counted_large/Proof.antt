-- `large_counted::mutual_counted_large::counted_large` meets its contract: a fault is answered and counted; if there is none,
-- the paths were checked.
use Rattle.std.specs.Prelude.{Ok}
use mathlib.Core.Path.{◌≡◌, sym, ◌∙◌}
use borrow.Author.Rules.{rules}
use Rattle.large_listings.specs.LargeListings.{check_mutual_large}
use Rattle.large_counted.specs.Laws.LargeCounting.{refused-countable, refused-added}
use Rattle.large_counted.proofs.mutual_counted_large.counted_large.Statement.{statement}
use Rattle.large_counted.proofs.mutual_counted_large.counted_large.Tie as tie

abbrev start : tie.After-check_mutual_large-checked → tie.Start
start c = c.before.before.before.before.before.before

-- no fault was found
fine : (c : tie.In-Ok)
    → let a = (start c.before).args in
    check_mutual_large a.first.now a.first_closed a.second.now a.second_closed a.epsilon ≡ Ok tt
fine c = sym c.check_mutual_large-checked.ensures ∙ c.in-Ok.is

counted-cut-requires : tie.Need-counted_cut-requires
counted-cut-requires c κs = let t = c.before.before.before in (fine t, (start t.before).requires)

count-requires : tie.Need-count-requires
count-requires c κs =
    let h = c.before.before in
    let s = start h in
    refused-countable _ _ _ _ _ s.args.indices.now s.args.points.now _ _
    (sym h.check_mutual_large-checked.ensures ∙ c.in-Err.is)
    s.requires.0 s.requires.1 _

returns-2 : tie.Need-returns-in-Err
returns-2 c =
    refused-added _ _ _ _ _ _ _ _ _ (sym c.check_mutual_large-checked.ensures ∙ c.in-Err.is) _ c.count.ensures

pub counted_large_spec : {M : Type 1} → statement M
counted_large_spec =
    tie.close
    (tie.spec
    (λ c. search rules) (λ c. search rules) counted-cut-requires (λ c. search rules) count-requires
    (λ c. search rules) (λ c. search rules) (λ c. search rules) (λ c. search rules)
    (λ c. search rules) (λ c. search rules) returns-2)
