-- `large_counted::mutual_counted_large::counted_cut` meets its contract: both paths are cut, every pair of the cut paths is fine
-- for the pair call, and the job's counted listing is that of the two paths.
use mathlib.Core.Path.{◌≡◌, sym, ap}
use mathlib.Core.Bool.{false}
use native.Mathlib.Omega.{arith}
use borrow.Author.Rules.{rules}
use lib.Seq.{length-take-le}
use Rattle.listing_pairs.specs.declared.order.Job.{Job}
use Rattle.large_listings.specs.Laws.LargeReady.{mutual-ready, roomy, few-cut}
use Rattle.large_listings.specs.Laws.LargeEntry.{mutual-fine, mutual-plain}
use Rattle.large_counted.specs.Laws.LargeCounting.{mutual-counted}
use Rattle.large_listings.specs.Laws.Buffers.{floats-long, names-long, plain-long, plain-enough}
use Rattle.large_counted.proofs.mutual_counted_large.counted_cut.Statement.{statement}
use Rattle.large_counted.proofs.mutual_counted_large.counted_cut.Tie as tie

-- the places after both cuts, and the start
abbrev first-cut : tie.After-cut-b → tie.After-cut-a
first-cut c = c.before.before.before.before.before

abbrev start : tie.After-cut-a → tie.Start
start c = c.before.before.before.before.before.before.before.before

cut-requires : tie.Need-cut-a-requires
cut-requires c κs =
    roomy _ 0 _ _ (mutual-fine _ _ _ _ _ c.requires.0).first-shape (omega (arith, floats-long)) (omega (arith, names-long))

cut-requires-2 : tie.Need-cut-b-requires
cut-requires-2 c κs =
    roomy _ 1 _ _ (mutual-fine _ _ _ _ _ c.requires.0).second-shape (omega (arith, floats-long)) (omega (arith, names-long))

-- the lent parts
long : tie.Need-slice_bounds-list_counted-end
long c =
    sym (length-take-le _ _ c.cut-a.ensures.inside)

long-2 : tie.Need-slice_bounds-list_counted-end-2
long-2 c =
    sym (length-take-le _ _ c.cut-b.ensures.inside)

long-3 : tie.Need-slice_bounds-list_counted-end-3
long-3 c =
    sym (length-take-le _ _ c.cut-a.ensures.names-inside)

long-4 : tie.Need-slice_bounds-list_counted-end-4
long-4 c =
    sym (length-take-le _ _ c.cut-b.ensures.names-inside)

list-counted-requires : tie.Need-list_counted-requires
list-counted-requires c κs =
    let b = c.before.before.before.before.before.before.before.before.before.before.before in
    let a = first-cut b in
    let s = start a in
    let f = mutual-fine _ _ _ _ _ s.requires.0 in
    let few = few-cut _ _ _ _ _ b.cut-b.ensures in (
      mutual-ready _ _ _ _ false _ _ _ _ _ _ _ f.eps f.first_fine f.second-fine a.cut-a.ensures b.cut-b.ensures _
          c.mutual_job-job.ensures,
      (
        mutual-plain _ _ _ _ c.mutual_job-job.ensures,
        (
          omega (
            arith,
            plain-long,
            plain-enough _ few,
            ap (λ (k : Job). k.m)
                c.mutual_job-job.ensures,
          ),
          s.requires.1,
        ),
      ),
    )

returns : tie.Need-returns
returns c =
    let b = c.before.before.before.before.before.before.before.before.before.before.before.before.before.before.before.before.before.before.before in
    let a = first-cut b in
    let s = start a in
    let x = a.cut-a.ensures in
    let y = b.cut-b.ensures in
    mutual-counted _ _ _ _ _ _ _ _ _ _ _ x.path-is y.path-is x.names-are y.names-are x.count-is y.count-is
    s.requires.0
    _ _ _ _ _ _ _ _ c.mutual_job-job.ensures c.list_counted.ensures

pub counted_cut_spec : {M : Type 1} → statement M
counted_cut_spec =
    tie.close
    (tie.spec
    (λ c. search rules) (λ c. search rules) cut-requires (λ c. search rules) (λ c. search rules) cut-requires-2
    (λ c. search rules) (λ c. search rules) long (λ c. search rules) long-2 (λ c. search rules) long-3 (λ c. search rules) long-4
    (λ c. search rules) list-counted-requires (λ c. search rules) (λ c. search rules) (λ c. search rules) returns)
