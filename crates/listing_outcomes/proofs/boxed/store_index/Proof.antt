-- `listing_outcomes::boxed::store_index` meets its contract: one index from the front, or two, one behind the other. The second
-- path's is copied from what is kept.
use mathlib.Core.Path.{◌≡◌, ap}
use Prim.Native.Nat.{ℕ, ◌+◌}
use native.Mathlib.Omega.{arith}
use borrow.Author.Rules.{rules}
use lib.ListN.{length}
use Rattle.boxes.specs.Groups.{group_count}
use Rattle.listing_outcomes.specs.Workings.BoxedOutcome.{first_fits, both-fit, stored-own, stored-both}
use Rattle.listing_outcomes.proofs.boxed.store_index.Statement.{statement}
use Rattle.listing_outcomes.proofs.boxed.store_index.Tie as tie

abbrev start : tie.After-group_count → tie.Start
start c = c.before.before.before.before.before.before

-- how many boxes are copied
count : (c : tie.After-group_count) → let m = (start c).args.job.m in m + c.group_count.result ≡ m + group_count m
count c = let m = (start c).args.job.m in ap (λ (k : ℕ). m + k) c.group_count.ensures

copy-requires : tie.Need-copy-requires
copy-requires c κs =
    let g = c.before.before.before in
    let s = start g in
    let p = s.requires in
    let own = p.1.0 c.if-job.true in
    let fits = first_fits s.args.job (length s.args.boxes.now) p.1.1.1 in (
      omega (arith, g.group_count.ensures, p.1.1.0.grouped.once.room),
      omega (arith, g.group_count.ensures, own.1, fits),
    )

returns : tie.Need-returns-then-job
returns c =
    let g = c.before.before.before.before.before.before in
    let s = start g in
    let p = s.requires in
    stored-own _ _ _ s.args.job _ p.1.0 p.1.1.0 _ _ c.if-job.true p.1.1.1 (count g) c.copy.ensures

store-requires : tie.Need-store-requires
store-requires c κs =
    let s = start c.before.before.before in
    let p = s.requires in (
      (p.0.n_within, p.0.few),
      omega (arith, first_fits s.args.job (length s.args.boxes.now) p.1.1.1),
    )

copy-requires-2 : tie.Need-copy-requires-2
copy-requires-2 c κs =
    let g = c.before.before.before.before.before.before.before.before.before in
    let s = start g in
    let p = s.requires in
    let fit = both-fit s.args.job (length s.args.boxes.now) c.if-job.false p.1.1.1 in (
      omega (arith, g.group_count.ensures, p.1.1.0.grouped.once.room),
      omega (arith, g.group_count.ensures, c.group_count-2.ensures, fit, c.store.auto.boxes),
    )

returns-2 : tie.Need-returns
returns-2 c =
    let g = c.before.before.before.before.before.before.before.before.before.before.before.before in
    let s = start g in
    let p = s.requires in
    let job = s.args.job in
    stored-both _ _ _ job _ p.1.0 p.1.1.0 _ _ _ _ c.if-job.false p.1.1.1
    (ap (λ (i : ℕ). job.n + i) c.group_count-2.ensures) (count g) c.store.ensures c.copy-2.ensures

pub store_index_spec : {M : Type 1} → statement M
store_index_spec =
    tie.close
    (tie.spec
    (λ c. search rules) (λ c κs. search rules) (λ c. search rules) copy-requires (λ c. search rules) returns
    store-requires (λ c κs. search rules) (λ c. search rules) copy-requires-2 (λ c. search rules) returns-2)
