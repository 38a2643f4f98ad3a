-- `listing_pairs::tracks::group_trace` meets its contract: each return is a branch of the definition.
use mathlib.Core.Path.{◌≡◌, refl, sym, ap, ◌∙◌}
use mathlib.Core.Bool.{Bool, not}
use Prim.Native.Nat.{ℕ, ◌+◌, ◌*◌}
use native.Mathlib.Omega.{arith}
use borrow.Author.Rules.{rules}
use borrow.Author.Tests.{lt-ltb, le-ltb}
use lib.Dec.{ltb}
use lib.Ieee.{Float}
use Rattle.float_laws.specs.Branches.{holds, fails}
use Rattle.floats.specs.Ops.{◌≻◌, f0}
use Rattle.paths.specs.Path.{trace}
use Rattle.boxes.specs.Groups.{group_size}
use Rattle.boxes.specs.Workings.Next.{first}
use Rattle.listing_pairs.specs.Workings.Tracks.{other, group_trace}
use Rattle.listing_pairs.proofs.tracks.group_trace.Statement.{statement}
use Rattle.listing_pairs.proofs.tracks.group_trace.Tie as tie

abbrev start : tie.After-trace-trace → tie.Start
start c = c.before.before.before

-- the tests of traces, in the definition's words
low : (c : tie.After-trace-trace) {b : Bool} → not (c.trace-trace.result ≻ f0) ≡ b
    → not (trace (start c).args.path.now ((start c).args.g * group_size) ≻ f0) ≡ b
low c e = sym (ap (λ (t : Float). not (t ≻ f0)) c.trace-trace.ensures) ∙ e

found : (c : tie.After-next_other)
    → let a = (start c.before.before).args in
    let from = a.g * group_size in
    let t = trace a.path.now from in
    ltb c.next_other.result (from + group_size)
    ≡ ltb (first (other a.path.now t) from (from + group_size)) (from + group_size)
found c =
    let a = (start c.before.before).args in
    let from = a.g * group_size in
    ap (λ (k : ℕ). ltb k (from + group_size))
    (c.next_other.ensures
    ∙ ap (λ (t : Float). first (other a.path.now t) from (from + group_size)) c.trace-trace.ensures)

pub group_trace_spec : {M : Type 1} → statement M
unfolding group_trace
group_trace_spec =
    tie.close
    (tie.spec
    (λ c. omega (arith, c.requires.1)) (λ c. omega (arith, c.requires.1))
    (λ c. holds _ _ _ _ (lt-ltb _ _ c.if-n-to.true) refl)
    (λ c κs. omega (arith, c.if-n-to.false, c.requires.0))
    (λ c. let t = c.before in
    fails _ _ _ _ (le-ltb _ _ t.if-n-to.false) (holds _ _ _ _ (low t (ap not c.if-not-trace.true)) refl))
    (λ c κs. (omega arith, omega (arith, c.if-n-to.false, c.requires.0)))
    (λ c. let n = c.before in
    let t = n.before.before in
    fails _ _ _ _ (le-ltb _ _ t.if-n-to.false)
    (fails _ _ _ _ (low t (ap not n.if-not-trace.false)) (holds _ _ _ _ (sym (found n) ∙ lt-ltb _ _ c.if-next_other-to.true) refl)))
    (λ c. let n = c.before in
    let t = n.before.before in
    fails _ _ _ _ (le-ltb _ _ t.if-n-to.false)
    (fails _ _ _ _ (low t (ap not n.if-not-trace.false))
    (fails _ _ _ _ (sym (found n) ∙ le-ltb _ _ c.if-next_other-to.false) t.trace-trace.ensures))))
