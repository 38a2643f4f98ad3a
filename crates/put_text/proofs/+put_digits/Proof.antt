-- The proof of the cycle of calls {put_digits}. The measure is the number: the digits of its tenth, then the last. Assumes
-- nothing.
use Prim.Native.Nat.{ℕ, ◌<◌}
use mathlib.Core.Path.{sym}
use native.Mathlib.Omega.{arith}
use borrow.Author.Rules.{rules}
use borrow.Fn.Kinds.{In}
use borrow.Fn.PlainCycle.{Measures, is, falls, and}
use Rattle.put_text.specs.Laws.Put.{small-long, large-long, put_small, put-large, last-inside}
use Rattle.put_text.proofs.put_digits.Reads as put-digits
use Rattle.put_text.proofs.put_digits.Kinds as put-digits-kinds
use Rattle.put_text.proofs.+put_digits.Lts-put_digits as put-digits-lts
use Rattle.put_text.proofs.+put_digits.{statement}
use Rattle.put_text.proofs.+put_digits.Tie.{close}

abbrev μ-put-digits : Measures 1 put-digits-kinds.ps ℕ
μ-put-digits κs a = a.1.1.0

abbrev put-digits-at : ℕ → In 1 put-digits-kinds.ps
put-digits-at t =
    and 1 put-digits-kinds.ps (is 1 put-digits-kinds.ps μ-put-digits t) put-digits.Pre

abbrev put-digits-below : ℕ → In 1 put-digits-kinds.ps
put-digits-below t =
    and 1 put-digits-kinds.ps (falls 1 put-digits-kinds.ps ◌<◌ μ-put-digits t) put-digits.Pre

pub +put_digits_spec : {M : Type 1} → statement M
+put_digits_spec = close μ-put-digits λ t. put-digits-lts.spec (
  put-digits-below t,
  put-digits.Post,
)
    (put-digits-at t)
    put-digits.Post
    (λ c. search rules)
    (λ c. search rules)
    (λ c. omega (arith, small-long _ c.if-n-lt10.true, c.before.before.requires.1))
    (λ c. search rules)
    (λ c. search rules)
    (λ c. put_small _ c.if-n-lt10.true _ _)
    (λ c κs. let start = c.before.before.before in
    let large = c.before.if-n-lt10.false in
    (omega (arith, start.requires.0), omega (arith, start.requires.1, large-long _ large)))
    (λ c. search rules)
    (λ c. search rules)
    (λ c. let called = c.before.before in
    last-inside _ called.put_digits-next.ensures (sym (large-long _ called.before.before.if-n-lt10.false))
    called.before.before.before.before.requires.1 called.put_digits-next.auto.out)
    (λ c. let called = c.before.before in
    let inside = last-inside _ called.put_digits-next.ensures (sym (large-long _ called.before.before.if-n-lt10.false))
    called.before.before.before.before.requires.1 called.put_digits-next.auto.out in
    omega arith)
    (λ c. search rules)
    (λ c. let called = c.before.before in
    put-large _ called.before.before.if-n-lt10.false called.put_digits-next.ensures)
