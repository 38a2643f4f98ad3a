-- The proof of the cycle of calls {put_hex}. The measure is the number of digits: those of the sixteenth, then the
-- last. Assumes nothing.
use Prim.Native.Nat.{ℕ, ◌<◌}
use native.Mathlib.Nat.{pos_of_ne-zero}
use native.Mathlib.Omega.{arith}
use borrow.Author.Rules.{rules}
use borrow.Fn.Kinds.{In}
use borrow.Fn.PlainCycle.{Measures, is, falls, and}
use Rattle.put_text.specs.Laws.Put.{last-inside}
use Rattle.answer_lines.specs.Laws.Hex.{put-hex-none, put-hex-more, one_more}
use Rattle.answer_lines.proofs.put.put_hex.Reads as put-hex
use Rattle.answer_lines.proofs.put.put_hex.Kinds as put-hex-kinds
use Rattle.answer_lines.proofs.put.+put_hex.Lts-put_hex as put-hex-lts
use Rattle.answer_lines.proofs.put.glyph.Reads as glyph-reads
use Rattle.answer_lines.proofs.put.+put_hex.{statement}
use Rattle.answer_lines.proofs.put.+put_hex.Tie.{close}

abbrev μ-put-hex : Measures 1 put-hex-kinds.ps ℕ
μ-put-hex κs a = a.1.1.0

abbrev put-hex-at : ℕ → In 1 put-hex-kinds.ps
put-hex-at t = and 1 put-hex-kinds.ps (is 1 put-hex-kinds.ps μ-put-hex t) put-hex.Pre

abbrev put-hex-below : ℕ → In 1 put-hex-kinds.ps
put-hex-below t = and 1 put-hex-kinds.ps (falls 1 put-hex-kinds.ps ◌<◌ μ-put-hex t) put-hex.Pre

pub +put_hex_spec : {M : Type 1} → statement M
+put_hex_spec = close μ-put-hex λ t. put-hex-lts.spec (
  put-hex-below t,
  put-hex.Post,
  glyph-reads.Asked,
  glyph-reads.Learnt,
)
    (put-hex-at t)
    put-hex.Post
    (λ c. put-hex-none _ _ c.if-k-eq0.true _ _)
    (λ c. pos_of_ne-zero c.before.if-k-eq0.false)
    (λ c κs. let start = c.before.before.before in
    let more = pos_of_ne-zero c.before.if-k-eq0.false in
    (omega (arith, start.requires.0), omega (arith, start.requires.1)))
    (λ c κs. search rules)
    (λ c. let called = c.before.before.before in
    let more = one_more _ _ (pos_of_ne-zero called.before.before.if-k-eq0.false) in
    last-inside _ called.put_hex-next.ensures more called.before.before.before.before.requires.1 called.put_hex-next.auto.out)
    (λ c. let called = c.before.before.before in
    let more = one_more _ _ (pos_of_ne-zero called.before.before.if-k-eq0.false) in
    let room = called.before.before.before.before.requires.1 in
    let inside = last-inside _ called.put_hex-next.ensures more room called.put_hex-next.auto.out in
    omega arith)
    (λ c. search rules)
    (λ c. let called = c.before.before.before in
    let more = pos_of_ne-zero called.before.before.if-k-eq0.false in
    put-hex-more _ _ more called.put_hex-next.ensures _ c.glyph.ensures)
