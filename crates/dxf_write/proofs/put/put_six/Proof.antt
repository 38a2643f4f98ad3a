-- `dxf_write::put::put_six` meets its contract: the six places lie in the slice, and each gets its digit. Assumes nothing.
use Rattle.std.proofs.Common.{arith, length-set, rules}
use Rattle.dxf_write.specs.Laws.Put.{six-put}
use Rattle.dxf_write.proofs.put.put_six.Statement.{statement}
use Rattle.dxf_write.proofs.put.put_six.Tie as tie

slice-write-out-2 : tie.Need-bounds-out-at-2
slice-write-out-2 c = simp length-set (omega arith)

slice-write-out-3 : tie.Need-bounds-out-at-3
slice-write-out-3 c = simp length-set (omega arith)

slice-write-out-4 : tie.Need-bounds-out-at-4
slice-write-out-4 c = simp length-set (omega arith)

slice-write-out-5 : tie.Need-bounds-out-at-5
slice-write-out-5 c = simp length-set (omega arith)

slice-write-out-6 : tie.Need-bounds-out-at-6
slice-write-out-6 c = simp length-set (omega arith)

returns : tie.Need-returns
returns c =
    six-put _ _ _ _ _ _ _ _ _ c.digit_byte.ensures c.digit_byte-2.ensures c.digit_byte-3.ensures
    c.digit_byte-4.ensures c.digit_byte-5.ensures c.digit_byte-6.ensures

pub put_six_spec : {M : Type 1} → statement M
put_six_spec =
    tie.close
    (tie.spec
    (λ c κs. search rules) (λ c. search rules)
    (λ c κs. search rules) (λ c. search rules) slice-write-out-2
    (λ c κs. search rules) (λ c. search rules) slice-write-out-3
    (λ c κs. search rules) (λ c. search rules) slice-write-out-4
    (λ c κs. search rules) (λ c. search rules) slice-write-out-5
    (λ c κs. search rules) (λ c. search rules) slice-write-out-6
    (λ c. search rules) (λ c. search rules) returns)
