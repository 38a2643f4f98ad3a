-- `layout_listing::list_file` meets its contract: a file that breaks the packed form is answered by 18's line; else both paths are
-- the fronts of their buffers, and the answer is their listing's. Assumes nothing.
use Rattle.std.proofs.Common.{◌≡◌, sym, arith, length-take-le}
use Rattle.layout_packed.specs.declared.UnpackError.TheVariants.{Refused, NoRoom}
use Rattle.layout_listing.specs.Laws.Ends.{counted, refused-is, roomy, broken-answer, listed_answer}
use Rattle.layout_listing.proofs.list_file.Goals as goal

pub overflow_mul-a : goal.overflow_mul-a
overflow_mul-a c =
    let f = counted _ _ _ _ c.read_packed-read.ensures _ c.in-Ok.is in
    omega (arith, f.few-first)

pub overflow_mul-b : goal.overflow_mul-b
overflow_mul-b c =
    let f = counted _ _ _ _ c.read_packed-read.ensures _ c.in-Ok.is in
    omega (arith, f.few-second)

pub slice_bounds-first-end : goal.slice_bounds-first-end
slice_bounds-first-end c =
    let f = counted _ _ _ _ c.read_packed-read.ensures _ c.in-Ok.is in
    omega (arith, f.few-first, f.first-long)

pub slice_bounds-list_paths-end : goal.slice_bounds-list_paths-end
slice_bounds-list_paths-end c =
    let f = counted _ _ _ _ c.read_packed-read.ensures _ c.in-Ok.is in
    sym (length-take-le _ _ (omega (arith, f.few-first, f.first-long)))

pub slice_bounds-second-end : goal.slice_bounds-second-end
slice_bounds-second-end c =
    let f = counted _ _ _ _ c.read_packed-read.ensures _ c.in-Ok.is in
    omega (arith, f.few-second, f.second-long)

pub slice_bounds-list_paths-end-in-Ok : goal.slice_bounds-list_paths-end-in-Ok
slice_bounds-list_paths-end-in-Ok c =
    let f = counted _ _ _ _ c.read_packed-read.ensures _ c.in-Ok.is in
    sym (length-take-le _ _ (omega (arith, f.few-second, f.second-long)))

pub returns-in-Ok : goal.returns-in-Ok
returns-in-Ok c =
    listed_answer _ _ _ _ _ _ _ _ (counted _ _ _ _ c.read_packed-read.ensures _ c.in-Ok.is) c.list_paths.ensures

pub returns-in-Err-Refused : goal.returns-in-Err-Refused
returns-in-Err-Refused c =
    let arm = c.in-Err-Refused in
    let told : arm.field-0 ≡ Refused arm.n arm.field-0-1 = rw arm.is at arm.field-0-is in
    let is = refused-is _ _ _ _ c.read_packed-read.ensures _ _ (rw told at arm.is) in
    broken-answer _ _ _ _ _ _ c.requires is.0 is.1 c.write_refusal.ensures

pub returns-in-Err-NoRoom : goal.returns-in-Err-NoRoom
returns-in-Err-NoRoom c =
    let arm = c.in-Err-NoRoom in
    let told : arm.field-0 ≡ NoRoom = rw arm.is at arm.field-0-is in
    absurd (roomy _ _ _ _ c.read_packed-read.ensures (rw told at arm.is))
