use Rattle.std.proofs.Common.{◌≡◌, ◌≤◌, get_or, arith, refl}
use Rattle.cert_format.proofs.CertificateNumberLemmas.{first_more, first_small, number_begins}
use Rattle.cert_format.proofs.certificate_number.first_number.Goals as goal
use Rattle.cert_format.proofs.certificate_number.first_number.Goals.{else-text-eq48-via-then-text-eq48+else-i-gt1, else-text-eq48-via-else-text-eq48}

pub overflow_mul-n : goal.overflow_mul-n
overflow_mul-n c =
    let held = c.loop-i.invariant in
    let less = first_small c.args.text.now c.loop-i.i c.loop-i.n held.1 held.2 held.0 in omega (arith, less)

pub overflow_add-n : goal.overflow_add-n
overflow_add-n c =
    let held = c.loop-i.invariant in
    let less = first_small c.args.text.now c.loop-i.i c.loop-i.n held.1 held.2 held.0 in
    let range = c.if-is_ascii_digit.ensures.cases in
    let high = range.1 in
    omega (arith, less, c.from.ensures, high)

pub loop-i-preserved : goal.loop-i-preserved
loop-i-preserved c =
    let range = c.if-is_ascii_digit.ensures.cases in
    first_more c.args.text.now c.loop-i.i c.loop-i.n c.from.result _ c.loop-i-test.true range.0 range.1 c.loop-i.invariant.0
    c.if-i-lt18.true c.from.ensures refl

pub returns : goal.returns
returns c =
    let held = c.loop-i.invariant in
    let some = c.if-i-eq0.false in
    let leading : get_or c.args.text.now 0 0 ≡ 48 → c.loop-i.i ≤ 1 = elim c.else-text-eq48.branch [
      | else-text-eq48-via-then-text-eq48+else-i-gt1 w ↦ λ first. let short = w.if-i-gt1.false in omega (arith, short)
      | else-text-eq48-via-else-text-eq48 w ↦ λ first. absurd (w.if-text-eq48.false first)
    ] in
    number_begins c.args.text.now c.loop-i.i c.loop-i.n (omega (arith, some)) held.1 held.2 held.0 leading
