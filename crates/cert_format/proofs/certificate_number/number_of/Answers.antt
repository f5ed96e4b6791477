use Rattle.std.proofs.Common.{◌≡◌, ◌<◌, ⊎_elim, length, get_or, sym, subst, arith, refl}
use Rattle.cert_format.specs.CertificateNumbers.{IsNumberText, IsNoNumberText}
use Rattle.cert_format.proofs.CertificateNumberLemmas.{empty_is, some_is, none_where_empty, none_where_long, none_where_leading, none_where_other, none_where_large, is_number, few_digits, digit_more, whole}
use Rattle.cert_format.proofs.certificate_number.number_of.Goals as goal
use Rattle.cert_format.proofs.certificate_number.number_of.Goals.{then-is_empty-via-then-is_empty, then-is_empty-via-else-is_empty+then-digits-gt19, else-digits-eq48-via-then-digits-eq48+else-digits-gt1, else-digits-eq48-via-else-digits-eq48}

pub returns-then-is_empty : goal.returns-then-is_empty
returns-then-is_empty c =
    let none : IsNoNumberText c.args.digits.now = elim c.then-is_empty.branch [
      | then-is_empty-via-then-is_empty w ↦ none_where_empty c.args.digits.now (empty_is (length c.args.digits.now) c.is_empty.result c.is_empty.ensures w.if-is_empty.true)
      | then-is_empty-via-else-is_empty+then-digits-gt19 w ↦ none_where_long c.args.digits.now w.if-digits-gt19.true
    ] in none

pub returns-then-digits-gt1 : goal.returns-then-digits-gt1
returns-then-digits-gt1 c = none_where_leading c.args.digits.now c.if-digits-eq48.true c.if-digits-gt1.true

pub returns-then-not-is_ascii_digit : goal.returns-then-not-is_ascii_digit
returns-then-not-is_ascii_digit c =
    none_where_other c.args.digits.now c.loop-i.i c.loop-i-test.true
    (λ range. let low = range.0 in let high = range.1 in ⊎_elim (λ less. omega (arith, less, low)) (λ more. omega (arith, more, high)) c.if-not-is_ascii_digit.ensures.cases)

pub overflow_mul-n : goal.overflow_mul-n
overflow_mul-n c =
    let few = few_digits c.args.digits.now c.loop-i.i c.if-digits-gt19.false c.loop-i-test.true c.loop-i.invariant.0 in
    let is = c.loop-i.invariant.1 in omega (arith, few, is)

pub overflow_add-n : goal.overflow_add-n
overflow_add-n c =
    let few = few_digits c.args.digits.now c.loop-i.i c.if-digits-gt19.false c.loop-i-test.true c.loop-i.invariant.0 in
    let is = c.loop-i.invariant.1 in
    let range = c.if-not-is_ascii_digit.ensures.cases in
    let low = range.0 in let high = range.1 in
    omega (arith, few, is, c.from.ensures, low, high)

pub loop-i-preserved : goal.loop-i-preserved
loop-i-preserved c =
    let range = c.if-not-is_ascii_digit.ensures.cases in
    digit_more c.args.digits.now c.loop-i.i c.loop-i.n c.from.result _ c.loop-i-test.true range.0 range.1 c.loop-i.invariant c.from.ensures refl

pub returns-then-n : goal.returns-then-n
returns-then-n c =
    let all = whole c.args.digits.now c.loop-i.i c.loop-i.n c.loop-i-test.false c.loop-i.auto.i-end c.loop-i.invariant in
    let some : 0 < length c.args.digits.now = some_is (length c.args.digits.now) c.is_empty.result c.is_empty.ensures c.if-is_empty.false in
    let leading : get_or c.args.digits.now 0 0 ≡ 48 → length c.args.digits.now ≡ 1 = elim c.else-digits-eq48.branch [
      | else-digits-eq48-via-then-digits-eq48+else-digits-gt1 w ↦ λ first. let short = w.if-digits-gt1.false in omega (arith, short, some)
      | else-digits-eq48-via-else-digits-eq48 w ↦ λ first. absurd (w.if-digits-eq48.false first)
    ] in
    let less = c.if-n.true in
    let is = all.1 in
    subst (λ n. IsNumberText c.args.digits.now n) (sym all.1) (is_number c.args.digits.now some leading all.0 (omega (arith, less, is)))

pub returns-else-n : goal.returns-else-n
returns-else-n c =
    let all = whole c.args.digits.now c.loop-i.i c.loop-i.n c.loop-i-test.false c.loop-i.auto.i-end c.loop-i.invariant in
    let more = c.if-n.false in
    let is = all.1 in
    none_where_large c.args.digits.now (omega (arith, more, is))
