use Rattle.std.proofs.Common.{rules, ◌≡◌, None}
use Rattle.cert_format.specs.CertificateReading.{IsPairLine, IsNoPairLine}
use Rattle.cert_format.proofs.CertificateHeadLemmas.{at_none, no_pair_space, no_pair_object, no_pair_type}
use Rattle.cert_format.proofs.certificate_lines.pair_of.Goals as goal

pub returns-in_err-ty : goal.returns-in_err-ty
returns-in_err-ty c =
    let none : c.from_residual-in_err-ty.result ≡ None = search rules in
    at_none c.from_residual-in_err-ty.result (IsNoPairLine c.args.line.now) (IsPairLine c.args.line.now) none
    (no_pair_space c.args.line.now c.in_ok-text.text.now c.until.result.0.now c.until.result.1.now c.in_ok-text.ensures c.until.ensures
    c.in_err-ty.ensures)

pub returns-in_err-object : goal.returns-in_err-object
returns-in_err-object c =
    let none : c.from_residual-in_err-object.result ≡ None = search rules in
    at_none c.from_residual-in_err-object.result (IsNoPairLine c.args.line.now) (IsPairLine c.args.line.now) none
    (no_pair_object c.args.line.now c.in_ok-text.text.now c.until.result.0.now c.until.result.1.now c.in_ok-text.ensures c.until.ensures
    c.in_err-object.ensures)

pub returns-in_err-ty-2 : goal.returns-in_err-ty-2
returns-in_err-ty-2 c =
    let none : c.from_residual-in_err-ty-2.result ≡ None = search rules in
    at_none c.from_residual-in_err-ty-2.result (IsNoPairLine c.args.line.now) (IsPairLine c.args.line.now) none
    (no_pair_type c.args.line.now c.in_ok-text.text.now c.until.result.0.now c.until.result.1.now c.in_ok-text.ensures c.until.ensures
    c.in_ok-ty.ty.now c.in_ok-ty.ensures c.in_err-ty-2.ensures)
