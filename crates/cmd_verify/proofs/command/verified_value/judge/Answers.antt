use Rattle.std.proofs.Common.{◌<◌, length, refl, arith}
use Rattle.std.proofs.lemmas.Option.{slice_get_read}
use Rattle.run_types.specs.RequestedTexts.{type_over}
use Rattle.cmd_verify.proofs.command.VerifyJudgeLemmas.{judged_ok}
use Rattle.cmd_verify.proofs.command.verified_value.judge.Goals as goal

pub returns : goal.returns
returns c =
    let most = c.if-number-sections.false in
    let less : c.args.number < length c.args.sections.now = omega (arith, most) in
    judged_ok (type_over c.args.requested.now) c.args.sections.now c.args.number c.args.value.now.heap.now
    c.args.value.now.root c.index-sections-number.result
    (slice_get_read c.args.sections.now (length c.args.sections.now) c.args.number
    c.index-sections-number.result refl less c.index-sections-number.is)
    c.judge_by.result c.judge_by.ensures
