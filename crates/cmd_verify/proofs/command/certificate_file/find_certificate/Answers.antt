use Rattle.std.proofs.Common.{rules}
use Rattle.cli_spec.specs.Outcome.{opened, missing, failed}
use Rattle.cmd_verify.proofs.command.VerifyFileLemmas.{certificate_missing, certificate_failed}
use Rattle.cmd_verify.proofs.command.certificate_file.find_certificate.Goals as goal

pub returns-in-Ok : goal.returns-in-Ok
returns-in-Ok g c =
    let come = c.read_fetched.ensures.taken in
    let gathers = come.1 in
    (opened come.0, search rules, come.2 c.args.name.now)

pub returns-in-Err-Missing : goal.returns-in-Err-Missing
returns-in-Err-Missing g c = (missing, search rules, certificate_missing c.args.name.now c.unopened_file.result c.unopened_file.ensures)

pub returns-in-Err-Failed : goal.returns-in-Err-Failed
returns-in-Err-Failed g c = (failed, search rules, certificate_failed c.args.name.now c.unopened_file-in-Err-Failed.result c.unopened_file-in-Err-Failed.ensures)
