use Rattle.std.proofs.Common.{⊎_elim, inr, refl, arith}
use Rattle.cli_spec.specs.Outcome.{nothing}
use Rattle.base_io.specs.StreamState.{as_source}
use Rattle.run_spec.proofs.runs.RunTakeLemmas.{took_nothing}
use Rattle.cmd_verify.specs.command.CertificateFile.{all_of}
use Rattle.cmd_verify.proofs.command.VerifyFileLemmas.{certificate_fault}
use Rattle.cmd_verify.proofs.command.certificate_file.read_fetched.Goals as goal

pub returns-in_default-clause-taken : goal.returns-in_default-clause-taken
returns-in_default-clause-taken g c =
    (nothing, took_nothing (as_source (g.O.Opener.state c.args.files.now)), λ name. inr refl)

pub read_end-requires : goal.read_end-requires
read_end-requires g c =
    let come = c.in-Ok-take_chunks.ensures.taken in
    let few = come.1.measured in
    (come.0, come.2, omega (arith, few))

pub returns-in-Ok-take_chunks-clause-taken : goal.returns-in-Ok-take_chunks-clause-taken
returns-in-Ok-take_chunks-clause-taken g c =
    let come = c.in-Ok-take_chunks.ensures.taken in
    (all_of come.0, come.1, λ name. c.read_end.ensures name come.0 come.2)

pub returns-clause-taken : goal.returns-clause-taken
returns-clause-taken g c =
    let come = c.in-Err.ensures.taken in
    (come.0, come.1, λ name. ⊎_elim (certificate_fault name come.0 c.in-Err.exit) inr come.2)
