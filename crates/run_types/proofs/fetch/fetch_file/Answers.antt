use Rattle.std.proofs.Common.{rules}
use Rattle.std.proofs.lemmas.Result.{MatchResult-from_err}
use Rattle.cli_spec.specs.Outcome.{opened}
use Rattle.run_types.proofs.fetch.fetch_file.Goals as goal

pub returns-in_err-gather_file-in-Ok : goal.returns-in_err-gather_file-in-Ok
returns-in_err-gather_file-in-Ok g c =
    MatchResult-from_err _ _ _ c.from_residual.ensures.0 (λ _. (
      opened c.in_err-gather_file-in-Ok.ensures.taken.0,
      search rules,
    ))
