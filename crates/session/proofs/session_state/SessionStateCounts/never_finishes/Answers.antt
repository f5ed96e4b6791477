use Rattle.run_spec.proofs.value_commands.FinishedLemmas.{never_finished}
use Rattle.run_types.specs.Language.{declared_types}
use Rattle.session.specs.InputValues.{task_of}
use Rattle.session.proofs.session_state.SessionStateCounts.never_finishes.Goals as goal

pub returns : goal.returns
returns c = never_finished declared_types (task_of c.args.self.now.value_task)
