use Rattle.run_spec.proofs.runs.HoldLemmas.{one_exit, exits_stay, exits_last}
use Rattle.run_spec.proofs.runs.RunOnceLemmas.{replies_once}
use Rattle.run_spec.proofs.runs.laws.lawful_commands.Goals as goal

pub returns : goal.returns
returns g c = record {
  outcome = replies_once g.A.Act.commands c.requires;
  exit = one_exit g.A.Act.commands c.requires;
  stays = exits_stay g.A.Act.commands c.requires;
  last = exits_last g.A.Act.commands c.requires;
}
