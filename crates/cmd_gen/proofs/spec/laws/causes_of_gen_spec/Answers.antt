use Rattle.cmd_gen.proofs.spec.DueLemmas.{what_is_due, never, writes_line}
use Rattle.cmd_gen.proofs.spec.LeavesLemmas.{left_environment}
use Rattle.cmd_gen.proofs.spec.laws.causes_of_gen_spec.Goals as goal

pub returns : goal.returns
returns g c arguments call reports p =
    let due = what_is_due g.L.Prints.language arguments call c.gen_spec_is_lawful.ensures p in
    record {
      due = due;
      line = writes_line g.L.Prints.language arguments call p.account;
      never = never g.L.Prints.language arguments call due;
      leaves = left_environment g.L.Prints.language arguments call p.account.given p.account.may_be;
    }
