use Rattle.run_spec.proofs.exit_causes.CauseLemmas.{only, bad_arguments, if_barred, if_shown, due, due_at_end}
use Rattle.run_spec.proofs.exit_causes.laws.causes_of_tables.Goals as goal

pub returns : goal.returns
returns g c arguments call reports p =
    let laws = c.run_spec_of_commands.ensures in
    let files = c.files_in_turns.ensures in
    let commands = g.M.Meant.commands in
    let tables = g.M.Meant.tables in
    let exact = c.requires.exact in record {
      only = only commands tables exact arguments call (laws.as_known arguments call reports p)
          (laws.meant arguments call reports p) reports (laws.status arguments call reports p);
      bad_arguments = bad_arguments commands tables exact arguments call (laws.usage arguments call reports p)
          (laws.arguments arguments call reports p);
      barred = if_barred commands tables exact arguments call (files.exit arguments call reports p);
      shown = if_shown commands tables exact arguments call c.requires.lawful (laws.status arguments call reports p) reports
          (laws.exit arguments call reports p) (laws.end arguments call reports p);
      due = due commands tables exact arguments call reports (laws.headline arguments call reports p) (laws.decided arguments call reports p);
      due_at_end = due_at_end commands tables exact arguments call c.requires.lawful p.whole;
    }
