use Rattle.session.proofs.commands.all_commands_keep_run_spec.Goals as goal

pub returns-clause-headline : goal.returns-clause-headline
returns-clause-headline c = c.run_spec_of_commands.ensures.headline

pub returns-clause-environment : goal.returns-clause-environment
returns-clause-environment c = λ arguments call reports run_spec.
    let then = c.run_spec_of_commands.ensures in
    let files = c.files_in_turns.ensures in
    record {
      read_fault = then.read_fault arguments call reports run_spec;
      write_fault = then.write_fault arguments call reports run_spec;
      open_fault = files.open_fault arguments call reports run_spec;
      missing = files.missing arguments call reports run_spec;
      too_long = then.too_long arguments call reports run_spec;
      file_too_long = files.too_long arguments call reports run_spec;
      input_too_long = then.input_too_long arguments call reports run_spec;
      input_fails = then.input_fails arguments call reports run_spec;
      memory = then.memory arguments call reports run_spec;
      write_fails = then.write_fault_by arguments call reports run_spec;
    }
