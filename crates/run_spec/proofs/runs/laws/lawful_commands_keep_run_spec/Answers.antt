use Rattle.run_spec.proofs.runs.laws.lawful_commands_keep_run_spec.Goals as goal

pub returns : goal.returns
returns g c =
    let then = c.run_spec_of_commands.ensures in
    let files = c.files_in_turns.ensures in
    record {
      account = c.promised.ensures;
      headline = then.headline;
      status = then.status;
      exit = then.exit;
      end = then.end;
      alone = then.alone;
      usage = then.usage;
      arguments = then.arguments;
      files = files.exit;
      meant = then.meant;
      as_known = then.as_known;
      read_fault = then.read_fault;
      write_fault = then.write_fault;
      open_fault = files.open_fault;
      missing = files.missing;
      too_long = then.too_long;
      file_too_long = files.too_long;
      input_too_long = then.input_too_long;
      input_fails = then.input_fails;
      memory = then.memory;
      write_fault_by = then.write_fault_by;
      decided = then.decided;
      exact = then.exact;
      complete = then.complete;
    }
