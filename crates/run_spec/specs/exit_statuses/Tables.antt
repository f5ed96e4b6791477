-- Exit status specification of the commands on values, in terms of values and texts:
--
--     0   the values are without errors (`Finish`)
--     1   at the end, some value has an error (`Finish`), or a value to be edited does not have
--         the type (`Break`)
--     2   the arguments are no request, PATH is no valid path (`Bar`), or the number of values to
--         be compared is not two (`Finish`, `Close`)
--     3   the contents of FILE or TYPE are refused (`Bar`)
--     4   a value is refused (`HoldRefusal`) or truncated (`AreSplit`)
--     5   the contents of SCRIPT are refused (`Bar`), a line of it is refused at its value
--         (`Break`), or a line edits no value (`Finish`)
--     8   FILE, or SCRIPT in its turn, could not be opened (`Bar`)
--     11  an edited value is too large for a reader on a 32-bit platform (`Break`)
--
-- The statuses 6, 7, 9 and 10, and the faults of files, have the same meaning for all commands.
-- `runs` defines them.
use Rattle.cli_spec.specs.Outcome.{Language, Task}
use Rattle.run_spec.specs.exit_causes.Causes.{Tables}
use Rattle.run_spec.specs.exit_statuses.Stages.{HasNoPath, Bar}
use Rattle.run_spec.specs.exit_statuses.ValueStatuses.{ExitWith, EndWith}

abbrev pub values_tables : {D T E : Type 0} → Language D T E → Tables (Task T E)
values_tables language = record {
  BadArguments = HasNoPath language;
  Bar = Bar language;
  ExitWith = ExitWith language;
  EndWith = EndWith language;
}
