use Rattle.std.proofs.Common.{◌≡◌, take}
use Rattle.clap.specs.Words.{app_of}
use Rattle.cli_args.specs.CommandSet.{program_with}
use Rattle.cli_args.proofs.command_set.made_of.Given as goal

abbrev pub invariant-loop-name : goal.invariant-loop-name
invariant-loop-name l = app_of l.all ≡ program_with (take l.name-index l.forms)
