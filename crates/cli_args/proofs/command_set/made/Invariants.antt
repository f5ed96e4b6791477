use Rattle.std.proofs.Common.{take}
use Rattle.cli_args.specs.CommandSet.{Reports, app_with}
use Rattle.cli_args.proofs.command_set.made.Given as goal

abbrev pub invariant-loop-argument : goal.invariant-loop-argument
invariant-loop-argument l = Reports l.command (app_with l.name (take l.argument-index l.arguments))
