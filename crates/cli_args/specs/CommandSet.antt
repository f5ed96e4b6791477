-- The clap configuration of a command.
use Rattle.std.specs.Prelude.{ℕ, ◌≡◌, true, false, List, [], map, fold, Result, Ok, Err}
use Rattle.std.specs.Borrow.{Bor}
use Rattle.std.specs.declared.alloc.AllocError.{AllocError}
use Rattle.clap.specs.Words.{AddsSubcommand, App, app_of, with_subcommand}
use Rattle.clap.specs.declared.builder.command.Command.{Command}
use Rattle.clap.specs.declared.builder.command.Command.TheViews.{out-Command}
use Rattle.cli_spec.specs.CommandLine as outcome
use Rattle.cli_spec.specs.CommandLine.{command_set, shape_for}
use Rattle.cli_args.specs.declared.command_set.Argument.{Argument}
use Rattle.cli_args.specs.declared.command_set.Argument.TheVariants as arguments

-- A command: its name and its arguments.
abbrev pub Form : Type 0
Form = Bor (List ℕ) × Bor (List Argument)

-- The argument as an argument of the specification.
abbrev pub argument_of : Argument → outcome.Argument
argument_of (arguments.Flag name) = outcome.flag name.now
argument_of (arguments.Option name greatest usual) = outcome.option name.now greatest usual.now
argument_of (arguments.Optional name greatest) = outcome.optional name.now greatest
argument_of (arguments.Word name) = outcome.wanted name.now
argument_of (arguments.Number name greatest) = outcome.number name.now greatest

-- A single command with the given name and arguments.
abbrev pub app_with : List ℕ → List Argument → App
app_with name more = record { top = shape_for name (map argument_of more); subs = [] }

-- The command has the configuration `app`, and no argument of the command is global.
abbrev pub Reports : Command → App → Type 0
Reports command app = (app_of command ≡ app) × ((out-Command command).has_globals ≡ false)

-- The program without commands.
abbrev pub program : App
program = record { top = record command_set.top { is_leaf = true }; subs = [] }

abbrev pub program_with : List Form → App
program_with forms =
    fold with_subcommand program (map (λ form. (app_with form.0.now form.1.now).top) forms)

-- The command was built and was added.
abbrev pub AddsMade : Command → Result Command AllocError → Command → Type 0
AddsMade old (Ok added) new = AddsSubcommand old added new
AddsMade old (Err error) new = ⊥
