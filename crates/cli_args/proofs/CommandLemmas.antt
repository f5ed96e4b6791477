-- The clap configuration of a command, as the program builds the configuration.
use Rattle.std.proofs.Common.{◌≡◌, ◌∙◌, ◌||◌, ◌<◌, ◌+◌, ℕ, false, List, [], ◌∷◌, ◌++◌, map, length, take, get_or, add-one, refl, sym, ap, ap₂, Result, Ok, Err, IfOk}
use Rattle.std.specs.Prelude.{fold}
use Rattle.std.proofs.Math.Seq.{take-suc}
use Rattle.std.specs.declared.alloc.AllocError.{AllocError}
use Rattle.clap.specs.Words.{AddsArg, AddsSubcommand, App, Rule, app_of, rule_of, with_rule, with_subcommand}
use Rattle.clap.specs.declared.builder.arg.Arg.{Arg}
use Rattle.clap.specs.declared.builder.command.Command.{Command}
use Rattle.clap.specs.Simple.{Shape, new_shape}
use Rattle.cli_spec.specs.CommandLine.{rule_for}
use Rattle.cli_args.specs.declared.command_set.Argument.{Argument}
use Rattle.cli_args.specs.CommandSet.{AddsMade, Form, Reports, app_with, argument_of, program, program_with}

pub argument_added : (old new : Command) (arg : Arg) (app : App) (rule : Rule) → Reports old app → rule_of arg ≡ rule → arg.global ≡ false → AddsArg old arg new
    → Reports new (with_rule app rule)
argument_added old new arg app rule reports is local adds = (adds.shape local ∙ ap₂ with_rule reports.0 is, adds.globals ∙ ap₂ ◌||◌ reports.1 local)

command_added : (old sub new : Command) (app added : App) → app_of old ≡ app → Reports sub added → AddsSubcommand old sub new → app_of new ≡ with_subcommand app added.top
command_added old sub new app added is reports adds = adds.shape reports.1 ∙ ap₂ with_subcommand is (ap (λ (a : App). a.top) reports.0)

pub made_added : (old : Command) (made : Result Command AllocError) (new : Command) (app added : App) → app_of old ≡ app → IfOk made (λ sub. Reports sub added) → AddsMade old made new
    → app_of new ≡ with_subcommand app added.top
made_added old (Ok sub) new app added is reports adds = command_added old sub new app added is reports adds
made_added old (Err error) new app added is reports adds = absurd adds

-- ---- one more argument, and one more command

rules_more : (xs : List Argument) (x : Argument) → map rule_for (map argument_of xs) ++ rule_for (argument_of x) ∷ [] ≡ map rule_for (map argument_of (xs ++ x ∷ []))
rules_more [] x = refl
rules_more (y ∷ ys) x = ap (λ l. rule_for (argument_of y) ∷ l) (rules_more ys x)

pub with_more : (name : List ℕ) (xs : List Argument) (i : ℕ) (x : Argument) → i < length xs
    → with_rule (app_with name (take i xs)) (rule_for (argument_of (get_or xs i x))) ≡ app_with name (take (i + 1) xs)
with_more name xs i x small =
    ap (λ rules. record { top = record (new_shape name) { rules = rules }; subs = [] }) (rules_more (take i xs) (get_or xs i x))
    ∙ ap (app_with name) (sym (ap (λ k. take k xs) (add-one i) ∙ take-suc xs i x small))

abbrev shape_known : Form → Shape
shape_known form = (app_with form.0.now form.1.now).top

folded_more : (app : App) (fs : List Form) (f : Form) → with_subcommand (fold with_subcommand app (map shape_known fs)) (shape_known f) ≡ fold with_subcommand app (map shape_known (fs ++ f ∷ []))
folded_more app [] f = refl
folded_more app (g ∷ gs) f = folded_more (with_subcommand app (shape_known g)) gs f

pub program_more : (fs : List Form) (i : ℕ) (f : Form) → i < length fs → with_subcommand (program_with (take i fs)) (shape_known (get_or fs i f)) ≡ program_with (take (i + 1) fs)
program_more fs i f small =
    folded_more program (take i fs) (get_or fs i f) ∙ ap program_with (sym (ap (λ k. take k fs) (add-one i) ∙ take-suc fs i f small))
