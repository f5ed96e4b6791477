-- A command on values is never finished before the input ends.
use Rattle.std.proofs.Common.{◌≡◌, ◌⊎◌, ℕ, Bool, List, length, inl, inr}
use Rattle.marshal_spec.specs.format.Tree.{Tree}
use Rattle.cli_spec.specs.Outcome.{Unedited, untyped, refused_line, too_large, unedited_exit, Language, ValueWork, reports, edits, dumps, compares, Task, ExitsAt}
use Rattle.cli_spec.specs.declared.exit.Exit.TheVariants.{Finished as finished}
use Rattle.run_spec.specs.runs.Commands.{Item}
use Rattle.run_spec.specs.value_commands.Tasks.{IsRefused, commands}

not_unedited : (ok : Bool) (number : ℕ) (why : Unedited) → finished ok ≡ unedited_exit number why
    → ⊥
not_unedited ok number (untyped fault) e = cc e
not_unedited ok number (refused_line line refusal) e = cc e
not_unedited ok number (too_large refusal) e = cc e

module _ {D T E : Type 0} (language : Language D T E) where
  not_here : (work : ValueWork T E) (limit : ℕ) (trees : List Tree) (bytes : List ℕ) (ok : Bool)
      → ExitsAt language work limit trees bytes (finished ok) → ⊥
  not_here (reports query type) limit trees bytes ok at = at
  not_here (edits type script compat) limit trees bytes ok at =
      not_unedited ok (length trees) at.why at.exits
  not_here dumps limit trees bytes ok at = at
  not_here compares limit trees bytes ok (two, some, is) = cc is

  pub never_finished : (a : Task T E) (items : List Item) (bytes : List ℕ) (ok : Bool)
      → (commands language).Exits a items bytes (finished ok) → ⊥
  never_finished a items bytes ok s = by s.why where
    by : ExitsAt language a.work a.limit s.trees bytes (finished ok)
        ⊎ IsRefused language a (length s.trees) bytes (finished ok) → ⊥
    by (inl at) = not_here a.work a.limit s.trees bytes ok at
    by (inr r) = let e = r.is in cc e
