-- If a task is total, then each task that agrees with the task is total.
use Rattle.std.proofs.Common.{List, [], ◌∷◌, ◌++◌}
use Rattle.cli_spec.specs.Outcome.{Output}
use Rattle.run_spec.specs.runs.Commands.{Item, Commands, AllPrint}
use Rattle.run_spec.proofs.command_sum.CommandSumAgreeLemmas.{Agrees, agrees_back, goes_on_too}
use Rattle.thm_outcome.specs.Total.{AreTotalAt}

module _ {A B : Type 0} (c : Commands A) (d : Commands B) (a : A) (b : B) (same : Agrees c d a b) where
  print_back : (before items : List Item) (output : List Output)
      → AllPrint d b before items output → AllPrint c a before items output
  print_back before [] [] h = h
  print_back before [] (s ∷ output) h = h
  print_back before (item ∷ items) [] h = h
  print_back before (item ∷ items) (s ∷ output) (is, h) =
      ((same.outputs before item s).1 is, print_back (before ++ item ∷ []) items output h)

  pub total_too : AreTotalAt c a → AreTotalAt d b
  total_too total = record {
    outputs_some = λ items output print bytes are_bytes item more is no_exit none.
        total.outputs_some items output (print_back [] items output print) bytes are_bytes item more
        ((same.first items bytes item more).1 is)
        (λ exit at. no_exit exit ((same.exits items bytes exit).0 at))
        (λ s h. none s ((same.outputs items item s).0 h));
    ends_some = λ reads items output print bytes are_bytes on none.
        total.ends_some (same.reads.1 reads) items output (print_back [] items output print) bytes are_bytes
        (goes_on_too d c b a (agrees_back c d a b same) items bytes on)
        (λ last h. none last ((same.ends items bytes last).0 h));
    alone_some = λ unread none.
        total.alone_some (λ reads. unread (same.reads.0 reads))
        (λ last h. none last ((same.ends [] [] last).0 h));
  }
