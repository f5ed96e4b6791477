-- Lemmas about the command that reads no input.
use Rattle.std.proofs.Common.{◌≡◌, ℕ, List, [], Result, Ok, Err, Bool, true, refl, sym, subst}
use Rattle.base_io.specs.Sink.{Writes, WritesPart}
use Rattle.base_io.specs.StreamState.{ByteState, Change, change}
use Rattle.cli_errors.specs.declared.exit_line.Error.{Error}
use Rattle.cli_errors.specs.declared.exit_line.Error.TheVariants as aborts
use Rattle.run_spec.specs.runs.Account.{HaveNoExit}
use Rattle.run_loop.specs.work.Works.{Has, WritesLast, EndsAt}
use Rattle.run_loop.specs.examples.SmallCommands.{reporting, fine}

-- No byte is consumed, and no output is written.
abbrev IsNothing : Has
IsNothing = λ bytes output. (bytes ≡ []) × (output ≡ [])

module _ (text : List ℕ) where
  abbrev holds_none : HaveNoExit reporting text [] []
  holds_none = record {
    items = [];
    rest = [];
    first = record { split = refl; all_print = tt };
    goes_on = record { no_exit = λ exit h. h; no_item = λ item more h. h };
  }

  ends_none :
      (out : Change ByteState) (result : Result Bool Error)
      → WritesLast reporting text [] [] [] out result → EndsAt reporting text IsNothing out result
  ends_none out result last bytes output (none, silent) =
      subst (λ b. (holds : HaveNoExit reporting text b output)
      × WritesLast reporting text output holds.items holds.rest out result) (sym none)
      (subst (λ s. (holds : HaveNoExit reporting text [] s)
      × WritesLast reporting text s holds.items holds.rest out result) (sym silent)
      (holds_none, last))

  pub reports :
      (o q : ByteState) → Writes (change o q) text
      → EndsAt reporting text IsNothing (change o q) (Ok true)
  reports o q write = ends_none (change o q) (Ok true) (fine text, refl, refl, write)

  pub reports_part :
      (o q : ByteState) → WritesPart (change o q) text
      → EndsAt reporting text IsNothing (change o q) (Err aborts.WriteFault)
  reports_part o q part =
      ends_none (change o q) (Err aborts.WriteFault) (fine text, refl, part)
