-- The command consumes no input, and the final output is the line of the value.
use Rattle.std.proofs.Common.{ℕ, List, [], Bool, Result, Ok, Err, inr, refl, sym, subst}
use Rattle.cli_spec.specs.Outcome.{Output}
use Rattle.cli_spec.specs.declared.exit.Exit.TheVariants.{Memory as out_of_memory}
use Rattle.base_io.specs.Sink.{Writes, WritesPart}
use Rattle.base_io.specs.StreamState.{ByteState, Change, change}
use Rattle.cli_errors.specs.declared.exit_line.Error.{Error}
use Rattle.cli_errors.specs.declared.exit_line.Error.TheVariants as aborts
use Rattle.run_spec.specs.runs.Account.{HaveNoExit}
use Rattle.run_spec.proofs.runs.RunWriteLemmas.{writes_nothing}
use Rattle.run_spec.proofs.runs.RunValueLemmas.{and_true}
use Rattle.run_loop.specs.work.Works.{WritesLast, EndsAt}
use Rattle.run_types.specs.declared.requested.Prepared.{Prepared}
use Rattle.run_types.specs.Language.{TypeOver, declared_types}
use Rattle.cmd_gen.specs.spec.GenSpec.{Making, IsMadeLine, gen_spec}
use Rattle.cmd_gen.specs.command.OutputLines.{making_of, HasNothing}

module _ (number count : ℕ) (r : Prepared) where
  abbrev act : Making TypeOver
  act = making_of number count r

  abbrev holds_none : HaveNoExit (gen_spec declared_types) act [] []
  holds_none = record {
    items = [];
    rest = [];
    first = record { split = refl; all_print = tt };
    goes_on = record { no_exit = λ exit h. h; no_item = λ item more h. h };
  }

  pub holds :
      (bytes : List ℕ) (output : List Output) → HasNothing number count r bytes output
      → HaveNoExit (gen_spec declared_types) act bytes output
  holds bytes output has =
      subst (λ b. HaveNoExit (gen_spec declared_types) act b output) (sym has.none)
      (subst (λ s. HaveNoExit (gen_spec declared_types) act [] s) (sym has.silent) holds_none)

  ends_none :
      (out : Change ByteState) (result : Result Bool Error)
      → WritesLast (gen_spec declared_types) act [] [] [] out result
      → EndsAt (gen_spec declared_types) act (HasNothing number count r) out result
  ends_none out result last bytes output has =
      subst (λ b. (holds : HaveNoExit (gen_spec declared_types) act b output)
      × WritesLast (gen_spec declared_types) act output holds.items holds.rest out result)
      (sym has.none)
      (subst (λ s. (holds : HaveNoExit (gen_spec declared_types) act [] s)
      × WritesLast (gen_spec declared_types) act s holds.items holds.rest out result)
      (sym has.silent)
      (holds_none, last))

  pub ends_line :
      (output : Output) → IsMadeLine declared_types act output
      → (out : Change ByteState) → Writes out output.text
      → EndsAt (gen_spec declared_types) act (HasNothing number count r) out (Ok output.ok)
  ends_line output is out write =
      ends_none out (Ok output.ok) (output, (refl, refl, is), sym (and_true output.ok), write)

  pub ends_part :
      (output : Output) → IsMadeLine declared_types act output
      → (out : Change ByteState) → WritesPart out output.text
      → EndsAt (gen_spec declared_types) act (HasNothing number count r) out
      (Err aborts.WriteFault)
  ends_part output is out part = ends_none out (Err aborts.WriteFault) (output, (refl, refl, is), part)

  pub ends_memory :
      (out : ByteState)
      → EndsAt (gen_spec declared_types) act (HasNothing number count r) (change out out)
      (Err (aborts.Exit out_of_memory))
  ends_memory out =
      ends_none (change out out) (Err (aborts.Exit out_of_memory)) (inr refl, writes_nothing out)
