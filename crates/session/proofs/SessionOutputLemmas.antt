-- Writing the output for a value, and the effect on the output for all values read up to now.
use Rattle.std.proofs.Common.{◌≡◌, ℕ, ◌+◌, Bool, List, [], ◌∷◌, ◌++◌, Result, Ok, Err, inl, refl, sym, subst}
use Rattle.std.specs.Prelude.{◌&&◌, IsErrAnd, Vec}
use Rattle.std.specs.declared.alloc.Global.{Global}
use Rattle.base_data.specs.declared.model.value.Val.{Val}
use Rattle.base_data.specs.declared.model.value.Obj.{Obj}
use Rattle.base_io.specs.Sink.{Writes, WritesPart}
use Rattle.base_io.specs.StreamState.{ByteState, Change}
use Rattle.cli_spec.specs.Outcome.{Output}
use Rattle.cli_spec.specs.declared.exit.Exit.TheVariants.{Memory as out_of_memory}
use Rattle.marshal_read.specs.declared.reader.Reader.{Reader}
use Rattle.marshal_read.specs.declared.returned_value.Value.{Value}
use Rattle.marshal_read.specs.Reader.{LeadsReader, Finishes}
use Rattle.cli_errors.specs.declared.exit_line.Error.{Error}
use Rattle.cli_errors.specs.declared.exit_line.Error.TheVariants as aborts
use Rattle.session.specs.declared.input_values.Values.{Values}
use Rattle.session.specs.declared.input_values.ValueTask.TheVariants as value_tasks
use Rattle.session.specs.declared.value_output.Printing.{Printing}
use Rattle.session.specs.OutputOfValue.{WritesOutput}
use Rattle.session.specs.InputValues.{HasRead, IsValueRead, WritesNext}
use Rattle.session.specs.ValueOutput.{IsOutputOf}
use Rattle.session.proofs.SessionReadLemmas.{outputs_read, value_output, value_written}

module _ (printing : Printing) (graph : List Obj) (root : Val) (out : Change ByteState) where
  -- If memory ran out and `?` propagated the error, then nothing was written.
  pub output_memory : (result : Result Bool Error) → IsErrAnd result (λ h. h ≡ aborts.Exit out_of_memory) → Writes out [] → WritesOutput printing graph root out result
  output_memory (Ok ok) is none = absurd is
  output_memory (Err error) is none = subst (λ h. WritesOutput printing graph root out (Err h)) (sym is) (refl, none)

  -- If writing the output fails and `?` propagates the error, then a part of the output was
  -- written.
  pub output_fault : (result : Result Bool Error) → IsErrAnd result (λ h. h ≡ aborts.WriteFault) → (text : List ℕ) (ok : Bool) → IsOutputOf printing graph root text ok → WritesPart out text
      → WritesOutput printing graph root out result
  output_fault (Ok ok) is text fine it part = absurd is
  output_fault (Err error) is text fine it part = subst (λ h. WritesOutput printing graph root out (Err h)) (sym is) (text, fine, it, part)

module _ (printing : Printing) (most : ℕ) (taken : List ℕ) (output : List Output) (values : Values) (v : IsValueRead (value_tasks.Print printing most) values taken output) (value : Value)
    (f : Finishes most v.whole value) where
  -- If the output for a value was written, then the reader waits for the next value.
  pub output_written : (out : Change ByteState) (ok : Bool) → WritesOutput printing value.heap value.root out (Ok ok) → (reader : Reader) → LeadsReader most [] reader → (all : Bool) → all ≡ (values.ok && ok)
      → (line : Vec ℕ Global)
      → (next : Output) × HasRead (value_tasks.Print printing most) (record { reader = reader; ok = all; last = ok; count = values.count + 1; kept = values.kept; earlier = values.earlier; line = line }) taken (output ++ next ∷ []) × Writes out next.text
  output_written out ok (text, it, write) reader leads all is line =
      let next : Output = record { text = text; ok = ok } in
      (next, value_written (value_tasks.Print printing most) taken output values v f.tree f.encoded next (outputs_read printing v.trees value f.tree text ok f.is_value it) reader leads all is ok refl values.kept values.earlier tt line, write)

  output_error : (out : Change ByteState) (error : Error) (new : Values) → WritesOutput printing value.heap value.root out (Err error)
      → WritesNext {U = Unit {0}} (value_tasks.Print printing most) taken output v.trees v.whole out new (Err error)
  output_error out (aborts.Exit exit) new (memory, none) = (inl memory, none)
  output_error out aborts.WriteFault new (text, ok, it, part) =
      let next : Output = record { text = text; ok = ok } in (
        next,
        (
          v.trees ++ f.tree ∷ [],
          [],
          value_output (value_tasks.Print printing most) taken output values v f.tree f.encoded next (outputs_read printing v.trees value f.tree text ok f.is_value it),
        ),
        part,
      )

  -- If the output for a value was not written, then the run ends with an error.
  pub output_aborts : (out : Change ByteState) (error : Error) (new : Values) (result : Result (Unit {0}) Error) → IsErrAnd result (λ h. h ≡ error)
      → WritesOutput printing value.heap value.root out (Err error) → WritesNext {U = Unit {0}} (value_tasks.Print printing most) taken output v.trees v.whole out new result
  output_aborts out error new (Ok unit) is p = absurd is
  output_aborts out error new (Err h) is p =
      subst (λ h. WritesNext {U = Unit {0}} (value_tasks.Print printing most) taken output v.trees v.whole out new (Err h)) (sym is) (output_error out error new p)
