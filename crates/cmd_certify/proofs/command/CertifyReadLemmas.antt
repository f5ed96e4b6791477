-- The output for the values so far, while a chunk is consumed.
use Rattle.std.proofs.Common.{◌≡◌, ℕ, ◌+◌, Bool, List, [], ◌∷◌, ◌++◌, Result, Ok, Err, refl, sym, ◌∙◌, subst}
use Rattle.std.specs.Prelude.{◌&&◌, IsErrAnd}
use Rattle.marshal_spec.specs.format.Stream.{clean, cut}
use Rattle.marshal_spec.specs.format.Tree.{Tree, objects_of}
use Rattle.marshal_read.specs.declared.reader.Reader.{Reader}
use Rattle.marshal_read.specs.declared.returned_value.Value.{Value}
use Rattle.marshal_read.specs.Reading.{IsValueOf}
use Rattle.marshal_read.specs.Reader.{LeadsReader, Finishes, EndsInput}
use Rattle.base_io.specs.Sink.{Writes}
use Rattle.base_io.specs.StreamState.{ByteState, Change, change}
use Rattle.cli_spec.specs.Outcome.{Output, nothing_output, all_ok}
use Rattle.cli_errors.specs.declared.exit_line.Error.{Error}
use Rattle.cli_errors.specs.declared.exit_line.Error.TheVariants as aborts
use Rattle.run_spec.specs.runs.Commands.{value as value_item}
use Rattle.run_spec.proofs.runs.RunWriteLemmas.{writes_nothing}
use Rattle.run_spec.proofs.runs.RunValueLemmas.{and_true, all_ok-snoc}
use Rattle.run_loop.specs.work.Works.{WritesLast}
use Rattle.cmd_certify.proofs.value_items.ValueItemReadLemmas.{HasValues, error_is, none_left, value_known, value_done}
use Rattle.run_types.specs.declared.requested.Prepared.{Prepared}
use Rattle.run_types.specs.Language.{TypeOver, declared_types}
use Rattle.run_types.specs.RequestedTexts.{type_over}
use Rattle.cmd_certify.specs.spec.Certification.{OutputsOf}
use Rattle.run_spec.proofs.value_commands.ValueCommandItemLemmas.{first_stays}
use Rattle.cmd_certify.proofs.spec.CertifySpecItemLemmas.{goes_on}
use Rattle.cmd_certify.specs.command.CertifiedOutput.{OutputsSection, declared_certificates, on_certified}
use Rattle.cmd_certify.specs.command.CertifyProgress.{certified, WritesSection, HasRead, IsValueRead, WritesNext}

-- The items of the command are values.
abbrev pub has_values :
    (r : Prepared) (limit : ℕ)
    → HasValues declared_types on_certified (certified r limit) limit
has_values r limit = record {
  value_first = λ items bytes item more h. h;
  first_value = λ items bytes item more h. h;
  stay = λ items. first_stays declared_types limit;
  goes_on = goes_on declared_certificates (certified r limit) declared_types;
  refuses = λ items bytes exit h. h;
  cuts = λ items bytes n tail. (cut n, tail, refl);
}

-- The output for a value in memory is the output for its tree.
output_read :
    (t : TypeOver) (number : ℕ) (value : Value) (tree : Tree) (output : Output)
    → IsValueOf value tree → OutputsSection t number value.heap value.root output
    → declared_certificates t number tree output
output_read t number value tree output is outputs =
    subst (λ v. OutputsSection t number (objects_of tree 0) v output) is.root
    (subst (λ h. OutputsSection t number h value.root output) is.heap outputs)

-- If the types, the least numbers and the limits are equal, then the state is valid for both tasks.
pub has_same :
    (r s : Prepared) (least_faults others : List ℕ) (limit most : ℕ) (reader : Reader) (count : ℕ)
    (ok : Bool) (taken : List ℕ) (output : List Output) → r ≡ s → least_faults ≡ others → limit ≡ most
    → HasRead r least_faults limit reader count ok taken output
    → HasRead s others most reader count ok taken output
has_same r s least_faults others limit most reader count ok taken output e f g h =
    subst (λ s. HasRead s others most reader count ok taken output) e
    (subst (λ o. HasRead r o most reader count ok taken output) f
    (subst (λ m. HasRead r least_faults m reader count ok taken output) g h))

module _ (r : Prepared) (least_faults : List ℕ) (limit : ℕ) {reader : Reader} {count : ℕ} {ok : Bool}
    {taken : List ℕ} {output : List Output} where
  -- If the input ends after a value, then the run ends without an exit reason.
  pub ends_all :
      (h : HasRead r least_faults limit reader count ok taken output)
      → EndsInput {U = Unit {0}} limit h.prefix (Ok tt) → (o : ByteState)
      → WritesLast on_certified (certified r limit) output h.items h.prefix (change o o) (Ok ok)
  ends_all h end o = (
    nothing_output,
    (clean, none_left limit h.prefix reader h.is_prefix h.leads end, refl),
    h.is_all_ok ∙ sym (all_ok-snoc output nothing_output ∙ and_true (all_ok output)),
    writes_nothing o,
  )

  -- ---- a value that was read completely

  module _ (v : IsValueRead r least_faults limit reader count ok taken output) (value : Value)
      (f : Finishes limit v.whole value) where
    -- If `next` is the output for the value in memory, then `next` is the output for the value of
    -- the input.
    value_output :
        (next : Output) → OutputsSection (type_over r) count value.heap value.root next
        → OutputsOf declared_certificates (certified r limit) v.items (value_item f.tree) next
    value_output next outputs = record {
      tree = f.tree;
      is = refl;
      section = subst (λ n. declared_certificates (type_over r) n f.tree next) v.counted
          (output_read (type_over r) count value f.tree next f.is_value outputs);
    }

    -- If the output for the value was written, then the reader waits for the next value.
    pub value_written :
        (out : Change ByteState) (fine : Bool)
        → WritesSection (type_over r) count value.heap value.root out (Ok fine)
        → (new : Reader) → LeadsReader limit [] new → (fine_all : Bool) → fine_all ≡ (ok && fine)
        → (next : Output) × HasRead r least_faults limit new (count + 1) fine_all taken (output ++ next ∷ [])
        × Writes out next.text
    value_written out fine (text, outputs, write) new leads fine_all is =
        let next : Output = record { text = text; ok = fine } in (
          next,
          value_done (has_values r limit) v f next (value_output next outputs) new leads fine_all is,
          write,
        )

    value_error :
        (out : Change ByteState) (error : Error) (new : Reader) (count' : ℕ) (ok' : Bool)
        → WritesSection (type_over r) count value.heap value.root out (Err error)
        → WritesNext r least_faults limit {U = Unit {0}} new count' ok' taken output out (Err error)
    value_error out (aborts.Exit exit) new count' ok' memory = memory
    value_error out aborts.WriteFault new count' ok' (text, fine, outputs, part) =
        let next : Output = record { text = text; ok = fine } in
        (next, value_known (has_values r limit) v f next (value_output next outputs), part)

    -- If the output for the value was not written, then the run ends with the error.
    pub value_aborts :
        (out : Change ByteState) (error : Error) (new : Reader) (count' : ℕ) (ok' : Bool)
        (result : Result (Unit {0}) Error) → IsErrAnd result (λ h. h ≡ error)
        → WritesSection (type_over r) count value.heap value.root out (Err error)
        → WritesNext r least_faults limit new count' ok' taken output out result
    value_aborts out error new count' ok' result is p =
        error_is (WritesNext r least_faults limit new count' ok' taken output out) error result is
        (value_error out error new count' ok' p)
