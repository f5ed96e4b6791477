-- If a call ended without errors, then the exit reason is `Finished`.
use Rattle.std.proofs.Common.{◌≡◌, sym, ap, ◌∙◌}
use Rattle.cli_spec.specs.declared.status.Status.TheVariants as statuses
use Rattle.cli_spec.specs.Outcome.{status_of, ending_of, exits, Replies, stopped}
use Rattle.cli_spec.specs.declared.exit.Exit.{Exit}
use Rattle.cli_spec.specs.declared.exit.Exit.TheVariants.{Usage as usage, BadPath as bad_path, NotTwoValues as not_two_values, CannotOpen as cannot_open, Declarations as declarations, RequestedType as requested_type, Value as value, Script as script_line, Text as text_line, Untyped as untyped_value, LargeValue as large_value, Certificate as certificate_line, Uncertified as uncertified_value, SectionsLeft as sections_left, Short as short_input, Finished as finished, ReadFault as read_fault, TooLong as too_long, Memory as out_of_memory}
use Rattle.run_spec.proofs.runs.RunSettledLemmas.{exit_status}

-- The exit reason is a refusal or a failure: any exit reason other than `Finished`.
abbrev pub Refuses : Exit → Type 0
Refuses (finished ok) = ⊥
Refuses exit = Unit {0}

-- If an exit reason is a refusal or a failure, then its status is not `AllOk`.
exit_not_ok : (exit : Exit) → Refuses exit → status_of exit ≡ statuses.AllOk → ⊥
exit_not_ok usage refuses e = cc e
exit_not_ok bad_path refuses e = cc e
exit_not_ok not_two_values refuses e = cc e
exit_not_ok (cannot_open name) refuses e = cc e
exit_not_ok (declarations refusal) refuses e = cc e
exit_not_ok (requested_type refusal) refuses e = cc e
exit_not_ok (value number refusal) refuses e = cc e
exit_not_ok (script_line number refusal) refuses e = cc e
exit_not_ok (text_line number refusal) refuses e = cc e
exit_not_ok (untyped_value number fault) refuses e = cc e
exit_not_ok (large_value number refusal) refuses e = cc e
exit_not_ok (certificate_line number) refuses e = cc e
exit_not_ok (uncertified_value number reason) refuses e = cc e
exit_not_ok sections_left refuses e = cc e
exit_not_ok (short_input taken) refuses e = cc e
exit_not_ok (finished ok) refuses e = refuses
exit_not_ok read_fault refuses e = cc e
exit_not_ok too_long refuses e = cc e
exit_not_ok out_of_memory refuses e = cc e

module _ (all : Replies) (ok : (ending_of all).status ≡ statuses.AllOk) where
  -- If the status of a run is `AllOk`, then the exit reason of the last reply is not a refusal or a
  -- failure.
  pub not_last : (exit : Exit) → Refuses exit → all.last ≡ exits exit → ⊥
  not_last exit refuses is = exit_not_ok exit refuses (sym (exit_status all exit is) ∙ ok)

  pub not_stopped : (exit : Exit) → Refuses exit → all ≡ stopped exit → ⊥
  not_stopped exit refuses is = not_last exit refuses (ap (λ all. all.last) is)
