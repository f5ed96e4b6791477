use Rattle.std.proofs.Common.{◌∙◌, Ok, sym, ap}
use Rattle.std.proofs.lemmas.List.{length-take-le}
use Rattle.types_lex.specs.declared.found_lexeme.LexStep.{LexStep}
use Rattle.types_lex.specs.declared.found_lexeme.LexStep.TheVariants as steps
use Rattle.types_wellformed.proofs.declarations.NameTextLemmas.{step_within}
use Rattle.types_wellformed.proofs.declarations.declaration_fault_text.write_first.Goals as goal

pub slice_bounds-extend_from_slice-end : goal.slice_bounds-extend_from_slice-end
slice_bounds-extend_from_slice-end c =
    sym (length-take-le c.in-Ok-Word.word.len c.args.text.now
    (step_within c.args.text.now (steps.Word c.in-Ok-Word.word)
    (c.in-Ok-Word.ensures ∙ ap (λ (s : LexStep). Ok s) c.in-Ok-Word.field-0-is)))
