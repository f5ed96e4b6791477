use Rattle.std.proofs.Common.{◌∙◌, Ok, ap}
use Rattle.types_lex.specs.declared.found_lexeme.LexStep.{LexStep}
use Rattle.types_lex.specs.declared.found_lexeme.LexStep.TheVariants as steps
use Rattle.text_decimal.proofs.texts.DecimalTextPrefixLemmas.{step_within}
use Rattle.text_decimal.proofs.texts.decimal_prefix.kept.Goals as goal

pub returns-in-Ok-Gap-clause-within : goal.returns-in-Ok-Gap-clause-within
returns-in-Ok-Gap-clause-within c =
    step_within c.args.text.now (steps.Gap c.in-Ok-Gap.len) c.requires
    (c.in-Ok-Gap.ensures ∙ ap (λ (s : LexStep). Ok s) c.in-Ok-Gap.field-0-is)

pub returns-in-Ok-Word-clause-within : goal.returns-in-Ok-Word-clause-within
returns-in-Ok-Word-clause-within c =
    step_within c.args.text.now (steps.Word c.in-Ok-Word.word) c.requires
    (c.in-Ok-Word.ensures ∙ ap (λ (s : LexStep). Ok s) c.in-Ok-Word.field-0-is)
