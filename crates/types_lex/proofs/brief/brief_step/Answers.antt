use Rattle.std.proofs.Common.{sym, subst, arith, ◌∙◌, Result}
use Rattle.std.proofs.lemmas.List.{take_rest}
use Rattle.types_lex.specs.declared.found_lexeme.LexStep.{LexStep}
use Rattle.types_lex.specs.declared.lexeme.LexFault.{LexFault}
use Rattle.types_lex.specs.Brief.{StepsBrief}
use Rattle.types_lex.specs.Lexer.{step_at}
use Rattle.types_lex.proofs.BriefLaws.{prefix_gap, prefix_symbol, no_step, prefix_string, prefix_name, steps_whole}
use Rattle.types_lex.proofs.brief.brief_step.Goals as goal

pub returns-then-is_empty : goal.returns-then-is_empty
returns-then-is_empty c = no_step c.args.text.now (grind (arith, c.if-is_empty.true, c.is_empty.ensures))

pub returns-then-text-eq34 : goal.returns-then-text-eq34
returns-then-text-eq34 c =
    subst (λ (e : Result LexStep LexFault). StepsBrief c.word_step.result e)
    (sym (prefix_string c.args.text.now (grind (arith, c.if-is_empty.false, c.is_empty.ensures)) c.if-text-eq34.true))
    (c.word_step.ensures _ (rw take_rest at c.brief_string.ensures))

pub returns-then-starts_name : goal.returns-then-starts_name
returns-then-starts_name c =
    subst (λ (e : Result LexStep LexFault). StepsBrief c.word_step-then-starts_name.result e)
    (sym (prefix_name c.args.text.now (grind (arith, c.if-is_empty.false, c.is_empty.ensures)) (sym c.starts_name.ensures ∙ c.if-starts_name.true)))
    (c.word_step-then-starts_name.ensures _ c.brief_word.ensures)

pub returns : goal.returns
returns c = steps_whole c.step_at.result (step_at c.args.text.now) c.step_at.ensures

pub returns-then-is_separator : goal.returns-then-is_separator
returns-then-is_separator c =
    prefix_gap c.args.text.now (grind (arith, c.if-is_empty.false, c.is_empty.ensures)) (sym c.is_separator.ensures ∙ c.if-is_separator.true)

pub returns-in-Some : goal.returns-in-Some
returns-in-Some c =
    prefix_symbol c.args.text.now c.in-Some.symbol (grind (arith, c.if-is_empty.false, c.is_empty.ensures)) (sym c.lone_symbol.ensures ∙ c.in-Some.is)
