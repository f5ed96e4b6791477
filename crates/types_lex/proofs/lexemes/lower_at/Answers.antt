use Rattle.std.proofs.Common.{sym, ◌∙◌, arith}
use Rattle.types_lex.proofs.LowerLaws.{lower_none, lower_empty, lower_some, lower_keyword}
use Rattle.types_lex.proofs.lexemes.lower_at.Goals as goal

pub returns-in_default : goal.returns-in_default
returns-in_default c = lower_empty c.args.text.now c.in_default.len_below

pub returns-then-not-starts_lower : goal.returns-then-not-starts_lower
returns-then-not-starts_lower c = lower_none c.args.text.now _ (omega (arith, c.in-len1-up.len_at_least)) (sym c.starts_lower.ensures ∙ c.if-not-starts_lower.true)

pub returns-in-None : goal.returns-in-None
returns-in-None c =
    lower_some c.args.text.now _ c.name_len.result (omega (arith, c.in-len1-up.len_at_least)) (sym c.starts_lower.ensures ∙ c.if-not-starts_lower.false) c.name_len.ensures
    (sym c.keyword_of.ensures ∙ c.in-None.is)

pub returns-in-Some : goal.returns-in-Some
returns-in-Some c =
    lower_keyword c.args.text.now _ c.name_len.result _ (omega (arith, c.in-len1-up.len_at_least)) (sym c.starts_lower.ensures ∙ c.if-not-starts_lower.false) c.name_len.ensures
    (sym c.keyword_of.ensures ∙ c.in-Some.is)
