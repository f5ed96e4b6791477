use Rattle.std.proofs.Common.{sym, ◌∙◌}
use Rattle.text_path.proofs.PathLineLemmas.{known_all, known_literal, is_ended, judged_line, judged_fault, ends_early, is_set}
use Rattle.text_path.proofs.script_line_parser.line_of.Goals as goal

pub returns-in-Some-clause-line : goal.returns-in-Some-clause-line
returns-in-Some-clause-line c =
    judged_line c.args.lexemes.items c.args.number c.args.end c.in-Some.line c.in_time.result
    (is_ended c.args.lexemes.items c.args.number c.args.end c.in-All.prefix (known_all c.args.lexemes.items c.args.known c.in-All.prefix c.in-All.is c.requires.known) c.in-Some.line (sym c.ended.ensures ∙ c.in-Some.is)
    c.in_time.result c.in_time.ensures)

pub returns-in-Some-clause-fault : goal.returns-in-Some-clause-fault
returns-in-Some-clause-fault c =
    judged_fault c.args.lexemes.items c.args.number c.args.end c.in-Some.line c.in_time.result
    (is_ended c.args.lexemes.items c.args.number c.args.end c.in-All.prefix (known_all c.args.lexemes.items c.args.known c.in-All.prefix c.in-All.is c.requires.known) c.in-Some.line (sym c.ended.ensures ∙ c.in-Some.is)
    c.in_time.result c.in_time.ensures)

pub returns-in-All-clause-fault : goal.returns-in-All-clause-fault
returns-in-All-clause-fault c =
    ends_early c.args.lexemes.items c.args.number c.args.end c.requires.some c.in-All.prefix (known_all c.args.lexemes.items c.args.known c.in-All.prefix c.in-All.is c.requires.known) (sym c.ended.ensures ∙ c.in-None.is)

pub returns-in-Literal-clause-line : goal.returns-in-Literal-clause-line
returns-in-Literal-clause-line c =
    is_set c.args.lexemes.items c.args.number c.args.end c.in-Literal.value c.in-Literal.path c.in-Literal.position
    (known_literal c.args.lexemes.items c.args.known c.in-Literal.value c.in-Literal.path c.in-Literal.position c.in-Literal.is c.requires.known)
    c.in_ok-set_line-in-Literal.field-0 c.in_ok-set_line-in-Literal.ensures
