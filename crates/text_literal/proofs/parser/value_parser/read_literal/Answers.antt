use Rattle.std.proofs.Common.{sym, ap, ◌∙◌, take}
use Rattle.text_literal.proofs.parser.LiteralParserReadLemmas.{answered_back, answered_there, only_answer}
use Rattle.text_literal.proofs.parser.value_parser.read_literal.Goals as goal

pub returns-then-is_err-clause-only : goal.returns-then-is_err-clause-only
returns-then-is_err-clause-only c answer a =
    only_answer c.args.table.now c.args.at c.args.lexemes.now c.args.end c.args.heap.now c.truncate.new.self c.read_lexemes-result.result answer
    (answered_back c.args.table.now c.args.at c.args.lexemes.now c.args.end c.args.heap.now c.read_lexemes-result.new.heap c.read_lexemes-result.result c.truncate.new.self
    (sym c.is_err.ensures.value ∙ c.if-is_err.true) c.read_lexemes-result.ensures (c.truncate.ensures ∙ ap (λ n. take n c.read_lexemes-result.new.heap) c.count-count.ensures.count)) a

pub returns-else-is_err-clause-only : goal.returns-else-is_err-clause-only
returns-else-is_err-clause-only c answer a =
    only_answer c.args.table.now c.args.at c.args.lexemes.now c.args.end c.args.heap.now c.read_lexemes-result.new.heap c.read_lexemes-result.result answer
    (answered_there c.args.table.now c.args.at c.args.lexemes.now c.args.end c.args.heap.now c.read_lexemes-result.new.heap c.read_lexemes-result.result
    (sym c.is_err.ensures.value ∙ c.if-is_err.false) c.read_lexemes-result.ensures) a
