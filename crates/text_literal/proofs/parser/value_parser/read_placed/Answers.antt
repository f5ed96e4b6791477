use Rattle.std.proofs.Common.{sym, ap, ◌∙◌, subst, take, length, List}
use Rattle.types_lex.specs.declared.lexeme.Lexeme.{Lexeme}
use Rattle.text_literal.specs.parser.Underway.{Reads}
use Rattle.text_literal.specs.literal_grammar.PlacedLiterals.{lexemes_at}
use Rattle.text_literal.proofs.parser.LiteralParserReadLemmas.{answered_back, answered_there, only_answer}
use Rattle.text_literal.proofs.parser.value_parser.read_placed.Goals as goal

pub returns-then-is_err-clause-only : goal.returns-then-is_err-clause-only
returns-then-is_err-clause-only c answer a =
    only_answer c.args.table.now c.args.at (lexemes_at c.args.text.now c.args.placed.now.positions.items) (length c.args.text.now) c.args.heap.now c.truncate.new.self c.read_in_room-result.result answer
    (answered_back c.args.table.now c.args.at (lexemes_at c.args.text.now c.args.placed.now.positions.items) (length c.args.text.now) c.args.heap.now c.read_in_room-result.new.heap c.read_in_room-result.result c.truncate.new.self
    (sym c.is_err.ensures.value ∙ c.if-is_err.true) (subst (λ (xs : List Lexeme). Reads c.args.table.now c.args.at xs (length c.args.text.now) c.args.heap.now c.read_in_room-result.new.heap c.read_in_room-result.result) (c.of_text-lexemes.ensures ∙ ap (lexemes_at c.args.text.now) c.as_slice.ensures.value) c.read_in_room-result.ensures) (c.truncate.ensures ∙ ap (λ n. take n c.read_in_room-result.new.heap) c.count-count.ensures.count)) a

pub returns-else-is_err-clause-only : goal.returns-else-is_err-clause-only
returns-else-is_err-clause-only c answer a =
    only_answer c.args.table.now c.args.at (lexemes_at c.args.text.now c.args.placed.now.positions.items) (length c.args.text.now) c.args.heap.now c.read_in_room-result.new.heap c.read_in_room-result.result answer
    (answered_there c.args.table.now c.args.at (lexemes_at c.args.text.now c.args.placed.now.positions.items) (length c.args.text.now) c.args.heap.now c.read_in_room-result.new.heap c.read_in_room-result.result
    (sym c.is_err.ensures.value ∙ c.if-is_err.false) (subst (λ (xs : List Lexeme). Reads c.args.table.now c.args.at xs (length c.args.text.now) c.args.heap.now c.read_in_room-result.new.heap c.read_in_room-result.result) (c.of_text-lexemes.ensures ∙ ap (lexemes_at c.args.text.now) c.as_slice.ensures.value) c.read_in_room-result.ensures)) a
