use Rattle.std.proofs.Common.{sym, ap, ◌∙◌, option_map, slice_get}
use Rattle.types_lex.specs.declared.lexeme.Lexeme.{Lexeme}
use Rattle.text_decimal.proofs.scripts.LiteralLemmas.{lexeme_more}
use Rattle.text_decimal.proofs.scripts.given_offsets.given_literal.Goals as goal

pub loop-k-preserved : goal.loop-k-preserved
loop-k-preserved c =
    lexeme_more c.args.decimals.now c.args.literal.now c.loop-k.k c.loop-k-test.true c.index-literal-k.result c.index-literal-k.is
    c.in-Some.kind
    (sym c.in-Some.is ∙ c.in_ok-kind.ensures ∙ ap (λ ls. option_map (λ (l : Lexeme). l.kind) (slice_get ls c.loop-k.k)) c.of_row-kinds.ensures)
    c.line_position-first.result c.line_position-first.ensures c.loop-k.given c.push.new.self c.loop-k.invariant c.in_ok-push.ensures.ok
