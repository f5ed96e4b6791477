use Rattle.std.proofs.Common.{rules, sym, ap, ◌∙◌}
use Rattle.std.specs.Prelude.{ℕ, ◌≡◌, List, map, None, IfOk}
use Rattle.std.proofs.Common.{Bor}
use Rattle.types_lex.specs.declared.lexeme.LexemeKind.TheVariants as kinds
use Rattle.types_lex.specs.declared.lexeme.Symbol.TheVariants as symbols
use Rattle.text_literal.specs.literal_grammar.Literal.{labelled, fields}
use Rattle.text_literal.specs.parser.Standing.{Stands}
use Rattle.text_literal.specs.parser.Started.{start_in}
use Rattle.text_literal.specs.parser.Starts.{start_at}
use Rattle.text_literal.proofs.parser.LiteralParserStartLemmas.{owner_none}
use Rattle.text_literal.proofs.parser.start.fields_start.Goals as goal

pub returns-in-Symbol-OpenBrace-clause-start : goal.returns-in-Symbol-OpenBrace-clause-start
returns-in-Symbol-OpenBrace-clause-start c t k l o rs x v stands lead parts =
    let brace : c.args.kind.now ≡ kinds.Symbol symbols.OpenBrace = search rules in
    owner_none (λ owner. Stands c.args.text.now.nodes.now c.args.text.now.lexemes.now c.args.j k (labelled l (fields owner rs x v))
    → IfOk c.record_start.result (λ start. start_in t start ≡ start_at t c.args.shape.now c.args.names.now (fields owner rs x v)))
    (λ there. c.record_start.ensures.start t k l rs x v there parts
    (ap (λ (ns : List (Bor (List ℕ))). map (λ (name : Bor (List ℕ)). name.now) ns) c.deref.ensures.value ∙ c.in_ok-wanted.ensures k l None rs x v there))
    o (sym brace ∙ lead) stands
