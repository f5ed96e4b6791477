use Rattle.std.proofs.Common.{◌≡◌, Ok, Err}
use Rattle.std.proofs.lemmas.Result.{IfOk-weaker}
use Rattle.text_literal.specs.literal_grammar.LiteralNodes.{literal_nodes, IsTreeAnswer}
use Rattle.text_literal.proofs.literal_grammar.LiteralGrammarReadLemmas.{gives_tree, gives_syntax}
use Rattle.text_literal.proofs.literal_grammar.tree_parser.read_literal_tree.Goals as goal

pub returns-clause-literal : goal.returns-clause-literal
returns-clause-literal c = λ v is.
    IfOk-weaker c.read.result (IsTreeAnswer c.args.lexemes.now) (λ answer. answer ≡ Ok (literal_nodes 0 v))
    (λ answer known. gives_tree c.args.lexemes.now answer known v is) c.read.ensures

pub returns-clause-syntax : goal.returns-clause-syntax
returns-clause-syntax c = λ k is.
    IfOk-weaker c.read.result (IsTreeAnswer c.args.lexemes.now) (λ answer. answer ≡ Err k)
    (λ answer known. gives_syntax c.args.lexemes.now answer known k is) c.read.ensures
