use Rattle.std.proofs.Common.{ℕ, ◌-◌, ◌∙◌, List, [], ◌∷◌, Bor, sym, ap, map, arith}
use Rattle.std.proofs.lemmas.Option.{get_or_from_slice_get}
use Rattle.text_literal.specs.declared.literal_grammar.literal_node.LiteralNode.{LiteralNode}
use Rattle.text_literal.specs.parser.FieldNames.{name_before}
use Rattle.std.proofs.lemmas.List.{map-append}
use Rattle.types_parse.specs.grammar.LexemeKinds.{kinds_of}
use Rattle.text_literal.proofs.parser.FieldNameLemmas.{names_step}
use Rattle.text_literal.proofs.parser.fields.names_from.Goals as goal

pub loop-left-preserved : goal.loop-left-preserved
loop-left-preserved c =
    let now : Bor (List ℕ) → List ℕ = λ name. name.now in
    names_step c.args.nodes.now c.args.ends.now (kinds_of c.args.lexemes.now) c.loop-left.position c.loop-left.left (c.loop-left.left - 1) c.sibling-position.result c.get.result
    (map now c.loop-left.names.items) (map now c.push.new.self.items) _ c.name_before.result.now (omega (arith, c.loop-left-test.true)) (omega (arith, c.if-position-len.false, c.len.ensures.count))
    (ap (λ (all : List (Bor (List ℕ))). map now all) c.in_ok-push.ensures.items ∙ map-append now c.loop-left.names.items (c.name_before.result ∷ []))
    (c.name_before.ensures ∙ ap (λ (n : LiteralNode). name_before (kinds_of c.args.lexemes.now) n.first) (sym (get_or_from_slice_get c.args.nodes.now c.loop-left.position c.get.result c.get.result c.get.ensures))) c.sibling-position.ensures c.loop-left.invariant
