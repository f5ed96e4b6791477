use Rattle.std.proofs.Common.{◌≡◌, ◌+◌, ◌∙◌, ℕ, IfOk, List, Bor, map, subst, sym, ap}
use Rattle.std.proofs.lemmas.Option.{get_or_from_slice_get}
use Rattle.text_literal.specs.declared.literal_grammar.literal_node.LiteralNode.{LiteralNode}
use Rattle.types_parse.specs.grammar.LexemeKinds.{kinds_of}
use Rattle.text_literal.specs.parser.FieldNames.{names_from}
use Rattle.text_literal.proofs.parser.FieldNameLemmas.{field_names_are}
use Rattle.text_literal.proofs.parser.fields.field_names.Goals as goal

pub returns : goal.returns
returns c k l o rs x v h =
    let P : List (List ℕ) → Type 0 = λ own. IfOk c.names_from.result (λ names. map (λ (name : Bor (List ℕ)). name.now) names.items ≡ own) in
    subst P
    (ap (λ (n : LiteralNode). names_from c.args.nodes.now c.args.ends.now (kinds_of c.args.lexemes.now) (c.args.at + 1) n.parts)
    (sym (get_or_from_slice_get c.args.nodes.now c.args.at c.get.result c.get.result c.get.ensures))
    ∙ field_names_are c.args.nodes.now c.args.ends.now c.args.lexemes.now c.args.at k l o rs x v c.get.result c.requires.len c.requires.ends h) c.names_from.ensures
