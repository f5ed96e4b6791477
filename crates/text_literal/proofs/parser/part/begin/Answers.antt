use Rattle.std.proofs.Common.{arith, sym, ap, ◌∙◌, subst}
use Rattle.std.specs.Prelude.{ℕ, ◌+◌, ◌<◌, ◌≡◌, true, false, List, [], length, All, option_map, slice_get}
use Rattle.std.proofs.lemmas.List.{append-nil}
use Rattle.text_literal.specs.declared.literal_grammar.literal_node.LiteralNode.{LiteralNode}
use Rattle.types_lex.specs.declared.lexeme.Lexeme.{Lexeme}
use Rattle.text_literal.specs.literal_grammar.Literal.{again, label_kinds}
use Rattle.text_literal.specs.parser.LiteralAnswers.{shape_in, names_in}
use Rattle.text_literal.specs.parser.LiteralReading.{is_next, literal_read}
use Rattle.text_literal.specs.parser.Standing.{Stands, own_node}
use Rattle.text_literal.specs.parser.Underway.{Begins, MayRefuse}
use Rattle.text_literal.specs.declared.parser.literal_fault.LiteralFault.TheVariants as faults
use Rattle.text_literal.proofs.parser.GoLemmas.{own_found, again_only, plain_only, part_inside, first_within}
use Rattle.text_literal.proofs.parser.StandingLemmas.{lead_is}
use Rattle.text_literal.proofs.parser.LiteralParserPlacedLemmas.{number_refused}
use Rattle.text_literal.proofs.parser.part.begin.Goals as goal

pub get-node-requires : goal.get-node-requires
get-node-requires c = part_inside c.args.text.now c.args.j c.requires.part

pub returns-in-Again-clause-begins : goal.returns-in-Again-clause-begins
returns-in-Again-clause-begins c k v stands all =
    let own = own_found c.args.text.now.nodes.now c.args.j k v c.get-node.result stands.nodes_at c.get-node.ensures in
    let labels = c.args.labels.now.items in
    again_only (λ u. c.get-node.result ≡ own_node k u → Begins c.args.text.now k u c.args.t c.args.heap.now c.args.heap.now labels labels c.again.result) k
    (λ n is. subst (λ ls. All (λ o. o < length c.args.heap.now) ls → Begins c.args.text.now k (again n) c.args.t c.args.heap.now c.args.heap.now ls ls c.again.result) c.deref.ensures.value
    (λ below. c.again.ensures k n c.args.t c.args.heap.now is below) all) v
    (sym (ap (λ (n : LiteralNode). n.form) own) ∙ c.in-Again.is) own

pub returns-then-not-has_next_number : goal.returns-then-not-has_next_number
returns-then-not-has_next_number c = record {
  begins = λ k v stands all.
      let own = own_found c.args.text.now.nodes.now c.args.j k v c.get-node.result stands.nodes_at c.get-node.ensures in
      let other : is_next c.args.labels.now.items c.get-node.result.label ≡ false = sym (ap (λ (ls : List ℕ). is_next ls c.get-node.result.label) c.deref-2.ensures.value) ∙ sym c.has_next_number.ensures ∙ c.if-not-has_next_number.true in
      plain_only (λ u. c.get-node.result ≡ own_node k u
      → MayRefuse c.args.text.now.lexemes.now c.args.text.now.end
      (literal_read (shape_in c.args.text.now.table.now) (names_in c.args.text.now.table.now) k u (length c.args.heap.now) c.args.labels.now.items c.args.t) (faults.Label c.byte_of.result)) k
      (λ l p is. number_refused c.args.text.now c.get-node.result k c.args.t l p c.args.heap.now c.args.labels.now.items is c.byte_of.result other c.byte_of.ensures) v
      (λ e. c.in_default.not-Again (ap (λ (n : LiteralNode). n.form) own ∙ e)) own;
  grows = ([], sym (append-nil c.args.heap.now));
}

pub make_plain-requires : goal.make_plain-requires
make_plain-requires c = record {
  text = c.requires.text;
  node = part_inside c.args.text.now c.args.j c.requires.part;
}

pub plain_first-requires : goal.plain_first-requires
plain_first-requires c = let first = first_within c.args.text.now c.args.j c.get-node.result c.requires.part c.get-node.ensures c.in_default.not-Again in omega (arith, first, c.requires.text.few)

pub placed-requires : goal.placed-requires
placed-requires c = let first = first_within c.args.text.now c.args.j c.get-node.result c.requires.part c.get-node.ensures c.in_default.not-Again in omega (arith, first, c.requires.text.few)

pub returns : goal.returns
returns c = record {
  begins = λ k v stands all.
      let own = own_found c.args.text.now.nodes.now c.args.j k v c.get-node.result stands.nodes_at c.get-node.ensures in
      let node = c.get-node.result in
      let numbered : is_next c.args.labels.now.items c.get-node.result.label ≡ true = sym (ap (λ (ls : List ℕ). is_next ls c.get-node.result.label) c.deref-2.ensures.value) ∙ sym c.has_next_number.ensures ∙ c.if-not-has_next_number.false in
      plain_only (λ u. Stands c.args.text.now.nodes.now c.args.text.now.lexemes.now c.args.j k u → node ≡ own_node k u
      → Begins c.args.text.now k u c.args.t c.args.heap.now c.make_plain.new.heap c.args.labels.now.items c.placed.new.labels.items c.placed.result) k
      (λ l p there is.
      let led = lead_is c.args.text.now.lexemes.now k l p there.kinds_at c.in-Some.kind
      (sym c.in-Some.is ∙ c.in_ok-kind.ensures ∙ ap (λ i. option_map (λ (x : Lexeme). x.kind) (slice_get c.args.text.now.lexemes.now i)) (c.plain_first.ensures ∙ ap (λ (n : LiteralNode). n.first + length (label_kinds n.label)) is)) in
      c.placed.ensures k l p c.args.heap.now c.make_plain.new.heap is (sym (ap (λ (n : LiteralNode). is_next c.args.labels.now.items n.label) is) ∙ numbered) all
      (c.in_ok-made.ensures.made k l p there is led)) v
      (λ e. c.in_default.not-Again (ap (λ (n : LiteralNode). n.form) own ∙ e)) stands own;
  grows = c.in_ok-made.ensures.grows;
}
