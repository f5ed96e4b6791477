use Rattle.std.proofs.Common.{rules, sym, subst}
use Rattle.std.specs.Prelude.{◌≡◌, Result, Err}
use Rattle.base_data.specs.declared.model.value.Val.{Val}
use Rattle.text_literal.specs.declared.parser.literal_fault.LiteralFault.{LiteralFault}
use Rattle.text_literal.specs.parser.Underway.{ReadsTree}
use Rattle.text_literal.proofs.parser.LiteralParserRootLemmas.{tree_goes, tree_faulty, tree_fine}
use Rattle.text_literal.proofs.parser.value_parser.read_tree.Goals as goal

pub read_parts-requires-clause-underway : goal.read_parts-requires-clause-underway
read_parts-requires-clause-underway c =
    tree_goes c.args.text.now c.args.at c.args.heap.now c.begin.new.heap c.new-labels.result.items c.begin.new.labels.items c.new-labels.ensures.items c.in_ok-begun.begun
    c.in-Some.block c.in-Some.is (λ k v stands all. c.in_ok-begun.ensures.begins k v stands all) c.requires.tree

pub returns-in_err-read_parts-in-Some : goal.returns-in_err-read_parts-in-Some
returns-in_err-read_parts-in-Some c =
    let same : c.from_residual-in_err-read_parts-in-Some.result ≡ Err c.in_err-read_parts-in-Some.field-0.0 = search rules in
    subst (λ (r : Result Val LiteralFault). ReadsTree c.args.text.now c.args.at c.args.heap.now c.read_parts.new.heap r) (sym same)
    (tree_faulty c.args.text.now c.args.at c.args.heap.now c.begin.new.heap c.new-labels.result.items c.begin.new.labels.items c.new-labels.ensures.items c.in_ok-begun.begun
    c.in-Some.block c.in-Some.is (λ k v stands all. c.in_ok-begun.ensures.begins k v stands all) c.requires.tree c.read_parts.new.heap c.in_err-read_parts-in-Some.field-0.0
    (λ old outcome u. c.in_err-read_parts-in-Some.ensures.finished old outcome u))

pub returns-in-Some : goal.returns-in-Some
returns-in-Some c =
    tree_fine c.args.text.now c.args.at c.args.heap.now c.begin.new.heap c.new-labels.result.items c.begin.new.labels.items c.new-labels.ensures.items c.in_ok-begun.begun
    c.in-Some.block c.in-Some.is (λ k v stands all. c.in_ok-begun.ensures.begins k v stands all) c.requires.tree c.read_parts.new.heap tt
    (λ old outcome u. c.in_ok-read_parts-in-Some.ensures.finished old outcome u)
