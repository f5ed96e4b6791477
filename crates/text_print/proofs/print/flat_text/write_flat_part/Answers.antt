use Rattle.std.proofs.Common.{◌≡◌, ◌<◌, ◌∙◌, ◌++◌, false, length, ap, sym, subst, arith, rules}
use Rattle.std.proofs.lemmas.Grind.{common_steps}
use Rattle.std.specs.Prelude.{IsTrue, unwrap_or}
use Rattle.base_data.specs.model.Graph.{IsValue}
use Rattle.types_spec.specs.types.Fitting.{is_asked}
use Rattle.types_spec.specs.types.Names.{no_names}
use Rattle.types_spec.specs.types.Table.{node_or_none}
use Rattle.marshal_heap.specs.heap.Heap.{kind_of, word_of}
use Rattle.text_print.specs.leaves.Frames.{int_text}
use Rattle.text_print.specs.show.TableShapes.{shape_in, names_in}
use Rattle.text_print.specs.print.FlatText.{IsWrittenFlat}
use Rattle.text_print.proofs.print.PrintFlatLemmas.{wildcard_flat, int_flat, atom_flat, leaf_flat}
use Rattle.text_print.proofs.print.PrintTypedLemmas.{integer_kept}
use Rattle.text_print.proofs.print.flat_text.write_flat_part.Goals as goal

pub returns-then-not-is_asked : goal.returns-then-not-is_asked
returns-then-not-is_asked c =
    let wildcard : is_asked (shape_in c.args.table.now c.args.at) ≡ false = first_of (search rules, grind (arith, common_steps)) in
    wildcard_flat c.args.table.now c.args.value.now.heap.now c.args.value.now.root c.args.at c.args.last c.args.text.now.items c.write_few.new.text.items c.requires.last wildcard c.in_ok-write_few.ensures

pub returns-in_default : goal.returns-in_default
returns-in_default c =
    let table = c.args.table.now in
    let graph = c.args.value.now.heap.now in
    let o = c.in-Ref.o in
    let at = c.args.at in
    let old = c.args.text.now.items in
    let new = c.write_leaf.new.text.items in
    let asked : IsTrue (is_asked (shape_in table at)) = first_of (search rules, grind (arith, common_steps)) in
    let inside : o < length graph = subst (IsValue (length graph)) c.in-Ref.is c.args.value.now.value in
    let above : c.args.last < o = first_of (omega arith, omega (arith, c.if-o-last.false), search rules, grind (arith, common_steps)) in
    subst (λ v. IsWrittenFlat table graph v at c.args.last o old new) (sym c.in-Ref.is)
    (leaf_flat table graph o at c.args.last old new inside above asked
    (λ tag values is. c.in_default.not-Block tag (length values) (c.kind_at.ensures o inside (c.requires.word ∙ ap (word_of graph) c.in-Ref.is) ∙ ap kind_of is))
    c.in_ok-write_leaf-in-Ref.ensures)

pub returns-in_ok-write_int_at-in-Int : goal.returns-in_ok-write_int_at-in-Int
returns-in_ok-write_int_at-in-Int c =
    let table = c.args.table.now in
    let graph = c.args.value.now.heap.now in
    let z = c.in-Int.z in
    let at = c.args.at in
    let old = c.args.text.now.items in
    let new = c.write_int_at.new.text.items in
    let asked : IsTrue (is_asked (shape_in table at)) = first_of (search rules, grind (arith, common_steps)) in
    let kept = integer_kept z (subst (IsValue (length graph)) c.in-Int.is c.args.value.now.value) in
    let shown : int_text (shape_in table at) (names_in table at) z ≡ int_text c.shape-shape.result.now c.names.result.now z =
    ap (λ s. int_text s (names_in table at) z) (ap node_or_none c.shape-shape.ensures) ∙ ap (λ n. int_text c.shape-shape.result.now n z) (ap (λ n. unwrap_or n no_names) c.names.ensures) in
    subst (λ v. IsWrittenFlat table graph v at c.args.last c.args.last old new) (sym c.in-Int.is)
    (int_flat table graph z at c.args.last old new c.requires.last asked
    (c.in_ok-write_int_at-in-Int.ensures ∙ ap (λ x. old ++ int_text c.shape-shape.result.now c.names.result.now x) kept ∙ ap (λ t. old ++ t) (sym shown)))

pub returns-in_ok-write_few-in-Atom : goal.returns-in_ok-write_few-in-Atom
returns-in_ok-write_few-in-Atom c =
    let table = c.args.table.now in
    let graph = c.args.value.now.heap.now in
    let old = c.args.text.now.items in
    let new = c.write_few-in-Atom.new.text.items in
    let asked : IsTrue (is_asked (shape_in table c.args.at)) = first_of (search rules, grind (arith, common_steps)) in
    subst (λ v. IsWrittenFlat table graph v c.args.at c.args.last c.args.last old new) (sym c.in-Atom.is)
    (atom_flat table graph c.in-Atom.field-0 c.args.at c.args.last old new c.requires.last asked c.in_ok-write_few-in-Atom.ensures)
