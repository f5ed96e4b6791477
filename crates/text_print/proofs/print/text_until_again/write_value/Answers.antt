use Rattle.std.proofs.Common.{false, ◌≡◌, ◌∙◌, ◌++◌, Some, length, ap, sym, subst, refl, arith, rules}
use Rattle.std.proofs.lemmas.Grind.{common_steps}
use Rattle.types_spec.specs.types.Fitting.{is_asked}
use Rattle.base_data.specs.declared.model.value.Val.TheVariants as vals
use Rattle.base_data.specs.model.Graph.{IsValue}
use Rattle.text_print.proofs.print.PrintTypedLemmas.{integer_kept}
use Rattle.std.specs.Prelude.{IsTrue, codes, unwrap_or}
use Rattle.types_spec.specs.types.Names.{no_names}
use Rattle.types_spec.specs.types.Table.{node_or_none}
use Rattle.text_print.specs.leaves.Frames.{int_text}
use Rattle.text_print.specs.show.TableShapes.{shape_in, names_in}
use Rattle.types_table.specs.type_table.Made.{table_of}
use Rattle.text_print.specs.declared.print.print_walk.PrintStep.TheVariants as steps
use Rattle.text_print.specs.declared.print.print_walk.PrintWalk.{PrintWalk}
use Rattle.text_print.specs.print.PrintLevels.{levels_of}
use Rattle.text_print.specs.print.TextUntilAgain.{IsWrittenOn}
use Rattle.text_print.specs.print.Typed.{IsTypedAt}
use Rattle.text_print.specs.print.PrintWalk.{left_of}
use Rattle.text_print.proofs.print.PrintWalkLemmas.{integer_goes, atom_goes, wildcard_goes}
use Rattle.text_print.proofs.print.PrintPlainLemmas.{one_text, write_goes, write_none, same_walk}
use Rattle.text_print.proofs.print.text_until_again.write_value.Goals as goal

pub returns-in_ok-write_int_at-in-Int-clause-write : goal.returns-in_ok-write_int_at-in-Int-clause-write
returns-in_ok-write_int_at-in-Int-clause-write c =
    let table = c.args.table.now in
    let graph = c.args.value.now.heap.now in
    let z = c.in-Int.z in
    let at = c.args.at in
    let asked : IsTrue (is_asked (shape_in table at)) = first_of (search rules, grind (arith, common_steps)) in
    let kept = integer_kept z (subst (IsValue _) c.in-Int.is c.args.value.now.value) in
    let shown : int_text (shape_in table at) (names_in table at) z ≡ int_text c.shape-in-Int.result.now c.names.result.now z =
    ap (λ s. int_text s (names_in table at) z) (ap node_or_none c.shape-in-Int.ensures) ∙ ap (λ n. int_text c.shape-in-Int.result.now n z) (ap (λ n. unwrap_or n no_names) c.names.ensures) in
    write_goes table graph _ c.args.walk.now.order c.args.text.now.items c.write_int_at.new.text.items (steps.Integer z at) c.args.walk.now
    (integer_goes table graph c.args.walk.now c.args.value.now.root z at c.in-Int.is c.requires.walk c.requires.none c.requires.typed asked)
    refl
    (one_text c.args.text.now.items c.write_int_at.new.text.items (int_text (shape_in table at) (names_in table at) z) (c.in_ok-write_int_at-in-Int.ensures ∙ ap (λ x. c.args.text.now.items ++ int_text c.shape-in-Int.result.now c.names.result.now x) kept ∙ ap (λ t. c.args.text.now.items ++ t) (sym shown)))

pub returns-in_ok-write_few-in-Atom-clause-write : goal.returns-in_ok-write_few-in-Atom-clause-write
returns-in_ok-write_few-in-Atom-clause-write c =
    let asked : IsTrue (is_asked (shape_in c.args.table.now c.args.at)) = first_of (search rules, grind (arith, common_steps)) in
    write_goes c.args.table.now c.args.value.now.heap.now _ c.args.walk.now.order c.args.text.now.items c.write_few-in-Atom.new.text.items steps.Empty c.args.walk.now
    (atom_goes c.args.table.now c.args.value.now.heap.now c.args.walk.now c.args.value.now.root c.in-Atom.field-0 c.args.at c.in-Atom.is c.requires.walk c.requires.none asked)
    refl
    (one_text c.args.text.now.items c.write_few-in-Atom.new.text.items (codes "[||]") c.in_ok-write_few-in-Atom.ensures)

pub returns-then-not-is_asked-clause-write : goal.returns-then-not-is_asked-clause-write
returns-then-not-is_asked-clause-write c =
    let wildcard : is_asked (shape_in c.args.table.now c.args.at) ≡ false = first_of (search rules, grind (arith, common_steps)) in
    write_goes c.args.table.now c.args.value.now.heap.now _ c.args.walk.now.order c.args.text.now.items c.write_few.new.text.items steps.Wildcard c.args.walk.now
    (wildcard_goes c.args.table.now c.args.value.now.heap.now c.args.walk.now c.args.value.now.root c.args.at c.requires.walk c.requires.none wildcard)
    refl
    (one_text c.args.text.now.items c.write_few.new.text.items (codes "_") c.in_ok-write_few.ensures)

pub returns-then-index-clause-write : goal.returns-then-index-clause-write
returns-then-index-clause-write c =
    let table = c.args.table.now in
    let graph = c.args.value.now.heap.now in
    let walk = c.args.walk.now in
    let text = c.args.text.now.items in
    let at = c.args.at in
    let waiting : PrintWalk = record { value = Some (vals.Ref c.in-Ref.o, at); stack = walk.stack; ends = walk.ends; marks = walk.marks; order = walk.order } in
    let is = same_walk table graph walk waiting c.requires.walk (record { blocks = refl; ends = refl; marks = refl; order = refl })
    (subst (IsValue (length graph)) c.in-Ref.is c.args.value.now.value, subst (λ v. IsTypedAt (table_of table) graph v at) c.in-Ref.is c.requires.typed) in
    subst (λ v. IsWrittenOn table graph (left_of table graph (levels_of walk) (Some (v, at)) walk.order) walk.order text text waiting) (sym c.in-Ref.is)
    (write_none table graph waiting text is)
