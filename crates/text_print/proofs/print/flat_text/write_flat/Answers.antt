use Rattle.std.proofs.Common.{◌≡◌, ◌∙◌, ◌++◌, length, ap, sym, subst, arith, rules}
use Rattle.std.proofs.lemmas.Grind.{common_steps}
use Rattle.std.specs.Prelude.{IfOk, IsTrue, unwrap_or}
use Rattle.base_data.specs.model.Graph.{IsValue}
use Rattle.types_spec.specs.types.Fitting.{is_asked}
use Rattle.types_spec.specs.types.Names.{no_names}
use Rattle.types_spec.specs.types.Table.{node_or_none}
use Rattle.text_print.specs.leaves.Frames.{int_text}
use Rattle.text_print.specs.show.ShownValues.{shown_text}
use Rattle.text_print.specs.show.TableShapes.{shape_in, names_in}
use Rattle.text_print.specs.print.FlatText.{WritesWhole}
use Rattle.text_print.proofs.print.PrintFlatLemmas.{int_shown}
use Rattle.text_print.proofs.print.PrintTypedLemmas.{integer_kept}
use Rattle.text_print.proofs.print.flat_text.write_flat.Goals as goal

pub returns-in_ok-write_int_at-in-Int : goal.returns-in_ok-write_int_at-in-Int
returns-in_ok-write_int_at-in-Int c =
    let table = c.args.table.now in
    let graph = c.args.value.now.heap.now in
    let z = c.in-Int.z in
    let at = c.args.at in
    let old = c.args.text.now.items in
    let asked : IsTrue (is_asked (shape_in table at)) = first_of (search rules, grind (arith, common_steps)) in
    let kept = integer_kept z (subst (IsValue (length graph)) c.in-Int.is c.args.value.now.value) in
    let shown : int_text (shape_in table at) (names_in table at) z ≡ int_text c.shape-shape.result.now c.names.result.now z =
    ap (λ s. int_text s (names_in table at) z) (ap node_or_none c.shape-shape.ensures) ∙ ap (λ n. int_text c.shape-shape.result.now n z) (ap (λ n. unwrap_or n no_names) c.names.ensures) in
    c.in_ok-write_int_at-in-Int.ensures ∙ ap (λ x. old ++ int_text c.shape-shape.result.now c.names.result.now x) kept
    ∙ ap (λ t. old ++ t) (sym shown ∙ sym (int_shown table graph z at asked) ∙ ap (λ v. shown_text (shape_in table) (names_in table) graph v at) (sym c.in-Int.is))

pub returns-in-Ref : goal.returns-in-Ref
returns-in-Ref c =
    subst
    (λ v. IfOk c.write_flat_object.result
    (WritesWhole (shown_text (shape_in c.args.table.now) (names_in c.args.table.now) c.args.value.now.heap.now v c.args.at) c.args.text.now.items c.write_flat_object.new.text.items))
    (sym c.in-Ref.is) c.write_flat_object.ensures
