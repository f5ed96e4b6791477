use Rattle.std.proofs.Common.{subst, sym, ◌≡◌, ◌∙◌, false, arith, ◌<◌, length, rules}
use Rattle.std.specs.Prelude.{IsTrue}
use Rattle.std.proofs.lemmas.Grind.{common_steps}
use Rattle.std.proofs.lemmas.List.{get_or_read}
use Rattle.base_data.specs.model.Graph.{IsValue}
use Rattle.types_spec.specs.types.Fitting.{is_asked}
use Rattle.text_print.specs.show.TableShapes.{shape_in}
use Rattle.text_print.proofs.print.PrintTypedLemmas.{integer_kept}
use Rattle.text_print.proofs.print.PrintWalkLemmas.{integer_goes, atom_goes, again_goes, wildcard_goes}
use Rattle.text_print.proofs.print.print_walk.PrintWalk.meet.Goals as goal

pub returns-in-Int-clause-goes : goal.returns-in-Int-clause-goes
returns-in-Int-clause-goes c =
    let asked : IsTrue (is_asked (shape_in c.args.table.now c.args.at)) = first_of (search rules, grind (arith, common_steps)) in
    rw (integer_kept c.in-Int.z (subst (IsValue _) c.in-Int.is c.args.value.now.value))
    (integer_goes c.args.table.now c.args.value.now.heap.now c.args.self.now c.args.value.now.root c.in-Int.z c.args.at c.in-Int.is c.requires.walk c.requires.none c.requires.typed asked)

pub returns-in-Atom-clause-goes : goal.returns-in-Atom-clause-goes
returns-in-Atom-clause-goes c =
    let asked : IsTrue (is_asked (shape_in c.args.table.now c.args.at)) = first_of (search rules, grind (arith, common_steps)) in
    atom_goes c.args.table.now c.args.value.now.heap.now c.args.self.now c.args.value.now.root c.in-Atom.field-0 c.args.at c.in-Atom.is c.requires.walk c.requires.none asked

pub returns-in-Ref-clause-goes : goal.returns-in-Ref-clause-goes
returns-in-Ref-clause-goes c =
    let asked : IsTrue (is_asked (shape_in c.args.table.now c.args.at)) = first_of (search rules, grind (arith, common_steps)) in
    let inside : c.in-Ref.o < length c.args.value.now.heap.now = subst (IsValue _) c.in-Ref.is c.args.value.now.value in
    let there : c.in-Ref.o < length c.args.self.now.marks.items = omega (arith, inside, c.requires.walk.many) in
    let mark = get_or_read c.args.self.now.marks.items c.in-Ref.o c.index.result.now there c.index.ensures false in
    again_goes c.args.table.now c.args.value.now.heap.now c.args.self.now c.args.value.now.root c.in-Ref.o c.args.at c.in-Ref.is c.requires.walk c.requires.none inside (sym mark ∙ c.if-index.true) asked

pub returns-then-not-is_asked-clause-goes : goal.returns-then-not-is_asked-clause-goes
returns-then-not-is_asked-clause-goes c =
    let wildcard : is_asked (shape_in c.args.table.now c.args.at) ≡ false = first_of (search rules, grind (arith, common_steps)) in
    wildcard_goes c.args.table.now c.args.value.now.heap.now c.args.self.now c.args.value.now.root c.args.at c.requires.walk c.requires.none wildcard
