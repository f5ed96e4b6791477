use Rattle.std.proofs.Common.{arith, rules, refl, get_or, sym, ap, ◌∙◌, subst}
use Rattle.std.specs.Prelude.{ℕ, ◌+◌, ◌<◌, ◌≡◌, Result, Err, IfErr, List, ◌∷◌, length}
use Rattle.base_data.specs.declared.model.value.Obj.{Obj}
use Rattle.text_literal.specs.declared.parser.literal_fault.LiteralFault.{LiteralFault}
use Rattle.text_literal.specs.declared.parser.block_stack.Opened.{Opened}
use Rattle.text_literal.specs.parser.Underway.{if_open, IsUnderway, MayRefuse}
use Rattle.text_literal.proofs.parser.GoLemmas.{has_part, part_inside, end_behind, part_fault, part_valid, gone_in, gone_on}
use Rattle.text_literal.proofs.parser.literal_parts.read_part.Goals as goal

pub begin-requires-clause-part : goal.begin-requires-clause-part
begin-requires-clause-part c = has_part c.args.text.now c.args.block c.args.stack.now c.args.j c.args.heap.now c.args.labels.now.items c.requires.underway

pub returns-in_err-begun-clause-refused : goal.returns-in_err-begun-clause-refused
returns-in_err-begun-clause-refused c old outcome u =
    let same : c.from_residual.result ≡ Err c.in_err-begun.field-0.0 = search rules in
    subst (λ (r : Result ℕ LiteralFault). IfErr r (MayRefuse c.args.text.now.lexemes.now c.args.text.now.end outcome)) (sym same)
    (part_fault c.args.text.now c.args.block c.args.stack.now c.args.j c.args.heap.now c.args.labels.now.items c.next_type.result c.next_type.ensures c.in_err-begun.field-0.0
    (λ k v stands all. c.in_err-begun.ensures.begins k v stands all) old outcome u)

pub returns-in_err-begun-clause-inside : goal.returns-in_err-begun-clause-inside
returns-in_err-begun-clause-inside c = part_inside c.args.text.now c.args.j (has_part c.args.text.now c.args.block c.args.stack.now c.args.j c.args.heap.now c.args.labels.now.items c.requires.underway)

pub set-requires-clause-valid : goal.set-requires-clause-valid
set-requires-clause-valid c =
    part_valid c.args.text.now c.args.block c.args.stack.now c.args.j c.args.heap.now c.args.labels.now.items c.next_type.result c.next_type.ensures
    c.begin.new.heap c.begin.new.labels.items c.in_ok-begun.begun (λ k v stands all. c.in_ok-begun.ensures.begins k v stands all) c.requires.underway

pub returns-in_err-write_back-clause-inside : goal.returns-in_err-write_back-clause-inside
returns-in_err-write_back-clause-inside c = part_inside c.args.text.now c.args.j (has_part c.args.text.now c.args.block c.args.stack.now c.args.j c.args.heap.now c.args.labels.now.items c.requires.underway)

pub returns-in_err-push-in-Some-clause-inside : goal.returns-in_err-push-in-Some-clause-inside
returns-in_err-push-in-Some-clause-inside c = part_inside c.args.text.now c.args.j (has_part c.args.text.now c.args.block c.args.stack.now c.args.j c.args.heap.now c.args.labels.now.items c.requires.underway)

pub overflow_add-result : goal.overflow_add-result
overflow_add-result c =
    let inside = part_inside c.args.text.now c.args.j (has_part c.args.text.now c.args.block c.args.stack.now c.args.j c.args.heap.now c.args.labels.now.items c.requires.underway) in
    omega (arith, inside)

pub offset_bounds-text-j : goal.offset_bounds-text-j
offset_bounds-text-j c =
    let inside : c.args.j < length c.args.text.now.nodes.now =
    part_inside c.args.text.now c.args.j (has_part c.args.text.now c.args.block c.args.stack.now c.args.j c.args.heap.now c.args.labels.now.items c.requires.underway) in search rules

pub bounds-text-j : goal.bounds-text-j
bounds-text-j c =
    let inside = part_inside c.args.text.now c.args.j (has_part c.args.text.now c.args.block c.args.stack.now c.args.j c.args.heap.now c.args.labels.now.items c.requires.underway) in
    omega (arith, inside, c.requires.text.many)

pub returns-in_ok-push-in-Some-clause-underway : goal.returns-in_ok-push-in-Some-clause-underway
returns-in_ok-push-in-Some-clause-underway c old outcome u =
    subst (λ (stack : List Opened). IsUnderway c.args.text.now old outcome stack (c.args.j + 1) c.set.new.self c.begin.new.labels.items)
    (sym (c.in_ok-push-in-Some.ensures ∙ ap (λ (stack : List Opened). c.in-Some.inner ∷ stack) c.in_ok-write_back.ensures))
    (subst (λ (g : List Obj). IsUnderway c.args.text.now old outcome (c.in-Some.inner ∷ if_open c.advanced.result c.args.stack.now) (c.args.j + 1) g c.begin.new.labels.items) (sym c.set.ensures)
    (gone_in c.args.text.now c.args.block c.args.stack.now c.args.j c.args.heap.now c.args.labels.now.items c.next_type.result c.next_type.ensures
    c.begin.new.heap c.begin.new.labels.items c.in_ok-begun.begun (λ k v stands all. c.in_ok-begun.ensures.begins k v stands all) c.advanced.result c.advanced.ensures old outcome u
    c.in-Some.inner c.in-Some.is))

pub returns-in_ok-push-in-Some-clause-inside : goal.returns-in_ok-push-in-Some-clause-inside
returns-in_ok-push-in-Some-clause-inside c = part_inside c.args.text.now c.args.j (has_part c.args.text.now c.args.block c.args.stack.now c.args.j c.args.heap.now c.args.labels.now.items c.requires.underway)

pub returns-in-None-clause-underway : goal.returns-in-None-clause-underway
returns-in-None-clause-underway c old outcome u =
    subst (λ (stack : List Opened). IsUnderway c.args.text.now old outcome stack (get_or c.args.text.now.ends.now c.args.j 0) c.set.new.self c.begin.new.labels.items) (sym c.in_ok-write_back.ensures)
    (subst (λ (g : List Obj). IsUnderway c.args.text.now old outcome (if_open c.advanced.result c.args.stack.now) (get_or c.args.text.now.ends.now c.args.j 0) g c.begin.new.labels.items) (sym c.set.ensures)
    (gone_on c.args.text.now c.args.block c.args.stack.now c.args.j c.args.heap.now c.args.labels.now.items c.next_type.result c.next_type.ensures
    c.begin.new.heap c.begin.new.labels.items c.in_ok-begun.begun (λ k v stands all. c.in_ok-begun.ensures.begins k v stands all) c.advanced.result c.advanced.ensures old outcome u
    c.in-None.is c.requires.text (get_or c.args.text.now.ends.now c.args.j 0) refl))

pub returns-in-None-clause-onward : goal.returns-in-None-clause-onward
returns-in-None-clause-onward c = end_behind c.args.text.now c.args.j c.requires.text (has_part c.args.text.now c.args.block c.args.stack.now c.args.j c.args.heap.now c.args.labels.now.items c.requires.underway)

pub returns-in-None-clause-inside : goal.returns-in-None-clause-inside
returns-in-None-clause-inside c = part_inside c.args.text.now c.args.j (has_part c.args.text.now c.args.block c.args.stack.now c.args.j c.args.heap.now c.args.labels.now.items c.requires.underway)
