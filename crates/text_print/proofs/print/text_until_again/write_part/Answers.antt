use Rattle.std.proofs.Common.{◌≡◌, ◌<◌, ◌++◌, ◌∷◌, ◌-◌, ◌∙◌, [], suc, length, take, refl, sym, ap, subst, arith, rules}
use Rattle.std.proofs.lemmas.Grind.{common_steps}
use Rattle.text_print.specs.declared.print.print_walk.PrintStep.TheVariants as steps
use Rattle.text_print.specs.declared.print.print_walk.PrintWalk.{PrintWalk}
use Rattle.text_print.specs.print.PrintLevels.{end_text, last_outside}
use Rattle.text_print.specs.print.PrintWalk.{chunks_left, Goes}
use Rattle.text_print.proofs.print.PrintLabelLemmas.{fewer_left, none_next}
use Rattle.text_print.proofs.print.PrintMarkLemmas.{last_split}
use Rattle.text_print.proofs.print.PrintWalkLemmas.{end_goes}
use Rattle.text_print.proofs.print.PrintPlainLemmas.{one_text, write_goes}
use Rattle.text_print.proofs.print.text_until_again.write_part.Goals as goal

pub returns-then-has_end-clause-fewer : goal.returns-then-has_end-clause-fewer
returns-then-has_end-clause-fewer c =
    let table = c.args.table.now in
    let graph = c.args.heap.now in
    let walk = c.args.walk.now in
    let items = walk.ends.items in
    let last = c.len-last.result - 1 in
    let end = c.index-end.result.now in
    let many : length items ≡ suc last = first_of (omega arith, search rules, grind (arith, common_steps)) in
    let split : items ≡ take last items ++ end ∷ [] = last_split items last end many ∙ ap (λ e. take last items ++ e ∷ []) (sym c.index-end.ensures) in
    let within = c.has_end.ensures.some c.if-has_end.true in
    let some : last_outside 0 walk.stack.items < length items = first_of (omega (arith, within), grind (arith, common_steps, within)) in
    let closed : PrintWalk = record { value = walk.value; stack = walk.stack; ends = c.truncate.new.self; marks = walk.marks; order = walk.order } in
    let goes = subst (λ ps. Goes table graph ps walk.order (steps.Closing end) closed) (none_next table graph walk c.requires.none)
    (end_goes table graph walk closed end c.requires.walk some c.requires.none refl (split ∙ ap (λ es. es ++ end ∷ []) (sym c.truncate.ensures.items)) refl refl) in
    fewer_left table graph (chunks_left table graph walk) walk.order (steps.Closing end) closed goes

pub returns-then-has_end-clause-write : goal.returns-then-has_end-clause-write
returns-then-has_end-clause-write c =
    let table = c.args.table.now in
    let graph = c.args.heap.now in
    let walk = c.args.walk.now in
    let items = walk.ends.items in
    let last = c.len-last.result - 1 in
    let end = c.index-end.result.now in
    let many : length items ≡ suc last = first_of (omega arith, search rules, grind (arith, common_steps)) in
    let split : items ≡ take last items ++ end ∷ [] = last_split items last end many ∙ ap (λ e. take last items ++ e ∷ []) (sym c.index-end.ensures) in
    let within = c.has_end.ensures.some c.if-has_end.true in
    let some : last_outside 0 walk.stack.items < length items = first_of (omega (arith, within), grind (arith, common_steps, within)) in
    let closed : PrintWalk = record { value = walk.value; stack = walk.stack; ends = c.truncate.new.self; marks = walk.marks; order = walk.order } in
    let goes = subst (λ ps. Goes table graph ps walk.order (steps.Closing end) closed) (none_next table graph walk c.requires.none)
    (end_goes table graph walk closed end c.requires.walk some c.requires.none refl (split ∙ ap (λ es. es ++ end ∷ []) (sym c.truncate.ensures.items)) refl refl) in
    write_goes table graph (chunks_left table graph walk) walk.order c.args.text.now.items c.write_end.new.text.items (steps.Closing end) closed goes refl
    (one_text c.args.text.now.items c.write_end.new.text.items (end_text end) c.in_ok-write_end.ensures)
