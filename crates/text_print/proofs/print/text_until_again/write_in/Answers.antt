use Rattle.std.proofs.Common.{ℕ, ◌≡◌, ◌≤◌, ◌-◌, ◌∙◌, List, Option, Some, ⊎_elim, suc, length, take, refl, sym, subst, arith, rules}
use Rattle.std.proofs.lemmas.Grind.{common_steps}
use Rattle.std.proofs.lemmas.Option.{slice_get_cases, slice_get_within}
use Rattle.std.specs.Prelude.{slice_get}
use Rattle.check_heap.specs.fits.Needs.{needs_in}
use Rattle.text_print.specs.leaves.Frames.{before_part}
use Rattle.text_print.specs.leaves.FrameView.{frame_in}
use Rattle.text_print.specs.declared.print.print_walk.PrintStep.TheVariants as steps
use Rattle.text_print.specs.declared.print.print_walk.PrintWalk.{PrintWalk}
use Rattle.text_print.specs.print.PrintLevels.{end_text, last_outside}
use Rattle.text_print.specs.print.PrintWalk.{chunks_left, Goes}
use Rattle.text_print.proofs.print.PrintLabelLemmas.{fewer_left, none_next}
use Rattle.text_print.proofs.print.PrintLevelLemmas.{innermost_at}
use Rattle.text_print.proofs.print.PrintWalkLemmas.{block_open, block_goes, part_goes, word_is_field, words_many}
use Rattle.text_print.proofs.print.PrintPlainLemmas.{one_text, write_goes, write_then, fewer_written, same_walk}
use Rattle.text_print.proofs.print.text_until_again.write_in.Goals as goal

-- If a list has no element at index `k`, then the list has at most `k` elements.
no_more : {X : Type 0} (xs : List X) (k : ℕ) (found : Option X) → found ≡ slice_get xs k → ((x : X) → found ≡ Some x → ⊥) → length xs ≤ k
no_more xs k found is none = ⊎_elim (λ there. absurd (none there.0 (is ∙ there.2))) (λ past. past.0) (slice_get_cases xs k).1

pub overflow_add-next : goal.overflow_add-next
overflow_add-next c = omega (arith, c.in-Some.ensures.more)

pub returns-in_default-clause-fewer : goal.returns-in_default-clause-fewer
returns-in_default-clause-fewer c =
    let table = c.args.table.now in
    let graph = c.args.heap.now in
    let walk = c.args.walk.now in
    let items = walk.stack.items in
    let last = c.len-last.result - 1 in
    let block = c.index-block.result.now in
    let many : length items ≡ suc last = first_of (omega arith, search rules, grind (arith, common_steps)) in
    let none : length walk.ends.items ≤ last_outside 0 items = first_of (omega (arith, c.requires.innermost), grind (arith, common_steps)) in
    let inner = innermost_at walk last block c.requires.walk.nested none many c.index-block.ensures in
    let end = c.end_of.result in
    let closed : PrintWalk = record { value = walk.value; stack = c.truncate.new.self; ends = walk.ends; marks = walk.marks; order = walk.order } in
    let goes = subst (λ ps. Goes table graph ps walk.order (steps.Closing end) closed) (none_next table graph walk c.requires.none)
    (block_goes table graph walk closed (take last items) block end c.requires.walk inner
    (no_more (needs_in block.needs) block.next c.next_need.result c.next_need.ensures.need (λ x is. c.in_default.not-Some x is))
    c.end_of.ensures c.requires.none c.truncate.ensures.items refl refl refl) in
    fewer_left table graph (chunks_left table graph walk) walk.order (steps.Closing end) closed goes

pub returns-in_default-clause-write : goal.returns-in_default-clause-write
returns-in_default-clause-write c =
    let table = c.args.table.now in
    let graph = c.args.heap.now in
    let walk = c.args.walk.now in
    let items = walk.stack.items in
    let last = c.len-last.result - 1 in
    let block = c.index-block.result.now in
    let many : length items ≡ suc last = first_of (omega arith, search rules, grind (arith, common_steps)) in
    let none : length walk.ends.items ≤ last_outside 0 items = first_of (omega (arith, c.requires.innermost), grind (arith, common_steps)) in
    let inner = innermost_at walk last block c.requires.walk.nested none many c.index-block.ensures in
    let end = c.end_of.result in
    let closed : PrintWalk = record { value = walk.value; stack = c.truncate.new.self; ends = walk.ends; marks = walk.marks; order = walk.order } in
    let goes = subst (λ ps. Goes table graph ps walk.order (steps.Closing end) closed) (none_next table graph walk c.requires.none)
    (block_goes table graph walk closed (take last items) block end c.requires.walk inner
    (no_more (needs_in block.needs) block.next c.next_need.result c.next_need.ensures.need (λ x is. c.in_default.not-Some x is))
    c.end_of.ensures c.requires.none c.truncate.ensures.items refl refl refl) in
    write_goes table graph (chunks_left table graph walk) walk.order c.args.text.now.items c.write_end.new.text.items (steps.Closing end) closed goes refl
    (one_text c.args.text.now.items c.write_end.new.text.items (end_text end) c.in_ok-write_end.ensures)

pub value_at-v-requires-clause-valid : goal.value_at-v-requires-clause-valid
value_at-v-requires-clause-valid c =
    let table = c.args.table.now in
    let graph = c.args.heap.now in
    let walk = c.args.walk.now in
    let items = walk.stack.items in
    let last = c.len-last.result - 1 in
    let block = c.index-block.result.now in
    let many : length items ≡ suc last = first_of (omega arith, search rules, grind (arith, common_steps)) in
    let none : length walk.ends.items ≤ last_outside 0 items = first_of (omega (arith, c.requires.innermost), grind (arith, common_steps)) in
    let inner = innermost_at walk last block c.requires.walk.nested none many c.index-block.ensures in
    let need = sym c.next_need.ensures.need ∙ c.in-Some.is in
    let both = block_open table graph walk (take last items) block c.requires.walk inner.blocks in
    both.1.valid

pub value_at-v-requires-clause-inside : goal.value_at-v-requires-clause-inside
value_at-v-requires-clause-inside c =
    let table = c.args.table.now in
    let graph = c.args.heap.now in
    let walk = c.args.walk.now in
    let items = walk.stack.items in
    let last = c.len-last.result - 1 in
    let block = c.index-block.result.now in
    let many : length items ≡ suc last = first_of (omega arith, search rules, grind (arith, common_steps)) in
    let none : length walk.ends.items ≤ last_outside 0 items = first_of (omega (arith, c.requires.innermost), grind (arith, common_steps)) in
    let inner = innermost_at walk last block c.requires.walk.nested none many c.index-block.ensures in
    let need = sym c.next_need.ensures.need ∙ c.in-Some.is in
    let both = block_open table graph walk (take last items) block c.requires.walk inner.blocks in
    omega (arith, words_many table graph block both.1, (both.1.parts block.next c.in-Some.i c.in-Some.at need).there)

pub word_at-word-requires : goal.word_at-word-requires
word_at-word-requires c =
    let table = c.args.table.now in
    let graph = c.args.heap.now in
    let walk = c.args.walk.now in
    let items = walk.stack.items in
    let last = c.len-last.result - 1 in
    let block = c.index-block.result.now in
    let many : length items ≡ suc last = first_of (omega arith, search rules, grind (arith, common_steps)) in
    let none : length walk.ends.items ≤ last_outside 0 items = first_of (omega (arith, c.requires.innermost), grind (arith, common_steps)) in
    let inner = innermost_at walk last block c.requires.walk.nested none many c.index-block.ensures in
    let need = sym c.next_need.ensures.need ∙ c.in-Some.is in
    let both = block_open table graph walk (take last items) block c.requires.walk inner.blocks in
    omega (arith, words_many table graph block both.1, (both.1.parts block.next c.in-Some.i c.in-Some.at need).there)

pub last_end-end-requires : goal.last_end-end-requires
last_end-end-requires c =
    let block = c.index-block.result.now in
    slice_get_within (needs_in block.needs) block.next (c.in-Some.i, c.in-Some.at) (sym c.next_need.ensures.need ∙ c.in-Some.is)

pub write_value-requires-clause-walk : goal.write_value-requires-clause-walk
write_value-requires-clause-walk c =
    let table = c.args.table.now in
    let graph = c.args.heap.now in
    let walk = c.args.walk.now in
    let items = walk.stack.items in
    let last = c.len-last.result - 1 in
    let block = c.index-block.result.now in
    let many : length items ≡ suc last = first_of (omega arith, search rules, grind (arith, common_steps)) in
    let none : length walk.ends.items ≤ last_outside 0 items = first_of (omega (arith, c.requires.innermost), grind (arith, common_steps)) in
    let inner = innermost_at walk last block c.requires.walk.nested none many c.index-block.ensures in
    let need = sym c.next_need.ensures.need ∙ c.in-Some.is in
    let both = block_open table graph walk (take last items) block c.requires.walk inner.blocks in
    let passed = c.in_ok-pass_part.ensures in
    let after = c.pass_part.new.self in
    let between : PrintWalk = record { value = Some (c.value_at-v.result, c.in-Some.at); stack = after.stack; ends = after.ends; marks = after.marks; order = after.order } in
    let goes = subst (λ ps. Goes table graph ps walk.order (steps.Before block.frame block.next) between) (none_next table graph walk c.requires.none)
    (part_goes table graph walk between (take last items) block c.in-Some.i c.in-Some.at c.value_at-v.result c.last_end-end.result c.requires.walk inner
    c.value_at-v.ensures.valid
    (record {
      value = refl;
      blocks = passed.blocks (take last items) block inner.blocks;
      ends = passed.ends;
      marks = passed.marks;
      order = passed.order;
      need = need;
      part = word_is_field table graph block c.in-Some.i c.value_at-v.result c.requires.walk.is_graph both.1
          (both.1.parts block.next c.in-Some.i c.in-Some.at need).there c.value_at-v.ensures.valid c.value_at-v.ensures.word;
      last = c.last_end-end.ensures;
    })) in
    same_walk table graph between after goes.walk (record { blocks = refl; ends = refl; marks = refl; order = refl }) (rw (passed.value ∙ c.requires.none) tt)

pub write_value-requires-clause-typed : goal.write_value-requires-clause-typed
write_value-requires-clause-typed c =
    let table = c.args.table.now in
    let graph = c.args.heap.now in
    let walk = c.args.walk.now in
    let items = walk.stack.items in
    let last = c.len-last.result - 1 in
    let block = c.index-block.result.now in
    let many : length items ≡ suc last = first_of (omega arith, search rules, grind (arith, common_steps)) in
    let none : length walk.ends.items ≤ last_outside 0 items = first_of (omega (arith, c.requires.innermost), grind (arith, common_steps)) in
    let inner = innermost_at walk last block c.requires.walk.nested none many c.index-block.ensures in
    let need = sym c.next_need.ensures.need ∙ c.in-Some.is in
    let both = block_open table graph walk (take last items) block c.requires.walk inner.blocks in
    let passed = c.in_ok-pass_part.ensures in
    let after = c.pass_part.new.self in
    let between : PrintWalk = record { value = Some (c.value_at-v.result, c.in-Some.at); stack = after.stack; ends = after.ends; marks = after.marks; order = after.order } in
    let goes = subst (λ ps. Goes table graph ps walk.order (steps.Before block.frame block.next) between) (none_next table graph walk c.requires.none)
    (part_goes table graph walk between (take last items) block c.in-Some.i c.in-Some.at c.value_at-v.result c.last_end-end.result c.requires.walk inner
    c.value_at-v.ensures.valid
    (record {
      value = refl;
      blocks = passed.blocks (take last items) block inner.blocks;
      ends = passed.ends;
      marks = passed.marks;
      order = passed.order;
      need = need;
      part = word_is_field table graph block c.in-Some.i c.value_at-v.result c.requires.walk.is_graph both.1
          (both.1.parts block.next c.in-Some.i c.in-Some.at need).there c.value_at-v.ensures.valid c.value_at-v.ensures.word;
      last = c.last_end-end.ensures;
    })) in
    goes.walk.value.1

pub returns-clause-fewer : goal.returns-clause-fewer
returns-clause-fewer c =
    let table = c.args.table.now in
    let graph = c.args.heap.now in
    let walk = c.args.walk.now in
    let items = walk.stack.items in
    let last = c.len-last.result - 1 in
    let block = c.index-block.result.now in
    let many : length items ≡ suc last = first_of (omega arith, search rules, grind (arith, common_steps)) in
    let none : length walk.ends.items ≤ last_outside 0 items = first_of (omega (arith, c.requires.innermost), grind (arith, common_steps)) in
    let inner = innermost_at walk last block c.requires.walk.nested none many c.index-block.ensures in
    let need = sym c.next_need.ensures.need ∙ c.in-Some.is in
    let both = block_open table graph walk (take last items) block c.requires.walk inner.blocks in
    let passed = c.in_ok-pass_part.ensures in
    let after = c.pass_part.new.self in
    let between : PrintWalk = record { value = Some (c.value_at-v.result, c.in-Some.at); stack = after.stack; ends = after.ends; marks = after.marks; order = after.order } in
    let goes = subst (λ ps. Goes table graph ps walk.order (steps.Before block.frame block.next) between) (none_next table graph walk c.requires.none)
    (part_goes table graph walk between (take last items) block c.in-Some.i c.in-Some.at c.value_at-v.result c.last_end-end.result c.requires.walk inner
    c.value_at-v.ensures.valid
    (record {
      value = refl;
      blocks = passed.blocks (take last items) block inner.blocks;
      ends = passed.ends;
      marks = passed.marks;
      order = passed.order;
      need = need;
      part = word_is_field table graph block c.in-Some.i c.value_at-v.result c.requires.walk.is_graph both.1
          (both.1.parts block.next c.in-Some.i c.in-Some.at need).there c.value_at-v.ensures.valid c.value_at-v.ensures.word;
      last = c.last_end-end.ensures;
    })) in
    fewer_written table graph (chunks_left table graph walk) walk.order after.order c.write_before.new.text.items c.write_value.new.text.items (steps.Before block.frame block.next) between c.write_value.new.walk goes c.in_ok-fresh.ensures.write

pub returns-clause-write : goal.returns-clause-write
returns-clause-write c =
    let table = c.args.table.now in
    let graph = c.args.heap.now in
    let walk = c.args.walk.now in
    let items = walk.stack.items in
    let last = c.len-last.result - 1 in
    let block = c.index-block.result.now in
    let many : length items ≡ suc last = first_of (omega arith, search rules, grind (arith, common_steps)) in
    let none : length walk.ends.items ≤ last_outside 0 items = first_of (omega (arith, c.requires.innermost), grind (arith, common_steps)) in
    let inner = innermost_at walk last block c.requires.walk.nested none many c.index-block.ensures in
    let need = sym c.next_need.ensures.need ∙ c.in-Some.is in
    let both = block_open table graph walk (take last items) block c.requires.walk inner.blocks in
    let passed = c.in_ok-pass_part.ensures in
    let after = c.pass_part.new.self in
    let between : PrintWalk = record { value = Some (c.value_at-v.result, c.in-Some.at); stack = after.stack; ends = after.ends; marks = after.marks; order = after.order } in
    let goes = subst (λ ps. Goes table graph ps walk.order (steps.Before block.frame block.next) between) (none_next table graph walk c.requires.none)
    (part_goes table graph walk between (take last items) block c.in-Some.i c.in-Some.at c.value_at-v.result c.last_end-end.result c.requires.walk inner
    c.value_at-v.ensures.valid
    (record {
      value = refl;
      blocks = passed.blocks (take last items) block inner.blocks;
      ends = passed.ends;
      marks = passed.marks;
      order = passed.order;
      need = need;
      part = word_is_field table graph block c.in-Some.i c.value_at-v.result c.requires.walk.is_graph both.1
          (both.1.parts block.next c.in-Some.i c.in-Some.at need).there c.value_at-v.ensures.valid c.value_at-v.ensures.word;
      last = c.last_end-end.ensures;
    })) in
    write_then table graph (chunks_left table graph walk) walk.order c.args.text.now.items c.write_before.new.text.items c.write_value.new.text.items between c.write_value.new.walk
    (write_goes table graph (chunks_left table graph walk) walk.order c.args.text.now.items c.write_before.new.text.items (steps.Before block.frame block.next) between goes refl
    (one_text c.args.text.now.items c.write_before.new.text.items (before_part (frame_in block.frame) block.next) c.in_ok-write_before.ensures))
    c.in_ok-fresh.ensures.write
