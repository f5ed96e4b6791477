use Rattle.std.proofs.Common.{◌≡◌, ◌≤◌, ◌-◌, suc, length, take, refl, arith, rules}
use Rattle.std.proofs.lemmas.Grind.{common_steps}
use Rattle.text_print.specs.print.PrintLevels.{last_outside}
use Rattle.text_print.proofs.print.PrintLevelLemmas.{innermost_at}
use Rattle.text_print.proofs.print.PrintWalkLemmas.{block_open, block_goes, part_goes, word_is_field, words_many}
use Rattle.text_print.proofs.print.print_walk.PrintWalk.go_in.Goals as goal

pub returns-then-block-len : goal.returns-then-block-len
returns-then-block-len c =
    let walk = c.args.self.now in
    let items = walk.stack.items in
    let last = c.len-last.result - 1 in
    let block = c.index.result.now in
    let many : length items ≡ suc last = first_of (omega arith, search rules, grind (arith, common_steps)) in
    let none : length walk.ends.items ≤ last_outside 0 items = first_of (omega (arith, c.requires.innermost), grind (arith, common_steps)) in
    let inner = innermost_at walk last block c.requires.walk.nested none many c.index.ensures in
    block_goes c.args.table.now c.args.heap.now walk _ (take last items) block c.end_of.result c.requires.walk inner (omega arith) c.end_of.ensures
    c.requires.none c.truncate.ensures.items refl refl refl

pub value_at-v-requires-clause-valid : goal.value_at-v-requires-clause-valid
value_at-v-requires-clause-valid c =
    let walk = c.args.self.now in
    let items = walk.stack.items in
    let last = c.len-last.result - 1 in
    let block = c.index.result.now in
    let many : length items ≡ suc last = first_of (omega arith, search rules, grind (arith, common_steps)) in
    let none : length walk.ends.items ≤ last_outside 0 items = first_of (omega (arith, c.requires.innermost), grind (arith, common_steps)) in
    let inner = innermost_at walk last block c.requires.walk.nested none many c.index.ensures in
    let both = block_open c.args.table.now c.args.heap.now walk (take last items) block c.requires.walk inner.blocks in
    both.1.valid

pub value_at-v-requires-clause-inside : goal.value_at-v-requires-clause-inside
value_at-v-requires-clause-inside c =
    let walk = c.args.self.now in
    let items = walk.stack.items in
    let last = c.len-last.result - 1 in
    let block = c.index.result.now in
    let many : length items ≡ suc last = first_of (omega arith, search rules, grind (arith, common_steps)) in
    let none : length walk.ends.items ≤ last_outside 0 items = first_of (omega (arith, c.requires.innermost), grind (arith, common_steps)) in
    let inner = innermost_at walk last block c.requires.walk.nested none many c.index.ensures in
    let both = block_open c.args.table.now c.args.heap.now walk (take last items) block c.requires.walk inner.blocks in
    omega (arith, words_many c.args.table.now c.args.heap.now block both.1, (both.1.parts block.next c.get-i.result.0 c.get-i.result.1 c.get-i.ensures).there)

pub returns : goal.returns
returns c =
    let table = c.args.table.now in
    let graph = c.args.heap.now in
    let walk = c.args.self.now in
    let items = walk.stack.items in
    let last = c.len-last.result - 1 in
    let block = c.index.result.now in
    let many : length items ≡ suc last = first_of (omega arith, search rules, grind (arith, common_steps)) in
    let none : length walk.ends.items ≤ last_outside 0 items = first_of (omega (arith, c.requires.innermost), grind (arith, common_steps)) in
    let inner = innermost_at walk last block c.requires.walk.nested none many c.index.ensures in
    let both = block_open table graph walk (take last items) block c.requires.walk inner.blocks in
    let passed = c.in_ok-pass_part.ensures in
    part_goes table graph walk _ (take last items) block c.get-i.result.0 c.get-i.result.1 c.value_at-v.result c.last_end-end.result c.requires.walk inner
    c.value_at-v.ensures.valid
    (record {
      value = refl;
      blocks = passed.blocks (take last items) block inner.blocks;
      ends = passed.ends;
      marks = passed.marks;
      order = passed.order;
      need = c.get-i.ensures;
      part = word_is_field table graph block c.get-i.result.0 c.value_at-v.result c.requires.walk.is_graph both.1
          (both.1.parts block.next c.get-i.result.0 c.get-i.result.1 c.get-i.ensures).there c.value_at-v.ensures.valid c.value_at-v.ensures.word;
      last = c.last_end-end.ensures;
    })
