use Rattle.std.proofs.Common.{◌≡◌, refl, rules, arith, replicate, length, false}
use Rattle.std.proofs.lemmas.Grind.{common_steps}
use Rattle.text_print.proofs.print.PrintWalkLemmas.{first_walk}
use Rattle.text_print.proofs.print.print_walk.PrintWalk.new.Goals as goal

pub returns-clause-walk : goal.returns-clause-walk
returns-clause-walk c =
    let marks : c.in_ok-vec.field-0.items ≡ replicate (length c.args.value.now.heap.now) false = first_of (search rules, grind (arith, common_steps)) in
    first_walk c.args.table.now c.args.value.now.heap.now _ c.args.value.now.root c.args.at refl c.new.ensures.items c.new-2.ensures.items marks c.new-3.ensures c.count.ensures.heap.is_graph c.args.value.now.value c.requires.typed
