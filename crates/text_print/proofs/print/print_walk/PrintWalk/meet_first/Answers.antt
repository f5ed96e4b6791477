use Rattle.std.proofs.Common.{◌≡◌, ◌∙◌, ap, refl, length, true, arith, rules}
use Rattle.std.proofs.lemmas.Grind.{common_steps}
use Rattle.std.specs.Vec.{with_item}
use Rattle.marshal_heap.specs.heap.Heap.{kind_of}
use Rattle.text_print.proofs.print.PrintWalkLemmas.{leaf_goes, opening_goes}
use Rattle.text_print.proofs.print.print_walk.PrintWalk.meet_first.Goals as goal

pub returns-in_default-clause-goes : goal.returns-in_default-clause-goes
returns-in_default-clause-goes c =
    leaf_goes c.args.table.now c.args.placed.now.heap.now c.args.self.now _ c.args.placed.now.object c.args.at c.requires.walk c.args.placed.now.there c.requires.typed.number c.requires.unmet
    (record { value = c.requires.none; blocks = refl; ends = refl; marks = refl; order = c.in_ok-push.ensures })
    (λ tag values is. c.in_default.not-Block tag (length values) (c.kind.ensures.kind ∙ ap kind_of is)) c.requires.asked

pub returns-clause-goes : goal.returns-clause-goes
returns-clause-goes c =
    let block = c.open_block-block in
    let outside : block.result.outside ≡ length c.args.self.now.ends.items = first_of (search rules, grind (arith, common_steps)) in
    opening_goes c.args.table.now c.args.placed.now.heap.now c.args.self.now
    (record { value = c.args.self.now.value; stack = c.args.self.now.stack; ends = c.args.self.now.ends; marks = with_item c.args.self.now.marks c.args.placed.now.object true; order = c.push.new.self })
    _ block.result c.args.placed.now.object c.args.at c.in-Block.tag c.requires.walk c.args.placed.now.there c.requires.unmet
    (record { value = c.requires.none; blocks = refl; ends = refl; marks = refl; order = c.in_ok-push.ensures })
    c.in-Block.ensures.object.0
    (record { object = block.ensures.object; frame = block.ensures.frame; needs = block.ensures.needs; next = block.ensures.next; outside = outside; is_open = block.ensures.open })
    c.requires.none refl refl c.in_ok-push-2.ensures.items refl c.requires.asked
