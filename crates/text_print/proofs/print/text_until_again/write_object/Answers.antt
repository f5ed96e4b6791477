use Rattle.std.proofs.Common.{◌≡◌, ◌∙◌, ap, sym, subst, refl, length, true, arith, rules}
use Rattle.std.proofs.lemmas.Grind.{common_steps}
use Rattle.std.specs.Vec.{with_item}
use Rattle.marshal_heap.specs.declared.heap.kind.Kind.TheVariants as kinds
use Rattle.marshal_heap.specs.heap.Heap.{kind_of, object_at}
use Rattle.text_print.specs.leaves.FrameView.{frame_in}
use Rattle.text_print.proofs.leaves.LeafObjectLemmas.{of_kind}
use Rattle.text_print.specs.declared.print.print_walk.PrintStep.TheVariants as steps
use Rattle.text_print.specs.print.PrintWalk.{IsBegun}
use Rattle.text_print.proofs.print.PrintWalkLemmas.{leaf_goes, opening_goes}
use Rattle.text_print.proofs.print.PrintPlainLemmas.{one_text, write_goes}
use Rattle.text_print.proofs.print.text_until_again.write_object.Goals as goal

pub returns-in_default : goal.returns-in_default
returns-in_default c =
    let table = c.args.table.now in
    let graph = c.args.placed.now.heap.now in
    record {
      none = c.requires.none;
      write = write_goes table graph _ c.args.walk.now.order c.args.text.now.items c.write_leaf.new.text.items (steps.Leaf c.args.placed.now.object c.args.at) _
          (leaf_goes table graph c.args.walk.now _ c.args.placed.now.object c.args.at c.requires.walk c.args.placed.now.there c.requires.typed.number c.requires.unmet
          (record { value = c.requires.none; blocks = refl; ends = refl; marks = refl; order = c.in_ok-push.ensures })
          (λ tag values is. c.in_default.not-Block tag (length values) (c.kind_at.ensures c.args.placed.now.object c.args.placed.now.there c.requires.word ∙ ap kind_of is)) c.requires.asked)
          refl
          (one_text c.args.text.now.items c.write_leaf.new.text.items _ c.in_ok-write_leaf.ensures);
    }

pub returns-clause-write : goal.returns-clause-write
returns-clause-write c =
    let table = c.args.table.now in
    let graph = c.args.placed.now.heap.now in
    let walk = c.args.walk.now in
    let opened = c.in_ok-write_block.ensures in
    let outside : c.len-outside.result ≡ length walk.ends.items = first_of (search rules, grind (arith, common_steps)) in
    let begun = subst (λ n. IsBegun table graph c.args.placed.now.object c.args.at c.in-Block.tag n opened.block) outside opened.begun in
    let of = of_kind (kinds.Block c.in-Block.tag c.in-Block.field-1) (object_at graph c.args.placed.now.object) (sym c.in-Block.is ∙ c.kind_at.ensures c.args.placed.now.object c.args.placed.now.there c.requires.word) in
    write_goes table graph _ walk.order c.args.text.now.items c.write_block.new.text.items (steps.Opening c.args.placed.now.object opened.block.frame) _
    (opening_goes table graph walk (record { value = walk.value; stack = walk.stack; ends = walk.ends; marks = with_item walk.marks c.args.placed.now.object true; order = c.push.new.self })
    _ opened.block c.args.placed.now.object c.args.at c.in-Block.tag c.requires.walk c.args.placed.now.there c.requires.unmet
    (record { value = c.requires.none; blocks = refl; ends = refl; marks = refl; order = c.in_ok-push.ensures })
    of.0 begun c.requires.none refl refl opened.stack refl c.requires.asked)
    refl
    (one_text c.args.text.now.items c.write_block.new.text.items (frame_in opened.block.frame).opening opened.write)

pub write_leaf-requires-clause-step : goal.write_leaf-requires-clause-step
write_leaf-requires-clause-step c = (c.args.placed.now.there, c.requires.typed.number)
