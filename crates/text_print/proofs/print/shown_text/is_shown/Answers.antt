use Rattle.std.proofs.Common.{ℕ, List, ◌≡◌, ◌∙◌, [], ◌++◌, true, sym, ap, arith, rules}
use Rattle.std.proofs.lemmas.Grind.{common_steps}
use Rattle.text_print.specs.print.PrintLevels.{levels_of}
use Rattle.text_print.proofs.print.PrintLabelLemmas.{none_next}
use Rattle.text_print.proofs.print.PrintLeftLemmas.{none_left}
use Rattle.text_print.proofs.print.PrintLevelLemmas.{no_levels}
use Rattle.text_print.proofs.print.PrintPlainLemmas.{known_start, known_more, known_whole}
use Rattle.text_print.specs.show.ShownValues.{shown_text}
use Rattle.text_print.proofs.print.shown_text.is_shown.Goals as goal

pub write_some-requires : goal.write_some-requires
write_some-requires c = record { walk = c.chunk.invariant.0.write.walk }

pub chunk-init : goal.chunk-init
chunk-init c =
    let walk = c.in_ok-walk.walk in
    let are = c.in_ok-walk.ensures in
    (known_start c.args.table.now c.args.value.now.heap.now walk c.args.value.now.root c.args.at c.args.text.now are.walk are.value are.blocks are.ends are.order, c.new-few.ensures.items)

pub chunk-preserved : goal.chunk-preserved
chunk-preserved c =
    let more = c.in-Some.more.now in
    let few = c.write_some.new.text.items in (
      known_more c.args.table.now c.args.value.now.heap.now c.chunk.walk c.write_some.new.walk c.args.value.now.root c.args.at c.args.text.now c.chunk.rest.now more c.chunk.few.items few
          c.chunk.invariant.0 c.chunk.invariant.1 c.in_ok-fresh.ensures.write (c.in-Some.ensures ∙ ap (λ (bs : List ℕ). bs ++ more) c.as_slice.ensures.value),
      c.clear.ensures.items,
    )

pub returns-then-has_none : goal.returns-then-has_none
unfolding shown_text
returns-then-has_none c same =
    let table = c.args.table.now in
    let graph = c.args.value.now.heap.now in
    let walk = c.write_some.new.walk in
    let more = c.in-Some.more.now in
    let few = c.write_some.new.text.items in
    let known = known_more table graph c.chunk.walk walk c.args.value.now.root c.args.at c.args.text.now c.chunk.rest.now more c.chunk.few.items few
    c.chunk.invariant.0 c.chunk.invariant.1 c.in_ok-fresh.ensures.write (c.in-Some.ensures ∙ ap (λ (bs : List ℕ). bs ++ more) c.as_slice.ensures.value) in
    let fresh : c.in_ok-fresh.fresh ≡ true = first_of (search rules, grind (arith, common_steps)) in
    let nothing : more ≡ [] = first_of (search rules, grind (arith, common_steps)) in
    let levels = no_levels walk (c.has_none.ensures.none c.if-has_none.true) (c.has_none.ensures.no_end c.if-has_none.true) in
    let none = sym (none_next table graph walk (c.in_ok-fresh.ensures.none fresh)) ∙ none_left table graph (levels_of walk) walk.order levels in
    known_whole table graph walk c.args.value.now.root c.args.at c.args.text.now more known none nothing
