use Rattle.std.proofs.Common.{List, refl, sym, ap, subst, arith, reverse}
use Rattle.types_spec.specs.types.Ty.{Ty}
use Rattle.types_spec.specs.types.TypeNodes.{type_at}
use Rattle.types_spec.specs.types.Head.{head}
use Rattle.types_build.specs.declared.representation.bracket.BracketStep.{BracketStep}
use Rattle.types_build.specs.declared.representation.bracket.BracketStep.TheVariants as steps
use Rattle.types_build.specs.representation.Tags.{items, with_items}
use Rattle.types_build.specs.representation.Work.{work}
use Rattle.types_build.specs.representation.RepresentationSteps.{AreLeft, steps_work}
use Rattle.types_build.proofs.representation.RepresentationGatherLemmas.{push_left, pushed_first, last_work, no_item, no_work}
use Rattle.types_build.proofs.representation.bracket.push_items.Goals as goal

pub loop-whole-init : goal.loop-whole-init
loop-whole-init c = record {
  within = c.args.t.now.there;
  left = λ decls tags all left. left;
  work = λ decls. refl;
}

pub loop-whole-preserved : goal.loop-whole-preserved
loop-whole-preserved c =
    let types = c.args.t.now.types.now in
    let at = c.loop-whole.at in
    let whole = type_at types c.in-Some.whole in
    let before = sym c.in-Some.ensures.is in
    let first = pushed_first c.loop-whole.waiting.items c.push.new.self.items (steps.Item at) c.in_ok-push.ensures.items in
    record {
      within = omega (arith, c.in-Some.ensures.below, c.loop-whole.invariant.within);
      left = λ decls tags all left.
          subst (λ (ss : List BracketStep). AreLeft decls types (with_items (head decls) tags (items whole)) ss all) (sym first)
          (push_left decls types tags all at whole (reverse c.loop-whole.waiting.items) c.loop-whole.invariant.within before
          (c.loop-whole.invariant.left decls tags all left));
      work = λ decls.
          let more = last_work (work decls) (type_at types at) whole before in
          let same = ap (steps_work decls types) first in
          let so_far = c.loop-whole.invariant.work decls in
          omega (arith, more, same, so_far);
    }

pub returns : goal.returns
returns c =
    let types = c.args.t.now.types.now in
    let none = sym c.in_default.ensures.is in
    record {
      left = λ decls tags all left.
          subst (λ (ts : List Ty). AreLeft decls types (with_items (head decls) tags ts) (reverse c.loop-whole.waiting.items) all)
          (no_item (type_at types c.loop-whole.at) none) (c.loop-whole.invariant.left decls tags all left);
      work = λ decls.
          let nothing = no_work (work decls) (type_at types c.loop-whole.at) none in
          let so_far = c.loop-whole.invariant.work decls in
          omega (arith, nothing, so_far);
    }
