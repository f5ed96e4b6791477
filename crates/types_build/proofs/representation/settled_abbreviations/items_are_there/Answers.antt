use Rattle.std.proofs.Common.{◌∙◌, sym, arith}
use Rattle.types_spec.specs.types.TypeNodes.{type_at}
use Rattle.types_build.specs.representation.Tags.{tags_at, tags_of_entries}
use Rattle.types_build.specs.representation.Work.{work}
use Rattle.types_build.proofs.representation.WorkLemmas.{written_least}
use Rattle.types_build.proofs.representation.RepresentationGatherLemmas.{last_work}
use Rattle.types_build.proofs.representation.RepresentationSettledLemmas.{has_same, one_item, no_items, each_bracket}
use Rattle.types_build.proofs.representation.settled_abbreviations.items_are_there.Goals as goal

pub whole-preserved : goal.whole-preserved
whole-preserved c =
    let types = c.args.t.now.types.now in
    let there = tags_at types (tags_of_entries c.args.tags.now.entries) in
    let at = type_at types c.whole.at in
    let whole = type_at types c.in-Some.whole in
    let before = sym c.in-Some.ensures.is in
    record {
      within = omega (arith, c.in-Some.ensures.below, c.whole.invariant.within);
      waiting = c.in_ok-item_is_there.ensures.within;
      same = sym (has_same at whole before) ∙ c.whole.invariant.same;
      there = λ decls are.
          let item = c.in_ok-item_is_there.ensures.there c.if-not-branch.false decls are in
          let so_far = c.whole.invariant.there decls item.0 in
          (so_far.0, λ rest. so_far.1 (one_item decls there at whole before item.1 rest));
      work = λ decls.
          let more = last_work (work decls) at whole before in
          let item = c.in_ok-item_is_there.ensures.less c.if-not-branch.false decls in
          let so_far = c.whole.invariant.work decls in
          omega (arith, more, item, so_far);
    }

pub returns-clause-there : goal.returns-clause-there
returns-clause-there c = λ is decls sound are.
    let types = c.args.t.now.types.now in
    let there = tags_at types (tags_of_entries c.args.tags.now.entries) in
    let has = sym c.has_bracket.ensures ∙ is in
    let so_far = c.whole.invariant.there decls are in (
      so_far.0,
      each_bracket decls there sound (type_at types c.args.t.now.number) (sym c.whole.invariant.same ∙ has)
          (so_far.1 (no_items decls there (type_at types c.whole.at) (sym c.in_default.ensures.is) has)),
    )

pub returns-clause-less : goal.returns-clause-less
returns-clause-less c = λ is decls sound.
    let least = written_least decls sound (type_at c.args.t.now.types.now c.args.t.now.number) in
    let so_far = c.whole.invariant.work decls in
    omega (arith, least, so_far)
