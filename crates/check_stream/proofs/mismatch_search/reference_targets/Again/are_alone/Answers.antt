use Rattle.std.proofs.Common.{take_all, subst}
use Rattle.std.specs.Prelude.{All}
use Rattle.std.proofs.lemmas.List.Elements.{All-more}
use Rattle.check_stream.proofs.checker.Weaker.{if_true}
use Rattle.check_stream.specs.declared.mismatch_search.way.Link.{Link}
use Rattle.check_stream.specs.mismatch_search.Find.{IsAlone}
use Rattle.check_stream.proofs.mismatch_search.reference_targets.Again.are_alone.Goals as goal

pub links-preserved : goal.links-preserved
links-preserved c =
    let none : Link = record { object = 0; field = 0 } in
    All-more (IsAlone c.args.self.now.marks.items) c.args.links.now c.links.link-index none c.links-test.true c.links.invariant (if_true c.is_clear.result c.if-not-is_clear.false c.is_clear.ensures)

pub returns : goal.returns
returns c = subst (All (IsAlone c.args.self.now.marks.items)) (take_all c.links.link-index c.args.links.now c.links-test.false) c.links.invariant
