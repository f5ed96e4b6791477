use Rattle.std.proofs.Common.{ℕ, List, sym, subst}
use Rattle.std.proofs.lemmas.List.Elements.{All-push}
use Rattle.types_spec.specs.types.TypeNodes.{type_at}
use Rattle.types_build.specs.representation.Tags.{tags_at, tags_of_entries}
use Rattle.types_build.specs.representation.RepresentationSteps.{AreEachThere, EachBringsNone}
use Rattle.types_build.proofs.representation.settled_abbreviations.are_there.Goals as goal

pub next-preserved : goal.next-preserved
next-preserved c =
    let decls = c.args.decls.now in
    let types = c.args.t.now.types.now in
    let there = tags_at types (tags_of_entries c.args.tags.now.entries) in
    record {
      within = c.in_ok-is_there.ensures.within;
      there = λ settled are.
          let both = c.in_ok-is_there.ensures.there c.if-not-branch.false settled are in
          c.next.invariant.there settled
          (subst (λ (ns : List ℕ). AreEachThere decls types there ns) (sym c.in-Some.ensures.items)
          (All-push (λ n. EachBringsNone decls there (type_at types n)) c.pop.new.self.items c.in-Some.next both.0 both.1));
    }
