use Rattle.std.proofs.lemmas.Option.{MatchOption-at_some}
use Rattle.types_build.proofs.representation.RepresentationFoundLemmas.{found_kept}
use Rattle.types_build.proofs.representation.RepresentationGatherLemmas.{plain_is_head}
use Rattle.types_build.proofs.representation.type_heads.head_with.Goals as goal

pub returns-in-Some-clause-ok : goal.returns-in-Some-clause-ok
returns-in-Some-clause-ok c =
    let is = MatchOption-at_some _ _ c.in-Some.head c.in-Some.is c.in_ok-head.ensures in
    plain_is_head c.args.decls.now c.holds.ensures c.expanded.new.types _ c.in_ok-at.at c.in-Some.head c.in_ok-at.ensures.ok is

pub bracket_head-requires-clause-found : goal.bracket_head-requires-clause-found
bracket_head-requires-clause-found c =
    found_kept c.args.decls.now c.args.types.now c.args.found.now.by_position c.args.found.now.met.now.keys c.args.found.now.heads.now c.expanded.new.types
    c.in_ok-at.ensures.grown c.requires.found
