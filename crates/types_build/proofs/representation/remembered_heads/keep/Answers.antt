use Rattle.std.proofs.Common.{◌∙◌, ap}
use Rattle.std.proofs.lemmas.Option.{get_or_from_slice_get}
use Rattle.types_spec.specs.types.TypeNodes.{type_at}
use Rattle.types_spec.specs.types.Ty.{Ty, bracket, tuple, including}
use Rattle.types_build.proofs.representation.HeadsLemmas.{alone_head}
use Rattle.types_build.proofs.representation.remembered_heads.keep.Goals as goal

pub remember-requires-clause-tags : goal.remember-requires-clause-tags
remember-requires-clause-tags c =
    let types = c.args.types.now in
    let included = type_at types c.in-Including.included in
    alone_head c.args.decls.now c.holds.ensures types included (type_at types c.args.number) c.args.head.now
    (get_or_from_slice_get types c.args.number _ tuple c.in-Including.ensures.is
    ∙ ap (λ (w : Ty). including w included) (get_or_from_slice_get types c.in-Including.whole bracket tuple c.in-Bracket.ensures.is))
    c.requires.head
