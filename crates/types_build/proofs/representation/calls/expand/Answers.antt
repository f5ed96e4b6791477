use Rattle.std.proofs.Common.{subst}
use Rattle.std.proofs.lemmas.Result.{IfOk-weaker}
use Rattle.std.proofs.lemmas.Option.{get_or_from_slice_get}
use Rattle.types_spec.specs.types.Ty.{Ty, tuple}
use Rattle.types_spec.specs.types.TypeNodes.{type_at}
use Rattle.types_spec.specs.types.Declarations.{IsExpanded}
use Rattle.types_build.proofs.representation.calls.expand.Goals as goal

pub returns : goal.returns
returns c =
    let of = get_or_from_slice_get c.add.new.self c.in_ok-number.number c.args.t.now tuple c.in_ok-number.ensures.ok.there in
    let there = subst (λ (t : Ty). IsExpanded c.args.decls.now t (type_at c.expanded.new.types c.in_ok-end.end)) of c.in_ok-end.ensures.expanded in
    IfOk-weaker c.tree.result _ _ (λ u is. rw is there) c.tree.ensures
