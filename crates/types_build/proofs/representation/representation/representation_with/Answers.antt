use Rattle.std.proofs.Common.{subst}
use Rattle.types_spec.specs.declared.types.head.HeadOf.{HeadOf}
use Rattle.types_spec.specs.types.Ty.{Ty}
use Rattle.types_spec.specs.types.Head.{head}
use Rattle.types_spec.specs.types.TypeNodes.{type_at}
use Rattle.types_spec.specs.types.Shape.{head_shape}
use Rattle.types_build.specs.representation.Representation.{IsShapeAt}
use Rattle.types_build.proofs.representation.RepresentationLemmas.{head_found, head_within, head_kept}
use Rattle.types_build.proofs.representation.representation.representation_with.Goals as goal

pub shape_at-requires : goal.shape_at-requires
shape_at-requires c = record { within = head_within _ c.in_ok-head.head _ c.in_ok-head.ensures.ok }

pub returns-clause-ok : goal.returns-clause-ok
returns-clause-ok c =
    let types = c.head_with.new.types in
    let all = head c.args.decls.now (type_at c.args.types.now c.args.number) in
    record {
      head = head_kept types c.in_ok-head.head all c.in_ok-head.ensures.ok c.shape_at.new.types c.in_ok-shape.ensures.grown;
      shape = subst (λ (h : HeadOf Ty). IsShapeAt c.shape_at.new.types (head_shape c.args.decls.now h) c.in_ok-shape.shape)
          (head_found types c.in_ok-head.head all c.in_ok-head.ensures.ok) c.in_ok-shape.ensures.ok;
    }
