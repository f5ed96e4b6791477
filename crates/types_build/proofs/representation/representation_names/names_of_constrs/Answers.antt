use Rattle.std.proofs.Common.{◌∙◌, ap, refl}
use Rattle.std.specs.Global.{Vec}
use Rattle.std.proofs.lemmas.Option.{slice_get_read}
use Rattle.types_spec.specs.declared.types.names.ConstrNames.{ConstrNames}
use Rattle.types_spec.specs.types.Names.{constr_names}
use Rattle.types_build.proofs.representation.RepresentationLoopLemmas.{filtered_more, filtered_same}
use Rattle.types_build.proofs.representation.representation_names.names_of_constrs.Goals as goal
use Rattle.types_build.proofs.representation.representation_names.names_of_constrs.Goals.{in-Some+in_ok-push, in_default}

pub loop-constructor-preserved : goal.loop-constructor-preserved
loop-constructor-preserved c =
    let at = slice_get_read _ _ _ _ refl c.loop-constructor-test.true c.constructor-item.is in
    elim c.match-branch-2.branch [
      | in-Some+in_ok-push w ↦ ap (λ (v : Vec ConstrNames). v.items) w.names-is ∙ w.in_ok-push.ensures.items
          ∙ filtered_more c.args.constructors.now c.loop-constructor.constructor-index _ at constr_names _ c.loop-constructor.invariant _ c.in_ok-found.ensures _ w.in-Some.is
      | in_default w ↦ ap (λ (v : Vec ConstrNames). v.items) w.names-is
          ∙ filtered_same c.args.constructors.now c.loop-constructor.constructor-index _ at constr_names _ c.loop-constructor.invariant _ c.in_ok-found.ensures w.in_default.not-Some
    ]
