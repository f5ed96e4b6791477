use Rattle.std.proofs.Common.{List, subst}
use Rattle.std.specs.Prelude.{IfOk, IfErr}
use Rattle.types_spec.specs.declared.types.decl.Decl.{Decl}
use Rattle.types_build.specs.builder.TypeFaults.{IsTypeFault}
use Rattle.types_build.specs.builder.Listed.{IsWhole}
use Rattle.types_build.proofs.builder.reached_types.listed.Goals as goal

pub returns-clause-ok : goal.returns-clause-ok
returns-clause-ok c =
    subst (λ (ds : List Decl). IfOk c.listed_by.result (IsWhole ds c.args.ty.now))
    c.in_ok-environment.ensures c.listed_by.ensures.ok

pub returns-clause-err : goal.returns-clause-err
returns-clause-err c =
    subst (λ (ds : List Decl). IfErr c.listed_by.result (IsTypeFault ds c.args.ty.now))
    c.in_ok-environment.ensures c.listed_by.ensures.err
