use Rattle.std.proofs.lemmas.Result.{IfOk-weaker}
use Rattle.types_build.proofs.builder.type_entry.placed_entry.Goals as goal

pub returns : goal.returns
returns c =
    IfOk-weaker c.placed.result _ _ (λ entry is. is c.args.decls.now c.in_ok-names.ensures) c.placed.ensures
