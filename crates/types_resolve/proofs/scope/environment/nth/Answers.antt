use Rattle.std.proofs.Common.{length, refl}
use Rattle.std.proofs.lemmas.Option.{slice_get_read}
use Rattle.types_resolve.proofs.scope.environment.nth.Goals as goal

pub returns : goal.returns
returns c =
    slice_get_read c.args.decls.now (length c.args.decls.now) c.args.position c.index-decls-position.result refl c.requires
    c.index-decls-position.is
