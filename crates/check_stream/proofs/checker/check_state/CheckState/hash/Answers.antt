use Rattle.std.proofs.Common.{rules, ◌≡◌, ◌∙◌, ap, refl, sym, to_z, of_z}
use Rattle.std.specs.Int.{w64}
use Rattle.std.proofs.lemmas.Int.{to_z-of_z}
use Rattle.types_spec.specs.types.Fitting.{tag_with}
use Rattle.types_table.specs.type_table.Made.{table_of}
use Rattle.check_stream.proofs.checker.StateLemmas.{took_hash}
use Rattle.check_stream.proofs.checker.check_state.CheckState.hash.Goals as goal

pub returns-in_ok-open-in-Some-arg : goal.returns-in_ok-open-in-Some-arg
returns-in_ok-open-in-Some-arg c =
    let same : to_z w64 (of_z w64 c.args.z) ≡ c.args.z = to_z-of_z w64 c.args.z (search rules) in
    took_hash (table_of c.args.table.now) c.args.self.now _ c.args.tags.now c.args.z c.in-Some.tag.now c.in-Some-arg.ty (ap (tag_with c.args.tags.now) (sym same) ∙ sym c.in-Some.ensures) c.in-Some-arg.is refl c.in_ok-open-in-Some-arg.ensures refl
