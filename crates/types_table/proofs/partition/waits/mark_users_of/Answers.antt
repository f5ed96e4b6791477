use Rattle.std.proofs.Common.{ℕ, ◌<◌, length, subst, sym, ◌∙◌}
use Rattle.std.specs.Prelude.{Contains}
use Rattle.std.specs.Global.{Vec}
use Rattle.std.proofs.lemmas.Option.{slice_get_within, same_Some}
use Rattle.base_data.proofs.model.Lists.{slice_get-read}
use Rattle.types_table.proofs.partition.waits.mark_users_of.Goals as goal

pub returns-clause-marked : goal.returns-clause-marked
returns-clause-marked c moved u has =
    let within : c.args.number < length c.args.users.now = slice_get_within c.args.users.now c.args.number has.0 has.1 in
    let there = slice_get-read c.args.users.now c.args.number c.index-users-number.result within c.index-users-number.is in
    c.in_ok-mark_all.ensures.marked u (subst (λ l. Contains l u) (sym c.as_slice.ensures.value)
    (subst (λ (w : Vec ℕ). Contains w.items u) (same_Some has.0 c.index-users-number.result (sym has.1 ∙ there)) has.2))
