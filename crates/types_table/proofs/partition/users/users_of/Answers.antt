use Rattle.std.proofs.Common.{arith}
use Rattle.std.proofs.lemmas.Option.{slice_get_within}
use Rattle.base_data.proofs.model.Lists.{slice_get-read}
use Rattle.types_table.proofs.partition.PartitionLoopLemmas.{users_more}
use Rattle.types_table.proofs.partition.users.users_of.Goals as goal

pub loop-user-preserved : goal.loop-user-preserved
loop-user-preserved c = users_more c.args.forms.now c.loop-user.user c.index-forms-user.result _ _ c.loop-user.invariant
    (slice_get-read c.args.forms.now c.loop-user.user c.index-forms-user.result c.loop-user-test.true c.index-forms-user.is)
    c.in_ok-add_user.ensures.keeps c.in_ok-add_user.ensures.added

pub returns : goal.returns
returns c = record {
  many = c.loop-user.invariant.many;
  has = λ i k form at_i among below. c.loop-user.invariant.has i k form
      (omega (arith, slice_get_within c.args.forms.now i form at_i)) at_i among below;
}
