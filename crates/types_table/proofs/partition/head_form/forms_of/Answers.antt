use Rattle.types_table.specs.partition.Form.{IsForm}
use Rattle.types_table.proofs.partition.FormLemmas.{forms_grown, AllZip-next}
use Rattle.types_table.proofs.partition.head_form.forms_of.Goals as goal

pub loop-head-preserved : goal.loop-head-preserved
loop-head-preserved c =
    let held = c.loop-head.invariant in record {
      distinct = c.in_ok-form.ensures.distinct;
      are = AllZip-next (IsForm c.form_of.new.names) c.args.all.now c.loop-head.head-index c.loop-head.forms _
          c.head-item.result _ c.loop-head-test.true (forms_grown c.in_ok-form.ensures.grown _ _ held.are) c.head-item.is
          c.in_ok-form.ensures.form c.in_ok-push.ensures.ok;
    }
