use Rattle.std.proofs.Common.{◌∙◌, Some, refl, ap}
use Rattle.types_table.specs.partition.Form.{IsTagForm}
use Rattle.types_table.proofs.store.StoreHeldLemmas.{Grows-then}
use Rattle.types_table.proofs.partition.FormLemmas.{adds_grows, tag_forms_grown, AllZip-next}
use Rattle.types_table.proofs.partition.head_form.tag_forms.Goals as goal

pub loop-tag-preserved : goal.loop-tag-preserved
loop-tag-preserved c =
    let held = c.loop-tag.invariant in
    let more = adds_grows c.in_ok-name.ensures.ok in record {
      grown = Grows-then _ _ _ held.grown more;
      distinct = c.in_ok-name.ensures.distinct;
      are = AllZip-next (IsTagForm c.number.new.self) c.args.tags.now c.loop-tag.tag-index c.loop-tag.forms.items _
          c.tag-item.result _ c.loop-tag-test.true (tag_forms_grown more _ _ held.are) c.tag-item.is
          (record { name = c.in_ok-name.ensures.ok.there ∙ ap (λ n. Some n) c.as_slice.ensures; argument = refl }) c.in_ok-push.ensures.items;
    }
