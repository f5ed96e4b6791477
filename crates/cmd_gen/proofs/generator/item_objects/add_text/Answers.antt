use Rattle.std.proofs.Common.{[], ◌∷◌, ap, arith}
use Rattle.std.proofs.lemmas.List.{take-replicate}
use Rattle.base_data.specs.declared.model.value.Val.TheVariants as vals
use Rattle.base_data.specs.declared.model.value.Obj.TheVariants as objects
use Rattle.cmd_gen.proofs.generator.GeneratorObjectLemmas.{two_more}
use Rattle.cmd_gen.proofs.generator.item_objects.add_text.Goals as goal

pub returns-clause-objects : goal.returns-clause-objects
returns-clause-objects c =
    two_more c.args.heap.now c.add_bytes_of.new.self c.add_one.new.heap _ _ _ _ c.in_ok-of.ensures.1 c.in_ok-add_one.ensures.1
    (ap objects.Bytes (take-replicate c.args.len 40 c.args.byte (omega arith)))
    (ap (λ k. objects.Block 1 (vals.Ref k ∷ [])) c.in_ok-of.ensures.0)
