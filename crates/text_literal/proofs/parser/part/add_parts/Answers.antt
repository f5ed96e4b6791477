use Rattle.std.proofs.Common.{rules, w64, sym, ap, ◌∙◌}
use Rattle.std.proofs.Math.Facts.{to_z-of_z}
use mir.Val.{SFits}
use Rattle.std.specs.Prelude.{◌+◌, ◌≡◌, pos, [], ◌∷◌, ◌++◌, replicate}
use Rattle.base_data.specs.declared.model.value.Obj.TheVariants as objects
use Rattle.base_data.specs.declared.model.value.Val.TheVariants as vals
use Rattle.marshal_heap.specs.heap.Heap.{set_field}
use Rattle.marshal_heap.proofs.heap.HeapFieldLemmas.{set_field_at}
use Rattle.text_literal.specs.parser.Openings.{prefix_of}
use Rattle.text_literal.proofs.parser.LiteralParserStartLemmas.{first_set}
use Rattle.text_literal.proofs.parser.part.add_parts.Goals as goal

pub returns-in_ok-o-in-Some-clause-block : goal.returns-in_ok-o-in-Some-clause-block
returns-in_ok-o-in-Some-clause-block c =
    let old = c.args.heap.now in
    let o = c.in_ok-o-in-Some.o in
    let v = vals.Int c.in-Some.hash in
    let zeros = replicate (c.args.parts + 1) (vals.Int (pos 0)) in
    let fits : SFits w64 c.in-Some.hash = search rules in
    let write : c.set.new.self ≡ set_field c.add_block.new.self o 0 v = simp to_z-of_z at c.set.ensures in (
      c.in_ok-o-in-Some.ensures.0,
      write
          ∙ ap (λ g. set_field g o 0 v) c.in_ok-o-in-Some.ensures.1
          ∙ set_field_at old c.args.tag zeros o 0 v (sym c.in_ok-o-in-Some.ensures.0)
          ∙ ap (λ values. old ++ objects.Block c.args.tag values ∷ []) (first_set c.args.parts (vals.Int (pos 0)) v)
          ∙ ap (λ hash. old ++ objects.Block c.args.tag (prefix_of hash ++ replicate c.args.parts (vals.Int (pos 0))) ∷ []) (sym c.in-Some.is),
    )
