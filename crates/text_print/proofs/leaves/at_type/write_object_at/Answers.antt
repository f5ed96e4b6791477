use Rattle.std.proofs.Common.{◌≡◌, ◌∙◌, ◌++◌, sym, ap, subst}
use Rattle.std.specs.Prelude.{OnOk}
use Rattle.marshal_heap.specs.declared.heap.kind.Kind.TheVariants as kinds
use Rattle.marshal_heap.specs.heap.Heap.{object_at}
use Rattle.text_print.specs.leaves.LeafTexts.{string_text}
use Rattle.text_print.specs.leaves.Frames.{object_text}
use Rattle.text_print.proofs.leaves.LeafStringLemmas.{string_body}
use Rattle.text_print.proofs.leaves.LeafObjectLemmas.{of_kind}
use Rattle.text_print.proofs.leaves.at_type.write_object_at.Goals as goal

pub write_string_of-requires : goal.write_string_of-requires
write_string_of-requires c =
    let k = c.requires.0 in
    let inside = c.requires.1 in
    let word = c.requires.2 in
    let of = of_kind (kinds.Bytes c.in-Bytes.len) (object_at c.args.heap.now k) (sym c.in-Bytes.is ∙ c.kind_at.ensures k inside word) in
    (string_body c.args.heap.now (object_at c.args.heap.now k) _ c.body_at.result.now c.in-Bytes.len (c.body_at.ensures.valid k inside word) of.0 (c.body_at.ensures.words k inside word) of.1).reach

pub returns-in-Bytes : goal.returns-in-Bytes
returns-in-Bytes c k inside word =
    let object = object_at c.args.heap.now k in
    let of = of_kind (kinds.Bytes c.in-Bytes.len) object (sym c.in-Bytes.is ∙ c.kind_at.ensures k inside word) in
    let body = string_body c.args.heap.now object _ c.body_at.result.now c.in-Bytes.len (c.body_at.ensures.valid k inside word) of.0 (c.body_at.ensures.words k inside word) of.1 in
    subst (λ t. OnOk c.write_string_of.result (c.write_string_of.new.text.items ≡ c.args.text.now.items ++ t)) (ap string_text body.are ∙ ap (object_text c.args.shape.now c.args.names.now) (sym of.0)) c.write_string_of.ensures
