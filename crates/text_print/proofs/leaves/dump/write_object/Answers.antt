use Rattle.std.proofs.Common.{◌≡◌, ◌∙◌, ◌++◌, sym, ap, subst, append_assoc, take}
use Rattle.std.specs.Int.{w64, to_le_bytes}
use Rattle.std.specs.List.{flat_map}
use Rattle.std.specs.Prelude.{OnOk, codes}
use Rattle.marshal_heap.specs.heap.Heap.{object_at, IsOfKind}
use Rattle.text_print.specs.leaves.LeafTexts.{string_text}
use Rattle.text_print.specs.leaves.DumpedObjects.{text_of_kind}
use Rattle.text_print.proofs.leaves.LeafStringLemmas.{string_body}
use Rattle.text_print.proofs.leaves.dump.write_object.Goals as goal

pub write_string_of-requires : goal.write_string_of-requires
write_string_of-requires c =
    let object = object_at c.args.placed.now.heap.now c.args.placed.now.object in
    let of = subst (λ kind. IsOfKind kind object) c.in-Bytes.is c.requires.kind in
    (string_body c.args.placed.now.heap.now object _ c.body_at.result.now c.in-Bytes.len (c.body_at.ensures.valid c.args.placed.now.object c.args.placed.now.there c.word.ensures) of.0 (c.body_at.ensures.words c.args.placed.now.object c.args.placed.now.there c.word.ensures) of.1).reach

pub returns-in_ok-write-in-Bytes : goal.returns-in_ok-write-in-Bytes
returns-in_ok-write-in-Bytes c =
    let object = object_at c.args.placed.now.heap.now c.args.placed.now.object in
    let of = subst (λ kind. IsOfKind kind object) c.in-Bytes.is c.requires.kind in
    let body = string_body c.args.placed.now.heap.now object _ c.body_at.result.now c.in-Bytes.len (c.body_at.ensures.valid c.args.placed.now.object c.args.placed.now.there c.word.ensures) of.0 (c.body_at.ensures.words c.args.placed.now.object c.args.placed.now.there c.word.ensures) of.1 in
    let old = c.args.text.now.items in
    let write = take c.in-Bytes.len (flat_map (to_le_bytes w64) c.body_at.result.now) in
    subst (λ t. OnOk c.write_string_of.result (c.write_string_of.new.text.items ≡ t))
    (ap (λ t. t ++ string_text write) c.in_ok-write-in-Bytes.ensures
    ∙ append_assoc old (codes " string ") (string_text write)
    ∙ ap (λ bytes. old ++ (codes " string " ++ string_text bytes)) body.are
    ∙ ap (λ kind. old ++ text_of_kind kind object) (sym c.in-Bytes.is))
    c.write_string_of.ensures
