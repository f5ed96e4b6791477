use Rattle.std.proofs.Common.{◌∷◌, [], take, subst}
use Rattle.std.specs.Prelude.{flat_map, slice_index}
use Rattle.marshal_spec.specs.format.Canonical.{double_bytes}
use Rattle.marshal_heap.specs.heap.Heap.{object_at, bytes_of, doubles_of}
use Rattle.marshal_write.specs.write.WriteBuffer.{Adds, AddsPart}
use Rattle.marshal_write.proofs.write.WriterTextLemmas.{adds_then, adds_part_of, adds_if_failed, string_text, double_text, doubles_text}
use Rattle.marshal_write.proofs.write.token_encoding.add_leaf.Goals as goal

pub returns-in_err-add_prefix-in-Bytes-clause-adds : goal.returns-in_err-add_prefix-in-Bytes-clause-adds
returns-in_err-add_prefix-in-Bytes-clause-adds g c =
    let o = object_at c.args.heap.now c.args.k in
    let r = c.encode_string_len.result in
    let old = g.K.Sink.state c.args.out.now in
    let new = g.K.Sink.state c.add_prefix.new.out in
    adds_if_failed old new _ _ _ c.from_residual.result c.from_residual.ensures.0
    (subst (AddsPart old new c.args.buffer.now.items)
    (string_text o (bytes_of o) (take r.1 r.0) c.in-Bytes.n c.in-Bytes.ensures.object.0 c.in-Bytes.ensures.object.1 c.encode_string_len.ensures.encoded)
    (adds_part_of old new c.args.buffer.now.items (take r.1 r.0) (bytes_of o) c.in_err-add_prefix-in-Bytes.ensures.adds))

pub returns-in_ok-add_prefix-in-Bytes-clause-adds : goal.returns-in_ok-add_prefix-in-Bytes-clause-adds
returns-in_ok-add_prefix-in-Bytes-clause-adds g c =
    let o = object_at c.args.heap.now c.args.k in
    let r = c.encode_string_len.result in
    let old = g.K.Sink.state c.args.out.now in
    let new = g.K.Sink.state c.add_bytes.new.out in
    subst (λ t. Adds old new c.args.buffer.now.items c.add_bytes.new.buffer.items t c.add_bytes.result)
    (string_text o (bytes_of o) (take r.1 r.0) c.in-Bytes.n c.in-Bytes.ensures.object.0 c.in-Bytes.ensures.object.1 c.encode_string_len.ensures.encoded)
    (adds_then old (g.K.Sink.state c.add_prefix.new.out) new c.args.buffer.now.items c.add_prefix.new.buffer.items c.add_bytes.new.buffer.items (take r.1 r.0) (bytes_of o) c.add_bytes.result
    c.in_ok-add_prefix-in-Bytes.ensures.adds c.add_bytes.ensures.adds)

pub returns-in_err-add-in-Double-clause-adds : goal.returns-in_err-add-in-Double-clause-adds
returns-in_err-add-in-Double-clause-adds g c =
    let o = object_at c.args.heap.now c.args.k in
    let old = g.K.Sink.state c.args.out.now in
    let new = g.K.Sink.state c.add.new.out in
    adds_if_failed old new _ _ _ c.from_residual-in_err-add-in-Double.result c.from_residual-in_err-add-in-Double.ensures.0
    (subst (AddsPart old new c.args.buffer.now.items) (double_text o (slice_index (doubles_of o) 0) c.in-Double.ensures.object)
    (adds_part_of old new c.args.buffer.now.items (0x0c ∷ []) (flat_map double_bytes (doubles_of o)) c.in_err-add-in-Double.ensures.adds))

pub returns-in_ok-add-in-Double-clause-adds : goal.returns-in_ok-add-in-Double-clause-adds
returns-in_ok-add-in-Double-clause-adds g c =
    let o = object_at c.args.heap.now c.args.k in
    let old = g.K.Sink.state c.args.out.now in
    let new = g.K.Sink.state c.add_doubles.new.out in
    subst (λ t. Adds old new c.args.buffer.now.items c.add_doubles.new.buffer.items t c.add_doubles.result) (double_text o (slice_index (doubles_of o) 0) c.in-Double.ensures.object)
    (adds_then old (g.K.Sink.state c.add.new.out) new c.args.buffer.now.items c.add.new.buffer.items c.add_doubles.new.buffer.items (0x0c ∷ []) (flat_map double_bytes (doubles_of o)) c.add_doubles.result
    c.in_ok-add-in-Double.ensures.adds c.add_doubles.ensures.adds)

pub returns-in_err-add_prefix-in-Doubles-clause-adds : goal.returns-in_err-add_prefix-in-Doubles-clause-adds
returns-in_err-add_prefix-in-Doubles-clause-adds g c =
    let o = object_at c.args.heap.now c.args.k in
    let r = c.encode_double_array_len.result in
    let old = g.K.Sink.state c.args.out.now in
    let new = g.K.Sink.state c.add_prefix-in-Doubles.new.out in
    adds_if_failed old new _ _ _ c.from_residual-in_err-add_prefix-in-Doubles.result c.from_residual-in_err-add_prefix-in-Doubles.ensures.0
    (subst (AddsPart old new c.args.buffer.now.items)
    (doubles_text o (doubles_of o) (take r.1 r.0) c.in-Doubles.n c.in-Doubles.ensures.object.0 c.in-Doubles.ensures.object.1 c.encode_double_array_len.ensures.encoded)
    (adds_part_of old new c.args.buffer.now.items (take r.1 r.0) (flat_map double_bytes (doubles_of o)) c.in_err-add_prefix-in-Doubles.ensures.adds))

pub returns-in_ok-add_prefix-in-Doubles-clause-adds : goal.returns-in_ok-add_prefix-in-Doubles-clause-adds
returns-in_ok-add_prefix-in-Doubles-clause-adds g c =
    let o = object_at c.args.heap.now c.args.k in
    let r = c.encode_double_array_len.result in
    let old = g.K.Sink.state c.args.out.now in
    let new = g.K.Sink.state c.add_doubles-in-Doubles.new.out in
    subst (λ t. Adds old new c.args.buffer.now.items c.add_doubles-in-Doubles.new.buffer.items t c.add_doubles-in-Doubles.result)
    (doubles_text o (doubles_of o) (take r.1 r.0) c.in-Doubles.n c.in-Doubles.ensures.object.0 c.in-Doubles.ensures.object.1 c.encode_double_array_len.ensures.encoded)
    (adds_then old (g.K.Sink.state c.add_prefix-in-Doubles.new.out) new c.args.buffer.now.items c.add_prefix-in-Doubles.new.buffer.items c.add_doubles-in-Doubles.new.buffer.items (take r.1 r.0) (flat_map double_bytes (doubles_of o)) c.add_doubles-in-Doubles.result
    c.in_ok-add_prefix-in-Doubles.ensures.adds c.add_doubles-in-Doubles.ensures.adds)
