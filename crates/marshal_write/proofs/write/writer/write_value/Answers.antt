use Rattle.std.proofs.Common.{◌++◌, ◌∙◌, take, ap, sym, subst}
use Rattle.std.proofs.lemmas.Result.{MatchResult-from_err}
use Rattle.marshal_spec.specs.format.Canonical.{header_encoding, data_encoding}
use Rattle.marshal_spec.specs.format.Tree.{tokens}
use Rattle.marshal_codec.specs.headers.Encoding.{FitsSmall}
use Rattle.marshal_spec.proofs.canonical.Walk.{has_one_tree}
use Rattle.marshal_write.specs.write.WriteBuffer.{AddsPart}
use Rattle.marshal_write.proofs.write.WriterSumLemmas.{canonical_fits}
use Rattle.marshal_write.proofs.write.WriterTextLemmas.{adds_part_of, adds_then_part, part_written, canon_is, whole_written}
use Rattle.marshal_write.proofs.write.writer.write_value.Goals as goal

pub encode-len-requires : goal.encode-len-requires
encode-len-requires g c =
    let t = has_one_tree c.args.heap.now c.args.walk.now.root c.requires.walk.heap.is_graph c.requires.walk.value in
    subst FitsSmall (sym (c.requires.head t.tree t.is)) (canonical_fits (tokens t.tree))

pub returns-in_err-add : goal.returns-in_err-add
returns-in_err-add g c = λ tree is_of.
    let r = c.encode-len.result in
    let old = g.K.Sink.state c.args.out.now in
    let new = g.K.Sink.state c.add.new.out in
    let is = ap (λ t. t ++ data_encoding (tokens tree)) (c.encode-len.ensures.encoded ∙ ap header_encoding (c.requires.head tree is_of)) ∙ canon_is tree in
    MatchResult-from_err c.from_residual.result _ _ c.from_residual.ensures.0 (λ _.
    part_written old new c.args.buffer.now.items _ c.requires.empty (subst (AddsPart old new c.args.buffer.now.items) is
    (adds_part_of old new c.args.buffer.now.items (take r.1 r.0) (data_encoding (tokens tree)) c.in_err-add.ensures.adds)))

pub returns-in_err-add_tokens : goal.returns-in_err-add_tokens
returns-in_err-add_tokens g c = λ tree is_of.
    let r = c.encode-len.result in
    let old = g.K.Sink.state c.args.out.now in
    let new = g.K.Sink.state c.add_tokens.new.out in
    let is = ap (λ t. t ++ data_encoding (tokens tree)) (c.encode-len.ensures.encoded ∙ ap header_encoding (c.requires.head tree is_of)) ∙ canon_is tree in
    MatchResult-from_err c.from_residual-in_err-add_tokens.result _ _ c.from_residual-in_err-add_tokens.ensures.0 (λ _.
    part_written old new c.args.buffer.now.items _ c.requires.empty (subst (AddsPart old new c.args.buffer.now.items) is
    (adds_then_part old (g.K.Sink.state c.add.new.out) new c.args.buffer.now.items c.add.new.buffer.items (take r.1 r.0) (data_encoding (tokens tree)) c.in_ok-add.ensures.adds (c.in_err-add_tokens.ensures.adds tree is_of))))

pub returns : goal.returns
returns g c = λ tree is_of.
    let r = c.encode-len.result in
    let is = ap (λ t. t ++ data_encoding (tokens tree)) (c.encode-len.ensures.encoded ∙ ap header_encoding (c.requires.head tree is_of)) ∙ canon_is tree in
    whole_written (g.K.Sink.state c.args.out.now) (g.K.Sink.state c.add.new.out) (g.K.Sink.state c.add_tokens.new.out) (g.K.Sink.state c.flush.new.out)
    c.args.buffer.now.items c.add.new.buffer.items c.add_tokens.new.buffer.items c.flush.new.buffer.items (take r.1 r.0) (data_encoding (tokens tree)) _ c.flush.result
    c.requires.empty c.in_ok-add.ensures.adds (c.in_ok-add_tokens.ensures.adds tree is_of) c.flush.ensures.adds c.flush.ensures.empty is
