use Rattle.std.proofs.Common.{rules, ◌∙◌, ◌+◌, ◌≤◌, length}
use Rattle.base_data.proofs.model.Numbers.{are_bytes}
use Rattle.marshal_write.proofs.canonical_check.CanonicalLemmas.{string_first}
use Rattle.marshal_write.proofs.canonical_check.encoded_prefixes.string_len.Goals as goal

pub returns : goal.returns
returns c =
    let n = c.encode_string_len-n.result.1 in
    let bytes = c.args.bytes.now in
    let same = c.if-not-begins.ensures.1 in
    let room : n + c.args.len ≤ length bytes = search rules in
    string_first n c.args.len bytes (are_bytes bytes c.type_inv.bytes) room (search rules) (same ∙ c.encode_string_len-n.ensures.encoded)
