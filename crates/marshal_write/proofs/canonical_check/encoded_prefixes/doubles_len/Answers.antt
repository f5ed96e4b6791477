use Rattle.std.proofs.Common.{rules, ◌∙◌, ◌+◌, ◌*◌, ◌≤◌, length}
use Rattle.base_data.proofs.model.Numbers.{are_bytes}
use Rattle.marshal_write.proofs.canonical_check.DoublesLemmas.{doubles_first}
use Rattle.marshal_write.proofs.canonical_check.encoded_prefixes.doubles_len.Goals as goal

pub returns : goal.returns
returns c =
    let n = c.encode_double_array_len-n.result.1 in
    let bytes = c.args.bytes.now in
    let same = c.if-not-begins.ensures.1 in
    let room : n + 8 * c.args.count ≤ length bytes = search rules in
    doubles_first n c.args.count bytes (are_bytes bytes c.type_inv.bytes) room (search rules) (search rules) (same ∙ c.encode_double_array_len-n.ensures.encoded)
