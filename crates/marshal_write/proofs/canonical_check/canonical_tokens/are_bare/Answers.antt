use Rattle.std.proofs.Common.{rules, ◌≡◌, length}
use Rattle.marshal_write.proofs.canonical_check.CanonicalLemmas.{bare_whole}
use Rattle.marshal_write.proofs.canonical_check.canonical_tokens.are_bare.Goals as goal

pub returns : goal.returns
returns c =
    let whole : c.in-Some-int_len.n ≡ length c.args.bytes.now = search rules in
    bare_whole _ c.in-Some-int_len.n c.args.bytes.now c.in-Some-int_len.ensures whole
