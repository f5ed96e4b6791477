use Rattle.std.proofs.Common.{rules, ◌<◌, ◌≤◌, length}
use Rattle.std.proofs.lemmas.Bool.{OnTrue_at, OnTrue_from}
use Rattle.marshal_write.specs.canonical_check.Canonicity.{IsCanonicalBytes}
use Rattle.marshal_write.proofs.canonical_check.CanonicalLemmas.{bare_value, canonical_value}
use Rattle.marshal_write.proofs.canonical_check.canonical_bytes.is_canonical_bytes.Goals as goal

pub returns-then-objects-eq0 : goal.returns-then-objects-eq0
returns-then-objects-eq0 c =
    let bytes = c.args.bytes.now in
    let long : 20 ≤ length bytes = search rules in
    OnTrue_from c.are_bare.result (IsCanonicalBytes bytes)
    (λ yes. bare_value bytes long c.in-Some.objects c.in-Some.ensures (OnTrue_at yes c.are_bare.ensures))

pub returns : goal.returns
returns c =
    let bytes = c.args.bytes.now in
    let long : 20 ≤ length bytes = search rules in
    let some : 0 < c.in-Some.objects = search rules in
    OnTrue_from c.are_canonical.result (IsCanonicalBytes bytes)
    (λ yes. canonical_value bytes long c.in-Some.objects c.in-Some.ensures some (OnTrue_at yes c.are_canonical.ensures))
