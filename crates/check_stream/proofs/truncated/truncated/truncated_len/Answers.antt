use Rattle.std.proofs.Common.{rules, ℕ, ◌≡◌, ◌<◌, ◌-◌, length, take, drop, get_or, Ok, subst}
use Rattle.std.proofs.lemmas.List.{take_rest}
use Rattle.marshal_spec.specs.format.Code.{kind_of}
use Rattle.check_stream.specs.truncated.Truncated.{IsTruncatedAfter}
use Rattle.check_stream.proofs.truncated.TruncatedLemmas.{truncated_of_nothing, truncated_of_bytes}
use Rattle.check_stream.proofs.truncated.truncated.truncated_len.Goals as goal

pub returns-then-is_empty : goal.returns-then-is_empty
returns-then-is_empty c =
    let none' : length c.args.bytes.now ≡ 0 = search rules in truncated_of_nothing c.args.bytes.now c.args.w32 c.args.w64 none'

pub returns : goal.returns
returns c =
    let bytes = c.args.bytes.now in
    let kind = c.in-Ok.kind in
    let n : ℕ = c.in-Some.n in
    let some : 0 < length bytes = search rules in
    let is : kind_of (get_or bytes 0 0) ≡ Ok kind = search rules in
    let after : take (length bytes - 1) (drop 1 bytes) ≡ drop 1 bytes = take_rest bytes 1 in
    truncated_of_bytes bytes kind n c.args.w32 c.args.w64 some is (subst (λ xs. IsTruncatedAfter kind xs n c.args.w32 c.args.w64) after c.in-Some.ensures)
