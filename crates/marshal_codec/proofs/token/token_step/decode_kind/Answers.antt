use Rattle.std.proofs.Common.{rules, ℕ, ◌≡◌, ◌<◌, ◌≤◌, ◌+◌, ◌-◌, length, take, drop, get_or, Ok, Some, subst}
use Rattle.std.proofs.lemmas.List.{take_rest}
use Rattle.marshal_spec.specs.format.Code.{kind_of}
use Rattle.marshal_spec.specs.format.Raw.{fixed_bytes, variable_bytes}
use Rattle.marshal_spec.proofs.format.FormatKindLemmas.{IsKind-kind_of}
use Rattle.marshal_codec.specs.token.Summary.{IsSummaryAfter}
use Rattle.marshal_codec.specs.token.TokenFault.{chunk_fault}
use Rattle.marshal_codec.proofs.token.SummaryLemmas.{with_code}
use Rattle.marshal_codec.proofs.token.TokenFaultLemmas.{more_with_code, fault_with_code}
use Rattle.marshal_codec.proofs.token.token_step.decode_kind.Goals as goal

pub chunk_len-requires : goal.chunk_len-requires
chunk_len-requires c = IsKind-kind_of (get_or c.args.bytes.now 0 0) c.args.kind c.requires.kind

pub invariant_of-known : goal.invariant_of-known
invariant_of-known c = record { known = IsKind-kind_of (get_or c.args.bytes.now 0 0) c.args.kind c.requires.kind }

pub returns-in_default : goal.returns-in_default
returns-in_default c =
    let bytes = c.args.bytes.now in
    let some : 0 < length bytes = search rules in
    let kind : kind_of (get_or bytes 0 0) ≡ Ok c.args.kind = search rules in
    let after : take (length bytes - 1) (drop 1 bytes) ≡ drop 1 bytes = take_rest bytes 1 in
    let short = subst (λ xs. length xs < fixed_bytes c.args.kind + variable_bytes c.args.kind xs) after c.in_default.ensures in
    more_with_code bytes c.args.kind some kind short

pub returns-in-Ok : goal.returns-in-Ok
returns-in-Ok c =
    let bytes = c.args.bytes.now in
    let some : 0 < length bytes = search rules in
    let kind : kind_of (get_or bytes 0 0) ≡ Ok c.args.kind = search rules in
    let after : take (length bytes - 1) (drop 1 bytes) ≡ drop 1 bytes = take_rest bytes 1 in
    let within : c.in-Some.len ≤ length (drop 1 bytes) = search rules in
    let own = c.in-Ok.ensures in (
      with_code bytes c.args.kind c.in-Some.len c.in-Ok.summary some kind within
          (subst (λ xs. IsSummaryAfter c.args.kind (take c.in-Some.len xs) c.in-Ok.summary) after own.0),
      own.1,
    )

pub returns-in-Err : goal.returns-in-Err
returns-in-Err c =
    let bytes = c.args.bytes.now in
    let len : ℕ = c.in-Some.len in
    let kind' = c.args.kind in
    let some : 0 < length bytes = search rules in
    let kind : kind_of (get_or bytes 0 0) ≡ Ok kind' = search rules in
    let after : take (length bytes - 1) (drop 1 bytes) ≡ drop 1 bytes = take_rest bytes 1 in
    let raw = subst (λ xs. (len ≤ length xs) × (len ≡ fixed_bytes kind' + variable_bytes kind' xs)) after c.in-Some.ensures in
    let fault = subst (λ xs. chunk_fault kind' (take len xs) ≡ Some c.in-Err.fault) after c.in-Err.ensures in
    fault_with_code bytes kind' len c.in-Err.fault some kind raw.0 raw.1 fault
