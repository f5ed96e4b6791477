use Rattle.std.proofs.Common.{rules, ◌≡◌, ◌<◌, arith, length, get_or, Err}
use Rattle.marshal_spec.specs.format.Code.{kind_of}
use Rattle.marshal_spec.proofs.format.RawLemmas.{one-le-raw_length}
use Rattle.marshal_codec.proofs.token.TokenFaultLemmas.{code_fault}
use Rattle.marshal_codec.proofs.token.token_step.decode.Goals as goal

pub returns-then-is_empty : goal.returns-then-is_empty
returns-then-is_empty c = let none : length c.args.bytes.now ≡ 0 = search rules in omega (arith, none, one-le-raw_length c.args.bytes.now)

pub returns-in-Err : goal.returns-in-Err
returns-in-Err c =
    let bytes = c.args.bytes.now in
    let some : 0 < length bytes = search rules in
    let fault : kind_of (get_or bytes 0 0) ≡ Err c.in-Err.fault = search rules in
    code_fault bytes c.in-Err.fault some fault
