use Rattle.std.proofs.Common.{rules, ◌≡◌, ◌<◌, ◌≤◌, length, take, drop, get_or, Ok, subst}
use Rattle.marshal_spec.specs.format.Code.{kind_of}
use Rattle.types_table.specs.type_table.Made.{table_of}
use Rattle.check_stream.specs.theory.AskedNeeds.{of_type}
use Rattle.check_stream.specs.checker.Fast.{held}
use Rattle.check_stream.specs.checker.CheckerState.{TookChunk}
use Rattle.check_stream.proofs.checker.CheckerChunkLemmas.{rest_from, with_code}
use Rattle.check_stream.proofs.checker.fast.fast_kind.Goals as goal

pub returns-in-Some-fast_chunk : goal.returns-in-Some-fast_chunk
returns-in-Some-fast_chunk c =
    let rest = c.args.rest.now in
    let old = held c.args.others c.args.waiting.now c.args.types.now c.args.words.now in
    let new = held c.in-Some-fast_chunk.now c.fast_chunk.new.waiting c.fast_chunk.new.types c.fast_chunk.new.words in
    let some : 0 < length rest = search rules in
    let kind : kind_of (get_or rest 0 0) ≡ Ok c.args.kind = search rules in
    let within : c.in-Some.len ≤ length (drop 1 rest) = search rules in
    with_code (table_of c.args.table.now) c.args.stated old new (of_type c.args.ty) rest c.args.kind c.in-Some.len some kind within
    (subst (λ xs. TookChunk (table_of c.args.table.now) c.args.stated old new (of_type c.args.ty) c.args.kind (take c.in-Some.len xs)) (rest_from 1 rest) c.in-Some-fast_chunk.ensures)
