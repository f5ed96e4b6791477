use Rattle.std.proofs.Common.{rules, ◌≡◌, ◌<◌, ◌≤◌, length, pos, [], arith}
use Rattle.std.specs.Prelude.{IsTrue}
use Rattle.base_data.specs.model.Bytes.{number, signed}
use Rattle.base_data.specs.model.Graph.{IsInteger}
use Rattle.base_data.proofs.model.Numbers.{are_bytes}
use Rattle.types_spec.specs.types.Fitting.{fits_int, fits_atom}
use Rattle.types_table.specs.type_table.Made.{table_of}
use Rattle.check_stream.specs.theory.AskedNeeds.{of_type, shape_at, IsBackAt}
use Rattle.check_stream.specs.checker.Fast.{held}
use Rattle.check_stream.proofs.checker.Weaker.{match_option_weaker}
use Rattle.check_stream.proofs.checker.StateLemmas.{took_integer, took_atom, took_shared}
use Rattle.check_stream.proofs.checker.CheckerChunkLemmas.{at_atom, at_word, at_small_int, at_small_string, at_int, at_shared, at_str, at_double}
use Rattle.check_stream.proofs.checker.fast.fast_chunk.Goals as goal

pub returns-then-is_fast_int : goal.returns-then-is_fast_int
returns-then-is_fast_int c =
    let fits : IsTrue (fits_int (shape_at (table_of c.args.table.now) c.args.ty) (pos c.in-SmallInt.value)) = search rules in
    at_small_int (table_of c.args.table.now) c.args.stated (held c.args.others c.args.waiting.now c.args.types.now c.args.words.now) (held c.args.others c.args.waiting.now c.args.types.now c.args.words.now) (of_type c.args.ty) c.args.kind c.args.chunk.now
    c.requires.known (are_bytes c.args.chunk.now c.type_inv.chunk) c.requires.whole
    c.in-SmallInt.value c.in-SmallInt.is (took_integer (table_of c.args.table.now) (held c.args.others c.args.waiting.now c.args.types.now c.args.words.now) c.args.ty (pos c.in-SmallInt.value) fits)

pub returns-then-fast_bytes : goal.returns-then-fast_bytes
returns-then-fast_bytes c =
    let took = c.if-fast_bytes.ensures.took (search rules) in
    at_small_string (table_of c.args.table.now) c.args.stated (held c.args.others c.args.waiting.now c.args.types.now c.args.words.now) (held c.args.others c.args.waiting.now c.fast_bytes.new.types c.fast_bytes.new.words) (of_type c.args.ty) c.args.kind c.args.chunk.now
    c.requires.known (are_bytes c.args.chunk.now c.type_inv.chunk) c.requires.whole
    c.in-SmallString.len c.in-SmallString.is
    (λ all is. took c.args.others c.args.waiting.now all (let same : c.from-in-SmallString.result ≡ c.in-SmallString.len = search rules in omega (arith, is, same)))

pub returns-then-is_fast_int-2 : goal.returns-then-is_fast_int-2
returns-then-is_fast_int-2 c =
    let is : IsInteger (signed c.args.chunk.now) = search rules in
    let fits : IsTrue (fits_int (shape_at (table_of c.args.table.now) c.args.ty) (signed c.args.chunk.now)) = search rules in
    at_int (table_of c.args.table.now) c.args.stated (held c.args.others c.args.waiting.now c.args.types.now c.args.words.now) (held c.args.others c.args.waiting.now c.args.types.now c.args.words.now) (of_type c.args.ty) c.args.kind c.args.chunk.now
    c.requires.known (are_bytes c.args.chunk.now c.type_inv.chunk) c.requires.whole
    c.in-Int.field-0 c.in-Int.is is (took_integer (table_of c.args.table.now) (held c.args.others c.args.waiting.now c.args.types.now c.args.words.now) c.args.ty (signed c.args.chunk.now) fits)

pub returns-then-is_fast_back : goal.returns-then-is_fast_back
returns-then-is_fast_back c =
    let some : 0 < c.args.stated = search rules in
    let back : (1 ≤ number c.args.chunk.now) × (number c.args.chunk.now ≤ length c.args.types.now.items) × IsBackAt [] (table_of c.args.table.now) c.args.types.now.items c.args.ty (number c.args.chunk.now) = search rules in
    at_shared (table_of c.args.table.now) c.args.stated (held c.args.others c.args.waiting.now c.args.types.now c.args.words.now) (held c.args.others c.args.waiting.now c.args.types.now c.args.words.now) (of_type c.args.ty) c.args.kind c.args.chunk.now
    c.requires.known (are_bytes c.args.chunk.now c.type_inv.chunk) c.requires.whole
    c.in-Shared.field-0 c.in-Shared.is some back.0 back.1 (took_shared (table_of c.args.table.now) (held c.args.others c.args.waiting.now c.args.types.now c.args.words.now) c.args.ty (number c.args.chunk.now) back.2)

pub returns-then-fast_double : goal.returns-then-fast_double
returns-then-fast_double c =
    let took = c.if-fast_double.ensures.took (search rules) in
    at_double (table_of c.args.table.now) c.args.stated (held c.args.others c.args.waiting.now c.args.types.now c.args.words.now) (held c.args.others c.args.waiting.now c.fast_double.new.types c.fast_double.new.words) (of_type c.args.ty) c.args.kind c.args.chunk.now
    c.requires.known (are_bytes c.args.chunk.now c.type_inv.chunk) c.requires.whole
    c.in-Double.field-0 c.in-Double.is (λ bits. took c.args.others c.args.waiting.now bits)

pub returns-then-fast_bytes-2 : goal.returns-then-fast_bytes-2
returns-then-fast_bytes-2 c =
    let took = c.if-fast_bytes-2.ensures.took (search rules) in
    at_str (table_of c.args.table.now) c.args.stated (held c.args.others c.args.waiting.now c.args.types.now c.args.words.now) (held c.args.others c.args.waiting.now c.fast_bytes-then-len.new.types c.fast_bytes-then-len.new.words) (of_type c.args.ty) c.args.kind c.args.chunk.now
    c.requires.known (are_bytes c.args.chunk.now c.type_inv.chunk) c.requires.whole
    c.in-Str.width c.in-Str.is
    (λ all is. took c.args.others c.args.waiting.now all (let width : c.from-in-Str.result ≡ c.in-Str.width = search rules in omega (arith, is, width)))

pub returns-then-is_fast_atom : goal.returns-then-is_fast_atom
returns-then-is_fast_atom c =
    let none : c.in-SmallBlock.size ≡ 0 = search rules in
    let fits : IsTrue (fits_atom (shape_at (table_of c.args.table.now) c.args.ty) c.in-SmallBlock.tag) = search rules in
    at_atom (table_of c.args.table.now) c.args.stated (held c.args.others c.args.waiting.now c.args.types.now c.args.words.now) (held c.args.others c.args.waiting.now c.args.types.now c.args.words.now) (of_type c.args.ty) c.args.kind c.args.chunk.now
    c.requires.known (are_bytes c.args.chunk.now c.type_inv.chunk) c.requires.whole
    c.in-SmallBlock.tag c.in-SmallBlock.size c.in-SmallBlock.is none (took_atom (table_of c.args.table.now) (held c.args.others c.args.waiting.now c.args.types.now c.args.words.now) c.args.ty c.in-SmallBlock.tag fits)

pub returns-in-Block : goal.returns-in-Block
returns-in-Block c =
    match_option_weaker c.fast_word.result (λ same. same)
    (λ now own. at_word (table_of c.args.table.now) c.args.stated (held c.args.others c.args.waiting.now c.args.types.now c.args.words.now) (held now c.fast_word.new.waiting c.fast_word.new.types c.fast_word.new.words) (of_type c.args.ty) c.args.kind c.args.chunk.now
    c.requires.known (are_bytes c.args.chunk.now c.type_inv.chunk) c.requires.whole
    c.in-Block.field-0 c.number_of-word.result c.in-Block.is c.number_of-word.ensures own.0 own.1)
    c.fast_word.ensures
