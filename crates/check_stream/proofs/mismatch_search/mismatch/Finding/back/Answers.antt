use Rattle.std.proofs.Common.{rules, ℕ, ◌≡◌, ◌-◌, ◌<◌, ◌≤◌, length, refl}
use Rattle.types_table.specs.type_table.Made.{table_of}
use Rattle.check_stream.proofs.checker.Weaker.{if_true, taken_weaker}
use Rattle.check_stream.proofs.mismatch_search.ComesLemmas.{comes_wildcard, comes_back, has_first, has_second}
use Rattle.check_stream.proofs.mismatch_search.mismatch.Finding.back.Goals as goal

pub returns-then-is_wildcard : goal.returns-then-is_wildcard
returns-then-is_wildcard c =
    let some : 0 < c.args.stated = search rules in
    let first : 1 ≤ c.args.offset = search rules in
    let few : c.args.offset ≤ length c.args.self.now.types.items = search rules in
    comes_wildcard (table_of c.args.table.now) c.args.stated c.args.prefix.now c.args.self.now c.args.ty c.args.offset some first few c.if-is_wildcard.ensures

pub returns-then-is_first : goal.returns-then-is_first
returns-then-is_first c =
    let old = c.args.self.now in
    let some : 0 < c.args.stated = search rules in
    let first : 1 ≤ c.args.offset = search rules in
    let few : c.args.offset ≤ length old.types.items = search rules in
    let object : ℕ = length old.types.items - c.args.offset in
    let own : c.len-made.result - c.args.offset ≡ object = search rules in
    let has = if_true c.is_first.result c.if-is_first.true c.is_first.ensures in
    comes_back (table_of c.args.table.now) c.args.stated c.args.prefix.now old _ c.args.ty c.args.offset (c.len-made.result - c.args.offset) some first few own
    (has_first (table_of c.args.table.now) c.args.prefix.now old.types.items old.seconds old.seconds c.args.ty (c.len-made.result - c.args.offset) has.own has.at has.typed has.equal refl)
    c.in_ok-mark.ensures refl refl refl refl

pub returns : goal.returns
returns c =
    let old = c.args.self.now in
    let some : 0 < c.args.stated = search rules in
    let first : 1 ≤ c.args.offset = search rules in
    let few : c.args.offset ≤ length old.types.items = search rules in
    let object : ℕ = length old.types.items - c.args.offset in
    let own : c.len-made.result - c.args.offset ≡ object = search rules in
    taken_weaker c.show.result
    (λ shows.
    comes_back (table_of c.args.table.now) c.args.stated c.args.prefix.now old _ c.args.ty c.args.offset (c.len-made.result - c.args.offset) some first few own
    (has_second (table_of c.args.table.now) c.args.prefix.now old.types.items old.seconds c.show.new.self c.args.ty (c.len-made.result - c.args.offset) shows)
    c.in_ok-mark.ensures refl refl refl refl)
    c.show.ensures
