use Rattle.std.proofs.Common.{rules, ◌<◌, ◌∙◌, refl, sym, ap}
use Rattle.types_table.specs.type_table.Made.{table_of}
use Rattle.check_stream.proofs.checker.Weaker.{if_true}
use Rattle.check_stream.specs.declared.mismatch_search.way.Expectation.TheVariants as asks
use Rattle.check_stream.specs.declared.mismatch_search.way.BlockExpectations.TheVariants as lefts
use Rattle.check_stream.specs.declared.mismatch_search.mismatch.Finding.{Finding}
use Rattle.marshal_codec.specs.token.Summary.{summary_fields}
use Rattle.check_stream.specs.mismatch_search.Find.{no_type}
use Rattle.check_stream.proofs.mismatch_search.MismatchSearchJudgeLemmas.{room_of_block, no_back_block}
use Rattle.check_stream.proofs.mismatch_search.ComesLemmas.{comes_fits, came_follows, passes_follows}
use Rattle.check_stream.proofs.mismatch_search.mismatch.Finding.settle.Goals as goal

pub returns-then-fill : goal.returns-then-fill
returns-then-fill c = (refl, λ stated prefix. passes_follows (table_of c.args.table.now) stated prefix c.args.self.now c.fill.new.self c.args.summary (c.fill.ensures.passed c.if-fill.true))

pub add-requires-clause-room : goal.add-requires-clause-room
add-requires-clause-room c = λ token its none. refl

pub add-requires-in-Opens-clause-room : goal.add-requires-in-Opens-clause-room
add-requires-in-Opens-clause-room c =
    let block = c.in-Opens.ensures.apt in
    room_of_block c.args.summary (lefts.Asked c.in-Opens.positions) block.0 block.1 block.2

pub add-requires-in-Opens-clause-many : goal.add-requires-in-Opens-clause-many
add-requires-in-Opens-clause-many c =
    let block = c.in-Opens.ensures.apt in
    block.3 ∙ sym (ap summary_fields block.2) ∙ sym c.fields_of.ensures

pub returns-then-branch : goal.returns-then-branch
returns-then-branch c =
    let old = c.args.self.now in
    let table = table_of c.args.table.now in
    let taken : Finding = record old { way = c.take_type.new.self } in
    let some : c.args.ty < no_type = search rules in
    let adds = if_true c.in_ok-add-in-Fits.field-0 c.if-branch.true c.in_ok-add-in-Fits.ensures in (
      refl,
      λ stated prefix.
          came_follows table stated prefix old c.add.new.self c.take_type.new.self (asks.Type c.args.ty) c.args.summary c.take_type.ensures.is_way c.take_type.ensures.first
          (comes_fits table stated prefix taken c.add.new.self c.args.ty c.args.summary (lefts.Unasked 0) some c.in-Fits.ensures.apt c.in-Fits.ensures.judged adds),
    )

pub returns-then-branch-2 : goal.returns-then-branch-2
returns-then-branch-2 c =
    let old = c.args.self.now in
    let table = table_of c.args.table.now in
    let taken : Finding = record old { way = c.take_type-in-Opens.new.self } in
    let some : c.args.ty < no_type = search rules in
    let block = c.in-Opens.ensures.apt in
    let adds = if_true c.in_ok-add-in-Opens.field-0 c.if-branch-2.true c.in_ok-add-in-Opens.ensures in (
      refl,
      λ stated prefix.
          came_follows table stated prefix old c.add-in-Opens.new.self c.take_type-in-Opens.new.self (asks.Type c.args.ty) c.args.summary c.take_type-in-Opens.ensures.is_way c.take_type-in-Opens.ensures.first
          (comes_fits table stated prefix taken c.add-in-Opens.new.self c.args.ty c.args.summary (lefts.Asked c.in-Opens.positions) some (no_back_block c.args.summary block.0 block.1 block.2) c.in-Opens.ensures.judged adds),
    )

pub returns-then-branch-3 : goal.returns-then-branch-3
returns-then-branch-3 c =
    let old = c.args.self.now in
    let table = table_of c.args.table.now in
    let comes = if_true c.in_ok-miss-in-Misses.field-0 c.if-branch-3.true c.in_ok-miss-in-Misses.ensures in (
      refl,
      λ stated prefix.
          came_follows table stated prefix old c.miss.new.self c.take_type-in-Misses.new.self (asks.Type c.args.ty) c.args.summary c.take_type-in-Misses.ensures.is_way c.take_type-in-Misses.ensures.first
          (comes table stated prefix c.in-Misses.ensures.judged),
    )
