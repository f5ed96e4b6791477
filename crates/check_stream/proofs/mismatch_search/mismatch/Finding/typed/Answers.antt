use Rattle.std.proofs.Common.{rules, ◌<◌, ◌∙◌, refl, sym, ap, subst}
use Rattle.types_table.specs.type_table.Made.{table_of}
use Rattle.check_stream.proofs.checker.Weaker.{taken_weaker}
use Rattle.check_stream.specs.declared.mismatch_search.way.Expectation.TheVariants as asks
use Rattle.check_stream.specs.declared.mismatch_search.way.BlockExpectations.TheVariants as lefts
use Rattle.marshal_codec.specs.token.Summary.{summary_fields}
use Rattle.check_stream.specs.mismatch_search.Find.{no_type, Comes}
use Rattle.check_stream.proofs.mismatch_search.MismatchSearchJudgeLemmas.{room_of_block, no_back_block}
use Rattle.check_stream.proofs.mismatch_search.ComesLemmas.{comes_fits}
use Rattle.check_stream.proofs.mismatch_search.mismatch.Finding.typed.Goals as goal

pub add-requires-clause-room : goal.add-requires-clause-room
add-requires-clause-room c = λ token its none. refl

pub add-requires-in-Opens-clause-room : goal.add-requires-in-Opens-clause-room
add-requires-in-Opens-clause-room c =
    let block = c.in-Opens.ensures.apt in
    room_of_block c.args.summary (lefts.Asked c.in-Opens.positions) block.0 block.1 block.2

pub add-requires-in-Opens-clause-many : goal.add-requires-in-Opens-clause-many
add-requires-in-Opens-clause-many c =
    let block = c.in-Opens.ensures.apt in
    block.3 ∙ sym (ap summary_fields block.2) ∙ sym c.fields_of.ensures

pub returns-in-Fits : goal.returns-in-Fits
returns-in-Fits c =
    let some : c.args.ty < no_type = search rules in
    taken_weaker c.add.result
    (λ adds. comes_fits (table_of c.args.table.now) c.args.stated c.args.prefix.now c.args.self.now c.add.new.self c.args.ty c.args.summary (lefts.Unasked 0) some c.in-Fits.ensures.apt c.in-Fits.ensures.judged adds)
    c.add.ensures

pub returns-in-Opens : goal.returns-in-Opens
returns-in-Opens c =
    let some : c.args.ty < no_type = search rules in
    let block = c.in-Opens.ensures.apt in
    taken_weaker c.add-in-Opens.result
    (λ adds. comes_fits (table_of c.args.table.now) c.args.stated c.args.prefix.now c.args.self.now c.add-in-Opens.new.self c.args.ty c.args.summary (lefts.Asked c.in-Opens.positions) some (no_back_block c.args.summary block.0 block.1 block.2) c.in-Opens.ensures.judged adds)
    c.add-in-Opens.ensures

pub returns-in-Back : goal.returns-in-Back
returns-in-Back c =
    taken_weaker c.back.result
    (λ comes. subst (λ summary. Comes (table_of c.args.table.now) c.args.stated c.args.prefix.now c.args.self.now (asks.Type c.args.ty) summary c.back.new.self) (sym c.in-Back.ensures.apt) comes)
    c.back.ensures

pub returns-in-Misses : goal.returns-in-Misses
returns-in-Misses c =
    taken_weaker c.miss.result
    (λ comes. comes (table_of c.args.table.now) c.args.stated c.args.prefix.now c.in-Misses.ensures.judged)
    c.miss.ensures
