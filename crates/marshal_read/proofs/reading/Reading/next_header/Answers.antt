use Rattle.std.proofs.Common.{rules, List, ℕ, subst, refl, Ok, Err}
use Rattle.marshal_read.specs.JudgedHeader.{JudgedHeader}
use Rattle.marshal_read.proofs.ChunksLemmas.{header_stops, header_is_read}
use Rattle.marshal_read.proofs.reading.Reading.next_header.Goals as goal

pub returns-in-Ok-clause-next : goal.returns-in-Ok-clause-next
returns-in-Ok-clause-next c = λ taken part more h e.
    let limit = c.args.self.now.limit in
    let totals = c.in-Ok.totals in
    let judged : JudgedHeader limit c.args.bytes.now (Ok totals) = search rules in
    header_is_read limit taken part more c.args.self.now.builder h totals c.allow.new.self c.allow.ensures
    (subst (λ (xs : List ℕ). JudgedHeader limit xs (Ok totals)) e judged)

pub returns-in-Err-clause-next : goal.returns-in-Err-clause-next
returns-in-Err-clause-next c = λ taken part more h e.
    let limit = c.args.self.now.limit in
    let stop = c.in-Err.stop in
    let judged : JudgedHeader limit c.args.bytes.now (Err stop) = search rules in
    header_stops limit taken part more c.args.self.now.builder h c.args.self.now stop c.requires.none refl
    (subst (λ (xs : List ℕ). JudgedHeader limit xs (Err stop)) e judged)
