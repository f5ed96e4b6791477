use Rattle.std.proofs.Common.{arith, ◌<◌, ◌-◌, length, subst}
use Rattle.marshal_spec.specs.format.Raw.{raw_length}
use Rattle.marshal_codec.specs.token.Summary.{IsSummaryBy, summary_measure}
use Rattle.marshal_codec.specs.token.TokenFault.{IsFaultBy}
use Rattle.marshal_read.specs.Totals.{IsSized, context_of}
use Rattle.marshal_read.proofs.DecodeLemmas.{decoded, fair_of, complete_next, fault_next}
use Rattle.marshal_read.proofs.read_totals.ReadTotals.judge.Goals as goal
use Rattle.marshal_read.proofs.read_totals.ReadTotals.judge.Goals.{In-Token}

-- The data of the value contain the token, and the token's object can be counted.
sized : (c : In-Token) → IsSized (context_of c.args.self.now) (summary_measure c.in-Token.summary) c.in-Token.n
sized c =
    let room = c.args.self.now.room in
    decoded (context_of c.args.self.now) c.args.bytes.now c.in-Token.summary c.in-Token.n (omega (arith, room)) c.args.self.now.short
    (subst (λ xs. IsSummaryBy xs c.in-Token.summary c.in-Token.n) c.data_in.ensures c.in-Token.ensures.0) c.in-Token.ensures.1

pub complete-requires-clause-fair : goal.complete-requires-clause-fair
complete-requires-clause-fair c = let own = sized (goal.at.complete-requires-clause-fair c).In-Token in fair_of c.in-Token.summary own.countable

pub complete-requires-clause-sized : goal.complete-requires-clause-sized
complete-requires-clause-sized c = sized (goal.at.complete-requires-clause-sized c).In-Token

pub part-requires-clause-part : goal.part-requires-clause-part
part-requires-clause-part c = subst (λ xs. length xs < raw_length xs) c.data_in.ensures c.in-More.ensures

pub returns-in-Token : goal.returns-in-Token
returns-in-Token c =
    let own = sized (goal.at.returns-in-Token c).In-Token in
    complete_next (context_of c.args.self.now) c.args.bytes.now c.in-Token.summary c.in-Token.n c.complete.result own.room
    (subst (λ xs. IsSummaryBy xs c.in-Token.summary c.in-Token.n) c.data_in.ensures c.in-Token.ensures.0) c.complete.ensures.steps c.complete.ensures.next

pub returns-in-Fault : goal.returns-in-Fault
returns-in-Fault c =
    let some = c.requires.«open» in
    let room = c.args.self.now.room in
    fault_next (context_of c.args.self.now) c.args.bytes.now c.in-Fault.fault c.fault_refusal.result (omega (arith, some, room))
    (subst (λ xs. IsFaultBy xs c.in-Fault.fault) c.data_in.ensures c.in-Fault.ensures) c.fault_refusal.ensures
