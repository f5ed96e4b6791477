use Rattle.std.proofs.Common.{arith, List, ℕ, Option, Ok, Err, ◌≡◌, ap, subst}
use Rattle.marshal_read.specs.declared.read_totals.ReadTotals.{ReadTotals}
use Rattle.marshal_read.specs.declared.unread.Unread.TheVariants.{NeedMore}
use Rattle.marshal_read.specs.Chunks.{LeadsAs}
use Rattle.marshal_read.specs.Reading.{NextOf}
use Rattle.marshal_read.proofs.ChunksLemmas.{token_stops, token_taken, token_is_read, open_from}
use Rattle.marshal_read.proofs.reading.Reading.next.Goals as goal

pub overflow_sub-result : goal.overflow_sub-result
overflow_sub-result c =
    let self = c.args.self.now in
    let x = c.requires.leads in
    let h = subst (λ (o : Option ReadTotals). LeadsAs o self.limit x.0 self.builder x.1) c.in-Some.is x.3 in
    let n = subst (λ (xs : List ℕ). NextOf h.0 h.1 xs c.next_token.new.builder (Ok c.in-Ok.next)) x.4 (c.in-Ok.ensures.next h.0 h.1 h.2.builds) in
    let taken = token_taken self.limit x.0 x.1 x.2 h.0 h.1 c.in-Some.totals self.builder h.2 (open_from self.totals c.in-Some.totals c.in-Some.is c.requires.«open») c.in-Ok.next c.next_token.new.builder n in
    omega (arith, taken)

pub returns-in-Ok-clause-next : goal.returns-in-Ok-clause-next
returns-in-Ok-clause-next c = λ taken part more l e.
    let self = c.args.self.now in
    let h = subst (λ (o : Option ReadTotals). LeadsAs o self.limit taken self.builder part) c.in-Some.is l in
    let n = subst (λ (xs : List ℕ). NextOf h.0 h.1 xs c.next_token.new.builder (Ok c.in-Ok.next)) e (c.in-Ok.ensures.next h.0 h.1 h.2.builds) in
    token_is_read self.limit taken part more h.0 h.1 c.in-Some.totals self.builder h.2 (open_from self.totals c.in-Some.totals c.in-Some.is c.requires.«open») c.in-Ok.next c.next_token.new.builder n

pub returns-in-Err-clause-next : goal.returns-in-Err-clause-next
returns-in-Err-clause-next c = λ taken part more l e.
    let self = c.args.self.now in
    let stop = c.in-Err.stop in
    let h = subst (λ (o : Option ReadTotals). LeadsAs o self.limit taken self.builder part) c.in-Some.is l in
    let n = subst (λ (xs : List ℕ). NextOf h.0 h.1 xs c.next_token.new.builder (Err stop)) e (c.in-Err.ensures.next h.0 h.1 h.2.builds) in
    token_stops self.limit taken part more h.0 h.1 c.in-Some.totals self.builder h.2 (open_from self.totals c.in-Some.totals c.in-Some.is c.requires.«open»)
    (record self { builder = c.next_token.new.builder }) stop c.in-Some.is (λ (s : stop ≡ NeedMore). c.in-Err.ensures.kept (ap Err s)) n
