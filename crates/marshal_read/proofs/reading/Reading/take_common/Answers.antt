use Rattle.std.proofs.Common.{Option, [], subst, arith}
use Rattle.marshal_read.specs.declared.read_totals.ReadTotals.{ReadTotals}
use Rattle.marshal_read.specs.Chunks.{LeadsAs}
use Rattle.marshal_read.proofs.reading.Reading.take_common.Goals as goal

pub returns-clause-open : goal.returns-clause-open
returns-clause-open c = λ none e.
    let self = c.args.self.now in
    let x = c.requires.leads in
    let t = c.take_common-n.ensures self.limit x.0 (subst (λ (o : Option ReadTotals). LeadsAs o self.limit x.0 self.builder []) c.in-Some.is x.1) in
    absurd (omega (arith, (t.1 e).0, none))

pub returns-clause-takes : goal.returns-clause-takes
returns-clause-takes c = λ taken h.
    let self = c.args.self.now in
    let t = c.take_common-n.ensures self.limit taken (subst (λ (o : Option ReadTotals). LeadsAs o self.limit taken self.builder []) c.in-Some.is h) in
    (t.0, t.2)
