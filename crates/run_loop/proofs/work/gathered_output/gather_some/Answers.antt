use Rattle.std.proofs.Common.{subst}
use Rattle.run_loop.specs.work.GatheredOutput.{GathersOne}
use Rattle.run_loop.proofs.work.WorkGatherLemmas.{some_by_one}
use Rattle.run_loop.proofs.work.gathered_output.gather_some.Goals as goal

pub returns-in_default-clause-gathers : goal.returns-in_default-clause-gathers
returns-in_default-clause-gathers g c =
    let mid = g.W.Work.has c.pass.new.self in
    let after = g.W.Work.has c.gather_one.new.work in
    let old = c.args.text.now.bytes.items in
    let new = c.gather_one.new.text.bytes.items in
    some_by_one g.W.Work.commands (g.W.Work.act c.args.work.now) c.laws.ensures.stay
    (g.W.Work.has c.args.work.now) mid after c.args.buffered.now old new c.gather_one.result
    (c.in_default.ensures.passes c.requires.reads)
    (subst (λ a. GathersOne g.W.Work.commands a mid after c.args.buffered.now old new c.gather_one.result)
    c.pass.ensures.kept c.gather_one.ensures.gathers)
