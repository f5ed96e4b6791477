use Rattle.check_heap.proofs.scan.ClassedLemmas.{inserts_after, added_after}
use Rattle.check_heap.proofs.scan.classed.Classed.insert.Goals as goal

pub returns-clause-inserts : goal.returns-clause-inserts
returns-clause-inserts c =
    inserts_after c.args.self.now c.shift.new.self c.args.object c.args.class c.shift.ensures c.write.new.self c.in_ok-added.ensures.inserts

pub returns-clause-added : goal.returns-clause-added
returns-clause-added c =
    added_after c.args.self.now c.shift.new.self c.args.object c.args.class c.shift.ensures c.in_ok-added.added c.in_ok-added.ensures.added
