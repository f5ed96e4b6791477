use Rattle.std.proofs.Common.{◌∙◌}
use Rattle.marshal_write.proofs.write.WriterMarkLemmas.{mark_ordered}
use Rattle.marshal_write.proofs.write.marks.Marks.get.Goals as goal

pub returns-then-self : goal.returns-then-self
returns-then-self c = c.mark_of.ensures ∙ (mark_ordered c.args.self.now c.args.k c.if-self.true c.requires).1
