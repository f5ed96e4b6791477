use Rattle.std.proofs.Common.{[], true, refl, subst}
use Rattle.marshal_read.specs.Reader.{LeadsReader}
use Rattle.session.proofs.SessionReadLemmas.{begins}
use Rattle.session.proofs.input_values.Values.new.Goals as goal

pub returns : goal.returns
returns c =
    begins c.args.value_task (record { reader = c.new.result; ok = true; last = true; count = 0; kept = c.new-2.result; earlier = c.new-3.result; line = c.new-4.result }) c.requires
    (subst (λ limit. LeadsReader limit [] c.new.result) c.limit.ensures c.new.ensures.leads) refl refl refl c.new-2.ensures.items c.new-3.ensures.items
