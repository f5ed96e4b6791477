use Rattle.base_io.specs.StreamState.{change}
use Rattle.session.proofs.SessionReadLemmas.{kept_next, next_as}
use Rattle.session.proofs.input_values.Values.write_value.Goals as goal

pub returns-in-Print : goal.returns-in-Print
returns-in-Print g c = λ taken output v.
    next_as c.args.value_task _ c.in-Print.is taken output c.args.self.now v (change (g.K.Sink.state c.args.out.now) (g.K.Sink.state c.write_line.new.out)) c.write_line.new.self c.write_line.result
    (c.write_line.ensures taken output)

pub returns-in-Edit : goal.returns-in-Edit
returns-in-Edit g c = λ taken output v.
    next_as c.args.value_task _ c.in-Edit.is taken output c.args.self.now v (change (g.K.Sink.state c.args.out.now) (g.K.Sink.state c.write_edited.new.out)) c.write_edited.new.self c.write_edited.result
    (c.write_edited.ensures taken output)

pub returns-in_ok-keep_value-in-Compare : goal.returns-in_ok-keep_value-in-Compare
returns-in_ok-keep_value-in-Compare g c = λ taken output v.
    kept_next c.args.value_task _ taken output c.args.self.now v c.in-Compare.is c.keep_value.new.self (g.K.Sink.state c.args.out.now) (c.in_ok-keep_value-in-Compare.ensures taken output)
