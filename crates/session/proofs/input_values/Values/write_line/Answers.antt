use Rattle.std.proofs.Common.{refl, arith}
use Rattle.base_io.specs.StreamState.{change}
use Rattle.marshal_read.specs.declared.returned_value.Value.{Value}
use Rattle.session.specs.declared.input_values.ValueTask.TheVariants.{Print}
use Rattle.session.proofs.SessionReadLemmas.{room_for_one}
use Rattle.session.proofs.SessionOutputLemmas.{output_written, output_aborts}
use Rattle.session.proofs.input_values.Values.write_line.Goals as goal

pub overflow_add-self : goal.overflow_add-self
overflow_add-self g c = let room = room_for_one (Print c.args.printing c.args.limit) c.requires.0 c.requires.1 c.args.self.now c.requires.2 c.requires.3 in omega (arith, room)

pub invariant_of-borrowed : goal.invariant_of-borrowed
invariant_of-borrowed g c =
    let v = c.requires.2 in
    record { value = (c.borrow-value.ensures c.args.limit v.whole v.leads).is_value.valid }

pub returns-in_err-ok : goal.returns-in_err-ok
returns-in_err-ok g c = λ taken output v.
    let value : Value = record { heap = c.borrow-value.result.heap.now; root = c.borrow-value.result.root } in
    output_aborts c.args.printing c.args.limit taken output c.args.self.now v value (c.borrow-value.ensures c.args.limit v.whole v.leads)
    (change (g.K.Sink.state c.args.out.now) (g.K.Sink.state c.write_output.new.out)) c.in_err-ok.field-0.0 _ c.from_residual.result c.from_residual.ensures.1 c.in_err-ok.ensures

pub returns : goal.returns
returns g c = λ taken output v.
    let value : Value = record { heap = c.borrow-value.result.heap.now; root = c.borrow-value.result.root } in
    output_written c.args.printing c.args.limit taken output c.args.self.now v value (c.borrow-value.ensures c.args.limit v.whole v.leads)
    (change (g.K.Sink.state c.args.out.now) (g.K.Sink.state c.write_output.new.out)) c.in_ok-ok.ok c.in_ok-ok.ensures c.restart.new.self c.restart.ensures.leads _ refl c.write_output.new.line
