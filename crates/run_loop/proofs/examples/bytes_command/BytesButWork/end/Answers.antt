use Rattle.run_loop.proofs.examples.ExampleBytesLemmas.{bytes_end}
use Rattle.run_loop.proofs.examples.bytes_command.BytesButWork.end.Goals as goal

pub returns : goal.returns
returns g c = λ bytes output h.
    bytes_end c.args.self.now.refused c.args.self.now.count bytes output h (g.K.Sink.state c.args._out.now)
