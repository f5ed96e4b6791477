use Rattle.types_parse.specs.parse.TypeCode.{begin_code}
use Rattle.types_parse.proofs.parse.ParserStepLemmas.{steps_in_type}
use Rattle.types_parse.proofs.parse.in_file.begin_type.Goals as goal

pub returns-in-Ok : goal.returns-in-Ok
returns-in-Ok c =
    steps_in_type c.after_type_step.result c.in-Ok.step c.begin.new.self.nodes.items
    c.after_type_step.new.nodes.items c.begin.new.self.frames
    (begin_code c.args.so_far.now.nodes.items c.args.so_far.now.frames c.args.kind.now) c.args.around
    c.args.kind.now
    c.in-Ok.ensures (c.after_type_step.ensures c.begin.new.self.frames)
