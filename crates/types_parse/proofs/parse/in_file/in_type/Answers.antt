use Rattle.std.proofs.Common.{subst}
use Rattle.types_parse.specs.parse.TypeCode.{step_code, StepIs}
use Rattle.types_parse.specs.parse.FileCode.{is_argument}
use Rattle.types_parse.proofs.parse.ParserStepLemmas.{steps_in_type, readable_written}
use Rattle.types_parse.proofs.parse.in_file.in_type.Goals as goal

pub after_type_step-requires : goal.after_type_step-requires
after_type_step-requires c =
    readable_written c.args.so_far.now.nodes.items c.args.so_far.now.frames c.args.around c.args.phase c.requires
    c.args.kind.now
    c.in-Ok.step c.step.new.self.nodes.items c.step.new.self.frames
    (subst (λ a. StepIs c.in-Ok.step c.step.new.self.nodes.items c.step.new.self.frames
    (step_code a c.args.so_far.now.nodes.items c.args.so_far.now.frames c.args.phase c.args.kind.now))
    c.is_argument.ensures c.in-Ok.ensures)

pub returns-in-Ok : goal.returns-in-Ok
returns-in-Ok c =
    steps_in_type c.after_type_step.result c.in-Ok.step c.step.new.self.nodes.items
    c.after_type_step.new.nodes.items c.step.new.self.frames
    (step_code (is_argument c.args.around) c.args.so_far.now.nodes.items c.args.so_far.now.frames c.args.phase
    c.args.kind.now) c.args.around c.args.kind.now
    (subst (λ a. StepIs c.in-Ok.step c.step.new.self.nodes.items c.step.new.self.frames
    (step_code a c.args.so_far.now.nodes.items c.args.so_far.now.frames c.args.phase c.args.kind.now))
    c.is_argument.ensures c.in-Ok.ensures)
    (c.after_type_step.ensures c.step.new.self.frames)
