use Rattle.std.proofs.lemmas.Result.{on_ok_weaker}
use Rattle.check_fault.specs.FaultText.{step_text}
use Rattle.check_fault.proofs.ConflictTexts.{more}
use Rattle.check_fault.proofs.value_description.write_two.Goals as goal

pub returns : goal.returns
returns c =
    on_ok_weaker c.write_step-2.result
    (λ write. more c.args.text.now.items (step_text c.args.i) (step_text c.args.j) c.write_step.new.text.items
    c.write_step-2.new.text.items c.in_ok-write_step.ensures write)
    c.write_step-2.ensures
