use Rattle.std.proofs.Common.{◌∙◌, ◌++◌, sym, ap}
use Rattle.std.proofs.lemmas.Result.{on_ok_weaker}
use Rattle.base_data.specs.model.PathText.{path_text}
use Rattle.check_fault.specs.Near.{path_in}
use Rattle.check_fault.proofs.MismatchTexts.{one_step_text, two_steps_text}
use Rattle.check_fault.proofs.value_description.write_way.Goals as goal

pub returns-in-Root : goal.returns-in-Root
returns-in-Root c =
    on_ok_weaker c.write.result
    (λ write. write ∙ ap (λ way. c.args.text.now.items ++ path_text (path_in way)) (sym c.in-Root.is))
    c.write.ensures

pub returns-in-Field : goal.returns-in-Field
returns-in-Field c =
    let old = c.args.text.now.items in
    on_ok_weaker c.write_step.result
    (λ write. write ∙ ap (λ text. old ++ text) (one_step_text c.in-Field.i)
    ∙ ap (λ way. old ++ path_text (path_in way)) (sym c.in-Field.is))
    c.write_step.ensures

pub returns-in-Part : goal.returns-in-Part
returns-in-Part c =
    let old = c.args.text.now.items in
    on_ok_weaker c.write_two.result
    (λ write. write ∙ ap (λ text. old ++ text) (two_steps_text c.in-Part.i c.in-Part.j)
    ∙ ap (λ way. old ++ path_text (path_in way)) (sym c.in-Part.is))
    c.write_two.ensures
