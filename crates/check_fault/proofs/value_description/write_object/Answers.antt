use Rattle.std.proofs.Common.{◌∙◌, ◌++◌, sym, ap}
use Rattle.std.specs.Prelude.{codes, decimal}
use Rattle.std.proofs.lemmas.List.{append_assoc}
use Rattle.std.proofs.lemmas.Result.{on_ok_weaker}
use Rattle.check_fault.specs.FaultText.{text_of_kind}
use Rattle.check_fault.proofs.value_description.write_object.Goals as goal

pub returns-in_ok-write-in-Doubles : goal.returns-in_ok-write-in-Doubles
returns-in_ok-write-in-Doubles c =
    let old = c.args.text.now.items in
    let number = decimal c.in-Doubles.len in
    on_ok_weaker c.write_number-in-Doubles.result (λ write. write
    ∙ ap (λ prefix. prefix ++ number) c.in_ok-write-in-Doubles.ensures
    ∙ append_assoc old (codes "float array of ") number
    ∙ ap (λ kind. old ++ text_of_kind kind) (sym c.in-Doubles.is)) c.write_number-in-Doubles.ensures
