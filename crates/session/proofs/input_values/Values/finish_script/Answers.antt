use Rattle.session.proofs.EditLemmas.{script_ended, script_past}
use Rattle.session.proofs.input_values.Values.finish_script.Goals as goal

pub returns-in-Some : goal.returns-in-Some
returns-in-Some c = λ trees counted.
    script_past c.args.edits trees c.args.self.now.ok c.args.self.now.count counted c.as_slice.result.now c.as_slice.ensures c.in-Some.number c.in-Some.ensures
    c.refused_line.result c.refused_line.ensures

pub returns-in-None : goal.returns-in-None
returns-in-None c = λ trees counted. script_ended c.args.edits trees c.args.self.now.ok c.args.self.now.count counted c.as_slice.result.now c.as_slice.ensures c.in-None.ensures
