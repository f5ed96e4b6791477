use Rattle.std.proofs.Common.{rules, ◌∙◌, ◌≤◌, sym}
use Rattle.std.specs.Prelude.{unwrap_or}
use Rattle.session.proofs.EarlierLemmas.{used_up_to, used_within}
use Rattle.session.proofs.edit_lines.Edits.leave.Goals as goal

-- No line edits the value, and none copies from it into a later value.
pub returns-in-None : goal.returns-in-None
returns-in-None c =
    let lines = c.args.self.script.now.lines in
    let number = c.args.number in
    let most : unwrap_or c.last_use.result 0 ≤ number = search rules in
    record {
      compat = search rules;
      lines = sym c.lines_of-lines.ensures ∙ c.in-None.ensures;
      unused = used_within lines number (unwrap_or c.last_use.result 0) most (used_up_to lines number c.last_use.result c.last_use.ensures);
    }
