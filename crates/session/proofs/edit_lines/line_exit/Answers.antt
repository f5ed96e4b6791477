use Rattle.std.proofs.Common.{ℕ, List, ◌∙◌, ap}
use Rattle.check_fault.specs.FaultText.{text_at}
use Rattle.edit_values.specs.Reasons.{reason_of, reason_or_none}
use Rattle.session.proofs.EditLemmas.{reason_exit}
use Rattle.session.proofs.edit_lines.line_exit.Goals as goal

pub returns : goal.returns
returns c =
    reason_exit c.args.requested.now c.args.number c.args.refusal.now c.in_ok-text.text (c.is_memory.ensures c.if-is_memory.false)
    ((rw c.table.ensures.same at c.in_ok-text.ensures)
    ∙ ap (λ (known : ℕ → List ℕ). reason_or_none (text_at c.args.requested.now.table) known (reason_of c.args.refusal.now)) (rw c.lines.ensures at c.of_line-positions.ensures))
