use Rattle.std.proofs.Common.{◌≡◌, ◌∙◌, true, false, sym, ap}
use Rattle.types_table.specs.type_table.Made.{table_of}
use Rattle.check_stream.specs.declared.chunk_check.value_inspection.Inspecting.{Inspecting}
use Rattle.check_stream.proofs.chunk_check.value_inspection.Inspecting.pass.Goals as goal
use Rattle.check_stream.proofs.chunk_check.value_inspection.Inspecting.pass.Goals.{then-not-self+in_ok-begin+else-not-branch, else-not-self}

pub returns-then-is_prefix : goal.returns-then-is_prefix
returns-then-is_prefix c =
    let stopped = rw c.in-Truncated.is at c.in_ok-n.ensures in
    let not_sought : c.if-not-self.self.sought ≡ false =
    elim c.if-not-self.branch [ then-not-self+in_ok-begin+else-not-branch w ↦ ap (λ (l : Inspecting). l.sought) w.self-is ∙ c.requires.unsought | else-not-self w ↦ ap (λ (l : Inspecting). l.sought) w.self-is ∙ c.requires.unsought ] in (
      c.if-is_prefix.ensures (table_of c.args.table.now) c.args.limit stopped.0 stopped.2,
      record {
        underway = λ begun. stopped.0;
        sought = λ sought. let both : true ≡ false = sym sought ∙ not_sought in cc both;
      },
    )
