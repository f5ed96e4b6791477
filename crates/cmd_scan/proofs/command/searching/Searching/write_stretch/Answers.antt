use Rattle.std.proofs.Common.{◌∙◌, subst, ap, arith, length, drop, refl}
use Rattle.base_io.specs.Sink.{Writes, WritesPart}
use Rattle.base_io.specs.StreamState.{change}
use Rattle.cmd_scan.specs.found_positions.InputParts.{AreRefused}
use Rattle.cmd_scan.proofs.sweep.SweepPartsLemmas.{within}
use Rattle.cmd_scan.proofs.command.ScanCommandSearchLemmas.{room, taken_of, next_output, text_is, stretch_output, stretch_written, memory_next, fault_next}
use Rattle.cmd_scan.proofs.command.searching.Searching.write_stretch.Goals as goal

pub sweep-requires : goal.sweep-requires
sweep-requires g c =
    let w = c.args.self.now in
    let q = c.requires in
    let size = room g.S.Searches.limit_by w.limit w.held.items w.at q.0 q.1 q.2.items q.2.first q.2.at_is in
    let short = q.3 in
    omega (arith, size, short, ap length c.as_slice-held.ensures.value)

pub overflow_add-self : goal.overflow_add-self
overflow_add-self g c =
    let w = c.args.self.now in
    let q = c.requires in
    let size = room g.S.Searches.limit_by w.limit w.held.items w.at q.0 q.1 q.2.items q.2.first q.2.at_is in
    let short = q.3 in
    let s = c.in_ok-swept.ensures in
    let fits = within w.limit w.at c.as_slice-held.result.now c.new-text.result.items (AreRefused w.limit) c.sweep.new.text.items c.in_ok-swept.swept.decided s.0 s.1 in
    omega (arith, size, short, fits, ap length c.as_slice-held.ensures.value)

pub returns-in_err-swept-clause-writes : goal.returns-in_err-swept-clause-writes
returns-in_err-swept-clause-writes g c = λ bytes output h.
    memory_next g.S.Searches.limit_by c.args.self.now.limit _ _ _ bytes output
    (g.K.Sink.state c.args.out.now) c.from_residual.result c.from_residual.ensures.1

pub returns-in_err-left-clause-writes : goal.returns-in_err-left-clause-writes
returns-in_err-left-clause-writes g c = λ bytes output h.
    memory_next g.S.Searches.limit_by c.args.self.now.limit _ _ _ bytes output
    (g.K.Sink.state c.args.out.now) c.from_residual-in_err-left.result c.from_residual-in_err-left.ensures.1

pub returns-in_err-write_all-clause-writes : goal.returns-in_err-write_all-clause-writes
returns-in_err-write_all-clause-writes g c = λ bytes output h.
    let w = c.args.self.now in
    let s = c.in_ok-swept.ensures in
    let write = c.sweep.new.text.items in
    let t = taken_of g.S.Searches.limit_by w.limit (AreRefused w.limit) w.held.items c.as_slice-held.result.now c.new-text.result.items write s.0 w.at c.in_ok-swept.swept.decided
    c.as_slice-held.ensures.value c.new-text.ensures.items s.1 in
    let out = change (g.K.Sink.state c.args.out.now) (g.K.Sink.state c.write_all.new.sink) in
    fault_next g.S.Searches.limit_by w.limit _ _ _ bytes output out
    (next_output g.S.Searches.limit_by w.limit w.held.items w.at bytes output h write c.in_ok-swept.swept.decided s.0 t s.2.0)
    (stretch_output g.S.Searches.limit_by w.limit w.held.items w.at bytes output h write c.in_ok-swept.swept.decided s.0 t s.2.0)
    (subst (λ b. WritesPart out b)
    (c.as_slice-lines.ensures.value ∙ text_is g.S.Searches.limit_by w.limit w.held.items w.at bytes output h write c.in_ok-swept.swept.decided s.0 t s.2.0)
    c.in_err-write_all.ensures.writes)
    c.from_residual-in_err-write_all.result c.from_residual-in_err-write_all.ensures.1

pub returns-clause-writes : goal.returns-clause-writes
returns-clause-writes g c = λ bytes output h.
    let w = c.args.self.now in
    let s = c.in_ok-swept.ensures in
    let write = c.sweep.new.text.items in
    let n = c.in_ok-swept.swept.decided in
    let t = taken_of g.S.Searches.limit_by w.limit (AreRefused w.limit) w.held.items c.as_slice-held.result.now c.new-text.result.items write s.0 w.at n
    c.as_slice-held.ensures.value c.new-text.ensures.items s.1 in
    let out = change (g.K.Sink.state c.args.out.now) (g.K.Sink.state c.write_all.new.sink) in (
      next_output g.S.Searches.limit_by w.limit w.held.items w.at bytes output h write n s.0 t s.2.0,
      stretch_written g.S.Searches.limit_by w.limit w.held.items w.at bytes output h write n s.0 t s.2.0
          c.in_ok-swept.swept.reader c.in_ok-left.left.items _ s.2.1
          (c.in_ok-left.ensures ∙ ap (drop n) c.as_slice-held.ensures.value) refl,
      subst (λ b. Writes out b)
          (c.as_slice-lines.ensures.value ∙ text_is g.S.Searches.limit_by w.limit w.held.items w.at bytes output h write n s.0 t s.2.0)
          c.in_ok-write_all.ensures.writes,
    )
