use Rattle.std.proofs.Common.{◌≡◌, [], ◌+◌, ◌++◌, ◌∙◌, sym, subst, ap, length, arith}
use Rattle.std.proofs.Math.Seq.{drop-length}
use Rattle.base_io.specs.Sink.{Writes, WritesPart}
use Rattle.base_io.specs.StreamState.{change}
use Rattle.marshal_read.specs.Reader.{LeadsReader}
use Rattle.cmd_scan.specs.found_positions.ValuePositions.{line_of}
use Rattle.cmd_scan.specs.sweep.Swept.{position_read}
use Rattle.cmd_scan.proofs.found_positions.FoundPositionOnceLemmas.{nothing_prefix}
use Rattle.cmd_scan.proofs.command.ScanCommandSearchLemmas.{room, whole_taken, next_output, text_is, stretch_output, stretch_written, memory_next, fault_next}
use Rattle.cmd_scan.proofs.command.searching.Searching.write_whole.Goals as goal

pub write_value-requires : goal.write_value-requires
write_value-requires g c =
    let w = c.args.self.now in
    let leads : LeadsReader w.limit w.held.items c.replace-reader.result =
    subst (λ r. LeadsReader w.limit w.held.items r) (sym c.replace-reader.ensures.value) c.requires.complete.2 in
    (c.finish-value.ensures w.limit w.held.items leads).is_value.valid

pub overflow_add-self : goal.overflow_add-self
overflow_add-self g c =
    let w = c.args.self.now in
    let q = c.requires.stretch in
    let size = room g.S.Searches.limit_by w.limit w.held.items w.at q.0 q.1 q.2.items q.2.first q.2.at_is in
    let short = q.3 in
    omega (arith, size, short)

pub returns-in_err-write_value-clause-writes : goal.returns-in_err-write_value-clause-writes
returns-in_err-write_value-clause-writes g c = λ bytes output h.
    memory_next g.S.Searches.limit_by c.args.self.now.limit _ _ _ bytes output
    (g.K.Sink.state c.args.out.now) c.from_residual.result c.from_residual.ensures.1

pub returns-in_err-write_all-clause-writes : goal.returns-in_err-write_all-clause-writes
returns-in_err-write_all-clause-writes g c = λ bytes output h.
    let w = c.args.self.now in
    let held = w.held.items in
    let value = c.finish-value.result in
    let size : c.len-size.result ≡ length held = omega (arith, c.len-size.ensures) in
    let leads : LeadsReader w.limit held c.replace-reader.result =
    subst (λ r. LeadsReader w.limit held r) (sym c.replace-reader.ensures.value) c.requires.complete.2 in
    let write = c.write_value.new.text.items in
    let t = whole_taken g.S.Searches.limit_by w.limit held write w.at value
    (c.finish-value.ensures w.limit held leads)
    (c.in_ok-write_value.ensures
    ∙ (ap (λ old. old ++ line_of (position_read w.at c.len-size.result value)) c.new-text.ensures.items
    ∙ ap (λ n. [] ++ line_of (position_read w.at n value)) size)) in
    let out = change (g.K.Sink.state c.args.out.now) (g.K.Sink.state c.write_all.new.sink) in
    fault_next g.S.Searches.limit_by w.limit _ _ _ bytes output out
    (next_output g.S.Searches.limit_by w.limit held w.at bytes output h write (length held) [] t (nothing_prefix w.limit))
    (stretch_output g.S.Searches.limit_by w.limit held w.at bytes output h write (length held) [] t (nothing_prefix w.limit))
    (subst (λ b. WritesPart out b)
    (c.as_slice-line.ensures.value ∙ text_is g.S.Searches.limit_by w.limit held w.at bytes output h write (length held) [] t (nothing_prefix w.limit))
    c.in_err-write_all.ensures.writes)
    c.from_residual-in_err-write_all.result c.from_residual-in_err-write_all.ensures.1

pub returns-clause-writes : goal.returns-clause-writes
returns-clause-writes g c = λ bytes output h.
    let w = c.args.self.now in
    let held = w.held.items in
    let value = c.finish-value.result in
    let size : c.len-size.result ≡ length held = omega (arith, c.len-size.ensures) in
    let leads : LeadsReader w.limit held c.replace-reader.result =
    subst (λ r. LeadsReader w.limit held r) (sym c.replace-reader.ensures.value) c.requires.complete.2 in
    let write = c.write_value.new.text.items in
    let t = whole_taken g.S.Searches.limit_by w.limit held write w.at value
    (c.finish-value.ensures w.limit held leads)
    (c.in_ok-write_value.ensures
    ∙ (ap (λ old. old ++ line_of (position_read w.at c.len-size.result value)) c.new-text.ensures.items
    ∙ ap (λ n. [] ++ line_of (position_read w.at n value)) size)) in
    let out = change (g.K.Sink.state c.args.out.now) (g.K.Sink.state c.write_all.new.sink) in
    let begins = nothing_prefix w.limit in (
      next_output g.S.Searches.limit_by w.limit held w.at bytes output h write (length held) [] t begins,
      stretch_written g.S.Searches.limit_by w.limit held w.at bytes output h write (length held) [] t begins
          c.over.result _ _ c.over.ensures.leads (c.clear.ensures.items ∙ sym (drop-length held)) (ap (λ n. w.at + n) size),
      subst (λ b. Writes out b)
          (c.as_slice-line.ensures.value ∙ text_is g.S.Searches.limit_by w.limit held w.at bytes output h write (length held) [] t begins)
          c.in_ok-write_all.ensures.writes,
    )
