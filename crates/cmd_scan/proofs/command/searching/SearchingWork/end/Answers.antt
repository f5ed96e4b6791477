use Rattle.std.proofs.Common.{[], subst, ap, arith, length}
use Rattle.base_io.specs.Sink.{Writes, WritesPart}
use Rattle.base_io.specs.StreamState.{change}
use Rattle.cmd_scan.specs.spec.Searching.{searching}
use Rattle.run_loop.proofs.work.WorkChunkLemmas.{ends_error}
use Rattle.cmd_scan.specs.command.SearchOutput.{HasSearched}
use Rattle.cmd_scan.proofs.command.ScanCommandSearchLemmas.{room, parts_of, holds, ends_written, ends_fault, ends_memory}
use Rattle.cmd_scan.proofs.command.searching.SearchingWork.end.Goals as goal

pub sweep_all-requires : goal.sweep_all-requires
sweep_all-requires g c =
    let w = c.args.self.now in
    let q = c.requires in
    let size = room g.S.Searches.limit_by w.limit w.held.items w.at q.0 q.1 q.2.items q.2.first q.2.at_is in
    let short = q.3 in
    omega (arith, size, short, ap length c.as_slice-held.ensures.value)

pub returns-in_err-sweep_all : goal.returns-in_err-sweep_all
returns-in_err-sweep_all g c =
    let w = c.args.self.now in
    ends_error (searching g.S.Searches.limit_by) w.limit
    (HasSearched g.S.Searches.limit_by w.limit w.held.items w.reader w.at) _ _ c.from_residual.result c.from_residual.ensures.1
    (λ bytes output h. (
      holds g.S.Searches.limit_by w.limit w.held.items w.reader w.at bytes output h,
      ends_memory g.S.Searches.limit_by w.limit w.held.items w.reader w.at bytes output h [] (g.K.Sink.state c.args.out.now),
    ))

pub returns-in_err-write_all : goal.returns-in_err-write_all
returns-in_err-write_all g c =
    let w = c.args.self.now in
    let write = c.sweep_all.new.text.items in
    let p = parts_of g.S.Searches.limit_by w.limit w.held.items c.as_slice-held.result.now c.new-text.result.items write w.at
    c.as_slice-held.ensures.value c.new-text.ensures.items c.in_ok-sweep_all.ensures in
    let out = change (g.K.Sink.state c.args.out.now) (g.K.Sink.state c.write_all.new.sink) in
    ends_error (searching g.S.Searches.limit_by) w.limit
    (HasSearched g.S.Searches.limit_by w.limit w.held.items w.reader w.at) out _ c.from_residual-in_err-write_all.result c.from_residual-in_err-write_all.ensures.1
    (λ bytes output h. (
      holds g.S.Searches.limit_by w.limit w.held.items w.reader w.at bytes output h,
      ends_fault g.S.Searches.limit_by w.limit w.held.items w.reader w.at bytes output h [] write p out
          (subst (λ b. WritesPart out b) c.as_slice-lines.ensures.value c.in_err-write_all.ensures.writes),
    ))

pub returns : goal.returns
returns g c = λ bytes output h.
    let w = c.args.self.now in
    let write = c.sweep_all.new.text.items in
    let p = parts_of g.S.Searches.limit_by w.limit w.held.items c.as_slice-held.result.now c.new-text.result.items write w.at
    c.as_slice-held.ensures.value c.new-text.ensures.items c.in_ok-sweep_all.ensures in
    let out = change (g.K.Sink.state c.args.out.now) (g.K.Sink.state c.write_all.new.sink) in (
      holds g.S.Searches.limit_by w.limit w.held.items w.reader w.at bytes output h,
      ends_written g.S.Searches.limit_by w.limit w.held.items w.reader w.at bytes output h [] write p out
          (subst (λ b. Writes out b) c.as_slice-lines.ensures.value c.in_ok-write_all.ensures.writes),
    )
