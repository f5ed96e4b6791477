use Rattle.std.proofs.Common.{◌≡◌, ◌++◌, ◌∙◌, ◌<◌, take, drop, refl, sym, subst, length, arith}
use Rattle.std.proofs.lemmas.List.{length-take}
use Rattle.std.proofs.lemmas.List.Elements.{All-append}
use Rattle.marshal_read.specs.Reader.{LeadsReader}
use Rattle.cmd_scan.specs.command.Passed.{AreClear}
use Rattle.cmd_scan.proofs.command.ClearLemmas.{few_begin, passed_over, last_three}
use Rattle.cmd_scan.proofs.command.ScanCommandSearchLemmas.{room}
use Rattle.cmd_scan.proofs.command.searching.SearchingWork.pass.Goals as goal

pub overflow_add-self : goal.overflow_add-self
overflow_add-self g c =
    let w = c.args.self.now in
    let q = c.requires.has in
    let size = room g.S.Searches.limit_by w.limit w.held.items w.at q.0 q.1 q.2.items q.2.first q.2.at_is in
    let short = q.3 in
    let within = c.clear_bytes-bytes.ensures.within in
    omega (arith, size, short, within)

pub returns-clause-passes : goal.returns-clause-passes
returns-clause-passes g c = λ reads.
    let w = c.args.self.now in
    let held = w.held.items in
    let buffered = c.args.buffered.now in
    let n = c.clear_bytes-bytes.result in
    let enough = c.if-bytes-lt3.false in
    let three : length held ≡ 3 = omega (arith, c.len.ensures, c.if-len-ne3.false) in
    let left : c.in-Ok.left.items ≡ take 3 (drop n (held ++ buffered)) =
    c.in-Ok.ensures ∙ last_three held buffered n three enough in
    let size : length (take 3 (drop n (held ++ buffered))) < 4 = omega (arith, length-take 3 (drop n (held ++ buffered))) in
    let few : length c.in-Ok.left.items < 4 = subst (λ l. length l < 4) (sym left) size in
    let leads = c.in-Ok-take_prefix.ensures w.limit c.new-reader.ensures.leads
    (few_begin w.limit c.as_slice-2.result.now (subst (λ l. length l < 4) (sym c.as_slice-2.ensures.value) few)) in (
      omega (arith, enough),
      c.clear_bytes-bytes.ensures.within,
      λ bytes output h.
          passed_over g.S.Searches.limit_by w.limit held buffered w.at n three
          (All-append (λ b. b < 256) held buffered h.leads.bytes c.clear_bytes-bytes.ensures.are_bytes)
          c.clear_bytes-bytes.ensures.within
          (subst (λ b. AreClear (b ++ buffered) n) c.as_slice.ensures.value c.clear_bytes-bytes.ensures.clear)
          w.reader c.in-Ok.left.items c.take_prefix.new.reader _ left
          (subst (λ b. LeadsReader w.limit b c.take_prefix.new.reader) c.as_slice-2.ensures.value leads.1) refl
          bytes output h,
    )
