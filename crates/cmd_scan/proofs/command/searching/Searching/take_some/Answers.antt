use Rattle.std.proofs.Common.{◌++◌, ◌∙◌, take, sym, subst, ap, length, arith}
use Rattle.std.proofs.lemmas.List.{length-take-le}
use Rattle.marshal_spec.specs.format.Prefix.{IsPrefix}
use Rattle.marshal_read.specs.Reader.{LeadsReader}
use Rattle.cmd_scan.specs.command.Last.{TakesBytes, HasValue}
use Rattle.cmd_scan.proofs.command.ScanCommandSearchLemmas.{some_taken}
use Rattle.cmd_scan.proofs.command.searching.Searching.take_some.Goals as goal

pub read_some-requires-clause-some : goal.read_some-requires-clause-some
read_some-requires-clause-some g c =
    let p = c.next_chunk-chunk.ensures in
    omega (arith, p.1, ap length p.3 ∙ length-take-le p.0 c.args.buffered.now p.2)

pub read_some-requires-clause-prefix : goal.read_some-requires-clause-prefix
read_some-requires-clause-prefix g c =
    subst (IsPrefix c.args.self.now.limit) (sym c.as_slice-held.ensures.value)
    c.requires.has.2.is_prefix

pub read_some-requires-clause-leads : goal.read_some-requires-clause-leads
read_some-requires-clause-leads g c =
    let w = c.args.self.now in
    subst (λ b. LeadsReader w.limit b w.reader) (sym c.as_slice-held.ensures.value)
    c.requires.has.2.leads

pub returns-clause-takes : goal.returns-clause-takes
returns-clause-takes g c = λ bytes output h.
    let w = c.args.self.now in
    let p = c.next_chunk-chunk.ensures in
    some_taken g.S.Searches.limit_by w.limit w.held.items w.reader w.at bytes output h
    c.args.buffered.now c.next_chunk-chunk.result.now p.0 p.2 p.3 c.read_some.new.reader
    c.in_ok-taken.taken
    (subst
    (λ b. TakesBytes w.limit b c.next_chunk-chunk.result.now c.read_some.new.reader c.in_ok-taken.taken)
    c.as_slice-held.ensures.value c.in_ok-taken.ensures.some) c.write.new.text.items c.in_ok-write.ensures

pub returns-clause-whole : goal.returns-clause-whole
returns-clause-whole g c =
    let w = c.args.self.now in
    subst (λ b. HasValue w.limit b c.read_some.new.reader c.in_ok-taken.taken)
    (ap (λ h. h ++ take c.in_ok-taken.taken.bytes c.next_chunk-chunk.result.now) c.as_slice-held.ensures.value
    ∙ sym c.in_ok-write.ensures) c.in_ok-taken.ensures.whole
