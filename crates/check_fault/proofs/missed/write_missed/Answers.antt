use Rattle.std.proofs.Common.{◌∙◌, List, ◌++◌, ap}
use Rattle.std.specs.Prelude.{codes, map}
use Rattle.std.proofs.lemmas.Result.{on_ok_weaker}
use Rattle.base_data.specs.model.PathText.{path_text}
use Rattle.check_stream.specs.mismatch_search.Judge.{summary_text}
use Rattle.check_stream.specs.declared.mismatch_search.way.Link.{Link}
use Rattle.check_stream.specs.mismatch_search.MismatchLine.{path_in}
use Rattle.check_fault.specs.FaultText.{text_at}
use Rattle.check_fault.proofs.ConflictTexts.{more}
use Rattle.check_fault.proofs.missed.write_missed.Goals as goal

pub returns : goal.returns
returns c =
    let found = c.args.found.now in
    let type = text_at c.args.table.now found.ty in
    let old = c.args.text.now.items in
    let a = path_text (path_in found) in
    let b = a ++ codes ": expected " in
    let d = b ++ type in
    let e = d ++ codes ", found " in
    let x1 = c.write_links.new.text.items in
    let x2 = c.write.new.text.items in
    let x3 = c.write_type.new.text.items in
    let x4 = c.write-2.new.text.items in
    let p1 = c.in_ok-write_links.ensures
    ∙ ap (λ (links : List Link). old ++ path_text (map (λ link. link.field) links)) c.as_slice.ensures.value in
    let p2 = more old a (codes ": expected ") x1 x2 p1 c.in_ok-write.ensures in
    let p3 = more old b type x2 x3 p2 c.in_ok-write_type.ensures in
    let p4 = more old d (codes ", found ") x3 x4 p3 c.in_ok-write-2.ensures in
    on_ok_weaker c.write_summary.result
    (λ write. more old e (summary_text found.summary) x4 c.write_summary.new.text.items p4 write)
    c.write_summary.ensures
