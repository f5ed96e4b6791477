use Rattle.std.proofs.Common.{rules, ◌++◌, ◌<◌, ◌∙◌, length, sym, ap, subst, arith}
use Rattle.base_data.proofs.model.Numbers.{are_bytes}
use Rattle.marshal_spec.specs.format.Prefix.{IsPrefix}
use Rattle.types_table.specs.type_table.Made.{table_of}
use Rattle.check_stream.specs.chunk_check.Inspection.{IsInspecting}
use Rattle.check_stream.proofs.chunk_check.StreamCheckLemmas.{inspecting_longer, more_taken, missed_next}
use Rattle.check_stream.proofs.chunk_check.stream_check.StreamCheck.first.Goals as goal

pub inspect-requires : goal.inspect-requires
inspect-requires c = record {
  inspecting =
      let old = c.args.self.now in
      let table = table_of c.args.table.now in
      let chunk = c.args.chunk.now in
      subst (λ kept. IsInspecting table c.args.limit (kept ++ chunk) old.inspecting) c.requires.none (inspecting_longer table c.args.limit old.kept.items chunk old.inspecting c.requires.stream_check.inspecting);
}

pub returns-in_ok-extend_from_slice-in-More : goal.returns-in_ok-extend_from_slice-in-More
returns-in_ok-extend_from_slice-in-More c =
    let here = rw c.in-More.is at c.in_ok-n.ensures in
    let old = c.args.self.now in
    let table = table_of c.args.table.now in
    let chunk = c.args.chunk.now in
    more_taken table c.args.limit old _ chunk c.requires.stream_check.bytes (are_bytes chunk c.type_inv.chunk) c.in_ok-extend_from_slice-in-More.ensures.items
    (subst (λ kept. IsPrefix c.args.limit (kept ++ chunk)) (sym c.requires.none) here.0)
    (subst (λ kept. IsInspecting table c.args.limit (kept ++ chunk) c.inspect.new.self) (sym c.requires.none) here.1)

pub returns-in-Missed : goal.returns-in-Missed
returns-in-Missed c =
    let here = rw c.in-Missed.is at c.in_ok-n.ensures in
    let none = ap length c.requires.none in
    let some : 0 < c.in-Missed.n = search rules in
    missed_next (table_of c.args.table.now) c.args.limit c.args.self.now c.end-in-Missed.new.self c.args.chunk.now c.args.chunk.now c.in-Missed.n c.in-Missed.n here.0 (omega (arith, none)) (ap (λ kept. kept ++ c.args.chunk.now) (sym c.requires.none)) some
    (c.end-in-Missed.ensures.found ∙ here.1) here.2 here.3 c.end-in-Missed.ensures.none c.end-in-Missed.ensures.stream_check
