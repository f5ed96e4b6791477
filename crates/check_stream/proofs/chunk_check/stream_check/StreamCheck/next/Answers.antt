use Rattle.std.proofs.Common.{rules, ◌≡◌, ◌-◌, ◌∙◌, ◌<◌, length, sym, subst, arith}
use Rattle.base_data.proofs.model.Numbers.{are_bytes}
use Rattle.marshal_spec.specs.format.Prefix.{IsPrefix}
use Rattle.types_table.specs.type_table.Made.{table_of}
use Rattle.check_stream.specs.chunk_check.Inspection.{IsInspecting}
use Rattle.check_stream.proofs.chunk_check.StreamCheckLemmas.{inspecting_longer, more_taken, missed_next}
use Rattle.check_stream.proofs.chunk_check.stream_check.StreamCheck.next.Goals as goal

pub inspect-requires : goal.inspect-requires
inspect-requires c = record {
  inspecting =
      let old = c.args.self.now in
      let table = table_of c.args.table.now in
      subst (λ bytes. IsInspecting table c.args.limit bytes old.inspecting) (sym (c.as_slice.ensures.value ∙ c.in_ok-extend_from_slice.ensures.items))
      (inspecting_longer table c.args.limit old.kept.items c.args.chunk.now old.inspecting c.requires.stream_check.inspecting);
}

pub returns-in-More : goal.returns-in-More
returns-in-More c =
    let here = rw c.in-More.is at c.in_ok-n.ensures in
    let all = c.as_slice.ensures.value ∙ c.in_ok-extend_from_slice.ensures.items in
    more_taken (table_of c.args.table.now) c.args.limit c.args.self.now _ c.args.chunk.now c.requires.stream_check.bytes (are_bytes c.args.chunk.now c.type_inv.chunk) c.in_ok-extend_from_slice.ensures.items
    (subst (IsPrefix c.args.limit) all here.0)
    (subst (λ bytes. IsInspecting (table_of c.args.table.now) c.args.limit bytes c.inspect.new.self) all here.1)

pub returns-in-Missed : goal.returns-in-Missed
returns-in-Missed c =
    let here = rw c.in-Missed.is at c.in_ok-n.ensures in
    let before : c.len-before.result ≡ length c.args.self.now.kept.items = search rules in
    let some : c.len-before.result < c.in-Missed.n = search rules in
    missed_next (table_of c.args.table.now) c.args.limit c.args.self.now c.end-in-Missed.new.self c.args.chunk.now _ c.in-Missed.n (c.in-Missed.n - c.len-before.result) here.0 (omega (arith, before, some)) (c.as_slice.ensures.value ∙ c.in_ok-extend_from_slice.ensures.items)
    (omega (arith, some)) (c.end-in-Missed.ensures.found ∙ here.1) here.2 here.3 c.end-in-Missed.ensures.none c.end-in-Missed.ensures.stream_check
