use Rattle.std.proofs.Common.{◌≡◌, ◌∙◌, Some, true, false, sym, subst, arith}
use Rattle.types_table.specs.type_table.Made.{table_of}
use Rattle.check_stream.specs.mismatch_search.Find.{IsFound}
use Rattle.check_stream.proofs.chunk_check.value_inspection.Inspecting.seek.Goals as goal

pub returns-else-found-count : goal.returns-else-found-count
returns-else-found-count c =
    let stopped = rw c.in-Found.is at c.in_ok-n.ensures in
    let both : Some stopped.0 ≡ Some c.in-Some.found = sym stopped.1 ∙ c.in-Some.is in
    let same : stopped.0 ≡ c.in-Some.found = cc both in
    (c.in-Some.found, c.in-Some.is, subst (IsFound (table_of c.args.table.now) c.args.limit c.in-Found.n c.args.bytes.now) same stopped.2, omega arith)

pub returns-else-not-is_prefix : goal.returns-else-not-is_prefix
returns-else-not-is_prefix c =
    let stopped = rw c.in-Truncated.is at c.in_ok-n.ensures in (
      c.if-not-is_prefix.ensures (table_of c.args.table.now) c.args.limit stopped.0 stopped.1,
      record {
        underway = λ begun. let both : false ≡ true = begun in cc both;
        sought = λ sought. stopped.0;
      },
    )
