use Rattle.std.proofs.Common.{rules, ◌<◌, take, ap, subst}
use Rattle.types_table.specs.type_table.Made.{table_of}
use Rattle.check_stream.specs.checker.OpenPositions.{need_of}
use Rattle.check_stream.specs.checker.Again.{IsReference, IsKnown}
use Rattle.check_stream.proofs.checker.CheckerChunkLemmas.{rest_from}
use Rattle.check_stream.proofs.checker.Weaker.{if_true}
use Rattle.check_stream.proofs.checker.back.back.Goals as goal

pub returns-then-known : goal.returns-then-known
returns-then-known c =
    let stated : 0 < c.args.stated = search rules in
    let known = if_true c.in_ok-known.known c.if-known.true c.in_ok-known.ensures in
    λ some. record {
      type = c.in-Type.ty;
      is_asked = ap need_of c.in-Type.is;
      offset = c.in-Some.offset;
      some = stated;
      reference = subst (λ rest. IsReference rest c.in-Some.offset c.in-Some.n) (rest_from c.args.at c.args.bytes.now) c.in-Some.ensures;
      known = subst (λ types. IsKnown (table_of c.args.table.now) types (take c.args.at c.args.bytes.now) c.args.marks.now c.args.notes.now.items c.is_known.new.notes.items c.in-Type.ty c.in-Some.offset) c.as_slice.ensures.value known;
    }
