use Rattle.std.proofs.Common.{◌∙◌, ◌-◌, length, refl, sym, ap, subst, arith}
use Rattle.check_stream.proofs.checker.CheckerChunkLemmas.{rest_from}
use Rattle.std.proofs.lemmas.List.{length-drop}
use Rattle.types_table.specs.type_table.Made.{table_of}
use Rattle.check_stream.specs.checker.Fast.{held}
use Rattle.check_stream.specs.checker.CheckerState.{TookFirst, LeadsPass, IsLeft}
use Rattle.check_stream.specs.declared.checker.open_positions.BlockPositions.TheVariants as opens
use Rattle.check_stream.specs.declared.checker.check_state.CheckState.{CheckState}
use Rattle.check_stream.proofs.checker.CheckerRunLemmas.{leads_first, leads_same, left_further}
use Rattle.check_stream.proofs.checker.listed_tokens.run_listed.Goals as goal

pub returns-in_default : goal.returns-in_default
returns-in_default c =
    let begun : CheckState = held c.innermost-now.result c.innermost-now.new.waiting c.listed.state.types c.listed.words in
    let from = leads_same (table_of c.args.table.now) c.args.limit c.args.bytes.now c.args.head.now c.args.start (length c.args.bytes.now - length c.listed.left.now) c.args.marks.now c.args.notes.now (held c.listed.now c.listed.state.positions.waiting c.listed.state.types c.listed.words) begun c.listed.invariant.0.leads refl c.innermost-now.ensures refl in
    record {
      leads = subst (λ (s : CheckState). IsLeft (table_of c.args.table.now) c.args.limit c.args.bytes.now c.args.head.now c.args.start c.args.marks.now c.args.notes.now s c.listed.left.now) (sym c.hold.ensures)
          record { rest_is = c.listed.invariant.0.rest_is; short = c.listed.invariant.0.short; leads = from };
      fewer = c.listed.invariant.1;
    }

pub returns-in_default-fast_listed-clause-leads : goal.returns-in_default-fast_listed-clause-leads
returns-in_default-fast_listed-clause-leads c =
    let begun : CheckState = held c.innermost-now.result c.innermost-now.new.waiting c.listed.state.types c.listed.words in
    let from = leads_same (table_of c.args.table.now) c.args.limit c.args.bytes.now c.args.head.now c.args.start (length c.args.bytes.now - length c.listed.left.now) c.args.marks.now c.args.notes.now (held c.listed.now c.listed.state.positions.waiting c.listed.state.types c.listed.words) begun c.listed.invariant.0.leads refl c.innermost-now.ensures refl in
    let same = ap (λ now. held now c.innermost-now.new.waiting c.listed.state.types c.listed.words) c.in-Listed.is ∙ sym c.in_default-fast_listed.ensures ∙ ap (λ now. held now c.fast_listed.new.waiting c.fast_listed.new.types c.fast_listed.new.words) (sym c.in-Listed.is) ∙ sym c.hold-in_default-fast_listed.ensures in
    subst (λ (s : CheckState). IsLeft (table_of c.args.table.now) c.args.limit c.args.bytes.now c.args.head.now c.args.start c.args.marks.now c.args.notes.now s c.listed.left.now) same
    record { rest_is = c.listed.invariant.0.rest_is; short = c.listed.invariant.0.short; leads = from }

pub listed-preserved : goal.listed-preserved
listed-preserved c =
    let begun : CheckState = held c.innermost-now.result c.innermost-now.new.waiting c.listed.state.types c.listed.words in
    let from = leads_same (table_of c.args.table.now) c.args.limit c.args.bytes.now c.args.head.now c.args.start (length c.args.bytes.now - length c.listed.left.now) c.args.marks.now c.args.notes.now (held c.listed.now c.listed.state.positions.waiting c.listed.state.types c.listed.words) begun c.listed.invariant.0.leads refl c.innermost-now.ensures refl in
    let open' : CheckState = held (opens.Listed c.in-Listed.positions) c.innermost-now.new.waiting c.listed.state.types c.listed.words in
    let here = subst (λ now. LeadsPass (table_of c.args.table.now) c.args.limit c.args.bytes.now c.args.head.now c.args.start (length c.args.bytes.now - length c.listed.left.now) c.args.marks.now c.args.notes.now (held now c.innermost-now.new.waiting c.listed.state.types c.listed.words)) c.in-Listed.is from in
    let last : CheckState = held c.in-Some.next c.fast_listed.new.waiting c.fast_listed.new.types c.fast_listed.new.words in
    let prefix = subst (λ rest. TookFirst (table_of c.args.table.now) c.args.head.now.objects open' last rest c.in-Some.n) c.listed.invariant.0.rest_is c.in-Some.ensures in
    let long = ap length (rest_from c.in-Some.n c.listed.left.now) ∙ length-drop c.in-Some.n c.listed.left.now in
    let before = c.listed.invariant.1 in (
      left_further (table_of c.args.table.now) c.args.limit c.args.bytes.now c.args.head.now c.args.start c.in-Some.n c.args.marks.now c.args.notes.now last c.listed.left.now c.listed.invariant.0.rest_is
          (leads_first (table_of c.args.table.now) c.args.limit c.args.bytes.now c.args.head.now c.args.start (length c.args.bytes.now - length c.listed.left.now) c.in-Some.n c.args.marks.now c.args.notes.now open' last here prefix),
      omega (arith, long, before),
    )
