use Rattle.std.proofs.Common.{rules, ◌≡◌, ◌∙◌, ◌∷◌, ◌++◌, ◌-◌, length, ap, subst, subst₂, refl, arith}
use Rattle.types_table.specs.type_table.Made.{table_of}
use Rattle.check_stream.specs.checker.OpenPositions.{need_of}
use Rattle.check_stream.specs.checker.Fast.{held}
use Rattle.check_stream.specs.checker.CheckerState.{types_in, needs_in, IsLeft, IsMarked, IsSpent, TookPrefix, TookTurn}
use Rattle.check_stream.specs.declared.checker.check_state.CheckState.{CheckState}
use Rattle.check_stream.proofs.checker.CheckerRunLemmas.{leads_from, leads_marked, leads_further, leads_turn, leads_end, leads_again, some_need, left_further}
use Rattle.check_stream.proofs.checker.whole.run.Goals as goal

pub is_spent-requires : goal.is_spent-requires
is_spent-requires c = leads_from (table_of c.args.table.now) c.args.limit c.args.bytes.now c.args.head.now c.args.start (length c.args.bytes.now - length c.take_listed-rest.result.now) _ _ c.take_listed-rest.new.state c.take_listed-rest.ensures.leads.leads

pub returns-then-is_spent : goal.returns-then-is_spent
returns-then-is_spent c =
    let state = c.take_listed-rest.new.state in
    let many : c.len-objects.result ≡ length (types_in state) = search rules in
    leads_end (table_of c.args.table.now) c.args.limit c.args.bytes.now c.args.head.now c.args.start (length c.args.bytes.now - length c.take_listed-rest.result.now) _ _ state c.holds.ensures.lawful.lawful c.take_listed-rest.ensures.leads.leads c.in_default.ensures
    (subst (λ n. IsSpent c.args.head.now c.args.start (length c.args.bytes.now - length c.take_listed-rest.result.now) state.words n) many c.if-is_spent.ensures)

pub tokens-preserved-in-Some-fast : goal.tokens-preserved-in-Some-fast
tokens-preserved-in-Some-fast c =
    let left = subst₂ (λ marks notes. IsLeft (table_of c.args.table.now) c.args.limit c.args.bytes.now c.args.head.now c.args.start marks notes c.take_listed-rest.new.state c.take_listed-rest.result.now) c.as_slice.ensures.value c.as_slice-in-tokens.ensures.value c.take_listed-rest.ensures.leads in
    let middle : CheckState = held c.in-Some.others c.first_position.new.waiting c.take_listed-rest.new.state.types c.take_listed-rest.new.state.words in
    let last : CheckState = held c.in-Some-fast.next c.fast.new.waiting c.fast.new.types c.fast.new.words in
    let prefix = subst (λ rest. TookPrefix (table_of c.args.table.now) c.args.head.now.objects middle last (need_of c.in-Some.asked) rest c.in-Some-fast.n) left.rest_is c.in-Some-fast.ensures in
    left_further (table_of c.args.table.now) c.args.limit c.args.bytes.now c.args.head.now c.args.start c.in-Some-fast.n c.tokens.marks.items c.tokens.notes.items last c.take_listed-rest.result.now left.rest_is
    (leads_further (table_of c.args.table.now) c.args.limit c.args.bytes.now c.args.head.now c.args.start (length c.args.bytes.now - length c.take_listed-rest.result.now) c.in-Some-fast.n c.tokens.marks.items c.tokens.notes.items c.take_listed-rest.new.state middle last (need_of c.in-Some.asked) left.leads refl c.in-Some.ensures refl prefix)

pub tokens-preserved : goal.tokens-preserved
tokens-preserved c =
    let left = subst₂ (λ marks notes. IsLeft (table_of c.args.table.now) c.args.limit c.args.bytes.now c.args.head.now c.args.start marks notes c.take_listed-rest.new.state c.take_listed-rest.result.now) c.as_slice.ensures.value c.as_slice-in-tokens.ensures.value c.take_listed-rest.ensures.leads in
    let middle : CheckState = held c.in-Some.others c.first_position.new.waiting c.take_listed-rest.new.state.types c.take_listed-rest.new.state.words in
    let given : CheckState = held c.in-Some.others c.fast.new.waiting c.fast.new.types c.fast.new.words in
    let kept : given ≡ middle = c.in_default-fast.ensures in
    let own : c.len.result ≡ length c.fast.new.types.items = search rules in
    let many : c.len.result ≡ length (types_in c.take_listed-rest.new.state) = own ∙ ap (λ (s : CheckState). length (types_in s)) kept in
    let marked = subst (λ n. IsMarked c.tokens.marks.items (length c.args.bytes.now - length c.take_listed-rest.result.now) n c.mark.new.marks.items) many c.in_ok-mark.ensures in
    let took = subst (λ marks. TookTurn (table_of c.args.table.now) c.args.head.now.objects given c.turn.new.state (need_of c.in-Some.asked) c.args.bytes.now marks c.tokens.notes.items c.turn.new.notes.items (length c.args.bytes.now - length c.take_listed-rest.result.now) c.in_ok-n.n) c.as_slice-in-tokens-2.ensures.value (c.in_ok-n.ensures (omega (arith, c.if-n-eq0.false))) in
    left_further (table_of c.args.table.now) c.args.limit c.args.bytes.now c.args.head.now c.args.start c.in_ok-n.n c.mark.new.marks.items c.turn.new.notes.items c.turn.new.state c.take_listed-rest.result.now left.rest_is
    (leads_turn (table_of c.args.table.now) c.args.limit c.args.bytes.now c.args.head.now c.args.start (length c.args.bytes.now - length c.take_listed-rest.result.now) c.in_ok-n.n c.mark.new.marks.items c.tokens.notes.items c.turn.new.notes.items c.take_listed-rest.new.state middle c.turn.new.state (need_of c.in-Some.asked)
    (leads_marked (table_of c.args.table.now) c.args.limit c.args.bytes.now c.args.head.now c.args.start (length c.args.bytes.now - length c.take_listed-rest.result.now) c.tokens.marks.items c.mark.new.marks.items c.tokens.notes.items c.take_listed-rest.new.state marked left.leads)
    refl c.in-Some.ensures refl (subst (λ (s : CheckState). TookTurn (table_of c.args.table.now) c.args.head.now.objects s c.turn.new.state (need_of c.in-Some.asked) c.args.bytes.now c.mark.new.marks.items c.tokens.notes.items c.turn.new.notes.items (length c.args.bytes.now - length c.take_listed-rest.result.now) c.in_ok-n.n) kept took))

pub returns-then-is_truncated : goal.returns-then-is_truncated
returns-then-is_truncated c =
    let left = subst₂ (λ marks notes. IsLeft (table_of c.args.table.now) c.args.limit c.args.bytes.now c.args.head.now c.args.start marks notes c.take_listed-rest.new.state c.take_listed-rest.result.now) c.as_slice.ensures.value c.as_slice-in-tokens.ensures.value c.take_listed-rest.ensures.leads in
    let middle : CheckState = held c.in-Some.others c.first_position.new.waiting c.take_listed-rest.new.state.types c.take_listed-rest.new.state.words in
    let given : CheckState = held c.in-Some.others c.fast.new.waiting c.fast.new.types c.fast.new.words in
    let kept : given ≡ middle = c.in_default-fast.ensures in
    let last : CheckState = record { positions = c.open.new.self; types = c.fast.new.types; words = c.fast.new.words } in
    let needs : needs_in last ≡ need_of c.in-Some.asked ∷ needs_in given = c.in_ok-open.ensures ∙ ap (λ ns. ns ++ needs_in given) c.again.ensures in
    let same : needs_in last ≡ need_of c.in-Some.asked ∷ needs_in middle = needs ∙ ap (λ (s : CheckState). need_of c.in-Some.asked ∷ needs_in s) kept in (
      leads_again (table_of c.args.table.now) c.args.limit c.args.bytes.now c.args.head.now c.args.start (length c.args.bytes.now - length c.take_listed-rest.result.now) c.tokens.marks.items c.tokens.notes.items c.take_listed-rest.new.state middle last (need_of c.in-Some.asked) left.leads
          refl c.in-Some.ensures refl (ap (λ (s : CheckState). types_in s) kept) same (ap (λ (s : CheckState). s.words) kept),
      some_need (needs_in last) (need_of c.in-Some.asked) (needs_in middle) same,
    )
