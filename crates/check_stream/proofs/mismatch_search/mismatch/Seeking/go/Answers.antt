use Rattle.std.proofs.Common.{rules, ◌≡◌, ◌<◌, ◌∷◌, [], length, take, drop, refl, sym, subst}
use Rattle.check_stream.specs.mismatch_theory.PassedBut.{values_at}
use Rattle.types_table.specs.type_table.Made.{table_of}
use Rattle.check_stream.proofs.checker.CheckerChunkLemmas.{rest_from}
use Rattle.check_stream.proofs.checker.Weaker.{if_true}
use Rattle.check_stream.specs.declared.mismatch_search.mismatch.Finding.{Finding}
use Rattle.marshal_codec.specs.token.Summary.{IsSummaryBy}
use Rattle.check_stream.specs.mismatch_search.SearchTrail.{position_of, trail_in, way_positions}
use Rattle.check_stream.specs.mismatch_search.Find.{LeadsSearch, RunsFastBy}
use Rattle.check_stream.proofs.mismatch_search.MismatchSearchFindLemmas.{finds_from, finds_moved, finds_marked, finds_further, finds_followed, found_end, some_open}
use Rattle.check_stream.proofs.mismatch_search.ComesLemmas.{passes_follows}
use Rattle.check_stream.proofs.mismatch_search.mismatch.Seeking.go.Goals as goal

pub tokens-init : goal.tokens-init
tokens-init c =
    let s = c.args.self.now in
    finds_moved (table_of c.args.table.now) c.args.limit c.args.bytes.now s.head s.start s.at [] [] s.finding _ c.requires.sought c.requires.sought.held.is_way refl refl refl refl refl refl refl

pub end-requires : goal.end-requires
end-requires c =
    let s = c.tokens.self in
    finds_from (table_of c.args.table.now) c.args.limit c.args.bytes.now s.head s.start s.at [] s.finding c.tokens.invariant

pub returns-then-end : goal.returns-then-end
returns-then-end c =
    let s = c.tokens.self in
    let ready : Finding = record s.finding { way = c.ready.new.self } in
    let table = table_of c.args.table.now in
    let here = finds_moved table c.args.limit c.args.bytes.now s.head s.start s.at [] [] s.finding ready c.tokens.invariant c.ready.ensures.is_way (sym c.ready.ensures.same) refl refl refl refl refl refl in
    let ends = if_true c.end.result c.if-end.true c.end.ensures in
    (ends.0, ends.1.its, found_end table c.args.limit c.args.bytes.now s.head s.start s.at ready ends.0 c.holds.ensures.lawful.lawful here c.if-not-ready.ensures.ready ends.1)

pub tokens-preserved-in-Took : goal.tokens-preserved-in-Took
tokens-preserved-in-Took c =
    let s = c.tokens.self in
    let ready : Finding = record s.finding { way = c.ready.new.self } in
    let table = table_of c.args.table.now in
    let bytes = c.args.bytes.now in
    let here = finds_moved table c.args.limit bytes s.head s.start s.at [] [] s.finding ready c.tokens.invariant c.ready.ensures.is_way (sym c.ready.ensures.same) refl refl refl refl refl refl in
    let ran_fast = subst (λ rest. RunsFastBy table rest ready c.run_fast.new.self c.in_ok-len.field-0) (rest_from s.at bytes) c.in_ok-len.ensures in
    let took = subst (RunsFastBy table (drop s.at bytes) ready c.run_fast.new.self) c.in-Took.is ran_fast in
    finds_followed table c.args.limit bytes s.head s.start s.at c.in-Took.len ready c.run_fast.new.self took.0 here took.1 (took.2 s.head.objects (take s.at bytes))

pub returns-in_default : goal.returns-in_default
returns-in_default c =
    let s = c.tokens.self in
    let ready : Finding = record s.finding { way = c.ready.new.self } in
    let table = table_of c.args.table.now in
    let bytes = c.args.bytes.now in
    let here = finds_moved table c.args.limit bytes s.head s.start s.at [] [] s.finding ready c.tokens.invariant c.ready.ensures.is_way (sym c.ready.ensures.same) refl refl refl refl refl refl in
    let ran_fast = subst (λ rest. RunsFastBy table rest ready c.run_fast.new.self c.in_ok-len.field-0) (rest_from s.at bytes) c.in_ok-len.ensures in
    let unchanged : c.run_fast.new.self ≡ ready = subst (RunsFastBy table (drop s.at bytes) ready c.run_fast.new.self) c.in-Kept.is ran_fast in
    let still = subst (LeadsSearch table c.args.limit bytes s.head s.start s.at []) (sym unchanged) here in
    (still, subst (λ f. 0 < values_at (way_positions f.way)) (sym unchanged) (some_open c.ready.new.self c.if-not-ready.ensures.ready))

pub tokens-preserved-then-pass : goal.tokens-preserved-then-pass
tokens-preserved-then-pass c =
    let s = c.tokens.self in
    let ready : Finding = record s.finding { way = c.ready.new.self } in
    let table = table_of c.args.table.now in
    let bytes = c.args.bytes.now in
    let here = finds_moved table c.args.limit bytes s.head s.start s.at [] [] s.finding ready c.tokens.invariant c.ready.ensures.is_way (sym c.ready.ensures.same) refl refl refl refl refl refl in
    let ran_fast = subst (λ rest. RunsFastBy table rest ready c.run_fast.new.self c.in_ok-len.field-0) (rest_from s.at bytes) c.in_ok-len.ensures in
    let unchanged : c.run_fast.new.self ≡ ready = subst (RunsFastBy table (drop s.at bytes) ready c.run_fast.new.self) c.in-Kept.is ran_fast in
    let still = subst (LeadsSearch table c.args.limit bytes s.head s.start s.at []) (sym unchanged) here in
    let summary = c.in-Token.first in
    let len = c.in-Token.len in
    let by = subst (λ rest. IsSummaryBy rest summary len) (rest_from s.at bytes) c.in-Token.ensures.0 in
    finds_followed table c.args.limit bytes s.head s.start s.at len c.run_fast.new.self c.pass.new.self summary still by
    (passes_follows table s.head.objects (take s.at bytes) c.run_fast.new.self c.pass.new.self summary (c.pass.ensures.passed c.if-pass.true))

pub tokens-preserved : goal.tokens-preserved
tokens-preserved c =
    let s = c.tokens.self in
    let ready : Finding = record s.finding { way = c.ready.new.self } in
    let table = table_of c.args.table.now in
    let bytes = c.args.bytes.now in
    let here = finds_moved table c.args.limit bytes s.head s.start s.at [] [] s.finding ready c.tokens.invariant c.ready.ensures.is_way (sym c.ready.ensures.same) refl refl refl refl refl refl in
    let ran_fast = subst (λ rest. RunsFastBy table rest ready c.run_fast.new.self c.in_ok-len.field-0) (rest_from s.at bytes) c.in_ok-len.ensures in
    let unchanged : c.run_fast.new.self ≡ ready = subst (RunsFastBy table (drop s.at bytes) ready c.run_fast.new.self) c.in-Kept.is ran_fast in
    let still = subst (LeadsSearch table c.args.limit bytes s.head s.start s.at []) (sym unchanged) here in
    let kept = c.pass.new.self in
    let marked : Finding = record kept { seconds = c.mark.new.self } in
    let taken : Finding = record marked { way = c.take-asked.new.self } in
    let same : kept ≡ c.run_fast.new.self = c.if-pass.ensures.kept (λ passed. absurd (cc)) in
    let many : c.len-made.result ≡ length kept.types.items = search rules in
    let asked = c.take-asked.result in
    let summary = c.in-Token.first in
    let len = c.in-Token.len in
    let there = subst (LeadsSearch table c.args.limit bytes s.head s.start s.at []) (sym same) still in
    let noted = finds_marked table c.args.limit bytes s.head s.start s.at c.len-made.result kept c.mark.new.self there many c.in_ok-mark.ensures in
    let first = finds_moved table c.args.limit bytes s.head s.start s.at [] (position_of asked (trail_in c.take-asked.new.self) ∷ []) marked taken noted c.take-asked.ensures.is_way c.take-asked.ensures.first refl refl refl refl refl refl in
    let by = subst (λ rest. IsSummaryBy rest summary len) (rest_from s.at bytes) c.in-Token.ensures.0 in
    finds_further table c.args.limit bytes s.head s.start s.at len taken c.come.new.self asked summary first by (if_true c.in_ok-came.came c.if-not-came.false c.in_ok-came.ensures)
