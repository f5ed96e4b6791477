use Rattle.std.proofs.Common.{rules, ℕ, List, [], Some, ◌+◌, ◌<◌, ◌^◌, length, arith, sym, subst, append-nil}
use Rattle.marshal_read.specs.declared.remaining_room.RemainingRoom.{RemainingRoom}
use Rattle.marshal_read.specs.Build.{Bounded}
use Rattle.marshal_read.specs.Chunks.{LeadsAs, TakesCommon}
use Rattle.marshal_read.specs.Left.{LeavesRoom, RunsTokens, HasPlenty}
use Rattle.marshal_read.proofs.CommonLemmas.{one_more_taken}
use Rattle.marshal_read.proofs.ReaderRunLemmas.{IsUnderway}
use Rattle.marshal_read.proofs.token_runs.run_all.Goals as goal
use Rattle.marshal_read.proofs.token_runs.run_all.Goals.{After-run_one-n}

pub loop-at-init : goal.loop-at-init
loop-at-init c = (
  c.requires.«open»,
  λ limit taken from h leaves runs plenty. (
    c.args.first.now,
    from,
    leaves,
    runs,
    (omega (arith, plenty.0), omega (arith, plenty.1), omega (arith, plenty.2)),
    (omega arith, λ last. absurd (omega (arith, c.requires.«open», leaves.pending, runs.pending, last)), subst (λ xs. LeadsAs (Some c.args.first.now) limit xs c.args.builder.now []) (sym (append-nil taken)) h),
  ),
)

pub run_one-n-requires-clause-runs : goal.run_one-n-requires-clause-runs
run_one-n-requires-clause-runs c =
    let l = c.requires.runs in
    let t = c.loop-at.invariant.1 l.0 l.1 l.2 l.3 l.4 l.5 l.6 in
    let w = t.5.2 in
    (0 + c.loop-at.at, w.0, w.1, t.0, l.2, t.1, record { leaves = t.2; builds = w.2.builds }, t.3, (omega (arith, t.4.0), omega (arith, t.4.1), omega (arith, t.4.2)))

pub returns-then-n-eq0 : goal.returns-then-n-eq0
returns-then-n-eq0 c = λ limit taken from h leaves runs plenty.
    let t = c.loop-at.invariant.1 limit taken from h leaves runs plenty in
    let w = t.5.2 in
    let same = (c.run_one-n.ensures (0 + c.loop-at.at) w.0 w.1 t.0 from t.1 (record { leaves = t.2; builds = w.2.builds }) t.3 (omega (arith, t.4.0), omega (arith, t.4.1), omega (arith, t.4.2))).0 c.if-n-eq0.true in
    (t.0, t.1, t.2, subst (RunsTokens from t.1) (sym same.0) t.3, subst (λ (state : Bounded). TakesCommon limit taken c.args.bytes.now t.0 state c.loop-at.at) (sym same.1) t.5)

pub returns : goal.returns
returns c = λ limit taken from h leaves runs plenty.
    let t = c.loop-at.invariant.1 limit taken from h leaves runs plenty in
    (t.0, t.1, t.2, t.3, t.5)

-- If one more token is read, then the tokens read so far and the token lead to the new state of the
-- run.
moved : (c : After-run_one-n) → 0 < c.run_one-n.result → (limit : ℕ) (taken : List ℕ) (from : RemainingRoom) → LeadsAs (Some c.args.first.now) limit taken c.args.builder.now []
    → LeavesRoom c.args.first.now 0 c.args.first.now from → RunsTokens from from c.args.begun → HasPlenty from c.args.most
    → (0 < c.run_one-n.new.now.pending) × IsUnderway c.args.first.now limit taken c.args.bytes.now from c.run_one-n.new.now c.run_one-n.new.builder (c.loop-at.at + c.run_one-n.result) c.args.most
moved c some limit taken from h leaves runs plenty =
    let t = c.loop-at.invariant.1 limit taken from h leaves runs plenty in
    let w = t.5.2 in
    let m = (c.run_one-n.ensures (0 + c.loop-at.at) w.0 w.1 t.0 from t.1 (record { leaves = t.2; builds = w.2.builds }) t.3 (omega (arith, t.4.0), omega (arith, t.4.1), omega (arith, t.4.2))).1 some in
    let is_open : 0 < t.0.pending = omega (arith, t.2.pending, t.3.pending, c.loop-at.invariant.0) in
    let further : LeavesRoom c.args.first.now (0 + (c.loop-at.at + c.run_one-n.result)) m.0 m.1 = subst (λ k. LeavesRoom c.args.first.now k m.0 m.1) (omega arith) m.2 in (
      m.5,
      (
        m.0,
        m.1,
        further,
        m.3,
        (omega (arith, t.4.0, m.4.slack), omega (arith, t.4.1, m.4.w32), omega (arith, t.4.2, m.4.w64)),
        one_more_taken limit taken c.args.bytes.now t.0 m.0 c.loop-at.builder c.run_one-n.new.builder c.loop-at.at c.run_one-n.result is_open t.5 some m.6,
      ),
    )

pub overflow_add-at : goal.overflow_add-at
overflow_add-at c =
    let l = c.requires.runs in
    let m = moved (goal.at.overflow_add-at c).After-run_one-n (omega arith) l.0 l.1 l.2 l.3 l.4 l.5 l.6 in
    let short : length c.args.bytes.now < 2 ^ 64 = search rules in
    omega (arith, m.1.5.0)

pub loop-at-preserved : goal.loop-at-preserved
loop-at-preserved c =
    let l = c.requires.runs in
    let d = (goal.at.loop-at-preserved c).After-run_one-n in
    ((moved d (omega arith) l.0 l.1 l.2 l.3 l.4 l.5 l.6).0, λ limit taken from h leaves runs plenty. (moved d (omega arith) limit taken from h leaves runs plenty).1)
