use Rattle.std.proofs.Common.{rules, ℕ, List, [], Some, ◌+◌, ◌<◌, ◌^◌, length, arith, sym, subst, subst₂, append-nil}
use Rattle.marshal_read.specs.declared.remaining_room.RemainingRoom.{RemainingRoom}
use Rattle.marshal_read.specs.Build.{Bounded}
use Rattle.marshal_read.specs.Chunks.{LeadsAs}
use Rattle.marshal_read.specs.Left.{LeavesRoom, TakesAll}
use Rattle.marshal_read.proofs.CommonLemmas.{one_more_taken}
use Rattle.marshal_read.proofs.ReaderLeftLemmas.{still_open}
use Rattle.marshal_read.proofs.common.take_all.Goals as goal
use Rattle.marshal_read.proofs.common.take_all.Goals.{After-take_one-n}

pub loop-at-init : goal.loop-at-init
loop-at-init c = λ limit taken h.
    (c.args.first.now, c.requires.leaves, (omega arith, λ last. absurd (omega (arith, c.requires.«open», last)), subst (λ xs. LeadsAs (Some c.args.first.now) limit xs c.args.builder.now []) (sym (append-nil taken)) h))

pub take_one-n-requires-clause-open : goal.take_one-n-requires-clause-open
take_one-n-requires-clause-open c =
    let l = c.requires.leads in
    let t = c.loop-at.invariant l.0 l.1 l.2 in
    still_open c.args.first.now t.0 (0 + c.loop-at.at) (length c.args.bytes.now) c.loop-at.left t.1 (λ last. (t.2.1 last).1) c.requires.within (omega arith)

pub take_one-n-requires-clause-stands : goal.take_one-n-requires-clause-stands
take_one-n-requires-clause-stands c =
    let l = c.requires.leads in
    let t = c.loop-at.invariant l.0 l.1 l.2 in
    let w = t.2.2 in
    (0 + c.loop-at.at, w.0, w.1, t.0, record { leaves = t.1; builds = w.2.builds })

pub returns-then-n-eq0 : goal.returns-then-n-eq0
returns-then-n-eq0 c = λ limit taken h.
    let t = c.loop-at.invariant limit taken h in
    let w = t.2.2 in
    let same = (c.take_one-n.ensures (0 + c.loop-at.at) w.0 w.1 t.0 (record { leaves = t.1; builds = w.2.builds })).0 c.if-n-eq0.true in
    subst₂ (λ (left : RemainingRoom) (state : Bounded). TakesAll c.args.first.now 0 limit taken c.args.bytes.now left state c.loop-at.at) (sym same.0) (sym same.1) t

-- If one more token is read, then the bytes read so far and the token lead to the new state.
moved : (c : After-take_one-n) → 0 < c.take_one-n.result → (limit : ℕ) (taken : List ℕ) → LeadsAs (Some c.args.first.now) limit taken c.args.builder.now []
    → TakesAll c.args.first.now 0 limit taken c.args.bytes.now c.take_one-n.new.left c.take_one-n.new.builder (c.loop-at.at + c.take_one-n.result)
moved c some limit taken h =
    let t = c.loop-at.invariant limit taken h in
    let w = t.2.2 in
    let m = (c.take_one-n.ensures (0 + c.loop-at.at) w.0 w.1 t.0 (record { leaves = t.1; builds = w.2.builds })).1 some in
    let is_open = still_open c.args.first.now t.0 (0 + c.loop-at.at) (length c.args.bytes.now) c.loop-at.left t.1 (λ last. (t.2.1 last).1) c.requires.within (omega arith) in
    let further : LeavesRoom c.args.first.now (0 + (c.loop-at.at + c.take_one-n.result)) m.0 c.take_one-n.new.left = subst (λ k. LeavesRoom c.args.first.now k m.0 c.take_one-n.new.left) (omega arith) m.1 in
    (m.0, further, one_more_taken limit taken c.args.bytes.now t.0 m.0 c.loop-at.builder c.take_one-n.new.builder c.loop-at.at c.take_one-n.result (omega (arith, is_open, t.1.pending)) t.2 some m.2)

pub overflow_add-at : goal.overflow_add-at
overflow_add-at c =
    let l = c.requires.leads in
    let m = moved (goal.at.overflow_add-at c).After-take_one-n (omega arith) l.0 l.1 l.2 in
    let short : length c.args.bytes.now < 2 ^ 64 = search rules in
    omega (arith, m.2.0)

pub loop-at-preserved : goal.loop-at-preserved
loop-at-preserved c = λ limit taken h. moved (goal.at.loop-at-preserved c).After-take_one-n (omega arith) limit taken h
