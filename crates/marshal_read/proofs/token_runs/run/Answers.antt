use Rattle.std.proofs.Common.{rules, ℕ, List, [], Some, ◌+◌, ◌-◌, ◌++◌, ◌≤◌, take, sym, subst, subst₂}
use Rattle.marshal_read.specs.Chunks.{LeadsAs}
use Rattle.marshal_read.specs.Left.{LeavesRoom, RunsAll, IsAfter}
use Rattle.marshal_read.proofs.ReaderRunLemmas.{run_begins, run_ends}
use Rattle.marshal_read.proofs.token_runs.run.Goals as goal
use Rattle.marshal_read.proofs.token_runs.run.Goals.{After-words}

pub run_all-n-requires-clause-runs : goal.run_all-n-requires-clause-runs
run_all-n-requires-clause-runs c =
    let l = c.requires.leads in
    (l.0, l.1, c.args.left.now, l.2, c.requires.leaves, run_begins c.args.left.now c.requires.short, search rules)

-- The totals at the end of the run exist.
reached : (c : After-words) (limit : ℕ) (taken : List ℕ) → LeadsAs (Some c.args.first.now) limit taken c.args.builder.now []
    → RunsAll c.args.first.now limit taken c.args.bytes.now c.args.left.now c.run_all-n.result.1 c.run_all-n.new.builder c.run_all-n.result.0
reached c limit taken h = c.run_all-n.ensures limit taken c.args.left.now h c.requires.leaves (run_begins c.args.left.now c.requires.short) (search rules)

-- The room that the run consumed is the number of bytes and the number of words that the run added.
spent : (c : After-words) (limit : ℕ) (taken : List ℕ) (h : LeadsAs (Some c.args.first.now) limit taken c.args.builder.now [])
    → (c.words-words.result ≤ c.words.result) × IsAfter c.args.left.now (reached c limit taken h).1 c.run_all-n.result.1 c.run_all-n.result.0 (c.words.result - c.words-words.result)
spent c limit taken h =
    let t = reached c limit taken h in
    let e = run_ends c.args.first.now t.0 c.run_all-n.result.0 limit (taken ++ take c.run_all-n.result.0 c.args.bytes.now) taken c.args.left.now t.1 c.run_all-n.result.1 c.args.builder.now c.run_all-n.new.builder
    h t.4.2 c.requires.leaves t.2 t.3 in
    subst₂ (λ (a b : ℕ). (a ≤ b) × IsAfter c.args.left.now t.1 c.run_all-n.result.1 c.run_all-n.result.0 (b - a)) (sym c.words-words.ensures) (sym c.words.ensures) e

pub overflow_sub-words : goal.overflow_sub-words
overflow_sub-words c =
    let l = c.requires.leads in
    (spent (goal.at.overflow_sub-words c).After-words l.0 l.1 l.2).0

pub after-requires : goal.after-requires
after-requires c =
    let l = c.requires.leads in
    let d = (goal.at.after-requires c).After-words in
    ((reached d l.0 l.1 l.2).1, (spent d l.0 l.1 l.2).1)

pub returns : goal.returns
returns c = λ limit taken h.
    let d = (goal.at.returns c).After-words in
    let t = reached d limit taken h in
    (t.0, subst (LeavesRoom c.args.first.now (0 + c.run_all-n.result.0) t.0) (sym (c.after.ensures t.1 (spent d limit taken h).1)) t.2, t.4)
