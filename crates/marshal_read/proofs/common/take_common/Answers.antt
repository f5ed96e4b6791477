use Rattle.std.proofs.Common.{ℕ, List, [], Some, ◌≡◌, ◌-◌, ◌++◌, take, arith, ap, sym, subst, ◌∙◌}
use Rattle.base_data.specs.declared.model.header.Head.{Head}
use Rattle.marshal_read.specs.declared.read_totals.ReadTotals.{ReadTotals}
use Rattle.marshal_read.specs.Chunks.{LeadsAs, TakesCommon}
use Rattle.marshal_read.specs.Left.{LeavesRoom}
use Rattle.marshal_read.proofs.ReaderLeftLemmas.{same_position}
use Rattle.marshal_read.proofs.ReaderNextLemmas.{objects_built}
use Rattle.marshal_read.proofs.CommonLemmas.{prefix_taken}
use Rattle.marshal_read.proofs.common.take_common.Goals as goal
use Rattle.marshal_read.proofs.common.take_common.Goals.{After-count}

-- The totals at the end of the fast path exist, and count the objects of the builder.
reached : (c : After-count) (limit : ℕ) (taken : List ℕ) → LeadsAs (Some c.args.totals.now) limit taken c.args.builder.now []
    → (position : ReadTotals) × LeavesRoom c.args.totals.now c.take_many-n.result position c.take_many-n.new.left × (c.count.result ≡ position.objects)
    × TakesCommon limit taken c.data_in.result.now position c.take_many-n.new.builder c.take_many-n.result
reached c limit taken h =
    let t = c.take_many-n.ensures limit taken h in
    let w = t.2.2 in
    let leaves = subst (λ k. LeavesRoom c.args.totals.now k t.0 c.take_many-n.new.left) (omega arith) t.1 in
    (t.0, leaves, c.count.ensures ∙ objects_built w.0 w.1 t.0 c.take_many-n.new.builder w.2.builds ∙ w.2.builds.sums.objects, t.2)

pub position-requires : goal.position-requires
position-requires c =
    let l = c.requires.leads in
    let r = reached (goal.at.position-requires c).After-count l.0 l.1 l.2 in
    (r.0, r.1, r.2)

pub returns : goal.returns
returns c = λ limit taken h.
    let r = reached (goal.at.returns c).After-count limit taken h in
    let same = c.position.ensures r.0 r.1 r.2 in
    let t = prefix_taken limit taken c.args.bytes.now (c.args.totals.now.head.length - c.args.totals.now.taken) r.0 c.take_many-n.new.builder c.take_many-n.result
    (subst (λ xs. TakesCommon limit taken xs r.0 c.take_many-n.new.builder c.take_many-n.result) c.data_in.ensures r.3) in (
      t.0,
      λ last. let e = t.1 (same.pending ∙ last) in (e.0, sym same.taken ∙ e.1 ∙ ap (λ (h : Head). h.length) same.head),
      same_position limit (taken ++ take c.take_many-n.result c.args.bytes.now) r.0 c.position.result c.take_many-n.new.builder same t.2,
    )
