use Rattle.std.proofs.Common.{◌∙◌, sym, subst}
use Rattle.std.proofs.lemmas.Result.{err_from_is_err_and}
use Rattle.marshal_spec.specs.format.Isomorphism.{IsTreeOf}
use Rattle.marshal_write.proofs.write.CompatLemmas.{large_token, large_head, nothing_large}
use Rattle.marshal_write.proofs.write.WriterTreeLemmas.{for_tree}
use Rattle.marshal_write.proofs.write.writer32.write32.Goals as goal

pub returns-in_err-walk-clause-writes : goal.returns-in_err-walk-clause-writes
returns-in_err-walk-clause-writes g c = for_tree _ _ _ c.count-graph.ensures.heap c.requires (λ tree is_of.
    let p = err_from_is_err_and c.from_residual.result c.from_residual.ensures.1 in rw (p.1, p.2) tt)

pub returns-in_err-buffer-clause-writes : goal.returns-in_err-buffer-clause-writes
returns-in_err-buffer-clause-writes g c = for_tree _ _ _ c.count-graph.ensures.heap c.requires (λ tree is_of.
    let p = err_from_is_err_and c.from_residual-in_err-buffer.result c.from_residual-in_err-buffer.ensures.1 in rw (p.1, p.2) tt)

pub returns-in_err-head-clause-writes : goal.returns-in_err-head-clause-writes
returns-in_err-head-clause-writes g c = for_tree _ _ _ c.count-graph.ensures.heap c.requires (λ tree is_of.
    let p = err_from_is_err_and c.from_residual-in_err-head.result c.from_residual-in_err-head.ensures.1 in rw (p.1, p.2) tt)

pub restart-requires-clause-end : goal.restart-requires-clause-end
restart-requires-clause-end g c = λ tree is_of. c.in_ok-head.ensures.end tree (subst (λ r. IsTreeOf c.args.heap.now r tree) c.in_ok-head.ensures.root is_of)

pub returns-in-Some-clause-writes : goal.returns-in-Some-clause-writes
returns-in-Some-clause-writes g c = for_tree _ _ _ c.count-graph.ensures.heap c.requires (λ tree is_of.
    let at = subst (λ r. IsTreeOf c.args.heap.now r tree) (sym (c.restart.ensures.root ∙ c.in_ok-head.ensures.root ∙ c.in_ok-walk.ensures.root)) is_of in
    large_token tree c.in-Some.compat (c.in-Some.ensures.large tree at))

pub returns-in-Some-head_compat-clause-writes : goal.returns-in-Some-head_compat-clause-writes
returns-in-Some-head_compat-clause-writes g c = for_tree _ _ _ c.count-graph.ensures.heap c.requires (λ tree is_of.
    let at_head = subst (λ r. IsTreeOf c.args.heap.now r tree) (sym c.in_ok-walk.ensures.root) is_of in
    let at = subst (λ r. IsTreeOf c.args.heap.now r tree) (sym (c.restart.ensures.root ∙ c.in_ok-head.ensures.root)) at_head in
    large_head tree c.in_ok-head.head c.in-Some-head_compat.compat (c.in_default.ensures.large tree at) (c.in_ok-head.ensures.head tree at_head) c.in-Some-head_compat.ensures)

pub returns-in_err-write_value-clause-writes : goal.returns-in_err-write_value-clause-writes
returns-in_err-write_value-clause-writes g c = for_tree _ _ _ c.count-graph.ensures.heap c.requires (λ tree is_of.
    let at_head = subst (λ r. IsTreeOf c.args.heap.now r tree) (sym c.in_ok-walk.ensures.root) is_of in
    let at = subst (λ r. IsTreeOf c.args.heap.now r tree) (sym (c.restart.ensures.root ∙ c.in_ok-head.ensures.root)) at_head in
    let at_written = subst (λ r. IsTreeOf c.args.heap.now r tree) (sym (c.restart-2.ensures.root ∙ c.in_default.ensures.root)) at in
    let p = err_from_is_err_and c.from_residual-in_err-write_value.result c.from_residual-in_err-write_value.ensures.1 in
    rw (p.1, p.2) (
      nothing_large tree c.in_ok-head.head (c.in_default.ensures.large tree at) (c.in_ok-head.ensures.head tree at_head) c.in_default-head_compat.ensures,
      c.in_err-write_value.ensures tree at_written,
    ))

pub returns-clause-writes : goal.returns-clause-writes
returns-clause-writes g c = for_tree _ _ _ c.count-graph.ensures.heap c.requires (λ tree is_of.
    let at_head = subst (λ r. IsTreeOf c.args.heap.now r tree) (sym c.in_ok-walk.ensures.root) is_of in
    let at = subst (λ r. IsTreeOf c.args.heap.now r tree) (sym (c.restart.ensures.root ∙ c.in_ok-head.ensures.root)) at_head in
    let at_written = subst (λ r. IsTreeOf c.args.heap.now r tree) (sym (c.restart-2.ensures.root ∙ c.in_default.ensures.root)) at in (
      nothing_large tree c.in_ok-head.head (c.in_default.ensures.large tree at) (c.in_ok-head.ensures.head tree at_head) c.in_default-head_compat.ensures,
      c.in_ok-write_value.ensures tree at_written,
    ))
