use Rattle.std.proofs.Common.{◌≡◌, ◌∙◌, ◌++◌, ◌∷◌, [], sym, ap, subst₂, inl, inr}
use Rattle.marshal_spec.specs.format.Header.{header_length}
use Rattle.check_stream.specs.checker.CheckerState.{LeadsPass}
use Rattle.check_stream.proofs.checker.CheckerRunLemmas.{leads_begun, start_from}
use Rattle.check_stream.proofs.checker.passing.Passing.begin.Goals as goal
use Rattle.check_stream.proofs.checker.passing.Passing.begin.Goals.{then-head, else-head}

pub returns : goal.returns
returns c = λ table.
    let start' : c.if-head.start ≡ header_length c.args.bytes.now =
    start_from c.args.limit c.args.bytes.now c.in-Some.head c.if-head.start c.in-Some.ensures (elim c.if-head.branch [ then-head w ↦ inl (w.if-head.true, w.start-is) | else-head w ↦ inr (w.if-head.false, w.start-is) ]) in
    subst₂ (λ marks notes. LeadsPass table c.args.limit c.args.bytes.now c.in-Some.head c.if-head.start c.if-head.start marks notes (record { positions = c.restart.new.self; types = c.reserve.new.self; words = c.stated-self.result })) (sym (c.in_ok-push.ensures.items ∙ ap (λ marks. marks ++ c.if-head.start ∷ []) c.clear-2.ensures.items)) (sym c.clear-3.ensures.items)
    (leads_begun table c.args.limit c.args.bytes.now c.in-Some.head c.if-head.start _ c.in-Some.ensures start' (c.in_ok-reserve.ensures.items ∙ c.clear.ensures.items) c.restart.ensures c.stated-self.ensures.words32 c.stated-self.ensures.words64)
