use Rattle.std.proofs.Common.{◌≡◌, ℕ, take, ◌++◌, List, [], ◌∷◌, ◌<◌, inl, inr, sym, ap, arith, Bor}
use Rattle.base_io.specs.StreamState.{change}
use Rattle.cli_spec.specs.declared.exit.Exit.TheVariants.{Memory as out_of_memory}
use Rattle.run_spec.proofs.runs.RunWriteLemmas.{writes_nothing}
use Rattle.run_spec.proofs.runs.RunValueLemmas.{texts_of-one}
use Rattle.run_loop.proofs.work.WorkChunkLemmas.{feeds_error}
use Rattle.cmd_certify.proofs.value_items.ValueItemReadLemmas.{whole_read, few_read, some_taken, prefix_read, refused_aborts, next_aborts}
use Rattle.run_types.specs.declared.requested.Prepared.{Prepared}
use Rattle.cmd_certify.specs.command.CertifiedOutput.{on_certified}
use Rattle.cmd_certify.specs.command.CertifyProgress.{certified, HasRead}
use Rattle.cmd_certify.proofs.command.CertifyReadLemmas.{has_values, has_same}
use Rattle.cmd_certify.proofs.command.certified_values.CertifyingWork.feed.Goals.{then-fed+in_ok-write_value-in-Ok, else-fed}
use Rattle.cmd_certify.proofs.command.certified_values.CertifyingWork.feed.Goals as goal

pub write_value-requires : goal.write_value-requires
write_value-requires g c =
    let w = c.args.self.now in
    let q = c.requires.has in
    let known = has_values w.requested.now w.limit in
    let f = c.in-Ok.ensures.feeds w.limit q.2.prefix q.2.leads in (
      q.0 ++ take c.in-Ok.fed.taken c.args.chunk.now,
      q.1,
      whole_read known q.2 f c.if-fed.true,
      few_read known q.2 f q.3,
    )

pub returns-in_err-write_value-in-Ok-clause-feeds : goal.returns-in_err-write_value-in-Ok-clause-feeds
returns-in_err-write_value-in-Ok-clause-feeds g c = λ reads.
    let w = c.args.self.now in
    let n = c.write_value.new.self in
    let out = change (g.K.Sink.state c.args.out.now) (g.K.Sink.state c.write_value.new.out) in
    feeds_error on_certified (certified w.requested.now w.limit)
    (HasRead w.requested.now w.least_faults.now w.limit w.reader w.count w.ok)
    (HasRead n.requested.now n.least_faults.now n.limit n.reader n.count n.ok) c.args.chunk.now out
    c.in_err-write_value-in-Ok.field-0.0 c.from_residual.result c.from_residual.ensures.1
    (λ taken output h.
    let known = has_values w.requested.now w.limit in
    let f = c.in-Ok.ensures.feeds w.limit h.prefix h.leads in
    next_aborts known h c.args.chunk.now (λ exit. exit ≡ out_of_memory) (λ exit memory. inr memory)
    c.in-Ok.fed.taken out n.reader n.count n.ok c.in_err-write_value-in-Ok.field-0.0
    (c.in_err-write_value-in-Ok.ensures.writes (taken ++ take c.in-Ok.fed.taken c.args.chunk.now) output
    (whole_read known h f c.if-fed.true)))

pub returns-after-fed-clause-feeds : goal.returns-after-fed-clause-feeds
returns-after-fed-clause-feeds g c = λ reads.
    let w = c.args.self.now in
    let q = c.requires.has in
    let known = has_values w.requested.now w.limit in
    let f = c.in-Ok.ensures.feeds w.limit q.2.prefix q.2.leads in
    let some : 0 < c.in-Ok.fed.taken = elim c.if-fed.branch [
      | then-fed+in_ok-write_value-in-Ok x ↦ some_taken known q.2 f x.if-fed.true
      | else-fed x ↦ let all = (f.more x.if-fed.false).0 in let few = c.requires.some in omega (arith, all, few)
    ] in (
      some,
      f.within,
      λ taken output h.
          let f = c.in-Ok.ensures.feeds w.limit h.prefix h.leads in
          elim c.if-fed.branch [
            | then-fed+in_ok-write_value-in-Ok x ↦
                let whole = whole_read known h f x.if-fed.true in
                let write = x.in_ok-write_value-in-Ok.ensures.writes (taken ++ take c.in-Ok.fed.taken c.args.chunk.now) output whole in
                (write.0 ∷ [], omega arith, rw (x.self-is) (has_same w.requested.now x.write_value.new.self.requested.now w.least_faults.now x.write_value.new.self.least_faults.now w.limit x.write_value.new.self.limit x.write_value.new.self.reader x.write_value.new.self.count x.write_value.new.self.ok (taken ++ take c.in-Ok.fed.taken c.args.chunk.now) (output ++ write.0 ∷ []) (sym (ap (λ (q : Bor Prepared). q.now) x.in_ok-write_value-in-Ok.ensures.requested)) (sym (ap (λ (q : Bor (List ℕ)). q.now) x.in_ok-write_value-in-Ok.ensures.least_faults)) (sym x.in_ok-write_value-in-Ok.ensures.limit) write.1), rw (x.out-is, texts_of-one write.0) write.2)
            | else-fed x ↦ (
              [],
              omega arith,
              rw (x.self-is) (prefix_read known h f x.if-fed.false),
              rw (x.out-is) (writes_nothing (g.K.Sink.state c.args.out.now)),
            )
          ],
    )

pub returns-in-Err-clause-feeds : goal.returns-in-Err-clause-feeds
returns-in-Err-clause-feeds g c = λ reads taken output h.
    let w = c.args.self.now in
    inl (refused_aborts (has_values w.requested.now w.limit) h c.args.chunk.now c.in-Err.refusal
    c.refused_value.result (c.in-Err.ensures.refuses w.limit h.prefix h.leads)
    c.refused_value.ensures (g.K.Sink.state c.args.out.now))
