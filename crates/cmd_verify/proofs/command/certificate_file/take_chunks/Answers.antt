use Rattle.std.proofs.Common.{rules, ◌+◌, ◌++◌, [], length, take, refl, inl, inr, arith, ◌∙◌, length-append}
use Rattle.std.proofs.lemmas.List.{length-take}
use Rattle.cli_spec.specs.Outcome.{unasked, at_fault, at_length}
use Rattle.base_io.specs.StreamState.{as_source}
use Rattle.run_spec.proofs.runs.RunTakeLemmas.{taken, took_nothing, took_more, took_end, took_fault, took_length}
use Rattle.cmd_verify.proofs.command.certificate_file.take_chunks.Goals as goal

pub loop-taken-init : goal.loop-taken-init
loop-taken-init g c = record {
  room = c.requires.room;
  come = ([], refl, c.requires.begun, took_nothing (as_source (g.O.Opener.state c.args.files.now)));
  frame = refl;
}

pub forward-requires : goal.forward-requires
forward-requires g c =
    let come = c.loop-taken.invariant.come in
    let counted = come.1 in
    let room = c.loop-taken.invariant.room in
    let few = c.loop-taken-test.true in
    let most = length-take c.in-Ok.n c.take.new.buf in
    (come.0, come.2, omega (arith, counted, few, room, most, c.take.auto.buf))

pub returns-in_default-clause-taken : goal.returns-in_default-clause-taken
returns-in_default-clause-taken g c =
    let come = c.loop-taken.invariant.come in
    let counted = come.1 in (
      taken come.0 at_fault,
      took_fault _ _ _ _ c.take.new.buf come.3 c.in_default.field-0 (omega (arith, counted, c.loop-taken-test.true)) c.in_default.ensures.takes,
      inl refl,
    )

pub returns-then-n-eq0-clause-taken : goal.returns-then-n-eq0-clause-taken
returns-then-n-eq0-clause-taken g c =
    let come = c.loop-taken.invariant.come in
    let counted = come.1 in (
      come.0,
      took_end _ _ _ _ c.take.new.buf come.3 (omega (arith, c.take.auto.buf, c.loop-taken.invariant.room))
          (omega (arith, counted, c.loop-taken-test.true)) (rw c.if-n-eq0.true at c.in-Ok.ensures.takes),
      come.2,
    )

pub returns-in_default-forward-clause-taken : goal.returns-in_default-forward-clause-taken
returns-in_default-forward-clause-taken g c =
    let come = c.loop-taken.invariant.come in
    let counted = come.1 in (
      taken (come.0 ++ take c.in-Ok.n c.take.new.buf) unasked,
      took_more _ _ _ _ c.take.new.buf come.3 c.in-Ok.n (omega (arith, c.if-n-eq0.false)) (omega (arith, counted, c.loop-taken-test.true))
          (omega (arith, c.take.auto.buf, c.loop-taken.invariant.room)) c.in-Ok.ensures.takes c.forward.ensures.are_bytes,
      inr refl,
    )

pub returns-clause-taken : goal.returns-clause-taken
returns-clause-taken g c =
    let come = c.loop-taken.invariant.come in
    let counted = come.1 in
    (taken come.0 at_length, took_length _ _ come.0 come.3 (omega (arith, counted, c.loop-taken-test.false)), inl refl)

pub loop-taken-preserved : goal.loop-taken-preserved
loop-taken-preserved g c =
    let come = c.loop-taken.invariant.come in
    let counted = come.1 in
    let within = c.in-Ok.ensures.takes.within in
    let both = length-append come.0 (take c.in-Ok.n c.take.new.buf) in
    let some = length-take c.in-Ok.n c.take.new.buf in
    record {
      room = c.take.auto.buf ∙ c.loop-taken.invariant.room;
      come = (
        come.0 ++ take c.in-Ok.n c.take.new.buf,
        omega (arith, counted, both, some, within),
        c.in-Ok-forward.ensures.come come.0 come.2,
        took_more _ _ _ _ c.take.new.buf come.3 c.in-Ok.n (omega (arith, c.if-n-eq0.false)) (omega (arith, counted, c.loop-taken-test.true))
            (omega (arith, c.take.auto.buf, c.loop-taken.invariant.room)) c.in-Ok.ensures.takes c.in-Ok-forward.ensures.are_bytes,
      );
      frame = search rules;
    }
