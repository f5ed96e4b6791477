use Rattle.std.proofs.Common.{◌++◌, ◌∙◌, take, refl, sym, ap, subst, arith}
use Rattle.std.proofs.lemmas.Result.{MatchResult-from_err}
use Rattle.base_io.specs.StreamState.{FilesState, as_source, change}
use Rattle.cli_spec.specs.Outcome.{unasked}
use Rattle.run_spec.specs.runs.Given.{Gathers}
use Rattle.run_spec.proofs.runs.RunTakeLemmas.{taken, took_more, took_end, took_fault}
use Rattle.run_types.proofs.fetch.gather_file.Goals as goal

pub returns-in_default-clause-taken : goal.returns-in_default-clause-taken
returns-in_default-clause-taken g c =
    took_fault _ _ _ c.loop-buffer.bytes.items c.take.new.buf c.loop-buffer.invariant.took c.in_default.field-0 (omega (arith, c.loop-buffer-test.true)) c.in_default.ensures.takes

pub returns-then-n-eq0-clause-taken : goal.returns-then-n-eq0-clause-taken
returns-then-n-eq0-clause-taken g c =
    took_end _ _ _ c.loop-buffer.bytes.items c.take.new.buf c.loop-buffer.invariant.took (omega (arith, c.take.auto.buf)) (omega (arith, c.loop-buffer-test.true)) (rw c.if-n-eq0.true at c.in-Ok.ensures.takes)

-- The bytes that were read include the last chunk, which could not be stored.
pub returns-in_err-store-clause-taken : goal.returns-in_err-store-clause-taken
returns-in_err-store-clause-taken g c =
    MatchResult-from_err _ _ _ c.from_residual.ensures.0 (λ _. (
      taken (c.loop-buffer.bytes.items ++ take c.in-Ok.n c.take.new.buf) unasked,
      took_more _ _ _ _ c.take.new.buf c.loop-buffer.invariant.took c.in-Ok.n (omega (arith, c.if-n-eq0.false)) (omega (arith, c.loop-buffer-test.true)) (omega (arith, c.take.auto.buf)) c.in-Ok.ensures.takes c.in_err-store.ensures.are_bytes,
      refl,
    ))

pub loop-buffer-preserved : goal.loop-buffer-preserved
loop-buffer-preserved g c =
    let now : FilesState = g.O.Opener.state c.take.new.self in record {
      took = subst (λ b. Gathers (change (as_source (g.O.Opener.state c.args.files.now)) (as_source now)) (taken b unasked)) (sym c.in_ok-store.ensures.stored)
          (took_more _ _ _ c.loop-buffer.bytes.items c.take.new.buf c.loop-buffer.invariant.took c.in-Ok.n (omega (arith, c.if-n-eq0.false)) (omega (arith, c.loop-buffer-test.true)) (omega (arith, c.take.auto.buf)) c.in-Ok.ensures.takes c.in_ok-store.ensures.are_bytes);
      frame = c.in-Ok.ensures.frame ∙ ap (λ (s : FilesState). record s { left = now.left; calls = now.calls }) c.loop-buffer.invariant.frame;
    }
