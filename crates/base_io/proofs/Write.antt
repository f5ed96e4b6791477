-- The loop of `write_all`: its invariant after some calls of `write`, and one more call.
use Rattle.std.proofs.Common.{◌≡◌, ℕ, ◌+◌, ◌-◌, ◌≤◌, List, ◌++◌, length, take, drop, Some, Ok, sym, ap, ◌∙◌, append_assoc, length-drop, arith}
use Rattle.std.proofs.Math.Seq.{take-add}
use Rattle.std.proofs.lemmas.Option.{IfSome_then}
use Rattle.base_io.specs.Sink.{AppendsPrefix, Writes}
use Rattle.base_io.specs.StreamState.{ByteState, change}

-- The first `n` bytes of the chunk were written.
abbrev pub HasWritten : ByteState → ByteState → List ℕ → ℕ → Type 0
HasWritten start now chunk n = (n ≤ length chunk) × Writes (change start now) (take n chunk)

module _ (start now next : ByteState) (chunk : List ℕ) (n : ℕ) (before : HasWritten start now chunk n) where
  -- If the first `n` bytes were written and one more call writes `m` bytes, then the first `n + m`
  -- bytes were written.
  pub write_more : {E : Type 0} (m : ℕ) → AppendsPrefix {E = E} now next (Ok m) (drop n chunk) → HasWritten start next chunk (n + m)
  write_more m call =
      let fits : m ≤ length (drop n chunk) = call.within in
      let left : length (drop n chunk) ≡ length chunk - n = length-drop n chunk in
      let within : n ≤ length chunk = before.0 in (
        omega arith,
        record {
          appended = IfSome_then start.bytes before.1.appended (λ bytes e.
              let there : next.bytes ≡ Some ((bytes ++ take n chunk) ++ take m (drop n chunk)) = rw e at call.appended in
              there ∙ ap Some (append_assoc bytes (take n chunk) (take m (drop n chunk)) ∙ ap (λ more. bytes ++ more) (sym (take-add n m chunk))));
          known = call.known ∙ before.1.known;
          cause = rw before.1.cause.kept at call.cause;
        },
      )
