-- Several reads in sequence.
use Rattle.std.proofs.Common.{◌≡◌, ℕ, ◌<◌, ◌≤◌, ◌^◌, List, ◌++◌, length, take, drop, Option, Some, None, IfSome, Ok, Err, refl, sym, ap, ◌∙◌, append_assoc, length-append, arith}
use Rattle.std.proofs.lemmas.List.{take-append-drop, length-take}
use Rattle.std.proofs.lemmas.List.Elements.{All-append}
use Rattle.std.proofs.lemmas.Option.{IfSome_then}
use Rattle.cli_spec.specs.Outcome.{ReadingEnd, Taken, nothing, at_end, at_fault, at_length, unasked}
use Rattle.base_data.specs.model.Bytes.{AreBytes}
use Rattle.base_io.specs.Source.{Moves, TakesPrefix}
use Rattle.base_io.specs.StreamState.{SourceState, change}
use Rattle.run_spec.specs.runs.Given.{chunk_limit, TakesFrom, Gathers}
use Rattle.run_spec.proofs.runs.CallLemmas.{called_nothing, called_more, called_end, called_fault, called_length}

abbrev pub taken : List ℕ → ReadingEnd → Taken
taken bytes until = record { bytes = bytes; until = until }

nothing_known : (o : Option (List ℕ)) → IfSome o (λ bytes. (rest : List ℕ) × TakesFrom bytes nothing rest × (o ≡ Some rest))
nothing_known None = tt
nothing_known (Some bytes) = (bytes, record { prefix = refl; ends = λ e. cc e }, refl)

-- If no operation is performed, then no bytes are gathered.
pub took_nothing : (a : SourceState) → Gathers (change a a) nothing
took_nothing a = record {
  known = nothing_known a.bytes;
  measured = omega arith;
  are_bytes = λ k d less. absurd (omega arith);
  called = called_nothing a.calls;
}

module _ {E : Type 0} (a b c : SourceState) (bytes buffer : List ℕ) (before : Gathers (change a b) (taken bytes unasked)) where
  -- If `n` more bytes are read, at least one, then the bytes gathered grow by the `n` bytes.
  pub took_more : (n : ℕ) → 0 < n → length bytes < 2 ^ 48 → length buffer ≤ chunk_limit → TakesPrefix {E = E} b c (Ok n) buffer → AreBytes (take n buffer)
      → Gathers (change a c) (taken (bytes ++ take n buffer) unasked)
  took_more n some short chunk moved are_bytes = record {
    known = IfSome_then a.bytes before.known (λ all t.
        let moves : Moves t.0 n buffer c.bytes = rw t.2 at moved.moved in (
          drop n t.0,
          record {
            prefix = t.1.prefix ∙ (ap (λ rest. bytes ++ rest) (sym (take-append-drop n t.0)) ∙ (sym (append_assoc bytes (take n t.0) (drop n t.0))
                ∙ ap (λ more. (bytes ++ more) ++ drop n t.0) (sym moves.prefix)));
            ends = λ e. absurd (cc e);
          },
          moves.rest,
        ));
    measured =
        let all = length-append bytes (take n buffer) in
        let few = length-take n buffer in omega (arith, all, few, short, chunk);
    are_bytes = All-append (λ b. b < 256) bytes (take n buffer) before.are_bytes are_bytes;
    called = called_more a.calls b.calls c.calls bytes before.called (length buffer) (take n buffer)
        (omega (arith, some, moved.within, length-take n buffer)) moved.called;
  }

  -- If a read returns no bytes, then the end of the source was reached.
  pub took_end : 0 < length buffer → length bytes < 2 ^ 48 → TakesPrefix {E = E} b c (Ok 0) buffer → Gathers (change a c) (taken bytes at_end)
  took_end some short moved = record {
    known = IfSome_then a.bytes before.known (λ all t.
        let moves : Moves t.0 0 buffer c.bytes = rw t.2 at moved.moved in
        (t.0, record { prefix = t.1.prefix; ends = λ e. (moves.ends some).0 refl }, moves.rest));
    measured = short;
    are_bytes = before.are_bytes;
    called = called_end a.calls b.calls c.calls bytes before.called (length buffer) some moved.called;
  }

  -- If an operation failed, then the bytes gathered end at a fault.
  pub took_fault : (e : E) → length bytes < 2 ^ 48 → TakesPrefix {E = E} b c (Err e) buffer → Gathers (change a c) (taken bytes at_fault)
  took_fault e short moved = record {
    known = IfSome_then a.bytes before.known (λ all t. (t.0, record { prefix = t.1.prefix; ends = λ e. absurd (cc e) }, moved.failed ∙ t.2));
    measured = short;
    are_bytes = before.are_bytes;
    called = called_fault a.calls b.calls c.calls bytes before.called moved.called;
  }

-- If 2^48 bytes or more were gathered, then the source is too long.
pub took_length : (a b : SourceState) (bytes : List ℕ) → Gathers (change a b) (taken bytes unasked) → 2 ^ 48 ≤ length bytes → Gathers (change a b) (taken bytes at_length)
took_length a b bytes before long = record {
  known = IfSome_then a.bytes before.known (λ all t. (t.0, record { prefix = t.1.prefix; ends = λ e. absurd (cc e) }, t.2));
  measured = (long, before.measured);
  are_bytes = before.are_bytes;
  called = called_length a.calls b.calls bytes before.called;
}
