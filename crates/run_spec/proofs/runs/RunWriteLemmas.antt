-- Several writes in sequence.
use Rattle.std.proofs.Common.{◌≡◌, ℕ, Bool, true, false, List, ◌++◌, Some, None, Option, IfSome, [], refl, sym, ap, ◌∙◌, append_assoc, append-nil, arith}
use Rattle.std.proofs.lemmas.Option.{IfSome_then}
use Rattle.base_io.specs.IoFaults.{HasCause, RoseOrLast}
use Rattle.base_io.specs.Sink.{Writes}
use Rattle.base_io.specs.StreamState.{ByteState, change}

-- If an operation follows one that did not fail, then the two operations have the cause of the
-- second.
pub cause_then : (a b c : ℕ) (failed : Bool) → HasCause a b false → HasCause b c failed → HasCause a c failed
cause_then a b c failed first second = rw first.kept at second

-- If a failed operation follows one that did not fail, then the fault count increased over both.
pub rose_after : (a b c : ℕ) → HasCause a b false → HasCause b c true → RoseOrLast a c
rose_after a b c first second = rw first.kept at second.rose

module _ (a b c : ByteState) (first second : List ℕ) where
  pub writes_then : Writes (change a b) first → Writes (change b c) second → Writes (change a c) (first ++ second)
  writes_then one two = record {
    appended = IfSome_then a.bytes one.appended (λ w e.
        let there : c.bytes ≡ Some ((w ++ first) ++ second) = rw e at two.appended in
        there ∙ ap (λ bytes. Some bytes) (append_assoc w first second));
    known = two.known ∙ one.known;
    cause = cause_then a.faults b.faults c.faults false one.cause two.cause;
  }

nothing_written : (o : Option (List ℕ)) → IfSome o (λ bytes. o ≡ Some (bytes ++ []))
nothing_written None = tt
nothing_written (Some bytes) = ap (λ b. Some b) (sym (append-nil bytes))

-- If no operation is performed, then nothing is written.
pub writes_nothing : (a : ByteState) → Writes (change a a) []
writes_nothing a = record {
  appended = nothing_written a.bytes;
  known = refl;
  cause = record { never_falls = omega arith; rose = tt; kept = refl; at_last = λ e. e };
}
