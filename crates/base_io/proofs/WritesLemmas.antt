-- Texts that are written one after another.
use Rattle.std.proofs.Common.{ℕ, ◌≡◌, ◌+◌, ◌≤◌, ◌∙◌, true, false, List, ◌++◌, length, take, Option, Some, None, sym, ap, subst, arith, append_assoc, length-append}
use Rattle.std.specs.Prelude.{IfSome}
use Rattle.std.proofs.lemmas.List.{take-append-le}
use Rattle.std.proofs.Math.Seq.{take-append-add}
use Rattle.base_io.specs.StreamState.{ByteState, change}
use Rattle.base_io.specs.IoFaults.{HasCause}
use Rattle.base_io.specs.Sink.{Writes, WritesPart, AppendsPart}

appended_twice : (x y z : Option (List ℕ)) (p q : List ℕ) → IfSome x (λ b. y ≡ Some (b ++ p)) → IfSome y (λ b. z ≡ Some (b ++ q)) → IfSome x (λ b. z ≡ Some (b ++ (p ++ q)))
appended_twice None y z p q first second = tt
appended_twice (Some b) y z p q first second =
    let r : z ≡ Some ((b ++ p) ++ q) = subst (λ o. IfSome o (λ b. z ≡ Some (b ++ q))) first second in
    r ∙ ap Some (append_assoc b p q)

part_after : (x y z : Option (List ℕ)) (p q : List ℕ) → IfSome x (λ b. y ≡ Some (b ++ p)) → IfSome y (λ b. AppendsPart b q z) → IfSome x (λ b. AppendsPart b (p ++ q) z)
part_after None y z p q first second = tt
part_after (Some b) y z p q first second =
    let r : AppendsPart (b ++ p) q z = subst (λ o. IfSome o (λ b. AppendsPart b q z)) first second in
    let prefix : take (length p + r.0) (p ++ q) ≡ p ++ take r.0 q = take-append-add p q r.0 in
    (length p + r.0, omega (arith, length-append p q, r.1), r.2 ∙ ap Some (append_assoc b p (take r.0 q) ∙ ap (λ t. b ++ t) (sym prefix)))

part_longer : (x z : Option (List ℕ)) (p q : List ℕ) → IfSome x (λ b. AppendsPart b p z) → IfSome x (λ b. AppendsPart b (p ++ q) z)
part_longer None z p q part = tt
part_longer (Some b) z p q part =
    let few : part.0 ≤ length p = omega (arith, part.1) in
    let prefix : take part.0 (p ++ q) ≡ take part.0 p = take-append-le part.0 p q few in
    (part.0, omega (arith, length-append p q, part.1), part.2 ∙ ap (λ t. Some (b ++ t)) (sym prefix))

pub writes_writes : (a b c : ByteState) (p q : List ℕ) → Writes (change a b) p → Writes (change b c) q → Writes (change a c) (p ++ q)
writes_writes a b c p q first second = record {
  appended = appended_twice a.bytes b.bytes c.bytes p q first.appended second.appended;
  known = second.known ∙ first.known;
  cause = subst (λ n. HasCause n c.faults false) first.cause.kept second.cause;
}

pub writes_part : (a b c : ByteState) (p q : List ℕ) → Writes (change a b) p → WritesPart (change b c) q → WritesPart (change a c) (p ++ q)
writes_part a b c p q first second = record {
  appended = part_after a.bytes b.bytes c.bytes p q first.appended second.appended;
  known = second.known ∙ first.known;
  cause = subst (λ n. HasCause n c.faults true) first.cause.kept second.cause;
}

-- If a proper prefix of a text was written, then a proper prefix of each longer text was written.
pub part_more : (a c : ByteState) (p q : List ℕ) → WritesPart (change a c) p → WritesPart (change a c) (p ++ q)
part_more a c p q part = record { appended = part_longer a.bytes c.bytes p q part.appended; known = part.known; cause = part.cause }
