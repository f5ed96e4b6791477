-- Lemmas on two comparison steps, one after the other.
use Rattle.std.proofs.Common.{ℕ, ◌∙◌, List, ◌++◌, ap, append_assoc}
use Rattle.marshal_heap.specs.isomorphism.Meeting.{AreAmong, StandInPrefix, AreMet, CannotMeet}
use Rattle.std.specs.Prelude.{Contains}
use Rattle.std.proofs.lemmas.List.Elements.{Contains-append_left}
use Rattle.std.proofs.Common.{sym, subst}

pub prefix-then : (a b c : List (ℕ × ℕ)) → StandInPrefix a b → StandInPrefix b c → StandInPrefix a c
prefix-then a b c first second = (first.0 ++ second.0, second.1 ∙ ap (λ x. x ++ second.0) first.1 ∙ append_assoc a first.0 second.0)

pub among_prefix : (old new : List (ℕ × ℕ)) → StandInPrefix old new → AreAmong old new
among_prefix old new prefix k l among = subst (λ all. Contains all (k, l)) (sym prefix.1) (Contains-append_left old prefix.0 (k, l) among)

-- If a first step makes `A` hold and a second step makes `B` hold, then the two steps together make
-- `C` hold.
pub met_then : (old mid new : List (ℕ × ℕ)) (A B C : List (ℕ × ℕ) → Type 0) → ((all : List (ℕ × ℕ)) → C all → A all × B all) → (A mid → AreAmong mid new → B new → C new) → AreMet old mid A → AreMet mid new B → AreMet old new C
met_then old mid new A B C parts join first second = record {
  kept = prefix-then old mid new first.kept second.kept;
  agree_now = join first.agree_now (among_prefix mid new second.kept) second.agree_now;
  needed = λ all one_to_one among agree.
      let p = parts all agree in
      second.needed all one_to_one (first.needed all one_to_one among p.0) p.1;
}

pub cannot_then : (old mid : List (ℕ × ℕ)) (A B C : List (ℕ × ℕ) → Type 0) → ((all : List (ℕ × ℕ)) → C all → A all × B all) → AreMet old mid A → CannotMeet mid B → CannotMeet old C
cannot_then old mid A B C parts first cannot all one_to_one among agree =
    let p = parts all agree in
    cannot all one_to_one (first.needed all one_to_one among p.0) p.1
