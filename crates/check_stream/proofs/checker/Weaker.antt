-- Clauses about a result that may be an error or `false`.
use Rattle.std.proofs.Common.{◌≡◌, Bool, true, false, Result, Ok, Err, Some}
use Rattle.std.specs.Prelude.{IfOk, IsTrue, MatchOption, Option, None}
use Rattle.std.specs.Bool.{OnTrue}

pub on_true_weaker : {P Q : Type 0} (b : Bool) → (P → Q) → OnTrue b P → OnTrue b Q
on_true_weaker true f h = f h
on_true_weaker false f h = h

pub taken_weaker : {E P Q : Type 0} (r : Result Bool E) → (P → Q) → IfOk r (λ took. OnTrue took P) → IfOk r (λ took. OnTrue took Q)
taken_weaker (Ok true) f h = f h
taken_weaker (Ok false) f h = h
taken_weaker (Err e) f h = h

pub if_true : {P : Type 0} (b : Bool) → b ≡ true → OnTrue b P → P
if_true true is h = h
if_true false is h = absurd (cc)

pub not_true : (b c : Bool) → b ≡ c → b ≡ false → IsTrue c → ⊥
not_true true c same none is = absurd (cc)
not_true false true same none is = absurd (cc)
not_true false false same none is = absurd (cc)

pub match_option_weaker : {X N M : Type 0} {P Q : X → Type 0} (r : Option X) → (N → M) → ((x : X) → P x → Q x) → MatchOption r N P → MatchOption r M Q
match_option_weaker None f g h = f h
match_option_weaker (Some x) f g h = g x h
