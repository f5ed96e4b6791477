-- If a fact holds for a result, then each weaker fact holds for the result.
use Rattle.std.proofs.Common.{Result, Ok, Err}
use Rattle.std.specs.Prelude.{MatchResult}

pub result_weaker : {X E : Type 0} {P P' : X → Type 0} {Q Q' : E → Type 0} (r : Result X E) → ((x : X) → P x → P' x) → ((e : E) → Q e → Q' e) → MatchResult r P Q → MatchResult r P' Q'
result_weaker (Ok x) ok err h = ok x h
result_weaker (Err e) ok err h = err e h
