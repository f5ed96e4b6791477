-- The meaning of a result of the code. A result has the tokens of a tree in place of the tree, so a
-- relation connects results with the definitions.
use Rattle.std.specs.Prelude.{ℕ, ◌≡◌, List, map}
use Rattle.marshal_spec.specs.format.Tree.{Tree, tokens}
use Rattle.marshal_spec.specs.format.Judgement.{prefix, value, refused, Judges}
use Rattle.test_oracles.specs.declared.judgement.Judgement.{Judgement}
use Rattle.test_oracles.specs.declared.judgement.Judgement.TheVariants.{Prefix, Value, Refused}
use Rattle.test_oracles.specs.Token.{token_of}
use Rattle.test_oracles.specs.Refusal.{refusal_of}

-- The result is the judgement on the bytes.
abbrev pub JudgesTo : ℕ → List ℕ → Judgement → Type 0
JudgesTo limit bytes Prefix = Judges limit bytes prefix
JudgesTo limit bytes (Value n all) =
    (tree : Tree) × Judges limit bytes (value n tree) × (map token_of all.items ≡ tokens tree)
JudgesTo limit bytes (Refused n refusal) = Judges limit bytes (refused n (refusal_of refusal))
