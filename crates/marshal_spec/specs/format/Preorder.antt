-- Sequences of tokens in preorder.
use Rattle.std.specs.Prelude.{ℕ, ◌+◌, ◌<◌, List, [], ◌∷◌, ◌++◌, Option}
use Rattle.base_data.specs.declared.model.code.Measure.{Measure}
use Rattle.marshal_spec.specs.format.Words.{pending}
use Rattle.marshal_spec.specs.format.Token.{Token, measure_of}
use Rattle.marshal_spec.specs.format.Tree.{made_by, RefersBack}

-- If tokens with the measures `before` come first, then a value is still expected at each token of
-- the list.
abbrev pub OpenBefore : List (Option Measure) → List Token → Type 0
OpenBefore before [] = Unit {0}
OpenBefore before (token ∷ tokens) =
    (0 < pending before) × OpenBefore (before ++ measure_of token ∷ []) tokens

-- If `c` objects come before the tokens, then each reference among the tokens leads to an object
-- made before the reference.
abbrev pub EachRefersBack : ℕ → List Token → Type 0
EachRefersBack c [] = Unit {0}
EachRefersBack c (token ∷ tokens) = RefersBack token c × EachRefersBack (c + made_by token) tokens
