use Rattle.std.proofs.Common.{◌≡◌, ◌*◌, ◌^◌, ◌≤◌, take}
use Rattle.std.specs.Prelude.{sum_by}
use Rattle.marshal_spec.specs.format.Words.{words32, words64, fields, of_object}
use Rattle.test_oracles.proofs.words.sum_up.Given as goal

-- The sums over the tokens before the current token, and the bounds of these sums.
abbrev pub invariant-loop-token : goal.invariant-loop-token
invariant-loop-token l =
    (l.objects ≡ sum_by (of_object (λ _. 1)) (take l.token-index l.tokens)) × (l.objects ≤ l.token-index * 2 ^ 65)
    × (l.all_fields ≡ sum_by (of_object fields) (take l.token-index l.tokens)) × (l.all_fields ≤ l.token-index * 2 ^ 65)
    × (l.w32 ≡ sum_by (of_object words32) (take l.token-index l.tokens)) × (l.w32 ≤ l.token-index * 2 ^ 65)
    × (l.w64 ≡ sum_by (of_object words64) (take l.token-index l.tokens)) × (l.w64 ≤ l.token-index * 2 ^ 65)
