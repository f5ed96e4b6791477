-- Open positions, block by block.
use Rattle.std.proofs.Common.{ℕ, suc, ◌+◌, ◌<◌, ◌≡◌, ◌∙◌, List, [], ◌∷◌, ◌++◌, length, drop, drop-cons, get_or, sym, ap, arith}
use Rattle.std.specs.Prelude.{map, replicate}
use Rattle.std.proofs.lemmas.List.{append_assoc, append-nil, length-replicate}
use Rattle.check_stream.specs.theory.AskedNeeds.{of_type, values_in}
use Rattle.check_stream.proofs.theory.BlockLemmas.{values_of_types}
use Rattle.check_stream.proofs.theory.OnePassEndLemmas.{values_in-append}
use Rattle.check_stream.specs.declared.checker.open_positions.BlockPositions.{BlockPositions}
use Rattle.check_stream.specs.checker.OpenPositions.{open_needs, waiting_needs}

-- If an entry is pushed on the stack, then the requirements of the entry come first.
pub waiting_needs_push : (waiting : List BlockPositions) (last : BlockPositions) → waiting_needs (waiting ++ last ∷ []) ≡ open_needs last ++ waiting_needs waiting
waiting_needs_push [] last = sym (append-nil (open_needs last))
waiting_needs_push (first ∷ waiting) last =
    ap (λ needs. needs ++ open_needs first) (waiting_needs_push waiting last) ∙ append_assoc (open_needs last) (waiting_needs waiting) (open_needs first)

-- ---- the number of values still to be read

pub values_each : (n t : ℕ) → values_in (map of_type (replicate n t)) ≡ n
values_each n t = values_of_types (replicate n t) ∙ length-replicate n t

-- The values of one block and the values of the blocks after the block add up.
pub values_less :
    (waiting : List BlockPositions) (at n : ℕ) (default : BlockPositions) → at < length waiting → n ≡ values_in (open_needs (get_or waiting at default))
    → values_in (waiting_needs (drop at waiting)) ≡ values_in (waiting_needs (drop (at + 1) waiting)) + n
values_less waiting at n default short same =
    let next : suc at ≡ at + 1 = omega arith in
    let split : drop at waiting ≡ get_or waiting at default ∷ drop (at + 1) waiting = drop-cons waiting at default short ∙ ap (λ k. get_or waiting at default ∷ drop k waiting) next in
    ap (λ blocks. values_in (waiting_needs blocks)) split
    ∙ (values_in-append (waiting_needs (drop (at + 1) waiting)) (open_needs (get_or waiting at default))
    ∙ ap (λ m. values_in (waiting_needs (drop (at + 1) waiting)) + m) (sym same))
