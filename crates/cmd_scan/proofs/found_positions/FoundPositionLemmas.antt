-- The positions and the lines of concatenated parts.
use Rattle.std.proofs.Common.{◌≡◌, ℕ, ◌+◌, List, [], ◌∷◌, ◌++◌, length, refl, sym, ap, ◌∙◌, append_assoc, length-append, arith}
use Rattle.cmd_scan.specs.found_positions.InputParts.{InputPart, passed, sighted, bytes_of}
use Rattle.cmd_scan.specs.found_positions.ValuePositions.{ValuePosition, position_of, positions_of, line_of, lines_of}

pub lines-append : (xs ys : List ValuePosition) → lines_of (xs ++ ys) ≡ lines_of xs ++ lines_of ys
lines-append [] ys = refl
lines-append (x ∷ xs) ys =
    ap (λ b. line_of x ++ b) (lines-append xs ys)
    ∙ sym (append_assoc (line_of x) (lines_of xs) (lines_of ys))

pub positions-append :
    (offset : ℕ) (xs ys : List InputPart)
    → positions_of offset (xs ++ ys) ≡ positions_of offset xs ++ positions_of (offset + length (bytes_of xs)) ys
positions-append offset [] ys = ap (λ k. positions_of k ys) (omega arith)
positions-append offset (passed byte ∷ xs) ys =
    positions-append (offset + 1) xs ys
    ∙ ap (λ k. positions_of (offset + 1) xs ++ positions_of k ys) (omega arith)
positions-append offset (sighted bytes tree ∷ xs) ys =
    let size = length-append bytes (bytes_of xs) in
    ap (λ p. position_of offset bytes tree ∷ p)
    (positions-append (offset + length bytes) xs ys
    ∙ ap (λ k. positions_of (offset + length bytes) xs ++ positions_of k ys) (omega (arith, size)))

-- The lines of concatenated parts.
pub lines_of_parts :
    (offset : ℕ) (xs ys : List InputPart)
    → lines_of (positions_of offset (xs ++ ys))
    ≡ lines_of (positions_of offset xs) ++ lines_of (positions_of (offset + length (bytes_of xs)) ys)
lines_of_parts offset xs ys =
    ap lines_of (positions-append offset xs ys)
    ∙ lines-append (positions_of offset xs) (positions_of (offset + length (bytes_of xs)) ys)
