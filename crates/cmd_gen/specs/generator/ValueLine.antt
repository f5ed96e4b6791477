-- The line for a generated value.
use Rattle.std.specs.Prelude.{ℕ, List, ◌++◌, length, sum, codes, decimal}
use Rattle.marshal_spec.specs.format.Canonical.{canon, canonical_head}
use Rattle.marshal_spec.specs.format.Tree.{Tree, tokens}

-- The text of the line for the value of a tree. The line contains the number and the sum of the
-- canonical bytes including the header, the objects and 64-bit words that the header states, and
-- the verdict.
abbrev pub generated_text : Tree → List ℕ → List ℕ
generated_text tree verdict =
    let head = canonical_head (tokens tree) in
    codes "bytes " ++ decimal (length (canon tree)) ++ codes " sum " ++ decimal (sum (canon tree))
    ++ codes " objects " ++ decimal head.objects ++ codes " words " ++ decimal head.w64
    ++ codes " " ++ verdict
