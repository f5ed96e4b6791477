-- The contents of vectors of bytes.
use Rattle.std.specs.Prelude.{ℕ, List, map}
use Rattle.std.specs.Global.{Vec}

abbrev pub texts_of : List (Vec ℕ) → List (List ℕ)
texts_of texts = map (λ (text : Vec ℕ). text.items) texts
