-- Lemmas about concatenated chunks.
use Rattle.std.proofs.Common.{◌≡◌, List, [], ◌∷◌, ◌++◌, refl, ap}
use Rattle.text_print.specs.show.TextChunks.{TextChunk, Text, First, Again, firsts, agains}

pub agains-append : (ps qs : List TextChunk) → agains (ps ++ qs) ≡ agains ps ++ agains qs
agains-append [] qs = refl
agains-append (Text bytes ∷ ps) qs = agains-append ps qs
agains-append (First o ∷ ps) qs = agains-append ps qs
agains-append (Again o ∷ ps) qs = ap (λ os. o ∷ os) (agains-append ps qs)

pub firsts-append : (ps qs : List TextChunk) → firsts (ps ++ qs) ≡ firsts ps ++ firsts qs
firsts-append [] qs = refl
firsts-append (Text bytes ∷ ps) qs = firsts-append ps qs
firsts-append (First o ∷ ps) qs = ap (λ os. o ∷ os) (firsts-append ps qs)
firsts-append (Again o ∷ ps) qs = firsts-append ps qs
