-- A text that shows each object at its first occurrence, and only the object's label at later
-- occurrences. Objects that occur more than once have labels, numbered in the order of their first
-- occurrences.
use Rattle.std.specs.Prelude.{ℕ, suc, ◌==◌, if◌then◌else◌, Bool, List, [], ◌∷◌, ◌++◌, codes}
use Rattle.std.specs.Prelude.{decimal, flat_map, filter}
use Rattle.std.specs.List.{list_any}

-- Plain bytes, the position before the text of an object at its first occurrence, or a later
-- occurrence of an object.
pub data TextChunk : Type 0 where
  Text : (bytes : List ℕ) → TextChunk
  First : (o : ℕ) → TextChunk
  Again : (o : ℕ) → TextChunk

abbrev pub has : List ℕ → ℕ → Bool
has all o = list_any (λ other. other == o) all

-- The objects in the order of their first occurrences.
abbrev pub firsts : List TextChunk → List ℕ
firsts [] = []
firsts (Text bytes ∷ chunks) = firsts chunks
firsts (First o ∷ chunks) = o ∷ firsts chunks
firsts (Again o ∷ chunks) = firsts chunks

-- The objects that occur again in the chunks, once for each later occurrence.
abbrev pub agains : List TextChunk → List ℕ
agains [] = []
agains (Text bytes ∷ chunks) = agains chunks
agains (First o ∷ chunks) = agains chunks
agains (Again o ∷ chunks) = o ∷ agains chunks

-- The objects that have labels, in the order of the labels' numbers.
abbrev pub labelled : List TextChunk → List ℕ
labelled chunks = filter (has (agains chunks)) (firsts chunks)

-- The index of an object in a list of objects.
abbrev pub number_in : List ℕ → ℕ → ℕ
number_in [] o = 0
number_in (other ∷ others) o = if other == o then 0 else suc (number_in others o)

abbrev pub label_text : List ℕ → ℕ → List ℕ
label_text objects o = codes "#" ++ decimal (number_in objects o)

abbrev pub chunk_text : List ℕ → TextChunk → List ℕ
chunk_text objects (Text bytes) = bytes
chunk_text objects (First o) = if has objects o then label_text objects o ++ codes "=" else []
chunk_text objects (Again o) = label_text objects o

abbrev pub text_of : List TextChunk → List ℕ
text_of chunks = flat_map (chunk_text (labelled chunks)) chunks
