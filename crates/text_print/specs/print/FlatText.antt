-- The fast path for values in which no object occurs twice.
use Rattle.std.specs.Prelude.{ℕ, suc, ◌<◌, ◌≤◌, ◌≡◌, List, [], ◌∷◌, ◌++◌, length, flat_map, All}
use Rattle.std.specs.Prelude.{Bool, true, false, Option, Some, None}
use Rattle.base_data.specs.declared.model.value.Val.{Val}
use Rattle.base_data.specs.declared.model.value.Obj.{Obj}
use Rattle.types_table.specs.declared.type_table.tabled.Tabled.{Tabled}
use Rattle.text_print.specs.show.TextChunks.{TextChunk, agains, chunk_text}
use Rattle.text_print.specs.show.ShownValues.{Met}
use Rattle.text_print.specs.print.PrintLevels.{with_next}
use Rattle.text_print.specs.print.Write.{IsGrown}
use Rattle.text_print.specs.print.PrintWalk.{meet, parts_left}
use Rattle.text_print.specs.declared.print.open_block.OpenBlock.{OpenBlock}

-- If the flag is true, the text `whole` was appended. If the flag is false, some bytes were
-- appended.
abbrev pub WritesWhole : List ℕ → List ℕ → List ℕ → Bool → Type 0
WritesWhole whole old text true = text ≡ old ++ whole
WritesWhole whole old text false = IsGrown old text

-- A visit of the value gives the chunks `chunks`. After the visit, no object above `last` was
-- visited.
abbrev pub IsMetAs : List TextChunk → ℕ → Met → Type 0
IsMetAs chunks last m = (m.chunks ≡ chunks) × All (λ o. o ≤ last) m.seen

module _ (table : Tabled) (graph : List Obj) where
  -- If no object above `last` was visited before the value, then the appended text is the value's
  -- text, and no object above `next` is visited after the value.
  pub record IsWrittenFlat (v : Val) (t last next : ℕ) (old text : List ℕ) : Type 0 where
    pub chunks : List TextChunk
    pub fresh : agains chunks ≡ []
    pub write : text ≡ old ++ flat_map (chunk_text []) chunks
    pub inside : next < length graph
    pub met_as : (n : ℕ) (seen : List ℕ) → All (λ o. o ≤ last) seen
        → IsMetAs chunks next (meet table graph (suc n) seen v t)

  -- If a number `next` is returned, the text of the value was appended. If `None` is returned, some
  -- bytes were appended.
  abbrev pub WritesFlat : Val → ℕ → ℕ → List ℕ → List ℕ → Option ℕ → Type 0
  WritesFlat v t last old text (Some next) = IsWrittenFlat v t last next old text
  WritesFlat v t last old text None = IsGrown old text

  -- All parts of a block and the text after the parts were appended.
  pub record AreWrittenFlat (block : OpenBlock) (old text : List ℕ) : Type 0 where
    pub chunks : List TextChunk
    pub fresh : agains chunks ≡ []
    pub write : text ≡ old ++ flat_map (chunk_text []) chunks
    pub met_as : (n : ℕ)
        → (parts_left table graph (suc n) (with_next block 0) (block.object ∷ [])).chunks ≡ chunks

  -- If the flag is true, all parts of a block were appended. If the flag is false, some bytes were
  -- appended.
  abbrev pub WritesParts : OpenBlock → List ℕ → List ℕ → Bool → Type 0
  WritesParts block old text true = AreWrittenFlat block old text
  WritesParts block old text false = IsGrown old text
