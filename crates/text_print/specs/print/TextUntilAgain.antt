-- The text appended as long as no object occurs again.
use Rattle.std.specs.Prelude.{ℕ, ◌≡◌, List, [], ◌∷◌, ◌++◌, flat_map}
use Rattle.base_data.specs.declared.model.value.Obj.{Obj}
use Rattle.types_table.specs.declared.type_table.tabled.Tabled.{Tabled}
use Rattle.text_print.specs.leaves.FrameView.{frame_in}
use Rattle.text_print.specs.show.TextChunks.{TextChunk, firsts, agains, chunk_text}
use Rattle.text_print.specs.declared.print.open_block.OpenBlock.{OpenBlock}
use Rattle.text_print.specs.declared.print.print_walk.PrintWalk.{PrintWalk}
use Rattle.text_print.specs.print.PrintWalk.{chunks_left, IsWalk, IsBegun}

module _ (table : Tabled) (graph : List Obj) where
  -- The first of the remaining chunks were appended, and none of them visits an object again.
  pub record IsWrittenOn (left : List TextChunk) (met_before old text : List ℕ)
      (new : PrintWalk) : Type 0 where
    pub now : List TextChunk
    pub chunks : left ≡ now ++ chunks_left table graph new
    pub order : new.order ≡ met_before ++ firsts now
    pub fresh : agains now ≡ []
    pub write : text ≡ old ++ flat_map (chunk_text []) now
    pub walk : IsWalk table graph new

  -- The block of an object is opened, and the text before its parts was appended.
  pub record IsOpened (o t tag outside : ℕ) (blocks opened : List OpenBlock) (old text : List ℕ)
      : Type 0 where
    pub block : OpenBlock
    pub begun : IsBegun table graph o t tag outside block
    pub stack : opened ≡ blocks ++ block ∷ []
    pub write : text ≡ old ++ (frame_in block.frame).opening
