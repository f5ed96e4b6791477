-- The text of a block: a plain literal whose parts are literals. Each part is read as a tree.
use Rattle.std.specs.Prelude.{ℕ, ℤ, ◌+◌, ◌≡◌, ◌⊎◌, List, [], ◌∷◌, ◌++◌, length, Ok, Some}
use Rattle.base_data.specs.declared.model.value.Val.{Val}
use Rattle.base_data.specs.declared.model.value.Val.TheVariants as vals
use Rattle.types_spec.specs.declared.types.names.Names.{Names}
use Rattle.types_spec.specs.declared.types.shape.ShapeOf.{ShapeOf}
use Rattle.types_spec.specs.types.Fitting.{numbered_from, block_fields}
use Rattle.marshal_spec.specs.format.Tree.{Forest, AreTrees, roots, all_made, all_objects}
use Rattle.text_literal.specs.literal_grammar.Literal.{Literal, Plain, plain_kinds}
use Rattle.text_print.specs.leaves.Frames.{Frame, frame_of, row_from}
use Rattle.text_literal.specs.parser.LiteralReading.{reading, inside}
use Rattle.text_literal.specs.parser.Starts.{block, start_at}
use Rattle.text_roundtrip.specs.lexed.Lexed.{Ends, IsLexed, BeginsWithoutStar}
use Rattle.text_roundtrip.specs.literal_texts.Forests.{TypesAre, ReadForest}
use Rattle.text_roundtrip.specs.literal_texts.Listing.{AreTexts}
use Rattle.text_roundtrip.specs.literal_texts.NumberedLabels.{before}

module _ {T : Type 0} (shape : T → ShapeOf T) (names : T → Names) (labels : List ℕ) where
  -- The whole text is a plain literal that starts the block, and the parts of the literal are read
  -- as the trees of a forest.
  pub record IsRow (s : ShapeOf T) (nm : Names) (t : T) (tag : ℕ) (skip : List Val) (ts : List T)
      (text : List ℕ) (literals : List Literal) : Type 0 where
    pub plain : Plain
    pub lexed : IsLexed Ends text (plain_kinds plain)
    pub begins : BeginsWithoutStar text
    pub types : ℕ → T
    pub types_are : TypesAre types 0 ts
    pub starts : start_at t s nm plain ≡ block tag skip types
    pub inside_is : (fs : Forest) (c : ℕ) → AreTrees fs
        → ReadForest shape names labels types 0 fs c literals
        → (k : ℕ) → inside shape names k plain c (before c labels) types
        ≡ Ok (reading (roots fs c) (all_objects fs c) (before (c + all_made fs) labels))

module _ {T : Type 0} (shape : T → ShapeOf T) (names : T → Names) (t : T) where
  -- If the texts of the parts are literals, then the frame with these texts is a plain literal that
  -- starts the block (`IsRow`).
  abbrev pub ReadsRow : ShapeOf T → Names → ℕ → List Val → List T → Frame → Type 0
  ReadsRow s nm tag skip ts frame =
      (labels : List ℕ) (texts : List (List ℕ)) (literals : List Literal)
      → AreTexts texts literals → length literals ≡ length ts
      → IsRow shape names labels s nm t tag skip ts
      (frame.opening ++ (row_from frame 0 texts ++ frame.closing)) literals

  -- The values of a block at a type. `skip` has the values that the frame prints. `rest` has the
  -- values of the parts, which have types.
  pub record IsBlockAt (s : ShapeOf T) (nm : Names) (tag : ℕ) (values : List Val) : Type 0 where
    pub skip : List Val
    pub rest : List Val
    pub values_are : values ≡ skip ++ rest
    pub skips : (skip ≡ []) ⊎ ((z : ℤ) × (skip ≡ vals.Int z ∷ []))
    pub ts : List T
    pub needs : block_fields s tag values ≡ Some (numbered_from (length skip) ts)
    pub many : length ts ≡ length rest
    pub row : ReadsRow s nm tag skip ts (frame_of s nm tag values)
