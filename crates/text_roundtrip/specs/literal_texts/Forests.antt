-- Literals that are read as the trees of a forest, with the objects in the order of the trees.
use Rattle.std.specs.Prelude.{ℕ, suc, ◌+◌, ◌≡◌, List, [], ◌∷◌, Ok}
use Rattle.base_data.specs.declared.model.value.Val.{Val}
use Rattle.base_data.specs.declared.model.value.Obj.{Obj}
use Rattle.types_spec.specs.declared.types.names.Names.{Names}
use Rattle.types_spec.specs.declared.types.shape.ShapeOf.{ShapeOf}
use Rattle.marshal_spec.specs.format.Tree.{Forest, none, more, root, made, objects_of}
use Rattle.text_literal.specs.literal_grammar.Literal.{Literal}
use Rattle.text_literal.specs.parser.LiteralReading.{reading, literal_read}
use Rattle.text_roundtrip.specs.literal_texts.NumberedLabels.{before}

-- The types of the parts from index `i` on are `ts`.
abbrev pub TypesAre : {T : Type 0} → (ℕ → T) → ℕ → List T → Type 0
TypesAre types i [] = Unit {0}
TypesAre types i (t ∷ ts) = (types i ≡ t) × TypesAre types (suc i) ts

module _ {T : Type 0} (shape : T → ShapeOf T) (names : T → Names) where
  -- The literal is read as the value `value` at the type `t`. Before the literal there are `c`
  -- objects, and after the literal there are `d` objects.
  abbrev pub Reads : List ℕ → Literal → Val → List Obj → ℕ → ℕ → T → Type 0
  Reads labels v value objects c d t =
      (k : ℕ) → literal_read shape names k v c (before c labels) t
      ≡ Ok (reading (value ∷ []) objects (before d labels))

  -- Each literal is read as a tree of the forest.
  abbrev pub ReadForest : List ℕ → (ℕ → T) → ℕ → Forest → ℕ → List Literal → Type 0
  ReadForest labels types i none c [] = Unit {0}
  ReadForest labels types i none c (v ∷ vs) = ⊥
  ReadForest labels types i (more s fs) c [] = ⊥
  ReadForest labels types i (more s fs) c (v ∷ vs) =
      Reads labels v (root s c) (objects_of s c) c (c + made s) (types i)
      × ReadForest labels types (suc i) fs (c + made s) vs
