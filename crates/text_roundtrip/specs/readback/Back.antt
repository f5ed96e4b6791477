-- A text, given as a list of chunks, that is read back as a literal with the printed value, objects
-- and labels.
use Rattle.std.specs.Prelude.{ℕ, ◌+◌, ◌^◌, ◌<◌, ◌≡◌, true, List, ◌++◌, length, IsSome, Some}
use Rattle.std.specs.List.{flat_map}
use Rattle.base_data.specs.declared.model.value.Val.{Val}
use Rattle.base_data.specs.declared.model.value.Obj.{Obj}
use Rattle.types_spec.specs.declared.types.names.Names.{Names}
use Rattle.types_spec.specs.declared.types.shape.ShapeOf.{ShapeOf}
use Rattle.types_spec.specs.types.Fitting.{fields_of, or_none}
use Rattle.types_spec.specs.types.Fault.{field_of, type_of_field}
use Rattle.marshal_spec.specs.format.Tree.{Forest, all_made, trees_in}
use Rattle.text_literal.specs.literal_grammar.Literal.{Literal}
use Rattle.text_print.specs.show.TextChunks.{TextChunk, has, firsts, agains, chunk_text}
use Rattle.text_print.specs.leaves.Frames.{Frame, row_from}
use Rattle.text_print.specs.show.ShownValues.{Met}
use Rattle.text_print.specs.show.NamedFields.{HasItsNames}
use Rattle.text_roundtrip.specs.literal_texts.Forests.{TypesAre, Reads, ReadForest}
use Rattle.text_roundtrip.specs.literal_texts.Listing.{IsText, AreTexts}
use Rattle.text_roundtrip.specs.literal_texts.NumberedLabels.{count_from, down, AreIncreasing}
use Rattle.text_roundtrip.specs.literal_texts.Readable.{IsReadable}

-- `Holds` is a relation of values and types that is closed under parts. Each value fits its type,
-- and the names of the type can be read back.
pub record AreShowable {T : Type 0} (shape : T → ShapeOf T) (names : T → Names) (graph : List Obj)
    (Holds : Val → T → Type 0) : Type 0 where
  pub fits : (v : Val) (t : T) → Holds v t → IsSome (fields_of graph v (shape t))
  pub named : (v : Val) (t : T) → Holds v t → HasItsNames (shape t) (names t) graph v
  pub readable : (v : Val) (t : T) → Holds v t → IsReadable (shape t) (names t)
  pub parts : (v : Val) (t : T) (i : ℕ) (u : T) (w : Val) → Holds v t
      → type_of_field (or_none (fields_of graph v (shape t))) i ≡ Some u
      → field_of graph v i ≡ Some w → Holds w u

abbrev pub text_by : List ℕ → List TextChunk → List ℕ
text_by labels chunks = flat_map (chunk_text labels) chunks

-- Labels that increase with the objects. The labels are few enough to be integers, and contain all
-- objects that are visited again.
pub record AreLabels (labels : List ℕ) (chunks : List TextChunk) : Type 0 where
  pub up : AreIncreasing 0 labels
  pub few : length labels < 2 ^ 63
  pub all : (o : ℕ) → has (agains chunks) o ≡ true → has labels o ≡ true

-- The objects `objects` are in the graph from index `c` on.
pub record IsPlaced (graph objects : List Obj) (c : ℕ) : Type 0 where
  pub prefix : List Obj
  pub rest : List Obj
  pub is : graph ≡ prefix ++ (objects ++ rest)
  pub at : length prefix ≡ c

module _ {T : Type 0} (shape : T → ShapeOf T) (names : T → Names) where
  -- The text is a literal with the value `value`. Before the literal there are `c` objects, and
  -- after the literal there are `d` objects.
  pub record IsBack (labels text : List ℕ) (value : Val) (objects : List Obj) (c d : ℕ) (t : T) :
      Type 0 where
    pub literal : Literal
    pub is_text : IsText text literal
    pub reads : Reads shape names labels literal value objects c d t

  -- The text visits `n` new objects from index `c` on, in the order of their indices. The text is
  -- read back with any labels.
  pub record IsMetBack (c n : ℕ) (value : Val) (objects : List Obj) (t : T) (m : Met) :
      Type 0 where
    pub seen : m.seen ≡ down (c + n)
    pub firsts_are : firsts m.chunks ≡ count_from c n
    pub agains_are : (o : ℕ) → has (agains m.chunks) o ≡ true → o < c + n
    pub back : (labels : List ℕ) → AreLabels labels m.chunks
        → IsBack labels (text_by labels m.chunks) value objects c (c + n) t

  -- A list of texts, where each text is read back at the type of its part.
  pub record AreBack (labels text : List ℕ) (frame : Frame) (i : ℕ) (fs : Forest) (c : ℕ)
      (ts : List T) : Type 0 where
    pub texts : List (List ℕ)
    pub literals : List Literal
    pub are_texts : AreTexts texts literals
    pub many : length literals ≡ trees_in fs
    pub text_is : text ≡ row_from frame i texts ++ frame.closing
    pub reads : (types : ℕ → T) (j : ℕ) → TypesAre types j ts
        → ReadForest shape names labels types j fs c literals

  pub record AreMetBack (fs : Forest) (c : ℕ) (frame : Frame) (i : ℕ) (ts : List T) (m : Met) :
      Type 0 where
    pub seen : m.seen ≡ down (c + all_made fs)
    pub firsts_are : firsts m.chunks ≡ count_from c (all_made fs)
    pub agains_are : (o : ℕ) → has (agains m.chunks) o ≡ true → o < c + all_made fs
    pub back : (labels : List ℕ) → AreLabels labels m.chunks
        → AreBack labels (text_by labels m.chunks) frame i fs c ts
