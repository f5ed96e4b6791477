-- The fields and blocks of predeclared variants, over type indices.
use Rattle.std.proofs.Common.{ℕ, zero, suc, ◌+◌, ◌<◌, ◌≤◌, ◌≡◌, ◌∙◌, Bool, true, false, List, [], ◌∷◌, ◌++◌, length, map, take, get_or, Some, refl, sym, ap, subst, All, arith}
use Rattle.std.specs.Prelude.{slice_get}
use Rattle.std.specs.Borrow.{Bor}
use Rattle.std.proofs.lemmas.List.{map-append, length-map}
use Rattle.std.proofs.lemmas.List.Elements.{All-push, All-nil, All-cons, All-head, All-get_or}
use Rattle.std.proofs.lemmas.Option.{slice_get_within, slice_get-get_or, get_or_from_slice_get}
use Rattle.base_data.proofs.model.Lists.{take-whole}
use Rattle.types_spec.specs.declared.types.predeclared.SumField.{SumField}
use Rattle.types_spec.specs.declared.types.predeclared.BlockRow.{BlockRow}
use Rattle.types_spec.specs.declared.types.predeclared.SumRow.{SumRow}
use Rattle.types_spec.specs.declared.types.shape.Constr.{Constr}
use Rattle.types_spec.specs.declared.types.shape.ShapeOf.{ShapeOf}
use Rattle.types_spec.specs.declared.types.shape.ShapeOf.TheVariants as shapes
use Rattle.types_spec.specs.types.Ty.{Ty, named, tuple, part}
use Rattle.types_spec.specs.types.TypeNodes.{type_at}
use Rattle.types_spec.specs.types.Predeclared.{Sum, takes, applied, member_type, constr_of, shape_if, sum_shape}
use Rattle.types_spec.specs.types.PredeclaredCode.{block_row, sum_row_of}
use Rattle.types_spec.proofs.types.SumTypes.{takes_length}
use Rattle.types_table.specs.store.Held.{Grows, Holds}
use Rattle.types_table.specs.store.Instance.{HasNumbers, HoldsEach}
use Rattle.types_table.proofs.store.StoreHeldLemmas.{Grows-held}
use Rattle.types_table.proofs.store.StoreInstanceLemmas.{types_at-kept, below_kept, holds_there}
use Rattle.types_spec.specs.types.Table.{constr_with}
use Rattle.types_build.specs.representation.Representation.{HasBlocks, IsShapeAt}
use Rattle.types_build.proofs.representation.RepresentationLoopLemmas.{one_more}
use Rattle.types_build.proofs.representation.DatatypeLemmas.{blocks_kept, sum_at}

-- ---- the variant itself

pub applied_more : (whole : Ty) (ts : List Ty) (t : Ty) → applied whole (ts ++ t ∷ []) ≡ part (applied whole ts) t
applied_more whole [] t = refl
applied_more whole (a ∷ ts) t = applied_more (part whole a) ts t

-- If the type with the first `k` arguments is stored, then the type with one more argument can be
-- stored.
module _ (old now : List Ty) (grown : Grows old now) (parts : List ℕ) (among : All (λ i. i < length old) parts)
    (k p : ℕ) (at : slice_get parts k ≡ Some p) where
  within : p < length old
  within =
      subst (λ (q : ℕ). q < length old) (get_or_from_slice_get parts k p 0 at)
      (All-get_or (λ i. i < length old) parts k 0 (slice_get_within parts k p at) among)

  pub part_below : p < length now
  part_below =
      All-head (λ i. i < length now) p []
      (below_kept old now grown.added (p ∷ []) grown.kept (All-cons (λ i. i < length old) p [] within (All-nil (λ i. i < length old))))

  part_kept : type_at now p ≡ type_at old p
  part_kept =
      let e : type_at now p ∷ [] ≡ type_at old p ∷ [] =
      types_at-kept old now grown.added (p ∷ []) grown.kept (All-cons (λ i. i < length old) p [] within (All-nil (λ i. i < length old))) in cc

  pub itself_more : (name : List ℕ) (whole : ℕ)
      → slice_get now whole ≡ Some (applied (named name) (map (type_at old) (take k parts)))
      → (new : List Ty) (i : ℕ) → Holds now new (part (type_at now whole) (type_at now p)) i
      → slice_get new i ≡ Some (applied (named name) (map (type_at old) (take (k + 1) parts)))
  itself_more name whole is new i held =
      let before = applied (named name) (map (type_at old) (take k parts)) in
      held.there
      ∙ ap (λ (t : Ty). Some (part t (type_at now p))) (get_or_from_slice_get now whole before tuple is)
      ∙ ap (λ (t : Ty). Some (part before t)) part_kept
      ∙ ap (λ (t : Ty). Some t) (sym (applied_more (named name) (map (type_at old) (take k parts)) (type_at old p)))
      ∙ ap (λ (ts : List Ty). Some (applied (named name) ts)) (sym (map-append (type_at old) (take k parts) (p ∷ [])))
      ∙ ap (λ (ns : List ℕ). Some (applied (named name) (map (type_at old) ns))) (sym (one_more parts k p at))

-- If the type with all arguments is stored, then the index is that of the variant itself.
pub itself_whole : (old now : List Ty) (parts : List ℕ) (name : List ℕ) (k whole : ℕ) → k ≡ length parts → Grows old now
    → slice_get now whole ≡ Some (applied (named name) (map (type_at old) (take k parts)))
    → Holds old now (applied (named name) (map (type_at old) parts)) whole
itself_whole old now parts name k whole end grown is = record {
  added = grown.added;
  kept = grown.kept;
  there = is ∙ ap (λ (ns : List ℕ). Some (applied (named name) (map (type_at old) ns))) (take-whole parts k end);
}

-- ---- arguments

-- If argument `i` exists, then the type of argument `i` is the type at its index.
argument_there : (types : List Ty) (numbers : List ℕ) (i : ℕ) (own : Ty) (d : ℕ) → i < length numbers
    → get_or (map (type_at types) numbers) i own ≡ type_at types (get_or numbers i d)
argument_there types [] i own d below = absurd (omega arith)
argument_there types (n ∷ numbers) zero own d below = refl
argument_there types (n ∷ numbers) (suc i) own d below = argument_there types numbers i own d (omega arith)

-- If argument `i` does not exist, then the type is that of the variant itself.
pub argument_past : (types : List Ty) (numbers : List ℕ) (i : ℕ) (own : Ty) → length numbers ≤ i
    → get_or (map (type_at types) numbers) i own ≡ own
argument_past types [] i own past = refl
argument_past types (n ∷ numbers) zero own past = absurd (omega arith)
argument_past types (n ∷ numbers) (suc i) own past = argument_past types numbers i own (omega arith)

pub argument_held : (types : List Ty) (parts : List ℕ) (i : ℕ) (own : Ty) → All (λ n. n < length types) parts → i < length parts
    → Holds types types (get_or (map (type_at types) parts) i own) (get_or parts i 0)
argument_held types parts i own among below =
    holds_there types (get_or parts i 0) (get_or (map (type_at types) parts) i own)
    (All-get_or (λ n. n < length types) parts i 0 below among) (sym (argument_there types parts i own 0 below))

-- ---- fields

module _ (old now : List Ty) (grown : Grows old now) (f : SumField → Ty) (ms : List SumField) (numbers : List ℕ)
    (has : HasNumbers now (map f ms) numbers) (new : List Ty) (m : SumField) (i : ℕ) (held : Holds now new (f m) i) where
  at : type_at new i ≡ f m
  at = get_or_from_slice_get new i (f m) tuple held.there

  member_more : HoldsEach old new (map f (ms ++ m ∷ [])) (numbers ++ i ∷ [])
  member_more = record {
    grown = Grows-held old now new _ i grown held;
    has = record {
      below = All-push (λ j. j < length new) numbers i (below_kept now new held.added numbers held.kept has.below) (slice_get_within new i _ held.there);
      are = map-append (type_at new) numbers (i ∷ [])
          ∙ (λ k. (types_at-kept now new held.added numbers held.kept has.below ∙ has.are) k ++ at k ∷ [])
          ∙ sym (map-append f ms (m ∷ []));
    };
  }

-- The types of a variant's arguments do not change when the store grows.
module _ (old now : List Ty) (grown : Grows old now) (parts : List ℕ) (among : All (λ i. i < length old) parts) (name : List ℕ) where
  abbrev member_at : List Ty → SumField → Ty
  member_at types = member_type name (map (type_at types) parts)

  same_parts : map (type_at now) parts ≡ map (type_at old) parts
  same_parts = types_at-kept old now grown.added parts grown.kept among

  pub parts_below : All (λ i. i < length now) parts
  parts_below = below_kept old now grown.added parts grown.kept among

  -- If the type of one more field is in the store, then the types of the fields up to this field
  -- are in the store.
  pub next_member : (fields : List SumField) (k : ℕ) (d : SumField) → k < length fields → (numbers : List ℕ)
      → HasNumbers now (map (member_at old) (take k fields)) numbers
      → (new : List Ty) (i : ℕ) → Holds now new (member_at now (get_or fields k d)) i
      → HoldsEach old new (map (member_at old) (take (k + 1) fields)) (numbers ++ i ∷ [])
  next_member fields k d below numbers has new i held =
      let m = get_or fields k d in
      let here = subst (λ (ts : List Ty). Holds now new (member_type name ts m) i) same_parts held in
      subst (λ (ms : List SumField). HoldsEach old new (map (member_at old) ms) (numbers ++ i ∷ []))
      (sym (one_more fields k m (slice_get-get_or fields k d below)))
      (member_more old now grown (member_at old) (take k fields) numbers has new m i here)

-- ---- blocks

-- If the types of one more block are in the store, then the types of the blocks up to this block
-- are in the store.
row_more : (types new : List Ty) (grown : Grows types new) (all : List (Constr Ty)) (found : List (Constr ℕ))
    → HasBlocks types all found → (mutable : Bool) (fields : List Ty) (numbers : List ℕ) → HasNumbers new fields numbers
    → HasBlocks new (all ++ record { mutable = mutable; fields = fields } ∷ [])
    (found ++ record { mutable = mutable; fields = numbers } ∷ [])
row_more types new grown all found has mutable fields numbers is =
    let kept = blocks_kept types new grown all found has in
    record {
      within = All-push (λ (block : Constr ℕ). All (λ i. i < length new) block.fields) found _ kept.within is.below;
      are = map-append (constr_with (type_at new)) found (record { mutable = mutable; fields = numbers } ∷ [])
          ∙ (λ k. kept.are k ++ record { mutable = mutable; fields = is.are k } ∷ []);
    }

module _ (old now new : List Ty) (grown : Grows old now) (more : Grows now new) (parts : List ℕ)
    (among : All (λ i. i < length old) parts) (name : List ℕ) where
  abbrev row_at : BlockRow → Constr Ty
  row_at row = constr_of name (map (type_at old) parts) (block_row row)

  abbrev rows_at : List BlockRow → List (Constr Ty)
  rows_at rows = map (constr_of name (map (type_at old) parts)) (map block_row rows)

  pub next_block : (rows : List BlockRow) (k : ℕ) (d : BlockRow) → k < length rows → (found : List (Constr ℕ))
      → HasBlocks now (rows_at (take k rows)) found
      → (numbers : List ℕ)
      → HasNumbers new (map (member_type name (map (type_at now) parts)) (get_or rows k d).fields.now) numbers
      → HasBlocks new (rows_at (take (k + 1) rows))
      (found ++ record { mutable = (get_or rows k d).mutable; fields = numbers } ∷ [])
  next_block rows k d below found has numbers is =
      let row = get_or rows k d in
      let here = subst (λ (ts : List Ty). HasNumbers new (map (member_type name ts) row.fields.now) numbers)
      (same_parts old now grown parts among name) is in
      let all : rows_at (take (k + 1) rows) ≡ rows_at (take k rows) ++ row_at row ∷ [] =
      ap rows_at (one_more rows k row (slice_get-get_or rows k d below))
      ∙ ap (map (constr_of name (map (type_at old) parts))) (map-append block_row (take k rows) (row ∷ []))
      ∙ map-append (constr_of name (map (type_at old) parts)) (map block_row (take k rows)) (block_row row ∷ []) in
      subst (λ (cs : List (Constr Ty)). HasBlocks new cs (found ++ record { mutable = row.mutable; fields = numbers } ∷ []))
      (sym all)
      (row_more now new more (rows_at (take k rows)) found has row.mutable
      (map (member_type name (map (type_at old) parts)) row.fields.now) numbers here)

-- ---- shapes

length_takes : {T : Type 0} (ts : List T) → takes (length ts) ts ≡ true
length_takes [] = refl
length_takes (t ∷ ts) = length_takes ts

right_number : (types : List Ty) (numbers : List ℕ) (n : ℕ) → n ≡ length numbers → takes n (map (type_at types) numbers) ≡ true
right_number types numbers n is =
    ap (λ (k : ℕ). takes k (map (type_at types) numbers)) (is ∙ sym (length-map numbers (type_at types)))
    ∙ length_takes (map (type_at types) numbers)

shape_right : (types : List Ty) (numbers : List ℕ) (known : Sum) (name : List ℕ) → known.parameters ≡ length numbers
    → sum_shape (Some known) name (map (type_at types) numbers)
    ≡ shapes.Sum (length known.constants) (map (constr_of name (map (type_at types) numbers)) known.blocks)
shape_right types numbers known name is =
    ap (λ (test : Bool). shape_if test known name (map (type_at types) numbers)) (right_number types numbers known.parameters is)

shape_wrong : (types : List Ty) (numbers : List ℕ) (known : Sum) (name : List ℕ) → (known.parameters ≡ length numbers → ⊥)
    → sum_shape (Some known) name (map (type_at types) numbers) ≡ shapes.Variable
shape_wrong types numbers known name other = go (takes known.parameters (map (type_at types) numbers)) refl
  where
    go : (test : Bool) → takes known.parameters (map (type_at types) numbers) ≡ test
        → shape_if (takes known.parameters (map (type_at types) numbers)) known name (map (type_at types) numbers) ≡ shapes.Variable
    go true is = absurd (other (takes_length known.parameters (map (type_at types) numbers) is ∙ length-map numbers (type_at types)))
    go false is = ap (λ (test : Bool). shape_if test known name (map (type_at types) numbers)) is

-- The shape of the variant in a row of the code's table.
module _ (types : List Ty) (parts : List ℕ) (row : SumRow) (name : List ℕ) where
  abbrev shape_of_row : ShapeOf Ty
  shape_of_row = sum_shape (Some (sum_row_of row)) name (map (type_at types) parts)

  pub wrong_parts : (row.parameters ≡ length parts → ⊥) → IsShapeAt types shape_of_row shapes.Variable
  wrong_parts other =
      subst (λ (s : ShapeOf Ty). IsShapeAt types s shapes.Variable)
      (sym (shape_wrong types parts (sum_row_of row) name other)) refl

  pub right_parts : row.parameters ≡ length parts → (new : List Ty) (found : List (Constr ℕ))
      → HasBlocks new (map (constr_of name (map (type_at types) parts)) (map block_row row.blocks.now)) found
      → IsShapeAt new shape_of_row (shapes.Sum (length row.constants.now) found)
  right_parts is new found has =
      let blocks = map (constr_of name (map (type_at types) parts)) (map block_row row.blocks.now) in
      let many : length (sum_row_of row).constants ≡ length row.constants.now = length-map row.constants.now (λ (text : Bor (List ℕ)). text.now) in
      subst (λ (s : ShapeOf Ty). IsShapeAt new s (shapes.Sum (length row.constants.now) found))
      (sym (shape_right types parts (sum_row_of row) name is ∙ ap (λ (n : ℕ). shapes.Sum n blocks) many))
      (sum_at new (length row.constants.now) blocks found has)
