-- Lemmas about the fields and blocks of declared types with arguments, over type indices.
use Rattle.std.proofs.Common.{ℕ, ◌+◌, ◌<◌, ◌≡◌, ◌∙◌, Bool, false, List, [], ◌∷◌, ◌++◌, length, map, take, Option, Some, None, refl, sym, ap, subst, All}
use Rattle.std.specs.Prelude.{slice_get}
use Rattle.std.specs.List.{filter_map}
use Rattle.std.proofs.lemmas.List.{map-append}
use Rattle.std.proofs.lemmas.List.Elements.{All-nil, All-cons, All-head, All-tail, All-push, All-weaker}
use Rattle.std.proofs.lemmas.Option.{slice_get_within, get_or_from_slice_get}
use Rattle.types_spec.specs.declared.types.decl.Field.{Field}
use Rattle.types_spec.specs.declared.types.decl.Body.TheVariants as bodies
use Rattle.types_spec.specs.declared.types.decl.Decl.{Decl}
use Rattle.types_spec.specs.declared.types.shape.Constr.{Constr}
use Rattle.types_spec.specs.declared.types.shape.ShapeOf.TheVariants as shapes
use Rattle.types_spec.specs.types.Ty.{Ty, tuple, instance}
use Rattle.types_spec.specs.types.TypeNodes.{type_at}
use Rattle.types_spec.specs.types.Declarations.{instance_of}
use Rattle.types_spec.specs.types.Shape.{any_mutable, is_flat, types_of_fields, record_shape, body_shape}
use Rattle.types_spec.specs.types.Table.{constr_with}
use Rattle.types_table.specs.store.Held.{Grows, Holds}
use Rattle.types_table.specs.store.Instance.{HasNumbers, HoldsEach, argument_at}
use Rattle.types_table.proofs.store.StoreHeldLemmas.{Grows-held}
use Rattle.types_table.proofs.store.StoreInstanceLemmas.{types_at-kept, below_kept}
use Rattle.types_build.specs.representation.Representation.{instance_at, IsShapeAt, HasBlocks, HasBlock}
use Rattle.types_build.proofs.representation.RepresentationLoopLemmas.{filtered_some, filtered_none}
use Rattle.types_build.proofs.representation.RepresentationLemmas.{numbers_found, product_at}

-- ---- arguments do not change

module _ (old now : List Ty) (grown : Grows old now) (decl : Decl) (arguments : List ℕ) (among : All (λ i. i < length old) arguments) where
  pub instance_kept : instance_at now decl arguments ≡ instance_at old decl arguments
  instance_kept =
      ap (λ (ts : List Ty). λ (t : Ty). instance_of decl ts t) (types_at-kept old now grown.added arguments grown.kept among)

  -- ---- one more instance
  module _ (ts : List Ty) (numbers : List ℕ) (has : HasNumbers now (map (instance_at old decl arguments) ts) numbers)
      (new : List Ty) (t : Ty) (i : ℕ) (held : Holds now new (instance (argument_at now decl.parameters arguments) t) i) where
    at : type_at new i ≡ instance_at old decl arguments t
    at =
        get_or_from_slice_get new i (instance_at now decl arguments t) tuple held.there
        ∙ ap (λ (f : Ty → Ty). f t) instance_kept

    pub instance_more : HoldsEach old new (map (instance_at old decl arguments) (ts ++ t ∷ [])) (numbers ++ i ∷ [])
    instance_more = record {
      grown = Grows-held old now new _ i grown held;
      has = record {
        below = All-push (λ j. j < length new) numbers i (below_kept now new held.added numbers held.kept has.below) (slice_get_within new i _ held.there);
        are = map-append (type_at new) numbers (i ∷ [])
            ∙ (λ k. (types_at-kept now new held.added numbers held.kept has.below ∙ has.are) k ++ at k ∷ [])
            ∙ sym (map-append (instance_at old decl arguments) ts (t ∷ []));
      };
    }

-- If a record is not flat, then its shape is a product of the instances of its field types.
pub boxed_record :
    (decls : List Decl) (types : List Ty) (inst : Ty → Ty) (fields : List Field) (numbers : List ℕ) → is_flat decls fields ≡ false
    → HasNumbers types (map inst (types_of_fields fields)) numbers
    → IsShapeAt types (body_shape decls inst (bodies.Record fields)) (shapes.Product (any_mutable fields) numbers)
boxed_record decls types inst fields numbers boxed has =
    subst (λ flat. IsShapeAt types (record_shape inst fields flat) (shapes.Product (any_mutable fields) numbers)) (sym boxed)
    (product_at types (map inst (types_of_fields fields)) numbers (any_mutable fields) has)

-- ---- blocks

abbrev IsWithin : List Ty → Constr ℕ → Type 0
IsWithin types block = All (λ i. i < length types) block.fields

pub one_block :
    (types all : List Ty) (numbers : List ℕ) (mutable : Bool) → HasNumbers types all numbers
    → HasBlocks types (record { mutable = mutable; fields = all } ∷ []) (record { mutable = mutable; fields = numbers } ∷ [])
one_block types all numbers mutable has = record {
  within = All-cons (IsWithin types) _ [] has.below (All-nil (IsWithin types));
  are = ap (λ (ts : List Ty). record { mutable = mutable; fields = ts } ∷ []) has.are;
}

module _ (types new : List Ty) (grown : Grows types new) where
  blocks_stay : (found : List (Constr ℕ)) → All (IsWithin types) found
      → map (constr_with (type_at new)) found ≡ map (constr_with (type_at types)) found
  blocks_stay [] within = refl
  blocks_stay (block ∷ found) within = λ k.
      record {
        mutable = block.mutable;
        fields = types_at-kept types new grown.added block.fields grown.kept (All-head (IsWithin types) block found within) k;
      }
      ∷ blocks_stay found (All-tail (IsWithin types) block found within) k

  pub blocks_kept : (all : List (Constr Ty)) (found : List (Constr ℕ)) → HasBlocks types all found → HasBlocks new all found
  blocks_kept all found has = record {
    within = All-weaker (IsWithin types) (IsWithin new)
        (λ block within. below_kept types new grown.added block.fields grown.kept within) found has.within;
    are = blocks_stay found has.within ∙ has.are;
  }

  block_added : (all : List (Constr Ty)) (found : List (Constr ℕ)) → HasBlocks types all found
      → (one : Option (Constr Ty)) (block : Constr ℕ) → HasBlock new one (Some block)
      → (next : List (Constr Ty)) → ((b : Constr Ty) → one ≡ Some b → next ≡ all ++ b ∷ [])
      → HasBlocks new next (found ++ block ∷ [])
  block_added all found has None block is next more = absurd is
  block_added all found has (Some b) block is next more =
      let kept = blocks_kept all found has in record {
        within = All-push (IsWithin new) found block kept.within (All-head (IsWithin new) block [] is.within);
        are = map-append (constr_with (type_at new)) found (block ∷ [])
            ∙ (λ k. kept.are k ++ is.are k)
            ∙ sym (more b refl);
      }

  -- If one more constructor is processed, then the blocks of the processed constructors stay
  -- correct.
  module _ {X : Type 0} (f : X → Option (Constr Ty)) (xs : List X) (k : ℕ) (x : X) (at : slice_get xs k ≡ Some x)
      (found : List (Constr ℕ)) (has : HasBlocks types (filter_map f (take k xs)) found) where
    pub block_more : (block : Constr ℕ) → HasBlock new (f x) (Some block) → HasBlocks new (filter_map f (take (k + 1) xs)) (found ++ block ∷ [])
    block_more block is =
        block_added (filter_map f (take k xs)) found has (f x) block is (filter_map f (take (k + 1) xs))
        (λ b same. filtered_some xs k x at f b same)

    pub block_not_more : HasBlock new (f x) None → HasBlocks new (filter_map f (take (k + 1) xs)) found
    block_not_more is =
        subst (λ all. HasBlocks new all found) (sym (by (f x) is refl)) (blocks_kept (filter_map f (take k xs)) found has) where
          by : (one : Option (Constr Ty)) → HasBlock new one None → f x ≡ one → filter_map f (take (k + 1) xs) ≡ filter_map f (take k xs)
          by None none same = filtered_none xs k x at f same
          by (Some b) none same = absurd none

module _ (types : List Ty) where
  blocks_found : (found : List (Constr ℕ)) → All (IsWithin types) found
      → map (constr_with (slice_get types)) found ≡ map (constr_with (λ (t : Ty). Some t)) (map (constr_with (type_at types)) found)
  blocks_found [] within = refl
  blocks_found (block ∷ found) within = λ k.
      record {
        mutable = block.mutable;
        fields = numbers_found types (map (type_at types) block.fields) block.fields
            (record { below = All-head (IsWithin types) block found within; are = refl }) k;
      }
      ∷ blocks_found found (All-tail (IsWithin types) block found within) k

  pub sum_at : (constants : ℕ) (all : List (Constr Ty)) (found : List (Constr ℕ)) → HasBlocks types all found
      → IsShapeAt types (shapes.Sum constants all) (shapes.Sum constants found)
  sum_at constants all found has =
      ap (λ blocks. shapes.Sum constants blocks)
      (blocks_found found has.within ∙ ap (map (constr_with (λ (t : Ty). Some t))) has.are)
