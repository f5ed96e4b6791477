-- Types in the order of discovery, and the entries of the first discovered types.
use Rattle.std.specs.Prelude.{ℕ, ◌<◌, ◌≤◌, ◌≡◌, List, [], ◌∷◌, ◌++◌, length, map, take, Some, All}
use Rattle.std.specs.Prelude.{slice_get}
use Rattle.std.specs.List.{flat_map}
use Rattle.types_spec.specs.declared.types.decl.Decl.{Decl}
use Rattle.types_spec.specs.declared.types.head.HeadOf.{HeadOf}
use Rattle.types_spec.specs.declared.types.names.Names.{Names}
use Rattle.types_spec.specs.declared.types.shape.ShapeOf.{ShapeOf}
use Rattle.types_spec.specs.types.Ty.{Ty}
use Rattle.types_spec.specs.types.TypeNodes.{type_at}
use Rattle.types_spec.specs.types.Head.{head}
use Rattle.types_spec.specs.types.Shape.{shape}
use Rattle.types_spec.specs.types.Names.{names_of}
use Rattle.types_spec.specs.types.Reached.{reached_from, IsWithoutRepeats, IsFromEarlier}
use Rattle.types_spec.specs.types.Table.{with_parts, head_with_parts}
use Rattle.types_table.specs.store.Held.{Grows}
use Rattle.types_build.specs.declared.representation.representation.Representation.{Representation}
use Rattle.types_build.specs.representation.Representation.{AreNamesAt}
use Rattle.types_table.specs.partition.FoundClasses.{AreClasses}
use Rattle.types_table.specs.declared.type_table.tabled.Tabled.{Tabled}
use Rattle.types_build.specs.declared.builder.type_entry.TypeEntry.{TypeEntry}
use Rattle.types_build.specs.declared.builder.listing.Listing.{Listing}
use Rattle.types_build.specs.builder.PlacedTypes.{IsShapePlaced, IsHeadPlaced}

-- The types of the store with the indices `numbers`.
abbrev pub types_at : List Ty → List ℕ → List Ty
types_at types numbers = map (type_at types) numbers

-- The numbers are numbers of types in the store.
abbrev pub AreWithin : List Ty → List ℕ → Type 0
AreWithin types numbers = All (λ i. i < length types) numbers

-- ---- one type

-- The entry contains the representation with indices of discovered types as parts, and the names of
-- the representation's head.
pub record IsPlacedEntry (decls : List Decl) (before after : List ℕ)
    (representation : Representation)
    (entry : TypeEntry) : Type 0 where
  pub middle : List ℕ
  pub shape : IsShapePlaced before middle representation.shape entry.shape
  pub head : IsHeadPlaced middle after representation.head entry.head
  pub names : AreNamesAt decls representation.head entry.names

-- The entry of the type `t`. The types that `t` reaches directly are discovered after the earlier
-- types. The head and the shape of the entry stay correct if more types are discovered.
pub record IsEntry (decls : List Decl) (t : Ty) (before after : List Ty) (entry : TypeEntry)
    : Type 0 where
  pub added : List Ty
  pub kept : after ≡ before ++ added
  pub new : IsWithoutRepeats before (reached_from decls t) added
  pub head :
      (all : List Ty) → Grows after all
      → head_with_parts (slice_get all) entry.head ≡ head_with_parts Some (head decls t)
  pub shape :
      (all : List Ty) → Grows after all
      → with_parts (slice_get all) entry.shape ≡ with_parts Some (shape decls t)
  pub names : entry.names ≡ names_of decls t

-- ---- all discovered types

-- The discovered types are `t` and the types that the first `k` discovered types reach directly.
-- The first `k` discovered types have entries.
pub record IsListing (decls : List Decl) (t : Ty) (k : ℕ) (met : List Ty)
    (shapes : List (ShapeOf ℕ)) (tops : List (HeadOf ℕ)) (words : List Names) : Type 0 where
  pub in_order : IsWithoutRepeats [] (t ∷ flat_map (reached_from decls) (take k met)) met
  pub from_earlier :
      (j : ℕ) (u : Ty) → 0 < j → slice_get met j ≡ Some u → IsFromEarlier decls met j u
  pub nodes :
      (all : List Ty) → Grows met all
      → map (with_parts (slice_get all)) shapes
      ≡ map (λ u. with_parts Some (shape decls u)) (take k met)
  pub heads :
      (all : List Ty) → Grows met all
      → map (head_with_parts (slice_get all)) tops
      ≡ map (λ u. head_with_parts Some (head decls u)) (take k met)
  pub names : words ≡ map (names_of decls) (take k met)

abbrev pub met_types : Listing → List Ty
met_types listing = types_at listing.types listing.met.keys

abbrev pub IsListingOf : List Decl → Ty → Listing → Type 0
IsListingOf decls t listing =
    IsListing decls t (length listing.nodes.items) (met_types listing) listing.nodes.items
    listing.heads.items listing.names.items

-- All discovered types have entries, and there are at most 65,536 discovered types.
pub record IsWhole (decls : List Decl) (t : Ty) (listing : Listing) : Type 0 where
  pub within : AreWithin listing.types listing.met.keys
  pub listed : IsListingOf decls t listing
  pub all : length listing.met.keys ≤ length listing.nodes.items
  pub few : length listing.met.keys ≤ 65536

-- ---- the table

-- The table consists of the listing and the classes of the listing's heads.
pub record IsTableOfListing (listing : Listing) (table : Tabled) : Type 0 where
  pub store : table.store ≡ listing.types
  pub stored : table.stored ≡ listing.met.keys
  pub nodes : table.nodes ≡ listing.nodes.items
  pub names : table.names ≡ listing.names.items
  pub classes : AreClasses listing.heads.items table.classes
