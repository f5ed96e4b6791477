-- Shapes of a table refer only to numbers of the table.
use Rattle.std.proofs.Common.{ℕ, ◌<◌, ◌≡◌, ◌∙◌, ⊎_elim, List, length, Option, Some}
use Rattle.std.proofs.Common.{ap, subst, sym, get_or, All, arith}
use Rattle.std.specs.Prelude.{Contains, slice_get, option_map}
use Rattle.std.proofs.lemmas.List.{length-map}
use Rattle.std.proofs.lemmas.List.Elements.{All-contains_itself}
use Rattle.std.proofs.lemmas.Option.{slice_get_within, slice_get-get_or}
use Rattle.base_data.proofs.model.Options.{Contains-map, Contains-none, map-Contains}
use Rattle.types_spec.specs.declared.types.decl.Decl.{Decl}
use Rattle.types_spec.specs.declared.types.shape.ShapeOf.{ShapeOf}
use Rattle.types_spec.specs.types.Ty.{Ty}
use Rattle.types_spec.specs.types.TypeNodes.{type_at}
use Rattle.types_spec.specs.types.WellFormed.{AreWellFormed, IsSoundType}
use Rattle.types_spec.specs.types.Names.{names_of}
use Rattle.types_spec.specs.types.Reached.{named_in}
use Rattle.types_spec.specs.types.Shape.{shape}
use Rattle.types_spec.proofs.types.TypeShapeLemmas.{named_in-map}
use Rattle.types_spec.specs.types.Table.{Table, with_parts, IsTableOf}
use Rattle.types_theory.proofs.equality.EqualitySoundLemmas.{known_by_hash}
use Rattle.types_theory.proofs.equality.EqualityTableLemmas.{slice_get-mapped, mapped_some, table_is_lawful}
use Rattle.types_table.specs.declared.type_table.tabled.Tabled.{Tabled}
use Rattle.types_table.specs.type_table.Made.{types_of, table_of, IsTypeTable, IsLawful, IsCheckable}

-- ---- tables

module _ (decls : List Decl) (types : List Ty) (table : Table) (made : IsTableOf decls types table)
  where
    pub many : length table.nodes ≡ length types
    many =
        sym (length-map table.nodes (with_parts (slice_get types))) ∙ ap length made.nodes
        ∙ length-map types (λ t. with_parts Some (shape decls t))

    -- Each part of a shape of the table is the number of a type of the table.
    named_below : (k : ℕ) (s : ShapeOf ℕ) (i : ℕ) → slice_get table.nodes k ≡ Some s
        → Contains (named_in s) i → i < length types
    named_below k s i is among =
        let at = mapped_some (λ t. with_parts Some (shape decls t)) (slice_get types k)
        (with_parts (slice_get types) s)
        (sym (slice_get-mapped (λ t. with_parts Some (shape decls t)) types k)
        ∙ ap (λ all. slice_get all k) (sym made.nodes)
        ∙ slice_get-mapped (with_parts (slice_get types)) table.nodes k
        ∙ ap (option_map (with_parts (slice_get types))) is) in
        let same = sym (named_in-map (slice_get types) s)
        ∙ ap (λ (h : ShapeOf (Option Ty)). named_in h) (sym at.2)
        ∙ named_in-map Some (shape decls at.0) in
        let found = map-Contains Some (named_in (shape decls at.0)) (slice_get types i)
        (subst (λ all. Contains all (slice_get types i)) same
        (Contains-map (slice_get types) (named_in s) i among)) in
        slice_get_within types i found.0 (sym found.2)

    pub closed :
        All (λ node. All (λ i. i < length table.nodes) (named_in node)) table.nodes
    closed k s within j i inside =
        let node = get_or table.nodes k s in
        let below : get_or (named_in node) j i < length types =
        named_below k node (get_or (named_in node) j i) (slice_get-get_or table.nodes k s within)
        (All-contains_itself (named_in node) j i inside) in
        subst (λ n. get_or (named_in node) j i < n) (sym many) below

pub made_is_lawful :
    (decls : List Decl) (t : Ty) (table : Tabled) → AreWellFormed decls → IsSoundType decls t
    → IsTypeTable decls t table → IsLawful (table_of table)
made_is_lawful decls t table well sound is = record {
  lawful = table_is_lawful decls well.sound t (types_of table) is.reached
      (known_by_hash decls well t sound (types_of table) is.reached) (table_of table) is.made;
  rooted = rooted;
  closed = closed decls (types_of table) (table_of table) is.made;
  classed = is.made.many ∙ sym (many decls (types_of table) (table_of table) is.made);
} where
  -- The table has at least one type, because the type for which the table was made has a number.
  some_type : 0 < length (types_of table)
  some_type = ⊎_elim
      (λ seen. absurd (Contains-none t seen.0))
      (λ new. subst (λ all. 0 < length all) (sym new.2) (omega arith))
      is.reached.in_order

  rooted : 0 < length table.nodes
  rooted =
      subst (λ n. 0 < n) (sym (many decls (types_of table) (table_of table) is.made)) some_type

pub made_is_checkable :
    (decls : List Decl) (t : Ty) (table : Tabled) → AreWellFormed decls → IsSoundType decls t
    → IsTypeTable decls t table → IsCheckable table
made_is_checkable decls t table well sound is = record {
  lawful = made_is_lawful decls t table well sound is;
  named =
      ap length is.named ∙ length-map (types_of table) (names_of decls)
      ∙ sym (many decls (types_of table) (table_of table) is.made);
  numbered =
      sym (length-map table.stored (type_at table.store))
      ∙ sym (many decls (types_of table) (table_of table) is.made);
  within = is.within;
}
