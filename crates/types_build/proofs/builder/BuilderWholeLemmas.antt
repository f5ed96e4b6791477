-- Lemmas about the table that is built from a complete listing.
use Rattle.std.proofs.Common.{ℕ, ◌<◌, ◌≡◌, ◌∙◌, List, [], ◌∷◌, length, map, take, Some, sym, ap, subst, arith}
use Rattle.std.specs.Prelude.{slice_get}
use Rattle.std.specs.List.{flat_map}
use Rattle.std.proofs.lemmas.List.{take_all, length-map}
use Rattle.std.proofs.lemmas.Option.{slice_get_within}
use Rattle.types_spec.specs.declared.types.decl.Decl.{Decl}
use Rattle.types_spec.specs.types.Ty.{Ty}
use Rattle.types_spec.specs.types.TypeNodes.{type_at}
use Rattle.types_spec.specs.types.Head.{head}
use Rattle.types_spec.specs.types.Shape.{shape}
use Rattle.types_spec.specs.types.Names.{names_of}
use Rattle.types_spec.specs.types.Classes.{PartsBelow}
use Rattle.types_spec.specs.types.Reached.{IsReached, IsWithoutRepeats, reached_from}
use Rattle.types_spec.specs.types.Table.{with_parts, head_with_parts, head_at, AreHeadsOf, IsTableOf}
use Rattle.types_theory.proofs.equality.EqualityNumberLemmas.{types_equal, numbers_equal, parts_below}
use Rattle.types_table.proofs.store.StoreHeldLemmas.{Grows-none}
use Rattle.types_table.specs.declared.type_table.tabled.Tabled.{Tabled}
use Rattle.types_table.specs.type_table.Made.{types_of, table_of, IsTypeTable}
use Rattle.types_build.specs.declared.builder.listing.Listing.{Listing}
use Rattle.types_build.specs.builder.Listed.{types_at, met_types, AreWithin, IsWhole, IsTableOfListing}

module _ (decls : List Decl) (t : Ty) (listing : Listing) (whole : IsWhole decls t listing) where
  abbrev all : List Ty
  all = met_types listing

  many : length all ≡ length listing.met.keys
  many = length-map listing.met.keys (type_at listing.types)

  prefix : take (length listing.nodes.items) all ≡ all
  prefix = take_all (length listing.nodes.items) all (omega (arith, many, whole.all))

  pub are_heads : AreHeadsOf decls all listing.heads.items
  are_heads =
      whole.listed.heads all (Grows-none all)
      ∙ ap (map (λ u. head_with_parts (λ (v : Ty). Some v) (head decls u))) prefix

  as_many : length listing.heads.items ≡ length all
  as_many =
      sym (length-map listing.heads.items (head_with_parts (slice_get all)))
      ∙ ap length are_heads
      ∙ length-map all (λ u. head_with_parts (λ (v : Ty). Some v) (head decls u))

  -- The parts of all heads in a complete listing are indices of the listing.
  pub parts_are_positions : PartsBelow (length listing.heads.items) (head_at listing.heads.items)
  parts_are_positions =
      subst (λ n. PartsBelow n (head_at listing.heads.items)) (sym as_many)
      (parts_below decls all listing.heads.items are_heads)

  all_reached : IsReached decls t all
  all_reached = record {
    in_order = subst (λ (us : List Ty). IsWithoutRepeats [] (t ∷ flat_map (reached_from decls) us) all) prefix whole.listed.in_order;
    from_earlier = whole.listed.from_earlier;
  }

  module _ (table : Tabled) (is : IsTableOfListing listing table) where
    types_same : types_of table ≡ all
    types_same =
        ap (λ (us : List Ty). types_at us table.stored) is.store
        ∙ ap (λ (ns : List ℕ). types_at listing.types ns) is.stored

    below : (i : ℕ) (u : Ty) → slice_get all i ≡ Some u → i < length listing.heads.items
    below i u there = omega (arith, as_many, slice_get_within all i u there)

    made : IsTableOf decls all (table_of table)
    made = record {
      many = is.classes.many ∙ as_many;
      nodes = ap (map (with_parts (slice_get all))) is.nodes ∙ whole.listed.nodes all (Grows-none all)
          ∙ ap (map (λ u. with_parts (λ (v : Ty). Some v) (shape decls u))) prefix;
      same_class = λ i j u w at_i at_j same.
          types_equal decls all listing.heads.items are_heads i j u w at_i at_j
          ((is.classes.same i j (below i u at_i) (below j w at_j)).0 same);
      equal_types = λ i j u w at_i at_j equal.
          (is.classes.same i j (below i u at_i) (below j w at_j)).1
          (numbers_equal decls all listing.heads.items are_heads i j u w at_i at_j equal);
    }

    pub is_table : IsTypeTable decls t table
    is_table = record {
      within = subst (λ (us : List Ty). AreWithin us table.stored) (sym is.store)
          (subst (λ (ns : List ℕ). AreWithin listing.types ns) (sym is.stored) whole.within);
      reached = subst (λ (us : List Ty). IsReached decls t us) (sym types_same) all_reached;
      made = subst (λ (us : List Ty). IsTableOf decls us (table_of table)) (sym types_same) made;
      named = is.names ∙ whole.listed.names ∙ ap (map (names_of decls)) (prefix ∙ sym types_same);
      few = omega (arith, ap length is.stored, whole.few);
    }
