-- Equal types have equal numbers.
use Rattle.std.proofs.Common.{ℕ, ◌<◌, ◌≡◌, ◌∙◌, List, [], length, map, Some, refl, sym, ap, subst, arith}
use Rattle.std.specs.Prelude.{slice_get}
use Rattle.std.proofs.lemmas.Option.{same_Some, slice_get_within, slice_get-get_or}
use Rattle.base_data.proofs.model.Options.{slice_get_there}
use Rattle.types_spec.specs.types.Ty.{Ty, variable, named, tuple, bracket, part, tag, tag_of, including}
use Rattle.types_spec.specs.types.TypeNodes.{type_at, type_of_node, IsBelow}
use Rattle.types_spec.proofs.types.TypeNodeLemmas.{types_of-at}
use Rattle.types_table.specs.declared.store.stored_node.StoredNode.{StoredNode}
use Rattle.types_table.specs.declared.store.stored_node.StoredNode.TheVariants as nodes
use Rattle.types_table.specs.store.Held.{AreDistinct}
use Rattle.types_table.specs.store.View.{name_at, encoded, types_in, IsNamedBelow, IsStore}
use Rattle.types_table.proofs.store.StoreHeldLemmas.{get-map}
use Rattle.types_table.proofs.store.StoreLemmas.{types_in-length}

module _ (names : List (List ℕ)) (all : List StoredNode) (store : IsStore names all) where
  abbrev types : List Ty
  types = types_in names all

  -- The stored node is the node of the type.
  abbrev Says : StoredNode → Ty → Type 0
  Says (nodes.Variable n) (variable x) = name_at names n ≡ x
  Says (nodes.Named n) (named x) = name_at names n ≡ x
  Says nodes.Tuple tuple = Unit {0}
  Says nodes.Bracket bracket = Unit {0}
  Says (nodes.Part whole added) (part t u) = (type_at types whole ≡ t) × (type_at types added ≡ u)
  Says (nodes.Tag whole n) (tag t x) = (type_at types whole ≡ t) × (name_at names n ≡ x)
  Says (nodes.TagOf whole n argument) (tag_of t x u) =
      (type_at types whole ≡ t) × (name_at names n ≡ x) × (type_at types argument ≡ u)
  Says (nodes.Including whole included) (including t u) =
      (type_at types whole ≡ t) × (type_at types included ≡ u)
  Says node t = ⊥

  says : (node : StoredNode) → Says node (type_of_node types (encoded names node))
  says (nodes.Variable n) = refl
  says (nodes.Named n) = refl
  says nodes.Tuple = tt
  says nodes.Bracket = tt
  says (nodes.Part whole added) = (refl, refl)
  says (nodes.Tag whole n) = (refl, refl)
  says (nodes.TagOf whole n argument) = (refl, refl, refl)
  says (nodes.Including whole included) = (refl, refl)

  record IsAt (i : ℕ) (t : Ty) : Type 0 where
    node : StoredNode
    at : slice_get all i ≡ Some node
    is : Says node t
    known : IsNamedBelow (length names) node
    below : IsBelow i (encoded names node)

  is_at : (i : ℕ) (t : Ty) → slice_get types i ≡ Some t → IsAt i t
  is_at i t there =
      let within : i < length all = omega (arith, slice_get_within types i t there, types_in-length names all) in
      let found = slice_get_there all i within in
      let is_named = get-map (encoded names) all i found.0 found.1 in
      let stands = types_of-at (map (encoded names) all) i (encoded names found.0) store.ordered is_named in
      record {
        node = found.0;
        at = found.1;
        is = subst (Says found.0) (same_Some (type_of_node types (encoded names found.0)) t (sym stands ∙ there)) (says found.0);
        known = store.named i found.0 found.1;
        below = store.ordered i (encoded names found.0) is_named;
      }

  is_variable : (x : List ℕ) (node : StoredNode) → Says node (variable x) → (n : ℕ) × (node ≡ nodes.Variable n) × (name_at names n ≡ x)
  is_variable x (nodes.Variable n) is = (n, refl, is)
  is_variable x other is = absurd is

  is_named : (x : List ℕ) (node : StoredNode) → Says node (named x) → (n : ℕ) × (node ≡ nodes.Named n) × (name_at names n ≡ x)
  is_named x (nodes.Named n) is = (n, refl, is)
  is_named x other is = absurd is

  is_tuple : (node : StoredNode) → Says node tuple → node ≡ nodes.Tuple
  is_tuple nodes.Tuple is = refl
  is_tuple other is = absurd is

  is_bracket : (node : StoredNode) → Says node bracket → node ≡ nodes.Bracket
  is_bracket nodes.Bracket is = refl
  is_bracket other is = absurd is

  is_part :
      (t u : Ty) (node : StoredNode) → Says node (part t u)
      → (w a : ℕ) × (node ≡ nodes.Part w a) × (type_at types w ≡ t) × (type_at types a ≡ u)
  is_part t u (nodes.Part w a) is = (w, a, refl, is.0, is.1)
  is_part t u other is = absurd is

  is_tag :
      (t : Ty) (x : List ℕ) (node : StoredNode) → Says node (tag t x)
      → (w n : ℕ) × (node ≡ nodes.Tag w n) × (type_at types w ≡ t) × (name_at names n ≡ x)
  is_tag t x (nodes.Tag w n) is = (w, n, refl, is.0, is.1)
  is_tag t x other is = absurd is

  is_tag_of :
      (t : Ty) (x : List ℕ) (u : Ty) (node : StoredNode) → Says node (tag_of t x u)
      → (w n a : ℕ) × (node ≡ nodes.TagOf w n a) × (type_at types w ≡ t) × (name_at names n ≡ x) × (type_at types a ≡ u)
  is_tag_of t x u (nodes.TagOf w n a) is = (w, n, a, refl, is.0, is.1, is.2)
  is_tag_of t x u other is = absurd is

  is_including :
      (t u : Ty) (node : StoredNode) → Says node (including t u)
      → (w a : ℕ) × (node ≡ nodes.Including w a) × (type_at types w ≡ t) × (type_at types a ≡ u)
  is_including t u (nodes.Including w a) is = (w, a, refl, is.0, is.1)
  is_including t u other is = absurd is

  one_node : (i j : ℕ) (a b : StoredNode) → slice_get all i ≡ Some a → slice_get all j ≡ Some b → a ≡ b → i ≡ j
  one_node i j a b at_i at_j same = store.own_nodes i j b (at_i ∙ ap Some same) at_j

  one_name :
      (n m : ℕ) (x : List ℕ) → n < length names → m < length names
      → name_at names n ≡ x → name_at names m ≡ x → n ≡ m
  one_name n m x first second is other =
      store.own_names n m x (slice_get-get_or names n [] first ∙ ap Some is)
      (slice_get-get_or names m [] second ∙ ap Some other)

  child : (i : ℕ) (node : StoredNode) (w : ℕ) (t : Ty) → slice_get all i ≡ Some node → w < i → type_at types w ≡ t → IsAt w t
  child i node w t at below is =
      let within : w < length types = omega (arith, slice_get_within all i node at, types_in-length names all) in
      is_at w t (slice_get-get_or types w tuple within ∙ ap Some is)

  one_type : (t : Ty) (i j : ℕ) → IsAt i t → IsAt j t → i ≡ j
  one_type (variable x) i j a b =
      let p = is_variable x a.node a.is in
      let q = is_variable x b.node b.is in
      let n = one_name p.0 q.0 x (subst (IsNamedBelow (length names)) p.1 a.known)
      (subst (IsNamedBelow (length names)) q.1 b.known) p.2 q.2 in
      one_node i j a.node b.node a.at b.at (p.1 ∙ ap nodes.Variable n ∙ sym q.1)
  one_type (named x) i j a b =
      let p = is_named x a.node a.is in
      let q = is_named x b.node b.is in
      let n = one_name p.0 q.0 x (subst (IsNamedBelow (length names)) p.1 a.known)
      (subst (IsNamedBelow (length names)) q.1 b.known) p.2 q.2 in
      one_node i j a.node b.node a.at b.at (p.1 ∙ ap nodes.Named n ∙ sym q.1)
  one_type tuple i j a b =
      one_node i j a.node b.node a.at b.at (is_tuple a.node a.is ∙ sym (is_tuple b.node b.is))
  one_type bracket i j a b =
      one_node i j a.node b.node a.at b.at (is_bracket a.node a.is ∙ sym (is_bracket b.node b.is))
  one_type (part t u) i j a b =
      let p = is_part t u a.node a.is in
      let q = is_part t u b.node b.is in
      let p_below = subst (λ k. IsBelow i (encoded names k)) p.2 a.below in
      let q_below = subst (λ k. IsBelow j (encoded names k)) q.2 b.below in
      let w = one_type t p.0 q.0 (child i a.node p.0 t a.at p_below.0 p.3) (child j b.node q.0 t b.at q_below.0 q.3) in
      let v = one_type u p.1 q.1 (child i a.node p.1 u a.at p_below.1 p.4) (child j b.node q.1 u b.at q_below.1 q.4) in
      one_node i j a.node b.node a.at b.at (p.2 ∙ (λ k. nodes.Part (w k) (v k)) ∙ sym q.2)
  one_type (tag t x) i j a b =
      let p = is_tag t x a.node a.is in
      let q = is_tag t x b.node b.is in
      let p_below = subst (λ k. IsBelow i (encoded names k)) p.2 a.below in
      let q_below = subst (λ k. IsBelow j (encoded names k)) q.2 b.below in
      let w = one_type t p.0 q.0 (child i a.node p.0 t a.at p_below p.3) (child j b.node q.0 t b.at q_below q.3) in
      let n = one_name p.1 q.1 x (subst (IsNamedBelow (length names)) p.2 a.known)
      (subst (IsNamedBelow (length names)) q.2 b.known) p.4 q.4 in
      one_node i j a.node b.node a.at b.at (p.2 ∙ (λ k. nodes.Tag (w k) (n k)) ∙ sym q.2)
  one_type (tag_of t x u) i j a b =
      let p = is_tag_of t x u a.node a.is in
      let q = is_tag_of t x u b.node b.is in
      let p_below = subst (λ k. IsBelow i (encoded names k)) p.3 a.below in
      let q_below = subst (λ k. IsBelow j (encoded names k)) q.3 b.below in
      let w = one_type t p.0 q.0 (child i a.node p.0 t a.at p_below.0 p.4) (child j b.node q.0 t b.at q_below.0 q.4) in
      let n = one_name p.1 q.1 x (subst (IsNamedBelow (length names)) p.3 a.known)
      (subst (IsNamedBelow (length names)) q.3 b.known) p.5 q.5 in
      let v = one_type u p.2 q.2 (child i a.node p.2 u a.at p_below.1 p.6) (child j b.node q.2 u b.at q_below.1 q.6) in
      one_node i j a.node b.node a.at b.at (p.3 ∙ (λ k. nodes.TagOf (w k) (n k) (v k)) ∙ sym q.3)
  one_type (including t u) i j a b =
      let p = is_including t u a.node a.is in
      let q = is_including t u b.node b.is in
      let p_below = subst (λ k. IsBelow i (encoded names k)) p.2 a.below in
      let q_below = subst (λ k. IsBelow j (encoded names k)) q.2 b.below in
      let w = one_type t p.0 q.0 (child i a.node p.0 t a.at p_below.0 p.3) (child j b.node q.0 t b.at q_below.0 q.3) in
      let v = one_type u p.1 q.1 (child i a.node p.1 u a.at p_below.1 p.4) (child j b.node q.1 u b.at q_below.1 q.4) in
      one_node i j a.node b.node a.at b.at (p.2 ∙ (λ k. nodes.Including (w k) (v k)) ∙ sym q.2)

  pub types_in-distinct : AreDistinct (types_in names all)
  types_in-distinct i j t at_i at_j = one_type t i j (is_at i t at_i) (is_at j t at_j)
