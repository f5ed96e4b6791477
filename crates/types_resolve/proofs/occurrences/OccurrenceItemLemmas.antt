-- Lemmas about the items of brackets and the tags among the items, node by node.
use Rattle.std.proofs.Common.{ℕ, ◌+◌, ◌<◌, ◌≡◌, ◌∙◌, ⊎_elim, List, [], ◌∷◌, ◌++◌, Option, Some, None}
use Rattle.std.proofs.Common.{length, drop, get_or, refl, sym, ap, subst, arith, append_assoc}
use Rattle.std.specs.Prelude.{slice_index, slice_get, reverse}
use Rattle.std.specs.List.{filter_map}
use Rattle.std.proofs.lemmas.List.{drop_more, get_or_past, map-append, reverse-append}
use Rattle.std.proofs.lemmas.List.Elements.{filter_map-append}
use Rattle.std.proofs.lemmas.Bool.{cases_lt}
use Rattle.std.proofs.lemmas.Option.{same_Some, none-some, get_or_from_slice_get}
use Rattle.base_data.proofs.model.Options.{slice_get_there}
use Rattle.types_spec.specs.types.Ty.{Ty, tuple, bracket, tag, tag_of, including}
use Rattle.types_spec.specs.declared.types.ty.TypeTreeNode.{TypeTreeNode}
use Rattle.types_spec.specs.declared.types.ty.TypeTreeNode.TheVariants as nodes
use Rattle.types_spec.specs.types.TypeNodes.{type_at, types_of, type_of_node, IsBelow, AreOrdered}
use Rattle.types_spec.specs.types.Occurrence.{Placed, PlacedItem}
use Rattle.types_spec.specs.types.Scope.{written_tag}
use Rattle.types_spec.proofs.types.TypeNodeLemmas.{types_of-at, types_of-length}
use Rattle.types_resolve.specs.occurrences.Counted.{inner_count, items_in}
use Rattle.types_resolve.specs.declared.scope.type_brackets.BracketItem.{BracketItem}
use Rattle.types_resolve.specs.declared.occurrences.fact.Facts.{Facts}
use Rattle.types_resolve.specs.scope.TypeBrackets.{item_of, item_known, items_known, brackets_known}
use Rattle.types_resolve.specs.occurrences.Facts.{capped, fact_at, AreFacts}
use Rattle.types_resolve.specs.occurrences.BracketItems.{without_item, tag_at, tag_if, tag_there}
use Rattle.types_resolve.proofs.occurrences.OccurrenceWalkLemmas.{position_of, type_at-node, node_below}

-- ---- the items of a bracket

-- The items of a bracket are the items of the bracket without its last item, followed by the last
-- item.
items_more :
    (types : List Ty) (ms : List ℕ) (n : ℕ) (node : TypeTreeNode) (w : ℕ) → without_item node ≡ Some w
    → type_at types n ≡ type_of_node types node
    → items_in ms (type_at types n)
    ≡ items_in ms (type_at types w) ++ (slice_index ms (inner_count (type_at types w)), item_of (type_at types n)) ∷ []
items_more types ms n (nodes.Variable x) w is at = absurd (none-some w is)
items_more types ms n (nodes.Named x) w is at = absurd (none-some w is)
items_more types ms n nodes.Tuple w is at = absurd (none-some w is)
items_more types ms n nodes.Bracket w is at = absurd (none-some w is)
items_more types ms n (nodes.Part v a) w is at = absurd (none-some w is)
items_more types ms n (nodes.Tag v x) w is at =
    subst (λ t. items_in ms t ≡ items_in ms (type_at types w) ++ (slice_index ms (inner_count (type_at types w)), item_of t) ∷ [])
    (sym at) (ap (λ m. items_in ms (type_at types m) ++ (slice_index ms (inner_count (type_at types m)), tag bracket x) ∷ [])
    (same_Some v w is))
items_more types ms n (nodes.TagOf v x a) w is at =
    subst (λ t. items_in ms t ≡ items_in ms (type_at types w) ++ (slice_index ms (inner_count (type_at types w)), item_of t) ∷ [])
    (sym at) (ap (λ m. items_in ms (type_at types m)
    ++ (slice_index ms (inner_count (type_at types m)), tag_of bracket x (type_at types a)) ∷ []) (same_Some v w is))
items_more types ms n (nodes.Including v u) w is at =
    subst (λ t. items_in ms t ≡ items_in ms (type_at types w) ++ (slice_index ms (inner_count (type_at types w)), item_of t) ∷ [])
    (sym at) (ap (λ m. items_in ms (type_at types m)
    ++ (slice_index ms (inner_count (type_at types m)), including bracket (type_at types u)) ∷ []) (same_Some v w is))

items_none :
    (types : List Ty) (ms : List ℕ) (node : TypeTreeNode) → without_item node ≡ None
    → items_in ms (type_of_node types node) ≡ []
items_none types ms (nodes.Variable x) is = refl
items_none types ms (nodes.Named x) is = refl
items_none types ms nodes.Tuple is = refl
items_none types ms nodes.Bracket is = refl
items_none types ms (nodes.Part v a) is = refl
items_none types ms (nodes.Tag v x) is = absurd (none-some v (sym is))
items_none types ms (nodes.TagOf v x a) is = absurd (none-some v (sym is))
items_none types ms (nodes.Including v u) is = absurd (none-some v (sym is))

-- If no item is left, then the collected items are all items of the bracket.
pub items_end :
    (types : List Ty) (ms : List ℕ) (n : ℕ) (node : TypeTreeNode) (items : List BracketItem) (whole : List PlacedItem)
    → without_item node ≡ None → type_at types n ≡ type_of_node types node
    → items_in ms (type_at types n) ++ items_known types (reverse items) ≡ whole
    → items_known types (reverse items) ≡ whole
items_end types ms n node items whole is at so_far =
    sym (ap (λ l. l ++ items_known types (reverse items)) (ap (items_in ms) at ∙ items_none types ms node is)) ∙ so_far

item_below : (n w : ℕ) (node : TypeTreeNode) → without_item node ≡ Some w → IsBelow n node → w < n
item_below n w (nodes.Variable x) is below = absurd (none-some w is)
item_below n w (nodes.Named x) is below = absurd (none-some w is)
item_below n w nodes.Tuple is below = absurd (none-some w is)
item_below n w nodes.Bracket is below = absurd (none-some w is)
item_below n w (nodes.Part v a) is below = absurd (none-some w is)
item_below n w (nodes.Tag v x) is below = subst (λ m. m < n) (same_Some v w is) below
item_below n w (nodes.TagOf v x a) is below = subst (λ m. m < n) (same_Some v w is) below.0
item_below n w (nodes.Including v u) is below = subst (λ m. m < n) (same_Some v w is) below.0

-- The invariant of the loop over the items holds after one more iteration.
module _ (all : List TypeTreeNode) (ordered : AreOrdered all) (facts : List Facts)
    (are : AreFacts (types_of all) (length all) facts) (ms : List ℕ) (small : length ms < 18446744073709551616)
    (first n w : ℕ) (node : TypeTreeNode) (below : n < length all) (read : node ≡ get_or all n node)
    (is : without_item node ≡ Some w) where
  pub items_fall : w < n
  items_fall = item_below n w node is (node_below all n node ordered below read)

  pub items_turn :
      (position : ℕ) (items next : List BracketItem) (whole : List PlacedItem)
      → position ≡ slice_index ms (capped (first + (fact_at facts w).inner))
      → next ≡ items ++ record { position = position; node = n } ∷ []
      → items_in (drop first ms) (type_at (types_of all) n) ++ items_known (types_of all) (reverse items) ≡ whole
      → items_in (drop first ms) (type_at (types_of all) w) ++ items_known (types_of all) (reverse next) ≡ whole
  items_turn position items next whole position_is next_is so_far =
      let types = types_of all in
      let falls = items_fall in
      let prefix = items_in (drop first ms) (type_at types w) in
      let known = items_known types (reverse items) in
      let here : position ≡ slice_index (drop first ms) (inner_count (type_at types w)) = position_is
      ∙ position_of first (fact_at facts w).inner (inner_count (type_at types w)) ms small ((are.are w (omega arith)).inner_is) in
      ap (λ l. prefix ++ items_known types (reverse l)) next_is
      ∙ ap (λ l. prefix ++ items_known types l) (reverse-append items (record { position = position; node = n } ∷ []))
      ∙ sym (append_assoc prefix ((position, item_of (type_at types n)) ∷ []) known)
      ∙ ap (λ p. (prefix ++ (p, item_of (type_at types n)) ∷ []) ++ known) here
      ∙ ap (λ l. l ++ known)
      (sym (items_more types (drop first ms) n node w is (type_at-node all n node ordered below read)))
      ∙ so_far

-- ---- the tags of items

tag_of_node :
    (types : List Ty) (position : ℕ) (node : TypeTreeNode)
    → filter_map written_tag ((position, item_of (type_of_node types node)) ∷ []) ≡ tag_at position node
tag_of_node types position (nodes.Variable x) = refl
tag_of_node types position (nodes.Named x) = refl
tag_of_node types position nodes.Tuple = refl
tag_of_node types position nodes.Bracket = refl
tag_of_node types position (nodes.Part w a) = refl
tag_of_node types position (nodes.Tag w x) = refl
tag_of_node types position (nodes.TagOf w x a) = refl
tag_of_node types position (nodes.Including w u) = refl

-- The tag of an item is the tag that the item's node adds.
tag_known :
    (all : List TypeTreeNode) (i : BracketItem) → AreOrdered all
    → filter_map written_tag (item_known (types_of all) i ∷ []) ≡ tag_there all i
tag_known all i ordered = by (slice_get all i.node) refl where
  by : (found : Option TypeTreeNode) → slice_get all i.node ≡ found
      → filter_map written_tag (item_known (types_of all) i ∷ []) ≡ tag_there all i
  by (Some node) is =
      let at : type_at (types_of all) i.node ≡ type_of_node (types_of all) node =
      get_or_from_slice_get (types_of all) i.node (type_of_node (types_of all) node) tuple (types_of-at all i.node node ordered is) in
      ap (λ t. filter_map written_tag ((i.position, item_of t) ∷ [])) at
      ∙ tag_of_node (types_of all) i.position node ∙ ap (tag_if i.position) (sym is)
  by None is = ⊎_elim
      (λ within. let some = slice_get_there all i.node within in absurd (none-some some.0 (sym is ∙ some.1)))
      (λ past. let long = types_of-length all in
      let at : type_at (types_of all) i.node ≡ tuple = get_or_past (types_of all) i.node tuple (omega arith) in
      ap (λ t. filter_map written_tag ((i.position, item_of t) ∷ [])) at ∙ ap (tag_if i.position) (sym is))
      (cases_lt i.node (length all))

-- The invariant of the loop over the items holds after one more iteration.
pub tags_turn :
    (all : List TypeTreeNode) (items : List BracketItem) (k : ℕ) (e : BracketItem) (row next whole : List Placed)
    → AreOrdered all → k < length items → next ≡ row ++ tag_there all (get_or items k e)
    → row ++ filter_map written_tag (items_known (types_of all) (drop k items)) ≡ whole
    → next ++ filter_map written_tag (items_known (types_of all) (drop (k + 1) items)) ≡ whole
tags_turn all items k e row next whole ordered below next_is so_far =
    let types = types_of all in
    let i = get_or items k e in
    let left = items_known types (drop (k + 1) items) in
    ap (λ l. l ++ filter_map written_tag left) next_is
    ∙ append_assoc row (tag_there all i) (filter_map written_tag left)
    ∙ ap (λ l. row ++ (l ++ filter_map written_tag left)) (sym (tag_known all i ordered))
    ∙ ap (λ l. row ++ l) (sym (filter_map-append written_tag (item_known types i ∷ []) left))
    ∙ ap (λ l. row ++ filter_map written_tag (items_known types l)) (sym (drop_more items k e below))
    ∙ so_far

-- ---- brackets

pub brackets_more :
    (types : List Ty) (old new : List (List BracketItem)) (items : List BracketItem) (all : List PlacedItem)
    → new ≡ old ++ items ∷ [] → items_known types items ≡ all
    → brackets_known types new ≡ brackets_known types old ++ all ∷ []
brackets_more types old new items all is same =
    ap (brackets_known types) is ∙ map-append (items_known types) old (items ∷ [])
    ∙ ap (λ l. brackets_known types old ++ l ∷ []) same
