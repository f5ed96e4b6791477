-- The beginnings of types, node by node.
use Rattle.std.proofs.Common.{ℕ, ◌+◌, ◌<◌, ◌≤◌, ◌≡◌, ◌∙◌, get_or, true, false, cond, List, [], ◌∷◌, ◌++◌}
use Rattle.std.proofs.Common.{length, drop, refl, sym, ap, subst, arith}
use Rattle.std.specs.Prelude.{slice_index}
use Rattle.std.specs.List.{filter_map}
use Rattle.std.proofs.lemmas.List.{append-nil}
use Rattle.types_spec.specs.types.Ty.{Ty, parts}
use Rattle.types_spec.specs.declared.types.ty.TypeTreeNode.{TypeTreeNode}
use Rattle.types_spec.specs.declared.types.ty.TypeTreeNode.TheVariants as nodes
use Rattle.types_spec.specs.types.TypeNodes.{type_at, types_of, type_of_node, AreOrdered}
use Rattle.types_spec.specs.types.Occurrence.{PlacedItem, Occurrence, use_of, variable_at}
use Rattle.types_spec.specs.types.Scope.{written_tag}
use Rattle.types_resolve.specs.occurrences.Counted.{inner_count, items_in, begins, own}
use Rattle.types_resolve.specs.declared.occurrences.fact.Facts.{Facts}
use Rattle.types_resolve.specs.declared.occurrences.walk.WalkTask.{WalkTask}
use Rattle.types_resolve.specs.scope.TypeBrackets.{brackets_among}
use Rattle.types_resolve.specs.occurrences.Facts.{capped, fact_at, AreFacts, IsLeaf}
use Rattle.types_resolve.specs.occurrences.Walk.{task_own}
use Rattle.types_resolve.specs.declared.scope.site.Site.{Site}
use Rattle.types_resolve.specs.occurrences.Adds.{Adds}
use Rattle.types_resolve.proofs.occurrences.AddsLemmas.{Adds-none, Adds-variable, Adds-use, Adds-bracket}
use Rattle.types_resolve.proofs.occurrences.OccurrenceWalkLemmas.{position_of, type_at-node}

-- ---- the beginning of a type

module _ (types : List Ty) (n : ℕ) (facts : List Facts) (are : AreFacts types n facts) (ms : List ℕ)
    (small : length ms < 18446744073709551616) (task : WalkTask) (below : task.node < n) where
  abbrev type : Ty
  type = type_at types task.node

  abbrev known : Facts
  known = fact_at facts task.node

  pub own_position : slice_index ms (capped (task.first + known.inner)) ≡ slice_index (drop task.first ms) (inner_count type)
  own_position = position_of task.first known.inner (inner_count type) ms small ((are.are task.node below).inner_is)

  pub own_skipped : task.whole ≡ false → task_own types ms task ≡ []
  own_skipped is = ap (λ b. cond b (own (drop task.first ms) task.in_tag type) []) is

  pub skipped_brackets :
      (brackets : List (List PlacedItem)) → task.whole ≡ false
      → brackets ≡ brackets ++ brackets_among (task_own types ms task)
  skipped_brackets brackets is =
      sym (append-nil brackets) ∙ ap (λ l. brackets ++ brackets_among l) (sym (own_skipped is))

  -- The first node of a type determines the occurrence with which the type begins.
  pub own_known :
      (node : TypeTreeNode) (position : ℕ) → task.whole ≡ true → type_at types known.base ≡ type_of_node types node
      → position ≡ slice_index ms (capped (task.first + known.inner))
      → task_own types ms task
      ≡ begins position task.in_tag (parts type) (items_in (drop task.first ms) type) (type_of_node types node)
  own_known node position is at position_is =
      ap (λ b. cond b (own (drop task.first ms) task.in_tag type) []) is
      ∙ (are.are task.node below).begins_there (slice_index (drop task.first ms) (inner_count type)) task.in_tag
      (parts type) (items_in (drop task.first ms) type)
      ∙ ap (λ p. begins p task.in_tag (parts type) (items_in (drop task.first ms) type) (type_at types known.base))
      (sym (position_is ∙ own_position))
      ∙ ap (λ t. begins position task.in_tag (parts type) (items_in (drop task.first ms) type) t) at

-- ---- the additions for it

module _ (all : List TypeTreeNode) (ordered : AreOrdered all) (facts : List Facts)
    (are : AreFacts (types_of all) (length all) facts) (ms : List ℕ) (small : length ms < 18446744073709551616)
    (task : WalkTask) (below : task.node < length all) (known : Facts) (known_is : known ≡ fact_at facts task.node)
    (node : TypeTreeNode) (read : node ≡ get_or all known.base node) (whole : task.whole ≡ true)
    (position : ℕ) (position_is : position ≡ slice_index ms (capped (task.first + known.inner))) (old new : Site) where
  abbrev types : List Ty
  types = types_of all

  abbrev shown : List Occurrence
  shown = task_own types ms task

  base_is : type_at types (fact_at facts task.node).base ≡ type_of_node types node
  base_is =
      let le : known.base ≤ task.node =
      subst (λ f. f.base ≤ task.node) (sym known_is) ((are.are task.node below).base_below) in
      ap (λ (f : Facts). type_at types f.base) (sym known_is)
      ∙ type_at-node all known.base node ordered (omega arith) read

  reported :
      (other : TypeTreeNode) → node ≡ other
      → shown ≡ begins position task.in_tag (parts (type_at types task.node)) (items_in (drop task.first ms) (type_at types task.node))
      (type_of_node types other)
  reported other is = own_known types (length all) facts are ms small task below other position whole
      (base_is ∙ ap (type_of_node types) is)
      (position_is ∙ ap (λ (f : Facts). slice_index ms (capped (task.first + f.inner))) known_is)

  -- If the occurrence with which a type begins is not a bracket, then no bracket is added.
  none_there :
      (old : List (List PlacedItem)) (all : List Occurrence) → shown ≡ all → brackets_among all ≡ []
      → old ≡ old ++ brackets_among shown
  none_there old all is none =
      sym (append-nil old) ∙ ap (λ l. old ++ l) (sym (ap brackets_among is ∙ none))

  pub writes_variable :
      (x : List ℕ) → node ≡ nodes.Variable x
      → new ≡ record old { variables = old.variables ++ (position, x) ∷ [] } → Adds old new [] [] shown
  writes_variable x is write = subst (Adds old new [] []) (sym (reported (nodes.Variable x) is)) (Adds-variable old new position x write)

  pub variable_brackets :
      (x : List ℕ) (brackets : List (List PlacedItem)) → node ≡ nodes.Variable x
      → brackets ≡ brackets ++ brackets_among shown
  variable_brackets x brackets is = none_there brackets (variable_at position x ∷ []) (reported (nodes.Variable x) is) refl

  pub writes_use :
      (x name : List ℕ) → node ≡ nodes.Named x → name ≡ x
      → new ≡ record old {
        uses = old.uses ++ record {
          position = position;
          name = name;
          arguments = known.arguments;
          grows = known.grows;
          in_tag = task.in_tag;
        } ∷ [];
      } → Adds old new [] [] shown
  writes_use x name is same write =
      let facts_are = are.are task.node below in
      subst (Adds old new [] []) (sym (reported (nodes.Named name) (is ∙ ap (λ l. nodes.Named l) (sym same))))
      (Adds-use old new (record {
        position = position;
        name = name;
        arguments = known.arguments;
        grows = known.grows;
        in_tag = task.in_tag;
      }) (parts (type_at types task.node)) write
      (ap (λ (f : Facts). f.arguments) known_is ∙ facts_are.arguments_are)
      (ap (λ (f : Facts). f.grows) known_is ∙ facts_are.grows_is))

  pub use_brackets :
      (x : List ℕ) (brackets : List (List PlacedItem)) → node ≡ nodes.Named x
      → brackets ≡ brackets ++ brackets_among shown
  use_brackets x brackets is =
      none_there brackets (use_of position x (parts (type_at types task.node)) task.in_tag ∷ [])
      (reported (nodes.Named x) is) refl

  abbrev items : List PlacedItem
  items = items_in (drop task.first ms) (type_at types task.node)

  pub writes_bracket :
      node ≡ nodes.Bracket
      → new ≡ record old { rows = old.rows ++ filter_map written_tag items ∷ [] } → Adds old new [] [] shown
  writes_bracket is write = subst (Adds old new [] []) (sym (reported nodes.Bracket is))
      (Adds-bracket old new (filter_map written_tag items) items write refl)

  pub bracket_brackets :
      (before after : List (List PlacedItem)) → node ≡ nodes.Bracket → after ≡ before ++ items ∷ []
      → after ≡ before ++ brackets_among shown
  bracket_brackets before after is write =
      write ∙ ap (λ l. before ++ brackets_among l) (sym (reported nodes.Bracket is))

  module _ (no_variable : (x : List ℕ) → node ≡ nodes.Variable x → ⊥)
      (no_name : (x : List ℕ) → node ≡ nodes.Named x → ⊥) (no_bracket : node ≡ nodes.Bracket → ⊥) where
    leaf : (other : TypeTreeNode) → node ≡ other → IsLeaf (type_of_node types other)
    leaf other is = subst IsLeaf (base_is ∙ ap (type_of_node types) is) ((are.are task.node below).leaf_there)

    empty : (other : TypeTreeNode) → node ≡ other → shown ≡ []
    empty (nodes.Variable x) is = absurd (no_variable x is)
    empty (nodes.Named x) is = absurd (no_name x is)
    empty nodes.Tuple is = reported nodes.Tuple is
    empty nodes.Bracket is = absurd (no_bracket is)
    empty (nodes.Part w a) is = absurd (leaf (nodes.Part w a) is)
    empty (nodes.Tag w x) is = absurd (leaf (nodes.Tag w x) is)
    empty (nodes.TagOf w x a) is = absurd (leaf (nodes.TagOf w x a) is)
    empty (nodes.Including w u) is = absurd (leaf (nodes.Including w u) is)

    pub writes_nothing : Adds old old [] [] shown
    writes_nothing = subst (Adds old old [] []) (sym (empty node refl)) (Adds-none old)

    pub nothing_brackets : (brackets : List (List PlacedItem)) → brackets ≡ brackets ++ brackets_among shown
    nothing_brackets brackets = none_there brackets [] (empty node refl) refl
