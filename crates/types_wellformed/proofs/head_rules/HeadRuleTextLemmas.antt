-- The brackets of a text break the same rules on brackets as the text.
use Rattle.std.proofs.Common.{ℕ, ◌<◌, ◌≤◌, ◌≡◌, ◌∙◌, inr, ⊎_elim, List, [], ◌∷◌, Option, Some, None, length, get_or, refl, sym, ap, subst, arith}
use Rattle.std.specs.Prelude.{slice_get, Contains, All, ◌↔◌, option_map, is_some, true, false}
use Rattle.std.proofs.Common.{true≢false}
use Rattle.std.specs.List.{flat_map}
use Rattle.std.proofs.lemmas.List.Elements.{All-cons, All-from_get_or, All-nil}
use Rattle.std.proofs.lemmas.Option.{none-some, same_Some, slice_get_within, get_or_from_slice_get, slice_get-get_or}
use Rattle.base_data.proofs.model.Options.{map-Contains, flat_map-Contains, Contains-flat_map, slice_get-Contains, slice_get_there}
use Rattle.types_spec.proofs.types.TypeListLemmas.{Contains-filter_mapped, filter_mapped_is}
use Rattle.types_spec.specs.declared.types.decl.Decl.{Decl}
use Rattle.types_spec.specs.types.Ty.{Ty, variable, named, tuple, bracket, part, tag, tag_of, including}
use Rattle.types_spec.specs.types.TypeNodes.{type_at, types_of}
use Rattle.types_spec.specs.types.WellFormed.{AreVariants}
use Rattle.types_spec.specs.types.Head.{head}
use Rattle.types_spec.specs.types.Occurrence.{Placed, PlacedItem, Occurrence, use_of, variable_at, bracket_of, DeclPositions}
use Rattle.types_spec.specs.types.Scope.{Rule, turn, not_variant, tag_clash, hash_clash, float_in_group, mixed_record}
use Rattle.types_spec.specs.types.Scope.{BreaksIn, BreaksInDecl, BreaksInFile, BreaksInType, NamesBreak, decls_of, declared_names}
use Rattle.types_resolve.specs.scope.Least.{IsLeast}
use Rattle.types_resolve.proofs.scope.ScopeLeastLemmas.{least_same}
use Rattle.types_resolve.specs.declared.scope.type_brackets.TypeBrackets.{TypeBrackets}
use Rattle.types_resolve.specs.scope.TypeBrackets.{as_bracket, item_of, item_known, items_known, type_known, all_known}
use Rattle.types_resolve.specs.scope.TypeBrackets.{IsOrdered, AreBrackets, AreFileBrackets}
use Rattle.types_wellformed.specs.declared.head_rules.item.NumberedItem.{NumberedItem}
use Rattle.types_wellformed.specs.declared.head_rules.broken.HeadBreak.{HeadBreak}
use Rattle.types_wellformed.specs.declared.head_rules.broken.HeadBreak.TheVariants as breaks
use Rattle.types_wellformed.specs.head_rules.Broken.{rule_of_break, IsFirstOfHeads, TypeHashes, FileHashes}
use Rattle.types_wellformed.specs.head_rules.NumberedTypes.{IsNumbered, AreNumbered, AreAllNumbered}
use Rattle.types_wellformed.specs.head_rules.Rules.{IsWithin, AreWithin, AreAllWithin, item_at, items_at, brackets_at}
use Rattle.types_wellformed.specs.head_rules.Rules.{IncludesOther, ItemsBreak, BracketsBreak, BracketsHash, IsFlatDecl, IsMixedDecl, SomeDeclBreaks}
use Rattle.types_wellformed.proofs.head_rules.HeadRuleFirstLemmas.{of_late, first_agree, all_agree, found_first}
use Rattle.types_wellformed.proofs.head_rules.HeadRuleDeclaredLemmas.{declared_agree}

-- ---- the numbers of items

number_within : (types : List Ty) (i : NumberedItem) (item : PlacedItem) → IsNumbered types i item → IsWithin types i
number_within types i item is = slice_get_within types i.number item.1 is.there

item_is : (types : List Ty) (i : NumberedItem) (item : PlacedItem) → IsNumbered types i item → item_at types i ≡ item
item_is types i item is =
    ap (λ k. (k, type_at types i.number)) is.placed
    ∙ ap (λ t. (item.0, t)) (get_or_from_slice_get types i.number item.1 tuple is.there)

numbers_within :
    (types : List Ty) (items : List NumberedItem) (known : List PlacedItem) → AreNumbered types items known
    → AreWithin types items
numbers_within types [] known are = All-nil (IsWithin types)
numbers_within types (i ∷ items) [] are = absurd are
numbers_within types (i ∷ items) (item ∷ known) are =
    All-cons (IsWithin types) i items (number_within types i item are.0) (numbers_within types items known are.1)

items_are :
    (types : List Ty) (items : List NumberedItem) (known : List PlacedItem) → AreNumbered types items known
    → items_at types items ≡ known
items_are types [] [] are = refl
items_are types [] (item ∷ known) are = absurd are
items_are types (i ∷ items) [] are = absurd are
items_are types (i ∷ items) (item ∷ known) are =
    ap (λ p. p ∷ items_at types items) (item_is types i item are.0)
    ∙ ap (λ ps. item ∷ ps) (items_are types items known are.1)

pub all_within :
    (types : List Ty) (brackets : List (List NumberedItem)) (known : List (List PlacedItem))
    → AreAllNumbered types brackets known → AreAllWithin types brackets
all_within types [] known are = All-nil (AreWithin types)
all_within types (items ∷ brackets) [] are = absurd are
all_within types (items ∷ brackets) (placed ∷ known) are =
    All-cons (AreWithin types) items brackets (numbers_within types items placed are.0)
    (all_within types brackets known are.1)

pub brackets_are :
    (types : List Ty) (brackets : List (List NumberedItem)) (known : List (List PlacedItem))
    → AreAllNumbered types brackets known → brackets_at types brackets ≡ known
brackets_are types [] [] are = refl
brackets_are types [] (placed ∷ known) are = absurd are
brackets_are types (items ∷ brackets) [] are = absurd are
brackets_are types (items ∷ brackets) (placed ∷ known) are =
    ap (λ p. p ∷ brackets_at types brackets) (items_are types items placed are.0)
    ∙ ap (λ ps. placed ∷ ps) (brackets_are types brackets known are.1)

-- ---- brackets with one item

-- Each item of a found bracket is the bracket that contains only the item.
known_alone :
    (found : List TypeBrackets) (items : List PlacedItem) (i : PlacedItem) → Contains (all_known found) items
    → Contains items i → (u : Ty) × (item_of u ≡ i.1)
known_alone found items i among inside =
    let t = flat_map-Contains type_known found items among in
    let of_type = types_of t.0.nodes.now in
    let b = map-Contains (items_known of_type) t.0.brackets items t.2 in
    let here : Contains (items_known of_type b.0) i = subst (λ (l : List PlacedItem). Contains l i) (sym b.2) inside in
    let n = map-Contains (item_known of_type) b.0 i here in
    (type_at of_type n.0.node, ap (λ (p : PlacedItem). p.1) n.2)

module _ (decls : List Decl) where
  -- The item `v` is a bracket that contains only an included type, and the included type is not a
  -- polymorphic variant.
  abbrev Includes : Ty → Type 0
  Includes v = (t : Ty) × (v ≡ including bracket t) × (¬ AreVariants (head decls t))

  includes_alone : (u : Ty) → IncludesOther decls (item_of u) → Includes (item_of u)
  includes_alone (variable x) other = absurd other
  includes_alone (named x) other = absurd other
  includes_alone tuple other = absurd other
  includes_alone bracket other = absurd other
  includes_alone (part w a) other = absurd other
  includes_alone (tag w x) other = absurd other
  includes_alone (tag_of w x a) other = absurd other
  includes_alone (including w t) other = (t, refl, other)

  -- A found bracket breaks the rule `not_variant` at lexeme `k` if and only if the bracket's item
  -- at `k` includes a type other than a polymorphic variant.
  variant_agree :
      (found : List TypeBrackets) (items : List PlacedItem) (k : ℕ) → Contains (all_known found) items
      → ItemsBreak decls items not_variant k
      ↔ ((t : Ty) × Contains items (k, including bracket t) × (¬ AreVariants (head decls t)))
  variant_agree found items k among = (
    λ some. let u = known_alone found items some.0 among some.1 in
        let is = includes_alone u.0 (subst (IncludesOther decls) (sym u.1) some.2.1) in (
          is.0,
          subst (Contains items)
              (ap (λ t. (some.0.0, t)) (sym u.1 ∙ is.1) ∙ ap (λ n. (n, including bracket is.0)) some.2.0) some.1,
          is.2,
        ),
    λ some. ((k, including bracket some.0), some.1, (refl, some.2)),
  )

  -- ---- the brackets among the occurrences

  module _ (found : List TypeBrackets) (occurrences : List Occurrence) (are : AreBrackets found occurrences) where
    occurs : (items : List PlacedItem) → Contains (all_known found) items → Contains occurrences (bracket_of items)
    occurs items among =
        let o = filter_mapped_is as_bracket occurrences items
        (subst (λ (l : List (List PlacedItem)). Contains l items) are.known among) in
        subst (Contains occurrences) (by o.0 o.2) o.1 where
          by : (o : Occurrence) → as_bracket o ≡ Some items → o ≡ bracket_of items
          by (use_of k name arguments in_tag) is = absurd (none-some items is)
          by (variable_at k name) is = absurd (none-some items is)
          by (bracket_of inside) is = ap bracket_of (same_Some inside items is)

    known : (items : List PlacedItem) → Contains occurrences (bracket_of items) → Contains (all_known found) items
    known items among =
        subst (λ (l : List (List PlacedItem)). Contains l items) (sym are.known)
        (Contains-filter_mapped as_bracket occurrences (bracket_of items) items among refl)

    pub type_agree :
        (Seen : ℕ → Type 0) (rule : Rule) → 7 ≤ turn rule → (k : ℕ)
        → BracketsBreak decls (all_known found) rule k ↔ BreaksIn decls Seen occurrences rule k
    type_agree Seen rule late k =
        of_late (λ r. BracketsBreak decls (all_known found) r k ↔ BreaksIn decls Seen occurrences r k) (
          λ some. (some.0, occurs some.0 some.1, (variant_agree found some.0 k some.1).0 some.2),
          λ some. let here = known some.0 some.1 in (some.0, here, (variant_agree found some.0 k here).1 some.2),
        ) (λ some. (some.0, occurs some.0 some.1, some.2), λ some. (some.0, known some.0 some.1, some.2))
        (λ some. (some.0, occurs some.0 some.1, some.2), λ some. (some.0, known some.0 some.1, some.2))
        (λ some. some.2, λ never. absurd never) (λ some. some.2, λ never. absurd never) rule late

    pub type_names :
        (k : ℕ) (one other : List ℕ) → BracketsHash decls (all_known found) k one other
        → TypeHashes decls occurrences k one other
    type_names k one other some = (some.0, occurs some.0 some.1, some.2)

-- ---- the brackets of a file

module _ (found : List (List TypeBrackets)) (all : List DeclPositions) (are : AreFileBrackets found all) where
  -- The brackets of all types in all declarations.
  abbrev pub known_all : List (List PlacedItem)
  known_all = flat_map all_known found

  -- For the found brackets at each index, the text has a declaration with the brackets.
  decl_for :
      (i : ℕ) (brackets : List TypeBrackets) → slice_get found i ≡ Some brackets
      → (d : DeclPositions) × Contains all d × AreBrackets brackets d.occurrences
  decl_for i brackets is =
      let counted = are.counted in
      let within = slice_get_within found i brackets is in
      let d = slice_get_there all i (omega arith) in
      (d.0, slice_get-Contains all i d.0 d.1, are.stand i brackets d.0 is d.1)

  -- For each declaration of the text, the found brackets contain the brackets of the declaration.
  brackets_for :
      (d : DeclPositions) → Contains all d
      → (brackets : List TypeBrackets) × Contains found brackets × AreBrackets brackets d.occurrences
  brackets_for d (i, below, is) =
      let counted = are.counted in
      let d_is : slice_get all i ≡ Some d = slice_get-get_or all i d below ∙ ap Some is in
      let b = slice_get_there found i (omega arith) in
      (b.0, slice_get-Contains found i b.0 b.1, are.stand i b.0 d b.1 d_is)

  pub are_ordered : All (All IsOrdered) found
  are_ordered = All-from_get_or (All IsOrdered) found [] ordered_at where
    ordered_at : (i : ℕ) → i < length found → All IsOrdered (get_or found i [])
    ordered_at i below =
        let b = slice_get_there found i below in
        subst (All IsOrdered) (sym (get_or_from_slice_get found i b.0 [] b.1)) (decl_for i b.0 b.1).2.ordered

  -- If a rule concerns only brackets, then the found brackets break the rule if and only if the
  -- file breaks the rule.
  bracket_rule :
      (rule : Rule)
      → ((d : DeclPositions) (k : ℕ)
      → BreaksInDecl all d rule k ↔ BreaksIn (decls_of all) (λ group. group ≤ d.decl.group) d.occurrences rule k)
      → ((k : ℕ) → ¬ NamesBreak all rule k) → 7 ≤ turn rule → (k : ℕ)
      → BracketsBreak (decls_of all) (flat_map all_known found) rule k ↔ BreaksInFile all rule k
  bracket_rule rule of_decl no_names late k = (
    λ some.
        let b = flat_map-Contains all_known found some.0 some.1 in
        let at : ℕ = b.1.0 in
        let d = decl_for at b.0 (slice_get-get_or found at b.0 b.1.1 ∙ ap Some b.1.2) in
        let breaks = (type_agree (decls_of all) b.0 d.0.occurrences d.2 (λ group. group ≤ d.0.decl.group) rule late k).0
        (some.0, b.2, some.2) in
        inr (d.0, d.1, (of_decl d.0 k).1 breaks),
    λ broken. ⊎_elim
        (λ named. absurd (no_names k named))
        (λ some.
        let d : DeclPositions = some.0 in
        let b = brackets_for d some.1 in
        let breaks = (type_agree (decls_of all) b.0 d.occurrences b.2 (λ group. group ≤ d.decl.group) rule late k).1
        ((of_decl d k).0 some.2) in
        (breaks.0, Contains-flat_map all_known found b.0 breaks.0 b.1 breaks.1, breaks.2))
        broken,
  )

  pub file_agree :
      (rule : Rule) → 7 ≤ turn rule → turn rule < 10 → (k : ℕ)
      → BracketsBreak (decls_of all) (flat_map all_known found) rule k ↔ BreaksInFile all rule k
  file_agree rule late before =
      of_late
      (λ r. turn r < 10 → (k : ℕ)
      → BracketsBreak (decls_of all) (flat_map all_known found) r k ↔ BreaksInFile all r k)
      (λ less. bracket_rule not_variant (λ d k. (λ b. b, λ b. b)) (λ k never. never) (omega arith))
      (λ less. bracket_rule tag_clash (λ d k. (λ b. b, λ b. b)) (λ k never. never) (omega arith))
      (λ less. bracket_rule hash_clash (λ d k. (λ b. b, λ b. b)) (λ k never. never) (omega arith))
      (λ less. absurd (omega arith)) (λ less. absurd (omega arith)) rule late before

  pub file_names :
      (k : ℕ) (one other : List ℕ) → BracketsHash (decls_of all) (flat_map all_known found) k one other
      → FileHashes all k one other
  file_names k one other some =
      let b = flat_map-Contains all_known found some.0 some.1 in
      let at : ℕ = b.1.0 in
      let d = decl_for at b.0 (slice_get-get_or found at b.0 b.1.1 ∙ ap Some b.1.2) in
      (d.0, d.1, type_names (decls_of all) b.0 d.0.occurrences d.2 k one other (some.0, b.2, some.2))

  -- ---- the first violation

  abbrev Known : Option HeadBreak → Type 0
  Known result = IsFirstOfHeads (BracketsBreak (decls_of all) known_all) (BracketsHash (decls_of all) known_all) result

  abbrev pub First : Option HeadBreak → Type 0
  First result = IsFirstOfHeads (BreaksInFile all) (FileHashes all) result

  -- The rule of a violation on brackets has an earlier turn than the rules on records.
  below_float : (b : HeadBreak) → Known (Some b) → turn (rule_of_break b) < 10
  below_float (breaks.NotVariant k) first = omega arith
  below_float (breaks.TagClash k) first = omega arith
  below_float (breaks.HashClash k one other) first = omega arith
  below_float (breaks.FloatInGroup k) first = absurd first.0.2
  below_float (breaks.MixedRecord k) first = absurd first.0.2

  first_found : (result : Option HeadBreak) → is_some result ≡ true → Known result → First result
  first_found None some first = absurd (true≢false (sym some))
  first_found (Some b) some first =
      let below = below_float b first in
      first_agree (BracketsBreak (decls_of all) known_all) (BreaksInFile all) (BracketsHash (decls_of all) known_all)
      (FileHashes all) file_names b (λ rule late until. file_agree rule late (omega arith)) first

  none_before :
      (result : Option HeadBreak) → is_some result ≡ false → Known result → (rule : Rule) → 7 ≤ turn rule → turn rule < 10
      → (k : ℕ) → ¬ BreaksInFile all rule k
  none_before (Some b) none first rule late before k breaks = absurd (true≢false none)
  none_before None none first rule late before k breaks =
      first rule k late ((file_agree rule late before k).1 breaks)

  module _ (decls : List Decl) (types : List Ty) (numbered : List (List NumberedItem)) (declares : decls ≡ decls_of all)
      (are_numbered : AreAllNumbered types numbered known_all) (result : Option HeadBreak)
      (first :
      IsFirstOfHeads (BracketsBreak decls (brackets_at types numbered)) (BracketsHash decls (brackets_at types numbered))
      result) where
    known_first : Known result
    known_first =
        subst (λ bs. IsFirstOfHeads (BracketsBreak (decls_of all) bs) (BracketsHash (decls_of all) bs) result)
        (brackets_are types numbered known_all are_numbered)
        (subst
        (λ ds. IsFirstOfHeads (BracketsBreak ds (brackets_at types numbered)) (BracketsHash ds (brackets_at types numbered)) result)
        declares first)

    pub file_first : is_some result ≡ true → First result
    file_first some = first_found result some known_first

    module _ (names : List Placed) (named : names ≡ declared_names all) (none : is_some result ≡ false) where
      abbrev Flat : ℕ → Type 0
      Flat k = SomeDeclBreaks (IsFlatDecl decls) decls names k

      abbrev Mixed : ℕ → Type 0
      Mixed k = SomeDeclBreaks (IsMixedDecl decls) decls names k

      flat_agree : (k : ℕ) → Flat k ↔ BreaksInFile all float_in_group k
      flat_agree = declared_agree IsFlatDecl decls names all declares named

      mixed_agree : (k : ℕ) → Mixed k ↔ BreaksInFile all mixed_record k
      mixed_agree = declared_agree IsMixedDecl decls names all declares named

      pub flat_first : (position : ℕ) → IsLeast Flat (Some position) → First (Some (breaks.FloatInGroup position))
      flat_first position least =
          found_first (BreaksInFile all) (FileHashes all) (breaks.FloatInGroup position) float_in_group refl
          (least_same Flat (BreaksInFile all float_in_group) (Some position) least (λ k. (flat_agree k).0) (λ k. (flat_agree k).1))
          (none_before result none known_first) tt

      module _ (no_flat : IsLeast Flat None) where
        -- No rule before the rule on mixed records is broken.
        none_before_mixed : (rule : Rule) → 7 ≤ turn rule → turn rule < 11 → (k : ℕ) → ¬ BreaksInFile all rule k
        none_before_mixed rule late =
            let before = none_before result none known_first in
            of_late (λ r. turn r < 11 → (k : ℕ) → ¬ BreaksInFile all r k)
            (λ below. before not_variant (omega arith) (omega arith))
            (λ below. before tag_clash (omega arith) (omega arith))
            (λ below. before hash_clash (omega arith) (omega arith))
            (λ below k broken. no_flat k ((flat_agree k).1 broken))
            (λ below. absurd (omega (arith, below))) rule late

        mixed_first : (position : ℕ) → IsLeast Mixed (Some position) → First (Some (breaks.MixedRecord position))
        mixed_first position least =
            found_first (BreaksInFile all) (FileHashes all) (breaks.MixedRecord position) mixed_record refl
            (least_same Mixed (BreaksInFile all mixed_record) (Some position) least (λ k. (mixed_agree k).0) (λ k. (mixed_agree k).1))
            none_before_mixed tt

        none_first : IsLeast Mixed None → First None
        none_first least rule k late =
            let before = none_before_mixed in
            of_late (λ r. ¬ BreaksInFile all r k) (before not_variant (omega arith) (omega arith) k)
            (before tag_clash (omega arith) (omega arith) k) (before hash_clash (omega arith) (omega arith) k)
            (before float_in_group (omega arith) (omega arith) k)
            (λ broken. least k ((mixed_agree k).1 broken)) rule late

        pub mixed_result :
            (position : Option ℕ) → IsLeast Mixed position
            → First (option_map (λ k. breaks.MixedRecord k) position)
        mixed_result None least = none_first least
        mixed_result (Some k) least = mixed_first k least

-- ---- the brackets of a type

pub type_first :
    (found : List TypeBrackets) (occurrences : List Occurrence) (are : AreBrackets found occurrences) (decls : List Decl)
    (types : List Ty) (numbered : List (List NumberedItem)) → AreAllNumbered types numbered (all_known found)
    → (result : Option HeadBreak)
    → IsFirstOfHeads (BracketsBreak decls (brackets_at types numbered)) (BracketsHash decls (brackets_at types numbered)) result
    → IsFirstOfHeads (BreaksInType decls occurrences) (TypeHashes decls occurrences) result
type_first found occurrences are decls types numbered are_numbered result first =
    all_agree (BracketsBreak decls (all_known found)) (BreaksInType decls occurrences) (BracketsHash decls (all_known found))
    (TypeHashes decls occurrences) (type_names decls found occurrences are) result
    (type_agree decls found occurrences are (λ group. Unit {0}))
    (subst (λ bs. IsFirstOfHeads (BracketsBreak decls bs) (BracketsHash decls bs) result)
    (brackets_are types numbered (all_known found) are_numbered) first)
