-- Lemmas about the numbers of items, if types are added to the store, and one item at a time.
use Rattle.std.proofs.Common.{ℕ, ◌+◌, ◌<◌, ◌≡◌, ◌∙◌, List, [], ◌∷◌, ◌++◌, Some, take, length, get_or, sym, ap, subst, refl, append_assoc, arith, ◌≤◌, Result, IfOk}
use Rattle.std.specs.Prelude.{slice_get}
use Rattle.std.specs.List.{AllZip}
use Rattle.std.proofs.lemmas.List.{map-append, take_more, take_all, get_or_past}
use Rattle.std.proofs.lemmas.List.Elements.{All-get_or}
use Rattle.std.proofs.lemmas.Option.{get_or_from_slice_get}
use Rattle.std.proofs.lemmas.Option.{slice_get-get_or, slice_get_read}
use Rattle.std.proofs.lemmas.Result.{IfOk-weaker}
use Rattle.types_spec.specs.types.Ty.{Ty, tuple, bracket, tag, tag_of, including}
use Rattle.types_spec.specs.declared.types.ty.TypeTreeNode.{TypeTreeNode}
use Rattle.types_spec.specs.declared.types.ty.TypeTreeNode.TheVariants as nodes
use Rattle.types_spec.specs.types.TypeNodes.{type_at, types_of, type_of_node, IsBelow, AreOrdered}
use Rattle.types_spec.specs.types.Occurrence.{PlacedItem}
use Rattle.types_spec.proofs.types.TypeNodeLemmas.{types_of-length, types_of-at}
use Rattle.types_resolve.specs.declared.scope.type_brackets.BracketItem.{BracketItem}
use Rattle.types_resolve.specs.scope.TypeBrackets.{item_of, item_known, items_known, brackets_known}
use Rattle.types_table.specs.store.Held.{Grows, Holds}
use Rattle.types_table.specs.store.Instance.{HasNumbers}
use Rattle.types_table.proofs.store.StoreHeldLemmas.{there_kept}
use Rattle.types_table.proofs.store.StoreInstanceLemmas.{number_there, numbers_many}
use Rattle.types_wellformed.specs.declared.head_rules.item.NumberedItem.{NumberedItem}
use Rattle.types_wellformed.specs.head_rules.NumberedTypes.{IsNumbered, AreNumbered, AreAllNumbered}
use Rattle.base_data.proofs.model.Lists.{AllZip-push}

-- ---- two lists, element by element

zip_weaker :
    {A B : Type 0} (R S : A → B → Type 0) (weaker : (a : A) (b : B) → R a b → S a b) (xs : List A) (ys : List B)
    → AllZip R xs ys → AllZip S xs ys
zip_weaker R S weaker [] [] zip = zip
zip_weaker R S weaker [] (b ∷ ys) zip = absurd zip
zip_weaker R S weaker (a ∷ xs) [] zip = absurd zip
zip_weaker R S weaker (a ∷ xs) (b ∷ ys) zip = (weaker a b zip.0, zip_weaker R S weaker xs ys zip.1)

-- ---- numbers remain valid

item_kept :
    (types new : List Ty) (i : NumberedItem) (item : PlacedItem) → Grows types new → IsNumbered types i item
    → IsNumbered new i item
item_kept types new i item grown is =
    record { placed = is.placed; there = there_kept types new i.number item.1 grown is.there }

items_kept :
    (types new : List Ty) (items : List NumberedItem) (all : List PlacedItem) → Grows types new
    → AreNumbered types items all → AreNumbered new items all
items_kept types new items all grown are =
    zip_weaker (IsNumbered types) (IsNumbered new) (λ i item is. item_kept types new i item grown is) items all are

pub brackets_kept :
    (types new : List Ty) (brackets : List (List NumberedItem)) (all : List (List PlacedItem)) → Grows types new
    → AreAllNumbered types brackets all → AreAllNumbered new brackets all
brackets_kept types new brackets all grown are =
    zip_weaker (AreNumbered types) (AreNumbered new) (λ items known is. items_kept types new items known grown is)
    brackets all are

-- ---- one more element

-- The invariant of the loop over a bracket's items holds after one more iteration.
pub items_turn :
    (types new tree : List Ty) (out next : List NumberedItem) (items : List BracketItem) (k : ℕ) (e : BracketItem)
    (i : NumberedItem) → Grows types new → k < length items → next ≡ out ++ i ∷ []
    → IsNumbered new i (item_known tree (get_or items k e))
    → AreNumbered types out (items_known tree (take k items))
    → AreNumbered new next (items_known tree (take (k + 1) items))
items_turn types new tree out next items k e i grown below next_is here so_far =
    let known = items_known tree (take k items) in
    let same : items_known tree (take (k + 1) items) ≡ known ++ item_known tree (get_or items k e) ∷ [] =
    ap (items_known tree) (take_more items k e below)
    ∙ map-append (item_known tree) (take k items) (get_or items k e ∷ []) in
    subst (λ l. AreNumbered new l (items_known tree (take (k + 1) items))) (sym next_is)
    (subst (AreNumbered new (out ++ i ∷ [])) (sym same)
    (AllZip-push (IsNumbered new) out known i (item_known tree (get_or items k e))
    (items_kept types new out known grown so_far) here))

-- The invariant of the loop over a type's brackets holds after one more iteration.
pub brackets_turn :
    (types new tree : List Ty) (out next : List (List NumberedItem)) (brackets : List (List BracketItem)) (k : ℕ)
    (inside e : List BracketItem) (items : List NumberedItem) (all : List (List PlacedItem)) → Grows types new
    → k < length brackets → inside ≡ get_or brackets k e → next ≡ out ++ items ∷ []
    → AreNumbered new items (items_known tree inside)
    → AreAllNumbered types out (all ++ brackets_known tree (take k brackets))
    → AreAllNumbered new next (all ++ brackets_known tree (take (k + 1) brackets))
brackets_turn types new tree out next brackets k inside e items all grown below read next_is here so_far =
    let known = all ++ brackets_known tree (take k brackets) in
    let more = items_known tree inside in
    let same : all ++ brackets_known tree (take (k + 1) brackets) ≡ known ++ more ∷ [] =
    ap (λ l. all ++ brackets_known tree l) (take_more brackets k e below)
    ∙ ap (λ l. all ++ l) (map-append (items_known tree) (take k brackets) (get_or brackets k e ∷ []))
    ∙ ap (λ b. all ++ (brackets_known tree (take k brackets) ++ items_known tree b ∷ [])) (sym read)
    ∙ sym (append_assoc all (brackets_known tree (take k brackets)) (more ∷ [])) in
    subst (λ l. AreAllNumbered new l (all ++ brackets_known tree (take (k + 1) brackets))) (sym next_is)
    (subst (AreAllNumbered new (out ++ items ∷ [])) (sym same)
    (AllZip-push (AreNumbered new) out known items more (brackets_kept types new out known grown so_far) here))

-- ---- the item that a node adds

module _ (types : List Ty) (all : List TypeTreeNode) (ordered : AreOrdered all) (numbers : List ℕ)
    (has : HasNumbers types (types_of all) numbers) where
  many : length numbers ≡ length all
  many = numbers_many types (types_of all) numbers has ∙ types_of-length all

  pub number_below : (i : ℕ) → i < length all → i < length numbers
  number_below i below = let e = many in omega arith

  pub entry_below : (i : ℕ) → i < length all → get_or numbers i 0 < length types
  entry_below i below = All-get_or (λ k. k < length types) numbers i 0 (number_below i below) has.below

  entry_is : (i : ℕ) → i < length all → type_at types (get_or numbers i 0) ≡ type_at (types_of all) i
  entry_is i below =
      number_there types (types_of all) numbers i (get_or numbers i 0) has
      (slice_get-get_or numbers i 0 (number_below i below))

  module _ (n : ℕ) (node : TypeTreeNode) (below : n < length all) (read : node ≡ get_or all n node) where
    there : slice_get all n ≡ Some node
    there = slice_get_read all (length all) n node refl below read

    at : type_at (types_of all) n ≡ type_of_node (types_of all) node
    at = get_or_from_slice_get (types_of all) n (type_of_node (types_of all) node) tuple
        (types_of-at all n node ordered there)

    part_below : (other : TypeTreeNode) → node ≡ other → IsBelow n other
    part_below other is = subst (IsBelow n) is (ordered n node there)

    item_is :
        (other : TypeTreeNode) → node ≡ other
        → item_of (type_at (types_of all) n) ≡ item_of (type_of_node (types_of all) other)
    item_is other is = ap item_of (at ∙ ap (type_of_node (types_of all)) is)

    pub argument_below : (w a : ℕ) (x : List ℕ) → node ≡ nodes.TagOf w x a → a < length all
    argument_below w a x is = let h = (part_below (nodes.TagOf w x a) is).1 in omega arith

    pub included_below : (w u : ℕ) → node ≡ nodes.Including w u → u < length all
    included_below w u is = let h = (part_below (nodes.Including w u) is).1 in omega arith

    pub tag_item :
        (w : ℕ) (x : List ℕ) → node ≡ nodes.Tag w x → tag bracket x ≡ item_of (type_at (types_of all) n)
    tag_item w x is = sym (item_is (nodes.Tag w x) is)

    pub tag_of_item :
        (w a : ℕ) (x : List ℕ) → node ≡ nodes.TagOf w x a
        → tag_of bracket x (type_at types (get_or numbers a 0)) ≡ item_of (type_at (types_of all) n)
    tag_of_item w a x is =
        ap (λ t. tag_of bracket x t) (entry_is a (argument_below w a x is)) ∙ sym (item_is (nodes.TagOf w x a) is)

    pub including_item :
        (w u : ℕ) → node ≡ nodes.Including w u
        → including bracket (type_at types (get_or numbers u 0)) ≡ item_of (type_at (types_of all) n)
    including_item w u is =
        ap (λ t. including bracket t) (entry_is u (included_below w u is)) ∙ sym (item_is (nodes.Including w u) is)

    pub other_item :
        ((w : ℕ) (x : List ℕ) → node ≡ nodes.Tag w x → ⊥)
        → ((w : ℕ) (x : List ℕ) (a : ℕ) → node ≡ nodes.TagOf w x a → ⊥)
        → ((w u : ℕ) → node ≡ nodes.Including w u → ⊥)
        → slice_get types (get_or numbers n 0) ≡ Some (item_of (type_at (types_of all) n))
    other_item no_tag no_tag_of no_including =
        slice_get-get_or types (get_or numbers n 0) tuple (entry_below n below)
        ∙ ap Some (entry_is n below ∙ itself node refl) where
          itself : (other : TypeTreeNode) → node ≡ other → type_at (types_of all) n ≡ item_of (type_at (types_of all) n)
          itself (nodes.Variable x) is = at ∙ ap (type_of_node (types_of all)) is ∙ sym (item_is (nodes.Variable x) is)
          itself (nodes.Named x) is = at ∙ ap (type_of_node (types_of all)) is ∙ sym (item_is (nodes.Named x) is)
          itself nodes.Tuple is = at ∙ ap (type_of_node (types_of all)) is ∙ sym (item_is nodes.Tuple is)
          itself nodes.Bracket is = at ∙ ap (type_of_node (types_of all)) is ∙ sym (item_is nodes.Bracket is)
          itself (nodes.Part w a) is = at ∙ ap (type_of_node (types_of all)) is ∙ sym (item_is (nodes.Part w a) is)
          itself (nodes.Tag w x) is = absurd (no_tag w x is)
          itself (nodes.TagOf w x a) is = absurd (no_tag_of w x a is)
          itself (nodes.Including w u) is = absurd (no_including w u is)

-- If the node does not exist, then the item of the node is the empty tuple.
pub none_item : (all : List TypeTreeNode) (n : ℕ) → length all ≤ n → tuple ≡ item_of (type_at (types_of all) n)
none_item all n past =
    let long = types_of-length all in
    let at : type_at (types_of all) n ≡ tuple = get_or_past (types_of all) n tuple (omega arith) in
    ap item_of (sym at)

pub held_item :
    {E : Type 0} (r : Result ℕ E) (new : List Ty) (t u : Ty) → t ≡ u → IfOk r (λ i. slice_get new i ≡ Some t)
    → IfOk r (λ i. slice_get new i ≡ Some u)
held_item r new t u same held = subst (λ v. IfOk r (λ i. slice_get new i ≡ Some v)) same held

pub held_there :
    {E : Type 0} (r : Result ℕ E) (old new : List Ty) (t : Ty) → IfOk r (Holds old new t)
    → IfOk r (λ i. slice_get new i ≡ Some t)
held_there r old new t held = IfOk-weaker r _ _ (λ i h. h.there) held

-- ---- a whole list

pub all_items :
    (types tree : List Ty) (out : List NumberedItem) (items : List BracketItem) (k : ℕ) → length items ≤ k
    → AreNumbered types out (items_known tree (take k items)) → AreNumbered types out (items_known tree items)
all_items types tree out items k past are =
    subst (λ l. AreNumbered types out (items_known tree l)) (take_all k items past) are
