-- Lemmas about tags that were found before, and that are added in order.
use Rattle.std.proofs.Common.{ℕ, zero, suc, ◌+◌, ◌<◌, ◌≡◌, ◌∙◌, Bool, true, false, cond, List, [], ◌∷◌, ◌++◌, length, map, take, get_or, Option, Some, None, refl, sym, ap, subst, All, arith, length-append}
use Rattle.std.specs.Prelude.{not, ◌||◌, fold, filter, option_map, slice_get, IfSome}
use Rattle.std.specs.Str.{bytes_eq}
use Rattle.std.proofs.lemmas.List.{append-nil, map-append, take_more, length-map}
use Rattle.std.proofs.lemmas.List.Elements.{All-head, All-tail, All-nil, All-cons, All-weaker, All-contains}
use Rattle.std.proofs.lemmas.List.Folds.{list_any-append}
use Rattle.std.proofs.lemmas.List.Sums.{fold-append}
use Rattle.std.proofs.lemmas.Option.{slice_get-get_or, get_or_from_slice_get}
use Rattle.base_data.proofs.model.Options.{slice_get-Contains}
use Rattle.types_spec.specs.declared.types.decl.Predeclared.{Predeclared}
use Rattle.types_spec.specs.declared.types.decl.Decl.{Decl}
use Rattle.types_spec.specs.declared.types.head.TagOf.{TagOf}
use Rattle.types_spec.specs.declared.types.head.HeadOf.{HeadOf}
use Rattle.types_spec.specs.declared.types.head.HeadOf.TheVariants as heads
use Rattle.types_spec.specs.types.Ty.{Ty, variable, named, tuple, bracket, part, tag, tag_of, including}
use Rattle.types_spec.specs.types.Declarations.{predeclared, unfolded}
use Rattle.types_spec.specs.types.TypeNodes.{type_at}
use Rattle.types_spec.specs.types.Head.{head, head_within, head_by, plain_head, head_meant, with_part, tags_in, joined, has_tag, bare_tag, carrying_tag, enough}
use Rattle.types_spec.specs.types.Head.{with_tags as with_head_tags}
use Rattle.types_spec.specs.types.Reached.{listed_if, parts_of}
use Rattle.types_spec.specs.types.Table.{tag_with_part, head_with_parts}
use Rattle.types_table.specs.store.Held.{Grows}
use Rattle.types_table.proofs.store.StoreHeldLemmas.{get-map}
use Rattle.types_build.specs.declared.representation.bracket.BracketStep.{BracketStep}
use Rattle.types_build.specs.declared.representation.bracket.BracketStep.TheVariants as steps
use Rattle.types_build.specs.representation.Tags.{with_tag, with_tags, has_name, tags_at, IsTagWithin, IsHeadOf}
use Rattle.types_build.specs.representation.FoundHeads.{AreFound, AreTagsOf, IsLocation, part_number, part_types}
use Rattle.types_build.specs.representation.RepresentationSteps.{AreGathered, AreLeft, AreSettled}
use Rattle.types_build.proofs.representation.RepresentationBracketLemmas.{is_new, is_new-joined, joined-joined}
use Rattle.types_build.proofs.representation.RepresentationGatherLemmas.{joined-tag, settled_more, numbers_kept, tag_pushed}
use Rattle.types_build.proofs.representation.RepresentationLemmas.{head_found, head_kept, head_within as parts_within, tags_agree, tags_twice}
use Rattle.types_build.proofs.representation.NearerLemmas.{type_kept}

-- ---- adding in order joins the tags

-- If the first `k` tags of a list were added, then adding the tag at index `k` gives the first `k +
-- 1` tags.
pub one_tag_more : (f : ℕ → ℕ) (first more : List (TagOf ℕ)) (k : ℕ) (item : TagOf ℕ) → k < length more → item ≡ get_or more k item
    → with_tag (with_tags first (map (tag_with_part f) (take k more))) item.name (option_map f item.argument)
    ≡ with_tags first (map (tag_with_part f) (take (k + 1) more))
one_tag_more f first more k item below is =
    sym
    (ap (λ ts. with_tags first (map (tag_with_part f) ts)) (take_more more k item below ∙ ap (λ y. take k more ++ y ∷ []) (sym is))
    ∙ ap (with_tags first) (map-append (tag_with_part f) (take k more) (item ∷ []))
    ∙ fold-append (λ (all : List (TagOf ℕ)) (t : TagOf ℕ). with_tag all t.name t.argument) first (map (tag_with_part f) (take k more))
    (map (tag_with_part f) (item ∷ [])))

abbrev one_joined : List (TagOf Ty) → TagOf Ty → List (TagOf Ty)
one_joined all item = joined all (item ∷ [])

abbrev each_joined : List (TagOf Ty) → List (TagOf Ty) → List (TagOf Ty)
each_joined tags more = fold one_joined tags more

-- Adding the tags `more` one at a time gives the same result as joining `more` to the tags.
abbrev JoinSingly : List (TagOf Ty) → Type 0
JoinSingly more = (tags : List (TagOf Ty)) → each_joined tags more ≡ joined tags more

none_singly : JoinSingly []
none_singly tags = sym (append-nil tags)

one_singly : (item : TagOf Ty) → JoinSingly (item ∷ [])
one_singly item tags = refl

-- If tags have a name, then the tags joined with more tags have the name.
has_tag-more : (tags more : List (TagOf Ty)) (name : List ℕ) → has_tag tags name ≡ true → has_tag (joined tags more) name ≡ true
has_tag-more tags more name is =
    list_any-append (λ (other : TagOf Ty). bytes_eq other.name name) tags (filter (is_new tags) more)
    ∙ ap (λ b. b || has_tag (filter (is_new tags) more) name) is

not_new : (a b c : Bool) → not a ≡ cond (not b) c false → b ≡ true → a ≡ true
not_new true b c is there = refl
not_new false true c is there = cc
not_new false false c is there = cc

-- If joined tags have a name, then the result of joining has the name.
has_tag-joined : (tags more : List (TagOf Ty)) (item : TagOf Ty) → has_tag more item.name ≡ true → has_tag (joined tags more) item.name ≡ true
has_tag-joined tags more item is =
    not_new (has_tag (joined tags more) item.name) (has_tag more item.name) (is_new tags item) (is_new-joined tags more item) is

there_joined : (all : List (TagOf Ty)) (item : TagOf Ty) → has_tag all item.name ≡ true → joined all (item ∷ []) ≡ all
there_joined all item is =
    ap (λ b. all ++ cond (not b) (item ∷ []) []) is ∙ append-nil all

-- Tags that are left out were present.
module _ (tags : List (TagOf Ty)) where
  abbrev Has : List (TagOf Ty) → Type 0
  Has all = (item : TagOf Ty) → has_tag tags item.name ≡ true → has_tag all item.name ≡ true

  filtered_or : (all : List (TagOf Ty)) (item : TagOf Ty) (more : List (TagOf Ty)) (there : Bool) → has_tag tags item.name ≡ there
      → Has all → ((now : List (TagOf Ty)) → Has now → each_joined now (filter (is_new tags) more) ≡ each_joined now more)
      → each_joined all (cond (not there) (item ∷ filter (is_new tags) more) (filter (is_new tags) more)) ≡ each_joined all (item ∷ more)
  filtered_or all item more true is has rest =
      rest all has ∙ ap (λ now. each_joined now more) (sym (there_joined all item (has item is)))
  filtered_or all item more false is has rest =
      rest (joined all (item ∷ [])) (λ other there. has_tag-more all (item ∷ []) other.name (has other there))

  each_filtered : (more all : List (TagOf Ty)) → Has all → each_joined all (filter (is_new tags) more) ≡ each_joined all more
  each_filtered [] all has = refl
  each_filtered (item ∷ more) all has =
      filtered_or all item more (has_tag tags item.name) refl has (each_filtered more)

joined_singly : (tags more : List (TagOf Ty)) → JoinSingly tags → JoinSingly more → JoinSingly (joined tags more)
joined_singly tags more first later out =
    fold-append one_joined out tags (filter (is_new tags) more)
    ∙ ap (λ all. each_joined all (filter (is_new tags) more)) (first out)
    ∙ each_filtered tags more (joined out tags) (has_tag-joined out tags)
    ∙ later (joined out tags)
    ∙ sym (joined-joined out tags more)

with_tags_singly : (h : HeadOf Ty) (more : List (TagOf Ty)) → JoinSingly (tags_in h) → JoinSingly more
    → JoinSingly (tags_in (with_head_tags h more))
with_tags_singly (heads.Variants tags) more first later = joined_singly tags more first later
with_tags_singly (heads.Variable x) more first later = none_singly
with_tags_singly (heads.Predeclared b ts) more first later = none_singly
with_tags_singly (heads.Datatype n ts) more first later = none_singly
with_tags_singly (heads.Tuple ts) more first later = none_singly
with_tags_singly heads.Absent more first later = none_singly

meant_singly : (base : Option Predeclared) (name : List ℕ) → JoinSingly (tags_in (head_meant base name))
meant_singly None name = none_singly
meant_singly (Some b) name = none_singly

part_singly : (h : HeadOf Ty) (t : Ty) → JoinSingly (tags_in (with_part h t))
part_singly (heads.Variants tags) t = none_singly
part_singly (heads.Variable x) t = none_singly
part_singly (heads.Predeclared b ts) t = none_singly
part_singly (heads.Datatype n ts) t = none_singly
part_singly (heads.Tuple ts) t = none_singly
part_singly heads.Absent t = none_singly

plain_singly : (f : Ty → HeadOf Ty) → ((t : Ty) → JoinSingly (tags_in (f t))) → (t : Ty) → JoinSingly (tags_in (plain_head f t))
plain_singly f all (variable x) = none_singly
plain_singly f all (named n) = meant_singly (predeclared n) n
plain_singly f all tuple = none_singly
plain_singly f all bracket = none_singly
plain_singly f all (part t a) = part_singly (plain_head f t) a
plain_singly f all (tag t x) =
    with_tags_singly (plain_head f t) (bare_tag x ∷ []) (plain_singly f all t) (one_singly (bare_tag x))
plain_singly f all (tag_of t x a) =
    with_tags_singly (plain_head f t) (carrying_tag x a ∷ []) (plain_singly f all t) (one_singly (carrying_tag x a))
plain_singly f all (including t a) =
    with_tags_singly (plain_head f t) (tags_in (f a)) (plain_singly f all t) (all a)

by_singly : (f : Ty → HeadOf Ty) → ((t : Ty) → JoinSingly (tags_in (f t))) → (t : Ty) (next : Option Ty)
    → JoinSingly (tags_in (head_by f t next))
by_singly f all t None = plain_singly f all t
by_singly f all t (Some u) = all u

within_singly : (decls : List Decl) (n : ℕ) (t : Ty) → JoinSingly (tags_in (head_within decls n t))
within_singly decls zero t = none_singly
within_singly decls (suc n) t = by_singly (head_within decls n) (within_singly decls n) t (unfolded decls t)

head_singly : (decls : List Decl) (t : Ty) → JoinSingly (tags_in (head decls t))
unfolding head
head_singly decls t = within_singly decls (enough decls t) t

-- Joining tags over type indices gives the same result as joining the tags over types.
module _ (types : List Ty) where
  joined_tags : (more tags : List (TagOf ℕ)) → each_joined (tags_at types tags) (tags_at types more) ≡ tags_at types (with_tags tags more)
  joined_tags [] tags = refl
  joined_tags (item ∷ more) tags =
      ap (λ all. each_joined all (tags_at types more)) (joined-tag (type_at types) tags item.name item.argument)
      ∙ joined_tags more (with_tag tags item.name item.argument)

  all_within : (more tags : List (TagOf ℕ)) → All (IsTagWithin types) tags → All (IsTagWithin types) more
      → All (IsTagWithin types) (with_tags tags more)
  all_within [] tags first later = first
  all_within (item ∷ more) tags first later =
      all_within more (with_tag tags item.name item.argument)
      (tag_pushed types tags first (has_name tags item.name) item.name item.argument (All-head (IsTagWithin types) item more later))
      (All-tail (IsTagWithin types) item more later)

-- ---- heads that were found

abbrev tags_there : HeadOf (Option Ty) → List (TagOf (Option Ty))
tags_there (heads.Variants tags) = tags
tags_there other = []

written_there : (f : Ty → Option Ty) (h : HeadOf Ty) → tags_there (head_with_parts f h) ≡ map (tag_with_part f) (tags_in h)
written_there f (heads.Variable name) = refl
written_there f (heads.Predeclared base parts) = refl
written_there f (heads.Datatype name parts) = refl
written_there f (heads.Tuple parts) = refl
written_there f (heads.Variants tags) = refl
written_there f heads.Absent = refl

-- If tags over type indices are the tags of a type, then the head with the tags is the head of the
-- type.
as_head : (decls : List Decl) (types : List Ty) (t : Ty) (tags : List (TagOf ℕ)) → AreTagsOf decls types t tags
    → head_with_parts (slice_get types) (heads.Variants tags)
    ≡ head_with_parts (λ (u : Ty). Some u) (heads.Variants (tags_in (head decls t)))
as_head decls types t tags is = ap (λ (ts : List (TagOf (Option Ty))). heads.Variants ts) is

module _ (decls : List Decl) (types new : List Ty) (grown : Grows types new) (numbers : List ℕ)
    (within : All (λ i. i < length types) numbers) where
  tags_stay : (by_position : Bool) (t : Ty) (tags : List (TagOf ℕ)) → AreTagsOf decls (part_types by_position types numbers) t tags
      → AreTagsOf decls (part_types by_position new numbers) t tags
  tags_stay true t tags is =
      let same : map (type_at new) numbers ≡ map (type_at types) numbers =
      ap (λ ts. map (type_at ts) numbers) grown.kept ∙ numbers_kept types grown.added numbers within in
      subst (λ (ts : List Ty). AreTagsOf decls ts t tags) (sym same) is
  tags_stay false t tags is =
      ap tags_there
      (head_kept types (heads.Variants tags) (heads.Variants (tags_in (head decls t))) (as_head decls types t tags is) new grown)

pub found_kept : (decls : List Decl) (types : List Ty) (by_position : Bool) (numbers : List ℕ) (found : List (HeadOf ℕ)) (new : List Ty)
    → Grows types new → AreFound decls types by_position numbers found → AreFound decls new by_position numbers found
found_kept decls types by_position numbers found new grown was = record {
  within = All-weaker (λ i. i < length types) (λ i. i < length new)
      (λ i below. omega (arith, below, ap length grown.kept, length-append types grown.added)) numbers was.within;
  are = λ location number tags at_number at_head.
      let below = All-contains (λ i. i < length types) numbers number was.within (slice_get-Contains numbers location number at_number) in
      subst (λ (t : Ty). AreTagsOf decls (part_types by_position new numbers) t tags) (sym (type_kept types new number grown below))
      (tags_stay decls types new grown numbers was.within by_position (type_at types number) tags
      (was.are location number tags at_number at_head));
}

module _ (types : List Ty) (numbers : List ℕ) (within : All (λ i. i < length types) numbers) where
  -- If a part is an index into the list of part types, then the part has a type index.
  location_in : (by_position : Bool) (q : ℕ) → q < length (part_types by_position types numbers) → IsLocation by_position numbers q
  location_in true q below = omega (arith, below, length-map numbers (type_at types))
  location_in false q below = tt

  type_there : (by_position : Bool) (q : ℕ) → q < length (part_types by_position types numbers)
      → type_at types (part_number by_position numbers q) ≡ type_at (part_types by_position types numbers) q
  type_there true q below =
      let inside : q < length numbers = omega (arith, below, length-map numbers (type_at types)) in
      let n = get_or numbers q 0 in
      sym (get_or_from_slice_get (map (type_at types) numbers) q (type_at types n) tuple
      (get-map (type_at types) numbers q n (slice_get-get_or numbers q 0 inside)))
  type_there false q below = refl

  number_within : (by_position : Bool) (q : ℕ) → q < length (part_types by_position types numbers) → part_number by_position numbers q < length types
  number_within true q below =
      let inside : q < length numbers = omega (arith, below, length-map numbers (type_at types)) in
      All-contains (λ i. i < length types) numbers (get_or numbers q 0) within
      (slice_get-Contains numbers q (get_or numbers q 0) (slice_get-get_or numbers q 0 inside))
  number_within false q below = below

-- If a property holds for the parts, then it holds for the arguments of the tags.
module _ (P : ℕ → Type 0) where
  argument_holds : (argument : Option ℕ) (rest : List ℕ) → All P (listed_if argument ++ rest) → IfSome argument P × All P rest
  argument_holds None rest all = (tt, all)
  argument_holds (Some q) rest all = (All-head P q rest all, All-tail P q rest all)

  arguments_hold : (tags : List (TagOf ℕ)) → All P (parts_of (heads.Variants tags))
      → All (λ (item : TagOf ℕ). IfSome item.argument P) tags
  arguments_hold [] all = All-nil (λ (item : TagOf ℕ). IfSome item.argument P)
  arguments_hold (item ∷ tags) all =
      let both = argument_holds item.argument (parts_of (heads.Variants tags)) all in
      All-cons (λ (t : TagOf ℕ). IfSome t.argument P) item tags both.0 (arguments_hold tags both.1)

module _ (types : List Ty) (at : ℕ → ℕ) where
  argument_numbered : (argument : Option ℕ) → IfSome argument (λ q. at q < length types)
      → IfSome (option_map at argument) (λ i. i < length types)
  argument_numbered None there = tt
  argument_numbered (Some q) there = there

  tags_numbered : (tags : List (TagOf ℕ)) → All (λ (item : TagOf ℕ). IfSome item.argument (λ q. at q < length types)) tags
      → All (IsTagWithin types) (map (tag_with_part at) tags)
  tags_numbered [] all = All-nil (IsTagWithin types)
  tags_numbered (item ∷ tags) all =
      All-cons (IsTagWithin types) (tag_with_part at item) (map (tag_with_part at) tags)
      (argument_numbered item.argument (All-head (λ (t : TagOf ℕ). IfSome t.argument (λ q. at q < length types)) item tags all))
      (tags_numbered tags (All-tail (λ (t : TagOf ℕ). IfSome t.argument (λ q. at q < length types)) item tags all))

module _ (decls : List Decl) (types : List Ty) (by_position : Bool) (numbers : List ℕ) (found : List (HeadOf ℕ))
    (are : AreFound decls types by_position numbers found) (tags : List (TagOf ℕ)) (number : ℕ)
    (here : (location : ℕ) × (slice_get numbers location ≡ Some number) × (slice_get found location ≡ Some (heads.Variants tags))) where
  abbrev those : List Ty
  those = part_types by_position types numbers

  abbrev at : ℕ → ℕ
  at q = part_number by_position numbers q

  abbrev more : List (TagOf ℕ)
  more = map (tag_with_part at) tags

  abbrev brought : List (TagOf Ty)
  brought = tags_in (head decls (type_at types number))

  is_head : head_with_parts (slice_get those) (heads.Variants tags) ≡ head_with_parts (λ (u : Ty). Some u) (heads.Variants brought)
  is_head = as_head decls those (type_at types number) tags (are.are here.0 number tags here.1 here.2)

  parts_there : All (λ i. i < length those) (parts_of (heads.Variants tags))
  parts_there = parts_within those (heads.Variants tags) (heads.Variants brought) is_head

  are_tags : tags_at types more ≡ brought
  are_tags =
      tags_twice at (type_at types) tags
      ∙ tags_agree (λ q. type_at types (at q)) (type_at those) tags
      (All-weaker (λ i. i < length those) (λ q. type_at types (at q) ≡ type_at those q) (type_there types numbers are.within by_position)
      (parts_of (heads.Variants tags)) parts_there)
      ∙ ap tags_in (head_found those (heads.Variants tags) (heads.Variants brought) is_head)

  pub locations_there : All (λ (item : TagOf ℕ). IfSome item.argument (IsLocation by_position numbers)) tags
  locations_there =
      arguments_hold (IsLocation by_position numbers) tags
      (All-weaker (λ i. i < length those) (IsLocation by_position numbers) (location_in types numbers are.within by_position)
      (parts_of (heads.Variants tags)) parts_there)

  more_within : All (IsTagWithin types) more
  more_within =
      tags_numbered types at tags
      (arguments_hold (λ q. at q < length types) tags
      (All-weaker (λ i. i < length those) (λ q. at q < length types) (number_within types numbers are.within by_position)
      (parts_of (heads.Variants tags)) parts_there))

  pub found_gathered : (gathered : List (TagOf ℕ)) (settled : List ℕ) (rest : List BracketStep) (all : List (TagOf Ty))
      → AreGathered decls types gathered settled (steps.Included number ∷ rest) all
      → AreGathered decls types (with_tags gathered more) settled rest all
  found_gathered gathered settled rest all was =
      let same : joined (tags_at types gathered) brought ≡ tags_at types (with_tags gathered more) =
      sym (head_singly decls (type_at types number) (tags_at types gathered))
      ∙ ap (each_joined (tags_at types gathered)) (sym are_tags)
      ∙ joined_tags types more gathered in
      record {
        found_within = all_within types more gathered was.found_within more_within;
        brought = subst (λ (ts : List (TagOf Ty)). AreSettled decls ts settled) same
            (settled_more decls (tags_at types gathered) brought settled was.brought);
        left = subst (λ (ts : List (TagOf Ty)). AreLeft decls types ts rest all) same was.left.1;
      }

-- If a head with tags is the head of a type, then the tags of the head are the tags of the type.
pub tags_of_head : (decls : List Decl) (types : List Ty) (t : Ty) (tags : List (TagOf ℕ))
    → IsHeadOf decls types t (heads.Variants tags) → AreTagsOf decls types t tags
tags_of_head decls types t tags is = ap tags_there is ∙ written_there (λ (u : Ty). Some u) (head decls t)
