-- The tree of a type determines the occurrences in the type, production by production.
use Rattle.std.proofs.Common.{ℕ, ◌≡◌, ◌+◌, ◌∙◌, ⊎_elim, Bool, true, List, [], ◌∷◌, ◌++◌, length, refl, sym, ap, subst}
use Rattle.std.specs.Prelude.{map, Contains}
use Rattle.std.proofs.lemmas.List.Elements.{Contains-append_left, Contains-append_right, Contains-append_cases}
use Rattle.base_data.proofs.model.Options.{Contains-first, Contains-later, Contains-none, Contains-cases}
use Rattle.types_parse.specs.grammar.Grammar.{Texpr, App, Simple, Texprs, Items, ItemTree, texpr, app, texprs, items, bar_if}
use Rattle.types_parse.specs.grammar.Grammar as trees
use Rattle.types_spec.specs.types.Occurrence.{Occurrence, PlacedItem, use_of, variable_at, bracket_of}
use Rattle.types_spec.specs.types.Ty.{Ty, bracket}
use Rattle.types_spec.specs.types.Ty.{parts}
use Rattle.types_parse.specs.parse.WrittenTrees.{type_of_texpr, tuple_of, type_of_app, type_of_simple, applied_to, type_of_items, with_item}
use Rattle.types_parse.specs.parse.TypeShown.{types_of_texprs}
use Rattle.types_resolve.specs.occurrences.InText.{placed_items, in_texpr, in_app, in_simple, in_texprs, in_items, in_item}
use Rattle.types_wellformed.specs.accepted.KnownThings.{Thing, use_thing, variable_thing, bracket_thing, HasParts, HasItems, IsProper, items_of, begins_as, things_inside, things_in, thing_of, IsKnown, ReportsAll}

-- ---- types of the grammar

tuple_has : (t : Texpr) → HasParts (tuple_of t)
tuple_has (trees.single a) = tt
tuple_has (trees.starred t a) = tuple_has t

applied_has : (name : List ℕ) (ts : Texprs) → HasParts (applied_to name ts)
applied_has name (trees.first t) = tt
applied_has name (trees.further ts t) = applied_has name ts

items_have : (all : Items) → HasItems (type_of_items all)
items_have (trees.one (trees.tag x)) = tt
items_have (trees.one (trees.tag_of x t)) = tt
items_have (trees.one (trees.included a)) = tt
items_have (trees.more all (trees.tag x)) = items_have all
items_have (trees.more all (trees.tag_of x t)) = items_have all
items_have (trees.more all (trees.included a)) = items_have all

mutual
  texpr_proper : (t : Texpr) → IsProper (type_of_texpr t)
  texpr_proper (trees.single a) = app_proper a
  texpr_proper (trees.starred t a) = (tuple_has t, tuple_proper t, app_proper a)

  tuple_proper : (t : Texpr) → IsProper (tuple_of t)
  tuple_proper (trees.single a) = (tt, tt, app_proper a)
  tuple_proper (trees.starred t a) = (tuple_has t, tuple_proper t, app_proper a)

  app_proper : (a : App) → IsProper (type_of_app a)
  app_proper (trees.simple s) = simple_proper s
  app_proper (trees.applied a name) = (tt, tt, app_proper a)

  simple_proper : (s : Simple) → IsProper (type_of_simple s)
  simple_proper (trees.variable name) = tt
  simple_proper (trees.named name) = tt
  simple_proper (trees.grouped t) = texpr_proper t
  simple_proper (trees.arguments ts t name) = (applied_has name ts, applied_proper name ts, texpr_proper t)
  simple_proper (trees.bracket bar all) = items_proper all

  applied_proper : (name : List ℕ) (ts : Texprs) → IsProper (applied_to name ts)
  applied_proper name (trees.first t) = (tt, tt, texpr_proper t)
  applied_proper name (trees.further ts t) = (applied_has name ts, applied_proper name ts, texpr_proper t)

  items_proper : (all : Items) → IsProper (type_of_items all)
  items_proper (trees.one i) = item_proper bracket i tt tt
  items_proper (trees.more all i) = item_proper (type_of_items all) i (items_have all) (items_proper all)

  item_proper : (whole : Ty) (i : ItemTree) → HasItems whole → IsProper whole → IsProper (with_item whole i)
  item_proper whole (trees.tag x) has proper = (has, proper)
  item_proper whole (trees.tag_of x t) has proper = (has, proper, texpr_proper t)
  item_proper whole (trees.included a) has proper = (has, proper, app_proper a)

pub types_proper : (t : Texpr) → IsProper (type_of_texpr t)
types_proper t = texpr_proper t

-- ---- reported facts

abbrev pub Reports : List Occurrence → List Thing → Type 0
Reports occurrences things = (thing : Thing) → Contains things thing → IsKnown occurrences thing

known_left : (first rest : List Occurrence) (thing : Thing) → IsKnown first thing → IsKnown (first ++ rest) thing
known_left first rest thing known = (known.0, Contains-append_left first rest known.0 known.1, known.2)

known_right : (first rest : List Occurrence) (thing : Thing) → IsKnown rest thing → IsKnown (first ++ rest) thing
known_right first rest thing known = (known.0, Contains-append_right first rest known.0 known.1, known.2)

known_later : (one : Occurrence) (rest : List Occurrence) (thing : Thing) → IsKnown rest thing → IsKnown (one ∷ rest) thing
known_later one rest thing known = (known.0, Contains-later one rest known.0 known.1, known.2)

-- If each of two lists of occurrences states all things of a list, then the concatenated
-- occurrences state all things of the concatenated lists.
both_known : (first rest : List Occurrence) (things more : List Thing) → Reports first things → Reports rest more → Reports (first ++ rest) (things ++ more)
both_known first rest things more one other thing among = ⊎_elim
    (λ before. known_left first rest thing (one thing before))
    (λ after. known_right first rest thing (other thing after))
    (Contains-append_cases things more thing among)

-- If the first occurrence states the first thing and the remaining occurrences state the remaining
-- things, then the occurrences state all things.
first_known :
    (one : Occurrence) (rest : List Occurrence) (own : Thing) (things : List Thing) → thing_of one ≡ own → Reports rest things → Reports (one ∷ rest) (own ∷ things)
first_known one rest own things same later thing among = ⊎_elim
    (λ here. (one, Contains-first one rest, same ∙ here))
    (λ more. known_later one rest thing (later thing more))
    (Contains-cases own things thing among)

nothing_known : (occurrences : List Occurrence) → Reports occurrences []
nothing_known occurrences thing among = absurd (Contains-none thing among)

tuple_begins : (arguments items : List Ty) (t : Texpr) → begins_as arguments items (tuple_of t) ≡ []
tuple_begins arguments items (trees.single a) = refl
tuple_begins arguments items (trees.starred t a) = tuple_begins arguments items t

applied_begins : (arguments items : List Ty) (name : List ℕ) (ts : Texprs) → begins_as arguments items (applied_to name ts) ≡ use_thing name arguments ∷ []
applied_begins arguments items name (trees.first t) = refl
applied_begins arguments items name (trees.further ts t) = applied_begins arguments items name ts

applied_parts : (name : List ℕ) (ts : Texprs) → parts (applied_to name ts) ≡ types_of_texprs ts
applied_parts name (trees.first t) = refl
applied_parts name (trees.further ts t) = ap (λ us. us ++ type_of_texpr t ∷ []) (applied_parts name ts)

items_begin : (arguments items : List Ty) (all : Items) → begins_as arguments items (type_of_items all) ≡ bracket_thing items ∷ []
items_begin arguments items (trees.one (trees.tag x)) = refl
items_begin arguments items (trees.one (trees.tag_of x t)) = refl
items_begin arguments items (trees.one (trees.included a)) = refl
items_begin arguments items (trees.more all (trees.tag x)) = items_begin arguments items all
items_begin arguments items (trees.more all (trees.tag_of x t)) = items_begin arguments items all
items_begin arguments items (trees.more all (trees.included a)) = items_begin arguments items all

item_last : (whole : Ty) (i : ItemTree) → items_of (with_item whole i) ≡ items_of whole ++ with_item bracket i ∷ []
item_last whole (trees.tag x) = refl
item_last whole (trees.tag_of x t) = refl
item_last whole (trees.included a) = refl

map-append' : (first rest : List PlacedItem) → map (λ (item : PlacedItem). item.1) (first ++ rest) ≡ map (λ (item : PlacedItem). item.1) first ++ map (λ (item : PlacedItem). item.1) rest
map-append' [] rest = refl
map-append' (item ∷ first) rest = ap (λ items. item.1 ∷ items) (map-append' first rest)

placed_same : (k : ℕ) (all : Items) → map (λ (item : PlacedItem). item.1) (placed_items k all) ≡ items_of (type_of_items all)
placed_same k (trees.one (trees.tag x)) = refl
placed_same k (trees.one (trees.tag_of x t)) = refl
placed_same k (trees.one (trees.included a)) = refl
placed_same k (trees.more all i) =
    map-append' (placed_items k all) ((k + length (items all) + 1, with_item bracket i) ∷ [])
    ∙ ap (λ us. us ++ with_item bracket i ∷ []) (placed_same k all) ∙ sym (item_last (type_of_items all) i)

mutual
  texpr_known : (k : ℕ) (in_tag : Bool) (t : Texpr) → Reports (in_texpr k in_tag t) (things_in (type_of_texpr t))
  texpr_known k in_tag (trees.single a) = app_known k in_tag a
  texpr_known k in_tag (trees.starred t a) =
      subst (λ own. Reports (in_texpr k in_tag (trees.starred t a)) (own ++ (things_inside (tuple_of t) ++ things_in (type_of_app a))))
      (sym (tuple_begins (parts (type_of_texpr (trees.starred t a))) [] t))
      (both_known (in_texpr k in_tag t) (in_app (k + length (texpr t) + 1) in_tag a) (things_inside (tuple_of t)) (things_in (type_of_app a))
      (tuple_known k in_tag t) (app_known (k + length (texpr t) + 1) in_tag a))

  tuple_known : (k : ℕ) (in_tag : Bool) (t : Texpr) → Reports (in_texpr k in_tag t) (things_inside (tuple_of t))
  tuple_known k in_tag (trees.single a) = app_known k in_tag a
  tuple_known k in_tag (trees.starred t a) =
      both_known (in_texpr k in_tag t) (in_app (k + length (texpr t) + 1) in_tag a) (things_inside (tuple_of t)) (things_in (type_of_app a))
      (tuple_known k in_tag t) (app_known (k + length (texpr t) + 1) in_tag a)

  app_known : (k : ℕ) (in_tag : Bool) (a : App) → Reports (in_app k in_tag a) (things_in (type_of_app a))
  app_known k in_tag (trees.simple s) = simple_known k in_tag s
  app_known k in_tag (trees.applied a name) =
      first_known (use_of (k + length (app a)) name (type_of_app a ∷ []) in_tag) (in_app k in_tag a) (use_thing name (type_of_app a ∷ []))
      (things_in (type_of_app a)) refl (app_known k in_tag a)

  simple_known : (k : ℕ) (in_tag : Bool) (s : Simple) → Reports (in_simple k in_tag s) (things_in (type_of_simple s))
  simple_known k in_tag (trees.variable name) = first_known (variable_at k name) [] (variable_thing name) [] refl (nothing_known [])
  simple_known k in_tag (trees.named name) = first_known (use_of k name [] in_tag) [] (use_thing name []) [] refl (nothing_known [])
  simple_known k in_tag (trees.grouped t) = texpr_known (k + 1) in_tag t
  simple_known k in_tag (trees.arguments ts t name) =
      let after = k + length (texprs ts) in
      let own : begins_as (parts (type_of_simple (trees.arguments ts t name))) [] (applied_to name ts)
      ≡ use_thing name (types_of_texprs ts ++ type_of_texpr t ∷ []) ∷ [] =
      applied_begins (parts (type_of_simple (trees.arguments ts t name))) [] name ts
      ∙ ap (λ us. use_thing name (us ++ type_of_texpr t ∷ []) ∷ []) (applied_parts name ts) in
      subst (λ o. Reports (in_simple k in_tag (trees.arguments ts t name)) (o ++ (things_inside (applied_to name ts) ++ things_in (type_of_texpr t)))) (sym own)
      (first_known (use_of (k + length (texprs ts) + length (texpr t) + 3) name (types_of_texprs ts ++ type_of_texpr t ∷ []) in_tag)
      (in_texprs (k + 1) in_tag ts ++ in_texpr (after + 2) in_tag t) (use_thing name (types_of_texprs ts ++ type_of_texpr t ∷ []))
      (things_inside (applied_to name ts) ++ things_in (type_of_texpr t)) refl
      (both_known (in_texprs (k + 1) in_tag ts) (in_texpr (after + 2) in_tag t) (things_inside (applied_to name ts)) (things_in (type_of_texpr t))
      (texprs_known (k + 1) in_tag name ts) (texpr_known (after + 2) in_tag t)))
  simple_known k in_tag (trees.bracket bar all) =
      let first = k + length (bar_if bar) + 1 in
      subst (λ o. Reports (in_simple k in_tag (trees.bracket bar all)) (o ++ things_inside (type_of_items all)))
      (sym (items_begin (parts (type_of_items all)) (items_of (type_of_items all)) all))
      (first_known (bracket_of (placed_items first all)) (in_items first in_tag all) (bracket_thing (items_of (type_of_items all)))
      (things_inside (type_of_items all)) (ap bracket_thing (placed_same first all)) (items_known first in_tag all))

  texprs_known : (k : ℕ) (in_tag : Bool) (name : List ℕ) (ts : Texprs) → Reports (in_texprs k in_tag ts) (things_inside (applied_to name ts))
  texprs_known k in_tag name (trees.first t) = texpr_known k in_tag t
  texprs_known k in_tag name (trees.further ts t) =
      both_known (in_texprs k in_tag ts) (in_texpr (k + length (texprs ts) + 1) in_tag t) (things_inside (applied_to name ts)) (things_in (type_of_texpr t))
      (texprs_known k in_tag name ts) (texpr_known (k + length (texprs ts) + 1) in_tag t)

  items_known : (k : ℕ) (in_tag : Bool) (all : Items) → Reports (in_items k in_tag all) (things_inside (type_of_items all))
  items_known k in_tag (trees.one i) = item_known k in_tag bracket i [] (nothing_known [])
  items_known k in_tag (trees.more all i) =
      item_known (k + length (items all) + 1) in_tag (type_of_items all) i (in_items k in_tag all) (items_known k in_tag all)

  item_known :
      (k : ℕ) (in_tag : Bool) (whole : Ty) (i : ItemTree) (before : List Occurrence) → Reports before (things_inside whole)
      → Reports (before ++ in_item k in_tag i) (things_inside (with_item whole i))
  item_known k in_tag whole (trees.tag x) before known = λ thing among. known_left before [] thing (known thing among)
  item_known k in_tag whole (trees.tag_of x t) before known =
      both_known before (in_texpr (k + 2) true t) (things_inside whole) (things_in (type_of_texpr t)) known (texpr_known (k + 2) true t)
  item_known k in_tag whole (trees.included a) before known =
      both_known before (in_app k in_tag a) (things_inside whole) (things_in (type_of_app a)) known (app_known k in_tag a)

pub types_known : (k : ℕ) (in_tag : Bool) (t : Texpr) → ReportsAll (in_texpr k in_tag t) (type_of_texpr t)
types_known k in_tag t = texpr_known k in_tag t
