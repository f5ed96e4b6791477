-- The names that a type uses outside tag arguments are among the type's occurrences. Types of the
-- grammar have a valid form, and are at most as deep as their trees.
use Rattle.std.proofs.Common.{ℕ, suc, ◌≡◌, ◌≤◌, ◌+◌, ◌⊎◌, ⊎_elim, inl, inr, true, false, List, [], ◌∷◌, ◌++◌, length, subst, arith}
use Rattle.std.specs.Prelude.{Contains, max}
use Rattle.std.proofs.lemmas.List.Elements.{Contains-append_left, Contains-append_right, Contains-append_cases}
use Rattle.base_data.proofs.model.Options.{Contains-first, Contains-later, Contains-none, Contains-cases}
use Rattle.types_parse.specs.grammar.Grammar.{Texpr, App, Simple, Texprs, Items, ItemTree, texpr, app, texprs, items, bar_if}
use Rattle.types_parse.specs.grammar.Grammar as trees
use Rattle.types_parse.specs.grammar.Depths.{texpr_depth, part_depth, app_depth, simple_depth, texprs_depth, items_depth, item_depth}
use Rattle.types_spec.specs.types.WellFormed.{IsWhole, IsType, names_outside}
use Rattle.types_spec.specs.types.Occurrence.{Occurrence, use_of, bracket_of}
use Rattle.types_spec.specs.types.Ty.{Ty, bracket}
use Rattle.types_spec.specs.types.Ty.{depth}
use Rattle.types_parse.specs.parse.WrittenTrees.{type_of_texpr, tuple_of, type_of_app, type_of_simple, applied_to, type_of_items, with_item}
use Rattle.types_parse.specs.parse.TypeShown.{types_of_texprs}
use Rattle.types_resolve.specs.occurrences.InText.{placed_items, in_texpr, in_app, in_simple, in_texprs, in_items, in_item}

-- ---- names outside tag arguments

abbrev pub IsUsed : List Occurrence → List ℕ → Type 0
IsUsed occurrences name = (position : ℕ) × (arguments : List Ty) × Contains occurrences (use_of position name arguments false)

abbrev pub AreUsed : List Occurrence → List (List ℕ) → Type 0
AreUsed occurrences names = (name : List ℕ) → Contains names name → IsUsed occurrences name

used_left : (first rest : List Occurrence) (name : List ℕ) → IsUsed first name → IsUsed (first ++ rest) name
used_left first rest name used = (used.0, used.1, Contains-append_left first rest (use_of used.0 name used.1 false) used.2)

used_right : (first rest : List Occurrence) (name : List ℕ) → IsUsed rest name → IsUsed (first ++ rest) name
used_right first rest name used = (used.0, used.1, Contains-append_right first rest (use_of used.0 name used.1 false) used.2)

used_later : (one : Occurrence) (rest : List Occurrence) (name : List ℕ) → IsUsed rest name → IsUsed (one ∷ rest) name
used_later one rest name used = (used.0, used.1, Contains-later one rest (use_of used.0 name used.1 false) used.2)

both_used : (first rest : List Occurrence) (names more : List (List ℕ)) → AreUsed first names → AreUsed rest more → AreUsed (first ++ rest) (names ++ more)
both_used first rest names more one other name among = ⊎_elim
    (λ before. used_left first rest name (one name before))
    (λ after. used_right first rest name (other name after))
    (Contains-append_cases names more name among)

first_used :
    (position : ℕ) (name : List ℕ) (arguments : List Ty) (rest : List Occurrence) (names : List (List ℕ)) → AreUsed rest names
    → AreUsed (use_of position name arguments false ∷ rest) (name ∷ names)
first_used position name arguments rest names later x among = ⊎_elim
    (λ here. (
      position,
      arguments,
      subst (λ y. Contains (use_of position name arguments false ∷ rest) (use_of position y arguments false)) here
          (Contains-first (use_of position name arguments false) rest),
    ))
    (λ more. used_later (use_of position name arguments false) rest x (later x more))
    (Contains-cases name names x among)

nothing_used : (occurrences : List Occurrence) → AreUsed occurrences []
nothing_used occurrences name among = absurd (Contains-none name among)

all_later : (one : Occurrence) (rest : List Occurrence) (names : List (List ℕ)) → AreUsed rest names → AreUsed (one ∷ rest) names
all_later one rest names used name among = used_later one rest name (used name among)

mutual
  texpr_used : (k : ℕ) (t : Texpr) → AreUsed (in_texpr k false t) (names_outside (type_of_texpr t))
  texpr_used k (trees.single a) = app_used k a
  texpr_used k (trees.starred t a) =
      both_used (in_texpr k false t) (in_app (k + length (texpr t) + 1) false a) (names_outside (tuple_of t)) (names_outside (type_of_app a))
      (tuple_used k t) (app_used (k + length (texpr t) + 1) a)

  tuple_used : (k : ℕ) (t : Texpr) → AreUsed (in_texpr k false t) (names_outside (tuple_of t))
  tuple_used k (trees.single a) = app_used k a
  tuple_used k (trees.starred t a) =
      both_used (in_texpr k false t) (in_app (k + length (texpr t) + 1) false a) (names_outside (tuple_of t)) (names_outside (type_of_app a))
      (tuple_used k t) (app_used (k + length (texpr t) + 1) a)

  app_used : (k : ℕ) (a : App) → AreUsed (in_app k false a) (names_outside (type_of_app a))
  app_used k (trees.simple s) = simple_used k s
  app_used k (trees.applied a name) =
      first_used (k + length (app a)) name (type_of_app a ∷ []) (in_app k false a) (names_outside (type_of_app a)) (app_used k a)

  simple_used : (k : ℕ) (s : Simple) → AreUsed (in_simple k false s) (names_outside (type_of_simple s))
  simple_used k (trees.variable name) = nothing_used (in_simple k false (trees.variable name))
  simple_used k (trees.named name) = first_used k name [] [] [] (nothing_used [])
  simple_used k (trees.grouped t) = texpr_used (k + 1) t
  simple_used k (trees.arguments ts t name) = λ x among.
      let position = k + length (texprs ts) + length (texpr t) + 3 in
      let arguments = types_of_texprs ts ++ type_of_texpr t ∷ [] in
      let rest = in_texprs (k + 1) false ts ++ in_texpr (k + length (texprs ts) + 2) false t in
      ⊎_elim
      (λ before. ⊎_elim
      (λ own. (
        position,
        arguments,
        subst (λ y. Contains (use_of position name arguments false ∷ rest) (use_of position y arguments false)) own
            (Contains-first (use_of position name arguments false) rest),
      ))
      (λ inside. used_later (use_of position name arguments false) rest x
      (used_left (in_texprs (k + 1) false ts) (in_texpr (k + length (texprs ts) + 2) false t) x inside))
      (texprs_used (k + 1) name ts x before))
      (λ after. used_later (use_of position name arguments false) rest x
      (used_right (in_texprs (k + 1) false ts) (in_texpr (k + length (texprs ts) + 2) false t) x (texpr_used (k + length (texprs ts) + 2) t x after)))
      (Contains-append_cases (names_outside (applied_to name ts)) (names_outside (type_of_texpr t)) x among)
  simple_used k (trees.bracket bar all) =
      let first = k + length (bar_if bar) + 1 in
      all_later (bracket_of (placed_items first all)) (in_items first false all) (names_outside (type_of_items all)) (items_used first all)

  texprs_used : (k : ℕ) (name : List ℕ) (ts : Texprs) (x : List ℕ) → Contains (names_outside (applied_to name ts)) x → (name ≡ x) ⊎ IsUsed (in_texprs k false ts) x
  texprs_used k name (trees.first t) x among = ⊎_elim (λ here. inl here) (λ later. inr (texpr_used k t x later))
      (Contains-cases name (names_outside (type_of_texpr t)) x among)
  texprs_used k name (trees.further ts t) x among = ⊎_elim
      (λ before. ⊎_elim (λ own. inl own) (λ inside. inr (used_left (in_texprs k false ts) (in_texpr (k + length (texprs ts) + 1) false t) x inside))
      (texprs_used k name ts x before))
      (λ after. inr (used_right (in_texprs k false ts) (in_texpr (k + length (texprs ts) + 1) false t) x (texpr_used (k + length (texprs ts) + 1) t x after)))
      (Contains-append_cases (names_outside (applied_to name ts)) (names_outside (type_of_texpr t)) x among)

  items_used : (k : ℕ) (all : Items) → AreUsed (in_items k false all) (names_outside (type_of_items all))
  items_used k (trees.one i) = item_used k bracket i [] (nothing_used [])
  items_used k (trees.more all i) = item_used (k + length (items all) + 1) (type_of_items all) i (in_items k false all) (items_used k all)

  item_used :
      (k : ℕ) (whole : Ty) (i : ItemTree) (before : List Occurrence) → AreUsed before (names_outside whole)
      → AreUsed (before ++ in_item k false i) (names_outside (with_item whole i))
  item_used k whole (trees.tag x) before used = λ name among. used_left before [] name (used name among)
  item_used k whole (trees.tag_of x t) before used = λ name among. used_left before (in_texpr (k + 2) true t) name (used name among)
  item_used k whole (trees.included a) before used =
      both_used before (in_app k false a) (names_outside whole) (names_outside (type_of_app a)) used (app_used k a)

pub types_used : (k : ℕ) (t : Texpr) → AreUsed (in_texpr k false t) (names_outside (type_of_texpr t))
types_used k t = texpr_used k t

-- ---- the form required by the grammar

mutual
  texpr_type : (t : Texpr) → IsType (type_of_texpr t)
  texpr_type (trees.single a) = app_type a
  texpr_type (trees.starred t a) = inr (tuple_whole t, app_type a)

  tuple_whole : (t : Texpr) → IsWhole (tuple_of t)
  tuple_whole (trees.single a) = (tt, app_type a)
  tuple_whole (trees.starred t a) = (tuple_whole t, app_type a)

  app_type : (a : App) → IsType (type_of_app a)
  app_type (trees.simple s) = simple_type s
  app_type (trees.applied a name) = inr (tt, app_type a)

  simple_type : (s : Simple) → IsType (type_of_simple s)
  simple_type (trees.variable name) = inl tt
  simple_type (trees.named name) = inr tt
  simple_type (trees.grouped t) = texpr_type t
  simple_type (trees.arguments ts t name) = inr (applied_whole name ts, texpr_type t)
  simple_type (trees.bracket bar all) = inr (items_whole all)

  applied_whole : (name : List ℕ) (ts : Texprs) → IsWhole (applied_to name ts)
  applied_whole name (trees.first t) = (tt, texpr_type t)
  applied_whole name (trees.further ts t) = (applied_whole name ts, texpr_type t)

  items_whole : (all : Items) → IsWhole (type_of_items all)
  items_whole (trees.one i) = item_whole bracket i tt
  items_whole (trees.more all i) = item_whole (type_of_items all) i (items_whole all)

  item_whole : (whole : Ty) (i : ItemTree) → IsWhole whole → IsWhole (with_item whole i)
  item_whole whole (trees.tag x) is = is
  item_whole whole (trees.tag_of x t) is = (is, texpr_type t)
  item_whole whole (trees.included a) is = (is, app_type a)

pub types_are_types : (t : Texpr) → IsType (type_of_texpr t)
types_are_types t = texpr_type t

-- ---- depth

mutual
  texpr_shallow : (t : Texpr) → depth (type_of_texpr t) ≤ texpr_depth t
  texpr_shallow (trees.single a) = app_shallow a
  texpr_shallow (trees.starred t a) = omega (arith, tuple_shallow t, app_shallow a)

  tuple_shallow : (t : Texpr) → depth (tuple_of t) ≤ suc (part_depth t)
  tuple_shallow (trees.single a) = omega (arith, app_shallow a)
  tuple_shallow (trees.starred t a) = omega (arith, tuple_shallow t, app_shallow a)

  app_shallow : (a : App) → depth (type_of_app a) ≤ app_depth a
  app_shallow (trees.simple s) = simple_shallow s
  app_shallow (trees.applied a name) = omega (arith, app_shallow a)

  simple_shallow : (s : Simple) → depth (type_of_simple s) ≤ simple_depth s
  simple_shallow (trees.variable name) = omega arith
  simple_shallow (trees.named name) = omega arith
  simple_shallow (trees.grouped t) = omega (arith, texpr_shallow t)
  simple_shallow (trees.arguments ts t name) = omega (arith, applied_shallow name ts, texpr_shallow t)
  simple_shallow (trees.bracket bar all) = items_shallow all

  applied_shallow : (name : List ℕ) (ts : Texprs) → depth (applied_to name ts) ≤ suc (texprs_depth ts)
  applied_shallow name (trees.first t) = omega (arith, texpr_shallow t)
  applied_shallow name (trees.further ts t) = omega (arith, applied_shallow name ts, texpr_shallow t)

  items_shallow : (all : Items) → depth (type_of_items all) ≤ suc (items_depth all)
  items_shallow (trees.one i) = item_shallow bracket i (item_depth i) (omega arith) (omega arith)
  items_shallow (trees.more all i) =
      item_shallow (type_of_items all) i (max (items_depth all) (item_depth i)) (omega (arith, items_shallow all)) (omega arith)

  item_shallow : (whole : Ty) (i : ItemTree) (n : ℕ) → depth whole ≤ suc n → item_depth i ≤ n → depth (with_item whole i) ≤ suc n
  item_shallow whole (trees.tag x) n less within = less
  item_shallow whole (trees.tag_of x t) n less within = omega (arith, less, within, texpr_shallow t)
  item_shallow whole (trees.included a) n less within = omega (arith, less, within, app_shallow a)

pub types_shallow : (t : Texpr) → depth (type_of_texpr t) ≤ texpr_depth t
types_shallow t = texpr_shallow t
