-- Lemmas about the map of known abbreviations, with one more entry.
use Rattle.std.proofs.Common.{ℕ, suc, ◌<◌, ◌≤◌, ◌≡◌, ◌∙◌, Bool, true, false, cond, List, [], ◌∷◌, length, Option, Some, None, refl, sym, ap, subst, All, nat_eq}
use Rattle.std.specs.Prelude.{slice_get, option_map, IfSome, is_some}
use Rattle.std.specs.Map.{keys_of}
use Rattle.std.proofs.lemmas.Bool.{eqb-true}
use Rattle.std.proofs.lemmas.Option.{none-some, same_Some, slice_get_within, get_or_from_slice_get}
use Rattle.std.proofs.lemmas.List.Elements.{All-head, All-tail, All-cons, All-contains}
use Rattle.std.proofs.lemmas.Map.Steps.{length-le_from_distinct_below}
use Rattle.std.proofs.lemmas.Map.Views.{Contains-from_any}
use Rattle.indexmap.specs.IndexMap.{IndexMap, Updates, IsUnique, get, keys, insert_entry, index_map_len}
use Rattle.types_spec.specs.declared.types.decl.Decl.{Decl}
use Rattle.types_spec.specs.declared.types.decl.Body.TheVariants as bodies
use Rattle.types_spec.specs.types.Ty.{Ty, name_of, parts}
use Rattle.types_spec.specs.types.TypeNodes.{type_at}
use Rattle.types_spec.specs.types.Declarations.{abbreviated}
use Rattle.types_resolve.specs.scope.NamePositions.{IsFirstPosition}
use Rattle.types_resolve.specs.scope.Breaks.{names_of_decls}
use Rattle.types_resolve.proofs.scope.ScopeDeclaredLemmas.{found_at}
use Rattle.types_build.specs.representation.AbbreviationWay.{AreKnown, ComesToArgument, EachLeads, EachPasses, IsAbbreviation, IsArgument, IsMore}
use Rattle.types_build.proofs.representation.RepresentationWayLemmas.{known_passes, comes_to_argument}

keys_all : {X : Type 0} (P : ℕ → Type 0) (es : List (ℕ × X)) (k : ℕ) (v : X) → All P (keys_of es) → P k
    → All P (keys_of (insert_entry nat_eq es k v))
keys_all P [] k v all here = All-cons P k [] here all
keys_all P (e ∷ es) k v all here = by (nat_eq k e.0) (keys_all P es k v (All-tail P e.0 (keys_of es) all) here) where
  by : (b : Bool) → All P (keys_of (insert_entry nat_eq es k v)) → All P (keys_of (cond b ((e.0, v) ∷ es) (e ∷ insert_entry nat_eq es k v)))
  by true rest = all
  by false rest = All-cons P e.0 (keys_of (insert_entry nat_eq es k v)) (All-head P e.0 (keys_of es) all) rest

keys_many : {X : Type 0} (es : List (ℕ × X)) → length (keys_of es) ≡ length es
keys_many [] = refl
keys_many (e ∷ es) = ap suc (keys_many es)

pub some_at : {X : Type 0} (P : X → Type 0) (o : Option X) (x : X) → o ≡ Some x → IfSome o P → P x
some_at P None x is holds = absurd (none-some x is)
some_at P (Some y) x is holds = subst P (same_Some y x is) holds

pub some_less : (n i : ℕ) (xs : List ℕ) (o : Option ℕ) → All (λ x. x < n) xs → o ≡ slice_get xs i → IfSome o (λ x. x < n)
some_less n i xs None all is = tt
some_less n i xs (Some x) all is =
    subst (λ y. y < n) (get_or_from_slice_get xs i x 0 (sym is)) (all i 0 (slice_get_within xs i x (sym is)))

pub some_below : (n m : ℕ) (o : Option ℕ) → n < m → IfSome o (λ x. x ≡ n) → IfSome o (λ x. x < m)
some_below n m None below is = tt
some_below n m (Some x) below is = subst (λ y. y < m) (sym is) below

pub more_at : (before after : ℕ) (o : Option ℕ) (x : ℕ) → o ≡ Some x → IsMore before after o → before < after
more_at before after None x is more = absurd (none-some x is)
more_at before after (Some y) x is more = more

pub abbreviation_found :
    (decls : List Decl) (t : Ty) (name : List ℕ) (number : ℕ) (d : Decl) (body : Ty)
    → IsFirstPosition (names_of_decls decls) (length decls) name number → name_of t ≡ Some name
    → slice_get decls number ≡ Some d → d.body ≡ bodies.Abbreviation body → IsAbbreviation decls t number
abbreviation_found decls t name number d body location named' there is = record {
  name = name;
  decl = d;
  named = named';
  found = sym (found_at decls name number location d (sym (get_or_from_slice_get decls number d d there)));
  there = there;
  abbreviates = ap (λ b. is_some (abbreviated b)) is;
}

module _ (decls : List Decl) (group : Option ℕ) where
  pub part_passes :
      {S : Type 0} (types : List Ty) (t : Ty) (j i : ℕ) (known : IndexMap ℕ (Option ℕ) S) → IsAbbreviation decls t j
      → get nat_eq known j ≡ Some (Some i) → AreKnown decls group known → (part : Option ℕ)
      → option_map (type_at types) part ≡ slice_get (parts t) i
      → IfSome part (λ n. EachPasses decls group t (type_at types n))
  part_passes types t j i known here is are None there = tt
  part_passes types t j i known here is are (Some n) there =
      known_passes decls group t (type_at types n) here.decl here.name i here.named here.found (sym there)
      (are.arguments j i here.decl is here.there)

  pub argument_found :
      (k i : ℕ) (d e : Decl) (body end : Ty) → slice_get decls k ≡ Some d → slice_get decls k ≡ Some e
      → d.body ≡ bodies.Abbreviation body → EachLeads decls group body end → IsArgument e group end i
      → (i' : ℕ) (decl : Decl) → Some i ≡ Some i' → slice_get decls k ≡ Some decl → ComesToArgument decls group decl i'
  argument_found k i d e body end at at' is leads argument i' decl same there =
      let one : d ≡ decl = same_Some d decl (sym at ∙ there) in
      let other : e ≡ decl = same_Some e decl (sym at' ∙ there) in
      subst (ComesToArgument decls group decl) (same_Some i i' same)
      (comes_to_argument decls group decl body end i
      (ap (λ (x : Decl). abbreviated x.body) (sym one) ∙ ap abbreviated is) leads
      (subst (λ (x : Decl). IsArgument x group end i) other argument))

module _ (decls : List Decl) (group : Option ℕ) {S : Type 0} where
  -- The map of known abbreviations has at most as many entries as there are declarations.
  pub known_few : (m : IndexMap ℕ (Option ℕ) S) → AreKnown decls group m → index_map_len m ≤ length decls
  known_few m known =
      subst (λ n. n ≤ length decls) (keys_many m.entries)
      (length-le_from_distinct_below (keys m) (length decls) known.unique
      (λ q among. All-contains (λ j. j < length decls) (keys m) q known.below
      (Contains-from_any eqb-true q (keys m) among)))

  pub known_added :
      (m n : IndexMap ℕ (Option ℕ) S) (k : ℕ) (value : Option ℕ) → AreKnown decls group m → k < length decls
      → IsUnique nat_eq n → n.entries ≡ insert_entry nat_eq m.entries k value → Updates nat_eq m n k (Some value)
      → ((i : ℕ) (decl : Decl) → value ≡ Some i → slice_get decls k ≡ Some decl → ComesToArgument decls group decl i)
      → AreKnown decls group n
  known_added m n k value known below unique entries updates says = record {
    unique = unique;
    below = subst (λ (es : List (ℕ × Option ℕ)). All (λ j. j < length decls) (keys_of es)) (sym entries)
        (keys_all (λ j. j < length decls) m.entries k value known.below below);
    arguments = λ j i decl is there. by j i decl there (nat_eq k j) refl (sym (updates.0 j) ∙ is);
  } where
    by : (j i : ℕ) (decl : Decl) → slice_get decls j ≡ Some decl → (b : Bool) → nat_eq k j ≡ b
        → cond b (Some value) (get nat_eq m j) ≡ Some (Some i) → ComesToArgument decls group decl i
    by j i decl there true same is =
        says i decl (same_Some value (Some i) is) (subst (λ x. slice_get decls x ≡ Some decl) (sym (eqb-true k j same)) there)
    by j i decl there false same is = known.arguments j i decl is there
