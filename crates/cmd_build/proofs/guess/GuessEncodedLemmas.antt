-- If the check of a table finds the names readable, then the names are readable at the types of the
-- table.
use Rattle.std.proofs.Common.{◌≡◌, ℕ, ◌+◌, ◌<◌, ◌≤◌, ⊎_elim, Bool, true, false, List, [], ◌∷◌, length, Some, refl, sym, ap, subst, ◌∙◌, arith, get_or, lt-ltb}
use Rattle.std.specs.Prelude.{slice_get, find, codes, Contains, unwrap_or}
use Rattle.std.specs.List.{position, position_or_len}
use Rattle.std.specs.Str.{bytes_eq}
use Rattle.std.specs.Char.{is_ascii_uppercase}
use Rattle.std.proofs.lemmas.Bool.{false≢true, and_from, cases_lt}
use Rattle.std.proofs.lemmas.Slice.Eq.{bytes_eq-Decides}
use Rattle.std.proofs.lemmas.List.{length-map}
use Rattle.std.proofs.lemmas.List.Quantifiers.{position-Some}
use Rattle.std.proofs.lemmas.List.Sums.{position_or_len_is}
use Rattle.std.proofs.lemmas.Option.{none-some, slice_get_within, get_or_from_slice_get}
use Rattle.base_data.proofs.model.Lists.{Contains-position}
use Rattle.types_spec.specs.declared.types.decl.Decl.{Decl}
use Rattle.types_spec.specs.declared.types.names.ConstrNames.{ConstrNames}
use Rattle.types_spec.specs.declared.types.names.TagName.{TagName}
use Rattle.types_spec.specs.declared.types.names.Names.{Names}
use Rattle.types_spec.specs.declared.types.shape.ShapeOf.{ShapeOf}
use Rattle.types_spec.specs.declared.types.shape.ShapeOf.TheVariants as shapes
use Rattle.types_spec.specs.types.Names.{names_of, no_names}
use Rattle.types_spec.specs.types.Shape.{shape}
use Rattle.types_spec.specs.types.Table.{with_parts, node_or_none}
use Rattle.types_spec.specs.types.Ty.{Ty}
use Rattle.text_print.specs.leaves.Frames.{is_hash}
use Rattle.types_lex.specs.Lexeme.{Upper, IsForm}
use Rattle.text_roundtrip.specs.lexed.Lexed.{BeginsWithoutStar, Ends}
use Rattle.text_roundtrip.proofs.lexed.LexedLemmas.{lexed_upper, lexed_empty, lexed_double_colon, begins_with}
use Rattle.text_literal.specs.parser.Starts.{is_constr}
use Rattle.text_literal.specs.literal_grammar.Literal.{upper_head, cons_head, empty_head}
use Rattle.text_roundtrip.specs.literal_texts.Readable.{IsHead, AreFieldNames, AreSumNames, IsConstructorName, IsReadable}
use Rattle.text_roundtrip.proofs.literal_texts.ObjectReadLemmas.{same_names_refl}
use Rattle.text_print.specs.show.TableShapes.{shape_in, names_in}
use Rattle.text_print.proofs.show.ShowTableLemmas.{shape_is, names_are}
use Rattle.types_table.specs.declared.type_table.tabled.Tabled.{Tabled}
use Rattle.types_table.specs.type_table.Made.{types_of, IsTypeTable}
use Rattle.cmd_build.specs.guess.ReadableNames.{has_name, AreConstantNames, AreConstructorNames, IsEncoded, EncodedAreReadable}

-- ---- heads

upper_begins : (name : List ℕ) → IsForm (Upper name) → BeginsWithoutStar name
upper_begins [] is = absurd is
upper_begins (b ∷ bs) is = record { first = b; others = bs; is = refl; no_star = λ e. absurd (false≢true (ap is_ascii_uppercase (sym e) ∙ is.0)) }

pub upper_is_head : (name : List ℕ) → IsForm (Upper name) → IsHead name
upper_is_head name is = record { head = upper_head name; lexed = lexed_upper name is; named = refl; begins = upper_begins name is }

cons_is_head : IsHead (codes "::")
cons_is_head = record { head = cons_head; lexed = lexed_double_colon Ends; named = refl; begins = begins_with 58 _ (λ e. absurd (omega arith)) }

empty_is_head : IsHead (codes "[]")
empty_is_head = record { head = empty_head; lexed = lexed_empty Ends; named = refl; begins = begins_with 91 _ (λ e. absurd (omega arith)) }

pub cons_head_by : (name : List ℕ) → bytes_eq name (codes "::") ≡ true → IsHead name
cons_head_by name e = subst IsHead (sym ((bytes_eq-Decides name (codes "::")).0 e)) cons_is_head

pub empty_head_by : (name : List ℕ) → bytes_eq name (codes "[]") ≡ true → IsHead name
empty_head_by name e = subst IsHead (sym ((bytes_eq-Decides name (codes "[]")).0 e)) empty_is_head

-- ---- one more name

pub more_known : {X : Type 0} (P : ℕ → X → Type 0) (xs : List X) (i : ℕ) → ((j : ℕ) (x : X) → j < i → slice_get xs j ≡ Some x → P j x)
    → ((x : X) → slice_get xs i ≡ Some x → P i x) → (j : ℕ) (x : X) → j < i + 1 → slice_get xs j ≡ Some x → P j x
more_known P xs i known this j x below at =
    ⊎_elim (λ less. known j x less at) (λ rest. let same : i ≡ j = omega (arith, below, rest) in subst (λ k. P k x) same (this x (subst (λ k. slice_get xs k ≡ Some x) (sym same) at))) (cases_lt j i)

pub all_known : {X : Type 0} (P : ℕ → X → Type 0) (xs : List X) (i : ℕ) → length xs ≤ i → ((j : ℕ) (x : X) → j < i → slice_get xs j ≡ Some x → P j x)
    → (j : ℕ) (x : X) → slice_get xs j ≡ Some x → P j x
all_known P xs i all known j x at = known j x (omega (arith, all, slice_get_within xs j x at)) at

pub sum_names : (names : Names) → AreConstantNames names → AreConstructorNames names → AreSumNames names
sum_names names constants constructors = record { constant = constants; constructor = constructors }

pub encoded_there : (table : Tabled) (i : ℕ) (s : ShapeOf ℕ) (names : Names) → slice_get table.nodes i ≡ Some s → slice_get table.names i ≡ Some names
    → IsEncoded s names → IsEncoded (shape_in table i) (names_in table i)
encoded_there table i s names e f h =
    subst (λ x. IsEncoded x (names_in table i)) (sym (ap node_or_none e))
    (subst (λ (n : Names). IsEncoded s n) (sym (ap (λ o. unwrap_or o no_names) f)) h)

pub encoded_more : (table : Tabled) (i : ℕ) → ((j : ℕ) → j < i → IsEncoded (shape_in table j) (names_in table j)) → IsEncoded (shape_in table i) (names_in table i)
    → (j : ℕ) → j < i + 1 → IsEncoded (shape_in table j) (names_in table j)
encoded_more table i known this j below =
    ⊎_elim (known j) (λ rest. let same : i ≡ j = omega (arith, below, rest) in subst (λ k. IsEncoded (shape_in table k) (names_in table k)) same this) (cases_lt j i)

-- ---- a constructor is the first one with its name and fields

-- If the first element that passes a test passes a stronger test, then the element is the first
-- that passes the stronger test.
position_too : {X : Type 0} (p q : X → Bool) (xs : List X) (i : ℕ) (d : X) → ((x : X) → p x ≡ false → q x ≡ false) → position p xs ≡ Some i → q (get_or xs i d) ≡ true → position q xs ≡ Some i
position_too p q xs i d weaker first passes =
    let f = position-Some p xs i d first in
    let l : position_or_len q xs ≡ i = position_or_len_is q xs i d (omega (arith, f.0)) (λ k less. weaker (get_or xs k d) (f.2 k less)) (λ _. passes) in
    rw (l, lt-ltb i (length xs) f.0) refl

no_other_fields : (name : List ℕ) (fields : List (List ℕ)) (c : ConstrNames) → has_name name c ≡ false → is_constr name fields c ≡ false
no_other_fields name fields c e = rw e refl

pub constructor_found : (names : Names) (tag : ℕ) (c : ConstrNames) → slice_get names.constructors tag ≡ Some c → IsHead c.name → AreFieldNames c.fields
    → position (has_name c.name) names.constructors ≡ Some tag → IsConstructorName names tag c
constructor_found names tag c at head fields first = record {
  is_head = head;
  fields = fields;
  one = position_too (has_name c.name) (is_constr c.name c.fields) names.constructors tag c (no_other_fields c.name c.fields) first
      (subst (λ (x : ConstrNames). is_constr c.name c.fields x ≡ true) (sym (get_or_from_slice_get names.constructors tag c c at))
      (and_from _ _ ((bytes_eq-Decides c.name c.name).1 refl) (same_names_refl c.fields)));
}

-- ---- types in place of their numbers

kept : {T U : Type 0} (f : T → U) (s : ShapeOf T) (names : Names) → IsEncoded s names → IsEncoded (with_parts f s) names
kept f shapes.AnyInt names h = h
kept f (shapes.Below k) names h = h
kept f (shapes.Bytes mutable) names h = h
kept f shapes.Double names h = h
kept f shapes.Int32 names h = h
kept f shapes.Int64 names h = h
kept f shapes.Native names h = h
kept f (shapes.Sum constants blocks) names h = h
kept f (shapes.Product mutable ts) names h = (h.0, λ none. subst (λ n. 2 ≤ n) (sym (length-map ts f)) (h.1 none))
kept f (shapes.FlatFloats mutable n) names h = h
kept f (shapes.ArrayOf t) names h = h
kept f shapes.FloatArray names h = h
kept f (shapes.Poly tags) names h = h
kept f shapes.Variable names h = h
kept f shapes.ArrayOfVariable names h = h
kept f shapes.Anything names h = h
kept f (shapes.ArrayOfAnything t) names h = h

no_tag : (names : Names) (z : _) (tag : TagName) → names.tags ≡ [] → find (is_hash z) names.tags ≡ Some tag → ⊥
no_tag names z tag none found = none-some tag (subst (λ ts. find (is_hash z) ts ≡ Some tag) none found)

readable : (s : ShapeOf Ty) (names : Names) → IsEncoded (with_parts Some s) names → IsReadable s names
readable shapes.AnyInt names h = h
readable (shapes.Below k) names h = h
readable (shapes.Bytes mutable) names h = h
readable shapes.Double names h = h
readable shapes.Int32 names h = h
readable shapes.Int64 names h = h
readable shapes.Native names h = h
readable (shapes.Sum constants blocks) names h = h
readable (shapes.Product mutable ts) names h = (h.0, λ none. subst (λ n. 2 ≤ n) (length-map ts Some) (h.1 none))
readable (shapes.FlatFloats mutable n) names h = h
readable (shapes.ArrayOf t) names h = h
readable shapes.FloatArray names h = h
readable (shapes.Poly tags) names h = λ z tag found. absurd (no_tag names z tag h found)
readable shapes.Variable names h = h
readable shapes.ArrayOfVariable names h = h
readable shapes.Anything names h = h
readable (shapes.ArrayOfAnything t) names h = h

module _ (decls : List Decl) (t : Ty) (table : Tabled) (is : IsTypeTable decls t table) where
  sizes : length table.nodes ≡ length (types_of table)
  sizes =
      sym (length-map table.nodes (with_parts (slice_get (types_of table))))
      ∙ ap length is.made.nodes
      ∙ length-map (types_of table) (λ (t : Ty). with_parts Some (shape decls t))

pub encoded_are_readable : EncodedAreReadable
encoded_are_readable decls t table is encoded u among =
    let found = Contains-position (types_of table) u among in
    let i = found.0 in
    let at = found.1 in
    let within : i < length table.nodes = omega (arith, slice_get_within (types_of table) i u at, sizes decls t table is) in
    readable (shape decls u) (names_of decls u)
    (subst (λ (names : Names). IsEncoded (with_parts Some (shape decls u)) names) (names_are decls t table is i u at)
    (subst (λ s. IsEncoded s (names_in table i)) (shape_is decls t table is i u at)
    (kept (slice_get (types_of table)) (shape_in table i) (names_in table i) (encoded i within))))
