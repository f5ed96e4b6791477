-- If names are lexemes, then the names in the text of a type can be read back.
use Rattle.std.proofs.Common.{◌≡◌, ◌≢◌, ℕ, ℤ, zero, suc, ◌+◌, ◌<◌, ◌≤◌, inl, inr, Bool, true, false, cond, List, [], ◌∷◌, length, Option, Some, None, refl, sym, ap, subst, ◌∙◌, arith}
use Rattle.std.specs.Prelude.{slice_get, find, map, codes, option_and_then, Contains}
use Rattle.base_data.proofs.model.Options.{Contains-first}
use Rattle.std.specs.List.{AllByRecursion}
use Rattle.std.specs.Str.{bytes_eq}
use Rattle.std.specs.Char.{is_ascii_uppercase}
use Rattle.std.proofs.lemmas.Bool.{false≢true, true≢false, and_parts, and_from}
use Rattle.std.proofs.lemmas.Slice.Eq.{bytes_eq-Decides}
use Rattle.std.proofs.lemmas.List.{length-map}
use Rattle.std.proofs.lemmas.Option.{same_Some}
use Rattle.types_spec.specs.types.Head.{head}
use Rattle.types_spec.specs.types.Reached.{listed_if, parts_of, is_any_head}
use Rattle.types_lex.specs.declared.lexeme.Keyword.{Keyword}
use Rattle.types_lex.specs.declared.lexeme.Keyword.TheVariants as keywords
use Rattle.types_lex.specs.Lexeme.{Lower, Upper, Tag, IsForm, keyword_text}
use Rattle.types_spec.specs.tag_hash.TagHash.{tag_hash}
use Rattle.types_spec.specs.declared.types.decl.Predeclared.{Predeclared}
use Rattle.types_spec.specs.declared.types.decl.Predeclared.TheVariants as bases
use Rattle.types_spec.specs.declared.types.decl.Field.{Field}
use Rattle.types_spec.specs.declared.types.decl.Arguments.{Arguments}
use Rattle.types_spec.specs.declared.types.decl.Arguments.TheVariants as arguments
use Rattle.types_spec.specs.declared.types.decl.Constructor.{Constructor}
use Rattle.types_spec.specs.declared.types.decl.Body.{Body}
use Rattle.types_spec.specs.declared.types.decl.Body.TheVariants as bodies
use Rattle.types_spec.specs.declared.types.decl.Decl.{Decl}
use Rattle.types_spec.specs.declared.types.head.TagOf.{TagOf}
use Rattle.types_spec.specs.declared.types.head.HeadOf.{HeadOf}
use Rattle.types_spec.specs.declared.types.head.HeadOf.TheVariants as heads
use Rattle.types_spec.specs.declared.types.names.ConstrNames.{ConstrNames}
use Rattle.types_spec.specs.declared.types.names.TagName.{TagName}
use Rattle.types_spec.specs.declared.types.names.Names.{Names}
use Rattle.types_spec.specs.types.Ty.{Ty}
use Rattle.types_spec.specs.types.Declarations.{declaration_of, instance_of}
use Rattle.types_spec.specs.types.Predeclared.{Sum, PredeclaredRow, rows, sum_of, sum_in, sum_at, name_at, takes, shape_if, sum_shape}
use Rattle.types_spec.specs.types.Fitting.{tag_with}
use Rattle.types_spec.specs.types.Names.{no_names, field_names, constant_name, carrying_names, constr_names, tag_name, body_names, declared_body_names, sum_names, predeclared_type_names, head_names}
use Rattle.types_spec.specs.types.Shape.{is_constant, is_flat, array_of, predeclared_shape, record_shape, body_shape, datatype_shape, tag_shape, head_shape}
use Rattle.text_print.specs.leaves.Frames.{is_hash}
use Rattle.text_literal.specs.literal_grammar.Literal.{upper_head, cons_head, empty_head, ref_head}
use Rattle.text_literal.specs.parser.Starts.{is_constr, same_names}
use Rattle.text_roundtrip.specs.lexed.Lexed.{BeginsWithoutStar, Ends}
use Rattle.text_roundtrip.proofs.lexed.LexedLemmas.{lexed_upper, lexed_lower, lexed_empty, lexed_double_colon, begins_with}
use Rattle.text_roundtrip.specs.literal_texts.Readable.{IsHead, IsConstantName, IsConstructorName, AreSumNames, AreFieldNames, IsTagName, IsReadable}
use Rattle.text_roundtrip.proofs.literal_texts.LeafReadLemmas.{same_number}
use Rattle.text_roundtrip.proofs.literal_texts.ObjectReadLemmas.{same_names_refl}
use Rattle.text_roundtrip.specs.rebuild.Spoken.{IsSpoken, IsSpokenField, AreSpokenArguments, IsSpokenConstructor, AreOnce, IsSpokenBody, AreSpoken}
use Rattle.text_roundtrip.proofs.rebuild.RebuildOnceLemmas.{all_at, found_at, some_found, position_at, kept_once, kept_all}

-- ---- heads

upper_begins : (name : List ℕ) → IsForm (Upper name) → BeginsWithoutStar name
upper_begins [] is = absurd is
upper_begins (b ∷ bs) is = record { first = b; others = bs; is = refl; no_star = λ e. absurd (false≢true (ap is_ascii_uppercase (sym e) ∙ is.0)) }

upper_is_head : (name : List ℕ) → IsForm (Upper name) → IsHead name
upper_is_head name is = record { head = upper_head name; lexed = lexed_upper name is; named = refl; begins = upper_begins name is }

-- ---- constructors

same_bytes : (x y : List ℕ) → x ≡ y → bytes_eq x y ≡ true
same_bytes x y e = (bytes_eq-Decides x y).1 e

constant_found : (names : Names) → AreOnce (λ (name : List ℕ). name) names.constants → (i : ℕ) (name : List ℕ) → slice_get names.constants i ≡ Some name → IsHead name → IsConstantName names i name
constant_found names once i name at head = record {
  is_head = head;
  one = position_at (λ (name : List ℕ). name) (bytes_eq name) name (same_bytes name name refl) (λ other e. sym ((bytes_eq-Decides name other).0 e)) names.constants i once at;
}

constructor_found : (names : Names) → AreOnce (λ (c : ConstrNames). c.name) names.constructors → (tag : ℕ) (c : ConstrNames) → slice_get names.constructors tag ≡ Some c → IsHead c.name → AreFieldNames c.fields → IsConstructorName names tag c
constructor_found names once tag c at head fields = record {
  is_head = head;
  fields = fields;
  one = position_at (λ (c : ConstrNames). c.name) (is_constr c.name c.fields) c (and_from _ _ (same_bytes c.name c.name refl) (same_names_refl c.fields))
      (λ other e. (bytes_eq-Decides other.name c.name).0 (and_parts (bytes_eq other.name c.name) (same_names other.fields c.fields) e).0) names.constructors tag once at;
}

-- If an option that is `name` or nothing contains `other`, then `name` is `other`.
some_if : (b : Bool) (name other : List ℕ) → (cond b (Some name) None) ≡ Some other → name ≡ other
some_if true name other e = cc
some_if false name other e = absurd cc

constant_is : (c : Constructor) (name : List ℕ) → constant_name c ≡ Some name → name ≡ c.name
constant_is c name e = sym (some_if (is_constant c.arguments) c.name name e)

carried_is : (name : List ℕ) (given : Arguments) (c : ConstrNames) → carrying_names name given ≡ Some c → c.name ≡ name
carried_is name arguments.Constant c e = absurd cc
carried_is name (arguments.Listed types) c e = ap (λ (c : ConstrNames). c.name) (sym (same_Some (record { name = name; fields = [] }) c e))
carried_is name (arguments.Inline fields) c e = ap (λ (c : ConstrNames). c.name) (sym (same_Some (record { name = name; fields = field_names fields }) c e))

are_field_names : (fields : List Field) → AllByRecursion IsSpokenField fields → AreFieldNames (field_names fields)
are_field_names [] all = tt
are_field_names (f ∷ fs) all = (all.0.0, are_field_names fs all.1)

carried_fields : (name : List ℕ) (given : Arguments) (c : ConstrNames) → carrying_names name given ≡ Some c → AreSpokenArguments given → AreFieldNames c.fields
carried_fields name arguments.Constant c e all = absurd cc
carried_fields name (arguments.Listed types) c e all = subst (λ (c : ConstrNames). AreFieldNames c.fields) (same_Some (record { name = name; fields = [] }) c e) tt
carried_fields name (arguments.Inline fields) c e all = subst (λ (c : ConstrNames). AreFieldNames c.fields) (same_Some (record { name = name; fields = field_names fields }) c e) (are_field_names fields all)

variant_names : (all : List Constructor) → AreOnce (λ (c : Constructor). c.name) all → AllByRecursion IsSpokenConstructor all → AreSumNames (body_names (bodies.Variant all))
variant_names all once spoken =
    let names = body_names (bodies.Variant all) in
    let constants_once : AreOnce (λ (name : List ℕ). name) names.constants = kept_once (λ (c : Constructor). c.name) (λ (name : List ℕ). name) constant_name constant_is all once in
    let constructors_once : AreOnce (λ (c : ConstrNames). c.name) names.constructors = kept_once (λ (c : Constructor). c.name) (λ (c : ConstrNames). c.name) constr_names (λ c n e. carried_is c.name c.arguments n e) all once in
    let uppers : AllByRecursion (λ name. IsForm (Upper name)) names.constants =
    kept_all (λ (c : Constructor). c.name) (λ (name : List ℕ). name) constant_name constant_is IsSpokenConstructor (λ name. IsForm (Upper name)) (λ c name e s. subst (λ n. IsForm (Upper n)) (sym (constant_is c name e)) s.0) all spoken in
    let constrs : AllByRecursion (λ (c : ConstrNames). IsForm (Upper c.name) × AreFieldNames c.fields) names.constructors =
    kept_all (λ (c : Constructor). c.name) (λ (c : ConstrNames). c.name) constr_names (λ c n e. carried_is c.name c.arguments n e) IsSpokenConstructor (λ (c : ConstrNames). IsForm (Upper c.name) × AreFieldNames c.fields)
    (λ c n e s. (subst (λ n. IsForm (Upper n)) (sym (carried_is c.name c.arguments n e)) s.0, carried_fields c.name c.arguments n e s.1)) all spoken in
    record {
      constant = λ i name at. constant_found names constants_once i name at (upper_is_head name (all_at (λ name. IsForm (Upper name)) names.constants i name uppers at));
      constructor = λ tag c at. let one = all_at (λ (c : ConstrNames). IsForm (Upper c.name) × AreFieldNames c.fields) names.constructors tag c constrs at in
          constructor_found names constructors_once tag c at (upper_is_head c.name one.0) one.1;
    }

-- ---- predeclared names

none_word : IsForm (Upper (codes "None"))
none_word = (refl, refl)

some_word : IsForm (Upper (codes "Some"))
some_word = (refl, refl)

ref_word : IsForm (Lower (codes "ref"))
ref_word = ((refl, refl), free)
  where
    free : (k : Keyword) → codes "ref" ≢ keyword_text k
    free keywords.Type e = true≢false (ap (λ n. bytes_eq n (codes "ref")) e)
    free keywords.And e = true≢false (ap (λ n. bytes_eq n (codes "ref")) e)
    free keywords.Of e = true≢false (ap (λ n. bytes_eq n (codes "ref")) e)
    free keywords.Mutable e = true≢false (ap (λ n. bytes_eq n (codes "ref")) e)

-- If there are at most one constant and one constructor, then each name has one meaning.
single_names : (names : Names) → AllByRecursion IsHead names.constants → AllByRecursion (λ (c : ConstrNames). IsHead c.name × AreFieldNames c.fields) names.constructors
    → AreOnce (λ (name : List ℕ). name) names.constants → AreOnce (λ (c : ConstrNames). c.name) names.constructors → AreSumNames names
single_names names constants constructors once other_once = record {
  constant = λ i name at. constant_found names once i name at (all_at IsHead names.constants i name constants at);
  constructor = λ tag c at. let one = all_at (λ (c : ConstrNames). IsHead c.name × AreFieldNames c.fields) names.constructors tag c constructors at in constructor_found names other_once tag c at one.0 one.1;
}

-- The names of the predeclared variant in row `k`.
abbrev names_in : ℕ → Names
names_in k = sum_names (sum_in (slice_get rows k))

list_names : AreSumNames (names_in 11)
list_names = single_names (names_in 11)
    (record { head = empty_head; lexed = lexed_empty Ends; named = refl; begins = begins_with 91 _ (λ e. absurd (omega arith)) }, tt)
    ((record { head = cons_head; lexed = lexed_double_colon Ends; named = refl; begins = begins_with 58 _ (λ e. absurd (omega arith)) }, tt), tt)
    (tt, tt) (tt, tt)

option_names : AreSumNames (names_in 12)
option_names = single_names (names_in 12) (upper_is_head (codes "None") none_word, tt) ((upper_is_head (codes "Some") some_word, tt), tt) (tt, tt) (tt, tt)

ref_names : AreSumNames (names_in 14)
ref_names = single_names (names_in 14) tt
    ((record { head = ref_head; lexed = lexed_lower (codes "ref") ref_word; named = refl; begins = begins_with 114 _ (λ e. absurd (omega arith)) }, tt), tt) tt (tt, tt)

abbrev IsReadableSum : Option Sum → Type 0
IsReadableSum None = Unit {0}
IsReadableSum (Some known) = AreSumNames (sum_names (Some known))

abbrev IsReadableRow : PredeclaredRow → Type 0
IsReadableRow row = IsReadableSum (sum_of row.meaning)

-- The names in each row can be read back. The proof has one entry for each row, so a new row needs
-- a new entry.
rows_readable : AllByRecursion IsReadableRow rows
rows_readable =
    (tt, (tt, (tt, (tt, (tt, (tt, (tt, (tt, (tt, (tt, (tt, (list_names, (option_names, (tt, (ref_names, (tt, tt))))))))))))))))

sums_readable : (k : ℕ) → IsReadableSum (sum_at k)
unfolding sum_at
sums_readable k = go (slice_get rows k) refl
  where
    go : (found : Option PredeclaredRow) → slice_get rows k ≡ found → IsReadableSum (sum_in (slice_get rows k))
    go None at = subst (λ (r : Option PredeclaredRow). IsReadableSum (sum_in r)) (sym at) tt
    go (Some row) at =
        subst (λ (r : Option PredeclaredRow). IsReadableSum (sum_in r)) (sym at) (all_at IsReadableRow rows k row rows_readable at)

shape_if_readable : (test : Bool) (known : Sum) → AreSumNames (sum_names (Some known)) → (name : List ℕ) (ts : List Ty)
    → IsReadable (shape_if test known name ts) (sum_names (Some known))
shape_if_readable false known is name ts = tt
shape_if_readable true known is name ts = is

sum_readable : (known : Option Sum) → IsReadableSum known → (name : List ℕ) (ts : List Ty)
    → IsReadable (sum_shape known name ts) (sum_names known)
sum_readable None is name ts = tt
sum_readable (Some known) is name ts = shape_if_readable (takes known.parameters ts) known is name ts

array_readable : (h : HeadOf Ty) (t : Ty) → is_any_head h ≡ false → IsReadable (array_of h t) no_names
array_readable (heads.Variable name) t other = tt
array_readable (heads.Predeclared b ts) t other = by_base b other where
  by_base : (base : Predeclared) → is_any_head (heads.Predeclared base ts) ≡ false → IsReadable (array_of (heads.Predeclared base ts) t) no_names
  by_base bases.Float other = tt
  by_base bases.Any other = absurd (true≢false other)
  by_base base other = tt
array_readable h t other = tt

-- If a predeclared type is not `_` and no part of the type is `_`, then the type's names can be
-- read back.
predeclared_readable : (decls : List Decl) (base : Predeclared) (ts : List Ty) → is_any_head (heads.Predeclared base ts) ≡ false
    → ((a : Ty) → Contains ts a → is_any_head (head decls a) ≡ false) → IsReadable (predeclared_shape decls base ts) (predeclared_type_names base)
predeclared_readable decls (bases.Sum k) ts other parts = sum_readable (sum_at k) (sums_readable k) (name_at k) ts
predeclared_readable decls bases.Array (t ∷ []) other parts = array_readable (head decls t) t (parts t (Contains-first t []))
predeclared_readable decls bases.Int [] other parts = tt
predeclared_readable decls bases.Char [] other parts = inr (inr refl)
predeclared_readable decls bases.Bool [] other parts = inr (inl refl)
predeclared_readable decls bases.Unit [] other parts = inl refl
predeclared_readable decls bases.Any [] other parts = absurd (true≢false other)
predeclared_readable decls base [] other parts = tt
predeclared_readable decls bases.Int (t ∷ []) other parts = tt
predeclared_readable decls base (t ∷ []) other parts = tt
predeclared_readable decls bases.Int (t ∷ u ∷ ts) other parts = tt
predeclared_readable decls base (t ∷ u ∷ ts) other parts = tt

-- ---- declared types

record_readable : (value : Ty → Ty) (fields : List Field) (flat : Bool) → 0 < length fields → AllByRecursion IsSpokenField fields → IsReadable (record_shape value fields flat) (body_names (bodies.Record fields))
record_readable value fields true some all = are_field_names fields all
record_readable value fields false some all = (are_field_names fields all, λ none. absurd (omega (arith, some, ap length none, length-map fields (λ (field : Field). field.name))))

body_readable : (decls : List Decl) (value : Ty → Ty) (body : Body) → IsSpokenBody body → IsReadable (body_shape decls value body) (body_names body)
body_readable decls value (bodies.Abbreviation t) spoken = tt
body_readable decls value (bodies.Record fields) spoken = record_readable value fields (is_flat decls fields) spoken.0 spoken.1
body_readable decls value (bodies.Variant all) spoken = variant_names all spoken.0 spoken.1

datatype_readable : (decls : List Decl) (found : Option Decl) (ts : List Ty) → ((d : Decl) → found ≡ Some d → IsSpokenBody d.body) → IsReadable (datatype_shape decls found ts) (declared_body_names found)
datatype_readable decls None ts spoken = tt
datatype_readable decls (Some d) ts spoken = body_readable decls (instance_of d ts) d.body (spoken d refl)

pub declaration_spoken : (decls : List Decl) → AreSpoken decls → (name : List ℕ) (d : Decl) → declaration_of decls name ≡ Some d → IsSpokenBody d.body
declaration_spoken decls spoken name d e = let f = found_at (λ (d : Decl). bytes_eq d.name name) decls d e in all_at (λ (d : Decl). IsSpokenBody d.body) decls f.0 d spoken f.1

-- ---- tags

tag_at : (tags : List (TagOf Ty)) (i : ℕ) (name : TagName) → slice_get (map tag_name tags) i ≡ Some name → (tag : TagOf Ty) × (slice_get tags i ≡ Some tag) × (tag_name tag ≡ name)
tag_at [] i name e = absurd cc
tag_at (t ∷ ts) zero name e = (t, refl, same_Some (tag_name t) name e)
tag_at (t ∷ ts) (suc i) name e = tag_at ts i name e

-- The tag is a lexeme, and the tag's argument has names that are lexemes.
abbrev pub IsSpokenTag : TagOf Ty → Type 0
IsSpokenTag tag = IsForm (Tag tag.name) × AllByRecursion (IsSpoken 0) (listed_if tag.argument)

tags_readable : (tags : List (TagOf Ty)) → AllByRecursion IsSpokenTag tags
    → (z : ℤ) (name : TagName) → find (is_hash z) (map tag_name tags) ≡ Some name → IsTagName (map tag_shape tags) (record no_names { tags = map tag_name tags }) z name
tags_readable tags forms z name e =
    let f = found_at (is_hash z) (map tag_name tags) name e in
    let here = tag_at tags f.0 name f.1 in
    let hash : name.hash ≡ z = same_number name.hash z f.2 in
    let own : tag_hash name.name ≡ name.hash = ap (λ (n : TagName). tag_hash n.name) (sym here.2) ∙ ap (λ (n : TagName). n.hash) here.2 in
    let by_name = some_found (λ (tag : TagName). bytes_eq tag.name name.name) (map tag_name tags) f.0 name f.1 (same_bytes name.name name.name refl) in
    let g = found_at (λ (tag : TagName). bytes_eq tag.name name.name) (map tag_name tags) by_name.0 by_name.1 in
    let there = tag_at tags g.0 by_name.0 g.1 in
    let same_name : by_name.0.name ≡ name.name = (bytes_eq-Decides by_name.0.name name.name).0 g.2 in
    let same_hash : by_name.0.hash ≡ z = ap (λ (n : TagName). n.hash) (sym there.2) ∙ ap (λ (n : TagName). tag_hash n.name) there.2 ∙ ap tag_hash same_name ∙ own ∙ hash in
    record {
      lexed = subst (λ n. IsForm (Tag n)) (ap (λ (n : TagName). n.name) here.2) (all_at IsSpokenTag tags f.0 here.0 forms here.1).0;
      one =
          ap (λ o. option_and_then (λ (tag : TagName). tag_with (map tag_shape tags) tag.hash) o) by_name.1
          ∙ ap (tag_with (map tag_shape tags)) same_hash;
    }

-- ---- heads of types

-- The names of a head are lexemes, if `k` more parts follow the head.
abbrev pub IsSpokenHead : ℕ → HeadOf Ty → Type 0
IsSpokenHead k (heads.Variable x) = Unit {0}
IsSpokenHead k (heads.Predeclared base ts) = AllByRecursion (IsSpoken 0) ts
IsSpokenHead k (heads.Datatype name ts) = AllByRecursion (IsSpoken 0) ts
IsSpokenHead k (heads.Tuple ts) = (2 ≤ length ts + k) × AllByRecursion (IsSpoken 0) ts
IsSpokenHead k (heads.Variants tags) = AllByRecursion IsSpokenTag tags
IsSpokenHead k heads.Absent = Unit {0}

-- If a head is not `_` and no part of the head is `_`, then the head's names can be read back.
pub head_readable : (decls : List Decl) → AreSpoken decls → (h : HeadOf Ty) → IsSpokenHead 0 h → is_any_head h ≡ false
    → ((a : Ty) → Contains (parts_of h) a → is_any_head (head decls a) ≡ false) → IsReadable (head_shape decls h) (head_names decls h)
head_readable decls spoken (heads.Variable x) is other parts = tt
head_readable decls spoken (heads.Predeclared base ts) is other parts = predeclared_readable decls base ts other parts
head_readable decls spoken (heads.Datatype name ts) is other parts = datatype_readable decls (declaration_of decls name) ts (λ d e. declaration_spoken decls spoken name d e)
head_readable decls spoken (heads.Tuple ts) is other parts = (tt, λ none. let two = is.0 in omega arith)
head_readable decls spoken (heads.Variants tags) is other parts = tags_readable tags is
head_readable decls spoken heads.Absent is other parts = tt
