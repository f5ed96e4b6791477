-- Each step outside of types appends the lexeme of the step to the lexemes read.
use Rattle.std.proofs.Common.{
  ℕ,
  ◌≡◌,
  ◌∙◌,
  Bool,
  true,
  false,
  List,
  [],
  ◌∷◌,
  ◌++◌,
  Option,
  refl,
  sym,
  ap,
  subst,
  append_assoc,
  append-nil,
}
use Rattle.std.specs.List.{flat_map}
use Rattle.types_lex.specs.declared.lexeme.LexemeKind.{LexemeKind}
use Rattle.types_lex.specs.declared.lexeme.LexemeKind.TheVariants as kinds
use Rattle.types_lex.specs.declared.lexeme.Keyword.TheVariants as keywords
use Rattle.types_lex.specs.declared.lexeme.Symbol.TheVariants as symbols
use Rattle.types_parse.specs.grammar.Grammar.{
  Name,
  Kinds,
  Texpr,
  App,
  mark,
  lower,
  texpr,
  app,
  Params,
  FieldTree,
  RecordTree,
  no_arguments,
  inline,
  listed,
  ConstrTree,
  record_body,
  type_body,
  DeclTree,
  GroupTree,
  word,
  mark_if,
  word_if,
  variable_kind,
  each_after,
  params_kinds,
  field_kinds,
  record_kinds,
  constr_kinds,
  decl_kinds,
  group_kinds,
  file_kinds,
}
use Rattle.types_parse.specs.grammar.Holes.{first_part, whole, alone}
use Rattle.types_parse.specs.grammar.File.{
  Before,
  nothing,
  so_far,
  head_of,
  rest_of,
  row_prefix,
  GroupHole,
  BodyHole,
  ConstrHole,
  RecordHole,
  body_record,
  inline_record,
  TypeOutside,
  body_type,
  field_type,
  PartOutside,
  listed_part,
  Outside,
  file_due,
  decl_due,
  param_due,
  param_read,
  params_read,
  name_read,
  body_due,
  constr_due,
  upper_read,
  of_read,
  field_due,
  mutable_read,
  field_named,
  record_read,
  FileState,
  group_with,
  decl_with,
  variant_with,
  constr_with,
  field_with,
  record_with,
  after_decl,
  after_constr,
  after_record,
  after_field,
  outer_type_step,
  outer_part_step,
  begin_decl,
  begin_file,
  take_param,
  after_param,
  take_decl_name,
  take_equals,
  begin_body,
  take_upper,
  after_upper,
  begin_arguments,
  close_record,
  begin_field,
  take_field_name,
  take_colon,
  outer_step,
  group_prefix,
  body_prefix,
  constr_prefix,
  record_prefix,
  fields_prefix,
  outer_type_prefix,
  outer_part_prefix,
  outer_prefix,
  outer_type_open,
  outer_open,
  declarations,
}
use Rattle.types_parse.proofs.grammar.HolesPrefixes.{AddsIf, begin_adds}

abbrev AddsTo : Kinds → ℕ → LexemeKind → Option FileState → Type 0
AddsTo before count kind next = AddsIf declarations before count kind next

-- ---- lists

flat_map_end : {X : Type 0} (f : X → Kinds) (xs : List X) (x : X) → flat_map f (xs ++ x ∷ [])
    ≡ flat_map f xs ++ f x
flat_map_end f [] x = append-nil (f x)
flat_map_end f (y ∷ xs) x = ap (λ k. f y ++ k) (flat_map_end f xs x)
    ∙ sym (append_assoc (f y) (flat_map f xs) (f x))

pub row_grows : {X : Type 0} (between : Kinds) (encoded : X → Kinds) (b : Before X) (x : X) →
    encoded (head_of b x) ++ each_after between encoded (rest_of b x) ≡ row_prefix between encoded b
    ++ encoded x
row_grows between encoded nothing x = append-nil (encoded x)
row_grows between encoded (so_far f m) x = ap (λ k. encoded f ++ k)
    (flat_map_end (λ y. between ++ encoded y) m x) ∙ regroup (encoded f)
    (each_after between encoded m) between (encoded x)
  where
    regroup : (f e s x : Kinds) → f ++ (e ++ (s ++ x)) ≡ f ++ e ++ s ++ x
    regroup f e s x = simp append_assoc

-- An equation between the lexemes of two lists also holds inside a longer list of lexemes.
row_within : (a h e r d m : Kinds) → h ++ e ≡ r ++ d → a ++ h ++ e ++ m ≡ a ++ r ++ d ++ m
row_within a h e r d m i = ap (λ k. k ++ m) (append_assoc a h e ∙ ap (λ k. a ++ k) i
    ∙ sym (append_assoc a r d))

pub group_grows : (g : GroupHole) (d : DeclTree) (ended : Bool) → file_kinds (group_with g d ended)
    ≡ group_prefix g ++ decl_kinds d ++ mark_if ended symbols.DoubleSemicolon
group_grows g d ended =
    flat_map_end group_kinds g.groups (record {
      first = head_of g.decls d;
      more = rest_of g.decls d;
      ended = ended;
    })
    ∙ ap (λ k. file_kinds g.groups ++ k)
    (row_within (word keywords.Type) (decl_kinds (head_of g.decls d))
    (each_after (word keywords.And) decl_kinds (rest_of g.decls d))
    (row_prefix (word keywords.And) decl_kinds g.decls) (decl_kinds d)
    (mark_if ended symbols.DoubleSemicolon) (row_grows (word keywords.And) decl_kinds g.decls
    d))
    ∙ regroup (file_kinds g.groups) (word keywords.Type) (row_prefix (word keywords.And) decl_kinds
    g.decls) (decl_kinds d) (mark_if ended symbols.DoubleSemicolon)
  where
    regroup : (f t r d m : Kinds) → f ++ (t ++ r ++ d ++ m) ≡ f ++ (t ++ r) ++ d ++ m
    regroup f t r d m = simp append_assoc

pub variant_grows : (c : ConstrHole) (k : ConstrTree) → group_prefix c.body.group
    ++ decl_kinds (variant_with c k) ≡ constr_prefix c ++ constr_kinds k
variant_grows c k =
    regroup (group_prefix c.body.group) (params_kinds c.body.params ++ lower c.body.name
    ++ mark symbols.Equals) (mark_if c.bar symbols.Bar) (constr_kinds (head_of c.before k))
    (each_after (mark symbols.Bar) constr_kinds (rest_of c.before k))
    ∙ ap (λ z. body_prefix c.body ++ (mark_if c.bar symbols.Bar ++ z))
    (row_grows (mark symbols.Bar) constr_kinds c.before k)
    ∙ again (body_prefix c.body) (mark_if c.bar symbols.Bar)
    (row_prefix (mark symbols.Bar) constr_kinds c.before) (constr_kinds k)
  where
    regroup : (g p b h e : Kinds) → g ++ (p ++ (b ++ h ++ e)) ≡ g ++ p ++ (b ++ (h ++ e))
    regroup g p b h e = simp append_assoc

    again : (f b r k : Kinds) → f ++ (b ++ (r ++ k)) ≡ f ++ (b ++ r) ++ k
    again f b r k = simp append_assoc

pub record_grows : (r : RecordHole) (b : Before FieldTree) (f : FieldTree) (closed : Bool) →
    record_prefix r ++ record_kinds (record_with b f closed) ≡ fields_prefix r b ++ field_kinds f
    ++ mark_if closed symbols.Semicolon ++ mark symbols.CloseBrace
record_grows r b f closed =
    ap (λ k. record_prefix r ++ (k ++ mark symbols.CloseBrace)) (row_within (mark symbols.OpenBrace)
    (field_kinds (head_of b f)) (each_after (mark symbols.Semicolon) field_kinds (rest_of b f))
    (row_prefix (mark symbols.Semicolon) field_kinds b) (field_kinds f)
    (mark_if closed symbols.Semicolon) (row_grows (mark symbols.Semicolon) field_kinds b f))
    ∙ regroup (record_prefix r) (mark symbols.OpenBrace)
    (row_prefix (mark symbols.Semicolon) field_kinds b) (field_kinds f)
    (mark_if closed symbols.Semicolon) (mark symbols.CloseBrace)
  where
    regroup : (p o r f m c : Kinds) → p ++ (o ++ r ++ f ++ m ++ c) ≡ p ++ (o ++ r) ++ f ++ m ++ c
    regroup p o r f m c = simp append_assoc

pub listed_grows : (c : ConstrHole) (x : Name) (b : Before App) (a : App) → constr_prefix c
    ++ constr_kinds (constr_with x (listed (head_of b a) (rest_of b a))) ≡ outer_part_prefix
    (listed_part c x b) ++ app a
listed_grows c x b a =
    ap (λ k. constr_prefix c ++ (kinds.Upper x ∷ k))
    (append_assoc (word keywords.Of) (app (head_of b a))
    (each_after (mark symbols.Star) app (rest_of b a)) ∙ ap (λ k. word keywords.Of ++ k)
    (row_grows (mark symbols.Star) app b a))
    ∙ regroup (constr_prefix c) (kinds.Upper x ∷ word keywords.Of)
    (row_prefix (mark symbols.Star) app b) (app a)
  where
    regroup : (p o r a : Kinds) → p ++ (o ++ (r ++ a)) ≡ p ++ (o ++ r) ++ a
    regroup p o r a = simp append_assoc

-- ---- steps

after_decl_adds : (g : GroupHole) (d : DeclTree) (kind : LexemeKind) →
    AddsTo (group_prefix g ++ decl_kinds d) 0 kind (after_decl g d kind)
after_decl_adds g d (kinds.Keyword keywords.And) =
    record {
      prefixes = ap (λ k. file_kinds g.groups
          ++ (word keywords.Type ++ (k ++ word keywords.And)))
          (row_grows (word keywords.And) decl_kinds
          g.decls d) ∙ regroup (file_kinds g.groups) (word keywords.Type)
          (row_prefix (word keywords.And) decl_kinds g.decls) (decl_kinds d) (word keywords.And);
      opens =
          refl;
    }
  where
    regroup : (f t r d m : Kinds) → f ++ (t ++ (r ++ d ++ m)) ≡ f ++ (t ++ r) ++ d ++ m
    regroup f t r d m = simp append_assoc
after_decl_adds g d (kinds.Keyword keywords.Type) =
    record {
      prefixes = ap (λ k. k ++ word keywords.Type) (group_grows g d false
          ∙ append-nil (group_prefix g ++ decl_kinds d));
      opens = refl;
    }
after_decl_adds g d (kinds.Symbol symbols.DoubleSemicolon) = record {
  prefixes = group_grows g d true;
  opens = refl;
}
after_decl_adds g d kind = tt

after_constr_adds : (c : ConstrHole) (k : ConstrTree) (kind : LexemeKind) →
    AddsTo (constr_prefix c ++ constr_kinds k) 0 kind (after_constr c k kind)
after_constr_adds c k (kinds.Symbol symbols.Bar) =
    record {
      prefixes = ap (λ z. body_prefix c.body
          ++ (mark_if c.bar symbols.Bar ++ (z ++ mark symbols.Bar)))
          (row_grows (mark symbols.Bar) constr_kinds c.before k) ∙ regroup (body_prefix c.body)
          (mark_if c.bar symbols.Bar) (row_prefix (mark symbols.Bar) constr_kinds c.before)
          (constr_kinds k) (mark symbols.Bar);
      opens = refl;
    }
  where
    regroup : (f b r k m : Kinds) → f ++ (b ++ (r ++ k ++ m)) ≡ f ++ (b ++ r) ++ k ++ m
    regroup f b r k m = simp append_assoc
after_constr_adds c k kind = subst (λ f. AddsTo f 0 kind (after_decl c.body.group (variant_with c k)
    kind)) (variant_grows c k) (after_decl_adds c.body.group (variant_with c k) kind)

after_record_adds : (r : RecordHole) (t : RecordTree) (kind : LexemeKind) →
    AddsTo (record_prefix r ++ record_kinds t) 0 kind (after_record r t kind)
after_record_adds (body_record b) t kind =
    subst (λ f. AddsTo f 0 kind (after_decl b.group (decl_with b (record_body t)) kind))
    (sym (append_assoc (group_prefix b.group) (params_kinds b.params ++ lower b.name
    ++ mark symbols.Equals) (record_kinds t)))
    (after_decl_adds b.group (decl_with b (record_body t)) kind)
after_record_adds (inline_record c x) t kind =
    subst (λ f. AddsTo f 0 kind (after_constr c (constr_with x (inline t)) kind))
    (sym (append_assoc (constr_prefix c) (kinds.Upper x ∷ word keywords.Of) (record_kinds t)))
    (after_constr_adds c (constr_with x (inline t)) kind)

after_field_adds : (r : RecordHole) (b : Before FieldTree) (f : FieldTree) (kind : LexemeKind) →
    AddsTo (fields_prefix r b ++ field_kinds f) 1 kind (after_field r b f kind)
after_field_adds r b f (kinds.Symbol symbols.Semicolon) =
    record {
      prefixes = ap (λ z. record_prefix r
          ++ (mark symbols.OpenBrace ++ (z ++ mark symbols.Semicolon)))
          (row_grows (mark symbols.Semicolon) field_kinds b f) ∙ regroup (record_prefix r)
          (mark symbols.OpenBrace) (row_prefix (mark symbols.Semicolon) field_kinds b)
          (field_kinds f)
          (mark symbols.Semicolon);
      opens = refl;
    }
  where
    regroup : (p o r f m : Kinds) → p ++ (o ++ (r ++ f ++ m)) ≡ p ++ (o ++ r) ++ f ++ m
    regroup p o r f m = simp append_assoc
after_field_adds r b f (kinds.Symbol symbols.CloseBrace) =
    record {
      prefixes = record_grows r b f false ∙ ap (λ z. z ++ mark symbols.CloseBrace)
          (append-nil (fields_prefix r b ++ field_kinds f));
      opens = refl;
    }
after_field_adds r b f kind = tt

pub type_adds : (w : TypeOutside) (t : Texpr) (kind : LexemeKind) →
    AddsTo (outer_type_prefix w ++ texpr t) (outer_type_open w) kind (outer_type_step w t kind)
type_adds (body_type b) t kind = subst
    (λ f. AddsTo f 0 kind (after_decl b.group (decl_with b (type_body t)) kind))
    (sym (append_assoc (group_prefix b.group) (params_kinds b.params ++ lower b.name
    ++ mark symbols.Equals) (texpr t))) (after_decl_adds b.group (decl_with b (type_body t)) kind)
type_adds (field_type r b mutable x) t kind =
    subst (λ f. AddsTo f 1 kind (after_field r b (field_with mutable x t) kind))
    (sym (append_assoc (fields_prefix r b) (word_if mutable keywords.Mutable ++ lower x
    ++ mark symbols.Colon) (texpr t))) (after_field_adds r b (field_with mutable x t) kind)

pub part_adds : (q : PartOutside) (a : App) (kind : LexemeKind) →
    AddsTo (outer_part_prefix q ++ app a) 0 kind (outer_part_step q a kind)
part_adds (listed_part c x b) a (kinds.Symbol symbols.Star) =
    record {
      prefixes = ap (λ z. constr_prefix c
          ++ (kinds.Upper x ∷ (word keywords.Of ++ (z ++ mark symbols.Star))))
          (row_grows (mark symbols.Star) app b a) ∙ regroup (constr_prefix c)
          (kinds.Upper x ∷ word keywords.Of) (row_prefix (mark symbols.Star) app b) (app a)
          (mark symbols.Star);
      opens = refl;
    }
  where
    regroup : (p o r a m : Kinds) → p ++ (o ++ (r ++ a ++ m)) ≡ p ++ (o ++ r) ++ a ++ m
    regroup p o r a m = simp append_assoc
part_adds (listed_part c x b) a kind =
    subst (λ f. AddsTo f 0 kind (after_constr c (constr_with x (listed (head_of b a) (rest_of b a)))
    kind)) (listed_grows c x b a) (after_constr_adds c
    (constr_with x (listed (head_of b a) (rest_of b a))) kind)

begin_decl_adds : (g : GroupHole) (kind : LexemeKind) → AddsTo (group_prefix g) 0 kind
    (begin_decl g kind)
begin_decl_adds g (kinds.Variable x) = record { prefixes = refl; opens = refl }
begin_decl_adds g (kinds.Symbol symbols.OpenParen) = record { prefixes = refl; opens = refl }
begin_decl_adds g (kinds.Lower x) = record { prefixes = refl; opens = refl }
begin_decl_adds g kind = tt

begin_file_adds : (gs : List GroupTree) (kind : LexemeKind) → AddsTo (file_kinds gs) 0 kind
    (begin_file gs kind)
begin_file_adds gs (kinds.Keyword keywords.Type) = record { prefixes = refl; opens = refl }
begin_file_adds gs kind = tt

take_param_adds : (g : GroupHole) (b : Before Name) (kind : LexemeKind) →
    AddsTo (outer_prefix (param_due g b)) 1 kind (take_param g b kind)
take_param_adds g b (kinds.Variable x) = record { prefixes = simp append_assoc; opens = refl }
take_param_adds g b kind = tt

after_param_adds : (g : GroupHole) (b : Before Name) (x : Name) (kind : LexemeKind) →
    AddsTo (outer_prefix (param_read g b x)) 1 kind (after_param g b x kind)
after_param_adds g b x (kinds.Symbol symbols.Comma) =
    record {
      prefixes = ap (λ z. group_prefix g
          ++ (mark symbols.OpenParen ++ (z ++ mark symbols.Comma)))
          (row_grows (mark symbols.Comma) variable_kind b x) ∙ regroup (group_prefix g)
          (mark symbols.OpenParen) (row_prefix (mark symbols.Comma) variable_kind b)
          (variable_kind x)
          (mark symbols.Comma);
      opens = refl;
    }
  where
    regroup : (g o r x m : Kinds) → g ++ (o ++ (r ++ x ++ m)) ≡ g ++ (o ++ r ++ x) ++ m
    regroup g o r x m = simp append_assoc
after_param_adds g b x (kinds.Symbol symbols.CloseParen) =
    record {
      prefixes = ap (λ z. group_prefix g ++ z) (row_within (mark symbols.OpenParen)
          (variable_kind (head_of b x)) (each_after (mark symbols.Comma) variable_kind
          (rest_of b x))
          (row_prefix (mark symbols.Comma) variable_kind b) (variable_kind x)
          (mark symbols.CloseParen)
          (row_grows (mark symbols.Comma) variable_kind b x)) ∙ regroup (group_prefix g)
          (mark symbols.OpenParen) (row_prefix (mark symbols.Comma) variable_kind b)
          (variable_kind x)
          (mark symbols.CloseParen);
      opens = refl;
    }
  where
    regroup : (g o r x m : Kinds) → g ++ (o ++ r ++ x ++ m) ≡ g ++ (o ++ r ++ x) ++ m
    regroup g o r x m = simp append_assoc
after_param_adds g b x kind = tt

take_decl_name_adds : (g : GroupHole) (ps : Params) (kind : LexemeKind) →
    AddsTo (outer_prefix (params_read g ps)) 0 kind (take_decl_name g ps kind)
take_decl_name_adds g ps (kinds.Lower x) = record { prefixes = simp append_assoc; opens = refl }
take_decl_name_adds g ps kind = tt

take_equals_adds : (g : GroupHole) (ps : Params) (x : Name) (kind : LexemeKind) →
    AddsTo (outer_prefix (name_read g ps x)) 0 kind (take_equals g ps x kind)
take_equals_adds g ps x (kinds.Symbol symbols.Equals) = record {
  prefixes = simp append_assoc;
  opens =
      refl;
}
take_equals_adds g ps x kind = tt

begin_body_adds : (b : BodyHole) (kind : LexemeKind) → AddsTo (body_prefix b) 0 kind
    (begin_body b kind)
begin_body_adds b (kinds.Symbol symbols.OpenBrace) =
    record { prefixes = simp (append_assoc, append-nil); opens = refl }
begin_body_adds b (kinds.Symbol symbols.Bar) = record {
  prefixes = simp (append_assoc, append-nil);
  opens = refl;
}
begin_body_adds b (kinds.Upper x) = record {
  prefixes = simp (append_assoc, append-nil);
  opens =
      refl;
}
begin_body_adds b kind = begin_adds declarations (first_part (whole (body_type b))) kind

take_upper_adds : (c : ConstrHole) (kind : LexemeKind) → AddsTo (constr_prefix c) 0 kind
    (take_upper c kind)
take_upper_adds c (kinds.Upper x) = record { prefixes = refl; opens = refl }
take_upper_adds c kind = tt

after_upper_adds : (c : ConstrHole) (x : Name) (kind : LexemeKind) →
    AddsTo (outer_prefix (upper_read c x)) 0 kind (after_upper c x kind)
after_upper_adds c x (kinds.Keyword keywords.Of) = record {
  prefixes = simp append_assoc;
  opens =
      refl;
}
after_upper_adds c x kind = after_constr_adds c (constr_with x no_arguments) kind

begin_arguments_adds : (c : ConstrHole) (x : Name) (kind : LexemeKind) →
    AddsTo (outer_prefix (of_read c x)) 0 kind (begin_arguments c x kind)
begin_arguments_adds c x (kinds.Symbol symbols.OpenBrace) =
    record { prefixes = simp (append_assoc, append-nil); opens = refl }
begin_arguments_adds c x kind = begin_adds declarations (alone (listed_part c x nothing)) kind

close_record_adds : (r : RecordHole) (b : Before FieldTree) (kind : LexemeKind) →
    AddsTo (fields_prefix r b) 1 kind (close_record r b kind)
close_record_adds r (so_far f m) (kinds.Symbol symbols.CloseBrace) =
    record {
      prefixes = regroup (record_prefix r) (mark symbols.OpenBrace) (field_kinds f)
          (each_after (mark symbols.Semicolon) field_kinds m) (mark symbols.Semicolon)
          (mark symbols.CloseBrace);
      opens = refl;
    }
  where
    regroup : (p o f e m c : Kinds) → p ++ (o ++ f ++ e ++ m ++ c) ≡ p ++ (o ++ (f ++ e ++ m)) ++ c
    regroup p o f e m c = simp append_assoc
close_record_adds r b kind = tt

begin_field_adds : (r : RecordHole) (b : Before FieldTree) (kind : LexemeKind) →
    AddsTo (fields_prefix r b) 1 kind (begin_field r b kind)
begin_field_adds r b (kinds.Keyword keywords.Mutable) = record { prefixes = refl; opens = refl }
begin_field_adds r b (kinds.Lower x) = record { prefixes = refl; opens = refl }
begin_field_adds r b kind = close_record_adds r b kind

take_field_name_adds : (r : RecordHole) (b : Before FieldTree) (kind : LexemeKind) →
    AddsTo (outer_prefix (mutable_read r b)) 1 kind (take_field_name r b kind)
take_field_name_adds r b (kinds.Lower x) = record { prefixes = simp append_assoc; opens = refl }
take_field_name_adds r b kind = tt

take_colon_adds : (r : RecordHole) (b : Before FieldTree) (mutable : Bool) (x : Name)
    (kind : LexemeKind) → AddsTo (outer_prefix (field_named r b mutable x)) 1 kind
    (take_colon r b mutable x kind)
take_colon_adds r b mutable x (kinds.Symbol symbols.Colon) = record {
  prefixes = simp append_assoc;
  opens = refl;
}
take_colon_adds r b mutable x kind = tt

pub outside_adds : (q : Outside) (kind : LexemeKind) → AddsTo (outer_prefix q) (outer_open q) kind
    (outer_step q kind)
outside_adds (file_due gs) kind = begin_file_adds gs kind
outside_adds (decl_due g) kind = begin_decl_adds g kind
outside_adds (param_due g b) kind = take_param_adds g b kind
outside_adds (param_read g b x) kind = after_param_adds g b x kind
outside_adds (params_read g ps) kind = take_decl_name_adds g ps kind
outside_adds (name_read g ps x) kind = take_equals_adds g ps x kind
outside_adds (body_due b) kind = begin_body_adds b kind
outside_adds (constr_due c) kind = take_upper_adds c kind
outside_adds (upper_read c x) kind = after_upper_adds c x kind
outside_adds (of_read c x) kind = begin_arguments_adds c x kind
outside_adds (field_due r b) kind = begin_field_adds r b kind
outside_adds (mutable_read r b) kind = take_field_name_adds r b kind
outside_adds (field_named r b mutable x) kind = take_colon_adds r b mutable x kind
outside_adds (record_read r t) kind = after_record_adds r t kind
