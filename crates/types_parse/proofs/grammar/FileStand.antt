-- For each state of a file, some file begins with the lexemes read.
use Rattle.std.proofs.Common.{
  ℕ,
  suc,
  ◌≡◌,
  ◌∙◌,
  Bool,
  true,
  false,
  List,
  [],
  ◌∷◌,
  ◌++◌,
  length,
  refl,
  sym,
  ap,
  subst₂,
  arith,
  append_assoc,
  append-nil,
}
use Rattle.std.specs.List.{flat_map}
use Rattle.types_lex.specs.declared.lexeme.LexemeKind.TheVariants as kinds
use Rattle.types_lex.specs.declared.lexeme.Keyword.TheVariants as keywords
use Rattle.types_lex.specs.declared.lexeme.Symbol.TheVariants as symbols
use Rattle.types_parse.specs.grammar.Grammar.{
  Name,
  Kinds,
  Texpr,
  App,
  single,
  simple,
  variable,
  mark,
  lower,
  texpr,
  app,
  Params,
  no_params,
  params,
  FieldTree,
  RecordTree,
  no_arguments,
  inline,
  listed,
  ConstrTree,
  BodyTree,
  record_body,
  variant_body,
  type_body,
  DeclTree,
  GroupTree,
  FileTree,
  word,
  mark_if,
  word_if,
  variable_kind,
  each_after,
  params_kinds,
  field_kinds,
  record_kinds,
  constr_kinds,
  body_kinds,
  decl_kinds,
  group_kinds,
  file_kinds,
}
use Rattle.types_parse.specs.grammar.Depths.{
  texpr_ends,
  app_ends,
  silent,
  each_ends,
  field_ends,
  record_ends,
  constr_ends,
  body_ends,
  decl_ends,
  group_ends,
  file_ends,
}
use Rattle.types_parse.proofs.grammar.MachineLemmas.{leads_length}
use Rattle.types_parse.proofs.grammar.Stands.{
  Stands,
  alone as here_alone,
  after,
  followed,
  within,
  texpr_even,
  app_even,
  even_both,
}
use Rattle.types_parse.specs.grammar.Holes.{outside}
use Rattle.types_parse.specs.grammar.File.{
  Before,
  nothing,
  so_far,
  head_of,
  rest_of,
  row_prefix,
  GroupHole,
  BodyHole,
  ConstrHole,
  RecordHole,
  body_record,
  inline_record,
  TypeOutside,
  body_type,
  field_type,
  PartOutside,
  listed_part,
  Outside,
  file_due,
  decl_due,
  param_due,
  param_read,
  params_read,
  name_read,
  body_due,
  constr_due,
  upper_read,
  of_read,
  field_due,
  mutable_read,
  field_named,
  record_read,
  decl_with,
  constr_with,
  field_with,
  record_with,
  group_prefix,
  body_prefix,
  constr_prefix,
  record_prefix,
  fields_prefix,
  outer_type_prefix,
  outer_part_prefix,
  outer_prefix,
  closed_decl,
  closed_constr,
  closed_record,
  closed_outer_type,
  closed_outer_part,
  declarations,
}
use Rattle.types_parse.proofs.grammar.FilePrefixes.{row_grows}
use Rattle.types_parse.proofs.grammar.FileLead.{
  record_leads,
  constr_leads,
  body_leads,
  decl_leads,
  file_leads,
}
use Rattle.types_parse.proofs.grammar.HolesStand.{Completed}

stands_as : {before inner all all' : Kinds} {depths ends ends' : List ℕ} → all ≡ all' →
    ends ≡ ends' → Stands before inner depths all ends → Stands before inner depths all' ends'
stands_as {before} {inner} {depths = depths} e f s = subst₂ (λ a d. Stands before inner depths a d)
    e f s

silent_even : (xs : Kinds) → length (silent xs) ≡ length xs
silent_even [] = refl
silent_even (x ∷ xs) = ap suc (silent_even xs)

ends_end : {X : Type 0} (f : X → List ℕ) (xs : List X) (x : X) → flat_map f (xs ++ x ∷ [])
    ≡ flat_map f xs ++ f x
ends_end f [] x = append-nil (f x)
ends_end f (y ∷ xs) x = ap (λ k. f y ++ k) (ends_end f xs x)
    ∙ sym (append_assoc (f y) (flat_map f xs) (f x))

kinds_end : {X : Type 0} (f : X → Kinds) (xs : List X) (x : X) → flat_map f (xs ++ x ∷ [])
    ≡ flat_map f xs ++ f x
kinds_end f [] x = append-nil (f x)
kinds_end f (y ∷ xs) x = ap (λ k. f y ++ k) (kinds_end f xs x)
    ∙ sym (append_assoc (f y) (flat_map f xs) (f x))

all_even : {X : Type 0} (f : X → Kinds) (e : X → List ℕ) → ((x : X) → length (e x) ≡ length (f x)) →
    (xs : List X) → length (flat_map e xs) ≡ length (flat_map f xs)
all_even f e h [] = refl
all_even f e h (x ∷ xs) = even_both (e x) (flat_map e xs) (f x) (flat_map f xs) (h x)
    (all_even f e h xs)

-- ---- lists

module _ {X : Type 0} (between : Kinds) (encoded : X → Kinds) (ends : X → List ℕ) (even : (x : X) →
    length (ends x) ≡ length (encoded x)) where
  each_even : (xs : List X) → length (each_ends between ends xs)
      ≡ length (each_after between encoded xs)
  each_even xs = all_even (λ x. between ++ encoded x) (λ x. silent between ++ ends x)
      (λ x. even_both (silent between) (ends x) between (encoded x) (silent_even between) (even x))
      xs

  row_even : (f : X) (m : List X) → length (ends f ++ each_ends between ends m)
      ≡ length (encoded f ++ each_after between encoded m)
  row_even f m = even_both (ends f) (each_ends between ends m) (encoded f)
      (each_after between encoded m) (even f) (each_even m)

  row_stands : (b : Before X) (x : X) → Stands (row_prefix between encoded b) (encoded x) (ends x)
      (encoded (head_of b x) ++ each_after between encoded (rest_of b x)) (ends (head_of b x)
      ++ each_ends between ends (rest_of b x))
  row_stands nothing x = followed [] [] refl (here_alone (encoded x) (ends x) (even x))
  row_stands (so_far f m) x =
      stands_as (sym (row_grows between encoded (so_far f m) x)) (sym grow)
      (after (encoded f ++ each_after between encoded m ++ between) (encoded x)
      (ends f ++ each_ends between ends m ++ silent between) (ends x)
      (even_both (ends f ++ each_ends between ends m) (silent between)
      (encoded f ++ each_after between encoded m) between (row_even f m) (silent_even between))
      (even x))
    where
      regroup : (f e s x : List ℕ) → f ++ (e ++ (s ++ x)) ≡ f ++ e ++ s ++ x
      regroup f e s x = simp append_assoc

      grow : ends f ++ each_ends between ends (m ++ x ∷ []) ≡ ends f ++ each_ends between ends m
          ++ silent between ++ ends x
      grow = ap (λ k. ends f ++ k) (ends_end (λ y. silent between ++ ends y) m x) ∙ regroup (ends f)
          (each_ends between ends m) (silent between) (ends x)

-- ---- lengths

some_group : GroupHole
some_group = record { groups = []; decls = nothing }

some_body : BodyHole
some_body = record { group = some_group; params = no_params; name = [] }

some_constr : ConstrHole
some_constr = record { body = some_body; bar = false; before = nothing }

field_even : (f : FieldTree) → length (field_ends f) ≡ length (field_kinds f)
field_even f = even_both (silent (word_if f.mutable keywords.Mutable ++ lower f.name
    ++ mark symbols.Colon)) (texpr_ends f.type) (word_if f.mutable keywords.Mutable ++ lower f.name
    ++ mark symbols.Colon) (texpr f.type)
    (silent_even (word_if f.mutable keywords.Mutable ++ lower f.name ++ mark symbols.Colon))
    (texpr_even f.type)

record_even : (t : RecordTree) → length (record_ends t) ≡ length (record_kinds t)
record_even t = leads_length (record_leads (outside (body_due some_body)) (body_record some_body) t
    refl)

constr_even : (k : ConstrTree) → length (constr_ends k) ≡ length (constr_kinds k)
constr_even k = leads_length ((constr_leads some_constr k.name k.arguments).leads)

body_even : (body : BodyTree) → length (body_ends body) ≡ length (body_kinds body)
body_even body = leads_length ((body_leads some_body body).leads)

decl_even : (d : DeclTree) → length (decl_ends d) ≡ length (decl_kinds d)
decl_even d = leads_length ((decl_leads some_group d).leads)

pub file_even : (gs : FileTree) → length (file_ends gs) ≡ length (file_kinds gs)
file_even gs = leads_length ((file_leads gs).leads)

group_even : (g : GroupTree) → length (group_ends g) ≡ length (group_kinds g)
group_even g = sym (ap length (append-nil (group_ends g))) ∙ file_even (g ∷ [])
    ∙ ap length (append-nil (group_kinds g))

-- ---- by the context

pub decl_stands : (g : GroupHole) (d : DeclTree) → Stands (group_prefix g) (decl_kinds d)
    (decl_ends d) (file_kinds (closed_decl g d)) (file_ends (closed_decl g d))
decl_stands g d =
    let group : GroupTree = record {
      first = head_of g.decls d;
      more = rest_of g.decls d;
      ended =
          false;
    } in
    within
    (within (row_stands (word keywords.And) decl_kinds decl_ends decl_even g.decls d)
    (followed [] [] refl (after (word keywords.Type) (decl_kinds (head_of g.decls d)
    ++ each_after (word keywords.And) decl_kinds (rest_of g.decls d)) (0 ∷ [])
    (decl_ends (head_of g.decls d) ++ each_ends (word keywords.And) decl_ends
    (rest_of g.decls d)) refl (row_even (word keywords.And) decl_kinds decl_ends decl_even
    (head_of g.decls d) (rest_of g.decls d)))))
    (stands_as (sym (kinds_end group_kinds g.groups group))
    (sym (ends_end group_ends g.groups group)) (after (file_kinds g.groups) (group_kinds group)
    (file_ends g.groups) (group_ends group) (file_even g.groups) (group_even group)))

body_stands : (b : BodyHole) (body : BodyTree) → Stands (body_prefix b) (body_kinds body)
    (body_ends body) (file_kinds (closed_decl b.group (decl_with b body)))
    (file_ends (closed_decl b.group (decl_with b body)))
body_stands b body = within (after (params_kinds b.params ++ lower b.name ++ mark symbols.Equals)
    (body_kinds body) (silent (params_kinds b.params ++ lower b.name ++ mark symbols.Equals))
    (body_ends body) (silent_even (params_kinds b.params ++ lower b.name ++ mark symbols.Equals))
    (body_even body)) (decl_stands b.group (decl_with b body))

variant_stands : (bar : Bool) (k : ConstrTree) (ks : List ConstrTree) →
    Stands (mark_if bar symbols.Bar) (constr_kinds k ++ each_after (mark symbols.Bar) constr_kinds
    ks) (constr_ends k ++ each_ends (mark symbols.Bar) constr_ends ks)
    (body_kinds (variant_body bar k ks)) (body_ends (variant_body bar k ks))
variant_stands true k ks = after (mark symbols.Bar) (constr_kinds k ++ each_after (mark symbols.Bar)
    constr_kinds ks) (0 ∷ []) (constr_ends k ++ each_ends (mark symbols.Bar) constr_ends ks) refl
    (row_even (mark symbols.Bar) constr_kinds constr_ends constr_even k ks)
variant_stands false k ks = here_alone (constr_kinds k ++ each_after (mark symbols.Bar) constr_kinds
    ks) (constr_ends k ++ each_ends (mark symbols.Bar) constr_ends ks)
    (row_even (mark symbols.Bar) constr_kinds constr_ends constr_even k ks)

constr_stands : (c : ConstrHole) (k : ConstrTree) → Stands (constr_prefix c) (constr_kinds k)
    (constr_ends k) (file_kinds (closed_constr c k)) (file_ends (closed_constr c k))
constr_stands c k =
    within (within (row_stands (mark symbols.Bar) constr_kinds constr_ends constr_even c.before k)
    (variant_stands c.bar (head_of c.before k) (rest_of c.before k)))
    (body_stands c.body (variant_body c.bar (head_of c.before k) (rest_of c.before k)))

record_stands : (r : RecordHole) (t : RecordTree) → Stands (record_prefix r) (record_kinds t)
    (record_ends t) (file_kinds (closed_record r t)) (file_ends (closed_record r t))
record_stands (body_record b) t = body_stands b (record_body t)
record_stands (inline_record c x) t =
    within (after (kinds.Upper x ∷ word keywords.Of) (record_kinds t) (0 ∷ 0 ∷ []) (record_ends t)
    refl (record_even t)) (constr_stands c (constr_with x (inline t)))

fields_stand : (r : RecordHole) (b : Before FieldTree) (f : FieldTree) → Stands (fields_prefix r b)
    (field_kinds f) (field_ends f) (file_kinds (closed_record r (record_with b f false)))
    (file_ends (closed_record r (record_with b f false)))
fields_stand r b f =
    within
    (within (row_stands (mark symbols.Semicolon) field_kinds field_ends field_even b f)
    (followed (mark symbols.CloseBrace) (0 ∷ []) refl
    (followed [] [] refl (after (mark symbols.OpenBrace) (field_kinds (head_of b f)
    ++ each_after (mark symbols.Semicolon) field_kinds (rest_of b f)) (0 ∷ [])
    (field_ends (head_of b f) ++ each_ends (mark symbols.Semicolon) field_ends (rest_of b f))
    refl (row_even (mark symbols.Semicolon) field_kinds field_ends field_even (head_of b f)
    (rest_of b f))))))
    (record_stands r (record_with b f false))

pub whole_stands : (w : TypeOutside) (t : Texpr) → Stands (outer_type_prefix w) (texpr t)
    (texpr_ends t) (file_kinds (closed_outer_type w t)) (file_ends (closed_outer_type w t))
whole_stands (body_type b) t = body_stands b (type_body t)
whole_stands (field_type r b mutable x) t =
    within (after (word_if mutable keywords.Mutable ++ lower x ++ mark symbols.Colon) (texpr t)
    (silent (word_if mutable keywords.Mutable ++ lower x ++ mark symbols.Colon)) (texpr_ends t)
    (silent_even (word_if mutable keywords.Mutable ++ lower x ++ mark symbols.Colon))
    (texpr_even t))
    (fields_stand r b (field_with mutable x t))

pub alone_stands : (q : PartOutside) (a : App) → Stands (outer_part_prefix q) (app a) (app_ends a)
    (file_kinds (closed_outer_part q a)) (file_ends (closed_outer_part q a))
alone_stands (listed_part c x b) a =
    within
    (within (row_stands (mark symbols.Star) app app_ends app_even b a)
    (after (kinds.Upper x ∷ word keywords.Of) (app (head_of b a) ++ each_after (mark symbols.Star)
    app (rest_of b a)) (0 ∷ 0 ∷ []) (app_ends (head_of b a) ++ each_ends (mark symbols.Star)
    app_ends (rest_of b a)) refl (row_even (mark symbols.Star) app app_ends app_even
    (head_of b a) (rest_of b a))))
    (constr_stands c (constr_with x (listed (head_of b a) (rest_of b a))))

-- ---- states outside of types

-- If a file begins with the lexemes read by a state, then the state is completed.
by_more : (q : Outside) (text : FileTree) (extra : Kinds) → file_kinds text ≡ outer_prefix q
    ++ extra → Completed declarations file_kinds file_ends (outside q)
by_more q text extra e = record { text = text; rest = extra; begins = e; deep = omega arith }

-- If the lexemes read by a state lie within a part of a file, then the state is completed.
by_part : (q : Outside) (text : FileTree) {before inner : Kinds} {depths : List ℕ} (extra : Kinds) →
    before ++ inner ≡ outer_prefix q ++ extra → Stands before inner depths (file_kinds text)
    (file_ends text) → Completed declarations file_kinds file_ends (outside q)
by_part q text extra e s = by_more q text (extra ++ s.rest) (s.encoded ∙ ap (λ k. k ++ s.rest) e
    ∙ append_assoc (outer_prefix q) extra s.rest)

abbrev some_type : Texpr
some_type = single (simple (variable []))

abbrev decl_of : Params → Name → DeclTree
decl_of ps x = record { params = ps; name = x; body = type_body some_type }

-- The lexemes of a list of parameters, split at the last parameter.
params_grow : (b : Before Name) (x : Name) → params_kinds (params (head_of b x) (rest_of b x))
    ≡ mark symbols.OpenParen ++ row_prefix (mark symbols.Comma) variable_kind b ++ variable_kind x
    ++ mark symbols.CloseParen
params_grow b x = ap (λ k. mark symbols.OpenParen ++ k ++ mark symbols.CloseParen)
    (row_grows (mark symbols.Comma) variable_kind b x)

by_decl : (q : Outside) (g : GroupHole) (ps : Params) (x : Name) (got more : Kinds) → outer_prefix q
    ≡ group_prefix g ++ got → params_kinds ps ++ lower x ++ mark symbols.Equals ≡ got ++ more →
    Completed declarations file_kinds file_ends (outside q)
by_decl q g ps x got more e f =
    let body : Kinds = body_kinds (type_body some_type) in
    by_part q (closed_decl g (decl_of ps x)) (more ++ body) (ap (λ k. group_prefix g ++ (k ++ body))
    f ∙ regroup (group_prefix g) got more body ∙ ap (λ k. k ++ (more ++ body)) (sym e))
    (decl_stands g (decl_of ps x))
  where
    regroup : (g r m b : Kinds) → g ++ (r ++ m ++ b) ≡ g ++ r ++ (m ++ b)
    regroup g r m b = simp append_assoc

pub outside_completes : (q : Outside) → Completed declarations file_kinds file_ends (outside q)
outside_completes (file_due gs) = by_more (file_due gs) gs [] (sym (append-nil (file_kinds gs)))
outside_completes (decl_due g) = by_decl (decl_due g) g no_params [] []
    (lower [] ++ mark symbols.Equals) (sym (append-nil (group_prefix g))) refl
outside_completes (param_due g b) = by_decl (param_due g b) g (params (head_of b []) (rest_of b []))
    [] (mark symbols.OpenParen ++ row_prefix (mark symbols.Comma) variable_kind b)
    (variable_kind [] ++ (mark symbols.CloseParen ++ lower [] ++ mark symbols.Equals)) refl
    (ap (λ k. k ++ lower [] ++ mark symbols.Equals) (params_grow b [])
    ∙ regroup (mark symbols.OpenParen) (row_prefix (mark symbols.Comma) variable_kind b)
    (variable_kind []) (mark symbols.CloseParen) (lower []) (mark symbols.Equals))
  where
    regroup : (o r x c l e : Kinds) → o ++ r ++ x ++ c ++ l ++ e ≡ o ++ r ++ (x ++ (c ++ l ++ e))
    regroup o r x c l e = simp append_assoc
outside_completes (param_read g b x) = by_decl (param_read g b x) g
    (params (head_of b x) (rest_of b x)) [] (mark symbols.OpenParen
    ++ row_prefix (mark symbols.Comma) variable_kind b ++ variable_kind x) (mark symbols.CloseParen
    ++ lower [] ++ mark symbols.Equals) refl
    (ap (λ k. k ++ lower [] ++ mark symbols.Equals) (params_grow b x)
    ∙ regroup (mark symbols.OpenParen) (row_prefix (mark symbols.Comma) variable_kind b)
    (variable_kind x) (mark symbols.CloseParen) (lower []) (mark symbols.Equals))
  where
    regroup : (o r x c l e : Kinds) → o ++ r ++ x ++ c ++ l ++ e ≡ o ++ r ++ x ++ (c ++ l ++ e)
    regroup o r x c l e = simp append_assoc
outside_completes (params_read g ps) = by_decl (params_read g ps) g ps [] (params_kinds ps)
    (lower [] ++ mark symbols.Equals) refl (append_assoc (params_kinds ps) (lower [])
    (mark symbols.Equals))
outside_completes (name_read g ps x) = by_decl (name_read g ps x) g ps x
    (params_kinds ps ++ lower x) (mark symbols.Equals) refl refl
outside_completes (body_due b) = by_decl (body_due b) b.group b.params b.name (params_kinds b.params
    ++ lower b.name ++ mark symbols.Equals) [] refl
    (sym (append-nil (params_kinds b.params ++ lower b.name ++ mark symbols.Equals)))
outside_completes (constr_due c) = by_part (constr_due c)
    (closed_constr c (constr_with [] no_arguments)) (constr_kinds (constr_with [] no_arguments))
    refl (constr_stands c (constr_with [] no_arguments))
outside_completes (upper_read c x) = by_part (upper_read c x)
    (closed_constr c (constr_with x no_arguments)) []
    (sym (append-nil (constr_prefix c ++ kinds.Upper x ∷ [])))
    (constr_stands c (constr_with x no_arguments))
outside_completes (of_read c x) = by_part (of_read c x)
    (closed_constr c (constr_with x (listed (simple (variable [])) []))) (kinds.Variable [] ∷ [])
    (sym (append_assoc (constr_prefix c) (kinds.Upper x ∷ word keywords.Of)
    (kinds.Variable [] ∷ []))) (constr_stands c (constr_with x (listed (simple (variable [])) [])))
outside_completes (field_due r b) = by_part (field_due r b)
    (closed_record r (record_with b (field_with false [] some_type) false))
    (field_kinds (field_with false [] some_type)) refl
    (fields_stand r b (field_with false [] some_type))
outside_completes (mutable_read r b) = by_part (mutable_read r b)
    (closed_record r (record_with b (field_with true [] some_type) false))
    (lower [] ++ mark symbols.Colon ++ texpr some_type)
    (sym (append_assoc (fields_prefix r b) (word keywords.Mutable) (lower [] ++ mark symbols.Colon
    ++ texpr some_type))) (fields_stand r b (field_with true [] some_type))
outside_completes (field_named r b mutable x) = by_part (field_named r b mutable x)
    (closed_record r (record_with b (field_with mutable x some_type) false)) (mark symbols.Colon
    ++ texpr some_type) (regroup (fields_prefix r b) (word_if mutable keywords.Mutable) (lower x)
    (mark symbols.Colon) (texpr some_type)) (fields_stand r b (field_with mutable x some_type))
  where
    regroup : (f m l c t : Kinds) → f ++ (m ++ l ++ c ++ t) ≡ f ++ (m ++ l) ++ (c ++ t)
    regroup f m l c t = simp append_assoc
outside_completes (record_read r t) = by_part (record_read r t) (closed_record r t) []
    (sym (append-nil (record_prefix r ++ record_kinds t))) (record_stands r t)
