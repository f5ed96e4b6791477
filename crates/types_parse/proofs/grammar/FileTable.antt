-- The table of declarations reads the files of the grammar.
use Rattle.std.proofs.Common.{
  ◌≡◌,
  ◌∙◌,
  false,
  ◌∷◌,
  ◌++◌,
  Some,
  refl,
  sym,
  ap,
  append_assoc,
  append-nil,
}
use Rattle.types_lex.specs.declared.lexeme.LexemeKind.TheVariants as kinds
use Rattle.types_parse.specs.grammar.Grammar.{
  Texpr,
  single,
  starred,
  mark,
  app,
  texpr,
  no_arguments,
  inline,
  type_body,
  record_body,
  FileTree,
  DeclTree,
  ConstrTree,
  RecordTree,
  file_kinds,
  decl_kinds,
  constr_kinds,
  record_kinds,
  lower,
  params_kinds,
  word,
}
use Rattle.types_lex.specs.declared.lexeme.Keyword.TheVariants as keywords
use Rattle.types_lex.specs.declared.lexeme.Symbol.TheVariants as symbols
use Rattle.types_parse.proofs.grammar.TypeGrammarTableLemmas.{Reads}
use Rattle.types_parse.specs.grammar.Holes.{
  read,
  outside,
  first_part,
  next_part,
  whole,
  alone,
  step,
  prefix,
  still_open,
  ended,
}
use Rattle.types_parse.specs.grammar.File.{
  GroupHole,
  BodyHole,
  ConstrHole,
  RecordHole,
  body_record,
  inline_record,
  body_type,
  listed_part,
  Outside,
  file_due,
  upper_read,
  record_read,
  FileState,
  closed_decl,
  closed_constr,
  closed_record,
  closed_outer_part,
  decl_with,
  variant_with,
  constr_with,
  group_prefix,
  constr_prefix,
  record_prefix,
  outer_prefix,
  body_prefix,
  accepted_outside,
  file_accepted,
  file_start,
  declarations,
}
use Rattle.types_parse.specs.grammar.Depths.{file_ends}
use Rattle.types_parse.proofs.grammar.HolesPrefixes.{step_adds}
use Rattle.types_parse.proofs.grammar.FilePrefixes.{
  group_grows,
  variant_grows,
  listed_grows,
  type_adds,
  part_adds,
  outside_adds,
}
use Rattle.types_parse.proofs.grammar.FileLead.{file_leads}
use Rattle.types_parse.proofs.grammar.FileStand.{whole_stands, alone_stands, outside_completes}
use Rattle.types_parse.proofs.grammar.HolesStand.{completes}

decl_closes : (g : GroupHole) (d : DeclTree) → file_kinds (closed_decl g d) ≡ group_prefix g
    ++ decl_kinds d
decl_closes g d = group_grows g d false ∙ append-nil (group_prefix g ++ decl_kinds d)

constr_closes : (c : ConstrHole) (k : ConstrTree) → file_kinds (closed_constr c k) ≡ constr_prefix c
    ++ constr_kinds k
constr_closes c k = decl_closes c.body.group (variant_with c k) ∙ variant_grows c k

record_closes : (r : RecordHole) (t : RecordTree) → file_kinds (closed_record r t) ≡ record_prefix r
    ++ record_kinds t
record_closes (body_record b) t = decl_closes b.group (decl_with b (record_body t))
    ∙ sym (append_assoc (group_prefix b.group) (params_kinds b.params ++ lower b.name
    ++ mark symbols.Equals) (record_kinds t))
record_closes (inline_record c x) t = constr_closes c (constr_with x (inline t))
    ∙ sym (append_assoc (constr_prefix c) (kinds.Upper x ∷ word keywords.Of) (record_kinds t))

type_closes : (b : BodyHole) (t : Texpr) →
    file_kinds (closed_decl b.group (decl_with b (type_body t))) ≡ body_prefix b ++ texpr t
type_closes b t = decl_closes b.group (decl_with b (type_body t))
    ∙ sym (append_assoc (group_prefix b.group) (params_kinds b.params ++ lower b.name
    ++ mark symbols.Equals) (texpr t))

outside_prefix : (q : Outside) (t : FileTree) → accepted_outside q ≡ Some t → file_kinds t
    ≡ outer_prefix q
outside_prefix (file_due gs) t h = let e : gs ≡ t = cc in ap file_kinds (sym e)
outside_prefix (upper_read c x) t h = let e : closed_constr c (constr_with x no_arguments) ≡ t =
    cc in ap file_kinds (sym e) ∙ constr_closes c (constr_with x no_arguments)
outside_prefix (record_read r u) t h = let e : closed_record r u ≡ t = cc in ap file_kinds (sym e)
    ∙ record_closes r u
outside_prefix q t h = absurd (cc)

accepted_prefix : (s : FileState) (t : FileTree) → file_accepted s ≡ Some t → file_kinds t
    ≡ prefix declarations s
accepted_prefix (read (first_part (whole (body_type b))) a) t h = let e : closed_decl b.group
    (decl_with b (type_body (single a))) ≡ t = cc in ap file_kinds (sym e)
    ∙ type_closes b (single a)
accepted_prefix (read (next_part (whole (body_type b)) u) a) t h = let e : closed_decl b.group
    (decl_with b (type_body (starred u a))) ≡ t = cc in ap file_kinds (sym e)
    ∙ type_closes b (starred u a) ∙ sym (append_assoc (body_prefix b) (texpr u ++ mark symbols.Star)
    (app a))
accepted_prefix (read (alone (listed_part c x b)) a) t h = let e : closed_outer_part
    (listed_part c x b) a ≡ t = cc in ap file_kinds (sym e) ∙ constr_closes c _ ∙ listed_grows c x b
    a
accepted_prefix (outside q) t h = outside_prefix q t h
accepted_prefix s t h = absurd (cc)

pub file_table : Reads file_kinds file_ends (step declarations) file_start (prefix declarations)
    (still_open declarations) ended file_accepted
file_table = record {
  final = λ t. (file_leads t).state;
  leads = λ t. (file_leads t).leads;
  accepts = λ t. (file_leads t).accepts;
  accepted_prefix = accepted_prefix;
  start_prefix = refl;
  start_open = refl;
  adds = step_adds declarations type_adds part_adds outside_adds;
  completes = completes declarations file_kinds file_ends whole_stands alone_stands
      outside_completes;
}
