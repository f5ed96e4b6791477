-- The parsing table reads exactly the literals.
use Rattle.std.proofs.Common.{ℕ, ◌≡◌, ◌∙◌, List, [], ◌∷◌, ◌++◌, Option, Some, None, refl, sym, ap, arith, append_assoc, append-nil}
use Rattle.std.specs.Prelude.{IfSome}
use Rattle.types_lex.specs.declared.lexeme.LexemeKind.{LexemeKind}
use Rattle.types_lex.specs.declared.lexeme.Symbol.TheVariants as symbols
use Rattle.types_parse.specs.grammar.Grammar.{Kinds, mark, lower}
use Rattle.types_parse.specs.grammar.Refusals.{open_after}
use Rattle.types_parse.specs.grammar.TypeMachine.{Leads, stop, go}
use Rattle.types_parse.proofs.grammar.TypeGrammarTableLemmas.{Adds, Completes, Reads}
use Rattle.types_parse.specs.grammar.LexemeKinds.{number}
use Rattle.types_parse.proofs.grammar.LexemeLemmas.{open_more}
use Rattle.text_literal.specs.literal_grammar.Literal.{Literal, labelled, again, unit, constant, applied, fields, tuple, array, no_parts, more_parts, label_kinds, row_start, head_kinds, owner_kinds, literal_kinds, parts_kinds, rows_kinds, empty_head}
use Rattle.text_literal.specs.literal_grammar.LiteralMachine.{LiteralFrame, in_arguments, in_parens, in_array, in_fields, Phase, due, hash_read, number_read, plain_due, bracket_read, head_read, field_due, name_read, whole, LiteralState, at, start, step, accepted, frame_kinds, frames_prefix, phase_kinds, prefix, zeros, ends}
use Rattle.text_literal.proofs.literal_grammar.LiteralPrefixes.{step_prefixes, shut}
use Rattle.text_literal.proofs.literal_grammar.LiteralGoes.{Goes, stay, go_on, read_in, literal_goes}

-- The number of types that end in a state, which is 0 for literals.
abbrev pub none : LiteralState → ℕ
none s = 0

-- The number of open brackets in a state.
abbrev pub brackets : LiteralState → ℕ
brackets s = open_after 0 (prefix s)

adds_if : (s : LiteralState) (kind : LexemeKind) (o : Option LiteralState) → IfSome o (λ next. prefix next ≡ prefix s ++ kind ∷ []) →
    IfSome o (λ next. Adds prefix brackets (prefix s) (brackets s) kind next)
adds_if s kind None h = tt
adds_if s kind (Some next) h = record { prefixes = h; opens = ap (open_after 0) h ∙ open_more 0 (prefix s) kind }

leads_of : {s t : LiteralState} {xs : Kinds} → Goes s xs t → Leads step none s xs (zeros xs) t
leads_of stay = stop
leads_of (go_on h p) = go h (omega arith) (leads_of p)

accepts : (v : Literal) → accepted (read_in [] v) ≡ Some v
accepts (again k) = refl
accepts (labelled l (constant h)) = refl
accepts (labelled l p) = refl

accepted_prefix : (s : LiteralState) (v : Literal) → accepted s ≡ Some v → literal_kinds v ≡ prefix s
accepted_prefix (at [] (whole w)) v h = let e : w ≡ v = cc in ap literal_kinds (sym e)
accepted_prefix (at [] (number_read k)) v h = let e : again k ≡ v = cc in ap literal_kinds (sym e)
accepted_prefix (at [] (head_read l c)) v h = let e : labelled l (constant c) ≡ v = cc in ap literal_kinds (sym e)
accepted_prefix s v h = absurd (cc)

-- ---- closing the open brackets

abbrev filled : LiteralFrame → Literal → Literal
filled (in_arguments l h ps) v = labelled l (applied h ps v)
filled (in_parens l no_parts) v = labelled l (tuple no_parts v v)
filled (in_parens l (more_parts ps u)) v = labelled l (tuple ps u v)
filled (in_array l ps) v = labelled l (array ps v)
filled (in_fields l o rs x) v = labelled l (fields o rs x v)

abbrev filled_rest : LiteralFrame → Literal → Kinds
filled_rest (in_arguments l h ps) v = mark symbols.CloseParen
filled_rest (in_parens l no_parts) v = mark symbols.Comma ++ (literal_kinds v ++ mark symbols.CloseParen)
filled_rest (in_parens l (more_parts ps u)) v = mark symbols.CloseParen
filled_rest (in_array l ps) v = mark symbols.CloseArray
filled_rest (in_fields l o rs x) v = mark symbols.CloseBrace

two : (L O V C E : Kinds) → L ++ (O ++ (V ++ C) ++ V ++ E) ≡ (L ++ O) ++ (V ++ (C ++ (V ++ E)))
two L O V C E = simp append_assoc

filled_is : (f : LiteralFrame) (v : Literal) → literal_kinds (filled f v) ≡ frame_kinds f ++ (literal_kinds v ++ filled_rest f v)
filled_is (in_arguments l h ps) v = shut (label_kinds l) (head_kinds h ++ mark symbols.OpenParen) (parts_kinds symbols.Comma ps) (literal_kinds v) (mark symbols.CloseParen)
filled_is (in_parens l no_parts) v = two (label_kinds l) (mark symbols.OpenParen) (literal_kinds v) (mark symbols.Comma) (mark symbols.CloseParen)
filled_is (in_parens l (more_parts ps u)) v = shut (label_kinds l) (mark symbols.OpenParen) (parts_kinds symbols.Comma (more_parts ps u)) (literal_kinds v) (mark symbols.CloseParen)
filled_is (in_array l ps) v = shut (label_kinds l) (mark symbols.OpenArray) (parts_kinds symbols.Semicolon ps) (literal_kinds v) (mark symbols.CloseArray)
filled_is (in_fields l o rs x) v = shut (label_kinds l) (owner_kinds o ++ mark symbols.OpenBrace ++ rows_kinds rs) (row_start x) (literal_kinds v) (mark symbols.CloseBrace)

abbrev closed : List LiteralFrame → Literal → Literal
closed [] v = v
closed (f ∷ fs) v = closed fs (filled f v)

deeper : (F G V E R : Kinds) → F ++ ((G ++ (V ++ E)) ++ R) ≡ (F ++ G) ++ (V ++ (E ++ R))
deeper F G V E R = simp append_assoc

closed_is : (fs : List LiteralFrame) (v : Literal) → (rest : Kinds) × (literal_kinds (closed fs v) ≡ frames_prefix fs ++ (literal_kinds v ++ rest))
closed_is [] v = ([], sym (append-nil (literal_kinds v)))
closed_is (f ∷ fs) v =
    let i = closed_is fs (filled f v) in (
      filled_rest f v ++ i.0,
      i.1 ∙ ap (λ xs. frames_prefix fs ++ (xs ++ i.0)) (filled_is f v)
          ∙ deeper (frames_prefix fs) (frame_kinds f) (literal_kinds v) (filled_rest f v) i.0,
    )

-- Some literal begins with the lexemes that the phase has read.
abbrev Begun : Phase → Type 0
Begun phase = (v : Literal) × (rest : Kinds) × (literal_kinds v ≡ phase_kinds phase ++ rest)

abbrev nothing : Literal
nothing = labelled None unit

begun_fields : (L A S V C : Kinds) → L ++ (A ++ S ++ V ++ C) ≡ (L ++ A) ++ (S ++ V ++ C)
begun_fields L A S V C = simp append_assoc

begun_name : (L A X E V C : Kinds) → L ++ (A ++ (X ++ E) ++ V ++ C) ≡ (L ++ (A ++ X)) ++ (E ++ V ++ C)
begun_name L A X E V C = simp append_assoc

begun : (phase : Phase) → Begun phase
begun due = (nothing, literal_kinds nothing, refl)
begun hash_read = (again 0, number 0 ∷ [], refl)
begun (number_read k) = (again k, [], refl)
begun (plain_due k) = (labelled (Some k) unit, literal_kinds nothing, refl)
begun (bracket_read l) = (labelled l (constant empty_head), mark symbols.CloseBracket, sym (append_assoc (label_kinds l) (mark symbols.OpenBracket) (mark symbols.CloseBracket)))
begun (head_read l h) = (labelled l (constant h), [], sym (append-nil (label_kinds l ++ head_kinds h)))
begun (field_due l o rs) = (
  labelled l (fields o rs [] nothing),
  row_start [] ++ literal_kinds nothing ++ mark symbols.CloseBrace,
  begun_fields (label_kinds l) (owner_kinds o ++ mark symbols.OpenBrace ++ rows_kinds rs) (row_start []) (literal_kinds nothing) (mark symbols.CloseBrace),
)
begun (name_read l o rs x) = (
  labelled l (fields o rs x nothing),
  mark symbols.Equals ++ literal_kinds nothing ++ mark symbols.CloseBrace,
  begun_name (label_kinds l) (owner_kinds o ++ mark symbols.OpenBrace ++ rows_kinds rs) (lower x) (mark symbols.Equals) (literal_kinds nothing) (mark symbols.CloseBrace),
)
begun (whole v) = (v, [], sym (append-nil (literal_kinds v)))

finished : (F P R E : Kinds) → F ++ ((P ++ R) ++ E) ≡ (F ++ P) ++ (R ++ E)
finished F P R E = simp append_assoc

completes : (s : LiteralState) → Completes literal_kinds ends prefix none s
completes (at fs phase) =
    let b = begun phase in
    let i = closed_is fs b.0 in
    record {
      text = closed fs b.0;
      rest = b.1 ++ i.0;
      begins = i.1 ∙ ap (λ xs. frames_prefix fs ++ (xs ++ i.0)) b.2 ∙ finished (frames_prefix fs) (phase_kinds phase) b.1 i.0;
      deep = omega arith;
    }

pub literal_table : Reads literal_kinds ends step start prefix brackets none accepted
literal_table = record {
  final = read_in [];
  leads = λ v. leads_of (literal_goes v []);
  accepts = accepts;
  accepted_prefix = accepted_prefix;
  start_prefix = refl;
  start_open = refl;
  adds = λ s kind. adds_if s kind (step s kind) (step_prefixes s kind);
  completes = completes;
}
