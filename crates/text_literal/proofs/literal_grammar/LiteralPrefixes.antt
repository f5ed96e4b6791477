-- If the parsing table accepts a lexeme, then the lexemes that the state has read grow by this
-- lexeme.
use Rattle.std.proofs.Common.{ℕ, ◌≡◌, ◌∙◌, Bool, true, false, List, [], ◌∷◌, ◌++◌, Option, Some, None, refl, sym, ap, append_assoc, append-nil}
use Rattle.std.specs.Prelude.{IfSome, option_map, if◌then◌else◌}
use Rattle.std.specs.Str.{bytes_eq}
use Rattle.std.proofs.lemmas.Slice.Eq.{bytes_eq-Decides}
use Rattle.types_lex.specs.declared.lexeme.LexemeKind.{LexemeKind}
use Rattle.types_lex.specs.declared.lexeme.LexemeKind.TheVariants as kinds
use Rattle.types_lex.specs.declared.lexeme.Symbol.TheVariants as symbols
use Rattle.types_parse.specs.grammar.Grammar.{Name, Kinds, mark, lower}
use Rattle.text_literal.specs.literal_grammar.Literal.{LiteralHead, ref_head, Literal, labelled, again, truth, constant, Parts, no_parts, more_parts, FieldRows, label_kinds, reference, true_name, false_name, ref_name, head_kinds, owner_kinds, row_start, literal_kinds, parts_kinds, rows_kinds}
use Rattle.types_parse.specs.grammar.LexemeKinds.{number_of}
use Rattle.types_parse.proofs.grammar.LexemeLemmas.{number_is}
use Rattle.text_literal.specs.literal_grammar.LiteralMachine.{LiteralFrame, in_arguments, in_parens, in_array, in_fields, due, hash_read, number_read, plain_due, bracket_read, head_read, field_due, name_read, whole, LiteralState, at, read, begin_plain, close_unit, close_empty, begin, close_arguments, close_tuple, close_parens, close_array, close_fields, close, after_number, after_bracket, after_head, take_name, take_equals, step, frame_kinds, frames_prefix, prefix}

abbrev FitsAfter : Kinds → LexemeKind → Option LiteralState → Type 0
FitsAfter before kind o = IfSome o (λ next. prefix next ≡ before ++ kind ∷ [])

-- ---- lists of lexemes

stays : (F P Q : Kinds) (kind : LexemeKind) → Q ≡ P ++ kind ∷ [] → F ++ Q ≡ F ++ P ++ kind ∷ []
stays F P Q kind e = ap (λ xs. F ++ xs) e ∙ sym (append_assoc F P (kind ∷ []))

opens : (F P G : Kinds) (kind : LexemeKind) → G ≡ P ++ kind ∷ [] → F ++ G ++ [] ≡ F ++ P ++ kind ∷ []
opens F P G kind e = append-nil (F ++ G) ∙ stays F P G kind e

closes : (F G V Q : Kinds) (kind : LexemeKind) → Q ≡ G ++ (V ++ kind ∷ []) → F ++ Q ≡ F ++ G ++ V ++ kind ∷ []
closes F G V Q kind e =
    ap (λ xs. F ++ xs) e ∙ sym (append_assoc F G (V ++ kind ∷ [])) ∙ sym (append_assoc (F ++ G) V (kind ∷ []))

turns : (F G V H : Kinds) (kind : LexemeKind) → H ≡ G ++ (V ++ kind ∷ []) → F ++ H ++ [] ≡ F ++ G ++ V ++ kind ∷ []
turns F G V H kind e = append-nil (F ++ H) ∙ closes F G V H kind e

pub shut : (L A R V C : Kinds) → L ++ (A ++ R ++ V ++ C) ≡ (L ++ (A ++ R)) ++ (V ++ C)
shut L A R V C = simp append_assoc

grown : (L A R V C : Kinds) → L ++ (A ++ (R ++ V ++ C)) ≡ (L ++ (A ++ R)) ++ (V ++ C)
grown L A R V C = simp append_assoc

row_grown : (L A R S V C : Kinds) → L ++ (A ++ (R ++ S ++ V ++ C)) ≡ (L ++ (A ++ R ++ S)) ++ (V ++ C)
row_grown L A R S V C = simp append_assoc

empty_row : (L H O : Kinds) → L ++ (H ++ O ++ []) ≡ L ++ H ++ O
empty_row L H O = ap (λ xs. L ++ xs) (append-nil (H ++ O)) ∙ sym (append_assoc L H O)

one_longer : (L B X E : Kinds) → L ++ (B ++ (X ++ E)) ≡ (L ++ (B ++ X)) ++ E
one_longer L B X E = simp append_assoc

-- ---- numbers

-- ---- the beginning of a literal

word_fits : (fs : List LiteralFrame) (l : Option ℕ) (x : Name) (b c d : Bool) → bytes_eq x true_name ≡ b → bytes_eq x false_name ≡ c → bytes_eq x ref_name ≡ d →
    FitsAfter (frames_prefix fs ++ label_kinds l) (kinds.Lower x)
    (if b then read fs l (truth true) else (if c then read fs l (truth false) else (if d then Some (at fs (head_read l ref_head)) else None)))
word_fits fs l x true c d h i j = let e = (bytes_eq-Decides x true_name).0 h in
    stays (frames_prefix fs) (label_kinds l) (label_kinds l ++ lower true_name) (kinds.Lower x) (ap (λ n. label_kinds l ++ lower n) (sym e))
word_fits fs l x false true d h i j = let e = (bytes_eq-Decides x false_name).0 i in
    stays (frames_prefix fs) (label_kinds l) (label_kinds l ++ lower false_name) (kinds.Lower x) (ap (λ n. label_kinds l ++ lower n) (sym e))
word_fits fs l x false false true h i j = let e = (bytes_eq-Decides x ref_name).0 j in
    stays (frames_prefix fs) (label_kinds l) (label_kinds l ++ lower ref_name) (kinds.Lower x) (ap (λ n. label_kinds l ++ lower n) (sym e))
word_fits fs l x false false false h i j = tt

-- If one lexeme follows a label, then the lexemes read grow by this lexeme.
labelled_one : (fs : List LiteralFrame) (l : Option ℕ) (kind : LexemeKind) → frames_prefix fs ++ (label_kinds l ++ kind ∷ []) ≡ frames_prefix fs ++ label_kinds l ++ kind ∷ []
labelled_one fs l kind = stays (frames_prefix fs) (label_kinds l) (label_kinds l ++ kind ∷ []) kind refl

labelled_open : (fs : List LiteralFrame) (l : Option ℕ) (kind : LexemeKind) → frames_prefix fs ++ (label_kinds l ++ kind ∷ []) ++ [] ≡ frames_prefix fs ++ label_kinds l ++ kind ∷ []
labelled_open fs l kind = opens (frames_prefix fs) (label_kinds l) (label_kinds l ++ kind ∷ []) kind refl

plain_fits : (fs : List LiteralFrame) (l : Option ℕ) (kind : LexemeKind) → FitsAfter (frames_prefix fs ++ label_kinds l) kind (begin_plain fs l kind)
plain_fits fs l (kinds.Integer i) = labelled_one fs l (kinds.Integer i)
plain_fits fs l (kinds.Character c) = labelled_one fs l (kinds.Character c)
plain_fits fs l (kinds.Text s) = labelled_one fs l (kinds.Text s)
plain_fits fs l (kinds.Double d) = labelled_one fs l (kinds.Double d)
plain_fits fs l (kinds.Lower x) = word_fits fs l x (bytes_eq x true_name) (bytes_eq x false_name) (bytes_eq x ref_name) refl refl refl
plain_fits fs l (kinds.Upper x) = labelled_one fs l (kinds.Upper x)
plain_fits fs l (kinds.Tag x) = labelled_one fs l (kinds.Tag x)
plain_fits fs l (kinds.Symbol symbols.DoubleColon) = labelled_one fs l (kinds.Symbol symbols.DoubleColon)
plain_fits fs l (kinds.Symbol symbols.OpenBracket) = labelled_one fs l (kinds.Symbol symbols.OpenBracket)
plain_fits fs l (kinds.Symbol symbols.OpenParen) = labelled_open fs l (kinds.Symbol symbols.OpenParen)
plain_fits fs l (kinds.Symbol symbols.OpenArray) = labelled_open fs l (kinds.Symbol symbols.OpenArray)
plain_fits fs l (kinds.Symbol symbols.OpenBrace) = labelled_one fs l (kinds.Symbol symbols.OpenBrace)
plain_fits fs l kind = tt

unit_fits : (fs : List LiteralFrame) → FitsAfter (frames_prefix fs ++ []) (kinds.Symbol symbols.CloseParen) (close_unit fs)
unit_fits (in_parens l no_parts ∷ fs) =
    closes (frames_prefix fs) (label_kinds l ++ mark symbols.OpenParen) [] (label_kinds l ++ (mark symbols.OpenParen ++ mark symbols.CloseParen)) (kinds.Symbol symbols.CloseParen)
    (sym (append_assoc (label_kinds l) (mark symbols.OpenParen) (mark symbols.CloseParen)))
unit_fits fs = tt

empty_fits : (fs : List LiteralFrame) → FitsAfter (frames_prefix fs ++ []) (kinds.Symbol symbols.CloseArray) (close_empty fs)
empty_fits (in_array l no_parts ∷ fs) =
    closes (frames_prefix fs) (label_kinds l ++ mark symbols.OpenArray) [] (label_kinds l ++ (mark symbols.OpenArray ++ mark symbols.CloseArray)) (kinds.Symbol symbols.CloseArray)
    (sym (append_assoc (label_kinds l) (mark symbols.OpenArray) (mark symbols.CloseArray)))
empty_fits fs = tt

begin_fits : (fs : List LiteralFrame) (kind : LexemeKind) → FitsAfter (frames_prefix fs ++ []) kind (begin fs kind)
begin_fits fs (kinds.Symbol symbols.Hash) = stays (frames_prefix fs) [] (mark symbols.Hash) (kinds.Symbol symbols.Hash) refl
begin_fits fs (kinds.Symbol symbols.CloseParen) = unit_fits fs
begin_fits fs (kinds.Symbol symbols.CloseArray) = empty_fits fs
begin_fits fs kind = plain_fits fs None kind

-- ---- the end of a literal

module _ (fs : List LiteralFrame) (l : Option ℕ) where
  arguments_fit : (h : LiteralHead) (ps : Parts) (v : Literal) (kind : LexemeKind) →
      FitsAfter (frames_prefix (in_arguments l h ps ∷ fs) ++ literal_kinds v) kind (close_arguments fs l h ps v kind)
  arguments_fit h ps v (kinds.Symbol symbols.Comma) =
      turns (frames_prefix fs) (frame_kinds (in_arguments l h ps)) (literal_kinds v) (frame_kinds (in_arguments l h (more_parts ps v))) (kinds.Symbol symbols.Comma)
      (grown (label_kinds l) (head_kinds h ++ mark symbols.OpenParen) (parts_kinds symbols.Comma ps) (literal_kinds v) (mark symbols.Comma))
  arguments_fit h ps v (kinds.Symbol symbols.CloseParen) =
      closes (frames_prefix fs) (frame_kinds (in_arguments l h ps)) (literal_kinds v) _ (kinds.Symbol symbols.CloseParen)
      (shut (label_kinds l) (head_kinds h ++ mark symbols.OpenParen) (parts_kinds symbols.Comma ps) (literal_kinds v) (mark symbols.CloseParen))
  arguments_fit h ps v kind = tt

  tuple_fits : (ps : Parts) (v : Literal) →
      FitsAfter (frames_prefix (in_parens l ps ∷ fs) ++ literal_kinds v) (kinds.Symbol symbols.CloseParen) (close_tuple fs l ps v)
  tuple_fits no_parts v = tt
  tuple_fits (more_parts ps u) v =
      closes (frames_prefix fs) (frame_kinds (in_parens l (more_parts ps u))) (literal_kinds v) _ (kinds.Symbol symbols.CloseParen)
      (shut (label_kinds l) (mark symbols.OpenParen) (parts_kinds symbols.Comma (more_parts ps u)) (literal_kinds v) (mark symbols.CloseParen))

  parens_fit : (ps : Parts) (v : Literal) (kind : LexemeKind) →
      FitsAfter (frames_prefix (in_parens l ps ∷ fs) ++ literal_kinds v) kind (close_parens fs l ps v kind)
  parens_fit ps v (kinds.Symbol symbols.Comma) =
      turns (frames_prefix fs) (frame_kinds (in_parens l ps)) (literal_kinds v) (frame_kinds (in_parens l (more_parts ps v))) (kinds.Symbol symbols.Comma)
      (grown (label_kinds l) (mark symbols.OpenParen) (parts_kinds symbols.Comma ps) (literal_kinds v) (mark symbols.Comma))
  parens_fit ps v (kinds.Symbol symbols.CloseParen) = tuple_fits ps v
  parens_fit ps v kind = tt

  array_fits : (ps : Parts) (v : Literal) (kind : LexemeKind) →
      FitsAfter (frames_prefix (in_array l ps ∷ fs) ++ literal_kinds v) kind (close_array fs l ps v kind)
  array_fits ps v (kinds.Symbol symbols.Semicolon) =
      turns (frames_prefix fs) (frame_kinds (in_array l ps)) (literal_kinds v) (frame_kinds (in_array l (more_parts ps v))) (kinds.Symbol symbols.Semicolon)
      (grown (label_kinds l) (mark symbols.OpenArray) (parts_kinds symbols.Semicolon ps) (literal_kinds v) (mark symbols.Semicolon))
  array_fits ps v (kinds.Symbol symbols.CloseArray) =
      closes (frames_prefix fs) (frame_kinds (in_array l ps)) (literal_kinds v) _ (kinds.Symbol symbols.CloseArray)
      (shut (label_kinds l) (mark symbols.OpenArray) (parts_kinds symbols.Semicolon ps) (literal_kinds v) (mark symbols.CloseArray))
  array_fits ps v kind = tt

  fields_fit : (o : Option LiteralHead) (rs : FieldRows) (x : Name) (v : Literal) (kind : LexemeKind) →
      FitsAfter (frames_prefix (in_fields l o rs x ∷ fs) ++ literal_kinds v) kind (close_fields fs l o rs x v kind)
  fields_fit o rs x v (kinds.Symbol symbols.Semicolon) =
      closes (frames_prefix fs) (frame_kinds (in_fields l o rs x)) (literal_kinds v) _ (kinds.Symbol symbols.Semicolon)
      (row_grown (label_kinds l) (owner_kinds o ++ mark symbols.OpenBrace) (rows_kinds rs) (row_start x) (literal_kinds v) (mark symbols.Semicolon))
  fields_fit o rs x v (kinds.Symbol symbols.CloseBrace) =
      closes (frames_prefix fs) (frame_kinds (in_fields l o rs x)) (literal_kinds v) _ (kinds.Symbol symbols.CloseBrace)
      (shut (label_kinds l) (owner_kinds o ++ mark symbols.OpenBrace ++ rows_kinds rs) (row_start x) (literal_kinds v) (mark symbols.CloseBrace))
  fields_fit o rs x v kind = tt

close_fits : (fs : List LiteralFrame) (v : Literal) (kind : LexemeKind) → FitsAfter (frames_prefix fs ++ literal_kinds v) kind (close fs v kind)
close_fits [] v kind = tt
close_fits (in_arguments l h ps ∷ fs) v kind = arguments_fit fs l h ps v kind
close_fits (in_parens l ps ∷ fs) v kind = parens_fit fs l ps v kind
close_fits (in_array l ps ∷ fs) v kind = array_fits fs l ps v kind
close_fits (in_fields l o rs x ∷ fs) v kind = fields_fit fs l o rs x v kind

-- ---- the other phases

number_fits : (fs : List LiteralFrame) (kind : LexemeKind) (o : Option ℕ) → number_of kind ≡ o →
    FitsAfter (frames_prefix fs ++ mark symbols.Hash) kind (option_map (λ n. at fs (number_read n)) o)
number_fits fs kind None h = tt
number_fits fs kind (Some n) h =
    stays (frames_prefix fs) (mark symbols.Hash) (reference n) kind (ap (λ k. kinds.Symbol symbols.Hash ∷ k ∷ []) (sym (number_is kind n h)))

after_number_fits : (fs : List LiteralFrame) (k : ℕ) (kind : LexemeKind) → FitsAfter (frames_prefix fs ++ reference k) kind (after_number fs k kind)
after_number_fits fs k (kinds.Symbol symbols.Equals) = stays (frames_prefix fs) (reference k) (label_kinds (Some k)) (kinds.Symbol symbols.Equals) refl
after_number_fits fs k kind = close_fits fs (again k) kind

bracket_fits : (fs : List LiteralFrame) (l : Option ℕ) (kind : LexemeKind) → FitsAfter (frames_prefix fs ++ (label_kinds l ++ mark symbols.OpenBracket)) kind (after_bracket fs l kind)
bracket_fits fs l (kinds.Symbol symbols.CloseBracket) =
    stays (frames_prefix fs) (label_kinds l ++ mark symbols.OpenBracket) (label_kinds l ++ (mark symbols.OpenBracket ++ mark symbols.CloseBracket)) (kinds.Symbol symbols.CloseBracket)
    (sym (append_assoc (label_kinds l) (mark symbols.OpenBracket) (mark symbols.CloseBracket)))
bracket_fits fs l kind = tt

head_fits : (fs : List LiteralFrame) (l : Option ℕ) (h : LiteralHead) (kind : LexemeKind) → FitsAfter (frames_prefix fs ++ (label_kinds l ++ head_kinds h)) kind (after_head fs l h kind)
head_fits fs l h (kinds.Symbol symbols.OpenParen) =
    opens (frames_prefix fs) (label_kinds l ++ head_kinds h) (frame_kinds (in_arguments l h no_parts)) (kinds.Symbol symbols.OpenParen)
    (empty_row (label_kinds l) (head_kinds h) (mark symbols.OpenParen))
head_fits fs l h (kinds.Symbol symbols.OpenBrace) =
    stays (frames_prefix fs) (label_kinds l ++ head_kinds h) (label_kinds l ++ (head_kinds h ++ mark symbols.OpenBrace ++ [])) (kinds.Symbol symbols.OpenBrace)
    (empty_row (label_kinds l) (head_kinds h) (mark symbols.OpenBrace))
head_fits fs l h kind = close_fits fs (labelled l (constant h)) kind

name_fits : (fs : List LiteralFrame) (l : Option ℕ) (o : Option LiteralHead) (rs : FieldRows) (kind : LexemeKind) →
    FitsAfter (frames_prefix fs ++ (label_kinds l ++ (owner_kinds o ++ mark symbols.OpenBrace ++ rows_kinds rs))) kind (take_name fs l o rs kind)
name_fits fs l o rs (kinds.Lower x) =
    stays (frames_prefix fs) (label_kinds l ++ (owner_kinds o ++ mark symbols.OpenBrace ++ rows_kinds rs))
    (label_kinds l ++ (owner_kinds o ++ mark symbols.OpenBrace ++ rows_kinds rs ++ lower x)) (kinds.Lower x)
    (sym (append_assoc (label_kinds l) (owner_kinds o ++ mark symbols.OpenBrace ++ rows_kinds rs) (lower x)))
name_fits fs l o rs kind = tt

equals_fits : (fs : List LiteralFrame) (l : Option ℕ) (o : Option LiteralHead) (rs : FieldRows) (x : Name) (kind : LexemeKind) →
    FitsAfter (frames_prefix fs ++ (label_kinds l ++ (owner_kinds o ++ mark symbols.OpenBrace ++ rows_kinds rs ++ lower x))) kind (take_equals fs l o rs x kind)
equals_fits fs l o rs x (kinds.Symbol symbols.Equals) =
    opens (frames_prefix fs) (label_kinds l ++ (owner_kinds o ++ mark symbols.OpenBrace ++ rows_kinds rs ++ lower x)) (frame_kinds (in_fields l o rs x)) (kinds.Symbol symbols.Equals)
    (one_longer (label_kinds l) (owner_kinds o ++ mark symbols.OpenBrace ++ rows_kinds rs) (lower x) (mark symbols.Equals))
equals_fits fs l o rs x kind = tt

pub step_prefixes : (s : LiteralState) (kind : LexemeKind) → IfSome (step s kind) (λ next. prefix next ≡ prefix s ++ kind ∷ [])
step_prefixes (at fs due) kind = begin_fits fs kind
step_prefixes (at fs hash_read) kind = number_fits fs kind (number_of kind) refl
step_prefixes (at fs (number_read k)) kind = after_number_fits fs k kind
step_prefixes (at fs (plain_due k)) kind = plain_fits fs (Some k) kind
step_prefixes (at fs (bracket_read l)) kind = bracket_fits fs l kind
step_prefixes (at fs (head_read l h)) kind = head_fits fs l h kind
step_prefixes (at fs (field_due l o rs)) kind = name_fits fs l o rs kind
step_prefixes (at fs (name_read l o rs x)) kind = equals_fits fs l o rs x kind
step_prefixes (at fs (whole v)) kind = close_fits fs v kind
