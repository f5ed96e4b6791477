-- The executable parser agrees with the parsing table: the state of the table determines the nodes,
-- the brackets and the stage.
use Rattle.std.proofs.Common.{ℕ, suc, ◌+◌, ◌-◌, ◌^◌, ◌≡◌, ◌≤◌, ◌<◌, ◌∙◌, Bool, true, false, List, [], ◌∷◌, ◌++◌, length, Option, Some, None, refl, sym, ap, arith, append_assoc, append-nil, length-append}
use Rattle.std.specs.Prelude.{◌==◌, option_map, slice_set, if◌then◌else◌}
use Rattle.std.specs.Str.{bytes_eq}
use Rattle.types_lex.specs.declared.lexeme.LexemeKind.{LexemeKind}
use Rattle.types_lex.specs.declared.lexeme.LexemeKind.TheVariants as kinds
use Rattle.types_lex.specs.declared.lexeme.Symbol.{Symbol}
use Rattle.types_lex.specs.declared.lexeme.Symbol.TheVariants as symbols
use Rattle.types_parse.specs.grammar.Grammar.{Name, Kinds, mark}
use Rattle.text_literal.specs.declared.literal_grammar.literal_node.NodeForm.{NodeForm}
use Rattle.text_literal.specs.declared.literal_grammar.literal_node.NodeForm.TheVariants as forms
use Rattle.text_literal.specs.declared.literal_grammar.literal_node.LiteralNode.{LiteralNode}
use Rattle.text_literal.specs.declared.literal_grammar.pending_node.OpenKind.{OpenKind}
use Rattle.text_literal.specs.declared.literal_grammar.pending_node.OpenKind.TheVariants as brackets
use Rattle.text_literal.specs.declared.literal_grammar.pending_node.PendingNode.{PendingNode}
use Rattle.text_literal.specs.declared.literal_grammar.pending_node.Stage.{Stage}
use Rattle.text_literal.specs.declared.literal_grammar.pending_node.Stage.TheVariants as stages
use Rattle.text_literal.specs.literal_grammar.Literal.{LiteralHead, ref_head, Literal, labelled, again, truth, constant, Parts, no_parts, more_parts, FieldRows, no_rows, more_rows, label_kinds, true_name, false_name, ref_name, head_kinds, owner_kinds, row_start, literal_kinds, parts_kinds, rows_kinds}
use Rattle.types_parse.specs.grammar.LexemeKinds.{number_of}
use Rattle.text_literal.specs.literal_grammar.LiteralMachine.{LiteralFrame, in_arguments, in_parens, in_array, in_fields, Phase, due, hash_read, number_read, plain_due, bracket_read, head_read, field_due, name_read, whole, LiteralState, at, read, begin_plain, close_unit, close_empty, begin, close_arguments, close_tuple, close_parens, close_array, close_fields, close, step, frame_kinds, frames_prefix, prefix}
use Rattle.text_literal.specs.literal_grammar.LiteralNodes.{node, count, rows_count, literal_nodes, parts_nodes, rows_nodes}
use Rattle.text_literal.specs.literal_grammar.LiteralCode.{Code, code, next_number, with_part, with_form, opened, begun_as, begin_plain_code, close_unit_code, close_empty_code, begin_code, close_code, close_arguments_code, close_parens_code, close_array_code, close_fields_code, shut_tuple_code, step_code}

-- ---- the data of the code for a state of the table

abbrev owner_form : Option LiteralHead → NodeForm
owner_form None = forms.Fields
owner_form (Some h) = forms.Named

-- The node of an open bracket as it is while the node's parts are read, followed by the nodes of
-- these parts.
abbrev frame_nodes : ℕ → LiteralFrame → List LiteralNode
frame_nodes k (in_arguments l h ps) = node forms.Named l k 0 ∷ parts_nodes symbols.Comma (k + length (label_kinds l ++ (head_kinds h ++ mark symbols.OpenParen))) ps
frame_nodes k (in_parens l ps) = node forms.Unit l k 0 ∷ parts_nodes symbols.Comma (k + length (label_kinds l ++ mark symbols.OpenParen)) ps
frame_nodes k (in_array l ps) = node forms.Array l k 0 ∷ parts_nodes symbols.Semicolon (k + length (label_kinds l ++ mark symbols.OpenArray)) ps
frame_nodes k (in_fields l o rs x) = node (owner_form o) l k 0 ∷ rows_nodes (k + length (label_kinds l ++ (owner_kinds o ++ mark symbols.OpenBrace))) rs

abbrev frames_nodes : List LiteralFrame → List LiteralNode
frames_nodes [] = []
frames_nodes (f ∷ fs) = frames_nodes fs ++ frame_nodes (length (frames_prefix fs)) f

abbrev frame_open : ℕ → ℕ → LiteralFrame → PendingNode
frame_open i k (in_arguments l h ps) = opened brackets.Arguments i (node forms.Named l k (count ps))
frame_open i k (in_parens l ps) = opened brackets.Parens i (node forms.Unit l k (count ps))
frame_open i k (in_array l ps) = opened brackets.Array i (node forms.Array l k (count ps))
frame_open i k (in_fields l o rs x) = opened brackets.Fields i (node forms.Fields l k (rows_count rs))

abbrev opens_of : List LiteralFrame → List PendingNode
opens_of [] = []
opens_of (f ∷ fs) = frame_open (length (frames_nodes fs)) (length (frames_prefix fs)) f ∷ opens_of fs

abbrev phase_nodes : ℕ → Phase → List LiteralNode
phase_nodes k (bracket_read l) = node forms.Named l k 0 ∷ []
phase_nodes k (head_read l h) = node forms.Named l k 0 ∷ []
phase_nodes k (field_due l o rs) = node (owner_form o) l k 0 ∷ rows_nodes (k + length (label_kinds l ++ (owner_kinds o ++ mark symbols.OpenBrace))) rs
phase_nodes k (name_read l o rs x) = node (owner_form o) l k 0 ∷ rows_nodes (k + length (label_kinds l ++ (owner_kinds o ++ mark symbols.OpenBrace))) rs
phase_nodes k (whole v) = literal_nodes k v
phase_nodes k phase = []

abbrev phase_stage : ℕ → ℕ → Phase → Stage
phase_stage i k due = stages.Due
phase_stage i k hash_read = stages.Hash k
phase_stage i k (number_read n) = stages.Number k n
phase_stage i k (plain_due n) = stages.PlainDue k n
phase_stage i k (bracket_read l) = stages.Bracket i (node forms.Named l k 0)
phase_stage i k (head_read l h) = stages.Head i (node forms.Named l k 0)
phase_stage i k (field_due l o rs) = stages.FieldDue i (node forms.Fields l k (rows_count rs))
phase_stage i k (name_read l o rs x) = stages.NameRead i (node forms.Fields l k (rows_count rs))
phase_stage i k (whole v) = stages.Whole

abbrev pub code_of : LiteralState → Code
code_of (at fs phase) =
    code (frames_nodes fs ++ phase_nodes (length (frames_prefix fs)) phase) (opens_of fs)
    (phase_stage (length (frames_nodes fs)) (length (frames_prefix fs)) phase)

abbrev pub coded : Code → ℕ → LexemeKind → Option Code
coded (code ns os stage) position kind = step_code ns os stage position kind

-- ---- the beginning of a literal

word_follows : (fs : List LiteralFrame) (l : Option ℕ) (x : Name) (b c d : Bool) →
    option_map (begun_as (frames_nodes fs) (opens_of fs) (length (frames_prefix fs)) l (kinds.Lower x))
    (if b then Some forms.Truth else (if c then Some forms.Truth else (if d then Some forms.Named else None)))
    ≡ option_map code_of (if b then read fs l (truth true) else (if c then read fs l (truth false) else (if d then Some (at fs (head_read l ref_head)) else None)))
word_follows fs l x true c d = refl
word_follows fs l x false true d = refl
word_follows fs l x false false true = refl
word_follows fs l x false false false = refl

opens_with : (N : List LiteralNode) (n : LiteralNode) (os : List PendingNode) → Some (code (N ++ n ∷ []) os stages.Due) ≡ Some (code (N ++ n ∷ [] ++ []) os stages.Due)
opens_with N n os = ap (λ ns. Some (code ns os stages.Due)) (sym (append-nil (N ++ n ∷ [])))

plain_follows : (fs : List LiteralFrame) (l : Option ℕ) (kind : LexemeKind) →
    begin_plain_code (frames_nodes fs) (opens_of fs) (length (frames_prefix fs)) l kind ≡ option_map code_of (begin_plain fs l kind)
plain_follows fs l (kinds.Lower x) = word_follows fs l x (bytes_eq x true_name) (bytes_eq x false_name) (bytes_eq x ref_name)
plain_follows fs l (kinds.Symbol symbols.OpenParen) = opens_with (frames_nodes fs) (node forms.Unit l (length (frames_prefix fs)) 0) _
plain_follows fs l (kinds.Symbol symbols.OpenArray) = opens_with (frames_nodes fs) (node forms.Array l (length (frames_prefix fs)) 0) _
plain_follows fs l kind = refl

not_none : (n : ℕ) → (suc n == 0) ≡ false
not_none n = grind arith

unit_follows : (fs : List LiteralFrame) → close_unit_code (frames_nodes fs) (opens_of fs) ≡ option_map code_of (close_unit fs)
unit_follows [] = refl
unit_follows (in_arguments l h ps ∷ fs) = refl
unit_follows (in_parens l no_parts ∷ fs) = refl
unit_follows (in_parens l (more_parts ps v) ∷ fs) =
    ap (λ b. if b then Some (code (frames_nodes (in_parens l (more_parts ps v) ∷ fs)) (opens_of fs) stages.Whole) else None) (not_none (count ps))
unit_follows (in_array l ps ∷ fs) = refl
unit_follows (in_fields l o rs x ∷ fs) = refl

empty_follows : (fs : List LiteralFrame) → close_empty_code (frames_nodes fs) (opens_of fs) ≡ option_map code_of (close_empty fs)
empty_follows [] = refl
empty_follows (in_arguments l h ps ∷ fs) = refl
empty_follows (in_parens l ps ∷ fs) = refl
empty_follows (in_array l no_parts ∷ fs) = refl
empty_follows (in_array l (more_parts ps v) ∷ fs) =
    ap (λ b. if b then Some (code (frames_nodes (in_array l (more_parts ps v) ∷ fs)) (opens_of fs) stages.Whole) else None) (not_none (count ps))
empty_follows (in_fields l o rs x ∷ fs) = refl

begin_follows : (fs : List LiteralFrame) (kind : LexemeKind) → begin_code (frames_nodes fs) (opens_of fs) (length (frames_prefix fs)) kind ≡ option_map code_of (begin fs kind)
begin_follows fs (kinds.Symbol symbols.Hash) = ap (λ ns. Some (code ns (opens_of fs) (stages.Hash (length (frames_prefix fs))))) (sym (append-nil (frames_nodes fs)))
begin_follows fs (kinds.Symbol symbols.CloseParen) = unit_follows fs
begin_follows fs (kinds.Symbol symbols.CloseArray) = empty_follows fs
begin_follows fs kind = plain_follows fs None kind

-- ---- the end of a literal

set_there : (A : List LiteralNode) (n m : LiteralNode) (B : List LiteralNode) → slice_set (A ++ n ∷ B) (length A) m ≡ A ++ m ∷ B
set_there [] n m B = refl
set_there (a ∷ A) n m B = ap (λ ns. a ∷ ns) (set_there A n m B)

behind : (N : List LiteralNode) (n : LiteralNode) (T V : List LiteralNode) → (N ++ (n ∷ T)) ++ V ≡ N ++ (n ∷ (T ++ V))
behind N n T V = append_assoc N (n ∷ T) V

next_is : (n : ℕ) → n < 2 ^ 64 - 1 → next_number n ≡ suc n
next_is n h = grind arith

module _ (N : List LiteralNode) (n : LiteralNode) (T : List LiteralNode) {V W : List LiteralNode} (same : V ≡ W) (os : List PendingNode) where
  goes_next : (bracket : OpenKind) (i : ℕ) {m m' : LiteralNode} → m ≡ m' →
      Some (code ((N ++ (n ∷ T)) ++ V) (opened bracket i m ∷ os) stages.Due) ≡ Some (code ((N ++ (n ∷ (T ++ W))) ++ []) (opened bracket i m' ∷ os) stages.Due)
  goes_next bracket i {m} {m'} e =
      ap (λ V. Some (code ((N ++ (n ∷ T)) ++ V) (opened bracket i m ∷ os) stages.Due)) same
      ∙ ap (λ ns. Some (code ns (opened bracket i m ∷ os) stages.Due)) (behind N n T W ∙ sym (append-nil (N ++ (n ∷ (T ++ W)))))
      ∙ ap (λ k. Some (code ((N ++ (n ∷ (T ++ W))) ++ []) (opened bracket i k ∷ os) stages.Due)) e

  goes_field : (i : ℕ) {m m' : LiteralNode} → m ≡ m' →
      Some (code ((N ++ (n ∷ T)) ++ V) os (stages.FieldDue i m)) ≡ Some (code (N ++ (n ∷ (T ++ W))) os (stages.FieldDue i m'))
  goes_field i {m} {m'} e =
      ap (λ V. Some (code ((N ++ (n ∷ T)) ++ V) os (stages.FieldDue i m))) same
      ∙ ap (λ ns. Some (code ns os (stages.FieldDue i m))) (behind N n T W)
      ∙ ap (λ k. Some (code (N ++ (n ∷ (T ++ W))) os (stages.FieldDue i k))) e

  goes_shut : {m m' : LiteralNode} → m ≡ m' →
      Some (code (slice_set ((N ++ (n ∷ T)) ++ V) (length N) m) os stages.Whole) ≡ Some (code (N ++ (m' ∷ (T ++ W))) os stages.Whole)
  goes_shut {m} {m'} e =
      ap (λ V. Some (code (slice_set ((N ++ (n ∷ T)) ++ V) (length N) m) os stages.Whole)) same
      ∙ ap (λ ns. Some (code (slice_set ns (length N) m) os stages.Whole)) (behind N n T W)
      ∙ ap (λ ns. Some (code ns os stages.Whole)) (set_there N n m (T ++ W))
      ∙ ap (λ k. Some (code (N ++ (k ∷ (T ++ W))) os stages.Whole)) e

-- ---- indices of lexemes

there : (F G : Kinds) (v : Literal) → literal_nodes (length (F ++ G)) v ≡ literal_nodes (length F + length G) v
there F G v = ap (λ k. literal_nodes k v) (length-append F G)

in_row : (F L A R : Kinds) (v : Literal) → literal_nodes (length (F ++ (L ++ (A ++ R)))) v ≡ literal_nodes (length F + length (L ++ A) + length R) v
in_row F L A R v = ap (λ k. literal_nodes k v) (lengths F L A R)
  where
    lengths : (F L A R : Kinds) → length (F ++ (L ++ (A ++ R))) ≡ length F + length (L ++ A) + length R
    lengths F L A R = omega (arith, length-append F (L ++ (A ++ R)), length-append L (A ++ R), length-append A R, length-append L A)

in_field_row : (F L A R S : Kinds) (v : Literal) → literal_nodes (length (F ++ (L ++ (A ++ R ++ S)))) v ≡ literal_nodes (length F + length (L ++ A) + length (R ++ S)) v
in_field_row F L A R S v = ap (λ k. literal_nodes k v) (lengths F L A R S)
  where
    lengths : (F L A R S : Kinds) → length (F ++ (L ++ (A ++ R ++ S))) ≡ length F + length (L ++ A) + length (R ++ S)
    lengths F L A R S = omega (arith, length-append F (L ++ (A ++ R ++ S)), length-append L (A ++ R ++ S), length-append (A ++ R) S, length-append A R, length-append L A, length-append R S)

-- ---- there are no more parts than lexemes

few_parts : (separator : Symbol) (ps : Parts) → count ps ≤ length (parts_kinds separator ps)
few_parts separator no_parts = omega arith
few_parts separator (more_parts ps v) =
    omega (arith, few_parts separator ps, length-append (parts_kinds separator ps ++ literal_kinds v) (mark separator), length-append (parts_kinds separator ps) (literal_kinds v))

few_rows : (rs : FieldRows) → rows_count rs ≤ length (rows_kinds rs)
few_rows no_rows = omega arith
few_rows (more_rows rs x v) =
    omega (arith, few_rows rs, length-append (rows_kinds rs ++ row_start x ++ literal_kinds v) (mark symbols.Semicolon), length-append (rows_kinds rs ++ row_start x) (literal_kinds v), length-append (rows_kinds rs) (row_start x))

few : (F L A R : Kinds) (n : ℕ) → n ≤ length R → length (F ++ (L ++ (A ++ R))) < 2 ^ 64 - 1 → n < 2 ^ 64 - 1
few F L A R n h b = omega (arith, length-append F (L ++ (A ++ R)), length-append L (A ++ R), length-append A R)

few_fields : (F L A R S : Kinds) (n : ℕ) → n ≤ length R → length (F ++ (L ++ (A ++ R ++ S))) < 2 ^ 64 - 1 → n < 2 ^ 64 - 1
few_fields F L A R S n h b = omega (arith, length-append F (L ++ (A ++ R ++ S)), length-append L (A ++ R ++ S), length-append (A ++ R) S, length-append A R)

one_part_more : (form : NodeForm) (l : Option ℕ) (k n : ℕ) → n < 2 ^ 64 - 1 → with_part (node form l k n) ≡ node form l k (suc n)
one_part_more form l k n h = ap (node form l k) (next_is n h)

module _ (fs : List LiteralFrame) (l : Option ℕ) where
  arguments_follow : (h : LiteralHead) (ps : Parts) (v : Literal) (kind : LexemeKind) → length (frames_prefix (in_arguments l h ps ∷ fs)) < 2 ^ 64 - 1 →
      close_arguments_code (frames_nodes (in_arguments l h ps ∷ fs) ++ literal_nodes (length (frames_prefix (in_arguments l h ps ∷ fs))) v) (opens_of fs)
      (frame_open (length (frames_nodes fs)) (length (frames_prefix fs)) (in_arguments l h ps)) kind ≡ option_map code_of (close_arguments fs l h ps v kind)
  arguments_follow h ps v (kinds.Symbol symbols.Comma) b =
      goes_next (frames_nodes fs) _ _ (in_row (frames_prefix fs) (label_kinds l) (head_kinds h ++ mark symbols.OpenParen) (parts_kinds symbols.Comma ps) v) (opens_of fs) brackets.Arguments (length (frames_nodes fs))
      (one_part_more forms.Named l (length (frames_prefix fs)) (count ps) (few (frames_prefix fs) (label_kinds l) (head_kinds h ++ mark symbols.OpenParen) (parts_kinds symbols.Comma ps) (count ps) (few_parts symbols.Comma ps) b))
  arguments_follow h ps v (kinds.Symbol symbols.CloseParen) b =
      goes_shut (frames_nodes fs) _ _ (there (frames_prefix fs) (frame_kinds (in_arguments l h ps)) v) (opens_of fs)
      (one_part_more forms.Named l (length (frames_prefix fs)) (count ps) (few (frames_prefix fs) (label_kinds l) (head_kinds h ++ mark symbols.OpenParen) (parts_kinds symbols.Comma ps) (count ps) (few_parts symbols.Comma ps) b))
  arguments_follow h ps v kind b = refl

  tuple_follows : (ps : Parts) (v : Literal) → length (frames_prefix (in_parens l ps ∷ fs)) < 2 ^ 64 - 1 →
      shut_tuple_code (frames_nodes (in_parens l ps ∷ fs) ++ literal_nodes (length (frames_prefix (in_parens l ps ∷ fs))) v) (opens_of fs)
      (frame_open (length (frames_nodes fs)) (length (frames_prefix fs)) (in_parens l ps)) ≡ option_map code_of (close_tuple fs l ps v)
  tuple_follows no_parts v b = refl
  tuple_follows (more_parts ps u) v b =
      ap (λ none. if none then None else Some (code (slice_set (frames_nodes (in_parens l (more_parts ps u) ∷ fs) ++ literal_nodes (length (frames_prefix (in_parens l (more_parts ps u) ∷ fs))) v) (length (frames_nodes fs))
      (with_form forms.Tuple (with_part (node forms.Unit l (length (frames_prefix fs)) (suc (count ps)))))) (opens_of fs) stages.Whole)) (not_none (count ps))
      ∙ goes_shut (frames_nodes fs) _ _ (there (frames_prefix fs) (frame_kinds (in_parens l (more_parts ps u))) v) (opens_of fs)
      (ap (with_form forms.Tuple) (one_part_more forms.Unit l (length (frames_prefix fs)) (suc (count ps)) (few (frames_prefix fs) (label_kinds l) (mark symbols.OpenParen) (parts_kinds symbols.Comma (more_parts ps u)) (suc (count ps)) (few_parts symbols.Comma (more_parts ps u)) b)))

  parens_follow : (ps : Parts) (v : Literal) (kind : LexemeKind) → length (frames_prefix (in_parens l ps ∷ fs)) < 2 ^ 64 - 1 →
      close_parens_code (frames_nodes (in_parens l ps ∷ fs) ++ literal_nodes (length (frames_prefix (in_parens l ps ∷ fs))) v) (opens_of fs)
      (frame_open (length (frames_nodes fs)) (length (frames_prefix fs)) (in_parens l ps)) kind ≡ option_map code_of (close_parens fs l ps v kind)
  parens_follow ps v (kinds.Symbol symbols.Comma) b =
      goes_next (frames_nodes fs) _ _ (in_row (frames_prefix fs) (label_kinds l) (mark symbols.OpenParen) (parts_kinds symbols.Comma ps) v) (opens_of fs) brackets.Parens (length (frames_nodes fs))
      (one_part_more forms.Unit l (length (frames_prefix fs)) (count ps) (few (frames_prefix fs) (label_kinds l) (mark symbols.OpenParen) (parts_kinds symbols.Comma ps) (count ps) (few_parts symbols.Comma ps) b))
  parens_follow ps v (kinds.Symbol symbols.CloseParen) b = tuple_follows ps v b
  parens_follow ps v kind b = refl

  array_follows : (ps : Parts) (v : Literal) (kind : LexemeKind) → length (frames_prefix (in_array l ps ∷ fs)) < 2 ^ 64 - 1 →
      close_array_code (frames_nodes (in_array l ps ∷ fs) ++ literal_nodes (length (frames_prefix (in_array l ps ∷ fs))) v) (opens_of fs)
      (frame_open (length (frames_nodes fs)) (length (frames_prefix fs)) (in_array l ps)) kind ≡ option_map code_of (close_array fs l ps v kind)
  array_follows ps v (kinds.Symbol symbols.Semicolon) b =
      goes_next (frames_nodes fs) _ _ (in_row (frames_prefix fs) (label_kinds l) (mark symbols.OpenArray) (parts_kinds symbols.Semicolon ps) v) (opens_of fs) brackets.Array (length (frames_nodes fs))
      (one_part_more forms.Array l (length (frames_prefix fs)) (count ps) (few (frames_prefix fs) (label_kinds l) (mark symbols.OpenArray) (parts_kinds symbols.Semicolon ps) (count ps) (few_parts symbols.Semicolon ps) b))
  array_follows ps v (kinds.Symbol symbols.CloseArray) b =
      goes_shut (frames_nodes fs) _ _ (there (frames_prefix fs) (frame_kinds (in_array l ps)) v) (opens_of fs)
      (one_part_more forms.Array l (length (frames_prefix fs)) (count ps) (few (frames_prefix fs) (label_kinds l) (mark symbols.OpenArray) (parts_kinds symbols.Semicolon ps) (count ps) (few_parts symbols.Semicolon ps) b))
  array_follows ps v kind b = refl

  fields_follow : (o : Option LiteralHead) (rs : FieldRows) (x : Name) (v : Literal) (kind : LexemeKind) → length (frames_prefix (in_fields l o rs x ∷ fs)) < 2 ^ 64 - 1 →
      close_fields_code (frames_nodes (in_fields l o rs x ∷ fs) ++ literal_nodes (length (frames_prefix (in_fields l o rs x ∷ fs))) v) (opens_of fs)
      (frame_open (length (frames_nodes fs)) (length (frames_prefix fs)) (in_fields l o rs x)) kind ≡ option_map code_of (close_fields fs l o rs x v kind)
  fields_follow o rs x v (kinds.Symbol symbols.Semicolon) b =
      goes_field (frames_nodes fs) _ _ (in_field_row (frames_prefix fs) (label_kinds l) (owner_kinds o ++ mark symbols.OpenBrace) (rows_kinds rs) (row_start x) v) (opens_of fs) (length (frames_nodes fs))
      (one_part_more forms.Fields l (length (frames_prefix fs)) (rows_count rs) (few_fields (frames_prefix fs) (label_kinds l) (owner_kinds o ++ mark symbols.OpenBrace) (rows_kinds rs) (row_start x) (rows_count rs) (few_rows rs) b))
  fields_follow o rs x v (kinds.Symbol symbols.CloseBrace) b =
      goes_shut (frames_nodes fs) _ _ (there (frames_prefix fs) (frame_kinds (in_fields l o rs x)) v) (opens_of fs)
      (one_part_more forms.Fields l (length (frames_prefix fs)) (rows_count rs) (few_fields (frames_prefix fs) (label_kinds l) (owner_kinds o ++ mark symbols.OpenBrace) (rows_kinds rs) (row_start x) (rows_count rs) (few_rows rs) b))
  fields_follow o rs x v kind b = refl

close_follows : (fs : List LiteralFrame) (v : Literal) (kind : LexemeKind) → length (frames_prefix fs) < 2 ^ 64 - 1 →
    close_code (frames_nodes fs ++ literal_nodes (length (frames_prefix fs)) v) (opens_of fs) kind ≡ option_map code_of (close fs v kind)
close_follows [] v kind b = refl
close_follows (in_arguments l h ps ∷ fs) v kind b = arguments_follow fs l h ps v kind b
close_follows (in_parens l ps ∷ fs) v kind b = parens_follow fs l ps v kind b
close_follows (in_array l ps ∷ fs) v kind b = array_follows fs l ps v kind b
close_follows (in_fields l o rs x ∷ fs) v kind b = fields_follow fs l o rs x v kind b

-- ---- one lexeme

number_follows : (fs : List LiteralFrame) (o : Option ℕ) →
    option_map (λ n. code (frames_nodes fs ++ []) (opens_of fs) (stages.Number (length (frames_prefix fs)) n)) o ≡ option_map code_of (option_map (λ n. at fs (number_read n)) o)
number_follows fs None = refl
number_follows fs (Some n) = refl

module _ (fs : List LiteralFrame) where
  after_number_follows : (n : ℕ) (kind : LexemeKind) → length (frames_prefix fs) < 2 ^ 64 - 1 →
      coded (code_of (at fs (number_read n))) 0 kind ≡ option_map code_of (step (at fs (number_read n)) kind)
  after_number_follows n (kinds.Symbol symbols.Equals) b = refl
  after_number_follows n kind b =
      ap (λ ns. close_code (ns ++ node forms.Again (Some n) (length (frames_prefix fs)) 0 ∷ []) (opens_of fs) kind) (append-nil (frames_nodes fs)) ∙ close_follows fs (again n) kind b

  after_head_follows : (l : Option ℕ) (h : LiteralHead) (kind : LexemeKind) → length (frames_prefix fs) < 2 ^ 64 - 1 →
      coded (code_of (at fs (head_read l h))) 0 kind ≡ option_map code_of (step (at fs (head_read l h)) kind)
  after_head_follows l h (kinds.Symbol symbols.OpenParen) b = opens_with (frames_nodes fs) (node forms.Named l (length (frames_prefix fs)) 0) _
  after_head_follows l h (kinds.Symbol symbols.OpenBrace) b = refl
  after_head_follows l h kind b = close_follows fs (labelled l (constant h)) kind b

  bracket_follows : (l : Option ℕ) (kind : LexemeKind) → coded (code_of (at fs (bracket_read l))) 0 kind ≡ option_map code_of (step (at fs (bracket_read l)) kind)
  bracket_follows l (kinds.Symbol symbols.CloseBracket) = refl
  bracket_follows l kind = refl

  name_follows : (l : Option ℕ) (o : Option LiteralHead) (rs : FieldRows) (kind : LexemeKind) → coded (code_of (at fs (field_due l o rs))) 0 kind ≡ option_map code_of (step (at fs (field_due l o rs)) kind)
  name_follows l o rs (kinds.Lower x) = refl
  name_follows l o rs kind = refl

  equals_follows : (l : Option ℕ) (o : Option LiteralHead) (rs : FieldRows) (x : Name) (kind : LexemeKind) →
      coded (code_of (at fs (name_read l o rs x))) 0 kind ≡ option_map code_of (step (at fs (name_read l o rs x)) kind)
  equals_follows l o rs x (kinds.Symbol symbols.Equals) =
      ap (λ ns. Some (code ns (opens_of (in_fields l o rs x ∷ fs)) stages.Due)) (sym (append-nil (frames_nodes (in_fields l o rs x ∷ fs))))
  equals_follows l o rs x kind = refl

frames_few : (fs : List LiteralFrame) (P : Kinds) → length (frames_prefix fs ++ P) < 2 ^ 64 - 1 → length (frames_prefix fs) < 2 ^ 64 - 1
frames_few fs P b = omega (arith, length-append (frames_prefix fs) P)

pub step_follows : (s : LiteralState) (kind : LexemeKind) → length (prefix s) < 2 ^ 64 - 1 → coded (code_of s) (length (prefix s)) kind ≡ option_map code_of (step s kind)
step_follows (at fs due) kind b =
    ap (λ ns. begin_code ns (opens_of fs) (length (frames_prefix fs ++ [])) kind) (append-nil (frames_nodes fs))
    ∙ ap (λ xs. begin_code (frames_nodes fs) (opens_of fs) (length xs) kind) (append-nil (frames_prefix fs)) ∙ begin_follows fs kind
step_follows (at fs hash_read) kind b = number_follows fs (number_of kind)
step_follows (at fs (number_read n)) kind b = after_number_follows fs n kind (frames_few fs _ b)
step_follows (at fs (plain_due n)) kind b =
    ap (λ ns. begin_plain_code ns (opens_of fs) (length (frames_prefix fs)) (Some n) kind) (append-nil (frames_nodes fs)) ∙ plain_follows fs (Some n) kind
step_follows (at fs (bracket_read l)) kind b = bracket_follows fs l kind
step_follows (at fs (head_read l h)) kind b = after_head_follows fs l h kind (frames_few fs _ b)
step_follows (at fs (field_due l o rs)) kind b = name_follows fs l o rs kind
step_follows (at fs (name_read l o rs x)) kind b = equals_follows fs l o rs x kind
step_follows (at fs (whole v)) kind b = close_follows fs v kind (frames_few fs _ b)
