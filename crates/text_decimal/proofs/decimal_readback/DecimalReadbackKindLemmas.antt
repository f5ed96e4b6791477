-- In a literal, an integer is last or precedes a symbol that cannot continue a number.
use Rattle.std.proofs.Common.{◌≡◌, ℕ, Bool, true, false, [], ◌∷◌, ◌++◌, Option, Some, None, refl, sym, subst, append_assoc}
use Rattle.types_lex.specs.declared.lexeme.LexemeKind.{LexemeKind}
use Rattle.types_lex.specs.declared.lexeme.LexemeKind.TheVariants as kinds
use Rattle.types_lex.specs.declared.lexeme.Symbol.{Symbol}
use Rattle.types_lex.specs.declared.lexeme.Symbol.TheVariants as symbols
use Rattle.types_parse.specs.grammar.Grammar.{Kinds, mark}
use Rattle.text_literal.specs.literal_grammar.Literal.{Literal, labelled, again, Plain, integer, character, string, double, truth, unit, constant, applied, fields, tuple, empty_array, array, Parts, no_parts, more_parts, FieldRows, no_rows, more_rows, LiteralHead, upper_head, tag_head, cons_head, empty_head, ref_head, head_kinds, owner_kinds, label_kinds, literal_kinds, plain_kinds, parts_kinds, rows_kinds, row_start}

-- The symbols that follow integers in literals, which cannot continue a number.
abbrev pub shuts : Symbol → Bool
shuts symbols.CloseArray = true
shuts symbols.CloseParen = true
shuts symbols.CloseBrace = true
shuts symbols.CloseBracket = true
shuts symbols.Comma = true
shuts symbols.Semicolon = true
shuts symbols.Equals = true
shuts symbol = false

-- The list of kinds is empty or begins with a symbol that may follow an integer.
abbrev pub AreShut : Kinds → Type 0
AreShut [] = Unit {0}
AreShut (kinds.Symbol symbol ∷ ks) = shuts symbol ≡ true
AreShut (kind ∷ ks) = ⊥

-- The kinds `ks` may follow the lexeme.
abbrev pub IsBefore : LexemeKind → Kinds → Type 0
IsBefore (kinds.Integer i) ks = AreShut ks
IsBefore (kinds.Variable name) ks = ⊥
IsBefore kind ks = Unit {0}

abbrev pub AreSpaced : Kinds → Type 0
AreSpaced [] = Unit {0}
AreSpaced (k ∷ ks) = IsBefore k ks × AreSpaced ks

-- Splits a list into two parts.
cut : (a b ks : Kinds) → AreSpaced (a ++ (b ++ ks)) → AreSpaced ((a ++ b) ++ ks)
cut a b ks spaced = subst AreSpaced (sym (append_assoc a b ks)) spaced

head_spaced : (h : LiteralHead) (ks : Kinds) → AreSpaced ks → AreSpaced (head_kinds h ++ ks)
head_spaced (upper_head x) ks spaced = (tt, spaced)
head_spaced (tag_head x) ks spaced = (tt, spaced)
head_spaced cons_head ks spaced = (tt, spaced)
head_spaced empty_head ks spaced = (tt, (tt, spaced))
head_spaced ref_head ks spaced = (tt, spaced)

owner_spaced : (o : Option LiteralHead) (ks : Kinds) → AreSpaced ks → AreSpaced (owner_kinds o ++ ks)
owner_spaced None ks spaced = spaced
owner_spaced (Some h) ks spaced = head_spaced h ks spaced

label_spaced : (o : Option ℕ) (ks : Kinds) → AreSpaced ks → AreSpaced (label_kinds o ++ ks)
label_spaced None ks spaced = spaced
label_spaced (Some k) ks spaced = (tt, (refl, (tt, spaced)))

-- If a literal between other lexemes and a symbol is spaced, then the whole list of kinds is
-- spaced.
row : (a kv : Kinds) (s : Symbol) (ks : Kinds) → AreSpaced (a ++ (kv ++ (kinds.Symbol s ∷ ks))) → AreSpaced (((a ++ kv) ++ mark s) ++ ks)
row a kv s ks spaced = cut (a ++ kv) (mark s) ks (cut a kv (kinds.Symbol s ∷ ks) spaced)

mutual
  pub literal_spaced : (v : Literal) (ks : Kinds) → AreShut ks → AreSpaced ks → AreSpaced (literal_kinds v ++ ks)
  literal_spaced (labelled l p) ks shut spaced =
      cut (label_kinds l) (plain_kinds p) ks (label_spaced l (plain_kinds p ++ ks) (plain_spaced p ks shut spaced))
  literal_spaced (again k) ks shut spaced = (tt, (shut, spaced))

  plain_spaced : (p : Plain) (ks : Kinds) → AreShut ks → AreSpaced ks → AreSpaced (plain_kinds p ++ ks)
  plain_spaced (integer i) ks shut spaced = (shut, spaced)
  plain_spaced (character c) ks shut spaced = (tt, spaced)
  plain_spaced (string s) ks shut spaced = (tt, spaced)
  plain_spaced (double d) ks shut spaced = (tt, spaced)
  plain_spaced (truth b) ks shut spaced = (tt, spaced)
  plain_spaced unit ks shut spaced = (tt, (tt, spaced))
  plain_spaced (constant h) ks shut spaced = head_spaced h ks spaced
  plain_spaced (applied h ps v) ks shut spaced =
      let head : Kinds = head_kinds h in
      let opening : Kinds = mark symbols.OpenParen in
      let parts : Kinds = parts_kinds symbols.Comma ps in
      let last : Kinds = kinds.Symbol symbols.CloseParen ∷ ks in
      let end : Kinds = literal_kinds v ++ last in
      row ((head ++ opening) ++ parts) (literal_kinds v) symbols.CloseParen ks
      (cut (head ++ opening) parts end
      (cut head opening (parts ++ end)
      (head_spaced h (opening ++ (parts ++ end))
      (tt, parts_spaced symbols.Comma refl ps end (literal_spaced v last refl (tt, spaced))))))
  plain_spaced (fields o rs x v) ks shut spaced =
      let owner : Kinds = owner_kinds o in
      let opening : Kinds = mark symbols.OpenBrace in
      let rows : Kinds = rows_kinds rs in
      let last : Kinds = kinds.Symbol symbols.CloseBrace ∷ ks in
      let end : Kinds = literal_kinds v ++ last in
      row (((owner ++ opening) ++ rows) ++ row_start x) (literal_kinds v) symbols.CloseBrace ks
      (cut ((owner ++ opening) ++ rows) (row_start x) end
      (cut (owner ++ opening) rows (row_start x ++ end)
      (cut owner opening (rows ++ (row_start x ++ end))
      (owner_spaced o (opening ++ (rows ++ (row_start x ++ end)))
      (tt, rows_spaced rs (row_start x ++ end) (tt, (tt, literal_spaced v last refl (tt, spaced))))))))
  plain_spaced (tuple ps u v) ks shut spaced =
      let parts : Kinds = parts_kinds symbols.Comma ps in
      let last : Kinds = kinds.Symbol symbols.CloseParen ∷ ks in
      let end : Kinds = literal_kinds v ++ last in
      let comma : Kinds = kinds.Symbol symbols.Comma ∷ end in (
        tt,
        row ((parts ++ literal_kinds u) ++ mark symbols.Comma) (literal_kinds v) symbols.CloseParen ks
            (row parts (literal_kinds u) symbols.Comma end
            (parts_spaced symbols.Comma refl ps (literal_kinds u ++ comma)
            (literal_spaced u comma refl (tt, literal_spaced v last refl (tt, spaced))))),
      )
  plain_spaced empty_array ks shut spaced = (tt, (tt, spaced))
  plain_spaced (array ps v) ks shut spaced =
      let last : Kinds = kinds.Symbol symbols.CloseArray ∷ ks in (
        tt,
        row (parts_kinds symbols.Semicolon ps) (literal_kinds v) symbols.CloseArray ks
            (parts_spaced symbols.Semicolon refl ps (literal_kinds v ++ last) (literal_spaced v last refl (tt, spaced))),
      )

  parts_spaced : (separator : Symbol) → shuts separator ≡ true → (ps : Parts) (ks : Kinds) → AreSpaced ks → AreSpaced (parts_kinds separator ps ++ ks)
  parts_spaced separator parted no_parts ks spaced = spaced
  parts_spaced separator parted (more_parts ps v) ks spaced =
      let next : Kinds = kinds.Symbol separator ∷ ks in
      row (parts_kinds separator ps) (literal_kinds v) separator ks
      (parts_spaced separator parted ps (literal_kinds v ++ next) (literal_spaced v next parted (tt, spaced)))

  rows_spaced : (rs : FieldRows) (ks : Kinds) → AreSpaced ks → AreSpaced (rows_kinds rs ++ ks)
  rows_spaced no_rows ks spaced = spaced
  rows_spaced (more_rows rs x v) ks spaced =
      let next : Kinds = kinds.Symbol symbols.Semicolon ∷ ks in
      let end : Kinds = literal_kinds v ++ next in
      row (rows_kinds rs ++ row_start x) (literal_kinds v) symbols.Semicolon ks
      (cut (rows_kinds rs) (row_start x) end
      (rows_spaced rs (row_start x ++ end) (tt, (tt, literal_spaced v next refl (tt, spaced)))))
