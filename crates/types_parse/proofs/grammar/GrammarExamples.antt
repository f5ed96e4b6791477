-- Examples: lists of lexemes and the result of the tables on them, by computation.
use Rattle.std.proofs.Common.{ℕ, suc, ◌≡◌, Bool, false, cond, ltb, [], ◌∷◌, ◌++◌, Option, Some, None, replicate, refl}
use Rattle.std.specs.Prelude.{◌||◌}
use Rattle.types_lex.specs.declared.lexeme.LexemeKind.{LexemeKind}
use Rattle.types_lex.specs.declared.lexeme.LexemeKind.TheVariants as kinds
use Rattle.types_lex.specs.declared.lexeme.Keyword.TheVariants as keywords
use Rattle.types_lex.specs.declared.lexeme.Symbol.{Symbol}
use Rattle.types_lex.specs.declared.lexeme.Symbol.TheVariants as symbols
use Rattle.types_parse.specs.grammar.Grammar.{
  Kinds,
  Texpr,
  App,
  FileTree,
  single,
  starred,
  simple,
  named,
  grouped,
  applied,
  included,
  tag,
  one,
  more,
  bracket,
  word,
  mark,
  no_params,
  listed,
  variant_body,
  ConstrTree,
}
use Rattle.types_parse.specs.grammar.Refusals.{TextReading, text_read, syntax_at, too_deep_at}
use Rattle.types_parse.specs.grammar.Holes.{step, ended, still_open}
use Rattle.types_parse.specs.grammar.File.{declarations, file_start, file_accepted}
use Rattle.types_parse.specs.grammar.Alone.{types, type_start, type_accepted}

-- ---- the tables as a plain program

abbrev end_of : {Text : Type 0} → Option Text → ℕ → TextReading Text
end_of (Some t) k = text_read t
end_of None k = syntax_at k

module _ {State Text : Type 0} (step : State → LexemeKind → Option State) (deep : State → Bool)
    (accepted : State → Option Text) where
  abbrev reading : State → ℕ → Kinds → TextReading Text
  reading s k [] = end_of (accepted s) k
  reading s k (kind ∷ rest) =
      elim (step s kind) [
        | None ↦ syntax_at k
        | Some n ↦ cond (deep n) (too_deep_at k)
            (reading n (suc k) rest)
      ]

abbrev of_file : Kinds → TextReading FileTree
of_file xs = reading (step declarations)
    (λ s. ltb 200 (ended s) || ltb 200 (still_open declarations s)) file_accepted file_start 0 xs

abbrev of_type : Kinds → TextReading Texpr
of_type xs = reading (step types) (λ s. ltb 200 (ended s) || ltb 200 (still_open types s))
    type_accepted type_start 0 xs

data Answer : Type 0 where
  fine : Answer
  syntax : ℕ → Answer
  too_deep : ℕ → Answer

abbrev known : {Text : Type 0} → TextReading Text → Answer
known (text_read t) = fine
known (syntax_at k) = syntax k
known (too_deep_at k) = too_deep k

abbrev file : Kinds → Answer
file xs = known (of_file xs)

abbrev ty : Kinds → Answer
ty xs = known (of_type xs)

-- ---- lexemes, and the prefix `type t =`

abbrev k : Symbol → LexemeKind
k s = kinds.Symbol s

abbrev t : LexemeKind
t = kinds.Lower (116 ∷ [])

abbrev v : LexemeKind
v = kinds.Variable (97 ∷ [])

abbrev A : LexemeKind
A = kinds.Upper (65 ∷ [])

abbrev b : LexemeKind
b = kinds.Tag (66 ∷ [])

abbrev of : LexemeKind
of = kinds.Keyword keywords.Of

abbrev head : Kinds
head = kinds.Keyword keywords.Type ∷ t ∷ k symbols.Equals ∷ []

abbrev paren : LexemeKind
paren = k symbols.OpenParen

abbrev close : LexemeKind
close = k symbols.CloseParen

abbrev star : LexemeKind
star = k symbols.Star

abbrev bar : LexemeKind
bar = k symbols.Bar

-- ---- files and groups

empty_file : file [] ≡ fine
empty_file = refl

-- type
word_alone : file (word keywords.Type) ≡ syntax 1
word_alone = refl

-- type t = t ;;  type t = t ;; ;;  ;;
one_end : file (head ++ t ∷ k symbols.DoubleSemicolon ∷ []) ≡ fine
one_end = refl

two_ends : file (head ++ t ∷ k symbols.DoubleSemicolon ∷ k symbols.DoubleSemicolon ∷ []) ≡ syntax 5
two_ends = refl

end_first : file (mark symbols.DoubleSemicolon) ≡ syntax 0
end_first = refl

-- type t = t type t = t ;; and
ended_group : file (head ++ t ∷ [] ++ head ++ t ∷ k symbols.DoubleSemicolon ∷ kinds.Keyword
    keywords.And ∷ []) ≡ syntax 9
ended_group = refl

-- ---- variants

-- type t = A | A  type t = | A  type t = | | A  type t = |
twice : file (head ++ A ∷ bar ∷ A ∷ []) ≡ fine
twice = refl

leading_bar : file (head ++ bar ∷ A ∷ []) ≡ fine
leading_bar = refl

two_bars : file (head ++ bar ∷ bar ∷ A ∷ []) ≡ syntax 4
two_bars = refl

bar_alone : file (head ++ bar ∷ []) ≡ syntax 4
bar_alone = refl

-- type t = A of t * t: two arguments; type t = A of (t * t): one argument
abbrev variant_of : ConstrTree → FileTree
variant_of c = record {
  first = record {
    params = no_params;
    name = 116 ∷ [];
    body =
        variant_body false c [];
  };
  more = [];
  ended = false;
} ∷ []

abbrev t_app : App
t_app = simple (named (116 ∷ []))

two_arguments : of_file (head ++ A ∷ of ∷ t ∷ star ∷ t ∷ [])
    ≡ text_read (variant_of (record { name = 65 ∷ []; arguments = listed t_app (t_app ∷ []) }))
two_arguments = refl

one_argument : of_file (head ++ A ∷ of ∷ paren ∷ t ∷ star ∷ t ∷ close ∷ [])
    ≡ text_read (variant_of (record {
      name = 65 ∷ [];
      arguments =
          listed (simple (grouped (starred (single t_app) t_app))) [];
    }))
one_argument = refl

-- type t = A of (t, t): a type name must follow
no_pairs : file (head ++ A ∷ of ∷ paren ∷ t ∷ k symbols.Comma ∷ t ∷ close ∷ []) ≡ syntax 10
no_pairs = refl

-- type t = A of { t : t } * t
record_then_more : file (head ++ A ∷ of ∷ k symbols.OpenBrace ∷ t ∷ k symbols.Colon ∷ t ∷ k
    symbols.CloseBrace ∷ star ∷ []) ≡ syntax 10
record_then_more = refl

-- ---- records

-- type t = { }  { ; }  { t : t ; }  { t : t ;; }
no_field : file (head ++ k symbols.OpenBrace ∷ k symbols.CloseBrace ∷ []) ≡ syntax 4
no_field = refl

semicolon_alone : file (head ++ k symbols.OpenBrace ∷ k symbols.Semicolon ∷ []) ≡ syntax 4
semicolon_alone = refl

closing_semicolon : file (head ++ k symbols.OpenBrace ∷ t ∷ k symbols.Colon ∷ t ∷ k
    symbols.Semicolon ∷ k symbols.CloseBrace ∷ []) ≡ fine
closing_semicolon = refl

double_semicolon : file (head ++ k symbols.OpenBrace ∷ t ∷ k symbols.Colon ∷ t ∷ k
    symbols.DoubleSemicolon ∷ []) ≡ syntax 7
double_semicolon = refl

-- ---- brackets

-- [ ]  [ | ]  [ | `B ]  [| `B
no_item : ty (k symbols.OpenBracket ∷ k symbols.CloseBracket ∷ []) ≡ syntax 1
no_item = refl

bar_and_no_item : ty (k symbols.OpenBracket ∷ bar ∷ k symbols.CloseBracket ∷ []) ≡ syntax 2
bar_and_no_item = refl

bar_and_item : ty (k symbols.OpenBracket ∷ bar ∷ b ∷ k symbols.CloseBracket ∷ []) ≡ fine
bar_and_item = refl

array_bracket : ty (k symbols.OpenArray ∷ b ∷ []) ≡ syntax 0
array_bracket = refl

-- [ t t | `B | 'a ]: an included type may have arguments, and may be a variable; [ t * t ]
included_first : of_type (k symbols.OpenBracket ∷ t ∷ t ∷ bar ∷ b ∷ k symbols.CloseBracket ∷ [])
    ≡ text_read (single (simple (bracket false (more (one (included (applied t_app (116 ∷ []))))
    (tag (66 ∷ []))))))
included_first = refl

included_variable : ty (k symbols.OpenBracket ∷ b ∷ bar ∷ v ∷ k symbols.CloseBracket ∷ []) ≡ fine
included_variable = refl

included_tuple : ty (k symbols.OpenBracket ∷ t ∷ star ∷ []) ≡ syntax 2
included_tuple = refl

-- [ `B of t * t | t ]: the argument of a tag may be a tuple
tag_of_tuple : ty (k symbols.OpenBracket ∷ b ∷ of ∷ t ∷ star ∷ t ∷ bar ∷ t ∷ k
    symbols.CloseBracket ∷ []) ≡ fine
tag_of_tuple = refl

-- ---- types by themselves

-- t t  'a  (t, t)  (t, t) * t  ()
applied_type : ty (t ∷ t ∷ []) ≡ fine
applied_type = refl

variable_type : ty (v ∷ []) ≡ fine
variable_type = refl

no_name : ty (paren ∷ t ∷ k symbols.Comma ∷ t ∷ close ∷ []) ≡ syntax 5
no_name = refl

no_name_star : ty (paren ∷ t ∷ k symbols.Comma ∷ t ∷ close ∷ star ∷ []) ≡ syntax 5
no_name_star = refl

no_type : ty (paren ∷ close ∷ []) ≡ syntax 1
no_type = refl

-- ---- too deep

abbrev many : ℕ → LexemeKind → Kinds
many n kind = replicate n kind

-- A name in 199 parentheses has depth 200. In 200 parentheses, the last one ends a type of depth
-- 201.
parentheses_199 : ty (many 199 paren ++ t ∷ many 199 close) ≡ fine
parentheses_199 = refl

parentheses_200 : ty (many 200 paren ++ t ∷ many 200 close) ≡ too_deep 400
parentheses_200 = refl

parentheses_201 : ty (many 201 paren ++ t ∷ many 201 close) ≡ too_deep 200
parentheses_201 = refl

-- If 200 parentheses are open, no error is reported. If both errors are at one position, the syntax
-- error is reported.
open_200 : ty (many 200 paren) ≡ syntax 200
open_200 = refl

brace_201 : ty (many 200 paren ++ mark symbols.OpenBrace) ≡ syntax 200
brace_201 = refl

bracket_201 : ty (many 200 paren ++ mark symbols.OpenBracket) ≡ too_deep 200
bracket_201 = refl

-- The brace of a record counts as an open bracket.
in_a_record : file (head ++ k symbols.OpenBrace ∷ t ∷ k symbols.Colon ∷ many 200 paren)
    ≡ too_deep 205
in_a_record = refl

-- A name applied 199 times has depth 200. If a tuple has a component of depth 200, the tuple is too
-- deep at the end of the second component.
applied_199 : ty (t ∷ many 199 t) ≡ fine
applied_199 = refl

applied_200 : ty (t ∷ many 200 t) ≡ too_deep 200
applied_200 = refl

tuple_of_deep : ty (t ∷ many 199 t ++ star ∷ t ∷ []) ≡ too_deep 201
tuple_of_deep = refl

-- The depth error does not depend on the lexemes after the error.
tuple_goes_on : ty (t ∷ many 199 t ++ star ∷ t ∷ t ∷ []) ≡ too_deep 201
tuple_goes_on = refl

-- The arguments of a constructor are not a tuple.
arguments_of_deep : file (head ++ A ∷ of ∷ t ∷ many 199 t ++ star ∷ t ∷ []) ≡ fine
arguments_of_deep = refl

-- An included type counts with the depth of an argument.
included_deep : ty (k symbols.OpenBracket ∷ t ∷ many 199 t ++ mark symbols.CloseBracket)
    ≡ too_deep 201
included_deep = refl

-- A closed parenthesis of type parameters is not an open bracket.
parameters : file (kinds.Keyword keywords.Type ∷ paren ∷ v ∷ k symbols.Comma ∷ v ∷ close ∷ t ∷ k
    symbols.Equals ∷ many 200 paren) ≡ syntax 208
parameters = refl
