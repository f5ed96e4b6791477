-- Lemmas about the kinds of a prefix of the lexemes, plain numbers, and open brackets.
use Rattle.std.proofs.Common.{ℕ, zero, suc, ◌≡◌, ◌<◌, ℤ, pos, Bool, false, Some, List, [], ◌∷◌, ◌++◌, length, take, get_or, refl, sym, ap, arith}
use Rattle.types_lex.specs.declared.lexeme.Lexeme.{Lexeme}
use Rattle.types_lex.specs.declared.lexeme.LexemeKind.{LexemeKind}
use Rattle.types_lex.specs.declared.lexeme.LexemeKind.TheVariants as kinds
use Rattle.types_lex.specs.declared.lexeme.Suffix.{Suffix}
use Rattle.types_lex.specs.declared.lexeme.Suffix.TheVariants as suffixes
use Rattle.types_parse.specs.grammar.Grammar.{Kinds}
use Rattle.types_parse.specs.grammar.LexemeKinds.{kinds_of, number, plain_number, number_of}
use Rattle.types_parse.specs.grammar.Refusals.{opened, open_after}

pub kinds_length : (lexemes : List Lexeme) → length (kinds_of lexemes) ≡ length lexemes
kinds_length [] = refl
kinds_length (l ∷ rest) = ap suc (kinds_length rest)

pub kinds_next :
    (lexemes : List Lexeme) (position : ℕ) (l : Lexeme) → position < length lexemes
    → l ≡ get_or lexemes position l
    → take (suc position) (kinds_of lexemes) ≡ take position (kinds_of lexemes) ++ l.kind ∷ []
kinds_next [] position l h e = absurd (omega arith)
kinds_next (m ∷ rest) zero l h e = ap (λ (x : Lexeme). x.kind ∷ []) (sym e)
kinds_next (m ∷ rest) (suc position) l h e =
    ap (λ ks. m.kind ∷ ks) (kinds_next rest position l (omega arith) e)

plain_is :
    (minus : Bool) (value : ℤ) (suffix : Suffix) (n : ℕ) → plain_number minus value suffix ≡ Some n
    → kinds.Integer (record { minus = minus; value = value; suffix = suffix }) ≡ number n
plain_is false (pos m) suffixes.Absent n h = let e : m ≡ n = cc in ap number e
plain_is minus value suffix n h = absurd (cc)

pub number_is : (kind : LexemeKind) (n : ℕ) → number_of kind ≡ Some n → kind ≡ number n
number_is (kinds.Integer i) n h = plain_is i.minus i.value i.suffix n h
number_is kind n h = absurd (cc)

pub open_more :
    (n : ℕ) (xs : Kinds) (kind : LexemeKind)
    → open_after n (xs ++ kind ∷ []) ≡ opened kind (open_after n xs)
open_more n [] kind = refl
open_more n (x ∷ xs) kind = open_more (opened x n) xs kind
