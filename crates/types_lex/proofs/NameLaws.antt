-- The text begins with the bytes of the names, tags and variables that the lexer finds.
use Rattle.std.proofs.Common.{◌≡◌, ◌≢◌, ℕ, suc, ◌+◌, Bool, true, false, eqb, List, [], ◌∷◌, ◌++◌, drop, Option, Some, None, refl, sym, ap, subst, ◌∙◌, arith, inl, inr, ⊎_elim}
use Rattle.std.specs.List.{list_all, prefix_len, take_while}
use Rattle.std.specs.Char.{is_ascii_uppercase, is_ascii_lowercase}
use Rattle.std.proofs.lemmas.Bool.{false≢true, ne_eqb, or_cases, or_left, or_right, and_parts, and_from, cases_Bool}
use Rattle.std.proofs.lemmas.List.{take-append-drop}
use Rattle.std.proofs.lemmas.Option.{cond_some}
use Rattle.types_lex.specs.declared.lexeme.Keyword.{Keyword}
use Rattle.types_lex.specs.declared.lexeme.Keyword.TheVariants as keywords
use Rattle.types_lex.specs.Lexeme.{starts_lower, starts_name, is_name_byte, IsName, keyword_text, LexemeForm, Tag, Variable, form_bytes, IsForm, is_character}
use Rattle.types_lex.specs.Lexer.{keyword_of, cased_form, reserved_or, word_form, tag_form, variable_form}
use Rattle.types_lex.proofs.WordLaws.{keyword_of-some}
use Rattle.types_lex.proofs.NumberLaws.{prefix_passes}
use Rattle.types_lex.proofs.CharLaws.{no_value}

-- The form is valid, and the text begins with the bytes of the form.
abbrev pub Begins : List ℕ → LexemeForm → Type 0
Begins text form = IsForm form × ((rest : List ℕ) × (text ≡ form_bytes form ++ rest))

-- ---- classes of bytes

-- If byte `b` passes a test and byte `n` fails the test, then the bytes differ.
pub apart : (p : ℕ → Bool) (n b : ℕ) → p n ≡ false → p b ≡ true → eqb b n ≡ false
apart p n b fails passes = ne_eqb b n (λ e. false≢true (sym fails ∙ ap p (sym e) ∙ passes))

pub name_byte-from_start : (b : ℕ) → starts_name b ≡ true → is_name_byte b ≡ true
name_byte-from_start b e =
    elim (or_cases (starts_lower b) (is_ascii_uppercase b) e) [
      | inl lower ↦ elim (or_cases (is_ascii_lowercase b) (eqb b 95) lower) [
        | inl letter ↦ or_left _ _ (or_left _ _ (or_right _ _ letter))
        | inr underscore ↦ or_left _ _ (or_right _ _ underscore)
      ]
      | inr upper ↦ or_left _ _ (or_left _ _ (or_left _ _ (or_right _ _ upper)))
    ]

-- ---- runs of bytes that pass a test

pub take_while-more : (p : ℕ → Bool) (xs ys : List ℕ) → list_all p xs ≡ true → take_while p (xs ++ ys) ≡ xs ++ take_while p ys
take_while-more p [] ys all = refl
take_while-more p (x ∷ xs) ys all =
    let both = and_parts (p x) (list_all p xs) all in
    let one : 1 + prefix_len p (xs ++ ys) ≡ suc (prefix_len p (xs ++ ys)) = omega arith in
    rw (both.0, one) (ap (λ t. x ∷ t) (take_while-more p xs ys both.1))

take_while-cons : (p : ℕ → Bool) (b : ℕ) (bs : List ℕ) → p b ≡ true → take_while p (b ∷ bs) ≡ b ∷ take_while p bs
take_while-cons p b bs e = take_while-more p (b ∷ []) bs (and_from _ _ e refl)

-- If a name may start with the first byte, then the text begins with a name.
pub name_at : (starts : ℕ → Bool) (b : ℕ) (bs : List ℕ) → starts b ≡ true → is_name_byte b ≡ true → IsName starts (take_while is_name_byte (b ∷ bs))
name_at starts b bs first name =
    let run = take_while-cons is_name_byte b bs name in
    rw run (first, rw run at (prefix_passes is_name_byte (b ∷ bs)))

run_and_rest : (p : ℕ → Bool) (xs : List ℕ) → xs ≡ take_while p xs ++ drop (prefix_len p xs) xs
run_and_rest p xs = sym (take-append-drop (prefix_len p xs) xs)

-- ---- keywords

pub keyword_of-keyword : (k : Keyword) → keyword_of (keyword_text k) ≡ Some k
keyword_of-keyword keywords.Type = refl
keyword_of-keyword keywords.And = refl
keyword_of-keyword keywords.Of = refl
keyword_of-keyword keywords.Mutable = refl

pub keyword_of-other : (name : List ℕ) → ((k : Keyword) → name ≢ keyword_text k) → keyword_of name ≡ None
keyword_of-other name other = none (keyword_of name) refl
  where
    none : (o : Option Keyword) → keyword_of name ≡ o → o ≡ None
    none None e = refl
    none (Some k) e = absurd (other k (keyword_of-some name k e))

-- ---- words

pub form_bytes-word : (name : List ℕ) → form_bytes (word_form name) ≡ name
unfolding word_form
form_bytes-word name = by_keyword (keyword_of name) refl
  where
    cased : (name : List ℕ) → form_bytes (cased_form name) ≡ name
    cased [] = refl
    cased (b ∷ bs) = elim (cases_Bool (starts_lower b)) [ inl e ↦ rw e refl | inr e ↦ rw e refl ]

    by_keyword : (o : Option Keyword) → keyword_of name ≡ o → form_bytes (reserved_or (cased_form name) o) ≡ name
    by_keyword None e = cased name
    by_keyword (Some k) e = sym (keyword_of-some name k e)

pub is_character-word : (name : List ℕ) → is_character (word_form name) ≡ false
unfolding word_form
is_character-word name = by_keyword (keyword_of name)
  where
    cased : (name : List ℕ) → is_character (cased_form name) ≡ false
    cased [] = refl
    cased (b ∷ bs) = elim (cases_Bool (starts_lower b)) [ inl e ↦ rw e refl | inr e ↦ rw e refl ]

    by_keyword : (o : Option Keyword) → is_character (reserved_or (cased_form name) o) ≡ false
    by_keyword None = cased name
    by_keyword (Some k) = refl

IsForm-word : (name : List ℕ) → IsName starts_name name → IsForm (word_form name)
unfolding word_form
IsForm-word name is = by_keyword (keyword_of name) refl
  where
    other : keyword_of name ≡ None → (k : Keyword) → name ≢ keyword_text k
    other none k e = no_value (sym none ∙ ap keyword_of e ∙ keyword_of-keyword k)

    cased : (word : List ℕ) → IsName starts_name word → ((k : Keyword) → word ≢ keyword_text k) → IsForm (cased_form word)
    cased [] is free = absurd is
    cased (b ∷ bs) is free = elim (cases_Bool (starts_lower b)) [
      | inl e ↦ rw e ((e, is.1), free)
      | inr e ↦ rw e (⊎_elim (λ lower. absurd (false≢true (sym e ∙ lower))) (λ upper. upper) (or_cases (starts_lower b) (is_ascii_uppercase b) is.0), is.1)
    ]

    by_keyword : (o : Option Keyword) → keyword_of name ≡ o → IsForm (reserved_or (cased_form name) o)
    by_keyword None e = cased name is (other e)
    by_keyword (Some k) e = tt

pub word-begins : (b : ℕ) (bs : List ℕ) → starts_name b ≡ true → Begins (b ∷ bs) (word_form (take_while is_name_byte (b ∷ bs)))
word-begins b bs first =
    let name = take_while is_name_byte (b ∷ bs) in (
      IsForm-word name (name_at starts_name b bs first (name_byte-from_start b first)),
      (drop (prefix_len is_name_byte (b ∷ bs)) (b ∷ bs), run_and_rest is_name_byte (b ∷ bs) ∙ ap (λ t. t ++ drop (prefix_len is_name_byte (b ∷ bs)) (b ∷ bs)) (sym (form_bytes-word name))),
    )

pub tag_form-begins : (bs : List ℕ) (form : LexemeForm) → tag_form bs ≡ Some form → Begins (96 ∷ bs) form
unfolding tag_form
tag_form-begins [] form e = absurd (no_value e)
tag_form-begins (b ∷ bs) form e =
    let p = cond_some (starts_name b) (Tag (take_while is_name_byte (b ∷ bs))) form e in
    subst (Begins (96 ∷ b ∷ bs)) p.1 (name_at starts_name b bs p.0 (name_byte-from_start b p.0), (drop (prefix_len is_name_byte (b ∷ bs)) (b ∷ bs), ap (λ t. 96 ∷ t) (run_and_rest is_name_byte (b ∷ bs))))

pub variable_form-begins : (bs : List ℕ) (form : LexemeForm) → variable_form bs ≡ Some form → Begins (39 ∷ bs) form
unfolding variable_form
variable_form-begins [] form e = absurd (no_value e)
variable_form-begins (b ∷ bs) form e =
    let p = cond_some (starts_lower b) (Variable (take_while is_name_byte (b ∷ bs))) form e in
    subst (Begins (39 ∷ b ∷ bs)) p.1 (name_at starts_lower b bs p.0 (name_byte-from_start b (or_left _ _ p.0)), (drop (prefix_len is_name_byte (b ∷ bs)) (b ∷ bs), ap (λ t. 39 ∷ t) (run_and_rest is_name_byte (b ∷ bs))))
