-- The text of a type, from the texts of its parts.
use Rattle.std.proofs.Common.{ℕ, ◌≡◌, ◌∙◌, List, [], ◌∷◌, ◌++◌, Bool, true, false, Option, Some}
use Rattle.std.proofs.Common.{None, refl, ap, sym}
use Rattle.std.specs.Prelude.{codes, map}
use Rattle.std.proofs.lemmas.List.{append_assoc, append-nil, map-append}
use Rattle.std.proofs.lemmas.Option.{same_Some, none-some}
use Rattle.types_spec.specs.types.Ty.{Ty, variable, named, tuple, bracket, part, tag, tag_of, including}
use Rattle.types_spec.specs.types.TypeText.{joined_by, PartText, text_of, enclosed, word, product}
use Rattle.types_spec.specs.types.TypeText.{brackets, encoded, as_chunk, plain_chunk, chunks_of}
use Rattle.types_spec.specs.types.TypeText.{type_text}
use Rattle.types_table.specs.declared.type_table.waiting.Waiting.{Waiting}
use Rattle.types_table.specs.type_table.PrintedTypes.{whole_of, stem, is_tuple, in_parentheses, added_text}
use Rattle.types_table.specs.type_table.PrintedTypes.{parts_text, some_arguments, arguments_after, arguments_text}
use Rattle.types_table.specs.type_table.PrintedTypes.{text_of_waiting, waiting_text}

-- ---- waiting items

pub waiting_text-push :
    (types : List Ty) (all : List Waiting) (next : Waiting)
    → waiting_text types (all ++ next ∷ [])
    ≡ text_of_waiting types next ++ waiting_text types all
waiting_text-push types [] next = sym (append-nil (text_of_waiting types next))
waiting_text-push types (first ∷ all) next =
    ap (λ text. text ++ text_of_waiting types first) (waiting_text-push types all next)
    ∙ append_assoc (text_of_waiting types next) (waiting_text types all)
    (text_of_waiting types first)

-- ---- one part fewer

pub stem-whole : (t u : Ty) → Some u ≡ whole_of t → stem u ≡ stem t
unfolding stem
stem-whole (part whole added) u is = ap stem (same_Some u whole is)
stem-whole (tag whole name) u is = ap stem (same_Some u whole is)
stem-whole (tag_of whole name argument) u is = ap stem (same_Some u whole is)
stem-whole (including whole included) u is = ap stem (same_Some u whole is)
stem-whole t u is = absurd (none-some u (sym is))

pub parts_text-whole :
    (asked : Bool) (between end : List ℕ) (t u : Ty) → Some u ≡ whole_of t
    → parts_text asked between end t
    ≡ parts_text asked between between u ++ added_text asked t ++ end
parts_text-whole asked between end (part whole added) u is =
    ap (λ v. parts_text asked between between v ++ added_text asked (part whole added) ++ end)
    (sym (same_Some u whole is))
parts_text-whole asked between end (tag whole name) u is =
    ap (λ v. parts_text asked between between v ++ added_text asked (tag whole name) ++ end)
    (sym (same_Some u whole is))
parts_text-whole asked between end (tag_of whole name argument) u is =
    ap (λ v. parts_text asked between between v
    ++ added_text asked (tag_of whole name argument) ++ end) (sym (same_Some u whole is))
parts_text-whole asked between end (including whole included) u is =
    ap (λ v. parts_text asked between between v ++ added_text asked (including whole included)
    ++ end) (sym (same_Some u whole is))
parts_text-whole asked between end t u is = absurd (none-some u (sym is))

pub parts_text-none :
    (asked : Bool) (between end : List ℕ) (t : Ty) → None ≡ whole_of t
    → parts_text asked between end t ≡ []
parts_text-none asked between end (part whole added) is = absurd (none-some whole is)
parts_text-none asked between end (tag whole name) is = absurd (none-some whole is)
parts_text-none asked between end (tag_of whole name argument) is = absurd (none-some whole is)
parts_text-none asked between end (including whole included) is = absurd (none-some whole is)
parts_text-none asked between end t is = refl

-- ---- the text by its parts

joined-more : (between x first : List ℕ) (xs : List (List ℕ))
    → joined_by between ((first ∷ xs) ++ x ∷ [])
    ≡ joined_by between (first ∷ xs) ++ between ++ x
joined-more between x first [] = refl
joined-more between x first (next ∷ xs) =
    ap (λ text. first ++ between ++ text) (joined-more between x next xs)
    ∙ sym (append_assoc (first ++ between) (joined_by between (next ∷ xs) ++ between) x)
    ∙ ap (λ text. text ++ x)
    (sym (append_assoc (first ++ between) (joined_by between (next ∷ xs)) between))

-- The texts with `between` between any two of them and `end` after the last one.
abbrev ended_by : List ℕ → List ℕ → List (List ℕ) → List ℕ
ended_by between end [] = []
ended_by between end (text ∷ texts) = joined_by between (text ∷ texts) ++ end

ended_by-more : (between end x : List ℕ) (xs : List (List ℕ))
    → ended_by between between xs ++ x ++ end ≡ ended_by between end (xs ++ x ∷ [])
ended_by-more between end x [] = refl
ended_by-more between end x (first ∷ xs) =
    ap (λ text. text ++ end) (sym (joined-more between x first xs))

ended_by-nothing : (between : List ℕ) (xs : List (List ℕ))
    → ended_by between [] xs ≡ joined_by between xs
ended_by-nothing between [] = refl
ended_by-nothing between (x ∷ xs) = append-nil (joined_by between (x ∷ xs))

abbrev shown : Bool → PartText → List ℕ
shown true chunk = enclosed chunk
shown false chunk = text_of chunk

shown-part : (asked tuple : Bool) (text : List ℕ)
    → in_parentheses asked tuple text ≡ shown asked (record { is_tuple = tuple; text = text })
shown-part true true text = refl
shown-part true false text = refl
shown-part false true text = refl
shown-part false false text = refl

shown-plain : (asked : Bool) (text : List ℕ)
    → text ≡ shown asked (record { is_tuple = false; text = text })
shown-plain true text = refl
shown-plain false text = refl

-- One more part.
parts-more : (asked : Bool) (between end text added : List ℕ) (ps : List PartText) (p : PartText)
    → text ≡ ended_by between between (map (shown asked) ps) → added ≡ shown asked p
    → text ++ added ++ end ≡ ended_by between end (map (shown asked) (ps ++ p ∷ []))
parts-more asked between end text added ps p before is =
    ap (λ all. all ++ added ++ end) before
    ∙ ap (λ more. ended_by between between (map (shown asked) ps) ++ more ++ end) is
    ∙ ended_by-more between end (shown asked p) (map (shown asked) ps)
    ∙ ap (ended_by between end) (sym (map-append (shown asked) ps (p ∷ [])))

parts_text-chunks : (asked : Bool) (between end : List ℕ) (t : Ty)
    → parts_text asked between end t
    ≡ ended_by between end (map (shown asked) (chunks_of t).parts)
unfolding type_text stem
parts_text-chunks asked between end (variable name) = refl
parts_text-chunks asked between end (named name) = refl
parts_text-chunks asked between end tuple = refl
parts_text-chunks asked between end bracket = refl
parts_text-chunks asked between end (part whole added) =
    parts-more asked between end (parts_text asked between between whole)
    (added_text asked (part whole added)) (chunks_of whole).parts (as_chunk (chunks_of added))
    (parts_text-chunks asked between between whole)
    (shown-part asked (is_tuple added) (type_text added))
parts_text-chunks asked between end (tag whole name) =
    parts-more asked between end (parts_text asked between between whole)
    (added_text asked (tag whole name)) (chunks_of whole).parts (plain_chunk (codes "`" ++ name))
    (parts_text-chunks asked between between whole)
    (shown-plain asked (codes "`" ++ name))
parts_text-chunks asked between end (tag_of whole name argument) =
    parts-more asked between end (parts_text asked between between whole)
    (added_text asked (tag_of whole name argument)) (chunks_of whole).parts
    (plain_chunk (codes "`" ++ name ++ codes " of " ++ type_text argument))
    (parts_text-chunks asked between between whole)
    (shown-plain asked (codes "`" ++ name ++ codes " of " ++ type_text argument))
parts_text-chunks asked between end (including whole included) =
    parts-more asked between end (parts_text asked between between whole)
    (added_text asked (including whole included)) (chunks_of whole).parts
    (as_chunk (chunks_of included))
    (parts_text-chunks asked between between whole)
    (shown-part asked (is_tuple included) (type_text included))

parts_text-joined : (asked : Bool) (between : List ℕ) (t : Ty)
    → joined_by between (map (shown asked) (chunks_of t).parts) ≡ parts_text asked between [] t
parts_text-joined asked between t =
    sym (ended_by-nothing between (map (shown asked) (chunks_of t).parts))
    ∙ sym (parts_text-chunks asked between [] t)

pub tuple_text : (t : Ty) → stem t ≡ product → type_text t ≡ parts_text true (codes " * ") [] t
unfolding type_text stem
tuple_text t is =
    ap (λ s. encoded s (chunks_of t).parts) is ∙ parts_text-joined true (codes " * ") t

pub bracket_text : (t : Ty) → stem t ≡ brackets
    → type_text t ≡ codes "[ " ++ parts_text false (codes " | ") [] t ++ codes " ]"
unfolding type_text stem
bracket_text t is =
    ap (λ s. encoded s (chunks_of t).parts) is
    ∙ ap (λ text. codes "[ " ++ text ++ codes " ]") (parts_text-joined false (codes " | ") t)

-- ---- names

abbrev many_arguments : List ℕ → List PartText → List ℕ
many_arguments name all =
    codes "(" ++ joined_by (codes ", ") (map text_of all) ++ codes ") " ++ name

encoded-many : (name : List ℕ) (ps : List PartText) (p q : PartText)
    → encoded (word name) ((ps ++ p ∷ []) ++ q ∷ [])
    ≡ many_arguments name ((ps ++ p ∷ []) ++ q ∷ [])
encoded-many name [] p q = refl
encoded-many name (first ∷ []) p q = refl
encoded-many name (first ∷ next ∷ ps) p q = refl

-- The parts of a type with one more part.
chunks-part : (t u : Ty) → whole_of t ≡ Some u
    → (p : PartText) × ((chunks_of t).parts ≡ (chunks_of u).parts ++ p ∷ [])
    × (added_text true t ≡ enclosed p)
unfolding type_text stem
chunks-part (part whole added) u is = (
  as_chunk (chunks_of added),
  ap (λ v. (chunks_of v).parts ++ as_chunk (chunks_of added) ∷ [])
      (same_Some whole u is),
  shown-part true (is_tuple added) (type_text added),
)
chunks-part (tag whole name) u is = (
  plain_chunk (codes "`" ++ name),
  ap (λ v. (chunks_of v).parts
      ++ plain_chunk (codes "`" ++ name) ∷ []) (same_Some whole u is),
  refl,
)
chunks-part (tag_of whole name argument) u is = (
  plain_chunk (codes "`" ++ name ++ codes " of " ++ type_text argument),
  ap (λ v. (chunks_of v).parts
      ++ plain_chunk (codes "`" ++ name ++ codes " of " ++ type_text argument) ∷ [])
      (same_Some whole u is),
  refl,
)
chunks-part (including whole included) u is = (
  as_chunk (chunks_of included),
  ap (λ v. (chunks_of v).parts
      ++ as_chunk (chunks_of included) ∷ [])
      (same_Some whole u is),
  shown-part true (is_tuple included) (type_text included),
)
chunks-part (variable name) u is = absurd (none-some u is)
chunks-part (named name) u is = absurd (none-some u is)
chunks-part tuple u is = absurd (none-some u is)
chunks-part bracket u is = absurd (none-some u is)

chunks-none : (t : Ty) → whole_of t ≡ None → (chunks_of t).parts ≡ []
chunks-none (part whole added) is = absurd (none-some whole (sym is))
chunks-none (tag whole name) is = absurd (none-some whole (sym is))
chunks-none (tag_of whole name argument) is = absurd (none-some whole (sym is))
chunks-none (including whole included) is = absurd (none-some whole (sym is))
chunks-none (variable name) is = refl
chunks-none (named name) is = refl
chunks-none tuple is = refl
chunks-none bracket is = refl

encoded-some : (name : List ℕ) (t u : Ty) → whole_of t ≡ Some u → (w : Option Ty) → whole_of u ≡ w
    → encoded (word name) (chunks_of t).parts ≡ some_arguments w t ++ name
encoded-some name t u is None none =
    let last = chunks-part t u is in
    ap (encoded (word name)) (last.1 ∙ ap (λ ps. ps ++ last.0 ∷ []) (chunks-none u none))
    ∙ ap (λ text. text ++ codes " " ++ name) (sym last.2)
encoded-some name t u is (Some v) more =
    let last = chunks-part t u is in
    let before = chunks-part u v more in
    let same = last.1 ∙ ap (λ ps. ps ++ last.0 ∷ []) before.1 in
    ap (encoded (word name)) same ∙ encoded-many name (chunks_of v).parts before.0 last.0
    ∙ ap (many_arguments name) (sym same)
    ∙ ap (λ text. codes "(" ++ text ++ codes ") " ++ name)
    (parts_text-joined false (codes ", ") t)

encoded-named : (name : List ℕ) (t : Ty) (w : Option Ty) → whole_of t ≡ w
    → encoded (word name) (chunks_of t).parts ≡ arguments_after w t ++ name
encoded-named name t None none = ap (encoded (word name)) (chunks-none t none)
encoded-named name t (Some u) is = encoded-some name t u is (whole_of u) refl

pub name_text : (name : List ℕ) (t : Ty) → stem t ≡ word name
    → type_text t ≡ arguments_text t ++ name
unfolding type_text stem
name_text name t is =
    ap (λ s. encoded s (chunks_of t).parts) is ∙ encoded-named name t (whole_of t) refl

-- ---- the steps of the code

-- A part and the text after it wait now.
pub part_waits :
    (whole added end w0 w1 w2 text all : List ℕ) → text ≡ whole ++ added ++ end → w1 ≡ end ++ w0
    → w2 ≡ added ++ w1 → text ++ w0 ≡ all → whole ++ w2 ≡ all
part_waits whole added end w0 w1 w2 text all is one two before =
    ap (λ w. whole ++ w) (two ∙ ap (λ w. added ++ w) one ∙ sym (append_assoc added end w0))
    ∙ sym (append_assoc whole (added ++ end) w0)
    ∙ ap (λ prefix. prefix ++ w0) (sym (append_assoc whole added end) ∙ sym is)
    ∙ before
