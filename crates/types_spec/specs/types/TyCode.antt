-- The encoding of a type as a list in the logic, in postfix order. The parts from the left come
-- first, and the way of combining the parts follows. Contracts never refer to the encoding.
use Rattle.std.specs.Prelude.{ℕ, ◌≡◌, List, [], ◌∷◌, cond, ◌==◌}
use Rattle.std.specs.Coded.{Coded, code_by, coded×, coded_ℕ, coded_list}
use mathlib.Core.Path.{refl, ap, ◌∙◌}
use Rattle.types_spec.specs.types.Ty.{Ty, variable, named, tuple, bracket, part, tag, tag_of}
use Rattle.types_spec.specs.types.Ty.{including}

abbrev pub Word : Type 0
Word = ℕ × List ℕ

abbrev pub words : Ty → List Word → List Word
words (variable name) after = (0, name) ∷ after
words (named name) after = (7, name) ∷ after
words tuple after = (1, []) ∷ after
words bracket after = (2, []) ∷ after
words (part whole added) after = words whole (words added ((3, []) ∷ after))
words (tag whole name) after = words whole ((4, name) ∷ after)
words (tag_of whole name argument) after = words whole (words argument ((5, name) ∷ after))
words (including whole included) after = words whole (words included ((6, []) ∷ after))

abbrev pub on_one : (Ty → Ty) → List Ty → List Ty
on_one f [] = []
on_one f (t ∷ stack) = f t ∷ stack

abbrev pub on_two : (Ty → Ty → Ty) → List Ty → List Ty
on_two f [] = []
on_two f (t ∷ []) = []
on_two f (t ∷ u ∷ stack) = f u t ∷ stack

abbrev pub read : Word → List Ty → List Ty
read (kind, name) stack =
    cond (kind == 0) (variable name ∷ stack) (cond (kind == 1) (tuple ∷ stack)
    (cond (kind == 2) (bracket ∷ stack)
    (cond (kind == 3) (on_two (λ whole added. part whole added) stack)
    (cond (kind == 4) (on_one (λ whole. tag whole name) stack)
    (cond (kind == 5) (on_two (λ whole argument. tag_of whole name argument) stack)
    (cond (kind == 6) (on_two (λ whole included. including whole included) stack)
    (named name ∷ stack)))))))

abbrev pub run : List Word → List Ty → List Ty
run [] stack = stack
run (word ∷ more) stack = run more (read word stack)

abbrev pub top : List Ty → Ty
top [] = tuple
top (t ∷ stack) = t

run_words :
    (t : Ty) (after : List Word) (stack : List Ty)
    → run (words t after) stack ≡ run after (t ∷ stack)
run_words (variable name) after stack = refl
run_words (named name) after stack = refl
run_words tuple after stack = refl
run_words bracket after stack = refl
run_words (part whole added) after stack =
    run_words whole (words added ((3, []) ∷ after)) stack
    ∙ run_words added ((3, []) ∷ after) (whole ∷ stack)
run_words (tag whole name) after stack = run_words whole ((4, name) ∷ after) stack
run_words (tag_of whole name argument) after stack =
    run_words whole (words argument ((5, name) ∷ after)) stack
    ∙ run_words argument ((5, name) ∷ after) (whole ∷ stack)
run_words (including whole included) after stack =
    run_words whole (words included ((6, []) ∷ after)) stack
    ∙ run_words included ((6, []) ∷ after) (whole ∷ stack)

pub read-words : (t : Ty) → top (run (words t []) []) ≡ t
read-words t = ap top (run_words t [] [])

abbrev pub code : Coded Ty
code =
    code_by (List Word) (coded_list (coded× coded_ℕ (coded_list coded_ℕ)))
    (λ t. words t []) (λ all. top (run all [])) read-words
