-- Type expressions with unexpanded abbreviations (the OCaml manual, "Type expressions").
-- Parentheses leave no node.
use Rattle.std.specs.Prelude.{ℕ, suc, max, List, [], ◌∷◌, ◌++◌, Option, Some, None, if◌then◌else◌}
use Rattle.std.specs.Str.{bytes_eq}

-- A type is a variable, a name, a tuple or a bracket of tags. Parts extend a name, a tuple or a
-- bracket one by one, from the left. For example, `(int, string) t` is the name `t` with the part
-- `int` and then the part `string`.
pub data Ty : Type 0 where
  variable : (name : List ℕ) → Ty
  named : (name : List ℕ) → Ty
  tuple : Ty
  bracket : Ty
  -- A name or tuple with its earlier parts, extended by an argument or a component.
  part : (whole added : Ty) → Ty
  -- A bracket, extended by a tag without or with an argument, or by an included type.
  tag : (whole : Ty) (name : List ℕ) → Ty
  tag_of : (whole : Ty) (name : List ℕ) (argument : Ty) → Ty
  including : (whole included : Ty) → Ty

-- The name at the start of a type, whose arguments are the type's parts. If the type does not start
-- with a name, the result is `None`.
abbrev pub name_of : Ty → Option (List ℕ)
name_of (named name) = Some name
name_of (part whole added) = name_of whole
name_of t = None

-- The arguments of a name, or the components of a tuple.
abbrev pub parts : Ty → List Ty
parts (part whole added) = parts whole ++ added ∷ []
parts t = []

-- The nesting depth of a type. A variable or a name without arguments has depth 1. Any other type
-- is one deeper than its deepest argument, component, tag argument or included type. Parentheses do
-- not count.
abbrev pub depth : Ty → ℕ
depth (variable name) = 1
depth (named name) = 1
depth tuple = 1
depth bracket = 1
depth (part whole added) = max (depth whole) (suc (depth added))
depth (tag whole name) = depth whole
depth (tag_of whole name argument) = max (depth whole) (suc (depth argument))
depth (including whole included) = max (depth whole) (suc (depth included))

-- The type in which `value` replaces each variable.
abbrev pub instance : (List ℕ → Ty) → Ty → Ty
instance value (variable name) = value name
instance value (named name) = named name
instance value tuple = tuple
instance value bracket = bracket
instance value (part whole added) = part (instance value whole) (instance value added)
instance value (tag whole name) = tag (instance value whole) name
instance value (tag_of whole name argument) =
    tag_of (instance value whole) name (instance value argument)
instance value (including whole included) =
    including (instance value whole) (instance value included)

-- The argument that replaces a parameter. A variable that is not a parameter stands for itself.
abbrev pub argument_for : List (List ℕ) → List Ty → List ℕ → Ty
argument_for [] arguments name = variable name
argument_for (parameter ∷ parameters) [] name = variable name
argument_for (parameter ∷ parameters) (argument ∷ arguments) name =
    if bytes_eq parameter name then argument else argument_for parameters arguments name
