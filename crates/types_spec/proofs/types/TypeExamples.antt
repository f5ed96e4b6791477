-- Worked examples of the definitions. The expected results were computed by hand and by a program
-- that shares no code with the definitions.
use Rattle.std.proofs.Common.{ℕ, ◌≡◌, List, [], ◌∷◌, true, false, Some, None, refl, ap}
use Rattle.std.proofs.Common.{arith}
use Rattle.std.specs.Prelude.{codes, pos, negsuc}
use Rattle.base_data.specs.declared.model.value.Val.TheVariants as vals
use Rattle.base_data.specs.declared.model.value.Obj.{Obj}
use Rattle.base_data.specs.declared.model.value.Obj.TheVariants as objects
use Rattle.types_spec.specs.declared.types.decl.Predeclared.{Predeclared}
use Rattle.types_spec.specs.declared.types.decl.Predeclared.TheVariants as bases
use Rattle.types_spec.specs.declared.types.decl.Field.{Field}
use Rattle.types_spec.specs.declared.types.decl.Arguments.{Arguments}
use Rattle.types_spec.specs.declared.types.decl.Arguments.TheVariants as arguments
use Rattle.types_spec.specs.declared.types.decl.Constructor.{Constructor}
use Rattle.types_spec.specs.declared.types.decl.Body.{Body}
use Rattle.types_spec.specs.declared.types.decl.Body.TheVariants as bodies
use Rattle.types_spec.specs.declared.types.decl.Decl.{Decl}
use Rattle.types_spec.specs.declared.types.head.HeadOf.TheVariants as heads
use Rattle.types_spec.specs.declared.types.shape.ShapeOf.TheVariants as shapes
use Rattle.types_spec.specs.types.Ty.{Ty, variable, named, tuple, bracket, part, tag, tag_of, including}
use Rattle.types_spec.specs.types.Declarations.{predeclared}
use Rattle.types_spec.specs.types.Predeclared.{sum_at, name_at}
use Rattle.types_spec.specs.types.Head.{head}
use Rattle.types_spec.specs.types.Shape.{shape}
use Rattle.types_spec.specs.types.Fitting.{fields_of, is_mutable}
use Rattle.types_spec.specs.types.Equal.{Equal, HeadsAgree, Holds, declared_shapes}
use Rattle.types_spec.specs.types.Reached.{reached_from}
use Rattle.types_spec.specs.types.Names.{names_of}
use Rattle.types_spec.specs.types.TypeText.{type_text}

-- ---- short forms

abbrev int : Ty
int = named (codes "int")

abbrev float : Ty
float = named (codes "float")

abbrev string : Ty
string = named (codes "string")

-- A name with one argument.
abbrev of_one : Ty → List ℕ → Ty
of_one t name = part (named name) t

abbrev pair : Ty → Ty → Ty
pair t u = part (part tuple t) u

abbrev declares : List ℕ → List (List ℕ) → Body → Decl
declares name parameters body =
    record { name = name; parameters = parameters; body = body; group = 0 }

abbrev has : List ℕ → Ty → Field
has name t = record { name = name; mutable = false; ty = t }

abbrev changes : List ℕ → Ty → Field
changes name t = record { name = name; mutable = true; ty = t }

abbrev constructs : List ℕ → Arguments → Constructor
constructs name arguments = record { name = name; arguments = arguments }

abbrev a : Ty
a = variable (codes "a")

-- ---- flat floats

-- `type 'a p = {x: 'a; y: 'a} and f = float and g = {a: f; mutable b: float} and e = C of {x:
-- float}`
abbrev floats : List Decl
floats =
    declares (codes "p") (codes "a" ∷ [])
    (bodies.Record (has (codes "x") a ∷ has (codes "y") a ∷ []))
    ∷ declares (codes "f") [] (bodies.Abbreviation float)
    ∷ declares (codes "g") []
    (bodies.Record (has (codes "a") (named (codes "f")) ∷ changes (codes "b") float ∷ []))
    ∷ declares (codes "e") []
    (bodies.Variant (constructs (codes "C")
    (arguments.Inline (has (codes "x") float ∷ [])) ∷ []))
    ∷ []

-- A record is flat if each declared type expands to `float`.
flat_record : shape floats (named (codes "g")) ≡ shapes.FlatFloats true 2
unfolding head predeclared sum_at name_at
flat_record = refl

-- A record with a parameter as its field type is not flat, even if `float` replaces the parameter.
parametric_record :
    shape floats (of_one float (codes "p")) ≡ shapes.Product false (float ∷ float ∷ [])
unfolding head predeclared sum_at name_at
parametric_record = refl

-- An inline record is never flat.
inline_record : shape floats (named (codes "e")) ≡ shapes.Sum 0
    (record { mutable = false; fields = float ∷ [] } ∷ [])
unfolding head predeclared sum_at name_at
inline_record = refl

-- An array is flat if its element type, after substitution of parameters, expands to `float`.
array_of_floats : shape floats (of_one (named (codes "f")) (codes "array")) ≡ shapes.FloatArray
unfolding head predeclared sum_at name_at
array_of_floats = refl

floatarray : shape floats (named (codes "floatarray")) ≡ shapes.FloatArray
unfolding head predeclared sum_at name_at
floatarray = refl

array_of_records :
    shape floats (of_one (named (codes "g")) (codes "array")) ≡ shapes.ArrayOf (named (codes "g"))
unfolding head predeclared sum_at name_at
array_of_records = refl

-- ---- variables

array_of_variables : shape [] (of_one a (codes "array")) ≡ shapes.ArrayOfVariable
unfolding head predeclared sum_at name_at
array_of_variables = refl

-- The atom 0 matches the type of arrays of a variable.
empty_array : fields_of [] (vals.Atom 0) (shape [] (of_one a (codes "array"))) ≡ Some []
unfolding head predeclared sum_at name_at
empty_array = refl

array_with_one :
    fields_of (objects.Block 0 (vals.Int (pos 1) ∷ []) ∷ []) (vals.Ref 0)
    (shape [] (of_one a (codes "array"))) ≡ None
unfolding head predeclared sum_at name_at
array_with_one = refl

empty_list : fields_of [] (vals.Int (pos 0)) (shape [] (of_one a (codes "list"))) ≡ Some []
unfolding head predeclared sum_at name_at
empty_list = refl

no_value : fields_of [] (vals.Int (pos 0)) (shape [] a) ≡ None
unfolding head predeclared sum_at name_at
no_value = refl

-- ---- predeclared variants

lists : shape [] (of_one int (codes "list"))
    ≡ shapes.Sum 1 (record { mutable = false; fields = int ∷ of_one int (codes "list") ∷ [] } ∷ [])
unfolding head predeclared sum_at name_at
lists = refl

options : shape [] (of_one int (codes "option"))
    ≡ shapes.Sum 1 (record { mutable = false; fields = int ∷ [] } ∷ [])
unfolding head predeclared sum_at name_at
options = refl

references : shape [] (of_one int (codes "ref"))
    ≡ shapes.Sum 0 (record { mutable = true; fields = int ∷ [] } ∷ [])
unfolding head predeclared sum_at name_at
references = refl

list_names : names_of [] (of_one int (codes "list")) ≡ record {
  constants = codes "[]" ∷ [];
  constructors = record { name = codes "::"; fields = [] } ∷ [];
  fields = [];
  tags = [];
}
unfolding head predeclared sum_at name_at
list_names = refl

option_names : names_of [] (of_one int (codes "option")) ≡ record {
  constants = codes "None" ∷ [];
  constructors = record { name = codes "Some"; fields = [] } ∷ [];
  fields = [];
  tags = [];
}
unfolding head predeclared sum_at name_at
option_names = refl

reference_names : names_of [] (of_one int (codes "ref")) ≡ record {
  constants = [];
  constructors = record { name = codes "ref"; fields = [] } ∷ [];
  fields = [];
  tags = [];
}
unfolding head predeclared sum_at name_at
reference_names = refl

-- A variant with a wrong number of arguments has no values.
too_many : shape [] (part (of_one int (codes "list")) int) ≡ shapes.Variable
unfolding head predeclared sum_at name_at
too_many = refl

-- ---- wildcards

abbrev any : Ty
any = named (codes "_")

-- Each value matches the type `_`.
any_object : fields_of (objects.Block 7 (vals.Int (pos 1) ∷ []) ∷ []) (vals.Ref 0) (shape [] any)
    ≡ Some []
unfolding head predeclared sum_at name_at
any_object = refl

any_atom : fields_of [] (vals.Atom 3) (shape [] any) ≡ Some []
unfolding head predeclared sum_at name_at
any_atom = refl

-- A pair whose two fields are the same `ref 1`, at the type `int ref * _`. The second field has a
-- type but is not required.
abbrev shared : List Obj
shared =
    objects.Block 0 (vals.Int (pos 1) ∷ []) ∷ objects.Block 0 (vals.Ref 0 ∷ vals.Ref 0 ∷ []) ∷ []

abbrev wildcard_pair : Ty
wildcard_pair = pair (of_one int (codes "ref")) any

wildcard_field : fields_of shared (vals.Ref 1) (shape [] wildcard_pair)
    ≡ Some ((0, of_one int (codes "ref")) ∷ (1, any) ∷ [])
unfolding head predeclared sum_at name_at
wildcard_field = refl

not_needed : (declared_shapes []).needs shared (vals.Ref 1) wildcard_pair
    ≡ (0, of_one int (codes "ref")) ∷ []
unfolding head predeclared sum_at name_at
not_needed = refl

-- An array of wildcards may be an array of doubles.
wildcard_doubles : fields_of (objects.Doubles (0 ∷ 0 ∷ []) ∷ []) (vals.Ref 0)
    (shape [] (of_one any (codes "array"))) ≡ Some []
unfolding head predeclared sum_at name_at
wildcard_doubles = refl

-- An integer does not match an array of wildcards, although an integer matches `_`.
no_integer : fields_of [] (vals.Int (pos 0)) (shape [] (of_one any (codes "array"))) ≡ None
unfolding head predeclared sum_at name_at
no_integer = refl

-- A record of wildcard fields is not flat.
wildcard_record : shape (declares (codes "r") [] (bodies.Record (has (codes "x") any ∷ [])) ∷ [])
    (named (codes "r")) ≡ shapes.Product false (any ∷ [])
unfolding head predeclared sum_at name_at
wildcard_record = refl

-- ---- constructors

-- `type 'a c = A | B of 'a | C of {mutable k: 'a; l: int} | D`
abbrev constructors : List Decl
constructors =
    declares (codes "c") (codes "a" ∷ []) (bodies.Variant (
    constructs (codes "A") arguments.Constant
    ∷ constructs (codes "B") (arguments.Listed (a ∷ []))
    ∷ constructs (codes "C") (arguments.Inline (changes (codes "k") a ∷ has (codes "l") int ∷ []))
    ∷ constructs (codes "D") arguments.Constant ∷ []))
    ∷ []

abbrev string_c : Ty
string_c = of_one string (codes "c")

-- Constant constructors and constructors with arguments are numbered separately.
numbered : shape constructors string_c ≡ shapes.Sum 2
    (record { mutable = false; fields = string ∷ [] } ∷ record {
      mutable = true;
      fields = string ∷ int ∷ [];
    } ∷ [])
unfolding head predeclared sum_at name_at
numbered = refl

-- The last constant constructor, which has the number 1, matches.
last_constant : fields_of [] (vals.Int (pos 1)) (shape constructors string_c) ≡ Some []
unfolding head predeclared sum_at name_at
last_constant = refl

past_constants : fields_of [] (vals.Int (pos 2)) (shape constructors string_c) ≡ None
unfolding head predeclared sum_at name_at
past_constants = refl

-- A block is mutable if its own constructor has a mutable field.
own_block : is_mutable (shape constructors string_c)
    (Some (objects.Block 0 (vals.Int (pos 1) ∷ []))) ≡ false
unfolding head predeclared sum_at name_at
own_block = refl

its_names : names_of constructors string_c ≡ record {
  constants = codes "A" ∷ codes "D" ∷ [];
  constructors = record { name = codes "B"; fields = [] } ∷ record {
    name = codes "C";
    fields = codes "k" ∷ codes "l" ∷ [];
  } ∷ [];
  fields = [];
  tags = [];
}
unfolding head predeclared sum_at name_at
its_names = refl

-- ---- polymorphic variants

-- ``type t = [ `A of t | `B ] and w = [ `D | t | `A of t ]``
abbrev variants : List Decl
variants =
    declares (codes "t") []
    (bodies.Abbreviation (tag (tag_of bracket (codes "A") (named (codes "t"))) (codes "B")))
    ∷ declares (codes "w") []
    (bodies.Abbreviation (tag_of (including (tag bracket (codes "D")) (named (codes "t")))
    (codes "A") (named (codes "t"))))
    ∷ []

-- The tags of an included type replace the inclusion. If a tag occurs twice, the first occurrence
-- stays.
included : head variants (named (codes "w")) ≡ heads.Variants (
    record { name = codes "D"; argument = None }
    ∷ record { name = codes "A"; argument = Some (named (codes "t")) }
    ∷ record { name = codes "B"; argument = None } ∷ [])
unfolding head predeclared sum_at name_at
included = refl

-- The hash of a tag is a signed number.
signed_hash : shape [] (tag (tag bracket (codes "On")) (codes "some")) ≡ shapes.Poly (
    record { hash = pos 17727; arg = None } ∷ record { hash = negsuc 866639115; arg = None } ∷ [])
unfolding head predeclared sum_at name_at
signed_hash = refl

-- Field 1 of a block is the argument of the tag whose hash is field 0.
argument : fields_of (objects.Block 0 (vals.Int (pos 65) ∷ vals.Int (pos 66) ∷ []) ∷ [])
    (vals.Ref 0) (shape variants (named (codes "w"))) ≡ Some ((1, named (codes "t")) ∷ [])
unfolding head predeclared sum_at name_at
argument = refl

-- If a tag has an argument, then the integer of the tag's hash does not match.
without_argument : fields_of [] (vals.Int (pos 65)) (shape variants (named (codes "w"))) ≡ None
unfolding head predeclared sum_at name_at
without_argument = refl

-- ---- reached types

-- `type i = int and 'a ph = P and 'a drop = int`
abbrev dropping : List Decl
dropping =
    declares (codes "i") [] (bodies.Abbreviation int)
    ∷ declares (codes "ph") (codes "a" ∷ [])
    (bodies.Variant (constructs (codes "P") arguments.Constant ∷ []))
    ∷ declares (codes "drop") (codes "a" ∷ []) (bodies.Abbreviation int)
    ∷ []

-- A type does not directly reach its own head, or an argument that an abbreviation drops.
nothing : reached_from dropping (of_one string (codes "drop")) ≡ []
unfolding head predeclared sum_at name_at
nothing = refl

-- A phantom argument, which no field has, is a part.
phantom : reached_from dropping (of_one (named (codes "i")) (codes "ph")) ≡ named (codes "i") ∷ []
unfolding head predeclared sum_at name_at
phantom = refl

-- A type reaches first the types of its representation, and then the parts of its head.
in_order : reached_from [] (of_one int (codes "list")) ≡ int ∷ of_one int (codes "list") ∷ int ∷ []
unfolding head predeclared sum_at name_at
in_order = refl

-- ---- equal types

module _ (pairs : List (Ty × Ty)) where
  abbrev Agree : List Decl → Ty → Ty → Type 0
  Agree decls t u = HeadsAgree (Holds pairs) (head decls t) (head decls u)

  -- An argument that an abbreviation drops does not count for equality.
  dropped : Agree dropping (of_one string (codes "drop")) int
  unfolding head predeclared sum_at name_at
  dropped = (refl, tt)

  -- A phantom argument, which no field has, counts for equality.
  phantoms_agree :
      Agree dropping (of_one string (codes "ph")) (of_one int (codes "ph")) → Holds pairs string int
  unfolding head predeclared sum_at name_at
  phantoms_agree agree = agree.1.0

  number : Predeclared → ℕ
  number bases.Int = 0
  number bases.String = 1
  number bases.Bytes = 2
  number base = 3

  differ : Agree dropping string int → ⊥
  unfolding head predeclared number
  differ agree = let e : 1 ≡ 0 = ap number agree.0 in omega (arith, e)

  -- Two variables are equal if and only if they have the same name.
  variables : Agree [] a (variable (codes "b")) → codes "a" ≡ codes "b"
  unfolding head predeclared sum_at name_at
  variables agree = agree

phantoms_are_unequal : Equal dropping (of_one string (codes "ph")) (of_one int (codes "ph")) → ⊥
phantoms_are_unequal equal =
    let heads = equal.closed (of_one string (codes "ph")) (of_one int (codes "ph")) equal.holds in
    differ equal.pairs (equal.closed string int (phantoms_agree equal.pairs heads))

-- ---- texts

-- Parentheses surround a tuple that is a component or a single argument.
text_of_tuple : type_text (pair (pair int string) (of_one (pair int int) (codes "list"))) ≡ codes
    "(int * string) * (int * int) list"
unfolding type_text
text_of_tuple = refl

-- Parentheses do not surround a tuple among several arguments.
text_of_arguments :
    type_text (part (part (named (codes "t")) (pair int int)) a) ≡ codes "(int * int, 'a) t"
unfolding type_text
text_of_arguments = refl

text_of_bracket :
    type_text (tag_of (tag (including bracket (named (codes "t"))) (codes "A")) (codes "B")
    (pair int string)) ≡ codes "[ t | `A | `B of int * string ]"
unfolding type_text
text_of_bracket = refl
