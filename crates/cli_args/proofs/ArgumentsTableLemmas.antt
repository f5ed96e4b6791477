-- clap's internal form of the arguments of a command, and how clap finds them.
use Rattle.std.proofs.Common.{◌≡◌, ◌∙◌, ◌⊎◌, inl, inr, ◌==◌, ◌<◌, ◌≤◌, ◌+◌, ◌&&◌, ℕ, Bool, true, false, not, List, [], ◌∷◌, ◌++◌, map, length, min, Option, Some, None, is_some, codes, refl, sym, ap, subst, arith}
use Rattle.std.specs.Prelude.{◌^◌, nat_lt}
use Rattle.std.specs.List.{find, list_any}
use Rattle.std.specs.Option.{option_map_or}
use Rattle.std.specs.Str.{bytes_eq}
use Rattle.std.specs.Str.Parse.{without_leading_plus}
use Rattle.std.proofs.lemmas.Bool.{eq-eqb, ltb-true, ne_eqb, or_parts, not-true}
use Rattle.std.proofs.lemmas.Slice.Eq.{bytes_eq-Decides}
use Rattle.clap.specs.Lexer.{long_of, usize_max}
use Rattle.clap.specs.Facts.{unwrap_or_range}
use Rattle.clap.specs.Walk.{Rule, Text, action_of, arg_by_id, arg_by_index, arg_by_long, arg_by_short}
use Rattle.clap.specs.Simple.{filled, filled_from, index_after, new_rule, with_index}
use Rattle.clap.specs.ValueTests.{accepts}
use Rattle.clap.specs.declared.builder.action.ArgAction.TheVariants.{Set}
use Rattle.clap.specs.declared.builder.range.ValueRange.{ValueRange}
use Rattle.clap.specs.declared.builder.value_parser.ValueParser.TheVariants.{Unsigned}
use Rattle.cli_spec.specs.CommandLine.{Argument, flag, option, optional, wanted, number, rule_for}

-- ---- texts and tests

pub same_text : (name : Text) → bytes_eq name name ≡ true
same_text name = (bytes_eq-Decides name name).1 refl

pub is_text : (name word : Text) → (word ≡ name) ⊎ (bytes_eq name word ≡ false)
is_text name word = go (bytes_eq name word) refl
  where
    go : (b : Bool) → bytes_eq name word ≡ b → (word ≡ name) ⊎ (bytes_eq name word ≡ false)
    go true e = inl (sym ((bytes_eq-Decides name word).0 e))
    go false e = inr e

pub both : (a b : Bool) → (a && b) ≡ true → (a ≡ true) × (b ≡ true)
both true b e = (refl, e)
both false b e = cc e

-- ---- clap's internal form of an argument

-- The rule of an argument, if the next positional index is `i`.
abbrev pub ruled : ℕ → Argument → Rule
ruled i a = with_index i (filled (rule_for a))

-- An option with a number up to `greatest` and the defaults `usual`.
abbrev pub taking : Text → ℕ → List Text → Rule
taking name greatest usual =
    with_index 1 (filled (record (new_rule name) { long = Some name; parser = Some (Unsigned 0 greatest); defaults = usual }))

abbrev pub rules_from : ℕ → List Argument → List Rule
rules_from i arguments = filled_from i (map rule_for arguments)

abbrev pub next_position : ℕ → Argument → ℕ
next_position i a = index_after i (rule_for a)

abbrev pub name_of : Argument → Text
name_of (flag name) = name
name_of (option name greatest usual) = name
name_of (optional name greatest) = name
name_of (wanted name) = name
name_of (number name greatest) = name

-- ---- arguments that clap can distinguish

-- clap reads the name after two hyphens unchanged.
abbrev pub encodes : Text → Bool
encodes name = option_map_or (λ (p : Text × Option Text). bytes_eq p.0 name && not (is_some p.1)) (long_of (codes "--" ++ name)) false

pub encoded : (name : Text) → encodes name ≡ true → long_of (codes "--" ++ name) ≡ Some (name, None)
encoded name e = go (long_of (codes "--" ++ name)) e
  where
    go : (o : Option (Text × Option Text)) → option_map_or (λ (p : Text × Option Text). bytes_eq p.0 name && not (is_some p.1)) o false ≡ true → o ≡ Some (name, None)
    go None e = cc e
    go (Some (other, None)) e = ap (λ n. Some (n, None)) ((bytes_eq-Decides other name).0 (both (bytes_eq other name) true e).0)
    go (Some (other, Some text)) e = let bad : false ≡ true = (both (bytes_eq other name) false e).1 in cc bad

pub no_dashes : (name : Text) → encodes name ≡ true → bytes_eq (codes "--" ++ name) (codes "--") ≡ false
no_dashes [] e = cc e
no_dashes (x ∷ xs) e = refl

-- The argument's name can be written, its default is accepted, and its numbers fit in 64 bits.
abbrev pub is_lawful : Argument → Bool
is_lawful (flag name) = encodes name
is_lawful (option name greatest usual) =
    encodes name && (accepts false (Unsigned 0 greatest) usual && (nat_lt greatest (2 ^ 64) && bytes_eq (without_leading_plus usual) usual))
is_lawful (optional name greatest) = encodes name && nat_lt greatest (2 ^ 64)
is_lawful (wanted name) = true
is_lawful (number name greatest) = nat_lt greatest (2 ^ 64)

abbrev pub is_named : Text → List Argument → Bool
is_named name arguments = list_any (λ a. bytes_eq name (name_of a)) arguments

-- The arguments have distinct names, and each is lawful.
abbrev pub are_lawful : List Argument → Bool
are_lawful [] = true
are_lawful (a ∷ rest) = is_lawful a && (not (is_named (name_of a) rest) && are_lawful rest)

pub lawful_rest : (a : Argument) (rest : List Argument) → are_lawful (a ∷ rest) ≡ true → are_lawful rest ≡ true
lawful_rest a rest lawful = (both (not (is_named (name_of a) rest)) (are_lawful rest) (both (is_lawful a) (not (is_named (name_of a) rest) && are_lawful rest) lawful).1).1

pub fresh_name : (a : Argument) (rest : List Argument) → are_lawful (a ∷ rest) ≡ true → is_named (name_of a) rest ≡ false
fresh_name a rest lawful =
    not-true (is_named (name_of a) rest) (both (not (is_named (name_of a) rest)) (are_lawful rest) (both (is_lawful a) (not (is_named (name_of a) rest) && are_lawful rest) lawful).1).0

module _ (name : Text) (greatest : ℕ) (usual : Text) (lawful : is_lawful (option name greatest usual) ≡ true) where
  rest_lawful : ((accepts false (Unsigned 0 greatest) usual && (nat_lt greatest (2 ^ 64) && bytes_eq (without_leading_plus usual) usual))) ≡ true
  rest_lawful = (both (encodes name) _ lawful).1

  pub usual_accepted : accepts false (Unsigned 0 greatest) usual ≡ true
  usual_accepted = (both (accepts false (Unsigned 0 greatest) usual) _ rest_lawful).0

  pub small_option : greatest < 2 ^ 64
  small_option = ltb-true greatest (2 ^ 64) (both (nat_lt greatest (2 ^ 64)) _ (both (accepts false (Unsigned 0 greatest) usual) _ rest_lawful).1).0

  pub usual_as_is : without_leading_plus usual ≡ usual
  usual_as_is =
      (bytes_eq-Decides (without_leading_plus usual) usual).0 (both (nat_lt greatest (2 ^ 64)) _ (both (accepts false (Unsigned 0 greatest) usual) _ rest_lawful).1).1

pub small_optional : (name : Text) (greatest : ℕ) → is_lawful (optional name greatest) ≡ true → greatest < 2 ^ 64
small_optional name greatest lawful = ltb-true greatest (2 ^ 64) (both (encodes name) (nat_lt greatest (2 ^ 64)) lawful).1

pub small_number : (name : Text) (greatest : ℕ) → is_lawful (number name greatest) ≡ true → greatest < 2 ^ 64
small_number name greatest lawful = ltb-true greatest (2 ^ 64) lawful

-- clap finds the argument by its id, and by its long name or its positional index.
abbrev pub IsFound : List Rule → ℕ → Argument → Type 0
IsFound c i (flag name) =
    (arg_by_id c name ≡ Some (ruled i (flag name))) × (arg_by_long c name ≡ Some (ruled i (flag name)))
IsFound c i (option name greatest usual) =
    (arg_by_id c name ≡ Some (ruled i (option name greatest usual))) × (arg_by_long c name ≡ Some (ruled i (option name greatest usual)))
IsFound c i (optional name greatest) =
    (arg_by_id c name ≡ Some (ruled i (optional name greatest))) × (arg_by_long c name ≡ Some (ruled i (optional name greatest)))
IsFound c i (wanted name) =
    (arg_by_id c name ≡ Some (ruled i (wanted name))) × (arg_by_index c i ≡ Some (ruled i (wanted name)))
IsFound c i (number name greatest) =
    (arg_by_id c name ≡ Some (ruled i (number name greatest))) × (arg_by_index c i ≡ Some (ruled i (number name greatest)))

abbrev pub AreFound : List Rule → ℕ → List Argument → Type 0
AreFound c i [] = Unit {0}
AreFound c i (a ∷ rest) = IsFound c i a × AreFound c (next_position i a) rest

found_here : (i : ℕ) (a : Argument) (c : List Rule) → IsFound (ruled i a ∷ c) i a
found_here i (flag name) c = (rw (same_text name) refl, rw (same_text name) refl)
found_here i (option name greatest usual) c = (rw (same_text name) refl, rw (same_text name) refl)
found_here i (optional name greatest) c = (rw (same_text name) refl, rw (same_text name) refl)
found_here i (wanted name) c = (rw (same_text name) refl, rw (eq-eqb i i refl) refl)
found_here i (number name greatest) c = (rw (same_text name) refl, rw (eq-eqb i i refl) refl)

-- ---- a preceding argument changes nothing

skip_id : (b : Argument) (j : ℕ) (c : List Rule) (n : Text) → bytes_eq (name_of b) n ≡ false → arg_by_id (ruled j b ∷ c) n ≡ arg_by_id c n
skip_id (flag name) j c n e = rw e refl
skip_id (option name greatest usual) j c n e = rw e refl
skip_id (optional name greatest) j c n e = rw e refl
skip_id (wanted name) j c n e = rw e refl
skip_id (number name greatest) j c n e = rw e refl

skip_long : (b : Argument) (j : ℕ) (c : List Rule) (n : Text) → bytes_eq (name_of b) n ≡ false → arg_by_long (ruled j b ∷ c) n ≡ arg_by_long c n
skip_long (flag name) j c n e = rw e refl
skip_long (option name greatest usual) j c n e = rw e refl
skip_long (optional name greatest) j c n e = rw e refl
skip_long (wanted name) j c n e = refl
skip_long (number name greatest) j c n e = refl

-- If a positional index is below 1000, then the next index is one more.
next_up : (i : ℕ) → i < 1000 → min (i + 1) usize_max ≡ i + 1
next_up i few = omega arith

skip_position : (j i : ℕ) → j < 1000 → min (j + 1) usize_max ≤ i → (j == i) ≡ false
skip_position j i few least = let next = next_up j few in ne_eqb j i (λ e. omega (arith, next, least, e))

skip_index : (b : Argument) (j : ℕ) (c : List Rule) (i : ℕ) → j < 1000 → next_position j b ≤ i → arg_by_index (ruled j b ∷ c) i ≡ arg_by_index c i
skip_index (flag name) j c i few least = refl
skip_index (option name greatest usual) j c i few least = refl
skip_index (optional name greatest) j c i few least = refl
skip_index (wanted name) j c i few least = rw (skip_position j i few least) refl
skip_index (number name greatest) j c i few least = rw (skip_position j i few least) refl

found_past : (b : Argument) (j : ℕ) (c : List Rule) (i : ℕ) (a : Argument) → bytes_eq (name_of b) (name_of a) ≡ false → j < 1000 → next_position j b ≤ i
    → IsFound c i a → IsFound (ruled j b ∷ c) i a
found_past b j c i (flag name) e few least found = (skip_id b j c name e ∙ found.0, skip_long b j c name e ∙ found.1)
found_past b j c i (option name greatest usual) e few least found = (skip_id b j c name e ∙ found.0, skip_long b j c name e ∙ found.1)
found_past b j c i (optional name greatest) e few least found = (skip_id b j c name e ∙ found.0, skip_long b j c name e ∙ found.1)
found_past b j c i (wanted name) e few least found = (skip_id b j c name e ∙ found.0, skip_index b j c i few least ∙ found.1)
found_past b j c i (number name greatest) e few least found = (skip_id b j c name e ∙ found.0, skip_index b j c i few least ∙ found.1)

-- The next positional index is the current index or one more.
next_within : (i : ℕ) (a : Argument) → i < 1000 → (i ≤ next_position i a) × (next_position i a ≤ i + 1)
next_within i (flag name) few = (omega arith, omega arith)
next_within i (option name greatest usual) few = (omega arith, omega arith)
next_within i (optional name greatest) few = (omega arith, omega arith)
next_within i (wanted name) few = let next = next_up i few in (omega (arith, next), omega (arith, next))
next_within i (number name greatest) few = let next = next_up i few in (omega (arith, next), omega (arith, next))

are_past : (b : Argument) (j : ℕ) (c : List Rule) (i : ℕ) (arguments : List Argument) → is_named (name_of b) arguments ≡ false → j < 1000 → next_position j b ≤ i
    → i + length arguments < 1000 → AreFound c i arguments → AreFound (ruled j b ∷ c) i arguments
are_past b j c i [] fresh few least short found = tt
are_past b j c i (a ∷ rest) fresh few least short (found, more) =
    let disjoint = or_parts (bytes_eq (name_of b) (name_of a)) (is_named (name_of b) rest) fresh in
    let within = next_within i a (omega (arith, short)) in
    (found_past b j c i a disjoint.0 few least found, are_past b j c (next_position i a) rest disjoint.1 few (omega (arith, within.0, least)) (omega (arith, within.1, short)) more)

-- If the arguments are lawful, then clap finds each argument.
pub all_found : (i : ℕ) (arguments : List Argument) → are_lawful arguments ≡ true → i + length arguments < 1000 → AreFound (rules_from i arguments) i arguments
all_found i [] lawful short = tt
all_found i (a ∷ rest) lawful short =
    let own = both (is_lawful a) (not (is_named (name_of a) rest) && are_lawful rest) lawful in
    let disjoint = both (not (is_named (name_of a) rest)) (are_lawful rest) own.1 in
    let within = next_within i a (omega (arith, short)) in
    let short' : next_position i a + length rest < 1000 = omega (arith, within.1, short) in (
      found_here i a (rules_from (next_position i a) rest),
      are_past a i (rules_from (next_position i a) rest) (next_position i a) rest (not-true (is_named (name_of a) rest) disjoint.0) (omega (arith, short)) (omega arith) short'
          (all_found (next_position i a) rest disjoint.1 short'),
    )

pub no_short : (i : ℕ) (arguments : List Argument) (x : ℕ) → arg_by_short (rules_from i arguments) x ≡ None
no_short i [] x = refl
no_short i (flag name ∷ rest) x = no_short (next_position i (flag name)) rest x
no_short i (option name greatest usual ∷ rest) x = no_short (next_position i (option name greatest usual)) rest x
no_short i (optional name greatest ∷ rest) x = no_short (next_position i (optional name greatest)) rest x
no_short i (wanted name ∷ rest) x = no_short (next_position i (wanted name)) rest x
no_short i (number name greatest ∷ rest) x = no_short (next_position i (number name greatest)) rest x

-- ---- rules that clap may find

abbrev pub one_value : ValueRange
one_value = record { start_inclusive = 1; end_inclusive = 1 }

-- The rule takes one value.
abbrev pub TakesOne : Rule → Type 0
TakesOne a = (action_of a ≡ Set) × (unwrap_or_range a.range ≡ one_value)

-- The rule is the rule of a flag.
abbrev pub IsFlag : Rule → Type 0
IsFlag a = (name : Text) × (a ≡ filled (rule_for (flag name)))

-- The rule is found by its id, and takes one value or is that of a flag.
abbrev pub IsOwn : List Rule → Rule → Type 0
IsOwn c a = (arg_by_id c a.id ≡ Some a) × (TakesOne a ⊎ IsFlag a)

own_rule : (c : List Rule) (i : ℕ) (a : Argument) → IsFound c i a → IsOwn c (ruled i a)
own_rule c i (flag name) found = (found.0, inr (name, refl))
own_rule c i (option name greatest usual) found = (found.0, inl (refl, refl))
own_rule c i (optional name greatest) found = (found.0, inl (refl, refl))
own_rule c i (wanted name) found = (found.0, inl (refl, refl))
own_rule c i (number name greatest) found = (found.0, inl (refl, refl))

pub each_own : (c : List Rule) (i : ℕ) (arguments : List Argument) → AreFound c i arguments → (test : Rule → Bool) (a : Rule) → find test (rules_from i arguments) ≡ Some a → IsOwn c a
each_own c i [] are test a found = cc found
each_own c i (b ∷ rest) (here, more) test a found = go (test (ruled i b)) refl (each_own c (next_position i b) rest more test a)
  where
    go : (t : Bool) → test (ruled i b) ≡ t → (find test (rules_from (next_position i b) rest) ≡ Some a → IsOwn c a) → IsOwn c a
    go true e later = let is : Some (ruled i b) ≡ Some a = (rw e at found) in let same : ruled i b ≡ a = cc is in subst (IsOwn c) same (own_rule c i b here)
    go false e later = later (rw e at found)
