-- Lemmas about tags as the entries of a map, for a name that the map has and for a name that is
-- added.
use Rattle.std.proofs.Common.{ℕ, ◌≡◌, ◌∙◌, Bool, true, false, cond, List, [], ◌∷◌, ◌++◌, Option, Some, None, refl, sym, ap, is_some, nat_eq}
use Rattle.std.specs.Prelude.{◌||◌}
use Rattle.std.specs.Map.{lookup}
use Rattle.std.specs.Str.{bytes_eq}
use Rattle.std.specs.Global.{Vec}
use Rattle.std.specs.Cmp.Lexicographic.{pointwise, bytes_decides}
use Rattle.std.proofs.lemmas.List.{map-append}
use Rattle.types_spec.specs.declared.types.head.TagOf.{TagOf}
use Rattle.indexmap.specs.IndexMap.{IndexMap, insert_entry}
use Rattle.indexmap.proofs.CallerLemmas.{insert_entry-new}
use Rattle.types_build.specs.representation.Tags.{has_name, with_tag, tag_of_entry, tags_of_entries}

matching : (a b : Bool) → (a ≡ true → b ≡ true) → (b ≡ true → a ≡ true) → a ≡ b
matching true b there back = sym (there refl)
matching false true there back = back refl
matching false false there back = refl

bytes_eq-turned : (a b : List ℕ) → bytes_eq a b ≡ bytes_eq b a
bytes_eq-turned a b = matching (bytes_eq a b) (bytes_eq b a)
    (λ is. (bytes_decides b a).1 (sym ((bytes_decides a b).0 is)))
    (λ is. (bytes_decides a b).1 (sym ((bytes_decides b a).0 is)))

-- Tests whether the bytes of the key are `name`.
abbrev has_text : List ℕ → Vec ℕ → Bool
has_text name key = pointwise nat_eq name key.items

found_or : (here same : Bool) (value : Option ℕ) (other : Option (Option ℕ)) (later : Bool) → here ≡ same → is_some other ≡ later
    → is_some (cond here (Some value) other) ≡ (same || later)
found_or true true value other later is rest = refl
found_or false false value other later is rest = rest
found_or true false value other later is rest = cc
found_or false true value other later is rest = cc

pub lookup-has_name : (name : List ℕ) (entries : List (Vec ℕ × Option ℕ))
    → is_some (lookup (has_text name) entries) ≡ has_name (tags_of_entries entries) name
lookup-has_name name [] = refl
lookup-has_name name (entry ∷ entries) =
    found_or (has_text name entry.0) (bytes_eq entry.0.items name) entry.1 (lookup (has_text name) entries)
    (has_name (tags_of_entries entries) name) (bytes_eq-turned name entry.0.items) (lookup-has_name name entries)

-- If a tag with the same name exists, then adding a tag changes nothing.
pub with_tag-there : (tags : List (TagOf ℕ)) (name : List ℕ) (argument : Option ℕ) → has_name tags name ≡ true
    → tags ≡ with_tag tags name argument
with_tag-there tags name argument is =
    ap (λ b. cond b tags (tags ++ record { name = name; argument = argument } ∷ [])) (sym is)

with_tag-new : (tags : List (TagOf ℕ)) (name : List ℕ) (argument : Option ℕ) → has_name tags name ≡ false
    → tags ++ record { name = name; argument = argument } ∷ [] ≡ with_tag tags name argument
with_tag-new tags name argument is =
    ap (λ b. cond b tags (tags ++ record { name = name; argument = argument } ∷ [])) (sym is)

nothing : {X : Type 0} (o : Option X) → is_some o ≡ false → o ≡ None
nothing None is = refl
nothing (Some x) is = cc

-- If no entry has the name, then the insertion into the map adds the tag at the end.
pub entry_added :
    {S : Type 0} (m : IndexMap (Vec ℕ) (Option ℕ) S) (name : List ℕ) (text : Vec ℕ) (argument : Option ℕ)
    (new : List (Vec ℕ × Option ℕ)) → text.items ≡ name → is_some (lookup (has_text name) m.entries) ≡ false
    → new ≡ insert_entry (λ (a b : Vec ℕ). pointwise nat_eq a.items b.items) m.entries text argument
    → tags_of_entries new ≡ with_tag (tags_of_entries m.entries) name argument
entry_added m name text argument new same absent is =
    ap tags_of_entries (is ∙ insert_entry-new (λ (a b : Vec ℕ). pointwise nat_eq a.items b.items) m text argument
    (ap (λ n. lookup (has_text n) m.entries) same ∙ nothing (lookup (has_text name) m.entries) absent))
    ∙ map-append tag_of_entry m.entries ((text, argument) ∷ [])
    ∙ ap (λ n. tags_of_entries m.entries ++ record { name = n; argument = argument } ∷ []) same
    ∙ with_tag-new (tags_of_entries m.entries) name argument (sym (lookup-has_name name m.entries) ∙ absent)
