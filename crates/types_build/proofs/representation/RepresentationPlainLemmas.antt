-- Lemmas about the written head of a type, given the root and the parts of the type.
use Rattle.std.proofs.Common.{ℕ, ◌<◌, ◌≡◌, ◌∙◌, List, [], ◌∷◌, ◌++◌, length, map, Option, Some, None, refl, sym, ap, subst, All, length-append, Result, Ok, Err, IfOk, arith}
use Rattle.std.specs.Prelude.{slice_get, fold, MatchOption}
use Rattle.std.proofs.lemmas.List.{append_assoc, append-nil}
use Rattle.std.proofs.lemmas.List.Elements.{All-head, All-tail}
use Rattle.std.proofs.lemmas.Option.{slice_get-get_or}
use Rattle.types_spec.specs.declared.types.decl.Predeclared.{Predeclared}
use Rattle.types_spec.specs.declared.types.head.TagOf.{TagOf}
use Rattle.types_spec.specs.declared.types.head.HeadOf.{HeadOf}
use Rattle.types_spec.specs.declared.types.head.HeadOf.TheVariants as heads
use Rattle.types_spec.specs.declared.types.ty.TypeTreeNode.{TypeTreeNode}
use Rattle.types_spec.specs.declared.types.ty.TypeTreeNode.TheVariants as nodes
use Rattle.types_spec.specs.types.Ty.{Ty, variable, named, tuple, bracket, part, tag, tag_of, including, parts}
use Rattle.types_spec.specs.types.TypeNodes.{type_at, type_of_node}
use Rattle.types_spec.specs.types.Declarations.{predeclared}
use Rattle.types_spec.specs.types.Head.{plain_head, with_part, with_tags, head_meant}
use Rattle.types_spec.specs.types.Table.{head_with_parts}
use Rattle.types_build.specs.representation.PlainHeads.{root_of, IsBracketed, IsPlainHead, meant_with, head_of_root}

-- The head `h` with the additional parts `ts`.
abbrev with_all : HeadOf Ty → List Ty → HeadOf Ty
with_all h ts = fold with_part h ts

with_all-push : (h : HeadOf Ty) (ts : List Ty) (t : Ty) → with_all h (ts ++ t ∷ []) ≡ with_part (with_all h ts) t
with_all-push h [] t = refl
with_all-push h (u ∷ ts) t = with_all-push (with_part h u) ts t

by_root : (head : Ty → HeadOf Ty) (t : Ty) → plain_head head t ≡ with_all (plain_head head (root_of t)) (parts t)
by_root head (variable x) = refl
by_root head (named x) = refl
by_root head tuple = refl
by_root head bracket = refl
by_root head (part t u) =
    ap (λ h. with_part h u) (by_root head t) ∙ sym (with_all-push (plain_head head (root_of t)) (parts t) u)
by_root head (tag t x) = refl
by_root head (tag_of t x u) = refl
by_root head (including t u) = refl

absent_stays : (ts : List Ty) → with_all heads.Absent ts ≡ heads.Absent
absent_stays [] = refl
absent_stays (t ∷ ts) = absent_stays ts

base_parts : (base : Predeclared) (us ts : List Ty) → with_all (heads.Predeclared base us) ts ≡ heads.Predeclared base (us ++ ts)
base_parts base us [] = ap (heads.Predeclared base) (sym (append-nil us))
base_parts base us (t ∷ ts) = base_parts base (us ++ t ∷ []) ts ∙ ap (heads.Predeclared base) (append_assoc us (t ∷ []) ts)

name_parts : (name : List ℕ) (us ts : List Ty) → with_all (heads.Datatype name us) ts ≡ heads.Datatype name (us ++ ts)
name_parts name us [] = ap (heads.Datatype name) (sym (append-nil us))
name_parts name us (t ∷ ts) = name_parts name (us ++ t ∷ []) ts ∙ ap (heads.Datatype name) (append_assoc us (t ∷ []) ts)

tuple_parts : (us ts : List Ty) → with_all (heads.Tuple us) ts ≡ heads.Tuple (us ++ ts)
tuple_parts us [] = ap (λ vs. heads.Tuple vs) (sym (append-nil us))
tuple_parts us (t ∷ ts) = tuple_parts (us ++ t ∷ []) ts ∙ ap (λ vs. heads.Tuple vs) (append_assoc us (t ∷ []) ts)

no_tagged_part : (h : HeadOf Ty) (more : List (TagOf Ty)) (t : Ty) → with_part (with_tags h more) t ≡ heads.Absent
no_tagged_part (heads.Variable x) more t = refl
no_tagged_part (heads.Predeclared b ts) more t = refl
no_tagged_part (heads.Datatype n ts) more t = refl
no_tagged_part (heads.Tuple ts) more t = refl
no_tagged_part (heads.Variants tags) more t = refl
no_tagged_part heads.Absent more t = refl

numbered :
    (types : List Ty) (numbers : List ℕ) → All (λ i. i < length types) numbers
    → map (slice_get types) numbers ≡ map (λ (t : Ty). Some t) (map (type_at types) numbers)
numbered types [] below = refl
numbered types (n ∷ numbers) below =
    ap (λ o. o ∷ map (slice_get types) numbers) (slice_get-get_or types n tuple (All-head (λ i. i < length types) n numbers below))
    ∙ ap (λ os. Some (type_at types n) ∷ os) (numbered types numbers (All-tail (λ i. i < length types) n numbers below))

no_parts : (t : Ty) → parts t ≡ [] → root_of t ≡ t
no_parts (variable x) none = refl
no_parts (named x) none = refl
no_parts tuple none = refl
no_parts bracket none = refl
no_parts (part t u) none = absurd (omega (arith, ap length none, length-append (parts t) (u ∷ [])))
no_parts (tag t x) none = refl
no_parts (tag_of t x u) none = refl
no_parts (including t u) none = refl

-- The root of a type has no arguments or components.
never_part : (u v t : Ty) → part u v ≡ root_of t → ⊥
never_part u v (variable x) is = cc
never_part u v (named x) is = cc
never_part u v tuple is = cc
never_part u v bracket is = cc
never_part u v (part t w) is = never_part u v t is
never_part u v (tag t x) is = cc
never_part u v (tag_of t x w) is = cc
never_part u v (including t w) is = cc

module _ (types : List Ty) (t : Ty) (numbers : List ℕ) (are : map (type_at types) numbers ≡ parts t) (below : All (λ i. i < length types) numbers) where
  these : map (slice_get types) numbers ≡ map (λ (u : Ty). Some u) (parts t)
  these = numbered types numbers below ∙ ap (map (λ (u : Ty). Some u)) are

  -- Consequences of the root alone.
  from_root : (root : Ty) → root_of t ≡ root → (h : HeadOf Ty) → ((head : Ty → HeadOf Ty) → with_all (plain_head head root) (parts t) ≡ h)
      → (g : HeadOf ℕ) → head_with_parts (slice_get types) g ≡ head_with_parts (λ (u : Ty). Some u) h
      → IsPlainHead types t g
  from_root root is h gives g same head =
      same ∙ ap (head_with_parts (λ (u : Ty). Some u))
      (sym (by_root head t ∙ ap (λ r. with_all (plain_head head r) (parts t)) is ∙ gives head))

  meant_parts : (base : Option Predeclared) (name : List ℕ) → root_of t ≡ named name → predeclared name ≡ base → IsPlainHead types t (meant_with base name numbers)
  meant_parts (Some base) name is meant =
      from_root (named name) is (heads.Predeclared base (parts t))
      (λ head. ap (λ o. with_all (head_meant o name) (parts t)) meant ∙ base_parts base [] (parts t))
      (heads.Predeclared base numbers) (ap (heads.Predeclared base) these)
  meant_parts None name is meant =
      from_root (named name) is (heads.Datatype name (parts t))
      (λ head. ap (λ o. with_all (head_meant o name) (parts t)) meant ∙ name_parts name [] (parts t))
      (heads.Datatype name numbers) (ap (heads.Datatype name) these)

  -- If the root of a type takes no parts and the type has parts, then the head of the type is
  -- `Absent`.
  absent_parts : (root u : Ty) (us : List Ty) → root_of t ≡ root → parts t ≡ u ∷ us → ((head : Ty → HeadOf Ty) → with_part (plain_head head root) u ≡ heads.Absent) → IsPlainHead types t heads.Absent
  absent_parts root u us is some none =
      from_root root is heads.Absent
      (λ head. ap (with_all (plain_head head root)) some ∙ ap (λ h. with_all h us) (none head) ∙ absent_stays us)
      heads.Absent refl

  bracket_alone : (root : Ty) → root_of t ≡ root → parts t ≡ [] → IsBracketed root → IsBracketed t
  bracket_alone root is none bracketed = subst IsBracketed (sym is ∙ no_parts t none) bracketed

  -- The root and the indices of the parts determine the written head of a type.
  pub plain_by_root :
      (root : TypeTreeNode) → type_of_node types root ≡ root_of t
      → MatchOption (head_of_root root numbers) (IsBracketed t) (IsPlainHead types t)
  plain_by_root (nodes.Named name) is = meant_parts (predeclared name) name (sym is) refl
  plain_by_root nodes.Tuple is =
      from_root tuple (sym is) (heads.Tuple (parts t)) (λ head. tuple_parts [] (parts t))
      (heads.Tuple numbers) (ap (λ vs. heads.Tuple vs) these)
  plain_by_root (nodes.Variable name) is = by numbers refl where
    by : (ns : List ℕ) → numbers ≡ ns → MatchOption (head_of_root (nodes.Variable name) ns) (IsBracketed t) (IsPlainHead types t)
    by [] e =
        let none : parts t ≡ [] = sym are ∙ ap (map (type_at types)) e in
        from_root (variable name) (sym is) (heads.Variable name) (λ head. ap (with_all (heads.Variable name)) none) (heads.Variable name) refl
    by (n ∷ ns) e =
        absent_parts (variable name) (type_at types n) (map (type_at types) ns) (sym is) (sym are ∙ ap (map (type_at types)) e) (λ head. refl)
  plain_by_root nodes.Bracket is = by numbers refl where
    by : (ns : List ℕ) → numbers ≡ ns → MatchOption (head_of_root nodes.Bracket ns) (IsBracketed t) (IsPlainHead types t)
    by [] e = bracket_alone bracket (sym is) (sym are ∙ ap (map (type_at types)) e) tt
    by (n ∷ ns) e =
        absent_parts bracket (type_at types n) (map (type_at types) ns) (sym is) (sym are ∙ ap (map (type_at types)) e) (λ head. refl)
  plain_by_root (nodes.Part whole added) is = absurd (never_part (type_at types whole) (type_at types added) t is)
  plain_by_root (nodes.Tag whole name) is = by numbers refl where
    by : (ns : List ℕ) → numbers ≡ ns → MatchOption (head_of_root (nodes.Tag whole name) ns) (IsBracketed t) (IsPlainHead types t)
    by [] e = bracket_alone (tag (type_at types whole) name) (sym is) (sym are ∙ ap (map (type_at types)) e) tt
    by (n ∷ ns) e =
        absent_parts (tag (type_at types whole) name) (type_at types n) (map (type_at types) ns) (sym is) (sym are ∙ ap (map (type_at types)) e)
        (λ head. no_tagged_part (plain_head head (type_at types whole)) _ (type_at types n))
  plain_by_root (nodes.TagOf whole name argument) is = by numbers refl where
    by : (ns : List ℕ) → numbers ≡ ns → MatchOption (head_of_root (nodes.TagOf whole name argument) ns) (IsBracketed t) (IsPlainHead types t)
    by [] e = bracket_alone (tag_of (type_at types whole) name (type_at types argument)) (sym is) (sym are ∙ ap (map (type_at types)) e) tt
    by (n ∷ ns) e =
        absent_parts (tag_of (type_at types whole) name (type_at types argument)) (type_at types n) (map (type_at types) ns) (sym is) (sym are ∙ ap (map (type_at types)) e)
        (λ head. no_tagged_part (plain_head head (type_at types whole)) _ (type_at types n))
  plain_by_root (nodes.Including whole included) is = by numbers refl where
    by : (ns : List ℕ) → numbers ≡ ns → MatchOption (head_of_root (nodes.Including whole included) ns) (IsBracketed t) (IsPlainHead types t)
    by [] e = bracket_alone (including (type_at types whole) (type_at types included)) (sym is) (sym are ∙ ap (map (type_at types)) e) tt
    by (n ∷ ns) e =
        absent_parts (including (type_at types whole) (type_at types included)) (type_at types n) (map (type_at types) ns) (sym is) (sym are ∙ ap (map (type_at types)) e)
        (λ head. no_tagged_part (plain_head head (type_at types whole)) _ (type_at types n))

pub plain_result :
    {E : Type 0} (r : Result (Option (HeadOf ℕ)) E) (o : Option (HeadOf ℕ)) (P : Type 0) (Q : HeadOf ℕ → Type 0)
    → IfOk r (λ h. h ≡ o) → MatchOption o P Q → IfOk r (λ h. MatchOption h P Q)
plain_result (Ok h) o P Q same says = subst (λ g. MatchOption g P Q) (sym same) says
plain_result (Err e) o P Q same says = tt
