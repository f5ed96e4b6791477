-- Lemmas about the head of a bracket, gathered item by item.
use Rattle.std.proofs.Common.{ℕ, ◌≡◌, ◌∙◌, Bool, true, false, cond, List, [], ◌∷◌, ◌++◌, Option, Some, None, refl, sym, ap, true≢false}
use Rattle.std.specs.Prelude.{not, ◌||◌, filter}
use Rattle.std.specs.Str.{bytes_eq}
use Rattle.std.specs.Cmp.Lexicographic.{bytes_decides}
use Rattle.std.proofs.Math.Bool.{or-true}
use Rattle.std.proofs.lemmas.Bool.{false≢true}
use Rattle.std.proofs.lemmas.List.{append_assoc, append-nil}
use Rattle.std.proofs.lemmas.List.Elements.{filter-append}
use Rattle.std.proofs.lemmas.List.Folds.{list_any-append}
use Rattle.std.proofs.lemmas.List.Sums.{fold-append}
use Rattle.types_spec.specs.declared.types.decl.Decl.{Decl}
use Rattle.types_spec.specs.declared.types.decl.Predeclared.{Predeclared}
use Rattle.types_spec.specs.declared.types.head.TagOf.{TagOf}
use Rattle.types_spec.specs.declared.types.head.HeadOf.{HeadOf}
use Rattle.types_spec.specs.declared.types.head.HeadOf.TheVariants as heads
use Rattle.types_spec.specs.types.Ty.{Ty, variable, named, tuple, bracket, part, tag, tag_of, including}
use Rattle.types_spec.specs.types.Declarations.{predeclared, unfolded}
use Rattle.types_spec.specs.types.Head.{head, plain_head, with_part, with_tags, tags_in, joined, has_tag, head_meant, bare_tag, carrying_tag}
use Rattle.types_spec.specs.types.WellFormed.{AreSound}
use Rattle.types_theory.proofs.equality.EqualityNeedLemmas.{head_plain}
use Rattle.types_theory.proofs.equality.RankedLemmas.{are_ranked}
use Rattle.types_build.specs.representation.PlainHeads.{IsBracketed}
use Rattle.types_build.specs.representation.Tags.{has_bracket, items, tags_of_item, with_item, with_items}

-- ---- joining tags

abbrev pub is_new : List (TagOf Ty) → TagOf Ty → Bool
is_new tags item = not (has_tag tags item.name)

-- If a list is filtered by two tests in sequence, the result is the list filtered by the
-- conjunction of the two tests.
module _ {X : Type 0} (p q r : X → Bool) (same : (x : X) → r x ≡ cond (p x) (q x) false) where
  tested : (z : X) (kept both : List X) (a c : Bool) → c ≡ cond a (q z) false → filter q kept ≡ both
      → filter q (cond a (z ∷ kept) kept) ≡ cond c (z ∷ both) both
  tested z kept both true c is rest =
      ap (λ d. cond d (z ∷ filter q kept) (filter q kept)) (sym is) ∙ ap (λ ys. cond c (z ∷ ys) ys) rest
  tested z kept both false c is rest = rest ∙ ap (λ d. cond d (z ∷ both) both) (sym is)

  filter-filter : (zs : List X) → filter q (filter p zs) ≡ filter r zs
  filter-filter [] = refl
  filter-filter (z ∷ zs) = tested z (filter p zs) (filter r zs) (p z) (r z) (same z) (filter-filter zs)

-- Let a name not be the name of a gathered tag. The name is the name of a new tag if and only if
-- the name is the name of any tag.
module _ (tags : List (TagOf Ty)) (name : List ℕ) (absent : has_tag tags name ≡ false) where
  among_new : (item : TagOf Ty) (kept all : List (TagOf Ty)) (there same : Bool)
      → (same ≡ true → there ≡ false) → bytes_eq item.name name ≡ same → has_tag kept name ≡ has_tag all name
      → has_tag (cond (not there) (item ∷ kept) kept) name ≡ (same || has_tag all name)
  among_new item kept all false same new is rest =
      ap (λ b. b || has_tag kept name) is ∙ ap (λ b. same || b) rest
  among_new item kept all true false new is rest = rest
  among_new item kept all true true new is rest = absurd (true≢false (new refl))

  has_tag-new : (more : List (TagOf Ty)) → has_tag (filter (is_new tags) more) name ≡ has_tag more name
  has_tag-new [] = refl
  has_tag-new (item ∷ more) =
      among_new item (filter (is_new tags) more) more (has_tag tags item.name) (bytes_eq item.name name)
      (λ same. ap (has_tag tags) ((bytes_decides item.name name).0 same) ∙ absent) refl (has_tag-new more)

new_to_both : (a b c : Bool) → (a ≡ false → c ≡ b) → not (a || c) ≡ cond (not b) (not a) false
new_to_both true true c same = refl
new_to_both true false c same = refl
new_to_both false true c same = ap not (same refl)
new_to_both false false c same = ap not (same refl)

pub is_new-joined : (tags more : List (TagOf Ty)) (item : TagOf Ty)
    → is_new (joined tags more) item ≡ cond (is_new more item) (is_new tags item) false
is_new-joined tags more item =
    ap not (list_any-append (λ (other : TagOf Ty). bytes_eq other.name item.name) tags (filter (is_new tags) more))
    ∙ new_to_both (has_tag tags item.name) (has_tag more item.name) (has_tag (filter (is_new tags) more) item.name)
    (λ absent. has_tag-new tags item.name absent more)

pub joined-joined : (tags more last : List (TagOf Ty)) → joined tags (joined more last) ≡ joined (joined tags more) last
joined-joined tags more last =
    ap (λ ts. tags ++ ts) (filter-append (is_new tags) more (filter (is_new more) last))
    ∙ ap (λ ts. tags ++ (filter (is_new tags) more ++ ts))
    (filter-filter (is_new more) (is_new tags) (is_new (joined tags more)) (is_new-joined tags more) last)
    ∙ sym (append_assoc tags (filter (is_new tags) more) (filter (is_new (joined tags more)) last))

-- ---- tags that are already there

and_turned : (a b : Bool) → cond a b false ≡ cond b a false
and_turned true true = refl
and_turned true false = refl
and_turned false true = refl
and_turned false false = refl

pub none_kept : {X : Type 0} (p q : X → Bool) (xs : List X) → filter q xs ≡ [] → filter q (filter p xs) ≡ []
none_kept p q xs none =
    filter-filter p q (λ x. cond (p x) (q x) false) (λ x. refl) xs
    ∙ sym (filter-filter q p (λ x. cond (p x) (q x) false) (λ x. and_turned (p x) (q x)) xs)
    ∙ ap (filter p) none

pub none_new_more : (tags more last : List (TagOf Ty)) → filter (is_new tags) last ≡ [] → filter (is_new (joined tags more)) last ≡ []
none_new_more tags more last none =
    sym (filter-filter (is_new more) (is_new tags) (is_new (joined tags more)) (is_new-joined tags more) last)
    ∙ none_kept (is_new more) (is_new tags) last none

has_tag-own : (prefix rest : List (TagOf Ty)) (item : TagOf Ty) → has_tag (prefix ++ item ∷ rest) item.name ≡ true
has_tag-own [] rest item = ap (λ b. b || has_tag rest item.name) ((bytes_decides item.name item.name).1 refl)
has_tag-own (other ∷ prefix) rest item =
    ap (λ b. bytes_eq other.name item.name || b) (has_tag-own prefix rest item) ∙ or-true (bytes_eq other.name item.name)

none_new_after : (prefix more : List (TagOf Ty)) → filter (is_new (prefix ++ more)) more ≡ []
none_new_after prefix [] = refl
none_new_after prefix (item ∷ more) =
    let rest = filter (is_new (prefix ++ item ∷ more)) more in
    ap (λ b. cond (not b) (item ∷ rest) rest) (has_tag-own prefix more item)
    ∙ ap (λ ts. filter (is_new ts) more) (sym (append_assoc prefix (item ∷ []) more))
    ∙ none_new_after (prefix ++ item ∷ []) more

-- If tags are joined to others, then joining the same tags again adds nothing.
pub joined_there : (tags more : List (TagOf Ty)) → filter (is_new (joined tags more)) more ≡ []
joined_there tags more =
    sym (filter-filter (is_new more) (is_new tags) (is_new (joined tags more)) (is_new-joined tags more) more)
    ∙ ap (filter (is_new tags)) (none_new_after [] more)

pub joined_none : (tags more : List (TagOf Ty)) → filter (is_new tags) more ≡ [] → joined tags more ≡ tags
joined_none tags more none = ap (λ ts. tags ++ ts) none ∙ append-nil tags

-- ---- items

module _ (head : Ty → HeadOf Ty) where
  pub joined-with_items : (out tags : List (TagOf Ty)) (ts : List Ty)
      → joined out (with_items head tags ts) ≡ with_items head (joined out tags) ts
  joined-with_items out tags [] = refl
  joined-with_items out tags (t ∷ ts) =
      joined-with_items out (with_item head tags t) ts
      ∙ ap (λ all. with_items head all ts) (joined-joined out tags (tags_of_item head t))

  with_last : (t : Ty) (ts : List Ty) (h : HeadOf Ty) → h ≡ heads.Variants (with_items head [] ts)
      → with_tags h (tags_of_item head t) ≡ heads.Variants (with_items head [] (ts ++ t ∷ []))
  with_last t ts h is =
      ap (λ g. with_tags g (tags_of_item head t)) is
      ∙ ap (λ tags. heads.Variants tags) (sym (fold-append (with_item head) [] ts (t ∷ [])))

  pub plain_head-bracket : (t : Ty) → has_bracket t ≡ true → plain_head head t ≡ heads.Variants (with_items head [] (items t))
  plain_head-bracket (variable x) is = absurd (false≢true is)
  plain_head-bracket (named n) is = absurd (false≢true is)
  plain_head-bracket tuple is = absurd (false≢true is)
  plain_head-bracket bracket is = refl
  plain_head-bracket (part t a) is = absurd (false≢true is)
  plain_head-bracket (tag t x) is =
      with_last (tag t x) (items t) (plain_head head t) (plain_head-bracket t is)
  plain_head-bracket (tag_of t x a) is =
      with_last (tag_of t x a) (items t) (plain_head head t) (plain_head-bracket t is)
  plain_head-bracket (including t a) is =
      with_last (including t a) (items t) (plain_head head t) (plain_head-bracket t is)

  part_takes_no_tags : (h : HeadOf Ty) (a : Ty) (more : List (TagOf Ty)) → with_tags (with_part h a) more ≡ heads.Absent
  part_takes_no_tags (heads.Variable x) a more = refl
  part_takes_no_tags (heads.Predeclared b ts) a more = refl
  part_takes_no_tags (heads.Datatype n ts) a more = refl
  part_takes_no_tags (heads.Tuple ts) a more = refl
  part_takes_no_tags (heads.Variants tags) a more = refl
  part_takes_no_tags heads.Absent a more = refl

  name_takes_no_tags : (base : Option Predeclared) (name : List ℕ) (more : List (TagOf Ty))
      → with_tags (head_meant base name) more ≡ heads.Absent
  name_takes_no_tags (Some base) name more = refl
  name_takes_no_tags None name more = refl

  pub takes_no_tags : (t : Ty) (more : List (TagOf Ty)) → has_bracket t ≡ false → with_tags (plain_head head t) more ≡ heads.Absent
  takes_no_tags (variable x) more is = refl
  takes_no_tags (named n) more is = name_takes_no_tags (predeclared n) n more
  takes_no_tags tuple more is = refl
  takes_no_tags bracket more is = absurd (true≢false is)
  takes_no_tags (part t a) more is = part_takes_no_tags (plain_head head t) a more
  takes_no_tags (tag t x) more is = ap (λ h. with_tags h more) (takes_no_tags t (bare_tag x ∷ []) is)
  takes_no_tags (tag_of t x a) more is =
      ap (λ h. with_tags h more) (takes_no_tags t (carrying_tag x a ∷ []) is)
  takes_no_tags (including t a) more is =
      ap (λ h. with_tags h more) (takes_no_tags t (tags_in (head a)) is)

  -- If items extend a type that is not a bracket, then the plain head is `Absent`.
  pub plain_head-no_bracket : (t : Ty) → IsBracketed t → has_bracket t ≡ false → plain_head head t ≡ heads.Absent
  plain_head-no_bracket bracket bracketed is = absurd (true≢false is)
  plain_head-no_bracket (tag t x) bracketed is = takes_no_tags t (bare_tag x ∷ []) is
  plain_head-no_bracket (tag_of t x a) bracketed is = takes_no_tags t (carrying_tag x a ∷ []) is
  plain_head-no_bracket (including t a) bracketed is = takes_no_tags t (tags_in (head a)) is
  plain_head-no_bracket t bracketed is = absurd bracketed

  none_in : (h : HeadOf Ty) → with_tags h [] ≡ heads.Absent → tags_in h ≡ []
  none_in (heads.Variable x) is = refl
  none_in (heads.Predeclared b ts) is = refl
  none_in (heads.Datatype n ts) is = refl
  none_in (heads.Tuple ts) is = refl
  none_in (heads.Variants tags) is = cc
  none_in heads.Absent is = refl

  -- Joining the tags of a bracket to other tags gives the same result as adding the bracket's items
  -- one by one.
  pub joined-plain : (out : List (TagOf Ty)) (t : Ty) → has_bracket t ≡ true
      → joined out (tags_in (plain_head head t)) ≡ with_items head out (items t)
  joined-plain out t is =
      ap (λ h. joined out (tags_in h)) (plain_head-bracket t is)
      ∙ joined-with_items out [] (items t)
      ∙ ap (λ tags. with_items head tags (items t)) (append-nil out)

  pub joined-no_bracket : (out : List (TagOf Ty)) (t : Ty) → has_bracket t ≡ false
      → joined out (tags_in (plain_head head t)) ≡ out
  joined-no_bracket out t is =
      ap (joined out) (none_in (plain_head head t) (takes_no_tags t [] is)) ∙ append-nil out

-- ---- over declarations

module _ (decls : List Decl) (sound : AreSound decls) where
  bracketed_left : (t : Ty) → IsBracketed t → unfolded decls t ≡ None
  bracketed_left bracket bracketed = refl
  bracketed_left (tag t x) bracketed = refl
  bracketed_left (tag_of t x a) bracketed = refl
  bracketed_left (including t a) bracketed = refl
  bracketed_left t bracketed = absurd bracketed

  pub head_of_bracket : (t : Ty) → IsBracketed t → has_bracket t ≡ true
      → head decls t ≡ heads.Variants (with_items (head decls) [] (items t))
  head_of_bracket t bracketed is =
      head_plain decls sound.rank (are_ranked decls sound) t (bracketed_left t bracketed)
      ∙ plain_head-bracket (head decls) t is

  pub head_of_no_bracket : (t : Ty) → IsBracketed t → has_bracket t ≡ false → head decls t ≡ heads.Absent
  head_of_no_bracket t bracketed is =
      head_plain decls sound.rank (are_ranked decls sound) t (bracketed_left t bracketed)
      ∙ plain_head-no_bracket (head decls) t bracketed is
