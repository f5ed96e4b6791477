-- The tags of a bracket over type indices, gathered item by item.
use Rattle.std.proofs.Common.{ℕ, suc, ◌+◌, ◌<◌, ◌≤◌, ◌≡◌, ◌∙◌, Bool, true, false, cond, List, [], ◌∷◌, ◌++◌, length, map, reverse, Option, Some, None, refl, sym, ap, subst, All, length-append, arith}
use Rattle.std.specs.Prelude.{not, ◌||◌, slice_get, option_map, IfSome}
use Rattle.std.specs.Str.{bytes_eq}
use Rattle.std.specs.Global.{Vec}
use Rattle.std.proofs.lemmas.List.{append-nil, map-append, reverse-append}
use Rattle.std.proofs.lemmas.List.Elements.{All-head, All-tail, All-push, All-nil}
use Rattle.std.proofs.lemmas.List.Sums.{fold-append}
use Rattle.std.proofs.lemmas.Option.{slice_get-get_or, none-some, same_Some}
use Rattle.types_spec.specs.declared.types.decl.Decl.{Decl}
use Rattle.types_spec.specs.declared.types.head.TagOf.{TagOf}
use Rattle.types_spec.specs.declared.types.head.HeadOf.{HeadOf}
use Rattle.types_spec.specs.declared.types.head.HeadOf.TheVariants as heads
use Rattle.types_spec.specs.types.Ty.{Ty, variable, named, tuple, bracket, part, tag, tag_of, including}
use Rattle.types_spec.specs.types.Declarations.{unfolded}
use Rattle.types_spec.specs.types.TypeNodes.{type_at, type_of_node}
use Rattle.types_spec.specs.types.Head.{head, plain_head, tags_in, joined, has_tag}
use Rattle.types_spec.specs.types.WellFormed.{AreSound}
use Rattle.types_spec.specs.types.Table.{tag_with_part, head_with_parts}
use Rattle.types_spec.proofs.types.TypeNodeLemmas.{at_kept}
use Rattle.types_table.specs.store.Held.{Grows}
use Rattle.types_table.specs.declared.store.stored_node.TypeNode.{TypeNode}
use Rattle.types_table.specs.declared.store.stored_node.TypeNode.TheVariants as borrowed
use Rattle.types_table.specs.store.BorrowedNode.{written_of}
use Rattle.std.specs.Borrow.{Bor}
use Rattle.types_theory.proofs.equality.EqualityNeedLemmas.{head_plain}
use Rattle.types_theory.proofs.equality.RankedLemmas.{are_ranked}
use Rattle.types_build.specs.representation.PlainHeads.{IsBracketed, IsPlainHead}
use Rattle.types_build.specs.representation.Unfolded.{HasHeadOf}
use Rattle.types_build.specs.declared.representation.bracket.BracketStep.{BracketStep}
use Rattle.types_build.specs.declared.representation.bracket.BracketStep.TheVariants as steps
use Rattle.types_build.specs.representation.Tags.{has_bracket, before_item, items, tags_of_item, with_item, with_items, tags_at, tags_of_entries, IsTagWithin, has_name, with_tag, IsHeadOf}
use Rattle.types_build.specs.representation.Work.{work, written_work}
use Rattle.types_build.specs.representation.RepresentationSteps.{BringsNone, IsSettled, IsSure, AreSettled, AreLeft, AreGathered, AreAll, IsStepWithin, item_work, steps_work}
use Rattle.types_build.proofs.representation.RepresentationBracketLemmas.{none_new_more, joined_none, joined-plain, joined-no_bracket, head_of_bracket, head_of_no_bracket}

-- ---- one more tag

module _ (f : ℕ → Ty) where
  pub has_tag-named : (tags : List (TagOf ℕ)) (name : List ℕ) → has_tag (map (tag_with_part f) tags) name ≡ has_name tags name
  has_tag-named [] name = refl
  has_tag-named (item ∷ tags) name = ap (λ b. bytes_eq item.name name || b) (has_tag-named tags name)

  more_or_not : (there : Bool) (tags : List (TagOf ℕ)) (item : TagOf ℕ)
      → map (tag_with_part f) tags ++ cond (not there) (tag_with_part f item ∷ []) []
      ≡ map (tag_with_part f) (cond there tags (tags ++ item ∷ []))
  more_or_not true tags item = append-nil (map (tag_with_part f) tags)
  more_or_not false tags item = sym (map-append (tag_with_part f) tags (item ∷ []))

  pub joined-tag : (tags : List (TagOf ℕ)) (name : List ℕ) (argument : Option ℕ)
      → joined (map (tag_with_part f) tags) (record { name = name; argument = option_map f argument } ∷ [])
      ≡ map (tag_with_part f) (with_tag tags name argument)
  joined-tag tags name argument =
      ap (λ b. map (tag_with_part f) tags ++ cond (not b) (record { name = name; argument = option_map f argument } ∷ []) [])
      (has_tag-named tags name)
      ∙ more_or_not (has_name tags name) tags (record { name = name; argument = argument })

-- ---- growing type stores

module _ (types added : List Ty) where
  argument_kept : (argument : Option ℕ) → IfSome argument (λ i. i < length types)
      → option_map (type_at (types ++ added)) argument ≡ option_map (type_at types) argument
  argument_kept None within = refl
  argument_kept (Some i) within = ap Some (at_kept types added i within)

  tags_kept : (tags : List (TagOf ℕ)) → All (IsTagWithin types) tags → tags_at (types ++ added) tags ≡ tags_at types tags
  tags_kept [] within = refl
  tags_kept (item ∷ tags) within =
      ap (λ (argument : Option Ty). record { name = item.name; argument = argument } ∷ tags_at (types ++ added) tags)
      (argument_kept item.argument (All-head (IsTagWithin types) item tags within))
      ∙ ap (λ all. tag_with_part (type_at types) item ∷ all) (tags_kept tags (All-tail (IsTagWithin types) item tags within))

  pub numbers_kept : (numbers : List ℕ) → All (λ i. i < length types) numbers
      → map (type_at (types ++ added)) numbers ≡ map (type_at types) numbers
  numbers_kept [] within = refl
  numbers_kept (n ∷ numbers) within =
      ap (λ t. t ∷ map (type_at (types ++ added)) numbers) (at_kept types added n (All-head (λ i. i < length types) n numbers within))
      ∙ ap (λ ts. type_at types n ∷ ts) (numbers_kept numbers (All-tail (λ i. i < length types) n numbers within))

longer : (types added : List Ty) → length types ≤ length (types ++ added)
longer types added = omega (arith, length-append types added)

tag_within_more : (types added : List Ty) (argument : Option ℕ) → IfSome argument (λ i. i < length types)
    → IfSome argument (λ i. i < length (types ++ added))
tag_within_more types added None within = tt
tag_within_more types added (Some i) within = omega (arith, within, length-append types added)

tags_within_more : (types added : List Ty) (tags : List (TagOf ℕ)) → All (IsTagWithin types) tags
    → All (IsTagWithin (types ++ added)) tags
tags_within_more types added tags within k d below =
    tag_within_more types added _ (within k d below)

-- If a step adds one tag or none, then the gathered tags are within the store.
pub tag_pushed :
    (types : List Ty) (found : List (TagOf ℕ)) → All (IsTagWithin types) found → (there : Bool) (name : List ℕ) (argument : Option ℕ)
    → IfSome argument (λ i. i < length types)
    → All (IsTagWithin types) (cond there found (found ++ record { name = name; argument = argument } ∷ []))
tag_pushed types found all true name argument within = all
tag_pushed types found all false name argument within =
    All-push (IsTagWithin types) found (record { name = name; argument = argument }) all within

-- ---- steps in growing type stores

module _ (decls : List Decl) (types added : List Ty) where
  left_kept : (rest : List BracketStep) (tags all : List (TagOf Ty)) → AreLeft decls types tags rest all
      → AreLeft decls (types ++ added) tags rest all
  left_kept [] tags all left = left
  left_kept (steps.Item i ∷ rest) tags all left = (
    omega (arith, left.0, longer types added),
    subst (λ (t : Ty). AreLeft decls (types ++ added) (with_item (head decls) tags t) rest all) (sym (at_kept types added i left.0))
        (left_kept rest (with_item (head decls) tags (type_at types i)) all left.1),
  )
  left_kept (steps.Included n ∷ rest) tags all left = (
    omega (arith, left.0, longer types added),
    subst (λ (t : Ty). AreLeft decls (types ++ added) (joined tags (tags_in (head decls t))) rest all) (sym (at_kept types added n left.0))
        (left_kept rest (joined tags (tags_in (head decls (type_at types n)))) all left.1),
  )
  left_kept (steps.Settle d ∷ rest) tags all left = (left.0, left.1, left_kept rest tags all left.2)

  work_kept : (rest : List BracketStep) (tags all : List (TagOf Ty)) → AreLeft decls types tags rest all
      → steps_work decls (types ++ added) rest ≡ steps_work decls types rest
  work_kept [] tags all left = refl
  work_kept (steps.Item i ∷ rest) tags all left =
      ap (λ (t : Ty). item_work (work decls) t + steps_work decls (types ++ added) rest) (at_kept types added i left.0)
      ∙ ap (λ n. item_work (work decls) (type_at types i) + n)
      (work_kept rest (with_item (head decls) tags (type_at types i)) all left.1)
  work_kept (steps.Included n ∷ rest) tags all left =
      ap (λ (t : Ty). suc (work decls t) + steps_work decls (types ++ added) rest) (at_kept types added n left.0)
      ∙ ap (λ m. suc (work decls (type_at types n)) + m)
      (work_kept rest (joined tags (tags_in (head decls (type_at types n)))) all left.1)
  work_kept (steps.Settle d ∷ rest) tags all left = ap (λ k. 1 + k) (work_kept rest tags all left.2)

pub settled_more : (decls : List Decl) (tags more : List (TagOf Ty)) (settled : List ℕ) → AreSettled decls tags settled
    → AreSettled decls (joined tags more) settled
settled_more decls tags more settled are k d below = λ t is.
    none_new_more tags more (tags_in (head decls t)) (are k d below t is)

item_positive : (w : Ty → ℕ) (t : Ty) → 0 < item_work w t
item_positive w (variable x) = omega arith
item_positive w (named n) = omega arith
item_positive w tuple = omega arith
item_positive w bracket = omega arith
item_positive w (part t a) = omega arith
item_positive w (tag t x) = omega arith
item_positive w (tag_of t x a) = omega arith
item_positive w (including t a) = omega arith

-- ---- gathered tags in growing type stores

module _ (decls : List Decl) (old new : List Ty) (grown : Grows old new) (found : List (TagOf ℕ)) (settled : List ℕ)
    (waiting : List BracketStep) (all : List (TagOf Ty)) where
  gathered_more : (added : List Ty) → AreGathered decls old found settled waiting all
      → AreGathered decls (old ++ added) found settled waiting all
  gathered_more added was =
      let kept = sym (tags_kept old added found was.found_within) in record {
        found_within = tags_within_more old added found was.found_within;
        brought = subst (λ (ts : List (TagOf Ty)). AreSettled decls ts settled) kept was.brought;
        left = subst (λ (ts : List (TagOf Ty)). AreLeft decls (old ++ added) ts waiting all) kept
            (left_kept decls old added waiting _ all was.left);
      }

  pub gathered_kept : AreGathered decls old found settled waiting all → AreGathered decls new found settled waiting all
  gathered_kept was =
      subst (λ (ts : List Ty). AreGathered decls ts found settled waiting all) (sym grown.kept) (gathered_more grown.added was)

  pub rest_kept : (tags : List (TagOf Ty)) → AreLeft decls old tags waiting all
      → steps_work decls new waiting ≡ steps_work decls old waiting
  rest_kept tags left =
      ap (λ (ts : List Ty). steps_work decls ts waiting) grown.kept ∙ work_kept decls old grown.added waiting tags all left

-- ---- one step

module _ (decls : List Decl) (types : List Ty) (found : List (TagOf ℕ)) (settled : List ℕ) (rest : List BracketStep) (all : List (TagOf Ty)) where
  -- If a step leaves the same tags to be gathered, then the state of the gathering stays valid.
  pub left_by : (waiting : List BracketStep) → AreGathered decls types found settled waiting all
      → (AreLeft decls types (tags_at types found) waiting all → AreLeft decls types (tags_at types found) rest all)
      → AreGathered decls types found settled rest all
  left_by waiting was goes =
      record { found_within = was.found_within; brought = was.brought; left = goes was.left }

  module _ (item : ℕ) (was : AreGathered decls types found settled (steps.Item item ∷ rest) all) where
    brings : (more : List (TagOf Ty)) → tags_of_item (head decls) (type_at types item) ≡ more
        → AreLeft decls types (joined (tags_at types found) more) rest all
    brings more is = subst (λ (ts : List (TagOf Ty)). AreLeft decls types (joined (tags_at types found) ts) rest all) is was.left.1

    pub gather_tag : (name : List ℕ) (argument : Option ℕ) → IfSome argument (λ i. i < length types)
        → tags_of_item (head decls) (type_at types item) ≡ record { name = name; argument = option_map (type_at types) argument } ∷ []
        → AreGathered decls types (with_tag found name argument) settled rest all
    gather_tag name argument within is =
        let same = joined-tag (type_at types) found name argument in record {
          found_within = tag_pushed types found was.found_within (has_name found name) name argument within;
          brought = subst (λ (ts : List (TagOf Ty)). AreSettled decls ts settled) same
              (settled_more decls (tags_at types found) (record { name = name; argument = option_map (type_at types) argument } ∷ []) settled
              was.brought);
          left = subst (λ (ts : List (TagOf Ty)). AreLeft decls types ts rest all) same (brings _ is);
        }

    pub gather_none : tags_of_item (head decls) (type_at types item) ≡ [] → AreGathered decls types found settled rest all
    gather_none is = record {
      found_within = was.found_within;
      brought = was.brought;
      left = subst (λ (ts : List (TagOf Ty)). AreLeft decls types ts rest all) (append-nil (tags_at types found)) (brings [] is);
    }

    pub gather_including : (whole : Ty) (included : ℕ) → included < length types
        → type_at types item ≡ including whole (type_at types included)
        → AreGathered decls types found settled (steps.Included included ∷ rest) all
    gather_including whole included within is = record {
      found_within = was.found_within;
      brought = was.brought;
      left = (within, brings (tags_in (head decls (type_at types included))) (ap (tags_of_item (head decls)) is));
    }

pub item_less : (decls : List Decl) (types : List Ty) (item : ℕ) (rest : List BracketStep)
    → steps_work decls types rest < steps_work decls types (steps.Item item ∷ rest)
item_less decls types item rest = let more = item_positive (work decls) (type_at types item) in omega (arith, more)

pub including_less : (decls : List Decl) (types : List Ty) (item : ℕ) (rest : List BracketStep) (whole : Ty) (included : ℕ)
    → type_at types item ≡ including whole (type_at types included)
    → steps_work decls types (steps.Included included ∷ rest) < steps_work decls types (steps.Item item ∷ rest)
including_less decls types item rest whole included is =
    let same = ap (item_work (work decls)) is in omega (arith, same)

-- ---- an abbreviation is settled

module _ (decls : List Decl) (old new : List Ty) (grown : Grows old new) (found : List (TagOf ℕ)) (settled : List ℕ)
    (d : ℕ) (rest : List BracketStep) (all : List (TagOf Ty)) (was : AreGathered decls old found settled (steps.Settle d ∷ rest) all) where
  pub settle_gathered : (settled' : List ℕ)
      → (IsSure decls (tags_at new found) d → AreSettled decls (tags_at new found) settled
      → AreSettled decls (tags_at new found) settled')
      → AreGathered decls new found settled' rest all
  settle_gathered settled' more =
      let now = gathered_kept decls old new grown found settled (steps.Settle d ∷ rest) all was in
      record { found_within = now.found_within; brought = more now.left.1 now.brought; left = now.left.2 }

  pub settle_less : steps_work decls new rest < steps_work decls old (steps.Settle d ∷ rest)
  settle_less =
      let kept = rest_kept decls old new grown found settled rest all (tags_at old found) was.left.2 in omega (arith, kept)

-- ---- an included type

module _ (decls : List Decl) (old new : List Ty) (grown : Grows old new) (found : List (TagOf ℕ)) (settled : List ℕ)
    (n : ℕ) (rest waiting : List BracketStep) (all : List (TagOf Ty)) (within : n < length old)
    (was : AreGathered decls old found settled (steps.Included n ∷ rest) all) where
  kept_rest : steps_work decls new rest ≡ steps_work decls old rest
  kept_rest =
      rest_kept decls old new grown found settled rest all
      (joined (tags_at old found) (tags_in (head decls (type_at old n)))) was.left.1

  pub next_less : (next : ℕ) → suc (work decls (type_at new next)) < work decls (type_at old n)
      → steps_work decls new waiting ≤ steps_work decls new rest + suc (suc (work decls (type_at new next)))
      → steps_work decls new waiting < steps_work decls old (steps.Included n ∷ rest)
  next_less next falls write = let kept = kept_rest in omega (arith, kept, falls, write)

  pub last_less : type_at new n ≡ type_at old n
      → steps_work decls new waiting ≤ steps_work decls new rest + work decls (type_at new n)
      → steps_work decls new waiting < steps_work decls old (steps.Included n ∷ rest)
  last_less is write =
      let kept = kept_rest in
      let same = ap (work decls) is in
      omega (arith, kept, same, write)

pub included_less : (decls : List Decl) (types : List Ty) (n : ℕ) (rest : List BracketStep)
    → steps_work decls types rest < steps_work decls types (steps.Included n ∷ rest)
included_less decls types n rest = omega arith

module _ (decls : List Decl) (sound : AreSound decls) (types : List Ty) (n : ℕ) (rest : List BracketStep) (tags all : List (TagOf Ty))
    (left : AreLeft decls types tags (steps.Included n ∷ rest) all) where
  pub include_there : BringsNone decls tags (type_at types n) → AreLeft decls types tags rest all
  include_there none =
      subst (λ (ts : List (TagOf Ty)). AreLeft decls types ts rest all)
      (joined_none tags (tags_in (head decls (type_at types n))) none) left.1

  -- An included type can be replaced by another type with the same head.
  pub include_next : (next : ℕ) → next < length types → head decls (type_at types next) ≡ head decls (type_at types n)
      → AreLeft decls types tags (steps.Included next ∷ rest) all
  include_next next within same = (
    within,
    subst (λ (h : HeadOf Ty). AreLeft decls types (joined tags (tags_in h)) rest all) (sym same) left.1,
  )

  module _ (ended : unfolded decls (type_at types n) ≡ None) where
    written : tags_in (head decls (type_at types n)) ≡ tags_in (plain_head (head decls) (type_at types n))
    written = ap tags_in (head_plain decls sound.rank (are_ranked decls sound) (type_at types n) ended)

    pub include_none : has_bracket (type_at types n) ≡ false → AreLeft decls types tags rest all
    include_none is =
        subst (λ (ts : List (TagOf Ty)). AreLeft decls types ts rest all)
        (ap (joined tags) written ∙ joined-no_bracket (head decls) tags (type_at types n) is) left.1

    pub include_items : has_bracket (type_at types n) ≡ true
        → AreLeft decls types (with_items (head decls) tags (items (type_at types n))) rest all
    include_items is =
        subst (λ (ts : List (TagOf Ty)). AreLeft decls types ts rest all)
        (ap (joined tags) written ∙ joined-plain (head decls) tags (type_at types n) is) left.1

-- ---- items pushed on top

pub last_item : (t w : Ty) → before_item t ≡ Some w → items t ≡ items w ++ t ∷ []
last_item (tag t x) w is = ap (λ u. items u ++ tag t x ∷ []) (same_Some t w is)
last_item (tag_of t x a) w is = ap (λ u. items u ++ tag_of t x a ∷ []) (same_Some t w is)
last_item (including t a) w is = ap (λ u. items u ++ including t a ∷ []) (same_Some t w is)
last_item t w is = absurd (none-some w is)

pub last_work : (f : Ty → ℕ) (t w : Ty) → before_item t ≡ Some w → written_work f t ≡ item_work f t + written_work f w
last_work f (tag t x) w is = let same = ap (written_work f) (same_Some t w is) in omega (arith, same)
last_work f (tag_of t x a) w is = let same = ap (written_work f) (same_Some t w is) in omega (arith, same)
last_work f (including t a) w is =
    let same = ap (written_work f) (same_Some t w is) in omega (arith, same)
last_work f t w is = absurd (none-some w is)

pub no_item : (t : Ty) → before_item t ≡ None → items t ≡ []
no_item (tag t x) is = absurd (none-some t (sym is))
no_item (tag_of t x a) is = absurd (none-some t (sym is))
no_item (including t a) is = absurd (none-some t (sym is))
no_item t is = refl

pub no_work : (f : Ty → ℕ) (t : Ty) → before_item t ≡ None → written_work f t ≡ 0
no_work f (tag t x) is = absurd (none-some t (sym is))
no_work f (tag_of t x a) is = absurd (none-some t (sym is))
no_work f (including t a) is = absurd (none-some t (sym is))
no_work f t is = refl

pub pushed_first : {X : Type 0} (xs ys : List X) (x : X) → ys ≡ xs ++ x ∷ [] → reverse ys ≡ x ∷ reverse xs
pushed_first xs ys x is = ap reverse is ∙ reverse-append xs (x ∷ [])

pub nothing_waits : {X : Type 0} (xs : List X) → length xs ≡ 0 → reverse xs ≡ []
nothing_waits [] none = refl
nothing_waits (x ∷ xs) none = absurd (omega (arith, none))

pub push_left :
    (decls : List Decl) (types : List Ty) (tags all : List (TagOf Ty)) (at : ℕ) (w : Ty) (rest : List BracketStep) → at < length types
    → before_item (type_at types at) ≡ Some w
    → AreLeft decls types (with_items (head decls) tags (items (type_at types at))) rest all
    → AreLeft decls types (with_items (head decls) tags (items w)) (steps.Item at ∷ rest) all
push_left decls types tags all at w rest within before left = (
  within,
  subst (λ (ts : List (TagOf Ty)). AreLeft decls types ts rest all)
      (ap (with_items (head decls) tags) (last_item (type_at types at) w before)
      ∙ fold-append (with_item (head decls)) tags (items w) (type_at types at ∷ [])) left,
)

-- If the node of a type adds no item, then the type has no tags of a last item.
pub tags_of_item-none :
    (head : Ty → HeadOf Ty) (types : List Ty) (node : TypeNode) → ((x : ℕ) (y : Bor (List ℕ)) → node ≡ borrowed.Tag x y → ⊥)
    → ((x : ℕ) (y : Bor (List ℕ)) (z : ℕ) → node ≡ borrowed.TagOf x y z → ⊥) → ((x y : ℕ) → node ≡ borrowed.Including x y → ⊥)
    → tags_of_item head (type_of_node types (written_of node)) ≡ []
tags_of_item-none head types (borrowed.Variable name) no_tag no_tag_of no_including = refl
tags_of_item-none head types (borrowed.Named name) no_tag no_tag_of no_including = refl
tags_of_item-none head types borrowed.Tuple no_tag no_tag_of no_including = refl
tags_of_item-none head types borrowed.Bracket no_tag no_tag_of no_including = refl
tags_of_item-none head types (borrowed.Part whole added) no_tag no_tag_of no_including = refl
tags_of_item-none head types (borrowed.Tag whole name) no_tag no_tag_of no_including = absurd (no_tag whole name refl)
tags_of_item-none head types (borrowed.TagOf whole name argument) no_tag no_tag_of no_including =
    absurd (no_tag_of whole name argument refl)
tags_of_item-none head types (borrowed.Including whole included) no_tag no_tag_of no_including =
    absurd (no_including whole included refl)

-- ---- the first items, and the end

pub none_gathered :
    (decls : List Decl) (types : List Ty) (t : Ty) (entries : List (Vec ℕ × Option ℕ)) (waiting : List BracketStep) → entries ≡ []
    → AreLeft decls types [] waiting (with_items (head decls) [] (items t))
    → AreGathered decls types (tags_of_entries entries) [] waiting (with_items (head decls) [] (items t))
none_gathered decls types t entries waiting none left =
    subst (λ (es : List (Vec ℕ × Option ℕ)). AreGathered decls types (tags_of_entries es) [] waiting (with_items (head decls) [] (items t)))
    (sym none)
    (record { found_within = All-nil (IsTagWithin types); brought = All-nil (IsSettled decls []); left = left })

pub nothing_left :
    (decls : List Decl) (types : List Ty) (found : List (TagOf ℕ)) (settled : List ℕ) (waiting : List BracketStep) (all : List (TagOf Ty))
    → waiting ≡ [] → AreGathered decls types found settled waiting all → AreAll types found all
nothing_left decls types found settled waiting all none gathered = record {
  found_within = gathered.found_within;
  are = subst (λ (ss : List BracketStep). AreLeft decls types (tags_at types found) ss all) none gathered.left;
}

-- The number in the first pending step is the index of an existing type or declaration.
pub step_within :
    (decls : List Decl) (types : List Ty) (tags all : List (TagOf Ty)) (step : BracketStep) (rest : List BracketStep)
    → AreLeft decls types tags (step ∷ rest) all → IsStepWithin decls types step
step_within decls types tags all (steps.Item i) rest left = left.0
step_within decls types tags all (steps.Included n) rest left = left.0
step_within decls types tags all (steps.Settle d) rest left = left.0

argument_numbered : (types : List Ty) (argument : Option ℕ) → IfSome argument (λ i. i < length types)
    → option_map (slice_get types) argument ≡ option_map (λ (t : Ty). Some t) (option_map (type_at types) argument)
argument_numbered types None within = refl
argument_numbered types (Some i) within = ap Some (slice_get-get_or types i tuple within)

tags_numbered : (types : List Ty) (tags : List (TagOf ℕ)) → All (IsTagWithin types) tags
    → map (tag_with_part (slice_get types)) tags ≡ map (tag_with_part (λ (t : Ty). Some t)) (tags_at types tags)
tags_numbered types [] within = refl
tags_numbered types (item ∷ tags) within =
    ap (λ (argument : Option (Option Ty)). record { name = item.name; argument = argument } ∷ map (tag_with_part (slice_get types)) tags)
    (argument_numbered types item.argument (All-head (IsTagWithin types) item tags within))
    ∙ ap (λ all. record { name = item.name; argument = option_map (λ (t : Ty). Some t) (option_map (type_at types) item.argument) } ∷ all)
    (tags_numbered types tags (All-tail (IsTagWithin types) item tags within))

module _ (decls : List Decl) (sound : AreSound decls) (types : List Ty) (t : Ty) (bracketed : IsBracketed t) where
  pub all_gathered : (found : List (TagOf ℕ)) → has_bracket t ≡ true → AreAll types found (with_items (head decls) [] (items t))
      → IsHeadOf decls types t (heads.Variants found)
  all_gathered found is all =
      ap (λ (tags : List (TagOf (Option Ty))). heads.Variants tags)
      (tags_numbered types found all.found_within ∙ ap (map (tag_with_part (λ (u : Ty). Some u))) all.are)
      ∙ ap (head_with_parts (λ (u : Ty). Some u)) (sym (head_of_bracket decls sound t bracketed is))

  pub nothing_gathered : has_bracket t ≡ false → IsHeadOf decls types t heads.Absent
  nothing_gathered is =
      ap (head_with_parts (λ (u : Ty). Some u)) (sym (head_of_no_bracket decls sound t bracketed is))

-- ---- a head that is not a bracket

pub plain_is_head :
    (decls : List Decl) (sound : AreSound decls) (types : List Ty) (t : Ty) (number : ℕ) (h : HeadOf ℕ)
    → HasHeadOf decls types t number → IsPlainHead types (type_at types number) h → IsHeadOf decls types t h
plain_is_head decls sound types t number h has is =
    is (head decls)
    ∙ ap (head_with_parts (λ (u : Ty). Some u)) (sym (head_plain decls sound.rank (are_ranked decls sound) (type_at types number) has.ended) ∙ has.head)
