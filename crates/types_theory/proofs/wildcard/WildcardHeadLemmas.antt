-- If declared types are hidden, then a head that is a hidden type becomes `_`, and all other heads
-- stay the same.
use Rattle.std.proofs.Common.{ℕ, zero, suc, ◌<◌, ◌≤◌, ◌≡◌, ◌∙◌, ◌*◌, ◌^◌, List, [], ◌∷◌}
use Rattle.std.proofs.Common.{Bool, true, false, cond, Option, Some, None, refl, ap, subst, sym, arith}
use Rattle.std.specs.Prelude.{option_map, codes}
use Rattle.std.specs.Str.{bytes_eq}
use Rattle.std.proofs.lemmas.Iterator.Adapters.{option_map_id}
use Rattle.std.proofs.lemmas.List.{length-map}
use Rattle.std.proofs.lemmas.Option.{same_Some, none-some}
use Rattle.std.proofs.lemmas.Slice.Eq.{bytes_eq-Decides}
use Rattle.types_spec.specs.declared.types.decl.Predeclared.{Predeclared}
use Rattle.types_spec.specs.declared.types.decl.Predeclared.TheVariants as bases
use Rattle.types_spec.specs.declared.types.decl.Decl.{Decl}
use Rattle.types_spec.specs.declared.types.head.TagOf.{TagOf}
use Rattle.types_spec.specs.declared.types.head.HeadOf.{HeadOf}
use Rattle.types_spec.specs.declared.types.head.HeadOf.TheVariants as heads
use Rattle.types_spec.specs.types.Ty.{Ty, variable, named, tuple, bracket, part, tag, tag_of, including}
use Rattle.types_spec.specs.types.Ty.{depth, name_of, parts}
use Rattle.types_spec.specs.types.Declarations.{predeclared, declaration_of, instance_of, abbreviated_at}
use Rattle.types_spec.specs.types.Declarations.{abbreviated_by, unfolded}
use Rattle.types_spec.specs.types.Head.{head_meant, with_tags, tags_in, bare_tag, carrying_tag, with_part}
use Rattle.types_spec.specs.types.Head.{plain_head, head_by, head_within, enough, head}
use Rattle.types_spec.specs.types.WellFormed.{AreWellFormed}
use Rattle.types_theory.proofs.equality.HeadInstance.{weighs, falls_to, heavier, around, within, again, plain}
use Rattle.types_theory.proofs.equality.RankedLemmas.{are_ranked}
use Rattle.types_theory.proofs.equality.WeightLemmas.{priced, bound}
use Rattle.types_theory.specs.wildcard.Wildcard.{wildcard_body, hide, HidesDatatypes, wildcard_head}

abbrev any_head : HeadOf Ty
any_head = heads.Predeclared bases.Any []

any_is : predeclared (codes "_") ≡ Some bases.Any
unfolding predeclared
any_is = refl

module _ (hides : List ℕ → Bool) where
  abbrev wildcard : HeadOf Ty → HeadOf Ty
  wildcard h = wildcard_head hides h

  -- ---- heads

  -- If a function of heads gives the same result for `_` and for datatypes, then hiding does not
  -- change the function's result.
  pub same_wildcard : {X : Type 0} (f : HeadOf Ty → X)
      → ((n : List ℕ) (ts : List Ty) → f any_head ≡ f (heads.Datatype n ts))
      → (h : HeadOf Ty) → f (wildcard h) ≡ f h
  same_wildcard {X} f same (heads.Datatype n ts) = by (hides n) where
    by : (test : Bool) → f (cond test any_head (heads.Datatype n ts)) ≡ f (heads.Datatype n ts)
    by true = same n ts
    by false = refl
  same_wildcard f same h = refl

  -- The head is not a datatype with a hidden name.
  abbrev IsShown : HeadOf Ty → Type 0
  IsShown (heads.Datatype n ts) = hides n ≡ false
  IsShown h = Unit {0}

  shown_stays : (h : HeadOf Ty) → IsShown h → wildcard h ≡ h
  shown_stays (heads.Datatype n ts) shown = ap (λ b. cond b any_head (heads.Datatype n ts)) shown
  shown_stays h shown = refl

  part_shown : (h : HeadOf Ty) (t : Ty) → IsShown h → IsShown (with_part h t)
  part_shown (heads.Datatype n ts) t shown = shown
  part_shown (heads.Predeclared b ts) t shown = tt
  part_shown (heads.Tuple ts) t shown = tt
  part_shown h t shown = tt

  tags_shown : (h : HeadOf Ty) (more : List (TagOf Ty)) → IsShown (with_tags h more)
  tags_shown (heads.Variants tags) more = tt
  tags_shown h more = tt

  meant_shown : (base : Option Predeclared) (n : List ℕ) → hides n ≡ false → IsShown (head_meant base n)
  meant_shown None n shown = shown
  meant_shown (Some b) n shown = tt

  abbrev IsNameShown : Option (List ℕ) → Type 0
  IsNameShown None = Unit {0}
  IsNameShown (Some n) = hides n ≡ false

  plain_shown : (f : Ty → HeadOf Ty) (t : Ty) → IsNameShown (name_of t) → IsShown (plain_head f t)
  plain_shown f (variable x) shown = tt
  plain_shown f (named n) shown = meant_shown (predeclared n) n shown
  plain_shown f tuple shown = tt
  plain_shown f bracket shown = tt
  plain_shown f (part t a) shown = part_shown (plain_head f t) a (plain_shown f t shown)
  plain_shown f (tag t x) shown = tags_shown (plain_head f t) (bare_tag x ∷ [])
  plain_shown f (tag_of t x a) shown = tags_shown (plain_head f t) (carrying_tag x a ∷ [])
  plain_shown f (including t a) shown = tags_shown (plain_head f t) (tags_in (f a))

  -- If a type begins with a name that is not predeclared, then its plain head is the datatype with
  -- the name.
  plain_name : (f : Ty → HeadOf Ty) (t : Ty) (n : List ℕ) → name_of t ≡ Some n → predeclared n ≡ None
      → plain_head f t ≡ heads.Datatype n (parts t)
  plain_name f (named m) n named' new =
      let same = same_Some m n named' in
      ap (λ base. head_meant base m) (ap predeclared same ∙ new) ∙ ap (λ l. heads.Datatype l []) same
  plain_name f (part t a) n named' new = ap (λ h. with_part h a) (plain_name f t n named' new)
  plain_name f t n named' new = absurd (none-some n named')

  -- ---- declarations

  abbrev changed : Bool → Decl → Decl
  changed test d = record d { body = wildcard_body test d.body }

  first_changed : (test : Bool) (d : Decl) (n : List ℕ) (one other : Option Decl) → bytes_eq d.name n ≡ test
      → one ≡ option_map (changed (hides n)) other → cond test (Some (changed (hides d.name) d)) one
      ≡ option_map (changed (hides n)) (cond test (Some d) other)
  first_changed true d n one other is same =
      ap (λ name. Some (changed (hides name) d)) ((bytes_eq-Decides d.name n).0 is)
  first_changed false d n one other is same = same

  found_changed : (decls : List Decl) (n : List ℕ)
      → declaration_of (hide hides decls) n ≡ option_map (changed (hides n)) (declaration_of decls n)
  found_changed [] n = refl
  found_changed (d ∷ decls) n =
      first_changed (bytes_eq d.name n) d n (declaration_of (hide hides decls) n) (declaration_of decls n)
      refl (found_changed decls n)

  module _ (decls : List Decl) where
    abbrev less : List Decl
    less = hide hides decls

    declared_if : (n : List ℕ) (test : Bool) → hides n ≡ test
        → declaration_of less n ≡ option_map (changed test) (declaration_of decls n)
    declared_if n test is =
        found_changed decls n ∙ ap (λ b. option_map (changed b) (declaration_of decls n)) is

    -- If a name is not hidden, then its declaration stays the same.
    pub shown_declared : (n : List ℕ) → hides n ≡ false → declaration_of less n ≡ declaration_of decls n
    shown_declared n shown = declared_if n false shown ∙ option_map_id (declaration_of decls n)

    shown_unfolded : (t : Ty) → IsNameShown (name_of t) → unfolded less t ≡ unfolded decls t
    shown_unfolded t shown = by (name_of t) shown where
      by : (name : Option (List ℕ)) → IsNameShown name
          → abbreviated_by less name (parts t) ≡ abbreviated_by decls name (parts t)
      by None shown = refl
      by (Some n) shown = ap (λ found. abbreviated_at found (parts t)) (shown_declared n shown)

    -- ---- the head of a type

    module _ (well : AreWellFormed decls) (datatypes : HidesDatatypes hides decls) where
      wildcard_unfolded : (t : Ty) (n : List ℕ) → name_of t ≡ Some n → hides n ≡ true
          → unfolded less t ≡ Some (named (codes "_"))
      wildcard_unfolded t n named' is =
          ap (λ name. abbreviated_by less name (parts t)) named'
          ∙ ap (λ found. abbreviated_at found (parts t)) (declared_if n true is
          ∙ ap (option_map (changed true)) (datatypes n is).declared)

      datatype_unfolded : (t : Ty) (n : List ℕ) → name_of t ≡ Some n → hides n ≡ true
          → unfolded decls t ≡ None
      datatype_unfolded t n named' is =
          let data_type = datatypes n is in
          ap (λ name. abbreviated_by decls name (parts t)) named'
          ∙ ap (λ found. abbreviated_at found (parts t)) data_type.declared
          ∙ ap (option_map (instance_of data_type.decl (parts t))) data_type.no_abbreviation

      -- The type `_` has no expansion after hiding.
      any_unfolded : unfolded less (named (codes "_")) ≡ None
      any_unfolded =
          ap (λ found. abbreviated_at found []) (found_changed decls (codes "_"))
          ∙ by (declaration_of decls (codes "_")) refl where
            by : (found : Option Decl) → declaration_of decls (codes "_") ≡ found
                → abbreviated_at (option_map (changed (hides (codes "_"))) found) [] ≡ None
            by None is = refl
            by (Some d) is = absurd (none-some bases.Any (sym (well.new_names (codes "_") d is) ∙ any_is))

      any_within : (n : ℕ) → 0 < n → head_within less n (named (codes "_")) ≡ any_head
      any_within zero some = absurd (omega (arith, some))
      any_within (suc n) some =
          ap (head_by (head_within less n) (named (codes "_"))) any_unfolded
          ∙ ap (λ base. head_meant base (codes "_")) any_is

      abbrev weight : Ty → ℕ
      weight t = weighs decls well t

      names_weigh : (t : Ty) (n : List ℕ) → name_of t ≡ Some n → 0 < weight t
      names_weigh (named m) n named' = priced decls well.sound.rank (are_ranked decls well.sound) m
      names_weigh (part t a) n named' = omega (arith, names_weigh t n named', heavier decls well t a)
      names_weigh t n named' = absurd (none-some n named')

      abbrev Known : ℕ → Type 0
      Known k = (t : Ty) → weight t < k → head_within less k t ≡ wildcard (head decls t)

      module _ (k : ℕ) (known : Known k) where
        plain_same : (t : Ty) → weight t ≤ k → plain_head (head_within less k) t ≡ plain_head (head decls) t
        plain_same (variable x) below = refl
        plain_same (named n) below = refl
        plain_same tuple below = refl
        plain_same bracket below = refl
        plain_same (part t a) below =
            ap (λ h. with_part h a) (plain_same t (omega (arith, below, heavier decls well t a)))
        plain_same (tag t x) below = ap (λ h. with_tags h (bare_tag x ∷ [])) (plain_same t below)
        plain_same (tag_of t x a) below = ap (λ h. with_tags h (carrying_tag x a ∷ [])) (plain_same t below)
        plain_same (including t a) below =
            ap (λ h. with_tags h (tags_in (head_within less k a)))
            (plain_same t (omega (arith, below, around decls well t a)))
            ∙ ap (λ h. with_tags (plain_head (head decls) t) (tags_in h))
            (known a (omega (arith, below, within decls well t a)))
            ∙ ap (with_tags (plain_head (head decls) t))
            (same_wildcard tags_in (λ n ts. refl) (head decls a))

        module _ (t : Ty) (below : weight t < suc k) where
          -- If the name at the start of a type is not hidden, then hiding names commutes with
          -- finding the head.
          same_next : IsNameShown (name_of t) → (next : Option Ty) → unfolded decls t ≡ next
              → head_by (head_within less k) t next ≡ wildcard (head decls t)
          same_next shown (Some u) is =
              known u (omega (arith, below, falls_to decls well t u is))
              ∙ ap wildcard (sym (again decls well t u is))
          same_next shown None is =
              plain_same t (omega (arith, below))
              ∙ sym (shown_stays (plain_head (head decls) t) (plain_shown (head decls) t shown))
              ∙ ap wildcard (sym (plain decls well t is))

          shown_next : IsNameShown (name_of t) → head_within less (suc k) t ≡ wildcard (head decls t)
          shown_next shown =
              ap (head_by (head_within less k) t) (shown_unfolded t shown)
              ∙ same_next shown (unfolded decls t) refl

          -- If the name at the start of a type is hidden, then the head of the type becomes `_`.
          wildcard_next : (n : List ℕ) → name_of t ≡ Some n → hides n ≡ true
              → head_within less (suc k) t ≡ wildcard (head decls t)
          wildcard_next n named' is =
              ap (head_by (head_within less k) t) (wildcard_unfolded t n named' is)
              ∙ any_within k (omega (arith, below, names_weigh t n named'))
              ∙ sym (ap wildcard (plain_name (head decls) t n named'
              (well.new_names n (datatypes n is).decl (datatypes n is).declared))
              ∙ ap (λ b. cond b any_head (heads.Datatype n (parts t))) is)
              ∙ ap wildcard (sym (plain decls well t (datatype_unfolded t n named' is)))

          by_name : (name : Option (List ℕ)) → name_of t ≡ name
              → head_within less (suc k) t ≡ wildcard (head decls t)
          by_name None is = shown_next (subst IsNameShown (sym is) tt)
          by_name (Some n) is = by (hides n) refl where
            by : (test : Bool) → hides n ≡ test → head_within less (suc k) t ≡ wildcard (head decls t)
            by true yes' = wildcard_next n is yes'
            by false no' = shown_next (subst IsNameShown (sym is) no')

      all_known : (k : ℕ) → Known k
      all_known zero t below = absurd (omega (arith, below))
      all_known (suc k) t below = by_name k (all_known k) t below (name_of t) refl

      as_within : (t : Ty) → head less t ≡ head_within less (enough decls t) t
      unfolding head
      as_within t = ap (λ n. head_within less (depth t * 202 ^ suc n) t) (length-map decls (λ d. changed (hides d.name) d))

      pub heads_wildcard : (t : Ty) → head less t ≡ wildcard (head decls t)
      heads_wildcard t =
          as_within t
          ∙ all_known (enough decls t) t (bound decls well.sound.rank (are_ranked decls well.sound) t)
