-- Lemmas about the tables of arguments and of names after one more tag, and about searches of the
-- tables.
use Rattle.std.proofs.Common.{ℕ, ℤ, ◌<◌, ◌≤◌, ◌+◌, ◌≡◌, ◌≢◌, ◌⊎◌, ⊎_elim, inl, inr, false}
use Rattle.std.proofs.Common.{cond, Option, Some, None, List, [], ◌∷◌, ◌++◌, length, get_or, take}
use Rattle.std.proofs.Common.{refl, sym, ap, subst, arith, ◌∙◌, append_assoc, Equal}
use Rattle.std.specs.Prelude.{Contains, MatchOption, IsTrue, is_some}
use Rattle.std.specs.Bool.{Decides, nat_eq}
use Rattle.std.specs.Borrow.{Bor}
use Rattle.std.specs.Cmp.{Equal-is}
use Rattle.std.specs.Cmp.Lexicographic.{slice_cmp}
use Rattle.std.specs.Option.{option_eq}
use Rattle.std.specs.Ordering.{is_eq, nat_cmp, int_cmp}
use Rattle.std.specs.Str.{bytes_eq}
use Rattle.std.proofs.Math.Seq.{take-length}
use Rattle.std.proofs.lemmas.Bool.{false≢true}
use Rattle.std.proofs.lemmas.Bool.Decides.{Decides-eqb}
use Rattle.std.proofs.lemmas.Cmp.{tied_itself, int_cmp_total}
use Rattle.std.proofs.lemmas.List.{take_more}
use Rattle.std.proofs.lemmas.List.Elements.{Contains-append_left, Contains-push}
use Rattle.std.proofs.lemmas.List.Elements.{Contains-push_cases}
use Rattle.std.proofs.lemmas.Map.Lookups.{exact_signed}
use Rattle.std.proofs.lemmas.Map.Text.{is_eq-slice_cmp}
use Rattle.std.proofs.lemmas.Option.{same_Some, none-some}
use Rattle.std.proofs.lemmas.Slice.Eq.{bytes_eq-Decides}
use Rattle.types_spec.specs.tag_hash.TagHash.{tag_hash}
use Rattle.types_spec.specs.declared.types.head.TagOf.{TagOf}
use Rattle.types_wellformed.specs.brackets.Sightings.{with_value, other_value}
use Rattle.types_wellformed.specs.brackets.TagTables.{ArgumentTable, arguments_at, HasArgument, AreArguments}
use Rattle.types_wellformed.specs.brackets.TagTables.{ConflictsWith, SomeConflicts}
use Rattle.types_wellformed.specs.brackets.TagTables.{EncodingTable, tag_names_at, HasEncoding, AreTagNames}
use Rattle.types_wellformed.specs.brackets.TagTables.{AreColliding}
use Rattle.types_wellformed.proofs.brackets.SightingLemmas.{reports_added, other_says}

-- ---- boolean tests

argument_is : (a b : Option ℕ) → Decides (option_eq nat_eq a b) (a ≡ b)
argument_is None None = (λ t. refl, λ e. refl)
argument_is None (Some y) = (λ t. absurd (false≢true t), λ e. absurd (none-some y e))
argument_is (Some x) None = (λ t. absurd (false≢true t), λ e. absurd (none-some x (sym e)))
argument_is (Some x) (Some y) =
    (λ t. ap Some ((Decides-eqb x y).0 t), λ e. (Decides-eqb x y).1 (same_Some x y e))

name_is : (name q : List ℕ) → Decides (is_eq (slice_cmp nat_cmp name q)) (name ≡ q)
name_is name q =
    subst (λ b. Decides b (name ≡ q)) (sym (is_eq-slice_cmp name q)) (bytes_eq-Decides name q)

hash_is : (h q : ℤ) → Decides (is_eq (int_cmp h q)) (h ≡ q)
hash_is h q = (
  λ t. exact_signed h q ((Equal-is (int_cmp h q)).0 t),
  λ e. (Equal-is (int_cmp h q)).1
      (subst (λ x. int_cmp h x ≡ Equal) e (tied_itself int_cmp_total h)),
)

-- ---- a list, one more element at a time

pub more_of :
    {X : Type 0} (P : List X → Type 0) (seen xs : List X) (i : ℕ) (x : X) → i < length xs
    → x ≡ get_or xs i x → P ((seen ++ take i xs) ++ x ∷ []) → P (seen ++ take (i + 1) xs)
more_of P seen xs i x below read holds =
    subst P (append_assoc seen (take i xs) (x ∷ [])
    ∙ ap (λ ys. seen ++ ys) (sym (take_more xs i x below ∙ ap (λ y. take i xs ++ y ∷ []) (sym read))))
    holds

pub all_of :
    {X : Type 0} (P : List X → Type 0) (xs : List X) (i : ℕ) → i ≤ length xs → length xs ≤ i
    → P (take i xs) → P xs
all_of P xs i le ge holds = let e : i ≡ length xs = omega arith in
    subst P (take-length xs) (subst (λ n. P (take n xs)) e holds)

-- Each of the first `i + 1` elements of a list is one of the first `i` elements or the element at
-- index `i`.
pub split_next :
    {X : Type 0} (xs : List X) (i : ℕ) (x y : X) → i < length xs → x ≡ get_or xs i x
    → Contains (take (i + 1) xs) y → Contains (take i xs) y ⊎ (x ≡ y)
split_next xs i x y below read there = Contains-push_cases (take i xs) x y
    (subst (λ ys. Contains ys y) (take_more xs i x below ∙ ap (λ z. take i xs ++ z ∷ []) (sym read)) there)

-- ---- arguments

pub arguments_added :
    (seen : List (TagOf ℕ)) (tag : TagOf ℕ) (before after : ArgumentTable) (key : List ℕ)
    → key ≡ tag.name
    → ((q : Bor (List ℕ)) → arguments_at after q.now
    ≡ cond (is_eq (slice_cmp nat_cmp key q.now))
    (Some (with_value (option_eq nat_eq) (arguments_at before key) tag.argument))
    (arguments_at before q.now))
    → AreArguments seen before → AreArguments (seen ++ tag ∷ []) after
arguments_added seen tag before after key is added reports =
    reports_added (λ argument. argument) (option_eq nat_eq) argument_is
    key (λ q. is_eq (slice_cmp nat_cmp key q)) (name_is key)
    (HasArgument seen) (HasArgument (seen ++ tag ∷ [])) tag.argument
    (arguments_at before) (arguments_at after) reports
    (λ q. added (record { ref_ptr = (0, 0); now = q }))
    (λ q argument. Contains-append_left seen (tag ∷ []) (record { name = q; argument = argument }))
    (λ q argument next. ⊎_elim (λ old. inl old)
    (λ e. inr (is ∙ ap (λ (t : TagOf ℕ). t.name) e, ap (λ (t : TagOf ℕ). t.argument) e))
    (Contains-push_cases seen tag (record { name = q; argument = argument }) next))
    (subst (λ n. HasArgument (seen ++ tag ∷ []) n tag.argument) (sym is) (Contains-push seen tag))

pub argument_says :
    (seen : List (TagOf ℕ)) (tag : TagOf ℕ) (table : ArgumentTable) (key : List ℕ)
    (found : Option (Option ℕ)) → key ≡ tag.name
    → found ≡ other_value (option_eq nat_eq) (arguments_at table key) tag.argument
    → AreArguments seen table
    → MatchOption found ((a : Option ℕ) → HasArgument seen tag.name a → a ≡ tag.argument)
    (λ a. HasArgument seen tag.name a × (a ≢ tag.argument))
argument_says seen tag table key found is found_is reports =
    subst (λ o. MatchOption o ((a : Option ℕ) → HasArgument seen tag.name a → a ≡ tag.argument)
    (λ a. HasArgument seen tag.name a × (a ≢ tag.argument)))
    (sym (found_is ∙ ap (λ n. other_value (option_eq nat_eq) (arguments_at table n) tag.argument) is))
    (other_says (λ argument. argument) (option_eq nat_eq) argument_is (HasArgument seen tag.name)
    tag.argument (arguments_at table tag.name) (reports tag.name))

-- Let the first `i` tags have no conflict. If the tag at index `i` was seen with no other argument,
-- then the first `i + 1` tags have no conflict.
pub no_conflict :
    (seen tags : List (TagOf ℕ)) (i : ℕ) (tag : TagOf ℕ) (found : Option (Option ℕ))
    → i < length tags → tag ≡ get_or tags i tag → (¬ SomeConflicts seen (take i tags))
    → MatchOption found ((a : Option ℕ) → HasArgument seen tag.name a → a ≡ tag.argument)
    (λ a. HasArgument seen tag.name a × (a ≢ tag.argument))
    → false ≡ is_some found → ¬ SomeConflicts seen (take (i + 1) tags)
no_conflict seen tags i tag None below read none says is = λ some. ⊎_elim
    (λ old. none (some.0, old, some.2))
    (λ e. let conflict = subst (ConflictsWith seen) (sym e) some.2 in conflict.2 (says conflict.0 conflict.1))
    (split_next tags i tag some.0 below read some.1)
no_conflict seen tags i tag (Some a) below read none says is = absurd (false≢true is)

pub some_conflict :
    (seen tags : List (TagOf ℕ)) (i : ℕ) (tag : TagOf ℕ) (found : Option (Option ℕ))
    → i < length tags → tag ≡ get_or tags i tag
    → MatchOption found ((a : Option ℕ) → HasArgument seen tag.name a → a ≡ tag.argument)
    (λ a. HasArgument seen tag.name a × (a ≢ tag.argument))
    → IsTrue (is_some found) → SomeConflicts seen tags
some_conflict seen tags i tag None below read says there = absurd (false≢true there)
some_conflict seen tags i tag (Some a) below read says there =
    (tag, (i, below, sym read), (a, says.0, says.1))

-- ---- names

pub tag_names_added :
    (seen : List (TagOf ℕ)) (tag : TagOf ℕ) (before after : EncodingTable) (text : Bor (List ℕ))
    (h : ℤ) → text.now ≡ tag.name → h ≡ tag_hash text.now
    → ((q : ℤ) → tag_names_at after q ≡ cond (is_eq (int_cmp h q))
    (Some (with_value (λ (a b : Bor (List ℕ)). bytes_eq a.now b.now) (tag_names_at before h) text))
    (tag_names_at before q))
    → AreTagNames seen before → AreTagNames (seen ++ tag ∷ []) after
tag_names_added seen tag before after text h is hashed added reports =
    reports_added (λ (v : Bor (List ℕ)). v.now) (λ (a b : Bor (List ℕ)). bytes_eq a.now b.now)
    (λ a b. bytes_eq-Decides a.now b.now)
    h (λ q. is_eq (int_cmp h q)) (hash_is h)
    (HasEncoding seen) (HasEncoding (seen ++ tag ∷ [])) text
    (tag_names_at before) (tag_names_at after) reports added
    (λ q n some. (some.0, Contains-append_left seen (tag ∷ []) some.0 some.1, some.2, some.3))
    (λ q n next. ⊎_elim (λ old. inl (next.0, old, next.2, next.3))
    (λ e. let named : text.now ≡ n = is ∙ ap (λ (t : TagOf ℕ). t.name) e ∙ next.2 in
    inr (hashed ∙ ap tag_hash named ∙ next.3, named))
    (Contains-push_cases seen tag next.0 next.1))
    (tag, Contains-push seen tag, sym is, sym hashed)

pub encoding_says :
    (seen : List (TagOf ℕ)) (table : EncodingTable) (text : Bor (List ℕ)) (h : ℤ)
    (found : Option (Bor (List ℕ)))
    → found ≡ other_value (λ (a b : Bor (List ℕ)). bytes_eq a.now b.now) (tag_names_at table h) text
    → AreTagNames seen table
    → MatchOption found ((n : List ℕ) → HasEncoding seen h n → n ≡ text.now)
    (λ v. HasEncoding seen h v.now × (v.now ≢ text.now))
encoding_says seen table text h found found_is reports =
    subst (λ o. MatchOption o ((n : List ℕ) → HasEncoding seen h n → n ≡ text.now)
    (λ v. HasEncoding seen h v.now × (v.now ≢ text.now))) (sym found_is)
    (other_says (λ (v : Bor (List ℕ)). v.now) (λ (a b : Bor (List ℕ)). bytes_eq a.now b.now)
    (λ a b. bytes_eq-Decides a.now b.now) (HasEncoding seen h) text (tag_names_at table h) (reports h))

-- Let the first `i` tags have no collision. If the hash of the tag at index `i` was seen with no
-- other name, then the first `i + 1` tags have no collision.
pub no_collision :
    (seen tags : List (TagOf ℕ)) (i : ℕ) (tag : TagOf ℕ) (text : Bor (List ℕ)) (h : ℤ)
    → i < length tags → tag ≡ get_or tags i tag → text.now ≡ tag.name → h ≡ tag_hash text.now
    → ((one other : List ℕ) → ¬ AreColliding seen (take i tags) one other)
    → ((n : List ℕ) → HasEncoding seen h n → n ≡ text.now)
    → (one other : List ℕ) → ¬ AreColliding seen (take (i + 1) tags) one other
no_collision seen tags i tag text h below read is hashed none says one other = λ some. ⊎_elim
    (λ old. none one other
    (some.0, some.1, some.2, old, some.4))
    (λ e. let named : text.now ≡ other = is ∙ ap (λ (t : TagOf ℕ). t.name) e ∙ some.4.other_named in
    some.4.unlike (says one
    (some.0, some.2, some.4.one_named, some.4.agree ∙ ap tag_hash (sym named) ∙ sym hashed) ∙ named))
    (split_next tags i tag some.1 below read some.3)

pub some_collision :
    (seen tags : List (TagOf ℕ)) (i : ℕ) (tag : TagOf ℕ) (text : Bor (List ℕ)) (h : ℤ)
    (v : Bor (List ℕ)) → i < length tags → tag ≡ get_or tags i tag → text.now ≡ tag.name
    → h ≡ tag_hash text.now → HasEncoding seen h v.now × (v.now ≢ text.now)
    → AreColliding seen tags v.now text.now
some_collision seen tags i tag text h v below read is hashed says = (
  says.0.0,
  tag,
  says.0.1,
  (i, below, sym read),
  record { one_named = says.0.2; other_named = sym is; unlike = says.1; agree = says.0.3 ∙ hashed },
)
