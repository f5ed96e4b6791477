-- If the written tags of a text have no conflicts, then the tags of all heads have no conflicts.
use Rattle.std.proofs.Common.{◌≡◌, ◌≢◌, ℕ, zero, suc, ◌+◌, ◌<◌, ⊎_elim, Bool, true, false, cond, not, List, [], ◌∷◌, ◌++◌, Option, Some, None, length, get_or, refl, sym, ap, subst, ◌∙◌, arith}
use Rattle.std.specs.Prelude.{slice_get, filter, find, option_map, Contains, All, IfSome}
use Rattle.std.specs.List.{AllByRecursion}
use Rattle.std.specs.Str.{bytes_eq}
use Rattle.std.proofs.lemmas.Bool.{false≢true, and_parts, cases_order}
use Rattle.std.proofs.lemmas.List.Elements.{All-contains, All-weaker}
use Rattle.std.proofs.lemmas.Option.{same_Some, none-some, get_or_from_slice_get, slice_get_within, slice_get-get_or}
use Rattle.types_spec.specs.tag_hash.TagHash.{tag_hash}
use Rattle.base_data.proofs.model.Options.{Contains-first, Contains-later}
use Rattle.types_spec.specs.declared.types.decl.Predeclared.{Predeclared}
use Rattle.types_spec.specs.declared.types.decl.Decl.{Decl}
use Rattle.types_spec.specs.declared.types.head.TagOf.{TagOf}
use Rattle.types_spec.specs.declared.types.head.HeadOf.{HeadOf}
use Rattle.types_spec.specs.declared.types.head.HeadOf.TheVariants as heads
use Rattle.types_spec.specs.types.Ty.{Ty, variable, named, tuple, bracket, part, tag, tag_of, including, name_of, parts, instance, argument_for}
use Rattle.types_spec.specs.types.TypeNodes.{type_at, type_of_node, IsBelow}
use Rattle.types_spec.specs.types.Declarations.{predeclared, declaration_of, instance_of, abbreviated, abbreviated_at, abbreviated_by, unfolded}
use Rattle.types_spec.specs.types.Head.{has_tag, with_tags, tags_in, bare_tag, carrying_tag, head_meant, with_part, plain_head, head_by, head_within, enough, head}
use Rattle.types_spec.specs.types.Table.{tag_with_part}
use Rattle.std.specs.Borrow.{Bor}
use Rattle.base_data.proofs.model.Lists.{slice_get-last, AllByRecursion-append, AllByRecursion-filter, AllByRecursion-Contains}
use Rattle.types_table.specs.declared.store.stored_node.TypeNode.{TypeNode}
use Rattle.types_table.specs.declared.store.stored_node.TypeNode.TheVariants as borrowed
use Rattle.types_table.specs.store.Held.{Grows}
use Rattle.types_table.specs.store.BorrowedNode.{written_of}
use Rattle.types_table.proofs.store.StoreHeldLemmas.{Grows-none, there_kept}
use Rattle.types_wellformed.specs.declared.brackets.tag_item.TagItem.{TagItem}
use Rattle.types_wellformed.specs.brackets.TagItems.{Brings}
use Rattle.types_wellformed.specs.head_rules.Apart.{is_closed, ReportsClosed, EachTag, alone, IsListed, AreListed, HasBody, NoneConflict, AreApart, StandApart}

-- ---- lists

find_there : {X : Type 0} (p : X → Bool) (xs : List X) (x : X) → find p xs ≡ Some x → Contains xs x
find_there p [] x e = absurd (none-some x e)
find_there p (y ∷ ys) x e = by_test (p y) (find_there p ys x) e
  where
    by_test : (b : Bool) → (find p ys ≡ Some x → Contains ys x) → cond b (Some y) (find p ys) ≡ Some x → Contains (y ∷ ys) x
    by_test true later e = subst (Contains (y ∷ ys)) (same_Some y x e) (Contains-first y ys)
    by_test false later e = Contains-later y ys x (later e)

-- ---- types without variables

closed_instance : (value : List ℕ → Ty) (t : Ty) → is_closed t ≡ true → instance value t ≡ t
closed_instance value (variable x) e = absurd (false≢true e)
closed_instance value (named n) e = refl
closed_instance value tuple e = refl
closed_instance value bracket e = refl
closed_instance value (part t a) e =
    let both = and_parts (is_closed t) (is_closed a) e in
    ap (λ w. part w (instance value a)) (closed_instance value t both.0) ∙ ap (part t) (closed_instance value a both.1)
closed_instance value (tag t x) e = ap (λ w. tag w x) (closed_instance value t e)
closed_instance value (tag_of t x a) e =
    let both = and_parts (is_closed t) (is_closed a) e in
    ap (λ w. tag_of w x (instance value a)) (closed_instance value t both.0) ∙ ap (tag_of t x) (closed_instance value a both.1)
closed_instance value (including t a) e =
    let both = and_parts (is_closed t) (is_closed a) e in
    ap (λ w. including w (instance value a)) (closed_instance value t both.0) ∙ ap (including t) (closed_instance value a both.1)

-- ---- properties of each tag

pub each_more : (P Q : TagOf Ty → Type 0) → ((x : TagOf Ty) → P x → Q x) → (t : Ty) → EachTag P t → EachTag Q t
each_more P Q to (variable x) all = tt
each_more P Q to (named n) all = tt
each_more P Q to tuple all = tt
each_more P Q to bracket all = tt
each_more P Q to (part t a) all = (each_more P Q to t all.0, each_more P Q to a all.1)
each_more P Q to (tag t x) all = (each_more P Q to t all.0, to (bare_tag x) all.1)
each_more P Q to (tag_of t x a) all = (each_more P Q to t all.0, to (carrying_tag x a) all.1)
each_more P Q to (including t a) all = (each_more P Q to t all.0, each_more P Q to a all.1)

module _ (P : TagOf Ty → Type 0) (closed : (x : TagOf Ty) → P x → IfSome x.argument (λ a. is_closed a ≡ true)) where
  each_instance : (value : List ℕ → Ty) → ((x : List ℕ) → EachTag P (value x)) → (t : Ty) → EachTag P t → EachTag P (instance value t)
  each_instance value all (variable x) each = all x
  each_instance value all (named n) each = tt
  each_instance value all tuple each = tt
  each_instance value all bracket each = tt
  each_instance value all (part t a) each = (each_instance value all t each.0, each_instance value all a each.1)
  each_instance value all (tag t x) each = (each_instance value all t each.0, each.1)
  each_instance value all (tag_of t x a) each = (
    each_instance value all t each.0,
    subst (λ b. P (carrying_tag x b)) (sym (closed_instance value a (closed (carrying_tag x a) each.1))) each.1,
  )
  each_instance value all (including t a) each = (each_instance value all t each.0, each_instance value all a each.1)

  each_argument : (ps : List (List ℕ)) (ts : List Ty) → AllByRecursion (EachTag P) ts → (x : List ℕ) → EachTag P (argument_for ps ts x)
  each_argument [] ts all x = tt
  each_argument (p ∷ ps) [] all x = tt
  each_argument (p ∷ ps) (t ∷ ts) all x = by_test (bytes_eq p x) (each_argument ps ts all.1 x)
    where
      by_test : (b : Bool) → EachTag P (argument_for ps ts x) → EachTag P (cond b t (argument_for ps ts x))
      by_test true rest = all.0
      by_test false rest = rest

  each_part : (t : Ty) → EachTag P t → AllByRecursion (EachTag P) (parts t)
  each_part (variable x) each = tt
  each_part (named n) each = tt
  each_part tuple each = tt
  each_part bracket each = tt
  each_part (part t a) each = AllByRecursion-append (EachTag P) (parts t) (a ∷ []) (each_part t each.0) (each.1, tt)
  each_part (tag t x) each = tt
  each_part (tag_of t x a) each = tt
  each_part (including t a) each = tt

  -- ---- heads

  abbrev Bring : HeadOf Ty → Type 0
  Bring h = AllByRecursion P (tags_in h)

  with_part_bring : (h : HeadOf Ty) (a : Ty) → Bring (with_part h a)
  with_part_bring (heads.Variable x) a = tt
  with_part_bring (heads.Predeclared b ts) a = tt
  with_part_bring (heads.Datatype n ts) a = tt
  with_part_bring (heads.Tuple ts) a = tt
  with_part_bring (heads.Variants tags) a = tt
  with_part_bring heads.Absent a = tt

  with_tags_bring : (h : HeadOf Ty) (more : List (TagOf Ty)) → Bring h → AllByRecursion P more → Bring (with_tags h more)
  with_tags_bring (heads.Variants tags) more is all =
      AllByRecursion-append P tags (filter (λ (x : TagOf Ty). not (has_tag tags x.name)) more) is
      (AllByRecursion-filter P (λ (x : TagOf Ty). not (has_tag tags x.name)) more all)
  with_tags_bring (heads.Variable x) more is all = tt
  with_tags_bring (heads.Predeclared b ts) more is all = tt
  with_tags_bring (heads.Datatype n ts) more is all = tt
  with_tags_bring (heads.Tuple ts) more is all = tt
  with_tags_bring heads.Absent more is all = tt

  meant_bring : (base : Option Predeclared) (name : List ℕ) → Bring (head_meant base name)
  meant_bring None name = tt
  meant_bring (Some b) name = tt

  plain_bring : (f : Ty → HeadOf Ty) → ((u : Ty) → EachTag P u → Bring (f u)) → (t : Ty) → EachTag P t → Bring (plain_head f t)
  plain_bring f all (variable x) each = tt
  plain_bring f all (named n) each = meant_bring (predeclared n) n
  plain_bring f all tuple each = tt
  plain_bring f all bracket each = tt
  plain_bring f all (part t a) each = with_part_bring (plain_head f t) a
  plain_bring f all (tag t x) each = with_tags_bring (plain_head f t) (bare_tag x ∷ []) (plain_bring f all t each.0) (each.1, tt)
  plain_bring f all (tag_of t x a) each = with_tags_bring (plain_head f t) (carrying_tag x a ∷ []) (plain_bring f all t each.0) (each.1, tt)
  plain_bring f all (including t a) each = with_tags_bring (plain_head f t) (tags_in (f a)) (plain_bring f all t each.0) (all a each.1)

  -- ---- types over declarations

  abbrev EachBody : Decl → Type 0
  EachBody d = (t : Ty) → abbreviated d.body ≡ Some t → EachTag P t

  module _ (decls : List Decl) (bodies : (d : Decl) → Contains decls d → EachBody d) where
    body_unfolded : (d : Decl) (args : List Ty) (u : Ty) → AllByRecursion (EachTag P) args → (o : Option Ty) → ((t : Ty) → o ≡ Some t → EachTag P t)
        → option_map (instance_of d args) o ≡ Some u → EachTag P u
    body_unfolded d args u all None each e = absurd (none-some u e)
    body_unfolded d args u all (Some t) each e =
        subst (EachTag P) (same_Some (instance_of d args t) u e)
        (each_instance (argument_for d.parameters args) (each_argument d.parameters args all) t (each t refl))

    at_unfolded : (args : List Ty) (u : Ty) → AllByRecursion (EachTag P) args → (o : Option Decl) → ((d : Decl) → o ≡ Some d → EachBody d)
        → abbreviated_at o args ≡ Some u → EachTag P u
    at_unfolded args u all None body e = absurd (none-some u e)
    at_unfolded args u all (Some d) body e = body_unfolded d args u all (abbreviated d.body) (body d refl) e

    by_unfolded : (args : List Ty) (u : Ty) → AllByRecursion (EachTag P) args → (o : Option (List ℕ)) → abbreviated_by decls o args ≡ Some u → EachTag P u
    by_unfolded args u all None e = absurd (none-some u e)
    by_unfolded args u all (Some name) e =
        at_unfolded args u all (declaration_of decls name)
        (λ d found. bodies d (find_there (λ (decl : Decl). bytes_eq decl.name name) decls d found)) e

    within_bring : (n : ℕ) (t : Ty) → EachTag P t → Bring (head_within decls n t)
    within_bring zero t each = tt
    within_bring (suc n) t each = by_next (within_bring n) (unfolded decls t) refl
      where
        by_next : ((u : Ty) → EachTag P u → Bring (head_within decls n u)) → (o : Option Ty) → unfolded decls t ≡ o → Bring (head_by (head_within decls n) t o)
        by_next others None e = plain_bring (head_within decls n) others t each
        by_next others (Some u) e = others u (by_unfolded (parts t) u (each_part t each) (name_of t) e)

    pub head_bring : (t : Ty) → EachTag P t → Bring (head decls t)
    unfolding head
    head_bring t each = within_bring (enough decls t) t each

-- ---- tags by their numbers

argument_same : (types : List Ty) (a b : Option ℕ) (t u : Option Ty) → a ≡ b → option_map (slice_get types) a ≡ option_map (λ (t : Ty). Some t) t
    → option_map (slice_get types) b ≡ option_map (λ (t : Ty). Some t) u → t ≡ u
argument_same types a b t u same at_a at_b = all_same t u (sym at_a ∙ ap (option_map (slice_get types)) same ∙ at_b)
  where
    all_same : (t u : Option Ty) → option_map (λ (t : Ty). Some t) t ≡ option_map (λ (t : Ty). Some t) u → t ≡ u
    all_same None None e = refl
    all_same None (Some u) e = absurd (none-some (Some u) e)
    all_same (Some t) None e = absurd (none-some (Some t) (sym e))
    all_same (Some t) (Some u) e = same_Some (Some t) (Some u) e

module _ (types : List Ty) (items : List TagItem) (none : NoneConflict items) where
  brings : (i j : ℕ) (one other : TagOf ℕ) → slice_get items i ≡ Some (alone one) → slice_get items j ≡ Some (alone other) → Brings items 0 i j one other
  brings i j one other at_i at_j = record {
    first = alone one;
    second = alone other;
    first_is = at_i;
    second_is = at_j;
    placed = refl;
    one_there = Contains-first one [];
    other_there = Contains-first other [];
  }

  same_alone : (one other : TagOf ℕ) → alone one ≡ alone other → one ≡ other
  same_alone one other e =
      let tags : one ∷ [] ≡ other ∷ [] = ap (λ (i : TagItem). i.tags) e in
      cc

  same_position : (i j : ℕ) (one other : TagOf ℕ) → slice_get items i ≡ Some (alone one) → slice_get items j ≡ Some (alone other) → i ≡ j → one ≡ other
  same_position i j one other at_i at_j e = same_alone one other (same_Some (alone one) (alone other) (sym at_i ∙ ap (slice_get items) e ∙ at_j))

  pub listed_apart : (one other : TagOf Ty) → IsListed types items one → IsListed types items other → AreApart one other
  listed_apart one other p q = record { arguments = by_argument; hashes = by_hash }
    where
      one_name : p.number.name ≡ one.name
      one_name = ap (λ (x : TagOf (Option Ty)). x.name) p.is

      other_name : q.number.name ≡ other.name
      other_name = ap (λ (x : TagOf (Option Ty)). x.name) q.is

      by_argument : one.name ≡ other.name → ¬ (one.argument ≢ other.argument)
      by_argument same unlike =
          let names : p.number.name ≡ q.number.name = one_name ∙ same ∙ sym other_name in
          let differ : p.number.argument ≢ q.number.argument =
          λ e. unlike (argument_same types p.number.argument q.number.argument one.argument other.argument e
          (ap (λ (x : TagOf (Option Ty)). x.argument) p.is) (ap (λ (x : TagOf (Option Ty)). x.argument) q.is)) in
          ⊎_elim
          (λ here. differ (ap (λ (x : TagOf ℕ). x.argument) (same_position p.index q.index p.number q.number p.there q.there here)))
          (λ apart. ⊎_elim
          (λ before. none.arguments 0 (p.index, q.index, p.number, q.number, brings p.index q.index p.number q.number p.there q.there, before, names, differ))
          (λ after. none.arguments 0 (q.index, p.index, q.number, p.number, brings q.index p.index q.number p.number q.there p.there, after, sym names, λ e. differ (sym e)))
          apart)
          (cases_order p.index q.index)

      by_hash : one.name ≢ other.name → ¬ (tag_hash one.name ≡ tag_hash other.name)
      by_hash unlike same =
          let differ : p.number.name ≢ q.number.name = λ e. unlike (sym one_name ∙ e ∙ other_name) in
          let agree : tag_hash p.number.name ≡ tag_hash q.number.name = ap tag_hash one_name ∙ same ∙ sym (ap tag_hash other_name) in
          ⊎_elim
          (λ here. differ (ap (λ (x : TagOf ℕ). x.name) (same_position p.index q.index p.number q.number p.there q.there here)))
          (λ apart. ⊎_elim
          (λ before. none.hashes 0 (
            p.number.name,
            q.number.name,
            (
              p.index,
              q.index,
              p.number,
              q.number,
              brings p.index q.index p.number q.number p.there q.there,
              omega arith,
              record { one_named = refl; other_named = refl; unlike = differ; agree = agree },
            ),
          ))
          (λ after. none.hashes 0 (
            q.number.name,
            p.number.name,
            (
              q.index,
              p.index,
              q.number,
              p.number,
              brings q.index p.index q.number p.number q.there p.there,
              omega arith,
              record { one_named = refl; other_named = refl; unlike = λ e. differ (sym e); agree = sym agree },
            ),
          ))
          apart)
          (cases_order p.index q.index)

-- ---- all types

module _ (decls : List Decl) (types : List Ty) (items : List TagItem) where
  pub all_apart : All (HasBody types) decls → AreListed types items (length types) → NoneConflict items → StandApart decls types
  all_apart bodies each none i j one other in_i in_j among_i among_j =
      listed_apart types items none one other (bring i in_i one among_i) (bring j in_j other among_j)
    where
      body : (d : Decl) → Contains decls d → (t : Ty) → abbreviated d.body ≡ Some t → EachTag (IsListed types items) t
      body d among t is =
          let found = All-contains (HasBody types) decls d bodies among t is in
          subst (EachTag (IsListed types items)) (get_or_from_slice_get types found.0 t tuple found.1)
          (each found.0 (slice_get_within types found.0 t found.1))

      bring : (k : ℕ) → k < length types → (x : TagOf Ty) → Contains (tags_in (head decls (type_at types k))) x → IsListed types items x
      bring k below x among =
          AllByRecursion-Contains (IsListed types items) (tags_in (head decls (type_at types k))) x
          (head_bring (IsListed types items) (λ x p. p.closed) decls body (type_at types k) (each k below)) among

-- ---- one type at a time

push_grows : {X : Type 0} (old new : List X) (x : X) → new ≡ old ++ x ∷ [] → Grows old new
push_grows old new x is = record { added = x ∷ []; kept = is }

read_type : (types : List Ty) (n : ℕ) (t : Ty) → slice_get types n ≡ Some t → type_at types n ≡ t
read_type types n t is = get_or_from_slice_get types n t tuple is

-- If the list `known` states that type `n` contains no variable, then type `n` contains no
-- variable.
pub known_true : (types : List Ty) (known : List Bool) (n : ℕ) → ReportsClosed types known → n < length known → get_or known n false ≡ true → is_closed (type_at types n) ≡ true
known_true types known n reports below read =
    sym (get_or_from_slice_get known n (is_closed (type_at types n)) false (reports n below)) ∙ read

listed_kept : (types : List Ty) (old new : List TagItem) → Grows old new → (x : TagOf Ty) → IsListed types old x → IsListed types new x
listed_kept types old new grown x p = record {
  index = p.index;
  number = p.number;
  there = there_kept old new p.index (alone p.number) grown p.there;
  is = p.is;
  closed = p.closed;
}

listed_next : (types : List Ty) (old new : List TagItem) (n : ℕ) → Grows old new → AreListed types old n → EachTag (IsListed types new) (type_at types n) → AreListed types new (n + 1)
listed_next types old new n grown each here j below = ⊎_elim
    (λ same. subst (λ k. EachTag (IsListed types new) (type_at types k)) (sym same) here)
    (λ apart. ⊎_elim
    (λ before. each_more (IsListed types old) (IsListed types new) (listed_kept types old new grown) (type_at types j) (each j before))
    (λ after. absurd (omega (arith, below, after)))
    apart)
    (cases_order j n)

-- If the node of a type is not a tag, then the list of tags stays the same.
other_next : (types : List Ty) (items : List TagItem) (n : ℕ) → AreListed types items n → EachTag (IsListed types items) (type_at types n) → AreListed types items (n + 1)
other_next types items n each here = listed_next types items items n (Grows-none items) each here

pub other_listed : (types : List Ty) (items : List TagItem) (n : ℕ) (node : TypeNode) → slice_get types n ≡ Some (type_of_node types (written_of node)) → IsBelow n (written_of node)
    → ((w : ℕ) (x : Bor (List ℕ)) → node ≡ borrowed.Tag w x → ⊥) → ((w : ℕ) (x : Bor (List ℕ)) (a : ℕ) → node ≡ borrowed.TagOf w x a → ⊥)
    → AreListed types items n → AreListed types items (n + 1)
other_listed types items n node is below no_tag no_tag_of each =
    other_next types items n each (subst (EachTag (IsListed types items)) (sym (read_type types n (type_of_node types (written_of node)) is)) (by node below no_tag no_tag_of))
  where
    by : (node : TypeNode) → IsBelow n (written_of node) → ((w : ℕ) (x : Bor (List ℕ)) → node ≡ borrowed.Tag w x → ⊥) → ((w : ℕ) (x : Bor (List ℕ)) (a : ℕ) → node ≡ borrowed.TagOf w x a → ⊥)
        → EachTag (IsListed types items) (type_of_node types (written_of node))
    by (borrowed.Variable x) low no_tag no_tag_of = tt
    by (borrowed.Named x) low no_tag no_tag_of = tt
    by borrowed.Tuple low no_tag no_tag_of = tt
    by borrowed.Bracket low no_tag no_tag_of = tt
    by (borrowed.Part w a) low no_tag no_tag_of = (each w low.0, each a low.1)
    by (borrowed.Tag w x) low no_tag no_tag_of = absurd (no_tag w x refl)
    by (borrowed.TagOf w x a) low no_tag no_tag_of = absurd (no_tag_of w x a refl)
    by (borrowed.Including w u) low no_tag no_tag_of = (each w low.0, each u low.1)

last_listed : (types : List Ty) (old new : List TagItem) (x : TagOf Ty) (number : TagOf ℕ) → new ≡ old ++ alone number ∷ []
    → tag_with_part (slice_get types) number ≡ tag_with_part (λ (t : Ty). Some t) x → IfSome x.argument (λ a. is_closed a ≡ true) → IsListed types new x
last_listed types old new x number is same closed = record {
  index = length old;
  number = number;
  there = ap (λ xs. slice_get xs (length old)) is ∙ slice_get-last old (alone number);
  is = same;
  closed = closed;
}

pub tag_listed : (types : List Ty) (old new : List TagItem) (n w : ℕ) (name : List ℕ) → slice_get types n ≡ Some (tag (type_at types w) name) → w < n
    → new ≡ old ++ alone (record { name = name; argument = None }) ∷ [] → AreListed types old n → AreListed types new (n + 1)
tag_listed types old new n w name at below is each =
    let grown = push_grows old new (alone (record { name = name; argument = None })) is in
    listed_next types old new n grown each
    (subst (EachTag (IsListed types new)) (sym (read_type types n (tag (type_at types w) name) at)) (
      each_more (IsListed types old) (IsListed types new) (listed_kept types old new grown) (type_at types w) (each w below),
      last_listed types old new (bare_tag name) (record { name = name; argument = None }) is refl tt,
    ))

pub tag_of_listed : (types : List Ty) (old new : List TagItem) (n w a : ℕ) (name : List ℕ) → slice_get types n ≡ Some (tag_of (type_at types w) name (type_at types a)) → w < n → a < length types
    → new ≡ old ++ alone (record { name = name; argument = Some a }) ∷ [] → is_closed (type_at types a) ≡ true → AreListed types old n → AreListed types new (n + 1)
tag_of_listed types old new n w a name at below inside is closed each =
    let grown = push_grows old new (alone (record { name = name; argument = Some a })) is in
    listed_next types old new n grown each
    (subst (EachTag (IsListed types new)) (sym (read_type types n (tag_of (type_at types w) name (type_at types a)) at)) (
      each_more (IsListed types old) (IsListed types new) (listed_kept types old new grown) (type_at types w) (each w below),
      last_listed types old new (carrying_tag name (type_at types a)) (record { name = name; argument = Some a }) is
          (ap (λ (t : Option Ty). record { name = name; argument = Some t }) (slice_get-get_or types a tuple inside)) closed,
    ))

-- ---- one declaration at a time

body_kept : (old new : List Ty) → Grows old new → (d : Decl) → HasBody old d → HasBody new d
body_kept old new grown d has t is = let found = has t is in (found.0, there_kept old new found.0 t grown found.1)

pub bodies_kept : (old new : List Ty) → Grows old new → (ds : List Decl) → All (HasBody old) ds → All (HasBody new) ds
bodies_kept old new grown ds all = All-weaker (HasBody old) (HasBody new) (body_kept old new grown) ds all
