-- The least and the greatest elements of nodes, and what these elements imply for the order of the
-- nodes.
use Rattle.std.proofs.Common.{ℕ, ◌≡◌, ◌<◌, ◌⊎◌, ⊎_elim, inl, inr, List, length, get_or, refl, sym, subst}
use Rattle.std.proofs.lemmas.Option.{get_or_from_slice_get}
use Rattle.std.specs.Prelude.{◌↔◌}
use Rattle.base_data.proofs.model.Options.{true_or_not}
use Rattle.base_data.specs.declared.model.value.Val.{Val}
use Rattle.base_data.specs.declared.model.value.Val.TheVariants as vals
use Rattle.base_data.specs.declared.model.value.Obj.{Obj}
use Rattle.trees.specs.declared.search_trees.element_span.ElementSpan.{ElementSpan}
use Rattle.trees.specs.declared.search_trees.element_span.SettledNode.{SettledNode}
use Rattle.trees.specs.search_trees.NodeParts.{node_at, is_less, IsAtOrBelow}
use Rattle.trees.specs.search_trees.Span.{IsLesser, IsGreater, IsSpread, IsSpan, IsOnLeftOrAt, IsLeftOver, IsRightUnder, IsSettledAs, IsSettled, IsPartSettled}
use Rattle.trees.specs.search_trees.TreeFault.{IsElementLess, IsDisordered}
use Rattle.trees.proofs.search_trees.BelowLemmas.{AtNode, itself, on_left, on_right, at_node, at_itself, below_left, below_right, none_below_int, none_below_atom}
use Rattle.trees.proofs.search_trees.LessLemmas.{less_transitive, less_itself, less_between}

module _ (graph : List Obj) where
  transitive : (o p q : ℕ) → IsElementLess graph o p → IsElementLess graph p q → IsElementLess graph o q
  transitive o p q first second = less_transitive graph (node_at graph o).element (node_at graph p).element (node_at graph q).element first second

  pub never_itself : (o : ℕ) → ¬ IsElementLess graph o o
  never_itself o is = less_itself graph (node_at graph o).element is

  between : (o p q : ℕ) → IsElementLess graph o q → IsElementLess graph o p ⊎ IsElementLess graph p q
  between o p q is = less_between graph (node_at graph o).element (node_at graph p).element (node_at graph q).element is

  -- If one element is not less than a second, and the second is not less than a third, then the
  -- first is not less than the third.
  not_less : (o p q : ℕ) → (¬ IsElementLess graph o p) → (¬ IsElementLess graph p q) → ¬ IsElementLess graph o q
  not_less o p q first second is = ⊎_elim first second (between o p q is)

  -- ---- two nodes, and two spans

  pub second_lesser : (o p : ℕ) → IsElementLess graph p o → IsLesser graph o p p
  second_lesser o p is = record {
    one = inr refl;
    first = λ back. never_itself o (transitive o p o back is);
    second = never_itself p;
  }

  pub first_lesser : (o p : ℕ) → (¬ IsElementLess graph p o) → IsLesser graph o p o
  first_lesser o p never = record { one = inl refl; first = never_itself o; second = never }

  pub second_greater : (o p : ℕ) → IsElementLess graph o p → IsGreater graph o p p
  second_greater o p is = record {
    one = inr refl;
    first = λ back. never_itself o (transitive o p o is back);
    second = never_itself p;
  }

  pub first_greater : (o p : ℕ) → (¬ IsElementLess graph o p) → IsGreater graph o p o
  first_greater o p never = record { one = inl refl; first = never_itself o; second = never }

  pub apart_lesser : (first second : ElementSpan) → IsSpread graph first → IsElementLess graph first.greatest second.least → IsLesser graph first.least second.least first.least
  apart_lesser first second spread apart =
      first_lesser first.least second.least (λ is. spread.rising (transitive first.greatest second.least first.least apart is))

  pub apart_greater : (first second : ElementSpan) → IsSpread graph second → IsElementLess graph first.greatest second.least → IsGreater graph first.greatest second.greatest second.greatest
  apart_greater first second spread apart = record {
    one = inr refl;
    first = λ is. spread.rising (transitive second.greatest first.greatest second.least is apart);
    second = never_itself second.greatest;
  }

  pub spread : (Has : ℕ → Type 0) (span : ElementSpan) → IsSpan graph Has span → IsSpread graph span
  spread Has span is = record {
    least_inside = is.least_inside;
    greatest_inside = is.greatest_inside;
    rising = is.least span.greatest is.greatest_there;
  }

  abbrev Either : (ℕ → Type 0) → (ℕ → Type 0) → ℕ → Type 0
  Either Has Others p = Has p ⊎ Others p

  inside : (o p q : ℕ) → (q ≡ o) ⊎ (q ≡ p) → o < length graph → p < length graph → q < length graph
  inside o p q (inl is) first second = subst (λ i. i < length graph) (sym is) first
  inside o p q (inr is) first second = subst (λ i. i < length graph) (sym is) second

  there : (Has Others : ℕ → Type 0) (o p q : ℕ) → (q ≡ o) ⊎ (q ≡ p) → Has o → Others p → Has q ⊎ Others q
  there Has Others o p q (inl is) first second = inl (subst Has (sym is) first)
  there Has Others o p q (inr is) first second = inr (subst Others (sym is) second)

  join_spans :
      (Has Others : ℕ → Type 0) (first second span : ElementSpan) → IsSpan graph Has first → IsSpan graph Others second
      → IsLesser graph first.least second.least span.least → IsGreater graph first.greatest second.greatest span.greatest
      → IsSpan graph (Either Has Others) span
  join_spans Has Others first second span one two lesser greater = record {
    least_inside = inside first.least second.least span.least lesser.one one.least_inside two.least_inside;
    greatest_inside = inside first.greatest second.greatest span.greatest greater.one one.greatest_inside two.greatest_inside;
    least_there = there Has Others first.least second.least span.least lesser.one one.least_there two.least_there;
    greatest_there = there Has Others first.greatest second.greatest span.greatest greater.one one.greatest_there two.greatest_there;
    least = λ p has. ⊎_elim
        (λ left. not_less p first.least span.least (one.least p left) lesser.first)
        (λ right. not_less p second.least span.least (two.least p right) lesser.second)
        has;
    greatest = λ p has. ⊎_elim
        (λ left. not_less span.greatest first.greatest p greater.first (one.greatest p left))
        (λ right. not_less span.greatest second.greatest p greater.second (two.greatest p right))
        has;
  }

  -- Suppose the greatest element of the first span is less than the least of the second. Then each
  -- element of the first span is less than each of the second.
  all_apart : (Has Others : ℕ → Type 0) (first second : ElementSpan) → IsSpan graph Has first → IsSpan graph Others second
      → IsElementLess graph first.greatest second.least → (p q : ℕ) → Has p → Others q → IsElementLess graph p q
  all_apart Has Others first second one two apart p q has other =
      let low = ⊎_elim (λ never. absurd (one.greatest p has never)) (λ is. is) (between first.greatest p second.least apart) in
      ⊎_elim (λ is. is) (λ never. absurd (two.least q other never)) (between p q second.least low)

  same_span : (Has Others : ℕ → Type 0) (span : ElementSpan) → IsSpan graph Has span → ((p : ℕ) → Has p → Others p) → ((p : ℕ) → Others p → Has p) → IsSpan graph Others span
  same_span Has Others span is forth back = record {
    least_inside = is.least_inside;
    greatest_inside = is.greatest_inside;
    least_there = forth span.least is.least_there;
    greatest_there = forth span.greatest is.greatest_there;
    least = λ p has. is.least p (back p has);
    greatest = λ p has. is.greatest p (back p has);
  }

  -- ---- one node

  pub own_spread : (o : ℕ) → o < length graph → IsSpread graph (record { least = o; greatest = o })
  own_spread o below = record { least_inside = below; greatest_inside = below; rising = never_itself o }

  own_span : (o : ℕ) → o < length graph → IsSpan graph (λ p. o ≡ p) (record { least = o; greatest = o })
  own_span o below = record {
    least_inside = below;
    greatest_inside = below;
    least_there = refl;
    greatest_there = refl;
    least = λ p same is. never_itself o (subst (λ q. IsElementLess graph q o) (sym same) is);
    greatest = λ p same is. never_itself o (subst (λ q. IsElementLess graph o q) (sym same) is);
  }

  -- There are no nodes below a value that is not a reference.
  pub none_below : (v : Val) → ((o : ℕ) → v ≡ vals.Ref o → ⊥) → (p : ℕ) → IsAtOrBelow graph v p → ⊥
  none_below (vals.Int z) other p below = none_below_int graph z p below
  none_below (vals.Atom tag) other p below = none_below_atom graph tag p below
  none_below (vals.Ref o) other p below = other o refl

  pub settled_part :
      (all : List SettledNode) (v : Val) (p : ℕ) (other : SettledNode) → v ≡ vals.Ref p → IsPartSettled graph all v → IsSettledAs graph p (get_or all p other)
  settled_part all v p other is part =
      let known : IsSettled graph all p = subst (λ w. IsPartSettled graph all w) is part in
      subst (λ s. IsSettledAs graph p s) (sym (get_or_from_slice_get all p known.0 other known.1)) known.2

  part_span : (v : Val) (p : ℕ) (settled : SettledNode) → v ≡ vals.Ref p → IsSettledAs graph p settled → IsSpan graph (IsAtOrBelow graph v) settled.span
  part_span v p settled is known = subst (λ w. IsSpan graph (IsAtOrBelow graph w) settled.span) (sym is) known.span

  module _ (o : ℕ) where
    abbrev Left : ℕ → Type 0
    Left p = IsAtOrBelow graph (node_at graph o).left p

    abbrev Right : ℕ → Type 0
    Right p = IsAtOrBelow graph (node_at graph o).right p

    abbrev Whole : ℕ → Type 0
    Whole p = IsAtOrBelow graph (vals.Ref o) p

    pub left_span :
        o < length graph → (p : ℕ) (settled : SettledNode) (span : ElementSpan) → (node_at graph o).left ≡ vals.Ref p → IsSettledAs graph p settled
        → IsLesser graph settled.span.least o span.least → IsGreater graph settled.span.greatest o span.greatest
        → IsSpan graph (IsOnLeftOrAt graph o) span
    left_span below p settled span is known lesser greater =
        join_spans Left (λ q. o ≡ q) settled.span (record { least = o; greatest = o }) span
        (part_span (node_at graph o).left p settled is known) (own_span o below) lesser greater

    pub left_over :
        (p : ℕ) (settled : SettledNode) → (node_at graph o).left ≡ vals.Ref p → IsSettledAs graph p settled
        → (¬ IsElementLess graph settled.span.greatest o) ↔ IsLeftOver graph o
    left_over p settled is known =
        let span = part_span (node_at graph o).left p settled is known in (
          λ never. (settled.span.greatest, span.greatest_there, never),
          λ wrong apart. ⊎_elim (span.greatest wrong.0 wrong.1) wrong.2 (between settled.span.greatest wrong.0 o apart),
        )

    pub alone : o < length graph → ((p : ℕ) → Left p → ⊥) → IsSpan graph (IsOnLeftOrAt graph o) (record { least = o; greatest = o })
    alone below none = same_span (λ p. o ≡ p) (IsOnLeftOrAt graph o) (record { least = o; greatest = o }) (own_span o below)
        (λ p same. inr same) (λ p has. ⊎_elim (λ left. absurd (none p left)) (λ same. same) has)

    joined_whole : (p : ℕ) → Either (IsOnLeftOrAt graph o) Right p → Whole p
    joined_whole p (inl (inl left)) = below_left graph o p left
    joined_whole p (inl (inr same)) = subst (λ q. IsAtOrBelow graph (vals.Ref o) q) same (at_itself graph o)
    joined_whole p (inr right) = below_right graph o p right

    whole_joined : (p : ℕ) → AtNode graph o p → Either (IsOnLeftOrAt graph o) Right p
    whole_joined p (itself same) = inl (inr same)
    whole_joined p (on_left left) = inl (inl left)
    whole_joined p (on_right right) = inr right

    pub right_span :
        (before : ElementSpan) → IsSpan graph (IsOnLeftOrAt graph o) before → (p : ℕ) (settled : SettledNode) (span : ElementSpan) → (node_at graph o).right ≡ vals.Ref p → IsSettledAs graph p settled
        → IsLesser graph before.least settled.span.least span.least → IsGreater graph before.greatest settled.span.greatest span.greatest
        → IsSpan graph (IsAtOrBelow graph (vals.Ref o)) span
    right_span before one p settled span is known lesser greater =
        same_span (Either (IsOnLeftOrAt graph o) Right) Whole span
        (join_spans (IsOnLeftOrAt graph o) Right before settled.span span one (part_span (node_at graph o).right p settled is known) lesser greater)
        joined_whole (λ q has. whole_joined q (at_node graph o q has))

    pub right_under :
        (before : ElementSpan) → IsSpan graph (IsOnLeftOrAt graph o) before → (p : ℕ) (settled : SettledNode) → (node_at graph o).right ≡ vals.Ref p → IsSettledAs graph p settled
        → (¬ IsElementLess graph before.greatest settled.span.least) ↔ IsRightUnder graph o
    right_under before one p settled is known =
        let span = part_span (node_at graph o).right p settled is known in (
          λ never. (before.greatest, settled.span.least, one.greatest_there, span.least_there, never),
          λ wrong apart. wrong.4 (all_apart (IsOnLeftOrAt graph o) Right before settled.span one span apart wrong.0 wrong.1 wrong.2 wrong.3),
        )

    pub no_right : (before : ElementSpan) → IsSpan graph (IsOnLeftOrAt graph o) before → ((p : ℕ) → Right p → ⊥) → IsSpan graph (IsAtOrBelow graph (vals.Ref o)) before
    no_right before one none = same_span (IsOnLeftOrAt graph o) Whole before one
        (λ p has. joined_whole p (inl has))
        (λ p has. ⊎_elim (λ left. left) (λ right. absurd (none p right)) (whole_joined p (at_node graph o p has)))

    -- If an element at or on the left of a node is not less than an element on the right, then the
    -- node is out of order.
    from_right : (p q : ℕ) → IsOnLeftOrAt graph o p → Right q → (¬ IsElementLess graph p q) → IsDisordered graph o
    from_right p q (inl left) right wrong = ⊎_elim
        (λ less. inr (q, right, λ more. wrong (transitive p o q less more)))
        (λ over. inl (p, left, over))
        (true_or_not (is_less graph (node_at graph p).element (node_at graph o).element))
    from_right p q (inr same) right wrong = inr (q, right, subst (λ r. ¬ IsElementLess graph r q) (sym same) wrong)

    pub from_right_under : IsRightUnder graph o → IsDisordered graph o
    from_right_under wrong = from_right wrong.0 wrong.1 wrong.2 wrong.3 wrong.4

    pub disorder_cases : IsDisordered graph o → IsLeftOver graph o ⊎ IsRightUnder graph o
    disorder_cases (inl wrong) = inl wrong
    disorder_cases (inr wrong) = inr (o, wrong.0, inr refl, wrong.1, wrong.2)
