-- Labels: the objects that have one, and their numbers.
use Rattle.std.proofs.Common.{ℕ, suc, ◌≡◌, ◌+◌, ◌-◌, ◌<◌, ◌≤◌, ◌==◌, ◌∙◌, ◌⊎◌, ⊎_elim, inl, inr, Bool, true, false, cond, List, [], ◌∷◌, ◌++◌, length, take, drop, get_or, refl, sym, ap, subst, arith, append-nil, zero-add, Some, None}
use Rattle.std.specs.Prelude.{◌||◌, All, filter, codes}
use Rattle.std.proofs.lemmas.Bool.Decides.{eqb_tells}
use Rattle.std.proofs.lemmas.List.{length-append, length-set}
use Rattle.std.proofs.lemmas.List.Elements.{All-head, All-tail, All-more, All-weaker}
use Rattle.std.proofs.lemmas.List.Folds.{list_any-append}
use Rattle.base_data.specs.declared.model.value.Val.{Val}
use Rattle.base_data.specs.declared.model.value.Obj.{Obj}
use Rattle.types_table.specs.declared.type_table.tabled.Tabled.{Tabled}
use Rattle.text_print.specs.show.TextChunks.{TextChunk, First, has, firsts, agains, labelled, number_in, label_text, chunk_text}
use Rattle.text_print.proofs.show.ShowChunkLemmas.{agains-append, firsts-append}
use Rattle.text_print.specs.declared.print.print_walk.PrintStep.{PrintStep}
use Rattle.text_print.specs.declared.print.print_walk.PrintStep.TheVariants as steps
use Rattle.text_print.specs.declared.print.print_walk.PrintWalk.{PrintWalk}
use Rattle.text_print.specs.print.Labels.{IsBetween, AreNumbers, agains_of, marks_after, IsMarkable, AreCounted}
use Rattle.text_print.specs.print.PrintLevels.{levels_of}
use Rattle.text_print.specs.print.PrintWalk.{chunks_left, left_of, step_chunks, IsStep, Goes}
use Rattle.text_print.proofs.print.PrintLevelLemmas.{no_levels}
use Rattle.text_print.proofs.print.PrintMarkLemmas.{mark_set}

-- ---- numbers

-- An object has a label if and only if its number is less than the number of labels.
pub label_cases : (objects : List ℕ) (o : ℕ) → ((has objects o ≡ true) × (number_in objects o < length objects)) ⊎ ((has objects o ≡ false) × (length objects ≤ number_in objects o))
label_cases [] o = inr (refl, omega arith)
label_cases (x ∷ objects) o = ⊎_elim
    (λ same. inl (ap (λ b. b || has objects o) same.0, subst (λ n. n < suc (length objects)) (sym (ap (λ b. cond b 0 (suc (number_in objects o))) same.0)) (omega arith)))
    (λ other.
    let is : number_in (x ∷ objects) o ≡ suc (number_in objects o) = ap (λ b. cond b 0 (suc (number_in objects o))) other.0 in
    ⊎_elim
    (λ some. inl (ap (λ b. b || has objects o) other.0 ∙ some.0, omega (arith, is, some.1)))
    (λ none. inr (ap (λ b. b || has objects o) other.0 ∙ none.0, omega (arith, is, none.1)))
    (label_cases objects o))
    (eqb_tells x o)

-- `numbers` has the index of each object in `objects`, where the search for the object begins at
-- index `k`.
abbrev pub AreNumbersFrom : ℕ → List ℕ → ℕ → List ℕ → Type 0
AreNumbersFrom k objects first numbers = (o : ℕ) → first ≤ o → get_or numbers (o - first) (length objects) ≡ k + number_in (drop k objects) o

pub numbers_all : (objects : List ℕ) (first end k : ℕ) (numbers : List ℕ) → k ≡ 0 → All (IsBetween first end) objects → AreNumbersFrom k objects first numbers → AreNumbers objects first numbers
numbers_all objects first end k numbers none between are = record {
  before = λ o less. none_before objects first o less (All-weaker (IsBetween first end) (λ x. first ≤ x) (λ x is. is.0) objects between);
  from_first = λ o from. subst (λ n. AreNumbersFrom n objects first numbers) none are o from ∙ zero-add (number_in objects o);
} where
  none_before : (xs : List ℕ) (first o : ℕ) → o < first → All (λ x. first ≤ x) xs → length xs ≡ number_in xs o
  none_before [] first o less all = refl
  none_before (x ∷ xs) first o less all = ⊎_elim
      (λ same. absurd (omega (arith, same.1, less, All-head (λ y. first ≤ y) x xs all)))
      (λ other. ap suc (none_before xs first o less (All-tail (λ y. first ≤ y) x xs all)) ∙ sym (ap (λ b. cond b 0 (suc (number_in xs o))) other.0))
      (eqb_tells x o)

-- If a range contains the first objects and is extended to contain the next object, then the
-- extended range contains all of these objects.
pub span_more : (objects : List ℕ) (i first end least past : ℕ) → i < length objects → All (IsBetween first end) (take i objects)
    → least ≤ first → end ≤ past → IsBetween least past (get_or objects i 0) → All (IsBetween least past) (take (i + 1) objects)
span_more objects i first end least past inside all lower higher here =
    All-more (IsBetween least past) objects i 0 inside (All-weaker (IsBetween first end) (IsBetween least past) (λ x is. (omega (arith, is.0), omega (arith, is.1))) (take i objects) all) here

pub no_label : (objects : List ℕ) (o number : ℕ) → number ≡ number_in objects o → length objects ≤ number → chunk_text objects (First o) ≡ []
no_label objects o number is past = ⊎_elim
    (λ some. absurd (omega (arith, is, some.1)))
    (λ none. ap (λ b. cond b (label_text objects o ++ codes "=") []) none.0)
    (label_cases objects o)

pub some_label : (objects : List ℕ) (o number : ℕ) → number ≡ number_in objects o → number < length objects → chunk_text objects (First o) ≡ label_text objects o ++ codes "="
some_label objects o number is less = ⊎_elim
    (λ some. ap (λ b. cond b (label_text objects o ++ codes "=") []) some.0)
    (λ none. absurd (omega (arith, is, none.1)))
    (label_cases objects o)

-- ---- chunks, one at a time

or_turns : (a b c : Bool) → (a || (b || c)) ≡ ((b || a) || c)
or_turns true true c = refl
or_turns true false c = refl
or_turns false true c = refl
or_turns false false c = refl

pub filter_same : (p q : ℕ → Bool) → ((x : ℕ) → p x ≡ q x) → (xs : List ℕ) → filter p xs ≡ filter q xs
filter_same p q same [] = refl
filter_same p q same (x ∷ xs) =
    ap (λ b. cond b (x ∷ filter p xs) (filter p xs)) (same x) ∙ ap (λ ys. cond (q x) (x ∷ ys) ys) (filter_same p q same xs)

pub append_associative : {A : Type 0} (xs ys zs : List A) → (xs ++ ys) ++ zs ≡ xs ++ (ys ++ zs)
append_associative [] ys zs = refl
append_associative (x ∷ xs) ys zs = ap (λ vs. x ∷ vs) (append_associative xs ys zs)

module _ (table : Tabled) (graph : List Obj) where
  -- ---- steps

  pub some_chunk : (step : PrintStep) → 1 ≤ length (step_chunks table graph step)
  some_chunk (steps.Integer z t) = omega arith
  some_chunk steps.Empty = omega arith
  some_chunk steps.Wildcard = omega arith
  some_chunk (steps.Again o) = omega arith
  some_chunk (steps.Leaf o t) = omega arith
  some_chunk (steps.Opening o frame) = omega arith
  some_chunk (steps.Before frame i) = omega arith
  some_chunk (steps.Closing end) = omega arith

  pub fewer_left : (left : List TextChunk) (order : List ℕ) (step : PrintStep) (new : PrintWalk) → Goes table graph left order step new → length (chunks_left table graph new) < length left
  fewer_left left order step new goes =
      omega (arith, ap length goes.chunks, length-append (step_chunks table graph step) (chunks_left table graph new), some_chunk step)

  pub markable : (n : ℕ) (step : PrintStep) → n ≡ length graph → IsStep table graph step → IsMarkable n step
  markable n (steps.Integer z t) many is = tt
  markable n steps.Empty many is = tt
  markable n steps.Wildcard many is = tt
  markable n (steps.Again o) many is = omega (arith, many, is)
  markable n (steps.Leaf o t) many is = tt
  markable n (steps.Opening o frame) many is = tt
  markable n (steps.Before frame i) many is = tt
  markable n (steps.Closing end) many is = tt

  pub step_agains : (step : PrintStep) → agains (step_chunks table graph step) ≡ agains_of step
  step_agains (steps.Integer z t) = refl
  step_agains steps.Empty = refl
  step_agains steps.Wildcard = refl
  step_agains (steps.Again o) = refl
  step_agains (steps.Leaf o t) = refl
  step_agains (steps.Opening o frame) = refl
  step_agains (steps.Before frame i) = refl
  step_agains (steps.Closing end) = refl

  marks_more : (step : PrintStep) (marks : List Bool) (x : ℕ) → IsMarkable (length marks) step → get_or (marks_after step marks) x false ≡ (has (agains_of step) x || get_or marks x false)
  marks_more (steps.Integer z t) marks x inside = refl
  marks_more steps.Empty marks x inside = refl
  marks_more steps.Wildcard marks x inside = refl
  marks_more (steps.Again o) marks x inside = mark_set marks o x inside ∙ ap (λ b. b || get_or marks x false) (one (o == x)) where
    one : (b : Bool) → b ≡ (b || false)
    one true = refl
    one false = refl
  marks_more (steps.Leaf o t) marks x inside = refl
  marks_more (steps.Opening o frame) marks x inside = refl
  marks_more (steps.Before frame i) marks x inside = refl
  marks_more (steps.Closing end) marks x inside = refl

  marks_length : (step : PrintStep) (marks : List Bool) → length (marks_after step marks) ≡ length marks
  marks_length (steps.Integer z t) marks = refl
  marks_length steps.Empty marks = refl
  marks_length steps.Wildcard marks = refl
  marks_length (steps.Again o) marks = length-set marks o true
  marks_length (steps.Leaf o t) marks = refl
  marks_length (steps.Opening o frame) marks = refl
  marks_length (steps.Before frame i) marks = refl
  marks_length (steps.Closing end) marks = refl

  -- ---- the objects that occur again

  pub counted_more : (all : List TextChunk) (walk new : PrintWalk) (again : List Bool) (step : PrintStep) → AreCounted table graph all walk again → Goes table graph (chunks_left table graph walk) walk.order step new
      → AreCounted table graph all new (marks_after step again)
  counted_more all walk new again step are goes =
      let now = step_chunks table graph step in
      let later = chunks_left table graph new in
      let inside = markable (length again) step are.many goes.valid in record {
        is_walk = goes.walk;
        many = marks_length step again ∙ are.many;
        met_again = λ x.
            are.met_again x
            ∙ ap (λ ps. get_or again x false || has (agains ps) x) goes.chunks
            ∙ ap (λ os. get_or again x false || has os x) (agains-append now later ∙ ap (λ os. os ++ agains later) (step_agains step))
            ∙ ap (λ b. get_or again x false || b) (list_any-append (λ other. other == x) (agains_of step) (agains later))
            ∙ or_turns (get_or again x false) (has (agains_of step) x) (has (agains later) x)
            ∙ ap (λ b. b || has (agains later) x) (sym (marks_more step again x inside));
        met_first =
            are.met_first ∙ ap (λ ps. walk.order ++ firsts ps) goes.chunks ∙ ap (λ os. walk.order ++ os) (firsts-append now later)
            ∙ sym (append_associative walk.order (firsts now) (firsts later)) ∙ ap (λ os. os ++ firsts later) (sym goes.order);
      }

  -- ---- at the start

  pub first_left : (walk : PrintWalk) (v : Val) (t : ℕ) → walk.value ≡ Some (v, t) → walk.stack.items ≡ [] → walk.ends.items ≡ [] → walk.order ≡ []
      → chunks_left table graph walk ≡ left_of table graph [] (Some (v, t)) []
  first_left walk v t value blocks ends order =
      ap (λ ls. left_of table graph ls walk.value walk.order) (no_levels walk blocks ends) ∙ ap (λ x. left_of table graph [] x walk.order) value
      ∙ ap (λ os. left_of table graph [] (Some (v, t)) os) order

  -- If no value comes next, then the remaining chunks are the chunks of the levels.
  pub none_next : (walk : PrintWalk) → walk.value ≡ None → left_of table graph (levels_of walk) None walk.order ≡ chunks_left table graph walk
  none_next walk none = ap (λ value. left_of table graph (levels_of walk) value walk.order) (sym none)

  -- If no chunks remain, then the marked objects are the objects with labels.
  pub counted_all : (all : List TextChunk) (walk : PrintWalk) (again : List Bool) (order : List ℕ) → AreCounted table graph all walk again → chunks_left table graph walk ≡ [] → order ≡ walk.order
      → filter (λ o. get_or again o false) order ≡ labelled all
  counted_all all walk again order are none is =
      let first : firsts all ≡ order = are.met_first ∙ ap (λ ps. walk.order ++ firsts ps) none ∙ append-nil walk.order ∙ sym is in
      filter_same (λ o. get_or again o false) (has (agains all)) (λ x. or_none (get_or again x false) ∙ sym (are.met_again x ∙ ap (λ ps. get_or again x false || has (agains ps) x) none)) order
      ∙ ap (filter (has (agains all))) (sym first) where
        or_none : (b : Bool) → b ≡ (b || false)
        or_none true = refl
        or_none false = refl
