-- Values as items. The output, the exit reason and the end of the input are unique, and remain if
-- more bytes follow.
use Rattle.std.proofs.Common.{◌≡◌, ◌⊎◌, ◌<◌, ℕ, Bool, true, false, List, [], ◌∷◌, ◌++◌, length, Option, Some, None, Ok, Err, inl, inr, refl, sym, ap, ◌∙◌, subst, arith}
use Rattle.std.specs.Prelude.{◌↔◌, IsTrue, codes}
use Rattle.base_data.specs.model.Bytes.{AreBytes}
use Rattle.marshal_spec.proofs.format.JudgementLaws.{one_judgement_lem}
use Rattle.marshal_spec.specs.format.Stream.{EncodeAll, StreamEnd, clean, refused, cut, IsTail}
use Rattle.marshal_spec.specs.format.Tree.{Tree}
use Rattle.cli_spec.specs.Outcome as outcome
use Rattle.cli_spec.specs.Outcome.{Unedited, untyped, refused_line, too_large, unedited_exit, Output, outputs, exits, Language, ValueWork, reports, edits, dumps, compares, Task, task, line_past, ends_script, comparison, Finishes}
use Rattle.cli_spec.specs.RefusalText.{refusal_text, truncated_text}
use Rattle.cli_spec.specs.declared.exit.Exit.{Exit}
use Rattle.cli_spec.specs.declared.exit.Exit.TheVariants.{NotTwoValues as not_two_values, Value as value, Script as script_line}
use Rattle.run_spec.specs.runs.Commands.{Item, value as value_item}
use Rattle.run_spec.specs.runs.Lawful.{IsOnce, IsInner, AreLawfulAt}
use Rattle.run_spec.specs.runs.LawfulLanguage.{IsLawful}
use Rattle.run_spec.proofs.runs.LengthLemmas.{encoded_some}
use Rattle.run_spec.proofs.runs.StreamLemmas.{streams_once, encode_once, value_or_tail}
use Rattle.run_spec.proofs.runs.RunValueLemmas.{encode_after}
use Rattle.run_spec.specs.value_commands.Tasks.{items_of, IsFirstValue, OutputsOf, IsRefused, ExitsHere, EndsBy, EndsHere, commands}
use Rattle.run_spec.proofs.value_commands.ValueCommandGivenLemmas.{IsGivenWork}
use Rattle.run_spec.proofs.value_commands.StayLemmas.{tail_after, exits_more}

-- ---- values as items

-- If the items of two lists of values are equal, then the lists are equal.
pub items_once : (trees others : List Tree) → items_of trees ≡ items_of others → trees ≡ others
items_once [] [] e = refl
items_once [] (u ∷ others) e = absurd (cc e)
items_once (t ∷ trees) [] e = absurd (cc e)
items_once (t ∷ trees) (u ∷ others) e =
    let same : t ≡ u = cc e in
    let rest : items_of trees ≡ items_of others = cc e in
    ap (λ t. t ∷ trees) same ∙ ap (λ trees. u ∷ trees) (items_once trees others rest)

pub items_length : (trees : List Tree) → length (items_of trees) ≡ length trees
items_length [] = refl
items_length (t ∷ trees) = omega (arith, items_length trees)

-- The items of a list with one more value are the items of the list and one more item.
pub items_more : (trees : List Tree) (tree : Tree)
    → items_of (trees ++ tree ∷ []) ≡ items_of trees ++ value_item tree ∷ []
items_more [] tree = refl
items_more (t ∷ trees) tree = ap (λ items. value_item t ∷ items) (items_more trees tree)

-- The value of an item is unique.
pub tree_once : (item : Item) (t u : Tree) → item ≡ value_item t → item ≡ value_item u → t ≡ u
tree_once item t u h k = cc

-- ---- reading the bytes

module _ (limit : ℕ) (bytes : List ℕ) (are_bytes : AreBytes bytes) where
  -- The first value of the bytes and the remaining bytes are unique.
  pub value_once :
      (t u : Tree) (more rest : List ℕ)
      → EncodeAll limit bytes (t ∷ []) more → EncodeAll limit bytes (u ∷ []) rest
      → (t ≡ u) × (more ≡ rest)
  value_once t u more rest h k =
      let one = encode_once one_judgement_lem limit bytes (t ∷ []) (u ∷ []) more rest are_bytes refl h k in
      let both : t ∷ [] ≡ u ∷ [] = one.0 in
      (cc both, one.1)

  pub end_once : (end other : StreamEnd) → IsTail limit bytes end → IsTail limit bytes other → end ≡ other
  end_once end other h k =
      (streams_once one_judgement_lem limit bytes [] [] end other are_bytes
      (bytes, refl, h) (bytes, refl, k)).1

  -- If a value begins the bytes, then the bytes are no tail.
  pub no_tail :
      (t : Tree) (more : List ℕ) (end : StreamEnd)
      → EncodeAll limit bytes (t ∷ []) more → IsTail limit bytes end → ⊥
  no_tail t more end (first, after, same, encoded, rest) tail =
      value_or_tail one_judgement_lem limit first after bytes t end are_bytes encoded same tail

-- ---- the next value, as an item

module _ {D T E : Type 0} (language : Language D T E) (limit : ℕ) where
  -- The next item of the bytes and the remaining bytes are unique.
  pub first_once :
      (bytes : List ℕ) → AreBytes bytes → (item other : Item) (more rest : List ℕ)
      → IsFirstValue language limit bytes item more → IsFirstValue language limit bytes other rest
      → (item ≡ other) × (more ≡ rest)
  first_once bytes are_bytes item other more rest h k =
      let one = value_once limit bytes are_bytes h.tree k.tree more rest h.encoded k.encoded in
      (h.is ∙ (ap value_item one.0 ∙ sym k.is), one.1)

  -- The next item has at least one byte.
  pub first_prefix :
      (bytes : List ℕ) (item : Item) (more : List ℕ) → IsFirstValue language limit bytes item more
      → (first : List ℕ) × (bytes ≡ first ++ more) × (0 < length first)
  first_prefix bytes item more h =
      let s = h.encoded in
      (s.0, s.2 ∙ ap (λ more. s.0 ++ more) s.4, encoded_some limit s.0 h.tree s.3)

  -- The next item stays the same if more bytes follow.
  pub first_stays :
      (bytes : List ℕ) (item : Item) (more later : List ℕ)
      → IsFirstValue language limit bytes item more
      → IsFirstValue language limit (bytes ++ later) item (more ++ later)
  first_stays bytes item more later h = record {
    tree = h.tree;
    is = h.is;
    encoded = encode_after limit bytes more later (h.tree ∷ []) h.encoded;
  }

-- ---- the output

pub both_same : (output other : Output) → output.text ≡ other.text → output.ok ≡ other.ok → output ≡ other
both_same output other text ok =
    ap (λ text. record { text = text; ok = output.ok }) text
    ∙ ap (λ ok. record { text = other.text; ok = ok }) ok

-- Two flags that decide the same property are equal.
decided_once : {P : Type 0} (a b : Bool) → (IsTrue a ↔ P) → (IsTrue b ↔ P) → a ≡ b
decided_once true true h k = refl
decided_once false false h k = refl
decided_once true false h k = absurd (cc (k.1 (h.0 refl)))
decided_once false true h k = absurd (cc (h.1 (k.0 refl)))

unedited_inner : (k : ℕ) (why : Unedited) → IsInner (unedited_exit k why)
unedited_inner k (untyped fault) = tt
unedited_inner k (refused_line number refusal) = tt
unedited_inner k (too_large refusal) = tt

module _ {D T E : Type 0} (language : Language D T E) (lawful : IsLawful language) where
  outputs_once :
      (work : ValueWork T E) → IsGivenWork language work → (earlier : List Tree) (tree : Tree)
      → IsOnce (outcome.Outputs language work earlier tree)
  outputs_once (reports query type) given earlier tree output other (text, is, e) (text', is', e') =
      let one = lawful.line_once query type given tree text text' output.ok other.ok is is' in
      both_same output other (e ∙ (ap outcome.line one.0 ∙ sym e')) one.1
  outputs_once (edits type script compat) given earlier tree output other (is, ok) (is', ok') =
      let one = lawful.bytes_once type given script compat earlier tree
      (Ok output.text) (Ok other.text) is is' in
      both_same output other (cc one) (ok ∙ sym ok')
  outputs_once dumps given earlier tree output other (text, ok) (text', ok') =
      both_same output other (text ∙ sym text') (ok ∙ sym ok')
  outputs_once compares given earlier tree output other (few, is) (few', is') = is ∙ sym is'

  -- ---- where the run ends

  module _ (limit : ℕ) (trees : List Tree) (bytes : List ℕ) (are_bytes : AreBytes bytes) where
    exits_once :
        (work : ValueWork T E) → IsGivenWork language work
        → IsOnce (outcome.ExitsAt language work limit trees bytes)
    exits_once (reports query type) given exit other h k = absurd h
    exits_once (edits type script compat) given exit other h k =
        let same = (value_once limit bytes are_bytes h.tree k.tree h.more k.more h.encoded k.encoded).0 in
        let one = lawful.bytes_once type given script compat trees k.tree
        (Err h.why) (Err k.why)
        (subst (λ t. language.BytesOf type script compat trees t (Err h.why))
        same h.refused)
        k.refused in
        let why : h.why ≡ k.why = cc one in
        h.exits ∙ (ap (unedited_exit (length trees)) why ∙ sym k.exits)
    exits_once dumps given exit other h k = absurd h
    exits_once compares given exit other (two, some, is) (two', some', is') = is ∙ sym is'

    -- The refusal of a value is no exit reason of the command itself.
    exit_or_refused :
        (work : ValueWork T E) (exit other : Exit)
        → outcome.ExitsAt language work limit trees bytes exit
        → IsRefused language (task work limit) (length trees) bytes other → ⊥
    exit_or_refused (reports query type) exit other at r = at
    exit_or_refused (edits type script compat) exit other at r =
        no_tail limit bytes are_bytes at.tree at.more (refused r.refusal) at.encoded r.tail
    exit_or_refused dumps exit other at r = at
    exit_or_refused compares exit other (two, some, is) r = let few = r.may in omega (arith, two, few)

    refused_once :
        (work : ValueWork T E) → IsOnce (IsRefused language (task work limit) (length trees) bytes)
    refused_once work exit other h k =
        let one = end_once limit bytes are_bytes (refused h.refusal) (refused k.refusal) h.tail k.tail in
        let same : h.refusal ≡ k.refusal = cc one in
        h.is ∙ (ap (λ r. value (length trees) (refusal_text r)) same ∙ sym k.is)

    -- The command or the refusal of a value ends the run with the exit reason `exit`.
    abbrev Why : ValueWork T E → Exit → Type 0
    Why work exit = outcome.ExitsAt language work limit trees bytes exit
        ⊎ IsRefused language (task work limit) (length trees) bytes exit

    why_once : (work : ValueWork T E) → IsGivenWork language work → IsOnce (Why work)
    why_once work given exit other (inl h) (inl k) = exits_once work given exit other h k
    why_once work given exit other (inl h) (inr k) = absurd (exit_or_refused work exit other h k)
    why_once work given exit other (inr h) (inl k) = absurd (exit_or_refused work other exit k h)
    why_once work given exit other (inr h) (inr k) = refused_once work exit other h k

    -- If the run ends at the bytes, then no value at the bytes has an output.
    why_disjoint :
        (work : ValueWork T E) → IsGivenWork language work → (tree : Tree) (more : List ℕ) (output : Output)
        (exit : Exit) → EncodeAll limit bytes (tree ∷ []) more
        → outcome.Outputs language work trees tree output → Why work exit → ⊥
    why_disjoint work given tree more output exit first known (inr r) =
        no_tail limit bytes are_bytes tree more (refused r.refusal) first r.tail
    why_disjoint (reports query type) given tree more output exit first known (inl at) = at
    why_disjoint (edits type script compat) given tree more output exit first known (inl at) =
        let same = (value_once limit bytes are_bytes at.tree tree at.more more at.encoded first).0 in
        let one = lawful.bytes_once type given script compat trees tree
        (Err at.why) (Ok output.text)
        (subst (λ t. language.BytesOf type script compat trees t (Err at.why))
        same at.refused)
        known.0 in
        cc one
    why_disjoint dumps given tree more output exit first known (inl at) = at
    why_disjoint compares given tree more output exit first known (inl (two, some, is)) =
        let few = known.0 in omega (arith, few, two)

  exit_inner :
      (work : ValueWork T E) (limit : ℕ) (trees : List Tree) (bytes : List ℕ) (exit : Exit)
      → outcome.ExitsAt language work limit trees bytes exit → IsInner exit
  exit_inner (reports query type) limit trees bytes exit at = absurd at
  exit_inner (edits type script compat) limit trees bytes exit at =
      subst IsInner (sym at.exits) (unedited_inner (length trees) at.why)
  exit_inner dumps limit trees bytes exit at = absurd at
  exit_inner compares limit trees bytes exit (two, some, is) = subst IsInner (sym is) tt

  -- ---- the end of the input

  finishes_once : (work : ValueWork T E) (trees : List Tree) → IsOnce (Finishes language work trees)
  finishes_once (reports query type) trees last other h k = h ∙ sym k
  finishes_once (edits type script compat) trees last other h k = h ∙ sym k
  finishes_once dumps trees last other h k = h ∙ sym k
  finishes_once compares [] last other h k = h ∙ sym k
  finishes_once compares (t ∷ []) last other h k = h ∙ sym k
  finishes_once compares (t ∷ u ∷ []) last other (agree, decides, is) (agree', decides', is') =
      is ∙ (ap (λ a. outputs (comparison a)) (decided_once agree agree' decides decides') ∙ sym is')
  finishes_once compares (t ∷ u ∷ v ∷ trees) last other h k = h ∙ sym k

  ends_once :
      (work : ValueWork T E) (trees : List Tree) (end : StreamEnd) → IsOnce (EndsBy language work trees end)
  ends_once work trees clean last other h k = finishes_once work trees last other h k
  ends_once work trees (refused refusal) last other h k = absurd h
  ends_once work trees (cut n) last other h k = h ∙ sym k

  script_inner : (line : Option E) (exit : Exit) → exits exit ≡ ends_script language line → IsInner exit
  script_inner None exit e = absurd (cc e)
  script_inner (Some line) exit e =
      let is : exit ≡ script_line (language.line_number line) (codes "NoValue") = cc e in
      subst IsInner (sym is) tt

  two_inner : (exit : Exit) → exits exit ≡ exits not_two_values → IsInner exit
  two_inner exit e = let is : exit ≡ not_two_values = cc e in subst IsInner (sym is) tt

  finishes_inner :
      (work : ValueWork T E) (trees : List Tree) (exit : Exit)
      → Finishes language work trees (exits exit) → IsInner exit
  finishes_inner (reports query type) trees exit h = absurd (cc h)
  finishes_inner (edits type script compat) trees exit h =
      script_inner (line_past language script (length trees)) exit h
  finishes_inner dumps trees exit h = absurd (cc h)
  finishes_inner compares [] exit h = two_inner exit h
  finishes_inner compares (t ∷ []) exit h = two_inner exit h
  finishes_inner compares (t ∷ u ∷ []) exit (agree, decides, is) = absurd (cc is)
  finishes_inner compares (t ∷ u ∷ v ∷ trees) exit h = two_inner exit h

  ends_inner :
      (work : ValueWork T E) (trees : List Tree) (end : StreamEnd) (exit : Exit)
      → EndsBy language work trees end (exits exit) → IsInner exit
  ends_inner work trees clean exit h = finishes_inner work trees exit h
  ends_inner work trees (refused refusal) exit h = absurd h
  ends_inner work trees (cut n) exit h =
      let is : exit ≡ value (length trees) (truncated_text n) = cc h in subst IsInner (sym is) tt

  -- ---- the conditions for a lawful task

  module _ (a : Task T E) (given : IsGivenWork language a.work) where
    output_once : (items : List Item) (item : Item) → IsOnce (OutputsOf language a.work items item)
    output_once items item output other h k =
        let same = tree_once item h.tree k.tree h.is k.is in
        let before = items_once h.earlier k.earlier (sym h.are ∙ k.are) in
        outputs_once a.work given k.earlier k.tree output other
        (subst (λ ts. outcome.Outputs language a.work ts k.tree output) before
        (subst (λ t. outcome.Outputs language a.work h.earlier t output) same h.outputs))
        k.outputs

    exit_once :
        (items : List Item) (bytes : List ℕ) → AreBytes bytes
        → IsOnce (ExitsHere language a items bytes)
    exit_once items bytes are_bytes exit other h k =
        let same = items_once h.trees k.trees (sym h.are ∙ k.are) in
        why_once a.limit k.trees bytes are_bytes a.work given exit other
        (subst (λ trees. Why a.limit trees bytes are_bytes a.work exit) same h.why) k.why

    end_reply_once :
        (items : List Item) (bytes : List ℕ) → AreBytes bytes
        → IsOnce (EndsHere language a items bytes)
    end_reply_once items bytes are_bytes last other h k =
        let same = items_once h.trees k.trees (sym h.are ∙ k.are) in
        let end = end_once a.limit bytes are_bytes h.end k.end h.tail k.tail in
        ends_once a.work k.trees k.end last other
        (subst (λ e. EndsBy language a.work k.trees e last) end
        (subst (λ trees. EndsBy language a.work trees h.end last) same h.ends))
        k.ends

    why_stays :
        (trees : List Tree) (bytes later : List ℕ) (exit : Exit)
        → outcome.ExitsAt language a.work a.limit trees bytes exit
        ⊎ IsRefused language a (length trees) bytes exit
        → outcome.ExitsAt language a.work a.limit trees (bytes ++ later) exit
        ⊎ IsRefused language a (length trees) (bytes ++ later) exit
    why_stays trees bytes later exit (inl at) =
        inl (exits_more language a.work a.limit trees bytes later exit at)
    why_stays trees bytes later exit (inr r) = inr (record {
      may = r.may;
      refusal = r.refusal;
      tail = tail_after a.limit bytes later r.refusal r.tail;
      is = r.is;
    })

    exit_stays :
        (items : List Item) (bytes later : List ℕ) (exit : Exit)
        → ExitsHere language a items bytes exit → ExitsHere language a items (bytes ++ later) exit
    exit_stays items bytes later exit h =
        record { trees = h.trees; are = h.are; why = why_stays h.trees bytes later exit h.why }

    why_inner :
        (trees : List Tree) (bytes : List ℕ) (exit : Exit)
        → outcome.ExitsAt language a.work a.limit trees bytes exit
        ⊎ IsRefused language a (length trees) bytes exit
        → IsInner exit
    why_inner trees bytes exit (inl at) = exit_inner a.work a.limit trees bytes exit at
    why_inner trees bytes exit (inr r) = subst IsInner (sym r.is) tt

    output_disjoint :
        (items : List Item) (bytes : List ℕ) → AreBytes bytes
        → (item : Item) (more : List ℕ) (output : Output) (exit : Exit)
        → IsFirstValue language a.limit bytes item more → OutputsOf language a.work items item output
        → ExitsHere language a items bytes exit → ⊥
    output_disjoint items bytes are_bytes item more output exit first known h =
        let same = tree_once item known.tree first.tree known.is first.is in
        let before = items_once known.earlier h.trees (sym known.are ∙ h.are) in
        why_disjoint a.limit h.trees bytes are_bytes a.work given first.tree more output exit first.encoded
        (subst (λ ts. outcome.Outputs language a.work ts first.tree output) before
        (subst (λ t. outcome.Outputs language a.work known.earlier t output) same known.outputs))
        h.why

    pub lawful_at : AreLawfulAt (commands language) a
    lawful_at = record {
      first_once = λ items. first_once language a.limit;
      outputs_once = output_once;
      exits_once = exit_once;
      ends_once = end_reply_once;
      prefix = λ items. first_prefix language a.limit;
      item_stays = λ items. first_stays language a.limit;
      exit_stays = exit_stays;
      exits_inside = λ items bytes exit h. why_inner h.trees bytes exit h.why;
      ends_inside = λ items bytes exit h. ends_inner a.work h.trees h.end exit h.ends;
      disjoint = output_disjoint;
    }
