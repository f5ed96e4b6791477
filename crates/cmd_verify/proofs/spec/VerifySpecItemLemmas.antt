-- The output for a value, the exit reason and the end of the input are unique. If more bytes
-- follow, outputs and exit reasons remain.
use Rattle.std.proofs.Common.{◌≡◌, ℕ, Bool, true, false, List, [], ◌∷◌, ◌++◌, length, Some, None, inl, inr, sym, ap, ◌∙◌, subst}
use Rattle.std.specs.Prelude.{if◌then◌else◌, nat_lt, codes}
use Rattle.base_data.specs.model.Bytes.{AreBytes}
use Rattle.base_data.specs.declared.model.refusal.ReadRefusal.{ReadRefusal}
use Rattle.marshal_spec.specs.format.Stream.{StreamEnd, refused, IsTail}
use Rattle.marshal_spec.specs.format.Tree.{Tree}
use Rattle.cli_spec.specs.Outcome.{Output, nothing_output, outputs, exits, line, Language}
use Rattle.cli_spec.specs.declared.exit.Exit.{Exit}
use Rattle.cli_spec.specs.declared.exit.Exit.TheVariants.{Uncertified as uncertified_value, SectionsLeft as sections_left}
use Rattle.run_spec.specs.runs.Commands.{Item, GoesOn}
use Rattle.run_spec.specs.runs.Lawful.{IsOnce, IsInner, AreLawfulAt}
use Rattle.run_spec.proofs.runs.RunValueLemmas.{encode_after}
use Rattle.run_spec.specs.value_commands.Tasks.{IsFirstValue}
use Rattle.run_spec.proofs.value_commands.ValueCommandItemLemmas.{tree_once, value_once, end_once, no_tail, first_once, first_prefix, first_stays, both_same}
use Rattle.cmd_verify.specs.spec.Verification.{Shown, shows, rejects, Verification, IsShown, OutputsOf, IsUncertified, ComesUncertified, ExitsHere, EndsClean, EndsHere, ReadsSections, verifying}
use Rattle.cmd_certify.specs.spec.RefusedEnd.{ComesRefused}
use Rattle.cmd_certify.proofs.spec.CertifySpecEndLemmas.{refused_stays, refused_once, end_reply_once, end_inner}

sections_inner :
    (left : Bool) (exit : Exit)
    → exits exit ≡ (if left then exits sections_left else outputs nothing_output) → IsInner exit
sections_inner true exit e = let is : exit ≡ sections_left = cc e in subst IsInner (sym is) tt
sections_inner false exit e = absurd (cc e)

module _ {T S : Type 0} (ShownBy : T → S → Tree → Shown → Type 0) (a : Verification T S) where
  -- ---- exit reasons remain, and the run continues

  pub exit_stays :
      (items : List Item) (bytes later : List ℕ) (exit : Exit)
      → ExitsHere ShownBy a items bytes exit → ExitsHere ShownBy a items (bytes ++ later) exit
  exit_stays items bytes later exit (inl h) = inl (record {
    tree = h.tree;
    more = h.more ++ later;
    encoded = encode_after a.limit bytes h.more later (h.tree ∷ []) h.encoded;
    reason = h.reason;
    uncertified = h.uncertified;
    is = h.is;
  })
  exit_stays items bytes later exit (inr h) =
      inr (refused_stays a.limit (length items) bytes later exit h)

  module _ {D E : Type 0} (language : Language D T E) (Reads : ReadsSections S) where
    module _ (items : List Item) (rest : List ℕ) (are_bytes : AreBytes rest) (end : StreamEnd)
        (tail : IsTail a.limit rest end)
        (fine : (refusal : ReadRefusal) → end ≡ refused refusal → ⊥) where
      no_exit : (exit : Exit) → ExitsHere ShownBy a items rest exit → ⊥
      no_exit exit (inl c) = no_tail a.limit rest are_bytes c.tree c.more end c.encoded tail
      no_exit exit (inr r) =
          fine r.refusal (end_once a.limit rest are_bytes end (refused r.refusal) tail r.tail)

      -- If bytes begin with no value and are not refused, then the run continues.
      pub goes_on : GoesOn (verifying language Reads ShownBy) a items rest
      goes_on = record {
        no_exit = no_exit;
        no_item = λ item more h. no_tail a.limit rest are_bytes h.tree more end h.encoded tail;
      }

module _ {T S : Type 0} (ShownBy : T → S → Tree → Shown → Type 0) (a : Verification T S)
    (once : (section : S) (tree : Tree) → IsOnce (ShownBy a.type section tree)) where
  -- ---- what an entry proves

  shown_once : (number : ℕ) (tree : Tree) → IsOnce (IsShown ShownBy a number tree)
  shown_once number tree shown other h k =
      let both : Some h.section ≡ Some k.section = sym h.has ∙ k.has in
      let same : h.section ≡ k.section = cc both in
      once k.section tree shown other (subst (λ s. ShownBy a.type s tree shown) same h.by) k.by

  output_once : (items : List Item) (item : Item) → IsOnce (OutputsOf ShownBy a items item)
  output_once items item output other h k =
      let same = tree_once item h.tree k.tree h.is k.is in
      let one = shown_once (length items) k.tree (shows h.text output.ok) (shows k.text other.ok)
      (subst (λ t. IsShown ShownBy a (length items) t (shows h.text output.ok)) same h.shown)
      k.shown in
      let text : h.text ≡ k.text = cc one in
      let ok : output.ok ≡ other.ok = cc one in
      both_same output other (h.output_is ∙ (ap line text ∙ sym k.output_is)) ok

  uncertified_once :
      (number : ℕ) (tree : Tree) → IsOnce (IsUncertified ShownBy a number tree)
  uncertified_once number tree reason other (inl (none, is)) (inl (none', is')) = is ∙ sym is'
  uncertified_once number tree reason other (inl (none, is)) (inr (why, shown, is')) =
      let never : None ≡ Some shown.section = sym none ∙ shown.has in absurd (cc never)
  uncertified_once number tree reason other (inr (why, shown, is)) (inl (none, is')) =
      let never : None ≡ Some shown.section = sym none ∙ shown.has in absurd (cc never)
  uncertified_once number tree reason other (inr (why, shown, is)) (inr (why', shown', is')) =
      let one = shown_once number tree (rejects why) (rejects why') shown shown' in
      let same : why ≡ why' = cc one in
      is ∙ (ap (λ w. codes "certificate " ++ w) same ∙ sym is')

  -- A value is not both certified and uncertified.
  pub certified_or_not :
      (number : ℕ) (tree : Tree) (text reason : List ℕ) (ok : Bool)
      → IsShown ShownBy a number tree (shows text ok) → IsUncertified ShownBy a number tree reason
      → ⊥
  certified_or_not number tree text reason ok shown (inl (none, is)) =
      let never : None ≡ Some shown.section = sym none ∙ shown.has in cc never
  certified_or_not number tree text reason ok shown (inr (why, rejected, is)) =
      cc (shown_once number tree (shows text ok) (rejects why) shown rejected)

  -- ---- where the run ends

  module _ (bytes : List ℕ) (are_bytes : AreBytes bytes) (number : ℕ) where
    comes_once : IsOnce (ComesUncertified ShownBy a number bytes)
    comes_once exit other h k =
        let same = (value_once a.limit bytes are_bytes h.tree k.tree h.more k.more h.encoded k.encoded).0 in
        let one = uncertified_once number k.tree h.reason k.reason
        (subst (λ t. IsUncertified ShownBy a number t h.reason) same h.uncertified) k.uncertified in
        h.is ∙ (ap (uncertified_value number) one ∙ sym k.is)

    never_both :
        (exit other : Exit) → ComesUncertified ShownBy a number bytes exit
        → ComesRefused a.limit number bytes other → ⊥
    never_both exit other h k =
        no_tail a.limit bytes are_bytes h.tree h.more (refused k.refusal) h.encoded k.tail

  exit_once :
      (items : List Item) (bytes : List ℕ) → AreBytes bytes
      → IsOnce (ExitsHere ShownBy a items bytes)
  exit_once items bytes are_bytes exit other (inl h) (inl k) =
      comes_once bytes are_bytes (length items) exit other h k
  exit_once items bytes are_bytes exit other (inl h) (inr k) =
      absurd (never_both bytes are_bytes (length items) exit other h k)
  exit_once items bytes are_bytes exit other (inr h) (inl k) =
      absurd (never_both bytes are_bytes (length items) other exit k h)
  exit_once items bytes are_bytes exit other (inr h) (inr k) =
      refused_once a.limit (length items) bytes are_bytes exit other h k

  exit_inner :
      (items : List Item) (bytes : List ℕ) (exit : Exit) → ExitsHere ShownBy a items bytes exit
      → IsInner exit
  exit_inner items bytes exit (inl h) = subst IsInner (sym h.is) tt
  exit_inner items bytes exit (inr h) = subst IsInner (sym h.is) tt

  ends_inner :
      (items : List Item) (bytes : List ℕ) (exit : Exit)
      → EndsHere ShownBy a items bytes (exits exit) → IsInner exit
  ends_inner items bytes exit (end, tail, ends) =
      end_inner a.limit (EndsClean ShownBy a)
      (λ number exit h. sections_inner (nat_lt number (length a.sections)) exit h) (length items)
      end exit ends

  -- ---- the laws

  module _ {D E : Type 0} (language : Language D T E) (Reads : ReadsSections S) where
    output_disjoint :
        (items : List Item) (bytes : List ℕ) → AreBytes bytes
        → (item : Item) (more : List ℕ) (output : Output) (exit : Exit)
        → IsFirstValue language a.limit bytes item more → OutputsOf ShownBy a items item output
        → ExitsHere ShownBy a items bytes exit → ⊥
    output_disjoint items bytes are_bytes item more output exit first known (inl h) =
        let same = tree_once item known.tree first.tree known.is first.is in
        let one = (value_once a.limit bytes are_bytes h.tree first.tree h.more more h.encoded
        first.encoded).0 in
        certified_or_not (length items) first.tree known.text h.reason output.ok
        (subst (λ t. IsShown ShownBy a (length items) t (shows known.text output.ok)) same known.shown)
        (subst (λ t. IsUncertified ShownBy a (length items) t h.reason) one h.uncertified)
    output_disjoint items bytes are_bytes item more output exit first known (inr h) =
        no_tail a.limit bytes are_bytes first.tree more (refused h.refusal) first.encoded h.tail

    pub lawful_at : AreLawfulAt (verifying language Reads ShownBy) a
    lawful_at = record {
      first_once = λ items. first_once language a.limit;
      outputs_once = output_once;
      exits_once = exit_once;
      ends_once = end_reply_once a.limit (EndsClean ShownBy a) (λ number last other h k. h ∙ sym k);
      prefix = λ items. first_prefix language a.limit;
      item_stays = λ items. first_stays language a.limit;
      exit_stays = exit_stays ShownBy a;
      exits_inside = exit_inner;
      ends_inside = ends_inner;
      disjoint = output_disjoint;
    }
