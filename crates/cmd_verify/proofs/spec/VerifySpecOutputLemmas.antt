-- The outputs for values and the certificate entries of the values determine each other, as the
-- tables state.
use Rattle.std.proofs.Common.{◌≡◌, ◌≤◌, ◌+◌, ℕ, suc, Bool, true, false, List, [], ◌∷◌, length, refl, sym, ap, ◌∙◌, subst, arith}
use Rattle.std.specs.Prelude.{◌↔◌, if◌then◌else◌, nat_lt}
use Rattle.std.proofs.lemmas.Bool.{lt-ltb, le-ltb, ltb-true, ltb-false}
use Rattle.std.proofs.lemmas.Option.{slice_get_within}
use Rattle.marshal_spec.specs.format.Stream.{EncodeAll}
use Rattle.marshal_spec.specs.format.Tree.{Tree}
use Rattle.cli_spec.specs.declared.status.Status.{Status}
use Rattle.cli_spec.specs.declared.status.Status.TheVariants.{AllOk, No, Certificate}
use Rattle.cli_spec.specs.Outcome.{ending_of, Output, nothing_output, line, Reply, outputs, exits, Replies, replies, all_ok, Language}
use Rattle.cli_spec.specs.declared.exit.Exit.TheVariants.{SectionsLeft as sections_left}
use Rattle.run_spec.specs.runs.Commands.{Item, value, OutputsFirst}
use Rattle.run_spec.proofs.runs.RunValueLemmas.{and_true}
use Rattle.run_spec.specs.value_commands.Tasks.{items_of, IsFirstValue}
use Rattle.run_spec.specs.exit_statuses.NumberedItems.{HoldsOfAll}
use Rattle.run_spec.proofs.exit_statuses.ExitStatusNumberedLemmas as numbered
use Rattle.run_spec.proofs.exit_statuses.ExitStatusNumberedLemmas.{HasOutput, all_certified, some_wrong, print_ok, print_wrong, values_first, items_first}
use Rattle.run_spec.proofs.exit_statuses.ExitStatusOutputLemmas.{output_status, exit_status}
use Rattle.cmd_verify.specs.spec.Verification.{Shown, shows, Verification, IsShown, OutputsOf, ends_sections, ReadsSections, verifying}
use Rattle.cmd_verify.specs.spec.ExitStatuses.{IsCertified, HasSection, Finish}

module _ {T S : Type 0} (ShownBy : T → S → Tree → Shown → Type 0) (a : Verification T S) where
  -- The output for the value of the tree, by the entry with this number.
  pub record IsOutput (number : ℕ) (tree : Tree) (output : Output) : Type 0 where
    pub text : List ℕ
    pub shown : IsShown ShownBy a number tree (shows text output.ok)
    pub is : output.text ≡ line text

  -- The outputs for the values of the trees, by the entries from number `number` on.
  abbrev pub AreOutput : ℕ → List Tree → List Output → Type 0
  AreOutput number trees output = numbered.AreOutput IsOutput number trees output

  abbrev Certified : Bool → ℕ → Tree → Type 0
  Certified ok number tree = IsCertified ShownBy a ok number tree

  -- If there is an output for a value, then the value has an accepted entry.
  section_of :
      (ok : Bool) (number : ℕ) (tree : Tree) → HasOutput IsOutput ok number tree
      → Certified ok number tree
  section_of ok number tree (output, is, e) =
      (is.text, subst (λ w. IsShown ShownBy a number tree (shows is.text w)) e is.shown)

  output_of :
      (ok : Bool) (number : ℕ) (tree : Tree) → Certified ok number tree
      → HasOutput IsOutput ok number tree
  output_of ok number tree (text, shown) = (
    record { text = line text; ok = ok },
    record { text = text; shown = shown; is = refl },
    refl,
  )

  -- ---- from the outputs to the values

  pub all_have :
      (k : ℕ) (trees : List Tree) (output : List Output) → AreOutput k trees output
      → HoldsOfAll (HasSection ShownBy a) k trees
  all_have k trees output h = numbered.all_have IsOutput Certified section_of k trees output h

  -- If each value has an entry, then there are at least as many entries as values.
  pub as_many :
      (k : ℕ) (trees : List Tree) → HoldsOfAll (HasSection ShownBy a) k trees
      → k ≤ length a.sections → k + length trees ≤ length a.sections
  as_many k [] h within = omega (arith, within)
  as_many k (t ∷ trees) ((ok, (text, shown)), more) within =
      let less = slice_get_within a.sections k shown.section shown.has in
      let rest = as_many (suc k) trees more (omega (arith, less)) in omega (arith, rest)

  all_counted :
      (trees : List Tree) → HoldsOfAll (HasSection ShownBy a) 0 trees
      → length a.sections ≤ length trees → length trees ≡ length a.sections
  all_counted trees h most =
      let few = as_many 0 trees h (omega arith) in omega (arith, few, most)

  -- If the input ends after values with these outputs, then the table contains the status of the
  -- run.
  pub finish_of :
      (trees : List Tree) (output : List Output) (last : Reply) → AreOutput 0 trees output
      → last ≡ ends_sections ShownBy a (length trees)
      → Finish ShownBy a trees (ending_of (replies output last)).status
  finish_of trees output last h is = by (nat_lt (length trees) (length a.sections)) refl where
    have : HoldsOfAll (HasSection ShownBy a) 0 trees
    have = all_have 0 trees output h

    ended : length trees ≡ length a.sections → (ok : Bool) → all_ok output ≡ ok
        → Finish ShownBy a trees (if ok then AllOk else No)
    ended same true e = (all_certified IsOutput Certified section_of 0 trees output h e, same)
    ended same false e = (have, some_wrong IsOutput Certified section_of 0 trees output h e, same)

    reply : (left : Bool) → nat_lt (length trees) (length a.sections) ≡ left
        → last ≡ (if left then exits sections_left else outputs nothing_output)
    reply left at = is ∙ ap (λ b. if b then exits sections_left else outputs nothing_output) at

    by : (left : Bool) → nat_lt (length trees) (length a.sections) ≡ left
        → Finish ShownBy a trees (ending_of (replies output last)).status
    by true at =
        subst (Finish ShownBy a trees) (sym (exit_status output last sections_left (reply true at)))
        (have, ltb-true (length trees) (length a.sections) at)
    by false at =
        subst (Finish ShownBy a trees)
        (sym (output_status output last nothing_output (all_ok output) (reply false at)
        (and_true (all_ok output))))
        (ended (all_counted trees have (ltb-false (length trees) (length a.sections) at))
        (all_ok output) refl)

  -- ---- from the values to the outputs

  pub print_some :
      (k : ℕ) (trees : List Tree) → HoldsOfAll (HasSection ShownBy a) k trees
      → (output : List Output) × AreOutput k trees output
  print_some k trees h = numbered.print_some IsOutput Certified output_of k trees h

  -- There are outputs for the values and a final reply with this status.
  abbrev pub IsReplied : List Tree → Status → Type 0
  IsReplied trees status =
      (all : Replies) × ((ending_of all).status ≡ status) × AreOutput 0 trees all.output
      × (all.last ≡ ends_sections ShownBy a (length trees))

  reply_at :
      (n : ℕ) (left : Bool) → nat_lt n (length a.sections) ≡ left
      → (if left then exits sections_left else outputs nothing_output) ≡ ends_sections ShownBy a n
  reply_at n left at = ap (λ b. if b then exits sections_left else outputs nothing_output) (sym at)

  none_left : (n : ℕ) → n ≡ length a.sections → nat_lt n (length a.sections) ≡ false
  none_left n same = le-ltb n (length a.sections) (omega (arith, same))

  pub finish_output :
      (trees : List Tree) (status : Status) → Finish ShownBy a trees status
      → IsReplied trees status
  finish_output trees AllOk (h, same) =
      let s = print_ok IsOutput Certified output_of 0 trees h in (
        replies s.0 (outputs nothing_output),
        output_status s.0 (outputs nothing_output) nothing_output true refl (and_true (all_ok s.0) ∙ s.2),
        s.1,
        reply_at (length trees) false (none_left (length trees) same),
      )
  finish_output trees No (h, wrong, same) =
      let s = print_wrong IsOutput Certified output_of 0 trees h wrong in (
        replies s.0 (outputs nothing_output),
        output_status s.0 (outputs nothing_output) nothing_output false refl (and_true (all_ok s.0) ∙ s.2),
        s.1,
        reply_at (length trees) false (none_left (length trees) same),
      )
  finish_output trees Certificate (h, less) =
      let s = print_some 0 trees h in (
        replies s.0 (exits sections_left),
        refl,
        s.1,
        reply_at (length trees) true (lt-ltb (length trees) (length a.sections) less),
      )
  finish_output trees status h = absurd h

  -- ---- values as items

  module _ {D E : Type 0} (language : Language D T E) (Reads : ReadsSections S) where
    first : (items : List Item) (bytes : List ℕ) (item : Item) (more : List ℕ)
        → (verifying language Reads ShownBy).IsFirst a items bytes item more
        ↔ IsFirstValue language a.limit bytes item more
    first items bytes item more = (λ h. h, λ h. h)

    section_known : (items : List Item) (tree : Tree) (output : Output)
        → OutputsOf ShownBy a items (value tree) output → IsOutput (length items) tree output
    section_known items tree output known =
        let is : value tree ≡ value known.tree = known.is in
        let one : known.tree ≡ tree = cc is in record {
          text = known.text;
          shown = subst (λ t. IsShown ShownBy a (length items) t (shows known.text output.ok)) one
              known.shown;
          is = known.output_is;
        }

    reports : (items : List Item) (tree : Tree) (output : Output)
        → (verifying language Reads ShownBy).Outputs a items (value tree) output
        ↔ IsOutput (length items) tree output
    reports items tree output = (
      λ known. section_known items tree output known,
      λ is. record { tree = tree; is = refl; text = is.text; shown = is.shown; output_is = is.is },
    )

    -- If the bytes begin with the values of these trees, then the values are the first items.
    pub outputs_first :
        (bytes : List ℕ) (trees : List Tree) (output : List Output) (rest : List ℕ)
        → EncodeAll a.limit bytes trees rest → AreOutput 0 trees output
        → OutputsFirst (verifying language Reads ShownBy) a bytes (items_of trees) output rest
    outputs_first bytes trees output rest encoded print =
        values_first language a.limit (verifying language Reads ShownBy) a first IsOutput reports bytes
        trees output rest encoded print

    -- If the bytes begin with these items, then the items are values of trees.
    pub print_first :
        (bytes : List ℕ) (items : List Item) (output : List Output) (rest : List ℕ)
        → OutputsFirst (verifying language Reads ShownBy) a bytes items output rest
        → (trees : List Tree) × (items ≡ items_of trees) × EncodeAll a.limit bytes trees rest
        × AreOutput 0 trees output
    print_first bytes items output rest h =
        items_first language a.limit (verifying language Reads ShownBy) a first IsOutput reports bytes
        items output rest h
