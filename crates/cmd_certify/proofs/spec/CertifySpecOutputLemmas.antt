-- The outputs for values and the certificate entries of the values determine each other, as the
-- tables state.
use Rattle.std.proofs.Common.{◌≡◌, ℕ, Bool, true, false, List, length, refl, sym, ◌∙◌, subst}
use Rattle.std.specs.Prelude.{◌↔◌, if◌then◌else◌}
use Rattle.marshal_spec.specs.format.Stream.{EncodeAll}
use Rattle.marshal_spec.specs.format.Tree.{Tree}
use Rattle.cli_spec.specs.declared.status.Status.{Status}
use Rattle.cli_spec.specs.declared.status.Status.TheVariants.{AllOk, No}
use Rattle.cli_spec.specs.Outcome.{ending_of, Output, nothing_output, Reply, outputs, Replies, replies, all_ok, Language}
use Rattle.run_spec.specs.runs.Commands.{Item, value, OutputsFirst}
use Rattle.run_spec.proofs.runs.RunValueLemmas.{and_true}
use Rattle.run_spec.specs.value_commands.Tasks.{items_of, IsFirstValue}
use Rattle.run_spec.specs.exit_statuses.NumberedItems.{HoldsOfAll}
use Rattle.run_spec.proofs.exit_statuses.ExitStatusNumberedLemmas as numbered
use Rattle.run_spec.proofs.exit_statuses.ExitStatusNumberedLemmas.{HasOutput, all_certified, some_wrong, print_ok, print_wrong, values_first, items_first}
use Rattle.run_spec.proofs.exit_statuses.ExitStatusOutputLemmas.{output_status}
use Rattle.cmd_certify.specs.spec.Certification.{Certification, OutputsSections, OutputsOf, certifying}
use Rattle.cmd_certify.specs.spec.ExitStatuses.{IsCertified, HasSection, Finish}

module _ {T : Type 0} (SectionOf : OutputsSections T) (a : Certification T) where
  -- The outputs for the values of the trees, whose numbers begin at `number`.
  abbrev pub AreOutput : ℕ → List Tree → List Output → Type 0
  AreOutput number trees output = numbered.AreOutput (SectionOf a.type) number trees output

  abbrev Certified : Bool → ℕ → Tree → Type 0
  Certified ok number tree = IsCertified SectionOf a ok number tree

  -- If there is an output for a value, then the value has a certificate entry.
  same :
      (ok : Bool) (number : ℕ) (tree : Tree) → HasOutput (SectionOf a.type) ok number tree
      → Certified ok number tree
  same ok number tree h = h

  -- ---- from the outputs to the values

  pub all_have :
      (k : ℕ) (trees : List Tree) (output : List Output) → AreOutput k trees output
      → HoldsOfAll (HasSection SectionOf a) k trees
  all_have k trees output h = numbered.all_have (SectionOf a.type) Certified same k trees output h

  -- If the input ends after values with these outputs, then the table contains the status of the
  -- run.
  pub finish_of :
      (trees : List Tree) (output : List Output) (last : Reply) → AreOutput 0 trees output
      → last ≡ outputs nothing_output → Finish SectionOf a trees (ending_of (replies output last)).status
  finish_of trees output last h is =
      subst (Finish SectionOf a trees)
      (sym (output_status output last nothing_output (all_ok output) is (and_true (all_ok output))))
      (ended (all_ok output) refl) where
        ended : (ok : Bool) → all_ok output ≡ ok
            → Finish SectionOf a trees (if ok then AllOk else No)
        ended true e = all_certified (SectionOf a.type) Certified same 0 trees output h e
        ended false e =
            (all_have 0 trees output h, some_wrong (SectionOf a.type) Certified same 0 trees output h e)

  -- ---- from the values to the outputs

  output_of :
      (ok : Bool) (number : ℕ) (tree : Tree) → Certified ok number tree
      → HasOutput (SectionOf a.type) ok number tree
  output_of ok number tree h = h

  pub print_some :
      (k : ℕ) (trees : List Tree) → HoldsOfAll (HasSection SectionOf a) k trees
      → (output : List Output) × AreOutput k trees output
  print_some k trees h = numbered.print_some (SectionOf a.type) Certified output_of k trees h

  -- There are outputs for the values and a final reply with this status.
  abbrev pub IsReplied : List Tree → Status → Type 0
  IsReplied trees status =
      (all : Replies) × ((ending_of all).status ≡ status) × AreOutput 0 trees all.output
      × (all.last ≡ outputs nothing_output)

  pub finish_output :
      (trees : List Tree) (status : Status) → Finish SectionOf a trees status
      → IsReplied trees status
  finish_output trees AllOk h =
      let s = print_ok (SectionOf a.type) Certified output_of 0 trees h in (
        replies s.0 (outputs nothing_output),
        output_status s.0 (outputs nothing_output) nothing_output true refl (and_true (all_ok s.0) ∙ s.2),
        s.1,
        refl,
      )
  finish_output trees No (h, wrong) =
      let s = print_wrong (SectionOf a.type) Certified output_of 0 trees h wrong in (
        replies s.0 (outputs nothing_output),
        output_status s.0 (outputs nothing_output) nothing_output false refl (and_true (all_ok s.0) ∙ s.2),
        s.1,
        refl,
      )
  finish_output trees status h = absurd h

  -- ---- values as items

  module _ {D E : Type 0} (language : Language D T E) where
    first : (items : List Item) (bytes : List ℕ) (item : Item) (more : List ℕ)
        → (certifying language SectionOf).IsFirst a items bytes item more
        ↔ IsFirstValue language a.limit bytes item more
    first items bytes item more = (λ h. h, λ h. h)

    section_known : (items : List Item) (tree : Tree) (output : Output)
        → OutputsOf SectionOf a items (value tree) output → SectionOf a.type (length items) tree output
    section_known items tree output known =
        let is : value tree ≡ value known.tree = known.is in
        let one : known.tree ≡ tree = cc is in
        subst (λ t. SectionOf a.type (length items) t output) one known.section

    reports : (items : List Item) (tree : Tree) (output : Output)
        → (certifying language SectionOf).Outputs a items (value tree) output
        ↔ SectionOf a.type (length items) tree output
    reports items tree output = (
      λ known. section_known items tree output known,
      λ section. record { tree = tree; is = refl; section = section },
    )

    -- If the bytes begin with the values of these trees, then the values are the first items.
    pub outputs_first :
        (bytes : List ℕ) (trees : List Tree) (output : List Output) (rest : List ℕ)
        → EncodeAll a.limit bytes trees rest → AreOutput 0 trees output
        → OutputsFirst (certifying language SectionOf) a bytes (items_of trees) output rest
    outputs_first bytes trees output rest encoded print =
        values_first language a.limit (certifying language SectionOf) a first (SectionOf a.type)
        reports bytes trees output rest encoded print

    -- If the bytes begin with these items, then the items are values of trees.
    pub print_first :
        (bytes : List ℕ) (items : List Item) (output : List Output) (rest : List ℕ)
        → OutputsFirst (certifying language SectionOf) a bytes items output rest
        → (trees : List Tree) × (items ≡ items_of trees) × EncodeAll a.limit bytes trees rest
        × AreOutput 0 trees output
    print_first bytes items output rest h =
        items_first language a.limit (certifying language SectionOf) a first (SectionOf a.type)
        reports bytes items output rest h
