-- Each command set is a part of the whole set: no request belongs to two sets.
use Rattle.std.proofs.Common.{◌≡◌, ℕ, List, None, inl, inr, refl, subst, arith}
use Rattle.cli_spec.specs.CommandLine.{certify, scan, searched_by}
use Rattle.cli_spec.specs.Outcome.{Request, report, get, edit, dump, compare, own, OwnRequest, build, generate, verify, Asks}
use Rattle.run_spec.specs.runs.Call.{Call}
use Rattle.run_spec.specs.runs.Commands.{Commands}
use Rattle.run_spec.specs.runs.Account.{Account}
use Rattle.run_spec.specs.runs.RunSpec.{RunSpec}
use Rattle.run_spec.specs.command_sum.CommandSum.{command_sum, IsIdleAt, AreIdleTogether, AskNothingOf, HaveAccountsOfFirst, SpecifyAsFirst, HaveAccountsOfSecond, SpecifyAsSecond}
use Rattle.cmd_build.specs.spec.InputTexts.{built_by}
use Rattle.cmd_build.specs.spec.Laws.{IsIdleElsewhere as TextsIdleElsewhere}
use Rattle.cmd_build.proofs.spec.BuildSpecDisjointLemmas.{values_idle}
use Rattle.cmd_gen.specs.spec.GenSpec.{generated_by}
use Rattle.cmd_gen.specs.spec.Laws.{IsIdleElsewhere as MadeIdleElsewhere}
use Rattle.cmd_verify.specs.spec.Verification.{verified_by}
use Rattle.cmd_verify.specs.spec.Laws.{IsIdleElsewhere as CertificatesIdleElsewhere}
use Rattle.cmd_verify.specs.command.VerifiedSections.{reads_sections, declared_sections}
use Rattle.cmd_certify.specs.spec.Certification.{certified_by}
use Rattle.cmd_certify.specs.spec.Laws.{IsIdleElsewhere as SectionsIdleElsewhere}
use Rattle.cmd_certify.specs.command.CertifiedOutput.{declared_certificates}
use Rattle.cmd_scan.specs.spec.Laws.{IsIdleElsewhere as PositionsIdleElsewhere}
use Rattle.cmd_build.specs.command.InputLines.{declared_texts}
use Rattle.run_types.specs.Language.{declared_types}
use Rattle.cli_args.proofs.RequestLemmas.{one_request}
use Rattle.run_loop.proofs.work.ExitLemmas.{WantsInTurns}
use Rattle.opt_skip_only.specs.skip_spec.SkipRequests.{passed_by}
use Rattle.opt_skip_only.specs.skip_spec.Skipping.{skipping}
use Rattle.opt_skip_only.proofs.skip_spec.SkippingLemmas.{idle}
use Rattle.opt_skip_only.proofs.skip_spec.AtOnceLemmas.{run_spec_at_once}
use Rattle.opt_skip_only.specs.only_spec.OnlyRequests.{picked_by}
use Rattle.opt_skip_only.proofs.only_spec.OnlyCommandLemmas.{idle as picked_idle}
use Rattle.opt_skip_only.proofs.only_spec.EachLemmas.{run_spec_of_each}
use Rattle.session.specs.All.{on_values, on_values_picked, on_values_after, on_texts, on_certificates, on_certificates_after, on_certified, on_certified_after, on_positions, on_made, on_values_or_texts, on_others, on_items, on_input, all_commands, IsOfValues, IsOfTexts, IsOfCertificates, IsOfSections, IsOfPositions, IsOfMade, AskOnly, IsPartOf, IsPart}

-- ---- a part of a sum is a part of the whole set

module _ {A B : Type 0} (c : Commands A) (d : Commands B) (IsOf : Request → Type 0) where
  first_part : ((request : Request) → IsOf request → IsIdleAt d request) → HaveAccountsOfFirst c d
      → SpecifyAsFirst c d → IsPartOf (command_sum c d) c IsOf
  first_part idle accounts specify = record {
    account = λ arguments call only account. accounts arguments call (nothing arguments only) account;
    run_spec = λ arguments call only run_spec. specify arguments call (nothing arguments only) run_spec;
  } where
    nothing : (arguments : List (List ℕ)) → AskOnly IsOf arguments → AskNothingOf d arguments
    nothing arguments only request asks = idle request (only request asks)

  second_part : ((request : Request) → IsOf request → IsIdleAt c request) → HaveAccountsOfSecond c d
      → SpecifyAsSecond c d → IsPartOf (command_sum c d) d IsOf
  second_part idle accounts specify = record {
    account = λ arguments call only account. accounts arguments call (nothing arguments only) account;
    run_spec = λ arguments call only run_spec. specify arguments call (nothing arguments only) run_spec;
  } where
    nothing : (arguments : List (List ℕ)) → AskOnly IsOf arguments → AskNothingOf c arguments
    nothing arguments only request asks = idle request (only request asks)

part_of_part : {A B C : Type 0} (c : Commands A) (d : Commands B) (e : Commands C)
    (IsOf : Request → Type 0) → IsPartOf d c IsOf → IsPartOf e d IsOf → IsPartOf e c IsOf
part_of_part c d e IsOf inner outer = record {
  account = λ arguments call only account.
      outer.account arguments call only (inner.account arguments call only account);
  run_spec = λ arguments call only run_spec.
      inner.run_spec arguments call only (outer.run_spec arguments call only run_spec);
}

-- ---- a request of one set is not a request of another

values_after_idle : (request : OwnRequest) → IsIdleAt on_values_after (own request)
values_after_idle request =
    idle passed_by on_values_picked (own request)
    (picked_idle picked_by on_values (own request) (values_idle declared_types request))

of_values_others : (request : Request) → IsOfValues request
    → (built_by request ≡ None) × (verified_by request ≡ None) × (certified_by request ≡ None)
    × (searched_by request ≡ None) × (generated_by request ≡ None)
of_values_others (report query file type lines reading) of = (refl, refl, refl, refl, refl)
of_values_others (get file type path style lines reading) of = (refl, refl, refl, refl, refl)
of_values_others (edit file type script compat lines decimal reading) of = (refl, refl, refl, refl, refl)
of_values_others (dump reading) of = (refl, refl, refl, refl, refl)
of_values_others (compare reading) of = (refl, refl, refl, refl, refl)
of_values_others (own request) of = absurd of

of_texts_others : (request : Request) → IsOfTexts request
    → IsIdleAt on_values_after request × (verified_by request ≡ None) × (certified_by request ≡ None)
    × (searched_by request ≡ None) × (generated_by request ≡ None)
of_texts_others (own (build file type lines decimal)) of =
    (values_after_idle (build file type lines decimal), refl, refl, refl, refl)
of_texts_others request of = absurd of

of_certificates_others : (request : Request) → IsOfCertificates request
    → IsIdleAt on_values_after request × (built_by request ≡ None) × (certified_by request ≡ None)
    × (searched_by request ≡ None) × (generated_by request ≡ None)
of_certificates_others (own (verify file type certificate lines reading)) of =
    (values_after_idle (verify file type certificate lines reading), refl, refl, refl, refl)
of_certificates_others request of = absurd of

of_sections_others : (request : Request) → IsOfSections request
    → IsIdleAt on_values_after request × (built_by request ≡ None) × (verified_by request ≡ None)
    × (searched_by request ≡ None) × (generated_by request ≡ None)
of_sections_others (own (certify file type lines reading)) of =
    (values_after_idle (certify file type lines reading), refl, refl, refl, refl)
of_sections_others request of = absurd of

of_positions_others : (request : Request) → IsOfPositions request
    → IsIdleAt on_values_after request × (built_by request ≡ None) × (verified_by request ≡ None)
    × (certified_by request ≡ None) × (generated_by request ≡ None)
of_positions_others (own (scan limit)) of =
    (values_after_idle (scan limit), refl, refl, refl, refl)
of_positions_others request of = absurd of

of_made_others : (request : Request) → IsOfMade request
    → IsIdleAt on_values_after request × (built_by request ≡ None) × (verified_by request ≡ None)
    × (certified_by request ≡ None) × (searched_by request ≡ None)
of_made_others (own (generate number count type)) of =
    (values_after_idle (generate number count type), refl, refl, refl, refl)
of_made_others request of = absurd of

-- ---- the six sets

module _ (texts_idle : TextsIdleElsewhere declared_types declared_texts)
    (certificates_idle : CertificatesIdleElsewhere declared_types reads_sections declared_sections)
    (sections_idle : SectionsIdleElsewhere declared_types declared_certificates)
    (positions_idle : PositionsIdleElsewhere searched_by)
    (made_idle : MadeIdleElsewhere declared_types) where
  certificates_after_idle : (request : Request) → verified_by request ≡ None
      → IsIdleAt on_certificates_after request
  certificates_after_idle request none =
      idle passed_by on_certificates request (certificates_idle request none)

  sections_after_idle : (request : Request) → certified_by request ≡ None
      → IsIdleAt on_certified_after request
  sections_after_idle request none =
      idle passed_by on_certified request (sections_idle request none)

  module _ (outer_accounts : HaveAccountsOfFirst on_input on_made)
      (outer : SpecifyAsFirst on_input on_made) where
    -- A part of the commands on the input is a part of the whole set.
    part_of_input : {A : Type 0} (c : Commands A) (IsOf : Request → Type 0)
        → ((request : Request) → IsOf request → generated_by request ≡ None)
        → IsPartOf on_input c IsOf → IsPart c IsOf
    part_of_input c IsOf others part =
        part_of_part c on_input all_commands IsOf part
        (first_part on_input on_made IsOf
        (λ request of. made_idle request (others request of)) outer_accounts outer)

    module _ (items_accounts : HaveAccountsOfFirst on_items on_positions)
        (items : SpecifyAsFirst on_items on_positions) where
      -- A part of the commands on the values or lines of the input is a part of the whole set.
      part_of_items : {A : Type 0} (c : Commands A) (IsOf : Request → Type 0)
          → ((request : Request) → IsOf request
          → (searched_by request ≡ None) × (generated_by request ≡ None))
          → IsPartOf on_items c IsOf → IsPart c IsOf
      part_of_items c IsOf others part =
          part_of_input c IsOf (λ request of. (others request of).1)
          (part_of_part c on_items on_input IsOf part
          (first_part on_items on_positions IsOf
          (λ request of. positions_idle request (others request of).0) items_accounts items))

      module _ (middle_accounts : HaveAccountsOfFirst on_others on_certified_after)
          (middle : SpecifyAsFirst on_others on_certified_after) where
        -- A part of the commands other than `check --cert` is a part of the whole set.
        part_of_others : {A : Type 0} (c : Commands A) (IsOf : Request → Type 0)
            → ((request : Request) → IsOf request → (certified_by request ≡ None)
            × (searched_by request ≡ None) × (generated_by request ≡ None))
            → IsPartOf on_others c IsOf → IsPart c IsOf
        part_of_others c IsOf others part =
            part_of_items c IsOf (λ request of. let o = others request of in (o.1, o.2))
            (part_of_part c on_others on_items IsOf part
            (first_part on_others on_certified_after IsOf
            (λ request of. sections_after_idle request (others request of).0) middle_accounts middle))

        module _ (inner_accounts : HaveAccountsOfFirst on_values_or_texts on_certificates_after)
            (inner : SpecifyAsFirst on_values_or_texts on_certificates_after) where
          -- A part of the commands on values or texts is a part of the whole set.
          part_of_all : {A : Type 0} (c : Commands A) (IsOf : Request → Type 0)
              → ((request : Request) → IsOf request
              → (verified_by request ≡ None) × (certified_by request ≡ None)
              × (searched_by request ≡ None) × (generated_by request ≡ None))
              → IsPartOf on_values_or_texts c IsOf → IsPart c IsOf
          part_of_all c IsOf others part =
              part_of_others c IsOf (λ request of. let o = others request of in (o.1, o.2, o.3))
              (part_of_part c on_values_or_texts on_others IsOf part
              (first_part on_values_or_texts on_certificates_after IsOf
              (λ request of. certificates_after_idle request (others request of).0)
              inner_accounts inner))

          pub values_part : HaveAccountsOfFirst on_values_after on_texts
              → SpecifyAsFirst on_values_after on_texts → IsPart on_values_after IsOfValues
          values_part accounts specify =
              part_of_all on_values_after IsOfValues
              (λ request of. let o = of_values_others request of in (o.1, o.2, o.3, o.4))
              (first_part on_values_after on_texts IsOfValues
              (λ request of. texts_idle request (of_values_others request of).0)
              accounts specify)

          pub texts_part : HaveAccountsOfSecond on_values_after on_texts
              → SpecifyAsSecond on_values_after on_texts → IsPart on_texts IsOfTexts
          texts_part accounts specify =
              part_of_all on_texts IsOfTexts
              (λ request of. let o = of_texts_others request of in (o.1, o.2, o.3, o.4))
              (second_part on_values_after on_texts IsOfTexts
              (λ request of. (of_texts_others request of).0) accounts specify)

        pub certificates_part : AreIdleTogether on_values_after on_texts
            → HaveAccountsOfSecond on_values_or_texts on_certificates_after
            → SpecifyAsSecond on_values_or_texts on_certificates_after
            → IsPart on_certificates_after IsOfCertificates
        certificates_part together accounts specify =
            part_of_others on_certificates_after IsOfCertificates
            (λ request of. let o = of_certificates_others request of in (o.2, o.3, o.4))
            (second_part on_values_or_texts on_certificates_after IsOfCertificates
            (λ request of.
            let others = of_certificates_others request of in
            together request others.0 (texts_idle request others.1))
            accounts specify)

      pub sections_part : AreIdleTogether on_values_after on_texts
          → AreIdleTogether on_values_or_texts on_certificates_after
          → HaveAccountsOfSecond on_others on_certified_after → SpecifyAsSecond on_others on_certified_after
          → IsPart on_certified_after IsOfSections
      sections_part inner together accounts specify =
          part_of_items on_certified_after IsOfSections
          (λ request of. let o = of_sections_others request of in (o.3, o.4))
          (second_part on_others on_certified_after IsOfSections
          (λ request of.
          let others = of_sections_others request of in
          together request (inner request others.0 (texts_idle request others.1))
          (certificates_after_idle request others.2))
          accounts specify)

    pub positions_part : AreIdleTogether on_values_after on_texts
        → AreIdleTogether on_values_or_texts on_certificates_after
        → AreIdleTogether on_others on_certified_after
        → HaveAccountsOfSecond on_items on_positions → SpecifyAsSecond on_items on_positions
        → IsPart on_positions IsOfPositions
    positions_part inner middle together accounts specify =
        part_of_input on_positions IsOfPositions (λ request of. (of_positions_others request of).4)
        (second_part on_items on_positions IsOfPositions
        (λ request of.
        let others = of_positions_others request of in
        together request
        (middle request (inner request others.0 (texts_idle request others.1))
        (certificates_after_idle request others.2))
        (sections_after_idle request others.3))
        accounts specify)

  pub made_part : AreIdleTogether on_values_after on_texts
      → AreIdleTogether on_values_or_texts on_certificates_after
      → AreIdleTogether on_others on_certified_after → AreIdleTogether on_items on_positions
      → HaveAccountsOfSecond on_input on_made → SpecifyAsSecond on_input on_made
      → IsPart on_made IsOfMade
  made_part inner middle outer together accounts specify =
      second_part on_input on_made IsOfMade
      (λ request of.
      let others = of_made_others request of in
      together request
      (outer request
      (middle request (inner request others.0 (texts_idle request others.1))
      (certificates_after_idle request others.2))
      (sections_after_idle request others.3))
      (positions_idle request others.4))
      accounts specify

-- The arguments request at most one command.
pub only_this : (IsOf : Request → Type 0) (arguments : List (List ℕ)) (request : Request)
    → Asks arguments request → IsOf request → AskOnly IsOf arguments
only_this IsOf arguments request asks of other asks' =
    subst IsOf (one_request arguments request other asks asks') of

-- An `Account` by the set to which a request belongs is an `Account` by the whole set.
pub all_account : {A : Type 0} (c : Commands A) (IsOf : Request → Type 0) → IsPart c IsOf
    → (arguments : List (List ℕ)) (call : Call) (request : Request)
    → Asks arguments request → IsOf request → Account c arguments call → Account all_commands arguments call
all_account c IsOf part arguments call request asks of account =
    part.account arguments call (only_this IsOf arguments request asks of) account

-- If no bytes are skipped, then the specification of a run by the whole set implies the
-- specification by the set without `--skip`.
pub part_at_once : {A : Type 0} (c : Commands A) (IsOf : Request → Type 0)
    → IsPart (skipping passed_by c) IsOf → (arguments : List (List ℕ)) (call : Call) (request : Request)
    → Asks arguments request → IsOf request → (passed_by request).bytes ≡ 0
    → RunSpec all_commands arguments call → RunSpec c arguments call
part_at_once c IsOf part arguments call request asks of none all =
    run_spec_at_once passed_by c arguments
    (λ other asks'.
    subst (λ r. (passed_by r).bytes ≡ 0) (one_request arguments request other asks asks') none)
    call (part.run_spec arguments call (only_this IsOf arguments request asks of) all)

-- If `--skip` and `--only` are not used, then the specification of a run by the whole set implies
-- the specification by the commands on values.
pub values_at_once : IsPart on_values_after IsOfValues
    → (arguments : List (List ℕ)) (call : Call) (request : Request)
    → Asks arguments request → IsOfValues request → (passed_by request).bytes ≡ 0
    → picked_by request ≡ None → RunSpec all_commands arguments call → RunSpec on_values arguments call
values_at_once part arguments call request asks of none each all =
    run_spec_of_each picked_by on_values arguments
    (λ other asks'.
    subst (λ r. picked_by r ≡ None) (one_request arguments request other asks asks') each)
    call (part_at_once on_values_picked IsOfValues part arguments call request asks of none all)

-- Files are fetched in at most two turns.
pub values_in_turns : WantsInTurns 2 on_values_after
values_in_turns request files turn name (inl (first, w)) = omega (arith, first)
values_in_turns request files turn name (inr (second, w)) = omega (arith, second)

pub all_in_turns : WantsInTurns 2 all_commands
all_in_turns request files turn name (inl (inl (inl (inl (inl w))))) =
    values_in_turns request files turn name w
all_in_turns request files turn name (inl (inl (inl (inl (inr (first, type, asked)))))) =
    omega (arith, first)
all_in_turns request files turn name (inl (inl (inl (inr (asked, is, inl (first, named)))))) =
    omega (arith, first)
all_in_turns request files turn name
    (inl (inl (inl (inr (asked, is, inr (second, named, type, typed)))))) =
    omega (arith, second)
all_in_turns request files turn name (inl (inl (inr (asked, is, first, named)))) =
    omega (arith, first)
all_in_turns request files turn name (inl (inr never)) = absurd never
all_in_turns request files turn name (inr never) = absurd never
