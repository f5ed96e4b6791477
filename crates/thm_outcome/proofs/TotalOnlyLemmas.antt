-- Total commands are total if only one item is selected.
use Rattle.std.proofs.Common.{◌≡◌, ◌<◌, ◌+◌, ℕ, List, [], ◌∷◌, ◌++◌, length, Option, None, Some, inl, inr, refl, sym, ap, ◌∙◌, subst, append_assoc, append-nil, length-append, arith}
use Rattle.std.proofs.lemmas.Bool.{cases_lt}
use Rattle.cli_spec.specs.Outcome.{Output, nothing_output, Request}
use Rattle.cli_spec.specs.declared.exit.Exit.{Exit}
use Rattle.cli_spec.specs.declared.exit.Exit.TheVariants.{Finished as finished}
use Rattle.run_spec.specs.runs.Commands.{Item, Commands, AllPrint}
use Rattle.opt_skip_only.specs.only_spec.OnlyCommand.{missing, only_command}
use Rattle.opt_skip_only.proofs.only_spec.EachLemmas.{agree_each}
use Rattle.thm_outcome.specs.Total.{AreTotalAt, AreTotal}
use Rattle.thm_outcome.proofs.TotalAgreeLemmas.{total_too}
use Rattle.thm_outcome.proofs.TotalBesideLemmas.{total_beside}

module _ {A : Type 0} (picked_by : Request → Option ℕ) (c : Commands A) where
  abbrev one : Commands (Option ℕ × A)
  one = only_command picked_by c

  module _ (k : ℕ) (a : A) (total : AreTotalAt c a) where
    abbrev act : Option ℕ × A
    act = (Some k, a)

    -- If items have outputs with `--only`, then the items have outputs without `--only`.
    print_known : (before items : List Item) (output : List Output)
        → AllPrint one act before items output → (known : List Output) × AllPrint c a before items known
    print_known before [] [] h = ([], tt)
    print_known before [] (s ∷ output) h = absurd h
    print_known before (t ∷ items) [] h = absurd h
    print_known before (t ∷ items) (s ∷ output) (inl (less, known, outputs, is), h) =
        let next = print_known (before ++ t ∷ []) items output h in (known ∷ next.0, (outputs, next.1))
    print_known before (t ∷ items) (s ∷ output) (inr (here, outputs), h) =
        let next = print_known (before ++ t ∷ []) items output h in (s ∷ next.0, (outputs, next.1))

    -- The last item has an output.
    last_output : (before : List Item) (t : Item) (items : List Item) (output : List Output)
        → AllPrint one act before (t ∷ items) output
        → (earlier : List Item) × (item : Item) × (s : Output)
        × (t ∷ items ≡ earlier ++ item ∷ []) × one.Outputs act (before ++ earlier) item s
    last_output before t items [] h = absurd h
    last_output before t [] (s ∷ output) (first, h) =
        ([], t, s, refl, subst (λ b. one.Outputs act b t s) (sym (append-nil before)) first)
    last_output before t (u ∷ items) (s ∷ output) (first, h) =
        let n = last_output (before ++ t ∷ []) u items output h in (
          t ∷ n.0,
          n.1,
          n.2,
          ap (λ i. t ∷ i) n.3,
          subst (λ b. one.Outputs act b n.1 n.2) (append_assoc before (t ∷ []) n.0) n.4,
        )

    -- After the selected item, the run is finished.
    past_one : (items : List Item) (output : List Output) → AllPrint one act [] items output → k < length items
        → (bytes : List ℕ) → ((exit : Exit) → one.Exits act items bytes exit → ⊥) → ⊥
    past_one [] output h past bytes no_exit = absurd (omega (arith, past))
    past_one (t ∷ items) output h past bytes no_exit = by l.4 where
      l : (earlier : List Item) × (item : Item) × (s : Output)
          × (t ∷ items ≡ earlier ++ item ∷ []) × one.Outputs act ([] ++ earlier) item s
      l = last_output [] t items output h

      by : one.Outputs act ([] ++ l.0) l.1 l.2 → ⊥
      by (inl (less, known, outputs, is)) =
          let size : length (t ∷ items) ≡ length l.0 + length (l.1 ∷ []) = ap length l.3 ∙ length-append l.0 (l.1 ∷ []) in
          absurd (omega (arith, size, past, less))
      by (inr (here, outputs)) =
          no_exit (finished l.2.ok) (inr (
            l.2.ok,
            record {
              earlier = l.0;
              item = l.1;
              items_are = l.3;
              number = here;
              output = l.2;
              outputs = outputs;
              ok_is = refl;
            },
            refl,
          ))

    one_total_at : AreTotalAt one act
    one_total_at = record {
      outputs_some = λ items output print bytes are_bytes item more is no_exit none.
          let known = print_known [] items output print in
          total.outputs_some items known.0 known.1 bytes are_bytes item more is.1
          (λ exit at. no_exit exit (inl (is.0, at))) (λ s h.
          elim (cases_lt (length items) k) [
            | inl less ↦ none nothing_output (inl (less, s, h, refl))
            | inr past ↦ none s (inr (omega (arith, past, is.0), h))
          ]);
      ends_some = λ reads items output print bytes are_bytes on none.
          elim (cases_lt k (length items)) [
            | inl past ↦ past_one items output print past bytes on.no_exit
            | inr few ↦
                let known = print_known [] items output print in
                total.ends_some reads items known.0 known.1 bytes are_bytes
                (record { no_exit = λ exit at. on.no_exit exit (inl (few, at)); no_item = λ item more is. on.no_item item more (few, is) })
                (λ reply h. none (missing (length items) reply) (few, reply, h, refl))
          ];
      alone_some = λ unread none.
          total.alone_some unread (λ reply h. none (missing 0 reply) (omega arith, reply, h, refl));
    }

  only_total_at : (picked : Option ℕ) (a : A) → AreTotalAt c a → AreTotalAt one (picked, a)
  only_total_at None a total = total_too c one a (None, a) (agree_each picked_by c a) total
  only_total_at (Some k) a total = one_total_at k a total

  pub only_total : (Of : Request → Type 0) → AreTotal c Of → AreTotal one Of
  only_total Of total = total_beside picked_by c one only_total_at Of total
