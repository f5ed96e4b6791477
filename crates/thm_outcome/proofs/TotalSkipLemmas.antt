-- Total commands are total after skipped bytes.
use Rattle.std.proofs.Common.{◌≡◌, ◌≤◌, ◌+◌, ℕ, zero, suc, List, [], ◌∷◌, ◌++◌, length, drop, inl, inr, refl, sym, ap, ◌∙◌, subst, append_assoc, append-nil, length-append, arith}
use Rattle.std.proofs.lemmas.Bool.{cases_lt}
use Rattle.base_data.specs.model.Bytes.{AreBytes}
use Rattle.cli_spec.specs.Outcome.{Output, Request, exits}
use Rattle.cli_spec.specs.declared.exit.Exit.{Exit}
use Rattle.cli_spec.specs.declared.exit.Exit.TheVariants.{Short as short_input}
use Rattle.run_spec.specs.runs.Commands.{Item, Commands, AllPrint}
use Rattle.opt_skip_only.specs.skip_spec.Skipping.{SkippedBytes, passed_output, skipping}
use Rattle.opt_skip_only.proofs.skip_spec.PassedLemmas.{drop_first}
use Rattle.thm_outcome.specs.Total.{NotNone, AreTotalAt, AreTotal}
use Rattle.thm_outcome.proofs.TotalBesideLemmas.{total_beside}

drop_nil : (k : ℕ) → drop {A = Item} k [] ≡ []
drop_nil zero = refl
drop_nil (suc k) = refl

-- If at least `n` items come before an item, then the item comes after the items without the first
-- `n`.
drop_one : (n : ℕ) (before : List Item) (item : Item) → n ≤ length before
    → drop n (before ++ item ∷ []) ≡ drop n before ++ item ∷ []
drop_one zero before item few = refl
drop_one (suc n) [] item few = absurd (omega (arith, few))
drop_one (suc n) (b ∷ before) item few = drop_one n before item (omega (arith, few))

module _ {A : Type 0} (passed_by : Request → SkippedBytes) (c : Commands A) where
  abbrev after : Commands (SkippedBytes × A)
  after = skipping passed_by c

  module _ (over : SkippedBytes) (a : A) where
    abbrev n : ℕ
    n = over.bytes

    -- After all bytes to skip, the outputs are those of the command.
    print_past : (before items : List Item) (output : List Output) → n ≤ length before
        → AllPrint after (over, a) before items output → AllPrint c a (drop n before) items output
    print_past before [] [] few print = print
    print_past before [] (s ∷ output) few print = print
    print_past before (item ∷ items) [] few print = print
    print_past before (item ∷ items) (s ∷ output) few (inl (less, is), print) = absurd (omega (arith, few, less))
    print_past before (item ∷ items) (s ∷ output) few (inr (few', is), print) = (
      is,
      subst (λ b. AllPrint c a b items output) (drop_one n before item few)
          (print_past (before ++ item ∷ []) items output (let size = length-append before (item ∷ []) in omega (arith, size, few)) print),
    )

    -- The items after the skipped bytes have outputs of the command.
    print_later : (j : ℕ) (before items : List Item) (output : List Output) → j + length before ≡ n
        → AllPrint after (over, a) before items output → n ≤ length (before ++ items)
        → (later : List Output) × AllPrint c a [] (drop n (before ++ items)) later
    print_later zero before items output size print past =
        let from = drop_first n before [] (omega (arith, size)) in (
          output,
          subst (λ i. AllPrint c a [] i output) (sym (drop_first n before items (omega (arith, size))))
              (subst (λ b. AllPrint c a b items output) (ap (λ b. drop n b) (sym (append-nil before)) ∙ from)
              (print_past before items output (omega (arith, size)) print)),
        )
    print_later (suc j) before [] output size print past =
        let all = length-append before [] in absurd (omega (arith, size, past, all))
    print_later (suc j) before (item ∷ items) [] size print past = absurd print
    print_later (suc j) before (item ∷ items) (s ∷ output) size (first, print) past =
        let along = append_assoc before (item ∷ []) items in
        let grown = length-append before (item ∷ []) in
        let r = print_later j (before ++ item ∷ []) items output (omega (arith, size, grown)) print
        (subst (λ x. n ≤ length x) (sym along) past) in
        (r.0, subst (λ x. AllPrint c a [] (drop n x) r.0) along r.1)

    skip_total_at : AreTotalAt c a → AreTotalAt after (over, a)
    skip_total_at total = record {
      outputs_some = outputs;
      ends_some = λ reads items output print bytes are_bytes on none.
          elim (cases_lt (length items) n) [
            | inl less ↦ none (exits (short_input (length items))) (inl (less, refl))
            | inr past ↦
                let l = print_later n [] items output (omega arith) print past in
                total.ends_some reads (drop n items) l.0 l.1 bytes are_bytes
                (record { no_exit = λ exit at. on.no_exit exit (past, at); no_item = λ item more is. on.no_item item more (inr (past, is)) })
                (λ last h. none last (inr (past, h)))
          ];
      alone_some = λ unread none.
          elim (cases_lt 0 n) [
            | inl less ↦ none (exits (short_input 0)) (inl (less, refl))
            | inr past ↦ total.alone_some unread (λ last h. none last (inr (past, subst (λ i. c.Ends a i [] last) (sym (drop_nil n)) h)))
          ];
    } where
      outputs : (items : List Item) (output : List Output) → AllPrint after (over, a) [] items output
          → (bytes : List ℕ) → AreBytes bytes
          → (item : Item) (more : List ℕ) → after.IsFirst (over, a) items bytes item more
          → ((exit : Exit) → after.Exits (over, a) items bytes exit → ⊥)
          → NotNone (after.Outputs (over, a) items item)
      outputs items output print bytes are_bytes item more (inl (less, byte)) no_exit = λ none.
          none (passed_output over.copied item) (inl (less, refl))
      outputs items output print bytes are_bytes item more (inr (past, is)) no_exit = λ none.
          let l = print_later n [] items output (omega arith) print past in
          total.outputs_some (drop n items) l.0 l.1 bytes are_bytes item more is (λ exit at. no_exit exit (past, at)) (λ s h. none s (inr (past, h)))

  pub skip_total : (Of : Request → Type 0) → AreTotal c Of → AreTotal after Of
  skip_total Of total = total_beside passed_by c after skip_total_at Of total
