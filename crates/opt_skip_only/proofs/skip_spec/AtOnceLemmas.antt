-- If no byte is skipped, then the commands are unchanged.
use Rattle.std.proofs.Common.{◌≡◌, ◌≤◌, ℕ, List, inl, inr, sym, subst, length, drop, arith}
use Rattle.cli_spec.specs.Outcome.{Request, Output, Reply}
use Rattle.run_spec.specs.runs.Account.{Account}
use Rattle.run_spec.specs.runs.Call.{Call}
use Rattle.run_spec.specs.runs.Commands.{Item, Commands}
use Rattle.run_spec.specs.runs.RunSpec.{RunSpec}
use Rattle.run_spec.proofs.command_sum.CommandSumAgreeLemmas.{Agrees}
use Rattle.run_spec.proofs.command_sum.BesideLemmas.{account_beside, run_spec_beside}
use Rattle.opt_skip_only.specs.skip_spec.Skipping.{SkippedBytes, IsFirst, Outputs, Ends, skipping, PassNothing}

module _ {A : Type 0} (passed_by : Request → SkippedBytes) (c : Commands A) where
  abbrev after : Commands (SkippedBytes × A)
  after = skipping passed_by c

  module _ (over : SkippedBytes) (a : A) (none : over.bytes ≡ 0) where
    abbrev n : ℕ
    n = over.bytes

    -- If the number of bytes to skip is 0, then each list of items has at least that number of
    -- items.
    past : (items : List Item) → n ≤ length items
    past items = omega (arith, none)

    here : (P : List Item → Type 0) (items : List Item) → P items → P (drop n items)
    here P items h = subst (λ k. P (drop k items)) (sym none) h

    back : (P : List Item → Type 0) (items : List Item) → P (drop n items) → P items
    back P items h = subst (λ k. P (drop k items)) none h

    first_back : (items : List Item) (bytes : List ℕ) (item : Item) (more : List ℕ)
        → IsFirst c (over, a) items bytes item more → c.IsFirst a items bytes item more
    first_back items bytes item more (inl (less, b)) = absurd (omega (arith, none, less))
    first_back items bytes item more (inr (few, is)) = back (λ i. c.IsFirst a i bytes item more) items is

    outputs_back : (items : List Item) (item : Item) (output : Output)
        → Outputs c (over, a) items item output → c.Outputs a items item output
    outputs_back items item output (inl (less, b)) = absurd (omega (arith, none, less))
    outputs_back items item output (inr (few, is)) = back (λ i. c.Outputs a i item output) items is

    ends_back : (items : List Item) (bytes : List ℕ) (last : Reply)
        → Ends c (over, a) items bytes last → c.Ends a items bytes last
    ends_back items bytes last (inl (less, b)) = absurd (omega (arith, none, less))
    ends_back items bytes last (inr (few, is)) = back (λ i. c.Ends a i bytes last) items is

    agree : Agrees c after a (over, a)
    agree = record {
      reads = (λ h. h, λ h. h);
      first = λ items bytes item more. (
        λ h. inr (past items, here (λ i. c.IsFirst a i bytes item more) items h),
        λ h. first_back items bytes item more h,
      );
      outputs = λ items item output. (
        λ h. inr (past items, here (λ i. c.Outputs a i item output) items h),
        λ h. outputs_back items item output h,
      );
      exits = λ items bytes exit. (
        λ h. (past items, here (λ i. c.Exits a i bytes exit) items h),
        λ h. back (λ i. c.Exits a i bytes exit) items h.1,
      );
      ends = λ items bytes last. (
        λ h. inr (past items, here (λ i. c.Ends a i bytes last) items h),
        λ h. ends_back items bytes last h,
      );
    }

  module _ (arguments : List (List ℕ)) (none : PassNothing passed_by arguments) where
    pub account_at_once : (call : Call) → Account c arguments call → Account after arguments call
    account_at_once call h =
        account_beside passed_by c after arguments (λ over. over.bytes ≡ 0) none agree call h

    pub run_spec_at_once : (call : Call) → RunSpec after arguments call → RunSpec c arguments call
    run_spec_at_once call h =
        run_spec_beside passed_by c after arguments (λ over. over.bytes ≡ 0) none agree call h
