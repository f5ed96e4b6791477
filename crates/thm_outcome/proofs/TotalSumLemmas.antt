-- The sum of two disjoint sets of total commands is total.
use Rattle.std.proofs.Common.{◌⊎◌, List, ℕ, Option, Result, Ok, Err, inl, inr}
use Rattle.cli_spec.specs.Outcome.{Request, found_of}
use Rattle.cli_spec.specs.declared.exit.Exit.{Exit}
use Rattle.run_spec.specs.runs.Commands.{Fetches, Commands}
use Rattle.run_spec.specs.command_sum.CommandSum.{command_sum, IsIdleAt, AreDisjoint}
use Rattle.run_spec.proofs.command_sum.CommandSumAgreeLemmas.{Agrees}
use Rattle.thm_outcome.specs.Total.{NotNone, AreTotalAt, AreTotal}
use Rattle.thm_outcome.proofs.TotalAgreeLemmas.{total_too}

module _ {A B : Type 0} (c : Commands A) (d : Commands B) where
  abbrev sum : Commands (A ⊎ B)
  sum = command_sum c d

  pub first_agrees : (a : A) → Agrees c sum a (inl a)
  first_agrees a = record {
    reads = (λ h. h, λ h. h);
    first = λ items bytes item more. (λ h. h, λ h. h);
    outputs = λ items item output. (λ h. h, λ h. h);
    exits = λ items bytes exit. (λ h. h, λ h. h);
    ends = λ items bytes last. (λ h. h, λ h. h);
  }

  pub second_agrees : (b : B) → Agrees d sum b (inr b)
  second_agrees b = record {
    reads = (λ h. h, λ h. h);
    first = λ items bytes item more. (λ h. h, λ h. h);
    outputs = λ items item output. (λ h. h, λ h. h);
    exits = λ items bytes exit. (λ h. h, λ h. h);
    ends = λ items bytes last. (λ h. h, λ h. h);
  }

  -- If one of the sets finds a task or an exit reason, then the sum finds a task or an exit reason.
  first_finds : (request : Request) (files : Fetches) → NotNone (c.Finds request files)
      → NotNone (sum.Finds request files)
  first_finds request files some none = some by where
    by : (found : Result A Exit) → c.Finds request files found → ⊥
    by (Ok a) h = none (Ok (inl a)) h
    by (Err exit) h = none (Err exit) (inl h)

  second_finds : (request : Request) (files : Fetches) → NotNone (d.Finds request files)
      → NotNone (sum.Finds request files)
  second_finds request files some none = some by where
    by : (found : Result B Exit) → d.Finds request files found → ⊥
    by (Ok b) h = none (Ok (inr b)) h
    by (Err exit) h = none (Err exit) (inr h)

  module _ (Of On : Request → Type 0) (first : AreTotal c Of) (second : AreTotal d On) (disjoint : AreDisjoint c d) where
    sum_finds_some : (request : Request) → Of request ⊎ On request → (files : List ℕ → Option (List ℕ))
        → NotNone (sum.Finds request (λ turn name. found_of (files name)))
    sum_finds_some request (inl of) files = first_finds request _ (first.finds_some request of files)
    sum_finds_some request (inr on) files = second_finds request _ (second.finds_some request on files)

    -- If a set finds a task at a request of the other set, then the other set ignores the request.
    first_at : (request : Request) → Of request ⊎ On request → (files : List ℕ → Option (List ℕ)) (a : A)
        → c.Finds request (λ turn name. found_of (files name)) (Ok a) → AreTotalAt c a
    first_at request (inl of) files a h = first.at request of files a h
    first_at request (inr on) files a h = by (disjoint request) where
      by : IsIdleAt c request ⊎ IsIdleAt d request → AreTotalAt c a
      by (inl idle) = absurd (idle.unfound _ (Ok a) h)
      by (inr idle) = absurd (second.finds_some request on files (idle.unfound _))

    second_at : (request : Request) → Of request ⊎ On request → (files : List ℕ → Option (List ℕ)) (b : B)
        → d.Finds request (λ turn name. found_of (files name)) (Ok b) → AreTotalAt d b
    second_at request (inl of) files b h = by (disjoint request) where
      by : IsIdleAt c request ⊎ IsIdleAt d request → AreTotalAt d b
      by (inl idle) = absurd (first.finds_some request of files (idle.unfound _))
      by (inr idle) = absurd (idle.unfound _ (Ok b) h)
    second_at request (inr on) files b h = second.at request on files b h

    sum_total_at : (request : Request) → Of request ⊎ On request → (files : List ℕ → Option (List ℕ)) (x : A ⊎ B)
        → sum.Finds request (λ turn name. found_of (files name)) (Ok x) → AreTotalAt sum x
    sum_total_at request of files (inl a) h =
        total_too c sum a (inl a) (first_agrees a) (first_at request of files a h)
    sum_total_at request of files (inr b) h =
        total_too d sum b (inr b) (second_agrees b) (second_at request of files b h)

    pub sum_total : AreTotal sum (λ request. Of request ⊎ On request)
    sum_total = record { finds_some = sum_finds_some; at = sum_total_at }
