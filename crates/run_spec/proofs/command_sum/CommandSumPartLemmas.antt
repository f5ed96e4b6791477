-- If the arguments request nothing of one set, then the remaining set agrees with the sum.
use Rattle.std.proofs.Common.{◌⊎◌, ℕ, List, Result, Ok, Err, inl, inr}
use Rattle.cli_spec.specs.Outcome.{Request, Asks}
use Rattle.cli_spec.specs.declared.exit.Exit.{Exit}
use Rattle.run_spec.specs.runs.Call.{Call}
use Rattle.run_spec.specs.runs.Commands.{Fetches, Commands}
use Rattle.run_spec.specs.runs.Account.{Account}
use Rattle.run_spec.specs.runs.RunSpec.{RunSpec}
use Rattle.run_spec.specs.command_sum.CommandSum.{Wants, Finds, command_sum, IsIdleAt, AreDisjoint, AskNothingOf}
use Rattle.run_spec.proofs.command_sum.CommandSumAgreeLemmas.{Agrees, Agree, agree_back, account_too, run_spec_too}

module _ {A B : Type 0} (c : Commands A) (d : Commands B) where
  pub idle_together : (request : Request) → IsIdleAt c request → IsIdleAt d request
      → IsIdleAt (command_sum c d) request
  idle_together request of_c of_d = record {
    unwanted = λ files turn name w. wanted files turn name w;
    unfound = λ files result h. found files result h;
  } where
    wanted : (files : Fetches) (turn : ℕ) (name : List ℕ) → Wants c d request files turn name → ⊥
    wanted files turn name (inl w) = of_c.unwanted files turn name w
    wanted files turn name (inr w) = of_d.unwanted files turn name w

    found : (files : Fetches) (result : Result (A ⊎ B) Exit) → Finds c d request files result → ⊥
    found files (Ok (inl a)) h = of_c.unfound files (Ok a) h
    found files (Ok (inr b)) h = of_d.unfound files (Ok b) h
    found files (Err exit) (inl h) = of_c.unfound files (Err exit) h
    found files (Err exit) (inr h) = of_d.unfound files (Err exit) h

  pub disjoint_together : {E : Type 0} (e : Commands E) → AreDisjoint c e → AreDisjoint d e
      → AreDisjoint (command_sum c d) e
  disjoint_together e of_c of_d request = from (of_c request) (of_d request) where
    from : IsIdleAt c request ⊎ IsIdleAt e request → IsIdleAt d request ⊎ IsIdleAt e request
        → IsIdleAt (command_sum c d) request ⊎ IsIdleAt e request
    from (inr idle) other = inr idle
    from (inl idle) (inr other) = inr other
    from (inl idle) (inl other) = inl (idle_together request idle other)

  -- A task of the first set agrees with its image in the sum.
  first_same : (a : A) → Agrees c (command_sum c d) a (inl a)
  first_same a = record {
    reads = (λ h. h, λ h. h);
    first = λ items bytes item more. (λ h. h, λ h. h);
    outputs = λ items item output. (λ h. h, λ h. h);
    exits = λ items bytes exit. (λ h. h, λ h. h);
    ends = λ items bytes last. (λ h. h, λ h. h);
  }

  second_same : (b : B) → Agrees d (command_sum c d) b (inr b)
  second_same b = record {
    reads = (λ h. h, λ h. h);
    first = λ items bytes item more. (λ h. h, λ h. h);
    outputs = λ items item output. (λ h. h, λ h. h);
    exits = λ items bytes exit. (λ h. h, λ h. h);
    ends = λ items bytes last. (λ h. h, λ h. h);
  }

  module _ (arguments : List (List ℕ)) where
    first_agree : AskNothingOf d arguments → Agree c (command_sum c d) (Asks arguments)
    first_agree idle = record {
      wants = λ request asks files turn name. (λ w. inl w, wanted request asks files turn name);
      finds = λ request asks files a h. (inl a, first_same a, h);
      finds_back = λ request asks files x h. found request asks files x h;
      exits = λ request asks files exit. (λ h. inl h, stopped request asks files exit);
    } where
      wanted : (request : Request) → Asks arguments request
          → (files : Fetches) (turn : ℕ) (name : List ℕ) → Wants c d request files turn name
          → c.Wants request files turn name
      wanted request asks files turn name (inl w) = w
      wanted request asks files turn name (inr w) =
          absurd ((idle request asks).unwanted files turn name w)

      found : (request : Request) → Asks arguments request → (files : Fetches) (x : A ⊎ B)
          → Finds c d request files (Ok x)
          → (a : A) × Agrees c (command_sum c d) a x × c.Finds request files (Ok a)
      found request asks files (inl a) h = (a, first_same a, h)
      found request asks files (inr b) h = absurd ((idle request asks).unfound files (Ok b) h)

      stopped : (request : Request) → Asks arguments request → (files : Fetches) (exit : Exit)
          → Finds c d request files (Err exit) → c.Finds request files (Err exit)
      stopped request asks files exit (inl h) = h
      stopped request asks files exit (inr h) =
          absurd ((idle request asks).unfound files (Err exit) h)

    second_agree : AskNothingOf c arguments → Agree d (command_sum c d) (Asks arguments)
    second_agree idle = record {
      wants = λ request asks files turn name. (λ w. inr w, wanted request asks files turn name);
      finds = λ request asks files b h. (inr b, second_same b, h);
      finds_back = λ request asks files x h. found request asks files x h;
      exits = λ request asks files exit. (λ h. inr h, stopped request asks files exit);
    } where
      wanted : (request : Request) → Asks arguments request
          → (files : Fetches) (turn : ℕ) (name : List ℕ) → Wants c d request files turn name
          → d.Wants request files turn name
      wanted request asks files turn name (inl w) =
          absurd ((idle request asks).unwanted files turn name w)
      wanted request asks files turn name (inr w) = w

      found : (request : Request) → Asks arguments request → (files : Fetches) (x : A ⊎ B)
          → Finds c d request files (Ok x)
          → (b : B) × Agrees d (command_sum c d) b x × d.Finds request files (Ok b)
      found request asks files (inl a) h = absurd ((idle request asks).unfound files (Ok a) h)
      found request asks files (inr b) h = (b, second_same b, h)

      stopped : (request : Request) → Asks arguments request → (files : Fetches) (exit : Exit)
          → Finds c d request files (Err exit) → d.Finds request files (Err exit)
      stopped request asks files exit (inl h) =
          absurd ((idle request asks).unfound files (Err exit) h)
      stopped request asks files exit (inr h) = h

    module _ (call : Call) where
      pub accounts_of_first : AskNothingOf d arguments → Account c arguments call
          → Account (command_sum c d) arguments call
      accounts_of_first idle h = account_too c (command_sum c d) arguments (first_agree idle) call h

      pub run_spec_as_first : AskNothingOf d arguments → RunSpec (command_sum c d) arguments call
          → RunSpec c arguments call
      run_spec_as_first idle h =
          let back = agree_back c (command_sum c d) (Asks arguments) (first_agree idle) in
          run_spec_too (command_sum c d) c arguments back call h

      pub accounts_of_second : AskNothingOf c arguments → Account d arguments call
          → Account (command_sum c d) arguments call
      accounts_of_second idle h = account_too d (command_sum c d) arguments (second_agree idle) call h

      pub run_spec_as_second : AskNothingOf c arguments → RunSpec (command_sum c d) arguments call
          → RunSpec d arguments call
      run_spec_as_second idle h =
          let back = agree_back d (command_sum c d) (Asks arguments) (second_agree idle) in
          run_spec_too (command_sum c d) d arguments back call h
