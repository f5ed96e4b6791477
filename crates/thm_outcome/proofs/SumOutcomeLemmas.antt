-- If a set of commands has an outcome, then the sum of the set and another set has the outcome.
use Rattle.std.proofs.Common.{◌≡◌, ◌⊎◌, ℕ, List, [], Result, Ok, Err, inl, inr, ap}
use Rattle.cli_spec.specs.Outcome.{at_end, Request, Reply, exits, Replies, whole}
use Rattle.cli_spec.specs.declared.exit.Exit.{Exit}
use Rattle.run_spec.specs.runs.Commands.{Item, Commands, IsLast, Answers, Outcome}
use Rattle.run_spec.specs.command_sum.CommandSum.{command_sum}
use Rattle.run_spec.proofs.command_sum.CommandSumAgreeLemmas.{Agrees, outputs_first_too, goes_on_too}
use Rattle.thm_outcome.specs.Total.{HaveAnOutcome}
use Rattle.thm_outcome.proofs.TotalSumLemmas.{first_agrees, second_agrees}

module _ {A B : Type 0} (c : Commands A) (d : Commands B) (a : A) (b : B) (same : Agrees c d a b) where
  last_of_whole : (items : List Item) (rest : List ℕ) (last : Reply) → IsLast c a items rest at_end last → IsLast d b items rest at_end last
  last_of_whole items rest last (inl (exit, at, none, is)) = inl (exit, (same.exits items rest exit).0 at, none, is)
  last_of_whole items rest last (inr (on, ends)) =
      inr (goes_on_too c d a b same items rest on, (same.ends items rest last).0 ends)

  -- Tasks that agree have equal answers to a whole input.
  answers_of_whole : (input : List ℕ) (all : Replies) → Answers c a (whole input) all → Answers d b (whole input) all
  answers_of_whole input all (inl (reads, h)) = inl (
    same.reads.0 reads,
    record {
      items = h.items;
      rest = h.rest;
      first = outputs_first_too c d a b same input h.items all.output h.rest h.first;
      last = last_of_whole h.items h.rest all.last h.last;
    },
  )
  answers_of_whole input all (inr h) = inr (record {
    unread = λ reads. h.unread (same.reads.1 reads);
    none = h.none;
    last = (same.ends [] [] all.last).0 h.last;
  })

module _ {A B : Type 0} (c : Commands A) (d : Commands B) where
  abbrev found_exit : Exit → Result (A ⊎ B) Exit
  found_exit exit = Err exit

  pub first_outcomes : (Of : Request → Type 0) → HaveAnOutcome c Of → HaveAnOutcome (command_sum c d) Of
  first_outcomes Of some arguments only files input are_bytes none = some arguments only files input are_bytes by where
    by : (all : Replies) → Outcome c arguments files input all → ⊥
    by all (Ok a, (Ok request, asks, finds), answers) =
        none all (
          Ok (inl a),
          (Ok request, asks, finds),
          answers_of_whole c (command_sum c d) a (inl a) (first_agrees c d a) input all answers,
        )
    by all (Ok a, (Err exit, usage, same), answers) = absurd (cc same)
    by all (Err exit, (Ok request, asks, finds), is) = none all (Err exit, (Ok request, asks, inl finds), is)
    by all (Err exit, (Err other, usage, same), is) =
        let one : exit ≡ other = cc same in
        none all (Err exit, (Err other, usage, ap found_exit one), is)

  pub second_outcomes : (Of : Request → Type 0) → HaveAnOutcome d Of → HaveAnOutcome (command_sum c d) Of
  second_outcomes Of some arguments only files input are_bytes none = some arguments only files input are_bytes by where
    by : (all : Replies) → Outcome d arguments files input all → ⊥
    by all (Ok b, (Ok request, asks, finds), answers) =
        none all (
          Ok (inr b),
          (Ok request, asks, finds),
          answers_of_whole d (command_sum c d) b (inr b) (second_agrees c d b) input all answers,
        )
    by all (Ok b, (Err exit, usage, same), answers) = absurd (cc same)
    by all (Err exit, (Ok request, asks, finds), is) = none all (Err exit, (Ok request, asks, inr finds), is)
    by all (Err exit, (Err other, usage, same), is) =
        let one : exit ≡ other = cc same in
        none all (Err exit, (Err other, usage, ap found_exit one), is)
