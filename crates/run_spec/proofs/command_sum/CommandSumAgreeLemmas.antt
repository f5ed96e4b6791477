-- If two command sets agree on the requests that the arguments make, then the specification of a
-- run by one set implies the specification by the second.
use Rattle.std.proofs.Common.{◌≡◌, ◌⊎◌, ◌++◌, ◌∷◌, ℕ, suc, List, [], Ok, Err, inl, inr, ap}
use Rattle.std.specs.Prelude.{◌↔◌}
use Rattle.base_io.specs.History.{bytes_of}
use Rattle.base_io.specs.StreamState.{FilesState, Change, change}
use Rattle.cli_spec.specs.Outcome.{ReadingEnd, at_end, at_fault, at_length, unasked, Taken, whole, Request, Asks, Output, Reply, outputs, exits, Replies, replies}
use Rattle.cli_spec.specs.declared.exit.Exit.{Exit}
use Rattle.cli_spec.specs.declared.exit.Exit.TheVariants.{Finished as finished, Memory as out_of_memory}
use Rattle.run_spec.specs.runs.Account.{IsWanted, FetchesIn, FetchesFor, MayBe, HaveNoExit, IsFinishedBehind, IsPaced, IsOutputFirst, OutputsOfFirst, Completes, Breaks, Account}
use Rattle.run_spec.specs.runs.Answered.{IsAnswered}
use Rattle.run_spec.specs.runs.Call.{Call}
use Rattle.run_spec.specs.runs.Commands.{Item, Fetches, Given, Commands, Prepares, Split, AllPrint, OutputsFirst, GoesOn, Closes, IsLast, Answers, RunReplies}
use Rattle.run_spec.specs.runs.RunSpec.{RunSpec}

-- The tasks `a` and `b` have equal outputs for each input.
pub record Agrees {A B : Type 0} (c : Commands A) (d : Commands B) (a : A) (b : B) : Type 0 where
  pub reads : c.Reads a ↔ d.Reads b
  pub first : (items : List Item) (bytes : List ℕ) (item : Item) (more : List ℕ)
      → c.IsFirst a items bytes item more ↔ d.IsFirst b items bytes item more
  pub outputs : (items : List Item) (item : Item) (output : Output)
      → c.Outputs a items item output ↔ d.Outputs b items item output
  pub exits : (items : List Item) (bytes : List ℕ) (exit : Exit)
      → c.Exits a items bytes exit ↔ d.Exits b items bytes exit
  pub ends : (items : List Item) (bytes : List ℕ) (last : Reply)
      → c.Ends a items bytes last ↔ d.Ends b items bytes last

-- For each asked request, the sets `c` and `d` request equal files and find tasks that agree.
pub record Agree {A B : Type 0} (c : Commands A) (d : Commands B) (Asked : Request → Type 0)
    : Type 0 where
  pub wants : (request : Request) → Asked request → (files : Fetches) (turn : ℕ) (name : List ℕ)
      → c.Wants request files turn name ↔ d.Wants request files turn name
  pub finds : (request : Request) → Asked request → (files : Fetches) (a : A)
      → c.Finds request files (Ok a) → (b : B) × Agrees c d a b × d.Finds request files (Ok b)
  pub finds_back : (request : Request) → Asked request → (files : Fetches) (b : B)
      → d.Finds request files (Ok b) → (a : A) × Agrees c d a b × c.Finds request files (Ok a)
  pub exits : (request : Request) → Asked request → (files : Fetches) (exit : Exit)
      → c.Finds request files (Err exit) ↔ d.Finds request files (Err exit)

other_way : {P Q : Type 0} → P ↔ Q → Q ↔ P
other_way same = (same.1, same.0)

pub agrees_back : {A B : Type 0} (c : Commands A) (d : Commands B) (a : A) (b : B) → Agrees c d a b
    → Agrees d c b a
agrees_back c d a b same = record {
  reads = other_way same.reads;
  first = λ items bytes item more. other_way (same.first items bytes item more);
  outputs = λ items item output. other_way (same.outputs items item output);
  exits = λ items bytes exit. other_way (same.exits items bytes exit);
  ends = λ items bytes last. other_way (same.ends items bytes last);
}

pub agree_back : {A B : Type 0} (c : Commands A) (d : Commands B) (Asked : Request → Type 0)
    → Agree c d Asked → Agree d c Asked
agree_back c d Asked same = record {
  wants = λ request asked files turn name. other_way (same.wants request asked files turn name);
  finds =
      λ request asked files b found.
      let f = same.finds_back request asked files b found in
      (f.0, agrees_back c d f.0 b f.1, f.2);
  finds_back =
      λ request asked files a found.
      let f = same.finds request asked files a found in
      (f.0, agrees_back c d a f.0 f.1, f.2);
  exits = λ request asked files exit. other_way (same.exits request asked files exit);
}

module _ {A B : Type 0} (c : Commands A) (d : Commands B) where
  -- ---- the input

  module _ (a : A) (b : B) (same : Agrees c d a b) where
    split_too : (before : List Item) (bytes : List ℕ) (items : List Item) (rest : List ℕ)
        → Split c a before bytes items rest → Split d b before bytes items rest
    split_too before bytes [] rest h = h
    split_too before bytes (item ∷ items) rest (more, is, h) = (
      more,
      (same.first before bytes item more).0 is,
      split_too (before ++ item ∷ []) more items rest h,
    )

    all_print_too : (before items : List Item) (output : List Output) → AllPrint c a before items output
        → AllPrint d b before items output
    all_print_too before [] [] h = h
    all_print_too before [] (s ∷ output) h = h
    all_print_too before (item ∷ items) [] h = h
    all_print_too before (item ∷ items) (s ∷ output) (is, h) =
        ((same.outputs before item s).0 is, all_print_too (before ++ item ∷ []) items output h)

    pub outputs_first_too : (bytes : List ℕ) (items : List Item) (output : List Output) (rest : List ℕ)
        → OutputsFirst c a bytes items output rest → OutputsFirst d b bytes items output rest
    outputs_first_too bytes items output rest h =
        record {
          split = split_too [] bytes items rest h.split;
          all_print = all_print_too [] items output h.all_print;
        }

    pub goes_on_too : (items : List Item) (rest : List ℕ) → GoesOn c a items rest
        → GoesOn d b items rest
    goes_on_too items rest h = record {
      no_exit = λ exit at. h.no_exit exit ((same.exits items rest exit).1 at);
      no_item = λ item more is. h.no_item item more ((same.first items rest item more).1 is);
    }

    hold_too : (bytes : List ℕ) (output : List Output) → HaveNoExit c a bytes output
        → HaveNoExit d b bytes output
    hold_too bytes output h = record {
      items = h.items;
      rest = h.rest;
      first = outputs_first_too bytes h.items output h.rest h.first;
      goes_on = goes_on_too h.items h.rest h.goes_on;
    }

    behind_too : (taken : Taken) (before output : List Output) → IsFinishedBehind c a taken before output
        → IsFinishedBehind d b taken before output
    behind_too taken before output h = record {
      next = h.next;
      output_are = h.output_are;
      items = h.items;
      rest = h.rest;
      first = outputs_first_too taken.bytes h.items output h.rest h.first;
      ok = h.ok;
      at = (same.exits h.items h.rest (finished h.ok)).0 h.at;
      no_more = h.no_more;
    }

    output_too : (taken : Taken) (before output : List Output)
        → (output ≡ before) ⊎ IsFinishedBehind c a taken before output
        → (output ≡ before) ⊎ IsFinishedBehind d b taken before output
    output_too taken before output (inl is) = inl is
    output_too taken before output (inr h) = inr (behind_too taken before output h)

    paced_too : (taken : Taken) (output : List Output) → IsPaced c a taken output → IsPaced d b taken output
    paced_too taken output h = record {
      earlier = h.earlier;
      buffered = h.buffered;
      bytes_are = h.bytes_are;
      before = h.before;
      holds = hold_too h.earlier h.before h.holds;
      output_are = output_too taken h.before output h.output_are;
      chunk = h.chunk;
      asked = h.asked;
    }

    closes_too : (items : List Item) (rest : List ℕ) (until : ReadingEnd) (last : Reply)
        → Closes c a items rest until last → Closes d b items rest until last
    closes_too items rest at_end last h = (same.ends items rest last).0 h
    closes_too items rest at_fault last h = h
    closes_too items rest at_length last h = h
    closes_too items rest unasked last h = h

    last_too : (items : List Item) (rest : List ℕ) (until : ReadingEnd) (last : Reply)
        → IsLast c a items rest until last → IsLast d b items rest until last
    last_too items rest until last (inl (exit, at, none, is)) =
        inl (exit, (same.exits items rest exit).0 at, none, is)
    last_too items rest until last (inr (on, closes)) =
        inr (goes_on_too items rest on, closes_too items rest until last closes)

    answers_too : (input : Taken) (all : Replies) → Answers c a input all → Answers d b input all
    answers_too input all (inl (reads, h)) = inl (
      same.reads.0 reads,
      record {
        items = h.items;
        rest = h.rest;
        first = outputs_first_too input.bytes h.items all.output h.rest h.first;
        last = last_too h.items h.rest input.until all.last h.last;
      },
    )
    answers_too input all (inr h) = inr (record {
      unread = λ reads. h.unread (same.reads.1 reads);
      none = h.none;
      last = (same.ends [] [] all.last).0 h.last;
    })

  -- ---- the arguments and the files

  -- If two command sets request equal files, then a run fetches equal files for both.
  module _ (arguments : List (List ℕ))
      (wants : (request : Request) → Asks arguments request
      → (files : Fetches) (turn : ℕ) (name : List ℕ)
      → c.Wants request files turn name ↔ d.Wants request files turn name) where
    wanted_too : (found : Fetches) (turn : ℕ) (name : List ℕ) → IsWanted c arguments found turn name
        → IsWanted d arguments found turn name
    wanted_too found turn name w =
        record {
          request = w.request;
          asks = w.asks;
          wants = (wants w.request w.asks found turn name).0 w.wants;
        }

    wanted_back : (found : Fetches) (turn : ℕ) (name : List ℕ) → IsWanted d arguments found turn name
        → IsWanted c arguments found turn name
    wanted_back found turn name w =
        record {
          request = w.request;
          asks = w.asks;
          wants = (wants w.request w.asks found turn name).1 w.wants;
        }

    in_too : (files : Change FilesState) (found : Fetches) (turn : ℕ)
        → FetchesIn c arguments files found turn → FetchesIn d arguments files found turn
    in_too files found turn (inl (name, wanted, fetched)) =
        inl (name, wanted_too found turn name wanted, fetched)
    in_too files found turn (inr (same, none)) =
        inr (same, λ name w. none name (wanted_back found turn name w))

    pub wanted_fetches : (files : Change FilesState) (found : Fetches)
        → FetchesFor c arguments files found → FetchesFor d arguments files found
    wanted_fetches files found h = record {
      turns = h.turns;
      state = h.state;
      begins = h.begins;
      ends = h.ends;
      each =
          λ turn less.
          in_too (change (h.state turn) (h.state (suc turn))) found turn (h.each turn less);
      all = λ turn name w. h.all turn name (wanted_back found turn name w);
    }

  module _ (arguments : List (List ℕ)) (agreement : Agree c d (Asks arguments)) where
    -- The set `d` finds a task that agrees with the task of `c`.
    abbrev HasPartner : Fetches → A → Type 0
    HasPartner files a = (b : B) × Agrees c d a b × Prepares d arguments files (Ok b)

    prepares_too : (files : Fetches) (a : A) → Prepares c arguments files (Ok a) → HasPartner files a
    prepares_too files a (Err s, h, is) = absurd (cc is)
    prepares_too files a (Ok request, asks, h) =
        let f = agreement.finds request asks files a h in (f.0, f.1, (Ok request, asks, f.2))

    prepares_exit : (files : Fetches) (s : Exit) → Prepares c arguments files (Err s)
        → Prepares d arguments files (Err s)
    prepares_exit files s (Err t, h, is) =
        (Err t, h, let same : s ≡ t = cc is in ap (λ s. Err s) same)
    prepares_exit files s (Ok request, asks, h) =
        (Ok request, asks, (agreement.exits request asks files s).0 h)

    -- ---- the run

    module _ (call : Call) where
      may_be_too : (given : Given) → MayBe c arguments call given → MayBe d arguments call given
      may_be_too given h = record {
        input = h.input;
        files = wanted_fetches arguments agreement.wants call.files given.files h.files;
        untaken =
            λ none. h.untaken (λ a prepared reads.
            let p = prepares_too given.files a prepared in none p.0 p.2 (p.1.reads.0 reads));
      }

      output_first_too : (given : Given) (output : List Output) → IsOutputFirst c arguments given output
          → IsOutputFirst d arguments given output
      output_first_too given output (inl none) = inl none
      output_first_too given output (inr (a, prepared, reads, paced)) =
          let p = prepares_too given.files a prepared in
          inr (p.0, p.2, p.1.reads.0 reads, paced_too a p.0 p.1 given.input output paced)

      replies_too : (given : Given) (all : Replies) → RunReplies c arguments given all
          → RunReplies d arguments given all
      replies_too given all (Ok a, prepared, h) =
          let p = prepares_too given.files a prepared in
          (Ok p.0, p.2, answers_too a p.0 p.1 given.input all h)
      replies_too given all (Err s, prepared, h) = (Err s, prepares_exit given.files s prepared, h)

      outputs_of_first_too : (given : Given) (output : List Output) → OutputsOfFirst c arguments given output
          → OutputsOfFirst d arguments given output
      outputs_of_first_too given output (a, prepared, reads, items, rest, h) =
          let p = prepares_too given.files a prepared in
          let first = outputs_first_too a p.0 p.1 given.input.bytes items output rest h in
          (p.0, p.2, p.1.reads.0 reads, items, rest, first)

      pub account_too : Account c arguments call → Account d arguments call
      account_too h = record {
        given = h.given;
        may_be = may_be_too h.given h.may_be;
        output = h.output;
        first = output_first_too h.given h.output h.first;
        ends = from h.ends;
      } where
        from : Completes c arguments h.given h.output call ⊎ Breaks c arguments h.given h.output call
            → Completes d arguments h.given h.output call ⊎ Breaks d arguments h.given h.output call
        from (inl e) =
            inl (record {
              last = e.last;
              may_end = end e.may_end;
              out = e.out;
              line = e.line;
            }) where
              end : RunReplies c arguments h.given (replies h.output e.last) ⊎ (e.last ≡ exits out_of_memory)
                  → RunReplies d arguments h.given (replies h.output e.last) ⊎ (e.last ≡ exits out_of_memory)
              end (inl r) = inl (replies_too h.given (replies h.output e.last) r)
              end (inr m) = inr m
        from (inr b) =
            inr (record {
              next = b.next;
              is_next = next b.is_next;
              out = b.out;
              err = b.err;
              status = b.status;
            }) where
              next :
                  OutputsOfFirst c arguments h.given (h.output ++ b.next ∷ [])
                  ⊎ RunReplies c arguments h.given (replies h.output (outputs b.next))
                  → OutputsOfFirst d arguments h.given (h.output ++ b.next ∷ [])
                  ⊎ RunReplies d arguments h.given (replies h.output (outputs b.next))
              next (inl s) = inl (outputs_of_first_too h.given (h.output ++ b.next ∷ []) s)
              next (inr r) = inr (replies_too h.given (replies h.output (outputs b.next)) r)

module _ {A B : Type 0} (c : Commands A) (d : Commands B) (arguments : List (List ℕ))
    (agreement : Agree c d (Asks arguments)) (call : Call) where
  -- If `c` has only one answer to what was provided, then `d` has only this answer.
  answered_too : (given : Given) → IsAnswered c arguments call given → IsAnswered d arguments call given
  answered_too given a = record {
    all = a.all;
    outcome = replies_too c d arguments agreement call given a.all a.outcome;
    only =
        λ other is.
        let back = agree_back c d (Asks arguments) agreement in
        a.only other (replies_too d c arguments back call given other is);
    out = a.out;
    err = a.err;
    status = a.status;
  }

  pub run_spec_too : RunSpec c arguments call → RunSpec d arguments call
  run_spec_too p = record {
    account = account_too c d arguments agreement call p.account;
    answered =
        λ unbroken.
        let g = p.answered unbroken in
        (g.0, may_be_too c d arguments agreement call g.0 g.1, answered_too g.0 g.2);
    whole =
        λ unbroken new are ended.
        let g = p.whole unbroken new are ended in
        let given : Given = record { files = g.0; input = whole (bytes_of new) } in
        (g.0, may_be_too c d arguments agreement call given g.1, answered_too given g.2);
    faults = p.faults;
  }
