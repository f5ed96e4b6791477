-- Total commands. If the run does not end at an item, then the item has an output. Each input has a
-- final reply. Each existence is stated as a double negation: it is not so that there is none. With
-- the double negation, no property needs to be decided.
use Rattle.std.specs.Prelude.{ℕ, List, [], Option, Ok}
use Rattle.base_data.specs.model.Bytes.{AreBytes}
use Rattle.cli_spec.specs.Outcome.{Output, Request, Asks, found_of, whole}
use Rattle.cli_spec.specs.declared.exit.Exit.{Exit}
use Rattle.run_spec.specs.runs.Commands.{Item, Commands, AllPrint, GoesOn, Answers, Outcome}
use Rattle.run_spec.specs.runs.Lawful.{IsOnce}

-- It is not so that no element satisfies `P`.
abbrev pub NotNone : {X : Type 0} → (X → Type 0) → Type 0
NotNone {X} P = ((x : X) → P x → ⊥) → ⊥

module _ {A : Type 0} (c : Commands A) where
  -- The premise of each field: the items so far have outputs.
  pub record AreTotalAt (a : A) : Type 0 where
    -- If the run does not end at the next item, then the item has an output.
    pub outputs_some : (items : List Item) (output : List Output) → AllPrint c a [] items output
        → (bytes : List ℕ) → AreBytes bytes
        → (item : Item) (more : List ℕ) → c.IsFirst a items bytes item more
        → ((exit : Exit) → c.Exits a items bytes exit → ⊥)
        → NotNone (c.Outputs a items item)
    -- If the task reads the input, and the run continues at the end of the input, then there is a
    -- final reply.
    pub ends_some : c.Reads a → (items : List Item) (output : List Output)
        → AllPrint c a [] items output
        → (bytes : List ℕ) → AreBytes bytes → GoesOn c a items bytes
        → NotNone (c.Ends a items bytes)
    -- A task that reads no input has a final reply.
    pub alone_some : (c.Reads a → ⊥) → NotNone (c.Ends a [] [])

  -- The commands are total at the requests that satisfy `Of`.
  pub record AreTotal (Of : Request → Type 0) : Type 0 where
    -- If the files are given as a map, then a request leads to a task or to an exit reason.
    pub finds_some : (request : Request) → Of request → (files : List ℕ → Option (List ℕ))
        → NotNone (c.Finds request (λ turn name. found_of (files name)))
    -- The task of a request is total.
    pub at : (request : Request) → Of request → (files : List ℕ → Option (List ℕ)) (a : A)
        → c.Finds request (λ turn name. found_of (files name)) (Ok a) → AreTotalAt a

  -- The task has an answer to each input.
  abbrev pub HasAnswer : A → Type 0
  HasAnswer a = (input : List ℕ) → AreBytes input → NotNone (Answers c a (whole input))

  -- If each request of the arguments satisfies `Of`, then the arguments, files and an input have an
  -- outcome. Arguments that are no request have an outcome, too.
  abbrev pub HaveAnOutcome : (Request → Type 0) → Type 0
  HaveAnOutcome Of = (arguments : List (List ℕ))
      → ((request : Request) → Asks arguments request → Of request)
      → (files : List ℕ → Option (List ℕ)) (input : List ℕ) → AreBytes input
      → NotNone (Outcome c arguments files input)

  -- If each request of the arguments satisfies `Of`, then the arguments, files and an input have
  -- exactly one outcome.
  pub record HaveExactlyOneOutcome (Of : Request → Type 0) : Type 0 where
    pub some : HaveAnOutcome Of
    pub once : (arguments : List (List ℕ)) (files : List ℕ → Option (List ℕ)) (input : List ℕ)
        → AreBytes input → IsOnce (Outcome c arguments files input)
