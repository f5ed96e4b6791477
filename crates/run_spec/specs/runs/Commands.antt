-- A command in the general form: the files that the command requests, its task, and its output for
-- each item of the input. An output (`Output`) is a text with a flag that is true if the text
-- reports no error. An exit reason (`Exit`) is why a run ends. A final reply is an output or an
-- exit reason.
use Rattle.std.specs.Prelude.{ℕ, ◌≡◌, ◌⊎◌, List, [], ◌∷◌, ◌++◌, Option, None, Result, MatchResult}
use Rattle.marshal_spec.specs.format.Tree.{Tree}
use Rattle.cli_spec.specs.Outcome.{ReadingEnd, at_end, at_fault, at_length, unasked, Taken, whole}
use Rattle.cli_spec.specs.Outcome.{Found, found_of, Request, fault_of, Output, Reply, exits}
use Rattle.cli_spec.specs.Outcome.{Replies, stopped, Then, ReadsArguments}
use Rattle.cli_spec.specs.declared.exit.Exit.{Exit}
use Rattle.cli_spec.specs.declared.exit.Exit.TheVariants.{ReadFault as read_fault}
use Rattle.cli_spec.specs.declared.exit.Exit.TheVariants.{TooLong as too_long}

-- An item of the input: a value or a text.
pub data Item : Type 0 where
  value : Tree → Item
  text : List ℕ → Item

-- The result of fetching a name in a turn, for each turn and name.
abbrev pub Fetches : Type 0
Fetches = ℕ → List ℕ → Found

-- What the environment provides to a run: the results of fetching files, and the input.
pub record Given : Type 0 where
  pub files : Fetches
  pub input : Taken

pub record Commands (A : Type 0) : Type 1 where
  -- The name of the file to fetch in a turn, given the results of earlier turns.
  pub Wants : Request → Fetches → ℕ → List ℕ → Type 0
  -- The task that a request and its files determine, or an exit reason before the input is read.
  pub Finds : Request → Fetches → Result A Exit → Type 0
  -- The task reads the input.
  pub Reads : A → Type 0
  -- After the given items, the bytes are one item followed by the remaining bytes.
  pub IsFirst : A → List Item → List ℕ → Item → List ℕ → Type 0
  -- After the given items, the next item has the given output.
  pub Outputs : A → List Item → Item → Output → Type 0
  -- After the given items, the run ends at the given bytes, whatever bytes follow.
  pub Exits : A → List Item → List ℕ → Exit → Type 0
  -- After the given items, the input ends with the given bytes and leads to the given final reply.
  pub Ends : A → List Item → List ℕ → Reply → Type 0

module _ {A : Type 0} (c : Commands A) where
  -- The arguments are parsed as a request, for which the task is found.
  abbrev pub Prepares : List (List ℕ) → Fetches → Result A Exit → Type 0
  Prepares arguments files = Then (ReadsArguments arguments) (λ request. c.Finds request files)

  module _ (a : A) where
    -- After the items `before`, the bytes are the given items followed by `rest`.
    abbrev pub Split : List Item → List ℕ → List Item → List ℕ → Type 0
    Split before bytes [] rest = bytes ≡ rest
    Split before bytes (item ∷ items) rest =
        (more : List ℕ) × c.IsFirst a before bytes item more
        × Split (before ++ item ∷ []) more items rest

    -- After the items `before`, the next items have the given outputs.
    abbrev pub AllPrint : List Item → List Item → List Output → Type 0
    AllPrint before [] [] = Unit {0}
    AllPrint before [] (output ∷ more) = ⊥
    AllPrint before (item ∷ items) [] = ⊥
    AllPrint before (item ∷ items) (output ∷ more) =
        c.Outputs a before item output × AllPrint (before ++ item ∷ []) items more

    -- The bytes are the items `items` followed by `rest`, and `output` is the list of the items'
    -- outputs.
    pub record OutputsFirst (bytes : List ℕ) (items : List Item) (output : List Output)
        (rest : List ℕ)
        : Type 0 where
      pub split : Split [] bytes items rest
      pub all_print : AllPrint [] items output

    -- The run continues, because the bytes are no complete item and the run does not end at the
    -- bytes.
    pub record GoesOn (items : List Item) (bytes : List ℕ) : Type 0 where
      pub no_exit : (exit : Exit) → c.Exits a items bytes exit → ⊥
      pub no_item : (item : Item) (more : List ℕ) → c.IsFirst a items bytes item more → ⊥

    -- The bytes contain an exit reason: after some items with an output, the run ends with the exit
    -- reason.
    pub record HaveExit (bytes : List ℕ) (exit : Exit) : Type 0 where
      pub items : List Item
      pub output : List Output
      pub rest : List ℕ
      pub first : OutputsFirst bytes items output rest
      pub at : c.Exits a items rest exit

    -- The final reply if no more input can be read.
    abbrev pub Closes : List Item → List ℕ → ReadingEnd → Reply → Type 0
    Closes items rest at_end last = c.Ends a items rest last
    Closes items rest at_fault last = last ≡ exits read_fault
    Closes items rest at_length last = last ≡ exits too_long
    Closes items rest unasked last = ⊥

    -- The final reply is an exit reason in an input that did not fail, or follows after all of the
    -- input was requested.
    abbrev pub IsLast : List Item → List ℕ → ReadingEnd → Reply → Type 0
    IsLast items rest until last =
        ((exit : Exit) × c.Exits a items rest exit × (fault_of until ≡ None) × (last ≡ exits exit))
        ⊎ (GoesOn items rest × Closes items rest until last)

    -- The outputs for the items of the input, and the final reply.
    pub record OutputsAll (input : Taken) (all : Replies) : Type 0 where
      pub items : List Item
      pub rest : List ℕ
      pub first : OutputsFirst input.bytes items all.output rest
      pub last : IsLast items rest input.until all.last

    -- The final reply alone, for a task that reads no input.
    pub record OutputsAlone (all : Replies) : Type 0 where
      pub unread : c.Reads a → ⊥
      pub none : all.output ≡ []
      pub last : c.Ends a [] [] all.last

    abbrev pub Answers : Taken → Replies → Type 0
    Answers input all = (c.Reads a × OutputsAll input all) ⊎ OutputsAlone all

  -- The outputs for what the environment provides, if memory suffices and everything is written.
  abbrev pub RunReplies : List (List ℕ) → Given → Replies → Type 0
  RunReplies arguments given all =
      (found : Result A Exit) × Prepares arguments given.files found
      × MatchResult found (λ a. Answers a given.input all) (λ exit. all ≡ stopped exit)

  -- The outcome of the arguments, of files given as a map, and of an input.
  abbrev pub Outcome : List (List ℕ) → (List ℕ → Option (List ℕ)) → List ℕ → Replies → Type 0
  Outcome arguments files bytes =
      RunReplies arguments
      (record { files = λ turn name. found_of (files name); input = whole bytes })
