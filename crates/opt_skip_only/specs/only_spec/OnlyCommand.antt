-- Commands with output for only one item of their input, the selected item. The commands consume
-- the items before the selected item as usual, without output. After the last byte of the selected
-- item, the run is finished, whatever bytes follow, and requests no more input. The arguments
-- determine the selected item, which is why a command set does not need to handle the option.
use Rattle.std.specs.Prelude.{ℕ, ◌<◌, ◌≤◌, ◌≡◌, ◌⊎◌, ◌∷◌, ◌++◌, Bool, List, [], length, Option}
use Rattle.std.specs.Prelude.{Some, None}
use Rattle.cli_spec.specs.Outcome.{Request, Asks, Output, nothing_output, Reply, outputs, exits}
use Rattle.cli_spec.specs.RefusalText.{truncated_text}
use Rattle.cli_spec.specs.declared.exit.Exit.{Exit}
use Rattle.cli_spec.specs.declared.exit.Exit.TheVariants.{Value as value, Finished as finished}
use Rattle.run_spec.specs.runs.Account.{Account}
use Rattle.run_spec.specs.runs.Call.{Call}
use Rattle.run_spec.specs.runs.Commands.{Item, Commands}
use Rattle.run_spec.specs.runs.RunSpec.{RunSpec}
use Rattle.run_spec.specs.command_sum.Beside.{Finds}

-- The final reply if the input ends after `n` items, and the selected item is not among them. If
-- the command would have a final output, the reply is a truncated value of no bytes.
abbrev pub missing : ℕ → Reply → Reply
missing n (outputs output) = exits (value n (truncated_text 0))
missing n (exits exit) = exits exit

module _ {A : Type 0} (c : Commands A) where
  -- Up to the selected item, the items are those of the command. After the selected item, there is
  -- no item.
  abbrev pub FirstBy : Option ℕ → A → List Item → List ℕ → Item → List ℕ → Type 0
  FirstBy None a items bytes item more = c.IsFirst a items bytes item more
  FirstBy (Some k) a items bytes item more =
      (length items ≤ k) × c.IsFirst a items bytes item more

  -- The output of an item with `--only`. If an item before the selected item has an output without
  -- `--only`, then the item has the empty output with `--only`.
  abbrev pub OutputsBy : Option ℕ → A → List Item → Item → Output → Type 0
  OutputsBy None a items item output = c.Outputs a items item output
  OutputsBy (Some k) a items item output =
      ((length items < k) × (known : Output) × c.Outputs a items item known
      × (output ≡ nothing_output))
      ⊎ ((length items ≡ k) × c.Outputs a items item output)

  -- The last of the items `items` is the selected item, and `ok` is true if the output for the
  -- selected item is without errors.
  pub record IsKnown (k : ℕ) (a : A) (items : List Item) (ok : Bool) : Type 0 where
    pub earlier : List Item
    pub item : Item
    pub items_are : items ≡ earlier ++ item ∷ []
    pub number : length earlier ≡ k
    pub output : Output
    pub outputs : c.Outputs a earlier item output
    pub ok_is : output.ok ≡ ok

  -- Up to the selected item, the run ends where the command ends the run. After the selected item,
  -- the run is finished, whatever bytes follow.
  abbrev pub ExitsBy : Option ℕ → A → List Item → List ℕ → Exit → Type 0
  ExitsBy None a items bytes exit = c.Exits a items bytes exit
  ExitsBy (Some k) a items bytes exit =
      ((length items ≤ k) × c.Exits a items bytes exit)
      ⊎ ((ok : Bool) × IsKnown k a items ok × (exit ≡ finished ok))

  -- If the input ends before the selected item, or inside the selected item, the final reply
  -- reports the end.
  abbrev pub EndsBy : Option ℕ → A → List Item → List ℕ → Reply → Type 0
  EndsBy None a items bytes last = c.Ends a items bytes last
  EndsBy (Some k) a items bytes last =
      (length items ≤ k) × (reply : Reply) × c.Ends a items bytes reply
      × (last ≡ missing (length items) reply)

-- Each request of the arguments selects all items.
abbrev pub OnlyNothing : (Request → Option ℕ) → List (List ℕ) → Type 0
OnlyNothing picked_by arguments =
    (request : Request) → Asks arguments request → picked_by request ≡ None

module _ {A : Type 0} (picked_by : Request → Option ℕ) (c : Commands A) where
  -- The commands with the option `--only`.
  abbrev pub only_command : Commands (Option ℕ × A)
  only_command = record {
    Wants = c.Wants;
    Finds = Finds picked_by c;
    Reads = λ act. c.Reads act.1;
    IsFirst = λ act. FirstBy c act.0 act.1;
    Outputs = λ act. OutputsBy c act.0 act.1;
    Exits = λ act. ExitsBy c act.0 act.1;
    Ends = λ act. EndsBy c act.0 act.1;
  }

  -- ---- arguments that select all items

  -- If the arguments select all items, then an account by the commands is an account with `--only`.
  abbrev pub HaveAccountsOfEach : Type 0
  HaveAccountsOfEach = (arguments : List (List ℕ)) (call : Call) → OnlyNothing picked_by arguments
      → Account c arguments call → Account only_command arguments call

  -- If the arguments select all items, then the specification with `--only` implies the
  -- specification of the commands.
  abbrev pub SpecifyOfEach : Type 0
  SpecifyOfEach = (arguments : List (List ℕ)) (call : Call) → OnlyNothing picked_by arguments
      → RunSpec only_command arguments call → RunSpec c arguments call
