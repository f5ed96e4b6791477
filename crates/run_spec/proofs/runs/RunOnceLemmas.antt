-- If the commands are lawful, then there is at most one outcome.
use Rattle.std.proofs.Common.{◌≡◌, ℕ, List, [], ◌∷◌, ◌++◌, Result, Ok, Err, inl, inr, refl, sym, ap, ◌∙◌, subst, append_assoc, arith, append-nil}
use Rattle.std.specs.Prelude.{MatchResult}
use Rattle.base_data.specs.model.Bytes.{AreBytes}
use Rattle.cli_spec.specs.Outcome.{ReadingEnd, at_end, at_fault, at_length, unasked, Taken, Output, Reply, exits, Replies, replies, stopped, Then, ReadsArguments}
use Rattle.cli_spec.specs.declared.exit.Exit.{Exit}
use Rattle.cli_args.proofs.RequestLemmas.{one_request}
use Rattle.run_spec.specs.runs.Commands.{Item, Fetches, Given, Commands, Prepares, Split, AllPrint, Closes, IsLast, OutputsAll, OutputsAlone, Answers, RunReplies}
use Rattle.run_spec.specs.runs.Lawful.{IsOnce, IsFound, AreLawfulAt, AreLawful}
use Rattle.run_spec.proofs.runs.StreamLemmas.{bytes_after}

-- The result of the second stage, or the exit reason of the first stage.
abbrev Follows : {X Y : Type 0} → (X → Result Y Exit → Type 0) → Result Y Exit → Result X Exit → Type 0
Follows next result given = MatchResult given (λ x. next x result) (λ exit. result ≡ Err exit)

-- If two stages have at most one answer each, then their composition has at most one answer.
pub Then_once :
    {X Y : Type 0} (first : Result X Exit → Type 0) (next : X → Result Y Exit → Type 0)
    → IsOnce first → ((x : X) → IsOnce (next x)) → IsOnce (Then first next)
Then_once {X} {Y} first next one rest r s (g, f, m) (g', f', m') =
    from g m (subst (λ g. Follows next s g) (one g' g f' f) m') where
      from : (g : Result X Exit) → Follows next r g → Follows next s g → r ≡ s
      from (Ok x) h k = rest x r s h k
      from (Err exit) h k = h ∙ sym k

pub arguments_once : (arguments : List (List ℕ)) → IsOnce (ReadsArguments arguments)
arguments_once arguments (Ok q) (Ok p) h k = ap (λ q. Ok q) (one_request arguments q p h k)
arguments_once arguments (Ok q) (Err s) h (none, is) = absurd (none q h)
arguments_once arguments (Err s) (Ok p) (none, is) k = absurd (none p k)
arguments_once arguments (Err s) (Err t) (none, is) (none', is') = ap (λ s. Err s) (is ∙ sym is')

no_bytes : AreBytes []
no_bytes = λ k d less. absurd (omega arith)

module _ {A : Type 0} (c : Commands A) (a : A) (lawful : AreLawfulAt c a) where
  -- No item at the beginning of `rest` has an output.
  abbrev pub IsStuck : List Item → List ℕ → Type 0
  IsStuck items rest = (item : Item) (more : List ℕ) (output : Output)
      → c.IsFirst a items rest item more → c.Outputs a items item output → ⊥

  pub rest_bytes :
      (before : List Item) (bytes : List ℕ) (item : Item) (more : List ℕ)
      → AreBytes bytes → c.IsFirst a before bytes item more → AreBytes more
  rest_bytes before bytes item more are_bytes is =
      let f = lawful.prefix before bytes item more is in
      bytes_after f.0 more (subst AreBytes f.1 are_bytes)

  pub split_bytes :
      (before : List Item) (bytes : List ℕ) (items : List Item) (rest : List ℕ)
      → AreBytes bytes → Split c a before bytes items rest → AreBytes rest
  split_bytes before bytes [] rest are_bytes same = subst AreBytes same are_bytes
  split_bytes before bytes (item ∷ items) rest are_bytes (more, is, split) =
      split_bytes (before ++ item ∷ []) more items rest (rest_bytes before bytes item more are_bytes is) split

  pub last_stuck :
      (items : List Item) (rest : List ℕ) (until : ReadingEnd) (last : Reply) → AreBytes rest
      → IsLast c a items rest until last → IsStuck items rest
  last_stuck items rest until last are_bytes (inl (exit, at, fine, is)) item more output first outputs =
      lawful.disjoint items rest are_bytes item more output exit first outputs at
  last_stuck items rest until last are_bytes (inr (on, closes)) item more output first outputs =
      on.no_item item more first

  -- If no further item can have an output, then the items with an output are unique.
  pub stuck_once :
      (before : List Item) (bytes : List ℕ) (items others : List Item) (rest other : List ℕ)
      (output known : List Output) → AreBytes bytes
      → Split c a before bytes items rest → AllPrint c a before items output → IsStuck (before ++ items) rest
      → Split c a before bytes others other → AllPrint c a before others known
      → IsStuck (before ++ others) other
      → (items ≡ others) × (rest ≡ other) × (output ≡ known)
  stuck_once before bytes [] [] rest other [] [] are_bytes split print stuck split' print' stuck' =
      (refl, sym split ∙ split', refl)
  stuck_once before bytes [] (u ∷ others) rest other [] (s ∷ known) are_bytes
      split print stuck (more, first, split') (outputs, print') stuck' =
      absurd (stuck u more s
      (subst (λ b. c.IsFirst a (before ++ []) b u more) split
      (subst (λ i. c.IsFirst a i bytes u more) (sym (append-nil before)) first))
      (subst (λ b. c.Outputs a b u s) (sym (append-nil before)) outputs))
  stuck_once before bytes (t ∷ items) [] rest other (s ∷ output) [] are_bytes
      (more, first, split) (outputs, print) stuck split' print' stuck' =
      absurd (stuck' t more s
      (subst (λ b. c.IsFirst a (before ++ []) b t more) split'
      (subst (λ i. c.IsFirst a i bytes t more) (sym (append-nil before)) first))
      (subst (λ b. c.Outputs a b t s) (sym (append-nil before)) outputs))
  stuck_once before bytes (t ∷ items) (u ∷ others) rest other (s ∷ output) (r ∷ known) are_bytes
      (more, first, split) (outputs, print) stuck (more', first', split') (outputs', print') stuck' =
      let one = lawful.first_once before bytes are_bytes t u more more' first first' in
      let same : t ≡ u = one.0 in
      let same_output : s ≡ r =
      lawful.outputs_once before t s r outputs (subst (λ u. c.Outputs a before u r) (sym same) outputs') in
      let along = append_assoc before (t ∷ []) in
      let next = stuck_once (before ++ t ∷ []) more items others rest other output known
      (rest_bytes before bytes t more are_bytes first)
      split print (subst (λ b. IsStuck b rest) (sym (along items)) stuck)
      (subst (λ m. Split c a (before ++ t ∷ []) m others other) (sym one.1)
      (subst (λ u. Split c a (before ++ u ∷ []) more' others other) (sym same) split'))
      (subst (λ u. AllPrint c a (before ++ u ∷ []) others known) (sym same) print')
      (subst (λ b. IsStuck b other) (sym (along others))
      (subst (λ u. IsStuck (before ++ u ∷ others) other) (sym same) stuck')) in (
        ap (λ t. t ∷ items) same ∙ ap (λ items. u ∷ items) next.0,
        next.1,
        ap (λ s. s ∷ output) same_output ∙ ap (λ output. r ∷ output) next.2,
      )
  stuck_once before bytes [] others rest other (s ∷ output) known are_bytes
      split print stuck split' print' stuck' = absurd print
  stuck_once before bytes (t ∷ items) others rest other [] known are_bytes
      split print stuck split' print' stuck' = absurd print
  stuck_once before bytes items [] rest other output (s ∷ known) are_bytes
      split print stuck split' print' stuck' = absurd print'
  stuck_once before bytes items (u ∷ others) rest other output [] are_bytes
      split print stuck split' print' stuck' = absurd print'

  closes_once :
      (items : List Item) (rest : List ℕ) (until : ReadingEnd) → AreBytes rest
      → IsOnce (Closes c a items rest until)
  closes_once items rest at_end are_bytes r s h k = lawful.ends_once items rest are_bytes r s h k
  closes_once items rest at_fault are_bytes r s h k = h ∙ sym k
  closes_once items rest at_length are_bytes r s h k = h ∙ sym k
  closes_once items rest unasked are_bytes r s h k = absurd h

  last_once :
      (items : List Item) (rest : List ℕ) (until : ReadingEnd) → AreBytes rest
      → IsOnce (IsLast c a items rest until)
  last_once items rest until are_bytes r s (inl (exit, at, fine, is)) (inl (exit', at', fine', is')) =
      let same = lawful.exits_once items rest are_bytes exit exit' at at' in
      is ∙ (ap (λ s. exits s) same ∙ sym is')
  last_once items rest until are_bytes r s (inl (exit, at, fine, is)) (inr (on, closes)) =
      absurd (on.no_exit exit at)
  last_once items rest until are_bytes r s (inr (on, closes)) (inl (exit, at, fine, is)) =
      absurd (on.no_exit exit at)
  last_once items rest until are_bytes r s (inr (on, closes)) (inr (on', closes')) =
      closes_once items rest until are_bytes r s closes closes'

  both : (all other : Replies) → all.output ≡ other.output → all.last ≡ other.last → all ≡ other
  both all other output last =
      ap (λ s. replies s all.last) output ∙ ap (λ l. replies other.output l) last

  all_once : (input : Taken) → AreBytes input.bytes → IsOnce (OutputsAll c a input)
  all_once input are_bytes all other h k =
      let bytes = split_bytes [] input.bytes h.items h.rest are_bytes h.first.split in
      let bytes' = split_bytes [] input.bytes k.items k.rest are_bytes k.first.split in
      let one = stuck_once [] input.bytes h.items k.items h.rest k.rest all.output other.output are_bytes
      h.first.split h.first.all_print (last_stuck h.items h.rest input.until all.last bytes h.last)
      k.first.split k.first.all_print
      (last_stuck k.items k.rest input.until other.last bytes' k.last) in
      let last : IsLast c a h.items h.rest input.until other.last =
      subst (λ r. IsLast c a h.items r input.until other.last) (sym one.1)
      (subst (λ i. IsLast c a i k.rest input.until other.last) (sym one.0) k.last) in
      both all other one.2
      (last_once h.items h.rest input.until bytes all.last other.last h.last last)

  pub alone_once : (all other : Replies) → OutputsAlone c a all → OutputsAlone c a other → all ≡ other
  alone_once all other h k =
      both all other (h.none ∙ sym k.none)
      (lawful.ends_once [] [] no_bytes all.last other.last h.last k.last)

  pub answers_once : (input : Taken) → AreBytes input.bytes → IsOnce (Answers c a input)
  answers_once input are_bytes all other (inl (reads, h)) (inl (reads', k)) =
      all_once input are_bytes all other h k
  answers_once input are_bytes all other (inl (reads, h)) (inr k) = absurd (k.unread reads)
  answers_once input are_bytes all other (inr h) (inl (reads, k)) = absurd (h.unread reads)
  answers_once input are_bytes all other (inr h) (inr k) = alone_once all other h k

module _ {A : Type 0} (c : Commands A) (lawful : AreLawful c) where
  pub prepares_once : (arguments : List (List ℕ)) (files : Fetches) → IsOnce (Prepares c arguments files)
  prepares_once arguments files =
      Then_once (ReadsArguments arguments) (λ request. c.Finds request files)
      (arguments_once arguments) (λ request. lawful.finds_once request files)

  pub prepared_found :
      (arguments : List (List ℕ)) (files : Fetches) (a : A)
      → Prepares c arguments files (Ok a) → IsFound c a
  prepared_found arguments files a (Ok request, asks, finds) = (request, files, finds)
  prepared_found arguments files a (Err exit, usage, same) = absurd (cc same)

  -- The replies for the task, or the exit reason before the task.
  abbrev Outputs : Given → Replies → Result A Exit → Type 0
  Outputs given all found =
      MatchResult found (λ a. Answers c a given.input all) (λ exit. all ≡ stopped exit)

  -- If the commands are lawful, then arguments and what is provided have at most one outcome.
  pub replies_once :
      (arguments : List (List ℕ)) (given : Given) → AreBytes given.input.bytes
      → IsOnce (RunReplies c arguments given)
  replies_once arguments given are_bytes all other (found, p, m) (found', p', m') =
      from found p m (subst (Outputs given other) (prepares_once arguments given.files found' found p' p) m')
    where
      from : (found : Result A Exit) → Prepares c arguments given.files found
          → Outputs given all found → Outputs given other found → all ≡ other
      from (Ok a) p h k =
          let at = lawful.at a (prepared_found arguments given.files a p) in
          answers_once c a at given.input are_bytes all other h k
      from (Err exit) p h k = h ∙ sym k
