-- The output for some first items is a prefix of the outcome's output. The lemmas are for runs in
-- which memory ran out, or `out` or `err` failed.
use Rattle.std.proofs.Common.{◌≡◌, ◌⊎◌, ℕ, List, [], ◌∷◌, ◌++◌, Result, Ok, Err, inl, inr, refl, sym, ap, ◌∙◌, subst, append_assoc, append-nil}
use Rattle.std.specs.Prelude.{MatchResult}
use Rattle.base_data.specs.model.Bytes.{AreBytes}
use Rattle.cli_spec.specs.declared.status.Status.TheVariants as statuses
use Rattle.cli_spec.specs.Outcome.{at_end, whole, exit_line, ending_of, Output, outputs, exits, Replies, replies, all_output, texts_of, stopped}
use Rattle.cli_spec.specs.declared.exit.Exit.{Exit}
use Rattle.cli_spec.specs.declared.exit.Exit.TheVariants.{Memory as out_of_memory}
use Rattle.base_io.specs.Files.{File, contents_of}
use Rattle.base_io.specs.Sink.{Writes}
use Rattle.run_spec.specs.runs.Account.{IsFinishedBehind, IsOutputFirst, OutputsOfFirst, Completes, Breaks, Account}
use Rattle.run_spec.specs.runs.Call.{Call}
use Rattle.run_spec.specs.runs.RunCauses.{IsPrefixOfOutcome, IfMemory, OutBreaks, ErrBreaks, IfWriteFault}
use Rattle.run_spec.specs.runs.Commands.{Item, Commands, Prepares, Split, AllPrint, OutputsFirst, OutputsAll, Answers, RunReplies, Outcome}
use Rattle.run_spec.specs.runs.Given.{ReportsBytes}
use Rattle.run_spec.specs.runs.Lawful.{AreLawfulAt, AreLawful}
use Rattle.run_spec.specs.runs.Environment.{WritesLine, IsOkRead}
use Rattle.run_spec.specs.runs.RunSpec.{known_files}
use Rattle.run_spec.proofs.runs.HoldLemmas.{first_stays}
use Rattle.run_spec.proofs.runs.RunOnceLemmas.{IsStuck, rest_bytes, split_bytes, last_stuck, prepares_once, replies_once}
use Rattle.run_spec.proofs.runs.OutcomeLemmas.{prepares_known, taken_rest, outcome_known}
use Rattle.run_spec.proofs.runs.RunSettledLemmas.{exit_status, outcome_output}
use Rattle.run_spec.proofs.runs.RunKnownLemmas.{lawful_at}

module _ {A : Type 0} (c : Commands A) (a : A) (law : AreLawfulAt c a) where
  -- If no further item can have an output, then the output for some first items is a prefix of the
  -- whole output.
  output_prefix :
      (before : List Item) (bytes : List ℕ) (items others : List Item) (rest other : List ℕ)
      (output known : List Output) → AreBytes bytes
      → Split c a before bytes items rest → AllPrint c a before items output
      → Split c a before bytes others other → AllPrint c a before others known
      → IsStuck c a law (before ++ others) other
      → (later : List Output) × (known ≡ output ++ later)
  output_prefix before bytes [] others rest other [] known are_bytes split print split' print' stuck =
      (known, refl)
  output_prefix before bytes [] others rest other (s ∷ output) known are_bytes split print split' print' stuck =
      absurd print
  output_prefix before bytes (t ∷ items) others rest other [] known are_bytes split print split' print' stuck =
      absurd print
  output_prefix before bytes (t ∷ items) [] rest other (s ∷ output) known are_bytes
      (more, first, split) (reports, print) split' print' stuck =
      absurd (stuck t more s
      (subst (λ b. c.IsFirst a (before ++ []) b t more) split'
      (subst (λ i. c.IsFirst a i bytes t more) (sym (append-nil before)) first))
      (subst (λ b. c.Outputs a b t s) (sym (append-nil before)) reports))
  output_prefix before bytes (t ∷ items) (u ∷ others) rest other (s ∷ output) [] are_bytes
      split print split' print' stuck = absurd print'
  output_prefix before bytes (t ∷ items) (u ∷ others) rest other (s ∷ output) (r ∷ known) are_bytes
      (more, first, split) (reports, print) (more', first', split') (reports', print') stuck =
      let one = law.first_once before bytes are_bytes t u more more' first first' in
      let same : t ≡ u = one.0 in
      let same_output : s ≡ r =
      law.outputs_once before t s r reports (subst (λ u. c.Outputs a before u r) (sym same) reports') in
      let along = append_assoc before (t ∷ []) in
      let next = output_prefix (before ++ t ∷ []) more items others rest other output known
      (rest_bytes c a law before bytes t more are_bytes first) split print
      (subst (λ m. Split c a (before ++ t ∷ []) m others other) (sym one.1)
      (subst (λ u. Split c a (before ++ u ∷ []) more' others other) (sym same) split'))
      (subst (λ u. AllPrint c a (before ++ u ∷ []) others known) (sym same) print')
      (subst (λ b. IsStuck c a law b other) (sym (along others))
      (subst (λ u. IsStuck c a law (before ++ u ∷ others) other) (sym same) stuck)) in
      (next.0, ap (λ known. r ∷ known) next.1 ∙ ap (λ s. s ∷ (output ++ next.0)) (sym same_output))

  -- The output for some first items is a prefix of the output of each reply to the input.
  all_prefix :
      (input : List ℕ) → AreBytes input → (items : List Item) (output : List Output) (rest : List ℕ)
      → OutputsFirst c a input items output rest → (all : Replies) → OutputsAll c a (whole input) all
      → (later : List Output) × (all_output all ≡ output ++ later)
  all_prefix input are_bytes items output rest first all s =
      let other = split_bytes c a law [] input s.items s.rest are_bytes s.first.split in
      let prefix = output_prefix [] input items s.items rest s.rest output all.output are_bytes
      first.split first.all_print s.first.split s.first.all_print
      (last_stuck c a law s.items s.rest at_end all.last other s.last) in (
        all_output (replies prefix.0 all.last),
        ap (λ s. all_output (replies s all.last)) prefix.1
            ∙ append_assoc output prefix.0 (all_output (replies [] all.last)),
      )

module _ {A : Type 0} (c : Commands A) (arguments : List (List ℕ)) (call : Call) (lawful : AreLawful c)
    (reports : ReportsBytes call.input) (account : Account c arguments call) (input : List ℕ)
    (files : List File) (ok : IsOkRead call input files) where
  are_bytes : AreBytes input
  are_bytes = rw ok.input_known at reports

  -- If items are first items of the input read, then the items are first items of the known input.
  there :
      (a : A) → Prepares c arguments account.given.files (Ok a) → (items : List Item) (output : List Output)
      (rest : List ℕ) → OutputsFirst c a account.given.input.bytes items output rest
      → (more : List ℕ) × OutputsFirst c a input items output more
  there a p items output rest first =
      let taken = taken_rest c arguments call lawful input files ok account.given account.may_be in (
        rest ++ taken.0,
        subst (λ b. OutputsFirst c a b items output (rest ++ taken.0)) (sym taken.1.prefix)
            (first_stays c a (lawful_at c arguments call lawful account.given.files a p)
            account.given.input.bytes items output rest taken.0 first),
      )

  items_prefix :
      (a : A) → Prepares c arguments account.given.files (Ok a) → c.Reads a
      → (items : List Item) (output : List Output) (rest : List ℕ)
      → OutputsFirst c a account.given.input.bytes items output rest
      → IsPrefixOfOutcome c arguments input files output
  items_prefix a p reads items output rest first = record {
    is_output = inr (inl (a, prepared, reads, items, here.0, here.1));
    first = λ all outcome.
        go all outcome.0
        (prepares_once c lawful arguments (known_files files) (Ok a) outcome.0 prepared outcome.1)
        outcome.2;
  } where
    here : (more : List ℕ) × OutputsFirst c a input items output more
    here = there a p items output rest first

    prepared : Prepares c arguments (known_files files) (Ok a)
    prepared = prepares_known c arguments call lawful input files ok account.given account.may_be (Ok a) p

    answered : (all : Replies) → Answers c a (whole input) all
        → (later : List Output) × (all_output all ≡ output ++ later)
    answered all (inr alone) = absurd (alone.unread reads)
    answered all (inl (unused, s)) =
        all_prefix c a (lawful_at c arguments call lawful account.given.files a p) input are_bytes
        items output here.0 here.1 all s

    go : (all : Replies) (found : Result A Exit) → Ok a ≡ found
        → MatchResult found (λ a. Answers c a (whole input) all) (λ exit. all ≡ stopped exit)
        → (later : List Output) × (all_output all ≡ output ++ later)
    go all (Err exit) e m = absurd (cc e)
    go all (Ok own) e m =
        let same : own ≡ a = let k : a ≡ own = cc e in sym k in
        answered all (subst (λ a. Answers c a (whole input) all) same m)

  first_prefix : IsPrefixOfOutcome c arguments input files account.output
  first_prefix = go account.first where
    go : IsOutputFirst c arguments account.given account.output
        → IsPrefixOfOutcome c arguments input files account.output
    go (inl (taken, none)) =
        subst (IsPrefixOfOutcome c arguments input files) (sym none) (record {
          is_output = inl refl;
          first = λ all outcome. (all_output all, refl);
        })
    go (inr (a, p, reads, paced)) = by paced.output_are where
      by : (account.output ≡ paced.before)
          ⊎ IsFinishedBehind c a account.given.input paced.before account.output
          → IsPrefixOfOutcome c arguments input files account.output
      by (inl same) =
          subst (IsPrefixOfOutcome c arguments input files) (sym same)
          (items_prefix a p reads paced.holds.items paced.before (paced.holds.rest ++ paced.buffered)
          (subst (λ b. OutputsFirst c a b paced.holds.items paced.before
          (paced.holds.rest ++ paced.buffered)) (sym paced.bytes_are)
          (first_stays c a (lawful_at c arguments call lawful account.given.files a p) paced.earlier
          paced.holds.items paced.before paced.holds.rest paced.buffered paced.holds.first)))
      by (inr b) = items_prefix a p reads b.items account.output b.rest b.first

  -- The output with the next text is a prefix of the outcome's output.
  next_prefix :
      (next : Output)
      → OutputsOfFirst c arguments account.given (account.output ++ next ∷ [])
      ⊎ RunReplies c arguments account.given (replies account.output (outputs next))
      → IsPrefixOfOutcome c arguments input files (account.output ++ next ∷ [])
  next_prefix next (inl (a, p, reads, items, rest, first)) =
      items_prefix a p reads items (account.output ++ next ∷ []) rest first
  next_prefix next (inr r) = record {
    is_output = inr (inr (replies account.output (outputs next), here, refl));
    first = λ all outcome.
        let same = replies_once c lawful arguments
        (record { files = known_files files; input = whole input }) are_bytes
        all (replies account.output (outputs next)) outcome here in
        ([], ap all_output same ∙ sym (append-nil (account.output ++ next ∷ [])));
  } where
    here : Outcome c arguments (contents_of files) input (replies account.output (outputs next))
    here =
        outcome_known c arguments call lawful input files ok account.given account.may_be
        (replies account.output (outputs next)) r

  memory_written :
      call.status ≡ statuses.Memory
      → Completes c arguments account.given account.output call ⊎ Breaks c arguments account.given account.output call
      → Writes call.out (texts_of account.output) × Writes call.err (exit_line out_of_memory)
  memory_written is (inr b) =
      let no : statuses.WriteFault ≡ statuses.Memory = sym b.status ∙ is in absurd (cc no)
  memory_written is (inl e) = write e.line where
    write : WritesLine call.err call.status (ending_of (replies account.output e.last))
        → Writes call.out (texts_of account.output) × Writes call.err (exit_line out_of_memory)
    write (inr part) =
        let no : statuses.WriteFault ≡ statuses.Memory = sym part.1 ∙ is in absurd (cc no)
    write (inl line) = may e.may_end where
      may : RunReplies c arguments account.given (replies account.output e.last)
          ⊎ (e.last ≡ exits out_of_memory)
          → Writes call.out (texts_of account.output) × Writes call.err (exit_line out_of_memory)
      may (inl r) =
          absurd (outcome_output c arguments lawful account.given (replies account.output e.last) r
          (inl (sym line.1 ∙ is)))
      may (inr memory) = (
        subst (λ output. Writes call.out (texts_of output)) (append-nil account.output)
            (subst (λ last. Writes call.out (ending_of (replies account.output last)).out) memory e.out),
        subst (λ last. Writes call.err (ending_of (replies account.output last)).err) memory line.0,
      )

  write_written :
      call.status ≡ statuses.WriteFault
      → Completes c arguments account.given account.output call ⊎ Breaks c arguments account.given account.output call
      → OutBreaks c arguments call input files ⊎ ErrBreaks c arguments call input files
  write_written is (inr b) =
      inl (account.output, b.next, next_prefix b.next b.is_next, b.out, b.err)
  write_written is (inl e) = write e.line where
    may : RunReplies c arguments account.given (replies account.output e.last)
        ⊎ (e.last ≡ exits out_of_memory)
        → Outcome c arguments (contents_of files) input (replies account.output e.last)
        ⊎ (IsPrefixOfOutcome c arguments input files account.output × (e.last ≡ exits out_of_memory))
    may (inl r) =
        inl (outcome_known c arguments call lawful input files ok account.given account.may_be
        (replies account.output e.last) r)
    may (inr memory) = inr (first_prefix, memory)

    not_whole : call.status ≡ (ending_of (replies account.output e.last)).status → ⊥
    not_whole same = at e.may_end where
      at : RunReplies c arguments account.given (replies account.output e.last)
          ⊎ (e.last ≡ exits out_of_memory) → ⊥
      at (inl r) =
          outcome_output c arguments lawful account.given (replies account.output e.last) r
          (inr (sym same ∙ is))
      at (inr memory) =
          let no : statuses.Memory ≡ statuses.WriteFault =
          sym (same ∙ exit_status (replies account.output e.last) out_of_memory memory) ∙ is in cc no

    write : WritesLine call.err call.status (ending_of (replies account.output e.last))
        → OutBreaks c arguments call input files ⊎ ErrBreaks c arguments call input files
    write (inl line) = absurd (not_whole line.1)
    write (inr part) = inr (replies account.output e.last, e.out, part.0, may e.may_end)

module _ {A : Type 0} (c : Commands A) (arguments : List (List ℕ)) (call : Call) (lawful : AreLawful c)
    (reports : ReportsBytes call.input) (account : Account c arguments call) where
  pub if_memory : IfMemory c arguments call
  if_memory input files ok is =
      let write = memory_written c arguments call lawful reports account input files ok is account.ends in
      (account.output, first_prefix c arguments call lawful reports account input files ok, write.0, write.1)

  pub if_write_fault : IfWriteFault c arguments call
  if_write_fault input files ok is =
      write_written c arguments call lawful reports account input files ok is account.ends
