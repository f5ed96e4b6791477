-- The state of a command with output for one item only.
use Rattle.std.proofs.lemmas.List.{take-append-drop}
use Rattle.std.proofs.Common.{◌≡◌, ◌⊎◌, ◌<◌, ◌≤◌, ℕ, Bool, List, [], ◌∷◌, ◌++◌, Option, Some, None, Result, Ok, Err, inl, inr, refl, sym, ap, ◌∙◌, subst, length, take, drop, length-append, append_assoc, append-nil, arith}
use Rattle.std.specs.Prelude.{IsErrAnd}
use Rattle.cli_spec.specs.Outcome.{Request, Output, nothing_output, Reply, outputs, exits, texts_of}
use Rattle.cli_spec.specs.RefusalText.{truncated_text}
use Rattle.cli_spec.specs.declared.exit.Exit.{Exit}
use Rattle.cli_spec.specs.declared.exit.Exit.TheVariants.{Value as value, Finished as finished, Memory as out_of_memory}
use Rattle.base_io.specs.Sink.{Writes}
use Rattle.base_io.specs.StreamState.{ByteState, Change, change}
use Rattle.cli_errors.specs.declared.exit_line.Error.{Error}
use Rattle.cli_errors.specs.declared.exit_line.Error.TheVariants as aborts
use Rattle.cli_errors.specs.Exits.{IsOrMemory}
use Rattle.run_spec.specs.runs.Account.{HaveNoExit}
use Rattle.run_spec.specs.runs.Commands.{Item, Commands, Split, AllPrint, OutputsFirst}
use Rattle.run_spec.proofs.runs.RunWriteLemmas.{writes_nothing}
use Rattle.run_spec.proofs.runs.RunValueLemmas.{texts_of-one}
use Rattle.opt_skip_only.specs.only_spec.OnlyCommand.{missing, IsKnown, ExitsBy, only_command}
use Rattle.opt_skip_only.specs.only_spec.OnlyOutput.{output_of_one}
use Rattle.opt_skip_only.proofs.only_spec.OnlyKnownLemmas.{is_known, on_up_to, output_before, output_at, print_count, first_of_one}
use Rattle.run_loop.proofs.work.WorkFirstLemmas.{first_stays}
use Rattle.run_loop.specs.work.Works.{Has, ItemsStay, AbortsIn, FinishesIn, Aborts, Feeds, WritesLast, EndsAt}
use Rattle.opt_skip_only.specs.only.Picked.{HasPicked, EndsBefore}

module _ {A : Type 0} (picked_by : Request → Option ℕ) (c : Commands A) (a : A) where
  abbrev one : Commands (Option ℕ × A)
  one = only_command picked_by c

  module _ (k : ℕ) where
    -- If nothing ends the run of the command up to the selected item, then nothing ends the run
    -- with `--only` up to the selected item.
    abbrev pub hold_within : (bytes : List ℕ) (known : List Output) → length known ≤ k
        → HaveNoExit c a bytes known → HaveNoExit one (Some k, a) bytes (output_of_one k known)
    hold_within bytes known few h = record {
      items = h.items;
      rest = h.rest;
      first = first_of_one picked_by c a k bytes h.items known h.rest (omega (arith, few)) h.first;
      goes_on = on_up_to picked_by c a k h.items h.rest
          (let count = print_count c a [] h.items known h.first.all_print in omega (arith, few, count))
          h.goes_on;
    }

    pub stay : ItemsStay c a → ItemsStay one (Some k, a)
    stay inner items bytes item more later (few, is) = (few, inner items bytes item more later is)

    pub holds_one : (has : Has)
        → ((bytes : List ℕ) (output : List Output) → has bytes output → HaveNoExit c a bytes output)
        → (bytes : List ℕ) (output : List Output) → HasPicked (Some k) has bytes output
        → HaveNoExit one (Some k, a) bytes output
    holds_one has inner bytes output h =
        subst (λ s. HaveNoExit one (Some k, a) bytes s) (sym h.output_are)
        (hold_within bytes h.known h.up_to (inner bytes h.known h.there))

-- If the run of the command ends or memory ran out, then the run with `--only` ends or memory ran
-- out.
pub exits_too : {A : Type 0} (k : ℕ) (c : Commands A) (a : A) (items : List Item) (bytes : List ℕ) (exit : Exit)
    → length items ≤ k → (c.Exits a items bytes exit) ⊎ (exit ≡ out_of_memory)
    → (ExitsBy c (Some k) a items bytes exit) ⊎ (exit ≡ out_of_memory)
exits_too k c a items bytes exit few (inl at) = inl (inl (few, at))
exits_too k c a items bytes exit few (inr memory) = inr memory

-- ---- current bytes

module _ {A : Type 0} (c : Commands A) (a : A) where
  -- Current bytes are consumed as without `--only`, and the output is discarded.
  abbrev pub FeedsUnsaid : Has → Has → List ℕ → Result ℕ Error → Type 0
  FeedsUnsaid before after buffered (Ok n) =
      (inner : Change ByteState) × Feeds c a before after buffered inner (Ok n)
  FeedsUnsaid before after buffered (Err (aborts.Exit exit)) =
      (inner : Change ByteState) × Feeds c a before after buffered inner (Err (aborts.Exit exit))
  FeedsUnsaid before after buffered (Err aborts.WriteFault) = ⊥

module _ {A : Type 0} (picked_by : Request → Option ℕ) (c : Commands A) (a : A) (k : ℕ) (has : Has) where
  abbrev There : List ℕ → List Output → Type 0
  There = HasPicked (Some k) has

  -- If no further item ends in the current bytes, then the outputs are unchanged.
  none_more : (new : Has) (n : ℕ) (buffered bytes : List ℕ) (output : List Output) (h : There bytes output)
      → new (bytes ++ take n buffered) (h.known ++ [])
      → HasPicked (Some k) new (bytes ++ take n buffered) (output ++ [])
  none_more new n buffered bytes output h there = record {
    known = h.known;
    output_are = append-nil output ∙ h.output_are;
    up_to = h.up_to;
    there = subst (λ t. new (bytes ++ take n buffered) t) (append-nil h.known) there;
  }

  -- If one more item ends before the selected item, then the outputs grow by an empty output.
  one_more : (new : Has) (n : ℕ) (buffered bytes : List ℕ) (output : List Output) (next : Output)
      (h : There bytes output) → length h.known < k → new (bytes ++ take n buffered) (h.known ++ next ∷ [])
      → HasPicked (Some k) new (bytes ++ take n buffered) (output ++ nothing_output ∷ [])
  one_more new n buffered bytes output next h less there =
      let size = length-append h.known (next ∷ []) in record {
        known = h.known ++ next ∷ [];
        output_are = ap (λ s. s ++ nothing_output ∷ []) h.output_are ∙ sym (output_before k h.known next less);
        up_to = omega (arith, size, less);
        there = there;
      }

  -- At most one further item ends in the current bytes, and the output for that item is written.
  abbrev Came : (new : Has) (n : ℕ) (buffered bytes : List ℕ) (output : List Output) → Change ByteState → Type 0
  Came new n buffered bytes output out =
      (more : List Output) × (length more ≤ 1)
      × HasPicked (Some k) new (bytes ++ take n buffered) (output ++ more) × Writes out (texts_of more)

  -- If an exit reason ends the run of the command at the current bytes, then it ends the run with
  -- `--only`.
  aborts_at : (buffered : List ℕ) (inner out : Change ByteState) (bytes : List ℕ) (known : List Output)
      → length known ≤ k → (exit : Exit) → Writes out []
      → AbortsIn c a bytes buffered known inner (aborts.Exit exit)
      → AbortsIn (only_command picked_by c) (Some k, a) bytes buffered (output_of_one k known) out (aborts.Exit exit)
  aborts_at buffered inner out bytes known few exit none (holds, why, write) = (
    hold_within picked_by c a k bytes known few holds,
    exits_too k c a holds.items (holds.rest ++ buffered) exit
        (let count = print_count c a [] holds.items known holds.first.all_print in omega (arith, few, count)) why,
    none,
  )

  -- The run of the command is never finished by itself.
  abbrev pub NeverFinishes : Type 0
  NeverFinishes = (items : List Item) (bytes : List ℕ) (ok : Bool)
      → c.Exits a items bytes (finished ok) → ⊥

  module _ (never : NeverFinishes) where
    -- If the current bytes belong to an item before the selected item, then the bytes are consumed
    -- without output.
    pub fed_before : (new : Has) (buffered : List ℕ) (o : ByteState)
        → ((bytes : List ℕ) (known : List Output) → has bytes known → length known < k)
        → (result : Result ℕ Error) → FeedsUnsaid c a has new buffered result
        → Feeds (only_command picked_by c) (Some k, a) There (HasPicked (Some k) new) buffered (change o o) result
    fed_before new buffered o less (Ok n) (inner, (some, fits, f)) = (some, fits, next) where
      next : (bytes : List ℕ) (output : List Output) → There bytes output → Came new n buffered bytes output (change o o)
      next bytes output h = by (f bytes h.known h.there) where
        by : ((more : List Output) × (length more ≤ 1) × new (bytes ++ take n buffered) (h.known ++ more)
            × Writes inner (texts_of more))
            → Came new n buffered bytes output (change o o)
        by ([], least, there, write) =
            ([], omega arith, none_more new n buffered bytes output h there, writes_nothing o)
        by (s ∷ [], least, there, write) = (
          nothing_output ∷ [],
          omega arith,
          one_more new n buffered bytes output s h (less bytes h.known h.there) there,
          writes_nothing o,
        )
        by (s ∷ t ∷ more, least, there, write) = absurd (omega (arith, least))
    fed_before new buffered o less (Err (aborts.Exit exit)) (inner, f) = λ bytes output h.
        subst (λ s. Aborts (only_command picked_by c) (Some k, a) bytes buffered s (change o o) (aborts.Exit exit))
        (sym h.output_are) (by bytes h.known h.up_to (f bytes h.known h.there)) where
          by : (bytes : List ℕ) (known : List Output) → length known ≤ k
              → Aborts c a bytes buffered known inner (aborts.Exit exit)
              → Aborts (only_command picked_by c) (Some k, a) bytes buffered (output_of_one k known) (change o o) (aborts.Exit exit)
          by bytes known few (inl h) =
              inl (aborts_at buffered inner (change o o) bytes known few exit (writes_nothing o) h)
          by bytes known few (inr f) = absurd (never f.items f.rest f.ok f.at)
    fed_before new buffered o less (Err aborts.WriteFault) f = absurd f

    -- If the current bytes are within the selected item, then they are consumed as without
    -- `--only`.
    pub fed_within : (new : Has) (buffered : List ℕ) (out : Change ByteState) (n : ℕ)
        → ((bytes : List ℕ) (known : List Output) → has bytes known → length known ≡ k)
        → ((bytes : List ℕ) (known : List Output) → new bytes known → length known ≤ k)
        → Feeds c a has new buffered out (Ok n)
        → Feeds (only_command picked_by c) (Some k, a) There (HasPicked (Some k) new) buffered out (Ok n)
    fed_within new buffered out n at few (some, fits, f) = (some, fits, next) where
      next : (bytes : List ℕ) (output : List Output) → There bytes output → Came new n buffered bytes output out
      next bytes output h = by (f bytes h.known h.there) where
        by : ((more : List Output) × (length more ≤ 1) × new (bytes ++ take n buffered) (h.known ++ more)
            × Writes out (texts_of more))
            → Came new n buffered bytes output out
        by ([], least, there, write) =
            ([], omega arith, none_more new n buffered bytes output h there, write)
        by (s ∷ more, least, there, write) =
            let size = at bytes h.known h.there in
            let all = few (bytes ++ take n buffered) (h.known ++ s ∷ more) there in
            let parts = length-append h.known (s ∷ more) in
            absurd (omega (arith, size, all, parts))

    -- If the run of the command ends within the selected item, then the run with `--only` ends with
    -- the same error.
    aborts_there : (new : Has) (buffered : List ℕ) (out : Change ByteState)
        → ((bytes : List ℕ) (known : List Output) → has bytes known → length known ≡ k)
        → (error : Error) → Feeds c a has new buffered out (Err error)
        → Feeds (only_command picked_by c) (Some k, a) There (HasPicked (Some k) new) buffered out (Err error)
    aborts_there new buffered out at error f = λ bytes output h.
        subst (λ s. Aborts (only_command picked_by c) (Some k, a) bytes buffered s out error) (sym h.output_are)
        (by bytes h.known (at bytes h.known h.there) error (f bytes h.known h.there)) where
          by : (bytes : List ℕ) (known : List Output) → length known ≡ k → (error : Error)
              → Aborts c a bytes buffered known out error
              → Aborts (only_command picked_by c) (Some k, a) bytes buffered (output_of_one k known) out error
          by bytes known size (aborts.Exit exit) (inl (holds, why, write)) =
              inl (aborts_at buffered out out bytes known (omega (arith, size)) exit write (holds, why, write))
          by bytes known size aborts.WriteFault (inl (holds, next, (items, rest, first), part)) =
              let more = length-append known (next ∷ []) in
              inl (
                hold_within picked_by c a k bytes known (omega (arith, size)) holds,
                next,
                (
                  items,
                  rest,
                  subst (λ s. OutputsFirst (only_command picked_by c) (Some k, a) (bytes ++ buffered) items s rest)
                      (output_at k known next size)
                      (first_of_one picked_by c a k (bytes ++ buffered) items (known ++ next ∷ []) rest
                      (omega (arith, more, size)) first),
                ),
                part,
              )
          by bytes known size error (inr f) = absurd (never f.items f.rest f.ok f.at)

    pub aborts_within : (new : Has) (buffered : List ℕ) (out : Change ByteState)
        → ((bytes : List ℕ) (known : List Output) → has bytes known → length known ≡ k)
        → (error : Error) (result : Result ℕ Error) → IsErrAnd result (λ e. e ≡ error)
        → Feeds c a has new buffered out (Err error)
        → Feeds (only_command picked_by c) (Some k, a) There (HasPicked (Some k) new) buffered out result
    aborts_within new buffered out at error (Ok n) is f = absurd is
    aborts_within new buffered out at error (Err e) is f =
        subst (λ e. Feeds (only_command picked_by c) (Some k, a) There (HasPicked (Some k) new) buffered out (Err e))
        (sym is) (aborts_there new buffered out at error f)

    -- If the selected item ends in the current bytes, then the run is finished.
    pub finishes : (new : Has) (buffered : List ℕ) (out : Change ByteState) (n : ℕ) → ItemsStay c a
        → ((bytes : List ℕ) (known : List Output) → has bytes known → length known ≡ k)
        → ((bytes : List ℕ) (output : List Output) → has bytes output → HaveNoExit c a bytes output)
        → ((bytes : List ℕ) (output : List Output) → new bytes output → HaveNoExit c a bytes output)
        → ((bytes : List ℕ) (known : List Output) → new bytes known → k < length known)
        → (ok : Bool)
        → ((bytes : List ℕ) (before : List Output) (last : Output) → new bytes (before ++ last ∷ [])
        → ok ≡ last.ok)
        → Feeds c a has new buffered out (Ok n)
        → Feeds (only_command picked_by c) (Some k, a) There (HasPicked (Some k) new) buffered out
        (Err (aborts.Exit (finished ok)))
    finishes new buffered out n stays at inner inner_new past ok is (some, fits, f) = λ bytes output h.
        subst (λ s. Aborts (only_command picked_by c) (Some k, a) bytes buffered s out (aborts.Exit (finished ok)))
        (sym h.output_are) (inr (by bytes h.known h.there (f bytes h.known h.there))) where
          by : (bytes : List ℕ) (known : List Output) → has bytes known
              → ((more : List Output) × (length more ≤ 1) × new (bytes ++ take n buffered) (known ++ more)
              × Writes out (texts_of more))
              → FinishesIn (only_command picked_by c) (Some k, a) bytes buffered (output_of_one k known) out
              (aborts.Exit (finished ok))
          by bytes known before ([], least, there, write) =
              let size = at bytes known before in
              let many = past (bytes ++ take n buffered) (known ++ []) there in
              let none = length-append known [] in
              absurd (omega (arith, size, many, none))
          by bytes known before (s ∷ t ∷ more, least, there, write) = absurd (omega (arith, least))
          by bytes known before (s ∷ [], least, there, write) =
              let size = at bytes known before in
              let more = length-append known (s ∷ []) in
              let own = inner_new (bytes ++ take n buffered) (known ++ s ∷ []) there in
              let rest : List ℕ = own.rest ++ drop n buffered in
              let all : (bytes ++ take n buffered) ++ drop n buffered ≡ bytes ++ buffered =
              append_assoc bytes (take n buffered) (drop n buffered)
              ∙ ap (λ b. bytes ++ b) (take-append-drop n buffered) in
              let first : OutputsFirst c a (bytes ++ buffered) own.items (known ++ s ∷ []) rest =
              subst (λ b. OutputsFirst c a b own.items (known ++ s ∷ []) rest) all
              (first_stays c a stays (bytes ++ take n buffered) own.items (known ++ s ∷ []) own.rest
              (drop n buffered) own.first) in
              record {
                holds = hold_within picked_by c a k bytes known (omega (arith, size))
                    (inner bytes known before);
                next = s;
                items = own.items;
                rest = rest;
                first = subst (λ t. OutputsFirst (only_command picked_by c) (Some k, a) (bytes ++ buffered) own.items t rest)
                    (output_at k known s size)
                    (first_of_one picked_by c a k (bytes ++ buffered) own.items (known ++ s ∷ []) rest
                    (omega (arith, more, size)) first);
                ok = ok;
                at = inr (
                  ok,
                  subst (λ w. IsKnown c k a own.items w)
                      (sym (is (bytes ++ take n buffered) known s there))
                      (is_known c a k own.items known s size own.first.all_print),
                  refl,
                );
                is = refl;
                write = subst (λ t. Writes out t) (texts_of-one s) write;
              }

-- ---- the input ends

module _ {A : Type 0} (picked_by : Request → Option ℕ) (c : Commands A) (a : A) (k : ℕ) (has : Has) where
  -- If the input ends before the selected item is complete, then the run with `--only` ends as
  -- `EndsBefore` states.
  pub ended_before : (o : ByteState) (result : Result Bool Error) → EndsBefore c a has result
      → EndsAt (only_command picked_by c) (Some k, a) (HasPicked (Some k) has) (change o o) result
  ended_before o (Ok ok) ends = absurd ends
  ended_before o (Err aborts.WriteFault) ends = absurd ends
  ended_before o (Err (aborts.Exit exit)) ends = λ bytes output h.
      subst (λ s. (holds : HaveNoExit (only_command picked_by c) (Some k, a) bytes s)
      × WritesLast (only_command picked_by c) (Some k, a) s holds.items holds.rest (change o o) (Err (aborts.Exit exit)))
      (sym h.output_are) (at bytes h.known h.up_to (ends bytes h.known h.there)) where
        at : (taken : List ℕ) (known : List Output) → length known ≤ k
            → ((holds : HaveNoExit c a taken known)
            × (((reply : Reply) × c.Ends a holds.items holds.rest reply
            × (exits exit ≡ missing (length holds.items) reply))
            ⊎ (exit ≡ out_of_memory)))
            → (holds : HaveNoExit (only_command picked_by c) (Some k, a) taken (output_of_one k known))
            × WritesLast (only_command picked_by c) (Some k, a) (output_of_one k known) holds.items holds.rest (change o o)
            (Err (aborts.Exit exit))
        at taken known small (holds, inr memory) =
            (hold_within picked_by c a k taken known small holds, (inr memory, writes_nothing o))
        at taken known small (holds, inl (reply, is, same)) =
            let count = print_count c a [] holds.items known holds.first.all_print in (
              hold_within picked_by c a k taken known small holds,
              (inl (omega (arith, small, count), reply, is, same), writes_nothing o),
            )

-- If the input ends before the selected item, then the run ends for a missing item.
module _ {A : Type 0} (c : Commands A) (a : A) (has : Has) (inner : Change ByteState) where
  pub ends_missing : (count : ℕ)
      → ((bytes : List ℕ) (output : List Output) → has bytes output → count ≡ length output)
      → (exit : Exit) → IsOrMemory (value count (truncated_text 0)) exit
      → (ok : Bool) → EndsAt c a has inner (Ok ok)
      → EndsBefore c a has (Err (aborts.Exit exit))
  ends_missing count counts exit known ok ends = λ bytes output there.
      by bytes output (counts bytes output there) known (ends bytes output there) where
        by : (bytes : List ℕ) (output : List Output) → count ≡ length output
            → IsOrMemory (value count (truncated_text 0)) exit
            → ((holds : HaveNoExit c a bytes output)
            × WritesLast c a output holds.items holds.rest inner (Ok ok))
            → (holds : HaveNoExit c a bytes output)
            × (((reply : Reply) × c.Ends a holds.items holds.rest reply
            × (exits exit ≡ missing (length holds.items) reply))
            ⊎ (exit ≡ out_of_memory))
        by bytes output n (inr memory) (holds, final) = (holds, inr memory)
        by bytes output n (inl e) (holds, (final, is, same, write)) =
            let items = print_count c a [] holds.items output holds.first.all_print in
            let all : count ≡ length holds.items = omega (arith, items, n) in
            (holds, inl (outputs final, is, ap exits e ∙ ap (λ m. exits (value m (truncated_text 0))) all))

  pub ends_stopped : (exit : Exit)
      → EndsAt c a has inner (Err (aborts.Exit exit))
      → EndsBefore c a has (Err (aborts.Exit exit))
  ends_stopped exit ends = λ bytes output there. by bytes output (ends bytes output there) where
    by : (bytes : List ℕ) (output : List Output)
        → ((holds : HaveNoExit c a bytes output)
        × WritesLast c a output holds.items holds.rest inner (Err (aborts.Exit exit)))
        → (holds : HaveNoExit c a bytes output)
        × (((reply : Reply) × c.Ends a holds.items holds.rest reply
        × (exits exit ≡ missing (length holds.items) reply))
        ⊎ (exit ≡ out_of_memory))
    by bytes output (holds, (inl is, write)) = (holds, inl (exits exit, is, refl))
    by bytes output (holds, (inr memory, write)) = (holds, inr memory)

  -- A command that ends with a failed write to the discarded output ends as if memory ran out.
  pub ends_faulted : EndsAt c a has inner (Err aborts.WriteFault)
      → EndsBefore c a has (Err (aborts.Exit out_of_memory))
  ends_faulted ends = λ bytes output there. by bytes output (ends bytes output there) where
    by : (bytes : List ℕ) (output : List Output)
        → ((holds : HaveNoExit c a bytes output)
        × WritesLast c a output holds.items holds.rest inner (Err aborts.WriteFault))
        → (holds : HaveNoExit c a bytes output)
        × (((reply : Reply) × c.Ends a holds.items holds.rest reply
        × (exits out_of_memory ≡ missing (length holds.items) reply))
        ⊎ (out_of_memory ≡ out_of_memory))
    by bytes output (holds, final) = (holds, inr refl)

  pub feeds_faulted : (new : Has) (buffered : List ℕ)
      → Feeds c a has new buffered inner (Err aborts.WriteFault)
      → FeedsUnsaid c a has new buffered (Err (aborts.Exit out_of_memory))
  feeds_faulted new buffered f =
      (none, λ bytes output there. by bytes output (f bytes output there)) where
        none : Change ByteState
        none = change inner.before inner.before

        by : (bytes : List ℕ) (output : List Output)
            → Aborts c a bytes buffered output inner aborts.WriteFault
            → Aborts c a bytes buffered output none (aborts.Exit out_of_memory)
        by bytes output (inl (holds, next, are_output, part)) =
            inl (holds, inr refl, writes_nothing inner.before)
        by bytes output (inr f) = let e = f.is in absurd (cc e)

-- If the command stores the number of the selected item, then its steps satisfy the specification.
pub fed_picked : {A : Type 0} (picked_by : Request → Option ℕ) (c : Commands A) (a : A) (picked : Option ℕ) (k : ℕ)
    → picked ≡ Some k → (has new : Has) (buffered : List ℕ) (out : Change ByteState) (result : Result ℕ Error)
    → Feeds (only_command picked_by c) (Some k, a) (HasPicked (Some k) has) (HasPicked (Some k) new) buffered out result
    → Feeds (only_command picked_by c) (picked, a) (HasPicked picked has) (HasPicked picked new) buffered out result
fed_picked picked_by c a picked k is has new buffered out result fed =
    subst (λ p. Feeds (only_command picked_by c) (p, a) (HasPicked p has) (HasPicked p new) buffered out result) (sym is) fed

-- ---- all items, or one

-- Before the first byte, no bytes are consumed and there is no output.
pub begins : (picked : Option ℕ) (has : Has) → has [] [] → HasPicked picked has [] []
begins None has there = record { known = []; output_are = refl; up_to = tt; there = there }
begins (Some k) has there = record {
  known = [];
  output_are = refl;
  up_to = omega arith;
  there = there;
}

-- If all items are selected, then the consumed input and the outputs are those of the command.
each_is : (has : Has) (bytes : List ℕ) (output : List Output) → HasPicked None has bytes output
    → has bytes output
each_is has bytes output h = subst (λ s. has bytes s) (sym h.output_are) h.there

pub each_has : (has : Has) (bytes : List ℕ) (output : List Output) → has bytes output
    → HasPicked None has bytes output
each_has has bytes output there = record {
  known = output;
  output_are = refl;
  up_to = tt;
  there = there;
}

module _ {A : Type 0} (picked_by : Request → Option ℕ) (c : Commands A) (a : A) where
  abbrev each : Commands (Option ℕ × A)
  each = only_command picked_by c

  split_each : (before : List Item) (bytes : List ℕ) (items : List Item) (rest : List ℕ)
      → Split c a before bytes items rest → Split each (None, a) before bytes items rest
  split_each before bytes [] rest same = same
  split_each before bytes (item ∷ items) rest (more, is, split) =
      (more, is, split_each (before ++ item ∷ []) more items rest split)

  print_each : (before items : List Item) (known : List Output)
      → AllPrint c a before items known → AllPrint each (None, a) before items known
  print_each before [] [] print = print
  print_each before [] (s ∷ known) print = print
  print_each before (item ∷ items) [] print = print
  print_each before (item ∷ items) (s ∷ known) (here, print) =
      (here, print_each (before ++ item ∷ []) items known print)

  first_each : (bytes : List ℕ) (items : List Item) (known : List Output) (rest : List ℕ)
      → OutputsFirst c a bytes items known rest → OutputsFirst each (None, a) bytes items known rest
  first_each bytes items known rest first = record {
    split = split_each [] bytes items rest first.split;
    all_print = print_each [] items known first.all_print;
  }

  abbrev hold_each : (bytes : List ℕ) (output : List Output)
      → HaveNoExit c a bytes output → HaveNoExit each (None, a) bytes output
  hold_each bytes output own = record {
    items = own.items;
    rest = own.rest;
    first = first_each bytes own.items output own.rest own.first;
    goes_on = record { no_exit = own.goes_on.no_exit; no_item = own.goes_on.no_item };
  }

  -- If all items are selected, then the command consumes current bytes as without `--only`.
  pub fed_each : (has new : Has) (buffered : List ℕ) (out : Change ByteState)
      (result : Result ℕ Error)
      → Feeds c a has new buffered out result
      → Feeds each (None, a) (HasPicked None has) (HasPicked None new) buffered out result
  fed_each has new buffered out (Ok n) (some, fits, f) = (some, fits, next) where
    next : (bytes : List ℕ) (output : List Output) → HasPicked None has bytes output
        → (more : List Output) × (length more ≤ 1)
        × HasPicked None new (bytes ++ take n buffered) (output ++ more) × Writes out (texts_of more)
    next bytes output h = by (f bytes output (each_is has bytes output h)) where
      by : ((more : List Output) × (length more ≤ 1)
          × new (bytes ++ take n buffered) (output ++ more) × Writes out (texts_of more))
          → (more : List Output) × (length more ≤ 1)
          × HasPicked None new (bytes ++ take n buffered) (output ++ more) × Writes out (texts_of more)
      by (more, least, there, write) =
          (more, least, each_has new (bytes ++ take n buffered) (output ++ more) there, write)
  fed_each has new buffered out (Err error) f = λ bytes output h.
      aborts_each bytes output error (f bytes output (each_is has bytes output h)) where
        aborts_each : (bytes : List ℕ) (output : List Output) (error : Error)
            → Aborts c a bytes buffered output out error
            → Aborts each (None, a) bytes buffered output out error
        aborts_each bytes output (aborts.Exit exit) (inl (holds, why, write)) =
            inl (hold_each bytes output holds, why, write)
        aborts_each bytes output aborts.WriteFault (inl (holds, next, (items, rest, first), part)) =
            inl (
              hold_each bytes output holds,
              next,
              (items, rest, first_each (bytes ++ buffered) items (output ++ next ∷ []) rest first),
              part,
            )
        aborts_each bytes output error (inr f) = inr (record {
          holds = hold_each bytes output f.holds;
          next = f.next;
          items = f.items;
          rest = f.rest;
          first = first_each (bytes ++ buffered) f.items (output ++ f.next ∷ []) f.rest f.first;
          ok = f.ok;
          at = f.at;
          is = f.is;
          write = f.write;
        })

  -- If all items are selected, then the command handles the end of the input as without `--only`.
  pub ended_each : (has : Has) (out : Change ByteState) (result : Result Bool Error)
      → EndsAt c a has out result → EndsAt each (None, a) (HasPicked None has) out result
  ended_each has out result ends = λ bytes output h.
      by bytes output (ends bytes output (each_is has bytes output h)) where
        last : (output : List Output) (items : List Item) (rest : List ℕ) (result : Result Bool Error)
            → WritesLast c a output items rest out result
            → WritesLast each (None, a) output items rest out result
        last output items rest (Ok ok) write = write
        last output items rest (Err (aborts.Exit exit)) write = write
        last output items rest (Err aborts.WriteFault) write = write

        by : (bytes : List ℕ) (output : List Output)
            → ((holds : HaveNoExit c a bytes output)
            × WritesLast c a output holds.items holds.rest out result)
            → (holds : HaveNoExit each (None, a) bytes output)
            × WritesLast each (None, a) output holds.items holds.rest out result
        by bytes output (holds, write) =
            (hold_each bytes output holds, last output holds.items holds.rest result write)

  pub stay_by : (picked : Option ℕ) → ItemsStay c a → ItemsStay each (picked, a)
  stay_by None inner = inner
  stay_by (Some k) inner = stay picked_by c a k inner

  pub holds_by : (has : Has)
      → ((bytes : List ℕ) (output : List Output) → has bytes output → HaveNoExit c a bytes output)
      → (picked : Option ℕ) (bytes : List ℕ) (output : List Output) → HasPicked picked has bytes output
      → HaveNoExit each (picked, a) bytes output
  holds_by has inner None bytes output h = hold_each bytes output (inner bytes output (each_is has bytes output h))
  holds_by has inner (Some k) bytes output h = holds_one picked_by c a k has inner bytes output h
