-- Outputs for items, collected and written at once. If writing to out fails, then writing fails in
-- the output for one item.
use Rattle.std.proofs.Common.{◌≡◌, ◌⊎◌, ℕ, zero, suc, ◌+◌, ◌-◌, ◌<◌, ◌≤◌, List, [], ◌∷◌, ◌++◌, length, take, drop, Option, Some, None, Result, Ok, Err, inl, inr, refl, sym, ap, ◌∙◌, subst, append_assoc, append-nil, length-append, arith}
use Rattle.std.proofs.Math.Seq.{take-add, take-append-add}
use Rattle.std.proofs.lemmas.List.{take-append-drop, take-append-le}
use Rattle.std.specs.Prelude.{IsErrAnd, true, false, is_some}
use Rattle.std.proofs.lemmas.Bool.{cases_lt}
use Rattle.cli_spec.specs.Outcome.{Output, texts_of}
use Rattle.cli_spec.specs.declared.exit.Exit.{Exit}
use Rattle.cli_spec.specs.declared.exit.Exit.TheVariants.{Memory as out_of_memory}
use Rattle.base_io.specs.IoFaults.{HasCause}
use Rattle.base_io.specs.Sink.{Writes, WritesPart}
use Rattle.base_io.specs.StreamState.{ByteState, Change, change}
use Rattle.cli_errors.specs.declared.exit_line.Error.{Error}
use Rattle.cli_errors.specs.declared.exit_line.Error.TheVariants as aborts
use Rattle.run_spec.specs.runs.Account.{HaveNoExit}
use Rattle.run_spec.specs.runs.Commands.{Commands, OutputsFirst}
use Rattle.run_spec.proofs.runs.RunWriteLemmas.{writes_then, writes_nothing}
use Rattle.run_spec.proofs.runs.RunValueLemmas.{texts_of-append, texts_of-one}
use Rattle.run_loop.specs.work.Works.{Has, ItemsStay, AreOutput, FinishesIn, Aborts, AbortsWithin, AbortsSo, Feeds, FeedsSome}
use Rattle.run_loop.specs.work.GatheredOutput.{text_state, MayBreakAt, MayBreak, GathersTo, GathersUntil, GathersLast, Gathers, GathersOne, GathersSome}
use Rattle.run_loop.proofs.work.WorkFirstLemmas.{first_stays}

-- ---- a text in memory

abbrev grown : List ℕ → List ℕ → Change ByteState
grown old new = change (text_state old) (text_state new)

-- If a text is written to the sink in memory, then the text is appended to the bytes in memory.
writes_text : (old new text : List ℕ) → Writes (grown old new) text → new ≡ old ++ text
writes_text old new text write =
    let is : ◌≡◌ {A = Option (List ℕ)} (Some new) (Some (old ++ text)) = write.appended in cc is

-- ---- writing to out fails in one of several outputs

-- The outputs for some items were written, followed by a proper part of the next output.
pub record FailsIn (out : Change ByteState) (more : List Output) : Type 0 where
  pub first : List Output
  pub next : Output
  pub later : List Output
  pub more_is : more ≡ first ++ next ∷ later
  pub between : ByteState
  pub write : Writes (change out.before between) (texts_of first)
  pub part : WritesPart (change between out.after) next.text

module _ (q : ByteState) (faults : ℕ) (cause : HasCause faults q.faults true) where
  abbrev from : Option (List ℕ) → Change ByteState
  from bytes = change (record { bytes = bytes; faults = faults }) q

  fails_inconclusive :
      is_some q.bytes ≡ false → (more : List Output) → (texts_of more ≡ [] → ⊥)
      → FailsIn (from None) more
  fails_inconclusive known [] some = absurd (some refl)
  fails_inconclusive known (output ∷ more) some = record {
    first = [];
    next = output;
    later = more;
    more_is = refl;
    between = record { bytes = None; faults = faults };
    write = writes_nothing (record { bytes = None; faults = faults });
    part = record { appended = tt; known = known; cause = cause };
  }

  module _ (known : is_some q.bytes ≡ true) where
    -- The first `n` bytes of the outputs were appended.
    abbrev Came : List ℕ → List Output → ℕ → Type 0
    Came before more n = q.bytes ≡ Some (before ++ take n (texts_of more))

    abbrev ended_by : List ℕ → ByteState
    ended_by before = record { bytes = Some before; faults = faults }

    known_here :
        (before : List ℕ) (output : Output) (more : List Output) (n : ℕ) → n < length output.text
        → Came before (output ∷ more) n → FailsIn (from (Some before)) (output ∷ more)
    known_here before output more n less is = record {
      first = [];
      next = output;
      later = more;
      more_is = refl;
      between = ended_by before;
      write = writes_nothing (ended_by before);
      part = record {
        appended = (
          n,
          less,
          is ∙ ap (λ t. Some (before ++ t))
              (take-append-le n output.text (texts_of more) (omega (arith, less))),
        );
        known = known;
        cause = cause;
      };
    }

    known_there :
        (before : List ℕ) (output : Output) (more : List Output) (n : ℕ) → length output.text ≤ n
        → n < length (texts_of (output ∷ more)) → Came before (output ∷ more) n
        → ((before : List ℕ) (n : ℕ) → n < length (texts_of more) → Came before more n
        → FailsIn (from (Some before)) more)
        → FailsIn (from (Some before)) (output ∷ more)
    known_there before output more n all few is later =
        let left = n - length output.text in
        let number : n ≡ length output.text + left = omega (arith, all) in
        let size = length-append output.text (texts_of more) in
        let rest : Came (before ++ output.text) more left =
        is ∙ (ap (λ k. Some (before ++ take k (output.text ++ texts_of more))) number
        ∙ (ap (λ t. Some (before ++ t)) (take-append-add output.text (texts_of more) left)
        ∙ ap (λ t. Some t) (sym (append_assoc before output.text (take left (texts_of more)))))) in
        let next = later (before ++ output.text) left (omega (arith, few, number, size)) rest in
        let first_written : Writes (change (ended_by before) (ended_by (before ++ output.text))) output.text =
        record {
          appended = refl;
          known = refl;
          cause = record { never_falls = omega arith; rose = tt; kept = refl; at_last = λ e. e };
        } in
        record {
          first = output ∷ next.first;
          next = next.next;
          later = next.later;
          more_is = ap (λ m. output ∷ m) next.more_is;
          between = next.between;
          write = writes_then (ended_by before) (ended_by (before ++ output.text)) next.between
              output.text (texts_of next.first) first_written next.write;
          part = next.part;
        }

    fails_known :
        (before : List ℕ) (more : List Output) (n : ℕ) → n < length (texts_of more)
        → Came before more n → FailsIn (from (Some before)) more
    fails_known before [] n few is = absurd (omega (arith, few))
    fails_known before (output ∷ more) n few is =
        elim (cases_lt n (length output.text)) [
          | inl less ↦ known_here before output more n less is
          | inr all ↦
              known_there before output more n all few is
              (λ before n few is. fails_known before more n few is)
        ]

  fails_by :
      (bytes : Option (List ℕ)) (more : List Output) → (texts_of more ≡ [] → ⊥)
      → WritesPart (from bytes) (texts_of more) → FailsIn (from bytes) more
  fails_by None more some part = fails_inconclusive part.known more some
  fails_by (Some before) more some part =
      let a = part.appended in fails_known part.known before more a.0 a.1 a.2

fails_in :
    (o q : ByteState) (more : List Output) → (texts_of more ≡ [] → ⊥)
    → WritesPart (change o q) (texts_of more) → FailsIn (change o q) more
fails_in o q more some part = fails_by q o.faults part.cause o.bytes more some part

-- ---- one more output

none_split :
    (first later : List Output) (next : Output) → ◌≡◌ {A = List Output} [] (first ++ next ∷ later) → ⊥
none_split [] later next same = cc same
none_split (output ∷ first) later next same = cc same

-- If a list with a last element is split at an element, then the element is the last element or
-- precedes the last element.
last_split :
    (more first later : List Output) (last next : Output)
    → more ++ last ∷ [] ≡ first ++ next ∷ later
    → ((more ≡ first) × (last ≡ next))
    ⊎ ((before : List Output) × (more ≡ first ++ next ∷ before))
last_split [] [] later last next same = let is : last ≡ next = cc same in inl (refl, is)
last_split [] (output ∷ first) later last next same =
    let rest : ◌≡◌ {A = List Output} [] (first ++ next ∷ later) = cc same in
    absurd (none_split first later next rest)
last_split (output ∷ more) [] later last next same =
    let is : output ≡ next = cc same in inr (more, ap (λ s. s ∷ more) is)
last_split (output ∷ more) (known ∷ first) later last next same =
    let is : output ≡ known = cc same in
    let rest : more ++ last ∷ [] ≡ first ++ next ∷ later = cc same in
    elim (last_split more first later last next rest) [
      | inl both ↦ inl (ap (λ s. s ∷ more) is ∙ ap (λ m. known ∷ m) both.0, both.1)
      | inr some ↦ inr (some.0, ap (λ s. s ∷ more) is ∙ ap (λ m. known ∷ m) some.1)
    ]

-- If a list of two parts is split at an element, then the element is in the first part or in the
-- second part.
append_split :
    (xs ys first later : List Output) (next : Output) → xs ++ ys ≡ first ++ next ∷ later
    → ((before : List Output) × (xs ≡ first ++ next ∷ before))
    ⊎ ((between : List Output) × (first ≡ xs ++ between) × (ys ≡ between ++ next ∷ later))
append_split [] ys first later next same = inr (first, refl, same)
append_split (x ∷ xs) ys [] later next same =
    let is : x ≡ next = cc same in inl (xs, ap (λ s. s ∷ xs) is)
append_split (x ∷ xs) ys (y ∷ first) later next same =
    let is : x ≡ y = cc same in
    let rest : xs ++ ys ≡ first ++ next ∷ later = cc same in
    elim (append_split xs ys first later next rest) [
      | inl some ↦ inl (some.0, ap (λ s. s ∷ xs) is ∙ ap (λ m. y ∷ m) some.1)
      | inr split ↦
          inr (
            split.0,
            ap (λ m. y ∷ m) split.1 ∙ ap (λ s. s ∷ (xs ++ split.0)) (sym is),
            split.2,
          )
    ]

module _ {A : Type 0} (c : Commands A) (a : A) where
  -- ---- one item

  -- If the item ends the run without output, or the run is finished after the item, then
  -- `GathersOne` holds.
  pub one_stopped :
      (before after : Has) (buffered old new : List ℕ) (exit : Exit)
      → Feeds c a before after buffered (grown old new) (Err (aborts.Exit exit))
      → GathersOne c a before after buffered old new (Err (aborts.Exit exit))
  one_stopped before after buffered old new exit feeds = λ bytes output there.
      by bytes output (feeds bytes output there) where
        by : (bytes : List ℕ) (output : List Output)
            → Aborts c a bytes buffered output (grown old new) (aborts.Exit exit)
            → ((holds : HaveNoExit c a bytes output)
            × (c.Exits a holds.items (holds.rest ++ buffered) exit ⊎ (exit ≡ out_of_memory))
            × (new ≡ old))
            ⊎ FinishesIn c a bytes buffered output (grown old new) (aborts.Exit exit)
        by bytes output (inl (holds, why, none)) =
            inl (holds, why, writes_text old new [] none ∙ append-nil old)
        by bytes output (inr f) = inr f

  -- ---- the items so far

  pub gathers_none :
      (has : Has) (buffered text bytes : List ℕ) (output : List Output) → has bytes output → text ≡ []
      → GathersTo c a has buffered 0 text bytes output
  gathers_none has buffered text bytes output there none = record {
    more = [];
    there = subst (λ b. has b (output ++ [])) (sym (append-nil bytes))
        (subst (λ s. has bytes s) (sym (append-nil output)) there);
    text_is = none;
    may_break = λ first later next same. absurd (none_split first later next same);
  }

  module _ (buffered bytes : List ℕ) (output : List Output) where
    -- If writing may fail in the outputs so far and in the last output, then writing may fail in
    -- any of the outputs.
    pub may_break_last :
        (more : List Output) (last : Output) → MayBreak c a bytes output buffered more
        → MayBreakAt c a bytes output buffered more last
        → MayBreak c a bytes output buffered (more ++ last ∷ [])
    may_break_last more last before at_last =
        λ first later next same. elim (last_split more first later last next same) [
          | inl both ↦
              subst (λ f. MayBreakAt c a bytes output buffered f next) both.0
              (subst (λ s. MayBreakAt c a bytes output buffered more s) both.1 at_last)
          | inr some ↦ before first some.0 next some.1
        ]

  module _ (stay : ItemsStay c a) (buffered bytes : List ℕ) (output : List Output) (t n : ℕ) where
    abbrev rest : List ℕ
    rest = drop t buffered

    all_buffered :
        ((bytes ++ take t buffered) ++ take n rest) ++ drop n rest ≡ bytes ++ buffered
    all_buffered =
        append_assoc (bytes ++ take t buffered) (take n rest) (drop n rest)
        ∙ (ap (λ r. (bytes ++ take t buffered) ++ r) (take-append-drop n rest)
        ∙ (append_assoc bytes (take t buffered) rest
        ∙ ap (λ r. bytes ++ r) (take-append-drop t buffered)))

    may_break_more :
        (more new : List Output) → length new ≤ 1 → MayBreak c a bytes output buffered more
        → HaveNoExit c a (bytes ++ take t buffered) (output ++ more)
        → HaveNoExit c a ((bytes ++ take t buffered) ++ take n rest) ((output ++ more) ++ new)
        → MayBreak c a bytes output buffered (more ++ new)
    may_break_more more [] few before holds then =
        subst (λ m. MayBreak c a bytes output buffered m) (sym (append-nil more)) before
    may_break_more more (last ∷ []) few before holds then =
        may_break_last buffered bytes output more last before at_last where
          at_last : MayBreakAt c a bytes output buffered more last
          at_last = record {
            done = take t buffered;
            rest = rest;
            split = sym (take-append-drop t buffered);
            holds = holds;
            are_output = (
              then.items,
              then.rest ++ drop n rest,
              subst (λ b. OutputsFirst c a b then.items ((output ++ more) ++ last ∷ [])
                  (then.rest ++ drop n rest)) all_buffered
                  (first_stays c a stay ((bytes ++ take t buffered) ++ take n rest) then.items
                  ((output ++ more) ++ last ∷ []) then.rest (drop n rest) then.first),
            );
          }
    may_break_more more (one ∷ two ∷ new) few before holds then = absurd (omega (arith, few))

  module _ (buffered bytes : List ℕ) (output : List Output) (t : ℕ) where
    abbrev left : List ℕ
    left = drop t buffered

    -- Suppose writing may fail in the outputs so far, and in the outputs for the next bytes. Then
    -- writing may fail in any of the outputs.
    may_break_some :
        (more new : List Output) → MayBreak c a bytes output buffered more
        → MayBreak c a (bytes ++ take t buffered) (output ++ more) left new
        → MayBreak c a bytes output buffered (more ++ new)
    may_break_some more new before then = λ first later next same.
        elim (append_split more new first later next same) [
          | inl some ↦ before first some.0 next some.1
          | inr split ↦
              subst (λ f. MayBreakAt c a bytes output buffered f next) (sym split.1)
              (later_at split.0 next (then split.0 later next split.2))
        ]
      where
        both : (bytes ++ take t buffered) ++ left ≡ bytes ++ buffered
        both =
            append_assoc bytes (take t buffered) left
            ∙ ap (λ r. bytes ++ r) (take-append-drop t buffered)

        later_at : (between : List Output) (next : Output)
            → MayBreakAt c a (bytes ++ take t buffered) (output ++ more) left between next
            → MayBreakAt c a bytes output buffered (more ++ between) next
        later_at between next b = record {
          done = take t buffered ++ b.done;
          rest = b.rest;
          split = sym (take-append-drop t buffered)
              ∙ (ap (λ r. take t buffered ++ r) b.split
              ∙ sym (append_assoc (take t buffered) b.done b.rest));
          holds = subst (λ b. HaveNoExit c a b (output ++ (more ++ between)))
              (append_assoc bytes (take t buffered) b.done)
              (subst (λ s. HaveNoExit c a ((bytes ++ take t buffered) ++ b.done) s)
              (append_assoc output more between) b.holds);
          are_output = subst (λ b. AreOutput c a b ((output ++ (more ++ between)) ++ next ∷ [])) both
              (subst (λ s. AreOutput c a ((bytes ++ take t buffered) ++ left) (s ++ next ∷ []))
              (append_assoc output more between) b.are_output);
        }

  -- ---- some items

  -- If `GathersOne` holds for a number of bytes, then `GathersSome` holds.
  pub some_of_one :
      ItemsStay c a → (before after : Has) (buffered old new : List ℕ) (n : ℕ)
      → GathersOne c a before after buffered old new (Ok n)
      → GathersSome c a before after buffered old new (Ok n)
  some_of_one stay before after buffered old new n (some, fits, one) = (
    some,
    fits,
    λ bytes output there.
        let f = one bytes output there in (
          texts_of f.1,
          record {
            more = f.1;
            there = f.3;
            text_is = refl;
            may_break = may_break_more stay buffered bytes output 0 n [] f.1 f.2
                (λ first later next same. absurd (none_split first later next same))
                (subst (λ b. HaveNoExit c a b (output ++ [])) (sym (append-nil bytes))
                (subst (λ s. HaveNoExit c a bytes s) (sym (append-nil output)) f.0))
                (subst (λ b. HaveNoExit c a (b ++ take n buffered) ((output ++ []) ++ f.1)) (sym (append-nil bytes))
                (subst (λ s. HaveNoExit c a (bytes ++ take n buffered) (s ++ f.1)) (sym (append-nil output)) f.4));
          },
          f.5,
        ),
  )

  pub some_by_one :
      ItemsStay c a → (before mid after : Has) (buffered old new : List ℕ) (result : Result ℕ Error)
      → ((bytes : List ℕ) (output : List Output) → before bytes output → mid bytes output)
      → GathersOne c a mid after buffered old new result
      → GathersSome c a before after buffered old new result
  some_by_one stay before mid after buffered old new (Ok n) unchanged one =
      let s = some_of_one stay mid after buffered old new n one in
      (s.0, s.1, λ bytes output there. s.2 bytes output (unchanged bytes output there))
  some_by_one stay before mid after buffered old new (Err (aborts.Exit exit)) unchanged one =
      λ bytes output there. one bytes output (unchanged bytes output there)
  some_by_one stay before mid after buffered old new (Err aborts.WriteFault) unchanged never = never

  module _ (before has after : Has) (buffered text new : List ℕ) (t : ℕ) where
    -- For all bytes and outputs before the current bytes, the output for some items is collected.
    abbrev SoFar : Type 0
    SoFar = (bytes : List ℕ) (output : List Output) → before bytes output
        → GathersTo c a has buffered t text bytes output

    pub gathers_more :
        SoFar → (n : ℕ)
        → GathersSome c a has after (drop t buffered) text new (Ok n)
        → (bytes : List ℕ) (output : List Output) → before bytes output
        → GathersTo c a after buffered (t + n) new bytes output
    gathers_more so_far n (some, fits, next) bytes output there =
        let s = so_far bytes output there in
        let (gained, f, grown) = next (bytes ++ take t buffered) (output ++ s.more) s.there in
        let taken : (bytes ++ take t buffered) ++ take n (drop t buffered) ≡ bytes ++ take (t + n) buffered =
        append_assoc bytes (take t buffered) (take n (drop t buffered))
        ∙ ap (λ b. bytes ++ b) (sym (take-add t n buffered)) in
        record {
          more = s.more ++ f.more;
          there = subst (λ b. after b (output ++ (s.more ++ f.more))) taken
              (subst (λ all. after ((bytes ++ take t buffered) ++ take n (drop t buffered)) all)
              (append_assoc output s.more f.more) f.there);
          text_is = grown
              ∙ (ap (λ b. b ++ gained) s.text_is
              ∙ (ap (λ b. texts_of s.more ++ b) f.text_is ∙ sym (texts_of-append s.more f.more)));
          may_break = may_break_some buffered bytes output t s.more f.more s.may_break f.may_break;
        }

    gathers_exit :
        SoFar → (exit : Exit)
        → GathersOne c a has after (drop t buffered) text new (Err (aborts.Exit exit))
        → (bytes : List ℕ) (output : List Output) → before bytes output
        → GathersUntil c a buffered exit new bytes output ⊎ GathersLast c a buffered exit new bytes output
    gathers_exit so_far exit one bytes output there =
        by (one (bytes ++ take t buffered) (output ++ s.more) s.there) where
          s : GathersTo c a has buffered t text bytes output
          s = so_far bytes output there

          finished_there : FinishesIn c a (bytes ++ take t buffered) (drop t buffered) (output ++ s.more)
              (grown text new) (aborts.Exit exit) → GathersLast c a buffered exit new bytes output
          finished_there f =
              let split = take-append-drop t buffered in
              let all : (bytes ++ take t buffered) ++ drop t buffered ≡ bytes ++ buffered =
              append_assoc bytes (take t buffered) (drop t buffered) ∙ ap (λ b. bytes ++ b) split in
              let first = subst (λ b. OutputsFirst c a b f.items ((output ++ s.more) ++ f.next ∷ []) f.rest)
              all f.first in
              let at_last : MayBreakAt c a bytes output buffered s.more f.next = record {
                done = take t buffered;
                rest = drop t buffered;
                split = sym split;
                holds = f.holds;
                are_output = (f.items, f.rest, first);
              } in
              record {
                n = t;
                more = s.more;
                holds = f.holds;
                next = f.next;
                items = f.items;
                rest = f.rest;
                first = first;
                ok = f.ok;
                at = f.at;
                is = f.is;
                text_is = writes_text text new f.next.text f.write
                    ∙ (ap (λ b. b ++ f.next.text) s.text_is
                    ∙ sym (texts_of-append s.more (f.next ∷ [])
                    ∙ ap (λ b. texts_of s.more ++ b) (texts_of-one f.next)));
                may_break = may_break_last buffered bytes output s.more f.next s.may_break at_last;
              }

          by : ((holds : HaveNoExit c a (bytes ++ take t buffered) (output ++ s.more))
              × (c.Exits a holds.items (holds.rest ++ drop t buffered) exit
              ⊎ (exit ≡ out_of_memory))
              × (new ≡ text))
              ⊎ FinishesIn c a (bytes ++ take t buffered) (drop t buffered) (output ++ s.more)
              (grown text new) (aborts.Exit exit)
              → GathersUntil c a buffered exit new bytes output
              ⊎ GathersLast c a buffered exit new bytes output
          by (inl (holds, why, same)) = inl (record {
            n = t;
            more = s.more;
            holds = holds;
            why = why;
            text_is = same ∙ s.text_is;
            may_break = s.may_break;
          })
          by (inr f) = inr (finished_there f)

    gathers_err :
        SoFar → (any : Has) (error : Error)
        → GathersOne c a has after (drop t buffered) text new (Err error)
        → Gathers c a before any buffered new (Err error)
    gathers_err so_far any (aborts.Exit exit) one = gathers_exit so_far exit one
    gathers_err so_far any aborts.WriteFault never = never

    pub gathers_error :
        SoFar → (any : Has) (error : Error) (result : Result ℕ Error) → IsErrAnd result (λ e. e ≡ error)
        → GathersOne c a has after (drop t buffered) text new (Err error)
        → Gathers c a before any buffered new result
    gathers_error so_far any error (Ok n) is one = absurd is
    gathers_error so_far any error (Err e) is one =
        subst (λ e. Gathers c a before any buffered new (Err e)) (sym is)
        (gathers_err so_far any error one)

  -- ---- one byte after another

  -- If `GathersSome` holds for each of the first `n` bytes, then the output for the items in these
  -- bytes is collected.
  pub gathers_each :
      (has : ℕ → Has) (buffered : List ℕ) (text : ℕ → List ℕ) → text 0 ≡ [] → (n : ℕ)
      → ((k : ℕ) → k < n
      → GathersSome c a (has k) (has (k + 1)) (drop k buffered) (text k) (text (k + 1)) (Ok 1))
      → (bytes : List ℕ) (output : List Output) → has 0 bytes output
      → GathersTo c a (has n) buffered n (text n) bytes output
  gathers_each has buffered text none zero each bytes output there =
      gathers_none (has 0) buffered (text 0) bytes output there none
  gathers_each has buffered text none (suc n) each bytes output there =
      let so_far : SoFar (has 0) (has n) (has (n + 1)) buffered (text n) (text (n + 1)) n =
      gathers_each has buffered text none n (λ k less. each k (omega (arith, less))) in
      let next : n + 1 ≡ suc n = omega arith in
      subst (λ m. GathersTo c a (has m) buffered m (text m) bytes output) next
      (gathers_more (has 0) (has n) (has (n + 1)) buffered (text n) (text (n + 1)) n so_far 1
      (each n (omega arith)) bytes output there)

  -- ---- the outputs are written

  module _ (before after : Has) (buffered text : List ℕ) (o q : ByteState) where
    pub some_written :
        (result : Result ℕ Error) → Gathers c a before after buffered text result
        → Writes (change o q) text → FeedsSome c a before after buffered (change o q) result
    some_written (Ok n) (some, fits, gathers) write = (
      some,
      fits,
      λ bytes output there.
          let g = gathers bytes output there in
          (g.more, g.there, subst (λ t. Writes (change o q) t) g.text_is write),
    )
    some_written (Err (aborts.Exit exit)) gathers write = λ bytes output there.
        by bytes output (gathers bytes output there) where
          by : (bytes : List ℕ) (output : List Output)
              → GathersUntil c a buffered exit text bytes output
              ⊎ GathersLast c a buffered exit text bytes output
              → AbortsSo c a bytes output buffered (change o q) (aborts.Exit exit)
          by bytes output (inl g) = inl (record {
            done = take g.n buffered;
            buffered = drop g.n buffered;
            split = sym (take-append-drop g.n buffered);
            more = g.more;
            between = q;
            write = subst (λ t. Writes (change o q) t) g.text_is write;
            aborts = (g.holds, g.why, writes_nothing q);
          })
          by bytes output (inr g) = inr (record {
            done = take g.n buffered;
            buffered = drop g.n buffered;
            split = sym (take-append-drop g.n buffered);
            more = g.more;
            holds = g.holds;
            next = g.next;
            items = g.items;
            rest = g.rest;
            first = g.first;
            ok = g.ok;
            at = g.at;
            is = g.is;
            write = subst (λ t. Writes (change o q) t) g.text_is write;
          })
    some_written (Err aborts.WriteFault) never write = absurd never

    broken :
        (text ≡ [] → ⊥) → WritesPart (change o q) text → (bytes : List ℕ) (output more : List Output)
        → text ≡ texts_of more → MayBreak c a bytes output buffered more
        → AbortsWithin c a bytes output buffered (change o q) aborts.WriteFault
    broken some part bytes output more is may_break =
        let f = fails_in o q more (λ none. some (is ∙ none)) (subst (λ t. WritesPart (change o q) t) is part) in
        let b = may_break f.first f.later f.next f.more_is in
        record {
          done = b.done;
          buffered = b.rest;
          split = b.split;
          more = f.first;
          between = f.between;
          write = f.write;
          aborts = (
            b.holds,
            f.next,
            subst (λ x. AreOutput c a x ((output ++ f.first) ++ f.next ∷ []))
                (ap (λ r. bytes ++ r) b.split ∙ sym (append_assoc bytes b.done b.rest)) b.are_output,
            f.part,
          );
        }

    pub some_broken :
        (result : Result ℕ Error) → Gathers c a before after buffered text result
        → (text ≡ [] → ⊥) → WritesPart (change o q) text
        → FeedsSome c a before after buffered (change o q) (Err aborts.WriteFault)
    some_broken (Ok n) gathers some part = λ bytes output there.
        let g = gathers.2 bytes output there in
        inl (broken some part bytes output g.more g.text_is g.may_break)
    some_broken (Err (aborts.Exit exit)) gathers some part = λ bytes output there.
        by bytes output (gathers bytes output there) where
          by : (bytes : List ℕ) (output : List Output)
              → GathersUntil c a buffered exit text bytes output
              ⊎ GathersLast c a buffered exit text bytes output
              → AbortsSo c a bytes output buffered (change o q) aborts.WriteFault
          by bytes output (inl g) = inl (broken some part bytes output g.more g.text_is g.may_break)
          by bytes output (inr g) =
              inl (broken some part bytes output (g.more ++ g.next ∷ []) g.text_is g.may_break)
    some_broken (Err aborts.WriteFault) never some part = absurd never
