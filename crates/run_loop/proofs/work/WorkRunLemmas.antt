-- The state of the loop over the input, and the end of the run.
use Rattle.std.proofs.Common.{◌≡◌, ℕ, ◌+◌, ◌^◌, ◌<◌, ◌≤◌, Bool, List, [], ◌∷◌, ◌++◌, length, take, Result, Ok, Err, inl, inr, refl, sym, ap, ◌∙◌, subst, append_assoc, append-nil, length-append, arith}
use Rattle.std.proofs.lemmas.List.{length-take}
use Rattle.std.specs.Prelude.{IsErrAnd}
use Rattle.base_data.specs.model.Bytes.{AreBytes}
use Rattle.cli_spec.specs.Outcome.{ReadingEnd, at_end, at_fault, at_length, unasked, Output, outputs, exits, Reply, replies, texts_of}
use Rattle.cli_spec.specs.declared.exit.Exit.{Exit}
use Rattle.cli_spec.specs.declared.exit.Exit.TheVariants.{Finished as finished, ReadFault as read_fault, TooLong as too_long, Memory as out_of_memory}
use Rattle.base_io.specs.Sink.{Writes}
use Rattle.base_io.specs.Source.{TakesPrefix}
use Rattle.base_io.specs.StreamState.{ByteState, SourceState, Change, change}
use Rattle.cli_errors.specs.declared.exit_line.Error.{Error}
use Rattle.cli_errors.specs.declared.exit_line.Error.TheVariants as aborts
use Rattle.run_spec.specs.runs.Account.{HaveNoExit, IsPaced}
use Rattle.run_spec.specs.runs.Commands.{Item, Commands, OutputsFirst, IsLast, Answers}
use Rattle.run_spec.specs.runs.Given.{chunk_limit, Gathers}
use Rattle.run_spec.proofs.runs.RunWriteLemmas.{writes_then, writes_nothing}
use Rattle.run_spec.proofs.runs.RunTakeLemmas.{taken, took_nothing, took_more, took_end, took_fault, took_length}
use Rattle.run_spec.proofs.runs.RunValueLemmas.{texts_of-append, texts_of-one}
use Rattle.run_loop.specs.work.Works.{Has, ItemsStay, AreOutput, AbortsIn, FinishesWithin, AbortsSo, FeedsAll, WritesLast, EndsAt}
use Rattle.run_loop.specs.work.Runs.{EndsRun, Runs}
use Rattle.run_loop.proofs.work.WorkFirstLemmas.{first_stays, none_first}

-- The first `count` bytes of the input are consumed and do not end the run. The outputs for the
-- items of the consumed bytes are written.
pub record RunSoFar (has : Has) (count : ℕ) (input : Change SourceState) (out : Change ByteState) : Type 0 where
  pub bytes : List ℕ
  pub output : List Output
  pub counted : length bytes ≡ count
  pub gathers : Gathers input (taken bytes unasked)
  pub there : has bytes output
  pub write : Writes out (texts_of output)

pub run_begins :
    (has : Has) (i : SourceState) (o : ByteState) → has [] [] → RunSoFar has 0 (change i i) (change o o)
run_begins has i o there = record {
  bytes = [];
  output = [];
  counted = refl;
  gathers = took_nothing i;
  there = there;
  write = writes_nothing o;
}

module _ {A : Type 0} (c : Commands A) (a : A) where
  -- If the consumed bytes do not end the run, then no chunk is read after a chunk that ends the
  -- run.
  paced_whole :
      (bytes : List ℕ) (output : List Output) (until : ReadingEnd) → HaveNoExit c a bytes output
      → IsPaced c a (taken bytes until) output
  paced_whole bytes output until holds = record {
    earlier = bytes;
    buffered = [];
    bytes_are = sym (append-nil bytes);
    before = output;
    holds = holds;
    output_are = inl refl;
    chunk = omega arith;
    asked = inr refl;
  }

  -- ---- the final reply

  -- If the outputs for the items and the final output are written, then the list of all outputs is
  -- written.
  write_final :
      (output : List Output) (final : Output) (o p q : ByteState) → Writes (change o p) (texts_of output)
      → Writes (change p q) final.text → Writes (change o q) (texts_of (output ++ final ∷ []))
  write_final output final o p q before write =
      subst (λ text. Writes (change o q) text)
      (sym (texts_of-append output (final ∷ []) ∙ ap (λ text. texts_of output ++ text) (texts_of-one final)))
      (writes_then o p q (texts_of output) final.text before write)

  write_none :
      (output : List Output) (o p q : ByteState) → Writes (change o p) (texts_of output)
      → Writes (change p q) [] → Writes (change o q) (texts_of output)
  write_none output o p q before none =
      subst (λ text. Writes (change o q) text) (append-nil (texts_of output))
      (writes_then o p q (texts_of output) [] before none)

  -- For each kind of final reply, what the written final reply implies for the run.
  module _ (bytes : List ℕ) (until : ReadingEnd) (output : List Output) (items : List Item) (rest : List ℕ)
      (answers : (last : Reply) → c.Ends a items rest last
      → Answers c a (taken bytes until) (replies output last)) where
    last_written :
        (o p q : ByteState) (result : Result Bool Error) → Writes (change o p) (texts_of output)
        → WritesLast c a output items rest (change p q) result
        → EndsRun c a (taken bytes until) output (change o q) result
    last_written o p q (Ok ok) before (final, ends, is, write) =
        (final, answers (outputs final) ends, is, write_final output final o p q before write)
    last_written o p q (Err (aborts.Exit exit)) before (inl ends, none) =
        (inl (answers (exits exit) ends), write_none output o p q before none)
    last_written o p q (Err (aborts.Exit exit)) before (inr memory, none) =
        (inr memory, write_none output o p q before none)
    last_written o p q (Err aborts.WriteFault) before (final, ends, part) =
        (final, inr (answers (outputs final) ends), (p, before, part))

  -- ---- without an input

  pub run_alone :
      (has : Has) (i : SourceState) (o p : ByteState) (result : Result Bool Error) → (c.Reads a → ⊥) → has [] []
      → EndsAt c a has (change o p) result → Runs c a (change i i) (change o p) result
  run_alone has i o p result unread there ends =
      let (holds, last) = ends [] [] there in
      let none = none_first c a holds.items holds.rest holds.first in
      let at : WritesLast c a [] [] [] (change o p) result =
      subst (λ r. WritesLast c a [] [] r (change o p) result) none.1
      (subst (λ items. WritesLast c a [] items holds.rest (change o p) result) none.0 last) in
      record {
        taken = taken [] unasked;
        gathers = took_nothing i;
        output = [];
        first = inr (unread, refl, refl);
        ends = last_written [] unasked [] [] []
            (λ last ends. inr (record { unread = unread; none = refl; last = ends }))
            o o p result (writes_nothing o) at;
      }

  -- ---- with an input

  -- If memory ran out before any byte of the input was read, then the run satisfies `Runs`.
  pub run_without_memory :
      c.Reads a → (i : SourceState) (o : ByteState) → HaveNoExit c a [] []
      → Runs c a (change i i) (change o o) (Err (aborts.Exit out_of_memory))
  run_without_memory reads i o holds = record {
    taken = taken [] unasked;
    gathers = took_nothing i;
    output = [];
    first = inl (reads, paced_whole [] [] unasked holds);
    ends = (inr refl, writes_nothing o);
  }

  module _ (reads : c.Reads a) (has : Has) (count : ℕ) (i j : SourceState) (o p : ByteState)
      (s : RunSoFar has count (change i j) (change o p)) where
    few : count < 2 ^ 48 → length s.bytes < 2 ^ 48
    few short = let counted = s.counted in omega (arith, counted, short)

    -- If the input contains no exit reason, then the last reply is the final reply.
    closed :
        (holds : HaveNoExit c a s.bytes s.output) (until : ReadingEnd) (last : Reply)
        → IsLast c a holds.items holds.rest until last
        → Answers c a (taken s.bytes until) (replies s.output last)
    closed holds until last is =
        inl (reads, record { items = holds.items; rest = holds.rest; first = holds.first; last = is })

    pub run_too_long :
        HaveNoExit c a s.bytes s.output → 2 ^ 48 ≤ count
        → Runs c a (change i j) (change o p) (Err (aborts.Exit too_long))
    run_too_long holds long =
        let counted = s.counted in record {
          taken = taken s.bytes at_length;
          gathers = took_length i j s.bytes s.gathers (omega (arith, counted, long));
          output = s.output;
          first = inl (reads, paced_whole s.bytes s.output at_length holds);
          ends = (inl (closed holds at_length (exits too_long) (inr (holds.goes_on, refl))), s.write);
        }

    module _ {E : Type 0} (k : SourceState) (buffer : List ℕ) (short : count < 2 ^ 48) where
      pub run_fault :
          HaveNoExit c a s.bytes s.output → (e : E) → TakesPrefix {E = E} j k (Err e) buffer
          → Runs c a (change i k) (change o p) (Err (aborts.Exit read_fault))
      run_fault holds e moved = record {
        taken = taken s.bytes at_fault;
        gathers = took_fault i j k s.bytes buffer s.gathers e (few short) moved;
        output = s.output;
        first = inl (reads, paced_whole s.bytes s.output at_fault holds);
        ends = (inl (closed holds at_fault (exits read_fault) (inr (holds.goes_on, refl))), s.write);
      }

      pub run_ends :
          (q : ByteState) (result : Result Bool Error) → 0 < length buffer
          → TakesPrefix {E = E} j k (Ok 0) buffer → EndsAt c a has (change p q) result
          → Runs c a (change i k) (change o q) result
      run_ends q result some moved ends =
          let (holds, last) = ends s.bytes s.output s.there in record {
            taken = taken s.bytes at_end;
            gathers = took_end i j k s.bytes buffer s.gathers some (few short) moved;
            output = s.output;
            first = inl (reads, paced_whole s.bytes s.output at_end holds);
            ends = last_written s.bytes at_end s.output holds.items holds.rest
                (λ last ends. closed holds at_end last (inr (holds.goes_on, ends)))
                o p q result s.write last;
          }

      module _ (chunk : length buffer ≤ chunk_limit) (n : ℕ) (some : 0 < n) (fits : n ≤ length buffer)
          (moved : TakesPrefix {E = E} j k (Ok n) buffer) (are_bytes : AreBytes (take n buffer))
          (q : ByteState) where
        more_taken : Gathers (change i k) (taken (s.bytes ++ take n buffer) unasked)
        more_taken =
            took_more i j k s.bytes buffer s.gathers n some (few short) chunk moved are_bytes

        pub run_more :
            (after : Has) → FeedsAll c a {U = Unit {0}} has after (take n buffer) (change p q) (Ok tt)
            → RunSoFar after (count + n) (change i k) (change o q)
        run_more after feeds =
            let (more, there, write) = feeds s.bytes s.output s.there in
            let counted = s.counted in
            let size = length-append s.bytes (take n buffer) in
            let whole : length (take n buffer) ≡ n = omega (arith, length-take n buffer, fits) in
            record {
              bytes = s.bytes ++ take n buffer;
              output = s.output ++ more;
              counted = omega (arith, counted, size, whole);
              gathers = more_taken;
              there = there;
              write = subst (λ text. Writes (change o q) text) (sym (texts_of-append s.output more))
                  (writes_then o p q (texts_of s.output) (texts_of more) s.write write);
            }

        -- ---- the run ends within the chunk

        module _ (stay : ItemsStay c a) (done buffered : List ℕ)
            (split : take n buffer ≡ done ++ buffered) (all : List Output) (r : ByteState)
            (write : Writes (change o r) (texts_of all)) where
          bytes_are : s.bytes ++ take n buffer ≡ (s.bytes ++ done) ++ buffered
          bytes_are =
              ap (λ b. s.bytes ++ b) split ∙ sym (append_assoc s.bytes done buffered)

          few_buffered : length buffered ≤ chunk_limit
          few_buffered =
              let size = ap length split ∙ length-append done buffered in
              let whole = length-take n buffer in omega (arith, size, whole, chunk)

          -- If the consumed bytes do not end the run, then no chunk is read after a chunk that ends
          -- the run.
          paced :
              HaveNoExit c a (s.bytes ++ done) all
              → IsPaced c a (taken (s.bytes ++ take n buffer) unasked) all
          paced holds = record {
            earlier = s.bytes ++ done;
            buffered = buffered;
            bytes_are = bytes_are;
            before = all;
            holds = holds;
            output_are = inl refl;
            chunk = few_buffered;
            asked = inl refl;
          }

          aborted_at :
              (holds : HaveNoExit c a (s.bytes ++ done) all) (exit : Exit)
              → c.Exits a holds.items (holds.rest ++ buffered) exit
              → Answers c a (taken (s.bytes ++ take n buffer) unasked) (replies all (exits exit))
          aborted_at holds exit at = inl (
            reads,
            record {
              items = holds.items;
              rest = holds.rest ++ buffered;
              first =
                  subst (λ b. OutputsFirst c a b holds.items all (holds.rest ++ buffered)) (sym bytes_are)
                  (first_stays c a stay (s.bytes ++ done) holds.items all holds.rest buffered holds.first);
              last = inl (exit, at, refl, refl);
            },
          )

          aborted :
              (error : Error) → AbortsIn c a (s.bytes ++ done) buffered all (change r q) error
              → Runs c a (change i k) (change o q) (Err error)
          aborted (aborts.Exit exit) (holds, inl at, none) = record {
            taken = taken (s.bytes ++ take n buffer) unasked;
            gathers = more_taken;
            output = all;
            first = inl (reads, paced holds);
            ends = (inl (aborted_at holds exit at), write_none all o r q write none);
          }
          aborted (aborts.Exit exit) (holds, inr memory, none) = record {
            taken = taken (s.bytes ++ take n buffer) unasked;
            gathers = more_taken;
            output = all;
            first = inl (reads, paced holds);
            ends = (inr memory, write_none all o r q write none);
          }
          aborted aborts.WriteFault (holds, next, are_output, part) = record {
            taken = taken (s.bytes ++ take n buffer) unasked;
            gathers = more_taken;
            output = all;
            first = inl (reads, paced holds);
            ends = (
              next,
              inl (reads, subst (λ b. AreOutput c a b (all ++ next ∷ [])) (sym bytes_are) are_output),
              (r, write, part),
            );
          }

        -- If the run is finished within the chunk, then the run satisfies `Runs`.
        finished_so :
            (error : Error) → FinishesWithin c a s.bytes s.output (take n buffer) (change p q) error
            → Runs c a (change i k) (change o q) (Err error)
        finished_so error f =
            let all : List Output = (s.output ++ f.more) ++ f.next ∷ [] in
            let size = ap length f.split ∙ length-append f.done f.buffered in
            let few = length-take n buffer in
            let texts : texts_of all ≡ texts_of s.output ++ texts_of (f.more ++ f.next ∷ []) =
            ap texts_of (append_assoc s.output f.more (f.next ∷ []))
            ∙ texts_of-append s.output (f.more ++ f.next ∷ []) in
            let write : Writes (change o q) (texts_of all) =
            subst (λ text. Writes (change o q) text) (sym texts)
            (writes_then o p q (texts_of s.output) (texts_of (f.more ++ f.next ∷ [])) s.write f.write) in
            subst (λ e. Runs c a (change i k) (change o q) (Err e)) (sym f.is) (record {
              taken = taken (s.bytes ++ take n buffer) unasked;
              gathers = more_taken;
              output = all;
              first = inl (
                reads,
                record {
                  earlier = s.bytes ++ f.done;
                  buffered = f.buffered;
                  bytes_are = ap (λ b. s.bytes ++ b) f.split
                      ∙ sym (append_assoc s.bytes f.done f.buffered);
                  before = s.output ++ f.more;
                  holds = f.holds;
                  output_are = inr (record {
                    next = f.next;
                    output_are = refl;
                    items = f.items;
                    rest = f.rest;
                    first = f.first;
                    ok = f.ok;
                    at = f.at;
                    no_more = refl;
                  });
                  chunk = omega (arith, size, few, chunk);
                  asked = inl refl;
                },
              );
              ends = (
                inl (inl (
                  reads,
                  record {
                    items = f.items;
                    rest = f.rest;
                    first = f.first;
                    last = inl (finished f.ok, f.at, refl, refl);
                  },
                )),
                write,
              );
            })

        pub run_aborts :
            ItemsStay c a → (after : Has) (error : Error) (result : Result Bool Error)
            → IsErrAnd result (λ e. e ≡ error)
            → FeedsAll c a {U = Unit {0}} has after (take n buffer) (change p q) (Err error)
            → Runs c a (change i k) (change o q) result
        run_aborts stay after error (Ok ok) is feeds = absurd is
        run_aborts stay after error (Err e) is feeds =
            subst (λ e. Runs c a (change i k) (change o q) (Err e)) (sym is)
            (by (feeds s.bytes s.output s.there)) where
              by : AbortsSo c a s.bytes s.output (take n buffer) (change p q) error
                  → Runs c a (change i k) (change o q) (Err error)
              by (inl h) =
                  let before : Writes (change o h.between) (texts_of (s.output ++ h.more)) =
                  subst (λ text. Writes (change o h.between) text)
                  (sym (texts_of-append s.output h.more))
                  (writes_then o p h.between (texts_of s.output) (texts_of h.more) s.write h.write) in
                  aborted stay h.done h.buffered h.split (s.output ++ h.more) h.between before error h.aborts
              by (inr f) = finished_so error f
