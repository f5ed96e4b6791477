-- The state of the loop over the bytes of a chunk.
use Rattle.std.proofs.Common.{◌≡◌, ℕ, ◌+◌, ◌<◌, List, [], ◌++◌, length, take, drop, ◌∷◌, Result, Ok, Err, inl, inr, refl, sym, ap, ◌∙◌, subst, append_assoc, append-nil, length-append, arith}
use Rattle.std.proofs.lemmas.List.{length-drop, take-append-drop}
use Rattle.std.specs.Prelude.{Bool, IsErrAnd}
use Rattle.cli_spec.specs.Outcome.{Output, texts_of}
use Rattle.base_io.specs.Sink.{Writes}
use Rattle.base_io.specs.StreamState.{ByteState, Change, change}
use Rattle.cli_errors.specs.declared.exit_line.Error.{Error}
use Rattle.run_spec.specs.runs.Commands.{Commands, OutputsFirst}
use Rattle.run_spec.specs.runs.Account.{HaveNoExit}
use Rattle.run_spec.proofs.runs.RunWriteLemmas.{writes_then, writes_nothing}
use Rattle.run_spec.proofs.runs.RunValueLemmas.{texts_of-append}
use Rattle.run_loop.specs.work.Works.{Has, AbortsIn, AbortsWithin, FinishesWithin, AbortsSo, Feeds, FeedsSome, FeedsAll, EndsAt}

-- The bytes of the chunk before `rest` are consumed, and the outputs for the items of the consumed
-- bytes are written.
pub record ChunkSoFar (has : Has) (bytes : List ℕ) (output : List Output) (chunk rest : List ℕ)
    (out : Change ByteState) : Type 0 where
  pub done : List ℕ
  pub more : List Output
  pub split : chunk ≡ done ++ rest
  pub there : has (bytes ++ done) (output ++ more)
  pub write : Writes out (texts_of more)

pub chunk_begins :
    (has : Has) (bytes : List ℕ) (output : List Output) (chunk : List ℕ) (o : ByteState)
    → has bytes output → ChunkSoFar has bytes output chunk chunk (change o o)
chunk_begins has bytes output chunk o there = record {
  done = [];
  more = [];
  split = refl;
  there = subst (λ b. has b (output ++ [])) (sym (append-nil bytes))
      (subst (λ s. has bytes s) (sym (append-nil output)) there);
  write = writes_nothing o;
}

module _ {A : Type 0} (c : Commands A) (a : A) (has : Has) (bytes : List ℕ) (output : List Output)
    (chunk rest : List ℕ) (o p : ByteState)
    (s : ChunkSoFar has bytes output chunk rest (change o p)) where
  -- If earlier bytes and a chunk stay below a limit, then all consumed bytes and the rest of the
  -- chunk stay below the limit.
  pub chunk_room :
      (limit : ℕ) → length bytes + length chunk < limit
      → length (bytes ++ s.done) + length rest < limit
  chunk_room limit short =
      let size : length chunk ≡ length s.done + length rest =
      ap length s.split ∙ length-append s.done rest in
      let all = length-append bytes s.done in omega (arith, size, all, short)

  pub chunk_more :
      (q : ByteState) (after : Has) (n : ℕ) → FeedsSome c a has after rest (change p q) (Ok n)
      → ChunkSoFar after bytes output chunk (drop n rest) (change o q)
  chunk_more q after n (some, fits, feeds) =
      let (more, there, write) = feeds (bytes ++ s.done) (output ++ s.more) s.there in record {
        done = s.done ++ take n rest;
        more = s.more ++ more;
        split = s.split ∙ (ap (λ r. s.done ++ r) (sym (take-append-drop n rest))
            ∙ sym (append_assoc s.done (take n rest) (drop n rest)));
        there = subst (λ b. after b (output ++ (s.more ++ more)))
            (append_assoc bytes s.done (take n rest))
            (subst (λ all. after ((bytes ++ s.done) ++ take n rest) all)
            (append_assoc output s.more more) there);
        write = subst (λ text. Writes (change o q) text) (sym (texts_of-append s.more more))
            (writes_then o p q (texts_of s.more) (texts_of more) s.write write);
      }

  pub chunk_ends :
      rest ≡ [] → (more : List Output) × has (bytes ++ chunk) (output ++ more)
      × Writes (change o p) (texts_of more)
  chunk_ends none = (
    s.more,
    subst (λ p. has (bytes ++ p) (output ++ s.more))
        (sym (s.split ∙ (ap (λ r. s.done ++ r) none ∙ append-nil s.done))) s.there,
    s.write,
  )

  chunk_aborts :
      (q : ByteState) (error : Error)
      → AbortsWithin c a (bytes ++ s.done) (output ++ s.more) rest (change p q) error
      → AbortsWithin c a bytes output chunk (change o q) error
  chunk_aborts q error h = record {
    done = s.done ++ h.done;
    buffered = h.buffered;
    split = s.split ∙ (ap (λ r. s.done ++ r) h.split ∙ sym (append_assoc s.done h.done h.buffered));
    more = s.more ++ h.more;
    between = h.between;
    write = subst (λ text. Writes (change o h.between) text) (sym (texts_of-append s.more h.more))
        (writes_then o p h.between (texts_of s.more) (texts_of h.more) s.write h.write);
    aborts = subst (λ b. AbortsIn c a b h.buffered (output ++ (s.more ++ h.more)) (change h.between q) error)
        (append_assoc bytes s.done h.done)
        (subst (λ all. AbortsIn c a ((bytes ++ s.done) ++ h.done) h.buffered all (change h.between q) error)
        (append_assoc output s.more h.more) h.aborts);
  }

  chunk_finishes :
      (q : ByteState) (error : Error)
      → FinishesWithin c a (bytes ++ s.done) (output ++ s.more) rest (change p q) error
      → FinishesWithin c a bytes output chunk (change o q) error
  chunk_finishes q error f =
      let along = append_assoc output s.more f.more in
      let all : (bytes ++ s.done) ++ rest ≡ bytes ++ chunk =
      append_assoc bytes s.done rest ∙ ap (λ p. bytes ++ p) (sym s.split) in
      record {
        done = s.done ++ f.done;
        buffered = f.buffered;
        split = s.split
            ∙ (ap (λ r. s.done ++ r) f.split ∙ sym (append_assoc s.done f.done f.buffered));
        more = s.more ++ f.more;
        holds = subst (λ b. HaveNoExit c a b (output ++ (s.more ++ f.more)))
            (append_assoc bytes s.done f.done)
            (subst (λ known. HaveNoExit c a ((bytes ++ s.done) ++ f.done) known) along f.holds);
        next = f.next;
        items = f.items;
        rest = f.rest;
        first = subst (λ b. OutputsFirst c a b f.items ((output ++ (s.more ++ f.more)) ++ f.next ∷ []) f.rest)
            all
            (subst (λ known. OutputsFirst c a ((bytes ++ s.done) ++ rest) f.items (known ++ f.next ∷ []) f.rest)
            along f.first);
        ok = f.ok;
        at = f.at;
        is = f.is;
        write = subst (λ text. Writes (change o q) text)
            (sym (ap texts_of (append_assoc s.more f.more (f.next ∷ []))
            ∙ texts_of-append s.more (f.more ++ f.next ∷ [])))
            (writes_then o p q (texts_of s.more) (texts_of (f.more ++ f.next ∷ [])) s.write f.write);
      }

  pub chunk_aborts_so :
      (q : ByteState) (error : Error)
      → AbortsSo c a (bytes ++ s.done) (output ++ s.more) rest (change p q) error
      → AbortsSo c a bytes output chunk (change o q) error
  chunk_aborts_so q error (inl h) = inl (chunk_aborts q error h)
  chunk_aborts_so q error (inr f) = inr (chunk_finishes q error f)

pub chunk_smaller :
    {A : Type 0} (c : Commands A) (a : A) (has after : Has) (rest : List ℕ)
    (out : Change ByteState) (n : ℕ) → FeedsSome c a has after rest out (Ok n)
    → length (drop n rest) < length rest
chunk_smaller c a has after rest out n (some, fits, feeds) =
    omega (arith, length-drop n rest, some, fits)

-- If a call of `feed` fails with an error, then the run ends with the error.
pub feeds_error :
    {A : Type 0} (c : Commands A) (a : A) (before after : Has) (buffered : List ℕ)
    (out : Change ByteState) (error : Error) (result : Result ℕ Error)
    → IsErrAnd result (λ e. e ≡ error)
    → ((bytes : List ℕ) (output : List Output) → before bytes output
    → AbortsIn c a bytes buffered output out error)
    → Feeds c a before after buffered out result
feeds_error c a before after buffered out error (Ok n) is aborts = absurd is
feeds_error c a before after buffered out error (Err e) is aborts =
    subst (λ e. Feeds c a before after buffered out (Err e)) (sym is)
    (λ bytes output there. inl (aborts bytes output there))

pub ends_error :
    {A : Type 0} (c : Commands A) (a : A) (has : Has) (out : Change ByteState) (error : Error)
    (result : Result Bool Error) → IsErrAnd result (λ e. e ≡ error)
    → EndsAt c a has out (Err error) → EndsAt c a has out result
ends_error c a has out error (Ok ok) is ends = absurd is
ends_error c a has out error (Err e) is ends =
    subst (λ e. EndsAt c a has out (Err e)) (sym is) ends

-- For all bytes and outputs before the chunk, `ChunkSoFar` holds.
abbrev pub FedSoFar : Has → Has → List ℕ → List ℕ → Change ByteState → Type 0
FedSoFar before has chunk rest out =
    (bytes : List ℕ) (output : List Output) → before bytes output
    → ChunkSoFar has bytes output chunk rest out

module _ {A : Type 0} (c : Commands A) (a : A) (before has : Has) (chunk rest : List ℕ)
    (o p : ByteState) (s : FedSoFar before has chunk rest (change o p)) where
  pub fed_more :
      (q : ByteState) (after : Has) (n : ℕ) → FeedsSome c a has after rest (change p q) (Ok n)
      → FedSoFar before after chunk (drop n rest) (change o q)
  fed_more q after n feeds bytes output there =
      chunk_more c a has bytes output chunk rest o p (s bytes output there) q after n feeds

  pub fed_aborts :
      (q : ByteState) (after any : Has) (error : Error) (result : Result (Unit {0}) Error)
      → IsErrAnd result (λ e. e ≡ error) → FeedsSome c a has after rest (change p q) (Err error)
      → FeedsAll c a before any chunk (change o q) result
  fed_aborts q after any error (Ok done) is feeds = absurd is
  fed_aborts q after any error (Err e) is feeds =
      subst (λ e. FeedsAll c a {U = Unit {0}} before any chunk (change o q) (Err e)) (sym is)
      (λ bytes output there.
      let so_far = s bytes output there in
      chunk_aborts_so c a has bytes output chunk rest o p so_far q error
      (feeds (bytes ++ so_far.done) (output ++ so_far.more) so_far.there))

  pub fed_all : rest ≡ [] → FeedsAll c a {U = Unit {0}} before has chunk (change o p) (Ok tt)
  fed_all none bytes output there =
      chunk_ends c a has bytes output chunk rest o p (s bytes output there) none
