-- The effect of a call with buffered bytes: the held bytes are a prefix of a value afterwards, or
-- the lines of a stretch are written.
use Rattle.std.proofs.Common.{◌≡◌, ℕ, true, false, List, [], ◌∷◌, ◌++◌, take, Option, Ok, sym, subst, append-nil, arith}
use Rattle.std.specs.Prelude.{Err}
use Rattle.marshal_read.specs.declared.reader.Reader.{Reader}
use Rattle.base_io.specs.Sink.{Writes}
use Rattle.base_io.specs.StreamState.{ByteState, Change, change}
use Rattle.cli_spec.specs.Outcome.{Request, Output}
use Rattle.cli_errors.specs.declared.exit_line.Error.{Error}
use Rattle.run_spec.proofs.runs.RunWriteLemmas.{writes_nothing}
use Rattle.run_spec.proofs.runs.RunValueLemmas.{texts_of-one}
use Rattle.run_loop.specs.work.Works.{Feeds}
use Rattle.cmd_scan.specs.spec.Searching.{searching}
use Rattle.cmd_scan.specs.declared.command.last.TakenBytes.{TakenBytes}
use Rattle.cmd_scan.specs.command.SearchOutput.{HasSearched, HasStretch, HasTaken, WritesNext}
use Rattle.cmd_scan.proofs.command.ScanCommandSearchLemmas.{same_limit}

module _ (limit_by : Request → Option ℕ) (limit : ℕ) (held : List ℕ) (reader : Reader) (at : ℕ)
    (buffered : List ℕ) (t : TakenBytes) where
  abbrev Before : List ℕ → List Output → Type 0
  Before = HasSearched limit_by limit held reader at

  abbrev HasSome : Type 0
  HasSome = (bytes : List ℕ) × (output : List Output) × Before bytes output

  -- The state after the call has taken bytes.
  abbrev Took : List ℕ → Reader → ℕ → Type 0
  Took held' reader' at' = (bytes : List ℕ) (output : List Output) → Before bytes output
      → HasTaken limit_by limit held' reader' at' buffered bytes output t

  pub fed_prefix :
      (limit' : ℕ) (held' : List ℕ) (reader' : Reader) (at' : ℕ) (o : ByteState)
      → limit' ≡ limit → t.decided ≡ false → Took held' reader' at' → HasSome
      → Feeds (searching limit_by) limit Before (HasSearched limit_by limit' held' reader' at')
      buffered (change o o) (Ok t.bytes)
  fed_prefix limit' held' reader' at' o same more taken some =
      let first = taken some.0 some.1 some.2 in (
        first.0,
        first.1,
        λ bytes output h. (
          [],
          omega arith,
          subst
              (HasSearched limit_by limit' held' reader' at' (bytes ++ take t.bytes buffered))
              (sym (append-nil output))
              (same_limit limit_by limit limit' held' reader' at' (bytes ++ take t.bytes buffered)
              output same ((taken bytes output h).2 more)),
          writes_nothing o,
        ),
      )

  -- Replacing the limit by an equal number does not change that a stretch is held.
  pub stretch_limit :
      (limit' : ℕ) (held' : List ℕ) (at' : ℕ) (bytes : List ℕ) (output : List Output)
      → limit' ≡ limit → HasStretch limit_by limit held' at' bytes output
      → HasStretch limit_by limit' held' at' bytes output
  stretch_limit limit' held' at' bytes output e h =
      subst (λ l. HasStretch limit_by l held' at' bytes output) (sym e) h

  -- Replacing the limit by an equal number does not change which errors are allowed.
  pub err_limit :
      (limit' : ℕ) (held' : List ℕ) (reader' : Reader) (at' : ℕ) (bytes : List ℕ)
      (output : List Output) (out : Change ByteState) (error : Error)
      → limit' ≡ limit
      → WritesNext {U = Unit {0}} limit_by limit' held' reader' at' bytes output out (Err error)
      → WritesNext {U = Unit {0}} limit_by limit held' reader' at' bytes output out (Err error)
  err_limit limit' held' reader' at' bytes output out error e p =
      subst
      (λ l. WritesNext {U = Unit {0}} limit_by l held' reader' at' bytes output out (Err error)) e p

  pub fed_stretch :
      (mid : ℕ) (held' : List ℕ) (reader' : Reader) (at' : ℕ) (limit' : ℕ) (left : List ℕ)
      (new : Reader) (position : ℕ) (out : Change ByteState)
      → mid ≡ limit → limit' ≡ mid → t.decided ≡ true → Took held' reader' at' → HasSome
      → ((bytes : List ℕ) (output : List Output) → HasStretch limit_by mid held' at' bytes output
      → (next : Output) × HasSearched limit_by mid left new position bytes (output ++ next ∷ [])
      × Writes out next.text)
      → Feeds (searching limit_by) limit Before (HasSearched limit_by limit' left new position)
      buffered out (Ok t.bytes)
  fed_stretch mid held' reader' at' limit' left new position out same kept decided taken some writes =
      let first = taken some.0 some.1 some.2 in (
        first.0,
        first.1,
        λ bytes output h.
            let all = bytes ++ take t.bytes buffered in
            let p = writes all output
            (stretch_limit mid held' at' all output same ((taken bytes output h).3 decided)) in (
              p.0 ∷ [],
              omega arith,
              same_limit limit_by mid limit' left new position all (output ++ p.0 ∷ []) kept p.1,
              subst (Writes out) (sym (texts_of-one p.0)) p.2,
            ),
      )
