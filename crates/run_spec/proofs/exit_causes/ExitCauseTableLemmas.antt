-- Consequences of exact tables for an exit reason, for an end, and for the status that an input
-- determines.
use Rattle.std.proofs.Common.{ℕ, ◌≡◌, List, Err, inl, inr, refl, subst}
use Rattle.base_data.specs.model.Bytes.{AreBytes}
use Rattle.cli_spec.specs.declared.status.Status.{Status}
use Rattle.cli_spec.specs.Outcome.{Request, status_of, ending_of, Output, Reply, Replies, replies}
use Rattle.cli_spec.specs.declared.exit.Exit.{Exit}
use Rattle.run_spec.specs.runs.Commands.{Fetches, Commands, HaveExit}
use Rattle.run_spec.specs.runs.RunSpec.{HoldEnd, Gives}
use Rattle.run_spec.specs.exit_causes.Causes.{Tables, Show, HaveShown, AreExact}

module _ {A : Type 0} (c : Commands A) (tables : Tables A) (exact : AreExact c tables) where
  pub bar_of :
      (request : Request) (files : Fetches) (exit : Exit) → c.Finds request files (Err exit)
      → tables.Bar request files (status_of exit)
  bar_of request files exit finds =
      (exact.bars request files (status_of exit)).0 (exit, refl, finds)

  pub bar_found :
      (request : Request) (files : Fetches) (status : Status) → tables.Bar request files status
      → (exit : Exit) × (status_of exit ≡ status) × c.Finds request files (Err exit)
  bar_found request files status bar = (exact.bars request files status).1 bar

  pub exit_with :
      (a : A) (bytes : List ℕ) (exit : Exit) → HaveExit c a bytes exit
      → tables.ExitWith a bytes (status_of exit)
  exit_with a bytes exit h = (exact.exits a bytes (status_of exit)).0 (exit, refl, h)

  pub exit_held :
      (a : A) (bytes : List ℕ) (status : Status) → tables.ExitWith a bytes status
      → (exit : Exit) × (status_of exit ≡ status) × HaveExit c a bytes exit
  exit_held a bytes status h = (exact.exits a bytes status).1 h

  pub end_with :
      (a : A) (bytes : List ℕ) → AreBytes bytes → (output : List Output) (last : Reply)
      → HoldEnd c a bytes output last
      → tables.EndWith a bytes (ending_of (replies output last)).status
  end_with a bytes are_bytes output last h =
      (exact.ends a bytes (ending_of (replies output last)).status are_bytes).0
      (replies output last, refl, h)

  pub end_held :
      (a : A) (bytes : List ℕ) (status : Status) → AreBytes bytes → tables.EndWith a bytes status
      → (all : Replies) × ((ending_of all).status ≡ status) × HoldEnd c a bytes all.output all.last
  end_held a bytes status are_bytes h = (exact.ends a bytes status are_bytes).1 h

  -- ---- an input

  pub shows_given :
      (a : A) (input : List ℕ) (status : Status) → AreBytes input
      → Gives c a input status → Show c tables a input status
  shows_given a input status are_bytes (inl (reads, exit, is, h)) =
      inl (subst (tables.ExitWith a input) is (exit_with a input exit h))
  shows_given a input status are_bytes (inr (all, is, inl (reads, h))) =
      inr (subst (tables.EndWith a input) is (end_with a input are_bytes all.output all.last h))
  shows_given a input status are_bytes (inr (all, is, inr alone)) =
      absurd (alone.unread (exact.read a))

  pub gives_shown :
      (a : A) (input : List ℕ) (status : Status) → AreBytes input
      → Show c tables a input status → Gives c a input status
  gives_shown a input status are_bytes (inl h) =
      let s = exit_held a input status h in inl (exact.read a, s.0, s.1, s.2)
  gives_shown a input status are_bytes (inr h) =
      let e = end_held a input status are_bytes h in inr (e.0, e.1, inl (exact.read a, e.2))

  pub have_shown : HaveShown c tables
  have_shown a input status are_bytes =
      (shows_given a input status are_bytes, gives_shown a input status are_bytes)
