-- A failed call on the input or the files decides the status, unless the reply could not be
-- completed.
use Rattle.std.proofs.Common.{ℕ, suc, zero, ◌≡◌, ◌⊎◌, ◌<◌, ◌≤◌, Bool, false, true, List, [], ◌∷◌, ◌++◌, Some, None, inl, inr, refl, sym, ap, ◌∙◌, subst, append_assoc, append-nil, arith}
use Rattle.std.proofs.lemmas.Bool.{cases_lt}
use Rattle.cli_spec.specs.declared.status.Status.TheVariants as statuses
use Rattle.cli_spec.specs.Outcome.{ReadingEnd, Taken, at_end, at_fault, at_length, unasked, Found, opened, missing, failed, unfetched}
use Rattle.base_io.specs.History.{Event, moved, fetched, HasFailed, HasOpenFailed, HasOpenFailedAt}
use Rattle.base_io.specs.History.{failed as failed_call}
use Rattle.base_io.specs.StreamState.{FilesState, Change, change}
use Rattle.base_io.specs.declared.files.OpenError.TheVariants as errors
use Rattle.run_spec.specs.runs.Account.{IsWanted, FetchesIn, FetchesFor, Account}
use Rattle.run_spec.specs.runs.Call.{Call}
use Rattle.run_spec.specs.runs.Commands.{Fetches, Commands}
use Rattle.run_spec.specs.runs.Environment.{Called, OnlyReadFault, ReportsReadFault, ReportsOpenFault}
use Rattle.run_spec.specs.runs.Given.{CallsTook, AreChunks, EndsCalls, FetchedBy, is_fault, has_open_fault, has_read_fault}
use Rattle.run_spec.specs.runs.Lawful.{AreLawful}
use Rattle.run_spec.specs.runs.RunSpec.{ReportsFaults}
use Rattle.run_spec.proofs.runs.CallLemmas.{after_prefix}
use Rattle.run_spec.proofs.runs.RunFileLemmas.{name_once}
use Rattle.run_spec.proofs.runs.RunFaultLemmas.{not_of_environment, read_from, fault_outputs_read, open_outputs, input_outputs_read, reports_write_fault}
use Rattle.run_spec.proofs.runs.RunSettledLemmas.{IsStatus, read_output, settled, some_outcome}

failed_in : (xs ys : List Event) → HasFailed (xs ++ ys) → HasFailed xs ⊎ HasFailed ys
failed_in [] ys h = inr h
failed_in (moved room bytes ∷ xs) ys h = failed_in xs ys h
failed_in (failed_call ∷ xs) ys h = inl tt
failed_in (fetched name error ∷ xs) ys h = failed_in xs ys h

open_failed_in : (xs ys : List Event) → HasOpenFailed (xs ++ ys) → HasOpenFailed xs ⊎ HasOpenFailed ys
open_failed_in [] ys h = inr h
open_failed_in (moved room bytes ∷ xs) ys h = open_failed_in xs ys h
open_failed_in (failed_call ∷ xs) ys h = open_failed_in xs ys h
open_failed_in (fetched name None ∷ xs) ys h = open_failed_in xs ys h
open_failed_in (fetched name (Some errors.Failed) ∷ xs) ys h = inl tt
open_failed_in (fetched name (Some errors.Missing) ∷ xs) ys h = open_failed_in xs ys h
open_failed_in (fetched name (Some errors.Memory) ∷ xs) ys h = open_failed_in xs ys h

failed_before : (xs ys : List Event) → HasFailed xs → HasFailed (xs ++ ys)
failed_before [] ys h = absurd h
failed_before (moved room bytes ∷ xs) ys h = failed_before xs ys h
failed_before (failed_call ∷ xs) ys h = tt
failed_before (fetched name error ∷ xs) ys h = failed_before xs ys h

failed_after : (xs ys : List Event) → HasFailed ys → HasFailed (xs ++ ys)
failed_after [] ys h = h
failed_after (moved room bytes ∷ xs) ys h = failed_after xs ys h
failed_after (failed_call ∷ xs) ys h = tt
failed_after (fetched name error ∷ xs) ys h = failed_after xs ys h

open_before : (name : List ℕ) (xs ys : List Event) → HasOpenFailedAt name xs → HasOpenFailedAt name (xs ++ ys)
open_before name [] ys h = absurd h
open_before name (moved room bytes ∷ xs) ys h = open_before name xs ys h
open_before name (failed_call ∷ xs) ys h = open_before name xs ys h
open_before name (fetched other None ∷ xs) ys h = open_before name xs ys h
open_before name (fetched other (Some errors.Failed) ∷ xs) ys (inl is) = inl is
open_before name (fetched other (Some errors.Failed) ∷ xs) ys (inr h) = inr (open_before name xs ys h)
open_before name (fetched other (Some errors.Missing) ∷ xs) ys h = open_before name xs ys h
open_before name (fetched other (Some errors.Memory) ∷ xs) ys h = open_before name xs ys h

open_after : (name : List ℕ) (xs ys : List Event) → HasOpenFailedAt name ys → HasOpenFailedAt name (xs ++ ys)
open_after name [] ys h = h
open_after name (moved room bytes ∷ xs) ys h = open_after name xs ys h
open_after name (failed_call ∷ xs) ys h = open_after name xs ys h
open_after name (fetched other None ∷ xs) ys h = open_after name xs ys h
open_after name (fetched other (Some errors.Failed) ∷ xs) ys h = inr (open_after name xs ys h)
open_after name (fetched other (Some errors.Missing) ∷ xs) ys h = open_after name xs ys h
open_after name (fetched other (Some errors.Memory) ∷ xs) ys h = open_after name xs ys h

some_open : (name : List ℕ) (xs : List Event) → HasOpenFailedAt name xs → HasOpenFailed xs
some_open name [] h = h
some_open name (moved room bytes ∷ xs) h = some_open name xs h
some_open name (failed_call ∷ xs) h = some_open name xs h
some_open name (fetched other None ∷ xs) h = some_open name xs h
some_open name (fetched other (Some errors.Failed) ∷ xs) h = tt
some_open name (fetched other (Some errors.Missing) ∷ xs) h = some_open name xs h
some_open name (fetched other (Some errors.Memory) ∷ xs) h = some_open name xs h

-- ---- the calls of one source

chunks_well : (chunks : List Event) → AreChunks chunks → HasFailed chunks → ⊥
chunks_well [] are h = h
chunks_well (moved room bytes ∷ chunks) (some, are) h = chunks_well chunks are h
chunks_well (failed_call ∷ chunks) are h = are
chunks_well (fetched name error ∷ chunks) are h = are

chunks_unopened : (chunks : List Event) → AreChunks chunks → HasOpenFailed chunks → ⊥
chunks_unopened [] are h = h
chunks_unopened (moved room bytes ∷ chunks) (some, are) h = chunks_unopened chunks are h
chunks_unopened (failed_call ∷ chunks) are h = are
chunks_unopened (fetched name error ∷ chunks) are h = are

last_failed : (until : ReadingEnd) (last : List Event) → EndsCalls until last → HasFailed last → until ≡ at_fault
last_failed at_end last (room, some, is) h = absurd (subst HasFailed is h)
last_failed at_fault last is h = refl
last_failed at_length last is h = absurd (subst HasFailed is h)
last_failed unasked last is h = absurd (subst HasFailed is h)

last_fails : (until : ReadingEnd) (last : List Event) → EndsCalls until last → is_fault until ≡ true → HasFailed last
last_fails at_end last ends e = absurd (cc e)
last_fails at_fault last is e = subst HasFailed (sym is) tt
last_fails at_length last ends e = absurd (cc e)
last_fails unasked last ends e = absurd (cc e)

last_unopened : (until : ReadingEnd) (last : List Event) → EndsCalls until last → HasOpenFailed last → ⊥
last_unopened at_end last (room, some, is) h = subst HasOpenFailed is h
last_unopened at_fault last is h = subst HasOpenFailed is h
last_unopened at_length last is h = subst HasOpenFailed is h
last_unopened unasked last is h = subst HasOpenFailed is h

module _ (before after : List Event) (taken : Taken) (t : CallsTook before after taken) where
  took_failed : HasFailed (t.chunks ++ t.last) → taken.until ≡ at_fault
  took_failed h = by (failed_in t.chunks t.last h) where
    by : HasFailed t.chunks ⊎ HasFailed t.last → taken.until ≡ at_fault
    by (inl h) = absurd (chunks_well t.chunks t.each h)
    by (inr h) = last_failed taken.until t.last t.ends h

  took_unopened : HasOpenFailed (t.chunks ++ t.last) → ⊥
  took_unopened h = by (open_failed_in t.chunks t.last h) where
    by : HasOpenFailed t.chunks ⊎ HasOpenFailed t.last → ⊥
    by (inl h) = chunks_unopened t.chunks t.each h
    by (inr h) = last_unopened taken.until t.last t.ends h

  -- If a call of a source failed, then the bytes end because of a fault.
  pub failed_took : Called before after HasFailed → taken.until ≡ at_fault
  failed_took (new, are, h) =
      took_failed (subst HasFailed (sym (after_prefix before (t.chunks ++ t.last) new (sym t.are ∙ are))) h)

  -- If the bytes end because of a fault, then a call of the source failed.
  pub took_fails : is_fault taken.until ≡ true → Called before after HasFailed
  took_fails e =
      (t.chunks ++ t.last, t.are, failed_after t.chunks t.last (last_fails taken.until t.last t.ends e))

-- ---- the calls on the files

-- The calls of one fetch, and what their failures say of the result.
record FetchCalls (before after : List Event) (name : List ℕ) (found : Found) : Type 0 where
  more : List Event
  are : after ≡ before ++ more
  reads : HasFailed more → has_read_fault found ≡ true
  read_back : has_read_fault found ≡ true → HasFailed more
  opens : HasOpenFailed more → has_open_fault found ≡ true
  open_back : has_open_fault found ≡ true → HasOpenFailedAt name more

fetch_calls : (before after : List Event) (name : List ℕ) (found : Found) → FetchedBy before after name found → FetchCalls before after name found
fetch_calls before after name (opened taken) t = record {
  more = fetched name None ∷ (t.chunks ++ t.last);
  are = t.are ∙ append_assoc before (fetched name None ∷ []) (t.chunks ++ t.last);
  reads = λ h. ap is_fault (took_failed (before ++ fetched name None ∷ []) after taken t h);
  read_back = λ e. failed_after t.chunks t.last (last_fails taken.until t.last t.ends e);
  opens = λ h. absurd (took_unopened (before ++ fetched name None ∷ []) after taken t h);
  open_back = λ e. absurd (cc e);
}
fetch_calls before after name failed is = record { more = fetched name (Some errors.Failed) ∷ []; are = is; reads = λ h. absurd h; read_back = λ e. absurd (cc e); opens = λ h. refl; open_back = λ e. inl refl }
fetch_calls before after name missing is = record { more = fetched name (Some errors.Missing) ∷ []; are = is; reads = λ h. absurd h; read_back = λ e. absurd (cc e); opens = λ h. absurd h; open_back = λ e. absurd (cc e) }
fetch_calls before after name unfetched is = record { more = fetched name (Some errors.Memory) ∷ []; are = is; reads = λ h. absurd h; read_back = λ e. absurd (cc e); opens = λ h. absurd h; open_back = λ e. absurd (cc e) }

module _ {A : Type 0} (c : Commands A) (arguments : List (List ℕ)) (files : Change FilesState)
    (found : Fetches) (f : FetchesFor c arguments files found) (lawful : AreLawful c) where
  -- The result of some fetch reports the fault.
  abbrev Reports : (Found → Bool) → Type 0
  Reports fault = (turn : ℕ) × (name : List ℕ) × IsWanted c arguments found turn name
      × (fault (found turn name) ≡ true)

  -- The calls of the turns from `m` up to `n`, and what their failures say of the results.
  record Calls (m n : ℕ) : Type 0 where
    more : List Event
    are : (f.state n).calls ≡ (f.state m).calls ++ more
    reads : HasFailed more → Reports has_read_fault
    opens : HasOpenFailed more → Reports has_open_fault
    read_back : (turn : ℕ) → m ≤ turn → turn < n → (name : List ℕ)
        → IsWanted c arguments found turn name → has_read_fault (found turn name) ≡ true → HasFailed more
    open_back : (turn : ℕ) → m ≤ turn → turn < n → (name : List ℕ)
        → IsWanted c arguments found turn name → has_open_fault (found turn name) ≡ true
        → HasOpenFailedAt name more

  no_calls : Calls 0 0
  no_calls = record {
    more = [];
    are = sym (append-nil (f.state 0).calls);
    reads = λ h. absurd h;
    opens = λ h. absurd h;
    read_back = λ turn from less name wanted e. absurd (omega (arith, less));
    open_back = λ turn from less name wanted e. absurd (omega (arith, less));
  }

  calls_then : (m n o : ℕ) → Calls m n → Calls n o → Calls m o
  calls_then m n o one two = record {
    more = one.more ++ two.more;
    are = two.are ∙ (ap (λ l. l ++ two.more) one.are ∙ append_assoc (f.state m).calls one.more two.more);
    reads = λ h. reads (failed_in one.more two.more h);
    opens = λ h. opens (open_failed_in one.more two.more h);
    read_back = λ turn from less name wanted e. back turn from less name wanted e (cases_lt turn n);
    open_back = λ turn from less name wanted e. opened_back turn from less name wanted e (cases_lt turn n);
  } where
    reads : HasFailed one.more ⊎ HasFailed two.more → Reports has_read_fault
    reads (inl h) = one.reads h
    reads (inr h) = two.reads h

    opens : HasOpenFailed one.more ⊎ HasOpenFailed two.more → Reports has_open_fault
    opens (inl h) = one.opens h
    opens (inr h) = two.opens h

    back : (turn : ℕ) → m ≤ turn → turn < o → (name : List ℕ) → IsWanted c arguments found turn name
        → has_read_fault (found turn name) ≡ true → (turn < n) ⊎ (n ≤ turn)
        → HasFailed (one.more ++ two.more)
    back turn from less name wanted e (inl before) =
        failed_before one.more two.more (one.read_back turn from before name wanted e)
    back turn from less name wanted e (inr after) =
        failed_after one.more two.more (two.read_back turn after less name wanted e)

    opened_back : (turn : ℕ) → m ≤ turn → turn < o → (name : List ℕ) → IsWanted c arguments found turn name
        → has_open_fault (found turn name) ≡ true → (turn < n) ⊎ (n ≤ turn)
        → HasOpenFailedAt name (one.more ++ two.more)
    opened_back turn from less name wanted e (inl before) =
        open_before name one.more two.more (one.open_back turn from before name wanted e)
    opened_back turn from less name wanted e (inr after) =
        open_after name one.more two.more (two.open_back turn after less name wanted e)

  turn_calls : (turn : ℕ) → turn < f.turns → Calls turn (suc turn)
  turn_calls turn fits = by (f.each turn fits) where
    here : (other : ℕ) → turn ≤ other → other < suc turn → other ≡ turn
    here other from less = omega arith

    by : FetchesIn c arguments (change (f.state turn) (f.state (suc turn))) found turn
        → Calls turn (suc turn)
    by (inl (name, wanted, is)) =
        let e = fetch_calls (f.state turn).calls (f.state (suc turn)).calls name (found turn name) is.called in record {
          more = e.more;
          are = e.are;
          reads = λ h. (turn, name, wanted, e.reads h);
          opens = λ h. (turn, name, wanted, e.opens h);
          open_back = λ other from less also wants fault.
              let wants' = subst (λ t. IsWanted c arguments found t also) (here other from less) wants in
              let fault' = subst (λ t. has_open_fault (found t also) ≡ true) (here other from less) fault in
              let same : also ≡ name = name_once c arguments files found f lawful turn also name wants' wanted in
              subst (λ n. HasOpenFailedAt n e.more) (sym same)
              (e.open_back (subst (λ n. has_open_fault (found turn n) ≡ true) same fault'));
          read_back = λ other from less also wants fault.
              e.read_back (at also (subst (λ t. IsWanted c arguments found t also) (here other from less) wants)
              (subst (λ t. has_read_fault (found t also) ≡ true) (here other from less) fault));
        } where
          at : (also : List ℕ) → IsWanted c arguments found turn also
              → has_read_fault (found turn also) ≡ true → has_read_fault (found turn name) ≡ true
          at also wants fault =
              subst (λ n. has_read_fault (found turn n) ≡ true)
              (name_once c arguments files found f lawful turn also name wants wanted) fault
    by (inr (same, none)) = record {
      more = [];
      are = ap (λ s. s.calls) same ∙ sym (append-nil (f.state turn).calls);
      reads = λ h. absurd h;
      opens = λ h. absurd h;
      open_back = λ other from less also wants fault.
          absurd (unopened also (subst (λ t. IsWanted c arguments found t also) (here other from less) wants)
          (subst (λ t. has_open_fault (found t also) ≡ true) (here other from less) fault));
      read_back = λ other from less also wants fault.
          absurd (at also (subst (λ t. IsWanted c arguments found t also) (here other from less) wants)
          (subst (λ t. has_read_fault (found t also) ≡ true) (here other from less) fault));
    } where
      at : (also : List ℕ) → IsWanted c arguments found turn also
          → has_read_fault (found turn also) ≡ true → ⊥
      at also wants fault =
          let is : found turn also ≡ unfetched = none also wants in
          let no : false ≡ true = ap has_read_fault (sym is) ∙ fault in cc no

      unopened : (also : List ℕ) → IsWanted c arguments found turn also
          → has_open_fault (found turn also) ≡ true → ⊥
      unopened also wants fault =
          let is : found turn also ≡ unfetched = none also wants in
          let no : false ≡ true = ap has_open_fault (sym is) ∙ fault in cc no

  calls_to : (n : ℕ) → n ≤ f.turns → Calls 0 n
  calls_to zero fits = no_calls
  calls_to (suc n) fits =
      calls_then 0 n (suc n) (calls_to n (omega (arith, fits))) (turn_calls n (omega (arith, fits)))

  all_calls : Calls 0 f.turns
  all_calls = calls_to f.turns (omega arith)

  all_are : files.after.calls ≡ files.before.calls ++ all_calls.more
  all_are =
      ap (λ s. s.calls) (sym f.ends)
      ∙ (all_calls.are ∙ ap (λ s. s.calls ++ all_calls.more) f.begins)

  same_calls : (new : List Event) → files.after.calls ≡ files.before.calls ++ new → all_calls.more ≡ new
  same_calls new are = after_prefix files.before.calls all_calls.more new (sym all_are ∙ are)

  -- If a call on an opened file failed, then the result of a fetch reports the failure.
  pub failed_read : Called files.before.calls files.after.calls HasFailed → Reports has_read_fault
  failed_read (new, are, h) = all_calls.reads (subst HasFailed (sym (same_calls new are)) h)

  -- If a file could not be opened, then the result of a fetch reports the failure.
  pub failed_open : Called files.before.calls files.after.calls HasOpenFailed → Reports has_open_fault
  failed_open (new, are, h) = all_calls.opens (subst HasOpenFailed (sym (same_calls new are)) h)

  -- If the result of a fetch reports a failed read, then a call on an opened file failed.
  pub read_fails : Reports has_read_fault → Called files.before.calls files.after.calls HasFailed
  read_fails (turn, name, wanted, e) = (
    all_calls.more,
    all_are,
    all_calls.read_back turn (omega arith) (f.all turn name wanted) name wanted e,
  )

  -- If the result of a fetch reports that the file could not be opened, then the history has it.
  pub open_fails_at :
      (turn : ℕ) (name : List ℕ) → IsWanted c arguments found turn name
      → has_open_fault (found turn name) ≡ true
      → Called files.before.calls files.after.calls (HasOpenFailedAt name)
  open_fails_at turn name wanted e = (
    all_calls.more,
    all_are,
    all_calls.open_back turn (omega arith) (f.all turn name wanted) name wanted e,
  )

  pub open_fails : Reports has_open_fault → Called files.before.calls files.after.calls HasOpenFailed
  open_fails (turn, name, wanted, e) =
      let h = open_fails_at turn name wanted e in (h.0, h.1, some_open name h.0 h.2)

-- ---- the status

module _ {A : Type 0} (c : Commands A) (arguments : List (List ℕ)) (call : Call) (lawful : AreLawful c) where
  pub reports_read_fault : IsStatus c arguments call → ReportsReadFault call
  reports_read_fault status = record {
    input = λ h. settled c arguments call status (λ s. s ≡ statuses.ReadFault)
        (λ given may_be all outcome. input_outputs_read c arguments call lawful given may_be all outcome
        (failed_took call.input.before.calls call.input.after.calls given.input may_be.input.called h));
    file = λ h. settled c arguments call status (λ s. s ≡ statuses.ReadFault)
        (λ given may_be all outcome.
        let r = failed_read c arguments call.files given.files may_be.files lawful h in
        fault_outputs_read c arguments call lawful given may_be all outcome r.0 r.1 r.2 r.3);
  }

  pub reports_open_fault : IsStatus c arguments call → ReportsOpenFault call
  reports_open_fault status h = settled c arguments call status (λ s. s ≡ statuses.OpenFault)
      (λ given may_be all outcome.
      let r = failed_open c arguments call.files given.files may_be.files lawful h in
      open_outputs c arguments call lawful given may_be all outcome r.0 r.1 r.2 r.3)

  -- If status 6 is returned, then a call on the input or on an opened file failed.
  pub only_read_fault : IsStatus c arguments call → OnlyReadFault call
  only_read_fault (inl o) e =
      from (read_from c arguments call lawful o.given o.may_be o.all o.outcome (sym o.is ∙ e)) where
        from : (is_fault o.given.input.until ≡ true)
            ⊎ ((turn : ℕ) × (name : List ℕ) × IsWanted c arguments o.given.files turn name
            × (has_read_fault (o.given.files turn name) ≡ true))
            → Called call.input.before.calls call.input.after.calls HasFailed
            ⊎ Called call.files.before.calls call.files.after.calls HasFailed
        from (inl fault) =
            inl (took_fails call.input.before.calls call.input.after.calls o.given.input
            o.may_be.input.called fault)
        from (inr r) = inr (read_fails c arguments call.files o.given.files o.may_be.files lawful r)
  only_read_fault (inr write_or_memory_error) e =
      absurd (not_of_environment c arguments call lawful call.status statuses.ReadFault write_or_memory_error e
      read_output)

  -- If a run has an account, then failed operations are reported.
  pub reports_faults : Account c arguments call → ReportsFaults call
  reports_faults a = record {
    reads = reports_read_fault (some_outcome c arguments call a);
    opens = reports_open_fault (some_outcome c arguments call a);
    writes = reports_write_fault c arguments call a;
  }
