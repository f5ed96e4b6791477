-- The contents of the files determine `Account` for a run of `verify`.
use Rattle.std.proofs.Common.{◌≡◌, ◌⊎◌, ◌<◌, ℕ, zero, suc, Bool, List, Ok, Err, inl, inr, refl, subst, arith}
use Rattle.cli_spec.specs.declared.status.Status.{Status}
use Rattle.cli_spec.specs.declared.read_options.ReadOptions.{ReadOptions}
use Rattle.cli_spec.specs.Outcome.{Found, unfetched, Request, asked_type, own, verify, Asks}
use Rattle.cli_spec.specs.declared.exit.Exit.{Exit}
use Rattle.cli_spec.specs.declared.exit.Exit.TheVariants.{Memory as out_of_memory}
use Rattle.base_io.specs.StreamState.{ByteState, SourceState, FilesState, Change, change}
use Rattle.cert_format.specs.declared.section.Section.{Section}
use Rattle.cli_errors.specs.Exits.{Reports}
use Rattle.run_spec.specs.runs.Account.{IsWanted, FetchesIn, FetchesFor, Account}
use Rattle.run_spec.specs.runs.Call.{call}
use Rattle.run_spec.specs.runs.Commands.{Fetches, Prepares}
use Rattle.run_spec.specs.runs.Given.{Fetched}
use Rattle.run_types.specs.declared.requested.Prepared.{Prepared}
use Rattle.run_types.specs.Language.{TypeOver}
use Rattle.run_types.specs.RequestedTexts.{type_over, GivesType}
use Rattle.run_loop.specs.work.Reported.{HasAccount}
use Rattle.run_loop.proofs.work.ExitLemmas.{WantsInTurns, exit_account}
use Rattle.cmd_verify.specs.spec.Verification.{VerifyArguments, Verification}
use Rattle.cmd_verify.specs.command.VerifyRequest.{AsksToVerify}
use Rattle.cmd_verify.specs.command.CertificateFile.{GivesCertificate}
use Rattle.cmd_verify.specs.command.VerifyProgress.{on_certificates_after, certified_after}
use Rattle.opt_skip_only.specs.skip_spec.Skipping.{SkippedBytes}

-- The results of fetching: `first` in the first turn, and `second` in each later turn.
abbrev two_found : Found → Found → ℕ → List ℕ → Found
two_found first second zero name = first
two_found first second (suc turn) name = second

-- The command requests files only in the first two turns.
pub wanted_soon : WantsInTurns 2 on_certificates_after
wanted_soon request files turn name (asked, is, inl (first, e)) = omega (arith, first)
wanted_soon request files turn name (asked, is, inr (second, e, type, reads)) =
    omega (arith, second)

module _ (arguments : List (List ℕ)) (found : Fetches) where
  -- If one file is fetched in the first turn and one in the second turn, then the two fetches are
  -- the fetches of the command.
  new_fetches :
      (before between after : FilesState)
      → FetchesIn on_certificates_after arguments (change before between) found 0
      → FetchesIn on_certificates_after arguments (change between after) found 1
      → FetchesFor on_certificates_after arguments (change before after) found
  new_fetches before between after first second = record {
    turns = 2;
    state = state;
    begins = refl;
    ends = refl;
    each = each;
    all = λ turn name w. wanted_soon w.request found turn name w.wants;
  } where
    state : ℕ → FilesState
    state zero = before
    state (suc zero) = between
    state (suc (suc n)) = after

    each : (turn : ℕ) → turn < 2
        → FetchesIn on_certificates_after arguments (change (state turn) (state (suc turn))) found turn
    each zero less = first
    each (suc zero) less = second
    each (suc (suc n)) less = absurd (omega (arith, less))

-- Suppose FILE was fetched, and FILE or TYPE ends the run.
module _ (arguments : List (List ℕ)) (file type certificate : List ℕ) (lines : Bool)
    (reading : ReadOptions) (asks : Asks arguments (own (verify file type certificate lines reading))) (files : Change FilesState)
    (found : Found) (fetched : Fetched files file found) where
  abbrev asked : VerifyArguments
  asked = record {
    file = file;
    type = asked_type type lines;
    certificate = certificate;
    limit = reading.limit;
  }

  abbrev request : Request
  request = own (verify file type certificate lines reading)

  abbrev file_found : Fetches
  file_found = two_found found unfetched

  wanted : IsWanted on_certificates_after arguments file_found 0 file
  wanted = record { request = request; asks = asks; wants = (asked, refl, inl (refl, refl)) }

  fetches : FetchesFor on_certificates_after arguments files file_found
  fetches =
      new_fetches arguments file_found files.before files.after files.after (inl (file, wanted, fetched))
      (inr (refl, λ name is. refl))

  gives_exit :
      (exit : Exit) → GivesType file (asked_type type lines) found (Err exit)
      → Prepares on_certificates_after arguments file_found (Err exit)
      ⊎ (exit ≡ out_of_memory)
  gives_exit exit (inl reads) =
      inl (Ok request, asks, (asked, refl, (Err exit, reads, refl)))
  gives_exit exit (inr memory) = inr memory

  pub no_type_account :
      (exit : Exit) → GivesType file (asked_type type lines) found (Err exit) → (input : SourceState) (out : ByteState)
      (err : Change ByteState) (status : Status) → Reports exit err status
      → Account on_certificates_after arguments (call (change input input) files (change out out) err status)
  no_type_account exit gives input out err status r =
      exit_account on_certificates_after arguments file_found input out files fetches err status exit
      (gives_exit exit gives) r

-- Suppose FILE and TYPE are valid, and CERT was fetched.
module _ (arguments : List (List ℕ)) (r : Prepared) (certificate : List ℕ) (reading : ReadOptions)
    (a b c : FilesState) (asks : AsksToVerify arguments r certificate reading (change a b))
    (found : Found) (fetched : Fetched (change b c) certificate found) where
  abbrev both_found : Fetches
  both_found = two_found asks.found found

  abbrev asked_of : VerifyArguments
  asked_of = record {
    file = asks.file;
    type = asked_type asks.type asks.lines;
    certificate = certificate;
    limit = reading.limit;
  }

  abbrev request_of : Request
  request_of = own (verify asks.file asks.type certificate asks.lines reading)

  file_wanted : IsWanted on_certificates_after arguments both_found 0 asks.file
  file_wanted = record {
    request = request_of;
    asks = asks.asks;
    wants = (asked_of, refl, inl (refl, refl));
  }

  certificate_wanted : IsWanted on_certificates_after arguments both_found 1 certificate
  certificate_wanted = record {
    request = request_of;
    asks = asks.asks;
    wants = (asked_of, refl, inr (refl, refl, type_over r, asks.gives.0));
  }

  both_fetched : FetchesFor on_certificates_after arguments (change a c) both_found
  both_fetched =
      new_fetches arguments both_found a b c (inl (asks.file, file_wanted, asks.fetched))
      (inl (certificate, certificate_wanted, fetched))

  exit_given :
      (exit : Exit) → GivesCertificate certificate found (Err exit)
      → Prepares on_certificates_after arguments both_found (Err exit)
      ⊎ (exit ≡ out_of_memory)
  exit_given exit (inl reads) =
      inl (
        Ok request_of,
        asks.asks,
        (asked_of, refl, (Ok (type_over r), asks.gives.0, (Err exit, reads, refl))),
      )
  exit_given exit (inr memory) = inr memory

  -- If CERT gives an exit reason instead of entries, and the exit reason is reported, then the run
  -- has an account.
  pub no_sections_account :
      (exit : Exit) → GivesCertificate certificate found (Err exit) → (input : SourceState) (out : ByteState)
      (err : Change ByteState) (status : Status) → Reports exit err status
      → Account on_certificates_after arguments
      (call (change input input) (change a c) (change out out) err status)
  no_sections_account exit gives input out err status reports =
      exit_account on_certificates_after arguments both_found input out (change a c) both_fetched err status
      exit (exit_given exit gives) reports

  -- If CERT gives entries, and the values are verified, then the run has an account.
  pub sections_account :
      (sections : List Section) → GivesCertificate certificate found (Ok sections)
      → (input : Change SourceState) (out err : Change ByteState) (status : Status)
      → HasAccount on_certificates_after (certified_after r sections reading) input out err status
      → Account on_certificates_after arguments (call input (change a c) out err status)
  sections_account sections gives input out err status does =
      does arguments both_found (change a c) both_fetched (
        Ok request_of,
        asks.asks,
        (refl, (asked_of, refl, (Ok (type_over r), asks.gives.0, (Ok sections, gives, refl)))),
      )

-- If the skipped bytes and the tasks are equal, then `Account` holds for both tasks.
pub account_same :
    (over other : SkippedBytes) (a b : Verification TypeOver Section) (input : Change SourceState) (out err : Change ByteState)
    (status : Status) → over ≡ other → a ≡ b
    → HasAccount on_certificates_after (over, a) input out err status
    → HasAccount on_certificates_after (other, b) input out err status
account_same over other a b input out err status e f h =
    subst (λ o. HasAccount on_certificates_after (o, b) input out err status) e
    (subst (λ a. HasAccount on_certificates_after (over, a) input out err status) f h)
