-- The files of a run, turn by turn.
use Rattle.std.proofs.Common.{◌≡◌, ◌⊎◌, ◌<◌, ◌≤◌, ◌+◌, ◌^◌, ℕ, zero, suc, true, List, ◌++◌, Option, Some, None, IfSome, Err, inl, inr, refl, sym, ap, ◌∙◌, subst, length, length-append, append-nil, arith}
use Rattle.std.specs.Prelude.{IsSome}
use Rattle.cli_spec.specs.declared.status.Status.TheVariants as statuses
use Rattle.cli_spec.specs.Outcome.{ReadingEnd, at_end, at_fault, at_length, unasked, Taken, whole, Found, opened, missing, failed, unfetched, found_of, status_of, fault_of, ReadsFile}
use Rattle.cli_spec.specs.declared.exit.Exit.{Exit}
use Rattle.cli_spec.specs.declared.exit.Exit.TheVariants.{ReadFault as read_fault, TooLong as too_long}
use Rattle.cli_args.proofs.RequestLemmas.{one_request}
use Rattle.base_io.specs.Files.{File, contents_of}
use Rattle.base_io.specs.StreamState.{FilesState, Change, change}
use Rattle.run_spec.specs.runs.Account.{IsWanted, FetchesIn, FetchesFor}
use Rattle.run_spec.specs.runs.Commands.{Fetches, Commands}
use Rattle.run_spec.specs.runs.Given.{TakesFrom, Fetched, IsFoundOf, IsMeasured, IsMeasuredFile, is_fault, has_open_fault, has_read_fault}
use Rattle.run_spec.specs.runs.Lawful.{IsWhole, AreLawful}
use Rattle.run_spec.specs.runs.Environment.{IsEnvironment}

less_before : (n turns : ℕ) → suc n ≤ turns → n < turns
less_before n turns fits = omega arith

le_before : (n turns : ℕ) → suc n ≤ turns → n ≤ turns
le_before n turns fits = omega arith

-- ---- the turns

module _ {A : Type 0} (c : Commands A) (arguments : List (List ℕ)) (files : Change FilesState)
    (found : Fetches) (f : FetchesFor c arguments files found) where
  abbrev pub step : ℕ → Change FilesState
  step turn = change (f.state turn) (f.state (suc turn))

  keeps : (turn : ℕ) → turn < f.turns → (f.state (suc turn)).map ≡ (f.state turn).map
  keeps turn fits = go (f.each turn fits) where
    go : FetchesIn c arguments (step turn) found turn → (f.state (suc turn)).map ≡ (f.state turn).map
    go (inl (name, wanted, fetched)) = fetched.stays
    go (inr (same, none)) = ap (λ s. s.map) same

  map_at : (turn : ℕ) → turn ≤ f.turns → (f.state turn).map ≡ files.before.map
  map_at zero fits = ap (λ s. s.map) f.begins
  map_at (suc turn) fits =
      keeps turn (less_before turn f.turns fits)
      ∙ map_at turn (le_before turn f.turns fits)

  module _ (lawful : AreLawful c) where
    pub name_once :
        (turn : ℕ) (name other : List ℕ) → IsWanted c arguments found turn name
        → IsWanted c arguments found turn other → name ≡ other
    name_once turn name other w v =
        lawful.wants_once w.request found turn name other w.wants
        (subst (λ q. c.Wants q found turn other)
        (one_request arguments v.request w.request v.asks w.asks) v.wants)

    module _ (turn : ℕ) (name : List ℕ) (wanted : IsWanted c arguments found turn name) where
      -- If a file is requested in a turn, then the file is fetched in the turn, or memory ran out
      -- before.
      pub fetched_in : Fetched (step turn) name (found turn name) ⊎ (found turn name ≡ unfetched)
      fetched_in = go (f.each turn (f.all turn name wanted)) where
        go : FetchesIn c arguments (step turn) found turn
            → Fetched (step turn) name (found turn name) ⊎ (found turn name ≡ unfetched)
        go (inl (other, also, fetched)) =
            inl (subst (λ n. Fetched (step turn) n (found turn n))
            (name_once turn other name also wanted) fetched)
        go (inr (same, none)) = inr (none name wanted)

      -- If the file map is known, then the result of a fetch agrees with the map.
      pub found_in :
          (all : List File) → files.before.map ≡ Some all
          → IsFoundOf (contents_of all name) (found turn name)
      found_in all known = go fetched_in where
        le : turn < f.turns → turn ≤ f.turns
        le h = omega arith

        go : Fetched (step turn) name (found turn name) ⊎ (found turn name ≡ unfetched)
            → IsFoundOf (contents_of all name) (found turn name)
        go (inl fetched) =
            subst (λ m. IfSome m (λ all. IsFoundOf (contents_of all name) (found turn name)))
            (map_at turn (le (f.all turn name wanted)) ∙ known) fetched.map
        go (inr none) = subst (λ o. IsFoundOf (contents_of all name) o) (sym none) tt

      pub as_known :
          IfSome files.before.map (λ all. IsFoundOf (contents_of all name) (found turn name))
      as_known = go files.before.map refl where
        go : (map : Option (List File)) → files.before.map ≡ map
            → IfSome map (λ all. IsFoundOf (contents_of all name) (found turn name))
        go None known = tt
        go (Some all) known = found_in all known

      -- If the file is missing, then the file map is known.
      pub missing_known : found turn name ≡ missing → IsSome files.before.map
      missing_known e = go fetched_in where
        le : turn < f.turns → turn ≤ f.turns
        le h = omega arith

        go : Fetched (step turn) name (found turn name) ⊎ (found turn name ≡ unfetched)
            → IsSome files.before.map
        go (inl fetched) =
            subst (λ (m : Option (List File)). IsSome m) (map_at turn (le (f.all turn name wanted)))
            (fetched.known e)
        go (inr none) = let no : missing ≡ unfetched = sym e ∙ none in absurd (cc no)

      pub measured_in : IsMeasuredFile (found turn name)
      measured_in = go fetched_in where
        go : Fetched (step turn) name (found turn name) ⊎ (found turn name ≡ unfetched)
            → IsMeasuredFile (found turn name)
        go (inl fetched) = fetched.measured
        go (inr none) = subst IsMeasuredFile (sym none) tt

-- ---- the result, compared with the known contents

pub all_of :
    (bytes : List ℕ) (taken : Taken) (rest : List ℕ) → TakesFrom bytes taken rest
    → taken.until ≡ at_end → bytes ≡ taken.bytes
all_of bytes taken rest t e =
    t.prefix ∙ (ap (λ r. taken.bytes ++ r) (t.ends e) ∙ append-nil taken.bytes)

pub not_shorter :
    (bytes : List ℕ) (taken : Taken) (rest : List ℕ) → TakesFrom bytes taken rest
    → 2 ^ 48 ≤ length taken.bytes → 2 ^ 48 ≤ length bytes
not_shorter bytes taken rest t long =
    let size : length bytes ≡ length taken.bytes + length rest =
    ap length t.prefix ∙ length-append taken.bytes rest in omega (arith, size, long)

-- If a file was read completely, then the result has the known contents.
pub whole_known :
    (contents : Option (List ℕ)) (found : Found) → IsFoundOf contents found → IsWhole found
    → found ≡ found_of contents
whole_known None found is (inl (bytes, e)) = absurd (subst (λ o. IsFoundOf None o) e is)
whole_known (Some all) found is (inl (bytes, e)) =
    let t : (rest : List ℕ) × TakesFrom all (whole bytes) rest =
    subst (λ o. IsFoundOf (Some all) o) e is in
    e ∙ ap (λ b. opened (whole b)) (sym (all_of all (whole bytes) t.0 t.1 refl))
whole_known None found is (inr e) = e
whole_known (Some all) found is (inr e) =
    let none : Some all ≡ None = subst (λ o. IsFoundOf (Some all) o) e is in absurd (cc none)

-- The status of a file that failed or was too long.
abbrev pub IsFault : Option (List ℕ) → Exit → Type 0
IsFault contents exit =
    IsEnvironment (status_of exit)
    ⊎ ((status_of exit ≡ statuses.TooLong)
    × ((bytes : List ℕ) × (contents ≡ Some bytes) × (2 ^ 48 ≤ length bytes)))

-- If a file was not read, then it failed or was too long.
pub fault_environment :
    (contents : Option (List ℕ)) (name : List ℕ) (found : Found) → IsFoundOf contents found
    → IsMeasuredFile found → (exit : Exit) → ReadsFile name found (Err exit)
    → IsFault contents exit
fault_environment None name (opened taken) is measured exit fault = absurd is
fault_environment (Some bytes) name (opened taken) is measured exit fault =
    go taken.until measured fault where
      go : (u : ReadingEnd) → IsMeasured u (length taken.bytes) → fault_of u ≡ Some exit
          → IsFault (Some bytes) exit
      go at_end m k = absurd (cc k)
      go at_fault m k = let s : read_fault ≡ exit = cc k in inl (inl (ap status_of (sym s)))
      go at_length m k =
          let s : too_long ≡ exit = cc k in
          inr (ap status_of (sym s), (bytes, refl, not_shorter bytes taken is.0 is.1 m.0))
      go unasked m k = absurd (cc k)
fault_environment contents name missing is measured exit fault =
    inl (inr (inl (ap status_of fault)))
fault_environment contents name failed is measured exit fault =
    inl (inr (inl (ap status_of fault)))
fault_environment contents name unfetched is measured exit fault = absurd fault

-- If no operation failed and the file is short enough, then the result has the known contents.
pub ok_known :
    (contents : Option (List ℕ)) (name : List ℕ) (found : Found) → IsFoundOf contents found
    → IsMeasuredFile found
    → ((bytes : List ℕ) → contents ≡ Some bytes → length bytes < 2 ^ 48)
    → (has_open_fault found ≡ true → ⊥) → (has_read_fault found ≡ true → ⊥)
    → (exit : Exit) → ReadsFile name found (Err exit) → found ≡ found_of contents
ok_known None name (opened taken) is measured short opens reads exit fault = absurd is
ok_known (Some bytes) name (opened taken) is measured short opens reads exit fault =
    go taken.until measured reads fault where
      go : (u : ReadingEnd) → IsMeasured u (length taken.bytes)
          → (is_fault u ≡ true → ⊥)
          → fault_of u ≡ Some exit → opened taken ≡ opened (whole bytes)
      go at_end m r k = absurd (cc k)
      go at_fault m r k = absurd (r refl)
      go at_length m r k =
          let long = not_shorter bytes taken is.0 is.1 m.0 in
          let few = short bytes refl in absurd (omega (arith, long, few))
      go unasked m r k = absurd (cc k)
ok_known contents name missing is measured short opens reads exit fault =
    ap found_of (sym is)
ok_known contents name failed is measured short opens reads exit fault = absurd (opens refl)
ok_known contents name unfetched is measured short opens reads exit fault = absurd fault
