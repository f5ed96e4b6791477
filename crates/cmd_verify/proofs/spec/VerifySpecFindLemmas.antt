-- The requested files determine the task. Each requested file is read, or the file ends the run.
use Rattle.std.proofs.Common.{◌≡◌, ◌⊎◌, ◌<◌, ℕ, List, Some, Result, Ok, Err, inl, inr, refl, sym, ap, ◌∙◌, subst}
use Rattle.std.specs.Prelude.{MatchResult}
use Rattle.marshal_spec.specs.format.Tree.{Tree}
use Rattle.cli_spec.specs.Outcome.{Found, opened, whole, Request, Language, Then, OrRefusal, ReadsFile, ReadsTypeOf}
use Rattle.cli_spec.specs.declared.exit.Exit.{Exit}
use Rattle.cli_spec.specs.declared.exit.Exit.TheVariants.{Certificate as certificate_line}
use Rattle.run_spec.specs.runs.Commands.{Fetches}
use Rattle.run_spec.specs.runs.Lawful.{IsOnce, IsInner, FailsAtFile, AreInTurns}
use Rattle.run_spec.specs.runs.LawfulLanguage.{IsGiven, IsLawful}
use Rattle.run_spec.proofs.runs.ExampleLemmas.{reads_once, none_later}
use Rattle.run_spec.proofs.runs.RunOnceLemmas.{Then_once}
use Rattle.run_spec.specs.value_commands.Tasks.{by_turns}
use Rattle.run_spec.proofs.value_commands.ValueCommandFindLemmas.{refusal_once, IsRead, file_read, then_read, type_once, type_by, type_read, ComesOf, type_inside}
use Rattle.run_spec.proofs.value_commands.ValueCommandGivenLemmas.{type_given}
use Rattle.run_spec.proofs.value_commands.ValueCommandTurnLemmas.{not_between, is_before, file_whole}
use Rattle.cmd_verify.specs.spec.Verification.{Shown, Verification, VerifyArguments, typed_of, verified_by, ReadsSections, ReadsCertificateOf, WantedIn, VerifiesBy, Wants, Finds, verifying}

-- The arguments request at most one verification.
pub asked_once :
    (request : Request) (one other : VerifyArguments) → verified_by request ≡ Some one
    → verified_by request ≡ Some other → one ≡ other
asked_once request one other h k = let both : Some one ≡ Some other = sym h ∙ k in cc both

module _ {D T E S : Type 0} (language : Language D T E) (Reads : ReadsSections S)
    (ShownBy : T → S → Tree → Shown → Type 0) (lawful : IsLawful language)
    (once : (text : List ℕ) → IsOnce (Reads text)) where
  -- ---- the task is unique

  certificate_once :
      (files : List ℕ → Found) (name : List ℕ) → IsOnce (ReadsCertificateOf Reads files name)
  certificate_once files name =
      Then_once (ReadsFile name (files name)) (λ text. OrRefusal (Reads text) certificate_line)
      (reads_once name (files name))
      (λ text. refusal_once (Reads text) certificate_line (once text))

  abbrev done : T → VerifyArguments → List S → Result (Verification T S) Exit → Type 0
  done type asked sections found =
      found ≡ Ok (record { type = type; sections = sections; limit = asked.limit })

  verifies_once :
      (files : Fetches) (asked : VerifyArguments) → IsOnce (VerifiesBy language Reads files asked)
  verifies_once files asked =
      Then_once (ReadsTypeOf language (files 0) (typed_of asked))
      (λ type. Then (ReadsCertificateOf Reads (files 1) asked.certificate) (done type asked))
      (type_once language lawful (files 0) (typed_of asked))
      (λ type. Then_once (ReadsCertificateOf Reads (files 1) asked.certificate) (done type asked)
      (certificate_once (files 1) asked.certificate) (λ sections found other h k. h ∙ sym k))

  pub finds_once :
      (request : Request) (files : Fetches)
      → IsOnce (Finds language Reads ShownBy request files)
  finds_once request files result other (asked, is, h) (asked', is', k) =
      let same = asked_once request asked asked' is is' in
      verifies_once files asked' result other
      (subst (λ a. VerifiesBy language Reads files a result) same h) k

  -- ---- the requested files

  wants_file :
      (request : Request) (files : Fetches) (asked : VerifyArguments) → verified_by request ≡ Some asked
      → Wants language Reads ShownBy request files 0 asked.file
  wants_file request files asked is = (asked, is, inl (refl, refl))

  wants_certificate :
      (request : Request) (files : Fetches) (asked : VerifyArguments) → verified_by request ≡ Some asked
      → (type : T) → ReadsTypeOf language (files 0) (typed_of asked) (Ok type)
      → Wants language Reads ShownBy request files 1 asked.certificate
  wants_certificate request files asked is type reads = (asked, is, inr (refl, refl, type, reads))

  pub wants_once :
      (request : Request) (files : Fetches) (turn : ℕ)
      → IsOnce (Wants language Reads ShownBy request files turn)
  wants_once request files turn name other (asked, is, h) (asked', is', k) =
      by h (subst (λ a. WantedIn language files a turn other)
      (asked_once request asked' asked is' is) k) where
        by : WantedIn language files asked turn name → WantedIn language files asked turn other
            → name ≡ other
        by (inl (now, e)) (inl (now', e')) = e ∙ sym e'
        by (inl (now, e)) (inr (now', e', type, reads)) = absurd (cc (now, now'))
        by (inr (now, e, type, reads)) (inl (now', e')) = absurd (cc (now, now'))
        by (inr (now, e, type, reads)) (inr (now', e', type', reads')) = e ∙ sym e'

  -- ---- the task depends on the requested files

  certificate_by :
      (files others : List ℕ → Found) (name : List ℕ) (result : Result (List S) Exit)
      → files name ≡ others name
      → ReadsCertificateOf Reads files name result → ReadsCertificateOf Reads others name result
  certificate_by files others name result same (text, reads, next) =
      (text, subst (λ found. ReadsFile name found text) same reads, next)

  -- The task or the exit reason that follows from the entries of CERT.
  abbrev Sections : Fetches → VerifyArguments → Result (Verification T S) Exit → T → Type 0
  Sections files asked result type =
      Then (ReadsCertificateOf Reads (files 1) asked.certificate) (done type asked) result

  pub finds_by :
      (request : Request) (files others : Fetches) (result : Result (Verification T S) Exit)
      → ((turn : ℕ) (name : List ℕ) → Wants language Reads ShownBy request files turn name
      → files turn name ≡ others turn name)
      → Finds language Reads ShownBy request files result
      → Finds language Reads ShownBy request others result
  finds_by request files others result same (asked, is, (type, reads, next)) = (
    asked,
    is,
    (
      type,
      type_by language lawful (files 0) (others 0) (typed_of asked) type
          (same 0 asked.file (wants_file request files asked is)) reads,
      from type reads next,
    ),
  ) where
    from : (type : Result T Exit) → ReadsTypeOf language (files 0) (typed_of asked) type
        → MatchResult type (Sections files asked result) (λ exit. result ≡ Err exit)
        → MatchResult type (Sections others asked result) (λ exit. result ≡ Err exit)
    from (Err s) reads e = e
    from (Ok type) reads (sections, read, e) = (
      sections,
      certificate_by (files 1) (others 1) asked.certificate sections
          (same 1 asked.certificate (wants_certificate request files asked is type reads)) read,
      e,
    )

  -- ---- each file is read or ends the run

  certificate_read :
      (files : List ℕ → Found) (name : List ℕ) (result : Result (List S) Exit)
      → ReadsCertificateOf Reads files name result → IsRead name (files name) result
  certificate_read files name =
      then_read name (files name) (ReadsFile name (files name))
      (λ text. OrRefusal (Reads text) certificate_line) (file_read name (files name))

  read_in :
      (files : Fetches) (asked : VerifyArguments) (result : Result (Verification T S) Exit)
      → VerifiesBy language Reads files asked result → (turn : ℕ) (name : List ℕ)
      → WantedIn language files asked turn name → IsRead name (files turn name) result
  read_in files asked result h turn name (inl (now, is)) =
      subst (λ t. IsRead name (files t name) result) (sym now)
      (subst (λ n. IsRead n (files 0 n) result) (sym is)
      (then_read asked.file (files 0 asked.file) (ReadsTypeOf language (files 0) (typed_of asked))
      (Sections' asked) (type_read language lawful (files 0) (typed_of asked)) result h)) where
        Sections' : VerifyArguments → T → Result (Verification T S) Exit → Type 0
        Sections' asked type found = Sections files asked found type
  read_in files asked result (type, reads, next) turn name (inr (now, is, wanted, typed)) =
      subst (λ t. IsRead name (files t name) result) (sym now)
      (subst (λ n. IsRead n (files 1 n) result) (sym is)
      (from type (type_once language lawful (files 0) (typed_of asked) (Ok wanted) type typed reads)
      next)) where
        from : (type : Result T Exit) → Ok wanted ≡ type
            → MatchResult type (Sections files asked result) (λ exit. result ≡ Err exit)
            → IsRead asked.certificate (files 1 asked.certificate) result
        from (Err s) e next = absurd (cc e)
        from (Ok type) e next =
            then_read asked.certificate (files 1 asked.certificate)
            (ReadsCertificateOf Reads (files 1) asked.certificate) (done type asked)
            (certificate_read (files 1) asked.certificate) result next

  pub wanted_read :
      (request : Request) (files : Fetches) (result : Result (Verification T S) Exit)
      → Finds language Reads ShownBy request files result → (turn : ℕ) (name : List ℕ)
      → Wants language Reads ShownBy request files turn name
      → IsRead name (files turn name) result
  wanted_read request files result (asked, is, h) turn name (asked', is', wanted) =
      read_in files asked result h turn name
      (subst (λ a. WantedIn language files a turn name) (asked_once request asked' asked is' is)
      wanted)

  -- ---- an exit reason of the environment comes from one of the files

  certificate_inside :
      (files : List ℕ → Found) (name : List ℕ) (exit : Exit)
      → ReadsCertificateOf Reads files name (Err exit)
      → ComesOf language lawful name (files name) exit
  certificate_inside files name exit (Err s, fault, is) =
      let same : s ≡ exit = cc is in
      inr (subst (λ s. ReadsFile name (files name) (Err s)) same fault)
  certificate_inside files name exit (Ok text, reads, (refusal, refuses, e)) =
      inl (subst IsInner (sym e) tt)

  abbrev IsInside : Request → Fetches → Exit → Type 0
  IsInside request files exit =
      IsInner exit ⊎ FailsAtFile (verifying language Reads ShownBy) request files (Err exit)

  at_file :
      (request : Request) (files : Fetches) (exit : Exit) (turn : ℕ) (name : List ℕ)
      → Wants language Reads ShownBy request files turn name
      → ComesOf language lawful name (files turn name) exit → IsInside request files exit
  at_file request files exit turn name wants (inl inner) = inl inner
  at_file request files exit turn name wants (inr fault) = inr (record {
    turn = turn;
    name = name;
    wants = wants;
    exit = exit;
    fault = fault;
    is = refl;
  })

  pub finds_inside :
      (request : Request) (files : Fetches) (exit : Exit)
      → Finds language Reads ShownBy request files (Err exit) → IsInside request files exit
  finds_inside request files exit (asked, is, (Err s, reads, e)) =
      let same : s ≡ exit = cc e in
      at_file request files exit 0 asked.file (wants_file request files asked is)
      (subst (ComesOf language lawful asked.file (files 0 asked.file)) same
      (type_inside language lawful (files 0) (typed_of asked) s reads))
  finds_inside request files exit (asked, is, (Ok type, reads, (Ok sections, read, e))) =
      absurd (cc e)
  finds_inside request files exit (asked, is, (Ok type, reads, (Err s, read, e))) =
      let same : s ≡ exit = cc e in
      at_file request files exit 1 asked.certificate
      (wants_certificate request files asked is type reads)
      (subst (ComesOf language lawful asked.certificate (files 1 asked.certificate)) same
      (certificate_inside (files 1) asked.certificate s read))

  -- ---- the type was parsed

  pub found_given :
      (request : Request) (files : Fetches) (a : Verification T S)
      → Finds language Reads ShownBy request files (Ok a) → IsGiven language a.type
  found_given request files a (asked, is, (Err s, reads, e)) = absurd (cc e)
  found_given request files a (asked, is, (Ok type, reads, (Err s, read, e))) = absurd (cc e)
  found_given request files a (asked, is, (Ok type, reads, (Ok sections, read, e))) =
      let same : a ≡ record { type = type; sections = sections; limit = asked.limit } = cc e in
      subst (λ a. IsGiven language a.type) (sym same)
      (type_given language (by_turns files) asked.file asked.type type reads)

  -- ---- turn by turn

  by_earlier :
      (request : Request) (files others : Fetches) (turn : ℕ) (name : List ℕ)
      → ((earlier : ℕ) (other : List ℕ) → earlier < turn
      → Wants language Reads ShownBy request files earlier other
      → files earlier other ≡ others earlier other)
      → Wants language Reads ShownBy request files turn name
      → Wants language Reads ShownBy request others turn name
  by_earlier request files others turn name same (asked, is, inl first) = (asked, is, inl first)
  by_earlier request files others turn name same (asked, is, inr (now, e, type, reads)) = (
    asked,
    is,
    inr (
      now,
      e,
      type,
      type_by language lawful (files 0) (others 0) (typed_of asked) (Ok type)
          (same 0 asked.file (is_before turn now) (wants_file request files asked is)) reads,
    ),
  )

  after_read :
      (request : Request) (files : Fetches) (turn later : ℕ) (name other : List ℕ) → turn < later
      → Wants language Reads ShownBy request files turn name
      → Wants language Reads ShownBy request files later other
      → (bytes : List ℕ) × (files turn name ≡ opened (whole bytes))
  after_read request files turn later name other less (asked, is, h) (asked', is', inl (now, e)) =
      absurd (none_later turn later less now)
  after_read request files turn later name other less (asked, is, inr (now, e, type, reads)) (asked', is', inr (now', e', type', reads')) =
      absurd (not_between turn later less now now')
  after_read request files turn later name other less (asked, is, inl (now, e)) (asked', is', inr (now', e', type, reads)) =
      let read = file_whole language lawful (files 0) (typed_of asked') type reads in
      let same = asked_once request asked' asked is' is in
      let first : asked'.file ≡ name = ap (λ a. a.file) same ∙ sym e in
      (read.0, ap (λ t. files t name) now ∙ (ap (λ n. files 0 n) (sym first) ∙ read.1))

  pub in_turns : AreInTurns (verifying language Reads ShownBy)
  in_turns = record {
    by_earlier = by_earlier;
    reads = wanted_read;
    after_read = after_read;
  }
