-- If the language is lawful, and each value has at most one certificate entry, then the command is
-- lawful.
use Rattle.std.proofs.Common.{◌≡◌, ◌⊎◌, ℕ, List, Some, Result, Ok, Err, inl, inr, refl, sym, ap, ◌∙◌, subst}
use Rattle.std.specs.Prelude.{Option}
use Rattle.cli_spec.specs.Outcome.{Request, Language, ReadsTypeOf}
use Rattle.cli_spec.specs.declared.exit.Exit.{Exit}
use Rattle.run_spec.specs.runs.Commands.{Fetches}
use Rattle.run_spec.specs.runs.Lawful.{IsOnce, IsInner, FailsAtFile, AreLawful, AreInTurns}
use Rattle.run_spec.specs.runs.LawfulLanguage.{IsGiven, IsLawful}
use Rattle.run_spec.proofs.runs.RunOnceLemmas.{Then_once}
use Rattle.run_spec.proofs.runs.ExampleLemmas.{none_later}
use Rattle.run_spec.specs.value_commands.Tasks.{by_turns}
use Rattle.run_spec.proofs.value_commands.ValueCommandFindLemmas.{whole_or, IsRead, then_read, type_once, type_by, type_read, ComesOf, type_inside}
use Rattle.run_spec.proofs.value_commands.ValueCommandGivenLemmas.{type_given}
use Rattle.cmd_certify.specs.spec.Certification.{Certification, OutputsSections, CertifyArguments, certified_by, typed_of, CertifiesBy, Wants, Finds, certifying, AreCertifiedOnce}
use Rattle.cmd_certify.proofs.spec.CertifySpecItemLemmas.{lawful_at}

-- The arguments request at most one certification.
asked_same : (one other : Option CertifyArguments) (x y : CertifyArguments) → one ≡ Some x → one ≡ Some y → x ≡ y
asked_same one other x y h k = let both : Some x ≡ Some y = sym h ∙ k in cc both

module _ {D T E : Type 0} (language : Language D T E) (SectionOf : OutputsSections T) (lawful : IsLawful language) where
  asked_once :
      (request : Request) (one other : CertifyArguments) → certified_by request ≡ Some one
      → certified_by request ≡ Some other → one ≡ other
  asked_once request = asked_same (certified_by request) (certified_by request)

  -- ---- the requested file determines the task

  abbrev done : CertifyArguments → T → Result (Certification T) Exit → Type 0
  done asked type found = found ≡ Ok (record { type = type; limit = asked.limit })

  certifies_once : (files : Fetches) (asked : CertifyArguments) → IsOnce (CertifiesBy language files asked)
  certifies_once files asked =
      Then_once (ReadsTypeOf language (files 0) (typed_of asked)) (done asked)
      (type_once language lawful (files 0) (typed_of asked)) (λ type found other h k. h ∙ sym k)

  finds_once :
      (request : Request) (files : Fetches) → IsOnce (Finds language SectionOf request files)
  finds_once request files result other (asked, is, h) (asked', is', k) =
      let same = asked_once request asked asked' is is' in
      certifies_once files asked' result other
      (subst (λ a. CertifiesBy language files a result) same h) k

  wants_file :
      (request : Request) (files : Fetches) (asked : CertifyArguments) → certified_by request ≡ Some asked
      → Wants language SectionOf request files 0 asked.file
  wants_file request files asked is = (asked, is, refl, refl)

  wants_once :
      (request : Request) (files : Fetches) (turn : ℕ)
      → IsOnce (Wants language SectionOf request files turn)
  wants_once request files turn name other (asked, is, now, e) (asked', is', now', e') =
      e ∙ (ap (λ a. a.file) (asked_once request asked asked' is is') ∙ sym e')

  by_wanted :
      (request : Request) (files others : Fetches) (result : Result (Certification T) Exit)
      → ((turn : ℕ) (name : List ℕ) → Wants language SectionOf request files turn name
      → files turn name ≡ others turn name)
      → Finds language SectionOf request files result
      → Finds language SectionOf request others result
  by_wanted request files others result same (asked, is, (type, reads, next)) = (
    asked,
    is,
    (
      type,
      type_by language lawful (files 0) (others 0) (typed_of asked) type
          (same 0 asked.file (wants_file request files asked is)) reads,
      next,
    ),
  )

  -- ---- the file is read or ends the run

  certified_read :
      (files : Fetches) (asked : CertifyArguments) (result : Result (Certification T) Exit)
      → CertifiesBy language files asked result → IsRead asked.file (files 0 asked.file) result
  certified_read files asked =
      then_read asked.file (files 0 asked.file) (ReadsTypeOf language (files 0) (typed_of asked))
      (done asked) (type_read language lawful (files 0) (typed_of asked))

  wanted_read :
      (request : Request) (files : Fetches) (result : Result (Certification T) Exit)
      → Finds language SectionOf request files result → (turn : ℕ) (name : List ℕ)
      → Wants language SectionOf request files turn name
      → IsRead name (files turn name) result
  wanted_read request files result (asked, is, h) turn name (asked', is', now, e) =
      let file : asked.file ≡ name = ap (λ a. a.file) (asked_once request asked asked' is is') ∙ sym e in
      subst (λ t. IsRead name (files t name) result) (sym now)
      (subst (λ n. IsRead n (files 0 n) result) file (certified_read files asked result h))

  -- ---- an exit reason of the environment comes from the file

  abbrev IsInside : Request → Fetches → Exit → Type 0
  IsInside request files exit =
      IsInner exit ⊎ FailsAtFile (certifying language SectionOf) request files (Err exit)

  at_file :
      (request : Request) (files : Fetches) (exit : Exit) (asked : CertifyArguments)
      → certified_by request ≡ Some asked
      → ComesOf language lawful asked.file (files 0 asked.file) exit → IsInside request files exit
  at_file request files exit asked is (inl inner) = inl inner
  at_file request files exit asked is (inr fault) = inr (record {
    turn = 0;
    name = asked.file;
    wants = wants_file request files asked is;
    exit = exit;
    fault = fault;
    is = refl;
  })

  finds_inside :
      (request : Request) (files : Fetches) (exit : Exit)
      → Finds language SectionOf request files (Err exit) → IsInside request files exit
  finds_inside request files exit (asked, is, (Err s, reads, e)) =
      let same : s ≡ exit = cc e in
      at_file request files exit asked is
      (subst (ComesOf language lawful asked.file (files 0 asked.file)) same
      (type_inside language lawful (files 0) (typed_of asked) s reads))
  finds_inside request files exit (asked, is, (Ok type, reads, e)) = absurd (cc e)

  -- ---- the type was parsed

  found_given :
      (request : Request) (files : Fetches) (a : Certification T)
      → Finds language SectionOf request files (Ok a) → IsGiven language a.type
  found_given request files a (asked, is, (Err s, reads, e)) = absurd (cc e)
  found_given request files a (asked, is, (Ok type, reads, e)) =
      let same : a ≡ record { type = type; limit = asked.limit } = cc e in
      subst (λ a. IsGiven language a.type) (sym same)
      (type_given language (by_turns files) asked.file asked.type type reads)

  -- ---- the laws

  pub certifying_lawful :
      AreCertifiedOnce language SectionOf → AreLawful (certifying language SectionOf)
  certifying_lawful once = record {
    wants_once = wants_once;
    finds_once = finds_once;
    by_wanted = by_wanted;
    reads_wanted = λ request files result finds turn name wants.
        whole_or (files turn name) (wanted_read request files result finds turn name wants);
    finds_inside = finds_inside;
    at = λ a found.
        lawful_at SectionOf a language
        (once a.type (found_given found.0 found.1 a found.2));
  }

  pub certifying_turns : AreInTurns (certifying language SectionOf)
  certifying_turns = record {
    by_earlier = λ request files others turn name same h. h;
    reads = wanted_read;
    after_read = λ request files turn later name other less h k.
        absurd (none_later turn later less k.2);
  }
