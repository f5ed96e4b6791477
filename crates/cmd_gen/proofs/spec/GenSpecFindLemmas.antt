-- TYPE parses in one way over the declarations of the items, as over a file that contains the
-- declarations.
use Rattle.std.proofs.Common.{◌≡◌, ℕ, false, List, [], Some, None, Result, Ok, Err, inl, inr, refl, sym, ap, ◌∙◌, subst}
use Rattle.cli_spec.specs.declared.status.Status.TheVariants.{Types}
use Rattle.cli_spec.specs.Outcome.{Found, opened, whole, Request, asked_type, status_of, Language, Then, ReadsTypeOf}
use Rattle.cli_spec.specs.declared.exit.Exit.{Exit}
use Rattle.cmd_gen.specs.generator.Generated.{item_declarations}
use Rattle.run_spec.specs.runs.Commands.{Fetches}
use Rattle.run_spec.specs.runs.Lawful.{IsOnce, IsInner}
use Rattle.run_spec.specs.runs.LawfulLanguage.{IsGiven, IsLawful}
use Rattle.run_spec.proofs.runs.RunOnceLemmas.{Then_once}
use Rattle.run_spec.proofs.value_commands.ValueCommandFindLemmas.{type_once, type_inside, ComesOf}
use Rattle.run_spec.proofs.value_commands.ValueCommandGivenLemmas.{type_given}
use Rattle.run_spec.specs.exit_statuses.Stages.{IsRefusedType}
use Rattle.cmd_gen.specs.spec.GenSpec.{GenArguments, generated_by, Making, making, ReadsItemType, Finds}

-- For every file name, the file contains the declarations of the items.
abbrev items_file : List ℕ → Found
items_file name = opened (whole item_declarations)

-- A request has only one parse as arguments of `gen`.
same_asked :
    (request : Request) (asked other : GenArguments) → generated_by request ≡ Some asked
    → generated_by request ≡ Some other → asked ≡ other
same_asked request asked other h k = let same : Some asked ≡ Some other = sym h ∙ k in cc same

module _ {D T E : Type 0} (language : Language D T E) where
  as_typed :
      (text : List ℕ) (result : Result T Exit) → ReadsItemType language text result
      → ReadsTypeOf language items_file ([], asked_type text false) result
  as_typed text result h = (Ok item_declarations, refl, h)

  -- Case: TYPE is valid.
  item_type_given :
      (text : List ℕ) (type : T) → ReadsItemType language text (Ok type) → IsGiven language type
  item_type_given text type h =
      type_given language (record { file = items_file; script = items_file }) []
      (asked_type text false) type (as_typed text (Ok type) h)

  -- If reading TYPE ends the run, then TYPE is refused.
  pub refused_type :
      (text : List ℕ) (exit : Exit) → ReadsItemType language text (Err exit)
      → (status_of exit ≡ Types) × IsRefusedType language item_declarations (asked_type text false)
  refused_type text exit (Err s, (refusal, refuses, e), is) =
      let same : exit ≡ s = cc is in
      (ap (λ s. status_of s) (same ∙ e), inl (refusal, refuses))
  refused_type text exit (Ok d, reads, (refusal, refuses, e)) =
      (ap (λ s. status_of s) e, inr (d, refusal, reads, refuses))

  module _ (lawful : IsLawful language) where
    item_type_once : (text : List ℕ) → IsOnce (ReadsItemType language text)
    item_type_once text result other h k =
        type_once language lawful items_file ([], asked_type text false) result other
        (as_typed text result h) (as_typed text other k)

    item_type_inside :
        (text : List ℕ) (exit : Exit) → ReadsItemType language text (Err exit) → IsInner exit
    item_type_inside text exit h =
        by (type_inside language lawful items_file ([], asked_type text false) exit (as_typed text (Err exit) h))
      where
        by : ComesOf language lawful [] (opened (whole item_declarations)) exit → IsInner exit
        by (inl inner) = inner
        by (inr fault) = let never : None ≡ Some exit = fault in absurd (cc never)

    -- The task or the exit reason that is found for the parsed arguments.
    abbrev FindsMaking : GenArguments → Result (Making T) Exit → Type 0
    FindsMaking asked =
        Then (ReadsItemType language asked.type) (λ type found. found ≡ Ok (making asked type))

    making_once :
        (asked : GenArguments)
        → IsOnce (FindsMaking asked)
    making_once asked =
        Then_once (ReadsItemType language asked.type) (λ type found. found ≡ Ok (making asked type))
        (item_type_once asked.type) (λ type found other h k. h ∙ sym k)

    pub found_once : (request : Request) (files : Fetches) → IsOnce (Finds language request files)
    found_once request files result other (asked, is, h) (asked', is', k) =
        let same = same_asked request asked asked' is is' in
        making_once asked' result other
        (subst (λ (a : GenArguments). FindsMaking a result) same h) k

    pub found_inside :
        (request : Request) (files : Fetches) (exit : Exit)
        → Finds language request files (Err exit) → IsInner exit
    found_inside request files exit (asked, is, (Ok type, reads, known)) = absurd (cc known)
    found_inside request files exit (asked, is, (Err s, reads, e)) =
        let same : s ≡ exit = cc e in subst IsInner same (item_type_inside asked.type s reads)

  pub found_given :
      (request : Request) (files : Fetches) (a : Making T) → Finds language request files (Ok a)
      → IsGiven language a.type
  found_given request files a (asked, is, (Err s, reads, e)) = absurd (cc e)
  found_given request files a (asked, is, (Ok type, reads, known)) =
      let same : a ≡ making asked type = cc known in
      subst (λ (a : Making T). IsGiven language a.type) (sym same)
      (item_type_given asked.type type reads)
