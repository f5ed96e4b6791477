-- If a call of `check --cert` reached the end of the input, then FILE and TYPE were read, and the
-- whole input is values. The entry of each value was written.
use Rattle.std.proofs.Common.{◌≡◌, ℕ, suc, Bool, true, List, [], ◌∷◌, ◌++◌, length, Option, Some, Result, Ok, Err, inl, inr, refl, sym, ap, ◌∙◌, subst}
use Rattle.std.specs.Prelude.{◌&&◌, if◌then◌else◌}
use Rattle.marshal_spec.specs.format.Stream.{EncodeAll, StreamEnd, clean, refused, cut, IsTail}
use Rattle.marshal_spec.specs.format.Tree.{Tree}
use Rattle.types_spec.specs.declared.types.decl.Decl.{Decl}
use Rattle.cert_format.specs.declared.section.Section.{Section}
use Rattle.cert_format.specs.Format.{section_text}
use Rattle.cert_format.specs.Laws.{texts_from}
use Rattle.cli_spec.specs.declared.status.Status.{Status}
use Rattle.cli_spec.specs.declared.status.Status.TheVariants as statuses
use Rattle.cli_spec.specs.RefusalText.{refusal_text, truncated_text}
use Rattle.cli_spec.specs.Outcome.{ReadingEnd, at_end, at_fault, at_length, unasked, whole, opened, Request, Asks, status_of, ending_of, Output, nothing_output, outputs, exits, Replies, replies, stopped, all_ok, texts_of, ReadsTypeOf}
use Rattle.cli_spec.specs.declared.exit.Exit.{Exit}
use Rattle.cli_spec.specs.declared.exit.Exit.TheVariants.{Value as value, ReadFault as read_fault, TooLong as too_long}
use Rattle.cli_args.proofs.RequestLemmas.{one_request}
use Rattle.run_spec.specs.runs.Commands.{Item, Given, Prepares, IsLast, Closes, OutputsAll, Answers}
use Rattle.run_spec.proofs.runs.RunSettledLemmas.{Goes, exit_status}
use Rattle.run_types.specs.Language.{TypeOver, declared_types, ReadsDeclarations, ReadsType}
use Rattle.cmd_certify.specs.spec.Certification.{Certification, CertifyArguments, typed_of, certified_by, EndsHere, EndsBy}
use Rattle.cmd_certify.specs.spec.ExitStatuses.{Bar}
use Rattle.cmd_certify.proofs.spec.CertifySpecOutputLemmas.{AreOutput, print_first}
use Rattle.cmd_certify.proofs.spec.CertifySpecTableLemmas.{exact}
use Rattle.cmd_certify.specs.command.CertifiedOutput.{is_yes, declared_certificates, on_certified}
use Rattle.run_spec.proofs.runs.EndedLemmas.{IsEnd}
use Rattle.thm_certificates.proofs.certified.CertifiedStatedLemmas.{AreSections}

-- ---- output for values

-- True if each entry states that its value has the type.
abbrev pub all_yes : List Section → Bool
all_yes [] = true
all_yes (section ∷ more) = is_yes section && all_yes more

abbrev pub status_by : Bool → Status
status_by ok = if ok then statuses.AllOk else statuses.No

-- The outputs are the entries of the values, numbered from `k`. The outputs are without errors if
-- and only if each entry states that its value has the type.
pub record OutputsThem (t : TypeOver) (k : ℕ) (trees : List Tree) (output : List Output) : Type 0 where
  pub sections : List Section
  pub are : AreSections t trees sections
  pub texts : texts_of (output ++ nothing_output ∷ []) ≡ texts_from k sections
  pub ok : all_ok (output ++ nothing_output ∷ []) ≡ all_yes sections

outputs_them : (a : Certification TypeOver) (k : ℕ) (trees : List Tree) (output : List Output)
    → AreOutput declared_certificates a k trees output → OutputsThem a.type k trees output
outputs_them a k [] [] h = record { sections = []; are = tt; texts = refl; ok = refl }
outputs_them a k [] (s ∷ output) h = absurd h
outputs_them a k (tree ∷ trees) [] h = absurd h
outputs_them a k (tree ∷ trees) (s ∷ output) ((section, is, same), h) =
    let next = outputs_them a (suc k) trees output h in record {
      sections = section ∷ next.sections;
      are = (is, next.are);
      texts = ap (λ (s : Output). s.text ++ texts_of (output ++ nothing_output ∷ [])) same
          ∙ ap (λ rest. section_text k section ++ rest) next.texts;
      ok = ap (λ (s : Output). s.ok && all_ok (output ++ nothing_output ∷ [])) same
          ∙ ap (λ rest. is_yes section && rest) next.ok;
    }

-- ---- the call

-- The work of `check --cert` at the type `t`.
abbrev pub work_at : TypeOver → CertifyArguments → Certification TypeOver
work_at t asked = record { type = t; limit = asked.limit }

-- If one option contains two requests for a certificate, then the requests are equal.
asked_once : (asked : Option CertifyArguments) (one other : CertifyArguments) → asked ≡ Some one → asked ≡ Some other
    → one ≡ other
asked_once asked one other h k = let both : Some one ≡ Some other = sym h ∙ k in cc both

-- A status that marks the end of an input is `AllOk` or `No`.
no_end : (status : Status) → IsEnd status → (status ≡ statuses.AllOk → ⊥)
    → (status ≡ statuses.No → ⊥) → ⊥
no_end status (inl e) not_ok not_no = not_ok e
no_end status (inr e) not_ok not_no = not_no e

module _ (arguments : List (List ℕ)) (asked : CertifyArguments) (request : Request) (asks : Asks arguments request)
    (is_asked : certified_by request ≡ Some asked) (given : Given) (all : Replies)
    (end : IsEnd (ending_of all).status) where
  -- FILE and TYPE were read, the whole input is values, and the entries of the values are written.
  pub record AreWritten : Type 0 where
    pub t : TypeOver
    pub contents : List ℕ
    pub read : given.files 0 asked.file ≡ opened (whole contents)
    pub decls : List Decl
    pub declared : ReadsDeclarations asked.type.lines contents (Ok decls)
    pub written : ReadsType decls asked.type (Ok t)
    pub ended : given.input.until ≡ at_end
    pub trees : List Tree
    pub encoded : EncodeAll asked.limit given.input.bytes trees []
    pub sections : List Section
    pub are : AreSections t trees sections
    pub out : (ending_of all).out ≡ texts_from 0 sections
    pub status : (ending_of all).status ≡ status_by (all_yes sections)

  -- If the status of an exit reason is neither `AllOk` nor `No`, then the last reply does not have
  -- the exit reason.
  not_last : (exit : Exit) → (status_of exit ≡ statuses.AllOk → ⊥)
      → (status_of exit ≡ statuses.No → ⊥) → all.last ≡ exits exit → ⊥
  not_last exit not_ok not_no is =
      no_end (status_of exit) (subst IsEnd (exit_status all exit is) end) not_ok not_no

  not_value : (number : ℕ) (text : List ℕ) → all.last ≡ exits (value number text) → ⊥
  not_value number text is = not_last (value number text) (λ e. cc e) (λ e. cc e) is

  module _ (t : TypeOver) (contents : List ℕ)
      (read : given.files 0 asked.file ≡ opened (whole contents)) (decls : List Decl)
      (declared : ReadsDeclarations asked.type.lines contents (Ok decls))
      (written : ReadsType decls asked.type (Ok t)) where
    abbrev its_task : Certification TypeOver
    its_task = work_at t asked

    at_its_end : (u : ReadingEnd) (items : List Item) (rest : List ℕ)
        → Closes on_certified its_task items rest u all.last
        → (u ≡ at_end) × EndsHere declared_certificates its_task items rest all.last
    at_its_end at_end items rest h = (refl, h)
    at_its_end at_fault items rest h =
        absurd (not_last read_fault (λ e. cc e) (λ e. cc e) h)
    at_its_end at_length items rest h = absurd (not_last too_long (λ e. cc e) (λ e. cc e) h)
    at_its_end unasked items rest h = absurd h

    at_clean_end : (number : ℕ) (rest : List ℕ) (how : StreamEnd) → IsTail asked.limit rest how
        → EndsBy declared_certificates its_task number how all.last
        → (rest ≡ []) × (all.last ≡ outputs nothing_output)
    at_clean_end number rest clean tail ends = (tail, ends)
    at_clean_end number rest (refused refusal) tail ends = absurd ends
    at_clean_end number rest (cut n) tail ends =
        absurd (not_value number (truncated_text n) ends)

    of_all : OutputsAll on_certified its_task given.input all → AreWritten
    of_all s = by s.last where
      by : IsLast on_certified its_task s.items s.rest given.input.until all.last → AreWritten
      by (inl (exit, at, none, is)) =
          absurd (not_value (length s.items) (refusal_text at.refusal)
          (is ∙ ap (λ exit. exits exit) at.is))
      by (inr (goes_on, closes)) =
          let e = at_its_end given.input.until s.items s.rest closes in
          let clean_end = at_clean_end (length s.items) s.rest e.1.0 e.1.1 e.1.2 in
          let first =
          print_first declared_certificates its_task declared_types given.input.bytes s.items all.output
          s.rest s.first in
          let them = outputs_them its_task 0 first.0 all.output first.3 in
          record {
            t = t;
            contents = contents;
            read = read;
            decls = decls;
            declared = declared;
            written = written;
            ended = e.0;
            trees = first.0;
            encoded = subst (EncodeAll asked.limit given.input.bytes first.0) clean_end.0 first.2;
            sections = them.sections;
            are = them.are;
            out = ap (λ last. (ending_of (replies all.output last)).out) clean_end.1 ∙ them.texts;
            status = ap (λ last. (ending_of (replies all.output last)).status) clean_end.1
                ∙ ap status_by them.ok;
          }

    of_answers : Answers on_certified its_task given.input all → AreWritten
    of_answers (inl (reads, s)) = of_all s
    of_answers (inr alone) = absurd (alone.unread tt)

  of_type : (t : TypeOver)
      → ReadsTypeOf declared_types (given.files 0) (typed_of asked) (Ok t)
      → Answers on_certified (work_at t asked) given.input all → AreWritten
  of_type t (Err exit, fault, e) answers = absurd (cc e)
  of_type t (Ok contents, read, (Err exit, refusal, e)) answers = absurd (cc e)
  of_type t (Ok contents, read, (Ok decls, declared, written)) answers =
      of_answers t contents read decls declared written answers

  -- The run does not end before the input is read.
  not_barred : (exit : Exit)
      → Bar declared_types declared_certificates request given.files (status_of exit)
      → all ≡ stopped exit → ⊥
  not_barred exit bar is = by (subst IsEnd (ap (λ all. (ending_of all).status) is) end) where
    by : IsEnd (status_of exit) → ⊥
    by (inl e) = subst (Bar declared_types declared_certificates request given.files) e bar
    by (inr e) = subst (Bar declared_types declared_certificates request given.files) e bar

  of_found : (found : Result (Certification TypeOver) Exit)
      → on_certified.Finds request given.files found
      → Goes on_certified given all found → AreWritten
  of_found (Err exit) finds goes =
      let bars = (exact declared_types declared_certificates).bars request given.files
      (status_of exit) in
      absurd (not_barred exit (bars.0 (exit, refl, finds)) goes)
  of_found (Ok work) (other, is_other, (Err exit, reads, e)) goes = absurd (cc e)
  of_found (Ok work) (other, is_other, (Ok t, reads, e)) goes =
      let one = asked_once (certified_by request) other asked is_other is_asked in
      let same : work ≡ work_at t other = cc e in
      let is : work ≡ work_at t asked = same ∙ ap (work_at t) one in
      of_type t
      (subst (λ a. ReadsTypeOf declared_types (given.files 0) (typed_of a) (Ok t)) one reads)
      (subst (λ work. Answers on_certified work given.input all) is goes)

  of_arguments : (found : Result (Certification TypeOver) Exit)
      → Prepares on_certified arguments given.files found
      → Goes on_certified given all found → AreWritten
  of_arguments found (Err exit, (usage, is), e) goes = absurd (usage request asks)
  of_arguments found (Ok other, asked', finds) goes =
      let same = one_request arguments other request asked' asks in
      of_found found (subst (λ r. on_certified.Finds r given.files found) same finds) goes

  pub are_written : (found : Result (Certification TypeOver) Exit)
      × Prepares on_certified arguments given.files found
      × Goes on_certified given all found → AreWritten
  are_written (found, prepares, goes) = of_arguments found prepares goes
