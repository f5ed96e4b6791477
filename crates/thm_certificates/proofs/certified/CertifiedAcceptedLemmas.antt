-- Given the output of `check --cert`, `verify` has one outcome: the lines of `check` are written.
use Rattle.std.proofs.Common.{◌≡◌, ℕ, ◌+◌, ◌<◌, ◌≤◌, ◌^◌, List, [], ◌∷◌, ◌++◌, length, Some, Ok, inl, inr, refl, sym, ap, ◌∙◌, subst, arith}
use Rattle.std.specs.Prelude.{IfSome, slice_get}
use Rattle.base_data.specs.model.Bytes.{AreBytes}
use Rattle.marshal_spec.specs.format.Stream.{EncodeAll}
use Rattle.marshal_spec.specs.format.Tree.{Tree}
use Rattle.cert_format.specs.declared.section.Section.{Section}
use Rattle.cert_format.specs.Format.{IsCertificate}
use Rattle.cert_format.specs.Laws.{texts_from, WrittenSectionsAreCertificates}
use Rattle.cert_verify.specs.table_independence.ReachedTypes.{ReachedTypesAreOne}
use Rattle.cli_spec.specs.Outcome.{whole, found_of, all_under, AskedType, asked_type, own, verify, ending_of, Output, nothing_output, outputs, replies, all_ok, texts_of}
use Rattle.base_io.specs.Files.{contents_of}
use Rattle.base_io.specs.Sink.{Writes}
use Rattle.run_spec.specs.runs.Account.{IsWanted}
use Rattle.run_spec.specs.runs.Call.{Call}
use Rattle.run_spec.specs.runs.RunCauses.{AreAsKnown}
use Rattle.run_spec.specs.runs.CommandLaws.{Follow}
use Rattle.run_spec.specs.runs.Commands.{Prepares, OutputsAll, Answers}
use Rattle.run_spec.specs.runs.Given.{ReportsBytes, TakesFrom, IsFoundOf}
use Rattle.run_spec.specs.runs.Lawful.{AreLawful}
use Rattle.run_spec.specs.runs.LawfulLanguage.{IsGiven}
use Rattle.run_spec.specs.runs.RunSpec.{RunSpec, HasOutcome, known_files}
use Rattle.run_spec.proofs.runs.RunAnswerLemmas.{headline}
use Rattle.run_spec.proofs.runs.EndedLemmas.{IsEnd, HasEnded, has_ended, held, taken_whole, write_once}
use Rattle.run_spec.proofs.runs.RunOnceLemmas.{prepares_once}
use Rattle.run_spec.proofs.runs.RunSettledLemmas.{Goes}
use Rattle.run_spec.proofs.runs.RunValueLemmas.{and_true, all_ok-snoc}
use Rattle.run_types.specs.Language.{TypeOver, declared_types, ReadsDeclarations, ReadsType, ReachesWithinTable}
use Rattle.run_types.proofs.RunTypesGivenLemmas.{lined, accepted_lined}
use Rattle.cmd_certify.specs.spec.Certification.{CertifyArguments}
use Rattle.cmd_certify.specs.command.CertifiedOutput.{on_certified}
use Rattle.cmd_verify.specs.spec.Verification.{Verification}
use Rattle.cmd_verify.proofs.spec.VerifySpecOutputLemmas.{AreOutput}
use Rattle.cmd_verify.specs.command.VerifyProgress.{on_certificates}
use Rattle.cmd_verify.specs.command.VerifiedSections.{reads_sections, declared_sections}
use Rattle.thm_certificates.specs.certified.CertifyThenVerify.{CertifiesValues, VerifiesValues, ConfirmsAll, WrittenCertificatesAreAccepted}
use Rattle.thm_certificates.specs.certified.ShownLines.{CertifiedTextsAreShown}
use Rattle.thm_certificates.proofs.certified.CertifiedLineLemmas.{sections_many, all_good, AreLines, all_lines}
use Rattle.thm_certificates.proofs.certified.CertifiedWriteLemmas.{AreWritten, are_written, status_by}
use Rattle.thm_certificates.proofs.certified.CertifiedStatedLemmas.{AreSections, sections_lined, are_stated}
use Rattle.thm_certificates.proofs.certified.CertifiedTakenLemmas.{AreGood, all_taken}

-- ---- values and texts

-- If values are under a limit, then they are under each greater limit.
under_more : (limit greater : ℕ) → limit ≤ greater → (bytes : List ℕ) (trees : List Tree)
    (rest : List ℕ) → EncodeAll limit bytes trees rest → EncodeAll greater bytes trees rest
under_more limit greater fits bytes [] rest s = s
under_more limit greater fits bytes (tree ∷ trees) rest (first, more, is, one, s) = (
  first,
  more,
  is,
  record {
    header = one.header;
    chunks = one.chunks;
    bytes_are = one.bytes_are;
    encodes = one.encodes;
    words = omega (arith, one.words, fits);
    small = one.small;
  },
  under_more limit greater fits more trees rest s,
)

texts_end : (output : List Output) → texts_of (output ++ nothing_output ∷ []) ≡ texts_of output
texts_end [] = refl
texts_end (s ∷ output) = ap (λ rest. s.text ++ rest) (texts_end output)

ok_end : (output : List Output) → all_ok (output ++ nothing_output ∷ []) ≡ all_ok output
ok_end output = all_ok-snoc output nothing_output ∙ and_true (all_ok output)

module _ (known : Follow on_certified (AreAsKnown on_certified)) (lawful : AreLawful on_certificates)
    (certificates : WrittenSectionsAreCertificates) (shown : CertifiedTextsAreShown)
    (one_list : ReachedTypesAreOne)
    (few : (t : TypeOver) → IsGiven declared_types t → ReachesWithinTable t.decls t.type) where
  module _ (arguments : List (List ℕ)) (call : Call) (reports : ReportsBytes call.input)
      (run_spec : RunSpec on_certified arguments call) (asked : CertifyArguments)
      (contents input certificate : List ℕ)
      (c : CertifiesValues arguments call asked contents input certificate)
      (e : HasEnded on_certified arguments call) (end : IsEnd (ending_of e.all).status)
      (p : AreWritten arguments asked c.request c.asks c.is_asked e.given e.all end) where
    same_contents : contents ≡ p.contents
    same_contents =
        let wanted : IsWanted on_certified arguments e.given.files 0 asked.file = record {
          request = c.request;
          asks = c.asks;
          wants = (asked, c.is_asked, refl, refl);
        } in
        let found : IfSome call.files.before.map (λ all.
        IsFoundOf (contents_of all asked.file) (e.given.files 0 asked.file)) =
        known arguments call reports run_spec e.given.files e.may_be.files 0 asked.file wanted in
        let here : IsFoundOf (contents_of c.files asked.file) (e.given.files 0 asked.file) =
        rw c.map at found in
        let held_here : IsFoundOf (Some contents) (e.given.files 0 asked.file) =
        rw c.holds at here in
        held contents p.contents (subst (IsFoundOf (Some contents)) p.read held_here)

    same_input : input ≡ e.given.input.bytes
    same_input =
        let known_input : (rest : List ℕ) × TakesFrom input e.given.input rest
        × (call.input.after.bytes ≡ Some rest) =
        rw c.input_is at e.may_be.input.known in
        taken_whole e.given.input input known_input.0 p.ended known_input.1

    values : EncodeAll asked.limit input p.trees []
    values = subst (λ bytes. EncodeAll asked.limit bytes p.trees []) (sym same_input) p.encoded

    certificate_is : certificate ≡ texts_from 0 p.sections
    certificate_is =
        write_once call certificate (ending_of e.all).out c.writes e.out ∙ p.out

    declared : ReadsDeclarations asked.type.lines contents (Ok p.decls)
    declared =
        subst (λ text. ReadsDeclarations asked.type.lines text (Ok p.decls)) (sym same_contents)
        p.declared

    its_type : IsGiven declared_types p.t
    its_type = (contents, asked.type, p.decls, declared, p.written)

    is_certificate : length input < 2 ^ 48 → IsCertificate certificate p.sections
    is_certificate short =
        subst (λ text. IsCertificate text p.sections) (sym certificate_is)
        (certificates p.sections
        (are_stated one_list p.t (few p.t its_type) asked.limit input [] p.trees p.sections values
        short p.are))

    module _ (later_arguments : List (List ℕ)) (later : Call) (later_reports : ReportsBytes later.input)
        (v : VerifiesValues later_arguments later asked contents input certificate)
        (o : HasOutcome on_certificates later_arguments later input v.files) where
      -- The type of the first call, with the setting for positions of the later call.
      abbrev later_asked : AskedType
      later_asked = asked_type asked.type.text v.lines

      abbrev later_type : TypeOver
      later_type = lined p.t v.lines

      written : ReadsType p.decls later_asked (Ok later_type)
      written = accepted_lined p.decls asked.type p.t v.lines p.written

      given : IsGiven declared_types later_type
      given = (contents, later_asked, p.decls, declared, written)

      are : AreSections later_type p.trees p.sections
      are = sections_lined p.t v.lines p.trees p.sections p.are

      abbrev its_work : Verification TypeOver Section
      its_work = record { type = later_type; sections = p.sections; limit = v.limit }

      prepared : Prepares on_certificates later_arguments (known_files v.files) (Ok its_work)
      prepared = (
        Ok (own (verify asked.file asked.type.text v.name v.lines (all_under v.limit))),
        v.asks,
        (
          record {
            file = asked.file;
            type = later_asked;
            certificate = v.name;
            limit = v.limit;
          },
          refl,
          (
            Ok later_type,
            (Ok contents, ap found_of v.holds, (Ok p.decls, declared, written)),
            (
              Ok p.sections,
              (
                Ok certificate,
                ap found_of v.has,
                is_certificate v.honest.ok_read.input_short,
              ),
              refl,
            ),
          ),
        ),
      )

      answers : Answers on_certificates its_work (whole input) o.all
      answers =
          let same = prepares_once on_certificates lawful later_arguments (known_files v.files)
          o.outcome.0 (Ok its_work) o.outcome.1 prepared in
          subst
          (Goes on_certificates (record { files = known_files v.files; input = whole input }) o.all)
          same o.outcome.2

      are_bytes : AreBytes input
      are_bytes = rw v.honest.ok_read.input_known at later_reports

      from_first : (j : ℕ) (s : Section) → slice_get p.sections j ≡ Some s
          → slice_get p.sections (0 + j) ≡ Some s
      from_first j s at =
          let same : j ≡ 0 + j = omega arith in
          subst (λ n. slice_get p.sections n ≡ Some s) same at

      -- ---- the output of the later call

      module _ (s : OutputsAll on_certificates its_work (whole input) o.all) where
        good : AreGood declared_sections its_work 0 p.trees
        good = all_good shown its_work given 0 p.trees p.sections from_first are

        many : length p.trees ≡ length p.sections
        many = sections_many p.t p.trees p.sections p.are

        taken : AreOutput declared_sections its_work 0 p.trees o.all.output
            × (o.all.last ≡ outputs nothing_output)
        taken =
            all_taken declared_sections its_work declared_types reads_sections input are_bytes
            p.trees (under_more asked.limit v.limit v.covers input p.trees [] values) good many o.all s

        lines : AreLines shown its_work given [] p.trees p.sections o.all.output
        lines =
            all_lines shown its_work given 0 [] p.trees p.sections o.all.output from_first are
            taken.0

        status : later.status ≡ call.status
        status =
            o.status
            ∙ (ap (λ last. (ending_of (replies o.all.output last)).status) taken.1
            ∙ (ap status_by (ok_end o.all.output ∙ lines.1) ∙ sym (e.status ∙ p.status)))

        confirms : ConfirmsAll asked contents input call later
        confirms = record {
          type = later_type;
          read = record {
            lines = v.lines;
            decls = p.decls;
            declared = declared;
            written = written;
          };
          trees = p.trees;
          values = values;
          output = o.all.output;
          lines = lines.0;
          out = subst (Writes later.out)
              (ap (λ last. (ending_of (replies o.all.output last)).out) taken.1
              ∙ texts_end o.all.output) o.out;
          err = subst (Writes later.err)
              (ap (λ last. (ending_of (replies o.all.output last)).err) taken.1) o.err;
          status = status;
        }

      all_confirmed : Answers on_certificates its_work (whole input) o.all
          → ConfirmsAll asked contents input call later
      all_confirmed (inl (reads, s)) = confirms s
      all_confirmed (inr alone) = absurd (alone.unread tt)

  pub are_accepted : WrittenCertificatesAreAccepted on_certified on_certificates
  are_accepted arguments call reports run_spec later_arguments later later_reports later_run_spec asked contents
      input certificate c v =
      let e = has_ended on_certified arguments call run_spec.account c.ended in
      let end : IsEnd (ending_of e.all).status = subst IsEnd e.status c.ended in
      let p = are_written arguments asked c.request c.asks c.is_asked e.given e.all end e.outcome in
      let o = headline on_certificates lawful later_arguments later later_run_spec.answered input v.files v.honest v.suffices in
      all_confirmed arguments call reports run_spec asked contents input certificate c e end p later_arguments
      later later_reports v o
      (answers arguments call reports run_spec asked contents input certificate c e end p later_arguments
      later later_reports v o)
