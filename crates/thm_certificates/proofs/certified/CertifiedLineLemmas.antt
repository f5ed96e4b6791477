-- The certificate entries of values give the lines of `check`, and none of the entries is rejected.
use Rattle.std.proofs.Common.{◌≡◌, ℕ, suc, ◌+◌, List, [], ◌∷◌, ◌++◌, length, Some, None, inl, inr, refl, sym, ap, ◌∙◌, subst, arith}
use Rattle.std.specs.Prelude.{◌&&◌, slice_get}
use Rattle.marshal_spec.specs.format.Tree.{Tree, root, objects_of}
use Rattle.cert_format.specs.declared.section.Section.{Section}
use Rattle.cli_spec.specs.Outcome.{Output, line, all_ok, the_verdict, reports, AllPrint}
use Rattle.run_spec.specs.runs.LawfulLanguage.{IsGiven}
use Rattle.run_types.specs.Language.{TypeOver, IsTypeLine, declared_types}
use Rattle.cmd_verify.specs.spec.Verification.{shows, rejects, Verification}
use Rattle.cmd_verify.proofs.spec.VerifySpecOutputLemmas.{IsOutput, AreOutput}
use Rattle.cmd_verify.specs.command.VerifiedSections.{declared_sections}
use Rattle.cmd_certify.specs.command.CertifiedOutput.{IsSectionOf, is_yes}
use Rattle.thm_certificates.specs.certified.ShownLines.{CertifiedTextsAreShown}
use Rattle.thm_certificates.proofs.certified.CertifiedWriteLemmas.{all_yes}
use Rattle.thm_certificates.proofs.certified.CertifiedStatedLemmas.{AreSections}
use Rattle.thm_certificates.proofs.certified.CertifiedTakenLemmas.{IsGood, AreGood}

pub sections_many : (t : TypeOver) (trees : List Tree) (all : List Section)
    → AreSections t trees all → length trees ≡ length all
sections_many t [] [] h = refl
sections_many t [] (s ∷ all) h = absurd h
sections_many t (tree ∷ trees) [] h = absurd h
sections_many t (tree ∷ trees) (s ∷ all) h = ap suc (sections_many t trees all h.1)

module _ (shown : CertifiedTextsAreShown) (a : Verification TypeOver Section)
    (given : IsGiven declared_types a.type) where
  -- Element `j` of the list is entry `k + j` of the certificate.
  abbrev AreFrom : ℕ → List Section → Type 0
  AreFrom k all =
      (j : ℕ) (s : Section) → slice_get all j ≡ Some s → slice_get a.sections (k + j) ≡ Some s

  first_from : (k : ℕ) (s : Section) (all : List Section) → AreFrom k (s ∷ all)
      → slice_get a.sections k ≡ Some s
  first_from k s all from =
      let same : k + 0 ≡ k = omega arith in
      subst (λ n. slice_get a.sections n ≡ Some s) same (from 0 s refl)

  rest_from : (k : ℕ) (s : Section) (all : List Section) → AreFrom k (s ∷ all)
      → AreFrom (suc k) all
  rest_from k s all from j next at =
      let same : k + suc j ≡ suc k + j = omega arith in
      subst (λ n. slice_get a.sections n ≡ Some next) same (from (suc j) next at)

  -- The entry is the certificate entry of the tree's value at the type.
  abbrev IsOf : Tree → Section → Type 0
  IsOf tree section = IsSectionOf a.type (objects_of tree 0) (root tree 0) section

  is_good : (k : ℕ) (tree : Tree) (section : Section) → slice_get a.sections k ≡ Some section
      → IsOf tree section → IsGood declared_sections a k tree
  is_good k tree section at is reason (inl (none, e)) =
      let never : None ≡ Some section = sym none ∙ at in cc never
  is_good k tree section at is reason (inr (why, h, e)) =
      let both : Some section ≡ Some h.section = sym at ∙ h.has in
      let same : section ≡ h.section = cc both in
      let shows_line = shown a.type given (objects_of tree 0) (root tree 0) h.section (rejects why)
      (subst (IsOf tree) same is) h.by in
      cc shows_line.is

  pub all_good : (k : ℕ) (trees : List Tree) (all : List Section) → AreFrom k all
      → AreSections a.type trees all → AreGood declared_sections a k trees
  all_good k [] all from h = tt
  all_good k (tree ∷ trees) [] from h = absurd h
  all_good k (tree ∷ trees) (s ∷ all) from h = (
    is_good k tree s (first_from k s all from) h.0,
    all_good (suc k) trees all (rest_from k s all from) h.1,
  )

  -- ---- output

  -- The output is the line of `check` for the tree's value. The output is without errors if and
  -- only if the entry states that the value has the type.
  pub record IsLine (tree : Tree) (section : Section) (output : Output) : Type 0 where
    pub text : List ℕ
    pub outputs : IsTypeLine the_verdict a.type (objects_of tree 0) (root tree 0) text output.ok
    pub is : output.text ≡ line text
    pub ok : output.ok ≡ is_yes section

  one_line : (k : ℕ) (tree : Tree) (section : Section) (output : Output)
      → slice_get a.sections k ≡ Some section → IsOf tree section
      → IsOutput declared_sections a k tree output → IsLine tree section output
  one_line k tree section output at is h =
      let both : Some section ≡ Some h.shown.section = sym at ∙ h.shown.has in
      let same : section ≡ h.shown.section = cc both in
      let shows_line = shown a.type given (objects_of tree 0) (root tree 0) h.shown.section
      (shows h.text output.ok) (subst (IsOf tree) same is) h.shown.by in
      let text : h.text ≡ shows_line.line = cc (shows_line.is) in
      let ok : output.ok ≡ is_yes h.shown.section = cc (shows_line.is) in
      record {
        text = h.text;
        outputs = subst
            (λ w. IsTypeLine the_verdict a.type (objects_of tree 0) (root tree 0) h.text w)
            (sym ok)
            (subst
            (λ text. IsTypeLine the_verdict a.type (objects_of tree 0) (root tree 0) text
            (is_yes h.shown.section))
            (sym text) shows_line.outputs);
        is = h.is;
        ok = ok ∙ ap is_yes (sym same);
      }

  -- The outputs are the lines of `check` for `trees`, which follow the values `earlier`. The
  -- outputs are without errors if and only if each entry states that its value has the type.
  abbrev pub AreLines : (earlier trees : List Tree) → List Section → List Output → Type 0
  AreLines earlier trees all output =
      AllPrint declared_types (reports the_verdict a.type) earlier trees output
      × (all_ok output ≡ all_yes all)

  pub all_lines : (k : ℕ) (earlier trees : List Tree) (all : List Section) (output : List Output)
      → AreFrom k all → AreSections a.type trees all
      → AreOutput declared_sections a k trees output → AreLines earlier trees all output
  all_lines k earlier [] [] [] from h output = (tt, refl)
  all_lines k earlier [] [] (s ∷ more) from h output = absurd output
  all_lines k earlier [] (s ∷ all) known from h output = absurd h
  all_lines k earlier (tree ∷ trees) [] known from h output = absurd h
  all_lines k earlier (tree ∷ trees) (s ∷ all) [] from h output = absurd output
  all_lines k earlier (tree ∷ trees) (s ∷ all) (one ∷ more) from h (is, output) =
      let first = one_line k tree s one (first_from k s all from) h.0 is in
      let next = all_lines (suc k) (earlier ++ tree ∷ []) trees all more (rest_from k s all from)
      h.1 output in (
        ((first.text, first.outputs, first.is), next.0),
        ap (λ w. w && all_ok more) first.ok ∙ ap (λ rest. is_yes s && rest) next.1,
      )
