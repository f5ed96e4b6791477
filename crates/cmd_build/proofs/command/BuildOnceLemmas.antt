-- A line has only one meaning at a type that was read.
use Rattle.std.proofs.Common.{ℕ, ◌≡◌, List, [], length, Result, Ok, Err, inl, inr, refl, sym, ap, ◌∙◌, subst}
use Rattle.base_data.specs.declared.model.value.Val.{Val}
use Rattle.base_data.specs.declared.model.value.Obj.{Obj}
use Rattle.types_lex.specs.declared.lexeme.Lexeme.{Lexeme}
use Rattle.types_lex.specs.declared.lexeme.LexFault.{LexFault}
use Rattle.types_lex.specs.LexText.{Lexes, Faults, Outcome}
use Rattle.types_lex.proofs.PartLaws.{has_one_outcome}
use Rattle.types_spec.specs.types.Equal.{declared_shapes}
use Rattle.types_spec.specs.types.Names.{names_of}
use Rattle.types_spec.specs.types.Shape.{shape}
use Rattle.types_spec.specs.types.Ty.{Ty}
use Rattle.types_spec.specs.types.TypeText.{type_text}
use Rattle.types_spec.specs.types.Typing.{HasType}
use Rattle.types_spec.specs.types.VerdictText.{IsNoLine}
use Rattle.types_theory.proofs.typing.TypingOnceLemmas.{no_line_once}
use Rattle.marshal_spec.proofs.canonical.SameTree.{one_tree_only}
use Rattle.marshal_spec.specs.format.Canonical.{canon}
use Rattle.marshal_spec.specs.format.Isomorphism.{IsTreeOf}
use Rattle.types_wellformed.specs.declarations.DeclarationFaultText.{lexer_text}
use Rattle.edit_values.specs.EditedValues.{EditAnswer}
use Rattle.edit_values.specs.Reasons.{Reason, literal_text}
use Rattle.edit_values.proofs.EditMadeLemmas.{set_once}
use Rattle.run_spec.specs.runs.Lawful.{IsOnce}
use Rattle.run_types.specs.Language.{TypeOver}
use Rattle.cmd_build.specs.spec.InputTexts.{blank, made, refused, untyped}
use Rattle.cmd_build.specs.command.InputLines.{AreText, IsText, IsMade, IsUntyped, IsRefused, plain_texts}
use Rattle.cmd_build.proofs.command.BuildAgreeLemmas.{before, at_root, write_of_text}

module _ (line : List ℕ) where
  outcomes_same :
      (one other : Result (List Lexeme) LexFault) → Outcome line one → Outcome line other
      → one ≡ other
  outcomes_same one other is its =
      let o = has_one_outcome line in o.2 one is ∙ sym (o.2 other its)

  lexed_same : (l m : List Lexeme) → Lexes line l → Lexes line m → l ≡ m
  lexed_same l m one other = let e = outcomes_same (Ok l) (Ok m) one other in cc e

  faults_same : (f g : LexFault) → Faults line f → Faults line g → f ≡ g
  faults_same f g one other = let e = outcomes_same (Err f) (Err g) one other in cc e

  lexed_or_fault : (l : List Lexeme) (f : LexFault) → Lexes line l → Faults line f → ⊥
  lexed_or_fault l f one other = let e = outcomes_same (Ok l) (Err f) one other in cc e

  module _ (t : TypeOver) (known : ℕ → ℕ → List ℕ) where
    pub text_once : (a b : EditAnswer Ty) → IsText t line a → IsText t line b → a ≡ b
    text_once a b one other =
        let same = lexed_same one.lexemes other.lexemes one.lexes other.lexes in
        set_once (shape t.decls) (names_of t.decls) [] before (at_root t.type) other.lexemes
        (length line) a b
        (write_of_text t other.lexemes (length line) a
        (subst (λ l. AreText t l (length line) a) same one.are))
        (write_of_text t other.lexemes (length line) b other.are)

    blank_or_text : (a : EditAnswer Ty) → Lexes line [] → IsText t line a → ⊥
    blank_or_text a none is = is.some (lexed_same is.lexemes [] is.lexes none)

    text_or_fault : (a : EditAnswer Ty) (f : LexFault) → IsText t line a → Faults line f → ⊥
    text_or_fault a f is fault = lexed_or_fault is.lexemes f is.lexes fault

    value_or_reason :
        (graph : List Obj) (root : Val) (reason : Reason Ty) → IsText t line (Ok (graph, root))
        → IsText t line (Err reason) → ⊥
    value_or_reason graph root reason is its =
        let e = text_once (Ok (graph, root)) (Err reason) is its in cc e

    values_same :
        (graph others : List Obj) (root other : Val) → IsText t line (Ok (graph, root))
        → IsText t line (Ok (others, other)) → ◌≡◌ {A = List Obj × Val} (graph, root) (others, other)
    values_same graph others root other is its =
        let e = text_once (Ok (graph, root)) (Ok (others, other)) is its in cc e

    blank_or_refused : (refusal : ℕ → List ℕ) → Lexes line [] → IsRefused t line known refusal → ⊥
    blank_or_refused refusal none (inl (f, fault, is)) = lexed_or_fault [] f none fault
    blank_or_refused refusal none (inr (reason, is, encoded)) = blank_or_text (Err reason) none is

    value_or_refused :
        (graph : List Obj) (root : Val) (refusal : ℕ → List ℕ) → IsText t line (Ok (graph, root))
        → IsRefused t line known refusal → ⊥
    value_or_refused graph root refusal text (inl (f, fault, is)) =
        text_or_fault (Ok (graph, root)) f text fault
    value_or_refused graph root refusal text (inr (reason, is, encoded)) =
        value_or_reason graph root reason text is

    refused_once :
        (refusal other : ℕ → List ℕ) → IsRefused t line known refusal → IsRefused t line known other
        → refusal ≡ other
    refused_once refusal other (inl (f, fault, is)) (inl (g, its, encoded)) =
        is
        ∙ (ap {B = ℕ → List ℕ} (λ (f : LexFault) (number : ℕ). lexer_text (known number) f)
        (faults_same f g fault its)
        ∙ sym encoded)
    refused_once refusal other (inl (f, fault, is)) (inr (reason, its, encoded)) =
        absurd (text_or_fault (Err reason) f its fault)
    refused_once refusal other (inr (reason, its, encoded)) (inl (f, fault, is)) =
        absurd (text_or_fault (Err reason) f its fault)
    refused_once refusal other (inr (reason, is, encoded)) (inr (others, its, encoded')) =
        let e = text_once (Err reason) (Err others) is its in
        let same : reason ≡ others = cc e in
        encoded
        ∙ (ap {B = ℕ → List ℕ}
        (λ (r : Reason Ty) (number : ℕ). literal_text type_text (known number) r) same
        ∙ sym encoded')

    -- If no value has both the type and a fault, then a line has only one meaning.
    module _ (never_both : (graph : List Obj) (root : Val) (text : List ℕ)
        → HasType (declared_shapes t.decls) graph root t.type
        → IsNoLine (declared_shapes t.decls) type_text graph root t.type text → ⊥) where
      made_once : (bytes other : List ℕ) → IsMade t line bytes → IsMade t line other → bytes ≡ other
      made_once bytes other m n =
          let same = values_same m.graph n.graph m.root n.root m.is_text n.is_text in
          m.are ∙ (ap canon (one_tree_only n.graph n.root m.tree n.tree
          (subst (λ (g : List Obj × Val). IsTreeOf g.0 g.1 m.tree) same m.of) n.of) ∙ sym n.are)

      made_or_untyped : (bytes fault : List ℕ) → IsMade t line bytes → IsUntyped t line fault → ⊥
      made_or_untyped bytes fault m u =
          let same = values_same m.graph u.graph m.root u.root m.is_text u.is_text in
          never_both u.graph u.root fault
          (subst (λ (g : List Obj × Val). HasType (declared_shapes t.decls) g.0 g.1 t.type) same m.has)
          u.why

      untyped_once :
          (fault other : List ℕ) → IsUntyped t line fault → IsUntyped t line other → fault ≡ other
      untyped_once fault other m u =
          let same = values_same m.graph u.graph m.root u.root m.is_text u.is_text in
          no_line_once (declared_shapes t.decls) u.graph u.root t.type type_text fault other
          (subst
          (λ (g : List Obj × Val). IsNoLine (declared_shapes t.decls) type_text g.0 g.1 t.type fault)
          same m.why) u.why

      pub built_once : IsOnce (plain_texts t known line)
      built_once blank blank h k = refl
      built_once blank (made bytes) h k = absurd (blank_or_text (Ok (k.graph, k.root)) h k.is_text)
      built_once blank (refused refusal) h k = absurd (blank_or_refused refusal h k)
      built_once blank (untyped fault) h k = absurd (blank_or_text (Ok (k.graph, k.root)) h k.is_text)
      built_once (made bytes) blank h k = absurd (blank_or_text (Ok (h.graph, h.root)) k h.is_text)
      built_once (made bytes) (made other) h k = ap (λ b. made b) (made_once bytes other h k)
      built_once (made bytes) (refused refusal) h k =
          absurd (value_or_refused h.graph h.root refusal h.is_text k)
      built_once (made bytes) (untyped fault) h k = absurd (made_or_untyped bytes fault h k)
      built_once (refused refusal) blank h k = absurd (blank_or_refused refusal k h)
      built_once (refused refusal) (made bytes) h k =
          absurd (value_or_refused k.graph k.root refusal k.is_text h)
      built_once (refused refusal) (refused other) h k =
          ap (λ r. refused r) (refused_once refusal other h k)
      built_once (refused refusal) (untyped fault) h k =
          absurd (value_or_refused k.graph k.root refusal k.is_text h)
      built_once (untyped fault) blank h k = absurd (blank_or_text (Ok (h.graph, h.root)) k h.is_text)
      built_once (untyped fault) (made bytes) h k = absurd (made_or_untyped bytes fault k h)
      built_once (untyped fault) (refused refusal) h k =
          absurd (value_or_refused h.graph h.root refusal h.is_text k)
      built_once (untyped fault) (untyped other) h k = ap (λ f. untyped f) (untyped_once fault other h k)
