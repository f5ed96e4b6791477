-- An edit has one result or one reason, so it has at most one answer.
use Rattle.std.proofs.Common.{ℕ, ◌≡◌, ◌∙◌, ⊎_elim, List, [], ◌∷◌, ◌++◌, length, Option, Some, None, Result, Ok, Err, refl, ap, sym, subst}
use Rattle.base_data.specs.declared.model.value.Val.{Val}
use Rattle.base_data.specs.declared.model.value.Obj.{Obj}
use Rattle.types_lex.specs.declared.lexeme.Lexeme.{Lexeme}
use Rattle.types_spec.specs.declared.types.fault.Fault.{Fault}
use Rattle.types_spec.specs.declared.types.names.Names.{Names}
use Rattle.types_spec.specs.declared.types.shape.ShapeOf.{ShapeOf}
use Rattle.types_spec.specs.types.Fault.{IsFault}
use Rattle.types_spec.specs.types.Fitting.{shaped}
use Rattle.types_spec.specs.types.LeastFault.{IsLeastFault}
use Rattle.types_spec.specs.types.Typing.{HasType}
use Rattle.types_theory.proofs.typing.TypingOnceLemmas.{least_once}
use Rattle.types_parse.specs.grammar.Refusals.{IsSyntax}
use Rattle.types_parse.proofs.grammar.LawLemmas.{one_tree, text_or_syntax}
use Rattle.text_literal.specs.literal_grammar.Literal.{Literal, literal_kinds}
use Rattle.types_parse.specs.grammar.LexemeKinds.{kinds_of}
use Rattle.text_literal.proofs.literal_grammar.LiteralTable.{literal_table}
use Rattle.text_literal.specs.parser.LiteralAnswers.{byte_of, in_bytes}
use Rattle.text_literal.specs.parser.LiteralReading.{LiteralReading, LiteralRefusal, reading, literal_read}
use Rattle.text_literal.proofs.parser.LiteralParserAnswerLemmas.{literal_excludes}
use Rattle.text_path.specs.declared.edits.Edit.{Edit}
use Rattle.text_path.specs.declared.edits.Edit.TheVariants as edits
use Rattle.edit_values.specs.declared.spots.TypedLocation.{TypedLocation}
use Rattle.edit_values.specs.Reasons.{Reason, no_field, not_block, no_literal, misread, ill_typed}
use Rattle.edit_values.specs.EditedValues.{EditAnswer, write_at, linked, copied, object_of, unshared, IsSetAt, IsSet, IsMade, IsAnswer, position_in}

-- ---- `set`

module _ {T : Type 0} (shape : T → ShapeOf T) (names : T → Names) (graph : List Obj) (root : Val) (p : TypedLocation T) (lexemes : List Lexeme) (end : ℕ) where
  abbrev reading_of : Literal → Result LiteralReading (LiteralRefusal T)
  reading_of v = literal_read shape names 0 v (length graph) [] p.ty

  abbrev set_with : List Obj → List Val → EditAnswer T
  set_with objects [] = Err not_block
  set_with objects (v ∷ vs) = Ok (write_at p.spot v (graph ++ objects) root)

  abbrev set_stated : Result LiteralReading (LiteralRefusal T) → EditAnswer T
  set_stated (Err refusal) = Err (misread (in_bytes lexemes end refusal))
  set_stated (Ok r) = set_with r.objects r.values

  abbrev IsSetHere : EditAnswer T → Type 0
  IsSetHere made = IsSetAt shape names graph root p lexemes end made

  at_literal : (v : Literal) → literal_kinds v ≡ kinds_of lexemes → (made : EditAnswer T) → IsSetHere made → made ≡ set_stated (reading_of v)
  at_literal v encoded (Ok made) (objects, value, (u, encodes, read), is) =
      ap Ok is ∙ ap set_stated (sym (subst (λ u. reading_of u ≡ Ok (reading (value ∷ []) objects read.labels)) (one_tree literal_table u v (encodes ∙ sym encoded)) read.read))
  at_literal v encoded (Err (misread refusal)) (u, at, encodes, refused, is) =
      ap (λ r. Err (misread r)) is ∙ ap set_stated (sym (subst (λ u. reading_of u ≡ Err at) (one_tree literal_table u v (encodes ∙ sym encoded)) refused))
  at_literal v encoded (Err (no_literal position)) (k, s, is) = absurd (literal_excludes lexemes v k encoded s)
  at_literal v encoded (Err (no_field side step)) is = absurd is
  at_literal v encoded (Err not_block) is = absurd is
  at_literal v encoded (Err (ill_typed fault)) is = absurd is

  at_syntax : (k : ℕ) → IsSyntax literal_kinds (kinds_of lexemes) k → ((j : ℕ) → IsSyntax literal_kinds (kinds_of lexemes) j → j ≡ k)
      → (made : EditAnswer T) → IsSetHere made → made ≡ Err (no_literal (byte_of lexemes end k))
  at_syntax k s same (Ok made) (objects, value, (u, encodes, read), is) = absurd (literal_excludes lexemes u k encodes s)
  at_syntax k s same (Err (misread refusal)) (u, at, encodes, refused, is) = absurd (literal_excludes lexemes u k encodes s)
  at_syntax k s same (Err (no_literal position)) (j, i, is) = ap (λ p. Err (no_literal p)) (is ∙ ap (byte_of lexemes end) (same j i))
  at_syntax k s same (Err (no_field side step)) is = absurd is
  at_syntax k s same (Err not_block) is = absurd is
  at_syntax k s same (Err (ill_typed fault)) is = absurd is

  pub set_once : (made other : EditAnswer T) → IsSetHere made → IsSetHere other → made ≡ other
  set_once made other one two = ⊎_elim
      (λ (v, encoded). at_literal v encoded made one ∙ sym (at_literal v encoded other two))
      (λ (k, s, same). at_syntax k s same made one ∙ sym (at_syntax k s same other two))
      (text_or_syntax literal_table (kinds_of lexemes))

module _ {T : Type 0} (shape : T → ShapeOf T) (names : T → Names) where
  set_once_at : (graph : List Obj) (root : Val) (p : Result (TypedLocation T) ℕ) (lexemes : List Lexeme) (end : ℕ) (made other : EditAnswer T)
      → IsSet shape names graph root p lexemes end made → IsSet shape names graph root p lexemes end other → made ≡ other
  set_once_at graph root (Err step) lexemes end made other one two = one ∙ sym two
  set_once_at graph root (Ok p) lexemes end made other one two = set_once shape names graph root p lexemes end made other one two

-- ---- a result has its type, or a first fault

module _ {T : Type 0} (shape : T → ShapeOf T) (names : T → Names) (Equal : T → T → Type 0) (t : T) where
  pub made_once : (edit : Edit) (graph : List Obj) (root : Val) (made other : EditAnswer T)
      → IsMade shape names Equal t edit graph root made → IsMade shape names Equal t edit graph root other → made ≡ other
  made_once (edits.Set path lexemes end) graph root made other one two =
      set_once_at shape names graph root (position_in shape names Equal t graph root path) lexemes end made other one two
  made_once (edits.Link path source) graph root made other one two = one ∙ sym two
  made_once (edits.Unshare path) graph root made other one two = one ∙ sym two

  -- The answer that follows from a result: the edited value if it has its type, and otherwise the
  -- value's first fault. A reason stays the reason.
  abbrev pub Follows : EditAnswer T → EditAnswer T → Type 0
  Follows (Ok made) (Ok edited) = (made ≡ edited) × HasType (shaped shape Equal) made.0 made.1 t
  Follows (Ok made) (Err reason) = (fault : Fault) × (reason ≡ ill_typed fault) × IsLeastFault (shaped shape Equal) made.0 made.1 t fault
  Follows (Err reason) answer = answer ≡ Err reason

  pub parted : (edit : Edit) (graph : List Obj) (root : Val) (answer : EditAnswer T) → IsAnswer shape names Equal t edit graph root answer
      → (made : EditAnswer T) × IsMade shape names Equal t edit graph root made × Follows made answer
  parted edit graph root (Ok edited) is = (Ok edited, is.made, (refl, is.typed))
  parted edit graph root (Err (ill_typed fault)) is = (Ok is.edited, is.made, (fault, refl, is.least))
  parted edit graph root (Err (no_field side step)) is = (Err (no_field side step), is, refl)
  parted edit graph root (Err not_block) is = (Err not_block, is, refl)
  parted edit graph root (Err (no_literal position)) is = (Err (no_literal position), is, refl)
  parted edit graph root (Err (misread refusal)) is = (Err (misread refusal), is, refl)

  -- The result is not a fault of the whole value.
  abbrev IsOfPart : EditAnswer T → Type 0
  IsOfPart (Err (ill_typed fault)) = ⊥
  IsOfPart made = Unit {0}

  of_link : (graph : List Obj) (root : Val) (p q : Result (TypedLocation T) ℕ) → IsOfPart (linked graph root p q)
  of_link graph root (Err step) q = tt
  of_link graph root (Ok p) (Err step) = tt
  of_link graph root (Ok p) (Ok q) = tt

  of_copy : (graph : List Obj) (root : Val) (p : TypedLocation T) (object : Option Obj) → IsOfPart (copied graph root p.spot object)
  of_copy graph root p None = tt
  of_copy graph root p (Some object) = tt

  of_unshare : (graph : List Obj) (root : Val) (p : Result (TypedLocation T) ℕ) → IsOfPart (unshared graph root p)
  of_unshare graph root (Err step) = tt
  of_unshare graph root (Ok p) = of_copy graph root p (object_of graph p.value)

  of_set_at : (graph : List Obj) (root : Val) (p : TypedLocation T) (lexemes : List Lexeme) (end : ℕ) (made : EditAnswer T)
      → IsSetAt shape names graph root p lexemes end made → IsOfPart made
  of_set_at graph root p lexemes end (Err (ill_typed fault)) is = is
  of_set_at graph root p lexemes end made is = tt

  of_set : (graph : List Obj) (root : Val) (p : Result (TypedLocation T) ℕ) (lexemes : List Lexeme) (end : ℕ) (made : EditAnswer T)
      → IsSet shape names graph root p lexemes end made → IsOfPart made
  of_set graph root (Err step) lexemes end made is = subst IsOfPart (sym is) tt
  of_set graph root (Ok p) lexemes end made is = of_set_at graph root p lexemes end made is

  of_part : (edit : Edit) (graph : List Obj) (root : Val) (made : EditAnswer T) → IsMade shape names Equal t edit graph root made → IsOfPart made
  of_part (edits.Set path lexemes end) graph root made is = of_set graph root (position_in shape names Equal t graph root path) lexemes end made is
  of_part (edits.Link path source) graph root made is =
      subst IsOfPart (sym is) (of_link graph root (position_in shape names Equal t graph root path) (position_in shape names Equal t graph root source))
  of_part (edits.Unshare path) graph root made is = subst IsOfPart (sym is) (of_unshare graph root (position_in shape names Equal t graph root path))

  refused : (edit : Edit) (graph : List Obj) (root : Val) (reason : Reason T) → IsOfPart (Err reason) → IsMade shape names Equal t edit graph root (Err reason)
      → IsAnswer shape names Equal t edit graph root (Err reason)
  refused edit graph root (ill_typed fault) part is = absurd part
  refused edit graph root (no_field side step) part is = is
  refused edit graph root not_block part is = is
  refused edit graph root (no_literal position) part is = is
  refused edit graph root (misread refusal) part is = is

  pub joined : (edit : Edit) (graph : List Obj) (root : Val) (made answer : EditAnswer T) → IsMade shape names Equal t edit graph root made → Follows made answer
      → IsAnswer shape names Equal t edit graph root answer
  joined edit graph root (Ok made) (Ok edited) is (same, typed) =
      subst (λ e. IsAnswer shape names Equal t edit graph root (Ok e)) same (record { made = is; typed = typed })
  joined edit graph root (Ok made) (Err reason) is (fault, same, least) =
      subst (λ r. IsAnswer shape names Equal t edit graph root (Err r)) (sym same) (record { edited = made; made = is; least = least })
  joined edit graph root (Err reason) answer is same =
      subst (λ a. IsAnswer shape names Equal t edit graph root a) (sym same) (refused edit graph root reason (of_part edit graph root (Err reason) is) is)

  -- If no value has a fault and also the type, then at most one answer follows from a result.
  module _ (never_both : (graph : List Obj) (v : Val) (fault : Fault) → IsFault (shaped shape Equal) graph v t fault → HasType (shaped shape Equal) graph v t → ⊥) where
    pub follows_once : (made answer other : EditAnswer T) → Follows made answer → Follows made other → answer ≡ other
    follows_once (Ok made) (Ok edited) (Ok other) one two = ap Ok (sym one.0 ∙ two.0)
    follows_once (Ok made) (Ok edited) (Err reason) one two = absurd (never_both made.0 made.1 two.0 two.2.is_fault one.1)
    follows_once (Ok made) (Err reason) (Ok other) one two = absurd (never_both made.0 made.1 one.0 one.2.is_fault two.1)
    follows_once (Ok made) (Err reason) (Err other) one two =
        ap Err (one.1 ∙ ap ill_typed (least_once (shaped shape Equal) made.0 made.1 t one.0 two.0 one.2 two.2) ∙ sym two.1)
    follows_once (Err reason) answer other one two = one ∙ sym two

    pub answer_once : (edit : Edit) (graph : List Obj) (root : Val) (answer other : EditAnswer T)
        → IsAnswer shape names Equal t edit graph root answer → IsAnswer shape names Equal t edit graph root other → answer ≡ other
    answer_once edit graph root answer other is its =
        let one = parted edit graph root answer is in
        let two = parted edit graph root other its in
        follows_once two.0 answer other (subst (λ m. Follows m answer) (made_once edit graph root one.0 two.0 one.1 two.1) one.2) two.2
