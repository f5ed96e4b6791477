-- The answer to an edit by the numbers of a table corresponds to the answer by the types of these
-- numbers.
use Rattle.std.proofs.Common.{ℕ, suc, ◌≡◌, ◌∙◌, List, [], ◌∷◌, ◌++◌, length, Option, Some, None, Result, Ok, Err, refl, ap, sym, subst}
use Rattle.std.specs.Prelude.{slice_get, option_map, option_and_then, codes}
use Rattle.base_data.specs.declared.model.value.Val.{Val}
use Rattle.base_data.specs.declared.model.value.Val.TheVariants as vals
use Rattle.base_data.specs.declared.model.value.Obj.{Obj}
use Rattle.types_lex.specs.declared.lexeme.Lexeme.{Lexeme}
use Rattle.types_spec.specs.declared.types.decl.Decl.{Decl}
use Rattle.types_spec.specs.types.Equal.{Equal, declared_shapes}
use Rattle.types_spec.specs.types.Fault.{step, value_at}
use Rattle.types_spec.specs.types.Names.{names_of}
use Rattle.types_spec.specs.types.Shape.{shape}
use Rattle.types_spec.specs.types.Table.{table_shapes}
use Rattle.types_spec.specs.types.Ty.{Ty}
use Rattle.types_spec.specs.types.TypeText.{type_text}
use Rattle.types_spec.specs.types.Typing.{HasType}
use Rattle.types_theory.proofs.equality.SimulationLemmas.{SamePosition, position_same}
use Rattle.types_theory.proofs.equality.EqualityTableLemmas.{table_says, least_forth}
use Rattle.types_theory.proofs.table.TableDecideLemmas.{root_is_first, has_forth}
use Rattle.types_table.specs.declared.type_table.tabled.Tabled.{Tabled}
use Rattle.types_table.specs.type_table.Made.{types_of, table_of, IsTypeTable}
use Rattle.check_fault.specs.FaultText.{text_or_none, text_at}
use Rattle.text_literal.specs.literal_grammar.Literal.{Literal}
use Rattle.text_literal.specs.parser.LiteralAnswers.{shape_in, names_in, byte_of, in_bytes}
use Rattle.text_literal.specs.parser.LiteralReading.{LiteralReading, LiteralRefusal, mismatch_at, int_range_at, label_at, literal_read}
use Rattle.text_path.specs.declared.edits.Edit.{Edit}
use Rattle.text_path.specs.declared.edits.Edit.TheVariants as edits
use Rattle.edit_values.specs.declared.spots.Location.{Location}
use Rattle.edit_values.specs.declared.spots.TypedLocation.{TypedLocation}
use Rattle.edit_values.specs.declared.edit_refusal.EditSide.TheVariants.{Left}
use Rattle.edit_values.specs.EditPositions.{spot_after, or_step, position_from, position_at}
use Rattle.edit_values.specs.Reasons.{Reason, no_field, not_block, no_literal, misread, ill_typed, literal_text, in_script, reason_text}
use Rattle.edit_values.specs.EditedValues.{EditAnswer, write_at, linked, copied, object_of, unshared, IsSetAt, IsSet, IsMade}
use Rattle.edit_values.specs.TableEdits.{SameClass, IsAnswerIn}
use Rattle.edit_values.specs.Laws.{IsDeclaredAnswer, SayTheSame}
use Rattle.edit_values.proofs.EditMadeLemmas.{Follows, parted, joined}
use Rattle.text_literal.specs.table_agreement.TableAgreement.{RefusalsAgree, ReadAgree}
use Rattle.text_literal.proofs.table_agreement.LiteralTableLemmas.{tables_read_agree}

module _ (decls : List Decl) (t : Ty) (table : Tabled) (is : IsTypeTable decls t table) where
  abbrev Is : ℕ → Ty → Type 0
  Is i u = slice_get (types_of table) i ≡ Some u

  matching : (v : Literal) (count i : ℕ) (u : Ty) → Is i u
      → ReadAgree Is (literal_read (shape_in table) (names_in table) 0 v count [] i) (literal_read (shape decls) (names_of decls) 0 v count [] u)
  matching v count i u at = tables_read_agree decls t table is 0 v count [] i u at

  -- If a literal has a value at a number of the table, then the literal has that value at the type
  -- of the number.
  value_too : (a : Result LiteralReading (LiteralRefusal ℕ)) (b : Result LiteralReading (LiteralRefusal Ty)) (r : LiteralReading) → ReadAgree Is a b → a ≡ Ok r → b ≡ Ok r
  value_too (Ok s) (Ok s') r same is = ap Ok (sym same ∙ same_reading s r is) where
    same_reading : (s r : LiteralReading) → ◌≡◌ {A = Result LiteralReading (LiteralRefusal ℕ)} (Ok s) (Ok r) → s ≡ r
    same_reading s r is = cc
  value_too (Err s) b r same is = absurd (no_value s r is) where
    no_value : (s : LiteralRefusal ℕ) (r : LiteralReading) → ◌≡◌ {A = Result LiteralReading (LiteralRefusal ℕ)} (Err s) (Ok r) → ⊥
    no_value s r is = cc
  value_too (Ok s) (Err s') r same is = absurd same

  refusal_too : (a : Result LiteralReading (LiteralRefusal ℕ)) (b : Result LiteralReading (LiteralRefusal Ty)) (r : LiteralRefusal ℕ) → ReadAgree Is a b → a ≡ Err r
      → (s : LiteralRefusal Ty) × (b ≡ Err s) × RefusalsAgree Is r s
  refusal_too (Err s) (Err s') r same is = (s', refl, subst (λ x. RefusalsAgree Is x s') (same_refusal s r is) same) where
    same_refusal : (s r : LiteralRefusal ℕ) → ◌≡◌ {A = Result LiteralReading (LiteralRefusal ℕ)} (Err s) (Err r) → s ≡ r
    same_refusal s r is = cc
  refusal_too (Ok s) b r same is = absurd (no_refusal s r is) where
    no_refusal : (s : LiteralReading) (r : LiteralRefusal ℕ) → ◌≡◌ {A = Result LiteralReading (LiteralRefusal ℕ)} (Ok s) (Err r) → ⊥
    no_refusal s r is = cc
  refusal_too (Err s) (Ok s') r same is = absurd same

  bytes_agree : (lexemes : List Lexeme) (end : ℕ) (r : LiteralRefusal ℕ) (s : LiteralRefusal Ty) → RefusalsAgree Is r s
      → RefusalsAgree Is (in_bytes lexemes end r) (in_bytes lexemes end s)
  bytes_agree lexemes end (mismatch_at k i) (mismatch_at j u) same = (ap (byte_of lexemes end) same.0, same.1)
  bytes_agree lexemes end (int_range_at k) (int_range_at j) same = ap (byte_of lexemes end) same
  bytes_agree lexemes end (label_at k) (label_at j) same = ap (byte_of lexemes end) same
  bytes_agree lexemes end (mismatch_at k i) (int_range_at j) same = absurd same
  bytes_agree lexemes end (mismatch_at k i) (label_at j) same = absurd same
  bytes_agree lexemes end (int_range_at k) (mismatch_at j u) same = absurd same
  bytes_agree lexemes end (int_range_at k) (label_at j) same = absurd same
  bytes_agree lexemes end (label_at k) (mismatch_at j u) same = absurd same
  bytes_agree lexemes end (label_at k) (int_range_at j) same = absurd same

  -- ---- answers

  abbrev pub ReasonsAgree : Reason ℕ → Reason Ty → Type 0
  ReasonsAgree (no_field side n) (no_field other m) = (side ≡ other) × (n ≡ m)
  ReasonsAgree not_block not_block = Unit {0}
  ReasonsAgree (no_literal position) (no_literal other) = position ≡ other
  ReasonsAgree (misread r) (misread s) = RefusalsAgree Is r s
  ReasonsAgree (ill_typed fault) (ill_typed other) = fault ≡ other
  ReasonsAgree one other = ⊥

  abbrev pub AnswersAgree : EditAnswer ℕ → EditAnswer Ty → Type 0
  AnswersAgree (Ok made) (Ok other) = made ≡ other
  AnswersAgree (Err r) (Err s) = ReasonsAgree r s
  AnswersAgree one other = ⊥

  pub text_is : (i : ℕ) (u : Ty) → Is i u → text_at table i ≡ type_text u
  text_is i u at = ap text_or_none at

  module _ (known : ℕ → List ℕ) where
    refusal_text_same : (r : LiteralRefusal ℕ) (s : LiteralRefusal Ty) → RefusalsAgree Is r s
        → literal_text (text_at table) known (misread r) ≡ literal_text type_text known (misread s)
    refusal_text_same (mismatch_at k i) (mismatch_at j u) same =
        ap (λ k. codes "Misfit at " ++ known k ++ codes ": expected " ++ text_at table i) same.0
        ∙ ap (λ text. codes "Misfit at " ++ known j ++ codes ": expected " ++ text) (text_is i u same.1)
    refusal_text_same (int_range_at k) (int_range_at j) same = ap (λ k. codes "IntRange at " ++ known k) same
    refusal_text_same (label_at k) (label_at j) same = ap (λ k. codes "Label at " ++ known k) same
    refusal_text_same (mismatch_at k i) (int_range_at j) same = absurd same
    refusal_text_same (mismatch_at k i) (label_at j) same = absurd same
    refusal_text_same (int_range_at k) (mismatch_at j u) same = absurd same
    refusal_text_same (int_range_at k) (label_at j) same = absurd same
    refusal_text_same (label_at k) (mismatch_at j u) same = absurd same
    refusal_text_same (label_at k) (int_range_at j) same = absurd same

    pub literal_text_same : (r : Reason ℕ) (s : Reason Ty) → ReasonsAgree r s → literal_text (text_at table) known r ≡ literal_text type_text known s
    literal_text_same (no_literal position) (no_literal other) same = ap (λ position. codes "Syntax at " ++ known position) same
    literal_text_same (misread r) (misread s) same = refusal_text_same r s same
    literal_text_same (no_field side n) (no_field other m) same = refl
    literal_text_same not_block not_block same = refl
    literal_text_same (ill_typed fault) (ill_typed other) same = refl
    literal_text_same r s same = absurd same

    reason_text_same : (r : Reason ℕ) (s : Reason Ty) → ReasonsAgree r s → reason_text (text_at table) known r ≡ reason_text type_text known s
    reason_text_same (no_field side n) (no_field other m) same =
        ap (λ side. reason_text (text_at table) known (no_field side n)) same.0 ∙ ap (λ n. reason_text (text_at table) known (no_field other n)) same.1
    reason_text_same not_block not_block same = refl
    reason_text_same (no_literal position) (no_literal other) same = ap in_script (literal_text_same (no_literal position) (no_literal other) same)
    reason_text_same (misread r) (misread s) same = ap in_script (literal_text_same (misread r) (misread s) same)
    reason_text_same (ill_typed fault) (ill_typed other) same = ap (λ fault. reason_text (text_at table) known (ill_typed fault)) same
    reason_text_same r s same = absurd same

  pub say_the_same : (answer : EditAnswer ℕ) (other : EditAnswer Ty) → AnswersAgree answer other → SayTheSame table answer other
  say_the_same (Ok made) (Ok other) same = same
  say_the_same (Err r) (Err s) same = λ known. reason_text_same known r s same
  say_the_same (Ok made) (Err s) same = absurd same
  say_the_same (Err r) (Ok other) same = absurd same

  -- ---- locations

  module _ (graph : List Obj) where
    abbrev Same : Option (Val × ℕ) → Option (Val × Ty) → Type 0
    Same p q = SamePosition (table_shapes (table_of table)) (declared_shapes decls) Is graph p q

    only_step : {X : Type 0} (o : Option (Val × X)) → option_and_then (λ (next : Val × X). Some (next.0, next.1)) o ≡ o
    only_step None = refl
    only_step (Some next) = refl

    step_agree : (v : Val) (i : ℕ) (u : Ty) (k : ℕ) → Is i u
        → Same (step (table_shapes (table_of table)) graph v i k) (step (declared_shapes decls) graph v u k)
    step_agree v i u k at =
        subst (λ p. Same p (step (declared_shapes decls) graph v u k)) (only_step (step (table_shapes (table_of table)) graph v i k))
        (subst (λ q. Same (value_at (table_shapes (table_of table)) graph v i (k ∷ [])) q) (only_step (step (declared_shapes decls) graph v u k))
        (position_same (table_shapes (table_of table)) (declared_shapes decls) Is graph
        (table_says decls (types_of table) (table_of table) is.made graph) (k ∷ []) v i u at))

    abbrev pub SpotsAgree : TypedLocation ℕ → TypedLocation Ty → Type 0
    SpotsAgree p q = (p.spot ≡ q.spot) × (p.value ≡ q.value) × Is p.ty q.ty

    abbrev pub PositionsAgree : Result (TypedLocation ℕ) ℕ → Result (TypedLocation Ty) ℕ → Type 0
    PositionsAgree (Ok p) (Ok q) = SpotsAgree p q
    PositionsAgree (Err n) (Err m) = n ≡ m
    PositionsAgree p q = ⊥

    abbrev next_of : {X : Type 0} → Val → ℕ → Option (Val × X) → Option (TypedLocation X)
    next_of {X} v k o = option_map (λ (next : Val × X). record { spot = spot_after v k; value = next.0; ty = next.1 }) o

    step_on : (n : ℕ) (v : Val) (k : ℕ) (one : TypedLocation ℕ → Result (TypedLocation ℕ) ℕ) (other : TypedLocation Ty → Result (TypedLocation Ty) ℕ)
        → ((p : TypedLocation ℕ) (q : TypedLocation Ty) → SpotsAgree p q → PositionsAgree (one p) (other q))
        → (p : Option (Val × ℕ)) (q : Option (Val × Ty)) → Same p q
        → PositionsAgree (or_step n one (next_of v k p)) (or_step n other (next_of v k q))
    step_on n v k one other rest None None same = refl
    step_on n v k one other rest (Some p) (Some q) same = rest _ _ (refl, same.0, same.1)
    step_on n v k one other rest None (Some q) same = absurd same
    step_on n v k one other rest (Some p) None same = absurd same

    position_agree : (path : List ℕ) (n : ℕ) (p : TypedLocation ℕ) (q : TypedLocation Ty) → SpotsAgree p q
        → PositionsAgree (position_from (table_shapes (table_of table)) graph n p path) (position_from (declared_shapes decls) graph n q path)
    position_agree [] n p q same = same
    position_agree (k ∷ path) n p q same =
        subst
        (λ (v : Val). PositionsAgree (position_from (table_shapes (table_of table)) graph n p (k ∷ path))
        (or_step n (λ next. position_from (declared_shapes decls) graph (suc n) next path) (next_of v k (step (declared_shapes decls) graph v q.ty k))))
        same.1
        (step_on n p.value k (λ next. position_from (table_shapes (table_of table)) graph (suc n) next path)
        (λ next. position_from (declared_shapes decls) graph (suc n) next path) (position_agree path (suc n))
        (step (table_shapes (table_of table)) graph p.value p.ty k) (step (declared_shapes decls) graph p.value q.ty k)
        (step_agree p.value p.ty q.ty k same.2))

    root_is : Is 0 t
    root_is = root_is_first decls t (types_of table) is.reached

    pub positions : (root : Val) (path : List ℕ)
        → PositionsAgree (position_at (table_shapes (table_of table)) graph root 0 path) (position_at (declared_shapes decls) graph root t path)
    positions root path = position_agree path 0 _ _ (refl, refl, root_is)

    -- ---- results

    link_agree : (root : Val) (p q : Result (TypedLocation ℕ) ℕ) (p' q' : Result (TypedLocation Ty) ℕ) → PositionsAgree p p' → PositionsAgree q q'
        → AnswersAgree (linked graph root p q) (linked graph root p' q')
    link_agree root (Err n) q (Err n') q' one other = (refl, one)
    link_agree root (Ok p) (Err n) (Ok p') (Err n') one other = (refl, other)
    link_agree root (Ok p) (Ok q) (Ok p') (Ok q') one other =
        ap (λ spot. write_at spot q.value graph root) one.0 ∙ ap (λ v. write_at p'.spot v graph root) other.1
    link_agree root (Err n) q (Ok p') q' one other = absurd one
    link_agree root (Ok p) q (Err n') q' one other = absurd one
    link_agree root (Ok p) (Err n) (Ok p') (Ok q') one other = absurd other
    link_agree root (Ok p) (Ok q) (Ok p') (Err n') one other = absurd other

    copy_agree : (root : Val) (spot spot' : Location) (object : Option Obj) → spot ≡ spot'
        → AnswersAgree (copied graph root spot object) (copied graph root spot' object)
    copy_agree root spot spot' None same = tt
    copy_agree root spot spot' (Some object) same = ap (λ spot. write_at spot (vals.Ref (length graph)) (graph ++ object ∷ []) root) same

    unshare_agree : (root : Val) (p : Result (TypedLocation ℕ) ℕ) (p' : Result (TypedLocation Ty) ℕ) → PositionsAgree p p'
        → AnswersAgree (unshared graph root p) (unshared graph root p')
    unshare_agree root (Err n) (Err n') same = (refl, same)
    unshare_agree root (Ok p) (Ok p') same =
        subst (λ v. AnswersAgree (copied graph root p.spot (object_of graph p.value)) (copied graph root p'.spot (object_of graph v))) same.1
        (copy_agree root p.spot p'.spot (object_of graph p.value) same.0)
    unshare_agree root (Err n) (Ok p') same = absurd same
    unshare_agree root (Ok p) (Err n') same = absurd same

    abbrev pub SetAgree : Val → TypedLocation Ty → List Lexeme → ℕ → EditAnswer ℕ → Type 0
    SetAgree root p' lexemes end made =
        (other : EditAnswer Ty) × IsSetAt (shape decls) (names_of decls) graph root p' lexemes end other × AnswersAgree made other

    pub set_at_agree : (root : Val) (p : TypedLocation ℕ) (p' : TypedLocation Ty) (lexemes : List Lexeme) (end : ℕ) → SpotsAgree p p' → (made : EditAnswer ℕ)
        → IsSetAt (shape_in table) (names_in table) graph root p lexemes end made → SetAgree root p' lexemes end made
    set_at_agree root p p' lexemes end same (Ok made) (objects, value, (v, encodes, read), writes) = (
      Ok (write_at p'.spot value (graph ++ objects) root),
      (objects, value, (v, encodes, record { labels = read.labels; read = value_too _ _ _ (matching v (length graph) p.ty p'.ty same.2) read.read }), refl),
      writes ∙ ap (λ spot. write_at spot value (graph ++ objects) root) same.0,
    )
    set_at_agree root p p' lexemes end same (Err (misread refusal)) (v, at, encodes, refused, known) =
        let other = refusal_too _ _ at (matching v (length graph) p.ty p'.ty same.2) refused in (
          Err (misread (in_bytes lexemes end other.0)),
          (v, other.0, encodes, other.1, refl),
          subst (λ r. RefusalsAgree Is r (in_bytes lexemes end other.0)) (sym known) (bytes_agree lexemes end at other.0 other.2),
        )
    set_at_agree root p p' lexemes end same (Err (no_literal position)) none = (Err (no_literal position), none, refl)
    set_at_agree root p p' lexemes end same (Err (no_field side n)) made = absurd made
    set_at_agree root p p' lexemes end same (Err not_block) made = absurd made
    set_at_agree root p p' lexemes end same (Err (ill_typed fault)) made = absurd made

    set_agree : (root : Val) (p : Result (TypedLocation ℕ) ℕ) (p' : Result (TypedLocation Ty) ℕ) (lexemes : List Lexeme) (end : ℕ) → PositionsAgree p p' → (made : EditAnswer ℕ)
        → IsSet (shape_in table) (names_in table) graph root p lexemes end made
        → (other : EditAnswer Ty) × IsSet (shape decls) (names_of decls) graph root p' lexemes end other × AnswersAgree made other
    set_agree root (Err n) (Err n') lexemes end same made known =
        (Err (no_field Left n'), refl, subst (λ m. AnswersAgree m (Err (no_field Left n'))) (sym known) (refl, same))
    set_agree root (Ok p) (Ok p') lexemes end same made known = set_at_agree root p p' lexemes end same made known
    set_agree root (Err n) (Ok p') lexemes end same made known = absurd same
    set_agree root (Ok p) (Err n') lexemes end same made known = absurd same

    abbrev IsMadeIn : Edit → Val → EditAnswer ℕ → Type 0
    IsMadeIn edit root made = IsMade (shape_in table) (names_in table) (SameClass table) 0 edit graph root made

    abbrev IsMadeOver : Edit → Val → EditAnswer Ty → Type 0
    IsMadeOver edit root made = IsMade (shape decls) (names_of decls) (Equal decls) t edit graph root made

    made_agree : (edit : Edit) (root : Val) (made : EditAnswer ℕ) → IsMadeIn edit root made
        → (other : EditAnswer Ty) × IsMadeOver edit root other × AnswersAgree made other
    made_agree (edits.Set path lexemes end) root made known =
        set_agree root (position_at (table_shapes (table_of table)) graph root 0 path) (position_at (declared_shapes decls) graph root t path) lexemes end (positions root path) made known
    made_agree (edits.Link path source) root made known = (
      linked graph root (position_at (declared_shapes decls) graph root t path) (position_at (declared_shapes decls) graph root t source),
      refl,
      subst (λ m. AnswersAgree m (linked graph root (position_at (declared_shapes decls) graph root t path) (position_at (declared_shapes decls) graph root t source))) (sym known)
          (link_agree root (position_at (table_shapes (table_of table)) graph root 0 path) (position_at (table_shapes (table_of table)) graph root 0 source)
          (position_at (declared_shapes decls) graph root t path) (position_at (declared_shapes decls) graph root t source) (positions root path) (positions root source)),
    )
    made_agree (edits.Unshare path) root made known = (
      unshared graph root (position_at (declared_shapes decls) graph root t path),
      refl,
      subst (λ m. AnswersAgree m (unshared graph root (position_at (declared_shapes decls) graph root t path))) (sym known)
          (unshare_agree root (position_at (table_shapes (table_of table)) graph root 0 path) (position_at (declared_shapes decls) graph root t path) (positions root path)),
    )

  -- ---- answers from results

  abbrev FollowsIn : EditAnswer ℕ → EditAnswer ℕ → Type 0
  FollowsIn made answer = Follows (shape_in table) (names_in table) (SameClass table) 0 made answer

  abbrev FollowsOver : EditAnswer Ty → EditAnswer Ty → Type 0
  FollowsOver made answer = Follows (shape decls) (names_of decls) (Equal decls) t made answer

  first_is : Is 0 t
  first_is = root_is_first decls t (types_of table) is.reached

  pub follows_agree : (made answer : EditAnswer ℕ) (made' : EditAnswer Ty) → FollowsIn made answer → AnswersAgree made made'
      → (other : EditAnswer Ty) × FollowsOver made' other × AnswersAgree answer other
  follows_agree (Ok made) (Ok edited) (Ok made') (same, typed) agree = (
    Ok made',
    (
      refl,
      subst (λ (m : List Obj × Val). HasType (declared_shapes decls) m.0 m.1 t) agree
          (has_forth decls (types_of table) (table_of table) is.made made.0 made.1 0 t first_is typed),
    ),
    sym same ∙ agree,
  )
  follows_agree (Ok made) (Err reason) (Ok made') (fault, same, least) agree = (
    Err (ill_typed fault),
    subst (λ (m : List Obj × Val). FollowsOver (Ok m) (Err (ill_typed fault))) agree
        (fault, refl, least_forth decls (types_of table) (table_of table) is.made made.0 made.1 0 t first_is fault least),
    subst (λ r. ReasonsAgree r (ill_typed fault)) (sym same) refl,
  )
  follows_agree (Err reason) answer (Err reason') same agree =
      (Err reason', refl, subst (λ a. AnswersAgree a (Err reason')) (sym same) agree)
  follows_agree (Ok made) answer (Err reason') follows agree = absurd agree
  follows_agree (Err reason) answer (Ok made') follows agree = absurd agree

  pub answer_agree : (edit : Edit) (graph : List Obj) (root : Val) (answer : EditAnswer ℕ) → IsAnswerIn table edit graph root answer
      → (other : EditAnswer Ty) × IsDeclaredAnswer decls t edit graph root other × SayTheSame table answer other
  answer_agree edit graph root answer known =
      let parts = parted (shape_in table) (names_in table) (SameClass table) 0 edit graph root answer known in
      let made = made_agree graph edit root parts.0 parts.1 in
      let after = follows_agree parts.0 answer made.0 parts.2 made.2 in
      (after.0, joined (shape decls) (names_of decls) (Equal decls) t edit graph root made.0 after.0 made.1 after.1, say_the_same answer after.0 after.2)
