-- A graft has one answer, and the result of each step of a call is that answer.
use Rattle.std.proofs.Common.{ℕ, ◌≡◌, ◌∙◌, take, List, ◌++◌, length, Option, Some, None, Result, Ok, Err, refl, ap, sym, subst}
use Rattle.std.specs.Prelude.{OnOk}
use Rattle.base_data.specs.declared.model.value.Val.{Val}
use Rattle.base_data.specs.declared.model.value.Obj.{Obj}
use Rattle.types_spec.specs.declared.types.decl.Decl.{Decl}
use Rattle.types_spec.specs.declared.types.fault.Fault.{Fault}
use Rattle.types_spec.specs.declared.types.names.Names.{Names}
use Rattle.types_spec.specs.declared.types.shape.ShapeOf.{ShapeOf}
use Rattle.types_spec.specs.types.Equal.{Equal, declared_shapes}
use Rattle.types_spec.specs.types.Fault.{IsFault}
use Rattle.types_spec.specs.types.Fitting.{shaped}
use Rattle.types_spec.specs.types.LawfulShapes.{Everything}
use Rattle.types_spec.specs.types.Names.{names_of}
use Rattle.types_spec.specs.types.Shape.{shape}
use Rattle.types_spec.specs.types.Table.{table_shapes}
use Rattle.types_spec.specs.types.Ty.{Ty}
use Rattle.types_spec.specs.types.Typing.{HasType}
use Rattle.types_spec.proofs.types.TypeFaultLemmas.{fault_excludes_type}
use Rattle.marshal_spec.specs.format.Tree.{objects_of, root as top_of}
use Rattle.marshal_spec.proofs.canonical.SameTree.{one_tree_only}
use Rattle.types_table.specs.declared.type_table.tabled.Tabled.{Tabled}
use Rattle.types_table.specs.type_table.Made.{table_of, IsLawful, IsTypeTable}
use Rattle.text_literal.specs.parser.LiteralAnswers.{shape_in, names_in}
use Rattle.marshal_write.specs.graft.Copies.{IsCopy, HasCopy}
use Rattle.edit_values.specs.declared.spots.TypedLocation.{TypedLocation}
use Rattle.edit_values.specs.declared.edit_refusal.EditSide.{EditSide}
use Rattle.edit_values.specs.declared.edit_refusal.EditSide.TheVariants.{Left, Right}
use Rattle.edit_values.specs.declared.edit_refusal.EditRefusal.{EditRefusal}
use Rattle.edit_values.specs.declared.edit_refusal.EditRefusal.TheVariants as refusals
use Rattle.edit_values.specs.EditedValues.{EditAnswer, write_at}
use Rattle.edit_values.specs.GraftLaws.{IsDeclaredGraft, HasGraft}
use Rattle.edit_values.specs.Grafts.{Other, IsGraftAt, IsGraft, IsGrafted, IsGraftAnswer, IsGraftAnswerIn, IsNotGraftedFor, IsGraftApplied}
use Rattle.edit_values.specs.Laws.{SayTheSame}
use Rattle.edit_values.specs.EditPositions.{position_at, on_side}
use Rattle.edit_values.specs.Reasons.{Reason, no_field, not_block, no_literal, misread, ill_typed, reason_of}
use Rattle.edit_values.specs.TableEdits.{SameClass, IsKept, IsReason, Gives}
use Rattle.edit_values.proofs.EditAgreeLemmas.{PositionsAgree, AnswersAgree, positions, follows_agree, say_the_same}
use Rattle.edit_values.proofs.ApplyLemmas.{Found, found_is, position_of, first_of}
use Rattle.edit_values.proofs.GraftLemmas.{has_graft}
use Rattle.edit_values.proofs.EditMadeLemmas.{Follows, follows_once}

-- ---- one answer

copy_once : (h : List Obj) (v : Val) (c : ℕ) (copied others : List Obj) (value other : Val) → IsCopy h v c copied value → IsCopy h v c others other
    → (copied ≡ others) × (value ≡ other)
copy_once h v c copied others value other one two =
    let same = one_tree_only h v one.tree two.tree one.is two.is in (
      one.all ∙ ap (λ tree. objects_of tree c) same ∙ sym two.all,
      one.top ∙ ap (λ tree. top_of tree c) same ∙ sym two.top,
    )

module _ {T : Type 0} where
  graft_at_once : (graph : List Obj) (root : Val) (p : TypedLocation T) (h : List Obj) (part : TypedLocation T) (made other : EditAnswer T)
      → IsGraftAt graph root p h part made → IsGraftAt graph root p h part other → made ≡ other
  graft_at_once graph root p h part (Ok made) (Ok other) (copied, value, copy, is) (others, value', copy', is') =
      let same = copy_once h part.value (length graph) copied others value value' copy copy' in
      ap Ok (is ∙ ap (λ v. write_at p.spot v (graph ++ copied) root) same.1 ∙ ap (λ os. write_at p.spot value' (graph ++ os) root) same.0 ∙ sym is')
  graft_at_once graph root p h part (Err reason) other one two = absurd one
  graft_at_once graph root p h part (Ok made) (Err reason) one two = absurd two

  graft_once : (graph : List Obj) (root : Val) (left : Result (TypedLocation T) ℕ) (h : List Obj) (right : Result (TypedLocation T) ℕ) (made other : EditAnswer T)
      → IsGraft graph root left h right made → IsGraft graph root left h right other → made ≡ other
  graft_once graph root (Err step) h right made other one two = one ∙ sym two
  graft_once graph root (Ok p) h (Err step) made other one two = one ∙ sym two
  graft_once graph root (Ok p) h (Ok part) made other one two = graft_at_once graph root p h part made other one two

  no_field_only : (graph : List Obj) (root : Val) (left : Result (TypedLocation T) ℕ) (h : List Obj) (right : Result (TypedLocation T) ℕ) (fault : Fault)
      → IsGraft graph root left h right (Err (ill_typed fault)) → ⊥
  no_field_only graph root (Err step) h right fault is = never Left step is where
    never : (side : EditSide) (step : ℕ) → ◌≡◌ {A = EditAnswer T} (Err (ill_typed fault)) (Err (no_field side step)) → ⊥
    never side step is = cc
  no_field_only graph root (Ok p) h (Err step) fault is = never Right step is where
    never : (side : EditSide) (step : ℕ) → ◌≡◌ {A = EditAnswer T} (Err (ill_typed fault)) (Err (no_field side step)) → ⊥
    never side step is = cc
  no_field_only graph root (Ok p) h (Ok part) fault is = is

module _ {T : Type 0} (shape : T → ShapeOf T) (names : T → Names) (Equal : T → T → Type 0) (t : T) (path : List ℕ) (other : Other) (source : List ℕ) (graph : List Obj) (root : Val) where
  abbrev pub MadeBy : EditAnswer T → Type 0
  MadeBy made = IsGrafted shape Equal t path other source graph root made

  abbrev pub Answers : EditAnswer T → Type 0
  Answers answer = IsGraftAnswer shape Equal t path other source graph root answer

  abbrev pub FollowsFrom : EditAnswer T → EditAnswer T → Type 0
  FollowsFrom made answer = Follows shape names Equal t made answer

  pub graft_parted : (answer : EditAnswer T) → Answers answer → (made : EditAnswer T) × MadeBy made × FollowsFrom made answer
  graft_parted (Ok made) is = (Ok made, is.0, (refl, is.1))
  graft_parted (Err (ill_typed fault)) is = (Ok is.0, is.1, (fault, refl, is.2))
  graft_parted (Err (no_field side step)) is = (Err (no_field side step), is, refl)
  graft_parted (Err not_block) is = (Err not_block, is, refl)
  graft_parted (Err (no_literal position)) is = (Err (no_literal position), is, refl)
  graft_parted (Err (misread refusal)) is = (Err (misread refusal), is, refl)

  refused : (reason : Reason T) → MadeBy (Err reason) → Answers (Err reason)
  refused (ill_typed fault) is =
      absurd (no_field_only graph root (position_at (shaped shape Equal) graph root t path) other.0 (position_at (shaped shape Equal) other.0 other.1 t source) fault is)
  refused (no_field side step) is = is
  refused not_block is = is
  refused (no_literal position) is = is
  refused (misread refusal) is = is

  pub graft_joined : (made answer : EditAnswer T) → MadeBy made → FollowsFrom made answer → Answers answer
  graft_joined (Ok made) (Ok edited) is (same, typed) = subst (λ e. Answers (Ok e)) same (is, typed)
  graft_joined (Ok made) (Err reason) is (fault, same, least) = subst (λ r. Answers (Err r)) (sym same) (made, is, least)
  graft_joined (Err reason) answer is same = subst Answers (sym same) (refused reason is)

  pub grafts_once : ((graph : List Obj) (v : Val) (fault : Fault) → IsFault (shaped shape Equal) graph v t fault → HasType (shaped shape Equal) graph v t → ⊥)
      → (answer answer' : EditAnswer T) → Answers answer → Answers answer' → answer ≡ answer'
  grafts_once never_both answer answer' is its =
      let one = graft_parted answer is in
      let two = graft_parted answer' its in
      let same = graft_once graph root (position_at (shaped shape Equal) graph root t path) other.0
      (position_at (shaped shape Equal) other.0 other.1 t source) one.0 two.0 one.1 two.1 in
      follows_once shape names Equal t never_both two.0 answer answer' (subst (λ m. FollowsFrom m answer) same one.2) two.2

-- ---- answers by a table correspond to answers by its types

module _ (decls : List Decl) (t : Ty) (table : Tabled) (is : IsTypeTable decls t table) where
  module _ (graph : List Obj) (root : Val) (h : List Obj) where
    abbrev Agree : EditAnswer ℕ → EditAnswer Ty → Type 0
    Agree one other = AnswersAgree decls t table is one other

    graft_agree : (left : Result (TypedLocation ℕ) ℕ) (left' : Result (TypedLocation Ty) ℕ) (right : Result (TypedLocation ℕ) ℕ) (right' : Result (TypedLocation Ty) ℕ)
        → PositionsAgree decls t table is graph left left' → PositionsAgree decls t table is h right right' → (made : EditAnswer ℕ)
        → IsGraft graph root left h right made → (made' : EditAnswer Ty) × IsGraft graph root left' h right' made' × Agree made made'
    graft_agree (Err n) (Err n') right right' one two made known =
        (Err (no_field Left n'), refl, subst (λ m. Agree m (Err (no_field Left n'))) (sym known) (refl, one))
    graft_agree (Ok p) (Ok p') (Err n) (Err n') one two made known =
        (Err (no_field Right n'), refl, subst (λ m. Agree m (Err (no_field Right n'))) (sym known) (refl, two))
    graft_agree (Ok p) (Ok p') (Ok q) (Ok q') one two (Ok made) (copied, value, copy, writes) = (
      Ok made,
      (copied, value, subst (λ v. IsCopy h v (length graph) copied value) two.1 copy, writes ∙ ap (λ spot. write_at spot value (graph ++ copied) root) one.0),
      refl,
    )
    graft_agree (Ok p) (Ok p') (Ok q) (Ok q') one two (Err reason) known = absurd known
    graft_agree (Err n) (Ok p') right right' one two made known = absurd one
    graft_agree (Ok p) (Err n') right right' one two made known = absurd one
    graft_agree (Ok p) (Ok p') (Err n) (Ok q') one two made known = absurd two
    graft_agree (Ok p) (Ok p') (Ok q) (Err n') one two made known = absurd two

  pub graft_answer_agree : (path : List ℕ) (other : Other) (source : List ℕ) (graph : List Obj) (root : Val) (answer : EditAnswer ℕ)
      → IsGraftAnswerIn table path other source graph root answer
      → (declared : EditAnswer Ty) × IsDeclaredGraft decls t path other source graph root declared × SayTheSame table answer declared
  graft_answer_agree path other source graph root answer known =
      let parts = graft_parted (shape_in table) (names_in table) (SameClass table) 0 path other source graph root answer known in
      let made = graft_agree graph root other.0
      (position_at (table_shapes (table_of table)) graph root 0 path) (position_at (declared_shapes decls) graph root t path)
      (position_at (table_shapes (table_of table)) other.0 other.1 0 source) (position_at (declared_shapes decls) other.0 other.1 t source)
      (positions decls t table is graph root path) (positions decls t table is other.0 other.1 source) parts.0 parts.1 in
      let after = follows_agree decls t table is parts.0 answer made.0 parts.2 made.2 in (
        after.0,
        graft_joined (shape decls) (names_of decls) (Equal decls) t path other source graph root made.0 after.0 made.1 after.1,
        say_the_same decls t table is answer after.0 after.2,
      )

-- ---- the results of the steps of a call

module _ (table : Tabled) (path : List ℕ) (other : Other) (source : List ℕ) (graph : List Obj) (root : Val) where
  abbrev left : Found
  left = position_of table graph root path

  abbrev right : Found
  right = position_of table other.0 other.1 source

  abbrev AppliedTo : List Obj → Val → Result (Unit {0}) EditRefusal → Type 0
  AppliedTo new new_root result = IsGraftApplied table path other source graph root new new_root result

  abbrev RefusedFor : Option (Reason ℕ) → Type 0
  RefusedFor reason = IsNotGraftedFor table path other source graph root reason

  module _ (p : TypedLocation ℕ) (found : Ok p ≡ on_side Left left) where
    module _ (part : TypedLocation ℕ) (found' : Ok part ≡ on_side Right right) (new : List Obj) (value : Val) (copy : HasCopy graph new other.0 part.value value) where
      made : IsGrafted (shape_in table) (SameClass table) 0 path other source graph root (Ok (write_at p.spot value new root))
      made =
          subst (λ l. IsGraft graph root l other.0 right (Ok (write_at p.spot value new root))) (sym (found_is Left left p found))
          (subst (λ r. IsGraft graph root (Ok p) other.0 r (Ok (write_at p.spot value new root))) (sym (found_is Right right part found'))
          (copy.copied, value, copy.is, ap (λ g. write_at p.spot value g root) copy.behind))

      kept_grafted : (last : List Obj) (last_root : Val) (result : Result (Unit {0}) EditRefusal)
          → IsKept table (write_at p.spot value new root) graph root last last_root result → AppliedTo last last_root result
      kept_grafted last last_root (Ok unit) kept = subst (λ m. IsGraftAnswerIn table path other source graph root (Ok m)) (sym kept.0) (made, kept.1)
      kept_grafted last last_root (Err (refusals.IllTyped fault)) kept = (kept.0, kept.1, (write_at p.spot value new root, made, kept.2))
      kept_grafted last last_root (Err refusals.Memory) kept = (kept.0, kept.1, tt)
      kept_grafted last last_root (Err (refusals.NoField side n)) kept = absurd kept.2
      kept_grafted last last_root (Err refusals.NotBlock) kept = absurd kept.2
      kept_grafted last last_root (Err (refusals.Literal fault)) kept = absurd kept.2

      pub graft_applied : (count : ℕ) → count ≡ length graph → (last : List Obj) (last_root : Val) (result : Result (Unit {0}) EditRefusal)
          → IsKept table (write_at p.spot value new root) (take count new) root last last_root result → AppliedTo last last_root result
      graft_applied count many last last_root result kept =
          kept_grafted last last_root result
          (subst (λ before. IsKept table (write_at p.spot value new root) before root last last_root result) (first_of graph copy.copied new count many copy.behind) kept)

  -- ---- the result is the only answer

  module _ (lawful : IsLawful (table_of table)) where
    pub graft_known_once : (answer answer' : EditAnswer ℕ) → IsGraftAnswerIn table path other source graph root answer
        → IsGraftAnswerIn table path other source graph root answer' → answer ≡ answer'
    graft_known_once =
        grafts_once (shape_in table) (names_in table) (SameClass table) 0 path other source graph root
        (λ g v fault. fault_excludes_type (table_shapes (table_of table)) Everything lawful.lawful g v 0 fault tt)

    for_reason : (answer : EditAnswer ℕ) → IsGraftAnswerIn table path other source graph root answer → (reason : Option (Reason ℕ)) → RefusedFor reason
        → IsReason answer reason
    for_reason answer known None is = tt
    for_reason answer known (Some reason) is = graft_known_once answer (Err reason) known is

    pub graft_given : (new : List Obj) (new_root : Val) (result : Result (Unit {0}) EditRefusal) → AppliedTo new new_root result
        → (answer : EditAnswer ℕ) → IsGraftAnswerIn table path other source graph root answer → Gives answer new new_root result
    graft_given new new_root (Ok unit) is answer known = graft_known_once answer (Ok (new, new_root)) known is
    graft_given new new_root (Err refusal) is answer known = for_reason answer known (reason_of refusal) is.2

  -- If a graft succeeds, then the new part is isomorphic to the copied part.
  pub graft_copied : (new : List Obj) (new_root : Val) (result : Result (Unit {0}) EditRefusal) → AppliedTo new new_root result → (p part : TypedLocation ℕ)
      → left ≡ Ok p → right ≡ Ok part → OnOk result (HasGraft (table_shapes (table_of table)) 0 p part other graph (new, new_root))
  graft_copied new new_root (Ok unit) is p part first second =
      has_graft (shape_in table) (SameClass table) 0 path other source graph root (new, new_root) is p part first second
  graft_copied new new_root (Err refusal) is p part first second = tt
