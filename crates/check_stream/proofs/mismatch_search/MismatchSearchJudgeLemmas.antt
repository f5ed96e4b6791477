-- The result of testing a token against a type.
use Rattle.std.proofs.Common.{ℕ, ◌≡◌, ◌∙◌, Bool, true, false, length, Option, Some, None, refl, sym, ap, subst, arith}
use Rattle.std.specs.Prelude.{ℤ, is_some, option_map}
use Rattle.base_data.specs.declared.model.code.CustomKind.{CustomKind}
use Rattle.base_data.specs.declared.model.code.CustomKind.TheVariants as customs
use Rattle.base_data.specs.declared.model.value.Obj.{Obj}
use Rattle.base_data.specs.declared.model.value.Obj.TheVariants as objects
use Rattle.types_spec.specs.declared.types.shape.ShapeOf.{ShapeOf}
use Rattle.types_spec.specs.types.Fitting.{fits_int, fits_atom, object_fields, none_if, is_bytes, is_double, has_doubles}
use Rattle.types_spec.specs.types.Table.{Table}
use Rattle.marshal_spec.specs.format.Token.{Token, integer, atom, block, leaf}
use Rattle.marshal_spec.specs.format.Tree.{made_by}
use Rattle.check_stream.specs.theory.AskedNeeds.{of_type, shape_at, shape_asks, fields_ask}
use Rattle.check_stream.proofs.theory.BlockLemmas.{fields_many}
use Rattle.check_stream.specs.mismatch_theory.PassedBut.{positions_of, IsPlain, Takes}
use Rattle.check_stream.specs.declared.checker.open_positions.BlockPositions.{BlockPositions}
use Rattle.check_stream.specs.checker.OpenPositions.{open_needs}
use Rattle.marshal_codec.specs.token.Summary.{custom_leaf}
use Rattle.marshal_codec.specs.declared.token.summary.Summary.{Summary}
use Rattle.marshal_codec.specs.declared.token.summary.Summary.TheVariants as summaries
use Rattle.check_stream.specs.declared.mismatch_search.token_judgement.TokenJudgement.{TokenJudgement}
use Rattle.check_stream.specs.declared.mismatch_search.token_judgement.TokenJudgement.TheVariants as judged
use Rattle.check_stream.specs.declared.mismatch_search.way.BlockExpectations.{BlockExpectations}
use Rattle.check_stream.specs.mismatch_search.Judge.{IsNoBack, IsApt, IsJudged, has_custom, judged_by}
use Rattle.marshal_codec.specs.token.Summary.{IsSummary}
use Rattle.check_stream.specs.mismatch_search.Find.{HasRoom}

-- The two clauses of the contract of `judge`.
abbrev pub AreJudged : Table → ℕ → Summary → TokenJudgement → Type 0
AreJudged table t summary result = IsApt summary result × ((token : Token) → IsSummary summary token → IsJudged table t token result)

apt_by : (summary : Summary) → IsNoBack summary → (fits : Bool) → IsApt summary (judged_by fits)
apt_by summary plain true = plain
apt_by summary plain false = tt

-- The result for a token without fields, by whether the token matches the type.
module _ (table : Table) (t : ℕ) where
  int_judged : (z : ℤ) (fits : Bool) → fits_int (shape_at table t) z ≡ fits → IsJudged table t (integer z) (judged_by fits)
  int_judged z true is = λ back tokens made trail. (is, refl)
  int_judged z false is = is

  atom_judged : (tag : ℕ) (fits : Bool) → fits_atom (shape_at table t) tag ≡ fits → IsJudged table t (atom tag) (judged_by fits)
  atom_judged tag true is = λ back tokens made trail. (is, refl)
  atom_judged tag false is = is

  leaf_judged : (object : Obj) (fits : Bool) → object_fields (shape_at table t) object ≡ none_if fits → IsJudged table t (leaf object) (judged_by fits)
  leaf_judged object true is = λ back tokens made trail. (ap is_some is, refl)
  leaf_judged object false is = is

  -- The clauses of `judge`, by the shape and the test result that the code computed.
  module _ (summary : Summary) (shape : ShapeOf ℕ) (fits : Bool) (result : TokenJudgement) (own : shape ≡ shape_at table t) (by : result ≡ judged_by fits) where
    judged_summary : (other : Summary) → summary ≡ other → IsNoBack other → ((token : Token) → IsSummary other token → IsJudged table t token (judged_by fits)) → AreJudged table t summary result
    judged_summary other is plain each =
        let its : AreJudged table t other (judged_by fits) = (apt_by other plain fits, each) in
        subst (λ s. AreJudged table t s result) (sym is) (subst (AreJudged table t other) (sym by) its)

    pub judged_int : (z : ℤ) → summary ≡ summaries.Integer z → fits ≡ fits_int shape z → AreJudged table t summary result
    judged_int z is test = judged_summary (summaries.Integer z) is tt
        (λ token its. subst (λ u. IsJudged table t u (judged_by fits)) (sym its) (int_judged z fits (ap (λ s. fits_int s z) (sym own) ∙ sym test)))

    pub judged_atom : (tag : ℕ) → summary ≡ summaries.Atom tag → fits ≡ fits_atom shape tag → AreJudged table t summary result
    judged_atom tag is test = judged_summary (summaries.Atom tag) is tt
        (λ token its. subst (λ u. IsJudged table t u (judged_by fits)) (sym its) (atom_judged tag fits (ap (λ s. fits_atom s tag) (sym own) ∙ sym test)))

    pub judged_bytes : (n : ℕ) → summary ≡ summaries.Bytes n → fits ≡ is_bytes shape → AreJudged table t summary result
    judged_bytes n is test = judged_summary (summaries.Bytes n) is tt
        (λ token its. subst (λ u. IsJudged table t u (judged_by fits)) (sym its.2)
        (leaf_judged (objects.Bytes its.0) fits (ap (λ s. object_fields s (objects.Bytes its.0)) (sym own) ∙ ap none_if (sym test))))

    pub judged_double : summary ≡ summaries.Double → fits ≡ is_double shape → AreJudged table t summary result
    judged_double is test = judged_summary summaries.Double is tt
        (λ token its. subst (λ u. IsJudged table t u (judged_by fits)) (sym its.1)
        (leaf_judged (objects.Double its.0) fits (ap (λ s. object_fields s (objects.Double its.0)) (sym own) ∙ ap none_if (sym test))))

    pub judged_doubles : (n : ℕ) → summary ≡ summaries.Doubles n → fits ≡ has_doubles shape n → AreJudged table t summary result
    judged_doubles n is test = judged_summary (summaries.Doubles n) is tt
        (λ token its. subst (λ u. IsJudged table t u (judged_by fits)) (sym its.2)
        (leaf_judged (objects.Doubles its.0) fits
        (ap (λ s. object_fields s (objects.Doubles its.0)) (sym own) ∙ ap (λ k. none_if (has_doubles shape k)) its.1 ∙ ap none_if (sym test))))

    custom_fields : (kind : CustomKind) (z : ℤ) → object_fields shape (custom_leaf kind z) ≡ none_if (has_custom shape kind)
    custom_fields customs.Int32 z = refl
    custom_fields customs.Int64 z = refl
    custom_fields customs.Native z = refl

    pub judged_custom : (kind : CustomKind) → summary ≡ summaries.Custom kind → fits ≡ has_custom shape kind → AreJudged table t summary result
    judged_custom kind is test = judged_summary (summaries.Custom kind) is tt
        (λ token its. subst (λ u. IsJudged table t u (judged_by fits)) (sym its.1)
        (leaf_judged (custom_leaf kind its.0) fits (ap (λ s. object_fields s (custom_leaf kind its.0)) (sym own) ∙ custom_fields kind its.0 ∙ ap none_if (sym test))))

  -- If the shape of a type has positions for a block, then the block is judged to open these
  -- positions.
  pub judged_opens : (summary : Summary) (shape : ShapeOf ℕ) (tag size : ℕ) (positions : Option BlockPositions) (open' : BlockPositions) → summary ≡ summaries.Block tag size → shape ≡ shape_at table t → option_map open_needs positions ≡ shape_asks shape t tag size → positions ≡ Some open'
      → AreJudged table t summary (judged.Opens open')
  judged_opens summary shape tag size positions open' is own asks some =
      let its : fields_ask table t tag size ≡ Some (open_needs open') = ap (λ s. shape_asks s t tag size) (sym own) ∙ sym asks ∙ ap (option_map open_needs) some in (
        (tag, size, is, fields_many table t tag size (open_needs open') its),
        λ token summary' back tokens made trail.
            subst (λ u. Takes back table (IsPlain table tokens) made trail (of_type t) u (positions_of (length made) trail 0 (open_needs open'))) (sym (subst (λ s. IsSummary s token) is summary'))
            (open_needs open', its, refl),
      )

  pub judged_misses : (summary : Summary) (shape : ShapeOf ℕ) (tag size : ℕ) (positions : Option BlockPositions) → summary ≡ summaries.Block tag size → shape ≡ shape_at table t → option_map open_needs positions ≡ shape_asks shape t tag size → positions ≡ None
      → AreJudged table t summary judged.Misses
  judged_misses summary shape tag size positions is own asks none =
      let its : fields_ask table t tag size ≡ None = ap (λ s. shape_asks s t tag size) (sym own) ∙ sym asks ∙ ap (option_map open_needs) none in (
        tt,
        λ token summary'. subst (λ u. IsJudged table t u judged.Misses) (sym (subst (λ s. IsSummary s token) is summary')) its,
      )

-- Only a block has positions.
pub room_of_block : (summary : Summary) (left : BlockExpectations) (tag size : ℕ) → summary ≡ summaries.Block tag size → HasRoom summary left
room_of_block summary left tag size is token its none =
    let same : token ≡ block tag size = subst (λ s. IsSummary s token) is its in
    let one : made_by token ≡ 1 = ap made_by same in
    absurd (omega (arith, one, none))

pub no_back_block : (summary : Summary) (tag size : ℕ) → summary ≡ summaries.Block tag size → IsNoBack summary
no_back_block summary tag size is = subst IsNoBack (sym is) tt
