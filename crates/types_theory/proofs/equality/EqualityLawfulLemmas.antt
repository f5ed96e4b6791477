-- If one of two equal types is among the types that a type reaches, then the two equal types have
-- the same meaning.
use Rattle.std.proofs.Common.{ℕ, ◌≡◌, ◌⊎◌, inl, inr, List}
use Rattle.std.proofs.Common.{subst, sym}
use Rattle.std.specs.Prelude.{Contains, IsSome, IsTrue, slice_get}
use Rattle.base_data.specs.declared.model.value.Val.{Val}
use Rattle.base_data.specs.declared.model.value.Val.TheVariants as vals
use Rattle.base_data.specs.declared.model.value.Obj.{Obj}
use Rattle.types_spec.specs.declared.types.decl.Decl.{Decl}
use Rattle.types_spec.specs.types.Ty.{Ty}
use Rattle.types_spec.specs.types.Head.{head}
use Rattle.types_spec.specs.types.Shape.{shape}
use Rattle.types_spec.specs.types.Fitting.{fields_of, is_mutable, or_none, is_asked, asked_of}
use Rattle.types_spec.proofs.types.TypeAskedLemmas.{asked_is, is_needed}
use Rattle.types_spec.specs.types.WellFormed.{AreSound, AreKnownByHash}
use Rattle.types_spec.specs.types.Equal.{Equal, declared_shapes}
use Rattle.types_spec.specs.types.Reached.{reached_from, IsReached}
use Rattle.types_spec.specs.types.LawfulShapes.{AreLawful}
use Rattle.types_theory.proofs.equality.SimilarClosure.{similar_is_equal}
use Rattle.types_theory.proofs.equality.SimilarLemmas.{Similar}
use Rattle.types_theory.proofs.equality.EqualLemmas.{equal_itself, equal_turned, equal_joined}
use Rattle.types_theory.proofs.equality.HeadShapes.{pair_shapes}
use Rattle.types_theory.proofs.equality.EqualityNeedLemmas.{similar_heads}
use Rattle.types_theory.proofs.equality.RankedLemmas.{are_ranked}
use Rattle.types_theory.proofs.equality.EqualityReachedLemmas.{parts_here, named_here, reached_listed, needs_named}
use Rattle.types_theory.proofs.equality.NeedAgreement.{FieldsAgree, both_some, both_some_back, need_matched}
use Rattle.types_theory.proofs.equality.NeedAgreement.{turned_fields}
use Rattle.types_theory.proofs.equality.ShapeAgreement.{ShapesAgree, fields_agree, mutable_agrees, asked_same}
use Rattle.types_theory.proofs.equality.TyEquality.{types_same_or_not}

-- ---- reached types

module _ (decls : List Decl) (sound : AreSound decls) (types : List Ty)
    (listed : (u a : Ty) → Contains types u → Contains (reached_from decls u) a → Contains types a)
    (known : AreKnownByHash decls types) where
  abbrev Same : Ty → Ty → Type 0
  Same = Equal decls

  -- If two types are equivalent and the second type is reached, then the two types are equal.
  similar_equal : (t u : Ty) (equal : Same t u) (a b : Ty) → Contains types b → Similar equal.pairs a b
      → Same a b
  similar_equal t u equal a b among similar =
      similar_is_equal types_same_or_not equal.pairs (head decls)
      (similar_heads decls sound.rank (are_ranked decls sound) equal.pairs equal.closed)
      types (parts_here decls types listed) a b among similar

  shapes_agree : (t u : Ty) (equal : Same t u) → Contains types u → ShapesAgree (Similar equal.pairs)
      (shape decls t) (shape decls u)
  shapes_agree t u equal among =
      pair_shapes decls sound equal.pairs equal.closed t u equal.holds
      (λ tags is. known u tags among is)

  agree_at : (t u : Ty) (equal : Same t u) → Contains types u → (graph : List Obj) (v : Val)
      → FieldsAgree (Similar equal.pairs) (fields_of graph v (shape decls t))
      (fields_of graph v (shape decls u))
  agree_at t u equal among graph v =
      fields_agree (Similar equal.pairs) (shapes_agree t u equal among) graph v

  abbrev Fits : List Obj → Val → Ty → Type 0
  Fits graph v t = IsSome (fields_of graph v (shape decls t))

  abbrev fields_at : List Obj → Val → Ty → List (ℕ × Ty)
  fields_at graph v t = or_none (fields_of graph v (shape decls t))

  abbrev needs_at : List Obj → Val → Ty → List (ℕ × Ty)
  needs_at graph v t = asked_of (shape decls) (fields_at graph v t)

  turned : (t u : Ty) → Same t u → Same u t
  turned t u equal = equal_turned (head decls) t u equal

  fit : (graph : List Obj) (v : Val) (t u : Ty) → Contains types t ⊎ Contains types u → Same t u
      → Fits graph v t → Fits graph v u
  fit graph v t u (inr among) equal fits =
      both_some (Similar equal.pairs) (fields_of graph v (shape decls t))
      (fields_of graph v (shape decls u)) (agree_at t u equal among graph v) fits
  fit graph v t u (inl among) equal fits =
      let back = turned t u equal in
      both_some_back (Similar back.pairs) (fields_of graph v (shape decls u))
      (fields_of graph v (shape decls t)) (agree_at u t back among graph v) fits

  -- If two types are equal, then `is_asked` is the same for their shapes.
  asked_similar : (t u : Ty) → Contains types t ⊎ Contains types u → Same t u
      → is_asked (shape decls t) ≡ is_asked (shape decls u)
  asked_similar t u (inr among) equal =
      asked_same (Similar equal.pairs) (shapes_agree t u equal among)
  asked_similar t u (inl among) equal =
      let back = turned t u equal in
      sym (asked_same (Similar back.pairs) (shapes_agree u t back among))

  field : (graph : List Obj) (v : Val) (t u : Ty) (i : ℕ) (a : Ty) → Contains types t
      ⊎ Contains types u → Same t u → Contains (fields_at graph v t) (i, a) → (b : Ty)
      × Contains (fields_at graph v u) (i, b) × Same a b × (Contains types a ⊎ Contains types b)
  field graph v t u i a (inr among) equal has =
      let found = need_matched (Similar equal.pairs) (fields_of graph v (shape decls t))
      (fields_of graph v (shape decls u)) (agree_at t u equal among graph v) i a has in
      let listed = named_here decls types listed u found.0 among
      (needs_named (shape decls u) graph v i found.0 found.1) in
      (found.0, found.1, similar_equal t u equal a found.0 listed found.2, inr listed)
  field graph v t u i a (inl among) equal has =
      let back = turned t u equal in
      let agree = turned_fields (Similar back.pairs) (fields_of graph v (shape decls u))
      (fields_of graph v (shape decls t)) (agree_at u t back among graph v) in
      let found = need_matched (λ x y. Similar back.pairs y x) (fields_of graph v (shape decls t))
      (fields_of graph v (shape decls u)) agree i a has in
      let listed = named_here decls types listed t a among
      (needs_named (shape decls t) graph v i a has) in
      (found.0, found.1, turned found.0 a (similar_equal u t back found.0 a listed found.2), inl listed)

  need : (graph : List Obj) (v : Val) (t u : Ty) (i : ℕ) (a : Ty) → Contains types t
      ⊎ Contains types u → Same t u → Contains (needs_at graph v t) (i, a) → (b : Ty)
      × Contains (needs_at graph v u) (i, b) × Same a b
  need graph v t u i a among equal has =
      let is = asked_is (shape decls) (fields_at graph v t) i a has in
      let found = field graph v t u i a among equal is.0 in
      let asked = subst IsTrue (asked_similar a found.0 found.3 found.2) is.1 in
      (found.0, is_needed (shape decls) (fields_at graph v u) i found.0 found.1 asked, found.2)

  abbrev Mutable : List Obj → ℕ → Ty → Type 0
  Mutable graph o t =
      Fits graph (vals.Ref o) t × IsTrue (is_mutable (shape decls t) (slice_get graph o))

  mutable_same : (graph : List Obj) (o : ℕ) (t u : Ty) → Contains types t ⊎ Contains types u
      → Same t u → is_mutable (shape decls t) (slice_get graph o) ≡ is_mutable (shape decls u)
      (slice_get graph o)
  mutable_same graph o t u (inr among) equal =
      mutable_agrees (Similar equal.pairs) (shapes_agree t u equal among) (slice_get graph o)
  mutable_same graph o t u (inl among) equal =
      let back = turned t u equal in
      sym (mutable_agrees (Similar back.pairs) (shapes_agree u t back among) (slice_get graph o))

  change : (graph : List Obj) (o : ℕ) (t u : Ty) → Contains types t ⊎ Contains types u → Same t u
      → Mutable graph o t → Mutable graph o u
  change graph o t u among equal mutable = (
    fit graph (vals.Ref o) t u among equal mutable.0,
    subst IsTrue
        (mutable_same graph o t u among equal) mutable.1,
  )

  -- If the types of a list reach only types of the list, then the shapes of declared types are
  -- lawful at the types of the list.
  pub listed_lawful : AreLawful (declared_shapes decls) (λ u. Contains types u)
  listed_lawful = record {
    reflexive = λ t among. equal_itself (head decls) types (parts_here decls types listed) t
        among;
    symmetric = λ t u equal. turned t u equal;
    transitive = λ t u w first second. equal_joined (head decls) types_same_or_not t u w first
        second;
    closed = λ graph v t i a among has. named_here decls types listed t a among
        (needs_named (shape decls t) graph v i a
        (asked_is (shape decls) (fields_at graph v t) i a has).0);
    fits = fit;
    needs = need;
    mutable = change;
  }

-- The shapes of declared types are lawful at the types that a type reaches.
pub reached_lawful :
    (decls : List Decl) → AreSound decls → (root : Ty) (types : List Ty) → IsReached decls root types
    → AreKnownByHash decls types → AreLawful (declared_shapes decls) (λ u. Contains types u)
reached_lawful decls sound root types reached known =
    listed_lawful decls sound types (reached_listed decls root types reached) known
