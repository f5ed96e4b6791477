-- The pairs that paths reach are one list for all tables of a type.
use Rattle.std.proofs.Common.{ℕ, ◌≡◌, ◌∙◌, List, Option, Some, None, refl, sym, ap, ap₂, subst}
use Rattle.std.specs.Prelude.{slice_get, Contains}
use Rattle.base_data.specs.declared.model.value.Val.{Val}
use Rattle.base_data.specs.declared.model.value.Val.TheVariants as vals
use Rattle.base_data.specs.declared.model.value.Obj.{Obj}
use Rattle.types_spec.specs.declared.types.decl.Decl.{Decl}
use Rattle.types_spec.specs.types.Ty.{Ty}
use Rattle.types_spec.specs.types.Equal.{declared_shapes}
use Rattle.types_spec.specs.types.Fault.{value_at}
use Rattle.types_spec.specs.types.Table.{Table, table_shapes, IsTableOf}
use Rattle.types_spec.specs.types.Typing.{IsListed}
use Rattle.types_theory.proofs.equality.SimulationLemmas.{SamePosition, position_same}
use Rattle.types_theory.proofs.equality.EqualityTableLemmas.{table_says}
use Rattle.cert_verify.specs.certificate.Normal.{AreNormal, AreReached}
use Rattle.cert_verify.proofs.certificate.NormalLemmas.{normal_is_one}
use Rattle.cert_verify.specs.table_independence.ReachedTypes.{AreReachedAt}
use Rattle.cert_verify.proofs.table_independence.OneListLemmas.{one_position, one_list}
use Rattle.cert_verify.proofs.table_independence.VerifierTableLemmas.{first_is, equal_too}

module _ (decls : List Decl) (types : List Ty) (table other : Table)
    (made : IsTableOf decls types table) (again : IsTableOf decls types other)
    (apart : (i j : ℕ) (u : Ty) → slice_get types i ≡ Some u → slice_get types j ≡ Some u → i ≡ j)
    (graph : List Obj) (t : Ty) (of : slice_get types 0 ≡ Some t) (root : Val) where
  abbrev Of : ℕ → Ty → Type 0
  Of i u = slice_get types i ≡ Some u

  abbrev At : Table → List ℕ → Option (Val × ℕ)
  At by path = value_at (table_shapes by) graph root 0 path

  -- A path leads to one value and type, for each of two tables.
  one_at :
      (x y : Option (Val × ℕ)) (z : Option (Val × Ty))
      → SamePosition (table_shapes table) (declared_shapes decls) Of graph x z
      → SamePosition (table_shapes other) (declared_shapes decls) Of graph y z → x ≡ y
  one_at None None None h k = refl
  one_at (Some x) y None h k = absurd h
  one_at None (Some y) None h k = absurd k
  one_at None y (Some z) h k = absurd h
  one_at (Some x) None (Some z) h k = absurd k
  one_at (Some x) (Some y) (Some z) h k =
      ap Some (ap₂ (λ (w : Val) (i : ℕ). (w, i)) (h.0 ∙ sym k.0) (apart x.1 y.1 z.1 h.1 k.1))

  same_at : (path : List ℕ) → At table path ≡ At other path
  same_at path =
      one_at (At table path) (At other path) (value_at (declared_shapes decls) graph root t path)
      (position_same (table_shapes table) (declared_shapes decls) Of graph
      (table_says decls types table made graph) path root 0 t of)
      (position_same (table_shapes other) (declared_shapes decls) Of graph
      (table_says decls types other again graph) path root 0 t of)

  forth : (i j : ℕ) → (table_shapes table).equal i j → (table_shapes other).equal i j
  forth = equal_too decls types table other made again apart graph

  back : (i j : ℕ) → (table_shapes other).equal i j → (table_shapes table).equal i j
  back = equal_too decls types other table again made apart graph

  -- If pairs are in the order of a certificate entry for one table, then they are in that order for
  -- the other table.
  normal_too : (pairs : List (ℕ × ℕ)) → AreNormal other pairs → AreNormal table pairs
  normal_too pairs h = record {
    increasing = h.increasing;
    least = λ o t among u less same. h.least o t among u less (forth u t same);
  }

  pub reached_one :
      (pairs others : List (ℕ × ℕ)) → AreReached table graph root pairs
      → AreReached other graph root others → pairs ≡ others
  reached_one pairs others h k =
      normal_is_one table pairs others h.normal (normal_too others k.normal)
      (record { there = there; back = behind }) where
        there : (o t : ℕ) → Contains pairs (o, t)
            → IsListed (table_shapes table) others (vals.Ref o) t
        there o t among =
            let led = h.led o t among in
            let found = k.all led.path o led.type (sym (same_at led.path) ∙ led.leads) in
            (found.0, found.1, back found.0 led.type found.2 ∙ led.same)

        behind : (o t : ℕ) → Contains others (o, t)
            → IsListed (table_shapes table) pairs (vals.Ref o) t
        behind o t among =
            let led = k.led o t among in
            let found = h.all led.path o led.type (same_at led.path ∙ led.leads) in
            (found.0, found.1, found.2 ∙ back led.type t led.same)

pub reached_same :
    (decls : List Decl) (t : Ty) (graph : List Obj) (root : Val) (pairs others : List (ℕ × ℕ))
    → AreReachedAt decls t graph root pairs → AreReachedAt decls t graph root others
    → pairs ≡ others
reached_same decls t graph root pairs others is its =
    let same = one_list decls t its.types is.types its.reached is.reached in
    let made : IsTableOf decls is.types its.table =
    subst (λ types. IsTableOf decls types its.table) same its.made in
    reached_one decls is.types is.table its.table is.made made
    (one_position decls t is.types is.reached) graph t (first_is decls t is.types is.reached) root
    pairs others is.are its.are
