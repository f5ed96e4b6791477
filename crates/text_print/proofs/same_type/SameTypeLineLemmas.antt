-- Transports the line of the first fault along the pairs of objects of an isomorphism.
use Rattle.std.proofs.Common.{ℕ, ◌≡◌, ◌∙◌, List, ◌++◌, Some, refl, sym, ap}
use Rattle.std.specs.Prelude.{codes, decimal}
use Rattle.base_data.specs.declared.model.value.Val.{Val}
use Rattle.base_data.specs.declared.model.value.Val.TheVariants as vals
use Rattle.base_data.specs.declared.model.value.Obj.{Obj}
use Rattle.base_data.specs.declared.model.value.Obj.TheVariants as objects
use Rattle.base_data.specs.model.PathText.{path_text}
use Rattle.base_data.proofs.model.Lists.{AllZip-length}
use Rattle.marshal_spec.specs.format.Isomorphism.{Agree, AgreeObjects, IsPairing, Isomorphism}
use Rattle.marshal_spec.proofs.canonical.IsomorphismLemmas.{objects_of_pair}
use Rattle.types_spec.specs.declared.types.shape.ShapeOf.{ShapeOf}
use Rattle.types_spec.specs.declared.types.fault.Fault.{Fault}
use Rattle.types_spec.specs.declared.types.fault.Fault.TheVariants.{Mismatch, Conflict}
use Rattle.types_spec.specs.types.Fitting.{shaped}
use Rattle.types_spec.specs.types.VerdictText.{object_text, kind_text, IsFaultText, IsNoLine}
use Rattle.text_print.proofs.same_type.KeptLemmas.{position_of_other, least_fault_is_kept}

-- ---- kinds

agree_text :
    (pairs : List (ℕ × ℕ)) (a b : Obj) → AgreeObjects pairs a b
    → object_text (Some a) ≡ object_text (Some b)
agree_text pairs (objects.Block tag values) (objects.Block tag' values') agree =
    ap (λ n. object_text (Some (objects.Block n values))) agree.0
    ∙ ap (λ n. codes "block " ++ decimal tag' ++ codes " of " ++ decimal n)
    (AllZip-length (Agree pairs) values values' agree.1)
agree_text pairs (objects.Block tag values) b agree = absurd agree
agree_text pairs (objects.Bytes bytes) b agree = ap (λ o. object_text (Some o)) agree
agree_text pairs (objects.Double bits) b agree = ap (λ o. object_text (Some o)) agree
agree_text pairs (objects.Doubles all) b agree = ap (λ o. object_text (Some o)) agree
agree_text pairs (objects.I32 z) b agree = ap (λ o. object_text (Some o)) agree
agree_text pairs (objects.I64 z) b agree = ap (λ o. object_text (Some o)) agree
agree_text pairs (objects.Native z) b agree = ap (λ o. object_text (Some o)) agree

module _ (g h : List Obj) (pairs : List (ℕ × ℕ)) (pairing : IsPairing g h pairs) where
  kind_kept : (v w : Val) → Agree pairs v w → kind_text g v ≡ kind_text h w
  kind_kept (vals.Int x) (vals.Int y) agree = ap (λ z. kind_text h (vals.Int z)) agree
  kind_kept (vals.Atom x) (vals.Atom y) agree = ap (λ tag. kind_text h (vals.Atom tag)) agree
  kind_kept (vals.Ref k) (vals.Ref l) agree =
      let o = objects_of_pair g h pairs k l pairing agree in
      ap object_text o.left_is ∙ agree_text pairs o.left o.right o.agree
      ∙ sym (ap object_text o.right_is)
  kind_kept (vals.Int x) (vals.Atom y) agree = absurd agree
  kind_kept (vals.Int x) (vals.Ref l) agree = absurd agree
  kind_kept (vals.Atom x) (vals.Int y) agree = absurd agree
  kind_kept (vals.Atom x) (vals.Ref l) agree = absurd agree
  kind_kept (vals.Ref k) (vals.Int y) agree = absurd agree
  kind_kept (vals.Ref k) (vals.Atom y) agree = absurd agree

  -- A value has at most one counterpart.
  agree_once : (v w x : Val) → Agree pairs v w → Agree pairs v x → w ≡ x
  agree_once (vals.Int a) (vals.Int b) (vals.Int c) one other =
      ap (λ z. vals.Int z) (sym one ∙ other)
  agree_once (vals.Atom a) (vals.Atom b) (vals.Atom c) one other =
      ap (λ tag. vals.Atom tag) (sym one ∙ other)
  agree_once (vals.Ref k) (vals.Ref l) (vals.Ref m) one other =
      ap (λ n. vals.Ref n) ((pairing.one_to_one k l k m one other).0 refl)
  agree_once (vals.Int a) (vals.Atom b) x one other = absurd one
  agree_once (vals.Int a) (vals.Ref b) x one other = absurd one
  agree_once (vals.Atom a) (vals.Int b) x one other = absurd one
  agree_once (vals.Atom a) (vals.Ref b) x one other = absurd one
  agree_once (vals.Ref a) (vals.Int b) x one other = absurd one
  agree_once (vals.Ref a) (vals.Atom b) x one other = absurd one
  agree_once (vals.Int a) (vals.Int b) (vals.Atom c) one other = absurd other
  agree_once (vals.Int a) (vals.Int b) (vals.Ref c) one other = absurd other
  agree_once (vals.Atom a) (vals.Atom b) (vals.Int c) one other = absurd other
  agree_once (vals.Atom a) (vals.Atom b) (vals.Ref c) one other = absurd other
  agree_once (vals.Ref a) (vals.Ref b) (vals.Int c) one other = absurd other
  agree_once (vals.Ref a) (vals.Ref b) (vals.Atom c) one other = absurd other

-- ---- the line

module _ {T : Type 0} (shape : T → ShapeOf T) (Equal : T → T → Type 0) (text_of : T → List ℕ) where
  fault_text_kept :
      (g h : List Obj) (pairs : List (ℕ × ℕ)) → IsPairing g h pairs → (v w : Val) (t : T)
      (fault : Fault) (text : List ℕ) → Agree pairs v w
      → IsFaultText (shaped shape Equal) text_of g v t fault text
      → IsFaultText (shaped shape Equal) text_of h w t fault text
  fault_text_kept g h pairs pairing v w t (Mismatch path) text agree (x, u, at, is) =
      let o = position_of_other shape Equal g h pairs pairing path v w t x u agree at in (
        o.value,
        u,
        o.is,
        is
            ∙ ap (λ kind. path_text path ++ codes ": expected " ++ text_of u ++ codes ", found " ++ kind)
            (kind_kept g h pairs pairing x o.value o.agree),
      )
  fault_text_kept g h pairs pairing v w t (Conflict first second) text agree (x, one, other, at, at', is) =
      let a = position_of_other shape Equal g h pairs pairing first v w t x one agree at in
      let b = position_of_other shape Equal g h pairs pairing second v w t x other agree at' in
      let same = agree_once g h pairs pairing x b.value a.value b.agree a.agree in
      (a.value, one, other, a.is, b.is ∙ ap (λ value. Some (value, other)) same, is)

  pub line_is_kept :
      (g h : List Obj) (v w : Val) (t : T) (line : List ℕ) → Isomorphism g v h w
      → IsNoLine (shaped shape Equal) text_of g v t line
      → IsNoLine (shaped shape Equal) text_of h w t line
  line_is_kept g h v w t line (pairs, pairing, agree) n = record {
    fault = n.fault;
    text = n.text;
    least = least_fault_is_kept shape Equal g h v w t n.fault (pairs, pairing, agree) n.least;
    is_text = fault_text_kept g h pairs pairing v w t n.fault n.text agree n.is_text;
    encoded = n.encoded;
  }
