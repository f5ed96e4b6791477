-- An object that has a second type because of the tokens of its fields alone.
use Rattle.std.proofs.Common.{ℕ, ◌∙◌, inl, inr, List, [], ◌++◌, Option, Some, None, sym, subst}
use Rattle.std.specs.Prelude.{slice_get, Contains, IsTrue, IsSome, IsSomeAnd, option_and_then}
use Rattle.std.proofs.lemmas.Bool.{false≢true}
use Rattle.std.proofs.lemmas.Option.{none-some}
use Rattle.base_data.proofs.model.Options.{Contains-none}
use Rattle.base_data.specs.declared.model.value.Val.{Val}
use Rattle.base_data.specs.declared.model.value.Val.TheVariants as vals
use Rattle.base_data.specs.declared.model.value.Obj.{Obj}
use Rattle.types_spec.specs.types.Fitting.{fits_int, fits_atom, object_fields, or_none}
use Rattle.types_spec.specs.types.Table.{Table, table_shapes, is_asked_in}
use Rattle.types_spec.specs.types.Typing.{values_of, field_at, IsHeld}
use Rattle.types_spec.proofs.types.TypeAskedLemmas.{need_typed}
use Rattle.marshal_spec.specs.format.Token.{Token}
use Rattle.marshal_spec.specs.format.Tree.{Tree, IsTree, tokens, objects_of}
use Rattle.check_stream.specs.theory.AskedNeeds.{shape_at}
use Rattle.check_stream.specs.theory.Noted.{IsAt}
use Rattle.check_stream.proofs.theory.Kernel.{some_if}
use Rattle.check_stream.proofs.theory.OnePassFlatLemmas.{flat_noted}
use Rattle.check_stream.proofs.theory.OnePassNotedLemmas.{stands_more}
use Rattle.check_stream.specs.mismatch_theory.PassedBut.{IsPlain}

-- If more tokens follow, then an object keeps its second type.
pub plain_more : (table : Table) (ts us : List Token) (o t : ℕ) → IsPlain table ts o t → IsPlain table (ts ++ us) o t
plain_more table ts us o t plain = record {
  tag = plain.tag;
  flat = plain.flat;
  next = plain.next;
  stands = stands_more 0 ts us o plain.tag plain.flat plain.stands;
  asked = plain.asked;
  at = plain.at;
  fixed = plain.fixed;
  first_fixed = plain.first_fixed;
}

module _ (table : Table) where
  -- The value satisfies the requirement of the type, and the value is no reference.
  abbrev pub FitsAlone : Val → ℕ → Type 0
  FitsAlone (vals.Int z) t = IsTrue (fits_int (shape_at table t) z)
  FitsAlone (vals.Atom tag) t = IsTrue (fits_atom (shape_at table t) tag)
  FitsAlone (vals.Ref o) t = ⊥

  pub held_alone : (graph : List Obj) (pairs : List (ℕ × ℕ)) (v : Val) (t : ℕ) → FitsAlone v t → IsHeld (table_shapes table) graph pairs v t
  held_alone graph pairs (vals.Int z) t fits = record { fits = some_if (fits_int (shape_at table t) z) fits; listed = tt }
  held_alone graph pairs (vals.Atom tag) t fits = record { fits = some_if (fits_atom (shape_at table t) tag) fits; listed = tt }
  held_alone graph pairs (vals.Ref o) t fits = absurd fits

  -- If a value satisfies the requirement of a type without the types of objects, and the type is no
  -- wildcard, then the value is no reference.
  at_alone : (v : Val) (t : ℕ) → IsTrue (is_asked_in table t) → IsAt table [] [] v t → FitsAlone v t
  at_alone (vals.Int z) t asked at = at
  at_alone (vals.Atom tag) t asked at = at
  at_alone (vals.Ref o) t asked (inl wildcard) = false≢true (sym wildcard ∙ asked)
  at_alone (vals.Ref o) t asked (inr (u, inl first, equal)) = none-some u first
  at_alone (vals.Ref o) t asked (inr (u, inr second, equal)) = Contains-none {X = ℕ × ℕ} (o, u) second

  some_alone : (v : Option Val) (t : ℕ) → IsTrue (is_asked_in table t) → IsSomeAnd v (λ v. IsAt table [] [] v t) → IsSomeAnd v (λ v. FitsAlone v t)
  some_alone None t asked h = h
  some_alone (Some v) t asked h = at_alone v t asked h

  -- An object matches the type, and each field satisfies its requirement without the types of other
  -- objects.
  pub record IsAlone (graph : List Obj) (o t : ℕ) : Type 0 where
    pub fits : (table_shapes table).fits graph (vals.Ref o) t
    pub fields : (i a : ℕ) → Contains ((table_shapes table).needs graph (vals.Ref o) t) (i, a) → IsSomeAnd (field_at graph o i) (λ v. FitsAlone v a)

  pub plain_alone : (tree : Tree) (o t : ℕ) → IsTree tree → IsPlain table (tokens tree) o t → IsAlone (objects_of tree 0) o t
  plain_alone tree o t is n =
      let graph = objects_of tree 0 in
      let good = flat_noted table [] [] tree o t n.tag n.flat n.next is n.stands n.asked n.at in
      record {
        fits = subst (λ x. IsSome (option_and_then (object_fields (shape_at table t)) x)) (sym good.1) good.2.fits;
        fields = λ i a needed.
            let typed = need_typed table graph (vals.Ref o) t i a needed in
            let typed' = subst (λ x. Contains (or_none (option_and_then (object_fields (shape_at table t)) x)) (i, a)) good.1 typed.0 in
            subst (λ x. IsSomeAnd (option_and_then (λ object. slice_get (values_of object) i) x) (λ v. FitsAlone v a)) (sym good.1)
            (some_alone (slice_get (values_of good.0) i) a typed.1 (good.2.held i a typed' typed.1));
      }
