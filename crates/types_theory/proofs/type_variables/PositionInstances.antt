-- If `_` replaces no variable, then a path that leads to a value at a type leads to the same value
-- at each instance of the type.
use Rattle.std.proofs.Common.{ℕ, ◌≡◌, ◌∙◌, ◌==◌, List, [], ◌∷◌, Bool, true, false, Option, Some, None, refl, ap, subst, sym, cond}
use Rattle.std.specs.Prelude.{Contains, map, option_map, option_and_then, find}
use Rattle.std.proofs.lemmas.Bool.{false≢true}
use Rattle.std.proofs.lemmas.Option.{same_Some, none-some, option_and_then_some}
use Rattle.base_data.proofs.model.Options.{Contains-first, Contains-later}
use Rattle.base_data.specs.declared.model.value.Val.{Val}
use Rattle.base_data.specs.declared.model.value.Obj.{Obj}
use Rattle.types_spec.specs.declared.types.decl.Decl.{Decl}
use Rattle.types_spec.specs.types.Ty.{Ty, instance}
use Rattle.types_spec.specs.types.Shape.{shape}
use Rattle.types_spec.specs.types.Fitting.{or_none, fields_of, is_asked, asked_of}
use Rattle.types_spec.specs.types.Fault.{field_of, type_of_field, step, value_at}
use Rattle.types_spec.specs.types.WellFormed.{IsSoundType, AreWellFormed}
use Rattle.types_spec.specs.types.Equal.{declared_shapes}
use Rattle.types_spec.specs.types.Reached.{reached_from}
use Rattle.types_spec.proofs.types.TypeAskedLemmas.{asked_is}
use Rattle.types_spec.proofs.types.TypeFaultLemmas.{named_is_needed}
use Rattle.types_theory.proofs.equality.EqualityReachedLemmas.{named_here, needs_named}
use Rattle.types_theory.proofs.type_variables.InstanceFields.{fields_become, asked_becomes}

module _ (decls : List Decl) (well : AreWellFormed decls) (value : List ℕ → Ty) (graph : List Obj)
    (types : List Ty) (sound : (u : Ty) → Contains types u → IsSoundType decls u)
    (listed : (u a : Ty) → Contains types u → Contains (reached_from decls u) a → Contains types a)
    (stand : (x : List ℕ) → is_asked (shape decls (value x)) ≡ true) where
  abbrev new : Ty → Ty
  new t = instance value t

  abbrev new_need' : ℕ × Ty → ℕ × Ty
  new_need' n = (n.0, new n.1)

  abbrev fields_at : Val → Ty → Option (List (ℕ × Ty))
  fields_at v t = fields_of graph v (shape decls t)

  abbrev needs_at : Val → Ty → List (ℕ × Ty)
  needs_at v t = asked_of (shape decls) (or_none (fields_at v t))

  when : (test : Bool) (need : ℕ × Ty) (one other : Option (ℕ × Ty)) → one ≡ option_map new_need' other
      → cond test (Some (new_need' need)) one ≡ option_map new_need' (cond test (Some need) other)
  when true need one other same = refl
  when false need one other same = same

  found-map : (needs : List (ℕ × Ty)) (i : ℕ)
      → find (λ (need : ℕ × Ty). need.0 == i) (map new_need' needs) ≡ option_map new_need' (find (λ (need : ℕ × Ty). need.0 == i) needs)
  found-map [] i = refl
  found-map (need ∷ needs) i =
      when (need.0 == i) need (find (λ (n : ℕ × Ty). n.0 == i) (map new_need' needs)) (find (λ (n : ℕ × Ty). n.0 == i) needs)
      (found-map needs i)

  second-map : (found : Option (ℕ × Ty)) → option_map (λ (n : ℕ × Ty). n.1) (option_map new_need' found)
      ≡ option_map new (option_map (λ (n : ℕ × Ty). n.1) found)
  second-map None = refl
  second-map (Some n) = refl

  type_of_field-map : (needs : List (ℕ × Ty)) (i : ℕ) → type_of_field (map new_need' needs) i ≡ option_map new (type_of_field needs i)
  type_of_field-map needs i =
      ap (option_map (λ (n : ℕ × Ty). n.1)) (found-map needs i)
      ∙ second-map (find (λ (n : ℕ × Ty). n.0 == i) needs)

  write : (a b : Bool) (field : ℕ × Ty) (xs ys : List (ℕ × Ty)) → a ≡ b → xs ≡ map new_need' ys
      → cond a (new_need' field ∷ xs) xs ≡ map new_need' (cond b (field ∷ ys) ys)
  write true true field xs ys same are = ap (λ rest. new_need' field ∷ rest) are
  write false false field xs ys same are = are
  write true false field xs ys same are = absurd (false≢true (sym same))
  write false true field xs ys same are = absurd (false≢true same)

  -- If the types of fields are replaced by their instances, then the same fields are required.
  asked-map : (fields : List (ℕ × Ty)) → ((k : ℕ) (a : Ty) → Contains fields (k, a) → Contains types a)
      → asked_of (shape decls) (map new_need' fields) ≡ map new_need' (asked_of (shape decls) fields)
  asked-map [] within = refl
  asked-map (field ∷ fields) within =
      write (is_asked (shape decls (new field.1))) (is_asked (shape decls field.1)) field
      (asked_of (shape decls) (map new_need' fields)) (asked_of (shape decls) fields)
      (asked_becomes decls well value graph field.1 (sound field.1 (within field.0 field.1 (Contains-first field fields))) stand)
      (asked-map fields (λ k a later. within k a (Contains-later field fields (k, a) later)))

  field_listed : (v : Val) (t : Ty) (k : ℕ) (a : Ty) → Contains types t → Contains (or_none (fields_at v t)) (k, a) → Contains types a
  field_listed v t k a among has =
      named_here decls types listed t a among (needs_named (shape decls t) graph v k a has)

  -- If a type requires a field at some type, then an instance of the type requires the field at the
  -- instance of the field's type.
  field_type : (v : Val) (t : Ty) (i : ℕ) (u : Ty) → Contains types t → (fields : Option (List (ℕ × Ty))) → fields_at v t ≡ fields
      → type_of_field (asked_of (shape decls) (or_none fields)) i ≡ Some u → type_of_field (needs_at v (new t)) i ≡ Some (new u)
  field_type v t i u among None is named = absurd (none-some u named)
  field_type v t i u among (Some fields) is named =
      ap (λ (ns : Option (List (ℕ × Ty))). type_of_field (asked_of (shape decls) (or_none ns)) i)
      (fields_become decls well value graph v t (sound t among) fields is)
      ∙ ap (λ (ns : List (ℕ × Ty)). type_of_field ns i) (asked-map fields (λ k a has. field_listed v t k a among
      (subst (λ (fs : Option (List (ℕ × Ty))). Contains (or_none fs) (k, a)) (sym is) has)))
      ∙ type_of_field-map (asked_of (shape decls) fields) i ∙ ap (option_map new) named

  abbrev stepped : Val → Option Ty → Option (Val × Ty)
  stepped w found = option_map (λ (u : Ty). (w, u)) found

  some_type : (w : Val) (found : Option Ty) (next : Val × Ty) → stepped w found ≡ Some next → (found ≡ Some next.1) × (w ≡ next.0)
  some_type w None next same = absurd (none-some next same)
  some_type w (Some u) next same =
      let pair = same_Some (w, u) next same in
      (ap (λ (p : Val × Ty). Some p.1) pair, ap (λ (p : Val × Ty). p.0) pair)

  step_becomes : (v : Val) (t : Ty) (i : ℕ) (next : Val × Ty) → Contains types t
      → step (declared_shapes decls) graph v t i ≡ Some next
      → Contains types next.1 × (step (declared_shapes decls) graph v (new t) i ≡ Some (next.0, new next.1))
  step_becomes v t i next among is =
      option_and_then_some (λ w. stepped w (type_of_field (needs_at v t) i)) (field_of graph v i) next is (λ w field typed.
      let parts = some_type w (type_of_field (needs_at v t) i) next typed in
      let need = named_is_needed (needs_at v t) i next.1 parts.0 in
      let after = field_type v t i next.1 among (fields_at v t) refl parts.0 in (
        field_listed v t i next.1 among (asked_is (shape decls) (or_none (fields_at v t)) i next.1 need).0,
        ap (option_and_then (λ w. stepped w (type_of_field (needs_at v (new t)) i))) field
            ∙ ap (stepped w) after ∙ ap (λ (x : Val). Some (x, new next.1)) parts.1,
      ))

  -- Let a path lead from a type to a value at another type. From an instance of the first type, the
  -- path leads to the value at an instance of the other type.
  pub position_becomes : (path : List ℕ) (v : Val) (t : Ty) (w : Val) (u : Ty) → Contains types t
      → value_at (declared_shapes decls) graph v t path ≡ Some (w, u)
      → Contains types u × (value_at (declared_shapes decls) graph v (new t) path ≡ Some (w, new u))
  position_becomes [] v t w u among found =
      let pair = same_Some (v, t) (w, u) found in (
        subst (λ (p : Val × Ty). Contains types p.1) pair among,
        ap (λ (p : Val × Ty). Some (p.0, new p.1)) pair,
      )
  position_becomes (i ∷ path) v t w u among found =
      option_and_then_some (λ (next : Val × Ty). value_at (declared_shapes decls) graph next.0 next.1 path)
      (step (declared_shapes decls) graph v t i) (w, u) found (λ next stepped' rest.
      let after = step_becomes v t i next among stepped' in
      let end = position_becomes path next.0 next.1 w u after.0 rest in (
        end.0,
        ap (option_and_then (λ (next : Val × Ty). value_at (declared_shapes decls) graph next.0 next.1 path)) after.1 ∙ end.1,
      ))
