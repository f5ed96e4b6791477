-- If a value has the type, then the pairs that paths reach are accepted, and their list is unique.
use Rattle.std.proofs.Common.{ℕ, ◌≡◌, ◌∙◌, ◌++◌, inl, List, [], ◌∷◌, Some, refl, ap}
use Rattle.std.specs.Prelude.{option_map, option_and_then, Contains, IsSomeAnd}
use Rattle.base_data.proofs.model.Options.{IsSomeAnd-at}
use Rattle.base_data.specs.declared.model.value.Val.{Val}
use Rattle.base_data.specs.declared.model.value.Val.TheVariants as vals
use Rattle.base_data.specs.declared.model.value.Obj.{Obj}
use Rattle.types_spec.specs.types.Shapes.{Shapes}
use Rattle.types_spec.specs.types.LawfulShapes.{AreLawful, Everything}
use Rattle.types_spec.specs.types.Typing.{field_at, IsListed, IsHeld, IsTyping, HasType}
use Rattle.types_spec.specs.types.Fault.{type_of_field, step, value_at}
use Rattle.types_spec.specs.types.Table.{Table, table_shapes}
use Rattle.types_spec.proofs.types.TypeFaultLemmas.{named_is_needed, held_by_some, position_is_held}
use Rattle.types_theory.specs.typing.Decidable.{AreDecidable}
use Rattle.types_theory.proofs.typing.TypingNeedLemmas.{needed_is_named}
use Rattle.types_theory.proofs.typing.TypingPathLemmas.{value_at-push}
use Rattle.types_theory.proofs.table.TableDecideLemmas.{tables_are_decidable}
use Rattle.cert_verify.specs.certificate.AcceptedEntry.{AreAccepted}
use Rattle.cert_verify.specs.certificate.Normal.{IsReachedBy, AreReached}
use Rattle.cert_verify.proofs.certificate.NormalLemmas.{normal_is_one}

module _ {T : Type 0} (shapes : Shapes T) (lawful : AreLawful shapes Everything) (decidable : AreDecidable shapes) (graph : List Obj) where
  pub needed_step :
      (o i : ℕ) (t a : T) (w : Val) → Contains (shapes.needs graph (vals.Ref o) t) (i, a) → field_at graph o i ≡ Some w
      → step shapes graph (vals.Ref o) t i ≡ Some (w, a)
  needed_step o i t a w need field =
      let needs = shapes.needs graph (vals.Ref o) t in
      let named = needed_is_named needs i a need in
      let is : named.0 ≡ a = decidable.once graph (vals.Ref o) t i named.0 a (named_is_needed needs i named.0 named.1) need in
      ap (λ v. option_and_then (λ x. option_map (λ b. (x, b)) (type_of_field needs i)) v) field
      ∙ ap (λ b. option_map (λ c. (w, c)) b) (named.1 ∙ ap Some is)

  module _
      (root : Val) (t : T) (has : HasType shapes graph root t) (pairs : List (ℕ × T))
      (led : (o : ℕ) (u : T) → Contains pairs (o, u) → IsReachedBy shapes graph root t o u)
      (all : (path : List ℕ) (o : ℕ) (u : T) → value_at shapes graph root t path ≡ Some (vals.Ref o, u) → IsListed shapes pairs (vals.Ref o) u) where
    abbrev some_pairs : List (ℕ × T)
    some_pairs = (held_by_some shapes Everything lawful graph root t tt has).0

    some_typing : IsTyping shapes graph some_pairs
    some_typing = (held_by_some shapes Everything lawful graph root t tt has).1

    -- If a path leads to a value, then the pairs of the typing hold that value.
    position : (path : List ℕ) (w : Val) (u : T) → value_at shapes graph root t path ≡ Some (w, u) → IsHeld shapes graph some_pairs w u
    position path w u leads =
        (position_is_held shapes Everything lawful graph some_pairs some_typing path root t w u tt (held_by_some shapes Everything lawful graph root t tt has).2 leads).1

    listed_where_led :
        (path : List ℕ) (w : Val) (u a : T) → value_at shapes graph root t path ≡ Some (w, u) → shapes.equal u a → IsListed shapes pairs w a
    listed_where_led path (vals.Int z) u a leads equal = tt
    listed_where_led path (vals.Atom tag) u a leads equal = tt
    listed_where_led path (vals.Ref o) u a leads equal =
        let there = all path o u leads in (there.0, there.1, lawful.transitive there.0 u a there.2 equal)

    own_fits : (o : ℕ) (u : T) → Contains pairs (o, u) → shapes.fits graph (vals.Ref o) u
    own_fits o u among =
        let r = led o u among in
        lawful.fits graph (vals.Ref o) r.type u (inl tt) r.same (position r.path (vals.Ref o) r.type r.leads).fits

    own_held :
        (o : ℕ) (u : T) (i : ℕ) (a : T) → Contains pairs (o, u) → Contains (shapes.needs graph (vals.Ref o) u) (i, a)
        → IsSomeAnd (field_at graph o i) (λ v. IsHeld shapes graph pairs v a)
    own_held o u i a among need =
        let r = led o u among in
        let other = lawful.needs graph (vals.Ref o) u r.type i a (inl tt) (lawful.symmetric r.type u r.same) need in
        let there = decidable.there graph (vals.Ref o) r.type i other.0 other.1 in
        let leads =
        value_at-push shapes graph r.path root t i (vals.Ref o, r.type) (there.0, other.0) r.leads
        (needed_step o i r.type other.0 there.0 other.1 there.1) in
        let back = lawful.symmetric a other.0 other.2 in
        IsSomeAnd-at (field_at graph o i) there.0 (λ v. IsHeld shapes graph pairs v a) there.1 (record {
          fits = lawful.fits graph there.0 other.0 a (inl tt) back (position (r.path ++ i ∷ []) there.0 other.0 leads).fits;
          listed = listed_where_led (r.path ++ i ∷ []) there.0 other.0 a leads back;
        })

    own_type : (o : ℕ) (u a : T) → Contains pairs (o, u) → Contains pairs (o, a) → shapes.mutable graph o u → shapes.equal u a
    own_type o u a among other mutable =
        let r = led o u among in
        let q = led o a other in
        let one = (position r.path (vals.Ref o) r.type r.leads).listed in
        let two = (position q.path (vals.Ref o) q.type q.leads).listed in
        let here = lawful.transitive one.0 r.type u one.2 r.same in
        let there = lawful.transitive two.0 q.type a two.2 q.same in
        let back = lawful.symmetric one.0 u here in
        let same = some_typing.one_type o one.0 two.0 one.1 two.1 (lawful.mutable graph o u one.0 (inl tt) back mutable) in
        lawful.transitive u one.0 a back (lawful.transitive one.0 two.0 a same there)

    pub reached_are_accepted : AreAccepted shapes graph root t pairs
    reached_are_accepted = record {
      typing = record { fits = own_fits; held = own_held; one_type = own_type };
      held = record { fits = has.fits; listed = listed_where_led [] root t t refl (lawful.reflexive t tt) };
    }

-- If two lists contain the pairs that paths reach, then each object of the first list is in the
-- second list at an equal type.
there_too :
    (table : Table) → AreLawful (table_shapes table) Everything
    → (graph : List Obj) (root : Val) (pairs others : List (ℕ × ℕ)) → AreReached table graph root pairs → AreReached table graph root others
    → (o t : ℕ) → Contains pairs (o, t) → IsListed (table_shapes table) others (vals.Ref o) t
there_too table lawful graph root pairs others one two o t among =
    let r = one.led o t among in
    let there = two.all r.path o r.type r.leads in
    (there.0, there.1, lawful.transitive there.0 r.type t there.2 r.same)

pub reached_are_one :
    (table : Table) → AreLawful (table_shapes table) Everything
    → (graph : List Obj) (root : Val) (pairs others : List (ℕ × ℕ)) → AreReached table graph root pairs → AreReached table graph root others
    → pairs ≡ others
reached_are_one table lawful graph root pairs others one two = normal_is_one table pairs others one.normal two.normal (record {
  there = there_too table lawful graph root pairs others one two;
  back = there_too table lawful graph root others pairs two one;
})

pub reached_pairs :
    (table : Table) → AreLawful (table_shapes table) Everything
    → (graph : List Obj) (root : Val) (pairs : List (ℕ × ℕ)) → HasType (table_shapes table) graph root 0 → AreReached table graph root pairs
    → AreAccepted (table_shapes table) graph root 0 pairs
reached_pairs table lawful graph root pairs has reached =
    reached_are_accepted (table_shapes table) lawful (tables_are_decidable table) graph root 0 has pairs reached.led reached.all
