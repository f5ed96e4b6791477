-- Blank objects are filled one field after the other.
use Rattle.std.proofs.Common.{ℕ, ◌+◌, ◌-◌, ◌<◌, ◌≤◌, ◌≡◌, ◌∙◌, List, [], ◌∷◌, ◌++◌, length, get_or, set, take, drop, replicate, Some, refl, sym, ap, ap₂, subst, arith, append_assoc, add-one}
use Rattle.std.specs.Prelude.{map, pos, slice_get}
use Rattle.std.proofs.lemmas.List.{map_more, set_at, set-set, set-get_or, get_or-set_same, length-map, length-take-le, length-append, length-replicate, get_or_at}
use Rattle.std.proofs.Math.Seq.{drop-cons}
use Rattle.std.proofs.lemmas.Option.{slice_get-get_or, get_or_from_slice_get}
use Rattle.base_data.specs.declared.model.value.Val.{Val}
use Rattle.base_data.specs.declared.model.value.Val.TheVariants as vals
use Rattle.base_data.specs.declared.model.value.Obj.{Obj}
use Rattle.base_data.specs.declared.model.value.Obj.TheVariants as objects
use Rattle.base_data.specs.model.Graph.{IsValue}
use Rattle.marshal_heap.specs.declared.heap.kind.Kind.{Kind}
use Rattle.marshal_heap.specs.declared.heap.kind.Kind.TheVariants as kinds
use Rattle.marshal_heap.specs.heap.Heap.{object_at, fields_of, with_field, set_field, kind_of}
use Rattle.marshal_heap.proofs.heap.HeapWriteLemmas.{fill_next}
use Rattle.marshal_write.specs.graft.Renamed.{blank, blanks, renamed_value, renamed_object, renamed, IsMet}

abbrev zero_field : Val
zero_field = vals.Int (pos 0)

abbrev no_object : Obj
no_object = objects.I32 (pos 0)

module _ (base : ℕ) (marks : List ℕ) where
  -- ---- one object

  -- The object with its first `i` fields filled.
  abbrev pub partly : ℕ → Obj → Obj
  partly i (objects.Block tag values) =
      objects.Block tag (map (renamed_value base marks) (take i values) ++ replicate (length values - i) zero_field)
  partly i object = object

  pub partly_none : (object : Obj) → partly 0 object ≡ blank object
  partly_none (objects.Block tag values) =
      let all : length values - 0 ≡ length values = omega arith in
      ap (λ n. objects.Block tag (replicate n zero_field)) all
  partly_none (objects.Bytes bytes) = refl
  partly_none (objects.Double bits) = refl
  partly_none (objects.Doubles all) = refl
  partly_none (objects.I32 z) = refl
  partly_none (objects.I64 z) = refl
  partly_none (objects.Native z) = refl

  pub partly_fields : (object : Obj) (i : ℕ) → i ≤ length (fields_of object) → length (fields_of (partly i object)) ≡ length (fields_of object)
  partly_fields (objects.Block tag values) i within =
      let done : List Val = map (renamed_value base marks) (take i values) in
      let many : length done ≡ i = length-map (take i values) (renamed_value base marks) ∙ length-take-le i values within in
      simp (length-append, length-map, length-replicate, length-take-le i values within) (omega (arith, within))
  partly_fields (objects.Bytes bytes) i within = refl
  partly_fields (objects.Double bits) i within = refl
  partly_fields (objects.Doubles bits) i within = refl
  partly_fields (objects.I32 z) i within = refl
  partly_fields (objects.I64 z) i within = refl
  partly_fields (objects.Native z) i within = refl

  partly_more : (object : Obj) (i : ℕ) → i < length (fields_of object)
      → with_field (partly i object) i (renamed_value base marks (get_or (fields_of object) i zero_field)) ≡ partly (i + 1) object
  partly_more (objects.Block tag values) i inside =
      let done : List Val = map (renamed_value base marks) (take i values) in
      let here : i ≡ length done = sym (length-map (take i values) (renamed_value base marks) ∙ length-take-le i values (omega (arith, inside))) in
      let left : length values - i ≡ length values - (i + 1) + 1 = omega (arith, inside) in
      ap (objects.Block tag)
      (fill_next done i (length values - (i + 1)) (length values - i) zero_field (renamed_value base marks (get_or values i zero_field)) here left
      ∙ ap (λ vs. vs ++ replicate (length values - (i + 1)) zero_field) (sym (map_more (renamed_value base marks) values i zero_field inside)))
  partly_more (objects.Bytes bytes) i inside = absurd (omega (arith, inside))
  partly_more (objects.Double bits) i inside = absurd (omega (arith, inside))
  partly_more (objects.Doubles bits) i inside = absurd (omega (arith, inside))
  partly_more (objects.I32 z) i inside = absurd (omega (arith, inside))
  partly_more (objects.I64 z) i inside = absurd (omega (arith, inside))
  partly_more (objects.Native z) i inside = absurd (omega (arith, inside))

  -- The steps of filling one object, within a graph.
  module _ (graph : List Obj) (o : ℕ) (object : Obj) where
    pub fill_none : slice_get graph o ≡ Some (blank object) → graph ≡ set graph o (partly 0 object)
    fill_none is =
        sym (ap (set graph o) (partly_none object ∙ sym (get_or_from_slice_get graph o (blank object) no_object is)) ∙ set-get_or graph o no_object)

    pub fill_more : (i : ℕ) → o < length graph → i < length (fields_of object)
        → set_field (set graph o (partly i object)) o i (renamed_value base marks (get_or (fields_of object) i zero_field)) ≡ set graph o (partly (i + 1) object)
    fill_more i there inside =
        let v = renamed_value base marks (get_or (fields_of object) i zero_field) in
        ap (λ x. set (set graph o (partly i object)) o (with_field x i v)) (get_or-set_same graph o (partly i object) no_object there)
        ∙ set-set graph o (partly i object) (with_field (partly i object) i v)
        ∙ ap (set graph o) (partly_more object i inside)

    pub fields_there : (i : ℕ) → o < length graph → i ≤ length (fields_of object)
        → length (fields_of (object_at (set graph o (partly i object)) o)) ≡ length (fields_of object)
    fields_there i there within =
        ap (λ x. length (fields_of x)) (get_or-set_same graph o (partly i object) no_object there) ∙ partly_fields object i within

    -- An object without fields needs no filling.
    pub fill_nothing : (kind : Kind) → kind ≡ kind_of object → ((tag size : ℕ) → kind ≡ kinds.Block tag size → ⊥) → slice_get graph o ≡ Some (blank object)
        → graph ≡ set graph o (renamed_object base marks object)
    fill_nothing kind is none at =
        fill_none at ∙ ap (set graph o) (whole object kind is none) where
          whole : (object : Obj) (kind : Kind) → kind ≡ kind_of object → ((tag size : ℕ) → kind ≡ kinds.Block tag size → ⊥) → partly 0 object ≡ renamed_object base marks object
          whole (objects.Block tag values) kind is none = absurd (none tag (length values) is)
          whole (objects.Bytes bytes) kind is none = refl
          whole (objects.Double bits) kind is none = refl
          whole (objects.Doubles bits) kind is none = refl
          whole (objects.I32 z) kind is none = refl
          whole (objects.I64 z) kind is none = refl
          whole (objects.Native z) kind is none = refl

  -- ---- values

  pub met_more : (v : Val) (end further : ℕ) → end ≤ further → IsMet marks base end v → IsMet marks base further v
  met_more (vals.Int z) end further more met = tt
  met_more (vals.Atom tag) end further more met = tt
  met_more (vals.Ref k) end further more met = (met.0, met.1, let last = met.2 in omega (arith, last, more))

  pub renamed_valid : (v : Val) (n m : ℕ) → IsValue m v → IsMet marks base n v → IsValue n (renamed_value base marks v)
  renamed_valid (vals.Int z) n m is met = is
  renamed_valid (vals.Atom tag) n m is met = is
  renamed_valid (vals.Ref k) n m is met = let some = met.1 in let last = met.2 in omega (arith, some, last)

  -- ---- all objects

  module _ (graph prefix : List Obj) (ks : List ℕ) where
    -- The graph after the first `j` objects are filled.
    abbrev pub filled : ℕ → List Obj
    filled j = prefix ++ (renamed base marks graph (take j ks) ++ blanks graph (drop j ks))

    module _ (j : ℕ) (inside : j < length ks) (many : length prefix ≡ base) where
      abbrev own : Obj
      own = object_at graph (get_or ks j 0)

      abbrev done : List Obj
      done = renamed base marks graph (take j ks)

      abbrev rest : List Obj
      rest = blanks graph (drop (j + 1) ks)

      here : length (prefix ++ done) ≡ base + j
      here = length-append prefix done ∙ ap₂ ◌+◌ many (length-map (take j ks) (λ k. renamed_object base marks (object_at graph k)) ∙ length-take-le j ks (omega (arith, inside)))

      split : filled j ≡ (prefix ++ done) ++ blank own ∷ rest
      split =
          ap (λ ls. prefix ++ (done ++ blanks graph ls)) (drop-cons ks j 0 inside ∙ ap (λ n. get_or ks j 0 ∷ drop n ks) (sym (add-one j)))
          ∙ sym (append_assoc prefix done (blank own ∷ rest))

      pub next_blank : slice_get (filled j) (base + j) ≡ Some (blank own)
      next_blank =
          slice_get-get_or (filled j) (base + j) no_object (subst (λ g. base + j < length g) (sym split) there)
          ∙ ap (λ g. Some (get_or g (base + j) no_object)) split
          ∙ ap Some (get_or_at (prefix ++ done) (blank own) rest no_object (base + j) here)
        where
          there : base + j < length ((prefix ++ done) ++ blank own ∷ rest)
          there = let whole = length-append (prefix ++ done) (blank own ∷ rest) in let first = here in omega (arith, whole, first)

      pub next_filled : set (filled j) (base + j) (renamed_object base marks own) ≡ filled (j + 1)
      next_filled =
          ap (λ g. set g (base + j) (renamed_object base marks own)) split
          ∙ set_at (prefix ++ done) (blank own) rest (renamed_object base marks own) (base + j) here
          ∙ append_assoc prefix done (renamed_object base marks own ∷ rest)
          ∙ ap (λ g. prefix ++ g) (sym (append_assoc done (renamed_object base marks own ∷ []) rest))
          ∙ ap (λ d. prefix ++ (d ++ rest)) (sym (map_more (λ k. renamed_object base marks (object_at graph k)) ks j 0 inside))
