-- Two heads have the same signature if and only if the heads agree, where parts agree if they have
-- the same class.
use Rattle.std.proofs.Common.{ℕ, ◌<◌, ◌+◌, ◌*◌, ◌≡◌, ◌∙◌, ⊎_elim, List, [], ◌∷◌, ◌++◌, Option, Some, None, refl, sym, ap, subst, map, arith}
use Rattle.std.specs.Prelude.{Contains, slice_get}
use Rattle.std.specs.List.{AllZip}
use Rattle.std.proofs.lemmas.List.{append-nil}
use Rattle.std.proofs.lemmas.Option.{same_Some}
use Rattle.base_data.proofs.model.Options.{Contains-first, Contains-later, Contains-none, Contains-cases}
use Rattle.types_spec.specs.declared.types.decl.Predeclared.{Predeclared}
use Rattle.types_spec.specs.declared.types.decl.Predeclared.TheVariants as bases
use Rattle.types_spec.specs.declared.types.head.TagOf.{TagOf}
use Rattle.types_spec.specs.declared.types.head.HeadOf.{HeadOf}
use Rattle.types_spec.specs.declared.types.head.HeadOf.TheVariants as heads
use Rattle.types_spec.specs.types.Equal.{Pairwise, ArgumentsAgree, TagsAgree, SameTags, HeadsAgree}
use Rattle.types_table.specs.store.Held.{AreDistinct}
use Rattle.types_table.specs.declared.partition.head_form.TagForm.{TagForm}
use Rattle.types_table.specs.declared.partition.head_form.HeadForm.{HeadForm}
use Rattle.types_table.specs.declared.partition.signature.TheConstants.{WIDTH}
use Rattle.types_table.specs.partition.Form.{code_of, row_of, IsTagForm, AreTagForms, IsPlain, IsTagged, IsForm}
use Rattle.types_table.specs.partition.Signature.{IsSetOf, offset, IsCode, AreCodes, IsSignature}
use Rattle.types_table.proofs.partition.PartitionSetLemmas.{same_sets}

-- ---- lists related element by element

module _ {A B : Type 0} (R : A → B → Type 0) where
  pub AllZip-there : (xs : List A) (ys : List B) → AllZip R xs ys → (x : A) → Contains xs x
      → (y : B) × Contains ys y × R x y
  AllZip-there [] ys all x among = absurd (Contains-none x among)
  AllZip-there (z ∷ xs) [] all x among = absurd all
  AllZip-there (z ∷ xs) (y ∷ ys) all x among = ⊎_elim
      (λ here. (y, Contains-first y ys, subst (λ a. R a y) here all.0))
      (λ later. let found = AllZip-there xs ys all.1 x later in
      (found.0, Contains-later y ys found.0 found.1, found.2))
      (Contains-cases z xs x among)

  pub AllZip-back : (xs : List A) (ys : List B) → AllZip R xs ys → (y : B) → Contains ys y
      → (x : A) × Contains xs x × R x y
  AllZip-back xs [] all y among = absurd (Contains-none y among)
  AllZip-back [] (z ∷ ys) all y among = absurd all
  AllZip-back (x ∷ xs) (z ∷ ys) all y among = ⊎_elim
      (λ here. (x, Contains-first x xs, subst (λ b. R x b) here all.0))
      (λ later. let found = AllZip-back xs ys all.1 y later in
      (found.0, Contains-later x xs found.0 found.1, found.2))
      (Contains-cases z ys y among)

-- ---- predeclared types

abbrev in_order : ℕ → List Predeclared
in_order k = bases.Int ∷ bases.Char ∷ bases.Bool ∷ bases.Unit ∷ bases.String ∷ bases.Bytes ∷ bases.Float ∷ bases.Int32
    ∷ bases.Int64 ∷ bases.Nativeint ∷ bases.Floatarray ∷ bases.Array ∷ bases.Any ∷ bases.Sum k ∷ []

at_code : (b : Predeclared) → slice_get (in_order (row_of b)) (code_of b) ≡ Some b
at_code bases.Int = refl
at_code bases.Char = refl
at_code bases.Bool = refl
at_code bases.Unit = refl
at_code bases.String = refl
at_code bases.Bytes = refl
at_code bases.Float = refl
at_code bases.Int32 = refl
at_code bases.Int64 = refl
at_code bases.Nativeint = refl
at_code bases.Floatarray = refl
at_code bases.Array = refl
at_code bases.Any = refl
at_code (bases.Sum k) = refl

same_base : (b c : Predeclared) → code_of b ≡ code_of c → row_of b ≡ row_of c → b ≡ c
same_base b c is row = same_Some b c
    (sym (at_code b) ∙ ap (slice_get (in_order (row_of b))) is
    ∙ ap (λ (k : ℕ). slice_get (in_order k) (code_of c)) row ∙ at_code c)

-- ---- codes

same_name : (a b o p : ℕ) → a * WIDTH + o ≡ b * WIDTH + p → o < WIDTH → p < WIDTH → a ≡ b
same_name a b o p is below below' = omega arith

same_offset : (a b o p : ℕ) → a * WIDTH + o ≡ b * WIDTH + p → o < WIDTH → p < WIDTH → o ≡ p
same_offset a b o p is below below' = omega arith

module _ (names : List (List ℕ)) (distinct : AreDistinct names) (class : ℕ → ℕ) where
  abbrev Same : ℕ → ℕ → Type 0
  Same a b = class a ≡ class b

  -- ---- parts

  pairwise_from : (ts us : List ℕ) → map class ts ≡ map class us → Pairwise Same ts us
  pairwise_from [] [] is = tt
  pairwise_from [] (u ∷ us) is = cc
  pairwise_from (t ∷ ts) [] is = cc
  pairwise_from (t ∷ ts) (u ∷ us) is =
      let first : class t ≡ class u = cc in
      let rest : map class ts ≡ map class us = cc in (first, pairwise_from ts us rest)

  from_pairwise : (ts us : List ℕ) → Pairwise Same ts us → map class ts ≡ map class us
  from_pairwise [] [] agree = refl
  from_pairwise [] (u ∷ us) agree = absurd agree
  from_pairwise (t ∷ ts) [] agree = absurd agree
  from_pairwise (t ∷ ts) (u ∷ us) agree =
      let first : class t ≡ class u = agree.0 in
      let rest : map class ts ≡ map class us = from_pairwise ts us agree.1 in cc

  -- ---- tags

  arguments_from : (a b : Option ℕ) → offset class a ≡ offset class b → ArgumentsAgree Same a b
  arguments_from None None is = tt
  arguments_from None (Some b) is = absurd (omega arith)
  arguments_from (Some a) None is = absurd (omega arith)
  arguments_from (Some a) (Some b) is = omega arith

  from_arguments : (a b : Option ℕ) → ArgumentsAgree Same a b → offset class a ≡ offset class b
  from_arguments None None agree = refl
  from_arguments None (Some b) agree = absurd agree
  from_arguments (Some a) None agree = absurd agree
  from_arguments (Some a) (Some b) agree = ap (λ k. k + 1) agree

  -- `code` is the code of the form of the tag.
  record Says (tag : TagOf ℕ) (code : ℕ) : Type 0 where
    form : TagForm
    named : IsTagForm names tag form
    coded : IsCode class form code

  tags_from : (tag other : TagOf ℕ) (code : ℕ) → Says tag code → Says other code → TagsAgree Same tag other
  tags_from tag other code one two =
      let is = sym one.coded.is ∙ two.coded.is in
      let name = same_name one.form.name two.form.name (offset class one.form.argument) (offset class two.form.argument) is
      one.coded.below two.coded.below in
      let far = same_offset one.form.name two.form.name (offset class one.form.argument) (offset class two.form.argument) is
      one.coded.below two.coded.below in (
        same_Some tag.name other.name (sym one.named.name ∙ ap (slice_get names) name ∙ two.named.name),
        arguments_from tag.argument other.argument
            (ap (offset class) one.named.argument ∙ far ∙ sym (ap (offset class) two.named.argument)),
      )

  from_tags : (tag other : TagOf ℕ) (code code' : ℕ) → TagsAgree Same tag other → Says tag code → Says other code'
      → code ≡ code'
  from_tags tag other code code' agree one two =
      let name : one.form.name ≡ two.form.name = distinct one.form.name two.form.name tag.name one.named.name
      (two.named.name ∙ ap (λ n. Some n) (sym agree.0)) in
      let far : offset class one.form.argument ≡ offset class two.form.argument =
      ap (offset class) (sym one.named.argument) ∙ from_arguments tag.argument other.argument agree.1
      ∙ ap (offset class) two.named.argument in
      one.coded.is ∙ ap (λ n. n * WIDTH + offset class one.form.argument) name
      ∙ ap (λ o. two.form.name * WIDTH + o) far ∙ sym two.coded.is

  -- The set contains exactly the codes of the tags.
  record Reports (tags : List (TagOf ℕ)) (set : List ℕ) : Type 0 where
    codes : List ℕ
    once : IsSetOf codes set
    there : (tag : TagOf ℕ) → Contains tags tag → (code : ℕ) × Contains codes code × Says tag code
    back : (code : ℕ) → Contains codes code → (tag : TagOf ℕ) × Contains tags tag × Says tag code

  reports : (tags : List (TagOf ℕ)) (forms : List TagForm) (codes set : List ℕ) → AreTagForms names tags forms
      → AreCodes class forms codes → IsSetOf codes set → Reports tags set
  reports tags forms codes set are coded once = record {
    codes = codes;
    once = once;
    there = λ tag among.
        let f = AllZip-there (IsTagForm names) tags forms are tag among in
        let k = AllZip-there (IsCode class) forms codes coded f.0 f.1 in
        (k.0, k.1, record { form = f.0; named = f.2; coded = k.2 });
    back = λ code among.
        let f = AllZip-back (IsCode class) forms codes coded code among in
        let t = AllZip-back (IsTagForm names) tags forms are f.0 f.1 in
        (t.0, t.1, record { form = f.0; named = t.2; coded = f.2 });
  }

  same_from : (tags others : List (TagOf ℕ)) (set : List ℕ) → Reports tags set → Reports others set → SameTags Same tags others
  same_from tags others set one two = record {
    there = λ tag among.
        let k = one.there tag among in
        let o = two.back k.0 (two.once.back k.0 (one.once.there k.0 k.1)) in
        (o.0, o.1, tags_from tag o.0 k.0 k.2 o.2);
    back = λ other among.
        let k = two.there other among in
        let t = one.back k.0 (one.once.back k.0 (two.once.there k.0 k.1)) in
        (t.0, t.1, tags_from t.0 other k.0 t.2 k.2);
  }

  from_same : (tags others : List (TagOf ℕ)) (set other : List ℕ) → SameTags Same tags others → Reports tags set
      → Reports others other → set ≡ other
  from_same tags others set other agree one two = same_sets one.codes two.codes set other one.once two.once
      (λ code among.
      let t = one.back code among in
      let o = agree.there t.0 t.1 in
      let k = two.there o.0 o.1 in
      subst (λ c. Contains two.codes c) (sym (from_tags t.0 o.0 code k.0 o.2 t.2 k.2)) k.1)
      (λ code among.
      let o = two.back code among in
      let t = agree.back o.0 o.1 in
      let k = one.there t.0 t.1 in
      subst (λ c. Contains one.codes c) (from_tags t.0 o.0 k.0 code t.2 k.2 o.2) k.1)

  -- ---- heads

  -- `s` is the signature of the head, by cases on the head.
  abbrev Known : HeadOf ℕ → List ℕ → Type 0
  Known (heads.Variable name) s = (k : ℕ) × (slice_get names k ≡ Some name) × (s ≡ 0 ∷ k ∷ [])
  Known (heads.Predeclared base ts) s = s ≡ 1 ∷ code_of base ∷ row_of base ∷ map class ts
  Known (heads.Datatype name ts) s = (k : ℕ) × (slice_get names k ≡ Some name) × (s ≡ 2 ∷ k ∷ map class ts)
  Known (heads.Tuple ts) s = s ≡ 3 ∷ map class ts
  Known (heads.Variants tags) s = (set : List ℕ) × Reports tags set × (s ≡ 4 ∷ set)
  Known heads.Absent s = s ≡ 5 ∷ []

  none_coded : (codes : List ℕ) → AreCodes class [] codes → codes ≡ []
  none_coded [] are = refl
  none_coded (c ∷ codes) are = absurd are

  none_set : (codes set : List ℕ) → codes ≡ [] → IsSetOf codes set → set ≡ []
  none_set codes [] none once = refl
  none_set codes (x ∷ set) none once =
      absurd (Contains-none x (subst (λ l. Contains l x) none (once.back x (Contains-first x set))))

  known_plain : (says ts : List ℕ) (form : HeadForm) (s : List ℕ) → IsPlain says ts form → IsSignature class form s
      → s ≡ says ++ map class ts
  known_plain says ts form s plain signature =
      let none : signature.set ≡ [] = none_set signature.codes signature.set
      (none_coded signature.codes (subst (λ l. AreCodes class l signature.codes) plain.tags signature.are)) signature.once in
      signature.is ∙ ap (λ l. (form.label ++ map class form.parts) ++ l) none ∙ append-nil (form.label ++ map class form.parts)
      ∙ ap (λ l. l ++ map class form.parts) plain.label ∙ ap (λ l. says ++ map class l) plain.parts

  known_tagged : (tags : List (TagOf ℕ)) (form : HeadForm) (s : List ℕ) → IsTagged names tags form
      → (signature : IsSignature class form s) → s ≡ 4 ∷ signature.set
  known_tagged tags form s tagged signature = signature.is ∙ ap (λ l. (l ++ map class form.parts) ++ signature.set) tagged.label
      ∙ ap (λ l. ((4 ∷ []) ++ map class l) ++ signature.set) tagged.parts

  known : (head : HeadOf ℕ) (form : HeadForm) (s : List ℕ) → IsForm names head form → IsSignature class form s → Known head s
  known (heads.Variable name) form s is signature = (is.0, is.1, known_plain (0 ∷ is.0 ∷ []) [] form s is.2 signature)
  known (heads.Predeclared base ts) form s is signature = known_plain (1 ∷ code_of base ∷ row_of base ∷ []) ts form s is signature
  known (heads.Datatype name ts) form s is signature = (is.0, is.1, known_plain (2 ∷ is.0 ∷ []) ts form s is.2 signature)
  known (heads.Tuple ts) form s is signature = known_plain (3 ∷ []) ts form s is signature
  known (heads.Variants tags) form s is signature = (
    signature.set,
    reports tags form.tags signature.codes signature.set is.tags signature.are signature.once,
    known_tagged tags form s is signature,
  )
  known heads.Absent form s is signature = known_plain (5 ∷ []) [] form s is signature

  abbrev kind : HeadOf ℕ → ℕ
  kind (heads.Variable name) = 0
  kind (heads.Predeclared base ts) = 1
  kind (heads.Datatype name ts) = 2
  kind (heads.Tuple ts) = 3
  kind (heads.Variants tags) = 4
  kind heads.Absent = 5

  abbrev first : List ℕ → ℕ
  first [] = 6
  first (x ∷ xs) = x

  known_kind : (head : HeadOf ℕ) (s : List ℕ) → Known head s → first s ≡ kind head
  known_kind (heads.Variable name) s is = ap first is.2
  known_kind (heads.Predeclared base ts) s is = ap first is
  known_kind (heads.Datatype name ts) s is = ap first is.2
  known_kind (heads.Tuple ts) s is = ap first is
  known_kind (heads.Variants tags) s is = ap first is.2
  known_kind heads.Absent s is = ap first is

  heads_from : (head other : HeadOf ℕ) (s : List ℕ) → Known head s → Known other s → HeadsAgree Same head other
  heads_from (heads.Variable x) (heads.Variable y) s one two =
      let is : one.0 ≡ two.0 = let e = sym one.2 ∙ two.2 in cc in
      same_Some x y (sym one.1 ∙ ap (slice_get names) is ∙ two.1)
  heads_from (heads.Predeclared b ts) (heads.Predeclared c us) s one two =
      let e = sym one ∙ two in
      let base : code_of b ≡ code_of c = cc in
      let row : row_of b ≡ row_of c = cc in
      let parts : map class ts ≡ map class us = cc in (same_base b c base row, pairwise_from ts us parts)
  heads_from (heads.Datatype m ts) (heads.Datatype n us) s one two =
      let e = sym one.2 ∙ two.2 in
      let is : one.0 ≡ two.0 = cc in
      let parts : map class ts ≡ map class us = cc in
      (same_Some m n (sym one.1 ∙ ap (slice_get names) is ∙ two.1), pairwise_from ts us parts)
  heads_from (heads.Tuple ts) (heads.Tuple us) s one two =
      let e = sym one ∙ two in
      let parts : map class ts ≡ map class us = cc in pairwise_from ts us parts
  heads_from (heads.Variants tags) (heads.Variants others) s one two =
      let e = sym one.2 ∙ two.2 in
      let is : two.0 ≡ one.0 = cc in
      same_from tags others one.0 one.1 (subst (λ l. Reports others l) is two.1)
  heads_from heads.Absent heads.Absent s one two = tt
  heads_from head other s one two =
      let is : kind head ≡ kind other = sym (known_kind head s one) ∙ known_kind other s two in absurd (omega (arith, is))

  from_heads : (head other : HeadOf ℕ) (s t : List ℕ) → HeadsAgree Same head other → Known head s → Known other t → s ≡ t
  from_heads (heads.Variable x) (heads.Variable y) s t agree one two =
      let is : one.0 ≡ two.0 = distinct one.0 two.0 x one.1 (two.1 ∙ ap (λ n. Some n) (sym agree)) in
      one.2 ∙ ap (λ k. 0 ∷ k ∷ []) is ∙ sym two.2
  from_heads (heads.Predeclared b ts) (heads.Predeclared c us) s t agree one two =
      one ∙ ap (λ d. 1 ∷ code_of d ∷ row_of d ∷ map class ts) agree.0 ∙ ap (λ l. 1 ∷ code_of c ∷ row_of c ∷ l) (from_pairwise ts us agree.1)
      ∙ sym two
  from_heads (heads.Datatype m ts) (heads.Datatype n us) s t agree one two =
      let is : one.0 ≡ two.0 = distinct one.0 two.0 m one.1 (two.1 ∙ ap (λ n. Some n) (sym agree.0)) in
      one.2 ∙ ap (λ k. 2 ∷ k ∷ map class ts) is ∙ ap (λ l. 2 ∷ two.0 ∷ l) (from_pairwise ts us agree.1) ∙ sym two.2
  from_heads (heads.Tuple ts) (heads.Tuple us) s t agree one two =
      one ∙ ap (λ l. 3 ∷ l) (from_pairwise ts us agree) ∙ sym two
  from_heads (heads.Variants tags) (heads.Variants others) s t agree one two =
      one.2 ∙ ap (λ l. 4 ∷ l) (from_same tags others one.0 two.0 agree one.1 two.1) ∙ sym two.2
  from_heads heads.Absent heads.Absent s t agree one two = one ∙ sym two
  from_heads head other s t agree one two = absurd agree

  -- If two heads have the same signature, then they agree.
  pub agree_from_signature : (head other : HeadOf ℕ) (form form' : HeadForm) (s : List ℕ) → IsForm names head form
      → IsForm names other form' → IsSignature class form s → IsSignature class form' s → HeadsAgree Same head other
  agree_from_signature head other form form' s is is' one two =
      heads_from head other s (known head form s is one) (known other form' s is' two)

  -- If two heads agree, then they have the same signature.
  pub signature_from_agree : (head other : HeadOf ℕ) (form form' : HeadForm) (s t : List ℕ) → IsForm names head form
      → IsForm names other form' → IsSignature class form s → IsSignature class form' t → HeadsAgree Same head other → s ≡ t
  signature_from_agree head other form form' s t is is' one two agree =
      from_heads head other s t agree (known head form s is one) (known other form' t is' two)
