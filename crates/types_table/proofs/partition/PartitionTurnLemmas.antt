-- Splitting a class separates no two equal numbers. After a split, each number is pending or has
-- the signature of its class.
use Rattle.std.proofs.Common.{ℕ, zero, suc, ◌<◌, ◌+◌, ◌*◌, ◌≡◌, ◌≢◌, ◌∙◌, ⊎_elim, ◌⊎◌, inl, inr, List, [], ◌∷◌, ◌++◌, Option, Some, None, refl, sym, ap, subst, length, map, arith}
use Rattle.std.specs.Prelude.{Contains, slice_get, slice_index}
use Rattle.std.specs.Global.{Vec}
use Rattle.std.specs.List.{AllZip, flat_map}
use Rattle.std.proofs.lemmas.List.Elements.{Contains-append_left, Contains-append_right}
use Rattle.std.proofs.lemmas.Option.{same_Some}
use Rattle.base_data.proofs.model.Options.{Contains-first, Contains-later, Contains-none, Contains-cases, Contains-flat_map, slice_get-Contains, same_or_not, slice_get_there}
use Rattle.base_data.proofs.model.Lists.{slice_get-read}
use Rattle.types_spec.specs.declared.types.head.HeadOf.{HeadOf}
use Rattle.types_spec.specs.types.Equal.{HeadsAgree}
use Rattle.types_spec.specs.types.Table.{head_at}
use Rattle.types_spec.specs.types.Reached.{listed_if}
use Rattle.types_spec.specs.types.Classes.{AreTogether, PartsBelow, KeepsTogether}
use Rattle.types_theory.proofs.equality.EqualityAgreeLemmas.{HeadsAgree-more}
use Rattle.types_theory.proofs.equality.ClassLemmas.{split_keeps}
use Rattle.types_table.specs.declared.partition.head_form.TagForm.{TagForm}
use Rattle.types_table.specs.declared.partition.head_form.HeadForm.{HeadForm}
use Rattle.types_table.specs.declared.partition.class_inspection.Inspection.{Inspection}
use Rattle.types_table.specs.declared.partition.signature.TheConstants.{WIDTH}
use Rattle.types_table.specs.partition.Form.{IsForm, AreForms}
use Rattle.types_table.specs.partition.Signature.{offset, IsCode, IsSignature}
use Rattle.types_table.specs.partition.Users.{parts_in, AreUsers}
use Rattle.types_table.specs.partition.Lists.{Has}
use Rattle.types_table.specs.partition.Refinement.{IsSignatureOf, SignatureAt, SignedAt, AreNamed, AreMoved, IsInspection, MarksUsers, HasMembers}
use Rattle.types_table.proofs.partition.SignatureLemmas.{agree_from_signature, signature_from_agree}

-- ---- lists related element by element

pub AllZip-at : {A B : Type 0} (R : A → B → Type 0) (xs : List A) (ys : List B) (k : ℕ) (x : A) (y : B) → AllZip R xs ys
    → slice_get xs k ≡ Some x → slice_get ys k ≡ Some y → R x y
AllZip-at R [] ys k x y all at_k at_k' = cc
AllZip-at R (a ∷ xs) [] k x y all at_k at_k' = absurd all
AllZip-at R (a ∷ xs) (b ∷ ys) zero x y all at_k at_k' =
    subst (λ z. R z y) (same_Some a x at_k) (subst (λ z. R a z) (same_Some b y at_k') all.0)
AllZip-at R (a ∷ xs) (b ∷ ys) (suc k) x y all at_k at_k' = AllZip-at R xs ys k x y all.1 at_k at_k'

AllZip-among : {A B : Type 0} (P Q : A → B → Type 0) (xs : List A) (ys : List B)
    → ((x : A) (y : B) → Contains xs x → P x y → Q x y) → AllZip P xs ys → AllZip Q xs ys
AllZip-among P Q [] [] more all = all
AllZip-among P Q [] (b ∷ ys) more all = absurd all
AllZip-among P Q (a ∷ xs) [] more all = absurd all
AllZip-among P Q (a ∷ xs) (b ∷ ys) more all = (
  more a b (Contains-first a xs) all.0,
  AllZip-among P Q xs ys (λ x y among. more x y (Contains-later a xs x among)) all.1,
)

-- ---- heads by their forms

pub form_at : (names : List (List ℕ)) (all : List (HeadOf ℕ)) (forms : List HeadForm) (i : ℕ) (form : HeadForm)
    → AllZip (IsForm names) all forms → slice_get forms i ≡ Some form → IsForm names (head_at all i) form
form_at names [] [] i form are at_i = cc
form_at names [] (f ∷ forms) i form are at_i = absurd are
form_at names (h ∷ all) [] i form are at_i = absurd are
form_at names (h ∷ all) (f ∷ forms) zero form are at_i = subst (IsForm names h) (same_Some f form at_i) are.0
form_at names (h ∷ all) (f ∷ forms) (suc i) form are at_i = form_at names all forms i form are.1 at_i

module _ (all : List (HeadOf ℕ)) (forms : List HeadForm) (are : AreForms all forms) (class : ℕ → ℕ) where
  pub agree_at : (i j : ℕ) (s : List ℕ) → IsSignatureOf forms class i s → IsSignatureOf forms class j s
      → HeadsAgree (λ a b. class a ≡ class b) (head_at all i) (head_at all j)
  agree_at i j s one two = agree_from_signature are.names are.distinct class (head_at all i) (head_at all j) one.0 two.0 s
      (form_at are.names all forms i one.0 are.are one.1) (form_at are.names all forms j two.0 are.are two.1) one.2 two.2

  pub signature_at : (i j : ℕ) (s t : List ℕ) → HeadsAgree (λ a b. class a ≡ class b) (head_at all i) (head_at all j)
      → IsSignatureOf forms class i s → IsSignatureOf forms class j t → s ≡ t
  signature_at i j s t agree one two = signature_from_agree are.names are.distinct class (head_at all i) (head_at all j) one.0 two.0
      s t (form_at are.names all forms i one.0 are.are one.1) (form_at are.names all forms j two.0 are.are two.1)
      one.2 two.2 agree

-- ---- signatures of unchanged parts

module _ (old new : ℕ → ℕ) where
  abbrev Unchanged : List ℕ → Type 0
  Unchanged ks = (k : ℕ) → Contains ks k → new k ≡ old k

  pub any_changed : (ks : List ℕ) → ((k : ℕ) × Contains ks k × (new k ≢ old k)) ⊎ Unchanged ks
  any_changed [] = inr (λ k among. absurd (Contains-none k among))
  any_changed (x ∷ ks) = ⊎_elim
      (λ same. ⊎_elim (λ found. inl (found.0, Contains-later x ks found.0 found.1, found.2))
      (λ rest. inr (λ k among. ⊎_elim (λ here. subst (λ j. new j ≡ old j) here same) (λ later. rest k later)
      (Contains-cases x ks k among)))
      (any_changed ks))
      (λ other. inl (x, Contains-first x ks, other))
      (same_or_not (new x) (old x))

  map_unchanged : (ts : List ℕ) → Unchanged ts → map new ts ≡ map old ts
  map_unchanged [] same = refl
  map_unchanged (t ∷ ts) same =
      let first : new t ≡ old t = same t (Contains-first t ts) in
      let rest : map new ts ≡ map old ts = map_unchanged ts (λ k among. same k (Contains-later t ts k among)) in cc

  offset_unchanged : (argument : Option ℕ) → Unchanged (listed_if argument) → offset new argument ≡ offset old argument
  offset_unchanged None same = refl
  offset_unchanged (Some k) same = ap (λ n. n + 1) (same k (Contains-first k []))

  pub signature_unchanged : (form : HeadForm) (s : List ℕ) → Unchanged (parts_in form) → IsSignature old form s → IsSignature new form s
  signature_unchanged form s same signature = record {
    codes = signature.codes;
    are = AllZip-among (IsCode old) (IsCode new) form.tags signature.codes
        (λ tag code among is.
        let e = offset_unchanged tag.argument (λ k has. same k (in_tags tag k among has)) in record {
          below = subst (λ n. n < WIDTH) (sym e) is.below;
          is = is.is ∙ ap (λ n. tag.name * WIDTH + n) (sym e);
        })
        signature.are;
    set = signature.set;
    once = signature.once;
    is = signature.is ∙ ap (λ l. (form.label ++ l) ++ signature.set) (sym (map_unchanged form.parts in_parts));
  } where
    in_parts : Unchanged form.parts
    in_parts k among = same k (Contains-append_left form.parts
        (flat_map (λ (tag : TagForm). listed_if tag.argument) form.tags) k among)

    in_tags : (tag : TagForm) (k : ℕ) → Contains form.tags tag → Contains (listed_if tag.argument) k
        → Contains (parts_in form) k
    in_tags tag k among has = Contains-append_right form.parts
        (flat_map (λ (t : TagForm). listed_if t.argument) form.tags) k
        (Contains-flat_map (λ (t : TagForm). listed_if t.argument) form.tags tag k among has)

-- ---- the turn

module _ (forms : List HeadForm) (o w : List ℕ) (c : ℕ) (inspect : Inspection) (numbers : List ℕ) (old new : List (Vec ℕ))
    (is_inspection : IsInspection forms o c inspect) (named : AreNamed inspect.found c inspect.kept numbers old new)
    (moved : AreMoved inspect.inspected.items inspect.positions.items numbers (length inspect.inspected.items) o w) where
  -- The new class of number `i` is the class of the signature of `i`.
  abbrev Fits : ℕ → Type 0
  Fits i = (p : ℕ) × (s : List ℕ) × (slice_get inspect.found p ≡ Some s) × (slice_get numbers p ≡ Some (slice_index w i))
      × IsSignatureOf forms (slice_index o) i s

  fits : (i : ℕ) → i < length o → slice_index o i ≡ c → Fits i
  fits i below same = ⊎_elim
      (λ placed.
      let s = AllZip-at (SignedAt forms (slice_index o) inspect.found) inspect.inspected.items inspect.positions.items placed.at i
      placed.position is_inspection.signed placed.inspected_at placed.placed in
      (placed.position, s.0, s.1, placed.named, s.2))
      (λ never. ⊎_elim
      (λ among. absurd (never.0 among.0 among.1 (slice_get-read inspect.inspected.items among.0 i among.1 (sym among.2))))
      (λ kept.
      let d = slice_get_there numbers inspect.kept (subst (λ n. inspect.kept < n) (sym named.many) is_inspection.within) in (
        inspect.kept,
        kept.0,
        kept.1,
        d.1 ∙ ap (λ n. Some n) (named.kept_is d.0 d.1 ∙ sym same ∙ sym never.1),
        kept.2,
      ))
      (is_inspection.covers i below same))
      (moved i)

  stays : (i : ℕ) → slice_index o i ≢ c → slice_index w i ≡ slice_index o i
  stays i other = ⊎_elim
      (λ placed. absurd (other (is_inspection.is i (slice_get-Contains inspect.inspected.items placed.at i placed.inspected_at)).1))
      (λ never. never.1) (moved i)

  changed : (i : ℕ) → slice_index w i ≢ slice_index o i → Contains inspect.inspected.items i
  changed i other = ⊎_elim (λ placed. slice_get-Contains inspect.inspected.items placed.at i placed.inspected_at)
      (λ never. absurd (other never.1)) (moved i)

  new_signature : (i : ℕ) → i < length o → slice_index o i ≡ c
      → (s : List ℕ) × SignatureAt new (slice_index w i) s × IsSignatureOf forms (slice_index o) i s
  new_signature i below same =
      let f = fits i below same in (f.1, named.signatures f.0 (slice_index w i) f.1 f.2 f.3, f.4)

  pub within_new : ((i : ℕ) → slice_index o i < length old) → (i : ℕ) → slice_index w i < length new
  within_new within i = ⊎_elim (λ placed. (named.fresh placed.position (slice_index w i) placed.named).1)
      (λ never. omega (arith, within i, never.1, named.more)) (moved i)

  -- If the heads of two numbers agree, then the two numbers stay in one class.
  module _ (all : List (HeadOf ℕ)) (are : AreForms all forms) (many : length all ≡ length o) where
    abbrev Together : ℕ → ℕ → Type 0
    Together = AreTogether (length all) (slice_index o)

    together : (i j : ℕ) → Together i j → HeadsAgree Together (head_at all i) (head_at all j)
        → AreTogether (length all) (slice_index w) i j
    together i j before agree = record {
      first = before.first;
      second = before.second;
      same = ⊎_elim here (λ other. stays i other ∙ before.same ∙ sym (stays j (λ is. other (before.same ∙ is))))
          (same_or_not (slice_index o i) c);
    } where
      here : slice_index o i ≡ c → slice_index w i ≡ slice_index w j
      here is =
          let one = fits i (subst (λ n. i < n) many before.first) is in
          let two = fits j (subst (λ n. j < n) many before.second) (sym before.same ∙ is) in
          let signature = signature_at all forms are (slice_index o) i j one.1 two.1
          (HeadsAgree-more Together (λ a b. slice_index o a ≡ slice_index o b) (head_at all i) (head_at all j)
          (λ k l among among' t. t.same) agree) one.4 two.4 in
          let position = is_inspection.distinct one.0 two.0 one.1 one.2 (two.2 ∙ ap (λ l. Some l) (sym signature)) in
          same_Some (slice_index w i) (slice_index w j) (sym one.3 ∙ ap (slice_get numbers) position ∙ two.3)

    pub keeps_new : PartsBelow (length all) (head_at all) → KeepsTogether (length all) (head_at all) (slice_index o)
        → KeepsTogether (length all) (head_at all) (slice_index w)
    keeps_new parts = split_keeps (length all) (head_at all) parts (slice_index o) (slice_index w) together

  -- After a turn, each number is pending or has the signature of its class.
  module _ (users waiting now : List (Vec ℕ)) (many : length o ≡ length forms) (uses : AreUsers forms users)
      (kept : (d y : ℕ) → Has waiting d y → Has now d y) (marked : MarksUsers w users c inspect.inspected.items now)
      (settled : (i : ℕ) → i < length o → slice_index o i ≢ c → Has waiting (slice_index o i) i
      ⊎ ((s : List ℕ) × SignatureAt old (slice_index o i) s × IsSignatureOf forms (slice_index o) i s)) where
    pub settled_new : (i : ℕ) → i < length o → Has now (slice_index w i) i
        ⊎ ((s : List ℕ) × SignatureAt new (slice_index w i) s × IsSignatureOf forms (slice_index w) i s)
    settled_new i below = ⊎_elim by_change by_none (any_changed (slice_index o) (slice_index w) (parts_in form.0)) where
      form : (f : HeadForm) × (slice_get forms i ≡ Some f)
      form = slice_get_there forms i (subst (λ n. i < n) many below)

      by_change : (k : ℕ) × Contains (parts_in form.0) k × (slice_index w k ≢ slice_index o k)
          → Has now (slice_index w i) i
          ⊎ ((s : List ℕ) × SignatureAt new (slice_index w i) s × IsSignatureOf forms (slice_index w) i s)
      by_change found =
          let k = found.0 in
          let among = changed k found.2 in
          let was = is_inspection.is k among in
          inl (marked k i among (λ same. found.2 (same ∙ sym was.1))
          (uses.has i k form.0 form.1 found.1 (subst (λ n. k < n) many was.0)))

      by_none : ((k : ℕ) → Contains (parts_in form.0) k → slice_index w k ≡ slice_index o k)
          → Has now (slice_index w i) i
          ⊎ ((s : List ℕ) × SignatureAt new (slice_index w i) s × IsSignatureOf forms (slice_index w) i s)
      by_none same = ⊎_elim
          (λ here. let s = new_signature i below here in inr (s.0, s.1, again s.0 s.2))
          (λ other.
          let at : slice_index w i ≡ slice_index o i = stays i other in
          ⊎_elim (λ waits. inl (subst (λ d. Has now d i) (sym at) (kept (slice_index o i) i waits)))
          (λ done. inr (
            done.0,
            subst (λ d. SignatureAt new d done.0) (sym at) (named.others (slice_index o i) done.0 other done.1),
            again done.0 done.2,
          ))
          (settled i below other))
          (same_or_not (slice_index o i) c) where
            again : (s : List ℕ) → IsSignatureOf forms (slice_index o) i s → IsSignatureOf forms (slice_index w) i s
            again s signature = (
              signature.0,
              signature.1,
              signature_unchanged (slice_index o) (slice_index w) signature.0 s
                  (subst (λ (f : HeadForm). (k : ℕ) → Contains (parts_in f) k → slice_index w k ≡ slice_index o k)
                  (same_Some form.0 signature.0 (sym form.1 ∙ signature.1)) same) signature.2,
            )

  -- If each number was a member of its class before a turn, then each number is a member of its
  -- class after the turn.
  pub has_new : (members now : List (Vec ℕ)) → ((d y : ℕ) → Has members d y → Has now d y)
      → HasMembers w c inspect.inspected.items now → ((i : ℕ) → i < length o → Has members (slice_index o i) i)
      → (i : ℕ) → i < length o → Has now (slice_index w i) i
  has_new members now kept added has i below = ⊎_elim
      (λ same. subst (λ d. Has now d i) (sym same) (kept (slice_index o i) i (has i below)))
      (λ other.
      let among = changed i other in
      added i among (λ same. other (same ∙ sym (is_inspection.is i among).1)))
      (same_or_not (slice_index w i) (slice_index o i))
