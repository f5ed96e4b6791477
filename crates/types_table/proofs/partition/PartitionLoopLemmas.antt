-- Preservation of the invariants of the loops over numbers.
use Rattle.std.proofs.Common.{ℕ, zero, suc, ◌<◌, ◌+◌, ◌≤◌, ◌≡◌, ◌≢◌, ◌∙◌, ⊎_elim, ◌⊎◌, inl, inr, List, [], ◌∷◌, ◌++◌, Some, refl, sym, ap, subst, length, length-append, get_or, take, set, arith}
use Rattle.std.specs.Prelude.{Contains, slice_get, slice_index, false, ◌==◌}
use Rattle.std.specs.Global.{Vec}
use Rattle.std.specs.List.{flat_map}
use Rattle.std.proofs.Math.ListN.{length-set}
use Rattle.std.proofs.lemmas.Grind.{flat_map-append}
use Rattle.std.proofs.lemmas.List.{take_more, append-nil, append_assoc, get_or-set_same, get_or-set_other}
use Rattle.std.proofs.lemmas.List.Elements.{Contains-append_left, Contains-append_cases, Contains-push_cases}
use Rattle.std.proofs.lemmas.Option.{same_Some, slice_get-get_or, slice_get_within, get_or_from_slice_get}
use Rattle.base_data.proofs.model.Options.{Contains-none, Contains-cases, same_or_not, slice_get_there}
use Rattle.base_data.proofs.model.Lists.{slice_get-append_left, slice_get-set_other, slice_get-set_here, slice_get-last, AllZip-push, slice_get-push_cases}
use Rattle.types_spec.specs.types.Reached.{listed_if}
use Rattle.types_table.specs.store.Held.{AreDistinct, AddsOnce, Grows}
use Rattle.types_table.proofs.store.StoreHeldLemmas.{there_kept, Grows-then}
use Rattle.types_table.specs.declared.partition.head_form.TagForm.{TagForm}
use Rattle.types_table.specs.declared.partition.head_form.HeadForm.{HeadForm}
use Rattle.types_table.specs.partition.Lists.{Has, Keeps, IsWritten}
use Rattle.types_table.specs.partition.Users.{parts_in}
use Rattle.types_table.specs.partition.Signature.{IsSignature}
use Rattle.types_table.specs.partition.Refinement.{IsReady, SignatureAt, SignedAt, AreNamed, NamedSoFar, AreMoved}
use Rattle.types_table.proofs.partition.Loops.{UsesSoFar, UsersSoFar, MarksSoFar, UserMarksSoFar, SignedSoFar, MembersSoFar}
use Rattle.types_table.proofs.partition.PartitionListLemmas.{next_cases, Keeps-then}
use Rattle.types_table.proofs.partition.FormLemmas.{AllZip-more, adds_grows}

-- ---- users

pub only_one : (P : ℕ → Type 0) (x k : ℕ) → P x → Contains (x ∷ []) k → P k
only_one P x k holds among = ⊎_elim (λ here. subst P here holds) (λ later. absurd (Contains-none k later))
    (Contains-cases x [] k among)

-- If `user` is a user of `parts` and is added for `more`, then `user` is a user of `parts ++ more`.
pub uses_more : (old now new : List (Vec ℕ)) (parts more all : List ℕ) (user : ℕ) → UsesSoFar old now parts user
    → Keeps now new → ((k : ℕ) → Contains more k → k < length now → Has new k user) → all ≡ parts ++ more
    → UsesSoFar old new all user
uses_more old now new parts more all user held keeps added is = record {
  keeps = Keeps-then old now new held.keeps keeps;
  has = λ k among below. ⊎_elim (λ before. keeps.kept k user (held.has k before below))
      (λ last. added k last (subst (λ n. k < n) (sym held.keeps.many) below))
      (Contains-append_cases parts more k (subst (λ l. Contains l k) is among));
}

abbrev pub arguments : List TagForm → List ℕ
arguments tags = flat_map (λ (tag : TagForm). listed_if tag.argument) tags

pub arguments_next : (parts : List ℕ) (tags : List TagForm) (i : ℕ) (d : TagForm) → i < length tags
    → parts ++ arguments (take (i + 1) tags) ≡ (parts ++ arguments (take i tags)) ++ listed_if (get_or tags i d).argument
arguments_next parts tags i d within =
    ap (λ l. parts ++ arguments l) (take_more tags i d within)
    ∙ ap (λ l. parts ++ l) (flat_map-append (λ (tag : TagForm). listed_if tag.argument) (take i tags) (get_or tags i d ∷ [])
    ∙ ap (λ l. arguments (take i tags) ++ l) (append-nil (listed_if (get_or tags i d).argument)))
    ∙ sym (append_assoc parts (arguments (take i tags)) (listed_if (get_or tags i d).argument))

pub users_more : (forms : List HeadForm) (i : ℕ) (form : HeadForm) (now new : List (Vec ℕ)) → UsersSoFar forms i now
    → slice_get forms i ≡ Some form → Keeps now new
    → ((k : ℕ) → Contains (parts_in form) k → k < length now → Has new k i) → UsersSoFar forms (i + 1) new
users_more forms i form now new held is keeps added = record {
  many = keeps.many ∙ held.many;
  has = λ j k other below at_j among under. ⊎_elim
      (λ here. subst (Has new k) (sym here) (added k (subst (λ (f : HeadForm). Contains (parts_in f) k)
      (same_Some other form (sym at_j ∙ ap (slice_get forms) here ∙ is)) among)
      (subst (λ n. k < n) (sym held.many) under)))
      (λ before. keeps.kept k j (held.has j k other (less before below) at_j among under))
      (same_or_not j i);
} where
  less : {j : ℕ} → j ≢ i → j < i + 1 → j < i
  less other below = omega arith

-- ---- pending numbers

pub ready_written : (old new : List (Vec ℕ)) (todo : List ℕ) (class number : ℕ) → IsReady old todo → Contains todo class
    → IsWritten old class number new → IsReady new todo
ready_written old new todo class number ready there write = record {
  has = λ d y has. ⊎_elim (λ before. ready.has d y before) (λ here. subst (Contains todo) (sym here) there)
      (write.back d y has);
  within = λ d among. subst (λ n. d < n) (sym write.keeps.many) (ready.within d among);
}

pub ready_more : (waiting : List (Vec ℕ)) (todo new : List ℕ) (class : ℕ) → IsReady waiting todo → class < length waiting
    → new ≡ todo ++ class ∷ [] → IsReady waiting new
ready_more waiting todo new class ready within is = record {
  has = λ d y has. subst (λ l. Contains l d) (sym is) (Contains-append_left todo (class ∷ []) d (ready.has d y has));
  within = λ d among. ⊎_elim (λ before. ready.within d before) (λ last. subst (λ n. n < length waiting) last within)
      (Contains-push_cases todo class d (subst (λ l. Contains l d) is among));
}

-- If the list of a class is not empty, then the class is in `todo`.
pub not_empty : (waiting : List (Vec ℕ)) (todo : List ℕ) (class : ℕ) (v : Vec ℕ) → IsReady waiting todo
    → slice_get waiting class ≡ Some v → 0 < length v.items → Contains todo class
not_empty waiting todo class v ready is some =
    let first = slice_get_there v.items 0 some in
    ready.has class first.0 (v, is, (0, some, get_or_from_slice_get v.items 0 first.0 first.0 first.1))

pub positive : (n : ℕ) → false ≡ (n == 0) → 0 < n
positive zero is = cc
positive (suc n) is = omega arith

pub marks_more : (old now new : List (Vec ℕ)) (todo todo' class numbers : List ℕ) (i : ℕ) → i < length numbers
    → MarksSoFar old now todo class (take i numbers) → Keeps now new → IsReady new todo'
    → Has new (slice_index class (get_or numbers i 0)) (get_or numbers i 0)
    → MarksSoFar old new todo' class (take (i + 1) numbers)
marks_more old now new todo todo' class numbers i within held keeps ready marked = record {
  keeps = Keeps-then old now new held.keeps keeps;
  ready = ready;
  marked = λ u among. ⊎_elim (λ before. keeps.kept (slice_index class u) u (held.marked u before))
      (λ here. subst (λ n. Has new (slice_index class n) n) here marked) (next_cases numbers i u within among);
}

pub user_marks_more : (old now new : List (Vec ℕ)) (todo todo' class : List ℕ) (users : List (Vec ℕ)) (left : ℕ)
    (inspected : List ℕ) (i : ℕ) → i < length inspected → UserMarksSoFar old now todo class users left (take i inspected)
    → Keeps now new → IsReady new todo'
    → (slice_index class (get_or inspected i 0) ≢ left → (u : ℕ) → Has users (get_or inspected i 0) u
    → Has new (slice_index class u) u)
    → UserMarksSoFar old new todo' class users left (take (i + 1) inspected)
user_marks_more old now new todo todo' class users left inspected i within held keeps ready marked = record {
  keeps = Keeps-then old now new held.keeps keeps;
  ready = ready;
  marked = λ j u among. ⊎_elim
      (λ before moved uses. keeps.kept (slice_index class u) u (held.marked j u before moved uses))
      (λ here moved uses. marked (λ same. moved (subst (λ n. slice_index class n ≡ left) here same)) u
      (subst (λ n. Has users n u) (sym here) uses))
      (next_cases inspected i j within among);
}

-- ---- moves

pub signed_more : (forms : List HeadForm) (class : List ℕ) (old now new : List (List ℕ)) (inspected positions positions' : List ℕ)
    (i position : ℕ) (form : HeadForm) (signature : List ℕ) → i < length inspected
    → SignedSoFar forms class old now (take i inspected) positions → slice_get forms (get_or inspected i 0) ≡ Some form
    → IsSignature (slice_index class) form signature → AddsOnce now new signature position → AreDistinct new → positions' ≡ positions ++ position ∷ []
    → SignedSoFar forms class old new (take (i + 1) inspected) positions'
signed_more forms class old now new inspected positions positions' i position form signature within held at_form signed adds distinct is =
    record {
      grown = Grows-then old now new held.grown grown;
      distinct = distinct;
      are = rw (is, take_more inspected i 0 within) (AllZip-push (SignedAt forms (slice_index class) new) (take i inspected) positions
          (get_or inspected i 0) position
          (AllZip-more (SignedAt forms (slice_index class) now) (SignedAt forms (slice_index class) new)
          (λ j p at_p. (at_p.0, there_kept now new p at_p.0 grown at_p.1, at_p.2)) (take i inspected) positions held.are)
          (signature, adds.there, (form, at_form, signed)));
    } where
      grown : Grows now new
      grown = adds_grows adds

pub members_more : (old now new : List (Vec ℕ)) (class : List ℕ) (left : ℕ) (inspected : List ℕ) (i : ℕ)
    → i < length inspected → MembersSoFar old now class left (take i inspected) → Keeps now new
    → (slice_index class (get_or inspected i 0) ≢ left → Has new (slice_index class (get_or inspected i 0)) (get_or inspected i 0))
    → MembersSoFar old new class left (take (i + 1) inspected)
members_more old now new class left inspected i within held keeps added = record {
  keeps = Keeps-then old now new held.keeps keeps;
  has = λ j among. ⊎_elim (λ before moved. keeps.kept (slice_index class j) j (held.has j before moved))
      (λ here. subst (λ n. slice_index class n ≢ left → Has new (slice_index class n) n) here added)
      (next_cases inspected i j within among);
}

-- ---- classes of signatures

pub named_none : (found : List (List ℕ)) (parted kept : ℕ) (numbers : List ℕ) (old : List (Vec ℕ)) → numbers ≡ []
    → NamedSoFar found parted kept 0 numbers old old
named_none found parted kept numbers old none = record {
  many = ap length none;
  grown = record { added = []; kept = sym (append-nil old) };
  signatures = λ p d s other at_p named. let e : slice_get [] p ≡ Some d = sym (ap (λ l. slice_get l p) none) ∙ named in cc;
  kept_is = λ d named. let e : slice_get [] kept ≡ Some d = sym (ap (λ l. slice_get l kept) none) ∙ named in cc;
}

module _ (found : List (List ℕ)) (parted kept position : ℕ) (numbers numbers' : List ℕ) (old now : List (Vec ℕ))
    (held : NamedSoFar found parted kept position numbers old now) where
  pub named_kept : position ≡ kept → numbers' ≡ numbers ++ parted ∷ []
      → NamedSoFar found parted kept (position + 1) numbers' old now
  named_kept here is = record {
    many = ap length is ∙ length-append numbers (parted ∷ []) ∙ ap (λ n. n + 1) held.many;
    grown = held.grown;
    signatures = λ p d s other at_p named. ⊎_elim (λ before. held.signatures p d s other at_p before)
        (λ last. absurd (other (last.0 ∙ held.many ∙ here)))
        (slice_get-push_cases numbers parted p d (sym (ap (λ l. slice_get l p) is) ∙ named));
    kept_is = λ d named. ⊎_elim (λ before. held.kept_is d before) (λ last. sym last.1)
        (slice_get-push_cases numbers parted kept d (sym (ap (λ l. slice_get l kept) is) ∙ named));
  }

  pub named_new : (w : Vec ℕ) (signature : List ℕ) (new : List (Vec ℕ)) → (position ≡ kept → ⊥)
      → slice_get found position ≡ Some signature → w.items ≡ signature → numbers' ≡ numbers ++ length now ∷ [] → new ≡ now ++ w ∷ []
      → NamedSoFar found parted kept (position + 1) numbers' old new
  named_new w signature new other at_position reads is more = record {
    many = ap length is ∙ length-append numbers (length now ∷ []) ∙ ap (λ n. n + 1) held.many;
    grown = Grows-then old now new held.grown (record { added = w ∷ []; kept = more });
    signatures = λ p d s apart at_p named. ⊎_elim
        (λ before. let had = held.signatures p d s apart at_p before in
        (had.0, (had.1.0, ap (λ l. slice_get l d) more ∙ slice_get-append_left now (w ∷ []) d had.1.0 had.1.1, had.1.2)))
        (λ last. (
          subst (λ n. length old ≤ n) last.1 longer,
          (
            w,
            ap (λ l. slice_get l d) more ∙ ap (slice_get (now ++ w ∷ [])) (sym last.1) ∙ slice_get-last now w,
            reads ∙ same_Some signature s (sym at_position ∙ ap (slice_get found) (sym (last.0 ∙ held.many)) ∙ at_p),
          ),
        ))
        (slice_get-push_cases numbers (length now) p d (sym (ap (λ l. slice_get l p) is) ∙ named));
    kept_is = λ d named. ⊎_elim (λ before. held.kept_is d before)
        (λ last. absurd (other (sym held.many ∙ sym last.0)))
        (slice_get-push_cases numbers (length now) kept d (sym (ap (λ l. slice_get l kept) is) ∙ named));
  } where
    longer : length old ≤ length now
    longer = omega (arith, ap length held.grown.kept, length-append old held.grown.added)

pub named_all : (found : List (List ℕ)) (parted kept : ℕ) (numbers : List ℕ) (old now : List (Vec ℕ)) (w : Vec ℕ)
    → NamedSoFar found parted kept (length found) numbers old now → parted < length old → kept < length found
    → slice_get found kept ≡ Some w.items → AreNamed found parted kept numbers old (set now parted w)
named_all found parted kept numbers old now w held within kept_in at_kept = record {
  many = held.many;
  more = more;
  signatures = signatures;
  fresh = fresh;
  kept_is = held.kept_is;
  others = λ d s apart at_d. (
    at_d.0,
    slice_get-set_other now parted d w apart ∙ there_kept old now d at_d.0 held.grown at_d.1,
    at_d.2,
  );
} where
  long : length (set now parted w) ≡ length now
  long = length-set now parted w

  longer : length now ≡ length old + length held.grown.added
  longer = ap length held.grown.kept ∙ length-append old held.grown.added

  more : length old ≤ length (set now parted w)
  more = omega (arith, long, longer)

  signatures : (p d : ℕ) (s : List ℕ) → slice_get found p ≡ Some s → slice_get numbers p ≡ Some d
      → SignatureAt (set now parted w) d s
  signatures p d s at_p named = ⊎_elim
      (λ here.
      let is : d ≡ parted = held.kept_is d (ap (slice_get numbers) (sym here) ∙ named) in (
        w,
        ap (slice_get (set now parted w)) is ∙ slice_get-set_here now parted w (omega (arith, longer)),
        same_Some w.items s (sym at_kept ∙ ap (slice_get found) (sym here) ∙ at_p),
      ))
      (λ other.
      let had = held.signatures p d s other at_p named in
      (had.1.0, slice_get-set_other now parted d w (λ same. above had.0 same) ∙ had.1.1, had.1.2))
      (same_or_not p kept) where
        above : length old ≤ d → d ≡ parted → ⊥
        above high same = omega arith

  fresh : (p d : ℕ) → slice_get numbers p ≡ Some d → ((d ≡ parted) ⊎ (length old ≤ d)) × (d < length (set now parted w))
  fresh p d named = ⊎_elim
      (λ here. let is : d ≡ parted = held.kept_is d (ap (slice_get numbers) (sym here) ∙ named) in
      (inl is, omega (arith, long, longer, is)))
      (λ other.
      let at_p = slice_get_there found p (subst (λ n. p < n) held.many (slice_get_within numbers p d named)) in
      let had = held.signatures p d at_p.0 other at_p.1 named in
      (inr had.0, subst (λ n. d < n) (sym long) (slice_get_within now d had.1.0 had.1.1)))
      (same_or_not p kept)

-- ---- one move

pub moved_none : (inspected positions numbers class : List ℕ) → AreMoved inspected positions numbers 0 class class
moved_none inspected positions numbers class i = inr (λ k below. absurd (omega arith), refl)

pub moved_more : (inspected positions numbers : List ℕ) (k : ℕ) (old now : List ℕ) (position d : ℕ)
    → AreMoved inspected positions numbers k old now → k < length inspected → get_or inspected k 0 < length now
    → slice_get positions k ≡ Some position → slice_get numbers position ≡ Some d
    → AreMoved inspected positions numbers (k + 1) old (set now (get_or inspected k 0) d)
moved_more inspected positions numbers k old now position d held within room at_k named i = ⊎_elim
    (λ here. inl (record {
      at = k;
      position = position;
      before = omega arith;
      inspected_at = slice_get-get_or inspected k 0 within ∙ ap (λ n. Some n) (sym here);
      placed = at_k;
      named = named ∙ ap (λ n. Some n) (sym (ap (λ n. get_or (set now (get_or inspected k 0) d) n 0) here ∙ get_or-set_same now (get_or inspected k 0) d 0 room));
    }))
    (λ other. ⊎_elim
    (λ before. inl (record {
      at = before.at;
      position = before.position;
      before = omega (arith, before.before);
      inspected_at = before.inspected_at;
      placed = before.placed;
      named = before.named ∙ ap (λ n. Some n) (sym (get_or-set_other now (get_or inspected k 0) i d 0 other));
    }))
    (λ never. inr (
      λ j below at_j. ⊎_elim
          (λ last. other (same_Some i (get_or inspected k 0) (sym at_j ∙ ap (slice_get inspected) last ∙ slice_get-get_or inspected k 0 within)))
          (λ earlier. never.0 j (less earlier below) at_j) (same_or_not j k),
      get_or-set_other now (get_or inspected k 0) i d 0 other ∙ never.1,
    ))
    (held i))
    (same_or_not i (get_or inspected k 0)) where
      less : {j : ℕ} → j ≢ k → j < k + 1 → j < k
      less apart below = omega arith
