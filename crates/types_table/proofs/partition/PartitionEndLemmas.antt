-- The initial and the final state of the refinement.
use Rattle.std.proofs.Common.{ℕ, zero, suc, ◌<◌, ◌≤◌, ◌+◌, ◌≡◌, ◌∙◌, ⊎_elim, ◌⊎◌, inl, inr, List, [], ◌∷◌, ◌++◌, Some, refl, sym, ap, subst, length, get_or, arith}
use Rattle.std.specs.Prelude.{Contains, slice_get, slice_index, All}
use Rattle.std.specs.Global.{Vec}
use Rattle.std.proofs.lemmas.List.Elements.{Contains-get_or, Contains-push, Contains-push_cases, Contains-append_left}
use Rattle.std.proofs.lemmas.Option.{same_Some, slice_get-get_or, slice_get_within}
use Rattle.base_data.proofs.model.Options.{Contains-first, Contains-none, Contains-cases, same_or_not}
use Rattle.base_data.proofs.model.Lists.{AllZip-length}
use Rattle.types_spec.specs.declared.types.head.HeadOf.{HeadOf}
use Rattle.types_spec.specs.types.Table.{head_at}
use Rattle.types_spec.specs.types.Classes.{AreTogether, PartsBelow, IsStable}
use Rattle.types_theory.proofs.equality.EqualityAgreeLemmas.{HeadsAgree-more}
use Rattle.types_theory.proofs.equality.ClassLemmas.{stable_is_equal}
use Rattle.types_table.specs.declared.partition.head_form.HeadForm.{HeadForm}
use Rattle.types_table.specs.declared.partition.class_inspection.Inspection.{Inspection}
use Rattle.types_table.specs.partition.Form.{AreForms}
use Rattle.types_table.specs.partition.Users.{AreUsers}
use Rattle.types_table.specs.partition.Lists.{Has, Keeps, IsTaken, HasRooms, KeepsMembers}
use Rattle.types_table.specs.partition.Refinement.{IsReady, MarksUsers, IsSignatureOf, SignatureAt, SignedAt, AreNamed, AreMoved, HasMembers, IsInspection, IsUnderWay, IsOpen, PartsNoEqual}
use Rattle.types_table.specs.partition.Start.{KeepsEqual, IsParted}
use Rattle.types_table.specs.partition.FoundClasses.{AreClasses}
use Rattle.types_table.proofs.partition.PartitionTurnLemmas.{AllZip-at, agree_at, keeps_new, settled_new, has_new, within_new}

-- ---- the end

ended_same : (all : List (HeadOf ℕ)) (forms : List HeadForm) (class : List ℕ) → AreForms all forms
    → PartsBelow (length all) (head_at all) → IsParted forms class → IsStable (length all) (head_at all) (slice_index class)
ended_same all forms class are parts parted i j together =
    let many : length all ≡ length class = AllZip-length _ all forms are.are ∙ sym parted.many in
    let one = parted.settled i (subst (λ n. i < n) many together.first) in
    let two = parted.settled j (subst (λ n. j < n) many together.second) in
    let list = same_Some one.1.0 two.1.0 (sym one.1.1 ∙ ap (slice_get parted.signatures) together.same ∙ two.1.1) in
    let signature : one.0 ≡ two.0 = sym one.1.2 ∙ ap (λ (v : Vec ℕ). v.items) list ∙ two.1.2 in
    HeadsAgree-more (λ a b. slice_index class a ≡ slice_index class b) (AreTogether (length all) (slice_index class))
    (head_at all i) (head_at all j)
    (λ k l among among' same. record {
      first = parts i k together.first among;
      second = parts j l together.second among';
      same = same;
    })
    (agree_at all forms are (slice_index class) i j two.0 (subst (IsSignatureOf forms (slice_index class) i) signature one.2) two.2)

pub ended : (all : List (HeadOf ℕ)) (forms : List HeadForm) (class : List ℕ) → AreForms all forms
    → PartsBelow (length all) (head_at all) → IsParted forms class → AreClasses all class
ended all forms class are parts parted = record {
  many = sym many;
  same = λ i j below below'. (
    λ same. stable_is_equal (length all) (head_at all) (slice_index class) (ended_same all forms class are parts parted)
        i j (record {
          first = below;
          second = below';
          same = same_Some (slice_index class i) (slice_index class j)
              (sym (at i below) ∙ same ∙ at j below');
        }),
    λ equal. at i below ∙ ap (λ n. Some n) (parted.keeps all are parts i j below below' equal).same ∙ sym (at j below'),
  );
} where
  many : length all ≡ length class
  many = AllZip-length _ all forms are.are ∙ sym parted.many

  at : (i : ℕ) → i < length all → slice_get class i ≡ Some (slice_index class i)
  at i below = slice_get-get_or class i 0 (subst (λ n. i < n) many below)

-- If `todo` is empty, then each number has the signature of its class.
pub none_waits : (forms : List HeadForm) (class : List ℕ) (signatures members waiting : List (Vec ℕ)) (todo : List ℕ)
    → IsUnderWay forms class signatures members waiting todo → todo ≡ [] → KeepsEqual forms class → IsParted forms class
none_waits forms class signatures members waiting todo under none keeps = record {
  many = under.many;
  signatures = signatures;
  settled = λ i below. ⊎_elim
      (λ waits. absurd (Contains-none (slice_index class i) (subst (λ l. Contains l (slice_index class i)) none
      (under.ready.has (slice_index class i) i waits))))
      (λ done. done) (under.settled i below);
  keeps = keeps;
}

-- ---- the start

pub zero_more : (old new : List ℕ) → ((i : ℕ) → slice_index old i ≡ 0) → new ≡ old ++ 0 ∷ [] → (i : ℕ) → slice_index new i ≡ 0
zero_more old new zeros is i = ap (λ l. get_or l i 0) is ∙ last old i zeros where
  last : (xs : List ℕ) (i : ℕ) → ((k : ℕ) → get_or xs k 0 ≡ 0) → get_or (xs ++ 0 ∷ []) i 0 ≡ 0
  last [] zero all = refl
  last [] (suc i) all = refl
  last (x ∷ xs) zero all = all 0
  last (x ∷ xs) (suc i) all = last xs i (λ k. all (suc k))

pub below_more : (old new : List ℕ) (n : ℕ) → ((i : ℕ) → i < n → Contains old i) → new ≡ old ++ n ∷ []
    → (i : ℕ) → i < n + 1 → Contains new i
below_more old new n all is i below = subst (λ l. Contains l i) (sym is) (⊎_elim
    (λ here. subst (Contains (old ++ n ∷ [])) (sym here) (Contains-push old n))
    (λ before. Contains-append_left old (n ∷ []) i (all i (less before below))) (same_or_not i n)) where
      less : (i ≡ n → ⊥) → i < n + 1 → i < n
      less apart under = omega arith

pub started : (forms : List HeadForm) (class : List ℕ) (signatures members waiting : List (Vec ℕ)) (todo : List ℕ)
    (v m w : Vec ℕ) → length class ≡ length forms → ((i : ℕ) → slice_index class i ≡ 0) → signatures ≡ v ∷ []
    → members ≡ m ∷ [] → waiting ≡ w ∷ [] → ((i : ℕ) → i < length forms → Contains m.items i)
    → ((i : ℕ) → i < length forms → Contains w.items i) → todo ≡ 0 ∷ []
    → IsUnderWay forms class signatures members waiting todo
started forms class signatures members waiting todo v m w many zeros is is_members is_waiting members_all waiting_all is_todo =
    record {
      many = many;
      within = λ i. omega (arith, zeros i, ap length is);
      rooms = ap length is_members ∙ sym (ap length is);
      waits = ap length is_waiting ∙ sym (ap length is);
      has = λ i below. (
        m,
        ap (slice_get members) (zeros i) ∙ ap (λ l. slice_get l 0) is_members,
        members_all i (subst (λ n. i < n) many below),
      );
      settled = λ i below. inl (
        w,
        ap (slice_get waiting) (zeros i) ∙ ap (λ l. slice_get l 0) is_waiting,
        waiting_all i (subst (λ n. i < n) many below),
      );
      ready = record {
        has = λ d y has. subst (λ l. Contains l d) (sym is_todo)
            (only d has.0 (sym (ap (λ l. slice_get l d) is_waiting) ∙ has.1));
        within = λ d among. subst (λ l. d < length l) (sym is_waiting)
            (zero_in d (subst (λ l. Contains l d) is_todo among));
      };
    } where
      only : (d : ℕ) (u : Vec ℕ) → slice_get (w ∷ []) d ≡ Some u → Contains (0 ∷ []) d
      only zero u at_d = Contains-first 0 []
      only (suc d) u at_d = cc

      zero_in : (d : ℕ) → Contains (0 ∷ []) d → d < 1
      zero_in d among = ⊎_elim (λ here. omega arith) (λ later. absurd (Contains-none d later)) (Contains-cases 0 [] d among)

pub one_class : (forms : List HeadForm) (class : List ℕ) → ((i : ℕ) → slice_index class i ≡ 0) → KeepsEqual forms class
one_class forms class zeros all are parts i j below below' equal = record {
  first = below;
  second = below';
  same = zeros i ∙ sym (zeros j);
}

pub keeps_then : (forms : List HeadForm) (old new : List ℕ) → KeepsEqual forms old → PartsNoEqual forms old new
    → KeepsEqual forms new
keeps_then forms old new keeps parts all are below = parts all are below (keeps all are below)

-- ---- a class is taken and split

pub opened : (forms : List HeadForm) (class : List ℕ) (signatures members waiting new : List (Vec ℕ)) (todo taken : List ℕ) (c : ℕ)
    → IsUnderWay forms class signatures members waiting (todo ++ c ∷ []) → IsTaken waiting c taken new
    → IsOpen forms class signatures members new todo taken c
opened forms class signatures members waiting new todo taken c under is = record {
  many = under.many;
  inside = subst (λ n. c < n) under.waits (under.ready.within c (Contains-push todo c));
  within = under.within;
  rooms = under.rooms;
  waits = is.many ∙ under.waits;
  has = under.has;
  here = λ i below same. ⊎_elim (λ waits. inl (is.there i (subst (λ d. Has waiting d i) same waits)))
      (λ done. inr (done.0, subst (λ d. SignatureAt signatures d done.0) same done.1, done.2)) (under.settled i below);
  settled = λ i below other. ⊎_elim (λ waits. inl (is.kept (slice_index class i) i other waits))
      (λ done. inr done) (under.settled i below);
  ready = record {
    has = λ d y has. let was = is.back d y has in ⊎_elim (λ before. before) (λ last. absurd (was.0 (sym last)))
        (Contains-push_cases todo c d (under.ready.has d y was.1));
    within = λ d among. subst (λ n. d < n) (sym is.many) (under.ready.within d (Contains-append_left todo (c ∷ []) d among));
  };
}

pub open_members : (forms : List HeadForm) (class : List ℕ) (signatures members now waiting : List (Vec ℕ)) (todo taken : List ℕ) (c : ℕ)
    → KeepsMembers class members now → IsOpen forms class signatures members waiting todo taken c
    → IsOpen forms class signatures now waiting todo taken c
open_members forms class signatures members now waiting todo taken c keeps was = record {
  many = was.many;
  inside = was.inside;
  within = was.within;
  rooms = keeps.many ∙ was.rooms;
  waits = was.waits;
  has = λ i below. keeps.kept i below (was.has i below);
  here = was.here;
  settled = was.settled;
  ready = was.ready;
}

pub open_same : (forms : List HeadForm) (class class' : List ℕ) (signatures signatures' members waiting waiting' : List (Vec ℕ))
    (todo todo' taken : List ℕ) (c : ℕ) → class' ≡ class → signatures' ≡ signatures → waiting' ≡ waiting → todo' ≡ todo
    → IsOpen forms class signatures members waiting todo taken c → IsOpen forms class' signatures' members waiting' todo' taken c
open_same forms class class' signatures signatures' members waiting waiting' todo todo' taken c one two three four was =
    subst (λ l. IsOpen forms l signatures' members waiting' todo' taken c) (sym one)
    (subst (λ l. IsOpen forms class l members waiting' todo' taken c) (sym two)
    (subst (λ l. IsOpen forms class signatures members l todo' taken c) (sym three)
    (subst (λ l. IsOpen forms class signatures members waiting l taken c) (sym four) was)))

module _ (forms : List HeadForm) (class : List ℕ) (parted : ℕ) (inspect : Inspection) (is_inspection : IsInspection forms class parted inspect) where
  pub inspected_in : All (λ i. i < length class) inspect.inspected.items
  inspected_in k d below = (is_inspection.is (get_or inspect.inspected.items k d) (Contains-get_or inspect.inspected.items k d below)).0

  pub positions_long : length inspect.positions.items ≡ length inspect.inspected.items
  positions_long = sym (AllZip-length (SignedAt forms (slice_index class) inspect.found) inspect.inspected.items inspect.positions.items is_inspection.signed)

  pub positions_in : All (λ p. p < length inspect.found) inspect.positions.items
  positions_in k d below =
      let at_inspected = slice_get-get_or inspect.inspected.items k 0 (subst (λ n. k < n) positions_long below) in
      let at_position = slice_get-get_or inspect.positions.items k d below in
      let s = AllZip-at (SignedAt forms (slice_index class) inspect.found) inspect.inspected.items inspect.positions.items k _ _
      is_inspection.signed at_inspected at_position in
      slice_get_within inspect.found (get_or inspect.positions.items k d) s.0 s.1

module _ (forms : List HeadForm) (users : List (Vec ℕ)) (o w : List ℕ) (signatures signatures' members rooms members' waiting waits waiting' : List (Vec ℕ))
    (todo todo' waited : List ℕ) (c : ℕ) (inspect : Inspection) (numbers : List ℕ)
    (open' : IsOpen forms o signatures members waiting todo waited c) (is_inspection : IsInspection forms o c inspect)
    (named : AreNamed inspect.found c inspect.kept numbers signatures signatures')
    (moved : AreMoved inspect.inspected.items inspect.positions.items numbers (length inspect.inspected.items) o w) where
  pub part_keeps : PartsNoEqual forms o w
  part_keeps all are parts keeps = keeps_new forms o w c inspect numbers signatures signatures' is_inspection named moved all are
      (AllZip-length _ all forms are.are ∙ sym open'.many) parts keeps

  pub part_within : (i : ℕ) → slice_index w i < length signatures'
  part_within = within_new forms o w c inspect numbers signatures signatures' is_inspection named moved open'.within

  pub part_under : length w ≡ length o → HasRooms members (length signatures') rooms → Keeps rooms members'
      → HasMembers w c inspect.inspected.items members' → HasRooms waiting (length signatures') waits → Keeps waits waiting'
      → IsReady waiting' todo' → AreUsers forms users → MarksUsers w users c inspect.inspected.items waiting'
      → IsUnderWay forms w signatures' members' waiting' todo'
  part_under long more keeps added more' keeps' ready uses marked = record {
    many = long ∙ open'.many;
    within = part_within;
    rooms = keeps.many ∙ more.many;
    waits = keeps'.many ∙ more'.many;
    has = λ i below. has_new forms o w c inspect numbers signatures signatures' is_inspection named moved members members'
        (λ d y has. keeps.kept d y (more.there d y has)) added open'.has i (subst (λ n. i < n) long below);
    settled = λ i below. settled_new forms o w c inspect numbers signatures signatures' is_inspection named moved users waiting waiting'
        open'.many uses (λ d y has. keeps'.kept d y (more'.there d y has)) marked open'.settled i
        (subst (λ n. i < n) long below);
    ready = ready;
  }

-- Adding empty lists preserves `IsReady`.
pub ready_rooms : (waiting new : List (Vec ℕ)) (todo : List ℕ) (many : ℕ) → IsReady waiting todo → HasRooms waiting many new
    → length waiting ≤ many → IsReady new todo
ready_rooms waiting new todo many ready more longer = record {
  has = λ d y has. ready.has d y (more.back d y has);
  within = λ d among. omega (arith, ready.within d among, more.many);
}

pub settled_as : (forms : List HeadForm) (o o' : List ℕ) (signatures signatures' : List (Vec ℕ)) (waited : List ℕ) (c : ℕ) → o' ≡ o
    → signatures' ≡ signatures
    → ((i : ℕ) → i < length o → slice_index o i ≡ c → Contains waited i
    ⊎ ((s : List ℕ) × SignatureAt signatures c s × IsSignatureOf forms (slice_index o) i s))
    → (i : ℕ) → i < length o' → slice_index o' i ≡ c → Contains waited i
    ⊎ ((s : List ℕ) × SignatureAt signatures' c s × IsSignatureOf forms (slice_index o') i s)
settled_as forms o o' signatures signatures' waited c is is_signatures settled =
    subst (λ l. (i : ℕ) → i < length l → slice_index l i ≡ c → Contains waited i
    ⊎ ((s : List ℕ) × SignatureAt signatures' c s × IsSignatureOf forms (slice_index l) i s)) (sym is)
    (subst (λ l. (i : ℕ) → i < length o → slice_index o i ≡ c → Contains waited i
    ⊎ ((s : List ℕ) × SignatureAt l c s × IsSignatureOf forms (slice_index o) i s)) (sym is_signatures) settled)

-- If each number is a member of its class, then the list of class `c` contains all numbers of class
-- `c`.
pub members_there : (o o' : List ℕ) (members : List (Vec ℕ)) (c : ℕ) (v : Vec ℕ) (list : List ℕ) → o' ≡ o
    → slice_get members c ≡ Some v → list ≡ v.items → ((i : ℕ) → i < length o → Has members (slice_index o i) i)
    → (i : ℕ) → i < length o' → slice_index o' i ≡ c → Contains list i
members_there o o' members c v list is at_c is_list has i below same =
    let there = has i (subst (λ l. i < length l) is below) in
    let at_i : slice_index o i ≡ c = sym (ap (λ l. slice_index l i) is) ∙ same in
    subst (λ l. Contains l i) (sym is_list) (subst (λ (u : Vec ℕ). Contains u.items i)
    (same_Some there.0 v (sym there.1 ∙ ap (slice_get members) at_i ∙ at_c)) there.2)

pub moved_as : (a a' b b' d d' o w : List ℕ) → a ≡ a' → b ≡ b' → d ≡ d' → AreMoved a b d (length a) o w
    → AreMoved a' b' d' (length a') o w
moved_as a a' b b' d d' o w one two three moved =
    subst (λ l. AreMoved l b' d' (length l) o w) one
    (subst (λ l. AreMoved a l d' (length a) o w) two
    (subst (λ l. AreMoved a b l (length a) o w) three moved))

pub has_as : (w w' : List ℕ) (c : ℕ) (inspected inspected' : List ℕ) (members : List (Vec ℕ)) → w ≡ w' → inspected ≡ inspected'
    → HasMembers w c inspected members → HasMembers w' c inspected' members
has_as w w' c inspected inspected' members is is_inspected has =
    subst (λ l. HasMembers l c inspected' members) is (subst (λ l. HasMembers w c l members) is_inspected has)

pub marks_as : (w w' : List ℕ) (users : List (Vec ℕ)) (c : ℕ) (inspected inspected' : List ℕ) (waiting : List (Vec ℕ)) → w ≡ w'
    → inspected ≡ inspected' → MarksUsers w users c inspected waiting → MarksUsers w' users c inspected' waiting
marks_as w w' users c inspected inspected' waiting is is_inspected marks =
    subst (λ l. MarksUsers l users c inspected' waiting) is (subst (λ l. MarksUsers w users c l waiting) is_inspected marks)

pub All-as : (n m : ℕ) (xs ys : List ℕ) → n ≡ m → xs ≡ ys → All (λ i. i < n) xs → All (λ i. i < m) ys
All-as n m xs ys is same all = subst (λ k. All (λ i. i < k) ys) is (subst (λ l. All (λ i. i < n) l) same all)

pub none_zero : (xs : List ℕ) → xs ≡ [] → (i : ℕ) → slice_index xs i ≡ 0
none_zero xs none i = ap (λ l. slice_index l i) none
