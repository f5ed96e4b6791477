-- Lemmas on fields that are compared one after another, and on the comparison of contents.
use Rattle.std.proofs.Common.{ℕ, zero, suc, ◌≡◌, ◌≢◌, ◌+◌, ◌<◌, ◌≤◌, ◌∙◌, Bool, true, false, List, [], ◌∷◌, ◌++◌, length, map, take, get_or, set, refl, sym, ap, subst, arith, add-one, append-nil}
use Rattle.std.specs.Prelude.{MatchBool, Result, Ok, Err}
use Rattle.std.specs.List.{AllZip}
use Rattle.std.proofs.lemmas.List.{ext_get_or, take_all, map_push, length-map}
use Rattle.base_data.specs.declared.model.out_of_memory.Memory.{Memory}
use Rattle.base_data.specs.declared.model.value.Val.{Val}
use Rattle.base_data.specs.declared.model.value.Obj.{Obj}
use Rattle.base_data.specs.declared.model.value.Obj.TheVariants as objects
use Rattle.marshal_spec.specs.format.Isomorphism.{Agree, AgreeObjects}
use Rattle.marshal_heap.specs.heap.Heap.{fields_of, bytes_of, doubles_of, kind_of, custom_object, IsOfKind}
use Rattle.base_data.specs.declared.model.code.Custom.{Custom}
use Rattle.base_data.specs.declared.model.code.Custom.TheVariants as customs
use Rattle.base_data.proofs.model.Lists.{AllZip-length}
use Rattle.marshal_heap.specs.declared.heap.kind.Kind.{Kind}
use Rattle.marshal_heap.specs.declared.heap.kind.Kind.TheVariants as kinds
use Rattle.marshal_heap.specs.isomorphism.Paired.{IsNew, IsIndex}
use Rattle.marshal_heap.specs.isomorphism.Meeting.{AreMet, CannotMeet, Meets}
use Rattle.marshal_heap.proofs.isomorphism.IndexLemmas.{IsIndex-push}
use Rattle.marshal_heap.proofs.isomorphism.MeetingLemmas.{met_then, cannot_then}
use Rattle.marshal_spec.proofs.canonical.CanonicalListLemmas.{AllZip-weaker}
use Rattle.marshal_spec.proofs.canonical.IsomorphismLemmas.{Agree-more}

-- ---- the index after one more pair

pub index_added : (table : List ℕ) (f : ℕ × ℕ → ℕ) (pairs after : List (ℕ × ℕ)) (p : ℕ × ℕ) (n : ℕ) → IsIndex table (map f pairs) → f p < length table → IsNew (map f pairs) (f p) → after ≡ pairs ++ p ∷ [] → n ≡ length pairs + 1 → IsIndex (set table (f p) n) (map f after)
index_added table f pairs after p n index less new e many =
    let keys : map f after ≡ map f pairs ++ f p ∷ [] = ap (map f) e ∙ map_push f pairs p in
    let position : n ≡ length (map f pairs) + 1 = omega (arith, length-map pairs f) in
    rw (keys, position) (IsIndex-push table (map f pairs) (f p) index less new)

-- ---- equal contents

pub same_content : (xs ys : List ℕ) (n : ℕ) → n ≡ length xs → n ≡ length ys → ((j : ℕ) → j < n → get_or xs j 0 ≡ get_or ys j 0) → xs ≡ ys
same_content xs ys n left right each = ext_get_or 0 xs ys (sym left ∙ right) (λ j less. each j (omega arith))

-- ---- fields

-- If the first `i` fields are related and field `i` is related, then the first `i + 1` fields are
-- related.
more_fields : {X : Type 0} (R : X → X → Type 0) (xs ys : List X) (i : ℕ) (d e : X) → i < length xs → i < length ys → AllZip R (take i xs) (take i ys) → R (get_or xs i d) (get_or ys i e) → AllZip R (take (suc i) xs) (take (suc i) ys)
more_fields R [] ys i d e less less' all one = absurd (omega arith)
more_fields R (x ∷ xs) [] i d e less less' all one = absurd (omega arith)
more_fields R (x ∷ xs) (y ∷ ys) zero d e less less' all one = (one, tt)
more_fields R (x ∷ xs) (y ∷ ys) (suc i) d e less less' all one = (all.0, more_fields R xs ys i d e (omega arith) (omega arith) all.1 one)

-- If all fields are related, then the first `i` fields are related and field `i` is related.
pub some_fields : {X : Type 0} (R : X → X → Type 0) (xs ys : List X) (i : ℕ) (d e : X) → i < length xs → i < length ys → AllZip R xs ys → AllZip R (take i xs) (take i ys) × R (get_or xs i d) (get_or ys i e)
some_fields R [] ys i d e less less' all = absurd (omega arith)
some_fields R (x ∷ xs) [] i d e less less' all = absurd (omega arith)
some_fields R (x ∷ xs) (y ∷ ys) zero d e less less' all = (tt, all.0)
some_fields R (x ∷ xs) (y ∷ ys) (suc i) d e less less' all = let r = some_fields R xs ys i d e (omega arith) (omega arith) all.1 in ((all.0, r.0), r.1)

fewer_fields : {X : Type 0} (R : X → X → Type 0) (xs ys : List X) (i : ℕ) (d e : X) → i < length xs → i < length ys → AllZip R (take (suc i) xs) (take (suc i) ys) → AllZip R (take i xs) (take i ys) × R (get_or xs i d) (get_or ys i e)
fewer_fields R [] ys i d e less less' all = absurd (omega arith)
fewer_fields R (x ∷ xs) [] i d e less less' all = absurd (omega arith)
fewer_fields R (x ∷ xs) (y ∷ ys) zero d e less less' all = (tt, all.0)
fewer_fields R (x ∷ xs) (y ∷ ys) (suc i) d e less less' all = let r = fewer_fields R xs ys i d e (omega arith) (omega arith) all.1 in ((all.0, r.0), r.1)

-- The fields of two blocks agree under the pairs.
abbrev pub AgreeFields : List Val → List Val → List (ℕ × ℕ) → Type 0
AgreeFields vs ws pairs = AllZip (Agree pairs) vs ws

pub fields_none : (old : List (ℕ × ℕ)) → AreMet old old (AgreeFields [] [])
fields_none old = record { kept = ([], sym (append-nil old)); agree_now = tt; needed = λ all one_to_one among agree. among }

pub fields_more : (old mid new : List (ℕ × ℕ)) (vs ws : List Val) (i : ℕ) (d e v w : Val) → i < length vs → i < length ws → v ≡ get_or vs i d → w ≡ get_or ws i e → AreMet old mid (AgreeFields (take i vs) (take i ws)) → AreMet mid new (λ all. Agree all v w) → AreMet old new (AgreeFields (take (i + 1) vs) (take (i + 1) ws))
fields_more old mid new vs ws i d e v w less less' is is' first second =
    rw add-one
    (met_then old mid new (AgreeFields (take i vs) (take i ws)) (λ all. Agree all v w) (AgreeFields (take (suc i) vs) (take (suc i) ws))
    (λ all agree. rw (is, is') (fewer_fields (Agree all) vs ws i d e less less' agree))
    (λ before among now. more_fields (Agree new) vs ws i d e less less'
    (AllZip-weaker (Agree mid) (Agree new) (take i vs) (take i ws) (λ x y. Agree-more mid new x y among) before)
    (rw (is, is') at now))
    first second)

pub fields_cannot : (old mid : List (ℕ × ℕ)) (vs ws : List Val) (i : ℕ) (d e v w : Val) → i < length vs → i < length ws → v ≡ get_or vs i d → w ≡ get_or ws i e → AreMet old mid (AgreeFields (take i vs) (take i ws)) → CannotMeet mid (λ all. Agree all v w) → CannotMeet old (AgreeFields vs ws)
fields_cannot old mid vs ws i d e v w less less' is is' first cannot =
    cannot_then old mid (AgreeFields (take i vs) (take i ws)) (λ all. Agree all v w) (AgreeFields vs ws)
    (λ all agree. rw (is, is') (some_fields (Agree all) vs ws i d e less less' agree))
    first cannot

pub fields_all : (old new : List (ℕ × ℕ)) (vs ws : List Val) (i : ℕ) → length vs ≤ i → length ws ≤ i → AreMet old new (AgreeFields (take i vs) (take i ws)) → AreMet old new (AgreeFields vs ws)
fields_all old new vs ws i past past' met =
    subst (λ xs. AreMet old new (AgreeFields xs ws)) (take_all i vs past)
    (subst (λ ys. AreMet old new (AgreeFields (take i vs) ys)) (take_all i ws past') met)

-- ---- objects

-- If two objects agree, then the two objects have the same kind.
agree_kinds : (pairs : List (ℕ × ℕ)) (a b : Obj) → AgreeObjects pairs a b → kind_of a ≡ kind_of b
agree_kinds pairs (objects.Block tag values) (objects.Block tag' values') agree =
    ap (λ t. kinds.Block t (length values)) agree.0 ∙ ap (λ n. kinds.Block tag' n) (AllZip-length (Agree pairs) values values' agree.1)
agree_kinds pairs (objects.Block tag values) b agree = absurd agree
agree_kinds pairs (objects.Bytes bytes) b agree = ap kind_of agree
agree_kinds pairs (objects.Double bits) b agree = ap kind_of agree
agree_kinds pairs (objects.Doubles all) b agree = ap kind_of agree
agree_kinds pairs (objects.I32 z) b agree = ap kind_of agree
agree_kinds pairs (objects.I64 z) b agree = ap kind_of agree
agree_kinds pairs (objects.Native z) b agree = ap kind_of agree

pub other_kinds : (old : List (ℕ × ℕ)) (a b : Obj) (k l : Kind) → k ≡ kind_of a → l ≡ kind_of b → k ≢ l → CannotMeet old (λ all. AgreeObjects all a b)
other_kinds old a b k l is is' differ all one_to_one among agree = differ (is ∙ agree_kinds all a b agree ∙ sym is')

pub Meets-same : (old new : List (ℕ × ℕ)) (A B : List (ℕ × ℕ) → Type 0) (r : Result Bool Memory) → ((all : List (ℕ × ℕ)) → A all → B all) → ((all : List (ℕ × ℕ)) → B all → A all) → Meets old new A r → Meets old new B r
Meets-same old new A B (Ok true) to from met = record {
  kept = met.kept;
  agree_now = to new met.agree_now;
  needed = λ all one_to_one among agree. met.needed all one_to_one among (from all agree);
}
Meets-same old new A B (Ok false) to from cannot = λ all one_to_one among agree. cannot all one_to_one among (from all agree)
Meets-same old new A B (Err memory) to from met = met

-- The Boolean `r` decides the proposition `P`, without any pairs.
abbrev IsTested : Bool → Type 0 → Type 0
IsTested r P = MatchBool r P (P → ⊥)

meets_tested : (old : List (ℕ × ℕ)) (P : Type 0) (r : Bool) → IsTested r P → Meets old old (λ _. P) (Ok r)
meets_tested old P true holds = record { kept = ([], sym (append-nil old)); agree_now = holds; needed = λ all one_to_one among agree. among }
meets_tested old P false fails = λ all one_to_one among agree. fails agree

-- Case: the compared objects are blocks.
pub blocks_meet : (old new : List (ℕ × ℕ)) (a b : Obj) (tag : ℕ) (r : Result Bool Memory) → a ≡ objects.Block tag (fields_of a) → b ≡ objects.Block tag (fields_of b) → Meets old new (AgreeFields (fields_of a) (fields_of b)) r → Meets old new (λ all. AgreeObjects all a b) r
blocks_meet old new a b tag r is is' met =
    Meets-same old new (AgreeFields (fields_of a) (fields_of b)) (λ all. AgreeObjects all a b) r
    (λ all agree. subst (λ x. AgreeObjects all x b) (sym is) (subst (λ y. AgreeObjects all (objects.Block tag (fields_of a)) y) (sym is') (refl, agree)))
    (λ all agree. (let both : AgreeObjects all (objects.Block tag (fields_of a)) (objects.Block tag (fields_of b)) = subst (λ y. AgreeObjects all (objects.Block tag (fields_of a)) y) is' (subst (λ x. AgreeObjects all x b) is agree) in both.1))
    met

-- Case: the compared objects have no fields.
leaf_meet : (old : List (ℕ × ℕ)) (a b x : Obj) (r : Bool) → a ≡ x → ((all : List (ℕ × ℕ)) → AgreeObjects all x b → x ≡ b) → ((all : List (ℕ × ℕ)) → x ≡ b → AgreeObjects all x b) → IsTested r (x ≡ b) → Meets old old (λ all. AgreeObjects all a b) (Ok r)
leaf_meet old a b x r is from to tested =
    Meets-same old old (λ _. x ≡ b) (λ all. AgreeObjects all a b) (Ok r)
    (λ all same. subst (λ y. AgreeObjects all y b) (sym is) (to all same))
    (λ all agree. from all (subst (λ y. AgreeObjects all y b) is agree))
    (meets_tested old (x ≡ b) r tested)

same_tested : (X : Type 0) (f : X → Obj) (part : Obj → X) (u v : X) (b : Obj) (r : Bool) → b ≡ f v → part (f u) ≡ u → part (f v) ≡ v → MatchBool r (u ≡ v) (u ≢ v) → IsTested r (f u ≡ b)
same_tested X f part u v b true is back back' same = ap f same ∙ sym is
same_tested X f part u v b false is back back' differ = λ e. differ (sym back ∙ ap part (e ∙ is) ∙ back')

pub strings_meet : (old : List (ℕ × ℕ)) (a b : Obj) (r : Bool) → a ≡ objects.Bytes (bytes_of a) → b ≡ objects.Bytes (bytes_of b) → MatchBool r (bytes_of a ≡ bytes_of b) (bytes_of a ≢ bytes_of b) → Meets old old (λ all. AgreeObjects all a b) (Ok r)
strings_meet old a b r is is' tested =
    leaf_meet old a b (objects.Bytes (bytes_of a)) r is (λ all e. e) (λ all e. e)
    (same_tested (List ℕ) (λ x. objects.Bytes x) bytes_of (bytes_of a) (bytes_of b) b r is' refl refl tested)

pub arrays_meet : (old : List (ℕ × ℕ)) (a b : Obj) (r : Bool) → a ≡ objects.Doubles (doubles_of a) → b ≡ objects.Doubles (doubles_of b) → MatchBool r (doubles_of a ≡ doubles_of b) (doubles_of a ≢ doubles_of b) → Meets old old (λ all. AgreeObjects all a b) (Ok r)
arrays_meet old a b r is is' tested =
    leaf_meet old a b (objects.Doubles (doubles_of a)) r is (λ all e. e) (λ all e. e)
    (same_tested (List ℕ) (λ x. objects.Doubles x) doubles_of (doubles_of a) (doubles_of b) b r is' refl refl tested)

one_double : (a : Obj) (bits : ℕ) → a ≡ objects.Double bits → doubles_of a ≡ bits ∷ []
one_double a bits is = ap doubles_of is

pub doubles_meet : (old : List (ℕ × ℕ)) (a b : Obj) (m n : ℕ) (r : Bool) → a ≡ objects.Double m → b ≡ objects.Double n → MatchBool r (doubles_of a ≡ doubles_of b) (doubles_of a ≢ doubles_of b) → Meets old old (λ all. AgreeObjects all a b) (Ok r)
doubles_meet old a b m n r is is' tested =
    leaf_meet old a b (objects.Double m) r is (λ all e. e) (λ all e. e) (by_test r tested) where
      by_test : (r : Bool) → MatchBool r (doubles_of a ≡ doubles_of b) (doubles_of a ≢ doubles_of b) → IsTested r (objects.Double m ≡ b)
      by_test true same =
          let e : m ∷ [] ≡ n ∷ [] = sym (one_double a m is) ∙ same ∙ one_double b n is' in
          let bits : m ≡ n = cc in
          ap (λ x. objects.Double x) bits ∙ sym is'
      by_test false differ = λ e. differ (ap doubles_of (is ∙ e))

pub customs_meet : (old : List (ℕ × ℕ)) (a b : Obj) (c : Custom) → a ≡ custom_object c → b ≡ custom_object c → Meets old old (λ all. AgreeObjects all a b) (Ok true)
customs_meet old a b (customs.I32 z) is is' = leaf_meet old a b (objects.I32 z) true is (λ all e. e) (λ all e. e) (sym is')
customs_meet old a b (customs.I64 z) is is' = leaf_meet old a b (objects.I64 z) true is (λ all e. e) (λ all e. e) (sym is')
customs_meet old a b (customs.Native z) is is' = leaf_meet old a b (objects.Native z) true is (λ all e. e) (λ all e. e) (sym is')

-- If the test of two kinds succeeds, then the two objects have the same kind.
pub both_of_kind : (k l m : Kind) (a b : Obj) (r : Bool) → IsOfKind k a → IsOfKind l b → MatchBool r (k ≡ l) (k ≢ l) → r ≡ true → k ≡ m → IsOfKind m a × IsOfKind m b
both_of_kind k l m a b r of_a of_b test yes' is =
    let same : k ≡ l = subst (λ t. MatchBool t (k ≡ l) (k ≢ l)) yes' test in
    (subst (λ x. IsOfKind x a) is of_a, subst (λ x. IsOfKind x b) (sym same ∙ is) of_b)
