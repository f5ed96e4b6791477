-- Lemmas on the numbers of a header, token by token.
use Rattle.std.proofs.Common.{ℕ, zero, suc, ◌≡◌, ◌+◌, ◌*◌, ◌-◌, ◌<◌, ◌≤◌, ◌^◌, ◌∙◌, ◌||◌, leb, leb-false, List, [], ◌∷◌, ◌++◌, length, map, take, drop, Some, refl, sym, ap, subst, arith, length-append, append-nil}
use Rattle.std.specs.Prelude.{slice_get, sum_by, flat_map}
use Rattle.std.proofs.lemmas.List.{map-append, take-append-drop}
use Rattle.std.proofs.Math.Seq.{take-length}
use Rattle.std.proofs.lemmas.List.Sums.{sum_by-append, sum_by-cons}
use Rattle.std.proofs.lemmas.Bool.{or_parts}
use Rattle.base_data.specs.declared.model.code.Measure.{Measure}
use Rattle.base_data.specs.declared.model.code.Measure.TheVariants as measures
use Rattle.base_data.specs.declared.model.value.Obj.{Obj}
use Rattle.base_data.specs.declared.model.value.Obj.TheVariants as objs
use Rattle.marshal_spec.specs.format.Words.{of_object, words32, words64, objects, all_words32, all_words64}
use Rattle.marshal_spec.specs.format.Token.{Token, integer, atom, shared, block, leaf, measure_of}
use Rattle.marshal_spec.specs.format.Tree.{Tree, tokens, made_by}
use Rattle.marshal_spec.specs.format.Canonical.{double_bytes, doubles_prefix, encoding, data_encoding, canonical_head}
use Rattle.marshal_spec.specs.format.Isomorphism.{IsTreeOf}
use Rattle.marshal_spec.proofs.canonical.Walk.{has_one_tree}
use Rattle.marshal_spec.proofs.canonical.CanonLemmas.{length-doubles}
use Rattle.marshal_codec.specs.headers.Encoding.{FitsSmall}
use Rattle.marshal_write.specs.write.WriteStep.{IsNext, token_in}
use Rattle.marshal_write.specs.write.TokenSums.{token_totals, object_totals, totals_of, plus, FitTotals}
use Rattle.marshal_write.specs.write.WriteWalk.{IsWalk}
use Rattle.marshal_write.specs.declared.write.measure.WriteTotals.{WriteTotals}
use Rattle.marshal_write.specs.declared.write.write_walk.WriteStep.{WriteStep}
use Rattle.marshal_write.specs.declared.write.write_walk.WriteWalk.{WriteWalk}
use Rattle.marshal_write.proofs.write.WriterNextLemmas.{IsBounded, bounded}
use Rattle.marshal_write.proofs.write.WriterSizeLemmas.{length-data, few_words32}

-- ---- one more token

pub take_one : {X : Type 0} (n : ℕ) (xs : List X) (x : X) → slice_get xs n ≡ Some x → take (n + 1) xs ≡ take n xs ++ x ∷ []
take_one zero [] x is = absurd (cc)
take_one zero (y ∷ xs) x is = cc
take_one (suc n) [] x is = absurd (cc)
take_one (suc n) (y ∷ xs) x is = let position : suc n + 1 ≡ suc (n + 1) = omega arith in rw position (ap (λ zs. y ∷ zs) (take_one n xs x is))

words-append : (f : Measure → ℕ) (xs ys : List Token) → sum_by (of_object f) (map measure_of (xs ++ ys)) ≡ sum_by (of_object f) (map measure_of xs) + sum_by (of_object f) (map measure_of ys)
words-append f xs ys = ap (sum_by (of_object f)) (map-append measure_of xs ys) ∙ sum_by-append (of_object f) (map measure_of xs) (map measure_of ys)

words-one : (f : Measure → ℕ) (t : Token) → sum_by (of_object f) (map measure_of (t ∷ [])) ≡ of_object f (measure_of t)
words-one f t = omega (arith, sum_by-cons (of_object f) (measure_of t) [])

pub totals-append : (xs ys : List Token) → totals_of (xs ++ ys) ≡ plus (totals_of xs) (totals_of ys)
totals-append xs ys = rw (length-data xs ys, words-append (λ _. 1) xs ys, words-append words32 xs ys, words-append words64 xs ys) refl

totals-one : (t : Token) → totals_of (t ∷ []) ≡ token_totals t
totals-one t =
    let bytes : length (encoding t ++ []) ≡ length (encoding t) = ap length (append-nil (encoding t)) in
    rw (bytes, words-one (λ _. 1) t, words-one words32 t, words-one words64 t) refl

pub totals-take : (n : ℕ) (ts : List Token) (t : Token) → slice_get ts n ≡ Some t → totals_of (take (n + 1) ts) ≡ plus (totals_of (take n ts)) (token_totals t)
totals-take n ts t is = ap totals_of (take_one n ts t is) ∙ totals-append (take n ts) (t ∷ []) ∙ ap (plus (totals_of (take n ts))) (totals-one t)

-- ---- each number fits

object_word : (t : Token) → made_by t ≤ of_object words64 (measure_of t)
object_word (integer z) = omega arith
object_word (atom tag) = omega arith
object_word (shared offset) = omega arith
object_word (block tag size) = omega arith
object_word (leaf (objs.Block tag vs)) = omega arith
object_word (leaf (objs.Bytes bytes)) = omega arith
object_word (leaf (objs.Double bits)) = omega arith
object_word (leaf (objs.Doubles all)) = omega arith
object_word (leaf (objs.I32 z)) = omega arith
object_word (leaf (objs.I64 z)) = omega arith
object_word (leaf (objs.Native z)) = omega arith

few_objects : (ts : List Token) → objects (map measure_of ts) ≤ all_words64 (map measure_of ts)
few_objects [] = omega arith
few_objects (t ∷ ts) =
    omega (arith, sum_by-cons (of_object (λ _. 1)) (measure_of t) (map measure_of ts), sum_by-cons (of_object words64) (measure_of t) (map measure_of ts), object_word t, few_objects ts)

all_fit : (tree : Tree) → IsBounded tree → FitTotals (totals_of (tokens tree))
all_fit tree b = record {
  length = omega (arith, b.words, b.bytes);
  objects = omega (arith, b.words, few_objects (tokens tree));
  w32 = omega (arith, b.words, few_words32 (tokens tree));
  w64 = omega (arith, b.words);
}

prefix_fits : (a b : WriteTotals) → FitTotals (plus a b) → FitTotals a
prefix_fits a b h = record { length = omega (arith, h.length); objects = omega (arith, h.objects); w32 = omega (arith, h.w32); w64 = omega (arith, h.w64) }

pub some_fit : (n : ℕ) (tree : Tree) → IsBounded tree → FitTotals (totals_of (take n (tokens tree)))
some_fit n tree b =
    let whole : totals_of (tokens tree) ≡ plus (totals_of (take n (tokens tree))) (totals_of (drop n (tokens tree))) =
    ap totals_of (sym (take-append-drop n (tokens tree))) ∙ totals-append (take n (tokens tree)) (drop n (tokens tree)) in
    prefix_fits (totals_of (take n (tokens tree))) (totals_of (drop n (tokens tree))) (subst FitTotals whole (all_fit tree b))

pub all_taken : {X : Type 0} (n : ℕ) (ts : List X) → n ≡ length ts → take n ts ≡ ts
all_taken n ts is = ap (λ m. take m ts) is ∙ take-length ts

-- ---- an iteration of a loop over a walk

-- The walk returned this step, and is now before the token after the step.
abbrev pub Gave : List Obj → WriteWalk → WriteWalk → WriteStep → Type 0
Gave g walk new step = (tree : Tree) → IsTreeOf g walk.root tree → IsNext g (tokens tree) walk.given (Some step) new.given

pub given_falls : (g : List Obj) (walk new : WriteWalk) (step : WriteStep) → IsWalk g walk → IsWalk g new → new.root ≡ walk.root → Gave g walk new step → 2 ^ 64 - new.given < 2 ^ 64 - walk.given
given_falls g walk new step w n root gave =
    let t = has_one_tree g walk.root w.heap.is_graph w.value in
    let b = bounded g walk.root t.tree w.heap w.value t.is in
    let at = n.at t.tree (subst (λ r. IsTreeOf g r t.tree) (sym root) t.is) in
    omega (arith, (gave t.tree t.is).1, at.within, b.words, b.bytes, b.tokens)

-- `totals` are the totals of the tokens that the walk returned so far.
abbrev pub AreTotals : List Obj → WriteWalk → WriteTotals → Type 0
AreTotals g walk totals = (tree : Tree) → IsTreeOf g walk.root tree → totals ≡ totals_of (take walk.given (tokens tree))

pub totals_next : (g : List Obj) (walk new : WriteWalk) (step : WriteStep) (totals : WriteTotals) → Gave g walk new step → AreTotals g walk totals
    → (tree : Tree) → IsTreeOf g walk.root tree → plus totals (token_totals (token_in g step)) ≡ totals_of (take new.given (tokens tree))
totals_next g walk new step totals gave are tree is_of =
    let r = gave tree is_of in
    ap (λ x. plus x (token_totals (token_in g step))) (are tree is_of)
    ∙ sym (totals-take walk.given (tokens tree) (token_in g step) r.0)
    ∙ ap (λ n. totals_of (take n (tokens tree))) (sym r.1)

pub totals_fit : (g : List Obj) (walk new : WriteWalk) (step : WriteStep) (totals : WriteTotals) → IsWalk g walk → Gave g walk new step → AreTotals g walk totals → FitTotals (plus totals (token_totals (token_in g step)))
totals_fit g walk new step totals w gave are =
    let t = has_one_tree g walk.root w.heap.is_graph w.value in
    subst FitTotals (sym (totals_next g walk new step totals gave are t.tree t.is)) (some_fit new.given t.tree (bounded g walk.root t.tree w.heap w.value t.is))

-- The totals of an array of doubles are the totals of one object with its prefix and eight bytes
-- for each double.
pub doubles_totals : (o : Obj) (all : List ℕ) (prefix n : ℕ) → o ≡ objs.Doubles all → n ≡ length all → prefix ≡ length (doubles_prefix n) → object_totals (prefix + 8 * n) (measures.Doubles n) ≡ token_totals (leaf o)
doubles_totals o all prefix n is many first =
    let bytes : length (doubles_prefix (length all) ++ flat_map double_bytes all) ≡ prefix + 8 * n =
    length-append (doubles_prefix (length all)) (flat_map double_bytes all) ∙ ap (λ m. length (doubles_prefix (length all)) + m) (length-doubles all)
    ∙ ap (λ m. length (doubles_prefix m) + 8 * m) (sym many) ∙ ap (λ m. m + 8 * n) (sym first) in
    ap (λ m. object_totals m (measures.Doubles n)) (sym bytes)
    ∙ ap (λ m. object_totals (length (doubles_prefix (length all) ++ flat_map double_bytes all)) (measures.Doubles m)) many
    ∙ sym (ap (λ x. token_totals (leaf x)) is)

-- ---- the header

-- If a header is small, then each number of the header fits in four bytes.
pub canonical_fits : (ts : List Token) → FitsSmall (canonical_head ts)
canonical_fits ts small =
    let n = length (data_encoding ts) in
    let w32 = all_words32 (map measure_of ts) in
    let w64 = all_words64 (map measure_of ts) in
    let parts = or_parts (leb (2 ^ 32) n) (leb (2 ^ 32) w32 || leb (2 ^ 32) w64) small in
    let words = or_parts (leb (2 ^ 32) w32) (leb (2 ^ 32) w64) parts.1 in
    let few : w64 < 2 ^ 32 = leb-false (2 ^ 32) w64 words.1 in record {
      length = leb-false (2 ^ 32) n parts.0;
      objects = omega (arith, few_objects ts);
      w32 = leb-false (2 ^ 32) w32 words.0;
      w64 = few;
    }
