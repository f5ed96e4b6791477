-- Lemmas on the objects that a heap's methods append or change, and on the words of these objects.
use Rattle.std.proofs.Common.{◌≡◌, ℕ, zero, suc, ◌+◌, ◌/◌, ◌%◌, ◌^◌, ◌<◌, ◌≤◌, ℤ, pos, List, [], ◌∷◌, length, inl, inr, get_or, set, map, replicate, refl, sym, ap, ap₂, subst, ◌∙◌, arith, length-set}
use Rattle.std.specs.Prelude.{All}
use Rattle.std.proofs.lemmas.List.{length-map, length-replicate, map-set, get_or_past}
use Rattle.std.proofs.lemmas.Bool.{cases_lt}
use Rattle.std.proofs.lemmas.List.Elements.{All-nil, All-cons, All-head, All-tail, All-replicate, All-from_get_or}
use Rattle.base_data.specs.model.Bytes.{AreBytes}
use Rattle.base_data.specs.declared.model.value.Val.{Val}
use Rattle.base_data.specs.declared.model.value.Val.TheVariants as vals
use Rattle.base_data.specs.declared.model.value.Obj.{Obj}
use Rattle.base_data.specs.declared.model.value.Obj.TheVariants as objects
use Rattle.base_data.specs.declared.model.code.Custom.{Custom}
use Rattle.base_data.specs.declared.model.code.Custom.TheVariants as customs
use Rattle.base_data.specs.model.Graph.{IsSigned, IsValue, IsObject}
use Rattle.marshal_heap.specs.declared.heap.kind.Kind.TheVariants as kinds
use Rattle.marshal_heap.specs.heap.Heap.{object_at, object_words, word_with, custom_object, fields_of, bytes_of, doubles_of, with_field, with_byte, with_double, kind_of}
use Rattle.marshal_heap.specs.heap.Stored.{kind_from, signed_from}
use Rattle.marshal_heap.specs.heap.ObjectWords.{tag_of, header, body_with, code_with, custom_words, string_words, word_of_bytes, bytes_of_word}
use Rattle.marshal_heap.proofs.heap.WordLemmas.{signed_back}
use Rattle.marshal_heap.proofs.heap.HeapStringLemmas.{string_words-set, string_length_is}
use Rattle.marshal_heap.proofs.heap.StoredLemmas.{other_tags, wider}

-- An object that can be appended to `n` objects, with the words after the object's header.
pub record IsNew (n size : ℕ) (at : ℕ → ℕ) (object : Obj) (body : List ℕ) : Type 0 where
  pub valid : IsObject n object
  pub small : object_words object < 2 ^ 54
  pub words : object_words object ≡ 1 + size
  pub body_is : body ≡ body_with at object

map_replicate : {X Y : Type 0} (f : X → Y) (n : ℕ) (x : X) → map f (replicate n x) ≡ replicate n (f x)
map_replicate f zero x = refl
map_replicate f (suc n) x = ap (λ ys. f x ∷ ys) (map_replicate f n x)

pub IsNew-block : (n : ℕ) (at : ℕ → ℕ) (tag size : ℕ) → tag ≤ 243 → 0 < size → 1 + size < 2 ^ 54 → IsNew n size at (objects.Block tag (replicate size (vals.Int (pos 0)))) (replicate size 1)
IsNew-block n at tag size small_tag some few =
    let long : length (replicate size (vals.Int (pos 0))) ≡ size = length-replicate size (vals.Int (pos 0)) in
    record {
      valid = (small_tag, omega arith, All-replicate (IsValue n) size (vals.Int (pos 0)) (omega arith));
      small = omega arith;
      words = omega arith;
      body_is = sym (map_replicate (word_with at) size (vals.Int (pos 0)));
    }

-- If each word represents some value, then the words are the words of a list of values.
pub values_of : (n : ℕ) (at : ℕ → ℕ) (words : List ℕ) → All (λ w. (v : Val) × IsValue n v × (w ≡ word_with at v)) words → (values : List Val) × All (IsValue n) values × (words ≡ map (word_with at) values)
values_of n at [] valid = ([], All-nil (IsValue n), refl)
values_of n at (w ∷ words) valid =
    let P : ℕ → Type 0 = λ w. (v : Val) × IsValue n v × (w ≡ word_with at v) in
    let first = All-head P w words valid in
    let rest = values_of n at words (All-tail P w words valid) in
    (first.0 ∷ rest.0, All-cons (IsValue n) first.0 rest.0 first.1 rest.1, ap₂ (λ x xs. x ∷ xs) first.2 rest.2)

pub IsNew-values : (n : ℕ) (at : ℕ → ℕ) (tag : ℕ) (values : List Val) (body : List ℕ) → tag ≤ 243 → 0 < length body → 1 + length body < 2 ^ 54 → All (IsValue n) values → body ≡ map (word_with at) values → IsNew n (length body) at (objects.Block tag values) body
IsNew-values n at tag values body small_tag some few valid same =
    let long : length body ≡ length values = ap length same ∙ length-map values (word_with at) in
    record { valid = (small_tag, omega arith, valid); small = omega arith; words = omega arith; body_is = same }

pub IsNew-bytes : (n : ℕ) (at : ℕ → ℕ) (bytes : List ℕ) → AreBytes bytes → 1 + (length bytes + 8) / 8 < 2 ^ 54 → IsNew n (length bytes / 8 + 1) at (objects.Bytes bytes) (string_words bytes)
IsNew-bytes n at bytes valid few = record { valid = valid; small = few; words = omega arith; body_is = refl }

pub IsNew-zeros : (n : ℕ) (at : ℕ → ℕ) (len : ℕ) → 1 + (len + 8) / 8 < 2 ^ 54 → IsNew n (len / 8 + 1) at (objects.Bytes (replicate len 0)) (string_words (replicate len 0))
IsNew-zeros n at len few =
    let zeros : List ℕ = replicate len 0 in
    let long : length zeros ≡ len = length-replicate len 0 in
    record { valid = All-replicate (λ b. b < 256) len 0 (omega arith); small = omega arith; words = omega arith; body_is = refl }

pub IsNew-double : (n : ℕ) (at : ℕ → ℕ) (bits : ℕ) → bits < 2 ^ 64 → IsNew n 1 at (objects.Double bits) (bits ∷ [])
IsNew-double n at bits valid = record { valid = valid; small = omega arith; words = refl; body_is = refl }

pub IsNew-doubles : (n : ℕ) (at : ℕ → ℕ) (all body : List ℕ) (len : ℕ) → len ≡ length all → body ≡ all → 0 < len → ((k : ℕ) → k < length all → get_or all k 0 < 2 ^ 64) → 1 + len < 2 ^ 54 → IsNew n len at (objects.Doubles all) body
IsNew-doubles n at all body len long same some valid few =
    record { valid = (omega arith, All-from_get_or (λ bits. bits < 2 ^ 64) all 0 valid); small = omega arith; words = omega arith; body_is = same }

pub IsNew-no_doubles : (n : ℕ) (at : ℕ → ℕ) (len : ℕ) → 0 < len → 1 + len < 2 ^ 54 → IsNew n len at (objects.Doubles (replicate len 0)) (replicate len 0)
IsNew-no_doubles n at len some few =
    let zeros : List ℕ = replicate len 0 in
    let long : length zeros ≡ len = length-replicate len 0 in
    record { valid = (omega arith, All-replicate (λ bits. bits < 2 ^ 64) len 0 (omega arith)); small = omega arith; words = omega arith; body_is = refl }

pub IsNew-custom : (n : ℕ) (at : ℕ → ℕ) (c : Custom) → IsObject n (custom_object c) → IsNew n 2 at (custom_object c) (custom_words c)
IsNew-custom n at (customs.I32 z) valid = record { valid = valid; small = omega arith; words = refl; body_is = refl }
IsNew-custom n at (customs.I64 z) valid = record { valid = valid; small = omega arith; words = refl; body_is = refl }
IsNew-custom n at (customs.Native z) valid = record { valid = valid; small = omega arith; words = refl; body_is = refl }

pub custom_tag : (c : Custom) → tag_of (custom_object c) ≡ 255
custom_tag (customs.I32 z) = refl
custom_tag (customs.I64 z) = refl
custom_tag (customs.Native z) = refl

-- The words of a block after the header are the words of the block's fields.
pub body-fields : (at : ℕ → ℕ) (object : Obj) → 0 < length (fields_of object) → body_with at object ≡ map (word_with at) (fields_of object)
body-fields at (objects.Block tag values) some = refl
body-fields at (objects.Bytes bytes) some = absurd (omega arith)
body-fields at (objects.Double bits) some = absurd (omega arith)
body-fields at (objects.Doubles all) some = absurd (omega arith)
body-fields at (objects.I32 z) some = absurd (omega arith)
body-fields at (objects.I64 z) some = absurd (omega arith)
body-fields at (objects.Native z) some = absurd (omega arith)

pub body-bytes : (at : ℕ → ℕ) (object : Obj) → 0 < length (bytes_of object) → body_with at object ≡ string_words (bytes_of object)
body-bytes at (objects.Block tag values) some = absurd (omega arith)
body-bytes at (objects.Bytes bytes) some = refl
body-bytes at (objects.Double bits) some = absurd (omega arith)
body-bytes at (objects.Doubles all) some = absurd (omega arith)
body-bytes at (objects.I32 z) some = absurd (omega arith)
body-bytes at (objects.I64 z) some = absurd (omega arith)
body-bytes at (objects.Native z) some = absurd (omega arith)

pub bytes_valid : (n : ℕ) (object : Obj) → 0 < length (bytes_of object) → IsObject n object → AreBytes (bytes_of object)
bytes_valid n (objects.Block tag values) some valid = absurd (omega arith)
bytes_valid n (objects.Bytes bytes) some valid = valid
bytes_valid n (objects.Double bits) some valid = absurd (omega arith)
bytes_valid n (objects.Doubles all) some valid = absurd (omega arith)
bytes_valid n (objects.I32 z) some valid = absurd (omega arith)
bytes_valid n (objects.I64 z) some valid = absurd (omega arith)
bytes_valid n (objects.Native z) some valid = absurd (omega arith)

pub body-doubles : (at : ℕ → ℕ) (object : Obj) → 0 < length (doubles_of object) → body_with at object ≡ doubles_of object
body-doubles at (objects.Block tag values) some = absurd (omega arith)
body-doubles at (objects.Bytes bytes) some = absurd (omega arith)
body-doubles at (objects.Double bits) some = refl
body-doubles at (objects.Doubles all) some = refl
body-doubles at (objects.I32 z) some = absurd (omega arith)
body-doubles at (objects.I64 z) some = absurd (omega arith)
body-doubles at (objects.Native z) some = absurd (omega arith)

-- If a part of an object is replaced, then the part's word is replaced in the object's words.
pub code-field : (at : ℕ → ℕ) (object : Obj) (i : ℕ) (v : Val) → i < length (fields_of object) → code_with at (with_field object i v) ≡ set (code_with at object) (suc i) (word_with at v)
code-field at (objects.Block tag values) i v inside =
    ap (λ (ws : List ℕ). header tag (length ws) ∷ ws) (map-set (word_with at) values i v)
    ∙ ap (λ (n : ℕ). header tag n ∷ set (map (word_with at) values) i (word_with at v)) (length-set (map (word_with at) values) i (word_with at v))
code-field at (objects.Bytes bytes) i v inside = absurd (omega arith)
code-field at (objects.Double bits) i v inside = absurd (omega arith)
code-field at (objects.Doubles all) i v inside = absurd (omega arith)
code-field at (objects.I32 z) i v inside = absurd (omega arith)
code-field at (objects.I64 z) i v inside = absurd (omega arith)
code-field at (objects.Native z) i v inside = absurd (omega arith)

pub code-byte : (n : ℕ) (at : ℕ → ℕ) (object : Obj) (i b : ℕ) → i < length (bytes_of object) → IsObject n object
    → code_with at (with_byte object i b) ≡ set (code_with at object) (suc (i / 8)) (word_of_bytes (set (bytes_of_word (get_or (string_words (bytes_of object)) (i / 8) 0)) (i % 8) b))
code-byte n at (objects.Bytes bytes) i b inside valid =
    let word : ℕ = word_of_bytes (set (bytes_of_word (get_or (string_words bytes) (i / 8) 0)) (i % 8) b) in
    ap (λ (ws : List ℕ). header 252 (length ws) ∷ ws) (string_words-set bytes i b inside valid)
    ∙ ap (λ (n : ℕ). header 252 n ∷ set (string_words bytes) (i / 8) word) (length-set (string_words bytes) (i / 8) word)
code-byte n at (objects.Block tag values) i b inside valid = absurd (omega arith)
code-byte n at (objects.Double bits) i b inside valid = absurd (omega arith)
code-byte n at (objects.Doubles all) i b inside valid = absurd (omega arith)
code-byte n at (objects.I32 z) i b inside valid = absurd (omega arith)
code-byte n at (objects.I64 z) i b inside valid = absurd (omega arith)
code-byte n at (objects.Native z) i b inside valid = absurd (omega arith)

pub code-double : (at : ℕ → ℕ) (object : Obj) (i bits : ℕ) → i < length (doubles_of object) → code_with at (with_double object i bits) ≡ set (code_with at object) (suc i) bits
code-double at (objects.Double old) zero bits inside = refl
code-double at (objects.Double old) (suc i) bits inside = absurd (omega arith)
code-double at (objects.Doubles all) i bits inside = ap (λ (n : ℕ). header 254 n ∷ set all i bits) (length-set all i bits)
code-double at (objects.Block tag values) i bits inside = absurd (omega arith)
code-double at (objects.Bytes bytes) i bits inside = absurd (omega arith)
code-double at (objects.I32 z) i bits inside = absurd (omega arith)
code-double at (objects.I64 z) i bits inside = absurd (omega arith)
code-double at (objects.Native z) i bits inside = absurd (omega arith)

-- The tag and the words determine the kind of an object.
pub kind_back : (n : ℕ) (at : ℕ → ℕ) (object : Obj) → IsObject n object → kind_from (tag_of object) (body_with at object) ≡ kind_of object
kind_back n at (objects.Block tag values) valid = other_tags tag _ _ _ _ _ valid.0 ∙ ap (kinds.Block tag) (length-map values (word_with at))
kind_back n at (objects.Bytes bytes) valid = ap kinds.Bytes (string_length_is bytes valid)
kind_back n at (objects.Double bits) valid = refl
kind_back n at (objects.Doubles all) valid = refl
kind_back n at (objects.I32 z) valid = ap (λ (z : ℤ). kinds.Custom (customs.I32 z)) (signed_back z (wider z valid))
kind_back n at (objects.I64 z) valid = ap (λ (z : ℤ). kinds.Custom (customs.I64 z)) (signed_back z valid)
kind_back n at (objects.Native z) valid = ap (λ (z : ℤ). kinds.Custom (customs.Native z)) (signed_back z valid)

pub custom_fits : (n : ℕ) (at : ℕ → ℕ) (object : Obj) → IsObject n object → tag_of object ≡ 255
    → (length (body_with at object) ≡ 2) × (get_or (body_with at object) 0 0 ≡ 1 → IsSigned 31 (signed_from (get_or (body_with at object) 1 0)))
custom_fits n at (objects.Block tag values) valid e = absurd (omega (arith, valid.0))
custom_fits n at (objects.Bytes bytes) valid e = absurd (omega arith)
custom_fits n at (objects.Double bits) valid e = absurd (omega arith)
custom_fits n at (objects.Doubles all) valid e = absurd (omega arith)
custom_fits n at (objects.I32 z) valid e = (refl, λ one. subst (IsSigned 31) (sym (signed_back z (wider z valid))) valid)
custom_fits n at (objects.I64 z) valid e = (refl, λ one. absurd (omega arith))
custom_fits n at (objects.Native z) valid e = (refl, λ one. absurd (omega arith))

-- The word of each part is among the words of the object.
pub words-fields : (object : Obj) (i : ℕ) → i < length (fields_of object) → i + 1 < object_words object
words-fields (objects.Block tag values) i inside = omega arith
words-fields (objects.Bytes bytes) i inside = absurd (omega arith)
words-fields (objects.Double bits) i inside = absurd (omega arith)
words-fields (objects.Doubles all) i inside = absurd (omega arith)
words-fields (objects.I32 z) i inside = absurd (omega arith)
words-fields (objects.I64 z) i inside = absurd (omega arith)
words-fields (objects.Native z) i inside = absurd (omega arith)

pub words-bytes : (object : Obj) (i : ℕ) → i < length (bytes_of object) → i / 8 + 1 < object_words object
words-bytes (objects.Block tag values) i inside = absurd (omega arith)
words-bytes (objects.Bytes bytes) i inside = omega arith
words-bytes (objects.Double bits) i inside = absurd (omega arith)
words-bytes (objects.Doubles all) i inside = absurd (omega arith)
words-bytes (objects.I32 z) i inside = absurd (omega arith)
words-bytes (objects.I64 z) i inside = absurd (omega arith)
words-bytes (objects.Native z) i inside = absurd (omega arith)

pub words-doubles : (object : Obj) (i : ℕ) → i < length (doubles_of object) → i + 1 < object_words object
words-doubles (objects.Block tag values) i inside = absurd (omega arith)
words-doubles (objects.Bytes bytes) i inside = absurd (omega arith)
words-doubles (objects.Double bits) i inside = omega arith
words-doubles (objects.Doubles all) i inside = omega arith
words-doubles (objects.I32 z) i inside = absurd (omega arith)
words-doubles (objects.I64 z) i inside = absurd (omega arith)
words-doubles (objects.Native z) i inside = absurd (omega arith)

pub fields_valid : (n : ℕ) (object : Obj) (i : ℕ) (d : Val) → i < length (fields_of object) → IsObject n object → IsValue n (get_or (fields_of object) i d)
fields_valid n (objects.Block tag values) i d inside valid = valid.2 i d inside
fields_valid n (objects.Bytes bytes) i d inside valid = absurd (omega arith)
fields_valid n (objects.Double bits) i d inside valid = absurd (omega arith)
fields_valid n (objects.Doubles all) i d inside valid = absurd (omega arith)
fields_valid n (objects.I32 z) i d inside valid = absurd (omega arith)
fields_valid n (objects.I64 z) i d inside valid = absurd (omega arith)
fields_valid n (objects.Native z) i d inside valid = absurd (omega arith)

-- If an object number has an object with parts, then the number is below the number of objects in
-- the graph.
pub inside_if : {X : Type 0} (f : Obj → List X) (graph : List Obj) (o i : ℕ) → f (objects.I32 (pos 0)) ≡ [] → i < length (f (object_at graph o)) → o < length graph
inside_if f graph o i none some = elim (cases_lt o (length graph)) [
  | inl inside ↦ inside
  | inr past ↦ absurd (omega (arith, ap (λ (x : Obj). length (f x)) (get_or_past graph o (objects.I32 (pos 0)) past), ap length none))
]
