-- Lemmas on a text that is written to a sink through a buffer.
use Rattle.std.proofs.Common.{ℕ, drop, get_or, ◌≡◌, ◌+◌, ◌<◌, ◌∙◌, List, [], ◌∷◌, ◌++◌, length, take, Option, Some, None, Ok, Err, Result, refl, sym, ap, subst, arith, append_assoc, append-nil}
use Rattle.std.specs.Prelude.{IfSome, IsErr, OnOk, MatchResult, flat_map, slice_get}
use Rattle.std.proofs.lemmas.List.{take-append-drop, take_more}
use Rattle.std.proofs.Math.Seq.{take-append-add}
use Rattle.std.proofs.lemmas.List.Concat.{flat_map-append}
use Rattle.std.proofs.lemmas.Result.{MatchResult-from_err}
use Rattle.base_data.specs.declared.model.value.Obj.{Obj}
use Rattle.base_data.specs.declared.model.value.Obj.TheVariants as objects
use Rattle.marshal_spec.specs.format.Canonical.{double_bytes, string_prefix, doubles_prefix, leaf_encoding, encoding, data_encoding, header_encoding, canonical_head, canon}
use Rattle.marshal_spec.specs.format.Tree.{Tree, tokens}
use Rattle.marshal_spec.specs.format.Token.{Token}
use Rattle.marshal_heap.specs.heap.Heap.{doubles_of}
use Rattle.base_io.specs.StreamState.{ByteState, change}
use Rattle.base_io.specs.Sink.{Writes, WritesPart}
use Rattle.base_io.proofs.WritesLemmas.{writes_writes, writes_part, part_more}
use Rattle.marshal_write.proofs.write.WriterSumLemmas.{take_one}
use Rattle.marshal_write.specs.write.WriteBuffer.{Carries, AddsAll, AddsPart, Adds}

-- ---- the text

starts_at : (x : Option (List ℕ)) → IfSome x (λ b. x ≡ Some (b ++ []))
starts_at None = tt
starts_at (Some b) = ap Some (sym (append-nil b))

pub carries_nothing : (s : ByteState) → Carries s s [] []
carries_nothing s = record {
  prefix = [];
  whole = refl;
  writes = record {
    appended = starts_at s.bytes;
    known = refl;
    cause = record { never_falls = omega arith; rose = tt; kept = refl; at_last = λ e. e };
  };
}

pub flushed : (old new : ByteState) (buffer : List ℕ) → Writes (change old new) buffer → AddsAll old new buffer [] []
flushed old new buffer writes before text carries = record {
  prefix = carries.prefix ++ buffer;
  whole = ap (λ t. t ++ []) carries.whole;
  writes = writes_writes before old new carries.prefix buffer carries.writes writes;
}

pub flush_failed : (old new : ByteState) (buffer : List ℕ) → WritesPart (change old new) buffer → AddsPart old new buffer []
flush_failed old new buffer part before text carries =
    part_more before new text [] (subst (WritesPart (change before new)) carries.whole (writes_part before old new carries.prefix buffer carries.writes part))

-- If the first `n` bytes of a chunk are appended to the buffer, then the text is extended by these
-- bytes.
pub adds_first : (a b : ByteState) (x y z chunk : List ℕ) (n : ℕ) → AddsAll a b x y [] → z ≡ take (length y + n) (y ++ chunk) → AddsAll a b x z (take n chunk)
adds_first a b x y z chunk n first is before text carries =
    let r = first before text carries in
    let end : z ≡ y ++ take n chunk = is ∙ take-append-add y chunk n in record {
      prefix = r.prefix;
      whole = ap (λ t. r.prefix ++ t) end ∙ sym (append_assoc r.prefix y (take n chunk)) ∙ ap (λ t. t ++ take n chunk) (r.whole ∙ append-nil text);
      writes = r.writes;
    }

-- If two chunks are added in sequence, then the text is extended by the concatenation of the
-- chunks.
pub adds_both : (a b c : ByteState) (x y z p q : List ℕ) → AddsAll a b x y p → AddsAll b c y z q → AddsAll a c x z (p ++ q)
adds_both a b c x y z p q first second before text carries =
    subst (Carries before c z) (append_assoc text p q) (second before (text ++ p) (first before text carries))

pub adds_then_part : (a b c : ByteState) (x y p q : List ℕ) → AddsAll a b x y p → AddsPart b c y q → AddsPart a c x (p ++ q)
adds_then_part a b c x y p q first second before text carries =
    subst (WritesPart (change before c)) (append_assoc text p q) (second before (text ++ p) (first before text carries))

-- If writing a chunk failed, then a proper prefix of each longer chunk was written.
pub adds_part_of : (a b : ByteState) (x p q : List ℕ) → AddsPart a b x p → AddsPart a b x (p ++ q)
adds_part_of a b x p q first before text carries =
    subst (WritesPart (change before b)) (append_assoc text p q) (part_more before b (text ++ p) q (first before text carries))

-- If a call returned an error and wrote a proper prefix, then the call satisfies `Adds`.
pub adds_if_failed : {A E : Type 0} (a b : ByteState) (x y p : List ℕ) (result : Result A E) → IsErr result → AddsPart a b x p → Adds a b x y p result
adds_if_failed a b x y p result is part = MatchResult-from_err result (λ _. AddsAll a b x y p) (λ _. AddsPart a b x p) is (λ _. part)

pub adds_then : {A E : Type 0} (a b c : ByteState) (x y z p q : List ℕ) (result : Result A E) → AddsAll a b x y p → Adds b c y z q result → Adds a c x z (p ++ q) result
adds_then a b c x y z p q (Ok done) first second = adds_both a b c x y z p q first second
adds_then a b c x y z p q (Err failed) first second = adds_then_part a b c x y p q first second

-- ---- contents, element by element

-- The text of the first `i` + 1 elements is the text of the first `i` elements and the text of
-- element `i`.
text_more : (f : ℕ → List ℕ) (xs : List ℕ) (i : ℕ) → i < length xs → flat_map f (take (i + 1) xs) ≡ flat_map f (take i xs) ++ f (get_or xs i 0)
text_more f xs i inside =
    ap (flat_map f) (take_more xs i 0 inside) ∙ flat_map-append f (take i xs) (get_or xs i 0 ∷ [])
    ∙ ap (λ t. flat_map f (take i xs) ++ t) (append-nil (f (get_or xs i 0)))

text_split : (f : ℕ → List ℕ) (xs : List ℕ) (i : ℕ) → flat_map f (take i xs) ++ flat_map f (drop i xs) ≡ flat_map f xs
text_split f xs i = sym (flat_map-append f (take i xs) (drop i xs)) ∙ ap (flat_map f) (take-append-drop i xs)

pub content_failed : (a b c : ByteState) (x y : List ℕ) (f : ℕ → List ℕ) (xs : List ℕ) (i : ℕ) → i < length xs
    → AddsAll a b x y (flat_map f (take i xs)) → AddsPart b c y (f (get_or xs i 0)) → AddsPart a c x (flat_map f xs)
content_failed a b c x y f xs i inside first second =
    subst (AddsPart a c x) (text_split f xs (i + 1))
    (adds_part_of a c x (flat_map f (take (i + 1) xs)) (flat_map f (drop (i + 1) xs))
    (subst (AddsPart a c x) (sym (text_more f xs i inside)) (adds_then_part a b c x y (flat_map f (take i xs)) (f (get_or xs i 0)) first second)))

-- The text of a byte is the byte itself.
abbrev pub itself : ℕ → List ℕ
itself b = b ∷ []

-- ---- leaves

pub string_text : (o : Obj) (bytes prefix : List ℕ) (n : ℕ) → o ≡ objects.Bytes bytes → n ≡ length bytes → prefix ≡ string_prefix n → prefix ++ bytes ≡ leaf_encoding o
string_text o bytes prefix n is many first = ap (λ t. t ++ bytes) (first ∙ ap string_prefix many) ∙ sym (ap leaf_encoding is)

pub double_text : (o : Obj) (bits : ℕ) → o ≡ objects.Double bits → (0x0c ∷ []) ++ flat_map double_bytes (doubles_of o) ≡ leaf_encoding o
double_text o bits is =
    subst (λ x. (0x0c ∷ []) ++ flat_map double_bytes (doubles_of x) ≡ leaf_encoding x) (sym is) (ap (λ t. 0x0c ∷ t) (append-nil (double_bytes bits)))

pub doubles_text : (o : Obj) (all prefix : List ℕ) (n : ℕ) → o ≡ objects.Doubles all → n ≡ length all → prefix ≡ doubles_prefix n → prefix ++ flat_map double_bytes all ≡ leaf_encoding o
doubles_text o all prefix n is many first = ap (λ t. t ++ flat_map double_bytes all) (first ∙ ap doubles_prefix many) ∙ sym (ap leaf_encoding is)

-- ---- tokens

data-push : (ts : List Token) (t : Token) → data_encoding (ts ++ t ∷ []) ≡ data_encoding ts ++ encoding t
data-push ts t = flat_map-append encoding ts (t ∷ []) ∙ ap (λ bytes. data_encoding ts ++ bytes) (append-nil (encoding t))

pub token_more : (a b c : ByteState) (x y z : List ℕ) (ts : List Token) (t : Token) (n m : ℕ) → slice_get ts n ≡ Some t → m ≡ n + 1
    → AddsAll a b x y (data_encoding (take n ts)) → AddsAll b c y z (encoding t) → AddsAll a c x z (data_encoding (take m ts))
token_more a b c x y z ts t n m is next first second =
    subst (AddsAll a c x z) (sym (ap (λ k. data_encoding (take k ts)) next ∙ ap data_encoding (take_one n ts t is) ∙ data-push (take n ts) t))
    (adds_both a b c x y z (data_encoding (take n ts)) (encoding t) first second)

pub token_failed : (a b c : ByteState) (x y : List ℕ) (ts : List Token) (t : Token) (n : ℕ) → slice_get ts n ≡ Some t
    → AddsAll a b x y (data_encoding (take n ts)) → AddsPart b c y (encoding t) → AddsPart a c x (data_encoding ts)
token_failed a b c x y ts t n is first second =
    let whole : data_encoding (take (n + 1) ts) ++ data_encoding (drop (n + 1) ts) ≡ data_encoding ts =
    sym (flat_map-append encoding (take (n + 1) ts) (drop (n + 1) ts)) ∙ ap data_encoding (take-append-drop (n + 1) ts) in
    subst (AddsPart a c x) whole
    (adds_part_of a c x (data_encoding (take (n + 1) ts)) (data_encoding (drop (n + 1) ts))
    (subst (AddsPart a c x) (sym (ap data_encoding (take_one n ts t is) ∙ data-push (take n ts) t))
    (adds_then_part a b c x y (data_encoding (take n ts)) (encoding t) first second)))

-- ---- the whole text

-- If the buffer is empty at the start and at the end, then the whole text was written.
pub all_written : (a b : ByteState) (x y text : List ℕ) → x ≡ [] → y ≡ [] → AddsAll a b x y text → Writes (change a b) text
all_written a b x y text empty gone adds =
    let nothing : Carries a a x [] = subst (λ z. Carries a a z []) (sym empty) (carries_nothing a) in
    let carries = adds a [] nothing in
    let same : carries.prefix ≡ text = sym (append-nil carries.prefix) ∙ ap (λ z. carries.prefix ++ z) (sym gone) ∙ carries.whole in
    subst (Writes (change a b)) same carries.writes

pub part_written : (a b : ByteState) (x text : List ℕ) → x ≡ [] → AddsPart a b x text → WritesPart (change a b) text
part_written a b x text empty adds = adds a [] (subst (λ z. Carries a a z []) (sym empty) (carries_nothing a))

pub canon_is : (tree : Tree) → header_encoding (canonical_head (tokens tree)) ++ data_encoding (tokens tree) ≡ canon tree
unfolding canon
canon_is tree = refl

-- If a header, the tokens and the remaining contents of the buffer are written, then the whole text
-- is written.
pub whole_written : {A E : Type 0} (a b c d : ByteState) (x y z w head body text : List ℕ) (result : Result A E) → x ≡ [] → AddsAll a b x y head → AddsAll b c y z body
    → Adds c d z w [] result → OnOk result (w ≡ []) → head ++ body ≡ text → MatchResult result (λ _. Writes (change a d) text) (λ _. WritesPart (change a d) text)
whole_written a b c d x y z w head body text (Ok done) empty first second last gone is =
    all_written a d x w text empty gone (subst (AddsAll a d x w) (append-nil (head ++ body) ∙ is)
    (adds_both a c d x z w (head ++ body) [] (adds_both a b c x y z head body first second) last))
whole_written a b c d x y z w head body text (Err failed) empty first second last gone is =
    part_written a d x text empty (subst (AddsPart a d x) (append-nil (head ++ body) ∙ is)
    (adds_then_part a c d x z (head ++ body) [] (adds_both a b c x y z head body first second) last))
