-- An encoded value passes the steps of its header and tokens. If a header and tokens pass, then the
-- header and the tokens encode a value.
use Rattle.std.proofs.Common.{ℕ, ◌+◌, ◌<◌, ◌≤◌, ◌≡◌, Bool, true, false, List, [], ◌∷◌, ◌++◌, length, map, All, Option, inl, inr, refl, sym, ◌∙◌, subst₂, arith, append-nil, append_assoc, length-append, add-zero, take_at, drop_at}
use Rattle.std.proofs.lemmas.List.{map_push, length-map}
use Rattle.std.proofs.lemmas.List.Sums.{sum_by_push, sum_by-append, sum_by-cons}
use Rattle.std.proofs.lemmas.List.Elements.{All-nil, All-cons, All-head, All-tail, All-take, All-drop}
use Rattle.std.specs.List.{concat, AllZip}
use Rattle.base_data.specs.declared.model.header.Head.{Head}
use Rattle.base_data.specs.declared.model.code.Measure.{Measure}
use Rattle.base_data.specs.model.Bytes.{AreBytes}
use Rattle.marshal_spec.specs.format.Header.{head_of}
use Rattle.marshal_spec.specs.format.Raw.{raw_measure}
use Rattle.marshal_spec.specs.format.Words.{of_object, words32, words64, objects, all_words32, pending}
use Rattle.marshal_spec.specs.format.Prefix.{TokensPass}
use Rattle.marshal_spec.specs.format.Token.{Token, integer, atom, shared, block, leaf, IsToken, measure_of, Encodes}
use Rattle.marshal_spec.specs.format.Tree.{made_by, RefersBack}
use Rattle.marshal_spec.specs.format.Preorder.{OpenBefore, EachRefersBack}
use Rattle.marshal_spec.specs.format.Encoded.{IsNoReference, StatesWords32, States}
use Rattle.marshal_spec.proofs.format.Pending.{pending-le-length}
use Rattle.marshal_spec.proofs.format.EncodeLemmas.{IsRaw-encoded, raw_measure-encoded, Encodes-same}
use Rattle.marshal_spec.proofs.format.EncodeTokens.{EndsAt, FitsUpTo, FitsAfter, EncodedThere, EncodedThere-passes, FitsAfter-passes, passes-encoded}

-- ---- chunks and their tokens

-- If a chunk is appended to a list of chunks, then the total number of bytes grows by the chunk's
-- length.
pub length-concat_push : (chunks : List (List ℕ)) (chunk : List ℕ) → length (concat (chunks ++ chunk ∷ [])) ≡ length (concat chunks) + length chunk
length-concat_push [] chunk = omega (arith, length-append chunk [])
length-concat_push (p ∷ chunks) chunk =
    omega (arith, length-append p (concat (chunks ++ chunk ∷ [])), length-append p (concat chunks), length-concat_push chunks chunk)

-- A chunk that encodes a token has at least one byte.
pub some_bytes : (t : Token) (chunk : List ℕ) → Encodes t chunk → 0 < length chunk
some_bytes t [] s = absurd s
some_bytes t (code ∷ rest) s = omega arith

-- The encodings of tokens have at least as many bytes as there are tokens.
pub bytes_of_tokens : (ts : List Token) (chunks : List (List ℕ)) → AllZip Encodes ts chunks → length ts ≤ length (concat chunks)
bytes_of_tokens [] chunks s = omega arith
bytes_of_tokens (t ∷ ts) [] s = absurd s
bytes_of_tokens (t ∷ ts) (chunk ∷ chunks) s =
    omega (arith, some_bytes t chunk s.0, bytes_of_tokens ts chunks s.1, length-append chunk (concat chunks))

-- The chunks that encode tokens have the measures of the tokens.
pub raw_measures-encoded : (ts : List Token) (chunks : List (List ℕ)) → AllZip Encodes ts chunks → map raw_measure chunks ≡ map measure_of ts
raw_measures-encoded [] [] s = refl
raw_measures-encoded [] (chunk ∷ chunks) s = absurd s
raw_measures-encoded (t ∷ ts) [] s = absurd s
raw_measures-encoded (t ∷ ts) (chunk ∷ chunks) s =
    let first = raw_measure-encoded t chunk s.0 in
    let rest = raw_measures-encoded ts chunks s.1 in
    cc (first, rest)

-- Chunks encode only one list of tokens.
pub tokens-same : (ts us : List Token) (chunks : List (List ℕ)) → AllZip Encodes ts chunks → AllZip Encodes us chunks → ts ≡ us
tokens-same [] [] chunks s v = refl
tokens-same [] (u ∷ us) [] s v = absurd v
tokens-same [] (u ∷ us) (chunk ∷ chunks) s v = absurd s
tokens-same (t ∷ ts) [] [] s v = absurd s
tokens-same (t ∷ ts) [] (chunk ∷ chunks) s v = absurd v
tokens-same (t ∷ ts) (u ∷ us) [] s v = absurd s
tokens-same (t ∷ ts) (u ∷ us) (chunk ∷ chunks) s v =
    let first = Encodes-same t u chunk s.0 v.0 in
    let rest = tokens-same ts us chunks s.1 v.1 in
    cc (first, rest)

-- If a chunk is appended to a list of chunks, then its measure is appended to the list of measures.
measures_push : (before : List (List ℕ)) (ms : List (Option Measure)) (chunk : List ℕ) (m : Option Measure) → map raw_measure before ≡ ms → raw_measure chunk ≡ m → map raw_measure (before ++ chunk ∷ []) ≡ ms ++ m ∷ []
measures_push before ms chunk m e f = map_push raw_measure before chunk ∙ cc (e, f)

-- A measure between two lists may be appended to the first list or prepended to the second list.
measures_cons : (ms : List (Option Measure)) (m : Option Measure) (ns : List (Option Measure)) → (ms ++ m ∷ []) ++ ns ≡ ms ++ (m ∷ ns)
measures_cons ms m ns = append_assoc ms (m ∷ []) ns

-- ---- from a value to steps

-- If no object precedes a token, then the token is not a reference.
no_reference : (t : Token) (c : ℕ) → RefersBack t c → c ≡ 0 → IsNoReference t
no_reference (integer z) c r e = tt
no_reference (atom tag) c r e = tt
no_reference (shared offset) c r e = omega (arith, r.0, r.1)
no_reference (block tag size) c r e = tt
no_reference (leaf object) c r e = tt

-- If the tokens make no object, then no token is a reference.
no_references : (c : ℕ) (ts : List Token) → EachRefersBack c ts → c + objects (map measure_of ts) ≡ 0 → All IsNoReference ts
no_references c [] r e = All-nil IsNoReference
no_references c (t ∷ ts) r e =
    let sum : objects (map measure_of (t ∷ ts)) ≡ made_by t + objects (map measure_of ts) = sum_by-cons (of_object (λ _. 1)) (measure_of t) (map measure_of ts) in
    All-cons IsNoReference t ts (no_reference t c r.0 (omega arith)) (no_references (c + made_by t) ts r.1 (omega arith))

-- If the header counts no objects, then no token is a reference.
pub table_from_states : (head : Head) (ts : List Token) → States head ts → EachRefersBack 0 ts → head.objects ≡ 0 → All IsNoReference ts
table_from_states head ts s r z =
    elim s.objects [
      | inl e ↦ no_references 0 ts r (omega arith)
      | inr n ↦ n.1
    ]

-- If a small header states the words on 32 bits, then the stated number equals the sum.
states32 : (big : Bool) (stated found : ℕ) → StatesWords32 big stated found → big ≡ false → stated ≡ found
states32 true stated found s b = absurd (cc)
states32 false stated found s b = s

-- The header of an encoded value agrees with the value's tokens.
pub ends_from_states : (head : Head) (n : ℕ) (ts : List Token) → head.length ≡ n → States head ts → EndsAt head n (map measure_of ts)
ends_from_states head n ts e s = record {
  length = e;
  w32 = states32 head.big head.w32 (all_words32 (map measure_of ts)) s.w32;
  w64 = s.w64;
  count = elim s.objects [ inl o ↦ inr o | inr o ↦ inl o.0 ];
}

-- If the header agrees with all tokens and no value is expected after the first tokens, then the
-- header agrees with the first tokens.
ends_here : (head : Head) (n rest : ℕ) (ms : List (Option Measure)) (ts : List Token) → EndsAt head (n + rest) (ms ++ map measure_of ts) → OpenBefore ms ts → (ts ≡ [] → rest ≡ 0) → pending ms ≡ 0 → EndsAt head n ms
ends_here head n rest ms [] e o none p =
    let all : ms ++ [] ≡ ms = append-nil ms in
    let f : EndsAt head (n + rest) ms = rw all at e in
    record { length = omega (arith, f.length, none refl); w32 = f.w32; w64 = f.w64; count = f.count }
ends_here head n rest ms (t ∷ ts) e o none p = absurd (omega (arith, o.0))

-- If the header agrees with all tokens, then each initial list of the tokens fits the header.
fits_here : (head : Head) (n rest : ℕ) (ms : List (Option Measure)) (ts : List Token) → EndsAt head (n + rest) (ms ++ map measure_of ts) → pending (ms ++ map measure_of ts) ≡ 0 → OpenBefore ms ts → length ts ≤ rest → (ts ≡ [] → rest ≡ 0) → FitsUpTo head n ms
fits_here head n rest ms ts e p o l none = record {
  within = omega (arith, e.length);
  room = omega (arith, e.length, pending-le-length ms (map measure_of ts) p, length-map ts measure_of);
  w32 = λ b. omega (arith, e.w32 b, sum_by-append (of_object words32) ms (map measure_of ts));
  w64 = omega (arith, e.w64, sum_by-append (of_object words64) ms (map measure_of ts));
  end = ends_here head n rest ms ts e o none;
}

-- If the list of tokens is empty, then its chunks have no bytes.
no_bytes : (ts : List Token) (chunks : List (List ℕ)) → AllZip Encodes ts chunks → ts ≡ [] → length (concat chunks) ≡ 0
no_bytes [] [] s e = refl
no_bytes [] (chunk ∷ chunks) s e = absurd s
no_bytes (t ∷ ts) chunks s e = absurd (cc)

-- If the header agrees with all tokens, then the encoded tokens `ts` pass after the tokens
-- `before`.
pub tokens_pass : (header : List ℕ) (before : List (List ℕ)) (ms : List (Option Measure)) (ts : List Token) (chunks : List (List ℕ)) → map raw_measure before ≡ ms → AllZip Encodes ts chunks → OpenBefore ms ts → EachRefersBack (objects ms) ts → ((head_of header).objects ≡ 0 → All IsNoReference ts) → pending (ms ++ map measure_of ts) ≡ 0 → EndsAt (head_of header) (length (concat before) + length (concat chunks)) (ms ++ map measure_of ts) → TokensPass header before chunks
tokens_pass header before ms [] [] e s o r table p ends = tt
tokens_pass header before ms [] (chunk ∷ chunks) e s o r table p ends = absurd s
tokens_pass header before ms (t ∷ ts) [] e s o r table p ends = absurd s
tokens_pass header before ms (t ∷ ts) (chunk ∷ chunks) e s o r table p ends =
    let head = head_of header in
    let m : raw_measure chunk ≡ measure_of t = raw_measure-encoded t chunk s.0 in
    let next : List (Option Measure) = ms ++ measure_of t ∷ [] in
    let all : ms ++ map measure_of (t ∷ ts) ≡ next ++ map measure_of ts = sym (measures_cons ms (measure_of t) (map measure_of ts)) in
    let p' : pending (next ++ map measure_of ts) ≡ 0 = rw all at p in
    let rest = length (concat chunks) in
    let here : length (concat before) + length (concat (chunk ∷ chunks)) ≡ (length (concat before) + length chunk) + rest = omega (arith, length-append chunk (concat chunks)) in
    let ends' : EndsAt head ((length (concat before) + length chunk) + rest) (next ++ map measure_of ts) = subst₂ (λ n ns. EndsAt head n ns) here all ends in
    let fits : FitsUpTo head (length (concat before) + length chunk) next = fits_here head (length (concat before) + length chunk) rest next ts ends' p' o.1 (bytes_of_tokens ts chunks s.1) (no_bytes ts chunks s.1) in
    let same : map raw_measure before ++ raw_measure chunk ∷ [] ≡ next = cc (e, m) in
    let there : length (concat (before ++ chunk ∷ [])) ≡ length (concat before) + length chunk = length-concat_push before chunk in
    let more : objects next ≡ objects ms + made_by t = sum_by_push (of_object (λ _. 1)) ms (measure_of t) in (
      record {
        open_before = rw e o.0;
        raw = IsRaw-encoded t chunk s.0;
        passes = passes-encoded header before t chunk (rw e o.0) s.0 (rw e r.0) (λ z. All-head IsNoReference t ts (table z)) (rw same fits);
      },
      tokens_pass header (before ++ chunk ∷ []) next ts chunks (measures_push before ms chunk (measure_of t) e m) s.1 o.1 (rw more r.1)
          (λ z. All-tail IsNoReference t ts (table z)) p' (rw there ends'),
    )

-- ---- from steps to a value

-- The tokens that `chunks` encode. The chunks `before` come first, and `ms` lists the measures of
-- `before`.
pub record EncodedTokens (header : List ℕ) (before : List (List ℕ)) (ms : List (Option Measure)) (chunks : List (List ℕ)) : Type 0 where
  pub all : List Token
  pub encodes : AllZip Encodes all chunks
  pub are_tokens : All IsToken all
  pub opens : OpenBefore ms all
  pub refers_back : EachRefersBack (objects ms) all
  pub table : (head_of header).objects ≡ 0 → All IsNoReference all
  pub fits : FitsUpTo (head_of header) (length (concat before) + length (concat chunks)) (ms ++ map measure_of all)

-- If a chunk encodes a token, then the token is valid.
pub IsToken-encoded : (t : Token) (chunk : List ℕ) → Encodes t chunk → IsToken t
IsToken-encoded t [] s = absurd s
IsToken-encoded t (code ∷ rest) s = s.0

pub IsToken-all_encoded :
    (ts : List Token) (chunks : List (List ℕ)) → AllZip Encodes ts chunks → All IsToken ts
IsToken-all_encoded [] chunks s = All-nil IsToken
IsToken-all_encoded (t ∷ ts) [] s = absurd s
IsToken-all_encoded (t ∷ ts) (p ∷ chunks) s =
    All-cons IsToken t ts (IsToken-encoded t p s.0) (IsToken-all_encoded ts chunks s.1)

-- If the elements of a concatenation are bytes, then the elements of both parts are bytes.
pub AreBytes-prefix : (xs ys : List ℕ) → AreBytes (xs ++ ys) → AreBytes xs
AreBytes-prefix xs ys a = rw (take_at xs ys (length xs) refl) at (All-take (λ b. b < 256) (length xs) (xs ++ ys) a)

pub AreBytes-rest : (xs ys : List ℕ) → AreBytes (xs ++ ys) → AreBytes ys
AreBytes-rest xs ys a = rw (drop_at xs ys (length xs) refl) at (All-drop (λ b. b < 256) (length xs) (xs ++ ys) a)

-- If `chunk` encodes a token and `chunks` encode tokens after it, then `chunk` and `chunks`
-- together encode tokens.
encoded_cons : (header : List ℕ) (before : List (List ℕ)) (ms : List (Option Measure)) (chunk : List ℕ) (chunks : List (List ℕ)) → map raw_measure before ≡ ms → 0 < pending ms → (there : EncodedThere header before chunk) → EncodedTokens header (before ++ chunk ∷ []) (ms ++ measure_of there.token ∷ []) chunks → EncodedTokens header before ms (chunk ∷ chunks)
encoded_cons header before ms chunk chunks e k there r =
    let t = there.token in
    let here : length (concat (before ++ chunk ∷ [])) + length (concat chunks) ≡ length (concat before) + length (concat (chunk ∷ chunks)) = omega (arith, length-concat_push before chunk, length-append chunk (concat chunks)) in
    let made : objects (ms ++ measure_of t ∷ []) ≡ objects ms + made_by t = sum_by_push (of_object (λ _. 1)) ms (measure_of t) in
    record {
      all = t ∷ r.all;
      encodes = (there.encodes, r.encodes);
      are_tokens = All-cons IsToken t r.all (IsToken-encoded t chunk there.encodes) r.are_tokens;
      opens = (k, r.opens);
      refers_back = (rw e at there.refers_back, rw made at r.refers_back);
      table = λ z. All-cons IsNoReference t r.all (there.table z) (r.table z);
      fits = subst₂ (λ n ns. FitsUpTo (head_of header) n ns) here (measures_cons ms (measure_of t) (map measure_of r.all)) r.fits;
    }

-- If a chunk fits after other chunks, then the chunk fits after tokens with the measures of these
-- chunks.
fits_after : (header : List ℕ) (before : List (List ℕ)) (ms : List (Option Measure)) (chunk : List ℕ) (m : Option Measure) → map raw_measure before ≡ ms → raw_measure chunk ≡ m → FitsAfter (head_of header) before chunk → FitsUpTo (head_of header) (length (concat (before ++ chunk ∷ []))) (ms ++ m ∷ [])
fits_after header before ms chunk m e f fits =
    let same : map raw_measure before ++ raw_measure chunk ∷ [] ≡ ms ++ m ∷ [] = cc (e, f) in
    subst₂ (λ n ns. FitsUpTo (head_of header) n ns) (sym (length-concat_push before chunk)) same fits

-- If chunks pass after chunks that fit, then the chunks encode tokens.
pub encoded_tokens : (header : List ℕ) (before : List (List ℕ)) (ms : List (Option Measure)) (chunks : List (List ℕ)) → map raw_measure before ≡ ms → AreBytes (concat chunks) → FitsUpTo (head_of header) (length (concat before)) ms → TokensPass header before chunks → EncodedTokens header before ms chunks
encoded_tokens header before ms [] e a f p = record {
  all = [];
  encodes = tt;
  are_tokens = All-nil IsToken;
  opens = tt;
  refers_back = tt;
  table = λ _. All-nil IsNoReference;
  fits = rw (append-nil ms, add-zero) f;
}
encoded_tokens header before ms (chunk ∷ chunks) e a f p =
    let k : 0 < pending ms = rw e at p.0.open_before in
    let there : EncodedThere header before chunk = EncodedThere-passes header before chunk (AreBytes-prefix chunk (concat chunks) a) p.0.raw p.0.passes in
    let m : raw_measure chunk ≡ measure_of there.token = raw_measure-encoded there.token chunk there.encodes in
    let fits : FitsAfter (head_of header) before chunk = FitsAfter-passes header before chunk p.0.open_before p.0.raw p.0.passes (omega (arith, f.room)) in
    encoded_cons header before ms chunk chunks e k there
    (encoded_tokens header (before ++ chunk ∷ []) (ms ++ measure_of there.token ∷ []) chunks (measures_push before ms chunk (measure_of there.token) e m)
    (AreBytes-rest chunk (concat chunks) a) (fits_after header before ms chunk (measure_of there.token) e m fits) p.1)
