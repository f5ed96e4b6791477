-- Tokens that pass while values are pending.
use Rattle.std.proofs.Common.{ℕ, ◌+◌, ◌<◌, ◌≤◌, ◌≡◌, ◌∙◌, false, List, [], ◌∷◌, ◌++◌, length, map, Option, inr, refl, sym, subst, subst₂, arith, append-nil, append_assoc, length-append}
use Rattle.std.specs.Prelude.{All}
use Rattle.std.specs.List.{concat, AllZip}
use Rattle.std.proofs.lemmas.List.{map_push, length-map}
use Rattle.std.proofs.lemmas.List.Sums.{sum_by_push, sum_by-append}
use Rattle.std.proofs.lemmas.List.Elements.{All-head, All-tail}
use Rattle.base_data.specs.declared.model.header.Head.{Head}
use Rattle.base_data.specs.declared.model.code.Measure.{Measure}
use Rattle.marshal_spec.specs.format.Header.{head_of}
use Rattle.marshal_spec.specs.format.Raw.{raw_measure}
use Rattle.marshal_spec.specs.format.Words.{of_object, words32, words64, objects, all_words32, all_words64, pending}
use Rattle.marshal_spec.specs.format.Prefix.{TokensPass, context}
use Rattle.marshal_spec.specs.format.Token.{Token, measure_of, Encodes}
use Rattle.marshal_spec.specs.format.Tree.{made_by}
use Rattle.marshal_spec.specs.format.Preorder.{OpenBefore, EachRefersBack}
use Rattle.marshal_spec.specs.format.Encoded.{IsNoReference}
use Rattle.marshal_spec.proofs.format.Pending.{pending-le}
use Rattle.marshal_spec.proofs.format.EncodeLemmas.{IsRaw-encoded, raw_measure-encoded}
use Rattle.marshal_spec.proofs.format.EncodeTokens.{FitsUpTo, passes-encoded}
use Rattle.marshal_spec.proofs.format.EncodeHeaders.{HeaderPasses-facts}
use Rattle.marshal_spec.proofs.format.EncodeValues.{raw_measures-encoded, length-concat_push, bytes_of_tokens}
use Rattle.check_stream.specs.truncated.Laws.{UnderwayIsPrefix}

-- After `n` bytes of data and tokens of these measures, values are pending. The header has room for
-- one byte of each pending value, and for the words of the tokens.
pub record GoesOn (head : Head) (n : ℕ) (ms : List (Option Measure)) : Type 0 where
  pub open_before : 0 < pending ms
  pub room : n + pending ms ≤ head.length
  pub w32 : head.big ≡ false → all_words32 ms ≤ head.w32
  pub w64 : all_words64 ms ≤ head.w64

-- If values are pending before each token and after the last token, then a value is pending now.
open_here : (ms : List (Option Measure)) (ts : List Token) → OpenBefore ms ts → 0 < pending (ms ++ map measure_of ts) → 0 < pending ms
open_here ms [] o p = rw (append-nil ms) at p
open_here ms (t ∷ ts) o p = o.0

-- If values are pending after all tokens, then the header has room for the first token.
fits_here : (head : Head) (n rest : ℕ) (ms : List (Option Measure)) (ts : List Token) → GoesOn head (n + rest) (ms ++ map measure_of ts) → OpenBefore ms ts → length ts ≤ rest → FitsUpTo head n ms
fits_here head n rest ms ts g o l =
    let room' = g.room in
    let many = pending-le ms (map measure_of ts) in
    let long = length-map ts measure_of in
    let some = open_here ms ts o g.open_before in
    record {
      within = omega (arith, room');
      room = omega (arith, room', many, long, l);
      w32 = λ b. let w = g.w32 b in let sum = sum_by-append (of_object words32) ms (map measure_of ts) in omega (arith, w, sum);
      w64 = let w = g.w64 in let sum = sum_by-append (of_object words64) ms (map measure_of ts) in omega (arith, w, sum);
      end = λ none. absurd (omega (arith, none, some));
    }

-- If values are pending after all tokens, then no step refuses the encoded tokens.
pub tokens_go_on :
    (header : List ℕ) (before : List (List ℕ)) (ms : List (Option Measure)) (ts : List Token) (chunks : List (List ℕ)) → map raw_measure before ≡ ms → AllZip Encodes ts chunks → OpenBefore ms ts → EachRefersBack (objects ms) ts
    → ((head_of header).objects ≡ 0 → All IsNoReference ts) → GoesOn (head_of header) (length (concat before) + length (concat chunks)) (ms ++ map measure_of ts)
    → TokensPass header before chunks
tokens_go_on header before ms [] [] e s o r table g = tt
tokens_go_on header before ms [] (chunk ∷ chunks) e s o r table g = absurd s
tokens_go_on header before ms (t ∷ ts) [] e s o r table g = absurd s
tokens_go_on header before ms (t ∷ ts) (chunk ∷ chunks) e s o r table g =
    let head = head_of header in
    let m : raw_measure chunk ≡ measure_of t = raw_measure-encoded t chunk s.0 in
    let next : List (Option Measure) = ms ++ measure_of t ∷ [] in
    let all : ms ++ map measure_of (t ∷ ts) ≡ next ++ map measure_of ts = sym (append_assoc ms (measure_of t ∷ []) (map measure_of ts)) in
    let rest = length (concat chunks) in
    let long = length-append chunk (concat chunks) in
    let here : length (concat before) + length (concat (chunk ∷ chunks)) ≡ (length (concat before) + length chunk) + rest = omega (arith, long) in
    let g' : GoesOn head ((length (concat before) + length chunk) + rest) (next ++ map measure_of ts) = subst₂ (λ n ns. GoesOn head n ns) here all g in
    let fits : FitsUpTo head (length (concat before) + length chunk) next = fits_here head (length (concat before) + length chunk) rest next ts g' o.1 (bytes_of_tokens ts chunks s.1) in
    let same : map raw_measure before ++ raw_measure chunk ∷ [] ≡ next = cc (e, m) in
    let there : length (concat (before ++ chunk ∷ [])) ≡ length (concat before) + length chunk = length-concat_push before chunk in
    let more : objects next ≡ objects ms + made_by t = sum_by_push (of_object (λ _. 1)) ms (measure_of t) in (
      record {
        open_before = rw e o.0;
        raw = IsRaw-encoded t chunk s.0;
        passes = passes-encoded header before t chunk (rw e o.0) s.0 (rw e r.0) (λ z. All-head IsNoReference t ts (table z)) (rw same fits);
      },
      tokens_go_on header (before ++ chunk ∷ []) next ts chunks (map_push raw_measure before chunk ∙ same) s.1 o.1 (rw more r.1)
          (λ z. All-tail IsNoReference t ts (table z)) (rw there g'),
    )

pub underway_is_prefix : UnderwayIsPrefix
underway_is_prefix limit bytes header chunks tokens rest n few32 few64 u truncated room =
    let head = head_of header in
    let long = length (concat chunks) in
    let r = room.room in
    let o = room.open_before in
    let some = truncated.some in
    let few = room.w64 in
    let goes : GoesOn head (0 + long) (map raw_measure chunks) = record {
      open_before = o;
      room = omega (arith, r, some);
      w32 = λ b. let w = room.w32 b in omega (arith, w);
      w64 = omega (arith, few);
    } in
    let g : GoesOn head (0 + long) (map measure_of tokens) = subst (GoesOn head (0 + long)) (raw_measures-encoded tokens chunks u.encodes) goes in
    inr (
      header,
      chunks,
      rest,
      record {
        bytes_are = u.bytes_are;
        header_passes = HeaderPasses-facts limit header (record { is_header = u.is_header; words = u.words; small = u.small; some = omega (arith, r, o, some) });
        tokens_pass = tokens_go_on header [] [] tokens chunks refl u.encodes u.open_before u.refer_back u.unshared g;
        open_before = o;
        part = truncated.is_part;
        passes = truncated.passes (context header chunks) room;
      },
    )
