-- Bytes are exactly one stream of values.
use Rattle.std.proofs.Common.{◌≡◌, ℕ, zero, suc, ◌+◌, ◌-◌, ◌≤◌, ◌<◌, List, [], ◌∷◌, ◌++◌, length, take, drop, min, inl, inr, length-take, refl, sym, ap, ◌∙◌, subst, length-append, arith}
use Rattle.std.proofs.Math.Seq.{take-append_seam, drop-append_seam}
use Rattle.std.proofs.lemmas.List.{take-append-drop, length-drop, length-take-le}
use Rattle.std.proofs.lemmas.List.Elements.{All-drop}
use Rattle.base_data.specs.model.Bytes.{AreBytes}
use Rattle.marshal_spec.specs.format.Tree.{Tree}
use Rattle.marshal_spec.specs.format.Encoded.{EncodedUnder}
use Rattle.base_data.specs.declared.model.refusal.ReadRefusal.{ReadRefusal}
use Rattle.marshal_spec.specs.format.Prefix.{IsRefused}
use Rattle.marshal_spec.specs.format.Judgement.{Judgement, value, Judges}
use Rattle.marshal_spec.specs.format.Judgement as j
use Rattle.marshal_spec.specs.format.Laws.{HasOneJudgement}
use Rattle.marshal_spec.specs.format.Stream.{EncodeAll, StreamEnd, clean, refused, cut, IsTail, Stream}
use Rattle.marshal_spec.proofs.format.JudgementLaws.{one_judgement_lem}
use Rattle.run_spec.specs.runs.StreamLaws.{HasOneStream}
use Rattle.run_spec.proofs.runs.LengthLemmas.{encoded_some}

-- A list with a last element is not empty.
empty : (n : ℕ) (prefix : List ℕ) (last : ℕ) → take n [] ≡ prefix ++ last ∷ [] → ⊥
empty n prefix last e =
    let size : length (prefix ++ last ∷ []) ≡ length prefix + 1 = length-append prefix (last ∷ []) in
    let zero : length (take {A = ℕ} n []) ≡ min n (length {A = ℕ} []) = length-take {A = ℕ} n [] in
    let same : length (take {A = ℕ} n []) ≡ length (prefix ++ last ∷ []) = ap length e in omega arith

pub bytes_after : (first more : List ℕ) → AreBytes (first ++ more) → AreBytes more
bytes_after first more h = subst AreBytes (drop-append_seam first more) (All-drop (λ b. b < 256) (length first) (first ++ more) h)

module _ (law : HasOneJudgement) (limit : ℕ) where
  judged : (first more : List ℕ) (tree : Tree) → EncodedUnder limit first tree → Judges limit (first ++ more) (value (length first) tree)
  judged first more tree encoded =
      let fits : length first ≤ length (first ++ more) = let all : length (first ++ more) ≡ length first + length more = length-append first more in omega arith in
      (fits, subst (λ bytes. EncodedUnder limit bytes tree) (sym (take-append_seam first more)) encoded)

  -- The first value is unique.
  pub one_value : (first more first' more' : List ℕ) (tree tree' : Tree) → AreBytes (first ++ more) → first ++ more ≡ first' ++ more'
      → EncodedUnder limit first tree → EncodedUnder limit first' tree' → (tree ≡ tree') × (length first ≡ length first')
  one_value first more first' more' tree tree' are_bytes same encoded encoded' =
      let j = law limit (first ++ more) are_bytes in
      let one = j.1.only (value (length first) tree) (judged first more tree encoded) in
      let other = j.1.only (value (length first') tree') (subst (λ bytes. Judges limit bytes (value (length first') tree')) (sym same) (judged first' more' tree' encoded')) in
      let both : value (length first) tree ≡ value (length first') tree' = one ∙ sym other in
      (cc, cc)

  not_both : (j k : Judgement) (bytes : List ℕ) → AreBytes bytes → Judges limit bytes j → Judges limit bytes k → j ≡ k
  not_both j k bytes are_bytes one other = let law = law limit bytes are_bytes in law.1.only j one ∙ sym (law.1.only k other)

  -- An empty list of bytes is not refused.
  nothing_refused : (n : ℕ) (refusal : ReadRefusal) → IsRefused limit (take n []) refusal → ⊥
  nothing_refused n refusal (inl r) = empty n r.prefix r.last r.bytes_are
  nothing_refused n refusal (inr r) = empty n r.prefix r.last r.bytes_are

  -- If a value begins the bytes, then the bytes are no tail.
  pub value_or_tail : (first more tail : List ℕ) (t : Tree) (e : StreamEnd) → AreBytes tail → EncodedUnder limit first t → tail ≡ first ++ more → IsTail limit tail e → ⊥
  value_or_tail first more tail t clean are_bytes encoded same h =
      let some : 0 < length first = encoded_some limit first t encoded in
      let size : length (first ++ more) ≡ length first + length more = length-append first more in
      let zero : length (first ++ more) ≡ 0 = ap length (sym same ∙ h) in absurd (omega arith)
  value_or_tail first more tail t (refused refusal) are_bytes encoded same (n, fits, r) =
      let at_prefix = subst (λ b. Judges limit b (value (length first) t)) (sym same) (judged first more t encoded) in
      let e = not_both (value (length first) t) (j.refused n refusal) tail are_bytes at_prefix (fits, r) in cc e
  value_or_tail first more tail t (cut n) are_bytes encoded same (some, size, f) =
      let at_prefix = subst (λ b. Judges limit b (value (length first) t)) (sym same) (judged first more t encoded) in
      let e = not_both (value (length first) t) j.prefix tail are_bytes at_prefix f in cc e

  -- The end of a tail is unique.
  tail_once : (tail : List ℕ) (e e' : StreamEnd) → AreBytes tail → IsTail limit tail e → IsTail limit tail e' → e ≡ e'
  tail_once tail clean clean are_bytes h h' = refl
  tail_once tail clean (refused r) are_bytes h (n, fits, is) = absurd (nothing_refused n r (subst (λ b. IsRefused limit (take n b) r) h is))
  tail_once tail clean (cut n) are_bytes h (some, size, f) = let zero : length tail ≡ 0 = ap length h in absurd (omega arith)
  tail_once tail (refused r) clean are_bytes (n, fits, is) h = absurd (nothing_refused n r (subst (λ b. IsRefused limit (take n b) r) h is))
  tail_once tail (refused r) (refused r') are_bytes (n, fits, is) (n', fits', is') =
      let e = not_both (j.refused n r) (j.refused n' r') tail are_bytes (fits, is) (fits', is') in
      let same : r ≡ r' = cc in ap (λ r. refused r) same
  tail_once tail (refused r) (cut n') are_bytes (n, fits, is) (some, size, f) =
      let e = not_both (j.refused n r) j.prefix tail are_bytes (fits, is) f in cc e
  tail_once tail (cut n) clean are_bytes (some, size, f) h = let zero : length tail ≡ 0 = ap length h in absurd (omega arith)
  tail_once tail (cut n) (refused r) are_bytes (some, size, f) (n', fits, is) =
      let e = not_both (j.refused n' r) j.prefix tail are_bytes (fits, is) f in cc e
  tail_once tail (cut n) (cut n') are_bytes (some, size, f) (some', size', f') = ap (λ n. cut n) (sym size ∙ size')

  -- Bytes are at most one stream of values, with one end.
  pub streams_once : (bytes : List ℕ) (trees others : List Tree) (end other : StreamEnd) → AreBytes bytes
      → Stream bytes limit trees end → Stream bytes limit others other → (trees ≡ others) × (end ≡ other)
  streams_once bytes [] [] end other are_bytes (tail, same, is) (tail', same', is') =
      (refl, tail_once tail end other (subst AreBytes same are_bytes) is (subst (λ t. IsTail limit t other) (sym same' ∙ same) is'))
  streams_once bytes [] (t ∷ others) end other are_bytes (tail, same, is) (tail', (first, more, same', encoded, rest), is') =
      absurd (value_or_tail first more tail t end (subst AreBytes same are_bytes) encoded (sym same ∙ same') is)
  streams_once bytes (t ∷ trees) [] end other are_bytes (tail, (first, more, same', encoded, rest), is) (tail', same, is') =
      absurd (value_or_tail first more tail' t other (subst AreBytes same are_bytes) encoded (sym same ∙ same') is')
  streams_once bytes (t ∷ trees) (u ∷ others) end other are_bytes (tail, (first, more, same, encoded, rest), is) (tail', (first', more', same', encoded', rest'), is') =
      let whole : AreBytes (first ++ more) = subst AreBytes same are_bytes in
      let one = one_value first more first' more' t u whole (sym same ∙ same') encoded encoded' in
      let after : more ≡ more' =
      sym (drop-append_seam first more) ∙ (ap (λ n. drop n (first ++ more)) one.1 ∙ (ap (λ b. drop (length first') b) (sym same ∙ same') ∙ drop-append_seam first' more')) in
      let next = streams_once more trees others end other (bytes_after first more whole) (tail, rest, is) (tail', subst (λ m. EncodeAll limit m others tail') (sym after) rest', is') in
      (let head : t ≡ u = one.0 in let tails : trees ≡ others = next.0 in cc, next.1)

  -- If two readings of bytes have equally many values, then the values are equal and the remaining
  -- bytes are equal.
  pub encode_once : (bytes : List ℕ) (trees others : List Tree) (rest other : List ℕ) → AreBytes bytes → length trees ≡ length others → EncodeAll limit bytes trees rest → EncodeAll limit bytes others other
      → (trees ≡ others) × (rest ≡ other)
  encode_once bytes [] [] rest other are_bytes e h g = (refl, sym h ∙ g)
  encode_once bytes [] (u ∷ others) rest other are_bytes e h g = absurd (cc e)
  encode_once bytes (t ∷ trees) [] rest other are_bytes e h g = absurd (cc e)
  encode_once bytes (t ∷ trees) (u ∷ others) rest other are_bytes e (first, more, same, encoded, all) (first', more', same', encoded', all') =
      let whole : AreBytes (first ++ more) = subst AreBytes same are_bytes in
      let one = one_value first more first' more' t u whole (sym same ∙ same') encoded encoded' in
      let after : more ≡ more' =
      sym (drop-append_seam first more) ∙ (ap (λ n. drop n (first ++ more)) one.1 ∙ (ap (λ b. drop (length first') b) (sym same ∙ same') ∙ drop-append_seam first' more')) in
      let next = encode_once more trees others rest other (bytes_after first more whole) (omega (arith, e)) all (subst (λ m. EncodeAll limit m others other) (sym after) all') in
      (let head : t ≡ u = one.0 in let tails : trees ≡ others = next.0 in cc, next.1)

-- ---- a stream continues

pub encode_append : (limit : ℕ) (bytes rest tail : List ℕ) (trees more : List Tree) → EncodeAll limit bytes trees rest → EncodeAll limit rest more tail → EncodeAll limit bytes (trees ++ more) tail
encode_append limit bytes rest tail [] more same next = subst (λ bytes. EncodeAll limit bytes more tail) (sym same) next
encode_append limit bytes rest tail (tree ∷ trees) more (first, after, same, encoded, all) next = (first, after, same, encoded, encode_append limit after rest tail trees more all next)

pub encode_bytes : (limit : ℕ) (bytes rest : List ℕ) (trees : List Tree) → EncodeAll limit bytes trees rest → AreBytes bytes → AreBytes rest
encode_bytes limit bytes rest [] same are_bytes = subst AreBytes same are_bytes
encode_bytes limit bytes rest (tree ∷ trees) (first, more, same, encoded, all) are_bytes =
    encode_bytes limit more rest trees all (bytes_after first more (subst AreBytes same are_bytes))

module _ (law : HasOneJudgement) (limit : ℕ) where
  -- Bytes are a stream of values.
  stream_in : (fuel : ℕ) (bytes : List ℕ) → length bytes ≤ fuel → AreBytes bytes → (trees : List Tree) × (end : StreamEnd) × Stream bytes limit trees end
  stream_in fuel [] fits are_bytes = ([], clean, ([], refl, refl))
  stream_in zero (b ∷ bytes) fits are_bytes = absurd (omega arith)
  stream_in (suc fuel) (b ∷ bytes) fits are_bytes =
      let one = law limit (b ∷ bytes) are_bytes in at (λ more. stream_in fuel more) one.0 one.1.holds where
        at : ((more : List ℕ) → length more ≤ fuel → AreBytes more → (trees : List Tree) × (end : StreamEnd) × Stream more limit trees end)
            → (judgement : Judgement) → Judges limit (b ∷ bytes) judgement → (trees : List Tree) × (end : StreamEnd) × Stream (b ∷ bytes) limit trees end
        at next_stream j.prefix f = ([], cut (length (b ∷ bytes)), (b ∷ bytes, refl, (omega arith, refl, f)))
        at next_stream (j.refused n refusal) r = ([], refused refusal, (b ∷ bytes, refl, (n, r.0, r.1)))
        at next_stream (j.value n tree) v =
            let some : 0 < length (take n (b ∷ bytes)) = encoded_some limit (take n (b ∷ bytes)) tree v.1 in
            let taken : length (take n (b ∷ bytes)) ≡ n = length-take-le n (b ∷ bytes) v.0 in
            let left : length (drop n (b ∷ bytes)) ≡ length (b ∷ bytes) - n = length-drop n (b ∷ bytes) in
            let next = next_stream (drop n (b ∷ bytes)) (omega arith) (All-drop (λ b. b < 256) n (b ∷ bytes) are_bytes) in (
              tree ∷ next.0,
              next.1,
              (next.2.0, (take n (b ∷ bytes), drop n (b ∷ bytes), sym (take-append-drop n (b ∷ bytes)), v.1, next.2.1), next.2.2),
            )

  pub stream_of : (bytes : List ℕ) → AreBytes bytes → (trees : List Tree) × (end : StreamEnd) × Stream bytes limit trees end
  stream_of bytes are_bytes = stream_in (length bytes) bytes (omega arith) are_bytes

-- Bytes are exactly one stream.
pub one_stream_lem : HasOneStream
one_stream_lem limit bytes are_bytes =
    let some = stream_of one_judgement_lem limit bytes are_bytes in (
      some.0,
      some.1,
      record {
        holds = some.2;
        only = λ others other stream.
            streams_once one_judgement_lem limit bytes others some.0 other some.1 are_bytes stream
            some.2;
      },
    )
