-- Reading a token again from a position among the tokens of a value.
use Rattle.std.proofs.Common.{ℕ, suc, ◌+◌, ◌*◌, ◌/◌, ◌<◌, ◌≤◌, ◌≡◌, ◌∙◌, refl, inl, ⊎_elim, List, [], ◌∷◌, ◌++◌, length, map, take, drop, get_or, Some, sym, ap, subst, arith}
use Rattle.std.specs.Prelude.{slice_get, IsTrue, IfSome, Option, None, ◌-◌}
use Rattle.std.proofs.lemmas.List.{append_assoc, append-nil, length-append, length-drop, length-map, length-take-le, take-append-drop, drop-append-le, drop-drop, drop_at, drop_all, take_rest}
use Rattle.std.proofs.Math.Seq.{drop-cons}
use Rattle.std.proofs.lemmas.Option.{none-some}
use Rattle.marshal_spec.proofs.canonical.CanonicalListLemmas.{slice_get_push_cases}
use Rattle.base_data.specs.declared.model.value.Obj.TheVariants as objs
use Rattle.types_spec.specs.types.Table.{Table}
use Rattle.types_spec.specs.types.Fitting.{is_mutable}
use Rattle.marshal_spec.specs.format.Words.{objects, of_object}
use Rattle.marshal_spec.specs.format.Token.{Token, block, IsToken, Encodes, measure_of}
use Rattle.marshal_spec.specs.format.Tree.{made_by, value_of}
use Rattle.marshal_spec.proofs.format.RawLemmas.{IsRaw-same}
use Rattle.marshal_spec.proofs.format.EncodeLemmas.{IsRaw-encoded, Encodes-same}
use Rattle.marshal_spec.proofs.format.Counts.{objects-tokens-append, objects-tokens-cons}
use Rattle.marshal_spec.proofs.format.EncodeValues.{IsToken-encoded}
use Rattle.check_stream.specs.theory.AskedNeeds.{of_type, shape_at, block_needs}
use Rattle.check_stream.specs.theory.Noted.{IsAt, IsFlat, Stands, flat_values, IsFlatNoted}
use Rattle.check_stream.proofs.theory.OnePassNotedLemmas.{stands_after}
use Rattle.marshal_codec.specs.declared.token.summary.Summary.{Summary}
use Rattle.marshal_codec.specs.declared.token.summary.Summary.TheVariants as summaries
use Rattle.marshal_codec.specs.token.Summary.{IsSummary, IsSummaryBy, summary_measure}
use Rattle.marshal_codec.proofs.token.SummaryLemmas.{measured}
use Rattle.check_stream.specs.checker.Again.{EncodeAll, Inspects, IsPosition, AreMarks, IsBlockAt, IsBlockIn, IsBlockSeen, IsReference, AreFields}

-- ---- one more encoded token

encode_push : (ts : List Token) (t : Token) (bytes chunk : List ℕ) → EncodeAll ts bytes → Encodes t chunk → EncodeAll (ts ++ t ∷ []) (bytes ++ chunk)
encode_push [] t bytes chunk s p = (chunk, [], ap (λ xs. xs ++ chunk) s ∙ sym (append-nil chunk), p, refl)
encode_push (u ∷ ts) t bytes chunk s p = (s.0, s.1 ++ chunk, ap (λ xs. xs ++ chunk) s.2 ∙ append_assoc s.0 s.1 chunk, s.3, encode_push ts t s.1 chunk s.4 p)

position_more : (prefix chunk : List ℕ) (tokens : List Token) (t : Token) (at c : ℕ) → Encodes t chunk → IsPosition prefix tokens at c → IsPosition (prefix ++ chunk) (tokens ++ t ∷ []) at c
position_more prefix chunk tokens t at c s p = record {
  first = p.first;
  last = p.last ++ t ∷ [];
  whole = ap (λ ts. ts ++ t ∷ []) p.whole ∙ append_assoc p.first p.last (t ∷ []);
  made = p.made;
  within = let here = p.within in let long = length-append prefix chunk in omega (arith, here, long);
  encodes = subst (EncodeAll (p.last ++ t ∷ [])) (sym (drop-append-le at prefix chunk p.within)) (encode_push p.last t (drop at prefix) chunk p.encodes s);
}

pub marks_more : (prefix chunk marks : List ℕ) (tokens : List Token) (t : Token) → Encodes t chunk → AreMarks prefix marks tokens → AreMarks (prefix ++ chunk) marks (tokens ++ t ∷ [])
marks_more prefix chunk marks tokens t s are k at is = position_more prefix chunk tokens t at (64 * k) s (are k at is)

-- The end of all tokens is a position.
position_here : (prefix : List ℕ) (tokens : List Token) (at c : ℕ) → at ≡ length prefix → objects (map measure_of tokens) ≡ c → IsPosition prefix tokens at c
position_here prefix tokens at c here made = record {
  first = tokens;
  last = [];
  whole = sym (append-nil tokens);
  made = made;
  within = omega (arith, here);
  encodes = drop_all at prefix (omega (arith, here));
}

pub marks_push : (prefix marks : List ℕ) (tokens : List Token) (at : ℕ) → at ≡ length prefix → objects (map measure_of tokens) ≡ 64 * length marks → AreMarks prefix marks tokens → AreMarks prefix (marks ++ at ∷ []) tokens
marks_push prefix marks tokens at here made are k p is =
    ⊎_elim
    (λ before. are k p before)
    (λ last. position_here prefix tokens p (64 * k) (last.1 ∙ here) (made ∙ ap (λ n. 64 * n) (sym last.0)))
    (slice_get_push_cases marks at k p is)

pub no_marks : (prefix : List ℕ) (tokens : List Token) → AreMarks prefix [] tokens
no_marks prefix tokens k p is = absurd (none-some p is)

-- ---- the result of `inspect`

-- If the bytes begin with a token, then that token is the first of all tokens that the bytes
-- encode.
pub inspected : (bytes : List ℕ) (seen : Summary) (len : ℕ) → IsSummaryBy bytes seen len → Inspects bytes seen len
inspected bytes seen len by = record {
  some = by.some;
  within = by.within;
  is_first = λ t ts s.
      let chunk : take len bytes ≡ s.0 = IsRaw-same (take len bytes) s.0 (drop len bytes) s.1 (IsRaw-encoded by.token (take len bytes) by.encodes) (IsRaw-encoded t s.0 s.3) (take-append-drop len bytes ∙ s.2) in
      let same : by.token ≡ t = Encodes-same by.token t s.0 (subst (Encodes by.token) chunk by.encodes) s.3 in
      let long : length s.0 ≡ len = sym (ap length chunk) ∙ length-take-le len bytes by.within in
      let rest : s.1 ≡ drop len bytes = sym (ap (drop len) s.2 ∙ drop_at s.0 s.1 len long) in
      record {
        is_token = IsToken-encoded t s.0 s.3;
        is_seen = subst (IsSummary seen) same by.is_summary;
        encodes = subst (EncodeAll ts) rest s.4;
      };
}

-- The summary determines how many objects the token makes.
pub made_summary : (seen other : Summary) → seen ≡ other → (token : Token) → IsSummary seen token → made_by token ≡ of_object (λ _. 1) (summary_measure other)
made_summary seen other is token its =
    ap (of_object (λ _. 1)) (measured other (summary_measure other) refl token (subst (λ s. IsSummary s token) is its))

-- If the summary is that of a reference, then the bytes begin with a reference.
pub reference_seen : (bytes : List ℕ) (seen : Summary) (offset len : ℕ) → seen ≡ summaries.Shared offset → IsSummaryBy bytes seen len → IsReference bytes offset len
reference_seen bytes seen offset len is by = record {
  some = by.some;
  within = by.within;
  encodes = subst (λ t. Encodes t (take len bytes)) (subst (λ s. IsSummary s by.token) is by.is_summary) by.encodes;
}

-- ---- the next token from a position

pub record Next (prefix : List ℕ) (tokens : List Token) (c : ℕ) (seen : Summary) (after : ℕ) : Type 0 where
  pub token : Token
  pub first : List Token
  pub last : List Token
  pub whole : tokens ≡ first ++ token ∷ last
  pub made : objects (map measure_of first) ≡ c
  pub is_token : IsToken token
  pub is_seen : IsSummary seen token
  pub within : after ≤ length prefix
  pub encodes : EncodeAll last (drop after prefix)

next_from :
    (prefix : List ℕ) (tokens : List Token) (at c : ℕ) (seen : Summary) (len : ℕ) (first last : List Token) → tokens ≡ first ++ last → objects (map measure_of first) ≡ c → at ≤ length prefix → EncodeAll last (drop at prefix)
    → Inspects (drop at prefix) seen len → Next prefix tokens c seen (at + len)
next_from prefix tokens at c seen len first [] whole made within encodes l =
    let some = l.some in let few = l.within in let none = ap length encodes in absurd (omega (arith, some, few, none))
next_from prefix tokens at c seen len first (t ∷ last) whole made within encodes l =
    let f = l.is_first t last encodes in
    record {
      token = t;
      first = first;
      last = last;
      whole = whole;
      made = made;
      is_token = f.is_token;
      is_seen = f.is_seen;
      within = let few = l.within in let left = length-drop at prefix in omega (arith, within, few, left);
      encodes = subst (EncodeAll last) (drop-drop len at prefix) f.encodes;
    }

pub position_next : (prefix : List ℕ) (tokens : List Token) (at c : ℕ) (seen : Summary) (len : ℕ) → IsPosition prefix tokens at c → Inspects (drop at prefix) seen len → Next prefix tokens c seen (at + len)
position_next prefix tokens at c seen len p l = next_from prefix tokens at c seen len p.first p.last p.whole p.made p.within p.encodes l

-- The offset after the next token is a position among the tokens, with `d` objects before it.
pub position_after : (prefix : List ℕ) (tokens : List Token) (c : ℕ) (seen : Summary) (after d : ℕ) → (n : Next prefix tokens c seen after) → c + made_by n.token ≡ d → IsPosition prefix tokens after d
position_after prefix tokens c seen after d n made =
    let both = objects-tokens-append n.first (n.token ∷ []) in
    let one = objects-tokens-cons n.token [] in
    let before = n.made in
    record {
      first = n.first ++ n.token ∷ [];
      last = n.last;
      whole = n.whole ∙ sym (append_assoc n.first (n.token ∷ []) n.last);
      made = let none : objects (map measure_of []) ≡ 0 = refl in omega (arith, both, one, none, before, made);
      within = n.within;
      encodes = n.encodes;
    }

-- If the next token is a block, then the fields of the block begin at offset `after`.
pub block_next : (prefix : List ℕ) (tokens : List Token) (c : ℕ) (seen : Summary) (after o tag size : ℕ) → (n : Next prefix tokens c seen after) → c ≡ o → n.token ≡ block tag size → IsBlockAt prefix tokens o tag size after
block_next prefix tokens c seen after o tag size n is same = record {
  first = n.first;
  last = n.last;
  whole = subst (λ t. tokens ≡ n.first ++ t ∷ n.last) same n.whole;
  made = n.made ∙ is;
  within = n.within;
  encodes = n.encodes;
}

-- ---- flat fields

module _ (table : Table) (types : List ℕ) (o : ℕ) where
  pub no_fields : (ts : List Token) → AreFields table types o [] ts
  no_fields ts = record { flat = []; rest = ts; whole = refl; many = refl; are_flat = tt; at = tt }

  pub next_field :
      (bytes : List ℕ) (t : ℕ) (fields : List ℕ) (seen : Summary) (len : ℕ) → Inspects bytes seen len → ((token : Token) → IsSummary seen token → IsFlat token × IsAt table types [] (value_of token (o + 1)) t)
      → ((ts : List Token) → EncodeAll ts (drop len bytes) → AreFields table types o fields ts)
      → (ts : List Token) → EncodeAll ts bytes → AreFields table types o (t ∷ fields) ts
  next_field bytes t fields seen len l is_field later [] s = let some = l.some in let few = l.within in let none = ap length s in absurd (omega (arith, some, few, none))
  next_field bytes t fields seen len l is_field later (token ∷ ts) s =
      let f = l.is_first token ts s in
      let own = is_field token f.is_seen in
      let r = later ts f.encodes in
      record {
        flat = token ∷ r.flat;
        rest = r.rest;
        whole = ap (λ us. token ∷ us) r.whole;
        many = ap suc r.many;
        are_flat = (own.0, r.are_flat);
        at = (own.1, r.at);
      }

  -- If one more token is a flat field of its type, then the fields up to this token are flat.
  pub fields_more :
      (prefix : List ℕ) (start at i : ℕ) (fields : List ℕ) (seen : Summary) (len : ℕ) → i < length fields
      → (at ≤ length prefix) × (((ts : List Token) → EncodeAll ts (drop at prefix) → AreFields table types o (drop i fields) ts) → (ts : List Token) → EncodeAll ts (drop start prefix) → AreFields table types o fields ts)
      → Inspects (drop at prefix) seen len → ((token : Token) → IsSummary seen token → IsFlat token × IsAt table types [] (value_of token (o + 1)) (get_or fields i 0))
      → (at + len ≤ length prefix) × (((ts : List Token) → EncodeAll ts (drop (at + len) prefix) → AreFields table types o (drop (i + 1) fields) ts) → (ts : List Token) → EncodeAll ts (drop start prefix) → AreFields table types o fields ts)
  fields_more prefix start at i fields seen len short before l is_field =
      let few = l.within in
      let left = length-drop at prefix in
      let next : suc i ≡ i + 1 = omega arith in
      let split : drop i fields ≡ get_or fields i 0 ∷ drop (i + 1) fields = drop-cons fields i 0 short ∙ ap (λ n. get_or fields i 0 ∷ drop n fields) next in (
        let within = before.0 in omega (arith, within, few, left),
        λ later.
            before.1 (subst (λ fs. (ts : List Token) → EncodeAll ts (drop at prefix) → AreFields table types o fs ts) (sym split)
            (next_field (drop at prefix) (get_or fields i 0) (drop (i + 1) fields) seen len l is_field (λ ts s. later ts (subst (EncodeAll ts) (drop-drop len at prefix) s)))),
      )

-- If the fields of a block are flat and have the types, then a note that the block has the type is
-- valid.
pub flat_block :
    (table : Table) (types prefix : List ℕ) (o t tag size start : ℕ) (fields : List ℕ) (tokens : List Token) → IsBlockAt prefix tokens o tag size start
    → ((last : List Token) → EncodeAll last (drop start prefix) → AreFields table types o fields last)
    → block_needs (shape_at table t) tag size ≡ Some (map of_type fields) → length fields ≡ size
    → ((values : List _) → IsTrue (is_mutable (shape_at table t) (Some (objs.Block tag values))) → ⊥)
    → ((u : ℕ) → slice_get types o ≡ Some u → (values : List _) → IsTrue (is_mutable (shape_at table u) (Some (objs.Block tag values))) → ⊥)
    → IsFlatNoted table types [] tokens o t
flat_block table types prefix o t tag size start fields tokens b are asked many fixed first_fixed =
    let f = are b.last b.encodes in
    let flat = f.flat in
    let same : size ≡ length flat = let few = f.many in omega (arith, few, many) in
    let long : size ≡ length (flat_values o flat) = same ∙ sym (length-map flat (λ u. value_of u (o + 1))) in
    let made = b.made in
    record {
      tag = tag;
      flat = flat;
      next = map of_type fields;
      stands = subst (λ ts. Stands 0 ts o tag flat) (sym b.whole)
          (stands_after 0 b.first (block tag size ∷ b.last) o tag flat (inl (f.rest, ap (block tag) same, omega (arith, made), f.are_flat, f.whole)));
      asked = subst (λ n. block_needs (shape_at table t) tag n ≡ Some (map of_type fields)) long asked;
      at = f.at;
      fixed = fixed (flat_values o flat);
      first_fixed = λ u at_o mutable. first_fixed u at_o (flat_values o flat) mutable;
    }

-- ---- the block that is searched

pub inspects_from : (prefix : List ℕ) (at : ℕ) (seen : Summary) (len : ℕ) → Inspects (take (length prefix - at) (drop at prefix)) seen len → Inspects (drop at prefix) seen len
inspects_from prefix at seen len l = subst (λ xs. Inspects xs seen len) (take_rest prefix at) l

-- If a token is skipped, then the offset after the token is a position.
pub skip_more :
    (prefix marks : List ℕ) (at made more made' : ℕ) (seen : Summary) (len : ℕ) → ((tokens : List Token) → AreMarks prefix marks tokens → IsPosition prefix tokens at made) → Inspects (drop at prefix) seen len
    → ((t : Token) → IsSummary seen t → made_by t ≡ more) → made + more ≡ made'
    → (tokens : List Token) → AreMarks prefix marks tokens → IsPosition prefix tokens (at + len) made'
skip_more prefix marks at made more made' seen len positions l makes sum tokens are =
    let n = position_next prefix tokens at made seen len (positions tokens are) l in
    let one = makes n.token n.is_seen in
    position_after prefix tokens made seen (at + len) made' n (omega (arith, one, sum))

pub block_found :
    (prefix marks : List ℕ) (object at made : ℕ) (seen : Summary) (len tag size start : ℕ) → ((tokens : List Token) → AreMarks prefix marks tokens → IsPosition prefix tokens at made) → made ≡ object → Inspects (drop at prefix) seen len
    → IsBlockSeen seen (at + len) tag size start → IsBlockIn prefix marks object tag size start
block_found prefix marks object at made seen len tag size start positions same l b = record {
  within = let some = l.some in let few = l.within in let left = length-drop at prefix in let is = b.is_after in omega (arith, some, few, left, is);
  is_block = λ tokens are.
      let n = position_next prefix tokens at made seen len (positions tokens are) l in
      subst (IsBlockAt prefix tokens object tag size) (sym b.is_after) (block_next prefix tokens made seen (at + len) object tag size n same (subst (λ s. IsSummary s n.token) b.is_block n.is_seen));
}

-- Mark number `object / 64` is a position before the object.
pub mark_position :
    (prefix marks : List ℕ) (object at : ℕ) → slice_get marks (object / 64) ≡ Some at
    → (object / 64 * 64 ≤ object) × ((tokens : List Token) → AreMarks prefix marks tokens → IsPosition prefix tokens at (object / 64 * 64))
mark_position prefix marks object at is =
    let same : 64 * (object / 64) ≡ object / 64 * 64 = omega arith in
    (omega arith, λ tokens are. subst (IsPosition prefix tokens at) same (are (object / 64) at is))

pub if_some_weaker : {X : Type 0} {P Q : X → Type 0} (r : Option X) → ((x : X) → P x → Q x) → IfSome r P → IfSome r Q
if_some_weaker None weaker h = h
if_some_weaker (Some x) weaker h = weaker x h
