-- Bytes are incomplete, begin with a closed value, or are refused. At most one of the three cases
-- holds, with one outcome.
use Rattle.std.proofs.Common.{◌≡◌, ℕ, ◌+◌, ◌<◌, ◌≤◌, List, [], ◌∷◌, ◌++◌, map, length, take, drop, Option, Some, None, inl, inr, refl, sym, ◌∙◌, ap, subst, arith, length-append, length-take-le, append_assoc, append-nil, take_at}
use Rattle.std.proofs.lemmas.Bool.{cases_lt, cases_order}
use Rattle.std.proofs.lemmas.List.{append_cancel_left, take-append-drop}
use Rattle.std.specs.List.{concat}
use Rattle.base_data.specs.declared.model.refusal.ReadRefusal.{ReadRefusal}
use Rattle.marshal_spec.specs.format.Raw.{raw_measure, IsPart}
use Rattle.marshal_spec.specs.format.Words.{pending}
use Rattle.marshal_spec.specs.format.Header.{header_length}
use Rattle.marshal_spec.specs.format.Prefix.{token_refusal, header_refusal, IsOpen, TokenPasses, TokensPass, HeaderPasses, InHeader, InTokens, IsPrefix, RefusedInHeader, RefusedInTokens, IsRefused}
use Rattle.marshal_spec.proofs.format.RawLemmas.{same_prefix, prefix_within, not_in_part, part_shorter}
use Rattle.marshal_spec.proofs.format.TokenStepLemmas.{header_length-take, header_length-from}
use Rattle.marshal_spec.proofs.format.FormatNextLemmas.{token_refusal-append, header_refusal-append}
use Rattle.marshal_spec.proofs.format.FormatReadingLemmas.{GoesOn, GoesOn-passes, readings}

-- A header and the tokens of one value, all of which pass.
pub record Closed (limit : ℕ) (bytes header : List ℕ) (chunks : List (List ℕ)) : Type 0 where
  pub bytes_are : bytes ≡ header ++ concat chunks
  pub header_passes : HeaderPasses limit header
  pub tokens_pass : TokensPass header [] chunks
  pub none_pending : pending (map raw_measure chunks) ≡ 0

-- ---- headers

-- A raw header at the beginning determines its own length.
pub header_length-append : (header more : List ℕ) → length header ≡ header_length header → header_length (header ++ more) ≡ header_length header
header_length-append header more raw =
    sym (header_length-take (length header) (header ++ more) (omega (arith, header_length-from header)))
    ∙ ap header_length (take_at header more (length header) refl)

-- No raw header is a proper prefix of another raw header.
pub headers_same : (h k x y : List ℕ) → length h ≡ header_length h → length k ≡ header_length k → h ++ x ≡ k ++ y → (h ≡ k) × (x ≡ y)
headers_same h k x y p q e =
    let l : length h ≡ length k = p ∙ (sym (header_length-append h x p) ∙ (ap header_length e ∙ (header_length-append k y q ∙ sym q))) in
    let same : h ≡ k = same_prefix h k x y l e in
    (same, append_cancel_left k x y (ap (λ v. v ++ x) (sym same) ∙ e))

-- If a proper prefix of a header and a raw header begin the same bytes, then the proper prefix is
-- shorter.
pub header_part_shorter : (p h x y : List ℕ) → length p < header_length p → length h ≡ header_length h → p ++ x ≡ h ++ y → length p < length h
header_part_shorter p h x y part raw e =
    elim (cases_lt (length p) (length h)) [
      | inl l ↦ l
      | inr g ↦
          let split : p ≡ h ++ drop (length h) p = prefix_within p h x y g e in
          let same : header_length p ≡ header_length h = ap header_length split ∙ header_length-append h (drop (length h) p) raw in
          absurd (omega arith)
    ]

-- ---- end positions

-- No token that passes is at the beginning of `x`.
abbrev pub Stops : List ℕ → List (List ℕ) → List ℕ → Type 0
Stops header ts x = (t z : List ℕ) → TokenPasses header ts t → x ≡ t ++ z → ⊥

-- The bytes are a header and tokens that pass, followed by bytes `x` at which no further token
-- passes.
pub record Position (limit : ℕ) (bytes header : List ℕ) (ts : List (List ℕ)) (x : List ℕ) : Type 0 where
  pub bytes_are : bytes ≡ header ++ (concat ts ++ x)
  pub header_passes : HeaderPasses limit header
  pub tokens_pass : TokensPass header [] ts
  pub stops : Stops header ts x

not_further : (header : List ℕ) (ts us : List (List ℕ)) (x y : List ℕ) → TokensPass header [] us → Stops header ts x → GoesOn ts us x y → ⊥
not_further header ts us x y p s g =
    s g.next (concat g.more ++ y) (GoesOn-passes header ts us x y p g) (g.bytes_are ∙ append_assoc g.next (concat g.more) y)

same_tokens : (header : List ℕ) (ts us : List (List ℕ)) (x y : List ℕ) → TokensPass header [] ts → TokensPass header [] us → Stops header ts x → Stops header us y
    → concat ts ++ x ≡ concat us ++ y → (ts ≡ us) × (x ≡ y)
same_tokens header ts us x y p q s t e =
    elim (readings header [] ts us x y p q e) [
      | inl same ↦ same
      | inr (inl g) ↦ absurd (not_further header ts us x y q s g)
      | inr (inr g) ↦ absurd (not_further header us ts y x p t g)
    ]

-- The bytes determine the header, the tokens that pass, and the bytes at which no further token
-- passes.
pub same_position : (limit : ℕ) (bytes h k : List ℕ) (ts us : List (List ℕ)) (x y : List ℕ) → Position limit bytes h ts x → Position limit bytes k us y
    → (h ≡ k) × (ts ≡ us) × (x ≡ y)
same_position limit bytes h k ts us x y p q =
    let heads : (h ≡ k) × (concat ts ++ x ≡ concat us ++ y) =
    headers_same h k (concat ts ++ x) (concat us ++ y) p.header_passes.raw q.header_passes.raw (sym p.bytes_are ∙ q.bytes_are) in
    let same : (ts ≡ us) × (x ≡ y) =
    same_tokens h ts us x y p.tokens_pass (subst (λ v. TokensPass v [] us) (sym heads.0) q.tokens_pass)
    p.stops (subst (λ v. Stops v us y) (sym heads.0) q.stops) heads.1 in
    (heads.0, same.0, same.1)

-- If bytes are incomplete within the tokens, then no token passes at the last, incomplete token.
prefix_position : (limit : ℕ) (bytes header : List ℕ) (ts : List (List ℕ)) (x : List ℕ) → InTokens limit bytes header ts x → Position limit bytes header ts x
prefix_position limit bytes header ts x f = record {
  bytes_are = f.bytes_are;
  header_passes = f.header_passes;
  tokens_pass = f.tokens_pass;
  stops = λ t z p e. not_in_part x t z f.part p.raw e;
}

-- If bytes begin with a closed value, then no token passes after the closed value.
closed_position : (limit : ℕ) (bytes prefix more header : List ℕ) (ts : List (List ℕ)) → bytes ≡ prefix ++ more → Closed limit prefix header ts → Position limit bytes header ts more
closed_position limit bytes prefix more header ts e c = record {
  bytes_are = e ∙ (ap (λ v. v ++ more) c.bytes_are ∙ append_assoc header (concat ts) more);
  header_passes = c.header_passes;
  tokens_pass = c.tokens_pass;
  stops = λ t z p f. let l : 0 < pending (map raw_measure ts) = p.open_before in omega (arith, c.none_pending);
}

-- A refusal in a token: `part` is the token's prefix that passes, and `last` is the byte that
-- decides the refusal.
record RefusedAt (limit : ℕ) (bytes header : List ℕ) (ts : List (List ℕ)) (part : List ℕ) (last : ℕ) (more : List ℕ) (r : ReadRefusal) : Type 0 where
  bytes_are : bytes ≡ header ++ (concat ts ++ ((part ++ last ∷ []) ++ more))
  header_passes : HeaderPasses limit header
  tokens_pass : TokensPass header [] ts
  is_open : IsOpen ts
  is_part : IsPart part
  passes : token_refusal header ts part ≡ None
  refused : token_refusal header ts (part ++ last ∷ []) ≡ Some r

refused_stops : (limit : ℕ) (bytes header : List ℕ) (ts : List (List ℕ)) (part : List ℕ) (last : ℕ) (more : List ℕ) (r : ReadRefusal)
    → RefusedAt limit bytes header ts part last more r → Stops header ts ((part ++ last ∷ []) ++ more)
refused_stops limit bytes header ts part last more r f t z p e =
    let whole = part ++ last ∷ [] in
    let l : length part < length t = part_shorter part t (last ∷ [] ++ more) z f.is_part p.raw (sym (append_assoc part (last ∷ []) more) ∙ e) in
    let m : length whole ≤ length t = omega (arith, length-append part (last ∷ [])) in
    let split : t ≡ whole ++ drop (length whole) t = prefix_within t whole z more m (sym e) in
    let a : token_refusal header ts t ≡ Some r =
    ap (token_refusal header ts) split ∙ token_refusal-append header ts whole (drop (length whole) t) r f.refused in
    let b : token_refusal header ts t ≡ None = p.passes in
    cc

refused_position : (limit : ℕ) (bytes header : List ℕ) (ts : List (List ℕ)) (part : List ℕ) (last : ℕ) (more : List ℕ) (r : ReadRefusal)
    → RefusedAt limit bytes header ts part last more r → Position limit bytes header ts ((part ++ last ∷ []) ++ more)
refused_position limit bytes header ts part last more r f = record {
  bytes_are = f.bytes_are;
  header_passes = f.header_passes;
  tokens_pass = f.tokens_pass;
  stops = refused_stops limit bytes header ts part last more r f;
}

-- ---- refusals with their last bytes

-- If `R` refuses `f` with one more byte but does not refuse the prefix `g`, then `g` is not longer
-- than `f`.
no_earlier : (R : List ℕ → Option ReadRefusal) → ((xs ys : List ℕ) (r : ReadRefusal) → R xs ≡ Some r → R (xs ++ ys) ≡ Some r)
    → (f g : List ℕ) (a b : ℕ) (y z : List ℕ) (r : ReadRefusal) → R (f ++ a ∷ []) ≡ Some r → R g ≡ None
    → (f ++ a ∷ []) ++ y ≡ (g ++ b ∷ []) ++ z → length f < length g → ⊥
no_earlier R stays f g a b y z r p q e l =
    let whole = f ++ a ∷ [] in
    let m : length whole ≤ length g = omega (arith, length-append f (a ∷ [])) in
    let split : g ≡ whole ++ drop (length whole) g = prefix_within g whole (b ∷ [] ++ z) y m (sym (append_assoc g (b ∷ []) z) ∙ sym e) in
    let refused : R g ≡ Some r = ap R split ∙ stays whole (drop (length whole) g) r p in
    cc

-- If two prefixes of the same bytes pass and each prefix is refused with one more byte, then the
-- prefixes have equal lengths and refusals.
two_refusals : (R : List ℕ → Option ReadRefusal) → ((xs ys : List ℕ) (r : ReadRefusal) → R xs ≡ Some r → R (xs ++ ys) ≡ Some r)
    → (f g : List ℕ) (a b : ℕ) (y z : List ℕ) (r s : ReadRefusal) → R f ≡ None → R (f ++ a ∷ []) ≡ Some r → R g ≡ None → R (g ++ b ∷ []) ≡ Some s
    → (f ++ a ∷ []) ++ y ≡ (g ++ b ∷ []) ++ z → (length f ≡ length g) × (r ≡ s)
two_refusals R stays f g a b y z r s pf rf pg rg e =
    elim (cases_order (length f) (length g)) [
      | inl l ↦
          let k : length (f ++ a ∷ []) ≡ length (g ++ b ∷ []) = omega (arith, length-append f (a ∷ []), length-append g (b ∷ [])) in
          let same : f ++ a ∷ [] ≡ g ++ b ∷ [] = same_prefix (f ++ a ∷ []) (g ++ b ∷ []) y z k e in
          let both : Some r ≡ Some s = sym rf ∙ (ap R same ∙ rg) in
          (l, cc)
      | inr (inl l) ↦ absurd (no_earlier R stays f g a b y z r rf pg e l)
      | inr (inr l) ↦ absurd (no_earlier R stays g f b a z y s rg pf (sym e) l)
    ]

-- ---- within the tokens

prefix_not_closed : (limit : ℕ) (bytes prefix more h k : List ℕ) (ts us : List (List ℕ)) (x : List ℕ) → bytes ≡ prefix ++ more
    → InTokens limit bytes h ts x → Closed limit prefix k us → ⊥
prefix_not_closed limit bytes prefix more h k ts us x e f c =
    let same = same_position limit bytes h k ts us x more (prefix_position limit bytes h ts x f) (closed_position limit bytes prefix more k us e c) in
    let is_open : 0 < pending (map raw_measure ts) = f.open_before in
    let none : pending (map raw_measure ts) ≡ 0 = ap (λ vs. pending (map raw_measure vs)) same.1 ∙ c.none_pending in
    omega arith

prefix_not_refused : (limit : ℕ) (bytes h k : List ℕ) (ts us : List (List ℕ)) (x part : List ℕ) (last : ℕ) (more : List ℕ) (r : ReadRefusal)
    → InTokens limit bytes h ts x → RefusedAt limit bytes k us part last more r → ⊥
prefix_not_refused limit bytes h k ts us x part last more r f g =
    let whole = part ++ last ∷ [] in
    let same = same_position limit bytes h k ts us x (whole ++ more) (prefix_position limit bytes h ts x f) (refused_position limit bytes k us part last more r g) in
    let a : token_refusal h ts x ≡ token_refusal k us (whole ++ more) = λ i. token_refusal (same.0 i) (same.1 i) (same.2 i) in
    let b : token_refusal k us (whole ++ more) ≡ Some r = token_refusal-append k us whole more r g.refused in
    let c : token_refusal h ts x ≡ None = f.passes in
    cc

closed_not_refused : (limit : ℕ) (bytes prefix after h k : List ℕ) (ts us : List (List ℕ)) (part : List ℕ) (last : ℕ) (more : List ℕ) (r : ReadRefusal)
    → bytes ≡ prefix ++ after → Closed limit prefix h ts → RefusedAt limit bytes k us part last more r → ⊥
closed_not_refused limit bytes prefix after h k ts us part last more r e c g =
    let same = same_position limit bytes h k ts us after ((part ++ last ∷ []) ++ more)
    (closed_position limit bytes prefix after h ts e c) (refused_position limit bytes k us part last more r g) in
    let is_open : 0 < pending (map raw_measure us) = g.is_open in
    let none : pending (map raw_measure us) ≡ 0 = ap (λ vs. pending (map raw_measure vs)) (sym same.1) ∙ c.none_pending in
    omega arith

-- If the same bytes begin with two closed values, then the two closed values are equal.
pub closed_once : (limit : ℕ) (bytes f g x y h k : List ℕ) (ts us : List (List ℕ)) → bytes ≡ f ++ x → bytes ≡ g ++ y
    → Closed limit f h ts → Closed limit g k us → (f ≡ g) × (h ≡ k) × (ts ≡ us)
closed_once limit bytes f g x y h k ts us d e p q =
    let same = same_position limit bytes h k ts us x y (closed_position limit bytes f x h ts d p) (closed_position limit bytes g y k us e q) in
    (p.bytes_are ∙ ((λ i. same.0 i ++ concat (same.1 i)) ∙ sym q.bytes_are), same.0, same.1)

-- If the same bytes are refused in a token in two ways, then the two refusals are equal.
refused_agree : (limit : ℕ) (bytes h k : List ℕ) (ts us : List (List ℕ)) (p q : List ℕ) (a b : ℕ) (y z : List ℕ) (r s : ReadRefusal)
    → RefusedAt limit bytes h ts p a y r → RefusedAt limit bytes k us q b z s → (h ≡ k) × (ts ≡ us) × (length p ≡ length q) × (r ≡ s)
refused_agree limit bytes h k ts us p q a b y z r s f g =
    let same = same_position limit bytes h k ts us ((p ++ a ∷ []) ++ y) ((q ++ b ∷ []) ++ z)
    (refused_position limit bytes h ts p a y r f) (refused_position limit bytes k us q b z s g) in
    let passes : token_refusal h ts q ≡ None = (λ i. token_refusal (same.0 i) (same.1 i) q) ∙ g.passes in
    let refused : token_refusal h ts (q ++ b ∷ []) ≡ Some s = (λ i. token_refusal (same.0 i) (same.1 i) (q ++ b ∷ [])) ∙ g.refused in
    let both = two_refusals (token_refusal h ts) (token_refusal-append h ts) p q a b y z r s f.passes f.refused passes refused same.2 in
    (same.0, same.1, both.0, both.1)

-- ---- within the header

-- If bytes are a proper prefix of a header, then no header that passes is at the beginning of the
-- bytes.
in_header_alone : (limit : ℕ) (bytes h x : List ℕ) → InHeader limit bytes → HeaderPasses limit h → bytes ≡ h ++ x → ⊥
in_header_alone limit bytes h x f p e =
    let l : length bytes < length h = header_part_shorter bytes h [] x f.part p.raw (append-nil bytes ∙ e) in
    omega (arith, ap length e, length-append h x)

-- If bytes begin with a refused header, then no header that passes is at the beginning of the
-- bytes.
header_refusal_alone : (limit : ℕ) (prefix : List ℕ) (last : ℕ) (more h x : List ℕ) (r : ReadRefusal) → InHeader limit prefix → header_refusal limit (prefix ++ last ∷ []) ≡ Some r
    → HeaderPasses limit h → (prefix ++ last ∷ []) ++ more ≡ h ++ x → ⊥
header_refusal_alone limit prefix last more h x r f g p e =
    let whole = prefix ++ last ∷ [] in
    let l : length prefix < length h = header_part_shorter prefix h (last ∷ [] ++ more) x f.part p.raw (sym (append_assoc prefix (last ∷ []) more) ∙ e) in
    let m : length whole ≤ length h = omega (arith, length-append prefix (last ∷ [])) in
    let split : h ≡ whole ++ drop (length whole) h = prefix_within h whole x more m (sym e) in
    let a : header_refusal limit h ≡ Some r = ap (header_refusal limit) split ∙ header_refusal-append limit whole (drop (length whole) h) r g in
    let b : header_refusal limit h ≡ None = p.passes in
    cc

-- If bytes are an incomplete header that passes, then no refused header is at the beginning of the
-- bytes.
in_header_not_refused : (limit : ℕ) (bytes prefix : List ℕ) (last : ℕ) (more : List ℕ) (r : ReadRefusal) → InHeader limit bytes
    → header_refusal limit (prefix ++ last ∷ []) ≡ Some r → bytes ≡ (prefix ++ last ∷ []) ++ more → ⊥
in_header_not_refused limit bytes prefix last more r f g e =
    let a : header_refusal limit bytes ≡ Some r = ap (header_refusal limit) e ∙ header_refusal-append limit (prefix ++ last ∷ []) more r g in
    let b : header_refusal limit bytes ≡ None = f.passes in
    cc

-- ---- prefixes of the bytes in general

refused_at : (limit : ℕ) (bytes whole more : List ℕ) (r : ReadRefusal) → bytes ≡ whole ++ more → (t : RefusedInTokens limit whole r)
    → RefusedAt limit bytes t.header t.tokens t.part t.last more r
refused_at limit bytes whole more r e t =
    let i : InTokens limit t.prefix t.header t.tokens t.part = t.in_tokens in
    let whole_is : whole ≡ (t.header ++ (concat t.tokens ++ t.part)) ++ t.last ∷ [] = t.bytes_are ∙ ap (λ v. v ++ t.last ∷ []) i.bytes_are in
    record {
      bytes_are = e ∙ (ap (λ v. v ++ more) whole_is ∙ regroup t.header (concat t.tokens) t.part (t.last ∷ []) more);
      header_passes = i.header_passes;
      tokens_pass = i.tokens_pass;
      is_open = i.open_before;
      is_part = i.part;
      passes = i.passes;
      refused = t.refused;
    }
  where
    regroup : (a b c d v : List ℕ) → ((a ++ (b ++ c)) ++ d) ++ v ≡ a ++ (b ++ ((c ++ d) ++ v))
    regroup a b c d v = simp append_assoc

-- The bytes refused in a token are a header, tokens, a part of a token, and one last byte.
refused_length : (limit : ℕ) (whole : List ℕ) (r : ReadRefusal) → (t : RefusedInTokens limit whole r)
    → length whole ≡ length t.header + (length (concat t.tokens) + (length t.part + 1))
refused_length limit whole r t =
    let i : InTokens limit t.prefix t.header t.tokens t.part = t.in_tokens in
    omega (
      arith,
      ap length t.bytes_are,
      ap length i.bytes_are,
      length-append t.prefix (t.last ∷ []),
      length-append t.header (concat t.tokens ++ t.part),
      length-append (concat t.tokens) t.part,
    )

-- If bytes begin with a refused header, then the bytes do not begin with a header that passes.
refused_header_alone : (limit : ℕ) (bytes whole more h x : List ℕ) (r : ReadRefusal) → bytes ≡ whole ++ more → RefusedInHeader limit whole r
    → HeaderPasses limit h → bytes ≡ h ++ x → ⊥
refused_header_alone limit bytes whole more h x r e t p f =
    header_refusal_alone limit t.prefix t.last more h x r t.in_header (ap (header_refusal limit) (sym t.bytes_are) ∙ t.refused) p
    (ap (λ v. v ++ more) (sym t.bytes_are) ∙ (sym e ∙ f))

two_refused_headers : (limit : ℕ) (bytes v w x y : List ℕ) (r s : ReadRefusal) → bytes ≡ v ++ x → bytes ≡ w ++ y
    → RefusedInHeader limit v r → RefusedInHeader limit w s → (length v ≡ length w) × (r ≡ s)
two_refused_headers limit bytes v w x y r s d e p q =
    let refused_v : header_refusal limit (p.prefix ++ p.last ∷ []) ≡ Some r = ap (header_refusal limit) (sym p.bytes_are) ∙ p.refused in
    let refused_w : header_refusal limit (q.prefix ++ q.last ∷ []) ≡ Some s = ap (header_refusal limit) (sym q.bytes_are) ∙ q.refused in
    let both : (p.prefix ++ p.last ∷ []) ++ x ≡ (q.prefix ++ q.last ∷ []) ++ y =
    ap (λ u. u ++ x) (sym p.bytes_are) ∙ (sym d ∙ (e ∙ ap (λ u. u ++ y) q.bytes_are)) in
    let same = two_refusals (header_refusal limit) (header_refusal-append limit) p.prefix q.prefix p.last q.last x y r s
    p.in_header.passes refused_v q.in_header.passes refused_w both in
    (omega (arith, same.0, ap length p.bytes_are, ap length q.bytes_are, length-append p.prefix (p.last ∷ []), length-append q.prefix (q.last ∷ [])), same.1)

two_refused_in_tokens : (limit : ℕ) (bytes v w x y : List ℕ) (r s : ReadRefusal) → bytes ≡ v ++ x → bytes ≡ w ++ y
    → RefusedInTokens limit v r → RefusedInTokens limit w s → (length v ≡ length w) × (r ≡ s)
two_refused_in_tokens limit bytes v w x y r s d e p q =
    let same = refused_agree limit bytes p.header q.header p.tokens q.tokens p.part q.part p.last q.last x y r s
    (refused_at limit bytes v x r d p) (refused_at limit bytes w y s e q) in
    (omega (arith, same.2, ap length same.0, ap (λ vs. length (concat vs)) same.1, refused_length limit v r p, refused_length limit w s q), same.3)

-- If bytes are refused in a token, then the bytes begin with a header that passes.
refused_after_header : (limit : ℕ) (bytes whole more : List ℕ) (r : ReadRefusal) → bytes ≡ whole ++ more → RefusedInTokens limit whole r
    → (h x : List ℕ) × HeaderPasses limit h × (bytes ≡ h ++ x)
refused_after_header limit bytes whole more r e t =
    let a : RefusedAt limit bytes t.header t.tokens t.part t.last more r = refused_at limit bytes whole more r e t in
    (t.header, concat t.tokens ++ ((t.part ++ t.last ∷ []) ++ more), a.header_passes, a.bytes_are)

-- If bytes are incomplete, then the bytes do not begin with a closed value.
pub prefix_excludes_closed : (limit : ℕ) (bytes prefix more header : List ℕ) (chunks : List (List ℕ)) → bytes ≡ prefix ++ more
    → IsPrefix limit bytes → Closed limit prefix header chunks → ⊥
prefix_excludes_closed limit bytes prefix more header chunks e f c =
    elim f [
      | inl h ↦ in_header_alone limit bytes header (concat chunks ++ more) h c.header_passes
          (e ∙ (ap (λ v. v ++ more) c.bytes_are ∙ append_assoc header (concat chunks) more))
      | inr t ↦ prefix_not_closed limit bytes prefix more t.0 header t.1 chunks t.2 e t.3 c
    ]

-- If bytes are incomplete, then the bytes do not begin with refused bytes.
pub prefix_excludes_refused : (limit : ℕ) (bytes prefix more : List ℕ) (r : ReadRefusal) → bytes ≡ prefix ++ more → IsPrefix limit bytes → IsRefused limit prefix r → ⊥
prefix_excludes_refused limit bytes prefix more r e f g =
    elim f [
      | inl h ↦ elim g [
        | inl u ↦ in_header_not_refused limit bytes u.prefix u.last more r h (ap (header_refusal limit) (sym u.bytes_are) ∙ u.refused)
            (e ∙ ap (λ v. v ++ more) u.bytes_are)
        | inr u ↦ let (k, x, p, d) = refused_after_header limit bytes prefix more r e u in in_header_alone limit bytes k x h p d
      ]
      | inr t ↦ elim g [
        | inl u ↦ refused_header_alone limit bytes prefix more t.0 (concat t.1 ++ t.2) r e u t.3.header_passes t.3.bytes_are
        | inr u ↦ prefix_not_refused limit bytes t.0 u.header t.1 u.tokens t.2 u.part u.last more r t.3 (refused_at limit bytes prefix more r e u)
      ]
    ]

-- If bytes begin with a closed value, then the bytes do not begin with refused bytes.
pub closed_excludes_refused : (limit : ℕ) (bytes v w x y header : List ℕ) (chunks : List (List ℕ)) (r : ReadRefusal) → bytes ≡ v ++ x → bytes ≡ w ++ y
    → Closed limit v header chunks → IsRefused limit w r → ⊥
closed_excludes_refused limit bytes v w x y header chunks r d e c g =
    elim g [
      | inl u ↦ refused_header_alone limit bytes w y header (concat chunks ++ x) r e u c.header_passes
          (d ∙ (ap (λ t. t ++ x) c.bytes_are ∙ append_assoc header (concat chunks) x))
      | inr u ↦ closed_not_refused limit bytes v x header u.header chunks u.tokens u.part u.last y r d c (refused_at limit bytes w y r e u)
    ]

-- If the same bytes begin with two refused prefixes, then the two refusals are equal.
pub refused_once : (limit : ℕ) (bytes v w x y : List ℕ) (r s : ReadRefusal) → bytes ≡ v ++ x → bytes ≡ w ++ y
    → IsRefused limit v r → IsRefused limit w s → (length v ≡ length w) × (r ≡ s)
refused_once limit bytes v w x y r s d e f g =
    elim f [
      | inl t ↦ elim g [
        | inl u ↦ two_refused_headers limit bytes v w x y r s d e t u
        | inr u ↦ let (k, z, p, q) = refused_after_header limit bytes w y s e u in absurd (refused_header_alone limit bytes v x k z r d t p q)
      ]
      | inr t ↦ elim g [
        | inl u ↦ let (k, z, p, q) = refused_after_header limit bytes v x r d t in absurd (refused_header_alone limit bytes w y k z s e u p q)
        | inr u ↦ two_refused_in_tokens limit bytes v w x y r s d e t u
      ]
    ]

-- ---- the first `n` bytes

prefix_of : (n : ℕ) (bytes : List ℕ) → bytes ≡ take n bytes ++ drop n bytes
prefix_of n bytes = sym (take-append-drop n bytes)

same_count : (n m : ℕ) (bytes : List ℕ) → n ≤ length bytes → m ≤ length bytes → length (take n bytes) ≡ length (take m bytes) → n ≡ m
same_count n m bytes p q e = sym (length-take-le n bytes p) ∙ (e ∙ length-take-le m bytes q)

pub prefix_or_closed : (limit : ℕ) (bytes : List ℕ) (n : ℕ) (header : List ℕ) (chunks : List (List ℕ)) → IsPrefix limit bytes → Closed limit (take n bytes) header chunks → ⊥
prefix_or_closed limit bytes n header chunks f c = prefix_excludes_closed limit bytes (take n bytes) (drop n bytes) header chunks (prefix_of n bytes) f c

pub prefix_or_refused : (limit : ℕ) (bytes : List ℕ) (n : ℕ) (r : ReadRefusal) → IsPrefix limit bytes → IsRefused limit (take n bytes) r → ⊥
prefix_or_refused limit bytes n r f g = prefix_excludes_refused limit bytes (take n bytes) (drop n bytes) r (prefix_of n bytes) f g

pub closed_or_refused : (limit : ℕ) (bytes : List ℕ) (n m : ℕ) (header : List ℕ) (chunks : List (List ℕ)) (r : ReadRefusal)
    → Closed limit (take n bytes) header chunks → IsRefused limit (take m bytes) r → ⊥
closed_or_refused limit bytes n m header chunks r c g =
    closed_excludes_refused limit bytes (take n bytes) (take m bytes) (drop n bytes) (drop m bytes) header chunks r (prefix_of n bytes) (prefix_of m bytes) c g

pub closed_at_once : (limit : ℕ) (bytes : List ℕ) (n m : ℕ) (h k : List ℕ) (ts us : List (List ℕ)) → n ≤ length bytes → m ≤ length bytes
    → Closed limit (take n bytes) h ts → Closed limit (take m bytes) k us → (n ≡ m) × (h ≡ k) × (ts ≡ us)
closed_at_once limit bytes n m h k ts us p q c d =
    let same = closed_once limit bytes (take n bytes) (take m bytes) (drop n bytes) (drop m bytes) h k ts us (prefix_of n bytes) (prefix_of m bytes) c d in
    (same_count n m bytes p q (ap length same.0), same.1, same.2)

pub refused_at_once : (limit : ℕ) (bytes : List ℕ) (n m : ℕ) (r s : ReadRefusal) → n ≤ length bytes → m ≤ length bytes
    → IsRefused limit (take n bytes) r → IsRefused limit (take m bytes) s → (n ≡ m) × (r ≡ s)
refused_at_once limit bytes n m r s p q f g =
    let same = refused_once limit bytes (take n bytes) (take m bytes) (drop n bytes) (drop m bytes) r s (prefix_of n bytes) (prefix_of m bytes) f g in
    (same_count n m bytes p q same.0, same.1)
