-- What several calls on a source moved.
use Rattle.std.proofs.Common.{ℕ, ◌≡◌, ◌<◌, List, [], ◌∷◌, ◌++◌, length, refl, sym, ap, ◌∙◌, subst, append_assoc, append-nil, arith}
use Rattle.cli_spec.specs.Outcome.{ReadingEnd, Taken, nothing, whole, at_end, at_fault, at_length, unasked}
use Rattle.base_io.specs.History.{Event, moved, failed, fetched, bytes_of, HasEnded}
use Rattle.base_io.proofs.HistoryLemmas.{bytes_of-append, bytes_of-moved}
use Rattle.base_io.specs.StreamState.{SourceState, Change}
use Rattle.run_spec.specs.runs.Given.{CallsTook, AreChunks, EndsCalls, IsInputOf}

abbrev taken : List ℕ → ReadingEnd → Taken
taken bytes until = record { bytes = bytes; until = until }

chunks_more : (xs : List Event) (room : ℕ) (more : List ℕ) → AreChunks xs → 0 < length more → AreChunks (xs ++ moved room more ∷ [])
chunks_more [] room more are some = (some, tt)
chunks_more (moved r bytes ∷ xs) room more (first, are) some = (first, chunks_more xs room more are some)
chunks_more (failed ∷ xs) room more are some = absurd are
chunks_more (fetched name error ∷ xs) room more are some = absurd are

-- If no call is made, then no bytes are moved.
pub called_nothing : (a : List Event) → CallsTook a a nothing
called_nothing a = record { chunks = []; last = []; are = sym (append-nil a); each = tt; bytes = refl; ends = refl }

module _ (a b c : List Event) (bytes : List ℕ) (before : CallsTook a b (taken bytes unasked)) where
  so_far : b ≡ a ++ before.chunks
  so_far = before.are ∙ (ap (λ l. a ++ (before.chunks ++ l)) before.ends ∙ ap (λ p. a ++ p) (append-nil before.chunks))

  along : (event : Event) → c ≡ b ++ event ∷ [] → c ≡ a ++ (before.chunks ++ event ∷ [])
  along event is = is ∙ (ap (λ x. x ++ event ∷ []) so_far ∙ append_assoc a before.chunks (event ∷ []))

  -- One more call moved some bytes.
  pub called_more : (room : ℕ) (more : List ℕ) → 0 < length more → c ≡ b ++ moved room more ∷ [] → CallsTook a c (taken (bytes ++ more) unasked)
  called_more room more some is = record {
    chunks = before.chunks ++ moved room more ∷ [];
    last = [];
    are = along (moved room more) is ∙ ap (λ p. a ++ p) (sym (append-nil (before.chunks ++ moved room more ∷ [])));
    each = chunks_more before.chunks room more before.each some;
    bytes = bytes_of-moved before.chunks room more ∙ ap (λ x. x ++ more) before.bytes;
    ends = refl;
  }

  -- One more call found the end.
  pub called_end : (room : ℕ) → 0 < room → c ≡ b ++ moved room [] ∷ [] → CallsTook a c (taken bytes at_end)
  called_end room some is = record {
    chunks = before.chunks;
    last = moved room [] ∷ [];
    are = along (moved room []) is;
    each = before.each;
    bytes = before.bytes;
    ends = (room, some, refl);
  }

  -- One more call failed.
  pub called_fault : c ≡ b ++ failed ∷ [] → CallsTook a c (taken bytes at_fault)
  called_fault is = record {
    chunks = before.chunks;
    last = failed ∷ [];
    are = along failed is;
    each = before.each;
    bytes = before.bytes;
    ends = refl;
  }

-- The calls moved too many bytes.
pub called_length : (a b : List Event) (bytes : List ℕ) → CallsTook a b (taken bytes unasked) → CallsTook a b (taken bytes at_length)
called_length a b bytes before = record {
  chunks = before.chunks;
  last = before.last;
  are = before.are;
  each = before.each;
  bytes = before.bytes;
  ends = before.ends;
}

-- ---- where a call found the end

pub after_prefix : (first xs ys : List Event) → first ++ xs ≡ first ++ ys → xs ≡ ys
after_prefix [] xs ys e = e
after_prefix (z ∷ first) xs ys e = after_prefix first xs ys (cc e)

not_ended : (chunks last : List Event) → AreChunks chunks → (HasEnded last → ⊥) → HasEnded (chunks ++ last) → ⊥
not_ended [] last are none h = none h
not_ended (moved room [] ∷ chunks) last (some, are) none h = absurd (omega (arith, some))
not_ended (moved room (b ∷ bytes) ∷ chunks) last (some, are) none h = not_ended chunks last are none h
not_ended (failed ∷ chunks) last are none h = are
not_ended (fetched name error ∷ chunks) last are none h = are

no_bytes : (until : ReadingEnd) (last : List Event) → EndsCalls until last → bytes_of last ≡ []
no_bytes at_end last (room, some, is) = ap bytes_of is
no_bytes at_fault last is = ap bytes_of is
no_bytes at_length last is = ap bytes_of is
no_bytes unasked last is = ap bytes_of is

is_end : (until : ReadingEnd) (chunks last : List Event) → AreChunks chunks → EndsCalls until last → HasEnded (chunks ++ last) → until ≡ at_end
is_end at_end chunks last are ends h = refl
is_end at_fault chunks last are is h = absurd (not_ended chunks last are (λ e. subst HasEnded is e) h)
is_end at_length chunks last are is h = absurd (not_ended chunks last are (λ e. subst HasEnded is e) h)
is_end unasked chunks last are is h = absurd (not_ended chunks last are (λ e. subst HasEnded is e) h)

-- The calls moved the bytes taken.
took_bytes : (before after new : List Event) (took : Taken) → CallsTook before after took
    → after ≡ before ++ new → took.bytes ≡ bytes_of new
took_bytes before after new took t are =
    let same : t.chunks ++ t.last ≡ new = after_prefix before (t.chunks ++ t.last) new (sym t.are ∙ are) in
    let all : bytes_of new ≡ bytes_of t.chunks ++ bytes_of t.last = ap bytes_of (sym same) ∙ bytes_of-append t.chunks t.last in
    sym t.bytes ∙ (sym (append-nil (bytes_of t.chunks)) ∙ (ap (λ b. bytes_of t.chunks ++ b) (sym (no_bytes took.until t.last t.ends)) ∙ sym all))

-- If a call found the end, then the bytes taken end there.
took_ended : (before after new : List Event) (took : Taken) → CallsTook before after took
    → after ≡ before ++ new → HasEnded new → took.until ≡ at_end
took_ended before after new took t are ended =
    is_end took.until t.chunks t.last t.each t.ends
    (subst HasEnded (sym (after_prefix before (t.chunks ++ t.last) new (sym t.are ∙ are))) ended)

-- If the bytes taken are a prefix of an input, then the input begins with the bytes of the calls.
pub input_of : (source : Change SourceState) (took : Taken) → CallsTook source.before.calls source.after.calls took
    → (input rest : List ℕ) → input ≡ took.bytes ++ rest → (took.until ≡ at_end → rest ≡ []) → IsInputOf source input
input_of source took t input rest prefix ends new are = (
  rest,
  prefix ∙ ap (λ b. b ++ rest) (took_bytes source.before.calls source.after.calls new took t are),
  λ ended. ends (took_ended source.before.calls source.after.calls new took t are ended),
)

-- If a call found the end, then the bytes taken are the whole input: the bytes of the calls.
pub took_whole : (before after new : List Event) (took : Taken) → CallsTook before after took
    → after ≡ before ++ new → HasEnded new → took ≡ whole (bytes_of new)
took_whole before after new took t are ended =
    let until : took.until ≡ at_end = took_ended before after new took t are ended in
    let bytes : took.bytes ≡ bytes_of new = took_bytes before after new took t are in
    ap (λ (b : List ℕ). record { bytes = b; until = took.until }) bytes
    ∙ ap (λ (u : ReadingEnd). record { bytes = bytes_of new; until = u }) until
