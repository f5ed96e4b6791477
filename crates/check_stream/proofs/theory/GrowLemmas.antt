-- The invariant of the pass at the start and after one more token.
use Rattle.std.proofs.Common.{ℕ, ◌+◌, ◌≤◌, ◌<◌, ◌^◌, ◌≡◌, ◌∙◌, refl, List, [], ◌∷◌, ◌++◌, length, map, sym, ap, subst, arith, take-add}
use Rattle.std.specs.Prelude.{take, drop}
use Rattle.std.specs.List.{concat}
use Rattle.std.proofs.lemmas.List.{append_assoc, append-nil, length-append}
use Rattle.std.proofs.lemmas.List.Elements.{All-nil, All-push}
use Rattle.base_data.specs.declared.model.header.Head.{Head}
use Rattle.types_spec.specs.types.Table.{Table}
use Rattle.marshal_spec.specs.format.Words.{objects}
use Rattle.marshal_spec.specs.format.Header.{head_of}
use Rattle.marshal_spec.specs.format.Token.{Token, integer, atom, shared, block, leaf, IsToken, Encodes, measure_of}
use Rattle.marshal_spec.specs.format.Tree.{RefersBack, made_by}
use Rattle.marshal_spec.specs.format.Encoded.{IsHeader, IsNoReference}
use Rattle.marshal_spec.proofs.format.Counts.{objects-tokens-append, objects-tokens-cons}
use Rattle.marshal_spec.proofs.format.References.{EachRefersBack-append}
use Rattle.marshal_spec.proofs.format.FormatReadingLemmas.{concat-push, AllZip-push}
use Rattle.marshal_spec.proofs.format.EncodeValues.{IsToken-encoded}
use Rattle.check_stream.specs.theory.AskedNeeds.{Need, of_type, hash_of, Asks, type_in}
use Rattle.check_stream.specs.theory.OnePass.{start, further, IsPassing}
use Rattle.check_stream.proofs.theory.PassLemmas.{leaf_made}

-- The invariant of the pass holds before the first token.
pub passing_start :
    (noted : List (ℕ × ℕ)) (table : Table) (limit : ℕ) (bytes : List ℕ) (head : Head) (n : ℕ) → n ≤ length bytes → IsHeader (take n bytes)
    → head_of (take n bytes) ≡ head → length (take n bytes) ≡ n → head.w64 ≤ limit → head.length < 2 ^ 48
    → IsPassing noted table limit bytes head n n [] [] (of_type 0 ∷ [])
passing_start noted table limit bytes head n within is_header head_is begins words small = record {
  header = take n bytes;
  chunks = [];
  within = within;
  is_header = is_header;
  head_is = head_is;
  begins = begins;
  taken = sym (append-nil (take n bytes));
  encodes = tt;
  refer_back = tt;
  made = refl;
  unshared = λ _. All-nil IsNoReference;
  passed = start;
  words = words;
  small = small;
}

-- The number of types that a token adds is the number of objects that the token creates.
made_in : (noted : List (ℕ × ℕ)) (table : Table) (types : List ℕ) (need : Need) (token : Token) (next : List Need) → IsToken token → Asks noted table types need token next → made_by token ≡ length (type_in need token)
made_in noted table types (of_type t) (integer z) next is asks = refl
made_in noted table types (of_type t) (atom tag) next is asks = refl
made_in noted table types (of_type t) (shared offset) next is asks = refl
made_in noted table types (of_type t) (block tag size) next is asks = refl
made_in noted table types (of_type t) (leaf object) next is asks = leaf_made object is
made_in noted table types (hash_of tags) (integer z) next is asks = refl
made_in noted table types (hash_of tags) (atom tag) next is asks = absurd asks
made_in noted table types (hash_of tags) (shared offset) next is asks = absurd asks
made_in noted table types (hash_of tags) (block tag size) next is asks = absurd asks
made_in noted table types (hash_of tags) (leaf object) next is asks = absurd asks

-- If the invariant of the pass holds before a token, then the invariant holds after the token.
pub passing_further :
    (noted : List (ℕ × ℕ)) (table : Table) (limit : ℕ) (bytes : List ℕ) (head : Head) (first n : ℕ) (tokens : List Token) (types : List ℕ) (need : Need) (needs : List Need)
    → (p : IsPassing noted table limit bytes head first n tokens types (need ∷ needs))
    → (token : Token) (next : List Need) (m : ℕ) → Asks noted table types need token next → n + m ≤ length bytes → Encodes token (take m (drop n bytes)) → RefersBack token (length types)
    → (head.objects ≡ 0 → IsNoReference token)
    → IsPassing noted table limit bytes head first (n + m) (tokens ++ token ∷ []) (types ++ type_in need token) (next ++ needs)
passing_further noted table limit bytes head first n tokens types need needs p token next m asks within encodes back unshared =
    let chunk = take m (drop n bytes) in
    let one = made_in noted table types need token next (IsToken-encoded token chunk encodes) asks in
    let both = objects-tokens-append tokens (token ∷ []) in
    let single = objects-tokens-cons token [] in
    let long = length-append types (type_in need token) in
    let before = p.made in
    record {
      header = p.header;
      chunks = p.chunks ++ chunk ∷ [];
      within = within;
      is_header = p.is_header;
      head_is = p.head_is;
      begins = p.begins;
      taken = take-add n m bytes ∙ ap (λ xs. xs ++ chunk) p.taken ∙ append_assoc p.header (concat p.chunks) chunk ∙ ap (λ xs. p.header ++ xs) (sym (concat-push p.chunks chunk));
      encodes = AllZip-push Encodes tokens p.chunks token chunk p.encodes encodes;
      refer_back = EachRefersBack-append 0 tokens (token ∷ []) p.refer_back (subst (RefersBack token) (omega (arith, before)) back, tt);
      made = let none : objects (map measure_of []) ≡ 0 = refl in omega (arith, one, both, single, long, before, none);
      unshared = λ e. All-push IsNoReference tokens token (p.unshared e) (unshared e);
      passed = further tokens types need needs next token p.passed asks;
      words = p.words;
      small = p.small;
    }
