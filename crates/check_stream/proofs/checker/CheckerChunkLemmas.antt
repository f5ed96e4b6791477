-- If valid bytes after a code encode a token that satisfies the requirement, then the token is
-- accepted.
use Rattle.std.proofs.Common.{ℕ, suc, pos, ◌+◌, ◌-◌, ◌%◌, ◌<◌, ◌≤◌, ◌≡◌, Bool, List, [], ◌∷◌, length, take, drop, get_or, Ok, refl, sym, subst, arith, take_all, length-drop}
use Rattle.base_data.specs.declared.model.value.Obj.TheVariants as objects
use Rattle.base_data.specs.declared.model.code.CodeKind.{CodeKind}
use Rattle.base_data.specs.declared.model.code.CodeKind.TheVariants as kinds
use Rattle.base_data.specs.model.Bytes.{AreBytes, number, number_in, signed}
use Rattle.base_data.specs.model.Graph.{IsInteger}
use Rattle.types_spec.specs.types.Table.{Table}
use Rattle.marshal_spec.specs.format.Code.{IsKind, kind_of}
use Rattle.marshal_spec.specs.format.Raw.{fixed_bytes, variable_bytes}
use Rattle.marshal_spec.specs.format.Token.{Token, integer, atom, shared, leaf, block_or_atom, word_token, Encodes, EncodesFrom, EncodesAfter}
use Rattle.marshal_spec.proofs.format.EncodeFields.{AreSoundFields, encoded_of}
use Rattle.check_stream.specs.theory.AskedNeeds.{Need}
use Rattle.check_stream.specs.declared.checker.check_state.CheckState.{CheckState}
use Rattle.check_stream.specs.checker.CheckerState.{types_in, Took, TookChunk, TookPrefix}

module _ (table : Table) (stated : ℕ) (old new : CheckState) (need : Need) (chunk : List ℕ) where
  encoded : (kind : CodeKind) → IsKind kind → AreBytes chunk → length chunk ≡ fixed_bytes kind + variable_bytes kind chunk → AreSoundFields kind chunk (length (types_in old)) stated
      → ((t : Token) → EncodesAfter kind chunk t → Took table old new need t) → TookChunk table stated old new need kind chunk
  encoded kind known bytes whole sound took =
      let s = encoded_of kind chunk (length (types_in old)) stated known bytes whole sound in
      record {
        token = s.0;
        encodes = s.1;
        there = record { is_token = s.2.is_token; back = s.2.refers_back; unshared = s.2.table };
        took = took s.0 s.1;
      }

  pub small_block : (tag size : ℕ) → IsKind (kinds.SmallBlock tag size) → AreBytes chunk → length chunk ≡ 0 → Took table old new need (block_or_atom tag size) → TookChunk table stated old new need (kinds.SmallBlock tag size) chunk
  small_block tag size known bytes whole took =
      encoded (kinds.SmallBlock tag size) known bytes (omega (arith, whole)) tt (λ t s. subst (Took table old new need) (sym s.1) took)

  pub small_int : (n : ℕ) → n < 64 → AreBytes chunk → length chunk ≡ 0 → Took table old new need (integer (pos n)) → TookChunk table stated old new need (kinds.SmallInt n) chunk
  small_int n known bytes whole took =
      encoded (kinds.SmallInt n) known bytes (omega (arith, whole)) tt (λ t s. subst (Took table old new need) (sym s.1) took)

  pub small_string : (n : ℕ) → n < 32 → AreBytes chunk → length chunk ≡ n → ((all : List ℕ) → length all ≡ n → Took table old new need (leaf (objects.Bytes all))) → TookChunk table stated old new need (kinds.SmallString n) chunk
  small_string n known bytes whole took =
      encoded (kinds.SmallString n) known bytes (omega (arith, whole)) tt (λ t s. subst (Took table old new need) (sym s.1) (took chunk whole))

  pub int : (width : ℕ) → length chunk ≡ width → IsInteger (signed chunk) → Took table old new need (integer (signed chunk)) → TookChunk table stated old new need (kinds.Int width) chunk
  int width whole fits took = record {
    token = integer (signed chunk);
    encodes = (whole, refl);
    there = record { is_token = fits; back = tt; unshared = λ _. tt };
    took = took;
  }

  pub back : (width : ℕ) → length chunk ≡ width → 0 < stated → 1 ≤ number chunk → number chunk ≤ length (types_in old) → Took table old new need (shared (number chunk)) → TookChunk table stated old new need (kinds.Shared width) chunk
  back width whole some first few took = record {
    token = shared (number chunk);
    encodes = (whole, refl);
    there = record { is_token = tt; back = (first, few); unshared = λ none. absurd (omega (arith, some, none)) };
    took = took;
  }

  pub word : (width : ℕ) → IsKind (kinds.Block width) → AreBytes chunk → length chunk ≡ width → number chunk % 256 ≤ 243 → Took table old new need (word_token (number chunk)) → TookChunk table stated old new need (kinds.Block width) chunk
  word width known bytes whole tag took =
      let all : take width chunk ≡ chunk = take_all width chunk (omega (arith, whole)) in
      encoded (kinds.Block width) known bytes (omega (arith, whole)) (subst (λ xs. number xs % 256 ≤ 243) (sym all) tag) (λ t s. subst (Took table old new need) (sym s.1) took)

  pub str : (width : ℕ) → IsKind (kinds.Str width) → AreBytes chunk → length chunk ≡ width + number (take width chunk) → ((all : List ℕ) → length all ≡ length chunk - width → Took table old new need (leaf (objects.Bytes all))) → TookChunk table stated old new need (kinds.Str width) chunk
  str width known bytes whole took =
      encoded (kinds.Str width) known bytes whole tt (λ t s. subst (Took table old new need) (sym s.2) (took (drop width chunk) (length-drop width chunk)))

  pub double : (little : Bool) → AreBytes chunk → length chunk ≡ 8 → ((bits : ℕ) → Took table old new need (leaf (objects.Double bits))) → TookChunk table stated old new need (kinds.Double little) chunk
  double little bytes whole took =
      encoded (kinds.Double little) tt bytes (omega (arith, whole)) tt (λ t s. subst (Took table old new need) (sym s.1) (took (number_in little chunk)))

-- ---- by an equation of the kind

module _ (table : Table) (stated : ℕ) (old new : CheckState) (need : Need) (kind : CodeKind) (chunk : List ℕ) (known : IsKind kind) (bytes : AreBytes chunk) (whole : length chunk ≡ fixed_bytes kind + variable_bytes kind chunk) where
  pub at_str : (width : ℕ) → kind ≡ kinds.Str width → ((all : List ℕ) → length all ≡ length chunk - width → Took table old new need (leaf (objects.Bytes all))) → TookChunk table stated old new need kind chunk
  at_str width is took =
      subst (λ k. TookChunk table stated old new need k chunk) (sym is)
      (str table stated old new need chunk width (subst IsKind is known) bytes (subst (λ k. length chunk ≡ fixed_bytes k + variable_bytes k chunk) is whole) took)

  pub at_double : (little : Bool) → kind ≡ kinds.Double little → ((bits : ℕ) → Took table old new need (leaf (objects.Double bits))) → TookChunk table stated old new need kind chunk
  at_double little is took =
      let long : length chunk ≡ 8 + 0 = subst (λ k. length chunk ≡ fixed_bytes k + variable_bytes k chunk) is whole in
      subst (λ k. TookChunk table stated old new need k chunk) (sym is) (double table stated old new need chunk little bytes (omega (arith, long)) took)

  long_of : (other : CodeKind) → kind ≡ other → length chunk ≡ fixed_bytes other + variable_bytes other chunk
  long_of other is = subst (λ k. length chunk ≡ fixed_bytes k + variable_bytes k chunk) is whole

  pub at_atom : (tag size : ℕ) → kind ≡ kinds.SmallBlock tag size → size ≡ 0 → Took table old new need (atom tag) → TookChunk table stated old new need kind chunk
  at_atom tag size is none took =
      let long : length chunk ≡ 0 = long_of (kinds.SmallBlock tag size) is in
      let own : Took table old new need (block_or_atom tag size) = subst (λ n. Took table old new need (block_or_atom tag n)) (sym none) took in
      subst (λ k. TookChunk table stated old new need k chunk) (sym is) (small_block table stated old new need chunk tag size (subst IsKind is known) bytes long own)

  pub at_word : (width n : ℕ) → kind ≡ kinds.Block width → n ≡ number chunk → n % 256 ≤ 243 → Took table old new need (word_token n) → TookChunk table stated old new need kind chunk
  at_word width n is same tag took =
      let long : length chunk ≡ width + 0 = long_of (kinds.Block width) is in
      subst (λ k. TookChunk table stated old new need k chunk) (sym is)
      (word table stated old new need chunk width (subst IsKind is known) bytes (omega (arith, long)) (subst (λ m. m % 256 ≤ 243) same tag) (subst (λ m. Took table old new need (word_token m)) same took))

  pub at_small_int : (n : ℕ) → kind ≡ kinds.SmallInt n → Took table old new need (integer (pos n)) → TookChunk table stated old new need kind chunk
  at_small_int n is took =
      let long : length chunk ≡ 0 = long_of (kinds.SmallInt n) is in
      subst (λ k. TookChunk table stated old new need k chunk) (sym is) (small_int table stated old new need chunk n (subst IsKind is known) bytes long took)

  pub at_small_string : (n : ℕ) → kind ≡ kinds.SmallString n → ((all : List ℕ) → length all ≡ n → Took table old new need (leaf (objects.Bytes all))) → TookChunk table stated old new need kind chunk
  at_small_string n is took =
      let long : length chunk ≡ 0 + n = long_of (kinds.SmallString n) is in
      subst (λ k. TookChunk table stated old new need k chunk) (sym is) (small_string table stated old new need chunk n (subst IsKind is known) bytes (omega (arith, long)) took)

  pub at_int : (width : ℕ) → kind ≡ kinds.Int width → IsInteger (signed chunk) → Took table old new need (integer (signed chunk)) → TookChunk table stated old new need kind chunk
  at_int width is fits took =
      let long : length chunk ≡ width + 0 = long_of (kinds.Int width) is in
      subst (λ k. TookChunk table stated old new need k chunk) (sym is) (int table stated old new need chunk width (omega (arith, long)) fits took)

  pub at_shared : (width : ℕ) → kind ≡ kinds.Shared width → 0 < stated → 1 ≤ number chunk → number chunk ≤ length (types_in old) → Took table old new need (shared (number chunk)) → TookChunk table stated old new need kind chunk
  at_shared width is some first few took =
      let long : length chunk ≡ width + 0 = long_of (kinds.Shared width) is in
      subst (λ k. TookChunk table stated old new need k chunk) (sym is) (back table stated old new need chunk width (omega (arith, long)) some first few took)

-- Taking all bytes of the slice from an offset on does not change the slice.
pub rest_from : (n : ℕ) (bytes : List ℕ) → take (length bytes - n) (drop n bytes) ≡ drop n bytes
rest_from n bytes = let long = length-drop n bytes in take_all (length bytes - n) (drop n bytes) (omega (arith, long))

-- If the bytes after the code were accepted, then the code and the bytes were accepted.
pub with_code : (table : Table) (stated : ℕ) (old new : CheckState) (need : Need) (rest : List ℕ) (kind : CodeKind) (len : ℕ) → 0 < length rest → kind_of (get_or rest 0 0) ≡ Ok kind → len ≤ length (drop 1 rest)
    → TookChunk table stated old new need kind (take len (drop 1 rest)) → TookPrefix table stated old new need rest (1 + len)
with_code table stated old new need [] kind len some is within p = absurd (omega arith)
with_code table stated old new need (code ∷ rest) kind len some is within p =
    let next : suc len ≡ 1 + len = omega arith in
    record {
      within = omega (arith, within);
      token = p.token;
      encodes = subst (λ n. Encodes p.token (take n (code ∷ rest))) next (p.there.is_token, subst (λ r. EncodesFrom r (take len rest) p.token) (sym is) p.encodes);
      there = p.there;
      took = p.took;
    }
