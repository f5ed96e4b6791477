-- An encoded value passes its steps. If bytes pass their steps, then the bytes encode the value of
-- one tree.
use Rattle.std.proofs.Common.{ℕ, ◌+◌, ◌<◌, ◌≡◌, Bool, true, false, List, [], ◌∷◌, ◌++◌, length, map, All, inl, inr, refl, arith, length-append}
use Rattle.std.specs.List.{concat, AllZip}
use Rattle.base_data.specs.declared.model.header.Head.{Head}
use Rattle.base_data.specs.model.Bytes.{AreBytes}
use Rattle.marshal_spec.specs.format.Header.{head_of}
use Rattle.marshal_spec.specs.format.Raw.{raw_measure}
use Rattle.marshal_spec.specs.format.Words.{all_words32, pending}
use Rattle.marshal_spec.specs.format.Prefix.{TokensPass, HeaderPasses}
use Rattle.marshal_spec.specs.format.Token.{Token, measure_of, Encodes}
use Rattle.marshal_spec.specs.format.Tree.{Tree, node, IsTree, tokens, ReferBack}
use Rattle.marshal_spec.specs.format.Encoded.{IsNoReference, StatesWords32, States, EncodedUnder}
use Rattle.marshal_spec.proofs.format.Pending.{open_tokens, pending-tokens}
use Rattle.marshal_spec.proofs.format.Parsed.{TreeOf, tree_from_tokens}
use Rattle.marshal_spec.proofs.format.References.{ReferBack-each}
use Rattle.marshal_spec.proofs.format.Unique.{tokens_injective}
use Rattle.marshal_spec.proofs.format.EncodeTokens.{EndsAt, FitsUpTo}
use Rattle.marshal_spec.proofs.format.EncodeHeaders.{HeaderFacts, HeaderFacts-passes, HeaderPasses-facts}
use Rattle.marshal_spec.proofs.format.EncodeValues.{raw_measures-encoded, tokens-same, some_bytes, table_from_states, ends_from_states, tokens_pass, EncodedTokens, encoded_tokens, AreBytes-rest}

-- A value that the bytes encode with the header `header` and the chunks `chunks`.
pub record EncodedBy (limit : ℕ) (bytes header : List ℕ) (chunks : List (List ℕ)) : Type 0 where
  pub tree : Tree
  pub encoded : EncodedUnder limit bytes tree
  pub header_is : encoded.header ≡ header
  pub chunks_are : encoded.chunks ≡ chunks
  pub encodes : AllZip Encodes (tokens tree) chunks

-- The header and the chunks pass all steps of a whole value.
pub record PassesWhole (limit : ℕ) (header : List ℕ) (chunks : List (List ℕ)) : Type 0 where
  pub header_passes : HeaderPasses limit header
  pub tokens_pass : TokensPass header [] chunks
  pub whole : pending (map raw_measure chunks) ≡ 0

-- The chunks of a tree's tokens have at least one byte in total.
some_data : (tree : Tree) (chunks : List (List ℕ)) → AllZip Encodes (tokens tree) chunks → 0 < length (concat chunks)
some_data (node t forest) [] s = absurd s
some_data (node t forest) (chunk ∷ chunks) s = omega (arith, some_bytes t chunk s.0, length-append chunk (concat chunks))

-- If the header's data length is positive, then the empty list of tokens fits the header.
fits_at_start : (head : Head) → 0 < head.length → FitsUpTo head 0 []
fits_at_start head h = record { within = omega arith; room = omega arith; w32 = λ b. omega arith; w64 = omega arith; end = λ e. absurd (omega arith) }

-- If the words on 32 bits agree in a small header, then the header states the words on 32 bits.
states_words32 : (big : Bool) (stated found : ℕ) → (big ≡ false → stated ≡ found) → StatesWords32 big stated found
states_words32 true stated found e = tt
states_words32 false stated found e = e refl

-- If the header agrees with the tokens, then the header states the sums of the tokens.
states_from_ends : (head : Head) (n : ℕ) (ts : List Token) → EndsAt head n (map measure_of ts) → (head.objects ≡ 0 → All IsNoReference ts) → States head ts
states_from_ends head n ts e table = record {
  w32 = states_words32 head.big head.w32 (all_words32 (map measure_of ts)) e.w32;
  w64 = e.w64;
  objects = elim e.count [ inl z ↦ inr (z, table z) | inr o ↦ inl o ];
}

-- If chunks encode the tokens of a tree and the header agrees with the tokens, then the bytes
-- encode the tree's value.
encoded_by : (limit : ℕ) (bytes header : List ℕ) (chunks : List (List ℕ)) → bytes ≡ header ++ concat chunks → HeaderFacts limit header → (r : EncodedTokens header [] [] chunks) → pending (map measure_of r.all) ≡ 0 → (t : TreeOf r.all) → ReferBack t.tree 0 → EncodedBy limit bytes header chunks
encoded_by limit bytes header chunks e h r none t back =
    let head = head_of header in
    let ends = r.fits.end none in
    let encodes : AllZip Encodes (tokens t.tree) chunks = rw t.tokens_are r.encodes in
    let states : States head (tokens t.tree) = rw t.tokens_are (states_from_ends head (length {A = ℕ} [] + length (concat chunks)) r.all ends r.table) in
    record {
      tree = t.tree;
      encoded = record {
        header = header;
        chunks = chunks;
        bytes_are = e;
        encodes = record { is_tree = t.is_tree; refers_back = back; is_header = h.is_header; encodes = encodes; length = omega (arith, ends.length); states = states };
        words = h.words;
        small = h.small;
      };
      header_is = refl;
      chunks_are = refl;
      encodes = encodes;
    }

-- After the tokens of a tree, no value is expected.
none_to_come : (tree : Tree) → IsTree tree → pending (map measure_of (tokens tree)) ≡ 0
none_to_come tree h = omega (arith, pending-tokens [] tree h (omega arith))

-- An encoded value passes all steps of its header and tokens.
pub PassesWhole-encoded : (limit : ℕ) (bytes : List ℕ) (tree : Tree) (s : EncodedUnder limit bytes tree) → PassesWhole limit s.header s.chunks
PassesWhole-encoded limit bytes tree s =
    let v = s.encodes in
    let head = head_of s.header in
    let ts = tokens tree in
    let none = none_to_come tree v.is_tree in
    let each = (ReferBack-each tree 0).0 v.refers_back in
    record {
      header_passes = HeaderPasses-facts limit s.header (record { is_header = v.is_header; words = s.words; small = s.small; some = rw v.length (some_data tree s.chunks v.encodes) });
      tokens_pass = tokens_pass s.header [] [] ts s.chunks refl v.encodes (open_tokens [] tree v.is_tree (omega arith)) each (table_from_states head ts v.states each) none
          (ends_from_states head (length {A = ℕ} [] + length (concat s.chunks)) ts (omega (arith, v.length)) v.states);
      whole = rw (raw_measures-encoded ts s.chunks v.encodes) none;
    }

-- If the header and the tokens pass and no value is expected at the end, then the bytes encode a
-- value.
pub EncodedBy-passes : (limit : ℕ) (bytes header : List ℕ) (chunks : List (List ℕ)) → AreBytes bytes → bytes ≡ header ++ concat chunks → HeaderPasses limit header → TokensPass header [] chunks → pending (map raw_measure chunks) ≡ 0 → EncodedBy limit bytes header chunks
EncodedBy-passes limit bytes header chunks a e h p none =
    let facts = HeaderFacts-passes limit header h in
    let content : AreBytes (concat chunks) = AreBytes-rest header (concat chunks) (rw e at a) in
    let r : EncodedTokens header [] [] chunks = encoded_tokens header [] [] chunks refl content (fits_at_start (head_of header) facts.some) p in
    let none' : pending (map measure_of r.all) ≡ 0 = rw (raw_measures-encoded r.all chunks r.encodes) at none in
    let t : TreeOf r.all = tree_from_tokens r.all r.are_tokens r.opens none' in
    encoded_by limit bytes header chunks e facts r none' t ((ReferBack-each t.tree 0).1 (rw t.tokens_are r.refers_back))

-- If two trees are encoded by the same chunks, then the trees are equal.
pub tree-same : (limit limit' : ℕ) (bytes bytes' : List ℕ) (tree tree' : Tree) (s : EncodedUnder limit bytes tree) (s' : EncodedUnder limit' bytes' tree') → s.chunks ≡ s'.chunks → tree ≡ tree'
tree-same limit limit' bytes bytes' tree tree' s s' e =
    let encodes : AllZip Encodes (tokens tree) s'.chunks = rw e at s.encodes.encodes in
    tokens_injective tree tree' s.encodes.is_tree s'.encodes.is_tree (tokens-same (tokens tree) (tokens tree') s'.chunks encodes s'.encodes.encodes)
