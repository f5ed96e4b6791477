-- If the invariant of the pass holds and no position is open, then the bytes begin with a value of
-- the type.
use Rattle.std.proofs.Common.{ℕ, ◌≤◌, ◌≡◌, ◌∙◌, List, ◌∷◌, [], length, inl, inr, ⊎_elim, sym, ap, subst, subst₂, arith, ◌<◌, ◌^◌}
use Rattle.std.specs.Prelude.{Contains, IsTrue}
use Rattle.std.specs.List.{concat, AllZip}
use Rattle.std.proofs.lemmas.List.{length-append, length-take-le}
use Rattle.base_data.proofs.model.Options.{Contains-none}
use Rattle.base_data.specs.declared.model.header.Head.{Head}
use Rattle.types_spec.specs.types.Fitting.{is_mutable}
use Rattle.types_spec.specs.types.Table.{Table}
use Rattle.marshal_spec.specs.format.Token.{Token, Encodes}
use Rattle.marshal_spec.specs.format.Tree.{Tree, tokens, objects_of, IsTree}
use Rattle.marshal_spec.specs.format.Preorder.{EachRefersBack}
use Rattle.marshal_spec.specs.format.Encoded.{States}
use Rattle.marshal_spec.proofs.format.Parsed.{tree_from_tokens}
use Rattle.marshal_spec.proofs.format.References.{ReferBack-from_each}
use Rattle.marshal_spec.proofs.format.EncodeValues.{IsToken-all_encoded}
use Rattle.check_stream.specs.theory.AskedNeeds.{of_type, shape_at, Passes}
use Rattle.check_stream.specs.theory.Noted.{IsFlatNoted}
use Rattle.check_stream.specs.theory.OnePass.{IsPassing, EndsPass}
use Rattle.check_stream.specs.theory.Laws.{PassesTypePrefixes, NotedPassesTypePrefixes}
use Rattle.check_stream.proofs.theory.Kernel.{AreNoted}
use Rattle.check_stream.proofs.theory.OnePassLemmas.{passes_all, types_of_tree}
use Rattle.check_stream.proofs.theory.OnePassEndLemmas.{passed_many, passed_open}
use Rattle.check_stream.proofs.theory.OnePassFlatLemmas.{flat_object, flat_noted}

are_noted : (table : Table) (all : List ℕ) (noted : List (ℕ × ℕ)) (tree : Tree) → IsTree tree → ((o t : ℕ) → Contains noted (o, t) → IsFlatNoted table all noted (tokens tree) o t) → AreNoted table (objects_of tree 0) all noted
are_noted table all noted tree is each = record {
  good = λ o t among. let n = each o t among in flat_noted table all noted tree o t n.tag n.flat n.next is n.stands n.asked n.at;
  fixed = λ o t among mutable. let n = each o t among in
      n.fixed (subst (λ object. IsTrue (is_mutable (shape_at table t) object)) (flat_object tree o n.tag n.flat is n.stands) mutable.1);
  first_fixed = λ o t u among at_o mutable. let n = each o t among in
      n.first_fixed u at_o (subst (λ object. IsTrue (is_mutable (shape_at table u) object)) (flat_object tree o n.tag n.flat is n.stands) mutable.1);
}

-- The header states the sizes of the tokens.
states_from : (noted : List (ℕ × ℕ)) (table : Table) (limit : ℕ) (bytes : List ℕ) (head : Head) (start n : ℕ) (ts : List Token) (types : List ℕ) → IsPassing noted table limit bytes head start n ts types [] → EndsPass head start n ts types → States head ts
states_from noted table limit bytes head start n ts types p ends = record {
  w32 = ends.w32;
  w64 = ends.w64;
  objects = ⊎_elim (λ none. inr (none, p.unshared none)) (λ same. inl (same ∙ sym p.made)) ends.count;
}

-- The header states the length of the encoded tokens as the number of data bytes.
data_length : (noted : List (ℕ × ℕ)) (table : Table) (limit : ℕ) (bytes : List ℕ) (head : Head) (start n : ℕ) (ts : List Token) (types : List ℕ) → (p : IsPassing noted table limit bytes head start n ts types []) → EndsPass head start n ts types
    → head.length ≡ length (concat p.chunks)
data_length noted table limit bytes head start n ts types p ends =
    let prefix = length-take-le n bytes p.within in
    let both = length-append p.header (concat p.chunks) in
    let same = ap length p.taken in
    let begins = p.begins in
    let whole = ends.whole in
    omega (arith, prefix, both, same, begins, whole)

pub noted_passes_type_prefixes : NotedPassesTypePrefixes
noted_passes_type_prefixes noted table limit bytes head start n ts types lawful p ends each =
    let whole = passed_many noted table ts types [] p.passed in
    let t = tree_from_tokens ts (IsToken-all_encoded ts p.chunks p.encodes) (passed_open noted table ts types [] p.passed) whole in
    let back = ReferBack-from_each t.tree 0 (subst (EachRefersBack 0) (sym t.tokens_are) p.refer_back) in
    let passes = subst (λ us. Passes noted table [] (of_type 0 ∷ []) us types) (sym t.tokens_are) (passes_all noted table ts types p.passed) in
    let noted_there = are_noted table types noted t.tree t.is_tree (subst (λ us. (o u : ℕ) → Contains noted (o, u) → IsFlatNoted table types noted us o u) (sym t.tokens_are) each) in
    record {
      within = p.within;
      tree = t.tree;
      encoded = record {
        header = p.header;
        chunks = p.chunks;
        bytes_are = p.taken;
        encodes = record {
          is_tree = t.is_tree;
          refers_back = back;
          is_header = p.is_header;
          encodes = subst (λ us. AllZip Encodes us p.chunks) (sym t.tokens_are) p.encodes;
          length = ap (λ (h : Head). h.length) p.head_is ∙ data_length noted table limit bytes head start n ts types p ends;
          states = subst₂ States (sym p.head_is) (sym t.tokens_are) (states_from noted table limit bytes head start n ts types p ends);
        };
        words = subst (λ (h : Head). h.w64 ≤ limit) (sym p.head_is) p.words;
        small = subst (λ (h : Head). h.length < 2 ^ 48) (sym p.head_is) p.small;
      };
      typed = (types_of_tree table types noted t.tree lawful t.is_tree back noted_there passes).typed;
    }

pub passes_type_prefixes : PassesTypePrefixes
passes_type_prefixes table limit bytes head start n ts types lawful p ends =
    noted_passes_type_prefixes [] table limit bytes head start n ts types lawful p ends (λ o t among. absurd (Contains-none {X = ℕ × ℕ} (o, t) among))
