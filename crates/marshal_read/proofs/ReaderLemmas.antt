-- The bytes that lead to a reader (`Leads`) are a prefix of a value, or a whole value with its
-- graph.
use Rattle.std.proofs.Common.{ℕ, ◌≡◌, ◌↔◌, inl, inr, ◌<◌, ◌≤◌, Bool, true, false, List, [], ◌∷◌, ◌++◌, length, take, Option, Some, None, Ok, arith, refl, ap, sym, ◌∙◌, subst, append-nil, take_all}
use Rattle.std.specs.Prelude.{IsTrue, IsSome}
use Rattle.std.specs.List.{concat}
use Rattle.std.proofs.lemmas.List.Elements.{All-append, All-take}
use Rattle.base_data.specs.declared.model.value.Val.{Val}
use Rattle.base_data.specs.model.Bytes.{AreBytes}
use Rattle.base_data.specs.model.Graph.{IsValue}
use Rattle.marshal_spec.specs.format.Tree.{Tree, tokens, root, objects_of}
use Rattle.marshal_spec.specs.format.Encoded.{EncodedUnder}
use Rattle.marshal_spec.specs.format.Prefix.{InHeader, IsPrefix}
use Rattle.marshal_spec.proofs.format.EncodeHeaders.{HeaderFacts-passes}
use Rattle.marshal_spec.proofs.format.EncodeTrees.{EncodedBy-passes}
use Rattle.marshal_spec.proofs.format.EncodeValues.{tokens-same}
use Rattle.marshal_heap.specs.heap.Heap.{heap_words}
use Rattle.marshal_read.specs.declared.read_totals.ReadTotals.{ReadTotals}
use Rattle.marshal_read.specs.declared.chunks.Chunks.{Chunks}
use Rattle.marshal_read.specs.declared.reader.Reader.{Reader}
use Rattle.marshal_read.specs.declared.returned_value.Value.{Value}
use Rattle.marshal_read.specs.Build.{Building, Bounded, building, start, absorb_all}
use Rattle.marshal_read.specs.Chunks.{LeadsTokens, LeadsAs, LeadsChunks, IsWhole, TakesChunk}
use Rattle.marshal_read.specs.Reader.{Feeds, IsWithin, Finishes}
use Rattle.marshal_spec.proofs.format.FormatRootLemmas.{root_is_value}
use Rattle.marshal_read.proofs.ReaderTreeLemmas.{absorb_start}
use Rattle.marshal_read.proofs.ReaderRoomLemmas.{encoded_words}
use Rattle.marshal_read.proofs.ReaderNextLemmas.{words_built}
use Rattle.marshal_read.proofs.ChunksLemmas.{open_from}

-- ---- a whole value

-- The tree that the bytes encode and whose graph is the built graph.
pub record DoneTree (limit : ℕ) (taken : List ℕ) (state : Bounded) : Type 0 where
  pub tree : Tree
  pub encoded : EncodedUnder limit taken tree
  pub built : state.built ≡ building (objects_of tree 0) [] (Some (root tree 0))

done_tree : (limit : ℕ) (taken header : List ℕ) (before : List (List ℕ)) (totals : ReadTotals) (state : Bounded) (part : List ℕ) → AreBytes taken
    → LeadsTokens limit taken header before totals state part → totals.pending ≡ 0 → DoneTree limit taken state
done_tree limit taken header before totals state part a h e =
    let all : concat before ++ part ≡ concat before = ap (λ xs. concat before ++ xs) (h.ends e) ∙ append-nil (concat before) in
    let bytes : taken ≡ header ++ concat before = h.bytes_are ∙ ap (λ xs. header ++ xs) all in
    let v = EncodedBy-passes limit taken header before a bytes h.header_passes h.tokens_pass (h.builds.sums.pending ∙ e) in
    let same = tokens-same (tokens v.tree) h.builds.tokens before v.encodes h.builds.encodes in
    record {
      tree = v.tree;
      encoded = v.encoded;
      built = h.builds.builds ∙ ap (absorb_all start) (sym same) ∙ absorb_start v.tree v.encoded.encodes.is_tree;
    }

as_done : (o : Option ReadTotals) (limit : ℕ) (taken : List ℕ) (state : Bounded) (part : List ℕ) → AreBytes taken → LeadsAs o limit taken state part → IsWhole o → DoneTree limit taken state
as_done None limit taken state part a h w = absurd w
as_done (Some totals) limit taken state part a h w = done_tree limit taken h.0 h.1 totals state part a h.2 w

pub chunks_done : (limit : ℕ) (taken : List ℕ) (chunks : Chunks) → AreBytes taken → LeadsChunks limit taken chunks → IsWhole chunks.reading.totals → DoneTree limit taken chunks.reading.builder
chunks_done limit taken chunks a h w = as_done chunks.reading.totals limit taken chunks.reading.builder chunks.part.items a h.1 w

pub root_is_there : (limit : ℕ) (taken : List ℕ) (state : Bounded) → DoneTree limit taken state → IsSome state.built.root
root_is_there limit taken state d = subst (λ (r : Option Val). IsSome r) (sym (ap (λ (b : Building). b.root) d.built)) refl

-- ---- a prefix

as_prefix : (o : Option ReadTotals) (limit : ℕ) (taken : List ℕ) (state : Bounded) (part : List ℕ) → LeadsAs o limit taken state part → (IsWhole o → ⊥) → IsPrefix limit taken
as_prefix None limit taken state part h n = inl (subst (InHeader limit) (sym h.0) h.1)
as_prefix (Some totals) limit taken state part h n =
    let some = open_from (Some totals) totals refl n in
    inr (
      h.0,
      h.1,
      part,
      record {
        bytes_are = h.2.bytes_are;
        header_passes = h.2.header_passes;
        tokens_pass = h.2.tokens_pass;
        open_before = omega (arith, h.2.builds.sums.pending, some);
        part = h.2.is_part;
        passes = h.2.passes;
      },
    )

pub chunks_prefix : (limit : ℕ) (taken : List ℕ) (chunks : Chunks) → LeadsChunks limit taken chunks → (IsWhole chunks.reading.totals → ⊥) → IsPrefix limit taken
chunks_prefix limit taken chunks h n = as_prefix chunks.reading.totals limit taken chunks.reading.builder chunks.part.items h.1 n

-- ---- the bounds of the state

pub as_within : (o : Option ReadTotals) (limit : ℕ) (taken : List ℕ) (state : Bounded) (part : List ℕ) → LeadsAs o limit taken state part → IsWithin limit o state
as_within None limit taken state part h = ap (λ (b : Building). heap_words b.objects) h.2
as_within (Some totals) limit taken state part h =
    let words = words_built h.0 h.1 totals state h.2.builds in
    let few : heap_words state.built.objects ≤ totals.head.w64 = omega (arith, words, h.2.builds.sums.w64, totals.within64) in
    let facts = HeaderFacts-passes limit h.0 h.2.header_passes in
    (totals.room, few, subst (λ x. x.w64 ≤ limit) h.2.builds.sums.head facts.words)

-- ---- the results of a reader

pub feeds_from : (limit : ℕ) (taken chunk : List ℕ) (new : Reader) (n : ℕ) (done : Bool) → AreBytes taken → AreBytes chunk → new.refusal ≡ None
    → TakesChunk limit taken chunk new.chunks (Ok n) → (IsTrue done ↔ IsWhole new.chunks.reading.totals) → Feeds limit taken chunk new (record { taken = n; done = done })
feeds_from limit taken chunk new n done a b reads t d =
    let bytes : AreBytes (taken ++ take n chunk) = All-append (λ x. x < 256) taken (take n chunk) a (All-take (λ x. x < 256) n chunk b) in
    let not_whole : done ≡ false → IsWhole new.chunks.reading.totals → ⊥ = λ e w. let yes : done ≡ true = d.1 w in cc in
    record {
      within = t.0;
      leads = record { bytes = bytes; reads = reads; chunks = t.1 };
      more = λ e.
          let all : n ≡ length chunk = t.2 (not_whole e) in
          let same : take n chunk ≡ chunk = take_all n chunk (omega (arith, all)) in
          (all, subst (λ xs. IsPrefix limit (taken ++ xs)) same (chunks_prefix limit (taken ++ take n chunk) new.chunks t.1 (not_whole e)));
      done = λ e.
          let whole = d.0 e in
          let v = chunks_done limit (taken ++ take n chunk) new.chunks bytes t.1 whole in
          ((reads, whole), (v.tree, v.encoded));
    }

pub finishes : (limit : ℕ) (taken : List ℕ) (state : Bounded) (value : Value) → DoneTree limit taken state → value.heap ≡ state.built.objects → state.built.root ≡ Some value.root → Finishes limit taken value
finishes limit taken state value d heap_is root_is =
    let heap : value.heap ≡ objects_of d.tree 0 = heap_is ∙ ap (λ (b : Building). b.objects) d.built in
    let some : Some value.root ≡ Some (root d.tree 0) = sym root_is ∙ ap (λ (b : Building). b.root) d.built in
    let same : value.root ≡ root d.tree 0 = cc in
    let valid = root_is_value d.tree d.encoded.encodes.is_tree d.encoded.encodes.refers_back in
    let words = encoded_words limit (length taken) taken d.tree (subst (λ xs. EncodedUnder limit xs d.tree) (sym (take_all (length taken) taken (omega arith))) d.encoded) in
    record {
      tree = d.tree;
      encoded = d.encoded;
      is_value = record {
        heap = heap;
        root = same;
        valid = subst (λ v. IsValue (length value.heap) v) (sym same) (subst (λ h. IsValue (length h) (root d.tree 0)) (sym heap) valid);
      };
      words = ap heap_words heap ∙ words.0;
      limited = omega (arith, ap heap_words heap, words.1);
    }

pub nothing_taken : (taken : List ℕ) → length taken ≡ 0 → taken ≡ []
nothing_taken [] e = refl
nothing_taken (b ∷ taken) e = absurd (omega arith)
