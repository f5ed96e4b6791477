-- Values on the fast path.
use Rattle.std.proofs.Common.{ℕ, suc, ◌≡◌, ◌+◌, ◌-◌, ◌<◌, ◌≤◌, ◌∙◌, ⊎_elim, Bool, true, false, List, [], ◌∷◌, ◌++◌, length, refl, sym, ap, subst, arith, append_assoc, append-nil, Some, None, ℤ}
use Rattle.std.specs.Prelude.{◌||◌, All, IsTrue, slice_get, codes}
use Rattle.std.specs.List.{flat_map}
use Rattle.std.proofs.lemmas.Bool.Decides.{eqb_tells}
use Rattle.std.proofs.lemmas.Grind.{flat_map-append}
use Rattle.std.proofs.lemmas.List.Elements.{All-nil, All-cons, All-head, All-tail, All-weaker}
use Rattle.base_data.specs.declared.model.value.Val.{Val}
use Rattle.base_data.specs.declared.model.value.Val.TheVariants as vals
use Rattle.base_data.specs.declared.model.value.Obj.{Obj}
use Rattle.base_data.specs.declared.model.value.Obj.TheVariants as objects
use Rattle.types_spec.specs.types.Fitting.{is_asked}
use Rattle.types_spec.specs.types.Typing.{field_at as typed_field}
use Rattle.types_table.specs.declared.type_table.tabled.Tabled.{Tabled}
use Rattle.marshal_heap.specs.heap.Heap.{object_at, fields_of}
use Rattle.check_heap.specs.fits.Needs.{needs_in}
use Rattle.text_print.specs.leaves.Frames.{before_part, int_text, object_text, wildcard_text}
use Rattle.text_print.specs.leaves.FrameView.{frame_in}
use Rattle.text_print.specs.show.TextChunks.{TextChunk, Text, First, has, agains, chunk_text, text_of}
use Rattle.text_print.specs.show.ShownValues.{Met, met, led_by, shown_text, chunks_of}
use Rattle.text_print.specs.show.TableShapes.{shape_in, names_in}
use Rattle.text_print.proofs.show.ShowChunkLemmas.{agains-append}
use Rattle.text_print.specs.declared.print.open_block.OpenBlock.{OpenBlock}
use Rattle.text_print.specs.print.FlatText.{WritesWhole, IsMetAs, IsWrittenFlat, AreWrittenFlat, WritesParts}
use Rattle.text_print.specs.print.PrintLevels.{Open, end_text, with_next}
use Rattle.text_print.specs.print.Write.{IsGrown}
use Rattle.text_print.specs.print.PrintWalk.{meet, parts_left, IsBegun}
use Rattle.text_print.proofs.print.PrintLeftLemmas.{is_after, no_parts, part_next}
use Rattle.text_print.proofs.print.PrintPlainLemmas.{no_labels, one_text, then_text}
use Rattle.text_print.proofs.print.PrintWalkLemmas.{meet_asked, meet_wildcard, met_leaf, met_unmarked, opening_met, still_open}

-- ---- texts that were extended

not_grown : (text : List ℕ) → IsGrown text text
not_grown text = ([], sym (append-nil text))

pub grown_more : (old text bytes between all : List ℕ) → IsGrown old text → between ≡ text ++ bytes → IsGrown between all → IsGrown old all
grown_more old text bytes between all grown write more =
    (grown.0 ++ (bytes ++ more.0), then_text old text all grown.0 (bytes ++ more.0) grown.1 (then_text text between all bytes more.0 write more.1))

-- ---- objects that were not visited

not_met : (last o : ℕ) (seen : List ℕ) → last < o → All (λ x. x ≤ last) seen → has seen o ≡ false
not_met last o [] above few = refl
not_met last o (x ∷ seen) above few = ⊎_elim
    (λ same. let first = All-head (λ y. y ≤ last) x seen few in absurd (omega (arith, same.1, above, first)))
    (λ other. ap (λ b. b || has seen o) other.0 ∙ not_met last o seen above (All-tail (λ y. y ≤ last) x seen few))
    (eqb_tells x o)

module _ (table : Tabled) (graph : List Obj) where
  -- ---- one value

  -- If the chunks of a value are a single text, then appending the text appends the value on the
  -- fast path.
  text_flat : (v : Val) (t last : ℕ) (bytes old text : List ℕ) → last < length graph → ((n : ℕ) (seen : List ℕ) → meet table graph (suc n) seen v t ≡ met (Text bytes ∷ []) seen) → text ≡ old ++ bytes
      → IsWrittenFlat table graph v t last last old text
  text_flat v t last bytes old text inside meets write = record {
    chunks = Text bytes ∷ [];
    fresh = refl;
    write = one_text old text bytes write;
    inside = inside;
    met_as = λ n seen few. subst (IsMetAs (Text bytes ∷ []) last) (sym (meets n seen)) (refl, few);
  }

  pub wildcard_flat : (v : Val) (t last : ℕ) (old text : List ℕ) → last < length graph → is_asked (shape_in table t) ≡ false → text ≡ old ++ wildcard_text → IsWrittenFlat table graph v t last last old text
  wildcard_flat v t last old text inside wildcard write = text_flat v t last wildcard_text old text inside (λ n seen. meet_wildcard table graph n seen v t wildcard) write

  pub int_flat : (z : ℤ) (t last : ℕ) (old text : List ℕ) → last < length graph → IsTrue (is_asked (shape_in table t)) → text ≡ old ++ int_text (shape_in table t) (names_in table t) z → IsWrittenFlat table graph (vals.Int z) t last last old text
  int_flat z t last old text inside asked write =
      text_flat (vals.Int z) t last (int_text (shape_in table t) (names_in table t) z) old text inside (λ n seen. meet_asked table graph n seen (vals.Int z) t asked) write

  pub atom_flat : (tag t last : ℕ) (old text : List ℕ) → last < length graph → IsTrue (is_asked (shape_in table t)) → text ≡ old ++ codes "[||]" → IsWrittenFlat table graph (vals.Atom tag) t last last old text
  atom_flat tag t last old text inside asked write = text_flat (vals.Atom tag) t last (codes "[||]") old text inside (λ n seen. meet_asked table graph n seen (vals.Atom tag) t asked) write

  pub leaf_flat : (o t last : ℕ) (old text : List ℕ) → o < length graph → last < o → IsTrue (is_asked (shape_in table t)) → ((tag : ℕ) (values : List Val) → object_at graph o ≡ objects.Block tag values → ⊥)
      → text ≡ old ++ object_text (shape_in table t) (names_in table t) (object_at graph o) → IsWrittenFlat table graph (vals.Ref o) t last o old text
  leaf_flat o t last old text inside above asked no_block write =
      let bytes = object_text (shape_in table t) (names_in table t) (object_at graph o) in
      let p : List TextChunk = First o ∷ Text bytes ∷ [] in record {
        chunks = p;
        fresh = refl;
        write = one_text old text bytes write;
        inside = inside;
        met_as = λ n seen few. subst (IsMetAs p o) (sym (met_leaf table graph n seen o t inside asked (not_met last o seen above few) no_block))
            (refl, All-cons (λ x. x ≤ o) o seen (omega arith) (All-weaker (λ x. x ≤ last) (λ x. x ≤ o) (λ x is. omega (arith, is, above)) seen few));
      }

  -- ---- the parts of a block, one at a time

  -- The parts before part `k` of a block were appended on the fast path.
  pub record ArePartlyWritten (block : OpenBlock) (k last : ℕ) (old text : List ℕ) : Type 0 where
    pub chunks : List TextChunk
    pub fresh : agains chunks ≡ []
    pub write : text ≡ old ++ flat_map (chunk_text []) chunks
    pub inside : last < length graph
    pub met_so : (n : ℕ) → (seen : List ℕ) × All (λ o. o ≤ last) seen
        × (parts_left table graph (suc n) (with_next block 0) (block.object ∷ []) ≡ led_by chunks (parts_left table graph (suc n) (with_next block k) seen))

  pub none_written : (block : OpenBlock) (text : List ℕ) → block.object < length graph → ArePartlyWritten block 0 block.object text text
  none_written block text inside = record {
    chunks = [];
    fresh = refl;
    write = sym (append-nil text);
    inside = inside;
    met_so = λ n. (block.object ∷ [], All-cons (λ x. x ≤ block.object) block.object [] (omega arith) (All-nil (λ x. x ≤ block.object)), refl);
  }

  pub grown_so : (block : OpenBlock) (k last : ℕ) (old text : List ℕ) → ArePartlyWritten block k last old text → IsGrown old text
  grown_so block k last old text partly = (flat_map (chunk_text []) partly.chunks, partly.write)

  pub more_written : (block : OpenBlock) (k last next i t : ℕ) (v : Val) (old text between all : List ℕ) → slice_get (needs_in block.needs) k ≡ Some (i, t) → typed_field graph block.object i ≡ Some v
      → ArePartlyWritten block k last old text → between ≡ text ++ before_part (frame_in block.frame) k → IsWrittenFlat table graph v t last next between all → ArePartlyWritten block (k + 1) next old all
  more_written block k last next i t v old text between all at_k field partly before here =
      let f = chunk_text [] in
      let b = before_part (frame_in block.frame) k in
      let new : List TextChunk = Text b ∷ here.chunks in record {
        chunks = partly.chunks ++ new;
        fresh = agains-append partly.chunks new ∙ ap (λ os. os ++ agains here.chunks) partly.fresh ∙ here.fresh;
        write = then_text old text all (flat_map f partly.chunks) (b ++ flat_map f here.chunks) partly.write (then_text text between all b (flat_map f here.chunks) before here.write)
            ∙ ap (λ bs. old ++ bs) (sym (flat_map-append f partly.chunks new));
        inside = here.inside;
        met_so = λ n.
            let so = partly.met_so n in
            let m = meet table graph (suc n) so.0 v t in
            let then = here.met_as n so.0 so.1 in
            let rest = parts_left table graph (suc n) (with_next block (k + 1)) m.seen in (
              m.seen,
              then.1,
              so.2
                  ∙ ap (led_by partly.chunks) (part_next table graph (suc n) (with_next block k) (Open (with_next block (k + 1))) so.0 i t v at_k field (is_after table graph (with_next block k) None tt))
                  ∙ ap (λ ps. led_by partly.chunks (led_by (Text b ∷ []) (led_by ps rest))) then.0
                  ∙ ap (λ ps. met ps rest.seen) (sym (append_assoc partly.chunks new rest.chunks)),
            );
      }

  pub all_written : (block : OpenBlock) (k last end : ℕ) (old text all : List ℕ) → length (needs_in block.needs) ≤ k → end_text end ≡ (frame_in block.frame).closing
      → ArePartlyWritten block k last old text → all ≡ text ++ end_text end → AreWrittenFlat table graph block old all
  all_written block k last end old text all past ends partly write =
      let f = chunk_text [] in
      let new : List TextChunk = Text (end_text end) ∷ [] in record {
        chunks = partly.chunks ++ new;
        fresh = agains-append partly.chunks new ∙ ap (λ os. os ++ agains new) partly.fresh;
        write = then_text old text all (flat_map f partly.chunks) (flat_map f new) partly.write (one_text text all (end_text end) write) ∙ ap (λ bs. old ++ bs) (sym (flat_map-append f partly.chunks new));
        met_as = λ n. let so = partly.met_so n in
            ap (λ (m : Met). m.chunks) (so.2 ∙ ap (led_by partly.chunks) (no_parts table graph (with_next block k) end past ends (suc n) so.0));
      }

  -- ---- the whole value

  whole : length graph + 1 ≡ suc (length graph)
  whole = omega arith

  plain_shown : (v : Val) (t : ℕ) (chunks : List TextChunk) → chunks_of (shape_in table) (names_in table) graph v t ≡ chunks → agains chunks ≡ []
      → shown_text (shape_in table) (names_in table) graph v t ≡ flat_map (chunk_text []) chunks
  unfolding shown_text
  plain_shown v t chunks is fresh = ap text_of is ∙ ap (λ os. flat_map (chunk_text os) chunks) (no_labels chunks fresh)

  -- If the type of an integer is not a wildcard, then the text of the value is the text of the
  -- integer.
  pub int_shown : (z : ℤ) (t : ℕ) → IsTrue (is_asked (shape_in table t)) → shown_text (shape_in table) (names_in table) graph (vals.Int z) t ≡ int_text (shape_in table t) (names_in table t) z
  int_shown z t asked =
      let bytes = int_text (shape_in table t) (names_in table t) z in
      plain_shown (vals.Int z) t (Text bytes ∷ [])
      (ap (λ n. (meet table graph n [] (vals.Int z) t).chunks) whole ∙ ap (λ (m : Met). m.chunks) (meet_asked table graph (length graph) [] (vals.Int z) t asked))
      refl
      ∙ append-nil bytes

  -- If an object has no parts, then the text of the value is the text of the object.
  pub leaf_shown : (o t : ℕ) → o < length graph → IsTrue (is_asked (shape_in table t)) → ((tag : ℕ) (values : List Val) → object_at graph o ≡ objects.Block tag values → ⊥)
      → shown_text (shape_in table) (names_in table) graph (vals.Ref o) t ≡ object_text (shape_in table t) (names_in table t) (object_at graph o)
  leaf_shown o t inside asked no_block =
      let bytes = object_text (shape_in table t) (names_in table t) (object_at graph o) in
      plain_shown (vals.Ref o) t (First o ∷ Text bytes ∷ [])
      (ap (λ n. (meet table graph n [] (vals.Ref o) t).chunks) whole ∙ ap (λ (m : Met). m.chunks) (met_leaf table graph (length graph) [] o t inside asked refl no_block))
      refl
      ∙ append-nil bytes

  -- If the parts of a block were appended on the fast path, then the text of the block was
  -- appended.
  block_shown : (o t tag : ℕ) (outside : ℕ) (block : OpenBlock) (old between text : List ℕ) → o < length graph → IsTrue (is_asked (shape_in table t)) → object_at graph o ≡ objects.Block tag (fields_of (object_at graph o))
      → IsBegun table graph o t tag outside block → between ≡ old ++ (frame_in block.frame).opening → AreWrittenFlat table graph block between text → text ≡ old ++ shown_text (shape_in table) (names_in table) graph (vals.Ref o) t
  block_shown o t tag outside block old between text inside asked is_block begun opened parts =
      let opening = (frame_in block.frame).opening in
      let start = with_next block 0 in
      let some : length graph ≡ suc (length graph - 1) = omega (arith, inside) in
      let prefix = λ (ps : List TextChunk). First o ∷ Text opening ∷ ps in
      let started : IsBegun table graph o t tag outside start =
      record { object = begun.object; frame = begun.frame; needs = begun.needs; next = refl; outside = begun.outside; is_open = still_open table graph block 0 begun.is_open } in
      let is : chunks_of (shape_in table) (names_in table) graph (vals.Ref o) t ≡ prefix parts.chunks =
      ap (λ n. (meet table graph n [] (vals.Ref o) t).chunks) whole
      ∙ ap (λ (m : Met). m.chunks) (met_unmarked table graph (length graph) [] o t asked refl ∙ opening_met table graph (length graph) [] o t tag outside start inside is_block started)
      ∙ ap (λ n. prefix (parts_left table graph n start (o ∷ [])).chunks) some
      ∙ ap (λ x. prefix (parts_left table graph (suc (length graph - 1)) start (x ∷ [])).chunks) (sym begun.object)
      ∙ ap prefix (parts.met_as (length graph - 1)) in
      then_text old between text opening (flat_map (chunk_text []) parts.chunks) opened parts.write
      ∙ ap (λ bs. old ++ bs) (sym (plain_shown (vals.Ref o) t (prefix parts.chunks) is parts.fresh))

  -- If `known` is true, then the text of the block was appended. If `known` is false, then some
  -- bytes were appended.
  pub block_known : (o t tag : ℕ) (outside : ℕ) (block : OpenBlock) (old between text : List ℕ) → o < length graph → IsTrue (is_asked (shape_in table t)) → object_at graph o ≡ objects.Block tag (fields_of (object_at graph o))
      → IsBegun table graph o t tag outside block → between ≡ old ++ (frame_in block.frame).opening → (known : Bool) → WritesParts table graph block between text known
      → WritesWhole (shown_text (shape_in table) (names_in table) graph (vals.Ref o) t) old text known
  block_known o t tag outside block old between text inside asked is_block begun opened true parts = block_shown o t tag outside block old between text inside asked is_block begun opened parts
  block_known o t tag outside block old between text inside asked is_block begun opened false grown = grown_more old old (frame_in block.frame).opening between text (not_grown old) opened grown
