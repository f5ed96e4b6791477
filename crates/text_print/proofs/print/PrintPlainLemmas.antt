-- The text appended as long as no object occurs again, chunk by chunk.
use Rattle.std.proofs.Common.{ℕ, ◌≡◌, ◌<◌, ◌∙◌, false, List, [], ◌∷◌, ◌++◌, length, replicate, refl, sym, ap, arith, append_assoc, append-nil, Some}
use Rattle.std.specs.Prelude.{filter, IfSome, ◌||◌, slice_index_or, Bool}
use Rattle.std.specs.List.{flat_map}
use Rattle.std.proofs.lemmas.Grind.{flat_map-append}
use Rattle.std.proofs.lemmas.List.{length-append, length-replicate}
use Rattle.base_data.specs.declared.model.value.Val.{Val}
use Rattle.base_data.specs.declared.model.value.Obj.{Obj}
use Rattle.base_data.specs.model.Graph.{IsValue}
use Rattle.types_table.specs.declared.type_table.tabled.Tabled.{Tabled}
use Rattle.types_table.specs.type_table.Made.{table_of}
use Rattle.text_print.specs.show.TextChunks.{TextChunk, firsts, agains, has, labelled, chunk_text, text_of}
use Rattle.text_print.specs.show.ShownValues.{chunks_of}
use Rattle.text_print.specs.show.TableShapes.{shape_in, names_in}
use Rattle.text_print.proofs.show.ShowChunkLemmas.{agains-append, firsts-append}
use Rattle.text_print.specs.print.Typed.{IsTypedAt}
use Rattle.text_print.specs.declared.print.print_walk.PrintStep.{PrintStep}
use Rattle.text_print.specs.declared.print.print_walk.PrintWalk.{PrintWalk}
use Rattle.text_print.specs.print.Labels.{agains_of, AreCounted}
use Rattle.text_print.specs.print.PrintWalk.{chunks_left, left_of, step_chunks, IsWalk, Goes}
use Rattle.text_print.specs.print.TextUntilAgain.{IsWrittenOn}
use Rattle.text_print.proofs.print.PrintLeftLemmas.{start_left}
use Rattle.text_print.proofs.print.PrintLevelLemmas.{same_levels, same_nested}
use Rattle.text_print.proofs.print.PrintMarkLemmas.{no_marks}
use Rattle.text_print.proofs.print.PrintLabelLemmas.{step_agains, append_associative, some_chunk, first_left}

pub one_text : (old text bytes : List ℕ) → text ≡ old ++ bytes → text ≡ old ++ (bytes ++ [])
one_text old text bytes write = write ∙ ap (λ t. old ++ t) (sym (append-nil bytes))

-- If two texts are appended one after the other, then their concatenation is appended.
pub then_text : (old text all prefix back : List ℕ) → text ≡ old ++ prefix → all ≡ text ++ back → all ≡ old ++ (prefix ++ back)
then_text old text all prefix back write more = more ∙ ap (λ t. t ++ back) write ∙ append_assoc old prefix back

none_has : (xs : List ℕ) → filter (has []) xs ≡ []
none_has [] = refl
none_has (x ∷ xs) = none_has xs

-- If no object occurs again, then no object has a label.
pub no_labels : (chunks : List TextChunk) → agains chunks ≡ [] → labelled chunks ≡ []
no_labels chunks none = ap (λ all. filter (has all) (firsts chunks)) none ∙ none_has (firsts chunks)

module _ (table : Tabled) (graph : List Obj) where
  pub write_goes : (left : List TextChunk) (met_before old text : List ℕ) (step : PrintStep) (new : PrintWalk) → Goes table graph left met_before step new → agains_of step ≡ [] → text ≡ old ++ flat_map (chunk_text []) (step_chunks table graph step)
      → IsWrittenOn table graph left met_before old text new
  write_goes left met_before old text step new goes fresh write = record {
    now = step_chunks table graph step;
    chunks = goes.chunks;
    order = goes.order;
    fresh = step_agains table graph step ∙ fresh;
    write = write;
    walk = goes.walk;
  }

  pub write_then : (left : List TextChunk) (met_before old text all : List ℕ) (between new : PrintWalk) → IsWrittenOn table graph left met_before old text between
      → IsWrittenOn table graph (chunks_left table graph between) between.order text all new → IsWrittenOn table graph left met_before old all new
  write_then left met_before old text all between new first then = record {
    now = first.now ++ then.now;
    chunks = first.chunks ∙ ap (λ ps. first.now ++ ps) then.chunks ∙ sym (append_associative first.now then.now (chunks_left table graph new));
    order = then.order ∙ ap (λ os. os ++ firsts then.now) first.order ∙ append_associative met_before (firsts first.now) (firsts then.now) ∙ ap (λ os. met_before ++ os) (sym (firsts-append first.now then.now));
    fresh = agains-append first.now then.now ∙ ap (λ os. os ++ agains then.now) first.fresh ∙ then.fresh;
    write = then_text old text all (flat_map (chunk_text []) first.now) (flat_map (chunk_text []) then.now) first.write then.write
        ∙ ap (λ t. old ++ t) (sym (flat_map-append (chunk_text []) first.now then.now));
    walk = then.walk;
  }

  -- If nothing was appended, then no chunk of the traversal was written.
  pub write_none : (walk : PrintWalk) (text : List ℕ) → IsWalk table graph walk → IsWrittenOn table graph (chunks_left table graph walk) walk.order text text walk
  write_none walk text is = record {
    now = [];
    chunks = refl;
    order = sym (append-nil walk.order);
    fresh = refl;
    write = sym (append-nil text);
    walk = is;
  }

  -- Two states of a traversal are equal except for the next value.
  pub record IsSame (walk new : PrintWalk) : Type 0 where
    pub blocks : new.stack.items ≡ walk.stack.items
    pub ends : new.ends.items ≡ walk.ends.items
    pub marks : new.marks.items ≡ walk.marks.items
    pub order : new.order ≡ walk.order

  pub same_walk : (walk new : PrintWalk) → IsWalk table graph walk → IsSame walk new → IfSome new.value (λ next. IsValue (length graph) next.0 × IsTypedAt (table_of table) graph next.0 next.1) → IsWalk table graph new
  same_walk walk new is same value = record {
    is_graph = is.is_graph;
    value = value;
    blocks = rw same.blocks is.blocks;
    nested = same_nested walk new same.blocks same.ends is.nested;
    many = ap length same.marks ∙ is.many;
    marked = rw (same.marks, same.order) is.marked;
    counted = rw (same.marks, same.order) is.counted;
    inside = rw same.order is.inside;
    depth = rw (same_levels walk new same.blocks same.ends, same.order) is.depth;
  }

  -- If a step and further steps are written, then fewer chunks remain.
  pub fewer_written : (left : List TextChunk) (met_before order text all : List ℕ) (step : PrintStep) (between new : PrintWalk) → Goes table graph left met_before step between
      → IsWrittenOn table graph (chunks_left table graph between) order text all new → length (chunks_left table graph new) < length left
  fewer_written left met_before order text all step between new goes then =
      omega (
        arith,
        ap length goes.chunks,
        length-append (step_chunks table graph step) (chunks_left table graph between),
        some_chunk table graph step,
        ap length then.chunks,
        length-append then.now (chunks_left table graph new),
      )

  -- The visited chunks and the remaining chunks are all chunks, and no object occurred again.
  pub counted_written : (walk new : PrintWalk) (v : Val) (t : ℕ) (again : List Bool) (old text : List ℕ) → walk.value ≡ Some (v, t) → walk.stack.items ≡ [] → walk.ends.items ≡ [] → walk.order ≡ [] → again ≡ replicate (length graph) false
      → IsWrittenOn table graph (chunks_left table graph walk) walk.order old text new → AreCounted table graph (left_of table graph [] (Some (v, t)) []) new again
  counted_written walk new v t again old text value blocks ends order marks write =
      let left = first_left table graph walk v t value blocks ends order in
      let all = left_of table graph [] (Some (v, t)) [] in
      let later = chunks_left table graph new in
      let split : all ≡ write.now ++ later = sym left ∙ write.chunks in record {
        is_walk = write.walk;
        many = ap length marks ∙ length-replicate (length graph) false;
        met_again = λ x.
            ap (λ ps. has (agains ps) x) split ∙ ap (λ os. has os x) (agains-append write.now later ∙ ap (λ os. os ++ agains later) write.fresh)
            ∙ ap (λ b. b || has (agains later) x) (sym (ap (λ ms. slice_index_or ms x false) marks ∙ no_marks (length graph) x));
        met_first =
            ap firsts split ∙ firsts-append write.now later ∙ ap (λ os. os ++ firsts later) (sym (write.order ∙ ap (λ os. os ++ firsts write.now) order));
      }

  -- ---- comparison

  -- The given text begins with the bytes printed up to now.
  pub record IsKnown (v : Val) (t : ℕ) (text rest : List ℕ) (walk : PrintWalk) : Type 0 where
    pub prefix : List ℕ
    pub split : text ≡ prefix ++ rest
    pub write : IsWrittenOn table graph (left_of table graph [] (Some (v, t)) []) [] [] prefix walk

  pub known_start : (walk : PrintWalk) (v : Val) (t : ℕ) (text : List ℕ) → IsWalk table graph walk → walk.value ≡ Some (v, t) → walk.stack.items ≡ [] → walk.ends.items ≡ [] → walk.order ≡ [] → IsKnown v t text text walk
  known_start walk v t text is value blocks ends order = record {
    prefix = [];
    split = refl;
    write = record {
      now = [];
      chunks = sym (first_left table graph walk v t value blocks ends order);
      order = order;
      fresh = refl;
      write = refl;
      walk = is;
    };
  }

  pub known_more : (walk new : PrintWalk) (v : Val) (t : ℕ) (text rest more old few : List ℕ) → IsKnown v t text rest walk → old ≡ [] → IsWrittenOn table graph (chunks_left table graph walk) walk.order old few new
      → rest ≡ few ++ more → IsKnown v t text more new
  known_more walk new v t text rest more old few known none write follows =
      let whole : few ≡ flat_map (chunk_text []) write.now = write.write ∙ ap (λ (bs : List ℕ). bs ++ flat_map (chunk_text []) write.now) none in
      let next : IsWrittenOn table graph (chunks_left table graph walk) walk.order known.prefix (known.prefix ++ few) new =
      record { now = write.now; chunks = write.chunks; order = write.order; fresh = write.fresh; write = ap (λ (bs : List ℕ). known.prefix ++ bs) whole; walk = write.walk } in record {
        prefix = known.prefix ++ few;
        split = known.split ∙ ap (λ (bs : List ℕ). known.prefix ++ bs) follows ∙ sym (append_assoc known.prefix few more);
        write = write_then (left_of table graph [] (Some (v, t)) []) [] [] known.prefix (known.prefix ++ few) walk new known.write next;
      }

  pub known_whole : (walk : PrintWalk) (v : Val) (t : ℕ) (text rest : List ℕ) → IsKnown v t text rest walk → chunks_left table graph walk ≡ [] → rest ≡ [] → text_of (chunks_of (shape_in table) (names_in table) graph v t) ≡ text
  known_whole walk v t text rest known none nothing =
      let chunks = chunks_of (shape_in table) (names_in table) graph v t in
      let now = known.write.now in
      let whole : chunks ≡ now = sym (start_left table graph v t) ∙ known.write.chunks ∙ ap (λ (ps : List TextChunk). now ++ ps) none ∙ append-nil now in
      ap (λ (os : List ℕ). flat_map (chunk_text os) chunks) (no_labels chunks (ap agains whole ∙ known.write.fresh))
      ∙ ap (flat_map (chunk_text [])) whole
      ∙ sym known.write.write
      ∙ sym (append-nil known.prefix)
      ∙ ap (λ (bs : List ℕ). known.prefix ++ bs) (sym nothing)
      ∙ sym known.split

  -- If no chunks remain, then the whole text was appended.
  pub whole_written : (walk new : PrintWalk) (old text : List ℕ) (all chunks : List TextChunk) → all ≡ chunks → chunks_left table graph walk ≡ all → chunks_left table graph new ≡ []
      → IsWrittenOn table graph (chunks_left table graph walk) walk.order old text new → text ≡ old ++ text_of chunks
  whole_written walk new old text all chunks are start none write =
      let whole : chunks ≡ write.now = sym are ∙ sym start ∙ write.chunks ∙ ap (λ ps. write.now ++ ps) none ∙ append-nil write.now in
      write.write ∙ ap (λ ps. old ++ flat_map (chunk_text []) ps) (sym whole)
      ∙ ap (λ os. old ++ flat_map (chunk_text os) chunks) (sym (no_labels chunks (ap agains whole ∙ write.fresh)))
