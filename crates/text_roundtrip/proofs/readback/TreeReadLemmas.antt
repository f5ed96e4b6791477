-- The text of a tree is read back: the tree's value, its objects by index, and its labels.
use Rattle.std.proofs.Common.{◌≡◌, ℕ, zero, suc, ◌+◌, ◌<◌, ◌≤◌, true, ◌||◌, cond, List, [], ◌∷◌, ◌++◌, length, Some, None, Ok, Err, refl, sym, ap, subst, ◌∙◌, arith, ⊎_elim, append_assoc, length-append}
use Rattle.std.specs.Prelude.{slice_get}
use Rattle.std.proofs.lemmas.Bool.{eq-eqb, ne_eqb, false≢true, or_cases, or_left, or_right}
use Rattle.std.proofs.lemmas.List.{append-nil}
use Rattle.std.proofs.Math.Bool.{or_assoc}
use Rattle.std.specs.Prelude.{◌==◌}
use Rattle.std.proofs.lemmas.Grind.{flat_map-append}
use Rattle.base_data.specs.declared.model.value.Val.{Val}
use Rattle.base_data.specs.declared.model.value.Val.TheVariants as vals
use Rattle.base_data.specs.declared.model.value.Obj.{Obj}
use Rattle.base_data.specs.declared.model.value.Obj.TheVariants as objects
use Rattle.types_spec.specs.declared.types.names.Names.{Names}
use Rattle.types_spec.specs.declared.types.shape.ShapeOf.{ShapeOf}
use Rattle.types_spec.specs.types.Fault.{type_of_field}
use Rattle.types_spec.specs.types.Fitting.{numbered_from}
use Rattle.marshal_spec.specs.format.Tree.{Tree, Forest, none, more, trees_in, AreTrees, root, roots, made, all_made, objects_of, all_objects}
use Rattle.text_literal.specs.literal_grammar.Literal.{labelled, label_kinds}
use Rattle.text_literal.specs.parser.LiteralReading.{reading, label_at, begun, block_read, literal_read, inside}
use Rattle.text_print.specs.show.TextChunks.{TextChunk, Text, First, has, firsts, agains, chunk_text}
use Rattle.text_print.specs.leaves.Frames.{Frame, before_part, row_from}
use Rattle.text_print.specs.show.ShownValues.{Met, met, led_by}
use Rattle.text_print.proofs.show.ShowChunkLemmas.{firsts-append, agains-append}
use Rattle.text_literal.specs.parser.Starts.{Start, start_at, small, whole, block as block_of}
use Rattle.text_roundtrip.specs.lexed.Lexed.{BeginsWithoutStar}
use Rattle.text_roundtrip.proofs.lexed.LexedLemmas.{lexed_then, lexed_at}
use Rattle.text_roundtrip.specs.literal_texts.Blocks.{ReadsRow}
use Rattle.text_roundtrip.specs.literal_texts.Forests.{Reads}
use Rattle.text_roundtrip.specs.literal_texts.Listing.{IsText}
use Rattle.text_roundtrip.specs.literal_texts.NumberedLabels.{count_from, down, before}
use Rattle.text_roundtrip.specs.literal_texts.PlainLiterals.{IsPlain}
use Rattle.text_roundtrip.specs.readback.Back.{text_by, AreLabels, IsPlaced, IsBack, IsMetBack, AreMetBack}
use Rattle.text_roundtrip.proofs.readback.ReadbackLabelLemmas.{count_both}
use Rattle.text_roundtrip.proofs.readback.LabelReadLemmas.{IsPrefix, prefix_of}

-- ---- chunks in order

has_both : (xs ys : List ℕ) (o : ℕ) → has (xs ++ ys) o ≡ (has xs o || has ys o)
has_both [] ys o = refl
has_both (x ∷ xs) ys o = ap (λ b. (x == o) || b) (has_both xs ys o) ∙ sym (or_assoc (x == o) (has xs o) (has ys o))

module _ (ps qs : List TextChunk) (labels : List ℕ) (are : AreLabels labels (ps ++ qs)) where
  labels_left : AreLabels labels ps
  labels_left = record { up = are.up; few = are.few; all = λ o e. are.all o (ap (λ l. has l o) (agains-append ps qs) ∙ has_both (agains ps) (agains qs) o ∙ or_left _ _ e) }

  labels_right : AreLabels labels qs
  labels_right = record { up = are.up; few = are.few; all = λ o e. are.all o (ap (λ l. has l o) (agains-append ps qs) ∙ has_both (agains ps) (agains qs) o ∙ or_right _ _ e) }

-- ---- the indices of objects

pub placed_left : (graph xs ys : List Obj) (c : ℕ) → IsPlaced graph (xs ++ ys) c → IsPlaced graph xs c
placed_left graph xs ys c p = record { prefix = p.prefix; rest = ys ++ p.rest; is = p.is ∙ ap (λ t. p.prefix ++ t) (append_assoc xs ys p.rest); at = p.at }

pub placed_right : (graph xs ys : List Obj) (c n : ℕ) → length xs ≡ n → IsPlaced graph (xs ++ ys) c → IsPlaced graph ys (c + n)
placed_right graph xs ys c n long p = record {
  prefix = p.prefix ++ xs;
  rest = p.rest;
  is = p.is ∙ ap (λ t. p.prefix ++ t) (append_assoc xs ys p.rest) ∙ sym (append_assoc p.prefix xs (ys ++ p.rest));
  at = length-append p.prefix xs ∙ omega (arith, p.at, long);
}

get_after : (prefix : List Obj) (x : Obj) (xs : List Obj) → slice_get (prefix ++ x ∷ xs) (length prefix) ≡ Some x
get_after [] x xs = refl
get_after (y ∷ prefix) x xs = get_after prefix x xs

pub placed_here : (graph : List Obj) (x : Obj) (xs : List Obj) (c : ℕ) → IsPlaced graph (x ∷ xs) c → slice_get graph c ≡ Some x
placed_here graph x xs c p = ap (λ g. slice_get g c) p.is ∙ ap (slice_get (p.prefix ++ x ∷ (xs ++ p.rest))) (sym p.at) ∙ get_after p.prefix x (xs ++ p.rest)

pub placed_within : (graph xs : List Obj) (c : ℕ) → IsPlaced graph xs c → c + length xs ≤ length graph
placed_within graph xs c p = omega (arith, ap length p.is, length-append p.prefix (xs ++ p.rest), length-append xs p.rest, p.at)

-- ---- required fields

pub named_numbered : {T : Type 0} (ts : List T) (f j : ℕ) (u : T) → slice_get ts j ≡ Some u → type_of_field (numbered_from f ts) (f + j) ≡ Some u
named_numbered [] f j u e = absurd cc
named_numbered (t ∷ ts) f zero u e =
    let here : f ≡ f + zero = omega arith in
    let same : t ≡ u = cc in
    rw (eq-eqb f (f + zero) here) (ap (λ x. Some x) same)
named_numbered (t ∷ ts) f (suc j) u e =
    let on : suc f + j ≡ f + suc j = omega arith in
    rw (ne_eqb f (f + suc j) (λ e. absurd (omega arith))) (subst (λ n. type_of_field (numbered_from (suc f) ts) n ≡ Some u) on (named_numbered ts (suc f) j u e))

-- ---- visited and read back

-- The empty list of objects has no element.
pub no_objects : {A : Type 0} → (o : ℕ) → has [] o ≡ true → A
no_objects o e = absurd (false≢true e)

module _ {T : Type 0} (shape : T → ShapeOf T) (names : T → Names) where
  pub small_back : (t : T) (c : ℕ) (value : Val) (text : List ℕ) → IsPlain t (shape t) (names t) text (small value) → IsMetBack shape names c 0 value [] t (met (Text text ∷ []) (down c))
  small_back t c value text p =
      let here : c ≡ c + 0 = omega arith in
      record {
        seen = ap down here;
        firsts_are = refl;
        agains_are = λ o e. no_objects o e;
        back = λ labels are. subst (λ d. IsBack shape names labels (text ++ []) value [] c d t) here (record {
          literal = labelled None p.plain;
          is_text = record { lexed = lexed_at (sym (append-nil text)) refl p.lexed; begins = subst BeginsWithoutStar (sym (append-nil text)) p.begins };
          reads = λ k. ap (begun k _ c (before c labels) None t (inside shape names _ p.plain (suc c))) p.starts;
        });
      }

  -- If the start of a literal is known, then the literal with a label is read from the start.
  labelled_reads : (labels : List ℕ) (t : T) (c : ℕ) (prefix : IsPrefix labels c) (text : List ℕ) (start : Start T) (p : IsPlain t (shape t) (names t) text start) (k : ℕ)
      → literal_read shape names k (labelled prefix.label p.plain) c (before c labels) t
      ≡ begun k (k + length (label_kinds prefix.label)) c (before c labels) prefix.label t (inside shape names (k + length (label_kinds prefix.label)) p.plain (suc c)) start
  labelled_reads labels t c prefix text start p k =
      ap (λ b. cond b (begun k (k + length (label_kinds prefix.label)) c (before c labels) prefix.label t (inside shape names (k + length (label_kinds prefix.label)) p.plain (suc c)) (start_at t (shape t) (names t) p.plain)) (Err (label_at k))) prefix.next
      ∙ ap (begun k (k + length (label_kinds prefix.label)) c (before c labels) prefix.label t (inside shape names (k + length (label_kinds prefix.label)) p.plain (suc c))) p.starts

  labelled_text : (labels : List ℕ) (t : T) (c : ℕ) (prefix : IsPrefix labels c) (text : List ℕ) (start : Start T) (p : IsPlain t (shape t) (names t) text start)
      → IsText (chunk_text labels (First c) ++ text) (labelled prefix.label p.plain)
  labelled_text labels t c prefix text start p = record {
    lexed = lexed_then prefix.lexed p.lexed (λ after may. tt);
    begins = prefix.begins text p.begins;
  }

  pub object_back : (t : T) (c : ℕ) (object : Obj) (text : List ℕ) → IsPlain t (shape t) (names t) text (whole object) → IsMetBack shape names c 1 (vals.Ref c) (object ∷ []) t (met (First c ∷ Text text ∷ []) (c ∷ down c))
  object_back t c object text p =
      let next : suc c ≡ c + 1 = omega arith in
      record {
        seen = ap down next;
        firsts_are = refl;
        agains_are = λ o e. no_objects o e;
        back = λ labels are. subst (λ d. IsBack shape names labels (chunk_text labels (First c) ++ (text ++ [])) (vals.Ref c) (object ∷ []) c d t) next (
            let prefix = prefix_of labels c are.up are.few in
            record {
              literal = labelled prefix.label p.plain;
              is_text = subst (λ s. IsText (chunk_text labels (First c) ++ s) (labelled prefix.label p.plain)) (sym (append-nil text)) (labelled_text labels t c prefix text (whole object) p);
              reads = λ k. labelled_reads labels t c prefix text (whole object) p k ∙ ap (λ ls. Ok (reading (vals.Ref c ∷ []) (object ∷ []) ls)) prefix.labels_are;
            });
      }

  -- If the parts of a block are visited after the block and read back, then the block is read back.
  pub block_back : (t : T) (c tag : ℕ) (skip : List Val) (ts : List T) (frame : Frame) (fs : Forest) (m : Met) → AreTrees fs → length ts ≡ trees_in fs
      → ReadsRow shape names t (shape t) (names t) tag skip ts frame → AreMetBack shape names fs (suc c) frame 0 ts m
      → IsMetBack shape names c (1 + all_made fs) (vals.Ref c) (objects.Block tag (skip ++ roots fs (suc c)) ∷ all_objects fs (suc c)) t (led_by (First c ∷ Text frame.opening ∷ []) m)
  block_back t c tag skip ts frame fs m trees many row parts =
      let last : suc c + all_made fs ≡ c + (1 + all_made fs) = omega arith in
      let more_one : suc (all_made fs) ≡ 1 + all_made fs = omega arith in
      record {
        seen = parts.seen ∙ ap down last;
        firsts_are = ap (λ t. c ∷ t) parts.firsts_are ∙ ap (count_from c) more_one;
        agains_are = λ o e. subst (λ n. o < n) last (parts.agains_are o e);
        back = λ labels are. subst (λ d. IsBack shape names labels (text_by labels (First c ∷ Text frame.opening ∷ m.chunks)) (vals.Ref c) (objects.Block tag (skip ++ roots fs (suc c)) ∷ all_objects fs (suc c)) c d t) last (
            let prefix = prefix_of labels c are.up are.few in
            let inner : AreLabels labels m.chunks = record { up = are.up; few = are.few; all = are.all } in
            let b = parts.back labels inner in
            let r = row labels b.texts b.literals b.are_texts (b.many ∙ sym many) in
            let p : IsPlain t (shape t) (names t) (frame.opening ++ (row_from frame 0 b.texts ++ frame.closing)) (block_of tag skip r.types) = record { plain = r.plain; lexed = r.lexed; begins = r.begins; starts = r.starts } in
            record {
              literal = labelled prefix.label r.plain;
              is_text = subst (λ s. IsText (chunk_text labels (First c) ++ (frame.opening ++ s)) (labelled prefix.label r.plain)) (sym b.text_is) (labelled_text labels t c prefix _ (block_of tag skip r.types) p);
              reads = λ k.
                  labelled_reads labels t c prefix _ (block_of tag skip r.types) p k
                  ∙ ap (λ ls. block_read c tag skip (inside shape names (k + length (label_kinds prefix.label)) r.plain (suc c) ls r.types)) prefix.labels_are
                  ∙ ap (block_read c tag skip) (r.inside_is fs (suc c) trees (b.reads r.types 0 r.types_are) (k + length (label_kinds prefix.label)));
            });
      }

  pub no_more : (c : ℕ) (frame : Frame) (i : ℕ) → AreMetBack shape names none c frame i [] (met (Text frame.closing ∷ []) (down c))
  no_more c frame i = record {
    seen = ap down (omega arith);
    firsts_are = refl;
    agains_are = λ o e. no_objects o e;
    back = λ labels are. record { texts = []; literals = []; are_texts = tt; many = refl; text_is = append-nil frame.closing; reads = λ types j are. tt };
  }

  pub one_more : (s : Tree) (fs : Forest) (c : ℕ) (frame : Frame) (i : ℕ) (t : T) (ts : List T) (m others : Met)
      → IsMetBack shape names c (made s) (root s c) (objects_of s c) t m → AreMetBack shape names fs (c + made s) frame (suc i) ts others
      → AreMetBack shape names (more s fs) c frame i (t ∷ ts) (led_by (Text (before_part frame i) ∷ m.chunks) others)
  one_more s fs c frame i t ts m others one rest =
      let last : c + made s + all_made fs ≡ c + (made s + all_made fs) = omega arith in
      record {
        seen = rest.seen ∙ ap down last;
        firsts_are = firsts-append m.chunks others.chunks ∙ ap (λ l. l ++ firsts others.chunks) one.firsts_are ∙ ap (λ l. count_from c (made s) ++ l) rest.firsts_are ∙ sym (count_both (made s) (all_made fs) c);
        agains_are = λ o e.
            ⊎_elim (λ h. let lt = one.agains_are o h in omega arith) (λ h. let lt = rest.agains_are o h in omega arith)
            (or_cases (has (agains m.chunks) o) (has (agains others.chunks) o) (sym (has_both (agains m.chunks) (agains others.chunks) o) ∙ ap (λ l. has l o) (sym (agains-append m.chunks others.chunks)) ∙ e));
        back = λ labels are.
            let both : AreLabels labels (m.chunks ++ others.chunks) = record { up = are.up; few = are.few; all = are.all } in
            let x = one.back labels (labels_left m.chunks others.chunks labels both) in
            let y = rest.back labels (labels_right m.chunks others.chunks labels both) in
            let before_text = before_part frame i in
            let first = text_by labels m.chunks in
            let row = row_from frame (suc i) y.texts in
            record {
              texts = first ∷ y.texts;
              literals = x.literal ∷ y.literals;
              are_texts = (x.is_text, y.are_texts);
              many = ap suc y.many;
              text_is =
                  ap (λ l. before_text ++ l) (flat_map-append (chunk_text labels) m.chunks others.chunks ∙ ap (λ l. first ++ l) y.text_is)
                  ∙ sym (append_assoc before_text first (row ++ frame.closing))
                  ∙ sym (append_assoc (before_text ++ first) row frame.closing);
              reads = λ types j tys. (subst (λ u. Reads shape names labels x.literal (root s c) (objects_of s c) c (c + made s) u) (sym tys.0) x.reads, y.reads types (suc j) tys.1);
            };
      }
