-- The text of a whole tree is read back.
use Rattle.std.proofs.Common.{◌≡◌, ℕ, ℤ, zero, suc, ◌+◌, ◌-◌, ◌<◌, ◌≤◌, ◌^◌, Bool, true, false, cond, eqb, drop, List, [], ◌∷◌, ◌++◌, length, Some, refl, sym, ap, subst, ◌∙◌, arith, ⊎_elim}
use Rattle.std.specs.Prelude.{IsTrue, IsSome, IsSomeAnd, slice_get, unwrap_or, option_and_then, filter, not}
use Rattle.std.proofs.lemmas.Bool.{false≢true, lt-ltb, le-ltb, eq-eqb, eqb-true}
use Rattle.std.proofs.lemmas.List.{append-nil, drop_at}
use Rattle.types_spec.specs.types.Typing.{values_of}
use Rattle.std.proofs.lemmas.List.Filters.{length-filter_both}
use Rattle.base_data.specs.model.Graph.{IsInteger}
use Rattle.base_data.specs.declared.model.value.Val.{Val}
use Rattle.base_data.specs.declared.model.value.Val.TheVariants as vals
use Rattle.base_data.specs.declared.model.value.Obj.{Obj}
use Rattle.base_data.specs.declared.model.value.Obj.TheVariants as objects
use Rattle.base_data.proofs.model.Lists.{slice_get-append_right}
use Rattle.types_spec.specs.declared.types.names.Names.{Names}
use Rattle.types_spec.specs.declared.types.shape.ShapeOf.{ShapeOf}
use Rattle.types_spec.specs.declared.types.shape.ShapeOf.TheVariants as shapes
use Rattle.types_spec.specs.types.Fitting.{fields_of, or_none, none_if, fits_int, fits_atom, object_fields, numbered_from, is_asked}
use Rattle.types_spec.specs.types.Fault.{field_of, type_of_field}
use Rattle.marshal_spec.specs.format.Token.{integer, atom, shared, block, leaf, IsLeaf}
use Rattle.marshal_spec.specs.format.Tree.{Tree, Forest, node, none, more, trees_in, IsTree, AreTrees, root, roots, made, made_by, all_made, objects_of, all_objects, ReferBack, AllReferBack}
use Rattle.marshal_spec.proofs.format.Counts.{leaf_fields, length-objects_of, length-roots, made_by_leaf}
use Rattle.text_print.specs.show.TextChunks.{Text, First, Again, has, firsts, agains}
use Rattle.text_print.specs.leaves.Frames.{Frame, before_part, frame_of, int_text, tag_of_values, wildcard_text}
use Rattle.text_print.specs.show.ShownValues.{Met, met, led_by, met_within, asked_met, object_met, parts_from}
use Rattle.text_print.specs.show.NamedFields.{HasObjectNames}
use Rattle.text_roundtrip.specs.lexed.Lexed.{BeginsWithoutStar}
use Rattle.text_roundtrip.proofs.lexed.LexedLemmas.{lexed_whole}
use Rattle.text_roundtrip.proofs.lexed.LexedLineLemmas.{lexed_one_line}
use Rattle.text_roundtrip.specs.literal_texts.Blocks.{ReadsRow, IsBlockAt}
use Rattle.text_roundtrip.specs.literal_texts.Readable.{IsReadable}
use Rattle.text_roundtrip.specs.literal_texts.NumberedLabels.{count_from, down, AreIncreasing, before}
use Rattle.text_roundtrip.proofs.literal_texts.BlockAtLemmas.{block_at}
use Rattle.text_roundtrip.proofs.literal_texts.LeafReadLemmas.{int_plain, atom_plain}
use Rattle.text_roundtrip.proofs.literal_texts.ObjectReadLemmas.{object_plain}
use Rattle.text_roundtrip.specs.readback.Back.{AreShowable, text_by, AreLabels, IsPlaced, IsBack, IsMetBack, AreMetBack}
use Rattle.text_roundtrip.specs.readback.ReadBack.{IsReadBack}
use Rattle.text_roundtrip.proofs.readback.ReadbackLabelLemmas.{has_down, increasing_filter, increasing_count, has_filter, has_count, before_nothing}
use Rattle.text_roundtrip.proofs.readback.LabelReadLemmas.{again_back}
use Rattle.text_roundtrip.proofs.readback.TreeReadLemmas.{placed_left, placed_right, placed_here, placed_within, named_numbered, small_back, object_back, block_back, no_more, one_more}
use Rattle.text_literal.specs.parser.LiteralReading.{literal_read}
use Rattle.text_print.specs.show.ShownValues.{shown_text}

abbrev tail : Forest → Forest
tail none = none
tail (more s fs) = fs

-- ---- a tree whose value is an integer makes no objects

record MakesNothing (s : Tree) (c : ℕ) : Type 0 where
  none_made : made s ≡ 0
  no_objects_are : objects_of s c ≡ []

int_makes : (s : Tree) (c : ℕ) (z : ℤ) → IsTree s → root s c ≡ vals.Int z → MakesNothing s c
int_makes (node (integer y) none) c z is e = record { none_made = refl; no_objects_are = refl }
int_makes (node (integer y) (more s fs)) c z is e = absurd (let h = is.1 in omega arith)
int_makes (node (atom tag) f) c z is e = absurd cc
int_makes (node (shared offset) f) c z is e = absurd cc
int_makes (node (block tag size) f) c z is e = absurd cc
int_makes (node (leaf object) f) c z is e = absurd cc

-- The integer in field 0 of a block is an integer of a tree.
tag_integer : (f : Forest) (c : ℕ) → AreTrees f → IsInteger (tag_of_values (roots f c))
tag_integer none c are = omega arith
tag_integer (more (node (integer z) f) fs) c are = are.0.0
tag_integer (more (node (atom tag) f) fs) c are = omega arith
tag_integer (more (node (shared offset) f) fs) c are = omega arith
tag_integer (more (node (block tag size) f) fs) c are = omega arith
tag_integer (more (node (leaf object) f) fs) c are = omega arith

-- If the names of a type can be read back, then the type is not a wildcard.
pub readable_asked : {T : Type 0} (s : ShapeOf T) (names : Names) → IsReadable s names → IsTrue (is_asked s)
readable_asked shapes.Anything names readable = absurd readable
readable_asked s names readable = refl

module _ {T : Type 0} (shape : T → ShapeOf T) (names : T → Names) (graph : List Obj) (Holds : Val → T → Type 0) (showable : AreShowable shape names graph Holds) where
  abbrev meet : ℕ → List ℕ → Val → T → Met
  meet n = met_within shape names graph n

  met_asked : (n : ℕ) (seen : List ℕ) (v : Val) (t : T) → Holds v t → meet (suc n) seen v t ≡ asked_met shape names graph (meet n) seen v t
  met_asked n seen v t holds = ap (λ b. cond b (asked_met shape names graph (meet n) seen v t) (met (Text wildcard_text ∷ []) seen)) (readable_asked (shape t) (names t) (showable.readable v t holds))

  abbrev TreeClaim : Tree → Type 0
  TreeClaim s = (n c : ℕ) (t : T) → IsPlaced graph (objects_of s c) c → IsTree s → ReferBack s c → c ≤ length graph → length graph < n + c → Holds (root s c) t
      → IsMetBack shape names c (made s) (root s c) (objects_of s c) t (meet n (down c) (root s c) t)

  abbrev ForestClaim : Forest → Type 0
  ForestClaim fs = (n c f : ℕ) (ts : List T) (frame : Frame) (i o : ℕ) → IsPlaced graph (all_objects fs c) c → AreTrees fs → AllReferBack fs c → length ts ≡ trees_in fs → c ≤ length graph → length graph < n + c
      → ((j : ℕ) (w : Val) → slice_get (roots fs c) j ≡ Some w → field_of graph (vals.Ref o) (f + j) ≡ Some w)
      → ((j : ℕ) (u : T) (w : Val) → slice_get ts j ≡ Some u → slice_get (roots fs c) j ≡ Some w → Holds w u)
      → AreMetBack shape names fs c frame i ts (parts_from shape names graph (meet n) frame (vals.Ref o) i (numbered_from f ts) (down c))

  none_if_true : (test : Bool) → IsSome (none_if {T = T} test) → IsTrue test
  none_if_true true is = refl
  none_if_true false is = is

  -- ---- values without objects

  int_claim : (z : ℤ) → TreeClaim (node (integer z) none)
  int_claim z zero c t placed is back low fuel holds = absurd (omega arith)
  int_claim z (suc n) c t placed is back low fuel holds =
      subst (IsMetBack shape names c 0 (vals.Int z) [] t) (sym (met_asked n (down c) (vals.Int z) t holds))
      (small_back shape names t c (vals.Int z) (int_text (shape t) (names t) z)
      (int_plain t (names t) (shape t) z (showable.readable (vals.Int z) t holds) is.0 (none_if_true (fits_int (shape t) z) (showable.fits (vals.Int z) t holds)) (showable.named (vals.Int z) t holds)))

  atom_claim : (tag : ℕ) → TreeClaim (node (atom tag) none)
  atom_claim tag zero c t placed is back low fuel holds = absurd (omega arith)
  atom_claim tag (suc n) c t placed is back low fuel holds =
      subst (IsMetBack shape names c 0 (vals.Atom tag) [] t) (sym (met_asked n (down c) (vals.Atom tag) t holds))
      (small_back shape names t c (vals.Atom tag) _ (atom_plain t (names t) (shape t) tag (showable.readable (vals.Atom tag) t holds) (none_if_true (fits_atom (shape t) tag) (showable.fits (vals.Atom tag) t holds))))

  -- If an object was visited before, then the claim holds for a reference to the object.
  shared_claim : (offset : ℕ) → TreeClaim (node (shared offset) none)
  shared_claim offset zero c t placed is back low fuel holds = absurd (omega arith)
  shared_claim offset (suc n) c t placed is back low fuel holds =
      let o = c - offset in
      let lt : o < c = let a = back.0.0 in let b = back.0.1 in omega arith in
      let here : c ≡ c + 0 = omega arith in
      let there : has (down c) o ≡ true = has_down c o ∙ lt-ltb o c lt in
      subst (IsMetBack shape names c 0 (vals.Ref o) [] t) (sym (met_asked n (down c) (vals.Ref o) t holds ∙ ap (λ b. cond b (met (Again o ∷ []) (down c)) (object_met shape names graph (meet n) (o ∷ down c) o t (slice_get graph o))) there)) (record {
        seen = ap down here;
        firsts_are = refl;
        agains_are = λ p e. by_object p (eqb o p) refl e;
        back = λ labels are. subst (λ d. IsBack shape names labels (text_by labels (Again o ∷ [])) (vals.Ref o) [] c d t) here (again_back shape names labels c o t are.up are.few (are.all o (rw (eq-eqb o o refl) refl)) lt);
      })
    where
      by_object : (p : ℕ) (b : Bool) → eqb (c - offset) p ≡ b → has ((c - offset) ∷ []) p ≡ true → p < c + 0
      by_object p true e is = let same : c - offset ≡ p = eqb-true (c - offset) p e in let a = back.0.0 in let b = back.0.1 in omega arith
      by_object p false e is = absurd (false≢true (sym (rw e refl) ∙ is))

  -- ---- an object that is visited for the first time

  first_met : (n c : ℕ) (t : T) (object : Obj) → Holds (vals.Ref c) t → slice_get graph c ≡ Some object
      → meet (suc n) (down c) (vals.Ref c) t ≡ object_met shape names graph (meet n) (c ∷ down c) c t (Some object)
  first_met n c t object holds at =
      met_asked n (down c) (vals.Ref c) t holds
      ∙ ap (λ b. cond b (met (Again c ∷ []) (down c)) (object_met shape names graph (meet n) (c ∷ down c) c t (slice_get graph c))) (has_down c c ∙ le-ltb c c (omega arith))
      ∙ ap (object_met shape names graph (meet n) (c ∷ down c) c t) at

  -- If a reference to an object has a type, then the object fits the type.
  fits_at : (c : ℕ) (t : T) (object : Obj) → slice_get graph c ≡ Some object → Holds (vals.Ref c) t → IsSome (object_fields (shape t) object)
  fits_at c t object at holds = subst (λ o. IsSome (option_and_then (object_fields (shape t)) o)) at (showable.fits (vals.Ref c) t holds)

  named_at : (c : ℕ) (t : T) (object : Obj) → slice_get graph c ≡ Some object → Holds (vals.Ref c) t → HasObjectNames (shape t) (names t) object
  named_at c t object at holds = subst (λ o. IsSomeAnd o (HasObjectNames (shape t) (names t))) at (showable.named (vals.Ref c) t holds)

  leaf_claim : (object : Obj) → IsLeaf object → (n c : ℕ) (t : T) → slice_get graph c ≡ Some object → Holds (vals.Ref c) t
      → IsMetBack shape names c 1 (vals.Ref c) (object ∷ []) t (object_met shape names graph (meet n) (c ∷ down c) c t (Some object))
  leaf_claim (objects.Block tag values) is n c t at holds = absurd is
  leaf_claim (objects.Bytes bytes) is n c t at holds = object_back shape names t c (objects.Bytes bytes) _ (object_plain t (names t) (shape t) (objects.Bytes bytes) (showable.readable (vals.Ref c) t holds) is (fits_at c t (objects.Bytes bytes) at holds) (named_at c t (objects.Bytes bytes) at holds))
  leaf_claim (objects.Double bits) is n c t at holds = object_back shape names t c (objects.Double bits) _ (object_plain t (names t) (shape t) (objects.Double bits) (showable.readable (vals.Ref c) t holds) is (fits_at c t (objects.Double bits) at holds) (named_at c t (objects.Double bits) at holds))
  leaf_claim (objects.Doubles all) is n c t at holds = object_back shape names t c (objects.Doubles all) _ (object_plain t (names t) (shape t) (objects.Doubles all) (showable.readable (vals.Ref c) t holds) is (fits_at c t (objects.Doubles all) at holds) (named_at c t (objects.Doubles all) at holds))
  leaf_claim (objects.I32 z) is n c t at holds = object_back shape names t c (objects.I32 z) _ (object_plain t (names t) (shape t) (objects.I32 z) (showable.readable (vals.Ref c) t holds) is (fits_at c t (objects.I32 z) at holds) (named_at c t (objects.I32 z) at holds))
  leaf_claim (objects.I64 z) is n c t at holds = object_back shape names t c (objects.I64 z) _ (object_plain t (names t) (shape t) (objects.I64 z) (showable.readable (vals.Ref c) t holds) is (fits_at c t (objects.I64 z) at holds) (named_at c t (objects.I64 z) at holds))
  leaf_claim (objects.Native z) is n c t at holds = object_back shape names t c (objects.Native z) _ (object_plain t (names t) (shape t) (objects.Native z) (showable.readable (vals.Ref c) t holds) is (fits_at c t (objects.Native z) at holds) (named_at c t (objects.Native z) at holds))

  -- ---- a block

  -- If the parts of a block begin one object after the block and are read back, then the block is
  -- read back.
  block_after : (t : T) (c d tag : ℕ) (skip : List Val) (ts : List T) (frame : Frame) (fs : Forest) (m : Met) → d ≡ suc c → AreTrees fs → length ts ≡ trees_in fs
      → ReadsRow shape names t (shape t) (names t) tag skip ts frame → AreMetBack shape names fs d frame 0 ts m
      → IsMetBack shape names c (1 + all_made fs) (vals.Ref c) (objects.Block tag (skip ++ roots fs d) ∷ all_objects fs d) t (led_by (First c ∷ Text frame.opening ∷ []) m)
  block_after t c d tag skip ts frame fs m e trees many row =
      subst (λ d. AreMetBack shape names fs d frame 0 ts m → IsMetBack shape names c (1 + all_made fs) (vals.Ref c) (objects.Block tag (skip ++ roots fs d) ∷ all_objects fs d) t (led_by (First c ∷ Text frame.opening ∷ []) m)) (sym e)
      (block_back shape names t c tag skip ts frame fs m trees many row)

  module _ (tag size : ℕ) (f : Forest) (n c : ℕ) (t : T) (placed : IsPlaced graph (objects_of (node (block tag size) f) c) c) (is : IsTree (node (block tag size) f)) (back : ReferBack (node (block tag size) f) c)
      (fuel : length graph < suc n + c) (holds : Holds (vals.Ref c) t) where
    at : slice_get graph c ≡ Some (objects.Block tag (roots f (c + 1)))
    at = placed_here graph (objects.Block tag (roots f (c + 1))) (all_objects f (c + 1)) c placed

    parts_placed : IsPlaced graph (all_objects f (c + 1)) (c + 1)
    parts_placed = placed_right graph (objects.Block tag (roots f (c + 1)) ∷ []) (all_objects f (c + 1)) c 1 refl placed

    one_in : c + 1 ≤ length graph
    one_in = omega (arith, placed_within graph (objects.Block tag (roots f (c + 1)) ∷ all_objects f (c + 1)) c placed)

    many_values : length (roots f (c + 1)) ≡ size
    many_values = length-roots f (c + 1) ∙ is.1

    found : IsBlockAt shape names t (shape t) (names t) tag (roots f (c + 1))
    found =
        let some = is.0.1 in
        block_at shape names t (shape t) (names t) tag (roots f (c + 1)) (showable.readable (vals.Ref c) t holds) is.0.0 (omega (arith, many_values)) (tag_integer f (c + 1) is.2)
        (fits_at c t (objects.Block tag (roots f (c + 1))) at holds) (named_at c t (objects.Block tag (roots f (c + 1))) at holds)

    needs_are : fields_of graph (vals.Ref c) (shape t) ≡ Some (numbered_from (length found.skip) found.ts)
    needs_are = ap (option_and_then (object_fields (shape t))) at ∙ found.needs

    met_is : meet (suc n) (down c) (vals.Ref c) t
        ≡ led_by (First c ∷ Text (frame_of (shape t) (names t) tag (roots f (c + 1))).opening ∷ []) (parts_from shape names graph (meet n) (frame_of (shape t) (names t) tag (roots f (c + 1))) (vals.Ref c) 0 (numbered_from (length found.skip) found.ts) (c ∷ down c))
    met_is =
        first_met n c t (objects.Block tag (roots f (c + 1))) holds at
        ∙ ap (λ o. led_by (First c ∷ Text (frame_of (shape t) (names t) tag (roots f (c + 1))).opening ∷ []) (parts_from shape names graph (meet n) (frame_of (shape t) (names t) tag (roots f (c + 1))) (vals.Ref c) 0 (or_none o) (c ∷ down c))) needs_are

    -- The relation `Holds` holds for the parts of the block.
    part_holds : (j : ℕ) (u : T) (w : Val) → slice_get found.ts j ≡ Some u → field_of graph (vals.Ref c) (length found.skip + j) ≡ Some w → Holds w u
    part_holds j u w type field = showable.parts (vals.Ref c) t (length found.skip + j) u w holds (subst (λ o. type_of_field (or_none o) (length found.skip + j) ≡ Some u) (sym needs_are) (named_numbered found.ts (length found.skip) j u type)) field

    field_is : (i : ℕ) → field_of graph (vals.Ref c) i ≡ slice_get (roots f (c + 1)) i
    field_is i = ap (option_and_then (λ object. slice_get (values_of object) i)) at

    -- If the roots of a forest are the values of the block after the skipped values, then the block
    -- is read back.
    parts_claim : (fs : Forest) (d : ℕ) → d ≡ c + 1 → ForestClaim fs → roots f (c + 1) ≡ found.skip ++ roots fs d → all_objects f (c + 1) ≡ all_objects fs d → all_made f ≡ all_made fs → AreTrees fs → AllReferBack fs d
        → IsMetBack shape names c (1 + all_made f) (vals.Ref c) (objects.Block tag (roots f (c + 1)) ∷ all_objects f (c + 1)) t (meet (suc n) (down c) (vals.Ref c) t)
    parts_claim fs d e claim values_are objects_are made_are trees refers =
        let next : d ≡ suc c = omega arith in
        let shown = frame_of (shape t) (names t) tag (roots f (c + 1)) in
        let rest_is : found.rest ≡ roots fs d = sym (drop_at found.skip found.rest (length found.skip) refl) ∙ ap (drop (length found.skip)) (sym found.values_are ∙ values_are) ∙ drop_at found.skip (roots fs d) (length found.skip) refl in
        let many : length found.ts ≡ trees_in fs = found.many ∙ ap length rest_is ∙ length-roots fs d in
        let position : IsPlaced graph (all_objects fs d) d = subst (λ d. IsPlaced graph (all_objects fs d) d) refl (subst (λ k. IsPlaced graph (all_objects fs d) k) (sym e) (subst (λ os. IsPlaced graph os (c + 1)) objects_are parts_placed)) in
        let field : (j : ℕ) (w : Val) → slice_get (roots fs d) j ≡ Some w → field_of graph (vals.Ref c) (length found.skip + j) ≡ Some w =
        λ j w h. field_is (length found.skip + j) ∙ ap (λ vs. slice_get vs (length found.skip + j)) values_are ∙ slice_get-append_right found.skip (roots fs d) j ∙ h in
        let parts = claim n d (length found.skip) found.ts shown 0 c position trees refers many (omega (arith, one_in)) (omega arith) field (λ j u w type h. part_holds j u w type (field j w h)) in
        let parts' : AreMetBack shape names fs d shown 0 found.ts (parts_from shape names graph (meet n) shown (vals.Ref c) 0 (numbered_from (length found.skip) found.ts) (c ∷ down c)) =
        subst (λ seen. AreMetBack shape names fs d shown 0 found.ts (parts_from shape names graph (meet n) shown (vals.Ref c) 0 (numbered_from (length found.skip) found.ts) seen)) (ap down next) parts in
        let m = led_by (First c ∷ Text shown.opening ∷ []) (parts_from shape names graph (meet n) shown (vals.Ref c) 0 (numbered_from (length found.skip) found.ts) (c ∷ down c)) in
        let whole = block_after t c d tag found.skip found.ts shown fs _ next trees many found.row parts' in
        subst (IsMetBack shape names c (1 + all_made f) (vals.Ref c) (objects.Block tag (roots f (c + 1)) ∷ all_objects f (c + 1)) t) (sym met_is)
        (subst (λ k. IsMetBack shape names c (1 + k) (vals.Ref c) (objects.Block tag (roots f (c + 1)) ∷ all_objects f (c + 1)) t m) (sym made_are)
        (subst (λ vs. IsMetBack shape names c (1 + all_made fs) (vals.Ref c) (objects.Block tag vs ∷ all_objects f (c + 1)) t m) (sym values_are)
        (subst (λ os. IsMetBack shape names c (1 + all_made fs) (vals.Ref c) (objects.Block tag (found.skip ++ roots fs d) ∷ os) t m) (sym objects_are) whole)))

    block_claim : ForestClaim f → ForestClaim (tail f) → IsMetBack shape names c (1 + all_made f) (vals.Ref c) (objects.Block tag (roots f (c + 1)) ∷ all_objects f (c + 1)) t (meet (suc n) (down c) (vals.Ref c) t)
    block_claim claim others = ⊎_elim
        (λ none. parts_claim f (c + 1) refl claim (ap (λ skip. skip ++ roots f (c + 1)) (sym none)) refl refl is.2 back.1)
        (λ skipped. by_forest f refl skipped.0 (found.values_are ∙ ap (λ skip. skip ++ found.rest) skipped.1) skipped.1 others)
        found.skips
      where
        by_forest : (g : Forest) → f ≡ g → (z : ℤ) → roots f (c + 1) ≡ vals.Int z ∷ found.rest → found.skip ≡ vals.Int z ∷ [] → ForestClaim (tail f)
            → IsMetBack shape names c (1 + all_made f) (vals.Ref c) (objects.Block tag (roots f (c + 1)) ∷ all_objects f (c + 1)) t (meet (suc n) (down c) (vals.Ref c) t)
        by_forest none same z values_are skip_is others = let e : [] ≡ vals.Int z ∷ found.rest = ap (λ g. roots g (c + 1)) (sym same) ∙ values_are in absurd cc
        by_forest (more s fs) same z values_are skip_is others =
            let trees : AreTrees (more s fs) = subst AreTrees same is.2 in
            let refers : AllReferBack (more s fs) (c + 1) = subst (λ g. AllReferBack g (c + 1)) same back.1 in
            let listed : root s (c + 1) ∷ roots fs (c + 1 + made s) ≡ vals.Int z ∷ found.rest = ap (λ g. roots g (c + 1)) (sym same) ∙ values_are in
            let first : root s (c + 1) ≡ vals.Int z = cc in
            let nothing = int_makes s (c + 1) z trees.0 first in
            parts_claim fs (c + 1 + made s) (ap (λ n. c + 1 + n) nothing.none_made ∙ omega arith) (subst (λ g. ForestClaim (tail g)) same others)
            (ap (λ g. roots g (c + 1)) same ∙ ap (λ v. v ∷ roots fs (c + 1 + made s)) first ∙ ap (λ skip. skip ++ roots fs (c + 1 + made s)) (sym skip_is))
            (ap (λ g. all_objects g (c + 1)) same ∙ ap (λ os. os ++ all_objects fs (c + 1 + made s)) nothing.no_objects_are)
            (ap all_made same ∙ ap (λ n. n + all_made fs) nothing.none_made ∙ omega arith)
            trees.1 refers.1

  -- ---- all trees

  mutual
    tree_back : (s : Tree) → TreeClaim s
    tree_back (node (integer z) none) n c t placed is back low fuel holds = int_claim z n c t placed is back low fuel holds
    tree_back (node (integer z) (more s fs)) n c t placed is back low fuel holds = absurd (let h = is.1 in omega arith)
    tree_back (node (atom tag) none) n c t placed is back low fuel holds = atom_claim tag n c t placed is back low fuel holds
    tree_back (node (atom tag) (more s fs)) n c t placed is back low fuel holds = absurd (let h = is.1 in omega arith)
    tree_back (node (shared offset) none) n c t placed is back low fuel holds = shared_claim offset n c t placed is back low fuel holds
    tree_back (node (shared offset) (more s fs)) n c t placed is back low fuel holds = absurd (let h = is.1 in omega arith)
    tree_back (node (block tag size) f) zero c t placed is back low fuel holds = absurd (omega arith)
    tree_back (node (block tag size) f) (suc n) c t placed is back low fuel holds = block_claim tag size f n c t placed is back fuel holds (forest_back f) (tail_back f)
    tree_back (node (leaf object) f) zero c t placed is back low fuel holds = absurd (omega arith)
    tree_back (node (leaf object) (more s fs)) (suc n) c t placed is back low fuel holds = absurd (let h = is.1 in let l = leaf_fields object in omega arith)
    tree_back (node (leaf object) none) (suc n) c t placed is back low fuel holds =
        let one : made_by (leaf object) ≡ 1 = made_by_leaf object is.0 in
        let at = placed_here graph object [] c placed in
        let holds' : Holds (vals.Ref c) t = holds in
        let first = leaf_claim object is.0 n c t at holds' in
        subst (λ k. IsMetBack shape names c k (vals.Ref c) (object ∷ []) t (meet (suc n) (down c) (vals.Ref c) t)) (sym (ap (λ n. n + 0) one))
        (subst (IsMetBack shape names c 1 (vals.Ref c) (object ∷ []) t) (sym (first_met n c t object holds' at)) first)

    forest_back : (fs : Forest) → ForestClaim fs
    forest_back none n c f [] frame i o placed trees back many low fuel field holds = no_more shape names c frame i
    forest_back none n c f (t ∷ ts) frame i o placed trees back many low fuel field holds = absurd (omega arith)
    forest_back (more s fs) n c f [] frame i o placed trees back many low fuel field holds = absurd (omega arith)
    forest_back (more s fs) n c f (t ∷ ts) frame i o placed trees back many low fuel field holds =
        let long = length-objects_of s c trees.0 in
        let left = placed_left graph (objects_of s c) (all_objects fs (c + made s)) c placed in
        let right = placed_right graph (objects_of s c) (all_objects fs (c + made s)) c (made s) long placed in
        let value : unwrap_or (field_of graph (vals.Ref o) f) (vals.Ref o) ≡ root s c =
        ap (λ i. unwrap_or (field_of graph (vals.Ref o) i) (vals.Ref o)) (omega arith) ∙ ap (λ v. unwrap_or v (vals.Ref o)) (field 0 (root s c) refl) in
        let one = tree_back s n c t left trees.0 back.0 low fuel (holds 0 t (root s c) refl refl) in
        let others = forest_back fs n (c + made s) (suc f) ts frame (suc i) o right trees.1 back.1 (omega arith) (omega (arith, placed_within graph (objects_of s c) c left, long)) (omega arith)
        (λ j w h. ap (field_of graph (vals.Ref o)) (omega arith) ∙ field (suc j) w h)
        (λ j u w type h. holds (suc j) u w type h) in
        let m = meet n (down c) (root s c) t in
        let rest = λ (seen : List ℕ). parts_from shape names graph (meet n) frame (vals.Ref o) (suc i) (numbered_from (suc f) ts) seen in
        let both = one_more shape names s fs c frame i t ts m (rest m.seen) one (subst (λ seen. AreMetBack shape names fs (c + made s) frame (suc i) ts (rest seen)) (sym one.seen) others) in
        subst (λ w. AreMetBack shape names (more s fs) c frame i (t ∷ ts) (led_by (Text (before_part frame i) ∷ (meet n (down c) w t).chunks) (rest (meet n (down c) w t).seen))) (sym value) both

    tail_back : (f : Forest) → ForestClaim (tail f)
    tail_back none n c f [] frame i o placed trees back many low fuel field holds = no_more shape names c frame i
    tail_back none n c f (t ∷ ts) frame i o placed trees back many low fuel field holds = absurd (omega arith)
    tail_back (more s fs) n c f ts frame i o placed trees back many low fuel field holds = forest_back fs n c f ts frame i o placed trees back many low fuel field holds

-- ---- the whole text

begins_some : {text : List ℕ} → BeginsWithoutStar text → 0 < length text
begins_some b = omega (arith, ap length b.is)

count_few : (p : ℕ → Bool) (xs : List ℕ) → length (filter p xs) ≤ length xs
count_few p xs = omega (arith, length-filter_both p (λ x. not (p x)) (λ x. refl) xs)

length_count : (n c : ℕ) → length (count_from c n) ≡ n
length_count zero c = refl
length_count (suc n) c = omega (arith, length_count n (suc c))

module _ {T : Type 0} (shape : T → ShapeOf T) (names : T → Names) (tree : Tree) (t : T) (Holds : Val → T → Type 0) where
  pub shown_back : AreShowable shape names (objects_of tree 0) Holds → IsTree tree → ReferBack tree 0 → made tree < 2 ^ 63 → Holds (root tree 0) t
      → IsReadBack shape names tree t (shown_text shape names (objects_of tree 0) (root tree 0) t)
  unfolding shown_text
  shown_back showable is back few holds =
      let graph = objects_of tree 0 in
      let many : length graph ≡ made tree = length-objects_of tree 0 is in
      let placed : IsPlaced graph graph 0 = record { prefix = []; rest = []; is = sym (append-nil graph); at = refl } in
      let m = tree_back shape names graph Holds showable tree (length graph + 1) 0 t placed is back (omega arith) (omega arith) holds in
      let chunks = (met_within shape names graph (length graph + 1) [] (root tree 0) t).chunks in
      let count : firsts chunks ≡ count_from 0 (made tree) = m.firsts_are in
      let labels = filter (has (agains chunks)) (firsts chunks) in
      let up : AreIncreasing 0 labels = increasing_filter (has (agains chunks)) (firsts chunks) 0 (subst (AreIncreasing 0) (sym count) (increasing_count (made tree) 0 0 (omega arith))) in
      let short : length labels < 2 ^ 63 = omega (arith, count_few (has (agains chunks)) (firsts chunks), ap length count, length_count (made tree) 0) in
      let are : AreLabels labels chunks = record {
        up = up;
        few = short;
        all = λ o e. has_filter (has (agains chunks)) (firsts chunks) o (ap (λ l. has l o) count ∙ has_count (made tree) 0 o (omega arith) (m.agains_are o e)) e;
      } in
      let b = m.back labels are in
      let nothing : before 0 labels ≡ [] = before_nothing labels up in
      let lexed = lexed_whole b.is_text.lexed tt in
      record {
        one_line = lexed_one_line b.is_text.lexed;
        some = begins_some b.is_text.begins;
        lexemes = lexed.0;
        lexes = lexed.1;
        literal = b.literal;
        encoded = sym lexed.2;
        labels = before (0 + made tree) labels;
        reads = λ k. ap (λ ls. literal_read shape names k b.literal 0 ls t) (sym nothing) ∙ b.reads k;
      }
