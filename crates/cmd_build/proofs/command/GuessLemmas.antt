-- If a value has the type and the value's text is the line, then the line denotes the value.
use Rattle.std.proofs.Common.{◌≡◌, ℕ, ◌+◌, ◌<◌, ◌≤◌, ◌^◌, List, [], length, map, Option, Result, Ok, Err, inl, inr, refl, sym, ap, ◌∙◌, subst, arith}
use Rattle.std.specs.Prelude.{◌≢◌, Bool, false, IfOk, IsErrAnd}
use Rattle.base_data.specs.declared.model.out_of_memory.Memory.{Memory}
use Rattle.std.proofs.lemmas.Slice.Zip.{AllZip-long}
use Rattle.base_data.specs.model.Graph.{IsValue, IsGraph}
use Rattle.base_data.specs.declared.model.value.Val.{Val}
use Rattle.base_data.specs.declared.model.value.Obj.{Obj}
use Rattle.marshal_spec.specs.format.Canonical.{canon}
use Rattle.marshal_spec.specs.format.Isomorphism.{IsTreeOf}
use Rattle.marshal_spec.specs.format.Tree.{Tree, root, made, objects_of}
use Rattle.marshal_spec.proofs.format.Counts.{length-objects_of}
use Rattle.marshal_spec.proofs.canonical.TreeGraphs.{own_tree}
use Rattle.marshal_spec.proofs.canonical.Walk.{numbering}
use Rattle.marshal_write.proofs.write.BoundLemmas.{few_objects}
use Rattle.types_lex.specs.declared.lexeme.Lexeme.{Lexeme}
use Rattle.text_literal.specs.literal_grammar.Literal.{Literal, labelled, again, Plain, integer, character, string, double, truth, unit, constant, applied, fields, tuple, empty_array, array, literal_kinds}
use Rattle.text_literal.specs.literal_grammar.LiteralNodes.{FirstsBelow, literal_nodes, plain_nodes}
use Rattle.text_literal.proofs.literal_grammar.RangeLemmas.{firsts_in}
use Rattle.types_spec.specs.types.Equal.{declared_shapes}
use Rattle.types_spec.specs.types.Names.{names_of}
use Rattle.types_spec.specs.types.Shape.{shape}
use Rattle.types_spec.specs.types.Table.{table_shapes}
use Rattle.types_spec.specs.types.Typing.{HasType}
use Rattle.types_theory.specs.table.TableDecides.{TheRootIsFirst, TablesDecide}
use Rattle.types_table.specs.type_table.Made.{types_of, table_of}
use Rattle.text_print.specs.show.Laws.{RootsShowAgree}
use Rattle.text_print.specs.show.ShownValues.{shown_text}
use Rattle.text_print.specs.show.TableShapes.{shape_in, names_in}
use Rattle.text_print.specs.same_type.SameText.{DeclaredTextsAreKept}
use Rattle.text_print.specs.same_type.SameType.{DeclaredTypesAreKept}
use Rattle.text_roundtrip.specs.text_lines.Laws.{ReadsAgain, TextsAreReadAgain}
use Rattle.cmd_build.specs.guess.ReadableNames.{AreEncoded, EncodedAreReadable}
use Rattle.base_io.specs.StreamState.{ByteState, Change}
use Rattle.cli_errors.specs.declared.exit_line.Error.{Error}
use Rattle.cli_errors.specs.declared.exit_line.Error.TheVariants as aborts
use Rattle.run_types.specs.ValueBytes.{WritesBytes}
use Rattle.run_types.specs.Language.{TypeOver}
use Rattle.run_types.specs.RequestedTexts.{type_over, IsReady}
use Rattle.run_types.specs.declared.requested.Prepared.{Prepared}
use Rattle.run_types.proofs.RunTypesGivenLemmas.{ready_each}
use Rattle.run_types.proofs.RunTypesVerdictLemmas.{is_first, made as made_for}
use Rattle.cmd_build.specs.spec.InputTexts.{Built, made as made_of, write_bytes}
use Rattle.cmd_build.specs.command.Guessed.{IsRight}
use Rattle.cmd_build.specs.command.InputLines.{IsMade, plain_texts}
use Rattle.cmd_build.specs.command.LineSteps.{AbortsBy, WritesBy}
use Rattle.cmd_build.proofs.command.BuildAgreeLemmas.{value_agree}
use Rattle.cmd_build.proofs.command.BuildStepLemmas.{bytes_plain, never_none}

-- ---- a literal has lexemes

plain_some : (p : Plain) (l : Option ℕ) (n : ℕ) → FirstsBelow n (plain_nodes 0 l p) → 0 < n
plain_some (integer i) l n h = h.0
plain_some (character c) l n h = h.0
plain_some (string s) l n h = h.0
plain_some (double d) l n h = h.0
plain_some (truth b) l n h = h.0
plain_some unit l n h = h.0
plain_some (constant c) l n h = h.0
plain_some (applied c ps v) l n h = h.0
plain_some (fields o rs x v) l n h = h.0
plain_some (tuple ps u v) l n h = h.0
plain_some empty_array l n h = h.0
plain_some (array ps v) l n h = h.0

some_below : (v : Literal) (n : ℕ) → FirstsBelow n (literal_nodes 0 v) → 0 < n
some_below (labelled l p) n h = plain_some p l n h
some_below (again k) n h = h.0

pub lexemes_some : (v : Literal) (lexemes : List Lexeme)
    → literal_kinds v ≡ map (λ (l : Lexeme). l.kind) lexemes → lexemes ≢ []
lexemes_some v lexemes encoded none =
    let some : 0 < length (literal_kinds v) =
    some_below v (length (literal_kinds v)) (firsts_in v) in
    let empty : length (literal_kinds v) ≡ 0 =
    ap length (encoded ∙ ap (λ (all : List Lexeme). map (λ (l : Lexeme). l.kind) all) none) in
    omega (arith, some, empty)

-- ---- a tree has no more objects than the graph

few_made : (graph : List Obj) (v : Val) (tree : Tree) → IsGraph graph → IsValue (length graph) v
    → IsTreeOf graph v tree → made tree ≤ length graph
few_made graph v tree is_graph valid of =
    let n = numbering graph v tree is_graph valid of in
    let few = few_objects graph v tree n.0 n.1 in
    let long = AllZip-long _ n.0 (objects_of tree 0) n.1.objects in
    omega (arith, few, long, length-objects_of tree 0 of.is_tree)

-- ---- the line

module _ (r : Prepared) (ready : IsReady r) (line : List ℕ) (graph : List Obj) (v : Val)
    (root_first : TheRootIsFirst) (decide : TablesDecide) (agree : RootsShowAgree)
    (same_types : DeclaredTypesAreKept) (same_texts : DeclaredTextsAreKept)
    (readable : EncodedAreReadable) (again : TextsAreReadAgain)
    (encoded : AreEncoded r.table) (is_graph : IsGraph graph) (few : length graph < 2 ^ 62)
    (valid : IsValue (length graph) v)
    (typed : HasType (table_shapes (table_of r.table)) graph v 0)
    (shown : shown_text (shape_in r.table) (names_in r.table) graph v 0 ≡ line) where
  by_type : HasType (declared_shapes r.decls) graph v r.ty
  by_type =
      (decide r.decls r.ty (types_of r.table) (table_of r.table)
      (made_for r ready root_first graph v) graph v 0 r.ty
      (is_first r ready root_first graph v)).0 typed

  by_text : shown_text (shape r.decls) (names_of r.decls) graph v r.ty ≡ line
  by_text = sym ((agree r.decls r.ty r.table ready.made).whole graph v) ∙ shown

  module _ (tree : Tree) (of : IsTreeOf graph v tree) where
    tree_typed : HasType (declared_shapes r.decls) (objects_of tree 0) (root tree 0) r.ty
    tree_typed = same_types r.decls graph (objects_of tree 0) v (root tree 0) r.ty of.same by_type

    tree_text :
        shown_text (shape r.decls) (names_of r.decls) (objects_of tree 0) (root tree 0) r.ty ≡ line
    tree_text =
        sym (same_texts r.decls graph (objects_of tree 0) v (root tree 0) r.ty of.same) ∙ by_text

    tree_few : made tree < 2 ^ 63
    tree_few = omega (arith, few_made graph v tree is_graph valid of, few)

    back : ReadsAgain r.table tree line
    back = subst (ReadsAgain r.table tree) tree_text
        (again r.decls r.ty r.table ready.ok ready.sound ready.made
        (readable r.decls r.ty r.table ready.made encoded) tree of.is_tree of.refers_back tree_few
        tree_typed)

    tree_made : IsMade (type_over r) line (canon tree)
    tree_made =
        let answer = back.answer (length line) in
        record {
          graph = objects_of tree 0;
          root = root tree 0;
          is_text = record {
            lexemes = back.lexemes;
            lexes = back.lexes;
            some = lexemes_some answer.literal back.lexemes answer.encoded;
            are = value_agree (type_over r) r.table ready.made back.lexemes (length line)
                (objects_of tree 0, root tree 0) answer;
          };
          has = tree_typed;
          each = ready_each r ready (objects_of tree 0) (root tree 0) tree_typed;
          tree = tree;
          of = own_tree tree of.is_tree of.refers_back;
          are = refl;
        }

  pub is_right : IsRight (type_over r) line graph v
  is_right = record { valid = valid; made = tree_made }

pub each_ok : (r : Result Bool Memory) (P Q : Bool → Type 0) → ((b : Bool) → P b → Q b) → IfOk r P
    → IfOk r Q
each_ok (Ok b) P Q f h = f b h
each_ok (Err e) P Q f h = tt

-- ---- the output

pub aborts_so :
    (Of : Built → Type 0) (number k : ℕ) (out : Change ByteState) (error : Error)
    (result : Result ℕ Error) → IsErrAnd result (λ h. h ≡ error)
    → AbortsBy Of number k out error → WritesBy Of number k out result
aborts_so Of number k out error (Ok texts) is h = absurd is
aborts_so Of number k out error (Err e) is h =
    subst (AbortsBy Of number k out) (sym is) h

module _ (t : TypeOver) (known : ℕ → ℕ → List ℕ) (line : List ℕ) (number k : ℕ)
    (graph : List Obj) (v : Val) (right : IsRight t line graph v) (out : Change ByteState) where
  made_by : (bytes : List ℕ) (tree : Tree) → IsTreeOf graph v tree → bytes ≡ canon tree
      → IsMade t line bytes
  made_by bytes tree of are = subst (IsMade t line) (sym are) (right.made tree of)

  pub right_aborts : (error : Error) → WritesBytes {U = Unit {0}} false k graph v out (Err error)
      → AbortsBy (plain_texts t known line) number k out error
  right_aborts (aborts.Exit exit) (inl memory, write) = (inl memory, write)
  right_aborts (aborts.Exit exit) (inr (why, none, known), write) =
      absurd (never_none graph v why none)
  right_aborts aborts.WriteFault (bytes, are, part) =
      let b = bytes_plain graph v bytes are in
      (made_of bytes, made_by bytes b.0 b.1 b.2, write_bytes bytes, refl, part)

  pub right_counts : WritesBytes {U = Unit {0}} false k graph v out (Ok tt)
      → WritesBy (plain_texts t known line) number k out (Ok (k + 1))
  right_counts (bytes, are, write) =
      let b = bytes_plain graph v bytes are in
      (made_of bytes, made_by bytes b.0 b.1 b.2, write_bytes bytes, refl, write, refl)
