-- The line of a value is the line of a tree of the value.
use Rattle.std.proofs.Common.{◌≡◌, ◌∙◌, ℕ, Bool, List, [], ◌∷◌, ◌++◌, length, inl, inr, ap}
use Rattle.base_data.specs.declared.model.value.Val.{Val}
use Rattle.base_data.specs.declared.model.value.Obj.{Obj}
use Rattle.base_data.specs.model.Graph.{IsValue}
use Rattle.marshal_spec.specs.format.Isomorphism.{Isomorphism, IsTreeOf}
use Rattle.marshal_spec.specs.format.Tree.{Tree, root, objects_of}
use Rattle.marshal_spec.proofs.canonical.Walk.{has_one_tree}
use Rattle.marshal_heap.specs.heap.Heap.{IsHeap}
use Rattle.types_spec.specs.types.TypeText.{type_text}
use Rattle.text_print.specs.same_type.SameType.{DeclaredTypesAreKept, DeclaredLinesAreKept}
use Rattle.cli_spec.specs.Outcome.{the_verdict, line}
use Rattle.run_types.specs.declared.requested.Prepared.{Prepared}
use Rattle.run_types.specs.Language.{TypeOver, IsTypeLine}
use Rattle.run_types.specs.RequestedTexts.{type_over, IsReady}
use Rattle.run_types.proofs.RunTypesGivenLemmas.{ready_each, ready_some_not}
use Rattle.cmd_gen.specs.generator.ValueLine.{generated_text}
use Rattle.cmd_gen.specs.command.OutputLines.{IsGraphLine}

module _ (types : DeclaredTypesAreKept) (lines : DeclaredLinesAreKept) (r : Prepared)
    (ready : IsReady r) where
  abbrev t : TypeOver
  t = type_over r

  verdict_kept :
      (g h : List Obj) (v w : Val) (text : List ℕ) (ok : Bool) → Isomorphism g v h w
      → IsTypeLine the_verdict t g v text ok → IsTypeLine the_verdict t h w text ok
  verdict_kept g h v w text ok same (inl known) =
      let has = types t.decls g h v w t.type same known.has in
      inl (record { has = has; each = ready_each r ready h w has; known = known.known })
  verdict_kept g h v w text ok same (inr no_line) =
      let why = lines t.decls type_text g h v w t.type text same no_line.why in
      inr (record {
        why = why;
        some_not = ready_some_not r ready h w why.fault why.least.is_fault;
        is_all_ok = no_line.is_all_ok;
      })

  pub graph_line :
      (g : List Obj) (v : Val) → IsHeap g → IsValue (length g) v
      → (verdict : List ℕ) (ok : Bool) → IsTypeLine the_verdict t g v verdict ok
      → (shown text : List ℕ)
      → ((tree : Tree) → IsTreeOf g v tree → shown ≡ generated_text tree verdict)
      → text ≡ shown ++ 10 ∷ []
      → IsGraphLine t g v (record { text = text; ok = ok })
  graph_line g v heap value verdict ok is shown text each write =
      let one = has_one_tree g v heap.is_graph value in
      record {
        tree = one.tree;
        is_tree = one.is;
        verdict = verdict;
        is_verdict =
            verdict_kept g (objects_of one.tree 0) v (root one.tree 0) verdict ok one.is.same is;
        text_is = write ∙ ap (λ (s : List ℕ). line s) (each one.tree one.is);
      }
