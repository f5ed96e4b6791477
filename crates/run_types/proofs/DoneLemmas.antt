-- The edits of the earlier values: after one more value, and for values that no line edits.
use Rattle.std.proofs.Common.{◌≡◌, ◌+◌, List, [], ◌∷◌, ◌++◌, length, map, Ok, refl, ap, subst, append_assoc, append-nil, length-append, arith}
use Rattle.types_spec.specs.types.Equal.{Equal}
use Rattle.types_spec.specs.types.Names.{names_of}
use Rattle.types_spec.specs.types.Shape.{shape}
use Rattle.marshal_spec.specs.format.Tree.{Tree, root, objects_of}
use Rattle.text_path.specs.declared.edits.ScriptLine.{ScriptLine}
use Rattle.edit_values.specs.EditedLines.{AreEdited}
use Rattle.edit_values.specs.Grafts.{Other}
use Rattle.run_types.specs.Language.{TypeOver, lines_of_value, AreDone}

module _ (t : TypeOver) (script : List ScriptLine) where
  -- `made` is the result of the next value's lines on the tree.
  abbrev pub MakeOf : List Other → Tree → Other → Type 0
  MakeOf others tree made =
      AreEdited (shape t.decls) (names_of t.decls) (Equal t.decls) t.type others (lines_of_value (length others) script) (objects_of tree 0) (root tree 0) (Ok made)

  -- `others` has as many elements as `done` and `trees` together.
  pub done_length : (done : List Other) (trees : List Tree) (others : List Other) → AreDone t script done trees others
      → length others ≡ length done + length trees
  done_length done [] others is = let same = ap (λ (os : List Other). length os) is in omega (arith, same)
  done_length done (tree ∷ trees) others (made, is, more) =
      let size = length-append done (made ∷ []) in
      let rest = done_length (done ++ made ∷ []) trees others more in omega (arith, size, rest)

  -- Suppose `others` are the edits of `trees`, and `made` is the edit of one more tree. Then
  -- `others` with `made` are the edits of all trees.
  pub done_more : (done : List Other) (trees : List Tree) (others : List Other) (tree : Tree) (made : Other)
      → AreDone t script done trees others → MakeOf others tree made → AreDone t script done (trees ++ tree ∷ []) (others ++ made ∷ [])
  done_more done [] others tree made is edited =
      (made, subst (λ (os : List Other). MakeOf os tree made) is edited, ap (λ (os : List Other). os ++ made ∷ []) is)
  done_more done (first ∷ trees) others tree made (v, is, more) edited =
      (v, is, done_more (done ++ v ∷ []) trees others tree made more edited)

-- A value as it was read, which is the result if no line edits the value.
abbrev pub as_it_came : Tree → Other
as_it_came tree = (objects_of tree 0, root tree 0)

pub plain_done : (t : TypeOver) (done : List Other) (trees : List Tree) → AreDone t [] done trees (done ++ map as_it_came trees)
plain_done t done [] = append-nil done
plain_done t done (tree ∷ trees) = (
  as_it_came tree,
  refl,
  subst (λ (os : List Other). AreDone t [] (done ++ as_it_came tree ∷ []) trees os) (append_assoc done (as_it_came tree ∷ []) (map as_it_came trees))
      (plain_done t (done ++ as_it_came tree ∷ []) trees),
)
