-- Lemmas about appending a declaration to the declarations read so far.
use Rattle.std.proofs.Common.{◌≡◌, ◌∙◌, Bool, List, [], ◌∷◌, ◌++◌, length, map, refl, sym, ap, append_assoc}
use Rattle.types_parse.specs.grammar.Grammar.{DeclTree, GroupTree}
use Rattle.types_parse.specs.grammar.File.{Before, nothing, so_far, head_of, rest_of, GroupHole, group_with}
use Rattle.types_spec.specs.declared.types.decl.Decl.{Decl}
use Rattle.types_parse.specs.parse.WrittenTrees.{declaration_of_tree, with_group, declarations_after, declarations_of}
use Rattle.types_parse.specs.parse.FileShown.{row_list, group_of}

pub row_more : {X : Type 0} (b : Before X) (x : X) → head_of b x ∷ rest_of b x ≡ row_list b
    ++ x ∷ []
row_more nothing x = refl
row_more (so_far y more) x = refl

pub map_more : {X Y : Type 0} (f : X → Y) (xs : List X) (x : X) → map f (xs ++ x ∷ []) ≡ map f xs
    ++ f x ∷ []
map_more f [] x = refl
map_more f (y ∷ xs) x = ap (λ ys. f y ∷ ys) (map_more f xs x)

-- If a function is mapped over the items read so far and one more, the image of the last item comes
-- last.
pub row_map : {X Y : Type 0} (f : X → Y) (b : Before X) (x : X) → map f (head_of b x ∷ rest_of b x)
    ≡ map f (row_list b) ++ f x ∷ []
row_map f b x = ap (map f) (row_more b x) ∙ map_more f (row_list b) x

after_more : (before : List Decl) (gs : List GroupTree) (g : GroupTree) → declarations_after before
    (gs ++ g ∷ []) ≡ with_group (declarations_after before gs) g
after_more before [] g = refl
after_more before (h ∷ gs) g = after_more (with_group before h) gs g

-- If the last group of a file ends with a declaration, then the declaration comes last in the
-- file's declarations.
pub group_ends : (g : GroupHole) (d : DeclTree) (ended : Bool) →
    declarations_of (group_with g d ended) ≡ (group_of g).decls ++ declaration_of_tree
    (group_of g).group d ∷ []
group_ends g d ended =
    after_more [] g.groups (record {
      first = head_of g.decls d;
      more = rest_of g.decls d;
      ended =
          ended;
    })
    ∙ ap (λ ds. declarations_of g.groups ++ ds)
    (row_map (declaration_of_tree (length (declarations_of g.groups))) g.decls d)
    ∙ sym (append_assoc (declarations_of g.groups)
    (map (declaration_of_tree (length (declarations_of g.groups))) (row_list g.decls)) _)
