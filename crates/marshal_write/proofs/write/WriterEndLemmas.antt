-- At the end of a walk, all objects of the walk's value are marked.
use Rattle.std.proofs.Common.{ℕ, zero, suc, ◌≤◌, ◌≡◌, ◌∙◌, List, [], ◌∷◌, ◌++◌, length, drop, refl, ap, sym, arith}
use Rattle.std.proofs.lemmas.Option.{slice_get_within}
use Rattle.base_data.specs.declared.model.value.Obj.{Obj}
use Rattle.base_data.proofs.model.Lists.{AllZip-length}
use Rattle.marshal_spec.specs.format.Tree.{Tree, Forest, node, none, more, tokens, forest_tokens, objects_of, all_objects}
use Rattle.marshal_spec.specs.format.Isomorphism.{IsTreeOf}
use Rattle.marshal_spec.specs.canonical.Numbering.{Shows}
use Rattle.marshal_write.specs.write.Marks.{marks_of}
use Rattle.marshal_write.specs.write.ObjectNumbers.{AreNumbered}
use Rattle.marshal_write.specs.write.WriteWalk.{AreMarked, IsWalk}
use Rattle.marshal_write.specs.declared.write.write_walk.WriteWalk.{WriteWalk}

pub no_list : {X : Type 0} (x : X) (xs : List X) → x ∷ xs ≡ [] → ⊥
no_list x xs is = cc

drop_all : {X : Type 0} (n : ℕ) (xs : List X) → n ≡ length xs → drop n xs ≡ []
drop_all zero [] is = refl
drop_all zero (x ∷ xs) is = absurd (omega (arith, is))
drop_all (suc n) [] is = refl
drop_all (suc n) (x ∷ xs) is = drop_all n xs (omega (arith, is))

all_dropped : {X : Type 0} (n : ℕ) (xs : List X) → drop n xs ≡ [] → length xs ≤ n
all_dropped zero [] is = omega arith
all_dropped zero (x ∷ xs) is = absurd (no_list x xs is)
all_dropped (suc n) [] is = omega arith
all_dropped (suc n) (x ∷ xs) is = let rest = all_dropped n xs is in omega (arith, rest)

no_tokens : (f : Forest) → forest_tokens f ≡ [] → f ≡ none
no_tokens none is = refl
no_tokens (more (node t s) f) is = absurd (no_list t (forest_tokens s ++ forest_tokens f) is)

-- If the marks cover at least as many positions as there are objects, then the marks cover all
-- objects.
marked_all : (g : List Obj) (ks : List ℕ) (c : ℕ) (marks : List ℕ) → length ks ≤ c → AreMarked g ks c marks → AreMarked g ks (length ks) marks
marked_all g ks c marks past m = record {
  size = m.size;
  found = λ i k below at. m.found i k (omega (arith, below, past)) at;
  named = λ i k is. let at = (m.named i k is).1 in (slice_get_within ks i k at, at);
}

pub all_numbered : (g : List Obj) (walk : WriteWalk) (tree : Tree) → IsWalk g walk → IsTreeOf g walk.root tree → walk.given ≡ length (tokens tree)
    → AreNumbered g walk.root tree (marks_of walk.marks)
all_numbered g walk tree w is end =
    let at = w.at tree is in
    let empty : at.forest ≡ none = no_tokens at.forest (sym at.tokens_left ∙ drop_all walk.given (tokens tree) end) in
    let nothing : drop walk.count (objects_of tree 0) ≡ [] = at.left.objects ∙ ap (λ f. all_objects f walk.count) empty in
    let past = all_dropped walk.count (objects_of tree 0) nothing in
    let many = AllZip-length (Shows g at.ks) at.ks (objects_of tree 0) at.numbering.objects in
    (at.ks, at.numbering, marked_all g at.ks walk.count (marks_of walk.marks) (omega (arith, past, many)) at.marked)
