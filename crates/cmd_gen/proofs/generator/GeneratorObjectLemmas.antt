-- The effect of `add_item`, `add_text` and `add_list` on a heap.
use Rattle.std.proofs.Common.{◌≡◌, List, [], ◌∷◌, ◌++◌, ap, ap₂, ◌∙◌, append_assoc}
use Rattle.base_data.specs.declared.model.value.Obj.{Obj}

-- If two objects are appended one after the other, then the heap ends with the two objects.
pub two_more : (old middle new : List Obj) (one first two second : Obj) → middle ≡ old ++ one ∷ [] → new ≡ middle ++ two ∷ [] → one ≡ first → two ≡ second
    → new ≡ old ++ first ∷ second ∷ []
two_more old middle new one first two second made more is_one is_two =
    more ∙ ap (λ (g : List Obj). g ++ two ∷ []) made ∙ append_assoc old (one ∷ []) (two ∷ []) ∙ ap₂ (λ (a b : Obj). old ++ a ∷ b ∷ []) is_one is_two
