-- The concatenation of two lists of trees.
use Rattle.std.proofs.Common.{ℕ, ◌≡◌, ◌+◌, ◌∙◌, ◌∷◌, ◌++◌, refl, sym, ap, arith, append_assoc, add-zero}
use Rattle.marshal_spec.specs.format.Tree.{Forest, none, more, tokens, forest_tokens, AreTrees, made, all_made, AllReferBack, root, roots, objects_of, all_objects}

abbrev pub join : Forest → Forest → Forest
join none g = g
join (more t f) g = more t (join f g)

pub tokens-join : (f g : Forest) → forest_tokens (join f g) ≡ forest_tokens f ++ forest_tokens g
tokens-join none g = refl
tokens-join (more t f) g = ap (λ ts. tokens t ++ ts) (tokens-join f g) ∙ sym (append_assoc (tokens t) (forest_tokens f) (forest_tokens g))

pub AreTrees-join : (f g : Forest) → AreTrees f → AreTrees g → AreTrees (join f g)
AreTrees-join none g h k = k
AreTrees-join (more t f) g h k = (h.0, AreTrees-join f g h.1 k)

pub back-join : (f g : Forest) (c : ℕ) → AllReferBack f c → AllReferBack g (c + all_made f) → AllReferBack (join f g) c
back-join none g c h k = rw add-zero at k
back-join (more t f) g c h k =
    let position : c + (made t + all_made f) ≡ c + made t + all_made f = omega arith in
    (h.0, back-join f g (c + made t) h.1 (rw position at k))

pub roots-join : (f g : Forest) (c : ℕ) → roots (join f g) c ≡ roots f c ++ roots g (c + all_made f)
roots-join none g c = ap (roots g) (sym (add-zero c))
roots-join (more t f) g c =
    let position : c + (made t + all_made f) ≡ c + made t + all_made f = omega arith in
    rw position (ap (λ vs. root t c ∷ vs) (roots-join f g (c + made t)))

pub objects-join : (f g : Forest) (c : ℕ) → all_objects (join f g) c ≡ all_objects f c ++ all_objects g (c + all_made f)
objects-join none g c = ap (all_objects g) (sym (add-zero c))
objects-join (more t f) g c =
    let position : c + (made t + all_made f) ≡ c + made t + all_made f = omega arith in
    rw position
    (ap (λ os. objects_of t c ++ os) (objects-join f g (c + made t))
    ∙ sym (append_assoc (objects_of t c) (all_objects f (c + made t)) (all_objects g (c + made t + all_made f))))
