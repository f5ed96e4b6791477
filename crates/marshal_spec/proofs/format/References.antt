-- References that lead back, token by token.
use Rattle.std.proofs.Common.{◌≡◌, ℕ, ◌+◌, ◌↔◌, List, [], ◌∷◌, ◌++◌, map, add_assoc, add-zero, sym, ap, ◌∙◌}
use Rattle.marshal_spec.specs.format.Words.{objects}
use Rattle.marshal_spec.specs.format.Token.{Token, measure_of}
use Rattle.marshal_spec.specs.format.Tree.{Tree, Forest, node, none, more, tokens, forest_tokens, made, made_by, ReferBack, AllReferBack}
use Rattle.marshal_spec.specs.format.Preorder.{EachRefersBack}
use Rattle.marshal_spec.proofs.format.Counts.{objects-tokens, objects-tokens-cons}

-- The objects of a token and of the tokens after it are the objects of all these tokens.
after_token : (c : ℕ) (x : Token) (xs : List Token) → (c + made_by x) + objects (map measure_of xs) ≡ c + objects (map measure_of (x ∷ xs))
after_token c x xs = add_assoc c (made_by x) (objects (map measure_of xs)) ∙ ap (λ n. c + n) (sym (objects-tokens-cons x xs))

pub EachRefersBack-append : (c : ℕ) (xs ys : List Token) → EachRefersBack c xs → EachRefersBack (c + objects (map measure_of xs)) ys → EachRefersBack c (xs ++ ys)
EachRefersBack-append c [] ys h k = rw add-zero at k
EachRefersBack-append c (x ∷ xs) ys h k = (h.0, EachRefersBack-append (c + made_by x) xs ys h.1 (rw (after_token c x xs) k))

pub EachRefersBack-prefix : (c : ℕ) (xs ys : List Token) → EachRefersBack c (xs ++ ys) → EachRefersBack c xs
EachRefersBack-prefix c [] ys h = tt
EachRefersBack-prefix c (x ∷ xs) ys h = (h.0, EachRefersBack-prefix (c + made_by x) xs ys h.1)

pub EachRefersBack-rest : (c : ℕ) (xs ys : List Token) → EachRefersBack c (xs ++ ys) → EachRefersBack (c + objects (map measure_of xs)) ys
EachRefersBack-rest c [] ys h = rw add-zero h
EachRefersBack-rest c (x ∷ xs) ys h = rw (← after_token c x xs) (EachRefersBack-rest (c + made_by x) xs ys h.1)

-- If the references of a tree lead back, then the references among the tree's tokens lead back.
mutual
  pub each_refers_back : (tree : Tree) (c : ℕ) → ReferBack tree c → EachRefersBack c (tokens tree)
  each_refers_back (node t f) c h = (h.0, all_refer_back f (c + made_by t) h.1)

  pub all_refer_back : (f : Forest) (c : ℕ) → AllReferBack f c → EachRefersBack c (forest_tokens f)
  all_refer_back none c h = tt
  all_refer_back (more tree f) c h =
      EachRefersBack-append c (tokens tree) (forest_tokens f) (each_refers_back tree c h.0)
      (rw (objects-tokens tree) (all_refer_back f (c + made tree) h.1))

mutual
  pub ReferBack-from_each : (tree : Tree) (c : ℕ) → EachRefersBack c (tokens tree) → ReferBack tree c
  ReferBack-from_each (node t f) c h = (h.0, AllReferBack-from_each f (c + made_by t) h.1)

  pub AllReferBack-from_each : (f : Forest) (c : ℕ) → EachRefersBack c (forest_tokens f) → AllReferBack f c
  AllReferBack-from_each none c h = tt
  AllReferBack-from_each (more tree f) c h = (
    ReferBack-from_each tree c (EachRefersBack-prefix c (tokens tree) (forest_tokens f) h),
    AllReferBack-from_each f (c + made tree) (rw (objects-tokens tree) at (EachRefersBack-rest c (tokens tree) (forest_tokens f) h)),
  )

-- The references of a tree lead back if and only if the references among the tree's tokens lead
-- back.
pub ReferBack-each : (tree : Tree) (c : ℕ) → ReferBack tree c ↔ EachRefersBack c (tokens tree)
ReferBack-each tree c = (each_refers_back tree c, ReferBack-from_each tree c)
