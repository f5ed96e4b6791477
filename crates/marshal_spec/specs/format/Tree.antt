-- A value as a tree of tokens: a block's token has one subtree for each field (`intern.c` reads the
-- tree in preorder).
use Rattle.std.specs.Prelude.{ℕ, suc, ◌+◌, ◌-◌, ◌≤◌, ◌≡◌, List, [], ◌∷◌, ◌++◌}
use Rattle.base_data.specs.declared.model.value.Val.{Val}
use Rattle.base_data.specs.declared.model.value.Val.TheVariants as vals
use Rattle.base_data.specs.declared.model.value.Obj.{Obj}
use Rattle.base_data.specs.declared.model.value.Obj.TheVariants as objects
use Rattle.marshal_spec.specs.format.Words.{of_object, fields}
use Rattle.marshal_spec.specs.format.Token.{Token, integer, atom, shared, block, leaf, IsToken}
use Rattle.marshal_spec.specs.format.Token.{measure_of}

mutual
  pub data Tree : Type 0 where
    node : Token → Forest → Tree

  pub data Forest : Type 0 where
    none : Forest
    more : Tree → Forest → Forest

-- The number of trees in a forest. The forest of a token has as many trees as the token has fields.
abbrev pub trees_in : Forest → ℕ
trees_in none = 0
trees_in (more tree forest) = suc (trees_in forest)

abbrev mutual
  pub IsTree : Tree → Type 0
  IsTree (node token forest) =
      IsToken token × (trees_in forest ≡ of_object fields (measure_of token)) × AreTrees forest

  pub AreTrees : Forest → Type 0
  AreTrees none = Unit {0}
  AreTrees (more tree forest) = IsTree tree × AreTrees forest

-- The tokens of a tree and of a forest, in preorder.
abbrev mutual
  pub tokens : Tree → List Token
  tokens (node token forest) = token ∷ forest_tokens forest

  pub forest_tokens : Forest → List Token
  forest_tokens none = []
  forest_tokens (more tree forest) = tokens tree ++ forest_tokens forest

-- The value of a token before which `c` objects are made.
abbrev pub value_of : Token → ℕ → Val
value_of (integer z) c = vals.Int z
value_of (atom tag) c = vals.Atom tag
value_of (shared offset) c = vals.Ref (c - offset)
value_of (block tag size) c = vals.Ref c
value_of (leaf object) c = vals.Ref c

abbrev pub root : Tree → ℕ → Val
root (node token forest) c = value_of token c

-- The number of objects that a token makes: 0 or 1.
abbrev pub made_by : Token → ℕ
made_by token = of_object (λ _. 1) (measure_of token)

abbrev mutual
  pub made : Tree → ℕ
  made (node token forest) = made_by token + all_made forest

  pub all_made : Forest → ℕ
  all_made none = 0
  all_made (more tree forest) = made tree + all_made forest

-- The root values of consecutive trees, if `c` objects precede the first tree.
abbrev pub roots : Forest → ℕ → List Val
roots none c = []
roots (more tree forest) c = root tree c ∷ roots forest (c + made tree)

-- The object that a token makes from the values of its fields, as a list of at most one object.
abbrev pub object_of : Token → List Val → List Obj
object_of (integer z) values = []
object_of (atom tag) values = []
object_of (shared offset) values = []
object_of (block tag size) values = objects.Block tag values ∷ []
object_of (leaf object) values = object ∷ []

-- The objects of a tree, numbered from `c` on in the order of the tokens that make the objects. A
-- block comes before its fields.
abbrev mutual
  pub objects_of : Tree → ℕ → List Obj
  objects_of (node token forest) c =
      object_of token (roots forest (c + made_by token)) ++ all_objects forest (c + made_by token)

  pub all_objects : Forest → ℕ → List Obj
  all_objects none c = []
  all_objects (more tree forest) c = objects_of tree c ++ all_objects forest (c + made tree)

-- If the token is a reference after `c` objects, then the reference leads to one of the `c`
-- objects.
abbrev pub RefersBack : Token → ℕ → Type 0
RefersBack (integer z) c = Unit {0}
RefersBack (atom tag) c = Unit {0}
RefersBack (shared offset) c = (1 ≤ offset) × (offset ≤ c)
RefersBack (block tag size) c = Unit {0}
RefersBack (leaf object) c = Unit {0}

abbrev mutual
  pub ReferBack : Tree → ℕ → Type 0
  ReferBack (node token forest) c = RefersBack token c × AllReferBack forest (c + made_by token)

  pub AllReferBack : Forest → ℕ → Type 0
  AllReferBack none c = Unit {0}
  AllReferBack (more tree forest) c = ReferBack tree c × AllReferBack forest (c + made tree)
