-- The objects of a tree below a mismatch have no type.
use Rattle.std.proofs.Common.{ℕ, zero, suc, ◌+◌, ◌<◌, ◌≤◌, ◌≡◌, ◌∙◌, ◌⊎◌, ⊎_elim, inl, inr, List, [], ◌∷◌, ◌++◌, length, Option, Some, None, refl, sym, ap, subst, arith}
use Rattle.std.specs.Prelude.{slice_get, replicate}
use Rattle.std.proofs.lemmas.List.{append_assoc, append-nil, length-append}
use Rattle.std.proofs.lemmas.Option.{none-some}
use Rattle.std.proofs.lemmas.Bool.{cases_lt}
use Rattle.base_data.proofs.model.Lists.{slice_get-append_left, slice_get-last}
use Rattle.types_spec.specs.types.Table.{Table}
use Rattle.marshal_spec.specs.format.Words.{of_object, fields}
use Rattle.marshal_spec.specs.format.Token.{Token, integer, atom, shared, block, leaf, IsToken, measure_of}
use Rattle.marshal_spec.specs.format.Tree.{Tree, Forest, node, none, more, trees_in, IsTree, AreTrees, tokens, forest_tokens, made_by, all_made, made as made_of_tree}
use Rattle.check_stream.specs.theory.AskedNeeds.{of_type}
use Rattle.marshal_spec.proofs.format.Counts.{leaf_fields}
use Rattle.check_stream.proofs.theory.PassLemmas.{leaf_made}
use Rattle.check_stream.specs.mismatch_theory.PassedBut.{OpenPosition, MadeObject, Missed, unasked, made_in, type_of_need}
use Rattle.check_stream.proofs.mismatch_theory.MismatchPrefixLemmas.{PassesBut}

abbrev pub nothing : OpenPosition
nothing = record { asks = None; trail = [] }

pub unasked_are : (token : Token) → unasked token ≡ replicate (of_object fields (measure_of token)) nothing
unasked_are (integer z) = refl
unasked_are (atom tag) = refl
unasked_are (shared offset) = refl
unasked_are (block tag size) = refl
unasked_are (leaf object) = ap (λ n. replicate n nothing) (sym (leaf_fields object))

module _ (type : Option ℕ) (trail : List (ℕ × ℕ)) (made : List MadeObject) where
  -- If a token is read, then the number of objects grows by the number of objects that the token
  -- creates.
  pub made_long : (token : Token) → IsToken token → length (made ++ made_in type trail token) ≡ length made + made_by token
  made_long (integer z) is = length-append made []
  made_long (atom tag) is = length-append made []
  made_long (shared offset) is = length-append made []
  made_long (block tag size) is = length-append made (record { type = type; trail = trail } ∷ [])
  made_long (leaf object) is = let both = length-append made (record { type = type; trail = trail } ∷ []) in let one = leaf_made object is in omega (arith, both, one)

  last_there : (o : ℕ) → length made ≤ o → o < length made + 1 → slice_get (made ++ record { type = type; trail = trail } ∷ []) o ≡ Some record { type = type; trail = trail }
  last_there o from to =
      let is : length made ≡ o = omega (arith, from, to) in
      subst (λ k. slice_get (made ++ record { type = type; trail = trail } ∷ []) k ≡ Some record { type = type; trail = trail }) is (slice_get-last made record { type = type; trail = trail })

  -- The object that a token creates is the last of the objects so far.
  pub made_there : (token : Token) → IsToken token → (o : ℕ) → length made ≤ o → o < length made + made_by token → slice_get (made ++ made_in type trail token) o ≡ Some record { type = type; trail = trail }
  made_there (integer z) is o from to = absurd (omega (arith, from, to))
  made_there (atom tag) is o from to = absurd (omega (arith, from, to))
  made_there (shared offset) is o from to = absurd (omega (arith, from, to))
  made_there (block tag size) is o from to = last_there o from to
  made_there (leaf object) is o from to = let one = leaf_made object is in last_there o from (omega (arith, to, one))

module _ (back : List ℕ) (table : Table) (noted : List (ℕ × ℕ)) (all : List MadeObject) where
  -- The objects so far are a prefix of the objects after the last token.
  pub prefix : (made : List MadeObject) (positions : List OpenPosition) (tokens : List Token) (missed : List Missed) → PassesBut back table noted all made positions tokens missed → (later : List MadeObject) × (made ++ later ≡ all)
  prefix made [] [] missed h = ([], append-nil made ∙ h.0)
  prefix made [] (token ∷ tokens) missed h = absurd h
  prefix made (position ∷ positions) [] missed h = absurd h
  prefix made (position ∷ positions) (token ∷ tokens) missed (inl (need, asks, next, takes, h)) =
      let one = made_in (type_of_need need) position.trail token in
      let r = prefix (made ++ one) (next ++ positions) tokens missed h in
      (one ++ r.0, sym (append_assoc made one r.0) ∙ r.1)
  prefix made (position ∷ positions) (token ∷ tokens) missed (inr (inl (t, asks, misses, later, is, h))) =
      let one = made_in None position.trail token in
      let r = prefix (made ++ one) (unasked token ++ positions) tokens later h in
      (one ++ r.0, sym (append_assoc made one r.0) ∙ r.1)
  prefix made (position ∷ positions) (token ∷ tokens) missed (inr (inr (asks, h))) =
      let one = made_in None [] token in
      let r = prefix (made ++ one) (unasked token ++ positions) tokens missed h in
      (one ++ r.0, sym (append_assoc made one r.0) ∙ r.1)

  pub kept_at : (made : List MadeObject) (positions : List OpenPosition) (tokens : List Token) (missed : List Missed) (k : ℕ) (object : MadeObject) → PassesBut back table noted all made positions tokens missed → slice_get made k ≡ Some object → slice_get all k ≡ Some object
  kept_at made positions tokens missed k object h at_k =
      let r = prefix made positions tokens missed h in
      subst (λ xs. slice_get xs k ≡ Some object) r.1 (slice_get-append_left made r.0 k object at_k)

  -- From object `c` on, `n` objects without a type were created, and the remaining tokens follow.
  pub record IsPassedOver (c n : ℕ) (positions : List OpenPosition) (rest : List Token) (missed : List Missed) : Type 0 where
    pub after : List MadeObject
    pub many : length after ≡ c + n
    pub untyped : (o : ℕ) → c ≤ o → o < c + n → (trail : List (ℕ × ℕ)) × (slice_get all o ≡ Some record { type = None; trail = trail })
    pub passes : PassesBut back table noted all after positions rest missed

  -- If nothing is required of a token's fields, then each field of the token has a position at
  -- which nothing is required.
  fields_next : (token : Token) (f : Forest) (made : List MadeObject) (positions : List OpenPosition) (rest : List Token) (missed : List Missed) → PassesBut back table noted all made (unasked token ++ positions) (forest_tokens f ++ rest) missed → PassesBut back table noted all made (replicate (of_object fields (measure_of token)) nothing ++ positions) (forest_tokens f ++ rest) missed
  fields_next token f made positions rest missed h = subst (λ xs. PassesBut back table noted all made (xs ++ positions) (forest_tokens f ++ rest) missed) (unasked_are token) h

  with_fields : (token : Token) (f : Forest) (trail : List (ℕ × ℕ)) (made : List MadeObject) (positions : List OpenPosition) (rest : List Token) (missed : List Missed) → IsToken token → PassesBut back table noted all (made ++ made_in None trail token) (unasked token ++ positions) (forest_tokens f ++ rest) missed → IsPassedOver (length (made ++ made_in None trail token)) (all_made f) positions rest missed → IsPassedOver (length made) (made_by token + all_made f) positions rest missed
  with_fields token f trail made positions rest missed is h r =
      let made' = made ++ made_in None trail token in
      let long = made_long None trail made token is in
      record {
        after = r.after;
        many = let many = r.many in omega (arith, many, long);
        untyped = λ o from to. ⊎_elim
            (λ before. (trail, kept_at made' (unasked token ++ positions) (forest_tokens f ++ rest) missed o record { type = None; trail = trail } h (made_there None trail made token is o from before)))
            (λ later. r.untyped o (omega (arith, later, long)) (omega (arith, to, long)))
            (cases_lt o (length made + made_by token));
        passes = r.passes;
      }

  mutual
    pub tree_over : (tree : Tree) (trail : List (ℕ × ℕ)) (made : List MadeObject) (positions : List OpenPosition) (rest : List Token) (missed : List Missed) → IsTree tree → PassesBut back table noted all made (record { asks = None; trail = trail } ∷ positions) (tokens tree ++ rest) missed → IsPassedOver (length made) (made_of_tree tree) positions rest missed
    tree_over (node token f) trail made positions rest missed is (inl fits) = absurd (none-some fits.0 fits.1)
    tree_over (node token f) trail made positions rest missed is (inr (inl missing)) = absurd (none-some (of_type missing.0) missing.1)
    tree_over (node token f) trail made positions rest missed is (inr (inr (asks, h))) =
        let made' = made ++ made_in None [] token in
        with_fields token f [] made positions rest missed is.0 h
        (forest_over f (of_object fields (measure_of token)) made' positions rest missed is.2 is.1 (fields_next token f made' positions rest missed h))

    pub forest_over : (f : Forest) (n : ℕ) (made : List MadeObject) (positions : List OpenPosition) (rest : List Token) (missed : List Missed) → AreTrees f → trees_in f ≡ n → PassesBut back table noted all made (replicate n nothing ++ positions) (forest_tokens f ++ rest) missed → IsPassedOver (length made) (all_made f) positions rest missed
    forest_over none zero made positions rest missed are many h = record {
      after = made;
      many = omega arith;
      untyped = λ o from to. absurd (omega (arith, from, to));
      passes = h;
    }
    forest_over none (suc n) made positions rest missed are many h = absurd (omega (arith, many))
    forest_over (more tree f) zero made positions rest missed are many h = absurd (omega (arith, many))
    forest_over (more tree f) (suc n) made positions rest missed are many h =
        let h' = subst (λ ts. PassesBut back table noted all made (nothing ∷ (replicate n nothing ++ positions)) ts missed) (append_assoc (tokens tree) (forest_tokens f) rest) h in
        let first = tree_over tree [] made (replicate n nothing ++ positions) (forest_tokens f ++ rest) missed are.0 h' in
        let later = forest_over f n first.after positions rest missed are.1 (omega (arith, many)) first.passes in
        let position = first.many in
        record {
          after = later.after;
          many = let more_many = later.many in omega (arith, position, more_many);
          untyped = λ o from to. ⊎_elim
              (λ before. first.untyped o from before)
              (λ after. later.untyped o (omega (arith, after, position)) (omega (arith, to, position)))
              (cases_lt o (length made + made_of_tree tree));
          passes = later.passes;
        }

  -- If nothing is required of a token, or the token mismatches, then the tree of the token is
  -- passed over.
  pub after_token : (token : Token) (f : Forest) (trail : List (ℕ × ℕ)) (made : List MadeObject) (positions : List OpenPosition) (rest : List Token) (missed : List Missed) → IsTree (node token f) → PassesBut back table noted all (made ++ made_in None trail token) (unasked token ++ positions) (forest_tokens f ++ rest) missed → IsPassedOver (length made) (made_by token + all_made f) positions rest missed
  after_token token f trail made positions rest missed is h =
      let made' = made ++ made_in None trail token in
      with_fields token f trail made positions rest missed is.0 h
      (forest_over f (of_object fields (measure_of token)) made' positions rest missed is.2 is.1 (fields_next token f made' positions rest missed h))
