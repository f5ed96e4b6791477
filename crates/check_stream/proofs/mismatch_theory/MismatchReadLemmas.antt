-- If all tokens but one satisfy their requirements, then the objects of the tree satisfy the
-- invariant.
use Rattle.std.proofs.Common.{ℕ, suc, ◌+◌, ◌-◌, ◌<◌, ◌≤◌, ◌≡◌, ◌∙◌, ◌⊎◌, ⊎_elim, inl, inr, List, [], ◌∷◌, ◌++◌, length, Option, Some, None, refl, sym, ap, subst, arith}
use Rattle.std.specs.Prelude.{slice_get, ℤ}
use Rattle.std.proofs.lemmas.Bool.{false≢true, cases_lt}
use Rattle.std.proofs.lemmas.List.{append_assoc, append-nil, length-append}
use Rattle.std.proofs.lemmas.Option.{none-some, same_Some}
use Rattle.base_data.specs.declared.model.value.Val.{Val}
use Rattle.base_data.specs.declared.model.value.Val.TheVariants as vals
use Rattle.base_data.specs.declared.model.value.Obj.{Obj}
use Rattle.base_data.specs.declared.model.value.Obj.TheVariants as objects
use Rattle.types_spec.specs.declared.types.shape.PolyTag.{PolyTag}
use Rattle.types_spec.specs.types.Table.{Table}
use Rattle.marshal_spec.specs.format.Token.{Token, integer, atom, shared, block, leaf, IsToken}
use Rattle.marshal_spec.specs.format.Tree.{Tree, Forest, node, none, more, trees_in, IsTree, AreTrees, tokens, forest_tokens, made_by, value_of, root, roots, all_made, objects_of, all_objects, made as made_of_tree}
use Rattle.marshal_spec.proofs.format.Counts.{leaf_fields, length-roots, length-objects_of}
use Rattle.check_stream.specs.theory.AskedNeeds.{Need, of_type, hash_of, values_in, fields_ask}
use Rattle.check_stream.proofs.theory.BlockLemmas.{fields_many}
use Rattle.check_stream.proofs.theory.PassLemmas.{leaf_made}
use Rattle.check_stream.specs.mismatch_theory.MissedLaw.{IsEncodedBy}
use Rattle.check_stream.specs.mismatch_theory.PassedBut.{OpenPosition, MadeObject, Missed, positions_of, unasked, made_in, type_of_need, IsLedBack, Takes, Misses}
use Rattle.check_stream.proofs.mismatch_theory.BridgeLemmas.{IsMadeAt, IsMetAgain}
use Rattle.check_stream.proofs.mismatch_theory.MismatchPrefixLemmas.{Among, PassesBut}
use Rattle.check_stream.proofs.mismatch_theory.GoodLemmas.{IsGoodBut, leaf_good, block_good}
use Rattle.check_stream.proofs.mismatch_theory.MissLemmas.{missed_is_asked}
use Rattle.check_stream.proofs.mismatch_theory.MismatchPlacedLemmas.{IsHashOf, IsPlacedIf, ArePlaced}
use Rattle.check_stream.proofs.mismatch_theory.RealLemmas.{IsReal, IsRealIf, AreReal, block_real}
use Rattle.check_stream.proofs.mismatch_theory.UnaskedLemmas.{after_token, kept_at, made_long, made_there}

-- ---- cases of requirements

abbrev IsHash : Need → Type 0
IsHash (of_type t) = ⊥
IsHash (hash_of tags) = Unit {0}

hash_is_no_type : (tags : List (PolyTag ℕ)) (t : ℕ) → hash_of tags ≡ of_type t → ⊥
hash_is_no_type tags t same = subst IsHash same tt

abbrev type_or_zero : Need → ℕ
type_or_zero (of_type t) = t
type_or_zero (hash_of tags) = 0

same_type : (t u : ℕ) → of_type t ≡ of_type u → t ≡ u
same_type t u same = ap type_or_zero same

abbrev number_of : Val → Option ℕ
number_of (vals.Int z) = None
number_of (vals.Atom tag) = None
number_of (vals.Ref o) = Some o

-- ---- objects of the graph

module _ (graph : List Obj) where
  -- The graph contains the objects from number `c` on.
  abbrev pub AreIn : ℕ → List Obj → Type 0
  AreIn c [] = Unit {0}
  AreIn c (x ∷ xs) = (slice_get graph c ≡ Some x) × AreIn (suc c) xs

  pub in_prefix : (c : ℕ) (xs ys : List Obj) → AreIn c (xs ++ ys) → AreIn c xs
  in_prefix c [] ys are = tt
  in_prefix c (x ∷ xs) ys are = (are.0, in_prefix (suc c) xs ys are.1)

  pub in_back : (c : ℕ) (xs ys : List Obj) → AreIn c (xs ++ ys) → AreIn (c + length xs) ys
  in_back c [] ys are = let same : c ≡ c + 0 = omega arith in subst (λ n. AreIn n ys) same are
  in_back c (x ∷ xs) ys are =
      let same : suc c + length xs ≡ c + suc (length xs) = omega arith in
      subst (λ n. AreIn n ys) same (in_back (suc c) xs ys are.1)

-- A graph that ends with objects contains these objects.
pub all_in : (prefix xs : List Obj) → AreIn (prefix ++ xs) (length prefix) xs
all_in prefix [] = tt
all_in prefix (x ∷ xs) = (there prefix, subst (λ n. AreIn (prefix ++ x ∷ xs) n xs) (length-append prefix (x ∷ []) ∙ next) (subst (λ g. AreIn g (length (prefix ++ x ∷ [])) xs) (append_assoc prefix (x ∷ []) xs) (all_in (prefix ++ x ∷ []) xs))) where
  next : length prefix + 1 ≡ suc (length prefix)
  next = omega arith

  there : (prefix : List Obj) → slice_get (prefix ++ x ∷ xs) (length prefix) ≡ Some x
  there [] = refl
  there (y ∷ prefix) = there prefix

module _ (back : List ℕ) (table : Table) (noted : List (ℕ × ℕ)) (all : List MadeObject) (graph : List Obj) (whole : Val) (m : Missed) where
  -- Each mismatch in the list is the mismatch `m`.
  abbrev pub AreIt : List Missed → Type 0
  AreIt [] = Unit {0}
  AreIt (one ∷ later) = (one ≡ m) × AreIt later

  -- The trail leads to the mismatch, and the token of the mismatch encodes the value at the end of
  -- the trail.
  pub record IsMetAs (one : Missed) : Type 0 where
    pub value : Val
    pub real : IsReal table graph all whole one.trail value one.type
    pub encoded : IsEncodedBy graph value one.token
    pub misses : Misses table one.type one.token

  abbrev pub Goes : List MadeObject → List OpenPosition → List Token → List Missed → Type 0
  Goes made positions rest ms = PassesBut back table noted all made positions rest ms

  abbrev pub Good : ℕ → ℕ → List (ℕ × ℕ) → Type 0
  Good o t trail = IsGoodBut table graph all back noted whole m.trail o t trail

  -- The `n` objects from number `c` on satisfy the invariant.
  abbrev pub AreGoodBut : ℕ → ℕ → Type 0
  AreGoodBut c n = (o : ℕ) → c ≤ o → o < c + n → (t : ℕ) (trail : List (ℕ × ℕ)) → IsMadeAt all o t trail → Good o t trail

  pub record IsReadBut (c t : ℕ) (trail : List (ℕ × ℕ)) (tree : Tree) (positions : List OpenPosition) (rest : List Token) (ms : List Missed) : Type 0 where
    pub after : List MadeObject
    pub many : length after ≡ c + made_of_tree tree
    pub value : IsPlacedIf table graph all back noted whole m.trail trail (root tree c) t
    pub good : AreGoodBut c (made_of_tree tree)
    pub later : List Missed
    pub only : AreIt later
    pub met : (ms ≡ later) ⊎ IsMetAs m
    pub passes : Goes after positions rest later

  pub record AreReadBut (c p k : ℕ) (trail : List (ℕ × ℕ)) (asked : List Need) (forest : Forest) (positions : List OpenPosition) (rest : List Token) (ms : List Missed) : Type 0 where
    pub after : List MadeObject
    pub many : length after ≡ c + all_made forest
    pub values : ArePlaced table graph all back noted whole m.trail p trail k (roots forest c) asked
    pub good : AreGoodBut c (all_made forest)
    pub later : List Missed
    pub only : AreIt later
    pub met : (ms ≡ later) ⊎ IsMetAs m
    pub passes : Goes after positions rest later

  -- ---- one object

  one_good : (o t : ℕ) (trail : List (ℕ × ℕ)) → IsMadeAt all o t trail → Good o t trail → (s : ℕ) (way : List (ℕ × ℕ)) → IsMadeAt all o s way → Good o s way
  one_good o t trail at good s way at' =
      let same : ◌≡◌ {A = MadeObject} record { type = Some t; trail = trail } record { type = Some s; trail = way } =
      same_Some record { type = Some t; trail = trail } record { type = Some s; trail = way } (sym at ∙ at') in
      let type : t ≡ s = same_Some t s (ap (λ (x : MadeObject). x.type) same) in
      subst (λ u. Good o u way) type (subst (λ w. Good o t w) (ap (λ (x : MadeObject). x.trail) same) good)

  untyped_good : (o : ℕ) (trail : List (ℕ × ℕ)) → slice_get all o ≡ Some record { type = None; trail = trail } → (s : ℕ) (way : List (ℕ × ℕ)) → IsMadeAt all o s way → Good o s way
  untyped_good o trail at s way at' =
      let same : ◌≡◌ {A = MadeObject} record { type = None; trail = trail } record { type = Some s; trail = way } =
      same_Some record { type = None; trail = trail } record { type = Some s; trail = way } (sym at ∙ at') in
      absurd (none-some s (ap (λ (x : MadeObject). x.type) same))

  both_good : (c n k : ℕ) → AreGoodBut c n → AreGoodBut (c + n) k → AreGoodBut c (n + k)
  both_good c n k first second o from to = ⊎_elim
      (λ before. first o from before)
      (λ later. second o later (omega (arith, to)))
      (cases_lt o (c + n))

  only_good : (c t : ℕ) (trail : List (ℕ × ℕ)) → IsMadeAt all c t trail → Good c t trail → AreGoodBut c 1
  only_good c t trail at good o from to =
      let same : c ≡ o = omega (arith, from, to) in
      subst (λ n. (s : ℕ) (way : List (ℕ × ℕ)) → IsMadeAt all n s way → Good n s way) same (one_good c t trail at good)

  -- ---- the effect of the first token at its position

  abbrev Fits : Need → List (ℕ × ℕ) → List MadeObject → List OpenPosition → Token → List Token → List Missed → Type 0
  Fits need trail made positions token ts ms =
      (next : List OpenPosition) × Takes back table (Among noted) made trail need token next
      × Goes (made ++ made_in (type_of_need need) trail token) (next ++ positions) ts ms

  abbrev IsMissing : ℕ → List (ℕ × ℕ) → List MadeObject → List OpenPosition → Token → List Token → List Missed → Type 0
  IsMissing t trail made positions token ts ms =
      Misses table t token × (later : List Missed)
      × (ms ≡ record { trail = trail; type = t; token = token } ∷ later)
      × Goes (made ++ made_in None trail token) (unasked token ++ positions) ts later

  module _ (trail : List (ℕ × ℕ)) (made : List MadeObject) (positions : List OpenPosition) (token : Token) (ts : List Token) (ms : List Missed) where
    fits_as : (need asks : Need) → Some asks ≡ Some need → Fits need trail made positions token ts ms → Fits asks trail made positions token ts ms
    fits_as need asks same fits = subst (λ n. Fits n trail made positions token ts ms) (sym (same_Some asks need same)) fits

    known : (t : ℕ) → Goes made (record { asks = Some (of_type t); trail = trail } ∷ positions) (token ∷ ts) ms → Fits (of_type t) trail made positions token ts ms ⊎ IsMissing t trail made positions token ts ms
    known t (inl (need, asks, next, takes, h)) = inl (fits_as need (of_type t) asks (next, takes, h))
    known t (inr (inl (u, asks, misses, later, its, h))) =
        let same : u ≡ t = sym (same_type t u (same_Some (of_type t) (of_type u) asks)) in
        inr (subst (λ s. IsMissing s trail made positions token ts ms) same (misses, later, its, h))
    known t (inr (inr (asks, h))) = absurd (none-some (of_type t) (sym asks))

    known_hash : (tags : List (PolyTag ℕ)) → Goes made (record { asks = Some (hash_of tags); trail = trail } ∷ positions) (token ∷ ts) ms → Fits (hash_of tags) trail made positions token ts ms
    known_hash tags (inl (need, asks, next, takes, h)) = fits_as need (hash_of tags) asks (next, takes, h)
    known_hash tags (inr (inl (u, asks, misses, later, its, h))) = absurd (hash_is_no_type tags u (same_Some (hash_of tags) (of_type u) asks))
    known_hash tags (inr (inr (asks, h))) = absurd (none-some (hash_of tags) (sym asks))

  -- ---- a token that mismatches

  encoded_there : (token : Token) (f : Forest) (c t : ℕ) → IsTree (node token f) → Misses table t token → AreIn graph c (objects_of (node token f) c) → IsEncodedBy graph (value_of token c) token
  encoded_there (integer z) f c t is misses are = refl
  encoded_there (atom tag) f c t is misses are = refl
  encoded_there (shared offset) f c t is misses are = misses
  encoded_there (block tag size) f c t is misses are = (c, roots f (c + 1), refl, are.0, length-roots f (c + 1) ∙ is.1)
  encoded_there (leaf object) f c t is misses are = (c, refl, are.0)

  -- If the value of a token is an object, then the token created the object.
  its_object : (token : Token) (c t o : ℕ) → IsToken token → Misses table t token → value_of token c ≡ vals.Ref o → (c ≡ o) × (o < c + made_by token)
  its_object (integer z) c t o is misses same = absurd (none-some o (ap number_of same))
  its_object (atom tag) c t o is misses same = absurd (none-some o (ap number_of same))
  its_object (shared offset) c t o is misses same = absurd misses
  its_object (block tag size) c t o is misses same = let at = same_Some c o (ap number_of same) in (at, omega (arith, at))
  its_object (leaf object) c t o is misses same = let at = same_Some c o (ap number_of same) in let one = leaf_made object is in (at, omega (arith, at, one))

  miss_read : (token : Token) (f : Forest) (t : ℕ) (trail : List (ℕ × ℕ)) (made : List MadeObject) (positions : List OpenPosition) (rest : List Token) (ms : List Missed) → IsTree (node token f) → AreIt ms → AreIn graph (length made) (objects_of (node token f) (length made)) → IsRealIf table graph all whole trail (value_of token (length made)) t → IsMissing t trail made positions token (forest_tokens f ++ rest) ms → IsReadBut (length made) t trail (node token f) positions rest ms
  miss_read token f t trail made positions rest ms is only are real (misses, later, its, h) =
      let c = length made in
      let only' = subst AreIt its only in
      let over = after_token back table noted all token f trail made positions rest later is h in
      record {
        after = over.after;
        many = over.many;
        value = λ asked. inr record {
          here = sym (ap (λ (x : Missed). x.trail) only'.0);
          object = λ o same.
              let at = its_object token c t o is.0 misses same in
              let from = at.0 in (
                None,
                kept_at back table noted all (made ++ made_in None trail token) (unasked token ++ positions) (forest_tokens f ++ rest) later o record { type = None; trail = trail } h
                    (made_there None trail made token is.0 o (omega (arith, from)) at.1),
              );
        };
        good = λ o from to. let none' = over.untyped o from to in untyped_good o none'.0 none'.1;
        later = later;
        only = only'.1;
        met = inr (subst IsMetAs only'.0 record { value = value_of token c; real = real (missed_is_asked table t token misses); encoded = encoded_there token f c t is misses are; misses = misses });
        passes = over.passes;
      }

  -- ---- a token without fields that matches

  flat_read : (token : Token) (t : ℕ) (trail : List (ℕ × ℕ)) (made : List MadeObject) (positions : List OpenPosition) (rest : List Token) (ms : List Missed) → IsToken token → AreIt ms → (next : List OpenPosition) → next ≡ [] → Goes (made ++ made_in (Some t) trail token) (next ++ positions) rest ms → IsPlacedIf table graph all back noted whole m.trail trail (value_of token (length made)) t → AreGoodBut (length made) (made_by token) → IsReadBut (length made) t trail (node token none) positions rest ms
  flat_read token t trail made positions rest ms is only next ends h placed good = record {
    after = made ++ made_in (Some t) trail token;
    many = let long = made_long (Some t) trail made token is in omega (arith, long);
    value = placed;
    good = λ o from to. good o from (omega (arith, to));
    later = ms;
    only = only;
    met = inl refl;
    passes = subst (λ (n : List OpenPosition). Goes (made ++ made_in (Some t) trail token) (n ++ positions) rest ms) ends h;
  }

  no_object : (c : ℕ) → AreGoodBut c 0
  no_object c o from to = absurd (omega (arith, from, to))

  -- The object that a token creates is among the objects after the last token.
  made_at : (token : Token) (t : ℕ) (trail : List (ℕ × ℕ)) (made : List MadeObject) (positions : List OpenPosition) (ts : List Token) (ms : List Missed) → IsToken token → 0 < made_by token → Goes (made ++ made_in (Some t) trail token) positions ts ms → IsMadeAt all (length made) t trail
  made_at token t trail made positions ts ms is some h =
      kept_at back table noted all (made ++ made_in (Some t) trail token) positions ts ms (length made) record { type = Some t; trail = trail } h
      (made_there (Some t) trail made token is (length made) (omega arith) (omega (arith, some)))

  led_back : (t offset : ℕ) (made : List MadeObject) (positions : List OpenPosition) (ts : List Token) (ms : List Missed) → Goes made positions ts ms → IsLedBack back table (Among noted) made t offset → IsMetAgain table graph all back noted whole m.trail (length made - offset) t
  led_back t offset made positions ts ms h led = record {
    typed = ⊎_elim
        (λ first. inl record { type = first.type; trail = first.trail; at = kept_at back table noted all made positions ts ms (length made - offset) record { type = Some first.type; trail = first.trail } h first.at; equal = first.equal })
        (λ second. inr second)
        led.typed;
    led = led.noted;
  }

  -- ---- a block that matches

  module _ (tag size : ℕ) (f : Forest) (t : ℕ) (trail : List (ℕ × ℕ)) (made : List MadeObject) (positions : List OpenPosition) (rest : List Token) (ms : List Missed)
      (is : IsTree (node (block tag size) f)) (are : AreIn graph (length made) (objects_of (node (block tag size) f) (length made)))
      (fits : Fits (of_type t) trail made positions (block tag size) (forest_tokens f ++ rest) ms) where
    abbrev with_block : List MadeObject
    with_block = made ++ record { type = Some t; trail = trail } ∷ []

    block_long : length with_block ≡ length made + 1
    block_long = length-append made (record { type = Some t; trail = trail } ∷ [])

    block_at : IsMadeAt all (length made) t trail
    block_at = made_at (block tag size) t trail made (fits.0 ++ positions) (forest_tokens f ++ rest) ms is.0 (omega arith) fits.2

    block_asks : (n : ℕ) → fields_ask table t tag (length (roots f n)) ≡ Some fits.1.0
    block_asks n = subst (λ k. fields_ask table t tag k ≡ Some fits.1.0) (sym is.1 ∙ sym (length-roots f n)) fits.1.1

    block_many : values_in fits.1.0 ≡ trees_in f
    block_many = fields_many table t tag size fits.1.0 fits.1.1 ∙ sym is.1

    fields_in : AreIn graph (length with_block) (all_objects f (length with_block))
    fields_in =
        let next : suc (length made) ≡ length with_block = let long = block_long in omega (arith, long) in
        subst (λ n. AreIn graph n (all_objects f (length with_block))) next
        (subst (λ n. AreIn graph (suc (length made)) (all_objects f n)) (sym block_long) are.1)

    fields_real : AreReal table graph all whole (length made) trail 0 (roots f (length with_block)) fits.1.0
    fields_real =
        let at = subst (λ n. slice_get graph (length made) ≡ Some (objects.Block tag (roots f n))) (sym block_long) are.0 in
        block_real table graph all whole (length made) trail t tag (roots f (length with_block)) fits.1.0 at block_at (block_asks (length with_block))

    fields_go : Goes with_block (positions_of (length made) trail 0 fits.1.0 ++ positions) (forest_tokens f ++ rest) ms
    fields_go = subst (λ (next : List OpenPosition). Goes with_block (next ++ positions) (forest_tokens f ++ rest) ms) fits.1.2 fits.2

    block_read : IsRealIf table graph all whole trail (vals.Ref (length made)) t → AreReadBut (length with_block) (length made) 0 trail fits.1.0 f positions rest ms → IsReadBut (length made) t trail (node (block tag size) f) positions rest ms
    block_read real r =
        let c = length made in
        let long = block_long in
        let values = subst (λ n. ArePlaced table graph all back noted whole m.trail c trail 0 (roots f n) fits.1.0) long r.values in
        let good = block_good table graph all back noted whole m.trail c t trail real tag (roots f (c + 1)) fits.1.0 values are.0 (block_asks (c + 1)) in
        let goods = subst (λ n. AreGoodBut n (all_made f)) long r.good in
        record {
          after = r.after;
          many = let rest_many = r.many in omega (arith, rest_many, long);
          value = λ asked. inl (inl block_at);
          good = both_good c 1 (all_made f) (only_good c t trail block_at good) goods;
          later = r.later;
          only = r.only;
          met = r.met;
          passes = r.passes;
        }

  -- ---- the trees of the fields, one after another

  met_both : (ms mid later : List Missed) → (ms ≡ mid) ⊎ IsMetAs m → (mid ≡ later) ⊎ IsMetAs m → (ms ≡ later) ⊎ IsMetAs m
  met_both ms mid later (inl same) (inl same') = inl (same ∙ same')
  met_both ms mid later (inl same) (inr met) = inr met
  met_both ms mid later (inr met) second = inr met

  module _ (tree : Tree) (f : Forest) (p k t : ℕ) (trail : List (ℕ × ℕ)) (asked : List Need) (made : List MadeObject) (positions : List OpenPosition) (rest : List Token) (ms : List Missed)
      (is : IsTree tree) (first : IsReadBut (length made) t ((p, k) ∷ trail) tree (positions_of p trail (k + 1) asked ++ positions) (forest_tokens f ++ rest) ms) where
    later_go : Goes first.after (positions_of p trail (suc k) asked ++ positions) (forest_tokens f ++ rest) first.later
    later_go =
        let next : k + 1 ≡ suc k = omega arith in
        subst (λ n. Goes first.after (positions_of p trail n asked ++ positions) (forest_tokens f ++ rest) first.later) next first.passes

    later_in : AreIn graph (length made) (all_objects (more tree f) (length made)) → AreIn graph (length first.after) (all_objects f (length first.after))
    later_in are =
        let c = length made in
        let long = length-objects_of tree c is in
        let many = first.many in
        let position : c + length (objects_of tree c) ≡ length first.after = omega (arith, long, many) in
        subst (λ n. AreIn graph n (all_objects f (length first.after))) position
        (subst (λ n. AreIn graph (c + length (objects_of tree c)) (all_objects f n)) (sym many)
        (in_back graph c (objects_of tree c) (all_objects f (c + made_of_tree tree)) are))

    later_real : AreReal table graph all whole p trail (suc k) (roots f (length made + made_of_tree tree)) asked → AreReal table graph all whole p trail (suc k) (roots f (length first.after)) asked
    later_real real = subst (λ n. AreReal table graph all whole p trail (suc k) (roots f n) asked) (sym first.many) real

    both_read : AreReadBut (length first.after) p (suc k) trail asked f positions rest first.later → AreReadBut (length made) p k trail (of_type t ∷ asked) (more tree f) positions rest ms
    both_read later =
        let position = first.many in
        record {
          after = later.after;
          many = let more_many = later.many in omega (arith, position, more_many);
          values = (first.value, subst (λ n. ArePlaced table graph all back noted whole m.trail p trail (suc k) (roots f n) asked) position later.values);
          good = both_good (length made) (made_of_tree tree) (all_made f) first.good (subst (λ n. AreGoodBut n (all_made f)) position later.good);
          later = later.later;
          only = later.only;
          met = met_both ms first.later later.later first.met later.met;
          passes = later.passes;
        }

  -- ---- a hash, and then its argument

  module _ (z : ℤ) (f : Forest) (p k : ℕ) (trail : List (ℕ × ℕ)) (tags : List (PolyTag ℕ)) (asked : List Need) (made : List MadeObject) (positions : List OpenPosition) (rest : List Token) (ms : List Missed)
      (fits : Fits (hash_of tags) ((p, k) ∷ trail) made (positions_of p trail (k + 2) asked ++ positions) (integer z) (forest_tokens f ++ rest) ms) where
    is_hash : IsHashOf tags (vals.Int z) fits.1.type
    is_hash = record { hash = z; is_hash = refl; tag = fits.1.tag; has_hash = fits.1.has_hash; has_argument = fits.1.has_argument }

    argument_go : Goes made (positions_of p trail (suc k) (of_type fits.1.type ∷ asked) ++ positions) (forest_tokens f ++ rest) ms
    argument_go =
        let next : k + 2 ≡ suc k + 1 = omega arith in
        subst (λ n. Goes made (record { asks = Some (of_type fits.1.type); trail = (p, suc k) ∷ trail } ∷ (positions_of p trail n asked ++ positions)) (forest_tokens f ++ rest) ms) next
        (subst (λ (ps : List OpenPosition). Goes made (ps ++ (positions_of p trail (k + 2) asked ++ positions)) (forest_tokens f ++ rest) ms) fits.1.argument
        (subst (λ (xs : List MadeObject). Goes xs (fits.0 ++ (positions_of p trail (k + 2) asked ++ positions)) (forest_tokens f ++ rest) ms) (append-nil made) fits.2))

    same_position : length made + 0 ≡ length made
    same_position = omega arith

    hash_read : AreReadBut (length made) p (suc k) trail (of_type fits.1.type ∷ asked) f positions rest ms → AreReadBut (length made) p k trail (hash_of tags ∷ asked) (more (node (integer z) none) f) positions rest ms
    hash_read later = record {
      after = later.after;
      many = let more_many = later.many in omega (arith, more_many);
      values = (fits.1.type, is_hash, subst (λ n. ArePlaced table graph all back noted whole m.trail p trail (suc k) (roots f n) (of_type fits.1.type ∷ asked)) (sym same_position) later.values);
      good = λ o from to. later.good o from (omega (arith, to));
      later = later.later;
      only = later.only;
      met = later.met;
      passes = later.passes;
    }

  -- ---- the induction

  mutual
    pub tree_read : (tree : Tree) (t : ℕ) (trail : List (ℕ × ℕ)) (made : List MadeObject) (positions : List OpenPosition) (rest : List Token) (ms : List Missed) → IsTree tree → AreIt ms → AreIn graph (length made) (objects_of tree (length made)) → IsRealIf table graph all whole trail (root tree (length made)) t → Goes made (record { asks = Some (of_type t); trail = trail } ∷ positions) (tokens tree ++ rest) ms → IsReadBut (length made) t trail tree positions rest ms
    tree_read (node (integer z) none) t trail made positions rest ms is only are real h = ⊎_elim
        (λ fits. flat_read (integer z) t trail made positions rest ms is.0 only fits.0 fits.1.1 fits.2 (λ asked. inl fits.1.0) (no_object (length made)))
        (λ missing. miss_read (integer z) none t trail made positions rest ms is only are real missing)
        (known trail made positions (integer z) rest ms t h)
    tree_read (node (atom tag) none) t trail made positions rest ms is only are real h = ⊎_elim
        (λ fits. flat_read (atom tag) t trail made positions rest ms is.0 only fits.0 fits.1.1 fits.2 (λ asked. inl fits.1.0) (no_object (length made)))
        (λ missing. miss_read (atom tag) none t trail made positions rest ms is only are real missing)
        (known trail made positions (atom tag) rest ms t h)
    tree_read (node (shared offset) none) t trail made positions rest ms is only are real h = ⊎_elim
        (λ fits. flat_read (shared offset) t trail made positions rest ms is.0 only fits.0 fits.1.1 fits.2
        (λ asked. ⊎_elim
        (λ wildcard. absurd (false≢true (sym wildcard ∙ asked)))
        (λ led. inl (inr (led_back t offset made (record { asks = Some (of_type t); trail = trail } ∷ positions) (shared offset ∷ rest) ms h led)))
        fits.1.0)
        (no_object (length made)))
        (λ missing. miss_read (shared offset) none t trail made positions rest ms is only are real missing)
        (known trail made positions (shared offset) rest ms t h)
    tree_read (node (leaf object) none) t trail made positions rest ms is only are real h = ⊎_elim
        (λ fits.
        let c = length made in
        let one = leaf_made object is.0 in
        let at = made_at (leaf object) t trail made (fits.0 ++ positions) rest ms is.0 (omega (arith, one)) fits.2 in
        let good = only_good c t trail at (leaf_good table graph all back noted whole m.trail c t trail real object are.0 is.0 fits.1.0) in
        flat_read (leaf object) t trail made positions rest ms is.0 only fits.0 fits.1.1 fits.2 (λ asked. inl (inl at)) (subst (AreGoodBut c) (sym one) good))
        (λ missing. miss_read (leaf object) none t trail made positions rest ms is only are real missing)
        (known trail made positions (leaf object) rest ms t h)
    tree_read (node (block tag size) f) t trail made positions rest ms is only are real h = ⊎_elim
        (λ fits. block_read tag size f t trail made positions rest ms is are fits real
        (forest_read f fits.1.0 (length made) 0 trail (with_block tag size f t trail made positions rest ms is are fits) positions rest ms is.2
        (block_many tag size f t trail made positions rest ms is are fits) only
        (fields_in tag size f t trail made positions rest ms is are fits)
        (fields_real tag size f t trail made positions rest ms is are fits)
        (fields_go tag size f t trail made positions rest ms is are fits)))
        (λ missing. miss_read (block tag size) f t trail made positions rest ms is only are real missing)
        (known trail made positions (block tag size) (forest_tokens f ++ rest) ms t h)
    tree_read (node (integer z) (more tree f)) t trail made positions rest ms is only are real h = absurd (let no' = is.1 in omega (arith, no'))
    tree_read (node (atom tag) (more tree f)) t trail made positions rest ms is only are real h = absurd (let no' = is.1 in omega (arith, no'))
    tree_read (node (shared offset) (more tree f)) t trail made positions rest ms is only are real h = absurd (let no' = is.1 in omega (arith, no'))
    tree_read (node (leaf object) (more tree f)) t trail made positions rest ms is only are real h = absurd (let no' = is.1 in let leaf' = leaf_fields object in omega (arith, no', leaf'))

    pub forest_read : (f : Forest) (asked : List Need) (p k : ℕ) (trail : List (ℕ × ℕ)) (made : List MadeObject) (positions : List OpenPosition) (rest : List Token) (ms : List Missed) → AreTrees f → values_in asked ≡ trees_in f → AreIt ms → AreIn graph (length made) (all_objects f (length made)) → AreReal table graph all whole p trail k (roots f (length made)) asked → Goes made (positions_of p trail k asked ++ positions) (forest_tokens f ++ rest) ms → AreReadBut (length made) p k trail asked f positions rest ms
    forest_read none [] p k trail made positions rest ms trees many only are real h = record { after = made; many = omega arith; values = tt; good = no_object (length made); later = ms; only = only; met = inl refl; passes = h }
    forest_read none (of_type t ∷ asked) p k trail made positions rest ms trees many only are real h = absurd (omega (arith, many))
    forest_read none (hash_of tags ∷ asked) p k trail made positions rest ms trees many only are real h = absurd (omega (arith, many))
    forest_read (more tree f) [] p k trail made positions rest ms trees many only are real h = absurd (omega (arith, many))
    forest_read (more tree f) (of_type t ∷ asked) p k trail made positions rest ms trees many only are real h =
        let c = length made in
        let others = positions_of p trail (k + 1) asked ++ positions in
        let h' = subst (λ ts. Goes made (record { asks = Some (of_type t); trail = (p, k) ∷ trail } ∷ others) ts ms) (append_assoc (tokens tree) (forest_tokens f) rest) h in
        let first = tree_read tree t ((p, k) ∷ trail) made others (forest_tokens f ++ rest) ms trees.0 only (in_prefix graph c (objects_of tree c) (all_objects f (c + made_of_tree tree)) are) real.0 h' in
        both_read tree f p k t trail asked made positions rest ms trees.0 first
        (forest_read f asked p (suc k) trail first.after positions rest first.later trees.1 (omega (arith, many)) first.only
        (later_in tree f p k t trail asked made positions rest ms trees.0 first are)
        (later_real tree f p k t trail asked made positions rest ms trees.0 first real.1)
        (later_go tree f p k t trail asked made positions rest ms trees.0 first))
    forest_read (more (node (integer z) none) f) (hash_of tags ∷ asked) p k trail made positions rest ms trees many only are real h =
        let fits = known_hash ((p, k) ∷ trail) made (positions_of p trail (k + 2) asked ++ positions) (integer z) (forest_tokens f ++ rest) ms tags h in
        let same = same_position z f p k trail tags asked made positions rest ms fits in
        hash_read z f p k trail tags asked made positions rest ms fits
        (forest_read f (of_type fits.1.type ∷ asked) p (suc k) trail made positions rest ms trees.1 (omega (arith, many)) only
        (subst (λ n. AreIn graph (length made) (all_objects f n)) same are)
        (subst (λ n. AreReal table graph all whole p trail (suc k) (roots f n) (of_type fits.1.type ∷ asked)) same (real fits.1.type (is_hash z f p k trail tags asked made positions rest ms fits)))
        (argument_go z f p k trail tags asked made positions rest ms fits))
    forest_read (more (node (integer z) (more tree g)) f) (hash_of tags ∷ asked) p k trail made positions rest ms trees many only are real h = absurd (let no' = trees.0.1 in omega (arith, no'))
    forest_read (more (node (atom tag) g) f) (hash_of tags ∷ asked) p k trail made positions rest ms trees many only are real h =
        absurd (known_hash ((p, k) ∷ trail) made (positions_of p trail (k + 2) asked ++ positions) (atom tag) ((forest_tokens g ++ forest_tokens f) ++ rest) ms tags h).1
    forest_read (more (node (shared offset) g) f) (hash_of tags ∷ asked) p k trail made positions rest ms trees many only are real h =
        absurd (known_hash ((p, k) ∷ trail) made (positions_of p trail (k + 2) asked ++ positions) (shared offset) ((forest_tokens g ++ forest_tokens f) ++ rest) ms tags h).1
    forest_read (more (node (block tag size) g) f) (hash_of tags ∷ asked) p k trail made positions rest ms trees many only are real h =
        absurd (known_hash ((p, k) ∷ trail) made (positions_of p trail (k + 2) asked ++ positions) (block tag size) ((forest_tokens g ++ forest_tokens f) ++ rest) ms tags h).1
    forest_read (more (node (leaf object) g) f) (hash_of tags ∷ asked) p k trail made positions rest ms trees many only are real h =
        absurd (known_hash ((p, k) ∷ trail) made (positions_of p trail (k + 2) asked ++ positions) (leaf object) ((forest_tokens g ++ forest_tokens f) ++ rest) ms tags h).1
