-- Lemmas on items that are too large for a 32-bit reader.
use Rattle.std.proofs.Common.{ℕ, zero, suc, ◌≡◌, ◌+◌, ◌∙◌, Bool, true, false, List, [], ◌∷◌, ◌++◌, take, Option, Some, None, refl, sym, ap, subst}
use Rattle.std.specs.Prelude.{slice_get, find, IsSomeAnd, cond}
use Rattle.base_data.proofs.model.Options.{IsSomeAnd-some, IsSomeAnd-at}
use Rattle.marshal_spec.specs.format.Canonical.{canonical_head}
use Rattle.marshal_spec.specs.format.Compat.{is_large, token, large_header, first_large, too_large_for_32}
use Rattle.marshal_spec.specs.format.Token.{Token}
use Rattle.marshal_spec.specs.format.Tree.{Tree, tokens}
use Rattle.base_data.specs.declared.model.header.Head.{Head}
use Rattle.marshal_write.specs.write.Reports.{Reports}
use Rattle.marshal_write.specs.declared.write.compat.Compat.{Compat}
use Rattle.marshal_write.proofs.write.WriterSumLemmas.{take_one}

-- ---- the first element of a list

found_none : (b : Bool) (x : Token) (rest : Option Token) → cond b (Some x) rest ≡ None → (b ≡ false) × (rest ≡ None)
found_none true x rest e = absurd (cc)
found_none false x rest e = (refl, e)

find_push : (p : Token → Bool) (xs : List Token) (x : Token) → find p xs ≡ None → p x ≡ false → find p (xs ++ x ∷ []) ≡ None
find_push p [] x none e = rw e refl
find_push p (y ∷ xs) x none e = let h = found_none (p y) y (find p xs) none in rw h.0 (find_push p xs x h.1 e)

pub find_more : (p : Token → Bool) (n m : ℕ) (xs : List Token) (x : Token) → find p (take n xs) ≡ None → slice_get xs n ≡ Some x → m ≡ n + 1 → p x ≡ false → find p (take m xs) ≡ None
find_more p n m xs x none at_n next e = rw next (ap (find p) (take_one n xs x at_n) ∙ find_push p (take n xs) x none e)

pub find_at : (p : Token → Bool) (n : ℕ) (xs : List Token) (x : Token) → find p (take n xs) ≡ None → slice_get xs n ≡ Some x → p x ≡ true → find p xs ≡ Some x
find_at p zero [] x none at_n e = absurd (cc)
find_at p zero (y ∷ xs) x none at_n e = let same : y ≡ x = cc in rw (same, e) refl
find_at p (suc n) [] x none at_n e = absurd (cc)
find_at p (suc n) (y ∷ xs) x none at_n e = let h = found_none (p y) y (find p (take n xs)) none in rw h.0 (find_at p n xs x h.1 at_n e)

pub found : (p : Token → Bool) (n : ℕ) (xs : List Token) (x : Token) (compat : Compat) → find p (take n xs) ≡ None → slice_get xs n ≡ Some x → (p x ≡ true) × Reports (token x) compat
    → IsSomeAnd (find p xs) (λ t. Reports (token t) compat)
found p n xs x compat none at_n large = IsSomeAnd-at (find p xs) x (λ t. Reports (token t) compat) (find_at p n xs x none at_n large.0) large.1

-- ---- the whole value

pub large_is : (tree : Tree) (first : Option Token) (head : Head) → find is_large (tokens tree) ≡ first → canonical_head (tokens tree) ≡ head → too_large_for_32 tree ≡ first_large first head
unfolding too_large_for_32
large_is tree first head is at_head = rw (is, at_head) refl

pub large_token : (tree : Tree) (compat : Compat) → IsSomeAnd (find is_large (tokens tree)) (λ t. Reports (token t) compat) → IsSomeAnd (too_large_for_32 tree) (λ large. Reports large compat)
large_token tree compat found =
    let t = IsSomeAnd-some (find is_large (tokens tree)) (λ t. Reports (token t) compat) found in
    IsSomeAnd-at (too_large_for_32 tree) (token t.0) (λ large. Reports large compat) (large_is tree (Some t.0) (canonical_head (tokens tree)) t.1 refl) t.2

pub large_head : (tree : Tree) (head : Head) (compat : Compat) → find is_large (tokens tree) ≡ None → head ≡ canonical_head (tokens tree) → IsSomeAnd (large_header head) (λ large. Reports large compat)
    → IsSomeAnd (too_large_for_32 tree) (λ large. Reports large compat)
large_head tree head compat none at_head found = subst (λ o. IsSomeAnd o (λ large. Reports large compat)) (sym (large_is tree None head none (sym at_head))) found

pub nothing_large : (tree : Tree) (head : Head) → find is_large (tokens tree) ≡ None → head ≡ canonical_head (tokens tree) → large_header head ≡ None → too_large_for_32 tree ≡ None
nothing_large tree head none at_head small = large_is tree None head none (sym at_head) ∙ small
