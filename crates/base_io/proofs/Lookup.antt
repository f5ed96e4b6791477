-- The index of a pair with a given name, and the lookup of a name among the files.
use Rattle.std.proofs.Common.{◌≡◌, ◌≢◌, inl, inr, ℕ, ◌<◌, ◌+◌, ◌≤◌, not, Bool, true, false, cond, ltb, List, [], ◌∷◌, map, length, get_or, Some, None, String, Vec, string_bytes, bytes_eq, position, option_map, refl, sym, ap, ◌∙◌, arith}
use Rattle.std.specs.declared.alloc.Global.{Global}
use Rattle.std.specs.List.{position_or_len, slice_get}
use Rattle.std.proofs.lemmas.Option.{cond_some, slice_get-get_or, slice_get_past}
use Rattle.std.proofs.lemmas.List.{length-map, get_or-map}
use Rattle.std.proofs.lemmas.List.Quantifiers.{position-Some}
use Rattle.std.proofs.lemmas.List.Sums.{position_or_len_is}
use Rattle.std.proofs.lemmas.Slice.Eq.{bytes_eq-Decides}
use Rattle.std.proofs.lemmas.Bool.{cases_lt, false_from_ne_true}
use Rattle.std.proofs.lemmas.List.Folds.{find_at}
use Rattle.std.proofs.lemmas.Bool.Decides.{nat_tests, Decides-ltb}
use Rattle.base_io.specs.Files.{File, contents_of, HasNoNameTwice}
use Rattle.base_io.specs.Fakes.{files_of}

position_or_len-map : {X Y : Type 0} (f : X → Y) (p : Y → Bool) (xs : List X) → position_or_len p (map f xs) ≡ position_or_len (λ x. p (f x)) xs
position_or_len-map f p [] = refl
position_or_len-map f p (x ∷ xs) = ap (λ n. cond (not (p (f x))) (1 + n) 0) (position_or_len-map f p xs)

abbrev pub is_named : List ℕ → String Global × Vec ℕ Global → Bool
is_named name pair = bytes_eq (string_bytes pair.0) name

module _ (pairs : List (String Global × Vec ℕ Global)) (name : List ℕ) where
  abbrev index : ℕ
  index = position_or_len (is_named name) pairs

  look_up : contents_of (files_of pairs) name ≡ option_map (λ file. file.1) (slice_get (files_of pairs) index)
  look_up =
      let test : File → Bool = λ file. bytes_eq file.0 name in
      let pair_of : String Global × Vec ℕ Global → File = λ pair. (string_bytes pair.0, pair.1.items) in
      ap (λ found. option_map (λ file. file.1) found)
      (find_at test (files_of pairs) ∙ ap (slice_get (files_of pairs)) (position_or_len-map pair_of test pairs))

  pub found_at : (i : ℕ) → position (is_named name) pairs ≡ Some i
      → (i < length (files_of pairs)) × (contents_of (files_of pairs) name ≡ Some (get_or (files_of pairs) i ([], [])).1)
  found_at i e =
      let both = cond_some (ltb index (length pairs)) index i e in
      let same : length (files_of pairs) ≡ length pairs = length-map pairs _ in
      let is : index ≡ i = both.1 in
      let yes : ltb index (length pairs) ≡ true = both.0 in
      let less : index < length pairs = grind (arith, nat_tests) in
      let within : i < length (files_of pairs) = omega arith in
      (within, look_up ∙ ap (λ found. option_map (λ file. file.1) found) (ap (slice_get (files_of pairs)) is ∙ slice_get-get_or (files_of pairs) i ([], []) within))

  pub not_found : position (is_named name) pairs ≡ None → contents_of (files_of pairs) name ≡ None
  not_found e =
      let same : length (files_of pairs) ≡ length pairs = length-map pairs _ in
      let past : length pairs ≤ index = grind (arith, nat_tests) in
      look_up ∙ ap (λ found. option_map (λ file. file.1) found) (slice_get_past (files_of pairs) index (omega arith))

  pub position_known : (i : ℕ) → index ≡ i → i < length pairs → position (is_named name) pairs ≡ Some i
  position_known i is less = rw (is, (Decides-ltb i (length pairs)).1 less)

-- The first `n` files have distinct names.
abbrev pub AreApart : List File → ℕ → Type 0
AreApart files n = (j k : ℕ) (d : File) → j < k → k < n → (get_or files j d).0 ≢ (get_or files k d).0

module _ (pairs : List (String Global × Vec ℕ Global)) (i : ℕ) (pair : String Global × Vec ℕ Global) (less : i < length pairs) (read : pair ≡ get_or pairs i pair) where
  name_at : (k : ℕ) (d : File) → k < length pairs → (get_or (files_of pairs) k d).0 ≡ string_bytes (get_or pairs k pair).0
  name_at k d h = ap (λ file. file.0) (get_or-map _ pairs k pair d h)

  own_name : string_bytes (get_or pairs i pair).0 ≡ string_bytes pair.0
  own_name = ap (λ p. string_bytes p.0) (sym read)

  pub apart_more : position (is_named (string_bytes pair.0)) pairs ≡ Some i → AreApart (files_of pairs) i → AreApart (files_of pairs) (i + 1)
  apart_more first apart j k d jk ki =
      elim (cases_lt k i) [
        | inl before ↦ apart j k d jk before
        | inr after ↦ λ same.
            let ji : j < i = omega arith in
            let at : k ≡ i = omega arith in
            let here : (get_or (files_of pairs) j d).0 ≡ string_bytes pair.0 = same ∙ ap (λ n. (get_or (files_of pairs) n d).0) at ∙ name_at i d less ∙ own_name in
            let named : is_named (string_bytes pair.0) (get_or pairs j pair) ≡ true = (bytes_eq-Decides _ _).1 (sym (name_at j d (omega arith)) ∙ here) in
            let no : is_named (string_bytes pair.0) (get_or pairs j pair) ≡ false = (position-Some _ pairs i pair first).2 j ji in
            cc
      ]

  pub first_of_its_name : HasNoNameTwice (files_of pairs) → position (is_named (string_bytes pair.0)) pairs ≡ Some i
  first_of_its_name apart =
      let same : length (files_of pairs) ≡ length pairs = length-map pairs _ in
      let test = is_named (string_bytes pair.0) in
      position_known pairs (string_bytes pair.0) i
      (position_or_len_is (is_named (string_bytes pair.0)) pairs i pair (omega arith)
      (λ k ki. false_from_ne_true _ (λ yes.
      apart k i ([], []) ki (omega arith)
      (name_at k ([], []) (omega arith) ∙ (bytes_eq-Decides _ _).0 yes ∙ sym own_name ∙ sym (name_at i ([], []) less))))
      (λ _. (bytes_eq-Decides _ _).1 own_name))
      less

pub apart_at_all : (pairs : List (String Global × Vec ℕ Global)) (n : ℕ) → length pairs ≤ n → AreApart (files_of pairs) n → HasNoNameTwice (files_of pairs)
apart_at_all pairs n all apart j k d jk within =
    let same : length (files_of pairs) ≡ length pairs = length-map pairs _ in
    apart j k d jk (omega arith)
