-- The number of values for the open positions is the number of values that are still to be read.
use Rattle.std.proofs.Common.{ℕ, ◌+◌, ◌<◌, ◌≡◌, refl, List, [], ◌∷◌, ◌++◌, map, ap, arith}
use Rattle.std.proofs.lemmas.List.{map-append}
use Rattle.types_spec.specs.types.Table.{Table}
use Rattle.marshal_spec.specs.format.Words.{of_object, fields, pending}
use Rattle.marshal_spec.specs.format.Token.{Token, integer, atom, shared, block, leaf, measure_of}
use Rattle.marshal_spec.specs.format.Tree.{tokens}
use Rattle.marshal_spec.specs.format.Preorder.{OpenBefore}
use Rattle.marshal_spec.proofs.format.Pending.{pending_push, OpenBefore-append}
use Rattle.marshal_spec.proofs.format.Counts.{leaf_fields}
use Rattle.check_stream.specs.theory.AskedNeeds.{Need, of_type, hash_of, Asks, values_in}
use Rattle.check_stream.specs.theory.OnePass.{PassedTokens, start, further}
use Rattle.check_stream.proofs.theory.BlockLemmas.{fields_many}

-- ---- open positions and values still to be read

pub values_in-append : (xs ys : List Need) → values_in (xs ++ ys) ≡ values_in xs + values_in ys
values_in-append [] ys = omega arith
values_in-append (of_type t ∷ xs) ys = let same = values_in-append xs ys in omega (arith, same)
values_in-append (hash_of tags ∷ xs) ys = let same = values_in-append xs ys in omega (arith, same)

module _ (noted : List (ℕ × ℕ)) (table : Table) where
  -- If a token takes the first position, then the values of its fields replace the one value of the
  -- token.
  asked_many : (types : List ℕ) (need : Need) (token : Token) (needs next : List Need) → Asks noted table types need token next → values_in (next ++ needs) + 1 ≡ values_in (need ∷ needs) + of_object fields (measure_of token)
  asked_many types (of_type t) (integer z) needs next asks = let is = ap (λ xs. values_in (xs ++ needs)) asks.1 in omega (arith, is)
  asked_many types (of_type t) (atom tag) needs next asks = let is = ap (λ xs. values_in (xs ++ needs)) asks.1 in omega (arith, is)
  asked_many types (of_type t) (shared offset) needs next asks = let is = ap (λ xs. values_in (xs ++ needs)) asks.1 in omega (arith, is)
  asked_many types (of_type t) (block tag size) needs next asks =
      let many = fields_many table t tag size next asks in
      let both = values_in-append next needs in omega (arith, many, both)
  asked_many types (of_type t) (leaf object) needs next asks =
      let is = ap (λ xs. values_in (xs ++ needs)) asks.1 in let none' = leaf_fields object in omega (arith, is, none')
  asked_many types (hash_of tags) (integer z) needs next asks = let is = ap (λ xs. values_in (xs ++ needs)) asks.argument in omega (arith, is)
  asked_many types (hash_of tags) (atom tag) needs next asks = absurd asks
  asked_many types (hash_of tags) (shared offset) needs next asks = absurd asks
  asked_many types (hash_of tags) (block tag size) needs next asks = absurd asks
  asked_many types (hash_of tags) (leaf object) needs next asks = absurd asks

  need_some : (need : Need) (needs : List Need) → 0 < values_in (need ∷ needs)
  need_some (of_type t) needs = omega arith
  need_some (hash_of tags) needs = omega arith

  pub passed_many : (ts : List Token) (types : List ℕ) (needs : List Need) → PassedTokens noted table ts types needs → pending (map measure_of ts) ≡ values_in needs
  passed_many ts types needs start = refl
  passed_many ts types needs (further tokens types' need needs' next token before asks) =
      let earlier = passed_many tokens types' (need ∷ needs') before in
      let some = need_some need needs' in
      let push = pending_push (map measure_of tokens) (measure_of token) (omega (arith, earlier, some)) in
      let same = ap pending (map-append measure_of tokens (token ∷ [])) in
      let many = asked_many types' need token needs' next asks in
      omega (arith, earlier, some, push, same, many)

  pub passed_open : (ts : List Token) (types : List ℕ) (needs : List Need) → PassedTokens noted table ts types needs → OpenBefore [] ts
  passed_open ts types needs start = tt
  passed_open ts types needs (further tokens types' need needs' next token before asks) =
      let earlier = passed_many tokens types' (need ∷ needs') before in
      let some = need_some need needs' in
      let last : 0 < pending (map measure_of tokens) = omega (arith, earlier, some) in
      OpenBefore-append [] tokens (token ∷ []) (passed_open tokens types' (need ∷ needs') before) (last, tt)
