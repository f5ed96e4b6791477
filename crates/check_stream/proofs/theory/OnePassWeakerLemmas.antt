-- If more second types are recorded and more objects follow, then the tokens still satisfy their
-- requirements.
use Rattle.std.proofs.Common.{ℕ, ◌-◌, inl, inr, ⊎_elim, List, ◌∷◌, ◌++◌, length}
use Rattle.std.specs.Prelude.{Contains}
use Rattle.base_data.specs.declared.model.value.Val.{Val}
use Rattle.base_data.specs.declared.model.value.Val.TheVariants as vals
use Rattle.base_data.proofs.model.Lists.{slice_get-append_left}
use Rattle.types_spec.specs.types.Table.{Table}
use Rattle.marshal_spec.specs.format.Token.{Token, integer, atom, shared, block, leaf}
use Rattle.check_stream.specs.theory.AskedNeeds.{Need, of_type, hash_of, IsBack, Asks}
use Rattle.check_stream.specs.theory.OnePass.{PassedTokens, start, further}
use Rattle.check_stream.specs.theory.Noted.{IsAt}

module _ (table : Table) (noted more : List (ℕ × ℕ)) (kept : (o t : ℕ) → Contains noted (o, t) → Contains more (o, t)) where
  back_weaker : (types : List ℕ) (t offset : ℕ) → IsBack noted table types t offset → IsBack more table types t offset
  back_weaker types t offset back = record {
    some = back.some;
    few = back.few;
    type = back.type;
    at = ⊎_elim (λ first. inl first) (λ second. inr (kept (length types - offset) back.type second)) back.at;
    equal = back.equal;
  }

  pub asks_weaker : (types : List ℕ) (need : Need) (token : Token) (next : List Need) → Asks noted table types need token next → Asks more table types need token next
  asks_weaker types (of_type t) (integer z) next asks = asks
  asks_weaker types (of_type t) (atom tag) next asks = asks
  asks_weaker types (of_type t) (shared offset) next asks = (⊎_elim (λ wildcard. inl wildcard) (λ back. inr (back_weaker types t offset back)) asks.0, asks.1)
  asks_weaker types (of_type t) (block tag size) next asks = asks
  asks_weaker types (of_type t) (leaf object) next asks = asks
  asks_weaker types (hash_of tags) (integer z) next asks = asks
  asks_weaker types (hash_of tags) (atom tag) next asks = asks
  asks_weaker types (hash_of tags) (shared offset) next asks = asks
  asks_weaker types (hash_of tags) (block tag size) next asks = asks
  asks_weaker types (hash_of tags) (leaf object) next asks = asks

  pub passed_weaker : (ts : List Token) (types : List ℕ) (needs : List Need) → PassedTokens noted table ts types needs → PassedTokens more table ts types needs
  passed_weaker ts types needs start = start
  passed_weaker ts types needs (further tokens types' need needs' next token before asks) =
      further tokens types' need needs' next token (passed_weaker tokens types' (need ∷ needs') before) (asks_weaker types' need token next asks)

  -- If more objects follow, then a field of a recorded block still satisfies its requirement.
  pub at_weaker : (types later : List ℕ) (v : Val) (t : ℕ) → IsAt table types noted v t → IsAt table (types ++ later) more v t
  at_weaker types later (vals.Int z) t at = at
  at_weaker types later (vals.Atom tag) t at = at
  at_weaker types later (vals.Ref o) t (inl wildcard) = inl wildcard
  at_weaker types later (vals.Ref o) t (inr at) =
      inr (at.0, ⊎_elim (λ first. inl (slice_get-append_left types later o at.0 first)) (λ second. inr (kept o at.0 second)) at.1, at.2)
