-- The effect of each kind of token on the state of the pass.
use Rattle.std.proofs.Common.{ℕ, ℤ, ◌≡◌, ◌∙◌, ◌+◌, ◌++◌, List, [], ◌∷◌, Some, refl, sym, ap, arith}
use Rattle.std.specs.Prelude.{IsTrue}
use Rattle.std.proofs.lemmas.List.{append-nil}
use Rattle.types_spec.specs.declared.types.shape.PolyTag.{PolyTag}
use Rattle.types_spec.specs.types.Fitting.{fits_int, fits_atom, tag_with}
use Rattle.types_spec.specs.types.Table.{Table}
use Rattle.marshal_spec.specs.format.Token.{integer, atom, shared, block}
use Rattle.check_stream.specs.theory.AskedNeeds.{Need, of_type, hash_of, shape_at, fields_ask, IsBackAt}
use Rattle.check_stream.specs.declared.checker.check_state.CheckState.{CheckState}
use Rattle.check_stream.specs.checker.CheckerState.{types_in, needs_in, Took}
use Rattle.check_stream.specs.declared.checker.stated_words.Words.{Words}

module _ (table : Table) (state : CheckState) where
  pub took_integer : (t : ℕ) (z : ℤ) → IsTrue (fits_int (shape_at table t) z) → Took table state state (of_type t) (integer z)
  took_integer t z fits = record {
    next = [];
    asks = (fits, refl);
    types = sym (append-nil (types_in state));
    needs = refl;
    w32 = omega arith;
    w64 = omega arith;
  }

  pub took_atom : (t tag : ℕ) → IsTrue (fits_atom (shape_at table t) tag) → Took table state state (of_type t) (atom tag)
  took_atom t tag fits = record {
    next = [];
    asks = (fits, refl);
    types = sym (append-nil (types_in state));
    needs = refl;
    w32 = omega arith;
    w64 = omega arith;
  }

  pub took_shared : (t offset : ℕ) → IsBackAt [] table (types_in state) t offset → Took table state state (of_type t) (shared offset)
  took_shared t offset back = record {
    next = [];
    asks = (back, refl);
    types = sym (append-nil (types_in state));
    needs = refl;
    w32 = omega arith;
    w64 = omega arith;
  }

pub took_hash :
    (table : Table) (old new : CheckState) (tags : List (PolyTag ℕ)) (z : ℤ) (tag : PolyTag ℕ) (t : ℕ) → tag_with tags z ≡ Some tag → tag.arg ≡ Some t
    → types_in new ≡ types_in old → needs_in new ≡ of_type t ∷ needs_in old → new.words ≡ old.words → Took table old new (hash_of tags) (integer z)
took_hash table old new tags z tag t has_hash has_argument types needs words = record {
  next = of_type t ∷ [];
  asks = record { tag = tag; has_hash = has_hash; type = t; has_argument = has_argument; argument = refl };
  types = types ∙ sym (append-nil (types_in old));
  needs = needs;
  w32 = let same = ap (λ (w : Words). w.w32) words in omega (arith, same);
  w64 = let same = ap (λ (w : Words). w.w64) words in omega (arith, same);
}

pub took_block :
    (table : Table) (old new : CheckState) (t tag size : ℕ) (next : List Need) → fields_ask table t tag size ≡ Some next → types_in new ≡ types_in old ++ t ∷ [] → needs_in new ≡ next ++ needs_in old
    → new.words.w32 + (1 + size) ≡ old.words.w32 → new.words.w64 + (1 + size) ≡ old.words.w64 → Took table old new (of_type t) (block tag size)
took_block table old new t tag size next asks types needs w32 w64 = record {
  next = next;
  asks = asks;
  types = types;
  needs = needs;
  w32 = w32;
  w64 = w64;
}
