-- A token is accepted if its summary is accepted.
use Rattle.std.proofs.Common.{ℕ, ℤ, ◌≡◌, List, length, sym, subst}
use Rattle.base_data.specs.declared.model.code.CustomKind.{CustomKind}
use Rattle.base_data.specs.declared.model.value.Obj.TheVariants as objects
use Rattle.types_spec.specs.types.Table.{Table}
use Rattle.marshal_spec.specs.format.Token.{Token, integer, atom, shared, block, leaf}
use Rattle.marshal_spec.specs.format.Tree.{RefersBack}
use Rattle.marshal_spec.specs.format.Encoded.{IsNoReference}
use Rattle.marshal_codec.specs.declared.token.summary.Summary.{Summary}
use Rattle.marshal_codec.specs.declared.token.summary.Summary.TheVariants as summaries
use Rattle.marshal_codec.specs.token.Summary.{custom_leaf, IsSummaryBy}
use Rattle.check_stream.specs.theory.AskedNeeds.{Need}
use Rattle.check_stream.specs.declared.checker.check_state.CheckState.{CheckState}
use Rattle.check_stream.specs.checker.CheckerState.{types_in, Took, TookSummary, TookPrefix}

-- ---- each summary

module _ (table : Table) (old new : CheckState) (need : Need) (summary : Summary) where
  as_summary : (other : Summary) → summary ≡ other → TookSummary table old new need other → TookSummary table old new need summary
  as_summary other is took = subst (TookSummary table old new need) (sym is) took

  plain : (token other : Token) → token ≡ other → IsNoReference other → Took table old new need other → IsNoReference token × Took table old new need token
  plain token other is free took = (subst IsNoReference (sym is) free, subst (Took table old new need) (sym is) took)

  pub took_integer : (z : ℤ) → summary ≡ summaries.Integer z → Took table old new need (integer z) → TookSummary table old new need summary
  took_integer z is took = as_summary (summaries.Integer z) is (λ token its. plain token (integer z) its tt took)

  pub took_atom : (tag : ℕ) → summary ≡ summaries.Atom tag → Took table old new need (atom tag) → TookSummary table old new need summary
  took_atom tag is took = as_summary (summaries.Atom tag) is (λ token its. plain token (atom tag) its tt took)

  pub took_block : (tag size : ℕ) → summary ≡ summaries.Block tag size → Took table old new need (block tag size) → TookSummary table old new need summary
  took_block tag size is took = as_summary (summaries.Block tag size) is (λ token its. plain token (block tag size) its tt took)

  pub took_bytes : (n : ℕ) → summary ≡ summaries.Bytes n → ((all : List ℕ) → length all ≡ n → Took table old new need (leaf (objects.Bytes all))) → TookSummary table old new need summary
  took_bytes n is took = as_summary (summaries.Bytes n) is (λ token its. plain token (leaf (objects.Bytes its.0)) its.2 tt (took its.0 its.1))

  pub took_double : summary ≡ summaries.Double → ((bits : ℕ) → Took table old new need (leaf (objects.Double bits))) → TookSummary table old new need summary
  took_double is took = as_summary summaries.Double is (λ token its. plain token (leaf (objects.Double its.0)) its.1 tt (took its.0))

  pub took_doubles : (n : ℕ) → summary ≡ summaries.Doubles n → ((all : List ℕ) → length all ≡ n → Took table old new need (leaf (objects.Doubles all))) → TookSummary table old new need summary
  took_doubles n is took = as_summary (summaries.Doubles n) is (λ token its. plain token (leaf (objects.Doubles its.0)) its.2 tt (took its.0 its.1))

  pub took_custom : (kind : CustomKind) → summary ≡ summaries.Custom kind → ((z : ℤ) → Took table old new need (leaf (custom_leaf kind z))) → TookSummary table old new need summary
  took_custom kind is took = as_summary (summaries.Custom kind) is (λ token its. plain token (leaf (custom_leaf kind its.0)) its.1 tt (took its.0))

-- ---- the token

-- A token that is no reference may follow any number of objects.
follows_any : (token : Token) (made : ℕ) → IsNoReference token → RefersBack token made
follows_any (integer z) made free = tt
follows_any (atom tag) made free = tt
follows_any (shared offset) made free = absurd free
follows_any (block tag size) made free = tt
follows_any (leaf object) made free = tt

pub took_prefix : (table : Table) (stated : ℕ) (old new : CheckState) (need : Need) (rest : List ℕ) (summary : Summary) (n : ℕ) → IsSummaryBy rest summary n → TookSummary table old new need summary → TookPrefix table stated old new need rest n
took_prefix table stated old new need rest summary n by took =
    let own = took by.token by.is_summary in
    record {
      within = by.within;
      token = by.token;
      encodes = by.encodes;
      there = record { is_token = by.is_token; back = follows_any by.token (length (types_in old)) own.0; unshared = λ _. own.0 };
      took = own.1;
    }
