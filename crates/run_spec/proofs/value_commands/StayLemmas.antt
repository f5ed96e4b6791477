-- Refusals and exit reasons remain if more bytes follow.
use Rattle.std.proofs.Common.{◌≡◌, ℕ, List, [], ◌∷◌, ◌++◌, refl, sym, subst, length-append, arith}
use Rattle.std.proofs.lemmas.List.{take-append-le}
use Rattle.base_data.specs.declared.model.refusal.ReadRefusal.{ReadRefusal}
use Rattle.marshal_spec.specs.format.Prefix.{IsRefused}
use Rattle.marshal_spec.specs.format.Stream.{refused, IsTail}
use Rattle.marshal_spec.specs.format.Tree.{Tree}
use Rattle.cli_spec.specs.Outcome.{Language, ValueWork, reports, edits, dumps, compares, ExitsAt}
use Rattle.cli_spec.specs.declared.exit.Exit.{Exit}
use Rattle.run_spec.proofs.runs.RunValueLemmas.{encode_after}

-- If the first bytes are refused, then all bytes are refused.
pub tail_after :
    (limit : ℕ) (tail more : List ℕ) (refusal : ReadRefusal)
    → IsTail limit tail (refused refusal) → IsTail limit (tail ++ more) (refused refusal)
tail_after limit tail more refusal (n, fits, is) = (
  n,
  omega (arith, fits, length-append tail more),
  subst (λ b. IsRefused limit b refusal) (sym (take-append-le n tail more fits)) is,
)

prefix_none : (xs ys : List ℕ) → xs ++ ys ≡ [] → xs ≡ []
prefix_none [] ys e = refl
prefix_none (x ∷ xs) ys e = absurd (cc e)

-- An exit reason remains if more bytes follow.
pub exits_more :
    {D T E : Type 0} (language : Language D T E) (work : ValueWork T E) (limit : ℕ) (trees : List Tree)
    (rest more : List ℕ) (exit : Exit)
    → ExitsAt language work limit trees rest exit
    → ExitsAt language work limit trees (rest ++ more) exit
exits_more language (reports query type) limit trees rest more exit at = at
exits_more language (edits type script compat) limit trees rest more exit at = record {
  tree = at.tree;
  more = at.more ++ more;
  encoded = encode_after limit rest at.more more (at.tree ∷ []) at.encoded;
  why = at.why;
  refused = at.refused;
  exits = at.exits;
}
exits_more language dumps limit trees rest more exit at = at
exits_more language compares limit trees rest more exit (two, some, is) =
    (two, λ none. some (prefix_none rest more none), is)
