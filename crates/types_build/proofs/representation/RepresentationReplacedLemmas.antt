-- Expansions at the head do not change the head.
use Rattle.std.proofs.Common.{ℕ, zero, suc, ◌≡◌, ◌∙◌, List, Option, Some, None, refl, ap}
use Rattle.std.specs.Prelude.{option_and_then}
use Rattle.std.proofs.lemmas.Option.{none-some, same_Some}
use Rattle.types_spec.specs.declared.types.decl.Decl.{Decl}
use Rattle.types_spec.specs.types.Ty.{Ty}
use Rattle.types_spec.specs.types.Declarations.{unfolded, unfolded_times}

-- The type `u` results from `t` by some expansions at the head.
pub record ComesTo (decls : List Decl) (t u : Ty) : Type 0 where
  pub times : ℕ
  pub replaced : unfolded_times decls times t ≡ Some u

pub comes_to_itself : (decls : List Decl) (t : Ty) → ComesTo decls t t
comes_to_itself decls t = record { times = 0; replaced = refl }

pub times_more : (decls : List Decl) (n : ℕ) (t u v : Ty) → unfolded_times decls n t ≡ Some u → unfolded decls u ≡ Some v
    → unfolded_times decls (suc n) t ≡ Some v
times_more decls zero t u v is next =
    ap (option_and_then (unfolded_times decls zero)) (ap (unfolded decls) (same_Some t u is) ∙ next)
times_more decls (suc n) t u v is next = by (λ w some. times_more decls n w u v some next) (unfolded decls t) is where
  by : ((w : Ty) → unfolded_times decls n w ≡ Some u → unfolded_times decls (suc n) w ≡ Some v) → (o : Option Ty)
      → option_and_then (unfolded_times decls n) o ≡ Some u → option_and_then (unfolded_times decls (suc n)) o ≡ Some v
  by rest None none = absurd (none-some u none)
  by rest (Some w) some = rest w some
