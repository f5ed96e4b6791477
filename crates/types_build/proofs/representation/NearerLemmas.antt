-- Lemmas about the next type in a sequence of expansions.
use Rattle.std.proofs.Common.{ℕ, suc, ◌<◌, ◌≡◌, ◌∙◌, List, length, Option, Some, None, sym, ap, subst, arith}
use Rattle.std.specs.Prelude.{MatchOption}
use Rattle.std.proofs.lemmas.Option.{get_or_from_slice_get, slice_get_within}
use Rattle.types_spec.specs.declared.types.decl.Decl.{Decl}
use Rattle.types_spec.specs.types.Ty.{Ty, tuple}
use Rattle.types_spec.specs.types.TypeNodes.{type_at}
use Rattle.types_spec.specs.types.Declarations.{unfolded}
use Rattle.types_spec.specs.types.WellFormed.{AreSound}
use Rattle.types_spec.specs.types.Head.{head}
use Rattle.types_spec.proofs.types.TypeNodeLemmas.{at_kept}
use Rattle.types_theory.proofs.equality.EqualityNeedLemmas.{head_again}
use Rattle.types_theory.proofs.equality.RankedLemmas.{are_ranked}
use Rattle.types_table.specs.store.Held.{Grows}
use Rattle.types_build.specs.representation.Unfolded.{IsReplaced, IsLeft}
use Rattle.types_build.specs.representation.AbbreviationWay.{EachPasses, IsNearer}
use Rattle.types_build.proofs.representation.RepresentationReplacedLemmas.{ComesTo, times_more}
use Rattle.types_build.proofs.representation.RepresentationWayLemmas.{passes_once, comes_more, way_head, way_work}
use Rattle.types_build.specs.representation.Work.{work}
use Rattle.types_build.proofs.representation.WorkLemmas.{work_again}

pub type_kept : (old new : List Ty) (i : ℕ) → Grows old new → i < length old → type_at new i ≡ type_at old i
type_kept old new i grown within = ap (λ ts. type_at ts i) grown.kept ∙ at_kept old grown.added i within

module _ (decls : List Decl) where
  abbrev NextOf : Option ℕ → List Ty → Ty → Option ℕ → Type 0
  NextOf group types t next = MatchOption next (unfolded decls t ≡ None) (IsNearer decls group types t)

  -- One expansion.
  module _ (group : Option ℕ) where
    pub once_is :
        (old new : List Ty) (t : Ty) (next : Option ℕ) → MatchOption next (IsLeft decls old new t) (IsReplaced decls old new t)
        → NextOf group new t next
    once_is old new t None left = left.none
    once_is old new t (Some n) replaced = record {
      first = replaced.next;
      is = replaced.is;
      leads = (0, sym (get_or_from_slice_get new n replaced.next tuple replaced.holds.there));
      within = slice_get_within new n replaced.next replaced.holds.there;
    }

    -- If an abbreviation is known to expand to an argument, then expansions outside the group lead
    -- to the argument.
    pub passed_is :
        (types : List Ty) (number n : ℕ) → number < length types → n < number
        → EachPasses decls group (type_at types number) (type_at types n) → IsNearer decls group types (type_at types number) n
    passed_is types number n within less passes =
        let once = passes_once decls group (type_at types number) (type_at types n) passes in
        record { first = once.1.0; is = once.1.2; leads = (once.0, once.1.3); within = omega (arith, within, less) }

    -- Known expansions, after the type store has grown.
    pub later_is :
        (old mid new : List Ty) (number : ℕ) (next : Option ℕ) → Grows old mid → number < length old
        → NextOf group new (type_at mid number) next → NextOf group new (type_at old number) next
    later_is old mid new number next grown within is =
        subst (λ (t : Ty). NextOf group new t next) (type_kept old mid number grown within) is

    module _ (sound : AreSound decls) where
      -- ---- one iteration

      pub nearer_head : (types : List Ty) (t : Ty) (n : ℕ) → IsNearer decls group types t n → head decls (type_at types n) ≡ head decls t
      nearer_head types t n nearer =
          sym (head_again decls sound.rank (are_ranked decls sound) t nearer.first nearer.is
          ∙ way_head decls group sound nearer.leads.0 nearer.first (type_at types n) nearer.leads.1)

      pub nearer_work : (types : List Ty) (t : Ty) (n : ℕ) → IsNearer decls group types t n → work decls (type_at types n) < work decls t
      nearer_work types t n nearer =
          let rest = way_work decls group sound nearer.leads.0 nearer.first (type_at types n) nearer.leads.1 in
          let one = work_again decls sound t nearer.first nearer.is in
          omega (arith, rest, one)

      pub nearer_work_more : (types : List Ty) (t : Ty) (n : ℕ) → IsNearer decls group types t n
          → suc (work decls (type_at types n)) < work decls t
      nearer_work_more types t n nearer =
          let rest = way_work decls group sound nearer.leads.0 nearer.first (type_at types n) nearer.leads.1 in
          let one = work_again decls sound t nearer.first nearer.is in
          omega (arith, rest, one)

    pub nearer_comes :
        (types : List Ty) (t u : Ty) (n : ℕ) → ComesTo decls t u → IsNearer decls group types u n → ComesTo decls t (type_at types n)
    nearer_comes types t u n comes nearer =
        comes_more decls group nearer.leads.0 t nearer.first (type_at types n)
        (record { times = suc comes.times; replaced = times_more decls comes.times t u nearer.first comes.replaced nearer.is })
        nearer.leads.1
