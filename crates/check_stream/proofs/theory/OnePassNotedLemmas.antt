-- If more tokens are read and more second types are recorded, then the records of second types stay
-- valid.
use Rattle.std.proofs.Common.{ℕ, ◌+◌, ◌<◌, ◌≡◌, ◌∙◌, inl, inr, List, [], ◌∷◌, ◌++◌, length, map, Some, sym, ap, subst, arith}
use Rattle.std.specs.Prelude.{slice_get, Contains}
use Rattle.std.proofs.lemmas.List.{append_assoc}
use Rattle.std.proofs.lemmas.Option.{same_Some}
use Rattle.base_data.proofs.model.Options.{slice_get_there}
use Rattle.base_data.specs.declared.model.value.Val.{Val}
use Rattle.base_data.specs.declared.model.header.Head.{Head}
use Rattle.base_data.proofs.model.Lists.{slice_get-append_left}
use Rattle.types_spec.specs.types.Table.{Table}
use Rattle.marshal_spec.specs.format.Words.{objects}
use Rattle.marshal_spec.specs.format.Token.{Token, measure_of}
use Rattle.marshal_spec.specs.format.Tree.{made_by}
use Rattle.marshal_spec.proofs.format.Counts.{objects-tokens-cons}
use Rattle.check_stream.specs.theory.AskedNeeds.{Need, of_type, hash_of}
use Rattle.check_stream.specs.theory.Noted.{AreAt, Stands, flat_values, IsFlatNoted}
use Rattle.check_stream.specs.theory.OnePass.{IsPassing}
use Rattle.check_stream.proofs.theory.OnePassWeakerLemmas.{at_weaker, passed_weaker}

-- If tokens are appended, then a flat block stays among the tokens.
pub stands_more : (c : ℕ) (ts us : List Token) (o tag : ℕ) (flat : List Token) → Stands c ts o tag flat → Stands c (ts ++ us) o tag flat
stands_more c [] us o tag flat h = absurd h
stands_more c (token ∷ ts) us o tag flat (inl h) = inl (h.0 ++ us, h.1, h.2, h.3, ap (λ xs. xs ++ us) h.4 ∙ append_assoc flat h.0 us)
stands_more c (token ∷ ts) us o tag flat (inr h) = inr (stands_more (c + made_by token) ts us o tag flat h)

-- If tokens are prepended, then a flat block stays among the tokens.
pub stands_after : (c : ℕ) (first ts : List Token) (o tag : ℕ) (flat : List Token) → Stands (c + objects (map measure_of first)) ts o tag flat → Stands c (first ++ ts) o tag flat
stands_after c [] ts o tag flat h = let same : c + 0 ≡ c = omega arith in subst (λ n. Stands n ts o tag flat) same h
stands_after c (t ∷ first) ts o tag flat h =
    let one = objects-tokens-cons t first in
    let same : c + objects (map measure_of (t ∷ first)) ≡ (c + made_by t) + objects (map measure_of first) = omega (arith, one) in
    inr (stands_after (c + made_by t) first ts o tag flat (subst (λ n. Stands n ts o tag flat) same h))

module _ (table : Table) (noted more : List (ℕ × ℕ)) (kept : (o t : ℕ) → Contains noted (o, t) → Contains more (o, t)) where
  -- If more objects follow, then the fields still satisfy their requirements.
  pub ats_more : (all later : List ℕ) (vs : List Val) (needs : List Need) → AreAt table all noted vs needs → AreAt table (all ++ later) more vs needs
  ats_more all later [] [] at = tt
  ats_more all later [] (need ∷ needs) at = absurd at
  ats_more all later (v ∷ vs) [] at = absurd at
  ats_more all later (v ∷ vs) (of_type t ∷ needs) at = (at_weaker table noted more kept all later v t at.0, ats_more all later vs needs at.1)
  ats_more all later (v ∷ vs) (hash_of tags ∷ needs) at = (
    at.0,
    record {
      hash = at.1.hash;
      is_hash = at.1.is_hash;
      tag = at.1.tag;
      has_hash = at.1.has_hash;
      has_argument = at.1.has_argument;
    },
    ats_more all later vs (of_type at.0 ∷ needs) at.2,
  )

  -- If more tokens and objects follow, then a recorded block stays valid.
  pub noted_more : (all later : List ℕ) (ts us : List Token) (o t : ℕ) → o < length all → IsFlatNoted table all noted ts o t → IsFlatNoted table (all ++ later) more (ts ++ us) o t
  noted_more all later ts us o t within f =
      let there = slice_get_there all o within in
      record {
        tag = f.tag;
        flat = f.flat;
        next = f.next;
        stands = stands_more 0 ts us o f.tag f.flat f.stands;
        asked = f.asked;
        at = ats_more all later (flat_values o f.flat) f.next f.at;
        fixed = f.fixed;
        first_fixed = λ u at_o mutable.
            let same : there.0 ≡ u = same_Some there.0 u (sym (slice_get-append_left all later o there.0 there.1) ∙ at_o) in
            f.first_fixed u (subst (λ x. slice_get all o ≡ Some x) same there.1) mutable;
      }

  -- If more second types are recorded, then the invariant of the pass still holds.
  pub passing_more :
      (limit : ℕ) (bytes : List ℕ) (head : Head) (start n : ℕ) (tokens : List Token) (types : List ℕ) (needs : List Need)
      → IsPassing noted table limit bytes head start n tokens types needs → IsPassing more table limit bytes head start n tokens types needs
  passing_more limit bytes head start n tokens types needs p = record {
    header = p.header;
    chunks = p.chunks;
    within = p.within;
    is_header = p.is_header;
    head_is = p.head_is;
    begins = p.begins;
    taken = p.taken;
    encodes = p.encodes;
    refer_back = p.refer_back;
    made = p.made;
    unshared = p.unshared;
    passed = passed_weaker table noted more kept tokens types needs p.passed;
    words = p.words;
    small = p.small;
  }
