-- A token that surely passes is the next token.
use Rattle.std.proofs.Common.{ℕ, ◌≡◌, ◌⊎◌, inl, inr, ◌+◌, ◌<◌, ◌≤◌, List, [], ◌∷◌, length, take, drop, get_or, Option, Some, Ok, arith, ap, sym, ◌∙◌, subst}
use Rattle.std.proofs.lemmas.Bool.{cases_lt}
use Rattle.base_data.specs.declared.model.code.CodeKind.{CodeKind}
use Rattle.base_data.specs.declared.model.code.CodeKind.TheVariants as kinds
use Rattle.base_data.specs.declared.model.code.CustomKind.{CustomKind}
use Rattle.base_data.specs.declared.model.code.CustomKind.TheVariants as customs
use Rattle.base_data.specs.declared.model.header.Head.{Head}
use Rattle.marshal_spec.specs.format.Code.{kind_of, custom_of}
use Rattle.marshal_spec.specs.format.Step.{Context, first_refusal}
use Rattle.marshal_spec.proofs.format.EncodeFacts.{VariableFits, TokenFacts, token_length, fields_from_none, none_from_facts}
use Rattle.marshal_spec.proofs.format.TokenStepLemmas.{token_steps-ok}
use Rattle.marshal_read.specs.declared.read_totals.ReadTotals.{ReadTotals}
use Rattle.marshal_read.specs.Totals.{AreTotals, IsNext, PassesTo, context_of, IsPlain}
use Rattle.marshal_read.proofs.ReaderStepLemmas.{bytes_length, bytes_after}

-- If a token ends within the data, then the token's variable bytes fit.
variable_fits : (c : Context) (kind : CodeKind) (custom : Option CustomKind) (rest : List ℕ) → IsPlain kind → c.taken + token_length kind rest ≤ c.head.length → VariableFits c kind custom rest
variable_fits c (kinds.Custom old) (Some customs.Native) rest plain h = absurd plain
variable_fits c kind custom rest plain h = omega arith

-- If each positive count `m` equals `n`, then `m` is 0 or equal to `n`.
none_or : (m n : ℕ) → (0 < m → m ≡ n) → (m ≡ 0) ⊎ (m ≡ n)
none_or m n h = elim (cases_lt 0 m) [ inl some ↦ inr (h some) | inr none ↦ inl (omega arith) ]

-- If a token surely passes, then the facts of the token hold.
facts_from_position : (position next : ReadTotals) (code : ℕ) (kind : CodeKind) (rest : List ℕ) → PassesTo position code kind rest next → TokenFacts (context_of position) kind rest
facts_from_position position next code kind rest p =
    let c : Context = context_of position in
    let length_is = ap (λ (h : Head). h.length) p.next_is.head in
    let objects_is = ap (λ (h : Head). h.objects) p.next_is.head in
    let big_is = ap (λ (h : Head). h.big) p.next_is.head in
    let w32_is = ap (λ (h : Head). h.w32) p.next_is.head in
    let w64_is = ap (λ (h : Head). h.w64) p.next_is.head in
    let fits : VariableFits c kind (custom_of (take 3 rest)) rest = variable_fits c kind (custom_of (take 3 rest)) rest p.plain (omega (arith, length_is, p.next_is.taken, next.room)) in
    record {
      fixed = omega (arith, length_is, p.next_is.taken, next.room);
      fields = fields_from_none c code kind rest p.sound fits;
      variable = fits;
      room = omega (arith, length_is, p.next_is.taken, p.next_is.pending, next.room);
      w32 = λ small. omega (arith, w32_is, p.next_is.w32, next.within32 (sym big_is ∙ small));
      w64 = omega (arith, w64_is, p.next_is.w64, next.within64);
      end = λ last.
          let e = p.ends (omega (arith, p.next_is.pending, last)) in
          record {
            left = omega (arith, length_is, p.next_is.taken, e.taken);
            w32 = λ small. omega (arith, w32_is, p.next_is.w32, e.w32 (sym big_is ∙ small));
            w64 = omega (arith, w64_is, p.next_is.w64, e.w64);
            count = none_or _ _ (λ some. objects_is ∙ e.count (omega (arith, objects_is, some)) ∙ sym p.next_is.objects);
          };
    }

pub passes_next : (position next : ReadTotals) (bytes : List ℕ) (kind : CodeKind) → 0 < length bytes → kind_of (get_or bytes 0 0) ≡ Ok kind
    → PassesTo position (get_or bytes 0 0) kind (drop 1 bytes) next → IsNext (context_of position) bytes (Ok next)
passes_next position next [] kind some k p = absurd (omega arith)
passes_next position next (code ∷ rest) kind some k p =
    let c : Context = context_of position in (
      ap (first_refusal (length (code ∷ rest))) (token_steps-ok c code kind rest k)
          ∙ none_from_facts c code kind rest (length (code ∷ rest)) (facts_from_position position next code kind rest p),
      omega (arith, p.whole, bytes_length (code ∷ rest) kind some k),
      subst (AreTotals next) (bytes_after c (code ∷ rest) kind some k) p.next_is,
    )
