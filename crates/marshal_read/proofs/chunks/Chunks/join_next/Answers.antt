use Rattle.std.proofs.Common.{rules, arith, List, ℕ, [], ◌≡◌, ◌++◌, ◌-◌, ◌≤◌, ◌<◌, length, take, subst, sym, ap, ◌∙◌, refl}
use Rattle.marshal_read.specs.Chunks.{LeadsAs}
use Rattle.marshal_read.specs.Reading.{RefusedIn}
use Rattle.marshal_read.proofs.ChunksLemmas.{leads_at, joined_whole, joined_part, joined_refused}
use Rattle.marshal_read.proofs.chunks.Chunks.join_next.Goals as goal

pub returns-in-Ok : goal.returns-in-Ok
returns-in-Ok c = λ limit taken h.
    let rest = c.args.rest.now in
    let part = c.args.self.now.part.items in
    let new = c.next.new.self in
    let len = c.in-Ok.len in
    let items : c.extend_from_slice.new.self.items ≡ part ++ c.joined-more.result.now = search rules in
    let e : c.as_slice.result.now ≡ part ++ take 4096 rest = c.as_slice.ensures.value ∙ items ∙ ap (λ xs. part ++ xs) c.joined-more.ensures in
    let n = joined_whole c.args.self.now.reading.limit taken part rest 4096 new len (c.in-Ok.ensures.next taken part (take 4096 rest) (leads_at limit taken c.args.self.now part h refl) e) in
    let before : length part ≡ c.len-before.result = search rules in (
      omega (arith, n.0, before),
      omega (arith, n.1, before),
      (
        c.in-Ok.ensures.limit ∙ h.0,
        subst (λ (xs : List ℕ). LeadsAs new.totals limit (taken ++ take (len - c.len-before.result) rest) new.builder xs) (sym c.clear.ensures.items)
            (subst (λ (k : ℕ). LeadsAs new.totals limit (taken ++ take (len - k) rest) new.builder []) before
            (subst (λ (k : ℕ). LeadsAs new.totals k (taken ++ take (len - length part) rest) new.builder []) h.0 n.2)),
      ),
    )

pub returns-in-Err-NeedMore : goal.returns-in-Err-NeedMore
returns-in-Err-NeedMore c = λ limit taken h.
    let rest = c.args.rest.now in
    let part = c.args.self.now.part.items in
    let new = c.next.new.self in
    let more = c.joined-more.result.now in
    let items : c.extend_from_slice.new.self.items ≡ part ++ more = search rules in
    let e : c.as_slice.result.now ≡ part ++ take 4096 rest = c.as_slice.ensures.value ∙ items ∙ ap (λ xs. part ++ xs) c.joined-more.ensures in
    let next = rw c.in-Err-NeedMore.field-0-is at c.in-Err-NeedMore.ensures.next in
    let n = joined_part c.args.self.now.reading.limit taken part rest 4096 new (omega arith) c.requires.some (next taken part (take 4096 rest) (leads_at limit taken c.args.self.now part h refl) e) in
    let same : take 4096 rest ≡ more = sym c.joined-more.ensures in (
      subst (λ (xs : List ℕ). 0 < length xs) same n.0,
      subst (λ (xs : List ℕ). length xs ≤ length rest) same n.1,
      (
        c.in-Err-NeedMore.ensures.limit ∙ h.0,
        subst (λ (xs : List ℕ). LeadsAs new.totals limit (taken ++ take (length more) rest) new.builder xs) (sym items)
            (subst (λ (xs : List ℕ). LeadsAs new.totals limit (taken ++ take (length xs) rest) new.builder (part ++ xs)) same
            (subst (λ (k : ℕ). LeadsAs new.totals k (taken ++ take (length (take 4096 rest)) rest) new.builder (part ++ take 4096 rest)) h.0 n.2)),
      ),
    )

pub returns-in-Err-Refused : goal.returns-in-Err-Refused
returns-in-Err-Refused c = λ limit taken h.
    let rest = c.args.rest.now in
    let part = c.args.self.now.part.items in
    let items : c.extend_from_slice.new.self.items ≡ part ++ c.joined-more.result.now = search rules in
    let e : c.as_slice.result.now ≡ part ++ take 4096 rest = c.as_slice.ensures.value ∙ items ∙ ap (λ xs. part ++ xs) c.joined-more.ensures in
    let next = rw c.in-Err-Refused.field-0-is at c.in-Err-Refused.ensures.next in
    joined_refused limit taken part rest 4096 c.next.new.self c.in-Err-Refused.refusal
    (subst (λ (k : ℕ). RefusedIn k (taken ++ take 4096 rest) c.in-Err-Refused.refusal) h.0 (next taken part (take 4096 rest) (leads_at limit taken c.args.self.now part h refl) e))
