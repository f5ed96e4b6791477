use Rattle.std.proofs.Common.{List, ℕ, [], ◌≡◌, ◌++◌, take, subst, sym, ◌∙◌, refl, arith}
use Rattle.marshal_read.specs.Chunks.{LeadsAs}
use Rattle.marshal_read.specs.Reading.{RefusedIn}
use Rattle.marshal_read.proofs.ChunksLemmas.{still_leads, next_taken_whole}
use Rattle.marshal_read.proofs.chunks.Chunks.take_next.Goals as goal

pub returns-in-Ok : goal.returns-in-Ok
returns-in-Ok c = λ limit taken h.
    let rest = c.args.rest.now in
    let middle = c.take_common-common.new.self in
    let new = c.next.new.self in
    let l = still_leads limit taken rest c.args.self.now middle c.take_common-common.result h c.requires.none c.take_common-common.ensures.limit (omega arith) c.take_common-common.ensures.takes in
    let n = next_taken_whole middle.limit taken rest c.in-Ok.len new (c.in-Ok.ensures.next taken [] rest l refl) in
    let limit_is : middle.limit ≡ limit = c.take_common-common.ensures.limit ∙ h.0 in (
      n.0,
      n.1,
      (
        c.in-Ok.ensures.limit ∙ limit_is,
        subst (λ (xs : List ℕ). LeadsAs new.totals limit (taken ++ take c.in-Ok.len rest) new.builder xs) (sym c.requires.none)
            (subst (λ (k : ℕ). LeadsAs new.totals k (taken ++ take c.in-Ok.len rest) new.builder []) limit_is n.2),
      ),
    )

pub returns-in-Err-Refused : goal.returns-in-Err-Refused
returns-in-Err-Refused c = λ limit taken h.
    let rest = c.args.rest.now in
    let middle = c.take_common-common.new.self in
    let l = still_leads limit taken rest c.args.self.now middle c.take_common-common.result h c.requires.none c.take_common-common.ensures.limit (omega arith) c.take_common-common.ensures.takes in
    let limit_is : middle.limit ≡ limit = c.take_common-common.ensures.limit ∙ h.0 in
    let n = rw c.in-Err-Refused.field-0-is at c.in-Err-Refused.ensures.next in
    subst (λ (k : ℕ). RefusedIn k (taken ++ rest) c.in-Err-Refused.refusal) limit_is (n taken [] rest l refl)
