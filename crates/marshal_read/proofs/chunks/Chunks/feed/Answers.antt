use Rattle.std.proofs.Common.{arith, List, ℕ, ◌++◌, take, subst}
use Rattle.marshal_read.specs.Chunks.{LeadsChunks}
use Rattle.marshal_read.specs.Reading.{RefusedIn}
use Rattle.marshal_read.proofs.ChunksLemmas.{length_rest, taken_on, rest_on}
use Rattle.marshal_read.proofs.chunks.Chunks.feed.Goals as goal

pub loop-taken-preserved : goal.loop-taken-preserved
loop-taken-preserved c = λ limit bytes h.
    let chunk = c.args.chunk.now in
    let a = c.loop-taken.taken in
    let i = c.loop-taken.invariant limit bytes h in
    let t = c.in-Ok.ensures limit (bytes ++ take a chunk) i.1 in
    (omega (arith, t.1, length_rest chunk a), subst (λ (xs : List ℕ). LeadsChunks limit xs c.take_some.new.self) (taken_on bytes chunk a c.in-Ok.n) t.2)

pub returns-in-Err : goal.returns-in-Err
returns-in-Err c = λ limit bytes h.
    let chunk = c.args.chunk.now in
    let a = c.loop-taken.taken in
    let i = c.loop-taken.invariant limit bytes h in
    subst (λ (xs : List ℕ). RefusedIn limit xs c.in-Err.refusal) (rest_on bytes chunk a) (c.in-Err.ensures limit (bytes ++ take a chunk) i.1)
