use Rattle.std.proofs.Common.{◌≡◌, inl, inr, true, sym, ◌∙◌, arith}
use Rattle.marshal_read.proofs.ReaderLemmas.{chunks_done, chunks_prefix, nothing_taken}
use Rattle.marshal_read.proofs.reader.Reader.at_end.Goals as goal

pub returns-then-is_done : goal.returns-then-is_done
returns-then-is_done c = λ limit taken h.
    let d = chunks_done limit taken c.args.self.now.chunks h.bytes h.chunks (c.is_done.ensures.0 c.if-is_done.true) in
    inr (d.tree, d.encoded)

pub returns-then-taken-eq0 : goal.returns-then-taken-eq0
returns-then-taken-eq0 c = λ limit taken h.
    inl (nothing_taken taken (sym (c.taken-taken.ensures limit taken h.chunks) ∙ c.if-taken-eq0.true))

pub returns-else-taken-eq0 : goal.returns-else-taken-eq0
returns-else-taken-eq0 c = λ limit taken h.
    let e = c.taken-taken.ensures limit taken h.chunks in
    (e, omega (arith, e), chunks_prefix limit taken c.args.self.now.chunks h.chunks (λ w. let yes : c.is_done.result ≡ true = c.is_done.ensures.1 w in cc))
