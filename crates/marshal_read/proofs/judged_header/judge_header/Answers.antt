use Rattle.marshal_read.proofs.ReaderHeadLemmas.{header_bad_at, header_compressed, header_waits, header_begins}
use Rattle.marshal_read.proofs.judged_header.judge_header.Goals as goal

pub returns-in-Err-BadMagic-clause-judged : goal.returns-in-Err-BadMagic-clause-judged
returns-in-Err-BadMagic-clause-judged c =
    let e = rw c.in-Err-BadMagic.field-0-is at c.in-Err-BadMagic.ensures.says in
    header_bad_at c.args.limit c.args.bytes.now c.in-Err-BadMagic.magic e.0 e.1 e.2 e.3 e.4

pub returns-in-Err-Compressed-clause-judged : goal.returns-in-Err-Compressed-clause-judged
returns-in-Err-Compressed-clause-judged c =
    let e = rw c.in-Err-Compressed.field-0-is at c.in-Err-Compressed.ensures.says in header_compressed c.args.limit c.args.bytes.now e.0 e.1

pub returns-in-Ok-More-clause-judged : goal.returns-in-Ok-More-clause-judged
returns-in-Ok-More-clause-judged c =
    let e = rw c.in-Ok-More.field-0-is at c.in-Ok-More.ensures.says in header_waits c.args.limit c.args.bytes.now _ e.0 e.1 e.2

pub returns-in-Ok-Head-clause-judged : goal.returns-in-Ok-Head-clause-judged
returns-in-Ok-Head-clause-judged c =
    let e = rw c.in-Ok-Head.field-0-is at c.in-Ok-Head.ensures.says in
    header_begins c.args.limit c.args.bytes.now c.in-Ok-Head.head c.begin.result e.0 e.1 e.2 c.begin.ensures.begins
