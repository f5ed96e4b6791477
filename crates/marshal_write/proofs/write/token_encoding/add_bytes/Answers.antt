use Rattle.std.proofs.Common.{arith}
use Rattle.marshal_write.proofs.write.WriterStringLemmas.{string_body, word_adds, word_fails, last_adds}
use Rattle.marshal_write.proofs.write.WriterTextLemmas.{adds_if_failed}
use Rattle.marshal_write.proofs.write.token_encoding.add_bytes.Goals as goal

pub bounds-words-j : goal.bounds-words-j
bounds-words-j g c =
    let has = string_body _ _ _ c.requires.heap c.requires.inside c.requires.string c.body-words.ensures in omega (arith, has.many, c.requires.all)

pub bounds-words-whole : goal.bounds-words-whole
bounds-words-whole g c =
    let has = string_body _ _ _ c.requires.heap c.requires.inside c.requires.string c.body-words.ensures in omega (arith, has.many, c.requires.all)

pub returns-in_err-add-clause-adds : goal.returns-in_err-add-clause-adds
returns-in_err-add-clause-adds g c =
    let has = string_body _ _ _ c.requires.heap c.requires.inside c.requires.string c.body-words.ensures in
    adds_if_failed _ _ _ _ _ c.from_residual.result c.from_residual.ensures.0
    (word_fails _ _ _ has _ _ _ _ _ c.loop-j.j (omega (arith, c.requires.all)) c.to_le_bytes.ensures c.loop-j.invariant.adds c.in_err-add.ensures.adds)

pub loop-j-preserved : goal.loop-j-preserved
loop-j-preserved g c =
    let has = string_body _ _ _ c.requires.heap c.requires.inside c.requires.string c.body-words.ensures in record {
      adds = word_adds _ _ _ has _ _ _ _ _ _ c.loop-j.j (omega (arith, c.requires.all)) c.to_le_bytes.ensures c.loop-j.invariant.adds c.in_ok-add.ensures.adds;
      room = c.in_ok-add.ensures.room;
    }

pub returns-clause-adds : goal.returns-clause-adds
returns-clause-adds g c =
    let has = string_body _ _ _ c.requires.heap c.requires.inside c.requires.string c.body-words.ensures in
    last_adds _ _ _ has _ _ _ _ _ _ c.loop-j.j c.args.n c.add_first.result (omega arith) c.requires.all c.to_le_bytes-last.ensures c.loop-j.invariant.adds c.add_first.ensures.adds
