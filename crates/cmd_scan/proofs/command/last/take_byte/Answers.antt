use Rattle.std.proofs.Common.{refl}
use Rattle.base_data.specs.declared.model.out_of_memory.Memory.{Memory}
use Rattle.cmd_scan.proofs.command.LastLemmas.{byte_taken, byte_refused}
use Rattle.cmd_scan.proofs.command.last.take_byte.Goals as goal

pub returns-in-Ok : goal.returns-in-Ok
returns-in-Ok c = λ limit taken leads prefix.
    byte_taken limit taken c.args.byte.now c.requires.one prefix Memory c.feed.new.self c.in-Ok.fed
    c.in-Ok.ensures.reader (c.in-Ok.ensures.feeds limit taken leads) _ refl

pub returns-in-Err : goal.returns-in-Err
returns-in-Err c = λ limit taken leads prefix.
    byte_refused limit taken c.args.byte.now c.requires.one prefix c.in-Err.refusal c.feed.new.self
    c.is_decided.result (c.in-Err.ensures.refuses limit taken leads) c.is_decided.ensures
