use Rattle.std.proofs.Common.{ap, ◌∙◌}
use Rattle.base_io.specs.History.{bytes_of}
use Rattle.base_io.proofs.HistoryLemmas.{bytes_of-moved}
use Rattle.base_io.proofs.history.History.add_moved.Goals as goal

pub returns-clause-bytes : goal.returns-clause-bytes
returns-clause-bytes c =
    ap bytes_of c.note_moved.ensures ∙ bytes_of-moved c.args.self.now.calls c.args.room c.args.bytes.now
