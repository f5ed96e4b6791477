use Rattle.cli_spec.specs.Outcome.{opened, missing, failed}
use Rattle.run_types.specs.GatheredFile.{taken_of}
use Rattle.run_types.proofs.RequestedTypeLemmas.{script_missing, script_failed}
use Rattle.run_types.proofs.requested_texts.find_script.Goals as goal

pub returns-in-Ok-Opened : goal.returns-in-Ok-Opened
returns-in-Ok-Opened g c =
    (opened (taken_of c.in-Ok-Opened.gathered), rw c.in-Ok-Opened.field-0-is at c.in-Ok-Opened.ensures, c.read_lines.ensures c.args.name.now)

pub returns-in-Ok-Missing : goal.returns-in-Ok-Missing
returns-in-Ok-Missing g c =
    (missing, rw c.in-Ok-Missing.field-0-is at c.in-Ok-Missing.ensures, script_missing c.args.lines c.args.decimal c.args.name.now c.unopened_file.result c.unopened_file.ensures)

pub returns-in-Ok-Failed : goal.returns-in-Ok-Failed
returns-in-Ok-Failed g c =
    (failed, rw c.in-Ok-Failed.field-0-is at c.in-Ok-Failed.ensures, script_failed c.args.lines c.args.decimal c.args.name.now c.unopened_file-in-Ok-Failed.result c.unopened_file-in-Ok-Failed.ensures)
