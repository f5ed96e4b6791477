use Rattle.std.proofs.Common.{rules, ◌≡◌}
use Rattle.types_spec.specs.types.Fitting.{fits_int}
use Rattle.types_table.specs.type_table.Made.{table_of}
use Rattle.check_stream.proofs.mismatch_search.MismatchSearchJudgeLemmas.{judged_int, judged_atom, judged_bytes, judged_double, judged_doubles, judged_custom, judged_opens, judged_misses}
use Rattle.check_stream.proofs.mismatch_search.token_judgement.judge.Goals as goal

pub returns-in-Integer : goal.returns-in-Integer
returns-in-Integer c =
    let test : c.fits_int.result ≡ fits_int c.in-Some.shape.now c.in-Integer.z = search rules in
    let j = judged_int (table_of c.args.table.now) c.args.ty c.args.summary c.in-Some.shape.now c.fits_int.result c.by.result c.in-Some.ensures c.by.ensures c.in-Integer.z c.in-Integer.is test in
    record { apt = j.0; judged = j.1 }

pub returns-in-Atom : goal.returns-in-Atom
returns-in-Atom c =
    let j = judged_atom (table_of c.args.table.now) c.args.ty c.args.summary c.in-Some.shape.now c.fits_atom.result c.by-in-Atom.result c.in-Some.ensures c.by-in-Atom.ensures c.in-Atom.tag c.in-Atom.is c.fits_atom.ensures in
    record { apt = j.0; judged = j.1 }

pub returns-in-Bytes : goal.returns-in-Bytes
returns-in-Bytes c =
    let j = judged_bytes (table_of c.args.table.now) c.args.ty c.args.summary c.in-Some.shape.now c.fits_bytes.result c.by-in-Bytes.result c.in-Some.ensures c.by-in-Bytes.ensures c.in-Bytes.field-0 c.in-Bytes.is c.fits_bytes.ensures in
    record { apt = j.0; judged = j.1 }

pub returns-in-Double : goal.returns-in-Double
returns-in-Double c =
    let j = judged_double (table_of c.args.table.now) c.args.ty c.args.summary c.in-Some.shape.now c.fits_double.result c.by-in-Double.result c.in-Some.ensures c.by-in-Double.ensures c.in-Double.is c.fits_double.ensures in
    record { apt = j.0; judged = j.1 }

pub returns-in-Doubles : goal.returns-in-Doubles
returns-in-Doubles c =
    let j = judged_doubles (table_of c.args.table.now) c.args.ty c.args.summary c.in-Some.shape.now c.fits_doubles.result c.by-in-Doubles.result c.in-Some.ensures c.by-in-Doubles.ensures c.in-Doubles.size c.in-Doubles.is c.fits_doubles.ensures in
    record { apt = j.0; judged = j.1 }

pub returns-in-Custom : goal.returns-in-Custom
returns-in-Custom c =
    let j = judged_custom (table_of c.args.table.now) c.args.ty c.args.summary c.in-Some.shape.now c.fits_custom.result c.by-in-Custom.result c.in-Some.ensures c.by-in-Custom.ensures c.in-Custom.kind c.in-Custom.is c.fits_custom.ensures in
    record { apt = j.0; judged = j.1 }

pub returns-in-Some-positions_at : goal.returns-in-Some-positions_at
returns-in-Some-positions_at c =
    let j = judged_opens (table_of c.args.table.now) c.args.ty c.args.summary c.in-Some.shape.now c.in-Block.tag c.in-Block.size c.positions_at.result c.in-Some-positions_at.positions c.in-Block.is c.in-Some.ensures c.positions_at.ensures c.in-Some-positions_at.is in
    record { apt = j.0; judged = j.1 }

pub returns-in-None : goal.returns-in-None
returns-in-None c =
    let j = judged_misses (table_of c.args.table.now) c.args.ty c.args.summary c.in-Some.shape.now c.in-Block.tag c.in-Block.size c.positions_at.result c.in-Block.is c.in-Some.ensures c.positions_at.ensures c.in-None.is in
    record { apt = j.0; judged = j.1 }
