use Rattle.std.proofs.Common.{refl}
use Rattle.cli_spec.specs.CommandLine.{certify, scan}
use Rattle.cli_spec.specs.Outcome.{Request, report, the_verdict, the_text, the_trees, get, edit, dump, compare, own, build, generate, verify, Asks}
use Rattle.base_io.specs.StreamState.{change}
use Rattle.session.specs.All.{on_values_after, on_texts, on_made, on_certificates_after, on_certified_after, on_positions, IsOfValues, IsOfTexts, IsOfMade, IsOfCertificates, IsOfSections, IsOfPositions}
use Rattle.session.proofs.SessionAccountLemmas.{dump_account, compare_account}
use Rattle.session.proofs.SessionPartLemmas.{all_account}
use Rattle.session.proofs.top.run_request.Goals as goal

pub returns-in-Check : goal.returns-in-Check
returns-in-Check g c = λ arguments asks.
    let request : Request = report the_verdict c.in-Check.file.now c.in-Check.type_text.now c.in-Check.lines c.in-Check.reading in
    let asked : Asks arguments request = rw c.in-Check.is at asks in
    all_account on_values_after IsOfValues c.all_commands_have_parts.ensures.values arguments _ request asked tt
    (c.announce.ensures arguments (record { request = request; asks = asked; typed = refl; limited = refl; passes = refl; picks = refl; has_path = tt; finds = λ file result h. h }))

pub returns-in-Show : goal.returns-in-Show
returns-in-Show g c = λ arguments asks.
    let request : Request = report (the_text c.in-Show.style) c.in-Show.file.now c.in-Show.type_text.now c.in-Show.lines c.in-Show.reading in
    let asked : Asks arguments request = rw c.in-Show.is at asks in
    all_account on_values_after IsOfValues c.all_commands_have_parts.ensures.values arguments _ request asked tt
    (c.announce-in-Show.ensures arguments (record { request = request; asks = asked; typed = refl; limited = refl; passes = refl; picks = refl; has_path = tt; finds = λ file result h. h }))

pub returns-in-Get : goal.returns-in-Get
returns-in-Get g c = λ arguments asks.
    let request : Request = get c.in-Get.file.now c.in-Get.type_text.now c.in-Get.path_text.now c.in-Get.style c.in-Get.lines c.in-Get.reading in
    let asked : Asks arguments request = rw c.in-Get.is at asks in
    all_account on_values_after IsOfValues c.all_commands_have_parts.ensures.values arguments _ request asked tt (c.get.ensures arguments asked)

pub returns-in-Edit : goal.returns-in-Edit
returns-in-Edit g c = λ arguments asks.
    let request : Request = edit c.in-Edit.file.now c.in-Edit.type_text.now c.in-Edit.script.now c.in-Edit.compat c.in-Edit.lines c.in-Edit.decimal c.in-Edit.reading in
    let asked : Asks arguments request = rw c.in-Edit.is at asks in
    all_account on_values_after IsOfValues c.all_commands_have_parts.ensures.values arguments _ request asked tt (c.edit.ensures arguments asked)

pub returns-in-Trees : goal.returns-in-Trees
returns-in-Trees g c = λ arguments asks.
    let request : Request = report the_trees c.in-Trees.file.now c.in-Trees.type_text.now c.in-Trees.lines c.in-Trees.reading in
    let asked : Asks arguments request = rw c.in-Trees.is at asks in
    all_account on_values_after IsOfValues c.all_commands_have_parts.ensures.values arguments _ request asked tt
    (c.announce-in-Trees.ensures arguments (record { request = request; asks = asked; typed = refl; limited = refl; passes = refl; picks = refl; has_path = tt; finds = λ file result h. h }))

pub returns-in-Dump : goal.returns-in-Dump
returns-in-Dump g c = λ arguments asks.
    let asked : Asks arguments (dump c.in-Dump.reading) = rw c.in-Dump.is at asks in
    all_account on_values_after IsOfValues c.all_commands_have_parts.ensures.values arguments _ (dump c.in-Dump.reading) asked tt
    (dump_account arguments c.in-Dump.reading (g.O.Opener.state c.args.files.now)
    (change (g.S.Source.state c.args.input.now) (g.S.Source.state c.take_values.new.input))
    (change (g.K.Sink.state c.args.out.now) (g.K.Sink.state c.take_values.new.out))
    (change (g.E.Sink.state c.args.err.now) (g.E.Sink.state c.take_values.new.err)) c.take_values.result asked c.take_values.ensures)

pub returns-in-Same : goal.returns-in-Same
returns-in-Same g c = λ arguments asks.
    let asked : Asks arguments (compare c.in-Same.reading) = rw c.in-Same.is at asks in
    all_account on_values_after IsOfValues c.all_commands_have_parts.ensures.values arguments _ (compare c.in-Same.reading) asked tt
    (compare_account arguments c.in-Same.reading (g.O.Opener.state c.args.files.now)
    (change (g.S.Source.state c.args.input.now) (g.S.Source.state c.take_values-in-Same.new.input))
    (change (g.K.Sink.state c.args.out.now) (g.K.Sink.state c.take_values-in-Same.new.out))
    (change (g.E.Sink.state c.args.err.now) (g.E.Sink.state c.take_values-in-Same.new.err)) c.take_values-in-Same.result asked c.take_values-in-Same.ensures)

pub returns-in-Build : goal.returns-in-Build
returns-in-Build g c = λ arguments asks.
    let request : Request = own (build c.in-Build.file.now c.in-Build.type_text.now c.in-Build.lines c.in-Build.decimal) in
    let asked : Asks arguments request = rw c.in-Build.is at asks in
    all_account on_texts IsOfTexts c.all_commands_have_parts.ensures.texts arguments _ request asked tt (c.build.ensures arguments asked)

pub returns-in-Verify : goal.returns-in-Verify
returns-in-Verify g c = λ arguments asks.
    let request : Request = own (verify c.in-Verify.file.now c.in-Verify.type_text.now c.in-Verify.certificate.now c.in-Verify.lines c.in-Verify.reading) in
    let asked : Asks arguments request = rw c.in-Verify.is at asks in
    all_account on_certificates_after IsOfCertificates c.all_commands_have_parts.ensures.certificates arguments _ request asked tt (c.verify.ensures arguments asked)

pub returns-in-Certify : goal.returns-in-Certify
returns-in-Certify g c = λ arguments asks.
    let request : Request = own (certify c.in-Certify.file.now c.in-Certify.type_text.now c.in-Certify.lines c.in-Certify.reading) in
    let asked : Asks arguments request = rw c.in-Certify.is at asks in
    all_account on_certified_after IsOfSections c.all_commands_have_parts.ensures.sections arguments _ request asked tt (c.certify.ensures arguments asked)

pub returns-in-Generate : goal.returns-in-Generate
returns-in-Generate g c = λ arguments asks.
    let request : Request = own (generate c.in-Generate.number c.in-Generate.count c.in-Generate.type_text.now) in
    let asked : Asks arguments request = rw c.in-Generate.is at asks in
    all_account on_made IsOfMade c.all_commands_have_parts.ensures.made arguments _ request asked tt
    (c.run_gen_spec.ensures.account arguments asked (g.O.Opener.state c.args.files.now))

pub returns-in-Scan : goal.returns-in-Scan
returns-in-Scan g c = λ arguments asks.
    let request : Request = own (scan c.in-Scan.limit) in
    let asked : Asks arguments request = rw c.in-Scan.is at asks in
    all_account on_positions IsOfPositions c.all_commands_have_parts.ensures.positions arguments _ request asked tt
    (c.search_input.ensures arguments request asked refl (g.O.Opener.state c.args.files.now))
