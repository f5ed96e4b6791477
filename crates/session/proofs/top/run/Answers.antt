use Rattle.session.proofs.SessionCopyLemmas.{leaves_canonical}
use Rattle.session.proofs.top.run.Goals as goal

pub returns : goal.returns
returns g c =
    let reports = c.reports_bytes.ensures in
    let all = c.all_commands_keep_run_spec.ensures.account _ _ reports c.run_command.ensures in
    let parts = c.all_commands_have_parts.ensures in
    record {
      run_spec = all;
      headline = c.all_commands_keep_run_spec.ensures.headline _ _ reports all;
      environment = c.all_commands_keep_run_spec.ensures.environment _ _ reports all;
      causes = λ only. c.statuses_of_values_have_causes.ensures _ _ reports (parts.values.run_spec _ _ only all);
      causes_of_texts = λ only. c.statuses_of_texts_have_causes.ensures _ _ reports (parts.texts.run_spec _ _ only all);
      causes_of_certificates = λ only.
          c.statuses_of_certificates_have_causes.ensures _ _ reports (parts.certificates.run_spec _ _ only all);
      causes_of_sections = λ only.
          c.statuses_of_sections_have_causes.ensures _ _ reports (parts.sections.run_spec _ _ only all);
      causes_of_positions = λ only.
          c.statuses_of_positions_have_causes.ensures _ _ reports (parts.positions.run_spec _ _ only all);
      causes_of_made = λ only. c.statuses_of_made_have_causes.ensures _ _ reports (parts.made.run_spec _ _ only all);
      out_known = c.knows_bytes.ensures;
      err_known = c.knows_bytes-2.ensures;
      canonical = leaves_canonical c.values_have_one_outcome.ensures c.values_have_headline.ensures _ _ reports
          parts.values all;
    }
