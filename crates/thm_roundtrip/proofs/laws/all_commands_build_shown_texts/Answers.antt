use Rattle.thm_roundtrip.proofs.RoundtripLemmas.{all_build_shown_texts}
use Rattle.thm_roundtrip.proofs.laws.all_commands_build_shown_texts.Goals as goal

pub returns : goal.returns
returns c =
    all_build_shown_texts c.all_commands_have_parts.ensures.values
    c.all_commands_have_parts.ensures.texts c.shown_texts_are_built.ensures
