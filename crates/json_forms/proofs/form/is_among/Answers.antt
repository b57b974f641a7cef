use Rattle.std.proofs.Common.{◌∙◌}
use Rattle.json_forms.proofs.Keys.{any_of_refs}
use Rattle.json_forms.proofs.form.is_among.Goals as goal

pub returns : goal.returns
returns c = c.contains.ensures.value ∙ any_of_refs c.args.texts.now c.args.text.now
