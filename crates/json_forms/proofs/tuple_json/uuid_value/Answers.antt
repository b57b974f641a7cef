use Rattle.std.proofs.Common.{string_bytes}
use Rattle.json_forms.proofs.Labels.{uuid_stands, made}
use Rattle.json_forms.proofs.tuple_json.uuid_value.Goals as goal

pub returns-clause-read : goal.returns-clause-read
returns-clause-read c =
    made c.labelled.result _ _ c.labelled.ensures
    (λ levels. uuid_stands levels (string_bytes c.in_ok-from_str.field-0) c.args.number.now (rw (c.hyphenated.ensures, ← c.in_ok-from_str.ensures.ok) at c.encode_lower-text.ensures.parsed))
