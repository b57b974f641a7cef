use Rattle.std.proofs.Common.{◌≡◌, drop, map}
use Rattle.metadata.specs.declared.definition.Field.{Field}
use Rattle.metadata.specs.Cell.{all_fit}
use Rattle.metadata.proofs.record.fit_fields.Given as goal

abbrev pub invariant-loop-field : goal.invariant-loop-field
invariant-loop-field l = all_fit (map (λ (field : Field). field.kind) (drop l.field-index l.fields)) l.rest ≡ all_fit (map (λ (field : Field). field.kind) l.fields) l.cells
