use Rattle.std.proofs.Common.{◌≡◌, drop}
use Rattle.std.specs.List.{filter_map}
use Rattle.metadata.specs.Cell.{all_fit}
use Rattle.metadata.specs.Schema.{key_kinds, kind_at}
use Rattle.metadata.proofs.definition.TypeDefinition.fit_key.Given as goal

abbrev pub invariant-loop-place : goal.invariant-loop-place
invariant-loop-place l = all_fit (filter_map (kind_at l.self.fields) (drop l.place-index l.place-items)) l.rest ≡ all_fit (key_kinds l.self) l.cells
