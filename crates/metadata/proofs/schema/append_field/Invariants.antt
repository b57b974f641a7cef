use Rattle.std.proofs.Common.{◌≡◌, not, take, true}
use Rattle.std.specs.List.{list_all}
use Rattle.std.specs.Str.{bytes_eq}
use Rattle.metadata.proofs.schema.append_field.Given as goal

-- the types so far have other names, and all are as they were
abbrev pub invariant-loop-place : goal.invariant-loop-place
invariant-loop-place l = (l.types.items ≡ l.initial.types.items) × (list_all (λ type. not (bytes_eq type.name l.name)) (take l.place l.initial.types.items) ≡ true)
