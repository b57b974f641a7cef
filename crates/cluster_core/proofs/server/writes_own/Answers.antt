use Rattle.std.proofs.Common.{◌∙◌, ap, sym}
use Rattle.kv_core.specs.Change.{write_range}
use Rattle.kv_core.specs.Range.{has_keys}
use Rattle.cluster_core.specs.Decision.{cut}
use Rattle.cluster_core.proofs.OwnMaps.{owns-point}
use Rattle.cluster_core.proofs.server.writes_own.Goals as goal

pub returns-in-Set : goal.returns-in-Set
returns-in-Set c = c.owns.ensures ∙ owns-point c.args.owner.now c.in-Set.key ∙ ap (λ m. has_keys (cut c.args.owner.now (write_range m))) (sym c.in-Set.is)

pub returns-in-Add : goal.returns-in-Add
returns-in-Add c = c.owns-in-Add.ensures ∙ owns-point c.args.owner.now c.in-Add.key ∙ ap (λ m. has_keys (cut c.args.owner.now (write_range m))) (sym c.in-Add.is)

pub returns-in-CompareAndClear : goal.returns-in-CompareAndClear
returns-in-CompareAndClear c =
    c.owns-in-CompareAndClear.ensures ∙ owns-point c.args.owner.now c.in-CompareAndClear.key
    ∙ ap (λ m. has_keys (cut c.args.owner.now (write_range m))) (sym c.in-CompareAndClear.is)
