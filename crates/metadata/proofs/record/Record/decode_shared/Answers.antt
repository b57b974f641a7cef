use Rattle.std.proofs.Common.{subst}
use Rattle.metadata.specs.Stored.{IsOfNoRecord}
use Rattle.metadata.proofs.record.Record.decode_shared.Goals as goal

pub returns-in_default-clause-none : goal.returns-in_default-clause-none
returns-in_default-clause-none c =
    subst (λ t. IsOfNoRecord t c.args.primary_key.now c.args.value.now) c.deref.ensures (rw c.in_default.is at c.in_ok-cells.ensures.none)
