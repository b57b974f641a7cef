use Rattle.std.proofs.Common.{sym, subst, ◌∙◌}
use Rattle.tuple_codec.specs.Spelling.{Spells}
use Rattle.tuple_codec.proofs.Unpacks.{read_spells, read_one, read_not_refused, fault_refuses, fault_not_spelled, fault_one}
use Rattle.tuple_codec.proofs.unpacking.unpack.Goals as goal

pub returns-in-Ok-new-clause-spelled : goal.returns-in-Ok-new-clause-spelled
returns-in-Ok-new-clause-spelled c =
    subst (λ t. Spells t c.args.bytes.now) (sym c.in-Ok-new.ensures.0) (read_spells c.args.bytes.now _ _ c.in-Ok.ensures.gives c.bytes_known.ensures)

pub returns-in-Ok-new-clause-reads : goal.returns-in-Ok-new-clause-reads
returns-in-Ok-new-clause-reads c t s = c.in-Ok-new.ensures.0 ∙ read_one c.args.bytes.now _ _ c.in-Ok.ensures.gives t s

pub returns-in-Ok-new-clause-refuses : goal.returns-in-Ok-new-clause-refuses
returns-in-Ok-new-clause-refuses c at kind r = read_not_refused c.args.bytes.now _ _ c.in-Ok.ensures.gives at kind r

pub returns-in-Err-Fault-clause-refused : goal.returns-in-Err-Fault-clause-refused
returns-in-Err-Fault-clause-refused c = fault_refuses c.args.bytes.now c.in-Err-Fault.fault (rw c.in-Err-Fault.field-0-is at c.in-Err-Fault.ensures.gives) c.bytes_known.ensures c.saturating_sub.result c.saturating_sub.ensures

pub returns-in-Err-Fault-clause-reads : goal.returns-in-Err-Fault-clause-reads
returns-in-Err-Fault-clause-reads c t s = fault_not_spelled c.args.bytes.now c.in-Err-Fault.fault (rw c.in-Err-Fault.field-0-is at c.in-Err-Fault.ensures.gives) t s

pub returns-in-Err-Fault-clause-refuses : goal.returns-in-Err-Fault-clause-refuses
returns-in-Err-Fault-clause-refuses c at kind r = fault_one c.args.bytes.now c.in-Err-Fault.fault (rw c.in-Err-Fault.field-0-is at c.in-Err-Fault.ensures.gives) c.saturating_sub.result at kind c.saturating_sub.ensures r
