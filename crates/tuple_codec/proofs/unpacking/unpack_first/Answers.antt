use Rattle.tuple_codec.proofs.Firsts.{none_first, first_read, first_one, first_refused}
use Rattle.tuple_codec.proofs.unpacking.unpack_first.Goals as goal

pub returns-in_default-clause-reads : goal.returns-in_default-clause-reads
returns-in_default-clause-reads c x rest first = none_first c.args.bytes.now x rest c.in_default.ensures.cases first

pub returns-in-Ok-clause-first : goal.returns-in-Ok-clause-first
returns-in-Ok-clause-first c = first_read c.args.bytes.now c.in-Some.code.now c.in-Some.rest.now c.in-Some.ensures.cases.0 _ _ c.bytes_known.ensures c.in-Ok.ensures.gives

pub returns-in-Ok-clause-reads : goal.returns-in-Ok-clause-reads
returns-in-Ok-clause-reads c x rest first = first_one c.args.bytes.now c.in-Some.code.now c.in-Some.rest.now c.in-Some.ensures.cases.0 c.in-Ok.found.0 c.in-Ok.found.1 x rest c.in-Ok.ensures.gives first

pub returns-in-Err-Fault-clause-reads : goal.returns-in-Err-Fault-clause-reads
returns-in-Err-Fault-clause-reads c x rest first =
    first_refused c.args.bytes.now c.in-Some.code.now c.in-Some.rest.now c.in-Some.ensures.cases.0 c.in-Err-Fault.field-0-0 x rest (rw c.in-Err-Fault.field-0-is at c.in-Err-Fault.ensures.gives) first
