use Rattle.record_store.proofs.Scanning.{no_pair}
use Rattle.record_store.proofs.scan.record_in.Goals as goal

pub returns-in_ok-copy-in-None-2-clause-refused : goal.returns-in_ok-copy-in-None-2-clause-refused
returns-in_ok-copy-in-None-2-clause-refused c = (
  c.in_ok-copy-in-None-2.ensures,
  no_pair c.args.place.now c.args.definition.now c.args.pair.now c.as_slice.result.now c.in-Some.primary_key.now c.as_slice-in-Some.result.now c.in_ok-found-in-Some.field-0
      c.as_slice.ensures c.in-Some.ensures c.as_slice-in-Some.ensures c.in_ok-found-in-Some.ensures.none c.in-None-2.is,
)
