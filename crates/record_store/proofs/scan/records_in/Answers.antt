use Rattle.std.proofs.Common.{◌≡◌, ℕ, ◌+◌, List, arith, subst₂, sym, take}
use Rattle.std.specs.Prelude.{suc}
use Rattle.metadata.specs.Record.{Record}
use Rattle.txn.proofs.Exits.{exit_with}
use Rattle.record_store.specs.Reading.{ArePairsOfRecords, HaveNoRecords}
use Rattle.record_store.proofs.Scanning.{bad_among, pairs_more}
use Rattle.record_store.proofs.scan.records_in.Goals as goal

pub loop-pair-preserved : goal.loop-pair-preserved
loop-pair-preserved c =
    let next : suc c.loop-pair.pair-index ≡ c.loop-pair.pair-index + 1 = omega arith in
    subst₂ (λ (n : ℕ) (records : List Record). ArePairsOfRecords c.args.place.now c.args.definition.now (take n c.args.pairs.now) records) next (sym c.in_ok-push.ensures.items)
    (pairs_more c.args.place.now c.args.definition.now c.loop-pair.pair-index c.args.pairs.now c.pair-item.result c.loop-pair.records.items c.in_ok-found.found
    c.loop-pair-test.true c.pair-item.is c.loop-pair.invariant c.in_ok-found.ensures.found)

pub returns-in_err-found-clause-refused : goal.returns-in_err-found-clause-refused
returns-in_err-found-clause-refused c =
    exit_with c.from_residual.result c.in_err-found.field-0.0 (HaveNoRecords c.args.place.now c.args.definition.now c.args.pairs.now) c.from_residual.ensures
    (bad_among c.args.place.now c.args.definition.now c.args.pairs.now c.loop-pair.pair-index c.pair-item.result c.loop-pair.records.items c.in_err-found.field-0.0
    c.loop-pair-test.true c.pair-item.is c.loop-pair.invariant c.in_err-found.ensures.refused)
