use Rattle.std.proofs.Common.{◌≡◌, ◌∙◌, ◌++◌, ap, arith, length}
use Rattle.metadata.proofs.Nulls.{all_nulls, one_null}
use Rattle.metadata.proofs.cells.Cells.with_nulls.Goals as goal

pub loop-preserved : goal.loop-preserved
loop-preserved c =
    let size : length c.into_vec-cells.result.items ≡ length c.args.self = ap length c.into_vec-cells.ensures in record {
      cells = c.in_ok-push.ensures.items
          ∙ one_null c.args.self c.loop.cells.items c.loop.counter (omega (arith, size, c.into_vec-cells.result.ok.0, c.loop.auto.counter, c.len-counter.ensures)) c.loop.invariant.cells;
      few = λ enough. let below = c.loop-test.true in omega (arith, below, enough);
    }

pub returns : goal.returns
returns c =
    let size : length c.into_vec-cells.result.items ≡ length c.args.self = ap length c.into_vec-cells.ensures in
    c.loop.invariant.cells
    ∙ ap (λ l. c.args.self ++ l)
    (all_nulls c.args.self c.loop.counter c.args.count c.loop-test.false (omega (arith, size, c.into_vec-cells.result.ok.0, c.loop.auto.counter, c.len-counter.ensures))
    (λ low. c.loop.auto.counter-end (omega (arith, size, c.into_vec-cells.result.ok.0, c.len-counter.ensures, low))) c.loop.invariant.few)
