use Rattle.std.proofs.Common.{[], map, option_map, subst, sym, take}
use Rattle.near_names.specs.Near.{IsBest}
use Rattle.near_names.proofs.Names.{names_to}
use Rattle.near_names.proofs.nearest_of.Goals as goal

pub loop-one-preserved : goal.loop-one-preserved
loop-one-preserved c =
    subst (λ ks. IsBest c.args.name.now ks c.in_ok-best.best.least (option_map (λ one. one.now) c.in_ok-best.best.found)) (sym (names_to c.args.known.now c.loop-one.one-index (record { ref_ptr = (0, 0); now = [] }) c.loop-one-test.true))
    (c.in_ok-best.ensures (map (λ k. k.now) (take c.loop-one.one-index c.args.known.now)) c.loop-one.invariant)
