use Rattle.std.proofs.Common.{◌∙◌, ap, arith}
use Rattle.metadata.proofs.Grown.{first_set, first_stays}
use Rattle.metadata.proofs.written.with_firsts.Goals as goal
use Rattle.metadata.proofs.written.with_firsts.Goals.{then-place-len, else-place-len}

pub loop-place-preserved : goal.loop-place-preserved
loop-place-preserved c = elim c.if-place-len.branch [
  | then-place-len w ↦
      let inside = w.if-place-len.true in
      ap (λ v. v.items) w.grown-is
      ∙ first_set c.args.firsts.now c.args.types.items c.loop-place.grown.items c.loop-place.place w.index_mut.result.now c.loop-place-test.true
      (omega (arith, inside, c.len.ensures, c.loop-place.grown.ok.0)) c.loop-place.invariant w.index_mut.ensures.value
  | else-place-len w ↦
      let past = w.if-place-len.false in
      ap (λ v. v.items) w.grown-is
      ∙ first_stays c.args.firsts.now c.args.types.items c.loop-place.grown.items c.loop-place.place (omega (arith, past, c.len.ensures, c.loop-place.grown.ok.0)) c.loop-place.invariant
]
