use Rattle.std.proofs.Common.{◌∙◌, arith, sym}
use Rattle.std.proofs.lemmas.Result.{on_ok_weaker}
use Rattle.metadata.proofs.Appending.{appended_past, appended_set}
use Rattle.metadata.proofs.schema.append_field.Goals as goal

pub returns-then-is_same-clause-ok : goal.returns-then-is_same-clause-ok
returns-then-is_same-clause-ok c =
    let inside = c.loop-place-test.true in
    on_ok_weaker c.push.result
    (appended_set c.args.name.now c.args.field c.args.types.now.items c.loop-place.types.items c.loop-place.place c.index.result.now c.index_mut.result.now c.push.new.self c.loop-place.invariant.0
    (omega (arith, inside, c.len-place-end.ensures, c.args.types.now.ok.0)) c.loop-place.invariant.1 c.index.ensures c.index_mut.ensures.value (sym c.is_same.ensures ∙ c.if-is_same.true))
    c.push.ensures.ok

pub returns-clause-ok : goal.returns-clause-ok
returns-clause-ok c =
    let past = c.loop-place-test.false in
    c.loop-place.invariant.0
    ∙ sym (appended_past c.args.name.now c.args.field c.args.types.now.items c.loop-place.place (omega (arith, past, c.len-place-end.ensures, c.args.types.now.ok.0)) c.loop-place.invariant.1)
