use Rattle.std.proofs.Common.{◌≡◌, true, false, rules}
use Rattle.std.specs.Ordering.{is_eq}
use Rattle.kv_core.specs.Bytes.{key_cmp}
use Rattle.txn.proofs.LastMutations.{found_last, passed_last}
use Rattle.txn.proofs.latest.last_among.Goals as goal

pub returns-then-is_eq : goal.returns-then-is_eq
returns-then-is_eq c =
    let tie : is_eq (key_cmp c.in-Some-own_key.own.now c.args.key.now) ≡ true = search rules in
    found_last c.args.mutations.now c.loop-last.rest.now c.in-Some.front.now c.in-Some.last.now c.in-Some-own_key.own.now c.args.key.now c.in-Some.ensures.cases.0 c.in-Some-own_key.ensures tie c.loop-last.invariant

pub loop-last-preserved : goal.loop-last-preserved
loop-last-preserved c =
    let other : is_eq (key_cmp c.in-Some-own_key.own.now c.args.key.now) ≡ false = search rules in
    passed_last c.args.mutations.now c.loop-last.rest.now c.in-Some.front.now c.in-Some.last.now c.in-Some-own_key.own.now c.args.key.now c.in-Some.ensures.cases.0 c.in-Some-own_key.ensures other c.loop-last.invariant
