use Rattle.std.proofs.Common.{◌-◌, ◌∙◌, ap, drop, length, refl, take}
use Rattle.kv_core.specs.Map.{value_after_all}
use Rattle.txn.specs.Own.{own_state, under}
use Rattle.txn.specs.Reads.{Follow}
use Rattle.txn.proofs.OneMore.{caught_up, noted_all, noted_follow, rest_from}
use Rattle.txn.proofs.own.OwnWrites.catch_up.Goals as goal

follows : (c : goal.After-self-1) → Follow c.in_ok-self.field-0 c.args.mutations.now
follows c =
    let rest = take (length c.args.mutations.now - c.args.self.now.noted) (drop c.args.self.now.noted c.args.mutations.now) in
    caught_up c.args.self.now c.in_ok-self.field-0 c.args.mutations.now rest c.requires (rest_from c.args.self.now.noted c.args.mutations.now)
    (λ key before. c.in_ok-self.ensures key before ∙ ap (λ own. value_after_all rest key (under (own_state own) key before)) c.replace-own.ensures.value)

pub returns-clause-ok : goal.returns-clause-ok
returns-clause-ok c = follows c

pub returns-clause-noted : goal.returns-clause-noted
returns-clause-noted c = noted_all (record c.in_ok-self.field-0 { noted = length c.args.mutations.now }) c.args.mutations.now refl (follows c)

pub returns-then-from-mutations-clause-ok : goal.returns-then-from-mutations-clause-ok
returns-then-from-mutations-clause-ok c = noted_follow c.args.self.now c.args.mutations.now c.requires c.if-from-mutations.true
