use Rattle.std.proofs.Common.{◌++◌, ◌∙◌}
use Rattle.plan_exec.proofs.KeyRanges.{number_behind}
use Rattle.plan_exec.proofs.keys.records_place.Goals as goal

pub returns-clause-key : goal.returns-clause-key
returns-clause-key c =
    number_behind c.args.store.now.prefix c.extend_from_slice.new.self.items c.pack_int.new.out.items _ c.from.result
    (c.in_ok-extend_from_slice.ensures.items ∙ (λ i. c.in_ok-key.ensures.items i ++ c.prefix-front.ensures.prefix i)) c.in_ok-pack_int.ensures c.from.ensures
