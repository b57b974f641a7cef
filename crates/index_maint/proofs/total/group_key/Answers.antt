use Rattle.std.proofs.Common.{[], append-nil, sym}
use Rattle.index_maint.proofs.KeyBounds.{made_below}
use Rattle.index_maint.proofs.total.group_key.Goals as goal

pub returns-clause-below : goal.returns-clause-below
returns-clause-below c = λ below.
    made_below c.args.prefix.now c.args.number _ [] c.in_ok-key.key.items c.push_pack.new.out.items c.push_pack.new.out.items c.new.result
    below c.in_ok-key.ensures c.in_ok-push_pack.ensures.packed (sym (append-nil c.push_pack.new.out.items)) c.new.ensures
