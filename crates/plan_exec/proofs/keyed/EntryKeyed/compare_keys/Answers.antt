use Rattle.plan_exec.proofs.EntryPacks.{packs_decide}
use Rattle.plan_exec.proofs.keyed.EntryKeyed.compare_keys.Goals as goal

pub returns : goal.returns
returns c =
    packs_decide c.args.self.now.primary_key c.args.other.now.primary_key c.primary_key.result.now c.primary_key-2.result.now c.cmp.result c.cmp.ensures c.primary_key.ensures.packed c.primary_key-2.ensures.packed c.primary_key.ensures.cells
    c.primary_key-2.ensures.cells
