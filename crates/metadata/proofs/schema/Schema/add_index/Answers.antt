use Rattle.metadata.proofs.StillLawful.{still_indexed}
use Rattle.metadata.proofs.schema.Schema.add_index.Goals as goal

pub invariant_of-self-2 : goal.invariant_of-self-2
invariant_of-self-2 c =
    still_indexed c.self.inside.types.items c.self.inside.last_index c.self.inside.indexes.items c.args.self.now c.self.view_is c.self.invariant c.args.request.now c.in_ok-index.index c.push.new.self.items
    c.in_ok-index.ensures.made c.in_ok-push.ensures.items
