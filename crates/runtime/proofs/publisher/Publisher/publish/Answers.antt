use Rattle.runtime.proofs.Moves.{later_by, next_is, sees, shown_after}
use Rattle.runtime.proofs.publisher.Publisher.publish.Goals as goal

pub publish_as-writer-requires : goal.publish_as-writer-requires
publish_as-writer-requires g c next is =
    let now = c.self.inside.writer.desk.shown.value in
    let n = next_is now next _ c.self.invariant.0 c.self.invariant.1 is in
    sees _ _ now next (later_by now next _ n.0) n.1

pub returns : goal.returns
returns g c =
    rw (← c.self.view_is)
    (shown_after c.self.inside.writer.desk.shown.value c.publish_as-writer.result.0.desk.shown.value _ _ _ c.publish_as-writer.result.1 c.self.invariant c.publish_as-writer.ensures.values)
