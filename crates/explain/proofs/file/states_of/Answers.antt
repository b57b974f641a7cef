use Rattle.std.proofs.Common.{string_bytes}
use Rattle.serde_json.specs.View.{members_view, view}
use Rattle.explain.specs.File.{states_beside}
use Rattle.explain.proofs.States.{state_read}
use Rattle.explain.proofs.file.states_of.Goals as goal

pub loop-name-preserved : goal.loop-name-preserved
loop-name-preserved c = rw (c.in_ok-push.ensures.items, c.in_ok-name.ensures, c.as_str.ensures.value) (state_read c.loop-name.states.items (string_bytes c.in-Some.name.now) (view c.in-Some.value.now) (members_view c.next.new.self) _ (states_beside (members_view c.args.members.now.entries)) c.in_ok-state.ensures.ok (rw c.in-Some.ensures.steps at c.loop-name.invariant))
