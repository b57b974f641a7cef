use Rattle.std.proofs.Common.{◌≡◌, ◌++◌, option_map}
use Rattle.serde_json.specs.View.{members_view}
use Rattle.explain.specs.File.{states_beside}
use Rattle.explain.proofs.file.states_of.Given as goal

abbrev pub invariant-loop-name : goal.invariant-loop-name
invariant-loop-name l = option_map (λ more. l.states.items ++ more) (states_beside (members_view l.name-iterator)) ≡ states_beside (members_view l.members.entries)
