-- Private: clients that take turns.
use Rattle.std.specs.Prelude.{◌≡◌, List, Option, IfSome}
use Rattle.std.specs.List.{All}
use Rattle.runtime.specs.declared.answers.Seen.{Seen}
use Rattle.runtime.specs.Clients.{Knowledge}
use Rattle.runtime.specs.History.{Name}

-- they are of one store, and so is what one has seen
pub record AreOf (clients : List Knowledge) (seen : Option Seen) : Type 0 where
  pub name : Name
  pub named : All (λ (it : Knowledge). it.name ≡ name) clients
  pub learnt : IfSome seen (λ it. it.prefix.name ≡ name)
