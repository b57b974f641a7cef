use Rattle.std.proofs.Common.{◌≡◌, ◌++◌, ℕ, map}
use Rattle.std.specs.FinMap.{empty}
use Rattle.std.specs.List.{AllByRecursion}
use Rattle.std.specs.Vec.Iter.{into_iter_items}
use Rattle.kv_core.specs.Map.{after_all}
use Rattle.cluster_core.specs.Server.{IsFirstOver, IsServer, owner_of}
use Rattle.cluster_core.proofs.tier.servers_over.Given as goal

-- the owners so far and the parts that are left are all parts, and each server so far is over the base
abbrev pub invariant-loop-part : goal.invariant-loop-part
invariant-loop-part l = record {
  can_next : (goal.iterator-loop-part).can_next l.part-iterator;
  is_finite : (goal.iterator-loop-part).is_finite l.part-iterator;
  owners : map owner_of l.servers.items ++ into_iter_items l.part-iterator ≡ l.fn.parts.items;
  states : AllByRecursion (IsFirstOver (after_all l.mutations empty) l.version) l.servers.items;
  kept : AllByRecursion (λ server. (window : ℕ) → IsServer window server) l.servers.items;
}
