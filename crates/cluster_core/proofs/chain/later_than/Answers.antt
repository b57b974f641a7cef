use Rattle.std.proofs.Common.{rules, of_calls}
use Rattle.std.proofs.lemmas.List.Sorted.{IsPartitionPoint-from_clause}
use Rattle.cluster_core.proofs.Links.{is_later, later_first, later_point}
use Rattle.cluster_core.proofs.chain.later_than.Goals as goal

pub returns : goal.returns
returns c =
    later_point c.args.version c.args.links.now.items c.partition_point.result (rw c.args.links.now.ok.0 at c.partition_point.ensures.bound)
    (IsPartitionPoint-from_clause (is_later c.args.version) c.args.links.now.items c.partition_point.result c.partition_point.ensures.partitioned
    (later_first c.args.version c.args.links.now.items c.requires) (λ a r f k. search (rules, of_calls)))
