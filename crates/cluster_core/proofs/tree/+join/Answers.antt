use Rattle.cluster_core.proofs.Balanced.{joined_left, joined_right}
use Rattle.cluster_core.proofs.tree.+join.Goals as goal

pub returns-in-Some : goal.returns-in-Some
returns-in-Some t c =
    joined_right _ _ _ _ _ _ _ _ _ _ c.in-Some.ensures.parts c.in-Some.ensures.near c.if-is_too_high.ensures c.join.ensures c.balance.ensures.joined c.balance.ensures.even

pub returns-in-Some-open : goal.returns-in-Some-open
returns-in-Some-open t c =
    joined_left _ _ _ _ _ _ _ _ _ _ c.in-Some-open.ensures.parts c.in-Some-open.ensures.near c.if-is_too_high-2.ensures c.join-then-is_too_high-2.ensures
    c.balance-then-is_too_high-2.ensures.joined c.balance-then-is_too_high-2.ensures.even
