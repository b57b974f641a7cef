use Rattle.std.proofs.Common.{rules}
use Rattle.packed_rows.proofs.OneMore.{none_told}
use Rattle.packed_rows.proofs.rows.Rows.with_capacity.Goals as goal

pub returns : goal.returns
returns c =
    let none = none_told c.in_ok-bytes.bytes.items c.in_ok-ends.ends.items c.in_ok-bytes.ensures.items c.in_ok-ends.ensures.items in
    search (rules, none)
