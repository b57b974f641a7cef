use Rattle.std.proofs.Common.{rules}
use Rattle.packed_rows.proofs.OneMore.{none_told}
use Rattle.packed_rows.proofs.rows.Rows.new.Goals as goal

pub returns : goal.returns
returns c =
    let none = none_told c.new.result.items c.new-2.result.items c.new.ensures.items c.new-2.ensures.items in
    search (rules, none)
