use Rattle.std.proofs.Common.{◌∙◌, rules}
use Rattle.packed_rows.proofs.OneMore.{same_told}
use Rattle.packed_rows.proofs.rows.Rows.copy.Goals as goal

pub returns : goal.returns
returns c =
    let f = c.self.inside in
    let bytes = c.in_ok-bytes.ensures.items ∙ c.as_slice.ensures.value in
    let ends = c.in_ok-ends.ensures.items ∙ c.as_slice-2.ensures.value in
    let same = same_told f.bytes.items f.ends.items c.in_ok-bytes.bytes.items c.in_ok-ends.ends.items f.kept c.args.self.now c.self.view_is bytes ends in
    search (rules, same)
