use Rattle.std.proofs.Common.{◌∙◌, ap, length}
use Rattle.packed_rows.proofs.Pieces.{length-ends}
use Rattle.packed_rows.proofs.rows.Rows.len.Goals as goal

pub returns : goal.returns
returns c =
    let f = c.self.inside in
    c.len.ensures ∙ f.ends.ok.0 ∙ length-ends f.bytes.items f.ends.items f.kept ∙ ap length c.self.view_is
