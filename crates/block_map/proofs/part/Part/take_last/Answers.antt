use Rattle.std.proofs.Common.{◌∙◌, sym}
use Rattle.std_collections.proofs.Zip.{zip_push}
use Rattle.block_map.proofs.part.Part.take_last.Goals as goal

pub returns : goal.returns
returns g c =
    let s = c.self.inside in
    sym c.self.view_is
    ∙ (zip_push s.keys.now c.in_ok-key.keys.now s.values.now c.in_ok-value.values.now c.in_ok-key.key.now c.in_ok-value.value.now c.self.invariant c.in_ok-key.ensures.cases.0 c.in_ok-value.ensures.cases.0).1
