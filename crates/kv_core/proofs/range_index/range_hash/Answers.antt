use Rattle.std.proofs.Common.{◌∙◌}
use Rattle.std.specs.Hash.FoldHasher.{write}
use Rattle.kv_core.specs.RangeIndex.{range_hash}
use Rattle.kv_core.proofs.range_index.range_hash.Goals as goal

pub returns : goal.returns
unfolding range_hash
returns c =
    c.finish.ensures
    ∙ (λ i. ((c.write-2.ensures
    ∙ (λ j. write ((c.write.ensures ∙ (λ k. write (c.default-hasher.ensures k) ((c.as_slice.ensures ∙ c.begin.ensures.value) k))) j) ((c.as_slice-2.ensures ∙ c.end.ensures) j))) i).state)
