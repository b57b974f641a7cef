use Rattle.std.proofs.Common.{◌≡◌, ℕ, ◌<◌, false, List, length, ap, ap₂, subst, ◌∙◌, arith}
use Rattle.kv_core.specs.Map.{Map, pairs_in}
use Rattle.kv_core.specs.Range.{KeyRange}
use Rattle.kv_core.specs.Read.{read_of}
use Rattle.kv_core.proofs.Lists.{take_whole}
use Rattle.replay.specs.Replaying.{Image}
use Rattle.replay.proofs.image.Image.pairs.Goals as goal

-- fewer pairs than the limit are all
whole : (m : Map) (range : KeyRange) (items : List (List ℕ × List ℕ)) (limit : ℕ) → items ≡ read_of m range limit false → length items < limit → items ≡ pairs_in m range
whole m range items limit read few = read ∙ take_whole limit (pairs_in m range) (subst (λ l. length l < limit) read few)

pub returns-then-len-lt18446744073709551615 : goal.returns-then-len-lt18446744073709551615
returns-then-len-lt18446744073709551615 c =
    whole c.self.inside.map c.in-Some.range c.in_ok-pairs.pairs.items 18446744073709551615 c.in_ok-pairs.ensures (omega (arith, c.len.ensures, c.if-len-lt18446744073709551615.true, c.in_ok-pairs.pairs.ok.0))
    ∙ ap₂ pairs_in (ap (λ (i : Image). i.map) c.self.view_is)
    (c.in-Some.ensures.some ∙ ap₂ (λ (b e : List ℕ). record { begin = b; end = e }) (c.new-2.ensures ∙ c.new.ensures.items) c.in_ok-end.ensures)
