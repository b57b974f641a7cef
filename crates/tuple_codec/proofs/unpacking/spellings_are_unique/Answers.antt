use Rattle.tuple_codec.proofs.Spellings.{spelling_spells, one_spelling, one_tuple, spells_items}
use Rattle.tuple_codec.proofs.unpacking.spellings_are_unique.Goals as goal

pub returns : goal.returns
returns c = record { has = λ t h. spelling_spells t h.items h.depth; one = one_spelling; tuple = λ t bs s. record { items = spells_items t bs s; depth = s.depth }; apart = one_tuple }
