use Rattle.std.proofs.Common.{◌++◌, ◌∙◌, ap, pos}
use Rattle.tuple_codec.specs.Item.{int}
use Rattle.tuple_codec.specs.Spelling.{item_spelling, outer}
use Rattle.index_maint.proofs.KeyBounds.{two_behind}
use Rattle.index_maint.proofs.layout.place_under.Goals as goal

pub returns : goal.returns
returns c =
    two_behind c.args.prefix.now c.in_ok-bytes.bytes.items (item_spelling outer (int (pos c.args.place))) (item_spelling outer (int (pos c.args.number)))
    c.extend_from_slice.new.self.items c.pack_int.new.out.items c.pack_int-2.new.out.items c.in_ok-bytes.ensures.items c.in_ok-extend_from_slice.ensures.items
    (c.in_ok-pack_int.ensures ∙ ap (λ z. c.extend_from_slice.new.self.items ++ item_spelling outer (int z)) c.from.ensures)
    (c.in_ok-pack_int-2.ensures ∙ ap (λ z. c.pack_int.new.out.items ++ item_spelling outer (int z)) c.from-2.ensures)
