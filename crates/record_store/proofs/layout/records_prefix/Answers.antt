use Rattle.std.proofs.Common.{◌∙◌, ap, sym, ◌++◌, [], ◌∷◌, pos, append-nil}
use Rattle.tuple_codec.specs.Item.{int}
use Rattle.tuple_codec.specs.Spelling.{int_spelling, spelling}
use Rattle.record_store.specs.Layout.{place}
use Rattle.record_store.proofs.Keys.{record_key_is}
use Rattle.record_store.proofs.layout.records_prefix.Goals as goal

pub returns : goal.returns
returns c =
    c.in_ok-pack_int.ensures ∙ (λ i. c.in_ok-front.ensures i ++ int_spelling (c.from.ensures i)) ∙ ap (λ s. place c.args.prefix.now 1 ++ s) (sym (append-nil (int_spelling (pos c.args.number))))
    ∙ record_key_is c.args.prefix.now (int (pos c.args.number) ∷ [])
