use Rattle.std.proofs.Common.{◌≡◌, ◌∙◌, sym, ap, length}
use Rattle.logbook.specs.Pages.{Named}
use Rattle.runtime.specs.History.{Prefix}
use Rattle.runtime.proofs.Adding.{adds}
use Rattle.runtime.proofs.log_prefix.LogPrefix.add.Goals as goal

pub compare_exchange-found-requires : goal.compare_exchange-found-requires
compare_exchange-found-requires c =
    let offer = c.plain-offer.ensures in
    let book : c.again-seen.result.book ≡ c.head.inside.word.book = ap (λ s. s.book) c.again-seen.ensures ∙ ap (λ (r : Prefix). r.name.book) c.self.view_is ∙ sym c.requires.book ∙ sym c.head.view_is in
    let key : c.head.inside.word.key ≡ 0 = ap (λ (w : Named). w.key) c.head.invariant in
    let count : c.self.inside.count ≡ length c.again-seen.result.log = c.self.invariant.0 ∙ ap (λ s. length s.log) (sym c.again-seen.ensures) in (
      ap (λ (w : Named). w.tracked) c.head.invariant,
      book,
      c.no_pen-pen.ensures.0 ∙ book,
      offer.0,
      rw (key, offer.3) (adds c.self.inside.count c.plain-offer.result.ask c.again-seen.result.log c.no_pen-pen.result.nib count),
    )
