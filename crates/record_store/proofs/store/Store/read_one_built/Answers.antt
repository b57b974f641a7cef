use Rattle.std.proofs.Common.{◌≡◌, ◌∙◌, ap, refl, sym, ◌∷◌, []}
use Rattle.range_set.specs.Stored.{upto_range}
use Rattle.index_maint.specs.Layout.{built_place}
use Rattle.txn.proofs.Exits.{exit_with}
use Rattle.record_store.specs.BuiltReading.{built_reading, position_in}
use Rattle.record_store.specs.Steps.{no_memory, of_read}
use Rattle.record_store.proofs.BuiltReads.{none_asked, one_asked, one_read, stopped_failed, stopped_still}
use Rattle.record_store.proofs.store.Store.read_one_built.Goals as goal

pub returns-then-not-asks-clause-read : goal.returns-then-not-asks-clause-read
returns-then-not-asks-clause-read g c =
    none_asked c.args.self.now c.args.number (position_in c.args.self.now.prefix c.args.number c.args.key.now) c.args.index.now c.new.result.items (sym c.asks.ensures ∙ c.if-not-asks.true) c.new.ensures.items refl

pub returns-in_err-place-clause-refused : goal.returns-in_err-place-clause-refused
returns-in_err-place-clause-refused g c =
    exit_with c.from_residual.result no_memory _ c.from_residual.ensures (stopped_still (built_reading c.args.self.now c.args.number (position_in c.args.self.now.prefix c.args.number c.args.key.now) (c.args.index.now ∷ [])) refl)

pub returns-in_err-position-clause-refused : goal.returns-in_err-position-clause-refused
returns-in_err-position-clause-refused g c =
    exit_with c.from_residual-in_err-position.result no_memory _ c.from_residual-in_err-position.ensures (stopped_still (built_reading c.args.self.now c.args.number (position_in c.args.self.now.prefix c.args.number c.args.key.now) (c.args.index.now ∷ [])) refl)

pub returns-in_err-range-clause-refused : goal.returns-in_err-range-clause-refused
returns-in_err-range-clause-refused g c =
    exit_with c.from_residual-in_err-range.result no_memory _ c.from_residual-in_err-range.ensures (stopped_still (built_reading c.args.self.now c.args.number (position_in c.args.self.now.prefix c.args.number c.args.key.now) (c.args.index.now ∷ [])) refl)

pub returns-in_err-pairs-clause-refused : goal.returns-in_err-pairs-clause-refused
returns-in_err-pairs-clause-refused g c =
    exit_with c.from_residual-in_err-pairs.result (of_read c.in_err-pairs.field-0.0) _ c.from_residual-in_err-pairs.ensures
    (stopped_failed (built_reading c.args.self.now c.args.number (position_in c.args.self.now.prefix c.args.number c.args.key.now) (c.args.index.now ∷ [])) c.in_ok-range.range (upto_range (built_place c.args.self.now.prefix c.args.index.now.number) (position_in c.args.self.now.prefix c.args.number c.args.key.now))
    c.in_err-pairs.field-0.0 range_is (one_asked c.args.self.now c.args.number (position_in c.args.self.now.prefix c.args.number c.args.key.now) c.args.index.now (sym c.asks.ensures ∙ c.if-not-asks.false)) c.in_err-pairs.ensures.kept c.in_err-pairs.ensures.refused)
  where
    range_is : c.in_ok-range.range ≡ upto_range (built_place c.args.self.now.prefix c.args.index.now.number) (position_in c.args.self.now.prefix c.args.number c.args.key.now)
    range_is =
        c.in_ok-range.ensures ∙ (λ i. upto_range ((c.as_slice.ensures.value ∙ c.in_ok-place.ensures.place) i) (c.in_ok-position.ensures i))
        ∙ ap (λ p. upto_range (built_place p c.args.index.now.number) (position_in p c.args.number c.args.key.now)) c.prefix-prefix.ensures.prefix

pub returns-clause-read : goal.returns-clause-read
returns-clause-read g c =
    one_read c.args.self.now c.args.number (position_in c.args.self.now.prefix c.args.number c.args.key.now) c.args.index.now c.in_ok-range.range c.in_ok-pairs.pairs.items (sym c.asks.ensures ∙ c.if-not-asks.false) range_is c.in_ok-pairs.ensures.reads c.in_ok-pairs.ensures.answer
  where
    range_is : c.in_ok-range.range ≡ upto_range (built_place c.args.self.now.prefix c.args.index.now.number) (position_in c.args.self.now.prefix c.args.number c.args.key.now)
    range_is =
        c.in_ok-range.ensures ∙ (λ i. upto_range ((c.as_slice.ensures.value ∙ c.in_ok-place.ensures.place) i) (c.in_ok-position.ensures i))
        ∙ ap (λ p. upto_range (built_place p c.args.index.now.number) (position_in p c.args.number c.args.key.now)) c.prefix-prefix.ensures.prefix
