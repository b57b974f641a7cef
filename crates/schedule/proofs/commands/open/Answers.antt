use Rattle.std.proofs.Common.{◌≡◌, [], refl, subst, sym, ◌∙◌}
use Rattle.std.specs.Prelude.{IfErr, IfOk, IsTrue, OnOk}
use Rattle.kv_core.specs.Bytes.{end_of_keys, key_lt}
use Rattle.txn.proofs.Exits.{exit_with}
use Rattle.txn.proofs.Running.{ran_still}
use Rattle.record_store.specs.Layout.{store_prefix}
use Rattle.record_store.specs.Opening.{AreAllowed, IsUnopened, opening_reach}
use Rattle.record_store.specs.Steps.{no_memory}
use Rattle.record_store.proofs.Reopening.{there_stands}
use Rattle.record_store.proofs.Stopping.{none_begin}
use Rattle.schedule.proofs.KnownStores.{some_known, there_opened}
use Rattle.schedule.proofs.commands.open.Goals as goal

pub reopen-requires : goal.reopen-requires
reopen-requires g c =
    there_stands (g.S.Snapshot.map_at c.args.db.now) c.in-Some.store c.args.tx.now
    (some_known c.args.number (g.S.Snapshot.map_at c.args.db.now) c.args.known.now.store c.in-Some.store c.args.tx.now (sym c.take.ensures.value ∙ c.in-Some.is) c.requires.known).1

pub returns-in_err-reopen-clause-refused : goal.returns-in_err-reopen-clause-refused
returns-in_err-reopen-clause-refused g c =
    exit_with c.from_residual.result c.in_err-reopen.field-0.0 _ c.from_residual.ensures
    (subst (λ p. IsUnopened (g.S.Snapshot.map_at c.args.db.now) (g.S.Snapshot.may_refuse c.args.db.now) p c.in_err-reopen.field-0.0 c.args.tx.now c.args.tx.now)
    (some_known c.args.number (g.S.Snapshot.map_at c.args.db.now) c.args.known.now.store c.in-Some.store c.args.tx.now (sym c.take.ensures.value ∙ c.in-Some.is) c.requires.known).0 c.in_err-reopen.ensures.refused)

pub returns-in-Some-clause-prefix : goal.returns-in-Some-clause-prefix
returns-in-Some-clause-prefix g c =
    (some_known c.args.number (g.S.Snapshot.map_at c.args.db.now) c.args.known.now.store c.in-Some.store c.args.tx.now (sym c.take.ensures.value ∙ c.in-Some.is) c.requires.known).0

pub returns-in-Some-clause-there : goal.returns-in-Some-clause-there
returns-in-Some-clause-there g c = λ sees.
    (some_known c.args.number (g.S.Snapshot.map_at c.args.db.now) c.args.known.now.store c.in-Some.store c.args.tx.now (sym c.take.ensures.value ∙ c.in-Some.is) c.requires.known).1

pub returns-in_err-prefix-clause-refused : goal.returns-in_err-prefix-clause-refused
returns-in_err-prefix-clause-refused g c =
    exit_with c.from_residual-in_err-prefix.result no_memory _ c.from_residual-in_err-prefix.ensures
    (record { added = []; ran = ran_still refl (λ m. none_begin (opening_reach (store_prefix c.args.number))) })

pub open_knowing-requires : goal.open_knowing-requires
open_knowing-requires g c = subst (λ p. IsTrue (key_lt p end_of_keys)) (sym c.deref.ensures.value) c.in_ok-prefix.ensures.below

pub returns-clause-prefix : goal.returns-clause-prefix
returns-clause-prefix g c =
    subst (λ p. IfOk c.open_knowing.result (λ store. store.prefix ≡ p)) (c.deref.ensures.value ∙ c.in_ok-prefix.ensures.prefix) c.open_knowing.ensures.prefix

pub returns-clause-there : goal.returns-clause-there
returns-clause-there g c =
    there_opened c.args.number (g.S.Snapshot.map_at c.args.db.now) c.args.tx.now c.open_knowing.new.tx c.open_knowing.result c.open_knowing.ensures.opened
    (subst (λ p. IfOk c.open_knowing.result (λ store. store.prefix ≡ p)) (c.deref.ensures.value ∙ c.in_ok-prefix.ensures.prefix) c.open_knowing.ensures.prefix)

pub returns-clause-refused : goal.returns-clause-refused
returns-clause-refused g c =
    subst (λ p. IfErr c.open_knowing.result (λ error. IsUnopened (g.S.Snapshot.map_at c.args.db.now) (g.S.Snapshot.may_refuse c.args.db.now) p error c.args.tx.now c.open_knowing.new.tx))
    (c.deref.ensures.value ∙ c.in_ok-prefix.ensures.prefix) c.open_knowing.ensures.refused

pub returns-in-Some-clause-allowed : goal.returns-in-Some-clause-allowed
returns-in-Some-clause-allowed g c =
    subst (λ p. AreAllowed (g.S.Snapshot.must_refuse c.args.db.now) (opening_reach p) c.args.tx.now.read_version)
    (some_known c.args.number (g.S.Snapshot.map_at c.args.db.now) c.args.known.now.store c.in-Some.store c.args.tx.now (sym c.take.ensures.value ∙ c.in-Some.is) c.requires.known).0 c.in_ok-reopen.ensures.allowed

pub returns-clause-allowed : goal.returns-clause-allowed
returns-clause-allowed g c =
    subst (λ p. OnOk c.open_knowing.result (AreAllowed (g.S.Snapshot.must_refuse c.args.db.now) (opening_reach p) c.open_knowing.new.tx.read_version))
    (c.deref.ensures.value ∙ c.in_ok-prefix.ensures.prefix) c.open_knowing.ensures.allowed
