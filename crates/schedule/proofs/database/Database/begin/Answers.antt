use Rattle.std.proofs.Common.{Option, arith, refl, subst, sym, true, ◌∙◌, ◌≡◌, ℕ}
use Rattle.std.specs.Prelude.{SomeIff}
use Rattle.record_store.specs.Layout.{is_store_number}
use Rattle.schedule.proofs.Places.{no_number, none_from}
use Rattle.schedule.proofs.ClientSteps.{begin_missing, begin_steps}
use Rattle.schedule.proofs.database.Database.begin.Goals as goal

pub returns-in_default : goal.returns-in_default
returns-in_default c =
    begin_missing c.args.self.now c.args.client c.args.number (omega arith)
    (no_number c.args.number (subst (λ (o : Option ℕ). SomeIff o (is_store_number c.args.number ≡ true) c.args.number) c.in_default.is c.new.ensures))

pub returns : goal.returns
returns c =
    begin_steps c.args.self.now _ c.args.client c.args.number c.read_version-version.result c.index.result.now _ (omega arith) c.in-Some.ensures.0 c.index.ensures
    (none_from c.index.result.now (sym c.is_some.ensures ∙ c.if-is_some.false)) c.read_version-version.ensures.value c.in-Some.ensures.1 c.begin.ensures c.new-commands.ensures refl
    (record { cluster = refl; transactions = refl; unreported = refl; commits = refl })
