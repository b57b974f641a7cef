use Rattle.std.proofs.Common.{◌+◌, true, refl}
use Rattle.txn.proofs.LastMutations.{noted_key, noted_wide}
use Rattle.txn.proofs.latest.Latest.note.Goals as goal

pub returns-in_default-clause-ok : goal.returns-in_default-clause-ok
returns-in_default-clause-ok c = λ ms notes.
    noted_wide c.args.self.now (record c.args.self.now { noted = c.args.self.now.noted + 1; is_cut = true }) c.args.mutation.now refl refl ms notes

pub returns-clause-ok : goal.returns-clause-ok
returns-clause-ok c = λ ms notes.
    noted_key c.args.self.now (record { places = c.insert.new.self; noted = c.args.self.now.noted + 1; is_cut = c.args.self.now.is_cut }) c.args.mutation.now c.in-Some.key.now c.in_ok-copy.field-0
    c.in-Some.ensures c.in_ok-copy.ensures refl refl c.in_ok-insert.ensures.updates.0 ms notes
