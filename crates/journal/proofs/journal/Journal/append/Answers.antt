use Rattle.std.proofs.Common.{◌≡◌, length, sym, ◌∙◌}
use Rattle.std.proofs.lemmas.Bool.{eqb-true}
use Rattle.std.proofs.lemmas.List.{length-map}
use Rattle.journal.specs.Words.{bytes_of_each}
use Rattle.journal.proofs.Appends.{idle, sound_with_none}
use Rattle.journal.proofs.journal.Journal.append.Goals as goal

pub returns-then-is_empty-clause-acknowledged : goal.returns-then-is_empty-clause-acknowledged
returns-then-is_empty-clause-acknowledged g c =
    let old = c.args.self.now in
    let none : length (bytes_of_each c.args.entries.now) ≡ 0 =
    length-map c.args.entries.now (λ v. v.items) ∙ eqb-true (length c.args.entries.now) 0 (sym c.is_empty.ensures ∙ c.if-is_empty.true) in
    sound_with_none g.D.Device.seen g.D.Device.may_leave g.D.Device.moment g.D.Device.left_since g.met.D.Device.only_now old.device old.end old.len (old.settled c.if-not-self.false) (bytes_of_each c.args.entries.now) none

pub returns-then-is_empty-clause-any_moment : goal.returns-then-is_empty-clause-any_moment
returns-then-is_empty-clause-any_moment g c = λ is_open. let old = c.args.self.now in
    idle g.D.Device.seen g.D.Device.may_leave g.D.Device.moment g.D.Device.left_since g.met.D.Device.only_now old.device old.end old.len (old.settled is_open) (bytes_of_each c.args.entries.now)

pub returns-in_err-block-clause-any_moment : goal.returns-in_err-block-clause-any_moment
returns-in_err-block-clause-any_moment g c = λ is_open. let old = c.args.self.now in
    idle g.D.Device.seen g.D.Device.may_leave g.D.Device.moment g.D.Device.left_since g.met.D.Device.only_now old.device old.end old.len (old.settled is_open) (bytes_of_each c.args.entries.now)

pub returns-then-len-self-clause-any_moment : goal.returns-then-len-self-clause-any_moment
returns-then-len-self-clause-any_moment g c = λ is_open. let old = c.args.self.now in
    idle g.D.Device.seen g.D.Device.may_leave g.D.Device.moment g.D.Device.left_since g.met.D.Device.only_now old.device old.end old.len (old.settled is_open) (bytes_of_each c.args.entries.now)

pub returns-in_err-more-clause-any_moment : goal.returns-in_err-more-clause-any_moment
returns-in_err-more-clause-any_moment g c = λ is_open. let old = c.args.self.now in
    idle g.D.Device.seen g.D.Device.may_leave g.D.Device.moment g.D.Device.left_since g.met.D.Device.only_now old.device old.end old.len (old.settled is_open) (bytes_of_each c.args.entries.now)
