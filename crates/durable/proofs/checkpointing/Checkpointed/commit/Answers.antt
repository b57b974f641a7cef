use Rattle.std.proofs.Common.{◌⊎◌, ◌+◌, [], ◌∷◌, ◌++◌}
use Rattle.journal.proofs.Moments.{weaker}
use Rattle.durable.specs.Checkpoints.{HaveHistory}
use Rattle.durable.specs.Keeping.{HasOneOrNone, entry_at}
use Rattle.durable.specs.Standing as databases
use Rattle.durable.specs.Twofold.{image_of, log_device, spare_device}
use Rattle.durable.proofs.Histories.{all_added, all_unseen, with_or_without}
use Rattle.durable.proofs.checkpointing.Checkpointed.commit.Goals as goal

pub returns-clause-committed : goal.returns-clause-committed
returns-clause-committed g c =
    let d = g.D.Device in
    let old = c.args.self.now in
    all_added d.seen d.may_leave old.generation (log_device old) (spare_device old) (image_of old) c.args.request c.commit.result (databases.log_device c.commit.new.self) (databases.image_of c.commit.new.self) c.commit.ensures.committed

pub returns-clause-any_moment : goal.returns-clause-any_moment
returns-clause-any_moment g c = λ entries keeps.
    let d = g.D.Device in
    let old = c.args.self.now in
    let entry = entry_at ((image_of old).version + 1) c.args.request in
    weaker d.moment d.left_since (log_device old) _ (HasOneOrNone keeps.base keeps.after entry)
    (λ f. HaveHistory entries f (d.seen (spare_device old)) ⊎ HaveHistory (entries ++ entry ∷ []) f (d.seen (spare_device old)))
    (with_or_without d.seen d.may_leave entries old.generation (log_device old) (spare_device old) (image_of old) keeps entry) (c.commit.ensures.any_moment keeps.base keeps.after keeps.keeps)

pub returns-clause-unseen : goal.returns-clause-unseen
returns-clause-unseen g c =
    let d = g.D.Device in
    let old = c.args.self.now in
    all_unseen d.seen d.may_leave old.generation (log_device old) (spare_device old) (image_of old) c.args.request c.commit.result (databases.log_device c.commit.new.self) c.commit.ensures.unseen
