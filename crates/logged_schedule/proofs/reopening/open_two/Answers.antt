use Rattle.std.proofs.Common.{◌∙◌, subst, sym}
use Rattle.durable.specs.Twofold.{generation_of, image_of, log_device, spare_device}
use Rattle.replay.specs.Continuing.{config_after}
use Rattle.logged_schedule.specs.declared.followed.Followed.{Followed}
use Rattle.logged_schedule.specs.Reopening.{IsBegunOverSome}
use Rattle.logged_schedule.specs.Standing.{BeginsFollowed}
use Rattle.logged_schedule.proofs.TwoFiles.{opens_parts}
use Rattle.logged_schedule.proofs.reopening.open_two.Goals as goal

pub returns-in-Ok-begun_over-clause-opened : goal.returns-in-Ok-begun_over-clause-opened
returns-in-Ok-begun_over-clause-opened g c =
    let d = g.D.Device in
    let db = c.in-Ok.db in
    let parts = c.into_parts-parts.ensures in
    let of = c.of.ensures in
    opens_parts d.seen d.may_leave c.args.config (d.seen c.args.first) (d.seen c.args.second) (image_of db) c.into_parts-parts.result.image (generation_of db) (log_device db) (spare_device db) c.of.result c.in-Ok.ensures.opened
    parts.image (of.generation ∙ parts.generation) (of.log ∙ parts.log) (of.spare ∙ parts.spare) (of.last ∙ c.version-last.ensures)
    (λ entries logged. subst (BeginsFollowed entries (config_after entries c.args.config)) (sym of.followed) (c.in-Ok-begun_over.ensures.begun entries logged))

pub returns-in-Ok-begun_over-clause-begun : goal.returns-in-Ok-begun_over-clause-begun
returns-in-Ok-begun_over-clause-begun g c = subst (λ (f : Followed). IsBegunOverSome c.args.config f.schedule) (sym c.of.ensures.followed) c.in-Ok-begun_over.ensures.over_some
