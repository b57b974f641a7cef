use Rattle.std.proofs.Common.{◌≡◌, ◌∙◌, length, sym}
use Rattle.schedule.specs.declared.step.TheConstants.{CLIENTS}
use Rattle.logged_schedule.proofs.Places.{on_ok_both, performed}
use Rattle.logged_schedule.proofs.following.Following.perform.Goals as goal

pub returns-then-is_accepted-clause-places : goal.returns-then-is_accepted-clause-places
returns-then-is_accepted-clause-places c =
    let before = c.args.self.now.places in
    let places : before.len ≡ CLIENTS = c.args.self.now.place_each in
    let same : before.len ≡ length before.items = before.ok.0 in
    on_ok_both c.accept.result c.accept.ensures.there c.accept.ensures.away
    (λ there away past. performed past before.items c.accept.new.self.places.items c.args.client c.args.command.now c.args.reply.now (sym same ∙ places) (sym c.is_accepted.ensures ∙ c.if-is_accepted.true)
    (record { there = there; away = away }))
