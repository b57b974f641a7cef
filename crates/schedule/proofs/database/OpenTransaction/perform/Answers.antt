use Rattle.std.proofs.Common.{◌++◌, ◌∷◌, [], ap, cond, refl, sym, subst, ◌∙◌, append-nil}
use Rattle.cluster_core.specs.Cluster.{database_at}
use Rattle.schedule.specs.Known.{IsKnown, StaysKnown}
use Rattle.schedule.specs.Running.{IsPerformedBy}
use Rattle.schedule.proofs.KnownStores.{stays_known}
use Rattle.schedule.proofs.database.OpenTransaction.perform.Goals as goal
use Rattle.schedule.proofs.database.OpenTransaction.perform.Goals.{then-is_accepted+in_ok-push, else-is_accepted}

pub perform_open-requires : goal.perform_open-requires
perform_open-requires c = record { known = subst (λ o. IsKnown c.args.self.now.store (database_at c.args.cluster.now) o c.args.self.now.transaction) (sym c.take.ensures.value) c.requires }

pub returns : goal.returns
returns c =
    let items = c.args.self.now.commands in
    let command = c.args.command.now in
    let stays = subst (λ o. StaysKnown c.args.self.now.store (database_at c.args.cluster.now) o c.args.self.now.transaction c.perform_open.new.tx) (sym c.take-2.ensures.value) c.in_ok-reply.ensures.known in
    let known = stays_known c.args.stays_open c.args.self.now.store (database_at c.args.cluster.now) c.take-2.result c.kept_open.result c.args.self.now.transaction c.perform_open.new.tx c.kept_open.ensures stays in
    elim c.if-is_accepted.branch [
      | then-is_accepted+in_ok-push w ↦ subst (IsPerformedBy c.args.cluster.now c.args.stays_open command c.in_ok-reply.reply c.args.self.now) (sym w.self-is) (record {
        store = refl;
        performed = c.in_ok-reply.ensures.performed;
        commands = w.in_ok-push.ensures ∙ ap (λ b. items ++ cond b (command ∷ []) []) (sym (sym c.is_accepted.ensures ∙ w.if-is_accepted.true));
        known = known;
      })
      | else-is_accepted w ↦ subst (IsPerformedBy c.args.cluster.now c.args.stays_open command c.in_ok-reply.reply c.args.self.now) (sym w.self-is) (record {
        store = refl;
        performed = c.in_ok-reply.ensures.performed;
        commands = sym (append-nil items) ∙ ap (λ b. items ++ cond b (command ∷ []) []) (sym (sym c.is_accepted.ensures ∙ w.if-is_accepted.false));
        known = known;
      })
    ]
