use Rattle.std.proofs.Common.{◌≡◌, ◌+◌, true, [], ◌∷◌, ◌++◌, ap, sym, subst, ◌∙◌}
use Rattle.std.proofs.lemmas.Result.{err_from_is_err_and}
use Rattle.kv_core.specs.Map.{after_all}
use Rattle.record_store.specs.Layout.{is_store_number}
use Rattle.journal.specs.Device.{LeavesOnly}
use Rattle.replay.specs.Replaying.{Image}
use Rattle.durable.specs.Keeping.{HasOnDisk, HasOneOrNone, KeepsLog, entry_at}
use Rattle.durable.specs.Standing.{image_of, log_device}
use Rattle.durable.proofs.Logging.{appended, is_entry, keeps_more, leaves_append, no_append_unseen, served_log}
use Rattle.durable.proofs.database.Durable.commit.Goals as goal

pub returns-in_err-append-clause-any_moment : goal.returns-in_err-append-clause-any_moment
returns-in_err-append-clause-any_moment g c = λ base entries keeps.
    let d = g.D.Device in
    let old = c.args.self.now in
    let request = c.args.request in
    let written = is_entry c.in_ok-bytes.bytes.items request c.in-Some.version c.get.result ((image_of old).version + 1) (c.in-Some.ensures.1 ∙ ap (λ v. v + 1) c.version.ensures) c.get.ensures.value c.in_ok-bytes.ensures in
    leaves_append d.seen d.may_leave d.moment d.left_since base entries (entry_at ((image_of old).version + 1) request) c.in_ok-bytes.bytes.items (log_device old) (log_device c.append.new.self) (image_of old) keeps written c.append.ensures.any_moment

pub returns-in_err-accept-clause-any_moment : goal.returns-in_err-accept-clause-any_moment
returns-in_err-accept-clause-any_moment g c = λ base entries keeps.
    let d = g.D.Device in
    let old = c.args.self.now in
    let request = c.args.request in
    let entry = entry_at ((image_of old).version + 1) request in
    let written = is_entry c.in_ok-bytes.bytes.items request c.in-Some.version c.get.result ((image_of old).version + 1) (c.in-Some.ensures.1 ∙ ap (λ v. v + 1) c.version.ensures) c.get.ensures.value c.in_ok-bytes.ensures in
    subst (λ file. LeavesOnly d.moment d.left_since (log_device old) file (HasOneOrNone base entries entry)) (sym c.accept.ensures.device)
    (leaves_append d.seen d.may_leave d.moment d.left_since base entries entry c.in_ok-bytes.bytes.items (log_device old) (log_device c.append.new.self) (image_of old) keeps written c.append.ensures.any_moment)

pub returns-in_err-append-clause-unseen : goal.returns-in_err-append-clause-unseen
returns-in_err-append-clause-unseen g c =
    let p = err_from_is_err_and c.from_residual-in_err-append.result c.from_residual-in_err-append.ensures.1 in
    rw (p.1, p.2) λ is base entries keeps. absurd (no_append_unseen c.in_err-append.field-0.0 c.in_err-append.ensures.others is)

pub returns-in_err-accept-clause-unseen : goal.returns-in_err-accept-clause-unseen
returns-in_err-accept-clause-unseen g c =
    let p = err_from_is_err_and c.from_residual-in_err-accept.result c.from_residual-in_err-accept.ensures.1 in
    rw (p.1, p.2) λ is base entries keeps.
    let d = g.D.Device in
    let old = c.args.self.now in
    let request = c.args.request in
    let entry = entry_at ((image_of old).version + 1) request in
    let written = is_entry c.in_ok-bytes.bytes.items request c.in-Some.version c.get.result ((image_of old).version + 1) (c.in-Some.ensures.1 ∙ ap (λ v. v + 1) c.version.ensures) c.get.ensures.value c.in_ok-bytes.ensures in
    subst (λ file. HasOnDisk d.seen d.may_leave base (entries ++ entry ∷ []) file) (sym c.accept.ensures.device)
    (appended d.seen d.may_leave d.moment d.left_since base entries entry c.in_ok-bytes.bytes.items (log_device old) (log_device c.append.new.self) (image_of old) keeps written c.in_ok-append.ensures.acknowledged c.in_ok-append.ensures.durable)

pub returns-clause-committed : goal.returns-clause-committed
returns-clause-committed g c = λ base entries keeps.
    let d = g.D.Device in
    let old = c.args.self.now in
    let before = image_of old in
    let request = c.args.request in
    let mutations = c.in_ok-done.done.mutations in
    let replies = c.in_ok-done.done.replies.items in
    let version : c.in-Some.version ≡ before.version + 1 = c.in-Some.ensures.1 ∙ ap (λ v. v + 1) c.version.ensures in
    let written = is_entry c.in_ok-bytes.bytes.items request c.in-Some.version c.get.result (before.version + 1) version c.get.ensures.value c.in_ok-bytes.ensures in
    let lawful = subst (λ n. is_store_number n ≡ true) c.get.ensures.value c.get.ensures.lawful in
    let now : image_of c.accept.new.self ≡ record { map = after_all mutations before.map; version = before.version + 1 } =
    c.in_ok-accept.ensures.image ∙ ap (λ (i : Image). record { map = after_all mutations i.map; version = c.in-Some.version }) (c.in_ok-append.ensures.image ∙ c.in_ok-done.ensures.kept)
    ∙ ap (λ v. record { map = after_all mutations before.map; version = v }) version in
    record {
      given = version;
      keeps = subst (λ file. KeepsLog d.seen d.may_leave base (entries ++ entry_at (before.version + 1) request ∷ []) file (image_of c.accept.new.self)) (sym c.in_ok-accept.ensures.device)
          (keeps_more d.seen d.may_leave d.moment d.left_since base entries request c.in_ok-bytes.bytes.items replies mutations (log_device old) (log_device c.append.new.self) before (image_of c.accept.new.self) keeps written lawful c.in_ok-done.ensures.done
          c.in_ok-append.ensures.acknowledged c.in_ok-append.ensures.durable now);
      served = served_log d.seen d.may_leave base entries request replies mutations (log_device old) before keeps lawful c.in_ok-done.ensures.done;
    }

pub returns-clause-any_moment : goal.returns-clause-any_moment
returns-clause-any_moment g c = λ base entries keeps.
    let d = g.D.Device in
    let old = c.args.self.now in
    let request = c.args.request in
    let entry = entry_at ((image_of old).version + 1) request in
    let written = is_entry c.in_ok-bytes.bytes.items request c.in-Some.version c.get.result ((image_of old).version + 1) (c.in-Some.ensures.1 ∙ ap (λ v. v + 1) c.version.ensures) c.get.ensures.value c.in_ok-bytes.ensures in
    subst (λ file. LeavesOnly d.moment d.left_since (log_device old) file (HasOneOrNone base entries entry)) (sym c.accept.ensures.device)
    (leaves_append d.seen d.may_leave d.moment d.left_since base entries entry c.in_ok-bytes.bytes.items (log_device old) (log_device c.append.new.self) (image_of old) keeps written c.append.ensures.any_moment)
