-- What a transaction makes of a log, and what a crash leaves of it.
use Rattle.std.proofs.Common.{◌≡◌, ℕ, ◌+◌, true, inl, inr, List, [], ◌∷◌, ◌++◌, sym, ap, subst, subst₂, ◌∙◌, append_assoc, arith}
use Rattle.kv_core.specs.Map.{after_all}
use Rattle.kv_core.specs.declared.change.Mutation.{Mutation}
use Rattle.record_store.specs.Layout.{is_store_number}
use Rattle.schedule.specs.declared.reply.Reply.{Reply}
use Rattle.journal.specs.Block.{Contents, StandsFor}
use Rattle.journal.specs.Device.{LeavesOnly, Only}
use Rattle.journal.specs.Journal.{IsBeforeOrAfter, entries_read}
use Rattle.journal.proofs.Moments.{started, weaker}
use Rattle.command_log.specs.declared.entry.Entry.{Entry}
use Rattle.command_log.specs.Answers.{IsWrittenAs}
use Rattle.replay.specs.Commands.{commands_of}
use Rattle.replay.specs.Logged.{AreServed, log_database}
use Rattle.replay.specs.Replaying.{AllDone, Image, IsLogged}
use Rattle.replay.proofs.Replays.{logged_more, step_done, written_append}
use Rattle.durable.specs.declared.error.CommitError.{CommitError}
use Rattle.durable.specs.declared.error.CommitError.TheVariants.{Memory, Refused, Full, Exhausted, Closed, Unknown, Starved, Unseen}
use Rattle.durable.specs.declared.request.Request.{Request}
use Rattle.durable.specs.Refusals.{IsOfAppend}
use Rattle.durable.specs.Keeping.{Base, HasLogOf, HasOnDisk, HasOneOrNone, KeepsLog, entry_at}

-- the byte strings that a file stands for are those that are read of it
are_read : (file : List ℕ) (log : List (List ℕ)) → StandsFor file log → entries_read file ≡ log
are_read file log stands = ap (λ (c : Contents). c.entries) stands

-- the bytes of the entry that is made of a request
pub is_entry : (bytes : List ℕ) (request : Request) (version number next : ℕ) → version ≡ next → number ≡ request.store →
    IsWrittenAs bytes (record { version = version; client = request.client; number = request.number; store = number; changes = request.changes }) → IsWrittenAs bytes (entry_at next request)
is_entry bytes request version number next at store is =
    subst₂ (λ v s. IsWrittenAs bytes (record { version = v; client = request.client; number = request.number; store = s; changes = request.changes })) at store is

-- a file that stands for one more
pub log_more : (base : Base) (file longer : List ℕ) (entries : List Entry) (bytes : List ℕ) (entry : Entry) → HasLogOf base file entries → IsWrittenAs bytes entry → StandsFor longer (entries_read file ++ bytes ∷ []) → HasLogOf base longer (entries ++ entry ∷ [])
log_more base file longer entries bytes entry (log, written, stands) is after =
    let all : entries_read file ++ bytes ∷ [] ≡ base.front ++ (log ++ bytes ∷ []) = ap (λ l. l ++ bytes ∷ []) (are_read file (base.front ++ log) stands) ∙ append_assoc base.front log (bytes ∷ []) in
    (log ++ bytes ∷ [], written_append log entries bytes entry written is, subst (λ l. StandsFor longer l) all after)

-- what a crash leaves of an append
pub one_or_none : (base : Base) (file : List ℕ) (entries : List Entry) (bytes : List ℕ) (entry : Entry) → HasLogOf base file entries → IsWrittenAs bytes entry → (c : List ℕ) → IsBeforeOrAfter (entries_read file) (bytes ∷ []) c → HasOneOrNone base entries entry c
one_or_none base file entries bytes entry (log, written, stands) is c (inl before) = inl (log, written, subst (StandsFor c) (are_read file (base.front ++ log) stands) before)
one_or_none base file entries bytes entry has is c (inr after) = inr (log_more base file c entries bytes entry has is after)

module _ {D : Type 0} (seen : D → List ℕ) (may_leave : D → List ℕ → Type 0) (moment : D → ℕ) (left_since : D → ℕ → List ℕ → Type 0) where
  -- where no call is made of the device, a crash leaves the log
  pub leaves_log : (only_now : (file : D) (c : List ℕ) → left_since file (moment file) c → may_leave file c) (base : Base) (entries : List Entry) (entry : Entry) (device : D) (image : Image) → KeepsLog seen may_leave base entries device image →
      LeavesOnly moment left_since device device (HasOneOrNone base entries entry)
  leaves_log only_now base entries entry device image keeps =
      started moment left_since device (HasOneOrNone base entries entry) (λ c left. inl (subst (λ f. HasLogOf base f entries) (sym (keeps.durable c (only_now device c left))) keeps.file))

  -- an append leaves it, with the entry or without
  pub leaves_append : (base : Base) (entries : List Entry) (entry : Entry) (bytes : List ℕ) (old new : D) (image : Image) → KeepsLog seen may_leave base entries old image → IsWrittenAs bytes entry →
      LeavesOnly moment left_since old new (IsBeforeOrAfter (entries_read (seen old)) (bytes ∷ [])) → LeavesOnly moment left_since old new (HasOneOrNone base entries entry)
  leaves_append base entries entry bytes old new image keeps is run =
      weaker moment left_since old new (IsBeforeOrAfter (entries_read (seen old)) (bytes ∷ [])) (HasOneOrNone base entries entry) (one_or_none base (seen old) entries bytes entry keeps.file is) run

  -- an append that is done
  pub appended : (base : Base) (entries : List Entry) (entry : Entry) (bytes : List ℕ) (old new : D) (image : Image) → KeepsLog seen may_leave base entries old image → IsWrittenAs bytes entry →
      StandsFor (seen new) (entries_read (seen old) ++ bytes ∷ []) → Only (seen new) (may_leave new) → HasOnDisk seen may_leave base (entries ++ entry ∷ []) new
  appended base entries entry bytes old new image keeps is stands durable = record { file = log_more base (seen old) (seen new) entries bytes entry keeps.file is stands; durable = durable }

  -- a transaction that is performed, appended and accepted
  pub keeps_more : (base : Base) (entries : List Entry) (request : Request) (bytes : List ℕ) (answers : List Reply) (mutations : List Mutation) (old new : D) (before after : Image) →
      KeepsLog seen may_leave base entries old before → IsWrittenAs bytes (entry_at (before.version + 1) request) → is_store_number request.store ≡ true → AllDone request.store before.map (commands_of request.changes) answers mutations →
      StandsFor (seen new) (entries_read (seen old) ++ bytes ∷ []) → Only (seen new) (may_leave new) → after ≡ record { map = after_all mutations before.map; version = before.version + 1 } →
      KeepsLog seen may_leave base (entries ++ entry_at (before.version + 1) request ∷ []) new after
  keeps_more base entries request bytes answers mutations old new before after keeps is lawful done stands durable now =
      let entry = entry_at (before.version + 1) request in
      record {
        file = log_more base (seen old) (seen new) entries bytes entry keeps.file is stands;
        durable = durable;
        logged =
            subst (λ es. IsLogged es after) (append_assoc base.before entries (entry ∷ []))
            (logged_more (base.before ++ entries) entry before after keeps.logged (step_done before entry after answers mutations done (omega arith) lawful now));
      }

-- the replies are those of the log's store
pub served_log : {D : Type 0} (seen : D → List ℕ) (may_leave : D → List ℕ → Type 0) (base : Base) (entries : List Entry) (request : Request) (answers : List Reply) (mutations : List Mutation) (device : D) (image : Image) → KeepsLog seen may_leave base entries device image →
    is_store_number request.store ≡ true → AllDone request.store image.map (commands_of request.changes) answers mutations → let d = log_database (base.before ++ entries) in AreServed request.store d.map [] (d.stores request.store) (commands_of request.changes) answers
served_log seen may_leave base entries request answers mutations device image keeps lawful done =
    let number = request.store in
    let d = log_database (base.before ++ entries) in
    subst (λ m. AreServed number m [] (d.stores number) (commands_of request.changes) answers) keeps.logged.map (done (d.stores number) (keeps.logged.holds.each number lawful)).served

-- an append doesn't answer that what it added can't be read
pub no_append_unseen : (error : CommitError) → IsOfAppend error → error ≡ Unseen → ⊥
no_append_unseen Memory of is = absurd (cc)
no_append_unseen (Refused error) of is = absurd of
no_append_unseen Full of is = absurd (cc)
no_append_unseen Exhausted of is = absurd of
no_append_unseen Closed of is = absurd of
no_append_unseen Unknown of is = absurd (cc)
no_append_unseen Starved of is = absurd (cc)
no_append_unseen Unseen of is = absurd of
