-- What commands come to, from what the calls that they make on the store establish.
use Rattle.std.proofs.Common.{◌≡◌, ℕ, true, not, cond, List, [], ◌++◌, inl, inr, refl, sym, ap, subst, ◌∙◌, append-nil, Some, None, Ok, Err}
use Rattle.kv_core.specs.Range.{KeyRange}
use Rattle.kv_core.specs.Map.{Map, after_all}
use Rattle.kv_core.specs.Limits.{write_all_refusal}
use Rattle.kv_core.specs.declared.change.CommitRequest.{CommitRequest}
use Rattle.kv_core.specs.declared.snapshot.ReadError.{ReadError}
use Rattle.txn.proofs.Running.{ran_because, ran_then}
use Rattle.metadata.specs.declared.refusal.MetadataError.TheVariants as meta
use Rattle.schedule.specs.Refusals.{of_schema, reply_of}
use Rattle.schedule.specs.declared.refusal.Refusal.{Refusal}
use Rattle.schedule.specs.declared.refusal.Refusal.TheVariants.{AlreadyThere, NoStore, NotAggregate, NotBuilt, NotReadable, OtherSchema, WrongState}
use Rattle.record_store.specs.declared.error.StoreError.{StoreError}
use Rattle.record_store.specs.declared.error.StoreError.TheVariants.{Memory, Read, Write, Corrupt, Refused}
use Rattle.record_store.specs.declared.error.StoreError.TheVariants as fault
use Rattle.record_store.specs.Store.{Store, Serial}
use Rattle.record_store.specs.Holds.{Holds}
use Rattle.record_store.specs.Call.{AtStore, Call, IsAnswered, IsDamagedAt, IsDone, IsFailure, IsOpenAs, IsRefusedThere, Opened, Reading, Service, whole}
use Rattle.record_store.specs.Call as call
use Rattle.record_store.specs.Opening.{AtSerials, HasSchema, IsOpenFailure, IsOpened, IsThereAs, IsUnopened, opening_reach}
use Rattle.record_store.specs.Steps.{IsBeginning, IsNextRefused}
use Rattle.record_store.specs.Layout.{store_prefix}
use Rattle.record_store.proofs.Stopping.{begin_behind}
use Rattle.schedule.specs.declared.step.Command.{Command}
use Rattle.schedule.specs.declared.reply.Reply.{Reply}
use Rattle.schedule.specs.declared.reply.Reply.TheVariants as reply
use Rattle.schedule.specs.Serve.{IsReply, IsReplyOf, answering, effect, left_by, serial_line}
use Rattle.schedule.specs.Serve as serve
use Rattle.schedule.specs.Past.{is_accepted, tells_change}
use Rattle.schedule.specs.Holds.{Stands}
use Rattle.schedule.specs.Reach.{opened_in, added_by, open_reach, own_damage, own_reading, reach, writes, footprint_writes, written_with}
use Rattle.schedule.specs.Performed.{IsLimited, IsPerformed, IsPerformedAt, IsReadRefusedAs}
use Rattle.schedule.specs.Calls.{IsCommandRefused}
use Rattle.schedule.proofs.Reached.{all_added, begin_open, next_within, opening_added, opening_asked, own_asked, sound_by, sound_none, told_accepted}
use Rattle.schedule.proofs.Stops.{IsRight, IsStop, at, limit_right, memory_opened, own_right, read_right, refused_by, refused_right, opened_is, stop_memory, stopped_all, told_damage, told_limit, told_read, told_refused}

-- UNOPENED: no store was opened
pub refused_unopened : (number : ℕ) {maps : ℕ → Map} {refuses : KeyRange → ℕ → ReadError → Type 0} {old new : CommitRequest} (command : Command) (error : StoreError) → open_reach number command ≡ opening_reach (store_prefix number) → IsReply None command (reply.Refused NoStore) →
    ((m : Map) → writes number m None command ≡ []) → IsUnopened maps refuses (store_prefix number) error old new → IsCommandRefused number maps refuses command error old new
refused_unopened number {refuses = refuses} {old = old} command error opens is none unopened = refused_by number command None error unopened.added (ran_because unopened.ran (λ m says. stop error unopened.added m says))
  where
    refused : KeyRange → ReadError → Type 0
    refused range = refuses range old.read_version

    nothing : (m : Map) (serial : Serial) → serial ≡ None → IsRight number refused command old.mutations fault.NoStore m serial
    nothing m serial there = subst (IsRight number refused command old.mutations fault.NoStore m) (sym there) (own_right number refused command old.mutations fault.NoStore NoStore m None refl is (none m))

    stop : (error : StoreError) (ranges : List KeyRange) (m : Map) → IsOpenFailure refused (store_prefix number) error ranges m → IsStop number refused None command old.mutations error ranges m
    stop Memory ranges m says =
        stop_memory number refused None command old.mutations ranges m tt (begin_open number command ((own_reading None command).added m) opens says) (λ serial stands. begin_open number command (((own_reading (opened_in number serial) command).added m)) opens says)
    stop (Read reason) ranges m says = record {
      there = tt;
      reads = begin_open number command ((own_reading None command).added m) opens says.0;
      told = λ answer same. told_read number None command reason answer m same;
      held = λ serial stands. (
        λ answer same. inr (read_right refused (reach number (opened_in number serial) command m) reason answer same (next_within refused (opening_reach (store_prefix number)) ranges (reach number (opened_in number serial) command m) reason (opening_asked number (opened_in number serial) command m opens) says.1)),
        begin_open number command (((own_reading (opened_in number serial) command).added m)) opens says.0,
      );
    }
    stop (Write reason) ranges m says = absurd says
    stop (Corrupt key) ranges m says = record {
      there = tt;
      reads = says.0 ∙ opening_added number None command m opens refl;
      told = λ answer same. told_damage number None command key answer m same (says.1, says.2);
      held = λ serial stands. absurd (says.3 serial stands);
    }
    stop fault.NoStore ranges m says = record {
      there = tt;
      reads = says.0 ∙ opening_added number None command m opens refl;
      told = λ answer same. told_refused number None command NoStore answer m same (sound_none number command m says.1);
      held = λ serial stands. (
        nothing m serial (says.2 serial stands),
        says.0 ∙ opening_added number None command m opens refl ∙ ap (λ (s : Serial). added_by number (opened_in number s) command m) (sym (says.2 serial stands)),
      );
    }
    stop (Refused refusal) ranges m says = absurd says
    stop fault.AlreadyThere ranges m says = absurd says
    stop fault.OtherSchema ranges m says = absurd says
    stop fault.NotAggregate ranges m says = absurd says
    stop fault.NotReadable ranges m says = absurd says
    stop fault.WrongState ranges m says = absurd says
    stop fault.NotBuilt ranges m says = absurd says

-- ---- calls on an open store

-- what a command is by the service that it asks of the store: it reads the same behind the opening, and its line at each store that was opened so is the service's, and what it may write
pub record Serves (number : ℕ) {A : Type 0} (opened : Opened) (command : Command) (service : Service A) (told : A → Reply) : Type 0 where
  pub opens : open_reach number command ≡ opening_reach (store_prefix number)
  pub reads : own_reading (Some opened) command ≡ service.footprint.reading
  pub undamaged : (m : Map) → own_damage (Some opened) command m ≡ None
  pub accepted : (answer : A) → is_accepted (told answer) ≡ true
  pub telling : (answer : A) → service.meaning.changes answer ≡ tells_change (told answer)
  pub lines : (store : Store) → IsOpenAs opened store → serial_line (Some store) command ≡ answering store told service.meaning (service.meaning.answer store)
  pub prints : (m : Map) (store : Store) → IsOpenAs opened store → footprint_writes number m (Some store) command ≡ service.footprint.writes m store

-- what a command is whose call has this refusal of its own: it reads nothing behind the opening, and its line at each store that was opened so is that refusal
pub record Refuses (number : ℕ) (opened : Opened) (command : Command) (error : StoreError) : Type 0 where
  pub opens : open_reach number command ≡ opening_reach (store_prefix number)
  pub reads : own_reading (Some opened) command ≡ whole []
  pub undamaged : (m : Map) → own_damage (Some opened) command m ≡ None
  pub refusal : Refusal
  pub told : reply_of error ≡ Some (reply.Refused refusal)
  pub lines : (store : Store) → IsOpenAs opened store → serial_line (Some store) command ≡ serve.Refuses (reply_of error)

-- what a command is by its call
abbrev pub Meets : (number : ℕ) {A : Type 0} → Opened → Command → Call A → (A → Reply) → Type 0
Meets number opened command (Ok service) told = Serves number opened command service told
Meets number opened command (Err error) told = Refuses number opened command error

-- at a store that is answered so
module _ (number : ℕ) {A : Type 0} (opened : Opened) (command : Command) (service : Service A) (told : A → Reply) (serves : Serves number opened command service told) (store : Store) (same : IsOpenAs opened store) (answer : A) (is : service.meaning.answer store ≡ Ok answer) where
  lines_so : serial_line (Some store) command ≡ serve.Replies (told answer) (Some (service.meaning.after store))
  lines_so = serves.lines store same ∙ ap (answering store told service.meaning) is

  replies_so : IsReply (Some store) command (told answer)
  replies_so = subst (λ l. IsReplyOf l (told answer)) (sym lines_so) refl

  leaves_so : effect (Some store) command ≡ Some (service.meaning.after store)
  leaves_so = ap (left_by (Some store)) lines_so

  writes_so : (m : Map) → writes number m (Some store) command ≡ service.footprint.writes m store
  writes_so m = ap (λ l. written_with l (footprint_writes number m (Some store) command)) lines_so ∙ serves.prints m store same

-- nothing is written when a store is opened
unwritten : (number : ℕ) {maps : ℕ → Map} {old new : CommitRequest} (opened : Opened) → IsOpened maps (at number opened) old new → new.mutations ≡ old.mutations
unwritten number {old = old} opened is = is.ran.wrote ∙ append-nil old.mutations

-- the ranges that were added by what was opened are those that are added at what is there
pub at_serial : (number : ℕ) (opened : Opened) (command : Command) (m : Map) (serial : Serial) (ranges : List KeyRange) → Holds (store_prefix number) m serial → IsThereAs (at number opened) serial → ranges ≡ added_by number (Some (at number opened)) command m → ranges ≡ added_by number (opened_in number serial) command m
at_serial number opened command m serial ranges holds has is = is ∙ ap (λ s. added_by number s command m) (sym (opened_is number (at number opened) serial refl has))

pub begin_serial : (number : ℕ) (opened : Opened) (command : Command) (m : Map) (serial : Serial) (ranges : List KeyRange) → Holds (store_prefix number) m serial → IsThereAs (at number opened) serial → IsBeginning ranges (added_by number (Some (at number opened)) command m) →
    IsBeginning ranges (added_by number (opened_in number serial) command m)
begin_serial number opened command m serial ranges holds has begin = subst (IsBeginning ranges) (ap (λ s. added_by number s command m) (sym (opened_is number (at number opened) serial refl has))) begin

-- OWN: a store was opened, and the command has its own refusal
pub refused_own : (number : ℕ) {maps : ℕ → Map} {refuses : KeyRange → ℕ → ReadError → Type 0} {old mid : CommitRequest} (opened : Opened) (command : Command) (error : StoreError) → Refuses number (at number opened) command error → IsOpened maps (at number opened) old mid →
    IsCommandRefused number maps refuses command error old mid
refused_own number {refuses = refuses} {old = old} opened command error so is =
    refused_by number command (Some (at number opened)) error (opening_reach (store_prefix number)) (ran_because is.ran (λ m has. record {
      there = (refl, has.0);
      reads = stopped_all error (opening_added number (Some (at number opened)) command m so.opens so.reads);
      told = λ answer same. told_refused number (Some (at number opened)) command so.refusal answer m (sym so.told ∙ same) (sound_by number (at number opened) command (reply.Refused so.refusal) m (whole []) so.reads (so.undamaged m) tt);
      held = λ serial stands. (
        right m serial (has.1 serial stands),
        stopped_all error (at_serial number opened command m serial (opening_reach (store_prefix number)) stands (has.1 serial stands) (opening_added number (Some (at number opened)) command m so.opens so.reads)),
      );
    }))
  where
    right : (m : Map) (serial : Serial) → IsThereAs (at number opened) serial → IsRight number (λ range. refuses range old.read_version) command old.mutations error m serial
    right m None has = absurd has
    right m (Some store) has = refused_right number (λ range. refuses range old.read_version) command old.mutations error m (Some store) (so.lines store has)

module _ (number : ℕ) {A : Type 0} (opened : Opened) (command : Command) (service : Service A) (told : A → Reply) (serves : Serves number (at number opened) command service told) (ranges : List KeyRange) (m : Map) where
  -- the ranges of the opening, and behind them those of the call
  pub all_ranges : ranges ≡ service.footprint.reading.added m → opening_reach (store_prefix number) ++ ranges ≡ added_by number (Some (at number opened)) command m
  all_ranges is i = sym serves.opens i ++ (is ∙ ap (λ (r : Reading). r.added m) (sym serves.reads)) i

  pub first_ranges : IsBeginning ranges (service.footprint.reading.added m) → IsBeginning (opening_reach (store_prefix number) ++ ranges) (added_by number (Some (at number opened)) command m)
  first_ranges begin =
      subst (λ (r : Reading). IsBeginning (opening_reach (store_prefix number) ++ ranges) (open_reach number command ++ r.added m)) (sym serves.reads)
      (subst (λ first. IsBeginning (opening_reach (store_prefix number) ++ ranges) (first ++ service.footprint.reading.added m)) (sym serves.opens) (begin_behind (opening_reach (store_prefix number)) begin))

-- ANSWERED: a store was opened, and a call on it was answered
performed_at : (number : ℕ) {maps : ℕ → Map} {refuses : KeyRange → ReadError → Type 0} {old mid new : CommitRequest} {A : Type 0} (opened : Opened) (command : Command) (asked : Call A) (told : A → Reply) (answer : A) →
    Meets number (at number opened) command asked told → IsOpened maps (at number opened) old mid → IsAnswered maps (at number opened) asked answer mid new → IsPerformed number maps refuses command (told answer) old new
performed_at number {refuses = refuses} {old = old} {mid = mid} {A = A} opened command asked told answer meets is_opened is = record {
  opened = Some (at number opened);
  added = opening_reach (store_prefix number) ++ is.added;
  written = is.written;
  changes = is.changes ∙ ap not (serves.telling answer);
  ran = ran_then is_opened.ran is.ran (λ m has fact. (
    record {
      there = (refl, has.0);
      reads = all_added (told answer) (all_ranges number opened command is.service told serves is.added m fact.0);
      told = told_accepted number (Some (at number opened)) command (told answer) m (serves.accepted answer) (sound_by number (at number opened) command (told answer) m is.service.footprint.reading serves.reads (serves.undamaged m) fact.1);
    },
    λ serial stands. here m fact.0 fact.2 serial stands (has.1 serial stands),
  ));
}
  where
    serves : Serves number (at number opened) command is.service told
    serves = subst (λ (c : Call A). Meets number (at number opened) command c told) is.accepted meets

    here : (m : Map) → is.added ≡ is.service.footprint.reading.added m → AtStore (at number opened) m (IsDone (at number opened) is.service answer mid.mutations is.written m) → (serial : Serial) → Stands number m serial → IsThereAs (at number opened) serial →
        IsPerformedAt number refuses command (told answer) old.mutations is.written (opening_reach (store_prefix number) ++ is.added) m serial
    here m reads done None stands has = absurd has
    here m reads done (Some store) stands has =
        let now = done store stands has in
        let wrote : is.written ≡ writes number m (Some store) command = now.wrote ∙ sym (writes_so number (at number opened) command is.service told serves store has answer now.answers m) in record {
          right = inl (subst (λ o. IsLimited o (Some store) command (told answer))
              (sym now.allowed ∙ ap (λ ms. write_all_refusal ms is.written) (unwritten number opened is_opened) ∙ ap (write_all_refusal old.mutations) wrote)
              (replies_so number (at number opened) command is.service told serves store has answer now.answers));
          wrote = wrote ∙ ap (λ b. cond b (writes number m (Some store) command) []) (sym (serves.accepted answer));
          holds = subst (λ b. Stands number (after_all is.written m) (cond b (effect (Some store) command) (Some store))) (sym (serves.accepted answer))
              (subst (Stands number (after_all is.written m)) (sym (leaves_so number (at number opened) command is.service told serves store has answer now.answers)) now.holds);
          reads = all_added (told answer) (at_serial number opened command m (Some store) (opening_reach (store_prefix number) ++ is.added) stands has (all_ranges number opened command is.service told serves is.added m reads));
        }

-- NOT ANSWERED: a store was opened, and a call on it was refused
refused_at : (number : ℕ) {maps : ℕ → Map} {refuses : KeyRange → ℕ → ReadError → Type 0} {old mid new : CommitRequest} {A : Type 0} (opened : Opened) (command : Command) (asked : Call A) (told : A → Reply) (error : StoreError) →
    open_reach number command ≡ opening_reach (store_prefix number) → Meets number (at number opened) command asked told → IsOpened maps (at number opened) old mid → call.IsRefused maps refuses (at number opened) asked error mid new → IsCommandRefused number maps refuses command error old new
refused_at number {maps = maps} {refuses = refuses} {old = old} {mid = mid} {new = new} opened command (Err refusal) told error opens meets is_opened is =
    subst (λ (t : CommitRequest). IsCommandRefused number maps refuses command error old t) (sym is.1) (elim is.0 [
      | inl memory ↦ subst (λ e. IsCommandRefused number maps refuses command e old mid) (sym memory) (memory_opened number opened command opens is_opened)
      | inr own ↦ subst (λ e. IsCommandRefused number maps refuses command e old mid) (sym own) (refused_own number opened command refusal meets is_opened)
    ])
refused_at number {refuses = refuses} {old = old} {mid = mid} opened command (Ok service) told error opens serves is_opened is =
    refused_by number command (Some (at number opened)) error (opening_reach (store_prefix number) ++ is.added) (ran_then is_opened.ran is.ran (λ m has says. stop error is.added m has says))
  where
    refused : KeyRange → ReadError → Type 0
    refused range = refuses range old.read_version

    same_version : mid.read_version ≡ old.read_version
    same_version = is_opened.ran.version

    -- the store that is there is refused
    unanswered : (error : StoreError) (refusal : Refusal) → reply_of error ≡ Some (reply.Refused refusal) → (ranges : List KeyRange) (m : Map) → HasSchema (at number opened) m × AtSerials (store_prefix number) m (IsThereAs (at number opened)) →
        IsRefusedThere (at number opened) service error ranges m → IsStop number refused (Some (at number opened)) command old.mutations error (opening_reach (store_prefix number) ++ ranges) m
    unanswered error refusal is_reply ranges m has says = record {
      there = (refl, has.0);
      reads = stopped_all error (all_ranges number opened command service told serves ranges m says.1);
      told = λ answer same. told_refused number (Some (at number opened)) command refusal answer m (sym is_reply ∙ same) (sound_by number (at number opened) command (reply.Refused refusal) m service.footprint.reading serves.reads (serves.undamaged m) says.2);
      held = λ serial stands. (
        right serial stands (has.1 serial stands),
        stopped_all error (at_serial number opened command m serial (opening_reach (store_prefix number) ++ ranges) stands (has.1 serial stands) (all_ranges number opened command service told serves ranges m says.1)),
      );
    }
      where
        right : (serial : Serial) → Holds (store_prefix number) m serial → IsThereAs (at number opened) serial → IsRight number refused command old.mutations error m serial
        right None holds none = absurd none
        right (Some store) holds same = refused_right number refused command old.mutations error m (Some store) (serves.lines store same ∙ ap (answering store told service.meaning) (says.3 store holds same))

    stop : (error : StoreError) (ranges : List KeyRange) (m : Map) → HasSchema (at number opened) m × AtSerials (store_prefix number) m (IsThereAs (at number opened)) → IsFailure (λ range. refuses range mid.read_version) (at number opened) service error mid.mutations ranges m →
        IsStop number refused (Some (at number opened)) command old.mutations error (opening_reach (store_prefix number) ++ ranges) m
    stop Memory ranges m has says =
        stop_memory number refused (Some (at number opened)) command old.mutations (opening_reach (store_prefix number) ++ ranges) m (refl, has.0) (first_ranges number opened command service told serves ranges m says)
        (λ serial stands. begin_serial number opened command m serial (opening_reach (store_prefix number) ++ ranges) stands (has.1 serial stands) (first_ranges number opened command service told serves ranges m says))
    stop (Read reason) ranges m has says = record {
      there = (refl, has.0);
      reads = first_ranges number opened command service told serves ranges m says.0;
      told = λ answer same. told_read number (Some (at number opened)) command reason answer m same;
      held = λ serial stands. (
        λ answer same. inr (read_right refused (reach number (opened_in number serial) command m) reason answer same
            (subst (λ s. IsReadRefusedAs refused (reach number s command m) reason) (sym (opened_is number (at number opened) serial refl (has.1 serial stands)))
            (next_within refused (service.footprint.reading.asked m) ranges (reach number (Some (at number opened)) command m) reason (own_asked number (Some (at number opened)) command m service.footprint.reading serves.reads)
            (subst (λ v. IsNextRefused (λ range. refuses range v) (service.footprint.reading.asked m) ranges reason) same_version says.1)))),
        begin_serial number opened command m serial (opening_reach (store_prefix number) ++ ranges) stands (has.1 serial stands) (first_ranges number opened command service told serves ranges m says.0),
      );
    }
    stop (Corrupt key) ranges m has says = record {
      there = (refl, has.0);
      reads = all_ranges number opened command service told serves ranges m says.0;
      told = λ answer same. told_damage number (Some (at number opened)) command key answer m same (inl (subst (λ (r : Reading). IsDamagedAt (at number opened) r key m) (sym serves.reads) says.1));
      held = λ serial stands. damaged serial stands (has.1 serial stands);
    }
      where
        damaged : (serial : Serial) → Holds (store_prefix number) m serial → IsThereAs (at number opened) serial → IsRight number refused command old.mutations (Corrupt key) m serial × (opening_reach (store_prefix number) ++ ranges ≡ added_by number (opened_in number serial) command m)
        damaged None holds none = absurd none
        damaged (Some store) holds same = absurd (says.2 store holds same)
    stop (Write reason) ranges m has says = record {
      there = (refl, has.0);
      reads = all_ranges number opened command service told serves ranges m says.0;
      told = λ answer same. told_limit number (Some (at number opened)) command reason answer m same (λ refusal other. sound_by number (at number opened) command (reply.Refused refusal) m service.footprint.reading serves.reads (serves.undamaged m) says.1);
      held = λ serial stands. (
        limited serial stands (has.1 serial stands),
        at_serial number opened command m serial (opening_reach (store_prefix number) ++ ranges) stands (has.1 serial stands) (all_ranges number opened command service told serves ranges m says.0),
      );
    }
      where
        limited : (serial : Serial) → Holds (store_prefix number) m serial → IsThereAs (at number opened) serial → IsRight number refused command old.mutations (Write reason) m serial
        limited None holds none = absurd none
        limited (Some store) holds same =
            limit_right number refused command old.mutations reason m (Some store)
            (ap (λ ms. write_all_refusal ms (writes number m (Some store) command)) (sym (unwritten number opened is_opened)) ∙ ap (write_all_refusal mid.mutations) (writes_so number (at number opened) command service told serves store same (says.2 store holds same).0.answer (says.2 store holds same).0.is m) ∙ (says.2 store holds same).1)
    stop (Refused refusal) ranges m has says = unanswered (Refused refusal) (of_schema refusal) refl ranges m has says
    stop fault.NoStore ranges m has says = unanswered fault.NoStore NoStore refl ranges m has says
    stop fault.AlreadyThere ranges m has says = unanswered fault.AlreadyThere AlreadyThere refl ranges m has says
    stop fault.OtherSchema ranges m has says = unanswered fault.OtherSchema OtherSchema refl ranges m has says
    stop fault.NotAggregate ranges m has says = unanswered fault.NotAggregate NotAggregate refl ranges m has says
    stop fault.NotReadable ranges m has says = unanswered fault.NotReadable NotReadable refl ranges m has says
    stop fault.WrongState ranges m has says = unanswered fault.WrongState WrongState refl ranges m has says
    stop fault.NotBuilt ranges m has says = unanswered fault.NotBuilt NotBuilt refl ranges m has says

-- ---- the same where the opened store stands at the store's prefix

pub located : (number : ℕ) (opened : Opened) → opened.prefix ≡ store_prefix number → opened ≡ at number opened
located number opened is = λ i. record { prefix = is i; schema = opened.schema; states = opened.states }

-- ANSWERED
pub performed : (number : ℕ) {maps : ℕ → Map} {refuses : KeyRange → ReadError → Type 0} {old mid new : CommitRequest} {A : Type 0} (opened : Opened) (command : Command) (asked : Opened → Call A) (told : A → Reply) (answer : A) → opened.prefix ≡ store_prefix number →
    Meets number (at number opened) command (asked (at number opened)) told → IsOpened maps opened old mid → IsAnswered maps opened (asked opened) answer mid new → IsPerformed number maps refuses command (told answer) old new
performed number {maps = maps} {old = old} {mid = mid} {new = new} opened command asked told answer here meets is_opened is =
    performed_at number opened command (asked (at number opened)) told answer meets (subst (λ o. IsOpened maps o old mid) (located number opened here) is_opened)
    (subst (λ o. IsAnswered maps o (asked o) answer mid new) (located number opened here) is)

-- NOT ANSWERED
pub refused : (number : ℕ) {maps : ℕ → Map} {refuses : KeyRange → ℕ → ReadError → Type 0} {old mid new : CommitRequest} {A : Type 0} (opened : Opened) (command : Command) (asked : Opened → Call A) (told : A → Reply) (error : StoreError) →
    open_reach number command ≡ opening_reach (store_prefix number) → opened.prefix ≡ store_prefix number →
    Meets number (at number opened) command (asked (at number opened)) told → IsOpened maps opened old mid → call.IsRefused maps refuses opened (asked opened) error mid new → IsCommandRefused number maps refuses command error old new
refused number {maps = maps} {refuses = refuses} {old = old} {mid = mid} {new = new} opened command asked told error opens here meets is_opened is =
    refused_at number opened command (asked (at number opened)) told error opens meets (subst (λ o. IsOpened maps o old mid) (located number opened here) is_opened)
    (subst (λ o. call.IsRefused maps refuses o (asked o) error mid new) (located number opened here) is)

-- AS: the reply is an equal one
pub answered_as : (number : ℕ) {maps : ℕ → Map} {refuses : KeyRange → ReadError → Type 0} {command : Command} {answer made : Reply} {old new : CommitRequest} → answer ≡ made → IsPerformed number maps refuses command made old new → IsPerformed number maps refuses command answer old new
answered_as number {maps = maps} {refuses = refuses} {command = command} {old = old} {new = new} same so = subst (λ a. IsPerformed number maps refuses command a old new) (sym same) so
