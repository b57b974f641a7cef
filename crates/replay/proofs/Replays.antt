-- The entries of a log, performed again one after another.
use Rattle.std.proofs.Common.{◌≡◌, ℕ, suc, ◌+◌, ◌<◌, true, List, Vec, Global, [], ◌∷◌, ◌++◌, length, take, drop, get_or, refl, sym, ap, subst, ◌∙◌, fold, append-nil, append_assoc}
use Rattle.std.specs.Prelude.{Result, Ok, Err, IfOk, IfErr}
use Rattle.std.specs.FinMap.{empty}
use Rattle.std.proofs.Math.Seq.{split_at}
use Rattle.std.proofs.lemmas.List.{get_or-map, length-map, take_more}
use Rattle.kv_core.specs.Map.{after_all}
use Rattle.kv_core.specs.declared.change.Mutation.{Mutation}
use Rattle.cluster_core.proofs.Versions.{fold-push}
use Rattle.schedule.specs.declared.reply.Reply.{Reply}
use Rattle.schedule.specs.declared.step.Command.{Command}
use Rattle.schedule.specs.Exact.{commands_written}
use Rattle.schedule.specs.Holds.{HoldsAll, Stands}
use Rattle.record_store.specs.Layout.{is_store_number}
use Rattle.schedule.specs.Serve.{effects}
use Rattle.command_log.specs.declared.entry.Entry.{Entry}
use Rattle.command_log.specs.Answers.{IsWrittenAs}
use Rattle.command_log.proofs.Bytes.{one_entry}
use Rattle.replay.specs.Commands.{commands_of}
use Rattle.replay.specs.Logged.{AreAccepted, ComeInOrder, AreReplayable, AreServed, Database, IsPerformable, after_entry, empty_database, last_version, log_database}
use Rattle.replay.specs.Replaying.{AllDone, AreUndone, AreWrittenAs, Has, Image, IsLogged, IsNoLogOn, IsNoStep, IsReplay, IsReplayOn, IsStep, IsNoneRead, IsUnreplayed, IsUnreplayedOn, log_bytes, told_at}
use Rattle.replay.specs.declared.error.PerformError.{PerformError}
use Rattle.replay.specs.declared.error.PerformError.TheVariants as performs
use Rattle.replay.specs.declared.error.ReplayError.{ReplayError}
use Rattle.replay.specs.declared.error.ReplayError.TheVariants as replays
use Rattle.replay.proofs.Performing.{undone_unaccepted}
use Rattle.replay.proofs.Stores.{holds_after, holds_nothing}

-- ---- one entry more

pub in_order_append : (version : ℕ) (entries : List Entry) (entry : Entry) → ComeInOrder version entries → last_version version entries < entry.version → is_store_number entry.store ≡ true → ComeInOrder version (entries ++ entry ∷ [])
in_order_append version [] entry are above store = (above, store, tt)
in_order_append version (first ∷ entries) entry (low, own, rest) above store = (low, own, in_order_append first.version entries entry rest above store)

pub replayable_append : (d : Database) (entries : List Entry) (entry : Entry) → AreReplayable d entries → IsPerformable (fold after_entry d entries) entry → AreReplayable d (entries ++ entry ∷ [])
replayable_append d [] entry are accepted = (accepted, tt)
replayable_append d (first ∷ entries) entry (one, rest) accepted = (one, replayable_append (after_entry d first) entries entry rest accepted)

pub written_append : (log : List (List ℕ)) (entries : List Entry) (bytes : List ℕ) (entry : Entry) → AreWrittenAs log entries → IsWrittenAs bytes entry → AreWrittenAs (log ++ bytes ∷ []) (entries ++ entry ∷ [])
written_append [] [] bytes entry are is = (is, tt)
written_append [] (first ∷ entries) bytes entry are is = absurd are
written_append (one ∷ log) [] bytes entry are is = absurd are
written_append (one ∷ log) (first ∷ entries) bytes entry (own, rest) is = (own, written_append log entries bytes entry rest is)

pub logged_append : (entries : List Entry) (entry : Entry) → log_database (entries ++ entry ∷ []) ≡ after_entry (log_database entries) entry
logged_append entries entry = fold-push after_entry empty_database entries entry

-- the database of a log
has_logged : (entries : List Entry) (image : Image) → IsLogged entries image → Has (log_database entries) image.map
has_logged entries image is = record { same = is.map; holds = is.holds }

pub logged_more : (entries : List Entry) (entry : Entry) (image next : Image) → IsLogged entries image → IsStep image entry next → IsLogged (entries ++ entry ∷ []) next
logged_more entries entry image next is step =
    let has = has_logged entries image is in
    let after = step.after (log_database entries) has in
    record {
      lawful = record {
        in_order = in_order_append 0 entries entry is.lawful.in_order (subst (λ v. v < entry.version) is.version step.above) step.store;
        replayable = replayable_append empty_database entries entry is.lawful.replayable (step.accepted (log_database entries) has);
      };
      map = after.same ∙ ap (λ (d : Database). d.map) (sym (logged_append entries entry));
      holds = subst (λ (d : Database). HoldsAll next.map d.stores) (sym (logged_append entries entry)) after.holds;
      version = step.version ∙ sym (fold-push (λ last (e : Entry). e.version) 0 entries entry);
    }

-- ---- the loop

-- the bytes at a place of a log
pub bytes_within : (log : List (Vec ℕ Global)) (i : ℕ) → i < length log → i < length (log_bytes log)
bytes_within log i within = subst (λ n. i < n) (sym (length-map log (λ (v : Vec ℕ Global). v.items))) within

pub bytes_at : (log : List (Vec ℕ Global)) (i : ℕ) (vec : Vec ℕ Global) (bytes : List ℕ) → i < length log → vec ≡ get_or log i vec → bytes ≡ vec.items → bytes ≡ get_or (log_bytes log) i bytes
bytes_at log i vec bytes within is same = same ∙ ap (λ (v : Vec ℕ Global). v.items) is ∙ sym (get_or-map (λ (v : Vec ℕ Global). v.items) log i vec bytes within)

-- a database without pairs is what no entries come to
pub new_logged : (image : Image) → image ≡ record { map = empty; version = 0 } → IsLogged [] image
new_logged image is = subst (IsLogged []) (sym is) (record {
  lawful = record { in_order = tt; replayable = tt };
  map = refl;
  holds = holds_nothing;
  version = refl;
})

pub replay_none : (before : List Entry) (image : Image) → IsLogged before image → IsReplayOn before [] image
replay_none before image is = record { entries = []; written = tt; logged = subst (λ es. IsLogged es image) (sym (append-nil before)) is }

pub replay_turn : (before : List Entry) (log : List (List ℕ)) (i : ℕ) (bytes : List ℕ) (entry : Entry) (image next : Image) → i < length log → bytes ≡ get_or log i bytes → IsReplayOn before (take i log) image → IsWrittenAs bytes entry → IsStep image entry next →
    IsReplayOn before (take (i + 1) log) next
replay_turn before log i bytes entry image next within is so_far written step =
    let longer : take (i + 1) log ≡ take i log ++ bytes ∷ [] = take_more log i bytes within ∙ ap (λ b. take i log ++ b ∷ []) (sym is) in
    let logged = logged_more (before ++ so_far.entries) entry image next so_far.logged step in
    subst (λ l. IsReplayOn before l next) (sym longer) (record {
      entries = so_far.entries ++ entry ∷ [];
      written = written_append (take i log) so_far.entries bytes entry so_far.written written;
      logged = subst (λ es. IsLogged es next) (append_assoc before so_far.entries (entry ∷ [])) logged;
    })

-- over a database without pairs
pub new_replayed : (log : List (List ℕ)) (image : Image) (result : Result Image ReplayError) → image ≡ record { map = empty; version = 0 } →
    IfOk result (λ next. (before : List Entry) → IsLogged before image → IsReplayOn before log next) → IfOk result (IsReplay log)
new_replayed log image (Ok next) is so = so [] (new_logged image is)
new_replayed log image (Err error) is so = so

pub new_unreplayed : (log : List (List ℕ)) (image : Image) (result : Result Image ReplayError) → image ≡ record { map = empty; version = 0 } →
    IfErr result (λ error. (before : List Entry) → IsLogged before image → IsUnreplayedOn before log error) → IfErr result (IsUnreplayed log)
new_unreplayed log image (Ok next) is so = so
new_unreplayed log image (Err error) is so = so [] (new_logged image is)

-- ---- what isn't replayed is no lawful log

record IsSplit (bytes : List ℕ) (entries all : List Entry) : Type 0 where
  entry : Entry
  others : List Entry
  split : all ≡ entries ++ entry ∷ others
  written : IsWrittenAs bytes entry

-- the entries of a log go on with that of the next bytes
split_written : (log : List (List ℕ)) (bytes : List ℕ) (rest : List (List ℕ)) (entries all : List Entry) → AreWrittenAs log entries → AreWrittenAs (log ++ bytes ∷ rest) all → IsSplit bytes entries all
split_written [] bytes rest [] [] are whole = absurd whole
split_written [] bytes rest [] (entry ∷ others) are (is, more) = record { entry = entry; others = others; split = refl; written = is }
split_written [] bytes rest (first ∷ entries) all are whole = absurd are
split_written (one ∷ log) bytes rest [] all are whole = absurd are
split_written (one ∷ log) bytes rest (first ∷ entries) [] are whole = absurd whole
split_written (one ∷ log) bytes rest (first ∷ entries) (other ∷ all) (own, are) (its, whole) =
    let found = split_written log bytes rest entries all are whole in
    let same : other ≡ first = one_entry one other first its own in
    record { entry = found.entry; others = found.others; split = λ i. same i ∷ found.split i; written = found.written }

comes_next : (version : ℕ) (entries : List Entry) (entry : Entry) (others : List Entry) → ComeInOrder version (entries ++ entry ∷ others) → (last_version version entries < entry.version) × (is_store_number entry.store ≡ true)
comes_next version [] entry others (above, store, rest) = (above, store)
comes_next version (first ∷ entries) entry others (low, own, rest) = comes_next first.version entries entry others rest

accepted_next : (d : Database) (entries : List Entry) (entry : Entry) (others : List Entry) → AreReplayable d (entries ++ entry ∷ others) → IsPerformable (fold after_entry d entries) entry
accepted_next d [] entry others (accepted, rest) = accepted
accepted_next d (first ∷ entries) entry others (one, rest) = accepted_next (after_entry d first) entries entry others rest

-- the bytes behind so many of a log
whole_log : (log : List (List ℕ)) (i : ℕ) (bytes : List ℕ) (all : List Entry) → i < length log → bytes ≡ get_or log i bytes → AreWrittenAs log all → AreWrittenAs (take i log ++ bytes ∷ drop (suc i) log) all
whole_log log i bytes all within is are = subst (λ l. AreWrittenAs l all) (split_at log i bytes within ∙ ap (λ b. take i log ++ b ∷ drop (suc i) log) (sym is)) are

no_entry : (before : List Entry) (log : List (List ℕ)) (i : ℕ) (bytes : List ℕ) (image : Image) → i < length log → bytes ≡ get_or log i bytes → IsReplayOn before (take i log) image → ((entry : Entry) → IsWrittenAs bytes entry → ⊥) → IsNoLogOn before log
no_entry before log i bytes image within is so_far none all are lawful =
    let found = split_written (take i log) bytes (drop (suc i) log) so_far.entries all so_far.written (whole_log log i bytes all within is are) in
    none found.entry found.written

pub unread : (before : List Entry) (log : List (List ℕ)) (i : ℕ) (bytes : List ℕ) (image : Image) (error : ReplayError) → i < length log → bytes ≡ get_or log i bytes → IsReplayOn before (take i log) image → IsNoneRead bytes error → IsUnreplayedOn before log error
unread before log i bytes image replays.Memory within is so_far none = tt
unread before log i bytes image (replays.NotAnEntry place error) within is so_far none = no_entry before log i bytes image within is so_far none
unread before log i bytes image (replays.OutOfOrder place) within is so_far none = no_entry before log i bytes image within is so_far none
unread before log i bytes image (replays.NoSuchStore place) within is so_far none = no_entry before log i bytes image within is so_far none
unread before log i bytes image (replays.Refused place error) within is so_far none = no_entry before log i bytes image within is so_far none

abbrev NeverNext : Image → Entry → Type 0
NeverNext image entry = (d : Database) → Has d image.map → image.version < entry.version → is_store_number entry.store ≡ true → IsPerformable d entry → ⊥

no_next : (before : List Entry) (log : List (List ℕ)) (i : ℕ) (bytes : List ℕ) (entry : Entry) (image : Image) → i < length log → bytes ≡ get_or log i bytes → IsReplayOn before (take i log) image → IsWrittenAs bytes entry → NeverNext image entry → IsNoLogOn before log
no_next before log i bytes entry image within is so_far written never all are lawful =
    let entries = before ++ so_far.entries in
    let found = split_written (take i log) bytes (drop (suc i) log) so_far.entries all so_far.written (whole_log log i bytes all within is are) in
    let whole : before ++ all ≡ entries ++ found.entry ∷ found.others = ap (λ es. before ++ es) found.split ∙ sym (append_assoc before so_far.entries (found.entry ∷ found.others)) in
    let same : found.entry ≡ entry = one_entry bytes found.entry entry found.written written in
    let next = comes_next 0 entries found.entry found.others (subst (ComeInOrder 0) whole lawful.in_order) in
    let accepted = accepted_next empty_database entries found.entry found.others (subst (AreReplayable empty_database) whole lawful.replayable) in
    never (log_database entries) (has_logged entries image so_far.logged)
    (subst (λ (e : Entry). image.version < e.version) same (subst (λ v. v < found.entry.version) (sym so_far.logged.version) next.0))
    (subst (λ (e : Entry). is_store_number e.store ≡ true) same next.1) (subst (λ (e : Entry). IsPerformable (log_database entries) e) same accepted)

pub unstepped : (before : List Entry) (log : List (List ℕ)) (i : ℕ) (bytes : List ℕ) (entry : Entry) (image : Image) (error : ReplayError) → i < length log → bytes ≡ get_or log i bytes → IsReplayOn before (take i log) image → IsWrittenAs bytes entry → IsNoStep image entry error →
    IsUnreplayedOn before log error
unstepped before log i bytes entry image replays.Memory within is so_far written never = tt
unstepped before log i bytes entry image (replays.NotAnEntry place error) within is so_far written never = no_next before log i bytes entry image within is so_far written never
unstepped before log i bytes entry image (replays.OutOfOrder place) within is so_far written never = no_next before log i bytes entry image within is so_far written never
unstepped before log i bytes entry image (replays.NoSuchStore place) within is so_far written never = no_next before log i bytes entry image within is so_far written never
unstepped before log i bytes entry image (replays.Refused place error) within is so_far written never = no_next before log i bytes entry image within is so_far written never

-- ---- one step

-- what the changes of an entry come to
pub step_done : (image : Image) (entry : Entry) (next : Image) (answers : List Reply) (written : List Mutation) → AllDone entry.store image.map (commands_of entry.changes) answers written → image.version < entry.version → is_store_number entry.store ≡ true →
    next ≡ record { map = after_all written image.map; version = entry.version } → IsStep image entry next
step_done image entry next answers written done above store is = record {
  above = above;
  store = store;
  version = ap (λ (n : Image). n.version) is;
  accepted = λ d has. (answers, subst (λ m. AreServed number m [] (d.stores number) commands answers) has.same (done (d.stores number) (has.holds.each number store)).served);
  after = λ d has.
      let so = done (d.stores number) (has.holds.each number store) in
      let now : next.map ≡ after_all (commands_written number image.map (d.stores number) commands) image.map = ap (λ (n : Image). n.map) is ∙ ap (λ ms. after_all ms image.map) so.wrote in
      record {
        same = now ∙ ap (λ m. after_all (commands_written number m (d.stores number) commands) m) has.same;
        holds = subst (λ m. HoldsAll m (after_entry d entry).stores) (sym now)
            (holds_after number image.map d.stores commands store has.holds (subst (λ ms. Stands number (after_all ms image.map) (effects (d.stores number) commands)) so.wrote so.holds));
      };
}
  where
    number : ℕ
    number = entry.store

    commands : List Command
    commands = commands_of entry.changes

refused_step : (image : Image) (entry : Entry) (error : PerformError) → (error ≡ performs.Memory → ⊥) → AreUndone entry.store image.map (commands_of entry.changes) error → NeverNext image entry
refused_step image entry error other undone d has above store accepted =
    let number = entry.store in
    undone_unaccepted number image.map (d.stores number) entry.changes error other undone (has.holds.each number store) (subst (λ m. AreAccepted number m (d.stores number) (commands_of entry.changes)) (sym has.same) accepted)

pub no_step : (image : Image) (entry : Entry) (place : ℕ) (error : PerformError) → AreUndone entry.store image.map (commands_of entry.changes) error → IsNoStep image entry (told_at place error)
no_step image entry place performs.Memory undone = tt
no_step image entry place (performs.Refused at refusal) undone = refused_step image entry (performs.Refused at refusal) (λ is. absurd (cc)) undone
no_step image entry place (performs.Corrupt at key) undone = refused_step image entry (performs.Corrupt at key) (λ is. absurd (cc)) undone
