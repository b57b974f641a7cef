-- The log of a history comes to the history's map at each version.
use Rattle.std.proofs.Common.{◌≡◌, ℕ, ◌+◌, ◌-◌, ◌<◌, ◌≤◌, Bool, true, false, cond, inl, inr, List, [], ◌∷◌, ◌++◌, map, max, Option, Some, None, Result, Ok, Err, refl, sym, ap, subst, subst₂, ◌∙◌, append-nil, append_assoc, arith}
use Rattle.std.specs.FinMap.{empty}
use Rattle.std.specs.List.{All, AllByRecursion, cons_option, filter, filter_map}
use Rattle.std.specs.Option.{option_or}
use Rattle.std.proofs.lemmas.Bool.{le-leb}
use Rattle.std.proofs.lemmas.List.Elements.{recursion_from_All}
use Rattle.kv_core.specs.Map.{Map, Agree, after_all}
use Rattle.kv_core.specs.Limits.{write_all_refusal, write_refusal}
use Rattle.kv_core.specs.declared.change.Mutation.{Mutation}
use Rattle.cluster_core.specs.History as histories
use Rattle.cluster_core.specs.History.{IsLegal, IsLegalEntry, IsRising, map_at, replay, until}
use Rattle.cluster_core.proofs.Versions.{fold-push, until-none, until-suc}
use Rattle.cluster_core.proofs.Legality.{up}
use Rattle.metadata.specs.declared.cells.Cell.{Cell}
use Rattle.metadata.specs.declared.index.IndexDefinition.{IndexDefinition}
use Rattle.tuple_codec.specs.Item.{Item}
use Rattle.record_store.specs.Store.{Serial, Store}
use Rattle.record_store.specs.declared.error.StoreError.{StoreError}
use Rattle.record_store.specs.Calls.{load_footprint, total_footprint}
use Rattle.record_store.specs.Meaning.{by_schema, totalled_index}
use Rattle.metadata.specs.Record.{key_of}
use Rattle.metadata.specs.Schema.{find_index}
use Rattle.schedule.specs.declared.reply.Reply.{Reply}
use Rattle.schedule.specs.declared.step.Command.{Command}
use Rattle.schedule.specs.declared.step.Command.TheVariants.{Create, «Type», Field, Save, Load, Remove, Query, Plan, Execute, Index, Drop, Disable, WriteOnly, Readable, Build, State, Aggregate}
use Rattle.schedule.specs.Exact.{IsSerialAt, commands_written}
use Rattle.schedule.specs.Holds.{HoldsAll, Stands}
use Rattle.record_store.specs.Layout.{is_store_number, store_prefix}
use Rattle.schedule.specs.Past.{Attempt, Open, accepted, is_accepted}
use Rattle.schedule.specs.Performed.{IsLimited}
use Rattle.schedule.specs.Query.{opened_as}
use Rattle.schedule.specs.Reach.{footprint_on, footprint_writes, writes, written_with}
use Rattle.schedule.specs.Serve.{Executes, IsReply, Line, Plans, Queries, Refuses, Replies, effect, effects, serial_line}
use Rattle.schedule.specs.Turns.{fresh_request}
use Rattle.schedule.proofs.Turning.{after_attempts, attempts_effects, done_serve, done_writes}
use Rattle.command_log.specs.declared.change.Change.{Change}
use Rattle.command_log.specs.declared.change.Change.TheVariants as changes
use Rattle.command_log.specs.declared.entry.Entry.{Entry}
use Rattle.replay.specs.Commands.{change_of, command_of, commands_of}
use Rattle.replay.specs.Histories.{HistoriesReplay, IsLogOfHistory, IsMadeSo, TellsOfCommit}
use Rattle.replay.specs.Laws.{changes_among}
use Rattle.replay.specs.Logged.{AreAccepted, ComeInOrder, AreReplayable, AreServed, Database, IsLawfulLog, after_entry, empty_database, last_version, log_database, with_commands}
use Rattle.replay.proofs.Logs.{changes_suffice, leaves}
use Rattle.replay.proofs.Replays.{in_order_append, logged_append, replayable_append}
use Rattle.replay.proofs.Stores.{holds_after, holds_nothing}

-- ---- commands that only look write nothing

nothing_loaded : (number : ℕ) (m : Map) (store : Store) (asked : Result (List Item) StoreError) → (footprint_on (load_footprint (opened_as (store_prefix number) store)) asked).writes m store ≡ []
nothing_loaded number m store (Ok key) = refl
nothing_loaded number m store (Err error) = refl

nothing_totalled : (number : ℕ) (m : Map) (store : Store) (group : List Cell) (asked : Result IndexDefinition StoreError) → (footprint_on (total_footprint (opened_as (store_prefix number) store) group) asked).writes m store ≡ []
nothing_totalled number m store group (Ok index) = refl
nothing_totalled number m store group (Err error) = refl

-- whatever the line is, nothing is written with it where the footprint writes nothing
with_nothing : (line : Line) (mutations : List Mutation) → mutations ≡ [] → written_with line mutations ≡ []
with_nothing (Refuses refusal) mutations is = refl
with_nothing (Replies told after) mutations is = is
with_nothing (Queries store query) mutations is = refl
with_nothing (Plans store query) mutations is = refl
with_nothing (Executes store plan) mutations is = refl

writes_none : (number : ℕ) (m : Map) (serial : Serial) (command : Command) → change_of command ≡ None → writes number m serial command ≡ []
writes_none number m None (Load name cells) none = refl
writes_none number m None (Query query) none = refl
writes_none number m None (Plan query) none = refl
writes_none number m None (Execute plan) none = refl
writes_none number m None (State name) none = refl
writes_none number m None (Aggregate name group) none = refl
writes_none number m (Some store) (Load name cells) none = with_nothing (serial_line (Some store) (Load name cells)) (footprint_writes number m (Some store) (Load name cells)) (nothing_loaded number m store (by_schema (key_of store.schema name cells)))
writes_none number m (Some store) (Query query) none = refl
writes_none number m (Some store) (Plan query) none = refl
writes_none number m (Some store) (Execute plan) none = refl
writes_none number m (Some store) (State name) none = with_nothing (serial_line (Some store) (State name)) (footprint_writes number m (Some store) (State name)) refl
writes_none number m (Some store) (Aggregate name group) none = with_nothing (serial_line (Some store) (Aggregate name group)) (footprint_writes number m (Some store) (Aggregate name group)) (nothing_totalled number m store group (totalled_index store.schema (opened_as (store_prefix number) store).states group (find_index store.schema name)))
writes_none number m serial (Create request) none = absurd (cc)
writes_none number m serial («Type» request) none = absurd (cc)
writes_none number m serial (Field name field) none = absurd (cc)
writes_none number m serial (Save name cells) none = absurd (cc)
writes_none number m serial (Remove name cells) none = absurd (cc)
writes_none number m serial (Index request) none = absurd (cc)
writes_none number m serial (Drop name) none = absurd (cc)
writes_none number m serial (Disable name) none = absurd (cc)
writes_none number m serial (WriteOnly name) none = absurd (cc)
writes_none number m serial (Readable name) none = absurd (cc)
writes_none number m serial (Build name limit) none = absurd (cc)

-- the change that a command is, is the command
change_back : (command : Command) (change : Change) → change_of command ≡ Some change → command_of change ≡ command
change_back (Create request) change is = let same : changes.Create request ≡ change = cc in ap command_of (sym same)
change_back («Type» request) change is = let same : changes.«Type» request ≡ change = cc in ap command_of (sym same)
change_back (Field name field) change is = let same : changes.Field name field ≡ change = cc in ap command_of (sym same)
change_back (Save name cells) change is = let same : changes.Save name cells ≡ change = cc in ap command_of (sym same)
change_back (Remove name cells) change is = let same : changes.Remove name cells ≡ change = cc in ap command_of (sym same)
change_back (Index request) change is = let same : changes.Index request ≡ change = cc in ap command_of (sym same)
change_back (Drop name) change is = let same : changes.Drop name ≡ change = cc in ap command_of (sym same)
change_back (Disable name) change is = let same : changes.Disable name ≡ change = cc in ap command_of (sym same)
change_back (WriteOnly name) change is = let same : changes.WriteOnly name ≡ change = cc in ap command_of (sym same)
change_back (Readable name) change is = let same : changes.Readable name ≡ change = cc in ap command_of (sym same)
change_back (Build name limit) change is = let same : changes.Build name limit ≡ change = cc in ap command_of (sym same)
change_back (Load name cells) change is = absurd (cc)
change_back (Query query) change is = absurd (cc)
change_back (Plan query) change is = absurd (cc)
change_back (Execute plan) change is = absurd (cc)
change_back (State name) change is = absurd (cc)
change_back (Aggregate name group) change is = absurd (cc)

-- so it is with commands that may write, among them
written_suffice : (number : ℕ) (m : Map) (serial : Serial) (commands : List Command) → commands_written number m serial (changes_among commands) ≡ commands_written number m serial commands
written_suffice number m serial [] = refl
written_suffice number m serial (command ∷ commands) =
    by (change_of command) refl (written_suffice number (after_all (writes number m serial command) m) (effect serial command) commands) (written_suffice number m serial commands)
  where
    among : Option Change → List Command
    among found = commands_of (cons_option found (filter_map change_of commands))

    by : (found : Option Change) → change_of command ≡ found →
        commands_written number (after_all (writes number m serial command) m) (effect serial command) (changes_among commands) ≡ commands_written number (after_all (writes number m serial command) m) (effect serial command) commands →
        commands_written number m serial (changes_among commands) ≡ commands_written number m serial commands →
        commands_written number m serial (changes_among (command ∷ commands)) ≡ commands_written number m serial (command ∷ commands)
    by (Some change) is behind here =
        ap (λ f. commands_written number m serial (among f)) is
        ∙ ap (λ c. commands_written number m serial (c ∷ changes_among commands)) (change_back command change is)
        ∙ ap (λ ms. writes number m serial command ++ ms) behind
    by None is behind here =
        ap (λ f. commands_written number m serial (among f)) is
        ∙ here
        ∙ sym (ap (λ ms. ms ++ commands_written number (after_all ms m) (effect serial command) commands) (writes_none number m serial command is) ∙ ap (λ s. commands_written number m s commands) (leaves serial command is))

-- ---- limits

neither : {X : Type 0} (a b : Option X) → option_or a b ≡ None → (a ≡ None) × (b ≡ None)
neither None b is = (refl, is)
neither (Some x) b is = absurd (cc)

-- of writes that meet no limit the first meet none, and the others meet none behind them
limit_parts : (before a b : List Mutation) → write_all_refusal before (a ++ b) ≡ None → (write_all_refusal before a ≡ None) × (write_all_refusal (before ++ a) b ≡ None)
limit_parts before [] b is = (refl, subst (λ ms. write_all_refusal ms b ≡ None) (sym (append-nil before)) is)
limit_parts before (x ∷ a) b is =
    let both = neither (write_refusal before x) (write_all_refusal (before ++ x ∷ []) (a ++ b)) is in
    let rest = limit_parts (before ++ x ∷ []) a b both.1 in (
      ap (λ o. option_or o (write_all_refusal (before ++ x ∷ []) a)) both.0 ∙ rest.0,
      subst (λ ms. write_all_refusal ms b ≡ None) (append_assoc before (x ∷ []) a) rest.1,
    )

-- ---- what was accepted is accepted again

abbrev Served : ℕ → Map → List Mutation → Serial → List Command → Type 0
Served number m before serial commands = (answers : List Reply) × AreServed number m before serial commands answers

pub served_again : (number : ℕ) (m : Map) (before : List Mutation) (serial : Serial) (attempts : List Attempt) → IsSerialAt serial attempts → write_all_refusal before (commands_written number m serial (accepted attempts)) ≡ None → Served number m before serial (changes_among (accepted attempts))
served_again number m before serial [] are within = ([], tt)
served_again number m before serial (attempt ∷ attempts) (own, rest) within =
    by_test (is_accepted attempt.reply) refl own rest within
    (served_again number (after_all (writes number m serial attempt.command) m) (before ++ writes number m serial attempt.command) (effect serial attempt.command) attempts)
    (served_again number m before serial attempts)
  where
    command : Command
    command = attempt.command

    later : List Command
    later = accepted attempts

    among : Option Change → List Command
    among found = commands_of (cons_option found (filter_map change_of later))

    by_change : (found : Option Change) → change_of command ≡ found → is_accepted attempt.reply ≡ true → IsReply serial command attempt.reply → write_all_refusal before (writes number m serial command) ≡ None →
        Served number (after_all (writes number m serial command) m) (before ++ writes number m serial command) (effect serial command) (changes_among later) → Served number m before serial (among found)
    by_change (Some change) is agrees meant free (answers, served) = (
      attempt.reply ∷ answers,
      subst (λ c. AreServed number m before serial (c ∷ changes_among later) (attempt.reply ∷ answers)) (sym (change_back command change is))
          (agrees, subst (λ limit. IsLimited limit serial command attempt.reply) (sym free) meant, served),
    )
    by_change None is agrees meant free served =
        let nothing = writes_none number m serial command is in
        let here = subst (λ ms. Served number (after_all ms m) (before ++ ms) (effect serial command) (changes_among later)) nothing served in
        subst₂ (λ ms s. Served number m ms s (changes_among later)) (append-nil before) (leaves serial command is) here

    by_test : (b : Bool) → is_accepted attempt.reply ≡ b → (b ≡ true → IsReply serial command attempt.reply) → IsSerialAt (cond b (effect serial command) serial) attempts →
        write_all_refusal before (commands_written number m serial (map (λ (a : Attempt). a.command) (cond b (attempt ∷ filter (λ (a : Attempt). is_accepted a.reply) attempts) (filter (λ (a : Attempt). is_accepted a.reply) attempts)))) ≡ None →
        (IsSerialAt (effect serial command) attempts → write_all_refusal (before ++ writes number m serial command) (commands_written number (after_all (writes number m serial command) m) (effect serial command) later) ≡ None →
        Served number (after_all (writes number m serial command) m) (before ++ writes number m serial command) (effect serial command) (changes_among later)) →
        (IsSerialAt serial attempts → write_all_refusal before (commands_written number m serial later) ≡ None → Served number m before serial (changes_among later)) →
        Served number m before serial (changes_among (map (λ (a : Attempt). a.command) (cond b (attempt ∷ filter (λ (a : Attempt). is_accepted a.reply) attempts) (filter (λ (a : Attempt). is_accepted a.reply) attempts))))
    by_test true agrees meant others free behind here =
        let parts = limit_parts before (writes number m serial command) (commands_written number (after_all (writes number m serial command) m) (effect serial command) later) free in
        by_change (change_of command) refl agrees (meant refl) parts.0 (behind others parts.1)
    by_test false differs meant others free behind here = here others free

-- ---- versions

abbrev bound : List histories.Entry → ℕ
bound [] = 0
bound (e ∷ es) = max e.version (bound es)

until_all : (version : ℕ) (es : List histories.Entry) → bound es ≤ version → until version es ≡ es
until_all version [] below = refl
until_all version (e ∷ es) below =
    ap (λ b. cond b (e ∷ until version es) (until version es)) (le-leb e.version version (omega (arith, below))) ∙ ap (λ xs. e ∷ xs) (until_all version es (omega (arith, below)))

map_append : (f : histories.Entry → Entry) (es : List histories.Entry) (e : histories.Entry) → map f (es ++ e ∷ []) ≡ map f es ++ f e ∷ []
map_append f [] e = refl
map_append f (x ∷ es) e = ap (λ xs. f x ∷ xs) (map_append f es e)

-- ---- one version more

module _ (transaction_of : histories.Entry → Open) (entry_of : histories.Entry → Entry) (history : List histories.Entry)
    (rising : IsRising history) (legal : IsLegal history) (made : All (λ (one : histories.Entry). IsMadeSo (map_at history) (transaction_of one) one.request) history)
    (told : All (λ (one : histories.Entry). TellsOfCommit (transaction_of one) one (entry_of one)) history) where
  record Sound (e : histories.Entry) : Type 0 where
    legal_one : IsLegalEntry history e
    made_so : IsMadeSo (map_at history) (transaction_of e) e.request
    told_so : TellsOfCommit (transaction_of e) e (entry_of e)

  sound : AllByRecursion Sound history
  sound = by history (recursion_from_All _ history legal) (recursion_from_All _ history made) (recursion_from_All _ history told)
    where
      by : (xs : List histories.Entry) → AllByRecursion (IsLegalEntry history) xs → AllByRecursion (λ (e : histories.Entry). IsMadeSo (map_at history) (transaction_of e) e.request) xs
          → AllByRecursion (λ (e : histories.Entry). TellsOfCommit (transaction_of e) e (entry_of e)) xs → AllByRecursion Sound xs
      by [] a b c = tt
      by (x ∷ xs) a b c = (record { legal_one = a.0; made_so = b.0; told_so = c.0 }, by xs a.1 b.1 c.1)

  abbrev entries_upto : ℕ → List Entry
  entries_upto v = map entry_of (until v history)

  -- nothing is committed at version 0
  none : until 0 history ≡ []
  none = until-none 0 0 history (omega arith) (by history sound)
    where
      by : (xs : List histories.Entry) → AllByRecursion Sound xs → AllByRecursion (λ (e : histories.Entry). 0 < e.version) xs
      by [] a = tt
      by (x ∷ xs) a = let lt : x.request.read_version < x.version = a.0.legal_one.0 in (omega (arith, lt), by xs a.1)

  -- so it is for entries that are those up to a version
  record Comes (v : ℕ) (es : List Entry) (m : Map) : Type 0 where
    same : (log_database es).map ≡ m
    holds : HoldsAll (log_database es).map (log_database es).stores
    in_order : ComeInOrder 0 es
    last : last_version 0 es ≤ v
    replayable : AreReplayable empty_database es

  at_first : Comes 0 [] empty
  at_first = record { same = refl; holds = holds_nothing; in_order = tt; last = omega arith; replayable = tt }

  one_more : (v : ℕ) (es : List Entry) (m : Map) → Comes v es m → m ≡ map_at history v → (w : histories.Entry) → w.version ≡ v + 1 → Sound w → Comes (v + 1) (es ++ entry_of w ∷ []) (after_all w.request.mutations m)
  one_more v es m comes is w given ok =
      let request = w.request in
      let transaction = transaction_of w in
      let attempts = transaction.attempts in
      let entry = entry_of w in
      let number = transaction.store in
      let d = log_database es in
      let serial = d.stores number in
      let commands = accepted attempts in
      let low : w.version - 1 ≡ v = omega (arith, given) in
      let agree : Agree request.reads (map_at history request.read_version) d.map =
      subst (λ n. Agree request.reads (map_at history request.read_version) n) (ap (map_at history) low ∙ sym is ∙ sym comes.same) ok.legal_one.1 in
      let here : Stands number d.map serial = comes.holds.each number ok.made_so.store in
      let served = done_serve number (map_at history) attempts (fresh_request request.read_version) request ok.made_so.done d.map serial agree here in
      let written : request.mutations ≡ commands_written number d.map serial commands = done_writes number (map_at history) attempts (fresh_request request.read_version) request ok.made_so.done d.map serial agree here in
      let again = served_again number d.map [] serial attempts served.0 (subst (λ ms. write_all_refusal [] ms ≡ None) written ok.made_so.within) in
      let suffice : commands_written number d.map serial (commands_of entry.changes) ≡ request.mutations = ap (commands_written number d.map serial) ok.told_so.changes ∙ written_suffice number d.map serial commands ∙ sym written in
      let store_now : effects serial (commands_of entry.changes) ≡ after_attempts serial attempts = ap (effects serial) ok.told_so.changes ∙ changes_suffice serial commands ∙ sym (attempts_effects serial attempts) in
      let own : Stands number (after_all (commands_written number d.map serial (commands_of entry.changes)) d.map) (effects serial (commands_of entry.changes)) =
      subst₂ (λ ms s. Stands number (after_all ms d.map) s) (sym suffice) (sym store_now) served.1 in
      let all : HoldsAll (with_commands d number (commands_of entry.changes)).map (with_commands d number (commands_of entry.changes)).stores = holds_after number d.map d.stores (commands_of entry.changes) ok.made_so.store comes.holds own in
      let next : after_entry d entry ≡ with_commands d number (commands_of entry.changes) = ap (λ n. with_commands d n (commands_of entry.changes)) ok.told_so.store in
      let last_now : log_database (es ++ entry ∷ []) ≡ with_commands d number (commands_of entry.changes) = logged_append es entry ∙ next in
      record {
        same = ap (λ (e : Database). e.map) last_now ∙ ap (λ ms. after_all ms d.map) suffice ∙ ap (after_all request.mutations) comes.same;
        holds = subst (λ (e : Database). HoldsAll e.map e.stores) (sym last_now) all;
        in_order = in_order_append 0 es entry comes.in_order (omega (arith, comes.last, ok.told_so.version, given)) (ap is_store_number ok.told_so.store ∙ ok.made_so.store);
        last = let at : last_version 0 (es ++ entry ∷ []) ≡ entry.version = fold-push (λ last (e : Entry). e.version) 0 es entry in omega (arith, at, ok.told_so.version, given);
        replayable = replayable_append empty_database es entry comes.replayable
            (subst₂ (λ n cs. AreAccepted n d.map (d.stores n) cs) (sym ok.told_so.store) (sym ok.told_so.changes) again);
      }

  abbrev Here : ℕ → Type 0
  Here v = Comes v (entries_upto v) (map_at history v)

  step : (v : ℕ) → Here v → Here (v + 1)
  step v here =
      elim (until-suc Sound v history rising sound) [
        | inl same ↦
            subst₂ (Comes (v + 1)) (ap (map entry_of) (sym same)) (ap (replay empty) (sym same))
            (record { same = here.same; holds = here.holds; in_order = here.in_order; last = omega (arith, here.last); replayable = here.replayable })
        | inr found ↦
            let w = found.0 in
            let map_now : map_at history (v + 1) ≡ after_all w.request.mutations (map_at history v) = ap (replay empty) found.3 ∙ fold-push (λ m (entry : histories.Entry). after_all entry.request.mutations m) empty (until v history) w in
            let es_now : entries_upto (v + 1) ≡ entries_upto v ++ entry_of w ∷ [] = ap (map entry_of) found.3 ∙ map_append entry_of (until v history) w in
            subst₂ (Comes (v + 1)) (sym es_now) (sym map_now) (one_more v (entries_upto v) (map_at history v) here refl w found.1 found.2)
      ]

  everywhere : (v : ℕ) → Here v
  everywhere v = up Here 0 (subst (λ es. Comes 0 (map entry_of es) (replay empty es)) (sym none) at_first) (λ v _. step v) v (omega arith)

  log_of_history : IsLogOfHistory entry_of history
  log_of_history =
      let all : until (bound history) history ≡ history = until_all (bound history) history (omega arith) in
      let here = everywhere (bound history) in
      record {
        lawful = subst (λ es. IsLawfulLog (map entry_of es)) all (record { in_order = here.in_order; replayable = here.replayable });
        comes_to = λ v. (here_same v, here_holds v);
      }
    where
      here_same : (v : ℕ) → (log_database (entries_upto v)).map ≡ map_at history v
      here_same v = (everywhere v).same

      here_holds : (v : ℕ) → HoldsAll (log_database (entries_upto v)).map (log_database (entries_upto v)).stores
      here_holds v = (everywhere v).holds

pub histories_replay : HistoriesReplay
histories_replay transaction_of entry_of history rising legal made told = log_of_history transaction_of entry_of history rising legal made told
