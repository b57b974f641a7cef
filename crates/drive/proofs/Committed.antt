-- Of a legal history of calls that were performed over it: at each version the database holds what the calls up to it make.
use Rattle.std.proofs.Common.{◌≡◌, ℕ, ◌-◌, List, [], ◌∷◌, ◌++◌, None, refl, sym, subst}
use Rattle.std.proofs.lemmas.List.Elements.{recursion_from_All, All-from_recursion}
use Rattle.std.specs.List.{All, AllByRecursion}
use Rattle.std.specs.FinMap.{empty, get-empty}
use Rattle.kv_core.specs.Bytes.{key_cmp}
use Rattle.kv_core.specs.Range.{KeyRange}
use Rattle.kv_core.specs.Map.{Map, Agree, after_all}
use Rattle.kv_core.specs.declared.change.CommitRequest.{CommitRequest}
use Rattle.kv_core.specs.declared.change.Mutation.{Mutation}
use Rattle.cluster_core.specs.History.{Entry, map_at, IsRising, IsLegal}
use Rattle.cluster_core.specs.Serial.{AllReplied, Replays, state_at}
use Rattle.cluster_core.proofs.Composition.{holds_at, replied_at}
use Rattle.record_store.specs.Store.{Serial}
use Rattle.schedule.specs.Past.{Attempt}
use Rattle.schedule.specs.Holds.{Stands}
use Rattle.record_store.specs.Layout.{store_prefix}
use Rattle.schedule.specs.Exact.{IsSerialAt}
use Rattle.schedule.specs.Headline.{AreRightlyAnswered}
use Rattle.schedule.proofs.Promised.{all_answered, exact_indexes}
use Rattle.schedule.proofs.Turning.{done_serve, done_version}
use Rattle.drive.specs.Driving.{host_store, resumed}
use Rattle.drive.specs.Histories.{AreCalled, IsOfCalls, after_call, after_calls, stored_at, CallByCall, IsHostHistory, HostHistoriesHold, AnswersAreCalls}

-- a map without pairs holds no store
none_held : Stands host_store empty None
none_held = λ bytes. get-empty key_cmp (store_prefix host_store ++ bytes)

-- over each map that agrees with what was read the commands have their replies, and what is written leads to a map that holds what is there after them
calls_serve : (maps : ℕ → Map) (version : ℕ) (reads : List KeyRange) (written : List Mutation) (calls : List (List Attempt)) (last : List Mutation) → AreCalled maps version reads written calls last →
    (m : Map) (serial : Serial) → Agree reads (maps version) m → Stands host_store (after_all written m) serial → CallByCall IsSerialAt serial calls × Stands host_store (after_all last m) (after_calls serial calls)
calls_serve maps version reads written [] last same m serial agree holds = (tt, subst (λ ms. Stands host_store (after_all ms m) serial) same holds)
calls_serve maps version reads written (attempts ∷ calls) last (request, done, within, rest) m serial agree holds =
    let at : request.read_version ≡ version = done_version host_store maps attempts (resumed version written) request done in
    let there : Agree request.reads (maps version) m = λ key h. agree key (within key h) in
    let own : Agree request.reads (maps request.read_version) m = subst (λ v. Agree request.reads (maps v) m) (sym at) there in
    let served = done_serve host_store maps attempts (resumed version written) request done m serial own holds in
    let later = calls_serve maps version reads request.mutations calls last rest m (after_call serial attempts) agree served.1 in
    ((served.0, later.0), later.1)

-- the same as the composition says it
turns_replied : (serial : Serial) (calls : List (List Attempt)) → CallByCall IsSerialAt serial calls → AllReplied (Stands host_store) IsSerialAt after_call serial calls
turns_replied serial [] is = tt
turns_replied serial (attempts ∷ calls) is = (is.0, turns_replied (after_call serial attempts) calls is.1)

replied_turns : (serial : Serial) (calls : List (List Attempt)) → AllReplied (Stands host_store) IsSerialAt after_call serial calls → CallByCall IsSerialAt serial calls
replied_turns serial [] is = tt
replied_turns serial (attempts ∷ calls) is = (is.0, replied_turns (after_call serial attempts) calls is.1)

-- replies that are the store's have the rows that they should have
turns_right : (serial : Serial) (calls : List (List Attempt)) → CallByCall IsSerialAt serial calls → CallByCall AreRightlyAnswered serial calls
turns_right serial [] is = tt
turns_right serial (attempts ∷ calls) is = (all_answered serial attempts is.0, turns_right (after_call serial attempts) calls is.1)

module _ (calls_of : Entry → List (List Attempt)) (history : List Entry) (rising : IsRising history) (legal : IsLegal history)
    (are : All (λ entry. IsOfCalls (map_at history) (calls_of entry) entry.request) history) where
  abbrev Called : Entry → Type 0
  Called entry = IsOfCalls (map_at history) (calls_of entry) entry.request

  abbrev Again : Entry → Type 0
  Again entry = Replays (Stands host_store) IsSerialAt after_call calls_of empty history entry

  abbrev Replied : Entry → Type 0
  Replied entry = AllReplied (Stands host_store) IsSerialAt after_call (state_at (Stands host_store) IsSerialAt after_call calls_of None history (entry.version - 1)) (calls_of entry)

  abbrev Meant : Entry → Type 0
  Meant entry = CallByCall IsSerialAt (stored_at calls_of history (entry.version - 1)) (calls_of entry)

  one_again : (entry : Entry) → Called entry → Again entry
  one_again entry called m serial holds agree =
      let served = calls_serve (map_at history) entry.request.read_version entry.request.reads [] (calls_of entry) entry.request.mutations called m serial agree holds in
      (turns_replied serial (calls_of entry) served.0, served.1)

  each_again : (es : List Entry) → AllByRecursion Called es → AllByRecursion Again es
  each_again [] all = tt
  each_again (entry ∷ es) all = (one_again entry all.0, each_again es all.1)

  each_meant : (es : List Entry) → AllByRecursion Replied es → AllByRecursion Meant es
  each_meant [] all = tt
  each_meant (entry ∷ es) all = (replied_turns (stored_at calls_of history (entry.version - 1)) (calls_of entry) all.0, each_meant es all.1)

  again : All Again history
  again = All-from_recursion Again history (each_again history (recursion_from_All Called history are))

  holds_then : (version : ℕ) → Stands host_store (map_at history version) (stored_at calls_of history version)
  holds_then version = holds_at (Stands host_store) IsSerialAt after_call calls_of empty None none_held history rising legal again version

  meant : All Meant history
  meant = All-from_recursion Meant history (each_meant history (recursion_from_All Replied history (replied_at (Stands host_store) IsSerialAt after_call calls_of empty None none_held history rising legal again)))

  rows_then : (calls : List (List Attempt)) (request : CommitRequest) → IsOfCalls (map_at history) calls request → CallByCall AreRightlyAnswered (stored_at calls_of history request.read_version) calls
  rows_then calls request called =
      let seen : Map = map_at history request.read_version in
      let serial : Serial = stored_at calls_of history request.read_version in
      let same : Agree request.reads seen seen = λ key h. refl in
      let served = calls_serve (map_at history) request.read_version request.reads [] calls request.mutations called seen serial same (holds_then request.read_version) in
      turns_right serial calls served.0

  host_history : IsHostHistory calls_of history
  host_history = record {
    holds = holds_then;
    indexes = λ version. exact_indexes host_store (map_at history version) (stored_at calls_of history version) (holds_then version);
    serial = meant;
    rows = rows_then;
  }

pub host_histories_hold : HostHistoriesHold
host_histories_hold calls_of history rising legal are = host_history calls_of history rising legal are

pub answers_are_calls : AnswersAreCalls
answers_are_calls maps version covered pairs written commands replies request reads calls last answered agree within rest =
    (request, answered.done maps agree, within, rest)
