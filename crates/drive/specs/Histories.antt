-- Histories of a database to which hosts commit: what stands there, and what each transaction was answered. Versions
-- rise, and may have gaps.
use Rattle.std.specs.Prelude.{◌≡◌, ℕ, ◌-◌, List, [], ◌∷◌, None, All, fold}
use Rattle.kv_core.specs.Range.{KeyRange}
use Rattle.kv_core.specs.Map.{Map, Agree}
use Rattle.kv_core.specs.declared.change.CommitRequest.{CommitRequest}
use Rattle.kv_core.specs.declared.change.Mutation.{Mutation}
use Rattle.cluster_core.specs.History.{Entry, until, map_at, IsRising, IsLegal}
use Rattle.record_store.specs.Store.{Serial}
use Rattle.schedule.specs.declared.step.Command.{Command}
use Rattle.schedule.specs.declared.reply.Reply.{Reply}
use Rattle.schedule.specs.Past.{Attempt}
use Rattle.schedule.specs.Holds.{Stands}
use Rattle.schedule.specs.Contract.{attempted}
use Rattle.schedule.specs.Exact.{IsSerialAt}
use Rattle.schedule.specs.Headline.{AreRightlyAnswered, HasExactIndexes}
use Rattle.schedule.specs.Turns.{AreDone}
use Rattle.drive.specs.Driving.{IsHostAnswered, attempts_at, host_store, resumed}
use Rattle.drive.specs.Wanted.{AreWithin}

-- calls of one transaction, in turn: each was performed over the database at this version, in a transaction that has
-- written what those before it have; what it read is among these ranges; and this is what is written in the end
abbrev pub AreCalled : (ℕ → Map) → ℕ → List KeyRange → List Mutation → List (List Attempt) → List Mutation → Type 0
AreCalled maps version reads written [] last = written ≡ last
AreCalled maps version reads written (attempts ∷ calls) last =
    (request : CommitRequest) × AreDone host_store maps attempts (resumed version written) request
    × AreWithin reads request.reads × AreCalled maps version reads request.mutations calls last

-- the request is what these calls made of a transaction that reads at the request's version
abbrev pub IsOfCalls : (ℕ → Map) → List (List Attempt) → CommitRequest → Type 0
IsOfCalls maps calls request = AreCalled maps request.read_version request.reads [] calls request.mutations

-- what is there after the commands of a call, and after the calls of a transaction
abbrev pub after_call : Serial → List Attempt → Serial
after_call serial attempts = fold attempted serial attempts

abbrev pub after_calls : Serial → List (List Attempt) → Serial
after_calls serial calls = fold after_call serial calls

-- what is there at a version: no store, after the calls of each entry up to it
abbrev pub stored_at : (Entry → List (List Attempt)) → List Entry → ℕ → Serial
stored_at calls_of history version =
    fold (λ serial entry. after_calls serial (calls_of entry)) None (until version history)

-- each call is such over what is there when it is made
abbrev pub CallByCall : (Serial → List Attempt → Type 0) → Serial → List (List Attempt) → Type 0
CallByCall Is serial [] = Unit {0}
CallByCall Is serial (attempts ∷ calls) = Is serial attempts × CallByCall Is (after_call serial attempts) calls

-- what a history is, by the calls of each entry
pub record IsHostHistory (calls_of : Entry → List (List Attempt)) (history : List Entry) : Type 0 where
  -- at each version the database holds just the store that the calls up to it make
  pub holds : (version : ℕ) → Stands host_store (map_at history version) (stored_at calls_of history version)
  -- at each version each readable index has just what the records there define
  pub indexes : (version : ℕ) → HasExactIndexes host_store (map_at history version) (stored_at calls_of history version)
  -- version order is a serial order: each accepted command has its reply just before its entry's version too
  pub serial :
      All (λ entry. CallByCall IsSerialAt (stored_at calls_of history (entry.version - 1)) (calls_of entry)) history
  -- the rows of a planned query, also of a transaction that isn't committed, are its meaning over the records that are
  -- there at the version that the transaction reads, as its own writes change them
  pub rows :
      (calls : List (List Attempt)) (request : CommitRequest) → IsOfCalls (map_at history) calls request →
      CallByCall AreRightlyAnswered (stored_at calls_of history request.read_version) calls

-- HOST: so is each history whose versions rise, and whose entries are legal and come from calls that were performed
-- over the database at the version that they read
abbrev pub HostHistoriesHold : Type 0
HostHistoriesHold =
    (calls_of : Entry → List (List Attempt)) (history : List Entry) → IsRising history → IsLegal history →
    All (λ entry. IsOfCalls (map_at history) (calls_of entry) entry.request) history → IsHostHistory calls_of history

-- a call that is answered over what was read of the database at the version goes before the calls that come after it
abbrev pub AnswersAreCalls : Type 0
AnswersAreCalls =
    (maps : ℕ → Map) (version : ℕ) (covered : List KeyRange) (pairs : Map) (written : List Mutation)
    (commands : List Command) (replies : List Reply) (request : CommitRequest) (reads : List KeyRange)
    (calls : List (List Attempt)) (last : List Mutation) →
    IsHostAnswered version covered pairs written commands replies request → Agree covered pairs (maps version) →
    AreWithin reads request.reads → AreCalled maps version reads request.mutations calls last →
    AreCalled maps version reads written (attempts_at commands replies ∷ calls) last
