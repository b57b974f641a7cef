-- Commands that were performed in turn, in open transactions and in those that were submitted.
use Rattle.std.specs.Prelude.{◌≡◌, ℕ, ◌+◌, ◌<◌, ◌≤◌, ◌==◌, true, not, List, [], ◌∷◌, length}
use Rattle.kv_core.specs.Range.{KeyRange}
use Rattle.kv_core.specs.Map.{Map, after_all}
use Rattle.kv_core.specs.declared.change.CommitRequest.{CommitRequest}
use Rattle.kv_core.specs.declared.change.Mutation.{Mutation}
use Rattle.txn.specs.Runs.{Ran}
use Rattle.record_store.specs.Layout.{is_store_number}
use Rattle.record_store.specs.Store.{Serial}
use Rattle.schedule.specs.Serve.{IsReply}
use Rattle.schedule.specs.Past.{Attempt, Open, Submission, is_accepted, tells_change}
use Rattle.schedule.specs.Holds.{Stands}
use Rattle.schedule.specs.Performed.{HasAdded}
use Rattle.schedule.specs.Reach.{added_by, opened_in}
use Rattle.schedule.specs.Contract.{attempted}
use Rattle.schedule.specs.Exact.{attempt_writes}

-- a transaction that has done nothing yet
abbrev pub fresh_request : ℕ → CommitRequest
fresh_request read_version = record { read_version = read_version; reads = []; mutations = [] }

-- what an attempt at a command came to where the map seen before it holds this: the part of `IsPerformedAt` that
-- doesn't depend on how far the servers were
pub record DidAt (number : ℕ) (attempt : Attempt) (written : List Mutation) (added : List KeyRange) (m : Map)
    (serial : Serial) : Type 0 where
  pub replied : is_accepted attempt.reply ≡ true → IsReply serial attempt.command attempt.reply
  pub wrote : written ≡ attempt_writes number m serial attempt
  pub holds : Stands number (after_all written m) (attempted serial attempt)
  pub reads : HasAdded attempt.reply (added_by number (opened_in number serial) attempt.command m) added

-- an attempt at a command was made in a store, which led from one state of the transaction to another
pub record DidAttempt (number : ℕ) (maps : ℕ → Map) (attempt : Attempt) (old new : CommitRequest) : Type 0 where
  pub added : List KeyRange
  pub written : List Mutation
  pub changes : (length written == 0) ≡ not (tells_change attempt.reply)
  pub ran :
      Ran maps added old new written (λ m. (serial : Serial) → Stands number m serial →
      DidAt number attempt written added m serial)

-- attempts were made in turn
abbrev pub AreDone : ℕ → (ℕ → Map) → List Attempt → CommitRequest → CommitRequest → Type 0
AreDone number maps [] old new = old ≡ new
AreDone number maps (attempt ∷ attempts) old new =
    (mid : CommitRequest) × DidAttempt number maps attempt old mid × AreDone number maps attempts mid new

-- the transaction is what its attempts made in its store of a fresh one, which reads at a version that was reported
pub record IsOpenTransaction (maps : ℕ → Map) (reported : ℕ) (open_now : Open) (request : CommitRequest) : Type 0 where
  pub store : is_store_number open_now.store ≡ true
  pub at : request.read_version ≡ open_now.read_version
  pub seen : open_now.read_version ≤ reported
  pub done : AreDone open_now.store maps open_now.attempts (fresh_request open_now.read_version) request

-- the request was submitted as this submission
pub record IsSubmitted (maps : ℕ → Map) (reported version : ℕ) (one : Submission) (request : CommitRequest) :
    Type 0 where
  pub given : one.version ≡ version
  pub below : request.read_version < version
  pub open_as : IsOpenTransaction maps reported one.transaction request

-- the requests were submitted as these submissions, in version order from the version after this one on
abbrev pub AreSubmitted : (ℕ → Map) → ℕ → ℕ → List Submission → List CommitRequest → Type 0
AreSubmitted maps reported last [] [] = Unit {0}
AreSubmitted maps reported last (one ∷ submissions) (request ∷ requests) =
    IsSubmitted maps reported (last + 1) one request × AreSubmitted maps reported (last + 1) submissions requests
AreSubmitted maps reported last submissions requests = ⊥
