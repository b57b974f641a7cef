-- A store that a command left open stands open for the next one, over the transaction's log.
use Rattle.std.proofs.Common.{◌≡◌, ℕ, ◌-◌, ◌≤◌, List, Option, sym, ap, ◌∙◌, subst, arith}
use mathlib.Core.List.{IsPrefix}
use Rattle.kv_core.specs.Map.{Map}
use Rattle.kv_core.specs.declared.change.CommitRequest.{CommitRequest}
use Rattle.txn.specs.Reads.{seen}
use Rattle.record_store.specs.Call.{Opened}
use Rattle.runtime.specs.Origins.{Origin, base_of, stores_before}
use Rattle.cluster_core.specs.Tier.{TierState, whole_map}
use Rattle.schedule.specs.Commits.{view_over}
use Rattle.schedule.specs.Holds.{Stands}
use Rattle.schedule.specs.Known.{IsKnown, SeesSerial, StaysKnown}
use Rattle.schedule.proofs.Composed.{open_sees}
use Rattle.schedule.proofs.KnownStores.{known_elsewhere}
use Rattle.runtime.specs.declared.log_entry.Entry.{Entry}
use Rattle.runtime.specs.Traces.{Trace, opened}
use Rattle.runtime.specs.History.{Name, Prefix}
use Rattle.runtime.specs.Logs.{IsOpenOver, IsWellFormedLog, commits_in, log_map, log_tier, pipeline_of, submissions_of, version_of}
use Rattle.runtime.proofs.Serving.{legal_of, same_map}

-- what a transaction over a log sees is a store, or none
pub sees_serial : (origin : Origin) (log : List Entry) (request : CommitRequest) (trace : Trace) → IsWellFormedLog origin log → IsOpenOver origin log request trace → SeesSerial trace.store (log_map origin log) request
sees_serial origin log request trace law over = (
  view_over (stores_before origin) (commits_in origin log) (opened request trace),
  open_sees (base_of origin) (pipeline_of origin log) (submissions_of origin log) (stores_before origin) law.begun.holds (legal_of origin log law) law.submitted (opened request trace) request over,
)

-- the map of these servers is that of the transaction's log, at its version
pub record IsServedOver (prefix published : Prefix) (tier : TierState) (trace : Trace) (old : CommitRequest) : Type 0 where
  pub named : published.name ≡ prefix.name
  pub pulled : tier ≡ log_tier published.name.origin published.log
  pub begins : IsPrefix prefix.log published.log
  pub near : version_of published.name.origin published.log - version_of prefix.name.origin prefix.log ≤ prefix.name.origin.config.window
  pub over : IsOpenOver prefix.name.origin prefix.log old trace
  pub at : old.read_version ≡ version_of prefix.name.origin prefix.log

same_there : (prefix published : Prefix) (tier : TierState) (trace : Trace) (old : CommitRequest) → IsServedOver prefix published tier trace old → whole_map tier old.read_version ≡ log_map prefix.name.origin prefix.log old.read_version
same_there prefix published tier trace old is =
    let origin : Origin = prefix.name.origin in
    let at : old.read_version ≡ version_of origin prefix.log = is.at in
    let here : tier ≡ log_tier origin published.log = is.pulled ∙ ap (λ (n : Name). log_tier n.origin published.log) is.named in
    let named : version_of origin published.log - version_of origin prefix.log ≤ origin.config.window = subst (λ (n : Name). version_of n.origin published.log - version_of origin prefix.log ≤ origin.config.window) is.named is.near in
    let near : version_of origin published.log - old.read_version ≤ origin.config.window = subst (λ (v : ℕ). version_of origin published.log - v ≤ origin.config.window) (sym at) named in
    ap (λ (t : TierState). whole_map t old.read_version) here ∙ same_map origin prefix.log published.log old.read_version is.begins is.over.seen (omega (arith, at)) near

-- what is known over the log is known over the servers
pub known_there : (prefix published : Prefix) (tier : TierState) (trace : Trace) (old : CommitRequest) (known : Option Opened) → IsServedOver prefix published tier trace old →
    IsKnown trace.store (log_map prefix.name.origin prefix.log) known old → IsKnown trace.store (whole_map tier) known old
known_there prefix published tier trace old known is = known_elsewhere trace.store (log_map prefix.name.origin prefix.log) (whole_map tier) known old (sym (same_there prefix published tier trace old is))

-- what is known after a command over the servers is known over the log
pub known_here : (prefix published : Prefix) (tier : TierState) (trace : Trace) (old new : CommitRequest) (known : Option Opened) → IsServedOver prefix published tier trace old →
    IsWellFormedLog prefix.name.origin prefix.log → new.read_version ≡ old.read_version → StaysKnown trace.store (whole_map tier) known old new → IsKnown trace.store (log_map prefix.name.origin prefix.log) known new
known_here prefix published tier trace old new known is law version stays =
    let maps : ℕ → Map = log_map prefix.name.origin prefix.log in
    let same : whole_map tier old.read_version ≡ maps old.read_version = same_there prefix published tier trace old is in
    let sees : SeesSerial trace.store maps old = sees_serial prefix.name.origin prefix.log old trace law is.over in
    let there : SeesSerial trace.store (whole_map tier) old = (sees.0, subst (λ (m : Map). Stands trace.store (seen old m) sees.0) (sym same) sees.1) in
    known_elsewhere trace.store (whole_map tier) maps known new (subst (λ (v : ℕ). whole_map tier v ≡ maps v) (sym version) same) (stays there)
