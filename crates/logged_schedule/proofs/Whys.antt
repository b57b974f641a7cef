-- Why a schedule isn't begun, or opened, over plain values.
use Rattle.std.proofs.Common.{◌≡◌, ◌⊎◌, ◌≤◌, ◌+◌, ℕ, Bool, List, [], ◌∷◌, Some, ap, inl, inr, refl, sym, subst, arith}
use Rattle.std.specs.List.{AllByRecursion}
use Rattle.cluster_core.specs.Cluster.{ClusterState, tier_of}
use Rattle.cluster_core.specs.Configuration.{config_refusal}
use Rattle.cluster_core.specs.Decision.{owners}
use Rattle.cluster_core.specs.Roles.{whole}
use Rattle.cluster_core.specs.Tier.{ServerState, refusal}
use Rattle.cluster_core.proofs.PulledMaps.{same-servers}
use Rattle.cluster_core.specs.declared.answers.Config.{Config}
use Rattle.cluster_core.specs.declared.answers.ConfigError.{ConfigError}
use Rattle.journal.specs.Journal.{damage_read, entries_read}
use Rattle.journal.specs.Recovery.{HasReason}
use Rattle.journal.specs.declared.device.Device.{Ghosts}
use Rattle.journal.specs.declared.error.RecoverError.{RecoverError}
use Rattle.journal.specs.declared.error.RecoverError.TheVariants as recovers
use Rattle.std.specs.declared.alloc.AllocError.{AllocError}
use Rattle.replay.specs.Pairs.{every_key}
use Rattle.replay.specs.Replaying.{IsUnreplayed, IsWhyOn}
use Rattle.replay.specs.declared.error.ReplayError.{ReplayError}
use Rattle.replay.specs.declared.error.ReplayError.TheVariants as replays
use Rattle.schedule.specs.Stepwise.{whole_cluster}
use Rattle.schedule.specs.declared.transcript.ScheduleError.{ScheduleError}
use Rattle.schedule.specs.declared.transcript.ScheduleError.TheVariants as schedules
use Rattle.logged_schedule.specs.declared.error.OpenError.{OpenError}
use Rattle.logged_schedule.specs.declared.error.OpenError.TheVariants as opens
use Rattle.durable.specs.Reopening.{IsNotReopened}
use Rattle.durable.specs.declared.error.ReopenError.{ReopenError}
use Rattle.durable.specs.declared.error.ReopenError.TheVariants as reopens
use Rattle.logged_schedule.specs.declared.error.Unmade.{Unmade}
use Rattle.logged_schedule.specs.declared.error.Unmade.TheVariants as unmade
use Rattle.logged_schedule.specs.declared.twofold.TwofoldSchedule.{TwofoldSchedule}
use Rattle.logged_schedule.specs.Reopening.{IsNotOpenedTwo}
use Rattle.logged_schedule.specs.Twofold.{IsNotMade, IsNotPrepared, IsNotRead, checkpoints_of, schedule_of}
use Rattle.logged_schedule.specs.Refusals.{IsNoLogFor, IsNoneOpened, IsNotBegun, IsNotBegunAgain}
use Rattle.logged_schedule.specs.Told.{begun_error, files_error, opening_error, replay_error, schedule_error}

-- a schedule isn't begun
pub not_begun : (config : Config) (error : ScheduleError) → (error ≡ schedules.Memory) ⊎ ((why : ConfigError) × (error ≡ schedules.Config why) × (config_refusal config ≡ Some why)) → IsNotBegun config (schedule_error error)
not_begun config error (inl is) = subst (λ e. IsNotBegun config (schedule_error e)) (sym is) tt
not_begun config error (inr (why, is, refused)) = subst (λ e. IsNotBegun config (schedule_error e)) (sym is) refused

-- nor is one over a log, where that can't begin
pub begun_not : (config : Config) (log : List (List ℕ)) (error : OpenError) → IsNotBegun config error → IsNotBegunAgain config log error
begun_not config log opens.Memory not = tt
begun_not config log (opens.Config why) not = not
begun_not config log opens.Failed not = absurd not
begun_not config log (opens.Damage at) not = absurd not
begun_not config log (opens.Unreplayed why) not = absurd not

-- or where the log isn't lawful
pub not_replayed : (config : Config) (log : List (List ℕ)) (error : ReplayError) → IsUnreplayed log error → IsWhyOn [] log error → IsNotBegunAgain config log (replay_error error)
not_replayed config log replays.Memory lawless why = tt
not_replayed config log (replays.NotAnEntry place error) lawless why = (lawless, why)
not_replayed config log (replays.OutOfOrder place) lawless why = (lawless, why)
not_replayed config log (replays.NoSuchStore place) lawless why = (lawless, why)
not_replayed config log (replays.Refused place error) lawless why = (lawless, why)

-- so that none is opened
pub none_again : (config : Config) (faults faults_now : ℕ) (log : List (List ℕ)) (file : List ℕ) (error : OpenError) → log ≡ entries_read file → IsNotBegunAgain config log error → IsNoneOpened config faults faults_now file error
none_again config faults faults_now log file opens.Memory same not = tt
none_again config faults faults_now log file (opens.Config why) same not = not
none_again config faults faults_now log file opens.Failed same not = absurd not
none_again config faults faults_now log file (opens.Damage at) same not = absurd not
none_again config faults faults_now log file (opens.Unreplayed why) same not = subst (λ l. IsNoLogFor l why) same not

pub none_recovered : (config : Config) (faults faults_now : ℕ) (refused : Bool) (file : List ℕ) (error : RecoverError AllocError) → HasReason faults faults_now refused (damage_read file) error → IsNoneOpened config faults faults_now file (opening_error error)
none_recovered config faults faults_now refused file recovers.Memory why = tt
none_recovered config faults faults_now refused file recovers.Failed why = why
none_recovered config faults faults_now refused file (recovers.Damage at) why = why
none_recovered config faults faults_now refused file (recovers.Refused refusal) why = tt

-- ---- two files

-- a schedule isn't begun over what they come to
pub two_not_begun : (config : Config) (faults faults_now : ℕ) (first : List ℕ) (faults_two now_two : ℕ) (second : List ℕ) (error : OpenError) → IsNotBegun config error → IsNotOpenedTwo config faults faults_now first faults_two now_two second (begun_error error)
two_not_begun config faults faults_now first faults_two now_two second opens.Memory not = tt
two_not_begun config faults faults_now first faults_two now_two second (opens.Config why) not = not
two_not_begun config faults faults_now first faults_two now_two second opens.Failed not = absurd not
two_not_begun config faults faults_now first faults_two now_two second (opens.Damage at) not = absurd not
two_not_begun config faults faults_now first faults_two now_two second (opens.Unreplayed why) not = absurd not

-- or they aren't opened
pub two_not_reopened : (config : Config) (faults faults_now : ℕ) (first : List ℕ) (faults_two now_two : ℕ) (second : List ℕ) (error : ReopenError) → IsNotReopened faults faults_now first faults_two now_two second error →
    IsNotOpenedTwo config faults faults_now first faults_two now_two second (files_error error)
two_not_reopened config faults faults_now first faults_two now_two second reopens.Memory not = tt
two_not_reopened config faults faults_now first faults_two now_two second (reopens.First error) not = not
two_not_reopened config faults faults_now first faults_two now_two second (reopens.Second error) not = not
two_not_reopened config faults faults_now first faults_two now_two second reopens.NotACheckpoint not = not
two_not_reopened config faults faults_now first faults_two now_two second (reopens.Unreplayed error) not = not
two_not_reopened config faults faults_now first faults_two now_two second (reopens.SameGeneration generation) not = not

-- ---- a checkpoint

abbrev total : List ℕ → ℕ
total [] = 0
total (clock ∷ clocks) = clock + total clocks

each_below : (clocks : List ℕ) (bound : ℕ) → total clocks ≤ bound → AllByRecursion (λ clock. clock ≤ bound) clocks
each_below [] bound within = tt
each_below (clock ∷ clocks) bound within = let e : total (clock ∷ clocks) ≡ clock + total clocks = refl in (omega (arith, within, e), each_below clocks bound (omega (arith, within, e)))

-- servers are the same, however many bytes of requests are kept
same_tier : (c : ClusterState) → tier_of c ≡ tier_of (whole_cluster c)
same_tier c =
    ap (λ (servers : List ServerState). record { splits = c.splits; window = c.pipeline.window; servers = servers })
    (sym (same-servers c.base c.pipeline (whole c.pipeline) (total c.pulled) refl refl (λ version below. refl) (owners c.splits) c.pulled (each_below c.pulled (total c.pulled) (omega arith))))

-- where pairs aren't read it isn't prepared
pub not_prepared : (c w : ClusterState) (generation : ℕ) (why : Unmade) → whole_cluster c ≡ w → IsNotRead c why → IsNotPrepared w generation why
not_prepared c w generation unmade.Memory same not = tt
not_prepared c w generation unmade.Full same not = absurd not
not_prepared c w generation unmade.Exhausted same not = absurd not
not_prepared c w generation unmade.Behind same (error, refused) =
    (error, subst (λ (k : ClusterState). refusal (tier_of k) every_key k.pipeline.reported ≡ Some error) same (subst (λ tier. refusal tier every_key c.pipeline.reported ≡ Some error) (same_tier c) refused))

-- and so not made
pub not_made : {D : Type 0} {G : Ghosts D} (seen : D → List ℕ) (two : TwofoldSchedule D G) (spare : D) (why : Unmade) → IsNotPrepared (schedule_of two).database.cluster (checkpoints_of two) why → IsNotMade seen two spare why
not_made seen two spare unmade.Memory not = tt
not_made seen two spare unmade.Full not = absurd not
not_made seen two spare unmade.Exhausted not = not
not_made seen two spare unmade.Behind not = not
