-- Transactions that there were: each stays what its attempts made, whatever comes later.
use Rattle.std.proofs.Common.{◌≡◌, ℕ, ◌+◌, ◌≤◌, Bool, true, false, cond, List, [], ◌∷◌, ◌++◌, inl, inr, length, take, get_or, refl, sym, ap, subst, ◌∙◌, Option, Some, None, append_assoc, append-nil, arith}
use Rattle.std.proofs.Math.Seq.{take-append_seam}
use Rattle.std.proofs.lemmas.List.{take_all}
use Rattle.kv_core.specs.Map.{Map}
use Rattle.kv_core.specs.declared.change.CommitRequest.{CommitRequest}
use Rattle.cluster_core.specs.Cluster.{ClusterState, database_at, with_pipeline}
use Rattle.cluster_core.specs.Roles.{report, submitted}
use Rattle.schedule.specs.declared.step.Step.{Step}
use Rattle.schedule.specs.declared.step.Step.TheVariants.{Begin, Perform, Execute, Commit, Abandon, Resolve, Log, Pull, Report, Lost, Settle}
use Rattle.schedule.specs.declared.reply.Reply.{Reply}
use Rattle.schedule.specs.declared.database.Database.{Database}
use Rattle.schedule.specs.declared.database.OpenTransaction.{OpenTransaction}
use Rattle.schedule.specs.Past.{Past, Open, open_of}
use Rattle.schedule.specs.Headline.{WasOpen}
use Rattle.schedule.specs.Running.{IsPlace, IsStillOpen, StandsAfter, Steps}
use Rattle.schedule.specs.Turns.{IsOpenTransaction}
use Rattle.schedule.specs.Standing.{cluster_stepped, is_done, is_reported, is_submitted, with_next}
use Rattle.schedule.proofs.Submits.{one_longer}
use Rattle.schedule.proofs.Submitting.{maps_submitted}
use Rattle.schedule.proofs.Turning.{open_elsewhere, open_later}

-- a cluster is a later one: no less is reported, and the maps at the versions reported so far stay
record IsLater (old new : ClusterState) : Type 0 where
  reported : old.pipeline.reported ≤ new.pipeline.reported
  maps : (v : ℕ) → v ≤ old.pipeline.reported → database_at old v ≡ database_at new v

still_open : (old new : ClusterState) (transaction : Open) → IsLater old new → IsStillOpen old transaction → IsStillOpen new transaction
still_open old new transaction later was = record {
  request = was.request;
  is = open_later (database_at new) old.pipeline.reported new.pipeline.reported transaction was.request later.reported (open_elsewhere (database_at old) (database_at new) old.pipeline.reported transaction was.request later.maps was.is);
}

-- ---- a step makes a later cluster

same_later : (c : ClusterState) → IsLater c c
same_later c = record { reported = omega arith; maps = λ v h. refl }

-- the requests so far and the next one, where there is one
next_later : (requests added : List CommitRequest) (c : ClusterState) → requests ≡ c.pipeline.requests ++ added → c.pipeline.reported ≤ submitted c.pipeline → IsLater c (with_pipeline (with_next requests c.pipeline) c)
next_later requests [] c is given = record { reported = omega arith; maps = λ v h. ap (λ rs. database_at (with_pipeline (record c.pipeline { requests = rs }) c) v) (sym none) }
  where
    none : take (length c.pipeline.requests + 1) requests ≡ c.pipeline.requests
    none = ap (take (length c.pipeline.requests + 1)) (is ∙ append-nil c.pipeline.requests) ∙ take_all (length c.pipeline.requests + 1) c.pipeline.requests (omega arith)
next_later requests (request ∷ more) c is given = record {
  reported = omega arith;
  maps = λ v h. maps_submitted c.base c.pipeline request v (omega (arith, h, given)) ∙ ap (λ rs. database_at (with_pipeline (record c.pipeline { requests = rs }) c) v) (sym one);
}
  where
    one : take (length c.pipeline.requests + 1) requests ≡ c.pipeline.requests ++ request ∷ []
    one =
        ap (take (length c.pipeline.requests + 1)) (is ∙ sym (append_assoc c.pipeline.requests (request ∷ []) more))
        ∙ ap (λ n. take n ((c.pipeline.requests ++ request ∷ []) ++ more)) (sym (one_longer c.pipeline.requests request))
        ∙ take-append_seam (c.pipeline.requests ++ request ∷ []) more

reported_later : (c : ClusterState) → IsLater c (with_pipeline (report c.pipeline) c)
reported_later c = record { reported = omega arith; maps = λ v h. refl }

-- where only clocks of other roles moved
if_later : (b : Bool) (old new : ClusterState) → IsLater old new → IsLater old (cond b new old)
if_later true old new later = later
if_later false old new later = same_later old

stepped_later : (requests added : List CommitRequest) (step : Step) (reply : Reply) (c : ClusterState) → requests ≡ c.pipeline.requests ++ added → c.pipeline.reported ≤ submitted c.pipeline → IsLater c (cluster_stepped requests step reply c)
stepped_later requests added (Begin client store) reply c is given = same_later c
stepped_later requests added (Perform client command) reply c is given = same_later c
stepped_later requests added (Execute client) reply c is given = same_later c
stepped_later requests added (Abandon client) reply c is given = same_later c
stepped_later requests added (Commit client) reply c is given = if_later (is_submitted reply) c _ (next_later requests added c is given)
stepped_later requests added (Resolve r) reply c is given = if_later (is_done reply) c _ (record { reported = omega arith; maps = λ v h. refl })
stepped_later requests added (Log l) reply c is given = if_later (is_done reply) c _ (record { reported = omega arith; maps = λ v h. refl })
stepped_later requests added (Pull s) reply c is given = if_later (is_done reply) c _ (record { reported = omega arith; maps = λ v h. refl })
stepped_later requests added Report reply c is given = if_later (is_reported reply) c _ (reported_later c)
stepped_later requests added Lost reply c is given = if_later (is_reported reply) c _ (reported_later c)
stepped_later requests added Settle reply c is given = record { reported = given; maps = λ v h. refl }

steps_later : (past : Past) (step : Step) (reply : Reply) (old new : Database) → StandsAfter past old → Steps past step reply old new → IsLater old.cluster new.cluster
steps_later past step reply old new stands next =
    subst (IsLater old.cluster) (next.moved [])
    (stepped_later (new.cluster.pipeline.requests ++ []) next.added step reply old.cluster (append-nil new.cluster.pipeline.requests ∙ next.grown) stands.given)

-- ---- what the clients have open

open_at : (maps : ℕ → Map) (reported : ℕ) (o : Option Open) (value : Option OpenTransaction) (transaction : Open) → IsPlace maps reported o value → o ≡ Some transaction → (request : CommitRequest) × IsOpenTransaction maps reported transaction request
open_at maps reported None value transaction place is = let no : None ≡ Some transaction = is in absurd (cc)
open_at maps reported (Some now) None transaction place is = absurd place
open_at maps reported (Some now) (Some kept) transaction place is =
    let same : now ≡ transaction = cc in (kept.transaction, subst (λ t. IsOpenTransaction maps reported t kept.transaction) same place.done)

-- each transaction that there was, after one more step
pub opened_next : (past : Past) (step : Step) (reply : Reply) (old new : Database) → StandsAfter past old → Steps past step reply old new →
    ((transaction : Open) → WasOpen past transaction → IsStillOpen old.cluster transaction) → (transaction : Open) → WasOpen ((step, reply) ∷ past) transaction → IsStillOpen new.cluster transaction
opened_next past step reply old new stands next before transaction (inl (client, there, is)) =
    let (request, done) = open_at (database_at new.cluster) new.cluster.pipeline.reported (open_of client ((step, reply) ∷ past)) (get_or new.transactions.items client None) transaction (next.after.places client there) is in
    record { request = request; is = done }
opened_next past step reply old new stands next before transaction (inr was) = still_open old.cluster new.cluster transaction (steps_later past step reply old new stands next) (before transaction was)
