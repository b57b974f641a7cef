-- What holds of all that is logged.
use Rattle.std.specs.Prelude.{◌≡◌, ◌≤◌, List, [], ◌++◌, map}
use Rattle.cluster_core.specs.declared.answers.Config.{Config}
use Rattle.kv_core.specs.Map.{Map}
use Rattle.cluster_core.specs.Cluster.{database_at}
use Rattle.cluster_core.specs.Configuration.{first_cluster_over}
use Rattle.cluster_core.specs.History as histories
use Rattle.schedule.specs.declared.reply.Reply.{Reply}
use Rattle.schedule.specs.declared.step.Step.{Step}
use Rattle.schedule.specs.Contract.{past_of}
use Rattle.schedule.specs.Past.{Submission, submitted_in}
use Rattle.schedule.specs.Standing.{listed}
use Rattle.schedule.specs.Stepwise.{HasDoneFrom, StepwiseState}
use Rattle.replay.specs.Histories.{TellsOfCommit}
use Rattle.replay.specs.Logged.{last_version, log_database}
use Rattle.logged_schedule.specs.Entries.{logged_as, logged_in}
use Rattle.logged_schedule.specs.Runs.{IsHeldLog, LosesNone, Run, first_in, past_in}

-- the entry of a submission tells of what is committed at its version, where that was this submission
abbrev pub EntriesTell : Type 0
EntriesTell =
    (one : Submission) (committed : histories.Entry) → committed.version ≡ one.version →
    TellsOfCommit one.transaction committed (logged_as one)

-- LOGGED: whatever steps a schedule has done over whatever base, none of whose reports is lost: the entries that were
-- told are just those of the transactions that are listed as committed, in the order of versions
abbrev pub LogsCommits : Type 0
LogsCommits =
    (base : Map) (config : Config) (done : List Step) (replies : List Reply) (state : StepwiseState) →
    HasDoneFrom (first_cluster_over base config) done replies state → LosesNone done →
    (let past = past_of [] done replies in
    logged_in past ≡ map logged_as (listed state.database.cluster.pipeline (submitted_in past)))

-- LAWFUL: whatever steps a schedule has done over what a lawful log comes to, from the version of its last entry on or
-- from a later one, none of whose reports is lost: the log with the entries that were told behind it is lawful, and
-- comes to the database's map at the last reported version, which holds its stores
abbrev pub LogsGoOn : Type 0
LogsGoOn =
    (run : Run) (state : StepwiseState) → IsHeldLog run.before → last_version 0 run.before ≤ run.config.start →
    HasDoneFrom (first_in run) run.steps run.replies state → LosesNone run.steps →
    (let log = run.before ++ logged_in (past_in run) in
    let c = state.database.cluster in
    IsHeldLog log × ((log_database log).map ≡ database_at c c.pipeline.reported))
