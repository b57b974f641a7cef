-- Which races are run, what is asked at their end, and why one has no end that could be told.
use Rattle.std.specs.Prelude.{◌≡◌, ℕ, nat_lt, Bool, true, false, ◌&&◌, ◌==◌, if◌then◌else◌, List, [], length, find}
use Rattle.std.specs.Prelude.{bytes_eq, Option, Some, Result, Ok, Err}
use Rattle.std.specs.Option.{option_map_or}
use Rattle.cluster_core.specs.Configuration.{config_refusal}
use Rattle.cluster_core.specs.declared.answers.Config.{Config}
use Rattle.cluster_core.specs.declared.answers.ConfigError.{ConfigError}
use Rattle.cluster_core.specs.declared.answers.ConfigError.TheVariants.{BadCount}
use Rattle.metadata.specs.declared.definition.TypeRequest.{TypeRequest}
use Rattle.metadata.specs.declared.index.IndexKind.{IndexKind}
use Rattle.metadata.specs.declared.index.IndexKind.TheVariants as kinds
use Rattle.metadata.specs.declared.index.IndexRequest.{IndexRequest}
use Rattle.query.specs.Filter.{all_of, filters_of}
use Rattle.query.specs.Query.{Query}
use Rattle.script.specs.declared.race.Race.{Race}
use Rattle.race.specs.declared.error.RaceError.{RaceError}
use Rattle.race.specs.declared.error.RaceError.TheVariants as errors
use Rattle.race.specs.declared.error.Fault.{Fault}
use Rattle.race.specs.declared.error.Fault.TheVariants as faults

-- why a configuration is refused for a race: fewer than four places, or as for any database
abbrev pub race_refusal : Config → Option ConfigError
race_refusal config = if nat_lt config.places 4 then Some BadCount else config_refusal config

-- an error says why a race of this configuration isn't run: that the configuration is refused; any may have another end
abbrev pub explains_end : Config → RaceError → Type 0
explains_end config (errors.Config why) = race_refusal config ≡ Some why
explains_end config errors.GaveUp = Unit {0}
explains_end config (errors.Refused why) = Unit {0}
explains_end config errors.Corrupt = Unit {0}
explains_end config errors.Memory = Unit {0}

-- Private: how much the end of a thread counts: that it gave up counts most, then want of memory
abbrev pub end_rank : Result (Unit {0}) Fault → ℕ
end_rank (Ok done) = 0
end_rank (Err faults.GaveUp) = 3
end_rank (Err faults.Memory) = 2
end_rank (Err (faults.Refused why)) = 1
end_rank (Err faults.Corrupt) = 1

-- Private: of the ends of two threads the one that counts more, and the first where both count the same
abbrev pub first_fault : Result (Unit {0}) Fault → Result (Unit {0}) Fault → Result (Unit {0}) Fault
first_fault one other = if nat_lt (end_rank one) (end_rank other) then other else one

-- Private: the first type of this name
abbrev pub first_named : List TypeRequest → List ℕ → Option TypeRequest
first_named types name = find (λ type. bytes_eq type.name name) types

-- Private: the names of the key fields of the type of this name, or none
abbrev pub key_fields : List TypeRequest → List ℕ → List (List ℕ)
key_fields types name = option_map_or (λ type. type.key) (first_named types name) []

-- Private: the query for all records of a race's type, in the order of its key fields
abbrev pub all_records : Race → Query
all_records race = record {
  record_type = race.record_type;
  filter = all_of (filters_of []);
  sort = key_fields race.schema.types race.record_type;
  reverse = false;
}

-- Private: a kind of index is COUNT
abbrev pub is_count_kind : IndexKind → Bool
is_count_kind kinds.Value = false
is_count_kind kinds.Count = true
is_count_kind kinds.Sum = false

-- Private: an index is a COUNT without columns
abbrev pub counts_all : IndexRequest → Bool
counts_all index = is_count_kind index.kind && (length index.columns == 0)
