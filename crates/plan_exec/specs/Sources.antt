-- Private: what the entries of a fetch's source have still to give.
use Rattle.std.specs.Prelude.{List}
use Rattle.metadata.specs.Layout.{Pair}
use Rattle.plan_exec.specs.Course.{Course}
use Rattle.plan_exec.specs.Levels.{joined_levels}
use Rattle.plan_exec.specs.Streams.{entries_made, pair_course}
use Rattle.plan_exec.specs.Entry.{Entry}
use Rattle.plan_exec.specs.declared.fetch_streams.SourceStream.{SourceStream}
use Rattle.plan_exec.specs.declared.fetch_streams.SourceStream.TheVariants.{Scanned, Shared}
use Rattle.plan_exec.specs.declared.record_streams.EntryStream.{EntryStream}

-- the entries of one scan
abbrev pub entries_left : EntryStream → List Pair → Course Entry
entries_left stream pairs = entries_made stream.entries (pair_course stream.pairs pairs)

-- those of a source: of one scan, or of the first scan with a primary key that all scans have
abbrev pub source_left : SourceStream → List Pair → Course Entry
source_left (Scanned entries) = entries_left entries
source_left (Shared levels) = joined_levels entries_left (λ entry. entry.primary_key) levels.items
