use Rattle.std.proofs.Common.{◌≡◌, List, map, take, None}
use Rattle.metadata.specs.Layout.{Pair}
use Rattle.planner.specs.View.{index_scan_of}
use Rattle.plan_exec.specs.Course.{entries_course}
use Rattle.plan_exec.specs.Sources.{entries_left}
use Rattle.plan_exec.specs.declared.record_streams.EntryStream.{EntryStream}
use Rattle.plan_exec.proofs.opening.entry_levels.Given as goal

-- the levels are new, and their streams have the entries of the scans so far
abbrev pub invariant-loop-scan : goal.invariant-loop-scan
invariant-loop-scan l = record {
  new : map (λ (s : EntryStream). record { stream = s; head = None; other = None }) (map (λ level. level.stream) l.levels.items) ≡ l.levels.items;
  left :
      (pairs : List Pair) → map (λ s. entries_left s pairs) (map (λ level. level.stream) l.levels.items)
      ≡ map (entries_course l.records.store.now.prefix pairs l.records.definition.value) (map index_scan_of (take l.scan-index l.scans));
}
