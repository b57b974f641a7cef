use Rattle.std.specs.Prelude.{◌≡◌, ℕ, ◌+◌, ◌<◌, List, [], ◌∷◌, ◌++◌, map, length, take, None}
use Rattle.std.proofs.Common.{ap, sym, ◌∙◌, subst, get_or}
use Rattle.std.proofs.lemmas.List.{map-append, take_all, take_more}
use Rattle.planner.specs.Plan as plan
use Rattle.planner.specs.View.{index_scan_of}
use Rattle.planner.specs.declared.plan.IndexScan.{IndexScan}
use Rattle.plan_exec.specs.Course.{Course, all_joined, entries_course}
use Rattle.plan_exec.specs.Levels.{joined_levels}
use Rattle.plan_exec.specs.Sources.{entries_left}
use Rattle.plan_exec.specs.Entry.{Entry}
use Rattle.plan_exec.specs.declared.level.Level.{Level}
use Rattle.plan_exec.specs.declared.record_streams.EntryStream.{EntryStream}
use Rattle.plan_exec.proofs.JoinedLevels.{joined_new}
use Rattle.plan_exec.proofs.opening.entry_levels.Goals as goal

-- a stream of which nothing is known yet, and the streams of levels
abbrev unknown : EntryStream → Level EntryStream Entry
unknown s = record { stream = s; head = None; other = None }

abbrev streams : List (Level EntryStream Entry) → List EntryStream
streams levels = map (λ level. level.stream) levels

module _ (levels after : List (Level EntryStream Entry)) (level : Level EntryStream Entry) (s : EntryStream) (new : level ≡ record { stream = s; head = None; other = None }) (is : after ≡ levels ++ level ∷ []) where
  streams_after : streams after ≡ streams levels ++ s ∷ []
  streams_after = ap streams (is ∙ ap (λ l. levels ++ l ∷ []) new) ∙ map-append (λ l. l.stream) levels (unknown s ∷ [])

  -- with one more behind them levels are still new
  still_new : map unknown (streams levels) ≡ levels → map unknown (streams after) ≡ after
  still_new so =
      ap (map unknown) streams_after ∙ map-append unknown (streams levels) (s ∷ []) ∙ ap (λ ls. ls ++ unknown s ∷ []) so ∙ sym (is ∙ ap (λ l. levels ++ l ∷ []) new)

  -- and their streams have the entries of one scan more
  one_more : (left : EntryStream → Course Entry) (course : plan.IndexScan → Course Entry) (scans : List IndexScan) (i : ℕ) (scan : IndexScan) → i < length scans → scan ≡ get_or scans i scan → left s ≡ course (index_scan_of scan) →
      map left (streams levels) ≡ map course (map index_scan_of (take i scans)) → map left (streams after) ≡ map course (map index_scan_of (take (i + 1) scans))
  one_more left course scans i scan lt at one so =
      ap (map left) streams_after ∙ map-append left (streams levels) (s ∷ [])
      ∙ (λ j. so j ++ one j ∷ [])
      ∙ sym (map-append course (map index_scan_of (take i scans)) (index_scan_of scan ∷ []))
      ∙ ap (map course) (sym (map-append index_scan_of (take i scans) (scan ∷ [])))
      ∙ ap (λ xs. map course (map index_scan_of xs)) (ap (λ x. take i scans ++ x ∷ []) at ∙ sym (take_more scans i scan lt))

pub loop-scan-init : goal.loop-scan-init
loop-scan-init c = record {
  new = subst (λ ls. map unknown (streams ls) ≡ ls) (sym c.in_ok-levels.ensures.items) (λ i. []);
  left = λ pairs. ap (λ ls. map (λ s. entries_left s pairs) (streams ls)) c.in_ok-levels.ensures.items;
}

pub loop-scan-preserved : goal.loop-scan-preserved
loop-scan-preserved c = record {
  new = still_new c.loop-scan.levels.items c.push.new.self.items c.new.result c.in_ok-entry_stream.field-0 c.new.ensures c.in_ok-push.ensures.items c.loop-scan.invariant.new;
  left = λ pairs.
      one_more c.loop-scan.levels.items c.push.new.self.items c.new.result c.in_ok-entry_stream.field-0 c.new.ensures c.in_ok-push.ensures.items
      (λ s. entries_left s pairs) (entries_course c.args.records.now.store.now.prefix pairs c.args.records.now.definition.value) c.args.scans.now c.loop-scan.scan-index c.scan-item.result c.loop-scan-test.true c.scan-item.is (c.in_ok-entry_stream.ensures pairs) (c.loop-scan.invariant.left pairs);
}

pub returns : goal.returns
returns c = λ pairs.
    ap (λ ls. joined_levels entries_left (λ (entry : Entry). entry.primary_key) ls pairs) (sym c.loop-scan.invariant.new)
    ∙ joined_new entries_left (λ (entry : Entry). entry.primary_key) (streams c.loop-scan.levels.items) pairs
    ∙ ap (all_joined (λ (entry : Entry). entry.primary_key))
    (c.loop-scan.invariant.left pairs
    ∙ ap (λ xs. map (entries_course c.args.records.now.store.now.prefix pairs c.args.records.now.definition.value) (map index_scan_of xs)) (take_all c.loop-scan.scan-index c.args.scans.now c.loop-scan-test.false))
