-- What a step of a builder comes to, from what its reads and its writes establish.
use Rattle.std.proofs.Common.{◌≡◌, ◌⊎◌, inl, inr, ℕ, ◌≤◌, true, false, ◌==◌, List, [], ◌∷◌, ◌++◌, length, take, refl, sym, ap, subst, subst₂, ◌∙◌, Option, Some, None, Ok, Err, unwrap_or}
use Rattle.std.specs.Prelude.{IsNone, option_and_then}
use Rattle.std.specs.List.{Contains}
use Rattle.std.proofs.lemmas.Bool.{true≢false}
use Rattle.kv_core.specs.Limits.{write_all_refusal}
use Rattle.kv_core.specs.Map.{Map, after_all, pairs_in}
use Rattle.kv_core.specs.Range.{KeyRange, has_keys}
use Rattle.kv_core.specs.declared.change.CommitRequest.{CommitRequest}
use Rattle.kv_core.specs.declared.change.Mutation.{Mutation}
use Rattle.kv_core.specs.declared.change.WriteError.{WriteError}
use Rattle.kv_core.specs.declared.change.WriteError.TheVariants as write
use Rattle.kv_core.specs.declared.snapshot.ReadError.{ReadError}
use Rattle.txn.specs.Reads.{with_mutations}
use Rattle.txn.proofs.Running.{ran_because, ran_then}
use Rattle.range_set.specs.declared.error.RangeSetError.{RangeSetError}
use Rattle.range_set.specs.Calls.{all_ranges}
use Rattle.range_set.specs.Calls as reads
use Rattle.range_set.specs.Gaps.{IsFirstGap, IsGap, SamePositions, first_gap, has_position}
use Rattle.range_set.specs.Steps.{set_memory}
use Rattle.range_set.specs.Stored.{IsFirstDamaged, IsInGap, Joins, insertion, whole_range}
use Rattle.range_set.specs.Told.{AreRangesIn, gap_in, ranges_in, stored_in}
use Rattle.range_set.proofs.Answered.{wanting}
use Rattle.range_set.proofs.Gaps.{first_gap_is}
use Rattle.range_set.proofs.RangeRows.{not_damaged}
use Rattle.range_set.proofs.RangesTold.{ranges_told}
use Rattle.range_set.proofs.Telling.{gap_read}
use Rattle.metadata.specs.declared.index.IndexDefinition.{IndexDefinition}
use Rattle.metadata.specs.declared.index.State.TheVariants.{WriteOnly}
use Rattle.metadata.specs.Record.{Record}
use Rattle.metadata.specs.Schema.{Schema}
use Rattle.index_maint.specs.Kept.{build_writes, records_within}
use Rattle.index_maint.specs.Parts.{IsFirstPart, first_part}
use Rattle.index_maint.proofs.FirstParts.{first_parts}
use Rattle.record_store.specs.declared.error.StoreError.{StoreError}
use Rattle.record_store.specs.declared.error.StoreError.TheVariants.{Memory, Read, Write, Corrupt, Refused, NoStore, AlreadyThere, OtherSchema, NotAggregate, NotReadable, WrongState, NotBuilt}
use Rattle.record_store.specs.Building.{HasReadPart, built_writes, gap_of, limited_to, positions_range}
use Rattle.record_store.specs.Call.{AtStore, IsAnswered, IsDamagedAt, IsOpenAs, IsRefused, IsSound, IsUnread, Opened, Reading, Service, all_built, call_on, service_of}
use Rattle.record_store.specs.Form.{IsFirstBad}
use Rattle.record_store.specs.Meaning.{write_only_named}
use Rattle.record_store.specs.Holds.{Holds, has_number}
use Rattle.record_store.specs.Layout.{built_place}
use Rattle.record_store.specs.Reading.{HasNotFound}
use Rattle.record_store.specs.Steps.{DidRead, IsBeginning, IsNextRefused, of_set, of_write}
use Rattle.record_store.specs.Store.{Store, built, built_of, state_in}
use Rattle.record_store.proofs.Aggregates.{found_contained}
use Rattle.record_store.proofs.Answered.{answered, answered_reading, refused_limit, refused_memory, refused_unread}
use Rattle.record_store.proofs.BuildHolds.{built_holds}
use Rattle.record_store.proofs.IndexCalls.{named_there}
use Rattle.record_store.proofs.MarkCalls.{found_write_only, number_named, set_read, set_unread, store_building}
use Rattle.record_store.proofs.RecordCalls.{filled}
use Rattle.record_store.proofs.Stopping.{begin_behind, begin_more, next_behind, next_more}
use Rattle.online_builder.specs.declared.progress.Progress.{Progress}
use Rattle.online_builder.specs.declared.progress.Progress.TheVariants.{Built, Finished}
use Rattle.online_builder.specs.Stepping.{BuildTask, part_made, progress_in, reading_behind, reading_by, step_call}
use Rattle.online_builder.specs.Stepping.{step_footprint, step_meaning, step_writes, stepped}
use Rattle.online_builder.proofs.Parts.{part_is}

-- ---- before the gap is found

-- OWN REFUSAL: there is no such index, or it isn't write-only
pub refused_named : (maps : ℕ → Map) (refuses : KeyRange → ℕ → ReadError → Type 0) {old new : CommitRequest} (opened : Opened) (plan : BuildTask) (error : StoreError) → write_only_named opened.schema opened.states plan.name ≡ Err error → new ≡ old →
    IsRefused maps refuses opened (step_call opened plan) error old new
refused_named maps refuses {old = old} {new = new} opened plan error is same =
    subst (λ o. IsRefused maps refuses opened (call_on (step_meaning plan.limit) (step_footprint opened plan.limit) o) error old new) (sym is) (inr refl, same)

-- what is written isn't nothing
some_written : (xs : List Mutation) (x : Mutation) (rest : List Mutation) → (length (xs ++ x ∷ rest) == 0) ≡ false
some_written [] x rest = filled x rest
some_written (y ∷ xs) x rest = filled y (xs ++ x ∷ rest)

-- no pair of none is damaged
none_bad : {Form : List ℕ × List ℕ → Type 0} (key : List ℕ) → IsFirstBad Form [] key → ⊥
none_bad key bad = filled_not bad.before bad.split
  where
    filled_not : (before : List (List ℕ × List ℕ)) → [] ≡ before ++ bad.bad ∷ bad.behind → ⊥
    filled_not [] is = cc
    filled_not (b ∷ before) is = cc

-- damaged ranges tell no gap
damaged_gap : (place key : List ℕ) (m : Map) → IsFirstDamaged place (pairs_in m (whole_range place)) key → gap_in place m ≡ None
damaged_gap place key m damage = by_told (ranges_in place (pairs_in m (whole_range place))) refl
  where
    by_told : (o : Option (List KeyRange)) → ranges_in place (pairs_in m (whole_range place)) ≡ o → option_and_then first_gap (ranges_in place (pairs_in m (whole_range place))) ≡ None
    by_told None is = ap (option_and_then first_gap) is
    by_told (Some ranges) is = absurd (not_damaged place (pairs_in m (whole_range place)) key (ranges, ranges_told place (pairs_in m (whole_range place)) ranges is) damage)

module _ (maps : ℕ → Map) (refuses : KeyRange → ℕ → ReadError → Type 0) (opened : Opened) (plan : BuildTask) (index : IndexDefinition) (named : write_only_named opened.schema opened.states plan.name ≡ Ok index) where
  known : has_number opened.schema.indexes index.number ≡ true
  known = named_there opened.schema plan.name index.number (number_named opened plan.name index named)

  building : state_in opened.states index.number ≡ WriteOnly
  building = (found_write_only opened plan.name index named).1

  pub contained : Contains opened.schema.indexes index
  contained = found_contained plan.name opened.schema.indexes index (found_write_only opened plan.name index named).0

  abbrev place : List ℕ
  place = built_place opened.prefix index.number

  abbrev service_here : Service Progress
  service_here = service_of (step_meaning plan.limit) (step_footprint opened plan.limit) index

  abbrev by : Option KeyRange → Reading
  by gap = reading_by opened plan.limit index gap

  accepted : step_call opened plan ≡ Ok service_here
  accepted = ap (call_on (step_meaning plan.limit) (step_footprint opened plan.limit)) named

  -- ---- the gap that a map tells

  added_so : (gap : Option KeyRange) (added : List KeyRange) (m : Map) → gap ≡ gap_in place m → added ≡ (by gap).added m → added ≡ service_here.footprint.reading.added m
  added_so gap added m is all = all ∙ ap (λ g. (by g).added m) is

  sound_so : (gap : Option KeyRange) (m : Map) → gap ≡ gap_in place m → IsSound opened (by gap) m → IsSound opened service_here.footprint.reading m
  sound_so gap m is sound = subst (λ g. IsSound opened (by g) m) is sound

  unread_so : (refused : KeyRange → ReadError → Type 0) (gap : Option KeyRange) (error : StoreError) (added : List KeyRange) (m : Map) → gap ≡ gap_in place m → IsUnread refused opened (by gap) error added m → IsUnread refused opened service_here.footprint.reading error added m
  unread_so refused gap Memory added m is says = subst (λ g. IsBeginning added ((by g).added m)) is says
  unread_so refused gap (Read error) added m is says = (subst (λ g. IsBeginning added ((by g).added m)) is says.0, subst (λ g. IsNextRefused refused ((by g).asked m) added error) is says.1)
  unread_so refused gap (Corrupt key) added m is says = (added_so gap added m is says.0, subst (λ g. IsDamagedAt opened (by g) key m) is says.1, says.2)
  unread_so refused gap (Write error) added m is says = absurd says
  unread_so refused gap (Refused refusal) added m is says = absurd says
  unread_so refused gap NoStore added m is says = absurd says
  unread_so refused gap AlreadyThere added m is says = absurd says
  unread_so refused gap OtherSchema added m is says = absurd says
  unread_so refused gap NotAggregate added m is says = absurd says
  unread_so refused gap NotReadable added m is says = absurd says
  unread_so refused gap WrongState added m is says = absurd says
  unread_so refused gap NotBuilt added m is says = absurd says

  -- UNFOUND: the built ranges weren't read
  first_unread : (refused : KeyRange → ReadError → Type 0) (error : StoreError) (added : List KeyRange) (m : Map) → IsUnread refused opened (all_built opened.prefix index.number) error added m → IsUnread refused opened service_here.footprint.reading error added m
  first_unread refused Memory added m says = begin_more ((reading_behind opened plan.limit index (gap_in place m)).added m) says
  first_unread refused (Read error) added m says = (begin_more ((reading_behind opened plan.limit index (gap_in place m)).added m) says.0, next_more ((reading_behind opened plan.limit index (gap_in place m)).asked m) says.1)
  first_unread refused (Corrupt key) added m says = by_damage says.1
    where
      by_damage : IsDamagedAt opened (all_built opened.prefix index.number) key m → IsUnread refused opened service_here.footprint.reading (Corrupt key) added m
      by_damage (inl damage) = (added_so None added m (sym (damaged_gap place key m damage)) says.0, inl damage, says.2)
      by_damage (inr bad) = absurd (none_bad key bad.1)
  first_unread refused (Write error) added m says = absurd says
  first_unread refused (Refused refusal) added m says = absurd says
  first_unread refused NoStore added m says = absurd says
  first_unread refused AlreadyThere added m says = absurd says
  first_unread refused OtherSchema added m says = absurd says
  first_unread refused NotAggregate added m says = absurd says
  first_unread refused NotReadable added m says = absurd says
  first_unread refused WrongState added m says = absurd says
  first_unread refused NotBuilt added m says = absurd says

  pub unfound : {old new : CommitRequest} (at : List ℕ) (error : RangeSetError) → at ≡ place → reads.IsSetRefused maps refuses at (all_ranges at) error old new → IsRefused maps refuses opened (step_call opened plan) (of_set error) old new
  unfound {old = old} {new = new} at error is unread =
      let ranges = set_unread opened index.number known building error (subst (λ p. reads.IsSetRefused maps refuses p (all_ranges p) error old new) is unread) in
      refused_unread maps refuses opened (step_call opened plan) service_here (of_set error) accepted
      (record { added = ranges.added; ran = ran_because ranges.ran (λ m says. first_unread (λ range. refuses range old.read_version) (of_set error) ranges.added m says) })

  -- WANTING: memory was wanting behind the built ranges
  pub step_wanting : {old mid : CommitRequest} (at : List ℕ) (ranges : List KeyRange) → at ≡ place → reads.IsSetAnswered maps at (all_ranges at) old mid (SamePositions ranges) → IsRefused maps refuses opened (step_call opened plan) Memory old mid
  step_wanting {old = old} {mid = mid} at ranges is_place read = unfound at set_memory is_place (wanting maps refuses at (all_ranges at) old mid (SamePositions ranges) read)

  module _ {old mid : CommitRequest} (at : List ℕ) (ranges : List KeyRange) (gap : Option KeyRange) (is_place : at ≡ place) (read : reads.IsSetAnswered maps at (all_ranges at) old mid (SamePositions ranges)) (told : AreRangesIn maps at old mid ranges)
      (is_first : gap ≡ first_gap ranges) where
    there : reads.IsSetAnswered maps place (all_ranges place) old mid (λ set. gap ≡ first_gap set)
    there = subst (λ p. reads.IsSetAnswered maps p (all_ranges p) old mid (λ set. gap ≡ first_gap set)) is_place (gap_read maps refuses at old mid ranges gap is_first read)

    found_ran : DidRead maps (there.added ∷ []) old mid (λ m. (there.added ∷ [] ≡ (all_built opened.prefix index.number).added m)
        × (IsSound opened (all_built opened.prefix index.number) m × AtStore opened m (λ store. gap ≡ gap_of store index.number)))
    found_ran = set_read opened index.number known building (λ set. gap ≡ first_gap set) there

    -- the ranges are those that each map tells, and the gap is their first one, and that of each store there
    was_found : DidRead maps (there.added ∷ []) old mid (λ m. (stored_in place m ≡ Some ranges) × ((there.added ∷ [] ≡ (all_built opened.prefix index.number).added m)
        × (IsSound opened (all_built opened.prefix index.number) m × AtStore opened m (λ store. gap ≡ gap_of store index.number))))
    was_found = record {
      version = found_ran.version;
      wrote = found_ran.wrote;
      reads = found_ran.reads;
      over = λ m agree. ((subst (λ p. AreRangesIn maps p old mid ranges) is_place told).over m agree, found_ran.over m agree);
    }

    gap_there : (m : Map) → stored_in place m ≡ Some ranges → gap ≡ gap_in place m
    gap_there m stored = is_first ∙ sym (ap (option_and_then first_gap) stored)

    -- FINISHED: there is none
    pub step_finished : gap ≡ None → IsAnswered maps opened (step_call opened plan) Finished old mid
    step_finished none =
        answered_reading maps refuses opened (step_call opened plan) service_here Finished accepted refl
        (ran_because was_found (λ m found. let is : None ≡ gap_in place m = sym none ∙ gap_there m found.0 in (added_so None (there.added ∷ []) m is found.1.0, (sound_so None m is found.1.1.0, found.1.1.1))))
        (λ m store holds same first.
        let nothing : None ≡ gap_of store index.number = sym none ∙ first in record {
          answers = sym (ap (λ g. Ok (progress_in plan.limit index store g)) nothing);
          wrote = ap (step_writes opened.prefix plan.limit index m store) nothing;
          holds = subst (λ g. Holds opened.prefix m (Some (stepped plan.limit index store g))) nothing holds;
        })

    module _ (first : KeyRange) (some : gap ≡ Some first) where
      abbrev keys : KeyRange
      keys = positions_range opened.prefix index.type_number first

      -- UNREAD: the records in the gap weren't read
      unread_behind : (refused : KeyRange → ReadError → Type 0) (error : StoreError) (added : List KeyRange) (m : Map) → there.added ∷ [] ≡ (all_built opened.prefix index.number).added m → IsSound opened (all_built opened.prefix index.number) m →
          IsUnread refused opened (limited_to plan.limit keys) error added m → IsUnread refused opened (by (Some first)) error (there.added ∷ added) m
      unread_behind refused Memory added m one sound says = subst (λ rs. IsBeginning (there.added ∷ added) (rs ++ (limited_to plan.limit keys).added m)) one (begin_behind (there.added ∷ []) says)
      unread_behind refused (Read error) added m one sound says = (
        subst (λ rs. IsBeginning (there.added ∷ added) (rs ++ (limited_to plan.limit keys).added m)) one (begin_behind (there.added ∷ []) says.0),
        subst (λ rs. IsNextRefused refused (rs ++ keys ∷ []) (there.added ∷ added) error) one (next_behind (there.added ∷ []) says.1),
      )
      unread_behind refused (Corrupt key) added m one sound says = ((λ i. one i ++ says.0 i), inr (sound.0, says.1), says.2)
      unread_behind refused (Write error) added m one sound says = absurd says
      unread_behind refused (Refused refusal) added m one sound says = absurd says
      unread_behind refused NoStore added m one sound says = absurd says
      unread_behind refused AlreadyThere added m one sound says = absurd says
      unread_behind refused OtherSchema added m one sound says = absurd says
      unread_behind refused NotAggregate added m one sound says = absurd says
      unread_behind refused NotReadable added m one sound says = absurd says
      unread_behind refused WrongState added m one sound says = absurd says
      unread_behind refused NotBuilt added m one sound says = absurd says

      pub step_unread : {new : CommitRequest} (error : StoreError) → HasNotFound maps refuses opened (limited_to plan.limit keys) error mid new → IsRefused maps refuses opened (step_call opened plan) error old new
      step_unread {new = new} error unread =
          refused_unread maps refuses opened (step_call opened plan) service_here error accepted
          (record {
            added = there.added ∷ unread.added;
            ran = ran_then was_found unread.ran (λ m one says.
                unread_so (λ range. refuses range old.read_version) (Some first) error (there.added ∷ unread.added) m (sym some ∙ gap_there m one.0)
                (unread_behind (λ range. refuses range old.read_version) error unread.added m one.1.0 one.1.1.0 (subst (λ v. IsUnread (λ range. refuses range v) opened (limited_to plan.limit keys) error unread.added m) was_found.version says)));
          })

      module _ (least : 1 ≤ plan.limit) {last : CommitRequest} (rows : List Record) (part : HasReadPart maps opened plan.limit index first rows mid last) where
        -- what was read tells of a map and a store
        abbrev Told : Map → Store → Type 0
        Told m store = (Some first ≡ gap_of store index.number) × (rows ≡ take plan.limit (records_within first index store.records)) × (stored_in place m ≡ Some ranges)

        was_read : DidRead maps (there.added ∷ part.added ∷ []) old last (λ m. (there.added ∷ part.added ∷ [] ≡ service_here.footprint.reading.added m) × (IsSound opened service_here.footprint.reading m × AtStore opened m (Told m)))
        was_read =
            ran_then was_found part.ran (λ m one two.
            let is : Some first ≡ gap_in place m = sym some ∙ gap_there m one.0 in (
              added_so (Some first) (there.added ∷ part.added ∷ []) m is (λ i. one.1.0 i ++ two.0 i ∷ []),
              (sound_so (Some first) m is (one.1.1.0.0, two.1), λ store holds same. (sym some ∙ one.1.1.1 store holds same, two.2 store holds same, one.0)),
            ))

        -- MEMORY: it was wanting behind the reads
        pub step_memory : IsRefused maps refuses opened (step_call opened plan) Memory old last
        step_memory = refused_memory maps refuses opened (step_call opened plan) service_here accepted was_read

        module _ (range : KeyRange) (made : range ≡ part_made plan.limit rows first) where
          module _ (store : Store) (m : Map) (holds : Holds opened.prefix m (Some store)) (same : IsOpenAs opened store) (seen : Told m store) where
            abbrev here : KeyRange
            here = first_part plan.limit first index store.records

            is_gap : IsGap (has_position (built_of store index.number)) first
            is_gap = subst (IsFirstGap (has_position (built_of store index.number))) (sym seen.0) (first_gap_is (built_of store index.number))

            is_part : IsFirstPart plan.limit first here index store.records
            is_part = first_parts plan.limit first index store.records least holds.lawful.ordered holds.lawful.storable

            range_is : range ≡ here
            range_is = made ∙ part_is plan.limit first index store.records rows least holds.lawful.ordered holds.lawful.storable is_gap.some seen.1

            rows_are : rows ≡ records_within here index store.records
            rows_are = seen.1 ∙ sym is_part.first

            some_keys : has_keys range ≡ true
            some_keys = ap has_keys range_is ∙ is_part.some is_gap.some

            free : IsInGap here (built_of store index.number)
            free = λ at inside. is_gap.within at (is_part.inside at inside)

            stored_is : ranges ≡ unwrap_or (stored_in place m) []
            stored_is = sym (ap (λ o. unwrap_or o []) seen.2)

            here_writes : build_writes opened.prefix index rows ++ insertion place ranges range ≡ built_writes opened.prefix index here m store.records
            here_writes = λ i. build_writes opened.prefix index (rows_are i) ++ insertion place (stored_is i) (range_is i)

            built_here : ((n : Map) → stored_in place n ≡ Some ranges → Joins place range n (after_all (insertion place ranges range) n)) →
                Holds opened.prefix (after_all (build_writes opened.prefix index rows ++ insertion place ranges range) m) (Some (built store index.number here))
            built_here joins =
                subst (λ ms. Holds opened.prefix (after_all ms m) (Some (built store index.number here))) (sym here_writes)
                (built_holds opened.prefix m store index (subst (λ (s : Schema). Contains s.indexes index) (sym same.schema) contained) holds here (store_building opened index.number known building store same) free
                (λ n alike. subst₂ (λ rs r. Joins place r n (after_all (insertion place rs r) n)) stored_is range_is (joins n (alike ∙ seen.2))))

          -- EMPTY: no set of ranges leaves a gap whose part has no position
          pub step_empty : has_keys range ≡ false → IsAnswered maps opened (step_call opened plan) Finished old last
          step_empty none =
              answered_reading maps refuses opened (step_call opened plan) service_here Finished accepted refl was_read
              (λ m store holds same seen. absurd (true≢false (sym (some_keys store m holds same seen) ∙ none)))

          module _ (list : List Mutation) (wrote : list ≡ build_writes opened.prefix index rows ++ insertion place ranges range) where
            wrote_there : (m : Map) (store : Store) → Holds opened.prefix m (Some store) → IsOpenAs opened store → Told m store → list ≡ service_here.footprint.writes m store
            wrote_there m store holds same seen = wrote ∙ here_writes store m holds same seen ∙ ap (step_writes opened.prefix plan.limit index m store) seen.0

            -- LIMIT: what is to be written was refused
            pub step_limited : {new : CommitRequest} (error : WriteError) → new ≡ last → (error ≡ write.Memory) ⊎ (write_all_refusal last.mutations list ≡ Some error) → IsRefused maps refuses opened (step_call opened plan) (of_write error) old new
            step_limited error same says =
                refused_limit maps refuses opened (step_call opened plan) service_here list error accepted was_read
                (λ m store holds alike seen. (record { answer = _; is = refl }, wrote_there m store holds alike seen)) same says

            -- BUILT: the part is built
            pub step_built : {new : CommitRequest} (records : ℕ) → records ≡ length rows → ((n : Map) → stored_in place n ≡ Some ranges → Joins place range n (after_all (insertion place ranges range) n)) → new ≡ with_mutations list last → IsNone (write_all_refusal last.mutations list) →
                IsAnswered maps opened (step_call opened plan) (Built records range) old new
            step_built {new = new} records many joins is allowed =
                answered maps refuses opened (step_call opened plan) service_here (Built records range) list accepted
                (ap (λ ms. length ms == 0) wrote ∙ some_written (build_writes opened.prefix index rows) _ _) was_read is allowed
                (λ m store holds same seen. record {
                  answers =
                      ap Ok (sym ((λ i. Built (many i) (range_is store m holds same seen i)) ∙ ap (λ rs. Built (length rs) (here store m holds same seen)) (rows_are store m holds same seen)
                      ∙ ap (progress_in plan.limit index store) seen.0));
                  wrote = wrote_there m store holds same seen;
                  holds =
                      subst (λ g. Holds opened.prefix (after_all list m) (Some (stepped plan.limit index store g))) seen.0
                      (subst (λ ms. Holds opened.prefix (after_all ms m) (Some (built store index.number (here store m holds same seen)))) (sym wrote) (built_here store m holds same seen joins));
                })
