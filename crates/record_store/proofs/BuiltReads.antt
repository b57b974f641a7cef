-- How the code reads of built ranges what a writer of a record reads, index by index.
use Rattle.std.proofs.Common.{◌≡◌, ◌⊎◌, inl, inr, ℕ, Bool, true, false, cond, ◌<◌, ◌≤◌, List, [], ◌∷◌, ◌++◌, refl, sym, ap, subst, ◌∙◌, append-nil, append_assoc, arith, length, take, map}
use Rattle.std.specs.Prelude.{drop, get_or, suc}
use Rattle.std.specs.List.{flat_map}
use Rattle.std.proofs.Math.Seq.{take-suc}
use Rattle.std.proofs.lemmas.Grind.{flat_map-append}
use Rattle.std.proofs.lemmas.List.{map-append}
use Rattle.kv_core.specs.Map.{Agree, Map}
use Rattle.kv_core.specs.Range.{KeyRange}
use Rattle.kv_core.specs.Read.{range_read, read_of}
use Rattle.kv_core.specs.declared.change.CommitRequest.{CommitRequest}
use Rattle.kv_core.specs.declared.snapshot.ReadError.{ReadError}
use Rattle.kv_core.specs.declared.snapshot.ReadError.TheVariants as read
use Rattle.txn.specs.Reads.{has_read, seen}
use Rattle.txn.proofs.Running.{ran_read, ran_still, ran_then}
use Rattle.range_set.specs.Calls.{last_upto}
use Rattle.range_set.specs.Stored.{upto_range}
use Rattle.metadata.specs.declared.index.IndexDefinition.{IndexDefinition}
use Rattle.index_maint.specs.Layout.{built_place}
use Rattle.record_store.specs.declared.error.StoreError.{StoreError}
use Rattle.record_store.specs.declared.error.StoreError.TheVariants.{Memory, Read, Write, Corrupt, Refused, NoStore, AlreadyThere, OtherSchema, NotAggregate, NotReadable, WrongState, NotBuilt}
use Rattle.record_store.specs.BuiltReading.{added_of, asked_ranges, asks, built_reading, found_of}
use Rattle.record_store.specs.Call.{Opened, Reading}
use Rattle.record_store.specs.Reading.{HasReadBuilt, HasReadOne, IsStopped, ReadsHaveStopped}
use Rattle.record_store.specs.Steps.{IsBeginning, IsNextRefused, no_memory, of_read}
use Rattle.record_store.proofs.Scanning.{split_at}
use Rattle.record_store.proofs.StateSteps.{all_taken}
use Rattle.record_store.proofs.Stopping.{all_begin, begin_behind, begin_more, none_begin}

abbrev Pair : Type 0
Pair = List ℕ × List ℕ

-- ---- lists

-- one more turn
pub flat_more : {X Y : Type 0} (f : X → List Y) (i : ℕ) (xs : List X) (x : X) → i < length xs → x ≡ get_or xs i x → flat_map f (take (suc i) xs) ≡ flat_map f (take i xs) ++ f x
flat_more f i xs x within is =
    ap (flat_map f) (take-suc xs i x within) ∙ flat_map-append f (take i xs) (get_or xs i x ∷ [])
    ∙ ap (λ ys. flat_map f (take i xs) ++ ys) (append-nil (f (get_or xs i x)) ∙ ap f (sym is))

map_more : {X Y : Type 0} (f : X → Y) (i : ℕ) (xs : List X) (x : X) → i < length xs → x ≡ get_or xs i x → map f (take (suc i) xs) ≡ map f (take i xs) ++ f x ∷ []
map_more f i xs x within is =
    ap (map f) (take-suc xs i x within) ∙ map-append f (take i xs) (get_or xs i x ∷ []) ∙ ap (λ y. map f (take i xs) ++ f y ∷ []) (sym is)

-- those before, the one there, and those behind
pub flat_split : {X Y : Type 0} (f : X → List Y) (i : ℕ) (xs : List X) (x : X) → i < length xs → x ≡ get_or xs i x → flat_map f xs ≡ flat_map f (take i xs) ++ (f x ++ flat_map f (drop (suc i) xs))
flat_split f i xs x within is = ap (flat_map f) (split_at i xs x within is) ∙ flat_map-append f (take i xs) (x ∷ drop (suc i) xs)

-- ---- stops

module _ {maps : ℕ → Map} {refuses : KeyRange → ℕ → ReadError → Type 0} where
  -- nothing was read, and memory is wanting
  pub stopped_still : {old new : CommitRequest} (reading : Reading) → new ≡ old → ReadsHaveStopped maps refuses reading no_memory old new
  stopped_still reading same = record { added = []; ran = ran_still same (λ m. none_begin (reading.added m)) }

  -- the only read was refused, or memory was wanting
  pub stopped_failed : {old new : CommitRequest} (reading : Reading) (range other : KeyRange) (error : ReadError) → range ≡ other → ((m : Map) → reading.asked m ≡ other ∷ []) → new ≡ old →
      (error ≡ read.Memory) ⊎ refuses range old.read_version error → ReadsHaveStopped maps refuses reading (of_read error) old new
  stopped_failed {old = old} reading range other error is asks_it same says = record { added = []; ran = ran_still same (λ m. by_error m error says) }
    where
      refused : (m : Map) (e : ReadError) → refuses range old.read_version e → IsNextRefused (λ r. refuses r old.read_version) (reading.asked m) [] e
      refused m e met = record { range = other; rest = []; next = asks_it m; refused = subst (λ r. refuses r old.read_version e) is met }

      by_error : (m : Map) (e : ReadError) → (e ≡ read.Memory) ⊎ refuses range old.read_version e → IsStopped (λ r. refuses r old.read_version) reading (of_read e) [] m
      by_error m read.Memory met = none_begin (reading.added m)
      by_error m read.TooOld (inl memory) = absurd (cc)
      by_error m read.TooOld (inr met) = (none_begin (reading.added m), refused m read.TooOld met)
      by_error m read.FutureVersion (inl memory) = absurd (cc)
      by_error m read.FutureVersion (inr met) = (none_begin (reading.added m), refused m read.FutureVersion met)

-- behind as many as were asked for the next one is the same
drop_as : (before added other asked : List KeyRange) → length before ≡ length other → drop (length (before ++ added)) (other ++ asked) ≡ drop (length added) asked
drop_as [] added [] asked same = refl
drop_as [] added (o ∷ other) asked same = absurd (omega (arith, same))
drop_as (b ∷ before) added [] asked same = absurd (omega (arith, same))
drop_as (b ∷ before) added (o ∷ other) asked same = drop_as before added other asked (omega (arith, same))

drop_more : (added asked more : List KeyRange) (range : KeyRange) (rest : List KeyRange) → drop (length added) asked ≡ range ∷ rest → drop (length added) (asked ++ more) ≡ range ∷ (rest ++ more)
drop_more [] asked more range rest is = ap (λ rs. rs ++ more) is
drop_more (one ∷ added) [] more range rest is = absurd (cc)
drop_more (one ∷ added) (first ∷ asked) more range rest is = drop_more added asked more range rest is

-- what stopped within one part of a reading stopped within it behind what was read before
pub stopped_within : (refuses : KeyRange → ReadError → Type 0) (asked added : List KeyRange) (one whole : Reading) (before more last : List KeyRange) (error : StoreError) (m : Map) → length before ≡ length asked →
    whole.asked m ≡ asked ++ (one.asked m ++ more) → whole.added m ≡ before ++ (one.added m ++ last) → IsStopped refuses one error added m → IsStopped refuses whole error (before ++ added) m
stopped_within refuses asked added one whole before more last Memory m same all_asked all_added says = subst (IsBeginning (before ++ added)) (sym all_added) (begin_behind before (begin_more last says))
stopped_within refuses asked added one whole before more last (Read error) m same all_asked all_added says = (
  subst (IsBeginning (before ++ added)) (sym all_added) (begin_behind before (begin_more last says.0)),
  subst (λ rs. IsNextRefused refuses rs (before ++ added) error) (sym all_asked)
      (record {
        range = says.1.range;
        rest = says.1.rest ++ more;
        next = drop_as before added asked (one.asked m ++ more) same ∙ drop_more added (one.asked m) more says.1.range says.1.rest says.1.next;
        refused = says.1.refused;
      }),
)
stopped_within refuses asked added one whole before more last (Write error) m same all_asked all_added says = absurd says
stopped_within refuses asked added one whole before more last (Corrupt key) m same all_asked all_added says = absurd says
stopped_within refuses asked added one whole before more last (Refused refusal) m same all_asked all_added says = absurd says
stopped_within refuses asked added one whole before more last NoStore m same all_asked all_added says = absurd says
stopped_within refuses asked added one whole before more last AlreadyThere m same all_asked all_added says = absurd says
stopped_within refuses asked added one whole before more last OtherSchema m same all_asked all_added says = absurd says
stopped_within refuses asked added one whole before more last NotAggregate m same all_asked all_added says = absurd says
stopped_within refuses asked added one whole before more last NotReadable m same all_asked all_added says = absurd says
stopped_within refuses asked added one whole before more last WrongState m same all_asked all_added says = absurd says
stopped_within refuses asked added one whole before more last NotBuilt m same all_asked all_added says = absurd says

module _ (opened : Opened) (number : ℕ) (position : List ℕ) where
  -- ---- one index

  -- what is asked of another was read
  pub one_read : {maps : ℕ → Map} {old new : CommitRequest} (index : IndexDefinition) (range : KeyRange) (pairs : List Pair) → asks opened number index ≡ true → range ≡ upto_range (built_place opened.prefix index.number) position →
      new ≡ has_read (range_read range 1 true pairs) old → ((m : Map) → Agree new.reads (maps old.read_version) m → pairs ≡ read_of (seen old m) range 1 true) → HasReadOne maps opened number position index pairs old new
  one_read {old = old} index range pairs asked is made says = record {
    added = range_read range 1 true pairs ∷ [];
    ran = ran_read (range_read range 1 true pairs) made (λ m agree.
        let place = built_place opened.prefix index.number in
        let found : pairs ≡ read_of (seen old m) (upto_range place position) 1 true = says m agree ∙ ap (λ r. read_of (seen old m) r 1 true) is in (
          (λ i. range_read (is i) 1 true (found i) ∷ []) ∙ sym (ap (λ b. cond b ((last_upto place position).added (seen old m) ∷ []) []) asked),
          found ∙ sym (ap (λ b. cond b ((last_upto place position).pairs (seen old m)) []) asked),
        ));
  }

  -- what isn't asked of another isn't read
  pub none_asked : {maps : ℕ → Map} {old new : CommitRequest} (index : IndexDefinition) (pairs : List Pair) → asks opened number index ≡ false → pairs ≡ [] → new ≡ old → HasReadOne maps opened number position index pairs old new
  none_asked index pairs not_asked none same = record {
    added = [];
    ran = ran_still same (λ m.
        let place = built_place opened.prefix index.number in (
          sym (ap (λ b. cond b ((last_upto place position).added m ∷ []) []) not_asked),
          none ∙ sym (ap (λ b. cond b ((last_upto place position).pairs m) []) not_asked),
        ));
  }

  -- it is the only read that is asked for
  pub one_asked : (index : IndexDefinition) → asks opened number index ≡ true → (m : Map) → (built_reading opened number position (index ∷ [])).asked m ≡ upto_range (built_place opened.prefix index.number) position ∷ []
  one_asked index asked m = ap (λ b. cond b (upto_range (built_place opened.prefix index.number) position ∷ []) [] ++ []) asked

  -- ---- all indexes

  pub none_read : {maps : ℕ → Map} {old new : CommitRequest} (found : List (List Pair)) → found ≡ [] → new ≡ old → HasReadBuilt maps opened number position [] found old new
  none_read found none same = record { added = []; ran = ran_still same (λ m. (refl, none)) }

  pub read_more : {maps : ℕ → Map} {old mid new : CommitRequest} (i : ℕ) (indexes : List IndexDefinition) (index : IndexDefinition) (found next : List (List Pair)) (pairs : List Pair) → i < length indexes → index ≡ get_or indexes i index →
      next ≡ found ++ pairs ∷ [] → HasReadBuilt maps opened number position (take i indexes) found old mid → HasReadOne maps opened number position index pairs mid new → HasReadBuilt maps opened number position (take (suc i) indexes) next old new
  read_more i indexes index found next pairs within is more so_far one = record {
    added = so_far.added ++ one.added;
    ran = ran_then so_far.ran one.ran (λ m before now. (
      (λ j. before.0 j ++ now.0 j) ∙ sym (flat_more (added_of opened number position m) i indexes index within is),
      more ∙ (λ j. before.1 j ++ now.1 j ∷ []) ∙ sym (map_more (found_of opened number position m) i indexes index within is),
    ));
  }

  -- as many are added as are asked for
  as_many : (m : Map) (indexes : List IndexDefinition) → length (flat_map (added_of opened number position m) indexes) ≡ length (flat_map (asked_ranges opened number position) indexes)
  as_many m [] = refl
  as_many m (index ∷ indexes) = by_test (asks opened number index) (as_many m indexes)
    where
      one : KeyRange
      one = (last_upto (built_place opened.prefix index.number) position).added m

      other : KeyRange
      other = (last_upto (built_place opened.prefix index.number) position).asked

      by_test : (b : Bool) → length (flat_map (added_of opened number position m) indexes) ≡ length (flat_map (asked_ranges opened number position) indexes) →
          length (cond b (one ∷ []) [] ++ flat_map (added_of opened number position m) indexes) ≡ length (cond b (other ∷ []) [] ++ flat_map (asked_ranges opened number position) indexes)
      by_test true rest = ap suc rest
      by_test false rest = rest

  -- a stop at one index is one of all
  pub stopped_among : {maps : ℕ → Map} {refuses : KeyRange → ℕ → ReadError → Type 0} {old mid new : CommitRequest} (i : ℕ) (indexes : List IndexDefinition) (index : IndexDefinition) (found : List (List Pair)) (error : StoreError) →
      i < length indexes → index ≡ get_or indexes i index → HasReadBuilt maps opened number position (take i indexes) found old mid → ReadsHaveStopped maps refuses (built_reading opened number position (index ∷ [])) error mid new →
      ReadsHaveStopped maps refuses (built_reading opened number position indexes) error old new
  stopped_among {refuses = refuses} {old = old} i indexes index found error within is so_far stop = record {
    added = so_far.added ++ stop.added;
    ran = ran_then so_far.ran stop.ran (λ m before says.
        subst (λ rs. IsStopped (λ range. refuses range old.read_version) (built_reading opened number position indexes) error (rs ++ stop.added) m) (sym before.0)
        (stopped_within (λ range. refuses range old.read_version) (flat_map (asked_ranges opened number position) (take i indexes)) stop.added (built_reading opened number position (index ∷ [])) (built_reading opened number position indexes)
        (flat_map (added_of opened number position m) (take i indexes)) (flat_map (asked_ranges opened number position) (drop (suc i) indexes)) (flat_map (added_of opened number position m) (drop (suc i) indexes)) error m
        (as_many m (take i indexes))
        (flat_split (asked_ranges opened number position) i indexes index within is
        ∙ ap (λ rs. flat_map (asked_ranges opened number position) (take i indexes) ++ (rs ++ flat_map (asked_ranges opened number position) (drop (suc i) indexes))) (sym (append-nil (asked_ranges opened number position index))))
        (flat_split (added_of opened number position m) i indexes index within is
        ∙ ap (λ rs. flat_map (added_of opened number position m) (take i indexes) ++ (rs ++ flat_map (added_of opened number position m) (drop (suc i) indexes))) (sym (append-nil (added_of opened number position m index))))
        (subst (λ v. IsStopped (λ range. refuses range v) (built_reading opened number position (index ∷ [])) error stop.added m) so_far.ran.version says)));
  }

  -- MEMORY: it was wanting behind the reads of some
  pub stopped_behind : {maps : ℕ → Map} {refuses : KeyRange → ℕ → ReadError → Type 0} {old mid new : CommitRequest} (i : ℕ) (indexes : List IndexDefinition) (index : IndexDefinition) (found : List (List Pair)) (pairs : List Pair) →
      i < length indexes → index ≡ get_or indexes i index → HasReadBuilt maps opened number position (take i indexes) found old mid → HasReadOne maps opened number position index pairs mid new →
      ReadsHaveStopped maps refuses (built_reading opened number position indexes) no_memory old new
  stopped_behind i indexes index found pairs within is so_far one = record {
    added = so_far.added ++ one.added;
    ran = ran_then so_far.ran one.ran (λ m before now.
        subst (IsBeginning (so_far.added ++ one.added)) (sym (flat_split (added_of opened number position m) i indexes index within is ∙ sym (append_assoc (flat_map (added_of opened number position m) (take i indexes)) (added_of opened number position m index) (flat_map (added_of opened number position m) (drop (suc i) indexes)))))
        (begin_more (flat_map (added_of opened number position m) (drop (suc i) indexes))
        (subst (IsBeginning (so_far.added ++ one.added)) (λ j. before.0 j ++ now.0 j) (all_begin (so_far.added ++ one.added)))));
  }

  pub all_read : {maps : ℕ → Map} {old new : CommitRequest} (i : ℕ) (indexes : List IndexDefinition) (found : List (List Pair)) → length indexes ≤ i → HasReadBuilt maps opened number position (take i indexes) found old new →
      HasReadBuilt maps opened number position indexes found old new
  all_read {maps = maps} {old = old} {new = new} i indexes found within is = subst (λ xs. HasReadBuilt maps opened number position xs found old new) (all_taken i indexes within) is
