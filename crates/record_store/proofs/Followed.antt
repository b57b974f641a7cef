-- How indexes follow their records by what was found of built ranges.
use Rattle.std.proofs.Common.{◌≡◌, inl, inr, ℕ, Bool, true, false, cond, ◌&&◌, ◌==◌, ◌<◌, List, [], ◌∷◌, ◌++◌, refl, sym, ap, subst, ◌∙◌, Option, Some, append_assoc, arith, length, take, map, pos}
use Rattle.std.specs.Prelude.{drop, filter, get_or, reverse, suc, zero}
use Rattle.std.specs.List.{AllByRecursion, Contains, flat_map}
use Rattle.std.proofs.lemmas.Bool.{and_parts}
use Rattle.tuple_codec.specs.Item.{Item, bytes, int}
use Rattle.tuple_codec.specs.Spelling.{spelling}
use Rattle.tuple_codec.specs.Subspace.{BeginsWith}
use Rattle.kv_core.specs.Map.{Map, pairs_in}
use Rattle.kv_core.specs.Range.{KeyRange, contains}
use Rattle.kv_core.specs.declared.change.Mutation.{Mutation}
use Rattle.kv_core.proofs.Lists.{All-take}
use Rattle.kv_core.proofs.Pairs.{All-reverse}
use Rattle.range_set.specs.declared.error.RangeSetError.{RangeSetError}
use Rattle.range_set.specs.declared.error.RangeSetError.TheVariants as set
use Rattle.range_set.specs.Calls.{IsPositionTold, IsUntold, last_upto}
use Rattle.range_set.specs.Gaps.{has_position}
use Rattle.range_set.specs.Stored.{AreStored, AreWritten, HasSet, IsFirstDamaged, range_pair, upto_range}
use Rattle.metadata.specs.declared.index.IndexDefinition.{IndexDefinition}
use Rattle.metadata.specs.declared.index.IndexKind.{IndexKind}
use Rattle.metadata.specs.declared.index.IndexKind.TheVariants.{Value, Count, Sum}
use Rattle.metadata.specs.declared.index.State.{State}
use Rattle.metadata.specs.declared.index.State.TheVariants.{Readable, WriteOnly, Disabled}
use Rattle.metadata.specs.Cell.{items_of}
use Rattle.metadata.specs.Lawful.{IsLawfulSchema}
use Rattle.metadata.specs.Record.{Record, primary_key}
use Rattle.metadata.specs.Schema.{Schema}
use Rattle.index_maint.specs.Built.{position_of}
use Rattle.index_maint.specs.Kept.{kept_writes, part_changes_by}
use Rattle.index_maint.proofs.Places.{entries_elsewhere, parts_apart}
use Rattle.index_maint.proofs.RecordIndexes.{flat_map-filter}
use Rattle.record_store.specs.declared.error.StoreError.{StoreError}
use Rattle.record_store.specs.declared.error.StoreError.TheVariants.{Memory, Read, Write, Corrupt, Refused, NoStore, AlreadyThere, OtherSchema, NotAggregate, NotReadable, WrongState, NotBuilt}
use Rattle.record_store.specs.BuiltReading.{asks, found_of, is_asked}
use Rattle.record_store.specs.Call.{IsOpenAs, Opened}
use Rattle.record_store.specs.Form.{IsFirstBad, IsWritten}
use Rattle.record_store.specs.Holds.{HasPositions, Holds, has_number}
use Rattle.record_store.specs.IndexWrites.{index_writes, is_built, one_index_writes}
use Rattle.record_store.specs.Layout.{built_place, record_key}
use Rattle.record_store.specs.Reading.{HaveFollowed, HaveNotFollowed, IsToldOf, IsUntoldOf, asked_built}
use Rattle.record_store.specs.Steps.{of_set}
use Rattle.record_store.specs.Store.{Store, built_of, state_in, state_of}
use Rattle.record_store.proofs.BuiltReads.{flat_more, flat_split}
use Rattle.record_store.proofs.Held.{under}
use Rattle.record_store.proofs.Kept.{itself, not_range, set_held}
use Rattle.record_store.proofs.Openings.{pairs_lie}
use Rattle.record_store.proofs.Listed.{all_there, contained_low, of_contained, schema_apart, state_told, state_told_there}

abbrev Pair : Type 0
Pair = List ℕ × List ℕ

-- ---- what is found

-- of an index that is asked for the state is write-only
asked_state : (state : State) (kind : IndexKind) → is_asked state kind ≡ true → state ≡ WriteOnly
asked_state Readable kind asked = cc
asked_state WriteOnly kind asked = refl
asked_state Disabled kind asked = cc

module _ (opened : Opened) (lawful : IsLawfulSchema opened.schema) (number : ℕ) (position : List ℕ) (index : IndexDefinition) (there : Contains opened.schema.indexes index) where
  abbrev place : List ℕ
  place = built_place opened.prefix index.number

  -- the set that a store has of it
  has_set : asks opened number index ≡ true → (m : Map) (store : Store) → Holds opened.prefix m (Some store) → IsOpenAs opened store → HasSet place (built_of store index.number) m
  has_set asked m store holds same =
      let known = subst (λ (s : Schema). Contains s.indexes index) (sym same.schema) there in
      let parts = and_parts (index.type_number == number) (is_asked (state_in opened.states index.number) index.kind) asked in
      set_held opened.prefix index.number m (store.status index.number)
      (state_told_there opened store index same there ∙ asked_state (state_in opened.states index.number) index.kind parts.1)
      (of_contained (λ (i : IndexDefinition). HasPositions opened.prefix i.number m (store.status i.number)) store.schema.indexes index known.0 known.1 known.2 holds.ranges)

  -- where it isn't asked for nothing is found
  unasked_found : asks opened number index ≡ false → (m : Map) → found_of opened number position m index ≡ []
  unasked_found unasked m = ap (λ b. cond b ((last_upto place position).pairs m) []) unasked

  asked_found : asks opened number index ≡ true → (m : Map) → found_of opened number position m index ≡ (last_upto place position).pairs m
  asked_found asked m = ap (λ b. cond b ((last_upto place position).pairs m) []) asked

  -- pairs that stand for ranges are of the written form
  written_pairs : (pairs : List Pair) → AreWritten place pairs → AllByRecursion (IsWritten opened.prefix opened.schema) pairs
  written_pairs pairs w = subst (AllByRecursion (IsWritten opened.prefix opened.schema)) (sym w.1.are) (each w.0 w.1.stored)
    where
      each : (ranges : List KeyRange) → AreStored ranges → AllByRecursion (IsWritten opened.prefix opened.schema) (map (range_pair place) ranges)
      each [] stored = tt
      each (range ∷ ranges) stored = (inr (inr (record { index = index; there = there; range = range; stored = stored.0; is = refl })), each ranges stored.2)

  -- TOLD: what is found tells it
  pub told_asked : (found : List Pair) (told : Bool) → asks opened number index ≡ true → IsPositionTold place position found told → IsToldOf opened number position index found told
  told_asked found told asked is = λ m same_found. (
    written_pairs found is.written,
    λ store holds same.
        is.is (built_of store index.number) m (same_found ∙ asked_found asked m) (has_set asked m store holds same)
        ∙ sym (ap (λ b. cond b (has_position (built_of store index.number) position) false) asked),
  )

  -- ---- damage

  -- what is found lies behind the place
  found_lie : (m : Map) → AllByRecursion (λ (e : Pair). BeginsWith place e.0) ((last_upto place position).pairs m)
  found_lie m =
      All-take (λ (e : Pair). BeginsWith place e.0) 1 _ (All-reverse (λ (e : Pair). BeginsWith place e.0) (pairs_in m (upto_range place position)) (each (pairs_in m (upto_range place position)) (pairs_lie opened.prefix m (upto_range place position))))
    where
      ends : (upto_range place position).end ≡ place ++ (spelling (bytes position ∷ []) ++ 0 ∷ [])
      ends = append_assoc place (spelling (bytes position ∷ [])) (0 ∷ [])

      each : (pairs : List Pair) → AllByRecursion (λ (e : Pair). contains (upto_range place position) e.0 ≡ true) pairs → AllByRecursion (λ (e : Pair). BeginsWith place e.0) pairs
      each [] all = tt
      each (pair ∷ pairs) all = (
        under place (0 ∷ []) (spelling (bytes position ∷ []) ++ 0 ∷ []) pair.0 (ap (λ e. contains (record { begin = place ++ 0 ∷ []; end = e }) pair.0) (sym ends) ∙ all.0),
        each pairs all.1,
      )

  -- at most one pair is found
  alone : (xs before behind : List Pair) (bad : Pair) → take 1 xs ≡ before ++ bad ∷ behind → before ≡ []
  alone xs [] behind bad is = refl
  alone [] (b ∷ before) behind bad is = cc
  alone (x ∷ xs) (b ∷ before) behind bad is = let none : [] ≡ before ++ bad ∷ behind = cc in absurd (filled before none)
    where
      filled : (before : List Pair) → [] ≡ before ++ bad ∷ behind → ⊥
      filled [] none = cc
      filled (b ∷ before) none = cc

  -- a pair there that stands for no range is of no written form
  unwritten : (pair : Pair) → BeginsWith place pair.0 → (AreWritten place (pair ∷ []) → ⊥) → IsWritten opened.prefix opened.schema pair → ⊥
  unwritten pair begins none (inl one) =
      not_range opened.prefix index.number 1 (primary_key one.stored) pair.0 refl
      (subst (BeginsWith (record_key opened.prefix (primary_key one.stored))) (sym one.key) (itself (record_key opened.prefix (primary_key one.stored)))) begins
  unwritten pair begins none (inr (inl total)) =
      entries_elsewhere opened.prefix pair.0 total.index.number 6 (int (pos index.number) ∷ []) (omega arith) (λ is. absurd (omega (arith, is))) (spelling (items_of total.group), total.key) begins
  unwritten pair begins none (inr (inr one)) =
      let at = subst (BeginsWith (built_place opened.prefix one.index.number)) (sym (ap (λ (p : Pair). p.0) one.is)) (spelling (bytes one.range.begin ∷ []), refl) in
      let apart = schema_apart opened.schema lawful in
      let same : one.index.number ≡ index.number =
      parts_apart opened.prefix pair.0 (int (pos 6)) one.index.number index.number [] [] (contained_low opened.schema.indexes one.index apart one.there) (contained_low opened.schema.indexes index apart there) at begins in
      none (one.range ∷ [], record { stored = (one.stored, tt, tt); are = ap (λ (p : Pair). p ∷ []) (one.is ∙ ap (λ n. range_pair (built_place opened.prefix n) one.range) same) })

  first_bad : (m : Map) (found : List Pair) (key : List ℕ) → found ≡ (last_upto place position).pairs m → IsFirstDamaged place found key → IsFirstBad (IsWritten opened.prefix opened.schema) found key
  first_bad m found key is damage =
      let none = alone (reverse (pairs_in m (upto_range place position))) damage.before damage.behind damage.bad (sym is ∙ damage.split) in record {
        before = damage.before;
        bad = damage.bad;
        behind = damage.behind;
        split = damage.split;
        good = written_pairs damage.before damage.good;
        malformed = unwritten damage.bad (in_middle damage.before (subst (AllByRecursion (λ (e : Pair). BeginsWith place e.0)) (sym is ∙ damage.split) (found_lie m))) (λ w. damage.damaged (subst (λ before. AreWritten place (before ++ damage.bad ∷ [])) (sym none) w));
        at = damage.at;
      }
    where
      in_middle : (before : List Pair) → AllByRecursion (λ (e : Pair). BeginsWith place e.0) (before ++ damage.bad ∷ damage.behind) → BeginsWith place damage.bad.0
      in_middle [] all = all.0
      in_middle (pair ∷ before) all = in_middle before all.1

  -- UNTOLD: what is found tells nothing
  pub untold_asked : (found : List Pair) (error : RangeSetError) → asks opened number index ≡ true → IsUntold place position found error → IsUntoldOf opened number position index found (of_set error)
  untold_asked found set.Memory asked none = tt
  untold_asked found (set.Read error) asked none = absurd none
  untold_asked found (set.Corrupt key) asked none = λ m is. (
    first_bad m found key (is ∙ asked_found asked m) none.0,
    λ store holds same. none.1 (built_of store index.number) m (is ∙ asked_found asked m) (has_set asked m store holds same),
  )

-- ---- the first damaged pair

-- it is so with more pairs behind, and behind good ones
pub bad_more : {Form : Pair → Type 0} (pairs more : List Pair) (key : List ℕ) → IsFirstBad Form pairs key → IsFirstBad Form (pairs ++ more) key
bad_more pairs more key bad = record {
  before = bad.before;
  bad = bad.bad;
  behind = bad.behind ++ more;
  split = ap (λ ps. ps ++ more) bad.split ∙ append_assoc bad.before (bad.bad ∷ bad.behind) more;
  good = bad.good;
  malformed = bad.malformed;
  at = bad.at;
}

pub bad_behind : {Form : Pair → Type 0} (first pairs : List Pair) (key : List ℕ) → AllByRecursion Form first → IsFirstBad Form pairs key → IsFirstBad Form (first ++ pairs) key
bad_behind {Form = Form} first pairs key all bad = record {
  before = first ++ bad.before;
  bad = bad.bad;
  behind = bad.behind;
  split = ap (λ ps. first ++ ps) bad.split ∙ sym (append_assoc first bad.before (bad.bad ∷ bad.behind));
  good = both first all;
  malformed = bad.malformed;
  at = bad.at;
}
  where
    both : (first : List Pair) → AllByRecursion Form first → AllByRecursion Form (first ++ bad.before)
    both [] all = bad.good
    both (pair ∷ first) all = (all.0, both first all.1)

-- ---- index by index

-- what was found for the index at a place
found_there : {X Y : Type 0} (f : X → List Y) (i : ℕ) (xs : List X) (x : X) → i < length xs → x ≡ get_or xs i x → get_or (map f xs) i [] ≡ f x
found_there f i [] x within is = absurd (omega (arith, within))
found_there f zero (y ∷ ys) x within is = ap f (sym is)
found_there f (suc i) (y ∷ ys) x within is = found_there f i ys x (omega (arith, within)) is

module _ (opened : Opened) (number : ℕ) (position : List ℕ) (old new : Option Record) (found : List (List Pair)) where
  -- what one index wants written, by a store
  abbrev wants : Store → IndexDefinition → List Mutation
  wants store index = one_index_writes opened number (asked_built opened number position store index) old new index

  pub followed_more : (i : ℕ) (index : IndexDefinition) (told : Bool) (pairs : List Pair) (before so_far after : List Mutation) → i < length opened.schema.indexes → index ≡ get_or opened.schema.indexes i index → pairs ≡ get_or found i [] →
      IsToldOf opened number position index pairs told → after ≡ so_far ++ one_index_writes opened number told old new index →
      HaveFollowed opened number position old new found (take i opened.schema.indexes) before so_far → HaveFollowed opened number position old new found (take (suc i) opened.schema.indexes) before after
  followed_more i index told pairs before so_far after within is at tells wrote followed = (
    followed.0 ++ written,
    wrote ∙ ap (λ ms. ms ++ written) followed.1 ∙ append_assoc before followed.0 written,
    λ m all.
        let here : pairs ≡ found_of opened number position m index = at ∙ ap (λ fs. get_or fs i []) all ∙ found_there (found_of opened number position m) i opened.schema.indexes index within is in
        let one = tells m here in
        let rest = followed.2 m all in (
          subst (AllByRecursion (IsWritten opened.prefix opened.schema)) (sym (flat_more (found_of opened number position m) i opened.schema.indexes index within is))
              (both (flat_map (found_of opened number position m) (take i opened.schema.indexes)) (found_of opened number position m index) rest.0 (subst (AllByRecursion (IsWritten opened.prefix opened.schema)) here one.0)),
          λ store holds same.
              (λ j. rest.1 store holds same j ++ one_index_writes opened number (one.1 store holds same j) old new index)
              ∙ sym (flat_more (wants store) i opened.schema.indexes index within is),
        ),
  )
    where
      written : List Mutation
      written = one_index_writes opened number told old new index

      both : (xs ys : List Pair) → AllByRecursion (IsWritten opened.prefix opened.schema) xs → AllByRecursion (IsWritten opened.prefix opened.schema) ys → AllByRecursion (IsWritten opened.prefix opened.schema) (xs ++ ys)
      both [] ys all more = more
      both (x ∷ xs) ys all more = (all.0, both xs ys all.1 more)

  -- one index didn't
  pub not_followed : (i : ℕ) (index : IndexDefinition) (pairs : List Pair) (before so_far : List Mutation) (error : StoreError) → i < length opened.schema.indexes → index ≡ get_or opened.schema.indexes i index → pairs ≡ get_or found i [] →
      IsUntoldOf opened number position index pairs error → HaveFollowed opened number position old new found (take i opened.schema.indexes) before so_far → HaveNotFollowed opened number position found error
  not_followed i index pairs before so_far Memory within is at none followed = tt
  not_followed i index pairs before so_far (Read error) within is at none followed = absurd none
  not_followed i index pairs before so_far (Write error) within is at none followed = absurd none
  not_followed i index pairs before so_far (Refused refusal) within is at none followed = absurd none
  not_followed i index pairs before so_far NoStore within is at none followed = absurd none
  not_followed i index pairs before so_far AlreadyThere within is at none followed = absurd none
  not_followed i index pairs before so_far OtherSchema within is at none followed = absurd none
  not_followed i index pairs before so_far NotAggregate within is at none followed = absurd none
  not_followed i index pairs before so_far NotReadable within is at none followed = absurd none
  not_followed i index pairs before so_far WrongState within is at none followed = absurd none
  not_followed i index pairs before so_far NotBuilt within is at none followed = absurd none
  not_followed i index pairs before so_far (Corrupt key) within is at none followed = λ m all.
      let here : pairs ≡ found_of opened number position m index = at ∙ ap (λ fs. get_or fs i []) all ∙ found_there (found_of opened number position m) i opened.schema.indexes index within is in
      let bad = none m here in (
        subst (λ ps. IsFirstBad (IsWritten opened.prefix opened.schema) ps key) (sym (flat_split (found_of opened number position m) i opened.schema.indexes index within is))
            (bad_behind (flat_map (found_of opened number position m) (take i opened.schema.indexes)) (found_of opened number position m index ++ flat_map (found_of opened number position m) (drop (suc i) opened.schema.indexes)) key (followed.2 m all).0
            (bad_more (found_of opened number position m index) (flat_map (found_of opened number position m) (drop (suc i) opened.schema.indexes)) key (subst (λ ps. IsFirstBad (IsWritten opened.prefix opened.schema) ps key) here bad.0))),
        bad.1,
      )

-- ---- what a store wants written

-- where nothing is asked for it doesn't matter what is built
unasked_writes : (state : State) (kind : IndexKind) (prefix : List ℕ) (index : IndexDefinition) (a b : Bool) (old new : Option Record) → index.kind ≡ kind → is_asked state kind ≡ false → kept_writes state prefix index a old new ≡ kept_writes state prefix index b old new
unasked_writes Readable kind prefix index a b old new same unasked = refl
unasked_writes Disabled kind prefix index a b old new same unasked = refl
unasked_writes WriteOnly Value prefix index a b old new same unasked =
    ap (λ k. part_changes_by k prefix index a old new) same ∙ sym (ap (λ k. part_changes_by k prefix index b old new) same)
unasked_writes WriteOnly Count prefix index a b old new same unasked = cc
unasked_writes WriteOnly Sum prefix index a b old new same unasked = cc

module _ (opened : Opened) (store : Store) (same : IsOpenAs opened store) (key : List Item) (number : ℕ) (old new : Option Record) where
  abbrev wanted : IndexDefinition → List Mutation
  wanted index = kept_writes (state_of store index.number) opened.prefix index (is_built store index.number key) old new

  one_wants : (index : IndexDefinition) → has_number store.schema.indexes index.number ≡ true →
      one_index_writes opened number (asked_built opened number (position_of key) store index) old new index ≡ cond (index.type_number == number) (wanted index) []
  one_wants index there = by_type (index.type_number == number) refl
    where
      same_state : state_in opened.states index.number ≡ state_of store index.number
      same_state = sym (state_told opened store index.number same there)

      by_asked : (b : Bool) → is_asked (state_in opened.states index.number) index.kind ≡ b →
          kept_writes (state_in opened.states index.number) opened.prefix index (cond (true && b) (is_built store index.number key) false) old new ≡ kept_writes (state_in opened.states index.number) opened.prefix index (is_built store index.number key) old new
      by_asked true asked = refl
      by_asked false unasked = unasked_writes (state_in opened.states index.number) index.kind opened.prefix index false (is_built store index.number key) old new refl unasked

      by_type : (b : Bool) → (index.type_number == number) ≡ b → one_index_writes opened number (asked_built opened number (position_of key) store index) old new index ≡ cond (index.type_number == number) (wanted index) []
      by_type true is =
          ap (λ b. cond b (kept_writes (state_in opened.states index.number) opened.prefix index (cond (b && is_asked (state_in opened.states index.number) index.kind) (is_built store index.number key) false) old new) []) is
          ∙ by_asked (is_asked (state_in opened.states index.number) index.kind) refl
          ∙ ap (λ s. kept_writes s opened.prefix index (is_built store index.number key) old new) same_state
          ∙ sym (ap (λ b. cond b (wanted index) []) is)
      by_type false is =
          ap (λ b. cond b (kept_writes (state_in opened.states index.number) opened.prefix index (asked_built opened number (position_of key) store index) old new) []) is
          ∙ sym (ap (λ b. cond b (wanted index) []) is)

  each_wants : (indexes : List IndexDefinition) → AllByRecursion (λ index. has_number store.schema.indexes index.number ≡ true) indexes →
      flat_map (λ index. one_index_writes opened number (asked_built opened number (position_of key) store index) old new index) indexes ≡ flat_map (λ index. cond (index.type_number == number) (wanted index) []) indexes
  each_wants [] there = refl
  each_wants (index ∷ indexes) there = λ i. one_wants index there.0 i ++ each_wants indexes there.1 i

  -- WRITES: what all indexes want written, by what was opened and told, is what the store wants written
  pub all_want : flat_map (λ index. one_index_writes opened number (asked_built opened number (position_of key) store index) old new index) opened.schema.indexes ≡ index_writes opened.prefix store number key old new
  all_want =
      each_wants opened.schema.indexes (subst (λ (s : Schema). AllByRecursion (λ (i : IndexDefinition). has_number store.schema.indexes i.number ≡ true) s.indexes) same.schema (all_there store.schema.indexes)) ∙ sym (flat_map-filter wanted (λ index. index.type_number == number) opened.schema.indexes)
      ∙ ap (λ (s : Schema). flat_map wanted (filter (λ index. index.type_number == number) s.indexes)) (sym same.schema)
