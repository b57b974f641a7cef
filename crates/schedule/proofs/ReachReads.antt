-- What a command asks for, and what it adds to the ranges read, lies in its reach.
use Rattle.std.proofs.Common.{◌≡◌, ◌≤◌, ◌⊎◌, inl, inr, ℕ, zero, suc, Bool, true, false, cond, ◌==◌, ◌&&◌, List, [], ◌∷◌, ◌++◌, Option, Some, None, Result, Ok, Err, refl, sym, ap, subst, ◌∙◌, arith, append_assoc, append-nil}
use Rattle.std.specs.Prelude.{Contains, is_some}
use Rattle.std.specs.FinMap.{get}
use Rattle.std.specs.List.{AllByRecursion}
use Rattle.std.proofs.lemmas.Bool.{eqb-true}
use Rattle.std.proofs.lemmas.List.Elements.{All-contains_itself, recursion_from_All}
use Rattle.std.proofs.lemmas.List.Folds.{list_any-append}
use Rattle.tuple_codec.specs.Item.{Item, bytes}
use Rattle.tuple_codec.specs.Spelling.{spelling}
use Rattle.kv_core.specs.Map.{Map}
use Rattle.kv_core.specs.Range.{KeyRange, contains, covers, point}
use Rattle.kv_core.specs.Read.{range_read, read_of}
use Rattle.kv_core.proofs.Pairs.{inside_read}
use Rattle.cluster_core.proofs.Ownership.{point_key}
use Rattle.metadata.specs.declared.index.IndexDefinition.{IndexDefinition}
use Rattle.metadata.specs.declared.index.IndexKind.{IndexKind}
use Rattle.metadata.specs.declared.index.State as index_state
use Rattle.metadata.specs.declared.index.State.TheVariants as state
use Rattle.metadata.specs.Layout.{record_key, records_prefix}
use Rattle.metadata.specs.Record.{Record, key_of, primary_key, record_of}
use Rattle.metadata.specs.IndexChange.{new_index}
use Rattle.metadata.specs.Schema.{find_index}
use Rattle.metadata.specs.Change.{add_field, add_type}
use Rattle.index_maint.specs.Built.{position_of}
use Rattle.index_maint.specs.Layout.{built_place}
use Rattle.index_maint.specs.Totals.{group_key}
use Rattle.range_set.specs.Stored.{upto_range}
use Rattle.range_set.specs.Told.{gap_in}
use Rattle.record_store.specs.declared.error.StoreError.{StoreError}
use Rattle.record_store.specs.Building.{positions_range}
use Rattle.record_store.specs.BuiltReading.{added_of, asked_ranges, asks, built_reading, is_asked, type_number_in}
use Rattle.record_store.specs.Call.{Footprint, Reading, all_built, first_of, then_reads, where_there, whole}
use Rattle.record_store.specs.Calls.{drop_footprint, index_footprint, load_footprint, mark_footprint, readable_footprint, remove_footprint, save_footprint, total_footprint, type_footprint}
use Rattle.record_store.specs.Layout.{built_range, store_prefix, type_range}
use Rattle.record_store.specs.Meaning.{by_schema, index_number, totalled_index, unless, total_refusal, write_only_named}
use Rattle.record_store.specs.Store.{Serial, Store, state_in, state_of}
use Rattle.record_store.proofs.Held.{under}
use Rattle.record_store.proofs.Listed.{state_told_there}
use Rattle.online_builder.specs.Stepping.{reading_behind, step_footprint, step_reading}
use Rattle.schedule.specs.declared.step.Command.{Command}
use Rattle.schedule.specs.declared.step.Command.TheVariants as commands
use Rattle.schedule.specs.declared.step.Command.TheVariants.{Create, «Type», Save, Load, Remove, Query, Plan, Execute, Index, Drop, Disable, WriteOnly, Readable, Build, State, Aggregate}
use Rattle.schedule.specs.Query.{opened_as}
use Rattle.schedule.specs.Keys.{IsOfBuilt, IsOfIndexes, IsOfRecords, IsOfType, MayReadIn, MayReadKey, MayReadThere, MayReadWriting}
use Rattle.schedule.specs.Reach.{added_by, footprint_in, footprint_on, open_reach, opened_in, own_reading, reach}
use Rattle.schedule.proofs.ReachWrites.{by_schema_ok, write_only_there}
use Rattle.schedule.proofs.Written.{each_append, each_flat, or_cases}
use Rattle.schedule.proofs.PlanReach.{executed_such, queried_such}

-- ---- ranges of such keys

abbrev pub RangeOf : (List ℕ → Type 0) → KeyRange → Type 0
RangeOf May range = (key : List ℕ) → contains range key ≡ true → May key

abbrev pub RangesOf : (List ℕ → Type 0) → List KeyRange → Type 0
RangesOf May ranges = AllByRecursion (RangeOf May) ranges

pub covered_such : (May : List ℕ → Type 0) (ranges : List KeyRange) → RangesOf May ranges → (key : List ℕ) → covers ranges key ≡ true → May key
covered_such May [] all key is = absurd (cc)
covered_such May (range ∷ ranges) all key is = elim (or_cases (contains range key) (covers ranges key) is) [
  | inl here ↦ all.0 key here
  | inr later ↦ covered_such May ranges all.1 key later
]

-- what is read, asked for and added, is of such keys, whatever the map
abbrev pub ReadsOnly : (List ℕ → Type 0) → Reading → Type 0
ReadsOnly May reading = (m : Map) → RangesOf May (reading.asked m) × RangesOf May (reading.added m)

nothing_read : (May : List ℕ → Type 0) → ReadsOnly May (whole [])
nothing_read May m = (tt, tt)

point_such : (May : List ℕ → Type 0) (key : List ℕ) → May key → RangeOf May (point key)
point_such May key may k inside = subst May (point_key key k inside) may

whole_point : (May : List ℕ → Type 0) (key : List ℕ) → May key → ReadsOnly May (whole (point key ∷ []))
whole_point May key may m = ((point_such May key may, tt), (point_such May key may, tt))

reads_wider : (May Wide : List ℕ → Type 0) → ((key : List ℕ) → May key → Wide key) → (reading : Reading) → ReadsOnly May reading → ReadsOnly Wide reading
reads_wider May Wide so reading only m = (each (reading.asked m) (only m).0, each (reading.added m) (only m).1)
  where
    each : (ranges : List KeyRange) → RangesOf May ranges → RangesOf Wide ranges
    each [] all = tt
    each (range ∷ ranges) all = (λ key inside. so key (all.0 key inside), each ranges all.1)

-- a part of a range, read up to a limit
part_such : (May : List ℕ → Type 0) (m : Map) (range : KeyRange) (limit : ℕ) (b : Bool) → 1 ≤ limit → RangeOf May range → RangeOf May (range_read range limit b (read_of m range limit b))
part_such May m range limit b some of key inside = of key (inside_read m range limit b some key inside)

-- the ranges of places
type_such : (prefix : List ℕ) (number : ℕ) → RangeOf (IsOfRecords prefix number) (type_range prefix number)
type_such prefix number key inside =
    let q = records_prefix prefix number in
    under q [] (255 ∷ []) key (ap (λ b. contains (record { begin = b; end = q ++ 255 ∷ [] }) key) (append-nil q) ∙ inside)

built_such : (prefix : List ℕ) (number : ℕ) → RangeOf (IsOfBuilt prefix number) (built_range prefix number)
built_such prefix number key inside = under (built_place prefix number) (0 ∷ []) (255 ∷ []) key inside

upto_such : (prefix : List ℕ) (number : ℕ) (position : List ℕ) → RangeOf (IsOfBuilt prefix number) (upto_range (built_place prefix number) position)
upto_such prefix number position key inside =
    let place = built_place prefix number in
    let s = spelling (bytes position ∷ []) in
    under place (0 ∷ []) (s ++ 0 ∷ []) key (ap (λ e. contains (record { begin = place ++ 0 ∷ []; end = e }) key) (sym (append_assoc place s (0 ∷ []))) ∙ inside)

-- ---- what a writer reads of built ranges

-- an index that is asked for is write-only, and over the type
asked_so : (prefix : List ℕ) (store : Store) (number : ℕ) (index : IndexDefinition) → Contains store.schema.indexes index → asks (opened_as prefix store) number index ≡ true → IsOfType number index × (state_of store index.number ≡ state.WriteOnly)
asked_so prefix store number index there is = by_number (index.type_number == number) refl is
  where
    by_state : (now : index_state.State) (kind : IndexKind) → is_asked now kind ≡ true → now ≡ state.WriteOnly
    by_state state.Readable kind said = absurd (cc)
    by_state state.Disabled kind said = absurd (cc)
    by_state state.WriteOnly kind said = refl

    by_number : (b : Bool) → (index.type_number == number) ≡ b → (b && is_asked (state_in (opened_as prefix store).states index.number) index.kind) ≡ true → IsOfType number index × (state_of store index.number ≡ state.WriteOnly)
    by_number true same said = (eqb-true index.type_number number same, state_told_there (opened_as prefix store) store index (record { schema = refl; states = refl }) there ∙ by_state (state_in (opened_as prefix store).states index.number) index.kind said)
    by_number false same said = absurd (cc)

module _ (prefix : List ℕ) (store : Store) (number : ℕ) (position : List ℕ) where
  abbrev OfBuilt : List ℕ → Type 0
  OfBuilt key = IsOfIndexes store (IsOfType number) (λ s. s ≡ state.WriteOnly) (IsOfBuilt prefix) key

  abbrev own : IndexDefinition → KeyRange
  own index = upto_range (built_place prefix index.number) position

  own_such : (index : IndexDefinition) → Contains store.schema.indexes index → asks (opened_as prefix store) number index ≡ true → RangeOf OfBuilt (own index)
  own_such index there is key inside =
      let (over, now) = asked_so prefix store number index there is in record { index = index; there = there; such = over; state = now; of = upto_such prefix index.number position key inside }

  asked_each : (index : IndexDefinition) → Contains store.schema.indexes index → RangesOf OfBuilt (asked_ranges (opened_as prefix store) number position index)
  asked_each index there = by_test (asks (opened_as prefix store) number index) refl
    where
      by_test : (b : Bool) → asks (opened_as prefix store) number index ≡ b → RangesOf OfBuilt (cond b (own index ∷ []) [])
      by_test true is = (own_such index there is, tt)
      by_test false is = tt

  added_each : (m : Map) (index : IndexDefinition) → Contains store.schema.indexes index → RangesOf OfBuilt (added_of (opened_as prefix store) number position m index)
  added_each m index there = by_test (asks (opened_as prefix store) number index) refl
    where
      by_test : (b : Bool) → asks (opened_as prefix store) number index ≡ b → RangesOf OfBuilt (cond b (range_read (own index) 1 true (read_of m (own index) 1 true) ∷ []) [])
      by_test true is = (part_such OfBuilt m (own index) 1 true (omega arith) (own_such index there is), tt)
      by_test false is = tt

  built_read : ReadsOnly OfBuilt (built_reading (opened_as prefix store) number position store.schema.indexes)
  built_read m =
      let there = recursion_from_All (Contains store.schema.indexes) store.schema.indexes (All-contains_itself store.schema.indexes) in (
        each_flat (RangeOf OfBuilt) (Contains store.schema.indexes) (asked_ranges (opened_as prefix store) number position) store.schema.indexes asked_each there,
        each_flat (RangeOf OfBuilt) (Contains store.schema.indexes) (added_of (opened_as prefix store) number position m) store.schema.indexes (added_each m) there,
      )

-- ---- one reading and another

both_read : (May : List ℕ → Type 0) (one other : Reading) → ReadsOnly May one → ReadsOnly May other → ReadsOnly May (then_reads one other)
both_read May one other first second m = (
  each_append (RangeOf May) (one.asked m) (other.asked m) (first m).0 (second m).0,
  each_append (RangeOf May) (one.added m) (other.added m) (first m).1 (second m).1,
)

there_read : (May : List ℕ → Type 0) (key : List ℕ) (reading : Reading) → ReadsOnly May reading → ReadsOnly May (where_there key reading)
there_read May key reading only m = (by_test (is_some (get m key)) (reading.asked m) (only m).0, by_test (is_some (get m key)) (reading.added m) (only m).1)
  where
    by_test : (b : Bool) (ranges : List KeyRange) → RangesOf May ranges → RangesOf May (cond b ranges [])
    by_test true ranges of = of
    by_test false ranges of = tt

saved_read : (prefix : List ℕ) (store : Store) (r : Record) → ReadsOnly (MayReadWriting prefix store (primary_key r))
    (then_reads (whole (point (record_key prefix (primary_key r)) ∷ [])) (built_reading (opened_as prefix store) r.definition.number (position_of (primary_key r)) store.schema.indexes))
saved_read prefix store r =
    let built = built_reading (opened_as prefix store) r.definition.number (position_of (primary_key r)) store.schema.indexes in
    both_read (MayReadWriting prefix store (primary_key r)) (whole (point (record_key prefix (primary_key r)) ∷ [])) built
    (whole_point (MayReadWriting prefix store (primary_key r)) (record_key prefix (primary_key r)) (inl refl))
    (reads_wider (IsOfIndexes store (IsOfType r.definition.number) (λ s. s ≡ state.WriteOnly) (IsOfBuilt prefix)) (MayReadWriting prefix store (primary_key r)) (λ key of. inr of) built (built_read prefix store r.definition.number (position_of (primary_key r))))

removed_read : (prefix : List ℕ) (store : Store) (k : List Item) → ReadsOnly (MayReadWriting prefix store k)
    (then_reads (whole (point (record_key prefix k) ∷ [])) (where_there (record_key prefix k) (built_reading (opened_as prefix store) (type_number_in k) (position_of k) store.schema.indexes)))
removed_read prefix store k =
    let built = built_reading (opened_as prefix store) (type_number_in k) (position_of k) store.schema.indexes in
    both_read (MayReadWriting prefix store k) (whole (point (record_key prefix k) ∷ [])) (where_there (record_key prefix k) built)
    (whole_point (MayReadWriting prefix store k) (record_key prefix k) (inl refl))
    (there_read (MayReadWriting prefix store k) (record_key prefix k) built
    (reads_wider (IsOfIndexes store (IsOfType (type_number_in k)) (λ s. s ≡ state.WriteOnly) (IsOfBuilt prefix)) (MayReadWriting prefix store k) (λ key of. inr of) built (built_read prefix store (type_number_in k) (position_of k))))

first_read : (prefix : List ℕ) (number : ℕ) → ReadsOnly (IsOfRecords prefix number) (first_of (type_range prefix number))
first_read prefix number m = (
  (type_such prefix number, tt),
  (part_such (IsOfRecords prefix number) m (type_range prefix number) 1 false (omega arith) (type_such prefix number), tt),
)

all_read : (prefix : List ℕ) (number : ℕ) → ReadsOnly (IsOfBuilt prefix number) (all_built prefix number)
all_read prefix number m = ((built_such prefix number, tt), (built_such prefix number, tt))

-- ---- a step of a builder

abbrev OfStep : (prefix : List ℕ) → IndexDefinition → List ℕ → Type 0
OfStep prefix index key = IsOfBuilt prefix index.number key ⊎ IsOfRecords prefix index.type_number key

positions_such : (prefix : List ℕ) (index : IndexDefinition) (gap : KeyRange) → RangeOf (OfStep prefix index) (positions_range prefix index.type_number gap)
positions_such prefix index gap key inside = inr (under (records_prefix prefix index.type_number) gap.begin gap.end key inside)

behind_read : (prefix : List ℕ) (store : Store) (limit : ℕ) (index : IndexDefinition) (gap : Option KeyRange) → 1 ≤ limit → ReadsOnly (OfStep prefix index) (reading_behind (opened_as prefix store) limit index gap)
behind_read prefix store limit index None some m = (tt, tt)
behind_read prefix store limit index (Some gap) some m = (
  (positions_such prefix index gap, tt),
  (part_such (OfStep prefix index) m (positions_range prefix index.type_number gap) limit false some (positions_such prefix index gap), tt),
)

stepped_read : (prefix : List ℕ) (store : Store) (limit : ℕ) (index : IndexDefinition) → 1 ≤ limit → ReadsOnly (OfStep prefix index) (step_reading (opened_as prefix store) limit index)
stepped_read prefix store limit index some m =
    let gap = gap_in (built_place prefix index.number) m in
    let behind = behind_read prefix store limit index gap some m in
    let all : RangeOf (OfStep prefix index) (built_range prefix index.number) = λ key inside. inl (built_such prefix index.number key inside) in
    ((all, behind.0), (all, behind.1))

-- ---- by the command

asked_read : {K : Type 0} (May : List ℕ → Type 0) (footprint : K → Footprint) (asked : Result K StoreError) → ((value : K) → asked ≡ Ok value → ReadsOnly May (footprint value).reading) → ReadsOnly May (footprint_on footprint asked).reading
asked_read May footprint (Ok value) so = so value refl
asked_read May footprint (Err error) so = nothing_read May

total_there : (prefix : List ℕ) (store : Store) (group : List Rattle.metadata.specs.declared.cells.Cell.Cell) (found : Option IndexDefinition) (index : IndexDefinition) → totalled_index store.schema (opened_as prefix store).states group found ≡ Ok index → found ≡ Some index
total_there prefix store group None index is = absurd (cc)
total_there prefix store group (Some own) index is = by_refusal (total_refusal own.kind (Rattle.metadata.specs.Group.fits_group store.schema own group) (state_in (opened_as prefix store).states own.number)) is
  where
    by_refusal : (why : Option StoreError) → unless why own ≡ Ok index → Some own ≡ Some index
    by_refusal None said = let same : own ≡ index = cc in ap Some same
    by_refusal (Some refusal) said = absurd (cc)

store_read : (prefix : List ℕ) (store : Store) (command : Command) → ReadsOnly (MayReadIn prefix store command) (footprint_in (opened_as prefix store) command).reading
store_read prefix store (Create request) = nothing_read (MayReadIn prefix store (Create request))
store_read prefix store («Type» request) = asked_read (MayReadIn prefix store («Type» request)) (type_footprint (opened_as prefix store)) (by_schema (add_type store.schema request)) (λ schema is. nothing_read (MayReadIn prefix store («Type» request)))
store_read prefix store (commands.Field name field) =
    asked_read (MayReadIn prefix store (commands.Field name field)) (type_footprint (opened_as prefix store)) (by_schema (add_field store.schema name field)) (λ schema is. nothing_read (MayReadIn prefix store (commands.Field name field)))
store_read prefix store (Save type cells) =
    asked_read (MayReadIn prefix store (Save type cells)) (save_footprint (opened_as prefix store)) (by_schema (record_of store.schema type cells))
    (λ r is. reads_wider (MayReadWriting prefix store (primary_key r)) (MayReadIn prefix store (Save type cells)) (λ key may. (r, by_schema_ok (record_of store.schema type cells) r is, may)) (save_footprint (opened_as prefix store) r).reading (saved_read prefix store r))
store_read prefix store (Load type cells) =
    asked_read (MayReadIn prefix store (Load type cells)) (load_footprint (opened_as prefix store)) (by_schema (key_of store.schema type cells))
    (λ k is. whole_point (MayReadIn prefix store (Load type cells)) (record_key prefix k) (k, by_schema_ok (key_of store.schema type cells) k is, refl))
store_read prefix store (Remove type cells) =
    asked_read (MayReadIn prefix store (Remove type cells)) (remove_footprint (opened_as prefix store)) (by_schema (key_of store.schema type cells))
    (λ k is. reads_wider (MayReadWriting prefix store k) (MayReadIn prefix store (Remove type cells)) (λ key may. (k, by_schema_ok (key_of store.schema type cells) k is, may)) (remove_footprint (opened_as prefix store) k).reading (removed_read prefix store k))
store_read prefix store (Query query) = queried_such prefix store query
store_read prefix store (Plan query) = nothing_read (MayReadIn prefix store (Plan query))
store_read prefix store (Execute plan) = executed_such prefix store plan
store_read prefix store (Index request) =
    asked_read (MayReadIn prefix store (Index request)) (index_footprint (opened_as prefix store)) (by_schema (new_index store.schema request))
    (λ index is. reads_wider (IsOfRecords prefix index.type_number) (MayReadIn prefix store (Index request)) (λ key of. (index, by_schema_ok (new_index store.schema request) index is, of)) (index_footprint (opened_as prefix store) index).reading (first_read prefix index.type_number))
store_read prefix store (Drop name) = asked_read (MayReadIn prefix store (Drop name)) (drop_footprint (opened_as prefix store)) (by_schema (index_number (find_index store.schema name))) (λ number is. nothing_read (MayReadIn prefix store (Drop name)))
store_read prefix store (Disable name) = asked_read (MayReadIn prefix store (Disable name)) (mark_footprint state.Disabled (opened_as prefix store)) (by_schema (index_number (find_index store.schema name))) (λ number is. nothing_read (MayReadIn prefix store (Disable name)))
store_read prefix store (WriteOnly name) = asked_read (MayReadIn prefix store (WriteOnly name)) (mark_footprint state.WriteOnly (opened_as prefix store)) (by_schema (index_number (find_index store.schema name))) (λ number is. nothing_read (MayReadIn prefix store (WriteOnly name)))
store_read prefix store (Readable name) =
    asked_read (MayReadIn prefix store (Readable name)) (λ (index : IndexDefinition). readable_footprint (opened_as prefix store) index.number) (write_only_named store.schema (opened_as prefix store).states name)
    (λ index is. reads_wider (IsOfBuilt prefix index.number) (MayReadIn prefix store (Readable name)) (λ key of. (index, write_only_there (opened_as prefix store).states (find_index store.schema name) index is, of)) (readable_footprint (opened_as prefix store) index.number).reading (all_read prefix index.number))
store_read prefix store (Build name zero) = nothing_read (MayReadIn prefix store (Build name zero))
store_read prefix store (Build name (suc more)) =
    asked_read (MayReadIn prefix store (Build name (suc more))) (step_footprint (opened_as prefix store) (suc more)) (write_only_named store.schema (opened_as prefix store).states name)
    (λ index is. reads_wider (OfStep prefix index) (MayReadIn prefix store (Build name (suc more))) (λ key of. (index, write_only_there (opened_as prefix store).states (find_index store.schema name) index is, of)) (step_footprint (opened_as prefix store) (suc more) index).reading (stepped_read prefix store (suc more) index (omega arith)))
store_read prefix store (State name) = nothing_read (MayReadIn prefix store (State name))
store_read prefix store (Aggregate name group) =
    asked_read (MayReadIn prefix store (Aggregate name group)) (total_footprint (opened_as prefix store) group) (totalled_index store.schema (opened_as prefix store).states group (find_index store.schema name))
    (λ index is. whole_point (MayReadIn prefix store (Aggregate name group)) (group_key prefix index.number group) (index, total_there prefix store group (find_index store.schema name) index is, refl))

own_read : (number : ℕ) (serial : Serial) (command : Command) → ReadsOnly (MayReadThere number serial command) (own_reading (opened_in number serial) command)
own_read number None command = nothing_read (MayReadThere number None command)
own_read number (Some store) command = store_read (store_prefix number) store command

-- READ: what a command asks for of a map, and what it adds to the ranges read, are keys that it may read
either_read : (number : ℕ) (serial : Serial) (command : Command) (own : List KeyRange) → RangesOf (MayReadThere number serial command) own → (key : List ℕ) → covers (open_reach number command ++ own) key ≡ true → MayReadKey number serial command key
either_read number serial command own of key is = elim (or_cases (covers (open_reach number command) key) (covers own key) (sym (list_any-append (λ range. contains range key) (open_reach number command) own) ∙ is)) [
  | inl opens ↦ inl opens
  | inr there ↦ inr (covered_such (MayReadThere number serial command) own of key there)
]

pub reach_reads : (number : ℕ) (serial : Serial) (command : Command) (m : Map) (key : List ℕ) → covers (reach number (opened_in number serial) command m) key ≡ true → MayReadKey number serial command key
reach_reads number serial command m key is = either_read number serial command ((own_reading (opened_in number serial) command).asked m) (own_read number serial command m).0 key is

pub reach_added : (number : ℕ) (serial : Serial) (command : Command) (m : Map) (key : List ℕ) → covers (added_by number (opened_in number serial) command m) key ≡ true → MayReadKey number serial command key
reach_added number serial command m key is = either_read number serial command ((own_reading (opened_in number serial) command).added m) (own_read number serial command m).1 key is
