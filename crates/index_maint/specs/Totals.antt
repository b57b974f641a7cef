-- The totals of a COUNT or SUM index: what records define, what a map has of it, and what is written where a record
-- gives way to another.
use Rattle.std.specs.Prelude.{◌≡◌, ◌+◌, ◌-◌, ◌%◌, ◌^◌, ◌==◌, ℕ, ℤ, Bool, List, [], ◌∷◌, ◌++◌, length, filter, All}
use Rattle.std.specs.Prelude.{Option, Some, None, false, true, if◌then◌else◌}
use Rattle.std.specs.List.{sum_by}
use Rattle.std.specs.Int.{cast_signed, cast_unsigned, w64}
use Rattle.std.specs.FinMap.{get}
use Rattle.std.specs.Option.{option_map}
use Rattle.std.specs.Ordering.{is_eq}
use Rattle.tuple_codec.specs.Order.{tuple_cmp}
use Rattle.tuple_codec.specs.Spelling.{spelling}
use Rattle.tuple_codec.specs.Subspace.{subspace_key}
use Rattle.kv_core.specs.Addition.{bytes_of}
use Rattle.kv_core.specs.Map.{Map}
use Rattle.kv_core.specs.declared.change.Mutation.{Mutation}
use Rattle.kv_core.specs.declared.change.Mutation.TheVariants.{Add, CompareAndClear}
use Rattle.metadata.specs.declared.cells.Cell.{Cell}
use Rattle.metadata.specs.declared.cells.Cell.TheVariants.{Null, Int, Text, Bytes}
use Rattle.metadata.specs.declared.index.IndexDefinition.{IndexDefinition}
use Rattle.metadata.specs.Cell.{IsCell, cell_at, cells_at, items_of}
use Rattle.metadata.specs.Record.{Record}
use Rattle.metadata.specs.Records.{of_type}
use Rattle.index_maint.specs.Layout.{entries_prefix}

-- ---- what records define

-- the group of a record: its cells at the index's columns
abbrev pub group_of : IndexDefinition → Record → List Cell
group_of index r = cells_at r.cells index.columns

-- two groups have the same cells
abbrev pub same_group : List Cell → List Cell → Bool
same_group a b = is_eq (tuple_cmp (items_of a) (items_of b))

-- what a cell counts in a sum: a whole number modulo 2 ^ 64, and nothing where it is null
abbrev pub amount_of : Cell → ℕ
amount_of Null = 0
amount_of (Int value) = cast_unsigned w64 value
amount_of (Text value) = 0
amount_of (Bytes value) = 0

-- what a record counts in its group's total
abbrev pub Share : Type 0
Share = IndexDefinition → Record → ℕ

-- COUNT: 1
abbrev pub count_share : Share
count_share index r = 1

-- SUM: its summed field
abbrev pub summed_share : Option ℕ → Record → ℕ
summed_share None r = 0
summed_share (Some place) r = amount_of (cell_at r.cells place)

abbrev pub sum_share : Share
sum_share index r = summed_share index.summed r

-- the records of the index's type that are in a group
abbrev pub in_group : IndexDefinition → List Cell → List Record → List Record
in_group index group records = filter (λ r. same_group group (group_of index r)) (of_type index.type_number records)

-- the total of a group: what each of its records counts, modulo 2 ^ 64
abbrev pub total : Share → IndexDefinition → List Cell → List Record → ℕ
total share index group records = sum_by (share index) (in_group index group records) % 2 ^ 64

-- whether a total of an index is cleared where it comes back to 0
abbrev pub Clearing : Type 0
Clearing = IndexDefinition → Bool

-- COUNT: where its definition says so
abbrev pub count_clears : Clearing
count_clears index = index.clear_when_zero

-- SUM: never
abbrev pub sum_clears : Clearing
sum_clears index = false

-- a total is read as signed
abbrev pub as_signed : ℕ → ℤ
as_signed n = cast_signed w64 n

-- ---- what a map has of it

-- the key of a group's total
abbrev pub group_key : List ℕ → ℕ → List Cell → List ℕ
group_key prefix number group = subspace_key (entries_prefix prefix number) (items_of group)

-- a total is stored in 8 bytes, the least significant one first; where none is stored it is 0
abbrev pub IsTotal : Option (List ℕ) → ℕ → Type 0
IsTotal None n = n ≡ 0
IsTotal (Some value) n = value ≡ bytes_of 8 n

-- cells that may be a group: one for each column
pub record IsGroup (index : IndexDefinition) (group : List Cell) : Type 0 where
  pub cells : All IsCell group
  pub columns : length group ≡ length index.columns

-- under the index's prefix a map has the total of each group, and nothing but totals of groups; where they are cleared
-- at 0, it has none of a group without records
pub record HasTotals (share : Share) (clears : Clearing) (prefix : List ℕ) (index : IndexDefinition)
    (records : List Record) (m : Map) : Type 0 where
  pub totals :
      (group : List Cell) → All IsCell group →
      IsTotal (get m (group_key prefix index.number group)) (total share index group records)
  pub groups :
      (bytes : List ℕ) →
      ((group : List Cell) → IsGroup index group → bytes ≡ spelling (items_of group) → ⊥) →
      get m (entries_prefix prefix index.number ++ bytes) ≡ None
  pub cleared :
      clears index ≡ true → (group : List Cell) → All IsCell group → in_group index group records ≡ [] →
      get m (group_key prefix index.number group) ≡ None

abbrev pub HasCounts : List ℕ → IndexDefinition → List Record → Map → Type 0
HasCounts prefix index records m = HasTotals count_share count_clears prefix index records m

abbrev pub HasSums : List ℕ → IndexDefinition → List Record → Map → Type 0
HasSums prefix index records m = HasTotals sum_share sum_clears prefix index records m

-- ---- what is written

-- what a record counts, and in which group
pub record Part : Type 0 where
  pub group : List Cell
  pub amount : ℕ

abbrev pub part_of : Share → IndexDefinition → Record → Part
part_of share index r = record { group = group_of index r; amount = share index r }

-- what is to be added modulo 2 ^ 64 where one amount gives way to another
abbrev pub difference : ℕ → ℕ → ℕ
difference old new = (new + (2 ^ 64 - old % 2 ^ 64)) % 2 ^ 64

-- an amount is added to a group's total by an ADD of 8 bytes; nothing is written where it is 0
abbrev pub add_amount : List ℕ → ℕ → List Cell → ℕ → List Mutation
add_amount prefix number group amount =
    if amount == 0 then [] else (Add (group_key prefix number group) (bytes_of 8 amount) ∷ [])

-- a group's total is taken out where it is the 8 bytes of 0
abbrev pub clear_zero : List ℕ → ℕ → List Cell → List Mutation
clear_zero prefix number group = CompareAndClear (group_key prefix number group) (bytes_of 8 0) ∷ []

-- what takes an amount from a group's total, and clears it where it is to be cleared at 0
abbrev pub take_amount : Bool → List ℕ → ℕ → List Cell → ℕ → List Mutation
take_amount clears prefix number group amount =
    add_amount prefix number group (difference amount 0) ++ (if clears then clear_zero prefix number group else [])

-- what is written where one part of a total gives way to another: of one group the difference, else for the old group
-- and then for the new one
abbrev pub part_changes : Bool → List ℕ → ℕ → Option Part → Option Part → List Mutation
part_changes clears prefix number None None = []
part_changes clears prefix number None (Some new) = add_amount prefix number new.group (difference 0 new.amount)
part_changes clears prefix number (Some old) None = take_amount clears prefix number old.group old.amount
part_changes clears prefix number (Some old) (Some new) =
    if same_group old.group new.group
    then add_amount prefix number new.group (difference old.amount new.amount)
    else (take_amount clears prefix number old.group old.amount
    ++ add_amount prefix number new.group (difference 0 new.amount))

-- what is written where one record of the index's type gives way to another
abbrev pub total_changes : Share → Clearing → List ℕ → IndexDefinition → Option Record → Option Record → List Mutation
total_changes share clears prefix index old new =
    part_changes (clears index) prefix index.number (option_map (part_of share index) old)
    (option_map (part_of share index) new)

abbrev pub count_changes : List ℕ → IndexDefinition → Option Record → Option Record → List Mutation
count_changes prefix index old new = total_changes count_share count_clears prefix index old new

abbrev pub sum_changes : List ℕ → IndexDefinition → Option Record → Option Record → List Mutation
sum_changes prefix index old new = total_changes sum_share sum_clears prefix index old new
