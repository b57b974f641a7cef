-- Private: what the readers of an entry's tuple give. They pass over what the entry's own bytes tell.
use Rattle.std.specs.Prelude.{ℕ, ◌^◌, ◌==◌, nat_lt, if◌then◌else◌, pos, Bool, List, Option, Some, None, slice_get}
use Rattle.std.specs.Option.{option_map, option_and_then}
use Rattle.tuple_codec.specs.Item.{Item, int, text, null}
use Rattle.metadata.specs.declared.cells.Cell.{Cell}
use Rattle.metadata.specs.declared.definition.Field.{Field}
use Rattle.metadata.specs.declared.definition.TypeRequest.{TypeRequest}
use Rattle.metadata.specs.declared.index.IndexRequest.{IndexRequest}
use Rattle.metadata.specs.Cell.{cell_of}
use Rattle.metadata.specs.Reading.{all_read, field_of, index_kind_of, item_number, read_at, small_of, text_of}
use Rattle.metadata.specs.Reading.{truth_of, tuple_of}
use Rattle.command_log.specs.declared.change.Change.{Change}
use Rattle.command_log.specs.declared.change.Change.TheVariants.{Create, «Type», Field as AddsField, Index, Save}
use Rattle.command_log.specs.declared.change.Change.TheVariants.{Remove, Drop, Disable, WriteOnly, Readable, Build}
use Rattle.command_log.specs.declared.entry.Entry.{Entry}

-- what the items of the tuple at a place are, if each is one
abbrev pub all_at : {X : Type 0} → (Item → Option X) → List Item → ℕ → Option (List X)
all_at read parts place = option_and_then (all_read read) (read_at tuple_of parts place)

-- what the tuple that an item is tells
abbrev pub of_tuple : {X : Type 0} → (List Item → Option X) → Item → Option X
of_tuple read one = option_and_then read (tuple_of one)

-- the type that a tuple asks for
abbrev pub asked_type_in : List Item → Option TypeRequest
asked_type_in parts =
    option_and_then (λ name.
    option_and_then (λ fields.
    option_map (λ key. record { name = name; fields = fields; key = key }) (all_at text_of parts 2))
    (all_at field_of parts 1)) (read_at text_of parts 0)

-- the name of a summed field, or that there is none, which an item is
abbrev pub summed_name_of : Item → Option (Option (List ℕ))
summed_name_of null = Some None
summed_name_of other = option_map (λ name. Some name) (text_of other)

-- the index of these names and this kind that a tuple asks for
abbrev pub asked_index_rest : List Item → List ℕ → List ℕ → List (List ℕ) → Option IndexRequest
asked_index_rest parts name type_name columns =
    option_and_then (λ kind. option_and_then (λ summed. option_map (λ clear_when_zero.
    record {
      name = name;
      kind = kind;
      type_name = type_name;
      columns = columns;
      summed = summed;
      clear_when_zero = clear_when_zero;
    })
    (read_at truth_of parts 5)) (read_at summed_name_of parts 4))
    (option_and_then index_kind_of (read_at small_of parts 1))

-- the index that a tuple asks for
abbrev pub asked_index_in : List Item → Option IndexRequest
asked_index_in parts =
    option_and_then (λ name.
    option_and_then (λ type_name. option_and_then (asked_index_rest parts name type_name) (all_at text_of parts 3))
    (read_at text_of parts 2)) (read_at text_of parts 0)

-- the number of 32 bits that an item is
abbrev pub limit_of : Item → Option ℕ
limit_of (int (pos n)) = if nat_lt n (2 ^ 32) then Some n else None
limit_of other = None

-- the change of this number that is one of a name and cells, and one of a name alone
abbrev pub cells_change : ℕ → List ℕ → List Cell → Change
cells_change number name cells = if number == 5 then Save name cells else Remove name cells

abbrev pub name_change : ℕ → List ℕ → Option Change
name_change number name =
    if number == 7 then Some (Drop name) else if number == 8 then Some (Disable name)
    else if number == 9 then Some (WriteOnly name) else if number == 10 then Some (Readable name) else None

-- the change of each number that a tuple is
abbrev pub create_in : List Item → Option Change
create_in parts =
    option_and_then (λ types.
    option_map (λ indexes. Create (record { types = types; indexes = indexes }))
    (all_at (of_tuple asked_index_in) parts 2))
    (all_at (of_tuple asked_type_in) parts 1)

abbrev pub field_change_in : List Item → Option Change
field_change_in parts =
    option_and_then (λ name. option_map (AddsField name) (read_at field_of parts 2)) (read_at text_of parts 1)

abbrev pub cells_change_in : ℕ → List Item → Option Change
cells_change_in number parts =
    option_and_then (λ name. option_map (cells_change number name) (all_at cell_of parts 2))
    (read_at text_of parts 1)

abbrev pub build_in : List Item → Option Change
build_in parts =
    option_and_then (λ name. option_map (Build name) (read_at limit_of parts 2)) (read_at text_of parts 1)

abbrev pub change_by : ℕ → List Item → Option Change
change_by number parts =
    if number == 1 then create_in parts
    else if number == 2 then option_map «Type» (read_at (of_tuple asked_type_in) parts 1)
    else if number == 3 then field_change_in parts
    else if number == 4 then option_map Index (read_at (of_tuple asked_index_in) parts 1)
    else if number == 5 then cells_change_in number parts
    else if number == 6 then cells_change_in number parts
    else if number == 11 then build_in parts
    else option_and_then (name_change number) (read_at text_of parts 1)

-- the change that a tuple is
abbrev pub change_in : List Item → Option Change
change_in parts = option_and_then (λ number. change_by number parts) (read_at small_of parts 0)

-- the entry that a tuple is
abbrev pub entry_in : List Item → Option Entry
entry_in items =
    option_and_then (λ version. option_and_then (λ client. option_and_then (λ number. option_and_then (λ store.
    option_map (λ changes.
    record { version = version; client = client; number = number; store = store; changes = changes })
    (all_at (of_tuple change_in) items 5)) (read_at item_number items 4)) (read_at item_number items 3))
    (read_at item_number items 2)) (read_at item_number items 1)
