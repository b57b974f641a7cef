-- What is written of an entry is read again.
use Rattle.std.proofs.Common.{◌≡◌, ℕ, ◌<◌, ◌^◌, true, List, [], ◌∷◌, Option, Some, None, map, refl, sym, ap, ◌∙◌, pos, cond}
use Rattle.std.specs.Prelude.{nat_lt}
use Rattle.std.specs.List.{All, AllByRecursion}
use Rattle.std.specs.Option.{option_map, option_and_then}
use Rattle.std.proofs.lemmas.Bool.{lt-ltb}
use Rattle.std.proofs.lemmas.List.Elements.{recursion_from_All}
use Rattle.tuple_codec.specs.Elements.{item_in}
use Rattle.tuple_codec.specs.Item.{Item, IsTuple, int, items_list, items_from, text}
use Rattle.tuple_codec.specs.declared.Element.{Element}
use Rattle.tuple_codec.specs.declared.Element.TheVariants as element
use Rattle.metadata.specs.declared.cells.Kind.{Kind}
use Rattle.metadata.specs.declared.cells.Kind.TheVariants as cell_kind
use Rattle.metadata.specs.declared.definition.Field.{Field}
use Rattle.metadata.specs.declared.definition.TypeRequest.{TypeRequest}
use Rattle.metadata.specs.declared.index.IndexKind.{IndexKind}
use Rattle.metadata.specs.declared.index.IndexKind.TheVariants as kind
use Rattle.metadata.specs.declared.index.IndexRequest.{IndexRequest}
use Rattle.metadata.specs.declared.cells.Cell.{Cell}
use Rattle.metadata.specs.Cell.{IsCell, cell_of, item_of}
use Rattle.metadata.specs.Reading.{all_read, field_of, index_kind_of, item_number, kind_of, small_of, text_of, tuple_of}
use Rattle.metadata.specs.Written.{field_item, index_kind_number, kind_number, number_item}
use Rattle.metadata.proofs.CellItems.{cell_of-item_of}
use Rattle.command_log.specs.declared.change.Change.{Change}
use Rattle.command_log.specs.declared.change.Change.TheVariants.{Create, «Type», Field as AddsField, Index, Save, Remove, Drop, Disable, WriteOnly, Readable, Build}
use Rattle.command_log.specs.declared.entry.Entry.{Entry}
use Rattle.command_log.specs.Form.{IsChange, IsEntry, change_item, change_parts, tuple_of_entry, asked_index_item, asked_index_parts, names_item, summed_name, asked_type_item, asked_type_parts}
use Rattle.command_log.specs.Reading.{all_at, cells_change, change_in, entry_in, asked_index_in, asked_index_rest, limit_of, of_tuple, summed_name_of, asked_type_in}

listed-items_of : (items : List Item) → items_list (items_from items) ≡ items
listed-items_of [] = refl
listed-items_of (one ∷ items) = ap (λ rest. one ∷ rest) (listed-items_of items)

-- the element of a nested tuple
pub tuple_found : (one : Element) (tuple : List Item) → one ≡ element.Nested tuple → Some tuple ≡ tuple_of (item_in one)
tuple_found one tuple is = sym (ap (λ e. tuple_of (item_in e)) is ∙ ap Some (listed-items_of tuple))

-- the items of a tuple within the tuple, each of which is read again
listed_back : {X : Type 0} (read : Item → Option X) (items : List Item) (xs : List X) → all_read read items ≡ Some xs → all_read read (items_list (items_from items)) ≡ Some xs
listed_back read items xs is = ap (all_read read) (listed-items_of items) ∙ is

one_more : {X : Type 0} (read : Item → Option X) (one : Item) (items : List Item) (x : X) (xs : List X) → read one ≡ Some x → all_read read items ≡ Some xs → all_read read (one ∷ items) ≡ Some (x ∷ xs)
one_more read one items x xs first rest = ap (option_and_then (λ y. option_map (λ ys. y ∷ ys) (all_read read items))) first ∙ ap (option_map (λ ys. x ∷ ys)) rest

names_back : (names : List (List ℕ)) → all_read text_of (map text names) ≡ Some names
names_back [] = refl
names_back (name ∷ names) = one_more text_of (text name) (map text names) name names refl (names_back names)

names_listed : (names : List (List ℕ)) → all_read text_of (items_list (items_from (map text names))) ≡ Some names
names_listed names = listed_back text_of (map text names) names (names_back names)

field_kind_back : (k : Kind) → option_and_then kind_of (small_of (number_item (kind_number k))) ≡ Some k
field_kind_back cell_kind.Int = refl
field_kind_back cell_kind.Text = refl
field_kind_back cell_kind.Bytes = refl

field_back : (field : Field) → field_of (field_item field) ≡ Some field
field_back field = ap (option_map (λ found. record { name = field.name; kind = found })) (field_kind_back field.kind)

fields_back : (fields : List Field) → all_read field_of (map field_item fields) ≡ Some fields
fields_back [] = refl
fields_back (field ∷ fields) = one_more field_of (field_item field) (map field_item fields) field fields (field_back field) (fields_back fields)

fields_listed : (fields : List Field) → all_read field_of (items_list (items_from (map field_item fields))) ≡ Some fields
fields_listed fields = listed_back field_of (map field_item fields) fields (fields_back fields)

type_back : (type : TypeRequest) → of_tuple asked_type_in (asked_type_item type) ≡ Some type
type_back type =
    ap (option_and_then (λ fields. option_map (λ key. record { name = type.name; fields = fields; key = key }) (all_read text_of (items_list (items_from (map text type.key)))))) (fields_listed type.fields)
    ∙ ap (option_map (λ key. record { name = type.name; fields = type.fields; key = key })) (names_listed type.key)

types_back : (types : List TypeRequest) → all_read (of_tuple asked_type_in) (map asked_type_item types) ≡ Some types
types_back [] = refl
types_back (type ∷ types) = one_more (of_tuple asked_type_in) (asked_type_item type) (map asked_type_item types) type types (type_back type) (types_back types)

kind_back : (k : IndexKind) → option_and_then index_kind_of (small_of (number_item (index_kind_number k))) ≡ Some k
kind_back kind.Value = refl
kind_back kind.Count = refl
kind_back kind.Sum = refl

summed_back : (summed : Option (List ℕ)) → summed_name_of (summed_name summed) ≡ Some summed
summed_back (Some name) = refl
summed_back None = refl

rest_back : (index : IndexRequest) → asked_index_rest (asked_index_parts index) index.name index.type_name index.columns ≡ Some index
rest_back index =
    ap (option_and_then (λ k. option_and_then (λ summed. option_map (λ clear_when_zero. asked k summed clear_when_zero) (Some index.clear_when_zero)) (summed_name_of (summed_name index.summed)))) (kind_back index.kind)
    ∙ ap (option_and_then (λ summed. option_map (λ clear_when_zero. asked index.kind summed clear_when_zero) (Some index.clear_when_zero))) (summed_back index.summed)
  where
    asked : IndexKind → Option (List ℕ) → Rattle.std.proofs.Common.Bool → IndexRequest
    asked k summed clear_when_zero = record { name = index.name; kind = k; type_name = index.type_name; columns = index.columns; summed = summed; clear_when_zero = clear_when_zero }

index_back : (index : IndexRequest) → of_tuple asked_index_in (asked_index_item index) ≡ Some index
index_back index = ap (option_and_then (asked_index_rest (asked_index_parts index) index.name index.type_name)) (names_listed index.columns) ∙ rest_back index

indexes_back : (indexes : List IndexRequest) → all_read (of_tuple asked_index_in) (map asked_index_item indexes) ≡ Some indexes
indexes_back [] = refl
indexes_back (index ∷ indexes) = one_more (of_tuple asked_index_in) (asked_index_item index) (map asked_index_item indexes) index indexes (index_back index) (indexes_back indexes)

cells_back : (cells : List Cell) → AllByRecursion IsCell cells → all_read cell_of (map item_of cells) ≡ Some cells
cells_back [] are = refl
cells_back (cell ∷ cells) are = one_more cell_of (item_of cell) (map item_of cells) cell cells (cell_of-item_of cell are.0) (cells_back cells are.1)

cells_listed : (cells : List Cell) → All IsCell cells → all_read cell_of (items_list (items_from (map item_of cells))) ≡ Some cells
cells_listed cells are = listed_back cell_of (map item_of cells) cells (cells_back cells (recursion_from_All IsCell cells are))

limit_back : (limit : ℕ) → limit < 2 ^ 32 → limit_of (number_item limit) ≡ Some limit
limit_back limit small = ap (λ b. cond b (Some limit) None) (lt-ltb limit (2 ^ 32) small)

change_back : (change : Change) → IsChange change → of_tuple change_in (change_item change) ≡ Some change
change_back (Create request) is =
    ap (option_and_then (λ types. option_map (λ indexes. Create (record { types = types; indexes = indexes })) (all_read (of_tuple asked_index_in) (items_list (items_from (map asked_index_item request.indexes))))))
    (listed_back (of_tuple asked_type_in) (map asked_type_item request.types) request.types (types_back request.types))
    ∙ ap (option_map (λ indexes. Create (record { types = request.types; indexes = indexes }))) (listed_back (of_tuple asked_index_in) (map asked_index_item request.indexes) request.indexes (indexes_back request.indexes))
change_back («Type» request) is = ap (option_map «Type») (type_back request)
change_back (AddsField name field) is = ap (option_map (AddsField name)) (field_back field)
change_back (Index request) is = ap (option_map Index) (index_back request)
change_back (Save name cells) is = ap (option_map (cells_change 5 name)) (cells_listed cells is)
change_back (Remove name cells) is = ap (option_map (cells_change 6 name)) (cells_listed cells is)
change_back (Drop name) is = refl
change_back (Disable name) is = refl
change_back (WriteOnly name) is = refl
change_back (Readable name) is = refl
change_back (Build name limit) is = ap (option_map (Build name)) (limit_back limit is)

changes_back : (changes : List Change) → AllByRecursion IsChange changes → all_read (of_tuple change_in) (map change_item changes) ≡ Some changes
changes_back [] are = refl
changes_back (change ∷ changes) are = one_more (of_tuple change_in) (change_item change) (map change_item changes) change changes (change_back change are.0) (changes_back changes are.1)

number_back : (n : ℕ) → n < 2 ^ 64 → item_number (number_item n) ≡ Some n
number_back n small = ap (λ b. cond b (Some n) None) (lt-ltb n (2 ^ 64) small)

-- what is written of an entry is read again
pub entry_back : (entry : Entry) → IsEntry entry → entry_in (tuple_of_entry entry) ≡ Some entry
entry_back entry is =
    let items = is.tuple.items.1 in
    ap (option_and_then (λ version. with_client version (item_number (number_item entry.client)))) (number_back entry.version items.0)
    ∙ ap (option_and_then (λ client. with_number entry.version client (item_number (number_item entry.number)))) (number_back entry.client items.1.0)
    ∙ ap (option_and_then (λ number. with_store entry.version entry.client number (item_number (number_item entry.store)))) (number_back entry.number items.1.1.0)
    ∙ ap (option_and_then (λ store. with_changes entry.version entry.client entry.number store (all_read (of_tuple change_in) (items_list (items_from (map change_item entry.changes)))))) (number_back entry.store items.1.1.1.0)
    ∙ ap (with_changes entry.version entry.client entry.number entry.store) (listed_back (of_tuple change_in) (map change_item entry.changes) entry.changes (changes_back entry.changes (recursion_from_All IsChange entry.changes is.changes)))
  where
    with_changes : ℕ → ℕ → ℕ → ℕ → Option (List Change) → Option Entry
    with_changes version client number store found = option_map (λ changes. record { version = version; client = client; number = number; store = store; changes = changes }) found

    last : Option (List Change)
    last = all_read (of_tuple change_in) (items_list (items_from (map change_item entry.changes)))

    with_store : ℕ → ℕ → ℕ → Option ℕ → Option Entry
    with_store version client number found = option_and_then (λ store. with_changes version client number store last) found

    with_number : ℕ → ℕ → Option ℕ → Option Entry
    with_number version client found = option_and_then (λ number. with_store version client number (item_number (number_item entry.store))) found

    with_client : ℕ → Option ℕ → Option Entry
    with_client version found = option_and_then (λ client. with_number version client (item_number (number_item entry.number))) found
