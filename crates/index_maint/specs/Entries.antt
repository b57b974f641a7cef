-- The entries that records define, and when two are the same.
use Rattle.std.specs.Prelude.{Bool, ◌&&◌}
use Rattle.std.specs.Ordering.{is_eq}
use Rattle.tuple_codec.specs.Item.{AreItems, items_from}
use Rattle.tuple_codec.specs.Order.{tuple_cmp}
use Rattle.metadata.specs.Cell.{items_of}
pub use Rattle.metadata.specs.Entries.{IndexEntry, entry_items, entry_of, index_entries, is_indexed}

-- two entries have the same columns and the same primary key
abbrev pub same_entry : IndexEntry → IndexEntry → Bool
same_entry a b = is_eq (tuple_cmp (items_of a.columns) (items_of b.columns)) && is_eq (tuple_cmp a.key b.key)

-- Private: the columns of an entry, and its primary key, are tuples of items
abbrev pub HasItems : IndexEntry → Type 0
HasItems entry = AreItems (items_from (items_of entry.columns)) × AreItems (items_from entry.key)
