-- The keys and values that stand for the entries of an index, and what those of its built ranges begin with, under a
-- store's prefix.
use Rattle.std.specs.Prelude.{ℕ, List, [], ◌∷◌, pos}
use Rattle.tuple_codec.specs.Item.{int}
use Rattle.tuple_codec.specs.Subspace.{subspace_key}
use Rattle.metadata.specs.Layout.{place_of_built_ranges}
pub use Rattle.metadata.specs.Layout.{entries_prefix, entry_key, entry_pair, entry_pairs}

-- what the key of each built range of the index with this number begins with: the key (6, number) under the store's
-- prefix
abbrev pub built_place : List ℕ → ℕ → List ℕ
built_place prefix number = subspace_key prefix (int (pos place_of_built_ranges) ∷ int (pos number) ∷ [])
