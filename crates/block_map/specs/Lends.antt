-- What blocks and a map end as, where a `&mut` to one of their values is returned.
use Rattle.std.specs.Prelude.{◌≡◌, ℕ, List, Option}
use Rattle.std.specs.Borrow.{Fml, Lends, MutBor, RattleType, follows_so}
use Rattle.std.specs.BTreeMap.{BTreeMap, WritesThrough}
use Rattle.std.specs.Option.{ghost_name_of}
use Rattle.std.specs.Vec.{with_item}
use Rattle.std_collections.specs.Layout.Columns.{set_value_at}
use Rattle.kv_core.specs.Bytes.{key_cmp}
use Rattle.block_map.specs.Blocks.{block_at}
use Rattle.block_map.specs.declared.blocks.Blocks.{Blocks}
use Rattle.block_map.specs.contracts.block.Block as block
use Rattle.block_map.specs.contracts.blocks.Blocks as blocks
use Rattle.block_map.specs.contracts.map.BlockMap as whole

module _ (V : RattleType) where
  -- Private: the block has, at a place, the last value written through r
  abbrev pub lends_value : MutBor (List (List ℕ × V.Denot)) → ℕ → MutBor V.Denot → Fml
  lends_value s place r = Lends (block.the_row V) V s r (set_value_at s.now place)

  -- Private: blocks with a value at a place of one of them
  abbrev pub with_value_at : Blocks V.Denot → ℕ → ℕ → V.Denot → Blocks V.Denot
  with_value_at blocks own place value =
      record blocks { list = with_item blocks.list own (set_value_at (block_at blocks.list.items own) place value) }

  -- Private: the same of one of the blocks
  abbrev pub lends_at : MutBor (Blocks V.Denot) → ℕ → ℕ → MutBor V.Denot → Fml
  lends_at s own place r = Lends (blocks.the_row V) V s r (with_value_at s.now own place)

  -- the map behind s has, at the key, the last value written through r, and is unchanged if r is `None`
  abbrev pub follows_get : MutBor (BTreeMap (List ℕ) V.Denot) → List ℕ → Option (MutBor V.Denot) → Fml
  follows_get s key r =
      follows_so (whole.the_row V) V s.ghost_name (ghost_name_of r) (WritesThrough key_cmp (key_cmp key) s.now)
      (λ n. n ≡ s.now)
