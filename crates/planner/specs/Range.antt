-- Ranges of keys, and the range of a scan by the bounds on its columns.
use Rattle.std.specs.Prelude.{ℕ, Bool, List, [], ◌∷◌, ◌++◌, ◌&&◌, fold, map}
use Rattle.std.specs.Ordering.{is_le, is_lt, ord_max, ord_min}
use Rattle.metadata.specs.declared.cells.Cell.{Cell}
use Rattle.tuple_codec.specs.Order.{bytes_cmp}
use Rattle.metadata.specs.Order.{open_pack}
use Rattle.planner.specs.Pack.{behind_all, pack, pack_cell}

-- the keys from begin up to, not including, end
pub record PlanRange : Type 0 where
  pub begin : List ℕ
  pub end : List ℕ

-- whether a key is in the range
abbrev pub range_has : PlanRange → List ℕ → Bool
range_has range key = is_le (bytes_cmp range.begin key) && is_lt (bytes_cmp key range.end)

-- the range's keys behind a prefix
abbrev pub behind : List ℕ → PlanRange → PlanRange
behind prefix range = record { begin = prefix ++ range.begin; end = prefix ++ range.end }

-- a bound on the cells of a column; none of them lets null in
pub data Bound : Type 0 where
  above : Cell → Bound
  from : Cell → Bound
  below : Cell → Bound
  up_to : Cell → Bound
  prefixed : Cell → Bound

-- where the keys begin that a bound lets in, behind the pack of the fixed columns
abbrev pub begin_of : Bound → List ℕ
begin_of (above v) = pack_cell v ++ 0xff ∷ []
begin_of (from v) = pack_cell v
begin_of (below v) = 0x01 ∷ []
begin_of (up_to v) = 0x01 ∷ []
begin_of (prefixed s) = open_pack s

-- where they end
abbrev pub end_of : Bound → List ℕ
end_of (above v) = 0xff ∷ []
end_of (from v) = 0xff ∷ []
end_of (below v) = pack_cell v
end_of (up_to v) = pack_cell v ++ 0xff ∷ []
end_of (prefixed s) = behind_all (open_pack s)

-- the later of two keys, and the earlier
abbrev pub later_key : List ℕ → List ℕ → List ℕ
later_key = ord_max bytes_cmp

abbrev pub earlier_key : List ℕ → List ℕ → List ℕ
earlier_key = ord_min bytes_cmp

-- the range that has all bounds: the greatest begin and the least end, but no end before its begin
abbrev pub bounded : List Bound → PlanRange
bounded bounds =
    let begin = fold later_key [] (map begin_of bounds) in
    record { begin = begin; end = later_key begin (fold earlier_key (0xff ∷ []) (map end_of bounds)) }

-- the keys, behind those of the path, of what has these cells in its first columns and the next column within the
-- bounds
abbrev pub range_of : List Cell → List Bound → PlanRange
range_of fixed bounds = behind (pack fixed) (bounded bounds)
