-- Entries in blocks: what a map of them is seen as, and how its blocks lie.
use Rattle.std.specs.Prelude.{◌≡◌, ◌≤◌, ◌<◌, ◌+◌, ℕ, zero, suc, true, false, cond, nat_le, Result, Ok, Err, Some}
use Rattle.std.specs.Prelude.{List, [], ◌∷◌, ◌++◌, length, insert, slice_get, slice_index_or}
use Rattle.std.proofs.Common.{inl}
use Rattle.std.specs.List.{AllByRecursion}
use Rattle.std.specs.List.Sorted.{IsStrictlySortedBy}
use Rattle.std.specs.Map.{keys_of}
use Rattle.std.specs.BTreeMap.{BTreeMap}
use Rattle.std_collections.specs.Layout.BTreeMap.{btree_map}
use Rattle.kv_core.specs.Bytes.{key_cmp, key_lt}

-- Private: how many entries a block has at most
abbrev pub most : ℕ
most = 64

-- Private: a search's place, whether or not the key stands there
abbrev pub search_place : Result ℕ ℕ → ℕ
search_place (Ok place) = place
search_place (Err place) = place

-- Private: a block's keys and values are as many, no more than the most, and there is room for that many of each
pub record HasRoom (keys values key_room value_room : ℕ) : Type 0 where
  pub even : values ≡ keys
  pub fits : keys ≤ most
  pub keys_room : most ≤ key_room
  pub values_room : most ≤ value_room

-- Private: how many bounds are at a key or before it, up to the first one after it
abbrev pub bounds_upto : List ℕ → List (List ℕ) → ℕ
bounds_upto key [] = 0
bounds_upto key (bound ∷ bounds) = cond (key_lt key bound) 0 (suc (bounds_upto key bounds))

module _ {X : Type 0} where
  -- the entries of blocks, one block after another
  abbrev pub block_entries : List (List (List ℕ × X)) → List (List ℕ × X)
  block_entries [] = []
  block_entries (block ∷ blocks) = block ++ block_entries blocks

  -- a map of blocks is seen as std's map of their entries
  abbrev pub seen_map : List (List (List ℕ × X)) → BTreeMap (List ℕ) X
  seen_map blocks = btree_map (block_entries blocks) (inl tt)

  -- Private: a block, or none of the entries where there is no such block
  abbrev pub block_at : List (List (List ℕ × X)) → ℕ → List (List ℕ × X)
  block_at blocks place = slice_index_or blocks place []

  -- Private: each of these keys comes before a key
  abbrev pub AreBefore : List ℕ → List (List ℕ × X) → Type 0
  AreBefore key entries = AllByRecursion (λ entry. key_lt entry.0 key ≡ true) entries

  -- Private: none of them does
  abbrev pub AreFrom : List ℕ → List (List ℕ × X) → Type 0
  AreFrom key entries = AllByRecursion (λ entry. key_lt entry.0 key ≡ false) entries

  -- Private: behind a first block there is one more for each bound, which rise: it parts the keys before it from those
  -- of its block and of those behind that
  abbrev pub AreParted : List (List ℕ × X) → List (List ℕ) → List (List (List ℕ × X)) → Type 0
  AreParted first [] [] = Unit {0}
  AreParted first [] (block ∷ blocks) = ⊥
  AreParted first (bound ∷ bounds) [] = ⊥
  AreParted first (bound ∷ bounds) (block ∷ blocks) =
      AreBefore bound first × AreFrom bound (block ++ block_entries blocks)
      × AllByRecursion (λ next. key_lt bound next ≡ true) bounds × AreParted block bounds blocks

  -- Private: the same of all blocks, where there are any
  abbrev pub AreLaid : List (List ℕ) → List (List (List ℕ × X)) → Type 0
  AreLaid bounds [] = bounds ≡ []
  AreLaid bounds (block ∷ blocks) = AreParted block bounds blocks

  -- Private: a block has more entries together with the next one than fit into one
  abbrev pub Overfills : List (List ℕ × X) → List (List (List ℕ × X)) → Type 0
  Overfills block [] = Unit {0}
  Overfills block (next ∷ blocks) = most < length block + length next

  -- Private: each two neighbours have
  abbrev pub AreDense : List (List (List ℕ × X)) → Type 0
  AreDense [] = Unit {0}
  AreDense (block ∷ blocks) = Overfills block blocks × AreDense blocks

  -- Private: the keys rise, the bounds part the blocks, each block has an entry and not too many of them, and no two
  -- neighbours could be one block
  pub record IsWhole (bounds : List (List ℕ)) (blocks : List (List (List ℕ × X))) : Type 0 where
    pub sorted : IsStrictlySortedBy key_cmp (keys_of (block_entries blocks))
    pub laid : AreLaid bounds blocks
    pub filled : AllByRecursion (λ block. 0 < length block) blocks
    pub fits : AllByRecursion (λ block. length block ≤ most) blocks
    pub dense : AreDense blocks

  -- Private: the blocks with another one at a place
  abbrev pub edited : ℕ → (List (List ℕ × X) → List (List ℕ × X)) → List (List (List ℕ × X)) → List (List (List ℕ × X))
  edited place f [] = []
  edited zero f (block ∷ blocks) = f block ∷ blocks
  edited (suc place) f (block ∷ blocks) = block ∷ edited place f blocks

  -- Private: the blocks with two for the one at a place
  abbrev pub cut_blocks :
      ℕ → List (List ℕ × X) → List (List ℕ × X) → List (List (List ℕ × X)) → List (List (List ℕ × X))
  cut_blocks place left right [] = []
  cut_blocks zero left right (block ∷ blocks) = left ∷ right ∷ blocks
  cut_blocks (suc place) left right (block ∷ blocks) = block ∷ cut_blocks place left right blocks

  -- Private: the blocks with the one at a place and the next one joined, where both fit into one
  abbrev pub joined_blocks : ℕ → List (List (List ℕ × X)) → List (List (List ℕ × X))
  joined_blocks place [] = []
  joined_blocks zero (block ∷ []) = block ∷ []
  joined_blocks zero (block ∷ next ∷ blocks) =
      cond (nat_le (length block + length next) most) ((block ++ next) ∷ blocks) (block ∷ next ∷ blocks)
  joined_blocks (suc place) (block ∷ blocks) = block ∷ joined_blocks place blocks

  -- Private: the bounds that are left then
  abbrev pub joined_bounds : ℕ → List (List ℕ) → List (List (List ℕ × X)) → List (List ℕ)
  joined_bounds place [] blocks = []
  joined_bounds place (bound ∷ bounds) [] = bound ∷ bounds
  joined_bounds zero (bound ∷ bounds) (block ∷ []) = bound ∷ bounds
  joined_bounds zero (bound ∷ bounds) (block ∷ next ∷ blocks) =
      cond (nat_le (length block + length next) most) bounds (bound ∷ bounds)
  joined_bounds (suc place) (bound ∷ bounds) (block ∷ blocks) = bound ∷ joined_bounds place bounds blocks

  -- Private: the same of a block and the one before it, if there is one
  abbrev pub joined_before : ℕ → List (List (List ℕ × X)) → List (List (List ℕ × X))
  joined_before zero blocks = blocks
  joined_before (suc place) blocks = joined_blocks place blocks

  -- Private: the bounds that are left of joining it with the one before it
  abbrev pub joined_bounds_before : ℕ → List (List ℕ) → List (List (List ℕ × X)) → List (List ℕ)
  joined_bounds_before zero bounds blocks = bounds
  joined_bounds_before (suc place) bounds blocks = joined_bounds place bounds blocks

  -- Private: no blocks in the place of one without entries
  abbrev pub without_empty : List (List (List ℕ × X)) → List (List (List ℕ × X))
  without_empty [] = []
  without_empty ([] ∷ []) = []
  without_empty ([] ∷ next ∷ blocks) = [] ∷ next ∷ blocks
  without_empty ((entry ∷ block) ∷ blocks) = (entry ∷ block) ∷ blocks

  -- Private: new has two blocks for one of old, with an entry put at a place: neither is empty or has too many, and the
  -- second begins with the bound
  pub record Forks (block place : ℕ) (key : List ℕ) (value : X) (bound : List ℕ) (old new : List (List (List ℕ × X))) :
      Type 0 where
    pub left : List (List ℕ × X)
    pub right : List (List ℕ × X)
    pub list : new ≡ cut_blocks block left right old
    pub whole : left ++ right ≡ insert (block_at old block) place (key, value)
    pub some : 0 < length left
    pub fits : length left ≤ most
    pub rest_fits : length right ≤ most
    pub begins : slice_get (keys_of right) 0 ≡ Some bound

  -- Private: a full block is cut in two, and each part is joined with its other neighbour where both fit into one
  pub record Grows (block place : ℕ) (key : List ℕ) (value : X) (bounds : List (List ℕ))
      (blocks : List (List (List ℕ × X))) (new_bounds : List (List ℕ)) (new_blocks : List (List (List ℕ × X))) : Type 0
    where
      pub bound : List ℕ
      pub cut : List (List (List ℕ × X))
      pub forks : Forks block place key value bound blocks cut
      pub bounds_are :
          new_bounds ≡ joined_bounds_before block (joined_bounds (suc block) (insert bounds block bound) cut)
          (joined_blocks (suc block) cut)
      pub blocks_are : new_blocks ≡ joined_before block (joined_blocks (suc block) cut)
