-- The bytes of lengths, ranges, pairs and writes, and which of them have such bytes.
use Rattle.std.specs.Prelude.{◌≡◌, ◌<◌, ◌^◌, ℕ, IsTrue, List, [], ◌∷◌, ◌++◌, length, if◌then◌else◌}
use Rattle.std.specs.List.{AllByRecursion}
use Rattle.std.specs.Int.{w32, w64, to_le_bytes}
use Rattle.kv_core.specs.Range.{KeyRange, is_key_range}
use Rattle.kv_core.specs.declared.change.Mutation.{Mutation}
use Rattle.kv_core.specs.declared.change.Mutation.TheVariants.{Set, ClearRange, Add, CompareAndClear}
use Rattle.drive.specs.declared.wanted.Want.{Want}

-- a byte string after its length
abbrev pub sized : List ℕ → List ℕ
sized bytes = to_le_bytes w32 (length bytes) ++ bytes

-- the bytes of each item, one after another, and after their number
abbrev pub each_of : {X : Type 0} → (X → List ℕ) → List X → List ℕ
each_of spell [] = []
each_of spell (item ∷ items) = spell item ++ each_of spell items

abbrev pub counted : {X : Type 0} → (X → List ℕ) → List X → List ℕ
counted spell items = to_le_bytes w32 (length items) ++ each_of spell items

-- a range, a pair, a write, and what is wanted
abbrev pub range_bytes : KeyRange → List ℕ
range_bytes range = sized range.begin ++ sized range.end

abbrev pub pair_bytes : List ℕ × List ℕ → List ℕ
pair_bytes pair = sized pair.0 ++ sized pair.1

abbrev pub mutation_bytes : Mutation → List ℕ
mutation_bytes (Set key value) = 0 ∷ sized key ++ sized value
mutation_bytes (ClearRange range) = 1 ∷ range_bytes range
mutation_bytes (Add key operand) = 2 ∷ sized key ++ sized operand
mutation_bytes (CompareAndClear key operand) = 3 ∷ sized key ++ sized operand

abbrev pub want_bytes : Want → List ℕ
want_bytes want =
    range_bytes want.range ++ to_le_bytes w64 want.limit ++ (if want.reverse then 1 else 0) ∷ []

-- the length of a list fits into the four bytes that it has
abbrev pub IsShort : {X : Type 0} → List X → Type 0
IsShort items = length items < 2 ^ 32

-- so do both lengths of a range, which may be written so; of a pair; of a write; and of what is wanted
abbrev pub FitsRange : KeyRange → Type 0
FitsRange range = IsShort range.begin × IsShort range.end × IsTrue (is_key_range range)

abbrev pub FitsPair : List ℕ × List ℕ → Type 0
FitsPair pair = IsShort pair.0 × IsShort pair.1

abbrev pub FitsMutation : Mutation → Type 0
FitsMutation (Set key value) = IsShort key × IsShort value
FitsMutation (ClearRange range) = FitsRange range
FitsMutation (Add key operand) = IsShort key × IsShort operand
FitsMutation (CompareAndClear key operand) = IsShort key × IsShort operand

abbrev pub FitsWant : Want → Type 0
FitsWant want = FitsRange want.range × (want.limit < 2 ^ 64)

-- and those of each item, and their number
abbrev pub FitEach : {X : Type 0} → (X → Type 0) → List X → Type 0
FitEach Fits items = IsShort items × AllByRecursion Fits items

-- what bytes tell: a version, ranges, pairs, writes, and the text of commands
pub record HostTold : Type 0 where
  pub version : ℕ
  pub ranges : List KeyRange
  pub pairs : List (List ℕ × List ℕ)
  pub written : List Mutation
  pub text : List ℕ

-- the bytes that tell it, which begin with the number of their form
abbrev pub told_bytes : HostTold → List ℕ
told_bytes told =
    1 ∷ to_le_bytes w64 told.version ++ counted range_bytes told.ranges ++ counted pair_bytes told.pairs
    ++ counted mutation_bytes told.written ++ told.text

-- bytes tell this, each of whose numbers fits into its bytes
pub record IsHostTold (bytes : List ℕ) (told : HostTold) : Type 0 where
  pub spelled : bytes ≡ told_bytes told
  pub version : told.version < 2 ^ 64
  pub ranges : FitEach FitsRange told.ranges
  pub pairs : FitEach FitsPair told.pairs
  pub written : FitEach FitsMutation told.written
