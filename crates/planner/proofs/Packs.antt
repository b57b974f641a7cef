-- The packs of a few cells.
use Rattle.std.specs.Prelude.{◌≡◌, ℕ, refl, true, List, [], ◌∷◌, ◌++◌}
use Rattle.std.proofs.Common.{sym}
use Rattle.metadata.specs.declared.cells.Cell.TheVariants.{Null, Int, Text, Bytes}
use Rattle.metadata.specs.Order.{is_string, open_pack}
use Rattle.tuple_codec.specs.Spelling.{escaped}
use Rattle.metadata.specs.declared.cells.Cell.{Cell}
use Rattle.planner.specs.Pack.{pack_cell}

-- the fronts of lists that end alike
same_front : (xs ys : List ℕ) (a b : ℕ) → xs ++ a ∷ [] ≡ ys ++ b ∷ [] → xs ≡ ys
same_front [] [] a b e = refl
same_front [] (y ∷ []) a b e = cc
same_front [] (y ∷ z ∷ ys) a b e = cc
same_front (x ∷ []) [] a b e = cc
same_front (x ∷ z ∷ xs) [] a b e = cc
same_front (x ∷ xs) (y ∷ ys) a b e = let head : x ≡ y = cc in let tail : xs ++ a ∷ [] ≡ ys ++ b ∷ [] = cc in let rest = same_front xs ys a b tail in λ i. head i ∷ rest i

-- a string's pack without its last byte
pub opened : (c : Cell) (bytes : List ℕ) (last : ℕ) → is_string c ≡ true → pack_cell c ≡ bytes ++ last ∷ [] → bytes ≡ open_pack c
opened Null bytes last s e = cc
opened (Int z) bytes last s e = cc
opened (Text t) bytes last s e = same_front bytes (2 ∷ escaped t) last 0 (sym e)
opened (Bytes t) bytes last s e = same_front bytes (1 ∷ escaped t) last 0 (sym e)
