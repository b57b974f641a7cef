-- Totals on examples, computed.
use Rattle.std.proofs.Common.{◌≡◌, ◌+◌, ◌%◌, ◌^◌, negsuc, pos, [], ◌∷◌, Some, None, refl}
use Rattle.metadata.specs.declared.cells.Cell.TheVariants.{Int, Null}
use Rattle.index_maint.specs.Totals.{IsTotal, add_amount, amount_of, as_signed, difference}

-- an absent total is 0, and so is one that came back to 0 and stays
absent_is_zero : IsTotal None 0
absent_is_zero = refl

zero_may_stay : IsTotal (Some (0 ∷ 0 ∷ 0 ∷ 0 ∷ 0 ∷ 0 ∷ 0 ∷ 0 ∷ [])) 0
zero_may_stay = refl

-- null counts 0
null_is_zero : amount_of Null ≡ 0
null_is_zero = refl

-- a sum beyond the greatest number of 64 bits is read as the least one
sum_wraps : as_signed ((amount_of (Int (pos 9223372036854775807)) + amount_of (Int (pos 1))) % 2 ^ 64) ≡ negsuc 9223372036854775807
sum_wraps = refl

-- what goes is added as its negative, and nothing is added where nothing changes
one_goes : difference 1 0 ≡ 18446744073709551615
one_goes = refl

nothing_changes : add_amount [] 1 [] (difference 5 5) ≡ []
nothing_changes = refl
