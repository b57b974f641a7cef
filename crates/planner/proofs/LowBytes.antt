-- Packs of cells are bytes.
use Rattle.std.specs.Prelude.{◌≡◌, refl, ℕ, zero, suc, ◌+◌, ◌-◌, ◌<◌, ◌≤◌, ◌/◌, ◌^◌, Bool, true, false, cond, nat_lt, List, [], ◌∷◌, pos, negsuc, ℤ}
use Rattle.std.specs.Int.{bytes_high_first}
use Rattle.std.specs.Str.{IsUtf8}
use Rattle.std.proofs.Common.{subst, arith, ⊎_elim}
use Rattle.std.specs.Cmp.{first_so, second_so}
use Rattle.std.proofs.lemmas.Bool.{ltb-true}
use lib.Utf8.{scalar, scalars, encode, encodes, next, scalar_cases}
use Rattle.tuple_codec.specs.Spelling.{closed, escaped, int_spelling, byte_count}
use Rattle.tuple_codec.proofs.ClosedStrings.{AreLow}
use Rattle.tuple_codec.proofs.Outcome.{low_from_bytes}
use Rattle.tuple_codec.proofs.NumberOrder.{byte_is}
use Rattle.tuple_codec.proofs.TupleOrder.{int_code, int_code_range}
use Rattle.metadata.specs.declared.cells.Cell.{Cell}
use Rattle.metadata.specs.declared.cells.Cell.TheVariants.{Null, Int, Text, Bytes}
use Rattle.metadata.specs.Cell.{IsCell}
use Rattle.metadata.proofs.CellItems.{is_item-item_of}
use Rattle.planner.specs.Pack.{pack_cell}
use Rattle.planner.proofs.Ranges.{low_append}

low_encode : (c : ℕ) → c < 1114112 → AreLow (encode c)
unfolding encode
low_encode c few = by (nat_lt c 128) refl (nat_lt c 2048) refl (nat_lt c 65536) refl
  where
    by : (x : Bool) → nat_lt c 128 ≡ x → (y : Bool) → nat_lt c 2048 ≡ y → (z : Bool) → nat_lt c 65536 ≡ z →
        AreLow (cond x (c ∷ []) (cond y ((192 + c / 64) ∷ next c ∷ []) (cond z ((224 + c / 4096) ∷ next (c / 64) ∷ next c ∷ []) ((240 + c / 262144) ∷ next (c / 4096) ∷ next (c / 64) ∷ next c ∷ []))))
    by true e y f z g = (let l = ltb-true c 128 e in omega arith, tt)
    by false e true f z g = (let l = ltb-true c 2048 f in omega arith, (omega arith, tt))
    by false e false f true g = (let l = ltb-true c 65536 g in omega arith, (omega arith, (omega arith, tt)))
    by false e false f false g = (omega arith, (omega arith, (omega arith, (omega arith, tt))))

low_encodes : (cs : List ℕ) → scalars cs ≡ true → AreLow (encodes cs)
low_encodes [] e = tt
low_encodes (c ∷ cs) e = low_append (encode c) (encodes cs) (low_encode c (⊎_elim (λ l. omega (arith, l)) (λ l. l.1) (scalar_cases c (first_so (scalar c) (scalars cs) e)))) (low_encodes cs (second_so (scalar c) (scalars cs) e))

-- the bytes of a text are bytes
pub low_text : (bs : List ℕ) → IsUtf8 bs → AreLow bs
low_text bs u = subst AreLow u.1.1 (low_encodes u.0 u.1.0)

pub low_escaped : (s : List ℕ) → AreLow s → AreLow (escaped s)
low_escaped [] a = tt
low_escaped (zero ∷ s) a = (omega arith, (omega arith, low_escaped s a.1))
low_escaped (suc b ∷ s) a = (a.0, low_escaped s a.1)

low_closed : (s : List ℕ) → AreLow s → AreLow (closed s)
low_closed s a = low_append (escaped s) (0 ∷ []) (low_escaped s a) (omega arith, tt)

low_number : (k n : ℕ) → AreLow (bytes_high_first k n)
low_number zero n = tt
low_number (suc k) n = (omega (arith, byte_is k n), low_number k n)

low_int : (z : ℤ) → int_code z ≤ 28 → AreLow (int_spelling z)
unfolding int_spelling int_code
low_int (pos zero) h = (omega arith, tt)
low_int (pos (suc n)) h = (omega (arith, h), low_number (byte_count (suc n)) (suc n))
low_int (negsuc n) h = (omega (arith, h), low_number (byte_count (suc n)) (256 ^ byte_count (suc n) - 1 - suc n))

-- the pack of a cell is bytes
pub low_pack_cell : (c : Cell) → IsCell c → AreLow (pack_cell c)
low_pack_cell Null is = (omega arith, tt)
low_pack_cell (Int z) is = low_int z (int_code_range z (is_item-item_of (Int z) is)).1
low_pack_cell (Text t) is = (omega arith, low_closed t (low_text t is))
low_pack_cell (Bytes b) is = (omega arith, low_closed b (low_from_bytes b is))
