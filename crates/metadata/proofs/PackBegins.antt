-- How the packs of cells begin.
use Rattle.std.proofs.Common.{◌≡◌, ◌<◌, ℕ, ℤ, zero, suc, true, not, List, [], ◌∷◌, ◌++◌, refl, sym, ap, ◌∙◌, arith}
use Rattle.std.specs.Prelude.{◌↔◌}
use Rattle.std.specs.Ordering.{is_le}
use Rattle.tuple_codec.specs.Item as item
use Rattle.tuple_codec.specs.Order.{bytes_cmp}
use Rattle.tuple_codec.specs.Refusal.{NoEscapeFirst}
use Rattle.tuple_codec.specs.Spelling.{closed, escaped, int_spelling, item_spelling, outer}
use Rattle.tuple_codec.specs.Subspace.{BeginsWith}
use Rattle.tuple_codec.proofs.TupleOrder.{begins, int_code, int_code_range}
use Rattle.metadata.specs.declared.cells.Cell.{Cell}
use Rattle.metadata.specs.declared.cells.Cell.TheVariants.{Null, Int, Text, Bytes}
use Rattle.metadata.specs.Cell.{IsCell, is_null, item_of}
use Rattle.metadata.specs.Order.{BeginsAs, is_string, is_tail, open_pack}
use Rattle.metadata.proofs.CellItems.{is_item-item_of}
use Rattle.metadata.proofs.PackOrder.{before_int, low_first, tail_escapes}

-- LOW: a pack begins below FF
pub low : (a : Cell) (y : List ℕ) → IsCell a → is_tail (item_spelling outer (item_of a) ++ y) ≡ true
low a y is = ap (λ s. is_tail (s ++ y)) (begins outer (item_of a)) ∙ low_first a is

nil_first : (s : List ℕ) → is_le (bytes_cmp [] s) ≡ true
nil_first [] = refl
nil_first (b ∷ s) = refl

-- NULL FIRST: that of null alone is below 01
pub null_first : (a : Cell) (y : List ℕ) → IsCell a → is_le (bytes_cmp (1 ∷ []) (item_spelling outer (item_of a) ++ y)) ≡ not (is_null a)
null_first Null y is = refl
null_first (Bytes a) y is = nil_first (closed a ++ y)
null_first (Text a) y is = refl
null_first (Int a) y is = ap is_le (before_int 1 [] y a (omega arith) is)

-- ---- strings

one_more : (b : ℕ) (p t : List ℕ) → BeginsWith p t → BeginsWith (b ∷ p) (b ∷ t)
one_more b p t (rest, is) = (rest, ap (λ s. b ∷ s) is)

-- a string begins with a part as its escaped form begins with the part's
escaped_begins : (p t y : List ℕ) → NoEscapeFirst y → BeginsWith (escaped p) (closed t ++ y) ↔ BeginsWith p t
escaped_begins [] t y h = (λ b. (t, refl), λ b. (closed t ++ y, refl))
escaped_begins (zero ∷ p) [] [] h = (λ (rest, is). absurd (cc), λ (rest, is). absurd (cc))
escaped_begins (zero ∷ p) [] (b ∷ y) h = (λ (rest, is). let last : b ≡ 255 = cc in absurd (omega (arith, h, last)), λ (rest, is). absurd (cc))
escaped_begins (suc x ∷ p) [] y h = (λ (rest, is). absurd (cc), λ (rest, is). absurd (cc))
escaped_begins (zero ∷ p) (zero ∷ t) y h =
    let same = escaped_begins p t y h in (
      λ (rest, is). one_more 0 p t (same.0 (rest, let e : closed t ++ y ≡ escaped p ++ rest = cc in e)),
      λ (rest, is). let begin = same.1 (rest, let e : t ≡ p ++ rest = cc in e) in one_more 0 (255 ∷ escaped p) (255 ∷ (closed t ++ y)) (one_more 255 (escaped p) (closed t ++ y) begin),
    )
escaped_begins (zero ∷ p) (suc y ∷ t) z h = (λ (rest, is). absurd (cc), λ (rest, is). absurd (cc))
escaped_begins (suc x ∷ p) (zero ∷ t) y h = (λ (rest, is). absurd (cc), λ (rest, is). absurd (cc))
escaped_begins (suc x ∷ p) (suc y ∷ t) z h =
    let same = escaped_begins p t z h in (
      λ (rest, is). let first : suc y ≡ suc x = cc in let begin = one_more (suc y) p t (same.0 (rest, let e : closed t ++ z ≡ escaped p ++ rest = cc in e)) in (begin.0, begin.1 ∙ ap (λ b. b ∷ (p ++ begin.0)) first),
      λ (rest, is). let first : suc y ≡ suc x = cc in let begin = one_more (suc y) (escaped p) (closed t ++ z) (same.1 (rest, let e : t ≡ p ++ rest = cc in e)) in (begin.0, begin.1 ∙ ap (λ b. b ∷ (escaped p ++ begin.0)) first),
    )

same_code : (code : ℕ) (p t y : List ℕ) → NoEscapeFirst y → BeginsWith (code ∷ escaped p) (code ∷ (closed t ++ y)) ↔ BeginsWith p t
same_code code p t y h =
    let same = escaped_begins p t y h in
    (λ (rest, is). same.0 (rest, let e : closed t ++ y ≡ escaped p ++ rest = cc in e), λ begin. one_more code (escaped p) (closed t ++ y) (same.1 begin))

-- a whole number's pack begins with a code of its own
not_int : (code : ℕ) (p y : List ℕ) (n : ℤ) → code < 12 → IsCell (Int n) → BeginsWith (code ∷ p) (int_spelling n ++ y) → ⊥
not_int code p y n below is (rest, same) =
    let first = sym (ap (λ s. s ++ y) (begins outer (item.int n))) ∙ same in
    let codes : int_code n ≡ code = cc in
    absurd (omega (arith, below, codes, (int_code_range n (is_item-item_of (Int n) is)).0))

-- OPENS: a pack begins as that of a text or of a byte string where the cell does
pub opens : (part a : Cell) (y : List ℕ) → is_string part ≡ true → IsCell a → is_tail y ≡ true → BeginsWith (open_pack part) (item_spelling outer (item_of a) ++ y) ↔ BeginsAs part a
opens Null a y string is h = absurd (cc)
opens (Int n) a y string is h = absurd (cc)
opens (Text p) Null y string is h = (λ (rest, same). absurd (cc), λ none. absurd none)
opens (Text p) (Bytes t) y string is h = (λ (rest, same). absurd (cc), λ none. absurd none)
opens (Text p) (Text t) y string is h = same_code 2 p t y (tail_escapes y h)
opens (Text p) (Int n) y string is h = (λ begin. not_int 2 (escaped p) y n (omega arith) is begin, λ none. absurd none)
opens (Bytes p) Null y string is h = (λ (rest, same). absurd (cc), λ none. absurd none)
opens (Bytes p) (Bytes t) y string is h = same_code 1 p t y (tail_escapes y h)
opens (Bytes p) (Text t) y string is h = (λ (rest, same). absurd (cc), λ none. absurd none)
opens (Bytes p) (Int n) y string is h = (λ begin. not_int 1 (escaped p) y n (omega arith) is begin, λ none. absurd none)
