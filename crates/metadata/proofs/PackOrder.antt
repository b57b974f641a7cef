-- The packs of cells are ordered as the cells, and what stands behind two packs decides between equal cells.
use Rattle.std.proofs.Common.{◌≡◌, ◌<◌, ℕ, ℤ, zero, suc, true, nat_lt, inl, inr, subst, List, [], ◌∷◌, ◌++◌, All, drop, refl, sym, ap, ◌∙◌, append_assoc, arith}
use Rattle.std.specs.declared.cmp.Ordering.TheVariants.{Less, Greater}
use Rattle.std.specs.Ordering.{ordering_then}
use Rattle.std.proofs.lemmas.Bool.{cases_lt, lt-ltb, ltb-true}
use Rattle.std.proofs.lemmas.List.Elements.{All-head, All-tail}
use Rattle.tuple_codec.specs.Item as item
use Rattle.tuple_codec.specs.Order.{bytes_cmp, item_cmp, tuple_cmp}
use Rattle.tuple_codec.specs.Refusal.{NoEscapeFirst}
use Rattle.tuple_codec.specs.Spelling.{closed, int_spelling, item_spelling, outer, spelling}
use Rattle.tuple_codec.proofs.ByteOrder.{before_escape, cmp_closed, cmp_greater, cmp_less, greater, less, then_assoc}
use Rattle.tuple_codec.proofs.IntOrder.{cmp_int}
use Rattle.tuple_codec.proofs.TupleOrder.{begins, code_low, code_of, int_code, int_code_range, tuple_order}
use Rattle.metadata.specs.declared.cells.Cell.{Cell}
use Rattle.metadata.specs.declared.cells.Cell.TheVariants.{Null, Int, Text, Bytes}
use Rattle.metadata.specs.Cell.{IsCell, item_of, items_of}
use Rattle.metadata.specs.Order.{cell_cmp, cells_cmp, is_stop, is_tail}
use Rattle.metadata.proofs.CellItems.{are_items-items_of, is_item-item_of}

-- ---- the order of cells is that of their items

item_order : (a b : Cell) → item_cmp (item_of a) (item_of b) ≡ cell_cmp a b
item_order Null Null = refl
item_order Null (Bytes b) = refl
item_order Null (Text b) = refl
item_order Null (Int b) = refl
item_order (Bytes a) Null = refl
item_order (Bytes a) (Bytes b) = refl
item_order (Bytes a) (Text b) = refl
item_order (Bytes a) (Int b) = refl
item_order (Text a) Null = refl
item_order (Text a) (Bytes b) = refl
item_order (Text a) (Text b) = refl
item_order (Text a) (Int b) = refl
item_order (Int a) Null = refl
item_order (Int a) (Bytes b) = refl
item_order (Int a) (Text b) = refl
item_order (Int a) (Int b) = refl

items_order : (a b : List Cell) → tuple_cmp (items_of a) (items_of b) ≡ cells_cmp a b
items_order [] [] = refl
items_order [] (y ∷ b) = refl
items_order (x ∷ a) [] = refl
items_order (x ∷ a) (y ∷ b) = λ i. ordering_then (item_order x y i) (items_order a b i)

-- ORDER: the byte order of packs is the order of the cells
pub packs_order : (a b : List Cell) → All IsCell a → All IsCell b → bytes_cmp (spelling (items_of a)) (spelling (items_of b)) ≡ cells_cmp a b
packs_order a b are be = tuple_order (items_of a) (items_of b) (are_items-items_of a are) (are_items-items_of b be) ∙ items_order a b

-- ---- what stands behind a pack

pub tail_escapes : (y : List ℕ) → is_tail y ≡ true → NoEscapeFirst y
tail_escapes [] h = tt
tail_escapes (b ∷ y) h = ltb-true b 255 h

-- strings with their closing 00, the second with FF alone behind it
closed_stop : (s t r : List ℕ) → NoEscapeFirst r → bytes_cmp (closed s ++ r) (closed t ++ 255 ∷ []) ≡ ordering_then (bytes_cmp s t) (bytes_cmp r (255 ∷ []))
closed_stop [] [] r h = refl
closed_stop [] (zero ∷ ys) r h = before_escape r _ h
closed_stop [] (suc y ∷ ys) r h = rw (less zero (suc y) (omega arith)) refl
closed_stop (zero ∷ []) [] r h = refl
closed_stop (zero ∷ zero ∷ xs) [] r h = refl
closed_stop (zero ∷ suc x ∷ xs) [] r h = refl
closed_stop (suc x ∷ xs) [] r h = rw (greater (suc x) zero (omega arith)) refl
closed_stop (zero ∷ xs) (zero ∷ ys) r h = closed_stop xs ys r h
closed_stop (zero ∷ xs) (suc y ∷ ys) r h = rw (less zero (suc y) (omega arith)) refl
closed_stop (suc x ∷ xs) (zero ∷ ys) r h = rw (greater (suc x) zero (omega arith)) refl
closed_stop (suc x ∷ xs) (suc y ∷ ys) r h = ap (ordering_then (Rattle.std.specs.Ordering.nat_cmp (suc x) (suc y))) (closed_stop xs ys r h) ∙ sym (then_assoc (Rattle.std.specs.Ordering.nat_cmp (suc x) (suc y)) (bytes_cmp xs ys) (bytes_cmp r (255 ∷ [])))

-- the same with anything there that may end a range
closed_decides : (s t y z : List ℕ) → is_tail y ≡ true → is_stop z ≡ true → bytes_cmp (closed s ++ y) (closed t ++ z) ≡ ordering_then (bytes_cmp s t) (bytes_cmp y z)
closed_decides s t y [] h g = cmp_closed s t y [] (tail_escapes y h) tt
closed_decides s t y (b ∷ c ∷ z) h g = cmp_closed s t y (b ∷ c ∷ z) (tail_escapes y h) (ltb-true b 255 g)
closed_decides s t y (b ∷ []) h g =
    elim (cases_lt b 255) [
      | inl low ↦ cmp_closed s t y (b ∷ []) (tail_escapes y h) low
      | inr high ↦
          let last : b ≡ 255 = let below = ltb-true b 256 g in omega (arith, below, high) in
          subst (λ k. bytes_cmp (closed s ++ y) (closed t ++ k ∷ []) ≡ ordering_then (bytes_cmp s t) (bytes_cmp y (k ∷ []))) (sym last) (closed_stop s t y (tail_escapes y h))
    ]

-- other kinds come before whole numbers
pub before_int : (c : ℕ) (s z : List ℕ) (n : ℤ) → c < 12 → IsCell (Int n) → bytes_cmp (c ∷ s) (int_spelling n ++ z) ≡ Less
before_int c s z n low is =
    ap (λ t. bytes_cmp (c ∷ s) (t ++ z)) (begins outer (item.int n)) ∙ cmp_less c (int_code n) s (drop 1 (int_spelling n) ++ z) (omega (arith, low, (int_code_range n (is_item-item_of (Int n) is)).0))

after_int : (c : ℕ) (s z : List ℕ) (n : ℤ) → c < 12 → IsCell (Int n) → bytes_cmp (int_spelling n ++ z) (c ∷ s) ≡ Greater
after_int c s z n low is =
    ap (λ t. bytes_cmp (t ++ z) (c ∷ s)) (begins outer (item.int n)) ∙ cmp_greater (int_code n) c (drop 1 (int_spelling n) ++ z) s (omega (arith, low, (int_code_range n (is_item-item_of (Int n) is)).0))

-- DECIDES: between equal cells what stands behind their packs
pub decides : (a b : Cell) (y z : List ℕ) → IsCell a → IsCell b → is_tail y ≡ true → is_stop z ≡ true → bytes_cmp (item_spelling outer (item_of a) ++ y) (item_spelling outer (item_of b) ++ z) ≡ ordering_then (cell_cmp a b) (bytes_cmp y z)
decides Null Null y z p q h g = refl
decides Null (Bytes b) y z p q h g = refl
decides Null (Text b) y z p q h g = refl
decides Null (Int b) y z p q h g = before_int 0 y z b (omega arith) q
decides (Bytes a) Null y z p q h g = refl
decides (Bytes a) (Bytes b) y z p q h g = closed_decides a b y z h g
decides (Bytes a) (Text b) y z p q h g = refl
decides (Bytes a) (Int b) y z p q h g = before_int 1 (closed a ++ y) z b (omega arith) q
decides (Text a) Null y z p q h g = refl
decides (Text a) (Bytes b) y z p q h g = refl
decides (Text a) (Text b) y z p q h g = closed_decides a b y z h g
decides (Text a) (Int b) y z p q h g = before_int 2 (closed a ++ y) z b (omega arith) q
decides (Int a) Null y z p q h g = after_int 0 z y a (omega arith) p
decides (Int a) (Bytes b) y z p q h g = after_int 1 (closed b ++ z) y a (omega arith) p
decides (Int a) (Text b) y z p q h g = after_int 2 (closed b ++ z) y a (omega arith) p
decides (Int a) (Int b) y z p q h g = cmp_int a b y z (is_item-item_of (Int a) p) (is_item-item_of (Int b) q)

-- ---- ranges

pub low_first : (a : Cell) → IsCell a → nat_lt (code_of (item_of a)) 255 ≡ true
low_first a is = lt-ltb (code_of (item_of a)) 255 (omega (arith, code_low (item_of a) (is_item-item_of a is)))

-- further packs may stand behind a pack, also with FF behind them
pub packs_tail : (cells : List Cell) → All IsCell cells → is_tail (spelling (items_of cells)) ≡ true
packs_tail [] are = refl
packs_tail (a ∷ cells) are = ap (λ s. is_tail (s ++ spelling (items_of cells))) (begins outer (item_of a)) ∙ low_first a (All-head IsCell a cells are)

tail_stops : (b : ℕ) (s : List ℕ) → nat_lt b 255 ≡ true → is_stop (b ∷ s) ≡ true
tail_stops b [] low = let below = ltb-true b 255 low in lt-ltb b 256 (omega (arith, below))
tail_stops b (c ∷ s) low = low

pub packs_stop : (cells : List Cell) → All IsCell cells → is_stop (spelling (items_of cells)) ≡ true
packs_stop [] are = refl
packs_stop (a ∷ cells) are =
    ap (λ s. is_stop (s ++ spelling (items_of cells))) (begins outer (item_of a))
    ∙ tail_stops (code_of (item_of a)) (drop 1 (item_spelling outer (item_of a)) ++ spelling (items_of cells)) (low_first a (All-head IsCell a cells are))

pub ends_stop : (cells : List Cell) → All IsCell cells → is_stop (spelling (items_of cells) ++ 255 ∷ []) ≡ true
ends_stop [] are = refl
ends_stop (a ∷ cells) are =
    ap (λ s. is_stop ((s ++ spelling (items_of cells)) ++ 255 ∷ [])) (begins outer (item_of a))
    ∙ tail_stops (code_of (item_of a)) ((drop 1 (item_spelling outer (item_of a)) ++ spelling (items_of cells)) ++ 255 ∷ []) (low_first a (All-head IsCell a cells are))

-- the packs of cells stand where the first cell is decided and then the others
pub step : (a b : Cell) (cells fixed : List Cell) (z : List ℕ) → All IsCell (a ∷ cells) → All IsCell (b ∷ fixed) → is_stop (spelling (items_of fixed) ++ z) ≡ true →
    bytes_cmp (spelling (items_of (a ∷ cells))) (spelling (items_of (b ∷ fixed)) ++ z) ≡ ordering_then (cell_cmp a b) (bytes_cmp (spelling (items_of cells)) (spelling (items_of fixed) ++ z))
step a b cells fixed z are fixed_are stop =
    ap (bytes_cmp (spelling (items_of (a ∷ cells)))) (append_assoc (item_spelling outer (item_of b)) (spelling (items_of fixed)) z)
    ∙ decides a b (spelling (items_of cells)) (spelling (items_of fixed) ++ z) (All-head IsCell a cells are) (All-head IsCell b fixed fixed_are) (packs_tail cells (All-tail IsCell a cells are)) stop
