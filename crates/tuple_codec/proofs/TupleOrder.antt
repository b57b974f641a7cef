-- The byte order of spellings is the order of tuples.
use Rattle.std.specs.Prelude.{◌≡◌, refl, ℕ, zero, suc, ◌+◌, ◌-◌, ◌^◌, if◌then◌else◌, nat_lt, ◌<◌, ◌≤◌, ℤ, pos, negsuc, true, false, List, [], ◌∷◌, ◌++◌, drop, nat_le}
use Rattle.std.specs.Ordering.{ordering_then, nat_cmp}
use Rattle.std.specs.declared.cmp.Ordering.TheVariants.{Less, Greater}
use Rattle.std.proofs.lemmas.Cmp.{ranked, by_ranked}
use Rattle.std.proofs.Common.{arith, inl, inr, subst, sym, ap, ◌∙◌, append_assoc}
use Rattle.std.proofs.lemmas.Bool.{cases_lt}
use Rattle.std.proofs.lemmas.Bool.Decides.{nat_tests}
use Rattle.tuple_codec.specs.Item.{Item, null, bytes, text, nested, int, bool, uuid, stamp, Items, no_items, item}
use Rattle.tuple_codec.specs.Item.{items_from, IsItem, AreItems, magnitude}
use Rattle.tuple_codec.specs.Order.{item_rank, bytes_cmp, same_kind_cmp, item_cmp, items_cmp, tuple_cmp}
use Rattle.tuple_codec.specs.Spelling.{Place, outer, inner, null_spelling, item_spelling, items_spelling, spelling, int_spelling, byte_count}
use Rattle.tuple_codec.specs.Refusal.{NoEscapeFirst}
use Rattle.tuple_codec.proofs.ByteOrder.{less, greater, then_assoc, cmp_same_length, cmp_closed, before_escape, after_escape}
use Rattle.tuple_codec.proofs.IntOrder.{cmp_int, byte_count_is}

-- ---- the codes rise with the ranks

-- 1 where c is at least t
abbrev reached : ℕ → ℕ → ℕ
reached t c = if nat_le t c then 1 else 0

reached_more : (t c d : ℕ) → c ≤ d → reached t c ≤ reached t d
reached_more t c d h = grind (arith, nat_tests)

-- the rank of the items that the code c begins
abbrev rank_at : ℕ → ℕ
rank_at c = reached 1 c + reached 2 c + reached 3 c + reached 6 c + reached 29 c + reached 39 c + reached 40 c + reached 49 c

rank_at_more : (c d : ℕ) → c ≤ d → rank_at c ≤ rank_at d
rank_at_more c d h =
    omega (arith, reached_more 1 c d h, reached_more 2 c d h, reached_more 3 c d h, reached_more 6 c d h, reached_more 29 c d h, reached_more 39 c d h, reached_more 40 c d h, reached_more 49 c d h)

rank_at_int : (c : ℕ) → 6 ≤ c → c ≤ 28 → rank_at c ≡ 4
rank_at_int c h g = omega (arith, rank_at_more 6 c h, rank_at_more c 28 g)

-- the code of an integer
unfoldable pub int_code : ℤ → ℕ
int_code (pos zero) = 20
int_code (pos (suc n)) = 20 + byte_count (suc n)
int_code (negsuc n) = 20 - byte_count (suc n)

pub int_code_range : (z : ℤ) → magnitude z < 2 ^ 64 → (12 ≤ int_code z) × (int_code z ≤ 28)
unfolding int_code
int_code_range (pos zero) h = (omega arith, omega arith)
int_code_range (pos (suc n)) h = let c = (byte_count_is (suc n) h).1 in (omega arith, omega (arith, c))
int_code_range (negsuc n) h = let c = (byte_count_is (suc n) h).1 in (omega (arith, c), omega arith)

int_begins : (z : ℤ) → int_spelling z ≡ int_code z ∷ drop 1 (int_spelling z)
unfolding int_code int_spelling
int_begins (pos zero) = refl
int_begins (pos (suc n)) = refl
int_begins (negsuc n) = refl

null_begins : (p : Place) → null_spelling p ≡ 0 ∷ drop 1 (null_spelling p)
null_begins outer = refl
null_begins inner = refl

-- the first byte of an item's spelling
abbrev pub code_of : Item → ℕ
code_of null = 0
code_of (bytes s) = 1
code_of (text s) = 2
code_of (nested xs) = 5
code_of (int z) = int_code z
code_of (bool false) = 38
code_of (bool true) = 39
code_of (uuid u) = 48
code_of (stamp v) = 51

rank_is : (x : Item) → IsItem x → rank_at (code_of x) ≡ item_rank x
rank_is null h = refl
rank_is (bytes s) h = refl
rank_is (text s) h = refl
rank_is (nested xs) h = refl
rank_is (int z) h = let k = int_code_range z h in rank_at_int (int_code z) (omega (arith, k.0)) k.1
rank_is (bool false) h = refl
rank_is (bool true) h = refl
rank_is (uuid u) h = refl
rank_is (stamp v) h = refl

pub code_low : (x : Item) → IsItem x → code_of x < 52
code_low null h = omega arith
code_low (bytes s) h = omega arith
code_low (text s) h = omega arith
code_low (nested xs) h = omega arith
code_low (int z) h = omega (arith, (int_code_range z h).1)
code_low (bool false) h = omega arith
code_low (bool true) h = omega arith
code_low (uuid u) h = omega arith
code_low (stamp v) h = omega arith

pub begins : (p : Place) (x : Item) → item_spelling p x ≡ code_of x ∷ drop 1 (item_spelling p x)
begins p null = null_begins p
begins p (bytes s) = refl
begins p (text s) = refl
begins p (nested xs) = refl
begins p (int z) = int_begins z
begins p (bool false) = refl
begins p (bool true) = refl
begins p (uuid u) = refl
begins p (stamp v) = refl

codes_rise : (x y : Item) → IsItem x → IsItem y → item_rank x < item_rank y → code_of x < code_of y
codes_rise x y h g below =
    elim (cases_lt (code_of x) (code_of y)) [
      | inl low ↦ low
      | inr high ↦ absurd (omega (arith, rank_at_more (code_of y) (code_of x) high, rank_is x h, rank_is y g))
    ]

first_less : (a b : ℕ) (s t r q : List ℕ) → a < b → bytes_cmp ((a ∷ s) ++ r) ((b ∷ t) ++ q) ≡ Less
first_less a b s t r q h = rw (less a b h) refl

first_greater : (a b : ℕ) (s t r q : List ℕ) → b < a → bytes_cmp ((a ∷ s) ++ r) ((b ∷ t) ++ q) ≡ Greater
first_greater a b s t r q h = rw (greater a b h) refl

apart_less : (p : Place) (x y : Item) (r q : List ℕ) → code_of x < code_of y → bytes_cmp (item_spelling p x ++ r) (item_spelling p y ++ q) ≡ Less
apart_less p x y r q h =
    ap (λ s. bytes_cmp (s ++ r) (item_spelling p y ++ q)) (begins p x)
    ∙ ap (λ t. bytes_cmp ((code_of x ∷ drop 1 (item_spelling p x)) ++ r) (t ++ q)) (begins p y)
    ∙ first_less (code_of x) (code_of y) (drop 1 (item_spelling p x)) (drop 1 (item_spelling p y)) r q h

apart_greater : (p : Place) (x y : Item) (r q : List ℕ) → code_of y < code_of x → bytes_cmp (item_spelling p x ++ r) (item_spelling p y ++ q) ≡ Greater
apart_greater p x y r q h =
    ap (λ s. bytes_cmp (s ++ r) (item_spelling p y ++ q)) (begins p x)
    ∙ ap (λ t. bytes_cmp ((code_of x ∷ drop 1 (item_spelling p x)) ++ r) (t ++ q)) (begins p y)
    ∙ first_greater (code_of x) (code_of y) (drop 1 (item_spelling p x)) (drop 1 (item_spelling p y)) r q h

-- the ranks decide, and within a kind what same says
by_ranks : (p : Place) (x y : Item) (r q : List ℕ) → IsItem x → IsItem y → (item_rank x ≡ item_rank y → bytes_cmp (item_spelling p x ++ r) (item_spelling p y ++ q) ≡ ordering_then (same_kind_cmp x y) (bytes_cmp r q)) → bytes_cmp (item_spelling p x ++ r) (item_spelling p y ++ q) ≡ ordering_then (item_cmp x y) (bytes_cmp r q)
by_ranks p x y r q h g same =
    by_ranked _ _ _ (nat_cmp (item_rank x) (item_rank y)) (ranked (item_rank x) (item_rank y) (nat_cmp (item_rank x) (item_rank y)) refl)
    (λ e k. apart_less p x y r q (codes_rise x y h g k) ∙ sym (ap (λ o. ordering_then (ordering_then o (same_kind_cmp x y)) (bytes_cmp r q)) e))
    (λ e k. same k ∙ sym (ap (λ o. ordering_then (ordering_then o (same_kind_cmp x y)) (bytes_cmp r q)) e))
    (λ e k. apart_greater p x y r q (codes_rise y x g h k) ∙ sym (ap (λ o. ordering_then (ordering_then o (same_kind_cmp x y)) (bytes_cmp r q)) e))

-- no spelling of items begins with FF
no_escape : (p : Place) (x : Item) (r : List ℕ) → IsItem x → NoEscapeFirst (item_spelling p x ++ r)
no_escape p x r h = subst (λ s. NoEscapeFirst (s ++ r)) (sym (begins p x)) (omega (arith, code_low x h))

pub inner_tail : (xs : Items) (r : List ℕ) → AreItems xs → NoEscapeFirst (items_spelling xs ++ 0 ∷ r)
inner_tail no_items r h = omega arith
inner_tail (item x xs) r h = subst NoEscapeFirst (sym (append_assoc (item_spelling inner x) (items_spelling xs) (0 ∷ r))) (no_escape inner x (items_spelling xs ++ 0 ∷ r) h.0)

-- the constructor of an item, as a number
abbrev pub kind : Item → ℕ
kind null = 0
kind (bytes s) = 1
kind (text s) = 2
kind (nested xs) = 3
kind (int z) = 4
kind (bool b) = 5
kind (uuid u) = 6
kind (stamp v) = 7

abbrev pub kind_at : ℕ → ℕ
kind_at r = if nat_lt r 6 then r else r - 1

pub kind_is : (x : Item) → kind_at (item_rank x) ≡ kind x
kind_is null = refl
kind_is (bytes s) = refl
kind_is (text s) = refl
kind_is (nested xs) = refl
kind_is (int z) = refl
kind_is (bool false) = refl
kind_is (bool true) = refl
kind_is (uuid u) = refl
kind_is (stamp v) = refl

-- a nested tuple's end comes before each item there
end_first : (y : Item) (r q : List ℕ) → IsItem y → NoEscapeFirst r → bytes_cmp (0 ∷ r) (item_spelling inner y ++ q) ≡ Less
end_first null r q g a = before_escape r q a
end_first (bytes s) r q g a = refl
end_first (text s) r q g a = refl
end_first (nested xs) r q g a = refl
end_first (int z) r q g a = ap (λ t. bytes_cmp (0 ∷ r) (t ++ q)) (int_begins z) ∙ first_less 0 (int_code z) [] (drop 1 (int_spelling z)) r q (omega (arith, (int_code_range z g).0))
end_first (bool false) r q g a = refl
end_first (bool true) r q g a = refl
end_first (uuid u) r q g a = refl
end_first (stamp v) r q g a = refl

end_last : (x : Item) (r q : List ℕ) → IsItem x → NoEscapeFirst q → bytes_cmp (item_spelling inner x ++ r) (0 ∷ q) ≡ Greater
end_last null r q g a = after_escape q r a
end_last (bytes s) r q g a = refl
end_last (text s) r q g a = refl
end_last (nested xs) r q g a = refl
end_last (int z) r q g a = ap (λ t. bytes_cmp (t ++ r) (0 ∷ q)) (int_begins z) ∙ first_greater (int_code z) 0 (drop 1 (int_spelling z)) [] r q (omega (arith, (int_code_range z g).0))
end_last (bool false) r q g a = refl
end_last (bool true) r q g a = refl
end_last (uuid u) r q g a = refl
end_last (stamp v) r q g a = refl

same_null : (p : Place) (r q : List ℕ) → bytes_cmp (null_spelling p ++ r) (null_spelling p ++ q) ≡ bytes_cmp r q
same_null outer r q = refl
same_null inner r q = refl

-- Items of one kind, and nested tuples with their closing 00, with anything behind them that may stand there: they decide, and then what is behind them.
mutual
  same_kind : (p : Place) (x y : Item) (r q : List ℕ) → IsItem x → IsItem y → NoEscapeFirst r → NoEscapeFirst q → item_rank x ≡ item_rank y → kind x ≡ kind y → bytes_cmp (item_spelling p x ++ r) (item_spelling p y ++ q) ≡ ordering_then (same_kind_cmp x y) (bytes_cmp r q)
  same_kind p null null r q h g a b e k = same_null p r q
  same_kind p (bytes s) (bytes t) r q h g a b e k = cmp_closed s t r q a b
  same_kind p (text s) (text t) r q h g a b e k = cmp_closed s t r q a b
  same_kind p (nested xs) (nested ys) r q h g a b e k =
      ap (λ s. bytes_cmp s ((items_spelling ys ++ 0 ∷ []) ++ q)) (append_assoc (items_spelling xs) (0 ∷ []) r)
      ∙ ap (bytes_cmp (items_spelling xs ++ 0 ∷ r)) (append_assoc (items_spelling ys) (0 ∷ []) q)
      ∙ same_items xs ys r q h g a b
  same_kind p (int z) (int w) r q h g a b e k = cmp_int z w r q h g
  same_kind p (bool false) (bool false) r q h g a b e k = refl
  same_kind p (bool true) (bool true) r q h g a b e k = refl
  same_kind p (uuid u) (uuid v) r q h g a b e k = cmp_same_length u v r q (h.0 ∙ sym g.0)
  same_kind p (stamp u) (stamp v) r q h g a b e k = cmp_same_length u v r q (h.0 ∙ sym g.0)
  same_kind p x y r q h g a b e k = absurd (omega arith)

  same_items : (xs ys : Items) (r q : List ℕ) → AreItems xs → AreItems ys → NoEscapeFirst r → NoEscapeFirst q → bytes_cmp (items_spelling xs ++ 0 ∷ r) (items_spelling ys ++ 0 ∷ q) ≡ ordering_then (items_cmp xs ys) (bytes_cmp r q)
  same_items no_items no_items r q h g a b = refl
  same_items no_items (item y ys) r q h g a b = ap (bytes_cmp (0 ∷ r)) (append_assoc (item_spelling inner y) (items_spelling ys) (0 ∷ q)) ∙ end_first y r (items_spelling ys ++ 0 ∷ q) g.0 a
  same_items (item x xs) no_items r q h g a b = ap (λ s. bytes_cmp s (0 ∷ q)) (append_assoc (item_spelling inner x) (items_spelling xs) (0 ∷ r)) ∙ end_last x (items_spelling xs ++ 0 ∷ r) q h.0 b
  same_items (item x xs) (item y ys) r q h g a b =
      ap (λ s. bytes_cmp s ((item_spelling inner y ++ items_spelling ys) ++ 0 ∷ q)) (append_assoc (item_spelling inner x) (items_spelling xs) (0 ∷ r))
      ∙ ap (bytes_cmp (item_spelling inner x ++ (items_spelling xs ++ 0 ∷ r))) (append_assoc (item_spelling inner y) (items_spelling ys) (0 ∷ q))
      ∙ by_ranks inner x y (items_spelling xs ++ 0 ∷ r) (items_spelling ys ++ 0 ∷ q) h.0 g.0
      (λ e. same_kind inner x y (items_spelling xs ++ 0 ∷ r) (items_spelling ys ++ 0 ∷ q) h.0 g.0 (inner_tail xs r h.1) (inner_tail ys q g.1) e (sym (kind_is x) ∙ ap kind_at e ∙ kind_is y))
      ∙ ap (ordering_then (item_cmp x y)) (same_items xs ys r q h.1 g.1 a b)
      ∙ sym (then_assoc (item_cmp x y) (items_cmp xs ys) (bytes_cmp r q))

-- an item decides, and then what is behind it
pub item_order : (p : Place) (x y : Item) (r q : List ℕ) → IsItem x → IsItem y → NoEscapeFirst r → NoEscapeFirst q → bytes_cmp (item_spelling p x ++ r) (item_spelling p y ++ q) ≡ ordering_then (item_cmp x y) (bytes_cmp r q)
item_order p x y r q h g a b = by_ranks p x y r q h g (λ e. same_kind p x y r q h g a b e (sym (kind_is x) ∙ ap kind_at e ∙ kind_is y))

-- ---- tuples

pub outer_tail : (t : List Item) → AreItems (items_from t) → NoEscapeFirst (spelling t)
outer_tail [] h = tt
outer_tail (x ∷ t) h = no_escape outer x (spelling t) h.0

-- The byte order of the packs of two tuples is the order of the tuples.
pub tuple_order : (t u : List Item) → AreItems (items_from t) → AreItems (items_from u) → bytes_cmp (spelling t) (spelling u) ≡ tuple_cmp t u
tuple_order [] [] h g = refl
tuple_order [] (y ∷ u) h g = ap (bytes_cmp []) (ap (λ s. s ++ spelling u) (begins outer y))
tuple_order (x ∷ t) [] h g = ap (λ s. bytes_cmp (s ++ spelling t) []) (begins outer x)
tuple_order (x ∷ t) (y ∷ u) h g =
    item_order outer x y (spelling t) (spelling u) h.0 g.0 (outer_tail t h.1) (outer_tail u g.1) ∙ ap (ordering_then (item_cmp x y)) (tuple_order t u h.1 g.1)
