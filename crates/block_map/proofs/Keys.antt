-- How keys stand to each other, and lists of keys in order.
use Rattle.std.proofs.Common.{◌≡◌, ℕ, zero, suc, ◌<◌, true, false, true≢false, Ordering, Less, Equal, Greater, List, [], ◌∷◌, ◌++◌, length, get_or, refl, sym, ap, ◌∙◌, arith}
use Rattle.std.proofs.lemmas.Cmp.{nat_list_cmp_total, tied_itself}
use Rattle.std.proofs.lemmas.Map.Keys.{sorted_head, sorted_tail}
use Rattle.std.specs.List.{AllByRecursion}
use Rattle.std.specs.List.Sorted.{IsStrictlySortedBy}
use Rattle.std.specs.Map.{keys_of}
use Rattle.std.specs.Ordering.{is_eq, is_lt, ordering_reverse}
use Rattle.std.specs.BTreeMap.{is_at}
use Rattle.std_collections.proofs.Entries.{NonePasses}
use Rattle.kv_core.specs.Bytes.{key_cmp, key_lt}
use Rattle.kv_core.proofs.Order.{le_from, le_gives, le_lt_trans, le_trans, lt_le_trans}
use Rattle.block_map.specs.Blocks.{AreBefore, AreFrom}

less : (r : Ordering) → is_lt r ≡ true → r ≡ Less
less Less h = refl
less Equal h = absurd (true≢false (sym h))
less Greater h = absurd (true≢false (sym h))

pub below_Less : (a b : List ℕ) → key_lt a b ≡ true → key_cmp a b ≡ Less
below_Less a b h = less (key_cmp a b) h

pub below_Greater : (a b : List ℕ) → key_lt a b ≡ true → key_cmp b a ≡ Greater
below_Greater a b h = nat_list_cmp_total.antisymm b a ∙ ap ordering_reverse (below_Less a b h)

pub below_back : (a b : List ℕ) → key_lt a b ≡ true → key_lt b a ≡ false
below_back a b h = ap is_lt (below_Greater a b h)

pub Less-turned : (a b : List ℕ) → key_cmp a b ≡ Less → key_cmp b a ≡ Greater
Less-turned a b h = nat_list_cmp_total.antisymm b a ∙ ap ordering_reverse h

pub Greater-turned : (a b : List ℕ) → key_cmp a b ≡ Greater → key_cmp b a ≡ Less
Greater-turned a b h = nat_list_cmp_total.antisymm b a ∙ ap ordering_reverse h

-- a before b, and b at c or before it
pub below_upto : (a b c : List ℕ) → key_lt a b ≡ true → key_lt c b ≡ false → key_lt a c ≡ true
below_upto a b c p q = lt_le_trans a b c p (le_from b c q)

pub below_chain : (a b c : List ℕ) → key_lt a b ≡ true → key_lt b c ≡ true → key_lt a c ≡ true
below_chain a b c p q = ap is_lt (nat_list_cmp_total.trans a b c (below_Less a b p) (below_Less b c q))

-- a at b or before it, and b before c
pub upto_below : (a b c : List ℕ) → key_lt b a ≡ false → key_lt b c ≡ true → key_lt a c ≡ true
upto_below a b c p q = le_lt_trans a b c (le_from a b p) q

-- a at b or before it, and b at c or before it
pub upto_upto : (a b c : List ℕ) → key_lt b a ≡ false → key_lt c b ≡ false → key_lt c a ≡ false
upto_upto a b c p q = le_gives a c (le_trans a b c (le_from a b p) (le_from b c q))

module _ {X : Type 0} where
  -- a key from a bound on follows what comes before the bound, and one before it comes before the rest
  pub all_Greater : (key bound : List ℕ) → key_lt key bound ≡ false → (es : List (List ℕ × X)) → AreBefore bound es → AllByRecursion (λ e. key_cmp key e.0 ≡ Greater) es
  all_Greater key bound from [] all = tt
  all_Greater key bound from (e ∷ es) all = (below_Greater e.0 key (below_upto e.0 bound key all.0 from), all_Greater key bound from es all.1)

  pub all_Less : (key bound : List ℕ) → key_lt key bound ≡ true → (es : List (List ℕ × X)) → AreFrom bound es → AllByRecursion (λ e. key_cmp key e.0 ≡ Less) es
  all_Less key bound before [] all = tt
  all_Less key bound before (e ∷ es) all = (below_Less key e.0 (below_upto key bound e.0 before all.0), all_Less key bound before es all.1)

  pub none_Greater : (key : List ℕ) (es : List (List ℕ × X)) → AllByRecursion (λ e. key_cmp key e.0 ≡ Greater) es → NonePasses (is_at (key_cmp key)) es
  none_Greater key [] all = tt
  none_Greater key (e ∷ es) all = (ap is_eq all.0, none_Greater key es all.1)

  pub none_Less : (key : List ℕ) (es : List (List ℕ × X)) → AllByRecursion (λ e. key_cmp key e.0 ≡ Less) es → NonePasses (is_at (key_cmp key)) es
  none_Less key [] all = tt
  none_Less key (e ∷ es) all = (ap is_eq all.0, none_Less key es all.1)

  -- a bound from another one on has before it what that one has
  pub AreBefore-upto : (bound next : List ℕ) → key_lt bound next ≡ true → (es : List (List ℕ × X)) → AreBefore bound es → AreBefore next es
  AreBefore-upto bound next rise [] all = tt
  AreBefore-upto bound next rise (e ∷ es) all = (below_chain e.0 bound next all.0 rise, AreBefore-upto bound next rise es all.1)

  pub AreFrom-upto : (bound next : List ℕ) → key_lt bound next ≡ true → (es : List (List ℕ × X)) → AreFrom next es → AreFrom bound es
  AreFrom-upto bound next rise [] all = tt
  AreFrom-upto bound next rise (e ∷ es) all = (below_back bound e.0 (below_upto bound next e.0 rise all.0), AreFrom-upto bound next rise es all.1)

-- what holds of each of two lists
pub all_left : {A : Type 0} (P : A → Type 0) (xs ys : List A) → AllByRecursion P (xs ++ ys) → AllByRecursion P xs
all_left P [] ys all = tt
all_left P (x ∷ xs) ys all = (all.0, all_left P xs ys all.1)

pub all_right : {A : Type 0} (P : A → Type 0) (xs ys : List A) → AllByRecursion P (xs ++ ys) → AllByRecursion P ys
all_right P [] ys all = all
all_right P (x ∷ xs) ys all = all_right P xs ys all.1

pub all_both : {A : Type 0} (P : A → Type 0) (xs ys : List A) → AllByRecursion P xs → AllByRecursion P ys → AllByRecursion P (xs ++ ys)
all_both P [] ys first second = second
all_both P (x ∷ xs) ys first second = (first.0, all_both P xs ys first.1 second)

pub all_at : {A : Type 0} (P : A → Type 0) (xs : List A) (i : ℕ) (d : A) → AllByRecursion P xs → i < length xs → P (get_or xs i d)
all_at P [] i d all within = absurd (omega arith)
all_at P (x ∷ xs) zero d all within = all.0
all_at P (x ∷ xs) (suc i) d all within = all_at P xs i d all.1 (omega arith)

keys_left : {X : Type 0} (P : List ℕ → Type 0) (xs ys : List (List ℕ × X)) → AllByRecursion P (keys_of (xs ++ ys)) → AllByRecursion P (keys_of xs)
keys_left P [] ys all = tt
keys_left P (x ∷ xs) ys all = (all.0, keys_left P xs ys all.1)

-- a part of a list in order is in order
pub sorted_left : {X : Type 0} (xs ys : List (List ℕ × X)) → IsStrictlySortedBy key_cmp (keys_of (xs ++ ys)) → IsStrictlySortedBy key_cmp (keys_of xs)
unfolding IsStrictlySortedBy
sorted_left [] ys sorted = tt
sorted_left (x ∷ xs) ys sorted = (keys_left (λ y. key_cmp x.0 y ≡ Less) xs ys sorted.0, sorted_left xs ys sorted.1)

pub sorted_right : {X : Type 0} (xs ys : List (List ℕ × X)) → IsStrictlySortedBy key_cmp (keys_of (xs ++ ys)) → IsStrictlySortedBy key_cmp (keys_of ys)
unfolding IsStrictlySortedBy
sorted_right [] ys sorted = sorted
sorted_right (x ∷ xs) ys sorted = sorted_right xs ys sorted.1

module _ {X : Type 0} where
  each_later : (k : List ℕ) (es : List (List ℕ × X)) → AllByRecursion (λ n. key_cmp k n ≡ Less) (keys_of es) → AreFrom k es
  each_later k [] all = tt
  each_later k (e ∷ es) all = (below_back k e.0 (ap is_lt all.0), each_later k es all.1)

  -- entries in order are from their first key on
  pub from_first : (e : List ℕ × X) (es : List (List ℕ × X)) → IsStrictlySortedBy key_cmp (keys_of (e ∷ es)) → AreFrom e.0 (e ∷ es)
  from_first e es sorted = (ap is_lt (tied_itself nat_list_cmp_total e.0), each_later e.0 es (sorted_head key_cmp e.0 (keys_of es) sorted))

  reaches : (k : List ℕ) (ys : List (List ℕ × X)) (e : List ℕ × X) (es : List (List ℕ × X)) → AllByRecursion (λ n. key_cmp k n ≡ Less) (keys_of (ys ++ e ∷ es)) → key_cmp k e.0 ≡ Less
  reaches k [] e es all = all.0
  reaches k (y ∷ ys) e es all = reaches k ys e es all.1

  -- and before the first key behind them
  pub before_first : (xs : List (List ℕ × X)) (e : List ℕ × X) (es : List (List ℕ × X)) → IsStrictlySortedBy key_cmp (keys_of (xs ++ e ∷ es)) → AreBefore e.0 xs
  before_first [] e es sorted = tt
  before_first (x ∷ xs) e es sorted = (
    ap is_lt (reaches x.0 xs e es (sorted_head key_cmp x.0 (keys_of (xs ++ e ∷ es)) sorted)),
    before_first xs e es (sorted_tail key_cmp x.0 (keys_of (xs ++ e ∷ es)) sorted),
  )
