-- The parts of a range before a key and from it on, and the pairs in each.
use Rattle.std.proofs.Common.{◌≡◌, ℕ, Bool, true, false, cond, ◌&&◌, List, [], ◌∷◌, ◌++◌, reverse, inl, inr, refl, sym, ap, subst, ◌∙◌}
use Rattle.std.proofs.lemmas.Bool.{and_from, and_parts, cases_Bool, not_from_false, not_from_true}
use Rattle.std.proofs.lemmas.List.{reverse-append}
use Rattle.std.specs.List.{AllByRecursion, filter}
use Rattle.std.specs.FinMap.{entries}
use Rattle.kv_core.specs.Bytes.{end_of_keys, key_le, key_lt, key_max, key_min, next_key}
use Rattle.kv_core.specs.Range.{KeyRange, contains, is_key_range, part_before, part_from}
use Rattle.kv_core.specs.RangeLaws.{PartsByKey}
use Rattle.kv_core.specs.Map.{Map, pairs_in}
use Rattle.kv_core.proofs.Lists.{filter-filter, filter_here, filter_not}
use Rattle.kv_core.proofs.Order.{le-key_max, le_both, le_from, le_from_lt, le_gives, le_refl, le_trans, less_self, lt-key_min, lt_le_trans}
use Rattle.kv_core.proofs.Pairs.{InOrder, directed, entries-kept, next_least, ordered_pairs}

abbrev Key : Type 0
Key = List ℕ

abbrev Pair : Type 0
Pair = Key × Key

-- from a key on, to come before the later of it and another one is to come before the other one
lt-key_max : (a b k : Key) → key_le a k ≡ true → key_lt k (key_max a b) ≡ key_lt k b
lt-key_max a b k from = elim (cases_Bool (key_lt a b)) [
  | inl before ↦ ap (λ t. key_lt k (cond t b a)) before
  | inr past ↦
      ap (λ t. key_lt k (cond t b a)) past ∙ le_gives a k from
      ∙ sym (le_gives b k (le_trans b a k (le_from b a past) from))
]

-- before a key, to be at or after the earlier of it and another one is to be at or after the other one
le-key_min : (a b k : Key) → key_lt k a ≡ true → key_le (key_min a b) k ≡ key_le b k
le-key_min a b k before = elim (cases_Bool (key_lt b a)) [
  | inl less ↦ ap (λ t. key_le (cond t b a) k) less
  | inr past ↦
      ap (λ t. key_le (cond t b a) k) past ∙ not_from_true (key_lt k a) before
      ∙ sym (not_from_true (key_lt k b) (lt_le_trans k a b before (le_from a b past)))
]

swapped : (p q r : Bool) → (p && (q && r)) ≡ ((p && r) && q)
swapped true true true = refl
swapped true true false = refl
swapped true false true = refl
swapped true false false = refl
swapped false q r = refl

-- equal tests beside one that holds
beside : (p q r : Bool) → (p ≡ true → q ≡ r) → (p && q) ≡ (p && r)
beside true q r e = e refl
beside false q r e = refl

pub contains-before : (range : KeyRange) (key q : Key) → contains (part_before key range) q ≡ (contains range q && key_lt q key)
contains-before range key q =
    beside (key_le range.begin q) (key_lt q (key_max range.begin (key_min key range.end))) (key_lt q key && key_lt q range.end)
    (λ from. lt-key_max range.begin (key_min key range.end) q from ∙ lt-key_min q key range.end)
    ∙ swapped (key_le range.begin q) (key_lt q key) (key_lt q range.end)

turned : (p q r : Bool) → (q ≡ true → p ≡ r) → (p && q) ≡ (r && q)
turned p true r e = ap (λ b. b && true) (e refl)
turned true false true e = refl
turned true false false e = refl
turned false false true e = refl
turned false false false e = refl

last_two : (p q r : Bool) → ((p && q) && r) ≡ ((p && r) && q)
last_two true true true = refl
last_two true true false = refl
last_two true false true = refl
last_two true false false = refl
last_two false q r = refl

pub contains-from : (range : KeyRange) (key q : Key) → contains (part_from key range) q ≡ (contains range q && key_le key q)
contains-from range key q =
    turned (key_le (key_min range.end (key_max range.begin key)) q) (key_lt q range.end) (key_le range.begin q && key_le key q)
    (λ before. le-key_min range.end (key_max range.begin key) q before ∙ le-key_max range.begin key q)
    ∙ last_two (key_le range.begin q) (key_le key q) (key_lt q range.end)

pub parts_by_key : PartsByKey
parts_by_key range key q = (contains-before range key q, contains-from range key q)

-- both parts of a lawful range are lawful
pub is_key_range-before : (range : KeyRange) (key : Key) → is_key_range range ≡ true → is_key_range (part_before key range) ≡ true
is_key_range-before range key h =
    let own = and_parts (key_le range.begin range.end) (key_le range.end end_of_keys) h in
    let least = key_min key range.end in
    elim (cases_Bool (key_lt range.begin least)) [
      | inl some ↦
          subst (λ t. (key_le range.begin (cond t least range.begin) && key_le (cond t least range.begin) end_of_keys) ≡ true) (sym some)
          (and_from (key_le range.begin least) (key_le least end_of_keys) (le_from_lt range.begin least some) (le_trans least range.end end_of_keys (upto range.end) own.1))
      | inr none ↦
          subst (λ t. (key_le range.begin (cond t least range.begin) && key_le (cond t least range.begin) end_of_keys) ≡ true) (sym none)
          (and_from (key_le range.begin range.begin) (key_le range.begin end_of_keys) (le_refl range.begin) (le_trans range.begin range.end end_of_keys own.0 own.1))
    ]
  where
    upto : (e : Key) → key_le (key_min key e) e ≡ true
    upto e = elim (cases_Bool (key_lt e key)) [
      | inl less ↦ subst (λ t. key_le (cond t e key) e ≡ true) (sym less) (le_refl e)
      | inr past ↦ subst (λ t. key_le (cond t e key) e ≡ true) (sym past) (le_from key e past)
    ]

pub is_key_range-from : (range : KeyRange) (key : Key) → is_key_range range ≡ true → is_key_range (part_from key range) ≡ true
is_key_range-from range key h =
    let own = and_parts (key_le range.begin range.end) (key_le range.end end_of_keys) h in
    let most = key_max range.begin key in
    and_from (key_le (key_min range.end most) range.end) (key_le range.end end_of_keys)
    (elim (cases_Bool (key_lt most range.end)) [
      | inl less ↦ subst (λ t. key_le (cond t most range.end) range.end ≡ true) (sym less) (le_from_lt most range.end less)
      | inr past ↦ subst (λ t. key_le (cond t most range.end) range.end ≡ true) (sym past) (le_refl range.end)
    ])
    own.1

-- so are ranges with the begins and ends of those
pub lawful_at : (part : KeyRange) (b e : Key) → is_key_range part ≡ true → b ≡ part.begin → e ≡ part.end → is_key_range (record { begin = b; end = e }) ≡ true
lawful_at part b e h p q = (λ i. key_le (p i) (q i) && key_le (q i) end_of_keys) ∙ h

-- pairs in order, none of which comes before a key
none_before : (key : Key) (es : List Pair) → AllByRecursion (λ e. key_lt e.0 key ≡ false) es → filter (λ e. key_lt e.0 key) es ≡ []
none_before key [] a = refl
none_before key (e ∷ es) a = filter_not (λ e. key_lt e.0 key) e es a.0 ∙ none_before key es a.1

all_from : (key : Key) (es : List Pair) → AllByRecursion (λ e. key_lt e.0 key ≡ false) es → filter (λ e. key_le key e.0) es ≡ es
all_from key [] a = refl
all_from key (e ∷ es) a = filter_here (λ e. key_le key e.0) e es (not_from_false (key_lt e.0 key) a.0) ∙ ap (λ xs. e ∷ xs) (all_from key es a.1)

later_from : (key first : Key) (es : List Pair) → key_lt first key ≡ false → AllByRecursion (λ e. key_lt first e.0 ≡ true) es → AllByRecursion (λ e. key_lt e.0 key ≡ false) es
later_from key first [] past a = tt
later_from key first (e ∷ es) past a =
    (le_gives key e.0 (le_trans key first e.0 (le_from key first past) (le_from_lt first e.0 a.0)), later_from key first es past a.1)

-- pairs in order are those before a key and those from it on
cut_at : (key : Key) (es : List Pair) → InOrder false es → es ≡ filter (λ e. key_lt e.0 key) es ++ filter (λ e. key_le key e.0) es
cut_at key [] o = refl
cut_at key (e ∷ es) o = elim (cases_Bool (key_lt e.0 key)) [
  | inl before ↦
      ap (λ xs. e ∷ xs) (cut_at key es o.1)
      ∙ sym (λ i. filter_here (λ x. key_lt x.0 key) e es before i ++ filter_not (λ x. key_le key x.0) e es (not_from_true (key_lt e.0 key) before) i)
  | inr past ↦
      let all : AllByRecursion (λ x. key_lt x.0 key ≡ false) (e ∷ es) = (past, later_from key e.0 es past o.0) in
      sym (λ i. none_before key (e ∷ es) all i ++ all_from key (e ∷ es) all i)
]

-- the pairs of a part of a range are those of its pairs that pass the part's test
pairs_in-part : (m : Map) (range part : KeyRange) (p : Key → Bool) → ((q : Key) → contains part q ≡ (contains range q && p q)) → pairs_in m part ≡ filter (λ e. p e.0) (pairs_in m range)
pairs_in-part m range part p is =
    entries-kept m (contains part) ∙ sym (filter-filter (λ e. p e.0) (λ e. contains range e.0) (λ e. contains part e.0) (λ e. is e.0) (entries m))
    ∙ ap (filter (λ e. p e.0)) (sym (entries-kept m (contains range)))

-- the pairs of a range are those of its part before a key and those of its part from the key on
pub pairs_in-parts : (m : Map) (range : KeyRange) (key : Key) → pairs_in m range ≡ pairs_in m (part_before key range) ++ pairs_in m (part_from key range)
pairs_in-parts m range key =
    cut_at key (pairs_in m range) (ordered_pairs m range false)
    ∙ sym (λ i. pairs_in-part m range (part_before key range) (λ q. key_lt q key) (contains-before range key) i ++ pairs_in-part m range (part_from key range) (λ q. key_le key q) (contains-from range key) i)

-- in the direction of a read, the part of a range that it comes to first where the range is cut at a key, and the other one
abbrev pub near : Bool → List ℕ → KeyRange → KeyRange
near b key range = cond b (part_from key range) (part_before key range)

abbrev pub far : Bool → List ℕ → KeyRange → KeyRange
far b key range = cond b (part_before key range) (part_from key range)

pub directed-parts : (m : Map) (b : Bool) (range : KeyRange) (key : Key) →
    directed b (pairs_in m range) ≡ directed b (pairs_in m (near b key range)) ++ directed b (pairs_in m (far b key range))
directed-parts m true range key = ap reverse (pairs_in-parts m range key) ∙ reverse-append (pairs_in m (part_before key range)) (pairs_in m (part_from key range))
directed-parts m false range key = pairs_in-parts m range key

max_is : (a b : Key) → key_le a b ≡ true → key_max a b ≡ b
max_is a b h = elim (cases_Bool (key_lt a b)) [
  | inl before ↦ ap (λ t. cond t b a) before
  | inr past ↦ ap (λ t. cond t b a) past ∙ le_both a b past (le_gives a b h)
]

min_is : (a b : Key) → key_le b a ≡ true → key_min a b ≡ b
min_is a b h = elim (cases_Bool (key_lt b a)) [
  | inl before ↦ ap (λ t. cond t b a) before
  | inr past ↦ ap (λ t. cond t b a) past ∙ le_both a b (le_gives b a h) past
]

-- the part of a range from one of its keys on begins with the key, and the part up to and with it ends past it
pub part_from-inside : (range : KeyRange) (key : Key) → contains range key ≡ true → part_from key range ≡ record { begin = key; end = range.end }
part_from-inside range key h =
    let own = and_parts (key_le range.begin key) (key_lt key range.end) h in
    let begin : key_min range.end (key_max range.begin key) ≡ key = ap (key_min range.end) (max_is range.begin key own.0) ∙ min_is range.end key (le_from_lt key range.end own.1) in
    λ i. record { begin = begin i; end = range.end }

pub part_before-next : (range : KeyRange) (key : Key) → contains range key ≡ true → part_before (next_key key) range ≡ record { begin = range.begin; end = next_key key }
part_before-next range key h =
    let own = and_parts (key_le range.begin key) (key_lt key range.end) h in
    let end : key_max range.begin (key_min (next_key key) range.end) ≡ next_key key =
    ap (λ t. key_max range.begin (cond t range.end (next_key key))) (next_least key range.end own.1)
    ∙ max_is range.begin (next_key key) (le_trans range.begin key (next_key key) own.0 (le_from_lt key (next_key key) (less_self key))) in
    λ i. record { begin = range.begin; end = end i }
