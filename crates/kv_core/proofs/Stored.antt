-- A map of the standard library against the finite map that it stands for.
use Rattle.std.proofs.Common.{◌≡◌, ℕ, zero, Bool, true, false, cond, not, ◌&&◌, ◌||◌, Option, suc, ◌+◌, ◌-◌, ◌<◌, ◌≤◌, length, take, get_or, reverse, T, arith, None, Some, List, [], ◌∷◌, ◌++◌, refl, sym, ap, subst, ◌∙◌}
use Rattle.std.proofs.lemmas.Cmp.{nat_list_cmp_total}
use Rattle.std.proofs.lemmas.List.{reverse-append, take_more}
use Rattle.std.proofs.lemmas.List.Folds.{list_any-append}
use Rattle.std.proofs.lemmas.Map.Made.{is_some-lookup}
use Rattle.std.proofs.lemmas.Map.Entries.{lookup-filter-keys}
use Rattle.std.specs.declared.cmp.Ordering.{Ordering}
use Rattle.std.specs.declared.cmp.Ordering.TheVariants.{Less, Equal, Greater}
use Rattle.std.specs.List.{filter, AllByRecursion}
use Rattle.std.specs.List.Sorted.{IsStrictlySortedBy}
use Rattle.std.specs.Map.{keys_of, lookup}
use Rattle.std.specs.Option.{is_some}
use Rattle.std.specs.BTreeMap.{insert_entry, is_at}
use Rattle.std.specs.Ordering.{is_lt, is_gt, is_le, is_eq, ordering_reverse, match_ordering}
use Rattle.std.specs.FinMap.{FinMap, entries, get, insert, remove, retain_keys, from_entries, from_sorted, empty, find, put, is_sorted, entries-from_sorted, get-from_sorted, get-from_entries, get-entries, get-insert, get-remove}
use Rattle.kv_core.specs.Bytes.{has_key, key_cmp, key_le}
use Rattle.kv_core.specs.Range.{KeyRange, contains, entries_in, entries_outside}
use Rattle.kv_core.specs.Map.{Map, after, pairs_in}
use Rattle.kv_core.specs.Read.{read_of, limited}
use Rattle.kv_core.specs.declared.change.Mutation.{Mutation}
use Rattle.kv_core.specs.declared.change.Mutation.TheVariants.{Set, ClearRange}
use Rattle.std.specs.FinMap.Entries.{below_all, find-put}
use Rattle.std.proofs.lemmas.Map.Keys.{sorted_head, sorted_tail}
use Rattle.std.proofs.lemmas.Bool.{and_parts}
use Rattle.kv_core.specs.Range.{is_key_range}
use Rattle.kv_core.specs.Bytes.{end_of_keys}
use Rattle.kv_core.proofs.Order.{tied_keys, tied_swap, le_gives, lt_is_gt}
use Rattle.kv_core.proofs.Changes.{get-kept, get-set, same_maps}
use Rattle.kv_core.proofs.Pairs.{entries-kept}

abbrev Pair : Type 0
Pair = List ℕ × List ℕ

-- the finite map of a list of entries
abbrev pub stored : List Pair → Map
stored es = from_entries es

-- the two look-ups in a list of entries are one
pub looked_up : (q : List ℕ) (es : List Pair) → lookup (is_at (key_cmp q)) es ≡ find key_cmp q es
looked_up q [] = refl
looked_up q (e ∷ es) = ap (λ r. cond (is_eq (key_cmp q e.0)) (Some e.1) r) (looked_up q es)

pub get-stored : (es : List Pair) (q : List ℕ) → get (stored es) q ≡ lookup (is_at (key_cmp q)) es
get-stored es q = get-from_entries nat_list_cmp_total es q ∙ sym (looked_up q es)

-- an order read from its other side
same_le : (r : Ordering) → is_le r ≡ not (is_lt (ordering_reverse r))
same_le Less = refl
same_le Equal = refl
same_le Greater = refl

same_gt : (r : Ordering) → not (is_le r) ≡ is_lt (ordering_reverse r)
same_gt Less = refl
same_gt Equal = refl
same_gt Greater = refl

-- the test of a map's range is that of a key range, key by key
pub in_bounds : (range : KeyRange) (k : List ℕ) → (is_le (key_cmp range.begin k) && not (is_le (key_cmp range.end k))) ≡ contains range k
in_bounds range k =
    ap (λ b. b && not (is_le (key_cmp range.end k))) (same_le (key_cmp range.begin k) ∙ ap (λ r. not (is_lt r)) (sym (nat_list_cmp_total.antisymm k range.begin)))
    ∙ ap (λ b. key_le range.begin k && b) (same_gt (key_cmp range.end k) ∙ ap is_lt (sym (nat_list_cmp_total.antisymm k range.end)))

pub between_is : (range : KeyRange) (b e : List ℕ) (es : List Pair) → b ≡ range.begin → e ≡ range.end →
    filter (λ x. is_le (key_cmp b x.0) && not (is_le (key_cmp e x.0))) es ≡ entries_in range es
between_is range b e es p q = (λ i. filter (λ x. is_le (key_cmp (p i) x.0) && not (is_le (key_cmp (q i) x.0))) es) ∙ (λ i. filter (λ x. in_bounds range x.0 i) es)

-- a lawful range doesn't run backwards
pub forward : (range : KeyRange) (b e : List ℕ) → b ≡ range.begin → e ≡ range.end → is_key_range range ≡ true → is_gt (key_cmp b e) ≡ false
forward range b e p q h =
    (λ i. is_gt (key_cmp (p i) (q i)))
    ∙ sym (lt_is_gt range.begin range.end) ∙ le_gives range.begin range.end (and_parts (key_le range.begin range.end) (key_le range.end end_of_keys) h).0

-- keys in order are the keys of a finite map's list
below : (k : List ℕ) (es : List Pair) → AllByRecursion (λ y. key_cmp k y ≡ Less) (keys_of es) → below_all key_cmp k es ≡ true
below k [] h = refl
below k (e ∷ es) h = ap (λ r. is_lt r && below_all key_cmp k es) h.0 ∙ below k es h.1

pub sorted_entries : (es : List Pair) → IsStrictlySortedBy key_cmp (keys_of es) → is_sorted key_cmp es ≡ true
sorted_entries [] h = refl
sorted_entries (e ∷ es) h =
    ap (λ b. b && is_sorted key_cmp es) (below e.0 es (sorted_head key_cmp e.0 (keys_of es) h)) ∙ sorted_entries es (sorted_tail key_cmp e.0 (keys_of es) h)

-- the entries in order are those of the finite map
pub entries-stored : (es : List Pair) → IsStrictlySortedBy key_cmp (keys_of es) → entries (stored es) ≡ es
entries-stored es h =
    let s = subst T (sym (sorted_entries es h)) tt in
    ap entries (same_maps (stored es) (from_sorted es) (λ q. get-from_entries nat_list_cmp_total es q ∙ sym (get-from_sorted key_cmp es q s)))
    ∙ entries-from_sorted key_cmp es s

pub pairs_in-stored : (es : List Pair) (range : KeyRange) → IsStrictlySortedBy key_cmp (keys_of es) → pairs_in (stored es) range ≡ entries_in range es
pairs_in-stored es range h = entries-kept (stored es) (contains range) ∙ ap (entries_in range) (entries-stored es h)

-- an insertion is one of the finite map
inserted_is : (es : List Pair) (k v : List ℕ) → insert_entry key_cmp es k v ≡ put key_cmp k v es
inserted_is [] k v = refl
inserted_is (e ∷ es) k v =
    elim (key_cmp k e.0) as (λ r. match_ordering r ((k, v) ∷ e ∷ es) ((e.0, v) ∷ es) (e ∷ insert_entry key_cmp es k v) ≡ Rattle.std.specs.FinMap.Entries.by_order r ((k, v) ∷ e ∷ es) ((e.0, v) ∷ es) (e ∷ put key_cmp k v es)) [
      | Less ↦ refl
      | Equal ↦ refl
      | Greater ↦ ap (λ xs. e ∷ xs) (inserted_is es k v)
    ]

pub stored-set : (es : List Pair) (k v : List ℕ) → stored (insert_entry key_cmp es k v) ≡ after (Set k v) (stored es)
stored-set es k v = same_maps _ _
    (λ q. get-from_entries nat_list_cmp_total _ q ∙ ap (find key_cmp q) (inserted_is es k v) ∙ find-put key_cmp nat_list_cmp_total q k v es
    ∙ ap (λ o. cond (is_eq (key_cmp q k)) (Some v) o) (sym (get-from_entries nat_list_cmp_total es q)) ∙ sym (get-set (stored es) k v q))

-- a key taken out of the entries is taken out of the finite map
pub stored-removed : (m : Map) (es new : List Pair) (k : List ℕ) → stored es ≡ m →
    ((q : List ℕ) → lookup (is_at (key_cmp q)) new ≡ cond (is_eq (key_cmp k q)) None (lookup (is_at (key_cmp q)) es)) → stored new ≡ remove m k
stored-removed m es new k view gone = same_maps (stored new) (remove m k)
    (λ q. get-stored new q ∙ gone q ∙ ap (cond (is_eq (key_cmp k q)) None) (sym (get-stored es q) ∙ ap (λ x. get x q) view)
    ∙ ap (λ b. cond b None (get m q)) (tied_swap k q) ∙ sym (get-remove nat_list_cmp_total m k q))

-- the keys of a range's entries are gone, and the others stay, where those in the range are taken out
cleared_at : (range : KeyRange) (es : List Pair) (q : List ℕ) →
    cond (has_key (keys_of (entries_in range es)) q) None (lookup (is_at (key_cmp q)) es) ≡ cond (not (contains range q)) (lookup (is_at (key_cmp q)) es) None
cleared_at range es q =
    ap (λ b. cond b None (lookup (is_at (key_cmp q)) es))
    (sym (is_some-lookup (is_at (key_cmp q)) (entries_in range es)) ∙ ap is_some (lookup-filter-keys (is_at (key_cmp q)) (contains range) (contains range q) (λ k t. ap (contains range) (sym (tied_keys q k t))) es))
    ∙ either (contains range q) (lookup (is_at (key_cmp q)) es)
  where
    either : (b : Bool) (o : Option (List ℕ)) → cond (is_some (cond b o None)) None o ≡ cond (not b) o None
    either true (Some v) = refl
    either true None = refl
    either false o = refl

pub stored-without : (es new : List Pair) (range : KeyRange) →
    ((q : List ℕ) → lookup (is_at (key_cmp q)) new ≡ cond (has_key (keys_of (entries_in range es)) q) None (lookup (is_at (key_cmp q)) es)) →
    stored new ≡ after (ClearRange range) (stored es)
stored-without es new range gone = same_maps _ _
    (λ q. get-stored new q ∙ gone q ∙ cleared_at range es q
    ∙ ap (λ o. cond (not (contains range q)) o None) (sym (get-stored es q)) ∙ sym (get-kept (stored es) (λ k. not (contains range k)) q))

pub stored-cleared : (es : List Pair) (range : KeyRange) → stored (entries_outside range es) ≡ after (ClearRange range) (stored es)
stored-cleared es range = stored-without es (entries_outside range es) range
    (λ q. lookup-filter-keys (is_at (key_cmp q)) (λ k. not (contains range k)) (not (contains range q)) (λ k t. ap (λ x. not (contains range x)) (sym (tied_keys q k t))) es
    ∙ sym (cleared_at range es q))

-- a walk along entries up to a limit, which has ps so far: one turn, and its ends
nothing_left : {X : Type 0} (ps : List X) → ps ++ [] ≡ ps
nothing_left [] = refl
nothing_left (p ∷ ps) = ap (λ xs. p ∷ xs) (nothing_left ps)

pub one_more : {X : Type 0} (ps qs : List X) (e : X) → (ps ++ e ∷ []) ++ qs ≡ ps ++ e ∷ qs
one_more [] qs e = refl
one_more (p ∷ ps) qs e = ap (λ xs. p ∷ xs) (one_more ps qs e)

pub turn : {X : Type 0} (ps rest more : List X) (limit i : ℕ) (e : X) (all : List X) → i < limit → rest ≡ e ∷ more →
    ps ++ take (limit - i) rest ≡ all → (ps ++ e ∷ []) ++ take (limit - (i + 1)) more ≡ all
turn ps rest more limit i e all below is so =
    let n : limit - i ≡ suc (limit - (i + 1)) = omega (arith, below) in
    one_more ps (take (limit - (i + 1)) more) e ∙ ap (λ xs. ps ++ xs) (sym (ap (λ m. take m (e ∷ more)) n)) ∙ ap (λ xs. ps ++ take (limit - i) xs) (sym is) ∙ so

pub stops : {X : Type 0} (ps rest : List X) (n : ℕ) (all : List X) → rest ≡ [] → ps ++ take n rest ≡ all → ps ≡ all
stops ps rest n all is so = sym (ap (λ xs. ps ++ take n xs) is ∙ ap (λ xs. ps ++ xs) (none n) ∙ nothing_left ps) ∙ so
  where
    none : {X : Type 0} (k : ℕ) → take {A = X} k [] ≡ []
    none zero = refl
    none (suc k) = refl

pub full : {X : Type 0} (ps rest : List X) (limit i : ℕ) (all : List X) → limit ≤ i → ps ++ take (limit - i) rest ≡ all → ps ≡ all
full ps rest limit i all over so =
    let n : limit - i ≡ 0 = omega (arith, over) in
    sym (ap (λ m. ps ++ take m rest) n ∙ nothing_left ps) ∙ so

pub last_first : {X : Type 0} (rest more : List X) (e : X) → rest ≡ more ++ e ∷ [] → reverse rest ≡ e ∷ reverse more
last_first rest more e is = ap reverse is ∙ reverse-append more (e ∷ [])

-- what the calls on a map say of the finite map
pub read-stored : (m : Map) (es : List Pair) → stored es ≡ m → IsStrictlySortedBy key_cmp (keys_of es) → (range : KeyRange) (limit : ℕ) (b : Bool) →
    limited limit b (entries_in range es) ≡ read_of m range limit b
read-stored m es v h range limit b = ap (limited limit b) (sym (pairs_in-stored es range h) ∙ ap (λ x. pairs_in x range) v)

pub clear_applied : (m : Map) (es new : List Pair) (c : Mutation) (range : KeyRange) (keys : List (List ℕ)) → stored es ≡ m → c ≡ ClearRange range →
    keys ≡ keys_of (entries_in range es) → ((q : List ℕ) → lookup (is_at (key_cmp q)) new ≡ cond (has_key keys q) None (lookup (is_at (key_cmp q)) es)) → stored new ≡ after c m
clear_applied m es new c range keys view is listed gone =
    stored-without es new range (λ q. gone q ∙ ap (λ ks. cond (has_key ks q) None (lookup (is_at (key_cmp q)) es)) listed)
    ∙ ap (after (ClearRange range)) view ∙ ap (λ x. after x m) (sym is)

pub starts : {X : Type 0} (ps rest all : List X) (limit : ℕ) → ps ≡ [] → rest ≡ all → ps ++ take (limit - 0) rest ≡ take limit all
starts ps rest all limit p q = let n : limit - 0 ≡ limit = omega arith in (λ i. p i ++ take (n i) (q i))

-- to take out one key more
pub taken_more : (keys : List (List ℕ)) (i : ℕ) (k q : List ℕ) (was now after : Option (List ℕ)) → i < length keys → k ≡ get_or keys i k →
    now ≡ cond (has_key (take i keys) q) None was → after ≡ cond (is_eq (key_cmp k q)) None now → after ≡ cond (has_key (take (i + 1) keys) q) None was
taken_more keys i k q was now after below is before step =
    step ∙ ap (cond (is_eq (key_cmp k q)) None) before ∙ both (is_eq (key_cmp k q)) (has_key (take i keys) q) was
    ∙ ap (λ b. cond (has_key (take i keys) q || (b || false)) None was) (tied_swap k q ∙ ap (λ x. is_eq (key_cmp q x)) is)
    ∙ ap (λ b. cond b None was) (sym (list_any-append (λ own. is_eq (key_cmp q own)) (take i keys) (get_or keys i k ∷ [])))
    ∙ ap (λ ks. cond (has_key ks q) None was) (sym (take_more keys i k below))
  where
    both : (a b : Bool) (o : Option (List ℕ)) → cond a None (cond b None o) ≡ cond (b || (a || false)) None o
    both true true o = refl
    both true false o = refl
    both false true o = refl
    both false false o = refl

-- a map with these pairs put into it, the last one first
abbrev pub put_before : List Pair → Map → Map
put_before [] m = m
put_before (p ∷ ps) m = insert (put_before ps m) p.0 p.1

pub put_before-push : (ps : List Pair) (p : Pair) (m : Map) → put_before (ps ++ p ∷ []) m ≡ put_before ps (insert m p.0 p.1)
put_before-push [] p m = refl
put_before-push (x ∷ ps) p m = ap (λ n. insert n x.0 x.1) (put_before-push ps p m)

pub put_before-empty : (ps : List Pair) → put_before ps empty ≡ stored ps
put_before-empty [] = refl
put_before-empty (p ∷ ps) = ap (λ n. insert n p.0 p.1) (put_before-empty ps)

pub put_turn : (rest more es new all : List Pair) (k v : List ℕ) → rest ≡ more ++ (k, v) ∷ [] → new ≡ insert_entry key_cmp es k v →
    put_before rest (stored es) ≡ stored all → put_before more (stored new) ≡ stored all
put_turn rest more es new all k v is done so =
    ap (put_before more) (ap stored done ∙ stored-set es k v) ∙ sym (put_before-push more (k, v) (stored es)) ∙ ap (λ xs. put_before xs (stored es)) (sym is) ∙ so
