-- The map that chains show at a version, key by key and in the order of its keys.
use Rattle.std.proofs.Common.{arith, ◌≡◌, ℕ, ◌+◌, ◌-◌, ◌<◌, ◌≤◌, Bool, true, false, cond, not, ◌&&◌, nat_le, Option, None, Some, List, [], ◌∷◌, ◌++◌, length, take, inl, inr, refl, sym, ap, subst, ◌∙◌}
use Rattle.std.proofs.lemmas.Bool.{cases_Bool, le-leb}
use Rattle.std.proofs.lemmas.Cmp.{nat_list_cmp_total}
use Rattle.std.proofs.lemmas.List.{length_push}
use Rattle.std.proofs.lemmas.List.Elements.{filter-append}
use Rattle.std.proofs.lemmas.Map.{lookup-none}
use Rattle.std.proofs.lemmas.Map.Entries.{none_past_head}
use Rattle.std.proofs.lemmas.Map.Keys.{IsDistinct-from_sorted, sorted_head, sorted_tail}
use Rattle.std.specs.Cmp.{eq_by_cmp_equiv}
use Rattle.std.specs.BTreeMap.{BTreeMap, IsOrdered, is_at}
use Rattle.std.specs.FinMap.{entries, get, get-empty, get-entries, get-remove, insert}
use Rattle.std.specs.List.{AllByRecursion, filter, flat_map}
use Rattle.std.specs.List.Sorted.{IsStrictlySortedBy}
use Rattle.std.specs.Map.{keys_of, lookup}
use Rattle.std.specs.Ordering.{is_eq, is_le}
use Rattle.std.specs.declared.cmp.Ordering.TheVariants.{Less}
use Rattle.kv_core.specs.Bytes.{has_key, key_cmp}
use Rattle.kv_core.specs.Map.{Map, after, is_just, pairs_in}
use Rattle.kv_core.specs.Range.{KeyRange, contains, entries_in}
use Rattle.kv_core.specs.Read.{read_of}
use Rattle.kv_core.specs.declared.change.Mutation.TheVariants.{ClearRange, CompareAndClear}
use Rattle.kv_core.proofs.Changes.{compared_here, compared_other, get-set, same_maps}
use Rattle.kv_core.proofs.Order.{tied_swap}
use Rattle.kv_core.proofs.Pairs.{All-reverse, entries-kept}
use Rattle.kv_core.proofs.Stored.{between_is, get-stored, looked_up, full, pairs_in-stored, stops, stored, stored-without, turn}
use Rattle.cluster_core.specs.declared.chain.Chain.{Chain}
use Rattle.cluster_core.specs.declared.chain.Link.{Link}
use Rattle.cluster_core.specs.Chains.{AreFalling, IsFalling, links_at, links_in, links_of, put, shown, value_at, with_value, without}
use Rattle.cluster_core.specs.Server.{turned}
use Rattle.cluster_core.proofs.ChainMaps.{ChangesAt}
use Rattle.cluster_core.proofs.JoinedPairs.{turned-flat_map}

abbrev Entry : Type 0
Entry = List ℕ × Chain

abbrev Pair : Type 0
Pair = List ℕ × List ℕ

abbrev Tree : Type 0
Tree = BTreeMap (List ℕ) Chain

get-with_value : (m : Map) (k : List ℕ) (o : Option (List ℕ)) (q : List ℕ) → get (with_value m k o) q ≡ cond (is_eq (key_cmp q k)) o (get m q)
get-with_value m k None q = get-remove nat_list_cmp_total m k q
get-with_value m k (Some v) q = get-set m k v q

shown_entries : (es : List Entry) (v : ℕ) (q : List ℕ) → get (shown es v) q ≡ value_at v (links_in (lookup (is_at (key_cmp q)) es))
shown_entries [] v q = get-empty key_cmp q
shown_entries (e ∷ es) v q =
    get-with_value (shown es v) e.0 (value_at v (links_of e.1)) q
    ∙ elim (is_eq (key_cmp q e.0)) as (λ b. cond b (value_at v (links_of e.1)) (get (shown es v) q) ≡ value_at v (links_in (cond b (Some e.1) (lookup (is_at (key_cmp q)) es)))) [
      | true ↦ refl
      | false ↦ shown_entries es v q
    ]

-- what a key has in the map is what its links say
pub get-shown : (chains : Tree) (v : ℕ) (q : List ℕ) → get (shown chains.entries v) q ≡ value_at v (links_at chains q)
get-shown chains v q = shown_entries chains.entries v q

-- chains whose links say the same at each key show the same map
pub same_shown : (chains others : Tree) (v w : ℕ) → ((q : List ℕ) → value_at v (links_at chains q) ≡ value_at w (links_at others q)) → shown chains.entries v ≡ shown others.entries w
same_shown chains others v w same = same_maps _ _ (λ q. get-shown chains v q ∙ same q ∙ sym (get-shown others w q))

-- the pairs of entries at a version, in order
abbrev pub pair_of : List ℕ → Option (List ℕ) → List Pair
pair_of k None = []
pair_of k (Some v) = (k, v) ∷ []

abbrev pub pairs_shown : ℕ → List Entry → List Pair
pairs_shown v es = flat_map (λ e. pair_of e.0 (value_at v (links_of e.1))) es

none_later : (q : List ℕ) (e : Entry) (es : List Entry) → IsStrictlySortedBy key_cmp (keys_of (e ∷ es)) → is_eq (key_cmp q e.0) ≡ true → lookup (is_at (key_cmp q)) es ≡ None
none_later q e es sorted here =
    lookup-none (is_at (key_cmp q)) es (none_past_head (eq_by_cmp_equiv nat_list_cmp_total) q e es (IsDistinct-from_sorted key_cmp (keys_of (e ∷ es)) sorted) here)

look_there : (q : List ℕ) (k : List ℕ) (more : List Pair) → is_eq (key_cmp q k) ≡ true → (o : Option (List ℕ)) → lookup (is_at (key_cmp q)) more ≡ None →
    lookup (is_at (key_cmp q)) (pair_of k o ++ more) ≡ o
look_there q k more here None none = none
look_there q k more here (Some x) none = ap (λ b. cond b (Some x) (lookup (is_at (key_cmp q)) more)) here

look_past : (q : List ℕ) (k : List ℕ) (more : List Pair) → is_eq (key_cmp q k) ≡ false → (o : Option (List ℕ)) → lookup (is_at (key_cmp q)) (pair_of k o ++ more) ≡ lookup (is_at (key_cmp q)) more
look_past q k more other None = refl
look_past q k more other (Some x) = ap (λ b. cond b (Some x) (lookup (is_at (key_cmp q)) more)) other

look_pairs : (v : ℕ) (q : List ℕ) (es : List Entry) → IsStrictlySortedBy key_cmp (keys_of es) → lookup (is_at (key_cmp q)) (pairs_shown v es) ≡ value_at v (links_in (lookup (is_at (key_cmp q)) es))
look_pairs v q [] sorted = refl
look_pairs v q (e ∷ es) sorted =
    let more = look_pairs v q es (sorted_tail key_cmp e.0 (keys_of es) sorted) in elim (cases_Bool (is_eq (key_cmp q e.0))) [
      | inl here ↦
          look_there q e.0 (pairs_shown v es) here (value_at v (links_of e.1)) (more ∙ ap (λ o. value_at v (links_in o)) (none_later q e es sorted here))
          ∙ sym (ap (λ b. value_at v (links_in (cond b (Some e.1) (lookup (is_at (key_cmp q)) es)))) here)
      | inr other ↦
          look_past q e.0 (pairs_shown v es) other (value_at v (links_of e.1)) ∙ more
          ∙ sym (ap (λ b. value_at v (links_in (cond b (Some e.1) (lookup (is_at (key_cmp q)) es)))) other)
    ]

below_one : (k : List ℕ) (own : List ℕ) (o : Option (List ℕ)) (more : List Pair) → key_cmp k own ≡ Less → AllByRecursion (λ y. key_cmp k y ≡ Less) (keys_of more) →
    AllByRecursion (λ y. key_cmp k y ≡ Less) (keys_of (pair_of own o ++ more))
below_one k own None more here all = all
below_one k own (Some x) more here all = (here, all)

below_pairs : (v : ℕ) (k : List ℕ) (es : List Entry) → AllByRecursion (λ y. key_cmp k y ≡ Less) (keys_of es) → AllByRecursion (λ y. key_cmp k y ≡ Less) (keys_of (pairs_shown v es))
below_pairs v k [] h = tt
below_pairs v k (e ∷ es) h = below_one k e.0 (value_at v (links_of e.1)) (pairs_shown v es) h.0 (below_pairs v k es h.1)

sorted_one : (k : List ℕ) (o : Option (List ℕ)) (more : List Pair) → AllByRecursion (λ y. key_cmp k y ≡ Less) (keys_of more) → IsStrictlySortedBy key_cmp (keys_of more) →
    IsStrictlySortedBy key_cmp (keys_of (pair_of k o ++ more))
unfolding IsStrictlySortedBy
sorted_one k None more below sorted = sorted
sorted_one k (Some x) more below sorted = (below, sorted)

sorted_none : IsStrictlySortedBy key_cmp []
unfolding IsStrictlySortedBy
sorted_none = tt

sorted_pairs : (v : ℕ) (es : List Entry) → IsStrictlySortedBy key_cmp (keys_of es) → IsStrictlySortedBy key_cmp (keys_of (pairs_shown v es))
sorted_pairs v [] h = sorted_none
sorted_pairs v (e ∷ es) h =
    sorted_one e.0 (value_at v (links_of e.1)) (pairs_shown v es) (below_pairs v e.0 es (sorted_head key_cmp e.0 (keys_of es) h)) (sorted_pairs v es (sorted_tail key_cmp e.0 (keys_of es) h))

-- the entries in a range
abbrev pub chains_in : KeyRange → List Entry → List Entry
chains_in range es = filter (λ e. contains range e.0) es

pair_in : (range : KeyRange) (k : List ℕ) (o : Option (List ℕ)) → contains range k ≡ true → entries_in range (pair_of k o) ≡ pair_of k o
pair_in range k None here = refl
pair_in range k (Some x) here = ap (λ b. cond b ((k, x) ∷ []) []) here

pair_outside : (range : KeyRange) (k : List ℕ) (o : Option (List ℕ)) → contains range k ≡ false → entries_in range (pair_of k o) ≡ []
pair_outside range k None other = refl
pair_outside range k (Some x) other = ap (λ b. cond b ((k, x) ∷ []) []) other

pairs_of_range : (v : ℕ) (range : KeyRange) (es : List Entry) → entries_in range (pairs_shown v es) ≡ pairs_shown v (chains_in range es)
pairs_of_range v range [] = refl
pairs_of_range v range (e ∷ es) =
    let first = pair_of e.0 (value_at v (links_of e.1)) in
    filter-append (λ x. contains range x.0) first (pairs_shown v es)
    ∙ ap (λ ps. entries_in range first ++ ps) (pairs_of_range v range es)
    ∙ elim (cases_Bool (contains range e.0)) [
      | inl here ↦
          ap (λ ps. ps ++ pairs_shown v (chains_in range es)) (pair_in range e.0 (value_at v (links_of e.1)) here)
          ∙ sym (ap (λ b. pairs_shown v (cond b (e ∷ chains_in range es) (chains_in range es))) here)
      | inr other ↦
          ap (λ ps. ps ++ pairs_shown v (chains_in range es)) (pair_outside range e.0 (value_at v (links_of e.1)) other)
          ∙ sym (ap (λ b. pairs_shown v (cond b (e ∷ chains_in range es) (chains_in range es))) other)
    ]

-- the pairs of a range are those of the entries in it
pub pairs_in-shown : (v : ℕ) (range : KeyRange) (es : List Entry) → IsStrictlySortedBy key_cmp (keys_of es) → pairs_in (shown es v) range ≡ pairs_shown v (chains_in range es)
pairs_in-shown v range es sorted =
    ap (λ m. pairs_in m range) (same_maps (shown es v) (stored (pairs_shown v es)) (λ q. shown_entries es v q ∙ sym (look_pairs v q es sorted) ∙ sym (get-stored (pairs_shown v es) q)))
    ∙ pairs_in-stored (pairs_shown v es) range (sorted_pairs v es sorted) ∙ pairs_of_range v range es

-- in order, or from the last one back
turned_pairs : (b : Bool) (v : ℕ) (es : List Entry) → turned b (pairs_shown v es) ≡ pairs_shown v (turned b es)
turned_pairs b v es =
    turned-flat_map b (λ e. pair_of e.0 (value_at v (links_of e.1))) es ∙ (λ i. flat_map (λ e. one b e.0 (value_at v (links_of e.1)) i) (turned b es))
  where
    one : (b : Bool) (k : List ℕ) (o : Option (List ℕ)) → turned b (pair_of k o) ≡ pair_of k o
    one true k None = refl
    one true k (Some x) = refl
    one false k o = refl

pub read-shown : (v : ℕ) (range : KeyRange) (es : List Entry) (limit : ℕ) (b : Bool) → IsStrictlySortedBy key_cmp (keys_of es) →
    read_of (shown es v) range limit b ≡ take limit (pairs_shown v (turned b (chains_in range es)))
read-shown v range es limit b sorted =
    ap (λ ps. take limit (turned b ps)) (pairs_in-shown v range es sorted) ∙ ap (take limit) (turned_pairs b v (chains_in range es))

-- each of the entries has the links of its key
each_entry : (P : List Link → Type 0) → P [] → (es : List Entry) → IsStrictlySortedBy key_cmp (keys_of es) → ((q : List ℕ) → P (links_in (lookup (is_at (key_cmp q)) es))) →
    AllByRecursion (λ e. P (links_of e.1)) es
each_entry P none [] sorted all = tt
each_entry P none (e ∷ es) sorted all = (
  subst (λ b. P (links_in (cond b (Some e.1) (lookup (is_at (key_cmp e.0)) es)))) (self e.0) (all e.0),
  each_entry P none es (sorted_tail key_cmp e.0 (keys_of es) sorted) (λ q. elim (cases_Bool (is_eq (key_cmp q e.0))) [
    | inl here ↦ subst (λ o. P (links_in o)) (sym (none_later q e es sorted here)) none
    | inr other ↦ subst (λ b. P (links_in (cond b (Some e.1) (lookup (is_at (key_cmp q)) es)))) other (all q)
  ]),
)
  where
    self : (k : List ℕ) → is_eq (key_cmp k k) ≡ true
    self k = (eq_by_cmp_equiv nat_list_cmp_total).refl k

all_filtered : {X : Type 0} (P : X → Type 0) (p : X → Bool) (xs : List X) → AllByRecursion P xs → AllByRecursion P (filter p xs)
all_filtered P p [] all = tt
all_filtered P p (x ∷ xs) all = elim (p x) as (λ b. AllByRecursion P (cond b (x ∷ filter p xs) (filter p xs))) [ true ↦ (all.0, all_filtered P p xs all.1) | false ↦ all_filtered P p xs all.1 ]

pub falling_in : (range : KeyRange) (chains : Tree) (b : Bool) → IsOrdered key_cmp chains → AreFalling chains → AllByRecursion (λ e. IsFalling (links_of e.1)) (turned b (chains_in range chains.entries))
falling_in range chains b sorted falling = by b
  where
    all : AllByRecursion (λ e. IsFalling (links_of e.1)) (chains_in range chains.entries)
    all = all_filtered (λ e. IsFalling (links_of e.1)) (λ e. contains range e.0) chains.entries (each_entry IsFalling tt chains.entries sorted falling)

    by : (b : Bool) → AllByRecursion (λ e. IsFalling (links_of e.1)) (turned b (chains_in range chains.entries))
    by true = All-reverse (λ e. IsFalling (links_of e.1)) (chains_in range chains.entries) all
    by false = all

-- the test of a map's range is that of a key range
is_there : List Pair → Bool
is_there [] = false
is_there (x ∷ xs) = true

in_bounds : (range : KeyRange) (b e : List ℕ) → b ≡ range.begin → e ≡ range.end → (k : List ℕ) → (is_le (key_cmp b k) && not (is_le (key_cmp e k))) ≡ contains range k
unfolding is_there
in_bounds range b e p q k =
    sym (one (is_le (key_cmp b k) && not (is_le (key_cmp e k)))) ∙ ap is_there (between_is range b e ((k, []) ∷ []) p q) ∙ one (contains range k)
  where
    one : (c : Bool) → is_there (cond c ((k, []) ∷ []) []) ≡ c
    one true = refl
    one false = refl

pub chains_between : (range : KeyRange) (b e : List ℕ) (es : List Entry) → b ≡ range.begin → e ≡ range.end →
    filter (λ x. is_le (key_cmp b x.0) && not (is_le (key_cmp e x.0))) es ≡ chains_in range es
chains_between range b e es p q = λ i. filter (λ x. in_bounds range b e p q x.0 i) es

-- a value put at a key is one put into the map
at_version : (v : ℕ) → nat_le v v ≡ true
at_version v = le-leb v v (omega arith)

pub value_at-put : (v : ℕ) (o : Option (List ℕ)) (links : List Link) → value_at v (put v o links) ≡ o
value_at-put v o links = ap (λ b. cond b o (value_at v (without v links))) (at_version v)

-- a value that is put at a key, or that there is none, is put into the map
pub shown_with : (old new : Tree) (v : ℕ) (k : List ℕ) (o : Option (List ℕ)) → ChangesAt k (put v o) old new → shown new.entries v ≡ with_value (shown old.entries v) k o
shown_with old new v k o changes = same_maps _ _ (λ q.
    get-shown new v q ∙ ap (value_at v) (changes q)
    ∙ elim (is_eq (key_cmp k q)) as (λ b. value_at v (cond b (put v o (links_at old q)) (links_at old q)) ≡ cond b o (value_at v (links_at old q))) [
      | true ↦ value_at-put v o (links_at old q)
      | false ↦ refl
    ]
    ∙ ap (λ b. cond b o (value_at v (links_at old q))) (tied_swap k q)
    ∙ ap (cond (is_eq (key_cmp q k)) o) (sym (get-shown old v q))
    ∙ sym (get-with_value (shown old.entries v) k o q))

pub shown_put : (old new : Tree) (v : ℕ) (k x : List ℕ) → ChangesAt k (put v (Some x)) old new → shown new.entries v ≡ insert (shown old.entries v) k x
shown_put old new v k x changes = shown_with old new v k (Some x) changes

-- a key whose value is just the operand is cleared, and another one stays
pub shown_compared : (old new : Tree) (v : ℕ) (k o : List ℕ) → is_just o (value_at v (links_at old k)) ≡ true → ChangesAt k (put v None) old new →
    shown new.entries v ≡ after (CompareAndClear k o) (shown old.entries v)
shown_compared old new v k o here changes =
    shown_with old new v k None changes ∙ compared_here (shown old.entries v) k o (ap (is_just o) (get-shown old v k) ∙ here)

pub shown_uncompared : (old : Tree) (v : ℕ) (k o : List ℕ) → is_just o (value_at v (links_at old k)) ≡ false → shown old.entries v ≡ after (CompareAndClear k o) (shown old.entries v)
shown_uncompared old v k o other = compared_other (shown old.entries v) k o (ap (is_just o) (get-shown old v k) ∙ other)

-- a map without the keys that another one has in a range
stored_again : (m : Map) → stored (entries m) ≡ m
stored_again m = same_maps _ _ (λ q. get-stored (entries m) q ∙ looked_up q (entries m) ∙ sym (get-entries m q))

look_entries : (m : Map) (q : List ℕ) → get m q ≡ lookup (is_at (key_cmp q)) (entries m)
look_entries m q = get-entries m q ∙ sym (looked_up q (entries m))

pub cleared_map : (m n : Map) (range : KeyRange) → ((q : List ℕ) → get n q ≡ cond (has_key (keys_of (pairs_in m range)) q) None (get m q)) → n ≡ after (ClearRange range) m
cleared_map m n range gone =
    sym (stored_again n)
    ∙ stored-without (entries m) (entries n) range (λ q.
    sym (look_entries n q) ∙ gone q ∙ (λ i. cond (has_key (keys_of (entries-kept m (contains range) i)) q) None (look_entries m q i)))
    ∙ ap (after (ClearRange range)) (stored_again m)

-- a read on its way: its start, a pair more, an entry without a pair, and its ends
pub read_start : (v : ℕ) (limit : ℕ) (b : Bool) (rest all : List Entry) (pairs : List Pair) → pairs ≡ [] → rest ≡ all →
    pairs ++ take (limit - length pairs) (pairs_shown v (turned b rest)) ≡ take limit (pairs_shown v (turned b all))
read_start v limit b rest all pairs none is =
    let whole : limit - 0 ≡ limit = omega arith in
    (λ i. none i ++ take (limit - length (none i)) (pairs_shown v (turned b (is i)))) ∙ ap (λ n. take n (pairs_shown v (turned b all))) whole

pub read_pair : (v : ℕ) (limit : ℕ) (rest more : List Entry) (e : Entry) (x k' x' : List ℕ) (pairs new all : List Pair) → length pairs < limit → rest ≡ e ∷ more →
    value_at v (links_of e.1) ≡ Some x → k' ≡ e.0 → x' ≡ x → new ≡ pairs ++ (k', x') ∷ [] →
    pairs ++ take (limit - length pairs) (pairs_shown v rest) ≡ all → new ++ take (limit - length new) (pairs_shown v more) ≡ all
read_pair v limit rest more e x k' x' pairs new all below is has same_key same done so =
    let pushed : new ≡ pairs ++ (e.0, x) ∷ [] = done ∙ (λ i. pairs ++ (same_key i, same i) ∷ []) in
    let count : length (pairs ++ (e.0, x) ∷ []) ≡ length pairs + 1 = length_push pairs (e.0, x) in
    ap (λ ps. ps ++ take (limit - length ps) (pairs_shown v more)) pushed
    ∙ ap (λ n. (pairs ++ (e.0, x) ∷ []) ++ take (limit - n) (pairs_shown v more)) count
    ∙ turn pairs (pairs_shown v rest) (pairs_shown v more) limit (length pairs) (e.0, x) all below
    (ap (pairs_shown v) is ∙ ap (λ o. pair_of e.0 o ++ pairs_shown v more) has) so

pub read_none : (v : ℕ) (limit : ℕ) (rest more : List Entry) (e : Entry) (pairs all : List Pair) → rest ≡ e ∷ more → value_at v (links_of e.1) ≡ None →
    pairs ++ take (limit - length pairs) (pairs_shown v rest) ≡ all → pairs ++ take (limit - length pairs) (pairs_shown v more) ≡ all
read_none v limit rest more e pairs all is none so =
    sym (ap (λ ps. pairs ++ take (limit - length pairs) ps) (ap (pairs_shown v) is ∙ ap (λ o. pair_of e.0 o ++ pairs_shown v more) none)) ∙ so

pub read_full : (v : ℕ) (limit : ℕ) (rest : List Entry) (pairs all : List Pair) → limit ≤ length pairs → pairs ++ take (limit - length pairs) (pairs_shown v rest) ≡ all → pairs ≡ all
read_full v limit rest pairs all over so = full pairs (pairs_shown v rest) limit (length pairs) all over so

pub read_stops : (v : ℕ) (limit : ℕ) (rest : List Entry) (pairs all : List Pair) → rest ≡ [] → pairs ++ take (limit - length pairs) (pairs_shown v rest) ≡ all → pairs ≡ all
read_stops v limit rest pairs all none so = stops pairs (pairs_shown v rest) (limit - length pairs) all (ap (pairs_shown v) none) so
