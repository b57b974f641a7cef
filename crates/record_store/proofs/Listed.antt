-- The states that are listed of indexes: their numbers, what is told of each, and where one of them changes.
use Rattle.std.proofs.Common.{◌≡◌, ℕ, Bool, true, false, not, cond, ◌||◌, ◌==◌, ◌<◌, ◌≤◌, ◌^◌, arith, zero, suc, length, List, [], ◌∷◌, refl, sym, ap, subst, ◌∙◌, Some, map, unwrap_or}
use Rattle.std.specs.Prelude.{filter, get_or, nat_lt}
use Rattle.std.specs.declared.cmp.Ordering.{Ordering}
use Rattle.std.specs.declared.cmp.Ordering.TheVariants.{Less, Equal, Greater}
use Rattle.std.specs.List.{AllByRecursion, Contains}
use Rattle.std.specs.BTreeMap.{insert_entry}
use Rattle.std.specs.Cmp.{nat_cmp_is}
use Rattle.std.specs.Map.{lookup}
use Rattle.std.specs.Ordering.{match_ordering, nat_cmp}
use Rattle.std.proofs.lemmas.Bool.{and_parts, eq-eqb, eqb-false, eqb-true, false_from_ne_true, leb-true, ltb-true, or_left, or_right, true≢false}
use Rattle.metadata.specs.declared.index.IndexDefinition.{IndexDefinition}
use Rattle.metadata.specs.declared.index.State.{State}
use Rattle.metadata.specs.declared.index.State.TheVariants.{Readable, WriteOnly, Disabled}
use Rattle.metadata.specs.Index.{is_readable}
use Rattle.metadata.specs.Schema.{Schema}
use Rattle.metadata.specs.Lawful.{IsLawfulSchema, is_rising_upto}
use Rattle.metadata.proofs.TestedIndexes.{tested}
use Rattle.index_maint.proofs.Several.{AreApart, rising_apart}
use Rattle.record_store.specs.Store.{Status, Store, listed_by, listed_states, marked, marked_so, altered_at, state_by, state_in, state_of, with_status}
use Rattle.record_store.specs.Holds.{IsListed, has_number}
use Rattle.record_store.specs.Call.{IsOpenAs, Opened}

-- ---- lists

pub all_because : {X : Type 0} (P Q : X → Type 0) (xs : List X) → ((x : X) → P x → Q x) → AllByRecursion P xs → AllByRecursion Q xs
all_because P Q [] go all = tt
all_because P Q (x ∷ xs) go all = (go x all.0, all_because P Q xs go all.1)

-- what holds of each holds of one that is there
pub of_contained : {X : Type 0} (P : X → Type 0) (xs : List X) (x : X) (k : ℕ) → k < length xs → get_or xs k x ≡ x → AllByRecursion P xs → P x
of_contained P [] x k within is all = absurd (omega (arith, within))
of_contained P (y ∷ ys) x zero within is all = subst P is all.0
of_contained P (y ∷ ys) x (suc k) within is all = of_contained P ys x k (omega (arith, within)) is all.1

-- and of an index with a number that one has
pub of_number : (P : IndexDefinition → Type 0) (number : ℕ) (indexes : List IndexDefinition) → has_number indexes number ≡ true → AllByRecursion P indexes → (index : IndexDefinition) × (index.number ≡ number) × P index
of_number P number [] there all = absurd (cc)
of_number P number (i ∷ indexes) there all = by_test (i.number == number) refl there (λ more. of_number P number indexes more all.1)
  where
    by_test : (b : Bool) → (i.number == number) ≡ b → (b || has_number indexes number) ≡ true → (has_number indexes number ≡ true → (index : IndexDefinition) × (index.number ≡ number) × P index) →
        (index : IndexDefinition) × (index.number ≡ number) × P index
    by_test true is some go = (i, eqb-true i.number number is, all.0)
    by_test false is some go = go some

-- ---- numbers

-- the numbers of a lawful schema's indexes differ
pub schema_apart : (schema : Schema) → IsLawfulSchema schema → AreApart schema.indexes
schema_apart schema lawful =
    let t = tested schema lawful.indexes in
    let upto = leb-true schema.last_index 65535 t.last_is in
    rising_apart 0 schema.last_index schema.indexes (omega (arith, upto)) t.rising

-- they are ones of 64 bits
lows : (indexes : List IndexDefinition) → AreApart indexes → AllByRecursion (λ index. index.number < 2 ^ 64) indexes
lows [] apart = tt
lows (index ∷ indexes) apart = (apart.0, lows indexes apart.2)

pub number_low : (indexes : List IndexDefinition) (number : ℕ) → AreApart indexes → has_number indexes number ≡ true → number < 2 ^ 64
number_low indexes number apart there = let (index, same, low) = of_number (λ i. i.number < 2 ^ 64) number indexes there (lows indexes apart) in subst (λ n. n < 2 ^ 64) same low

pub contained_low : (indexes : List IndexDefinition) (index : IndexDefinition) → AreApart indexes → Contains indexes index → index.number < 2 ^ 64
contained_low indexes index apart there = of_contained (λ i. i.number < 2 ^ 64) indexes index there.0 there.1 there.2 (lows indexes apart)

-- they rise above a number
abbrev Rise : ℕ → List IndexDefinition → Type 0
Rise low [] = Unit {0}
Rise low (index ∷ indexes) = (low < index.number) × Rise index.number indexes

rise : (low high : ℕ) (indexes : List IndexDefinition) → is_rising_upto low high (map (λ (i : IndexDefinition). i.number) indexes) ≡ true → Rise low indexes
rise low high [] rising = tt
rise low high (index ∷ indexes) rising =
    let parts = and_parts (nat_lt low index.number) (is_rising_upto index.number high (map (λ (i : IndexDefinition). i.number) indexes)) rising in
    (ltb-true low index.number parts.0, rise index.number high indexes parts.1)

pub schema_rise : (schema : Schema) → IsLawfulSchema schema → Rise 0 schema.indexes
schema_rise schema lawful = rise 0 schema.last_index schema.indexes (tested schema lawful.indexes).rising

all_above : (low high : ℕ) (indexes : List IndexDefinition) → low ≤ high → Rise high indexes → AllByRecursion (λ index. low < index.number) indexes
all_above low high [] upto rises = tt
all_above low high (index ∷ indexes) upto rises = let first = rises.0 in (omega (arith, upto, first), all_above low index.number indexes (omega (arith, upto, first)) rises.1)

number_above : (low : ℕ) (indexes : List IndexDefinition) (number : ℕ) → Rise low indexes → has_number indexes number ≡ true → low < number
number_above low indexes number rises there = let (index, same, less) = of_number (λ i. low < i.number) number indexes there (all_above low low indexes (omega arith) rises) in subst (λ n. low < n) same less

-- each index that is there has its number
pub all_there : (indexes : List IndexDefinition) → AllByRecursion (λ index. has_number indexes index.number ≡ true) indexes
all_there [] = tt
all_there (index ∷ indexes) = (
  or_left (index.number == index.number) (has_number indexes index.number) (eq-eqb index.number index.number refl),
  all_because (λ i. has_number indexes i.number ≡ true) (λ i. has_number (index ∷ indexes) i.number ≡ true) indexes (λ i is. or_right (index.number == i.number) (has_number indexes i.number) is) (all_there indexes),
)

pub contained_number : (indexes : List IndexDefinition) (index : IndexDefinition) → Contains indexes index → has_number indexes index.number ≡ true
contained_number indexes index there = of_contained (λ i. has_number indexes i.number ≡ true) indexes index there.0 there.1 there.2 (all_there indexes)

-- ---- another value for one number

pub put_itself : {X : Type 0} (number : ℕ) (value : X) (values : ℕ → X) (at : ℕ) → at ≡ number → altered_at number value values at ≡ value
put_itself number value values at same = ap (λ b. cond b value (values at)) (eq-eqb at number same)

pub put_other : {X : Type 0} (number : ℕ) (value : X) (values : ℕ → X) (at : ℕ) → (at ≡ number → ⊥) → altered_at number value values at ≡ values at
put_other number value values at differ = ap (λ b. cond b value (values at)) (false_from_ne_true (at == number) (λ is. differ (eqb-true at number is)))

pub put_twice : {X : Type 0} (number : ℕ) (first value : X) (values : ℕ → X) → altered_at number value (altered_at number first values) ≡ altered_at number value values
put_twice {X = X} number first value values = λ j n. by_test (n == number) (values n) j
  where
    by_test : (b : Bool) (x : X) → cond b value (cond b first x) ≡ cond b value x
    by_test true x = refl
    by_test false x = refl

-- what is so of each index by its value stays so of the others, and comes to be so of the one
module _ {X : Type 0} (P Q : IndexDefinition → X → Type 0) (number : ℕ) (value : X) (values : ℕ → X) (other : (i : IndexDefinition) (x : X) → i.number < 2 ^ 64 → (i.number ≡ number → ⊥) → P i x → Q i x) where
  pub all_put : ((i : IndexDefinition) → i.number ≡ number → P i (values i.number) → Q i value) → (indexes : List IndexDefinition) → AreApart indexes → AllByRecursion (λ i. P i (values i.number)) indexes →
      AllByRecursion (λ i. Q i (altered_at number value values i.number)) indexes
  all_put own [] apart all = tt
  all_put own (i ∷ indexes) apart all = (by_test (i.number == number) refl, all_put own indexes apart.2 all.1)
    where
      by_test : (b : Bool) → (i.number == number) ≡ b → Q i (cond b value (values i.number))
      by_test true is = own i (eqb-true i.number number is) all.0
      by_test false is = other i (values i.number) apart.0 (eqb-false i.number number is) all.0

  -- so of indexes of which the one is none
  pub all_others : (indexes : List IndexDefinition) → AreApart indexes → AllByRecursion (λ i. i.number ≡ number → ⊥) indexes → AllByRecursion (λ i. P i (values i.number)) indexes →
      AllByRecursion (λ i. Q i (altered_at number value values i.number)) indexes
  all_others [] apart differ all = tt
  all_others (i ∷ indexes) apart differ all = (subst (Q i) (sym (put_other number value values i.number differ.0)) (other i (values i.number) apart.0 differ.0 all.0), all_others indexes apart.2 differ.1 all.1)

  -- and so where the one is left out
  pub all_left : (indexes : List IndexDefinition) → AreApart indexes → AllByRecursion (λ i. P i (values i.number)) indexes → AllByRecursion (λ i. Q i (altered_at number value values i.number)) (filter (λ i. not (i.number == number)) indexes)
  all_left [] apart all = tt
  all_left (i ∷ indexes) apart all = by_test (i.number == number) refl (all_left indexes apart.2 all.1)
    where
      left : List IndexDefinition
      left = filter (λ (j : IndexDefinition). not (j.number == number)) indexes

      by_test : (b : Bool) → (i.number == number) ≡ b → AllByRecursion (λ (j : IndexDefinition). Q j (altered_at number value values j.number)) left → AllByRecursion (λ (j : IndexDefinition). Q j (altered_at number value values j.number)) (cond (not b) (i ∷ left) left)
      by_test true is rest = rest
      by_test false is rest =
          let differ = eqb-false i.number number is in (subst (Q i) (sym (put_other number value values i.number differ)) (other i (values i.number) apart.0 differ all.0), rest)

-- ---- what is listed

abbrev pub AreLow : List (ℕ × State) → Type 0
AreLow states = AllByRecursion (λ listed. listed.0 < 2 ^ 64) states

pub states_low : (indexes : List IndexDefinition) (states : List (ℕ × State)) → AreApart indexes → AllByRecursion (IsListed indexes) states → AreLow states
states_low indexes [] apart listed = tt
states_low indexes (one ∷ states) apart listed = (number_low indexes one.0 apart listed.0.there, states_low indexes states apart listed.1)

-- the numbers of states rise strictly
abbrev pub AreRising : List (ℕ × State) → Type 0
AreRising [] = Unit {0}
AreRising (one ∷ states) = AllByRecursion (λ later. one.0 < later.0) states × AreRising states

-- what holds of each index that isn't readable holds of what is listed
all_listed : (P : ℕ × State → Type 0) (indexes : List IndexDefinition) (f : ℕ → State) → AllByRecursion (λ index. is_readable (f index.number) ≡ false → P (index.number, f index.number)) indexes → AllByRecursion P (listed_by indexes f)
all_listed P [] f all = tt
all_listed P (index ∷ indexes) f all = by_test (is_readable (f index.number)) refl (all_listed P indexes f all.1)
  where
    by_test : (b : Bool) → is_readable (f index.number) ≡ b → AllByRecursion P (listed_by indexes f) → AllByRecursion P (cond (not b) ((index.number, f index.number) ∷ listed_by indexes f) (listed_by indexes f))
    by_test true is rest = rest
    by_test false is rest = (all.0 is, rest)

-- what is listed of indexes whose numbers rise rises
listed_above : (low : ℕ) (indexes : List IndexDefinition) (f : ℕ → State) → Rise low indexes → AllByRecursion (λ later. low < later.0) (listed_by indexes f)
listed_above low indexes f rises =
    all_listed (λ later. low < later.0) indexes f (all_because (λ i. low < i.number) (λ i. is_readable (f i.number) ≡ false → low < i.number) indexes (λ i less other. less) (all_above low low indexes (omega arith) rises))

listed_rising : (low : ℕ) (indexes : List IndexDefinition) (f : ℕ → State) → Rise low indexes → AreRising (listed_by indexes f)
listed_rising low [] f rises = tt
listed_rising low (index ∷ indexes) f rises = by_test (is_readable (f index.number)) (listed_rising index.number indexes f rises.1)
  where
    by_test : (b : Bool) → AreRising (listed_by indexes f) → AreRising (cond (not b) ((index.number, f index.number) ∷ listed_by indexes f) (listed_by indexes f))
    by_test true rest = rest
    by_test false rest = (listed_above index.number indexes f rises.1, rest)

-- each is of an index that is there, and isn't readable
pub store_listed : (store : Store) → AllByRecursion (IsListed store.schema.indexes) (listed_states store)
store_listed store =
    all_listed (IsListed store.schema.indexes) store.schema.indexes (state_of store)
    (all_because (λ i. has_number store.schema.indexes i.number ≡ true) (λ i. is_readable (state_of store i.number) ≡ false → IsListed store.schema.indexes (i.number, state_of store i.number)) store.schema.indexes
    (λ i there other. record { there = there; state = λ same. true≢false (ap is_readable (sym same) ∙ other) }) (all_there store.schema.indexes))

pub store_low : (store : Store) → IsLawfulSchema store.schema → AreLow (listed_states store)
store_low store lawful = states_low store.schema.indexes (listed_states store) (schema_apart store.schema lawful) (store_listed store)

pub store_rising : (store : Store) → IsLawfulSchema store.schema → AreRising (listed_states store)
store_rising store lawful = listed_rising 0 store.schema.indexes (state_of store) (schema_rise store.schema lawful)

-- TOLD: of an index that is there the state is listed
listed_in : (indexes : List IndexDefinition) (f : ℕ → State) (number : ℕ) → state_in (listed_by indexes f) number ≡ cond (has_number indexes number) (f number) Readable
listed_in [] f number = refl
listed_in (index ∷ indexes) f number = by_number (index.number == number) refl (f index.number) refl (listed_in indexes f number)
  where
    rest : List (ℕ × State)
    rest = listed_by indexes f

    either : (b : Bool) → Readable ≡ f number → cond b (f number) Readable ≡ f number
    either true same = refl
    either false same = same

    first : (s : State) → (index.number == number) ≡ true → f index.number ≡ s → state_in ((index.number, s) ∷ rest) number ≡ f number
    first s is at = ap (λ b. unwrap_or (cond b (Some s) (lookup (λ own. own == number) rest)) Readable) is ∙ sym at ∙ ap f (eqb-true index.number number is)

    later : (s : State) → (index.number == number) ≡ false → state_in ((index.number, s) ∷ rest) number ≡ state_in rest number
    later s is = ap (λ b. unwrap_or (cond b (Some s) (lookup (λ own. own == number) rest)) Readable) is

    by_number : (b : Bool) → (index.number == number) ≡ b → (s : State) → f index.number ≡ s → state_in rest number ≡ cond (has_number indexes number) (f number) Readable →
        state_in (cond (not (is_readable s)) ((index.number, s) ∷ rest) rest) number ≡ cond (b || has_number indexes number) (f number) Readable
    by_number true is Readable at go = go ∙ either (has_number indexes number) (sym at ∙ ap f (eqb-true index.number number is))
    by_number true is WriteOnly at go = first WriteOnly is at
    by_number true is Disabled at go = first Disabled is at
    by_number false is Readable at go = go
    by_number false is WriteOnly at go = later WriteOnly is ∙ go
    by_number false is Disabled at go = later Disabled is ∙ go

pub state_told : (opened : Opened) (store : Store) (number : ℕ) → IsOpenAs opened store → has_number store.schema.indexes number ≡ true → state_of store number ≡ state_in opened.states number
state_told opened store number same there =
    sym (listed_in store.schema.indexes (state_of store) number ∙ ap (λ b. cond b (state_of store number) Readable) there) ∙ ap (λ ss. state_in ss number) same.states

-- so of one of the indexes that was opened
pub state_told_there : (opened : Opened) (store : Store) (index : IndexDefinition) → IsOpenAs opened store → Contains opened.schema.indexes index → state_of store index.number ≡ state_in opened.states index.number
state_told_there opened store index same there = state_told opened store index.number same (contained_number store.schema.indexes index (subst (λ (s : Schema). Contains s.indexes index) (sym same.schema) there))

-- ---- changes

-- where the states are the same the same is listed
pub listed_same : (f g : ℕ → State) (indexes : List IndexDefinition) → AllByRecursion (λ index. f index.number ≡ g index.number) indexes → listed_by indexes f ≡ listed_by indexes g
listed_same f g [] same = refl
listed_same f g (index ∷ indexes) same = λ j. cond (not (is_readable (same.0 j))) ((index.number, same.0 j) ∷ listed_same f g indexes same.1 j) (listed_same f g indexes same.1 j)

untouched : (number : ℕ) (state : State) (f : ℕ → State) (indexes : List IndexDefinition) → Rise number indexes → AllByRecursion (λ index. altered_at number state f index.number ≡ f index.number) indexes
untouched number state f indexes rises =
    all_because (λ i. number < i.number) (λ i. altered_at number state f i.number ≡ f i.number) indexes (λ i less. put_other number state f i.number (λ same. absurd (omega (arith, less, same)))) (all_above number number indexes (omega arith) rises)

abbrev pub with_state : ℕ → State → List (ℕ × State) → List (ℕ × State)
with_state number state states = insert_entry nat_cmp states number state

abbrev pub without_state : ℕ → List (ℕ × State) → List (ℕ × State)
without_state number states = filter (λ (listed : ℕ × State). not (listed.0 == number)) states

-- PUT: another state that isn't readable is put at its place
put_first : (number : ℕ) (state : State) (states : List (ℕ × State)) → AllByRecursion (λ later. number < later.0) states → with_state number state states ≡ (number, state) ∷ states
put_first number state [] all = refl
put_first number state (one ∷ states) all =
    ap (λ o. match_ordering o ((number, state) ∷ one ∷ states) ((one.0, state) ∷ states) (one ∷ with_state number state states)) (sym (nat_cmp_is number one.0 Less all.0))

pub listed_put : (low number : ℕ) (state : State) (indexes : List IndexDefinition) (f : ℕ → State) → is_readable state ≡ false → Rise low indexes → has_number indexes number ≡ true →
    with_state number state (listed_by indexes f) ≡ listed_by indexes (altered_at number state f)
listed_put low number state [] f other rises there = absurd (cc)
listed_put low number state (index ∷ indexes) f other rises there = by_number (index.number == number) refl there (listed_put index.number number state indexes f other rises.1)
  where
    rest : List (ℕ × State)
    rest = listed_by indexes f

    next : List (ℕ × State)
    next = listed_by indexes (altered_at number state f)

    own : ℕ × State
    own = (index.number, f index.number)

    placed : (o : Ordering) → o ≡ nat_cmp number index.number → with_state number state (own ∷ rest) ≡ match_ordering o ((number, state) ∷ own ∷ rest) ((index.number, state) ∷ rest) (own ∷ with_state number state rest)
    placed o is = ap (λ r. match_ordering r ((number, state) ∷ own ∷ rest) ((index.number, state) ∷ rest) (own ∷ with_state number state rest)) (sym is)

    first : (r : Bool) → index.number ≡ number → with_state number state (cond (not r) (own ∷ rest) rest) ≡ (index.number, state) ∷ rest
    first true same = put_first number state rest (subst (λ n. AllByRecursion (λ (later : ℕ × State). n < later.0) rest) same (listed_above index.number indexes f rises.1)) ∙ (λ j. (sym same j, state) ∷ rest)
    first false same = placed Equal (nat_cmp_is number index.number Equal (sym same))

    passed : (r : Bool) → index.number < number → with_state number state rest ≡ next → with_state number state (cond (not r) (own ∷ rest) rest) ≡ cond (not r) (own ∷ next) next
    passed true less go = go
    passed false less go = placed Greater (nat_cmp_is number index.number Greater less) ∙ ap (λ ss. own ∷ ss) go

    by_number : (b : Bool) → (index.number == number) ≡ b → (b || has_number indexes number) ≡ true → (has_number indexes number ≡ true → with_state number state rest ≡ next) →
        with_state number state (cond (not (is_readable (f index.number))) (own ∷ rest) rest)
        ≡ cond (not (is_readable (cond b state (f index.number)))) ((index.number, cond b state (f index.number)) ∷ next) next
    by_number true is some go =
        let same : index.number ≡ number = eqb-true index.number number is in
        first (is_readable (f index.number)) same ∙ ap (λ ss. (index.number, state) ∷ ss) (sym (listed_same (altered_at number state f) f indexes (untouched number state f indexes (subst (λ n. Rise n indexes) same rises.1))))
        ∙ sym (ap (λ b. cond (not b) ((index.number, state) ∷ next) next) other)
    by_number false is some go = passed (is_readable (f index.number)) (number_above index.number indexes number rises.1 some) (go some)

-- TAKEN OUT: where an index is readable nothing is listed of it
pub listed_out : (number : ℕ) (indexes : List IndexDefinition) (f : ℕ → State) → without_state number (listed_by indexes f) ≡ listed_by indexes (altered_at number Readable f)
listed_out number [] f = refl
listed_out number (index ∷ indexes) f = by_number (index.number == number) refl (listed_out number indexes f)
  where
    rest : List (ℕ × State)
    rest = listed_by indexes f

    next : List (ℕ × State)
    next = listed_by indexes (altered_at number Readable f)

    own : ℕ × State
    own = (index.number, f index.number)

    taken : (r : Bool) → (index.number == number) ≡ true → without_state number rest ≡ next → without_state number (cond (not r) (own ∷ rest) rest) ≡ next
    taken true is go = go
    taken false is go = ap (λ b. cond (not b) (own ∷ without_state number rest) (without_state number rest)) is ∙ go

    stays : (r : Bool) → (index.number == number) ≡ false → without_state number rest ≡ next → without_state number (cond (not r) (own ∷ rest) rest) ≡ cond (not r) (own ∷ next) next
    stays true is go = go
    stays false is go = ap (λ b. cond (not b) (own ∷ without_state number rest) (without_state number rest)) is ∙ ap (λ ss. own ∷ ss) go

    by_number : (b : Bool) → (index.number == number) ≡ b → without_state number rest ≡ next →
        without_state number (cond (not (is_readable (f index.number))) (own ∷ rest) rest)
        ≡ cond (not (is_readable (cond b Readable (f index.number)))) ((index.number, cond b Readable (f index.number)) ∷ next) next
    by_number true is go = taken (is_readable (f index.number)) is go
    by_number false is go = stays (is_readable (f index.number)) is go

-- nor does it matter then whether it is there
pub listed_without : (number : ℕ) (indexes : List IndexDefinition) (f : ℕ → State) → listed_by (filter (λ index. not (index.number == number)) indexes) (altered_at number Readable f) ≡ listed_by indexes (altered_at number Readable f)
listed_without number [] f = refl
listed_without number (index ∷ indexes) f = by_number (index.number == number) refl (listed_without number indexes f)
  where
    left : List IndexDefinition
    left = filter (λ (i : IndexDefinition). not (i.number == number)) indexes

    next : List (ℕ × State)
    next = listed_by indexes (altered_at number Readable f)

    by_number : (b : Bool) → (index.number == number) ≡ b → listed_by left (altered_at number Readable f) ≡ next →
        listed_by (cond (not b) (index ∷ left) left) (altered_at number Readable f) ≡ cond (not (is_readable (cond b Readable (f index.number)))) ((index.number, cond b Readable (f index.number)) ∷ next) next
    by_number true is go = go
    by_number false is go =
        ap (λ b. cond (not (is_readable (cond b Readable (f index.number)))) ((index.number, cond b Readable (f index.number)) ∷ listed_by left (altered_at number Readable f)) (listed_by left (altered_at number Readable f))) is
        ∙ ap (λ ss. cond (not (is_readable (f index.number))) ((index.number, f index.number) ∷ ss) ss) go

-- of a store where an index has another status that state is put
pub status_put : (number : ℕ) (status : Status) (store : Store) → state_of (with_status store number status) ≡ altered_at number (state_by status) (state_of store)
status_put number status store = λ j n. by_test (n == number) n j
  where
    by_test : (b : Bool) (n : ℕ) → state_by (cond b status (store.status n)) ≡ cond b (state_by status) (state_by (store.status n))
    by_test true n = refl
    by_test false n = refl

marked_state : (state : State) → state_by (marked_so state) ≡ state
marked_state Readable = refl
marked_state WriteOnly = refl
marked_state Disabled = refl

pub marked_is : (store : Store) (number : ℕ) (state : State) → state_of (marked store number state) ≡ altered_at number state (state_of store)
marked_is store number state = status_put number (marked_so state) store ∙ (λ j. altered_at number (marked_state state j) (state_of store))

pub not_readable : (state : State) → (state ≡ Readable → ⊥) → is_readable state ≡ false
not_readable Readable other = absurd (other refl)
not_readable WriteOnly other = refl
not_readable Disabled other = refl

-- OPENED: what is listed of a store where an index was marked, by what was opened
pub opened_marks : (opened : Opened) (store : Store) (number : ℕ) (state : State) → IsOpenAs opened store → listed_by opened.schema.indexes (altered_at number state (state_in opened.states)) ≡ listed_states (marked store number state)
opened_marks opened store number state same =
    ap (λ (s : Schema). listed_by s.indexes (altered_at number state (state_in opened.states))) (sym same.schema)
    ∙ listed_same (altered_at number state (state_in opened.states)) (altered_at number state (state_of store)) store.schema.indexes
    (all_because (λ i. has_number store.schema.indexes i.number ≡ true) (λ i. altered_at number state (state_in opened.states) i.number ≡ altered_at number state (state_of store) i.number) store.schema.indexes
    (λ i there. by_test (i.number == number) i.number there) (all_there store.schema.indexes))
    ∙ ap (listed_by store.schema.indexes) (sym (marked_is store number state))
  where
    by_test : (b : Bool) (n : ℕ) → has_number store.schema.indexes n ≡ true → cond b state (state_in opened.states n) ≡ cond b state (state_of store n)
    by_test true n there = refl
    by_test false n there = sym (state_told opened store n same there)
