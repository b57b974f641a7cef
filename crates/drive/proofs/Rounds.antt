-- Rounds in which a host reads what is wanted: each covers a part more, of finitely many.
use Rattle.std.proofs.Common.{◌≡◌, ℕ, ◌+◌, ◌*◌, ◌/◌, ◌%◌, ◌<◌, ◌≤◌, suc, zero, List, [], ◌∷◌, length, get_or, Bool, true, false, cond, ◌⊎◌, inl, inr, refl, sym, ap, subst, ◌∙◌, arith}
use Rattle.std.specs.Prelude.{Contains, IsTrue}
use Rattle.std.specs.List.{AllByRecursion, filter}
use Rattle.std.proofs.lemmas.Bool.{and_from, and_parts, cases_lt, or_cases, false≢true}
use Rattle.std.proofs.lemmas.List.{get_or_default}
use Rattle.std.proofs.lemmas.Nat.{div-mul-add, mod-mul-add, mul-add-lt}
use Rattle.std.specs.FinMap.{entries, same_entries_map}
use Rattle.kv_core.specs.Bytes.{key_le, key_lt}
use Rattle.kv_core.specs.Range.{KeyRange, contains, covers}
use Rattle.kv_core.specs.Map.{Map}
use Rattle.kv_core.proofs.Pairs.{entries-kept}
use Rattle.kv_core.proofs.Order.{cases_key, le_from_lt, le_refl, le_trans, lt_le_trans}
use Rattle.drive.specs.Wanted.{AreWithin, IsAllCovered, IsLeftBetween, IsNeeded, ReadsFrom}
use Rattle.drive.specs.Rounds.{AreAmong, AreRounds, AreReadOver, IsReadInto, IsReadUpto, Round, RoundsEnd, RoundsEndOver, covered_pairs}
use Rattle.kv_core.specs.declared.change.Mutation.{Mutation}
use Rattle.schedule.specs.declared.step.Command.{Command}
use Rattle.drive.specs.declared.wanted.Want.{Want}

-- ---- numbers that differ

-- each number differs from all after it
abbrev Differ : List ℕ → Type 0
Differ [] = Unit {0}
Differ (x ∷ xs) = AllByRecursion (λ y. x ≡ y → ⊥) xs × Differ xs

-- a list but for one number
record Without (n : ℕ) (xs : List ℕ) : Type 0 where
  others : List ℕ
  many : length xs ≤ length others + 1
  below : AllByRecursion (λ x. x < n) others
  differ : Differ others
  among : (v : ℕ) → AllByRecursion (λ y. v ≡ y → ⊥) xs → AllByRecursion (λ y. v ≡ y → ⊥) others

-- what differs from the largest is below it
below_other : (n v : ℕ) (xs : List ℕ) → n ≤ v → AllByRecursion (λ x. x < suc n) xs → AllByRecursion (λ y. v ≡ y → ⊥) xs → v < suc n → AllByRecursion (λ x. x < n) xs
below_other n v [] low small other less = tt
below_other n v (x ∷ xs) low small other less =
    let here : x < n = elim (cases_lt x n) [
      | inl h ↦ h
      | inr h ↦ absurd (other.0 (omega (arith, small.0)))
    ] in
    (here, below_other n v xs low small.1 other.1 less)

without : (n : ℕ) (xs : List ℕ) → AllByRecursion (λ x. x < suc n) xs → Differ xs → Without n xs
without n [] small differ = record { others = []; many = omega arith; below = tt; differ = tt; among = λ v all. tt }
without n (x ∷ xs) small differ = elim (cases_lt x n) [
  | inl here ↦
      let rest = without n xs small.1 differ.1 in
      record {
        others = x ∷ rest.others;
        many = omega (arith, rest.many);
        below = (here, rest.below);
        differ = (rest.among x differ.0, rest.differ);
        among = λ v all. (all.0, rest.among v all.1);
      }
  | inr here ↦ record {
    others = xs;
    many = omega arith;
    below = below_other n x xs here small.1 differ.0 small.0;
    differ = differ.1;
    among = λ v all. all.1;
  }
]

-- as many numbers as differ are below a number
few_below : (n : ℕ) (xs : List ℕ) → AllByRecursion (λ x. x < n) xs → Differ xs → length xs ≤ n
few_below zero [] small differ = omega arith
few_below zero (x ∷ xs) small differ = absurd (omega (arith, small.0))
few_below (suc n) xs small differ =
    let rest = without n xs small differ in
    let few = few_below n rest.others rest.below rest.differ in
    omega (arith, rest.many)

-- ---- what one round covers

-- all of a range, or all of it up to a pair's key, or all from the key on; the pair goes by its number
pub data Event : Type 0 where
  whole : Event
  upto : ℕ → Event
  downto : ℕ → Event

abbrev pub key_at : List (List ℕ × List ℕ) → ℕ → List ℕ
key_at es k = (get_or es k ([], [])).0

abbrev pub Passed : List (List ℕ × List ℕ) → List KeyRange → KeyRange → Event → Type 0
Passed es covered read whole = IsAllCovered covered read
Passed es covered read (upto k) = (q : List ℕ) → IsTrue (contains read q) → IsTrue (key_le q (key_at es k)) → IsTrue (covers covered q)
Passed es covered read (downto k) = (q : List ℕ) → IsTrue (contains read q) → IsTrue (key_le (key_at es k) q) → IsTrue (covers covered q)

-- the number of an event among those of so many pairs
abbrev number_of : ℕ → Event → ℕ
number_of n whole = 0
number_of n (upto k) = 1 + k
number_of n (downto k) = 1 + (n + k)

abbrev pub IsIn : ℕ → Event → Type 0
IsIn n whole = Unit {0}
IsIn n (upto k) = k < n
IsIn n (downto k) = k < n

number_below : (n : ℕ) (event : Event) → IsIn n event → number_of n event < 1 + 2 * n
number_below n whole within = omega arith
number_below n (upto k) within = omega arith
number_below n (downto k) within = omega arith

same_event : (n : ℕ) (a b : Event) → IsIn n a → IsIn n b → number_of n a ≡ number_of n b → a ≡ b
same_event n whole whole i j same = refl
same_event n whole (upto k) i j same = absurd (omega arith)
same_event n whole (downto k) i j same = absurd (omega arith)
same_event n (upto k) whole i j same = absurd (omega arith)
same_event n (upto k) (upto l) i j same = let e : k ≡ l = omega arith in ap upto e
same_event n (upto k) (downto l) i j same = absurd (omega arith)
same_event n (downto k) whole i j same = absurd (omega arith)
same_event n (downto k) (upto l) i j same = absurd (omega arith)
same_event n (downto k) (downto l) i j same = let e : k ≡ l = omega arith in ap downto e

-- what was passed stays so
still_passed : (es : List (List ℕ × List ℕ)) (covered after : List KeyRange) (read : KeyRange) (event : Event) → AreWithin after covered → Passed es covered read event → Passed es after read event
still_passed es covered after read whole within done = λ q inside. within q (done q inside)
still_passed es covered after read (upto k) within done = λ q inside below. within q (done q inside below)
still_passed es covered after read (downto k) within done = λ q inside above. within q (done q inside above)

-- something of a range is passed in a round that wasn't before
pub record Passing (es : List (List ℕ × List ℕ)) (covered after : List KeyRange) (read : KeyRange) : Type 0 where
  pub event : Event
  pub inside : IsIn (length es) event
  pub fresh : Passed es covered read event → ⊥
  pub done : Passed es after read event

module _ (es : List (List ℕ × List ℕ)) (covered after : List KeyRange) (read part : KeyRange) (left : IsLeftBetween covered read part) (stays : AreWithin after covered) where
  -- a key of the part
  in_part : (q : List ℕ) → IsTrue (key_le part.begin q) → IsTrue (key_lt q part.end) → IsTrue (contains part q)
  in_part q from below = and_from (key_le part.begin q) (key_lt q part.end) from below

  begin_within : IsTrue (contains read part.begin)
  begin_within = left.within part.begin (in_part part.begin (le_refl part.begin) left.begins.0)

  -- not all of the range is covered, nor all up to what comes after the part's begin, nor from what comes before its end
  not_whole : IsAllCovered covered read → ⊥
  not_whole all = false≢true (sym left.begins.1 ∙ all part.begin begin_within)

  not_upto : (key : List ℕ) → IsTrue (key_le part.begin key) → ((q : List ℕ) → IsTrue (contains read q) → IsTrue (key_le q key) → IsTrue (covers covered q)) → ⊥
  not_upto key above all = false≢true (sym left.begins.1 ∙ all part.begin begin_within above)

  not_downto : (key : List ℕ) → IsTrue (key_le part.begin key) → IsTrue (key_lt key part.end) → ((q : List ℕ) → IsTrue (contains read q) → IsTrue (key_le key q) → IsTrue (covers covered q)) → ⊥
  not_downto key above below all =
      let open_still = left.ends.1 key below in
      let q = open_still.0 in
      false≢true (sym open_still.3 ∙ all q (left.within q (in_part q (le_trans part.begin key q above open_still.1) open_still.2)) open_still.1)

  -- a key of the range is covered once it is where it lies in the part
  covered_then : (q : List ℕ) → IsTrue (contains read q) → (IsTrue (key_le part.begin q) → IsTrue (key_lt q part.end) → IsTrue (covers after q)) → IsTrue (covers after q)
  covered_then q inside so = elim (or_cases (contains part q) (covers covered q) (left.others q inside)) [
    | inl here ↦ let parts = and_parts (key_le part.begin q) (key_lt q part.end) here in so parts.0 parts.1
    | inr there ↦ stays q there
  ]

  all_passed : ((q : List ℕ) → IsTrue (key_le part.begin q) → IsTrue (key_lt q part.end) → IsTrue (covers after q)) → Passing es covered after read
  all_passed so = record { event = whole; inside = tt; fresh = not_whole; done = λ q inside. covered_then q inside (so q) }

  passed_upto : (k : ℕ) (key : List ℕ) → k < length es → key_at es k ≡ key → IsTrue (key_le part.begin key) →
      ((q : List ℕ) → IsTrue (key_le part.begin q) → IsTrue (key_le q key) → IsTrue (covers after q)) → Passing es covered after read
  passed_upto k key within is above so = record {
    event = upto k;
    inside = within;
    fresh = λ all. not_upto key above (subst (λ e. (q : List ℕ) → IsTrue (contains read q) → IsTrue (key_le q e) → IsTrue (covers covered q)) is all);
    done = λ q inside below. covered_then q inside (λ from before. so q from (subst (λ e. IsTrue (key_le q e)) is below));
  }

  passed_downto : (k : ℕ) (key : List ℕ) → k < length es → key_at es k ≡ key → IsTrue (key_le part.begin key) → IsTrue (key_lt key part.end) →
      ((q : List ℕ) → IsTrue (key_le key q) → IsTrue (key_lt q part.end) → IsTrue (covers after q)) → Passing es covered after read
  passed_downto k key within is above below so = record {
    event = downto k;
    inside = within;
    fresh = λ all. not_downto key above below (subst (λ e. (q : List ℕ) → IsTrue (contains read q) → IsTrue (key_le e q) → IsTrue (covers covered q)) is all);
    done = λ q inside from. covered_then q inside (λ begins before. so q (subst (λ e. IsTrue (key_le e q)) is from) before);
  }

  abbrev Found : Bool → KeyRange → Type 0
  Found reverse range = (pair : List ℕ × List ℕ) × Contains es pair × IsTrue (contains range pair.0) × IsReadUpto after reverse range pair.0

  key_is : (pair : List ℕ × List ℕ) (k : ℕ) → k < length es → get_or es k pair ≡ pair → key_at es k ≡ pair.0
  key_is pair k within is = ap (λ (p : List ℕ × List ℕ). p.0) (get_or_default es k ([], []) pair within ∙ is)

  forward : (range : KeyRange) → ReadsFrom false range part → IsAllCovered after range ⊎ Found false range → Passing es covered after read
  forward range (begins, ends) (inl all) = all_passed (λ q from below.
      all q (and_from (key_le range.begin q) (key_lt q range.end) (subst (λ b. IsTrue (key_le b q)) (sym begins) from) (lt_le_trans q part.end range.end below ends)))
  forward range (begins, ends) (inr (pair, (k, within, is), inside, so)) =
      let parts = and_parts (key_le range.begin pair.0) (key_lt pair.0 range.end) inside in
      let upto_key : (q : List ℕ) → IsTrue (key_le part.begin q) → IsTrue (key_le q pair.0) → IsTrue (covers after q) = λ q from below. so q (subst (λ b. IsTrue (key_le b q)) (sym begins) from) below in
      elim (cases_key pair.0 part.end) [
        | inl short ↦ passed_upto k pair.0 within (key_is pair k within is) (subst (λ b. IsTrue (key_le b pair.0)) begins parts.0) upto_key
        | inr far ↦ all_passed (λ q from below. upto_key q from (le_trans q part.end pair.0 (le_from_lt q part.end below) far))
      ]

  backward : (range : KeyRange) → ReadsFrom true range part → IsAllCovered after range ⊎ Found true range → Passing es covered after read
  backward range (ends, begins) (inl all) = all_passed (λ q from below.
      all q (and_from (key_le range.begin q) (key_lt q range.end) (le_trans range.begin part.begin q begins from) (subst (λ e. IsTrue (key_lt q e)) (sym ends) below)))
  backward range (ends, begins) (inr (pair, (k, within, is), inside, so)) =
      let parts = and_parts (key_le range.begin pair.0) (key_lt pair.0 range.end) inside in
      let downto_key : (q : List ℕ) → IsTrue (key_le pair.0 q) → IsTrue (key_lt q part.end) → IsTrue (covers after q) = λ q from below. so q from (subst (λ e. IsTrue (key_lt q e)) (sym ends) below) in
      elim (cases_key pair.0 part.begin) [
        | inl far ↦ all_passed (λ q from below. downto_key q (le_trans pair.0 part.begin q (le_from_lt pair.0 part.begin far) from) below)
        | inr short ↦ passed_downto k pair.0 within (key_is pair k within is) short (subst (λ e. IsTrue (key_lt pair.0 e)) ends parts.1) downto_key
      ]

  either : (reverse : Bool) (range : KeyRange) → ReadsFrom reverse range part → IsAllCovered after range ⊎ Found reverse range → Passing es covered after read
  either false range from begun = forward range from begun
  either true range from begun = backward range from begun

-- ---- all rounds

module _ (es : List (List ℕ × List ℕ)) (rows : ℕ) (IsRow : Round → ℕ → KeyRange → Type 0)
    (same_row : (one later : Round) (row : ℕ) (read read2 : KeyRange) → AreWithin later.covered one.after → IsRow one row read → IsRow later row read2 → read ≡ read2) where
  -- in a round something is passed of a range, which has a row among these
  abbrev pub IsTurn : Round → Type 0
  IsTurn round = (read : KeyRange) × ((row : ℕ) × (row < rows) × IsRow round row read) × Passing es round.covered round.after read

  -- so it is in each, and what is covered stays so
  abbrev pub AreTurns : List Round → Type 0
  AreTurns [] = Unit {0}
  AreTurns (round ∷ rounds) =
      IsTurn round × AllByRecursion (λ (later : Round). AreWithin later.covered round.after) rounds × AreTurns rounds

  -- the number of what is passed among all that may be
  code : (round : Round) → IsTurn round → ℕ
  code round (read, row, passing) = row.0 * (1 + 2 * length es) + number_of (length es) passing.event

  code_below : (round : Round) (turn : IsTurn round) → code round turn < (1 + 2 * length es) * rows
  unfolding code
  code_below round (read, row, passing) =
      mul-add-lt row.0 (1 + 2 * length es) (number_of (length es) passing.event) rows row.1 (number_below (length es) passing.event passing.inside)

  -- what is passed in one round isn't in a later one
  code_differs : (one later : Round) (first : IsTurn one) (next : IsTurn later) → AreWithin later.covered one.after → code one first ≡ code later next → ⊥
  unfolding code
  code_differs one later (read, row, passing) (read2, row2, passing2) stays same =
      let n = length es in
      let small = number_below n passing.event passing.inside in
      let small2 = number_below n passing2.event passing2.inside in
      let place : row.0 ≡ row2.0 = sym (div-mul-add row.0 (1 + 2 * n) (number_of n passing.event) small) ∙ ap (λ x. x / (1 + 2 * n)) same ∙ div-mul-add row2.0 (1 + 2 * n) (number_of n passing2.event) small2 in
      let number : number_of n passing.event ≡ number_of n passing2.event = sym (mod-mul-add row.0 (1 + 2 * n) (number_of n passing.event) small) ∙ ap (λ x. x % (1 + 2 * n)) same ∙ mod-mul-add row2.0 (1 + 2 * n) (number_of n passing2.event) small2 in
      let event = same_event n passing.event passing2.event passing.inside passing2.inside number in
      let range : read ≡ read2 = same_row one later row2.0 read read2 stays (subst (λ k. IsRow one k read) place row.2) row2.2 in
      let still = still_passed es one.after later.covered read passing.event stays passing.done in
      passing2.fresh (subst (λ e. Passed es later.covered read2 e) event (subst (λ r. Passed es later.covered r passing.event) range still))

  codes : (rounds : List Round) → AreTurns rounds → List ℕ
  codes [] turns = []
  codes (round ∷ rounds) turns = code round turns.0 ∷ codes rounds turns.2

  codes_many : (rounds : List Round) (turns : AreTurns rounds) → length (codes rounds turns) ≡ length rounds
  unfolding codes
  codes_many [] turns = refl
  codes_many (round ∷ rounds) turns = ap suc (codes_many rounds turns.2)

  codes_below : (rounds : List Round) (turns : AreTurns rounds) → AllByRecursion (λ x. x < (1 + 2 * length es) * rows) (codes rounds turns)
  unfolding codes
  codes_below [] turns = tt
  codes_below (round ∷ rounds) turns = (code_below round turns.0, codes_below rounds turns.2)

  first_differs : (one : Round) (first : IsTurn one) (rounds : List Round) (turns : AreTurns rounds) → AllByRecursion (λ (later : Round). AreWithin later.covered one.after) rounds → AllByRecursion (λ y. code one first ≡ y → ⊥) (codes rounds turns)
  unfolding codes
  first_differs one first [] turns stay = tt
  first_differs one first (round ∷ rounds) turns stay = (code_differs one round first turns.0 stay.0, first_differs one first rounds turns.2 stay.1)

  codes_differ : (rounds : List Round) (turns : AreTurns rounds) → Differ (codes rounds turns)
  unfolding codes
  codes_differ [] turns = tt
  codes_differ (round ∷ rounds) turns = (first_differs round turns.0 rounds turns.2 turns.1, codes_differ rounds turns.2)

  pub rounds_few : (rounds : List Round) → AreTurns rounds → length rounds ≤ (1 + 2 * length es) * rows
  rounds_few rounds turns =
      let few = few_below ((1 + 2 * length es) * rows) (codes rounds turns) (codes_below rounds turns) (codes_differ rounds turns) in
      omega (arith, codes_many rounds turns)

-- what is needed of what is wanted, once it is begun, passes something of the range that was read
pub passed_of : (m : Map) (reads : List KeyRange) (round : Round) (want : Want) → AreWithin round.after round.covered → IsNeeded round.covered reads want → IsReadInto m round.after want →
    (read : KeyRange) × Contains reads read × Passing (entries m) round.covered round.after read
passed_of m reads round want stays (part, (read, here, left), from) begun = (read, here, either (entries m) round.covered round.after read part left stays want.reverse want.range from begun)

-- ---- rows by the ranges alone, and by the pairs as well

-- the range at a place of a list
abbrev pub IsAt : List KeyRange → ℕ → KeyRange → Type 0
IsAt ranges row read = (row < length ranges) × (get_or ranges row read ≡ read)

same_at : (ranges : List KeyRange) (row : ℕ) (read read2 : KeyRange) → IsAt ranges row read → IsAt ranges row read2 → read ≡ read2
same_at ranges row read read2 (within, is) (also, other) = sym is ∙ get_or_default ranges row read read2 within ∙ other

-- some of the pairs that pass one test are all that pass another, where they are as many
filter_fewer : {X : Type 0} (p q : X → Bool) → ((x : X) → p x ≡ true → q x ≡ true) → (xs : List X) → length (filter p xs) ≤ length (filter q xs)
filter_fewer p q so [] = omega arith
filter_fewer {X} p q so (x ∷ xs) = by_tests (filter_fewer p q so xs) (p x) (q x) refl refl
  where
    by_tests : length (filter p xs) ≤ length (filter q xs) → (a b : Bool) → p x ≡ a → q x ≡ b → length (cond (p x) (x ∷ filter p xs) (filter p xs)) ≤ length (cond (q x) (x ∷ filter q xs) (filter q xs))
    by_tests fewer true true here there = rw (here, there) (omega arith)
    by_tests fewer false true here there = rw (here, there) (omega arith)
    by_tests fewer false false here there = rw (here, there) fewer
    by_tests fewer true false here there = absurd (false≢true (sym there ∙ so x here))

filter_same : {X : Type 0} (p q : X → Bool) → ((x : X) → p x ≡ true → q x ≡ true) → (xs : List X) → length (filter p xs) ≡ length (filter q xs) → filter p xs ≡ filter q xs
filter_same p q so [] many = refl
filter_same {X} p q so (x ∷ xs) many = by_tests (filter_same p q so xs) (filter_fewer p q so xs) (p x) (q x) refl refl many
  where
    by_tests : (length (filter p xs) ≡ length (filter q xs) → filter p xs ≡ filter q xs) → length (filter p xs) ≤ length (filter q xs) → (a b : Bool) → p x ≡ a → q x ≡ b → length (cond (p x) (x ∷ filter p xs) (filter p xs)) ≡ length (cond (q x) (x ∷ filter q xs) (filter q xs)) →
        cond (p x) (x ∷ filter p xs) (filter p xs) ≡ cond (q x) (x ∷ filter q xs) (filter q xs)
    by_tests same fewer true true here there long = let long2 = rw (here, there) at long in rw (here, there) (ap (λ ys. x ∷ ys) (same (omega (arith, long2))))
    by_tests same fewer false true here there long = let long2 = rw (here, there) at long in absurd (omega (arith, long2))
    by_tests same fewer false false here there long = let long2 = rw (here, there) at long in rw (here, there) (same long2)
    by_tests same fewer true false here there long = absurd (false≢true (sym there ∙ so x here))

filter_few : {X : Type 0} (p : X → Bool) (xs : List X) → length (filter p xs) ≤ length xs
filter_few p [] = omega arith
filter_few {X} p (x ∷ xs) = by_test (filter_few p xs) (p x) refl
  where
    by_test : length (filter p xs) ≤ length xs → (a : Bool) → p x ≡ a → length (cond (p x) (x ∷ filter p xs) (filter p xs)) ≤ length (x ∷ xs)
    by_test few true here = rw here (omega arith)
    by_test few false here = rw here (omega arith)

same_pairs : (m : Map) (covered more : List KeyRange) → AreWithin more covered → length (entries (covered_pairs m covered)) ≡ length (entries (covered_pairs m more)) → covered_pairs m covered ≡ covered_pairs m more
same_pairs m covered more within many =
    let p : List ℕ × List ℕ → Bool = λ e. covers covered e.0 in
    let q : List ℕ × List ℕ → Bool = λ e. covers more e.0 in
    let one : entries (covered_pairs m covered) ≡ filter p (entries m) = entries-kept m (covers covered) in
    let other : entries (covered_pairs m more) ≡ filter q (entries m) = entries-kept m (covers more) in
    same_entries_map (covered_pairs m covered) (covered_pairs m more)
    (one ∙ filter_same p q (λ e. within e.0) (entries m) (sym (ap length one) ∙ many ∙ ap length other) ∙ sym other)

pairs_few : (m : Map) (covered : List KeyRange) → length (entries (covered_pairs m covered)) < 1 + length (entries m)
pairs_few m covered = omega (arith, ap length (entries-kept m (covers covered)), filter_few (λ (e : List ℕ × List ℕ). covers covered e.0) (entries m))

-- a row by how many pairs there are, and the place of the range among those that are read over them
pub record IsRowOver (m : Map) (reads : Map → List KeyRange) (most : ℕ) (round : Round) (row : ℕ) (read : KeyRange) : Type 0 where
  pub place : ℕ
  pub few : place < most
  pub at : IsAt (reads (covered_pairs m round.covered)) place read
  pub stays : AreWithin round.after round.covered
  pub is : row ≡ length (entries (covered_pairs m round.covered)) * most + place

same_row_over : (m : Map) (reads : Map → List KeyRange) (most : ℕ) (one later : Round) (row : ℕ) (read read2 : KeyRange) → AreWithin later.covered one.after → IsRowOver m reads most one row read → IsRowOver m reads most later row read2 → read ≡ read2
same_row_over m reads most one later row read read2 within a b =
    let n = length (entries (covered_pairs m one.covered)) in
    let n2 = length (entries (covered_pairs m later.covered)) in
    let same : n * most + a.place ≡ n2 * most + b.place = sym a.is ∙ b.is in
    let many : n ≡ n2 = sym (div-mul-add n most a.place a.few) ∙ ap (λ x. x / most) same ∙ div-mul-add n2 most b.place b.few in
    let place : a.place ≡ b.place = sym (mod-mul-add n most a.place a.few) ∙ ap (λ x. x % most) same ∙ mod-mul-add n2 most b.place b.few in
    let pairs = same_pairs m one.covered later.covered (λ key h. within key (a.stays key h)) many in
    same_at (reads (covered_pairs m later.covered)) b.place read read2 (subst (λ k. IsAt (reads (covered_pairs m later.covered)) k read) place (subst (λ ps. IsAt (reads ps) a.place read) pairs a.at)) b.at

pub row_over : (m : Map) (reads : Map → List KeyRange) (most : ℕ) (round : Round) (read : KeyRange) → AreWithin round.after round.covered → ((pairs : Map) → length (reads pairs) ≤ most) → Contains (reads (covered_pairs m round.covered)) read →
    (row : ℕ) × (row < most * (1 + length (entries m))) × IsRowOver m reads most round row read
row_over m reads most round read stays bound (place, within, is) =
    let n = length (entries (covered_pairs m round.covered)) in
    let few : place < most = omega (arith, bound (covered_pairs m round.covered)) in
    (n * most + place, mul-add-lt n most place (1 + length (entries m)) (pairs_few m round.covered) few, record { place = place; few = few; at = (within, is); stays = stays; is = refl })

-- ---- the laws

turns_among : (m : Map) (ranges : List KeyRange) (version : ℕ) (written : List Mutation) (commands : List Command) (rounds : List Round) → AreRounds m version written commands (λ round. AreAmong ranges) rounds →
    AreTurns (entries m) (length ranges) (λ round. IsAt ranges) (λ one later row read read2 within. same_at ranges row read read2) rounds
turns_among m ranges version written commands [] are = tt
turns_among m ranges version written commands (round ∷ rounds) (is, stay, rest) =
    let (read, here, passing) = passed_of m is.asked.request.reads round is.asked.want is.kept is.asked.needed (is.begun is.asked.want is.asked.among) in
    let (row, within, same) = is.read read here in
    ((read, (row, within, (within, same)), passing), stay, turns_among m ranges version written commands rounds rest)

pub rounds_end : RoundsEnd
rounds_end m ranges version written commands rounds are =
    rounds_few (entries m) (length ranges) (λ round. IsAt ranges) (λ one later row read read2 within. same_at ranges row read read2) rounds (turns_among m ranges version written commands rounds are)

turns_over : (m : Map) (reads : Map → List KeyRange) (most : ℕ) (version : ℕ) (written : List Mutation) (commands : List Command) (rounds : List Round) → ((pairs : Map) → length (reads pairs) ≤ most) →
    AreRounds m version written commands (AreReadOver m reads) rounds → AreTurns (entries m) (most * (1 + length (entries m))) (IsRowOver m reads most) (same_row_over m reads most) rounds
turns_over m reads most version written commands [] bound are = tt
turns_over m reads most version written commands (round ∷ rounds) bound (is, stay, rest) =
    let (read, here, passing) = passed_of m is.asked.request.reads round is.asked.want is.kept is.asked.needed (is.begun is.asked.want is.asked.among) in
    let over : is.asked.request.reads ≡ reads (covered_pairs m round.covered) = is.read.1 ∙ ap reads is.read.0 in
    ((read, row_over m reads most round read is.kept bound (subst (λ all. Contains all read) over here), passing), stay, turns_over m reads most version written commands rounds bound rest)

pub rounds_end_over : RoundsEndOver
rounds_end_over m reads most version written commands rounds bound are =
    rounds_few (entries m) (most * (1 + length (entries m))) (IsRowOver m reads most) (same_row_over m reads most) rounds (turns_over m reads most version written commands rounds bound are)
