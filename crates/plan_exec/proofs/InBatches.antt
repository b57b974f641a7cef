-- A range that is read in batches: what its first batch is, and what is still to be read behind some.
use Rattle.std.specs.Prelude.{◌≡◌, ℕ, zero, suc, ◌-◌, ◌<◌, ◌≤◌, Bool, true, false, cond, nat_lt, List, [], ◌∷◌, ◌++◌, length, take, drop, Option, Some, None, option_map, Result, Ok, Err, Vec, refl}
use Rattle.std.specs.Global.{Global}
use Rattle.std.specs.Result.{result_map_both}
use Rattle.std.proofs.Common.{ap, sym, ◌∙◌, subst, append_assoc, append-nil, arith}
use Rattle.std.proofs.lemmas.Bool.{ltb-false, ltb-true}
use Rattle.std.proofs.lemmas.List.{length-drop, length-take-le, take_all}
use Rattle.kv_core.specs.Map.{Map, pairs_in}
use Rattle.kv_core.specs.Range.{KeyRange}
use Rattle.kv_core.specs.Read.{range_read}
use Rattle.kv_core.specs.declared.change.CommitRequest.{CommitRequest}
use Rattle.kv_core.proofs.Lists.{length-take-most}
use Rattle.kv_core.proofs.Pairs.{directed}
use Rattle.txn.specs.Cursor.{HasBatch, IsNextBatch, behind_last, pairs_left, rest_behind}
use Rattle.txn.specs.Reads.{seen}
use Rattle.txn.specs.declared.cursor.RangeCursor.{RangeCursor}
use Rattle.txn.specs.declared.cursor.TheConstants.{BATCH}
use Rattle.txn.proofs.Running.{ran_read}
use Rattle.record_store.specs.Steps.{DidRead}
use Rattle.metadata.specs.Layout.{Pair}
use Rattle.plan_exec.specs.Reads.{PlanRead, PlanReading, batches, cut_from, onto_first, without_reads}

-- ---- lists cut into batches

module _ {A : Type 0} where
  cut_short : (more left : ℕ) (xs : List A) → length xs ≤ left → cut_from more left xs ≡ xs ∷ []
  cut_short more left [] few = refl
  cut_short more zero (a ∷ xs) few = absurd (omega (arith, few))
  cut_short more (suc left) (a ∷ xs) few = ap (onto_first a) (cut_short more left xs (omega (arith, few)))

  cut_long : (more left : ℕ) (xs : List A) → left < length xs → cut_from more left xs ≡ take (suc left) xs ∷ cut_from more more (drop (suc left) xs)
  cut_long more left [] many = absurd (omega (arith, many))
  cut_long more zero (a ∷ xs) many = refl
  cut_long more (suc left) (a ∷ xs) many = ap (onto_first a) (cut_long more left xs (omega (arith, many)))

  -- the pieces one behind another
  abbrev pub flat : List (List A) → List A
  flat [] = []
  flat (piece ∷ pieces) = piece ++ flat pieces

  flat_onto : (a : A) (pieces : List (List A)) → flat (onto_first a pieces) ≡ a ∷ flat pieces
  flat_onto a [] = refl
  flat_onto a (piece ∷ pieces) = refl

  -- what is cut is all there
  pub flat_cut : (more left : ℕ) (xs : List A) → flat (cut_from more left xs) ≡ xs
  flat_cut more left [] = refl
  flat_cut more zero (a ∷ xs) = ap (λ xs. a ∷ xs) (flat_cut more more xs)
  flat_cut more (suc left) (a ∷ xs) = flat_onto a (cut_from more left xs) ∙ ap (λ xs. a ∷ xs) (flat_cut more left xs)

  -- the batches behind the first one, if there are any
  abbrev pub batches_behind : Bool → List A → List (List A)
  batches_behind few xs = cond few [] (batches (drop BATCH xs))

  batches_few : (xs : List A) → length xs < BATCH → batches xs ≡ xs ∷ []
  batches_few xs few = cut_short (BATCH - 1) (BATCH - 1) xs (omega (arith, few))

  batches_many : (xs : List A) → BATCH ≤ length xs → batches xs ≡ take BATCH xs ∷ batches (drop BATCH xs)
  batches_many xs many = cut_long (BATCH - 1) (BATCH - 1) xs (omega (arith, many))

  -- the first batch, and those behind it: there are such where the first one is full
  pub first_batch : (xs : List A) → batches xs ≡ take BATCH xs ∷ batches_behind (nat_lt (length (take BATCH xs)) BATCH) xs
  first_batch xs = by (nat_lt (length xs) BATCH) refl
    where
      by : (b : Bool) → nat_lt (length xs) BATCH ≡ b → batches xs ≡ take BATCH xs ∷ batches_behind (nat_lt (length (take BATCH xs)) BATCH) xs
      by true is =
          let few : length xs < BATCH = ltb-true (length xs) BATCH is in
          let all : take BATCH xs ≡ xs = take_all BATCH xs (omega (arith, few)) in
          let short : nat_lt (length (take BATCH xs)) BATCH ≡ true = ap (λ xs. nat_lt (length xs) BATCH) all ∙ is in
          batches_few xs few ∙ ap (λ xs. xs ∷ []) (sym all) ∙ ap (λ b. take BATCH xs ∷ batches_behind b xs) (sym short)
      by false is =
          let many : BATCH ≤ length xs = ltb-false (length xs) BATCH is in
          let full : nat_lt (length (take BATCH xs)) BATCH ≡ false = ap (λ n. nat_lt n BATCH) (length-take-le BATCH xs many) in
          batches_many xs many ∙ ap (λ b. take BATCH xs ∷ batches_behind b xs) (sym full)

-- ---- readings

-- what was found, and what is found behind it
abbrev pub behind_these : {A : Type 0} → List A → Result (List A) (List ℕ) → Result (List A) (List ℕ)
behind_these made rest = result_map_both (λ more. made ++ more) (λ key. key) rest

module _ {A : Type 0} where
  -- a reading behind reads and what they found
  abbrev pub ahead : List PlanRead → List A → PlanReading (List A) → PlanReading (List A)
  ahead reads made rest = record { reads = reads ++ rest.reads; found = behind_these made rest.found }

  same_made : (r : Result (List A) (List ℕ)) → r ≡ behind_these [] r
  same_made (Ok a) = refl
  same_made (Err key) = refl

  pub ahead_none : (r : PlanReading (List A)) → r ≡ ahead [] [] r
  ahead_none r = λ i. record { reads = r.reads; found = same_made r.found i }

  pub ahead_ended : (reads : List PlanRead) (made : List A) → ahead reads made (without_reads (Ok [])) ≡ record { reads = reads; found = Ok made }
  ahead_ended reads made = λ i. record { reads = append-nil reads i; found = Ok (append-nil made i) }

  behind_both : (made more : List A) (r : Result (List A) (List ℕ)) → behind_these made (behind_these more r) ≡ behind_these (made ++ more) r
  behind_both made more (Ok rest) = ap (λ xs. Ok xs) (sym (append_assoc made more rest))
  behind_both made more (Err key) = refl

  pub ahead_both : (reads others : List PlanRead) (made more : List A) (r : PlanReading (List A)) → ahead reads made (ahead others more r) ≡ ahead (reads ++ others) (made ++ more) r
  ahead_both reads others made more r = λ i. record { reads = sym (append_assoc reads others r.reads) i; found = behind_both made more r.found i }

-- the read that asks for a range and is kept through these pairs
abbrev pub batch_read : KeyRange → Bool → List Pair → PlanRead
batch_read range reversed batch = record { asked = range; added = range_read range BATCH reversed batch }

-- ---- runs

-- a batch is the first pairs of those that were left of a range, and the others are left then
abbrev pub IsFirstOf : Bool → KeyRange → List Pair → Map → Type 0
IsFirstOf reversed range batch m =
    (batch ≡ take BATCH (directed reversed (pairs_in m range)))
    × (pairs_left m (record { rest = rest_behind range BATCH reversed batch; reverse = reversed }) ≡ drop BATCH (directed reversed (pairs_in m range)))

module _ {maps : ℕ → Map} {mid read : CommitRequest} {cursor next : RangeCursor} {batch : List Pair} (one : HasBatch maps cursor batch next mid read) where
  -- a batch as a run
  pub batch_ran : DidRead maps (range_read one.range BATCH cursor.reverse batch ∷ []) mid read (IsFirstOf cursor.reverse one.range batch)
  batch_ran =
      ran_read (range_read one.range BATCH cursor.reverse batch) one.reads (λ m agree. (
        one.batch m agree ∙ ap (take BATCH) (was (seen mid m)),
        ap (pairs_left (seen mid m)) (sym one.is) ∙ one.left m agree ∙ ap (drop BATCH) (was (seen mid m)),
      ))
    where
      was : (m : Map) → pairs_left m cursor ≡ directed cursor.reverse (pairs_in m one.range)
      was m = ap (λ o. pairs_left m (record { rest = o; reverse = cursor.reverse })) one.was

-- what a cursor gave: a batch, or nothing, since it has nothing left
module _ (maps : ℕ → Map) {cursor next : RangeCursor} {mid read : CommitRequest} where
  pub gave_batch : (given : Option (Vec Pair Global)) (batch : Vec Pair Global) → given ≡ Some batch → IsNextBatch maps cursor (option_map (λ (b : Vec Pair Global). b.items) given) next mid read → HasBatch maps cursor batch.items next mid read
  gave_batch given batch is one = subst (λ o. IsNextBatch maps cursor (option_map (λ (b : Vec Pair Global). b.items) o) next mid read) is one

  pub gave_none : (given : Option (Vec Pair Global)) → ((batch : Vec Pair Global) → given ≡ Some batch → ⊥) → IsNextBatch maps cursor (option_map (λ (b : Vec Pair Global). b.items) given) next mid read → (cursor.rest ≡ None) × (next ≡ cursor) × (read ≡ mid)
  gave_none (Some batch) not one = absurd (not batch refl)
  gave_none None not one = one

-- ---- how much is left

-- how many pairs a cursor has left in a map, and one more where it has a range left
abbrev pub left_count : Map → RangeCursor → ℕ
left_count m cursor = elim cursor.rest [ None ↦ 0 | Some range ↦ suc (length (directed cursor.reverse (pairs_in m range))) ]

module _ (m : Map) (reversed : Bool) (range : KeyRange) (batch : List Pair) (is : batch ≡ take BATCH (directed reversed (pairs_in m range)))
    (left : pairs_left m (record { rest = rest_behind range BATCH reversed batch; reverse = reversed }) ≡ drop BATCH (directed reversed (pairs_in m range))) where
  pub fewer_left : left_count m (record { rest = rest_behind range BATCH reversed batch; reverse = reversed }) < left_count m (record { rest = Some range; reverse = reversed })
  fewer_left = by (nat_lt (length batch) BATCH) refl left
    where
      all : List Pair
      all = directed reversed (pairs_in m range)

      rest : Bool → RangeCursor
      rest few = record { rest = cond few None (Some (behind_last range reversed batch)); reverse = reversed }

      by : (few : Bool) → nat_lt (length batch) BATCH ≡ few → pairs_left m (rest few) ≡ drop BATCH all → left_count m (rest few) < suc (length all)
      by true short left = omega (arith)
      by false full left =
          let enough : BATCH ≤ length all = length-take-most BATCH all (subst (λ (b : List Pair). BATCH ≤ length b) is (ltb-false (length batch) BATCH full)) in
          let count : length (directed reversed (pairs_in m (behind_last range reversed batch))) ≡ length all - BATCH = ap length left ∙ length-drop BATCH all in
          omega (arith, enough, count)
