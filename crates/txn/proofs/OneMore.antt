-- What one more mutation makes of own writes, key by key.
use Rattle.std.proofs.Common.{◌≡◌, ℕ, Bool, true, false, cond, not, ◌&&◌, ◌||◌, ◌-◌, ◌≤◌, length, take, drop, arith, Option, None, Some, List, [], ◌∷◌, ◌++◌, inl, inr, refl, sym, ap, ◌∙◌, unwrap_or}
use Rattle.std.proofs.lemmas.Bool.{cases_Bool}
use Rattle.std.specs.Ordering.{is_eq}
use Rattle.std.specs.FinMap.{get, empty, get-empty}
use Rattle.kv_core.specs.Addition.{added}
use Rattle.kv_core.specs.Bytes.{key_cmp}
use Rattle.kv_core.specs.Map.{Map, after, is_just, value_after, value_after_all}
use Rattle.kv_core.specs.Range.{KeyRange, contains, covers}
use Rattle.kv_core.specs.declared.change.Mutation.TheVariants.{Set, ClearRange, Add, CompareAndClear}
use Rattle.kv_core.proofs.Order.{tied_keys, tied_swap}
use Rattle.kv_core.proofs.Changes.{get-kept, get-set}
use Rattle.kv_core.proofs.Sums.{added_twice}
use Rattle.kv_core.specs.declared.change.Mutation.{Mutation}
use Rattle.std.specs.BTreeMap.{BTreeMap}
use Rattle.txn.specs.declared.own.OwnWrites.{OwnWrites}
use Rattle.std.proofs.Math.Seq.{take-length}
use Rattle.std.proofs.lemmas.List.{length-drop, take-append-drop}
use Rattle.txn.specs.Reads.{Follow, IsNoted}
use Rattle.txn.specs.Own.{compared_at, known, own_state, sum_at, sum_over, worth, worth_of, left_of, under}

-- one more operand is added to the sum of the others
pub sum-pushed : (operands : List (List ℕ)) (operand : List ℕ) (before : Option (List ℕ)) → sum_over (operands ++ operand ∷ []) before ≡ added (Some (sum_over operands before)) operand
sum-pushed [] operand before = refl
sum-pushed (x ∷ operands) operand before = sum-pushed operands operand (Some (added before x))

abbrev pub Sums : Type 0
Sums = Option (List (List ℕ))

-- after a Set the value is known, and no sum stands at its key
pub set_under : (w : Map) (c : List KeyRange) (k v q : List ℕ) (sum sum' : Sums) (before : Option (List ℕ)) → sum' ≡ cond (is_eq (key_cmp k q)) None sum →
    worth_of (get (after (Set k v) w) q) sum' (left_of c q before) ≡ value_after (Set k v) q (worth_of (get w q) sum (left_of c q before))
set_under w c k v q sum sum' before is = elim (cases_Bool (is_eq (key_cmp q k))) [
  | inl here ↦
      (λ i. worth_of ((get-set w k v q ∙ ap (λ t. cond t (Some v) (get w q)) here) i) ((is ∙ ap (λ t. cond t None sum) (tied_swap k q ∙ here)) i) (left_of c q before))
      ∙ sym (ap (λ t. cond t (Some v) (worth_of (get w q) sum (left_of c q before))) here)
  | inr other ↦
      (λ i. worth_of ((get-set w k v q ∙ ap (λ t. cond t (Some v) (get w q)) other) i) ((is ∙ ap (λ t. cond t None sum) (tied_swap k q ∙ other)) i) (left_of c q before))
      ∙ sym (ap (λ t. cond t (Some v) (worth_of (get w q) sum (left_of c q before))) other)
]

-- after a ClearRange the keys of the range are cleared
pub clear_under : (w : Map) (c c' : List KeyRange) (r : KeyRange) (q : List ℕ) (sum : Sums) (before : Option (List ℕ)) → covers c' q ≡ (covers c q || contains r q) →
    worth_of (get (after (ClearRange r) w) q) sum (left_of c' q before) ≡ value_after (ClearRange r) q (worth_of (get w q) sum (left_of c q before))
clear_under w c c' r q sum before is =
    (λ i. worth_of (get-kept w (λ k. not (contains r k)) q i) sum (cond (is i) None before))
    ∙ elim (contains r q) as (λ t. worth_of (cond (not t) (get w q) None) sum (cond (covers c q || t) None before) ≡ cond t None (worth_of (get w q) sum (left_of c q before))) [
      | true ↦ either (covers c q)
      | false ↦ same (covers c q)
    ]
  where
    either : (t : Bool) → cond (t || true) None before ≡ None
    either true = refl
    either false = refl

    same : (t : Bool) → worth_of (get w q) sum (cond (t || false) None before) ≡ worth_of (get w q) sum (cond t None before)
    same true = refl
    same false = refl

-- after an Add the sum is added to what was there before
pub add_under : (w : Map) (c : List KeyRange) (k o q : List ℕ) (sums sums' : List ℕ → Sums) (before : Option (List ℕ)) →
    ((q : List ℕ) → is_eq (key_cmp k q) ≡ false → sums' q ≡ sums q) →
    ((before : Option (List ℕ)) → worth (added (get w k) o) (sums' k) before ≡ added (worth_of (get w k) (sums k) before) o) →
    worth_of (get (after (Add k o) w) q) (sums' q) (left_of c q before) ≡ value_after (Add k o) q (worth_of (get w q) (sums q) (left_of c q before))
add_under w c k o q sums sums' before others at = elim (cases_Bool (is_eq (key_cmp q k))) [
  | inl here ↦
      ap (λ x. worth_of x (sums' q) (left_of c q before)) (get-set w k (added (get w k) o) q ∙ ap (λ t. cond t (Some (added (get w k) o)) (get w q)) here)
      ∙ ap (λ x. Some (worth (added (get w k) o) (sums' x) (left_of c x before))) (tied_keys q k here)
      ∙ ap Some (at (left_of c k before))
      ∙ ap (λ x. Some (added (worth_of (get w x) (sums x) (left_of c x before)) o)) (sym (tied_keys q k here))
      ∙ sym (ap (λ t. cond t (Some (added (worth_of (get w q) (sums q) (left_of c q before)) o)) (worth_of (get w q) (sums q) (left_of c q before))) here)
  | inr other ↦
      (λ i. worth_of ((get-set w k (added (get w k) o) q ∙ ap (λ t. cond t (Some (added (get w k) o)) (get w q)) other) i) (others q (tied_swap k q ∙ other) i) (left_of c q before))
      ∙ sym (ap (λ t. cond t (Some (added (worth_of (get w q) (sums q) (left_of c q before)) o)) (worth_of (get w q) (sums q) (left_of c q before))) other)
]

pub value_after_all-append : (mutations more : List Mutation) (key : List ℕ) (before : Option (List ℕ)) →
    value_after_all (mutations ++ more) key before ≡ value_after_all more key (value_after_all mutations key before)
value_after_all-append [] more key before = refl
value_after_all-append (mutation ∷ mutations) more key before = value_after_all-append mutations more key (value_after mutation key before)

-- a mutation acts under the later ones of a key where it takes their place, or leaves the key alone
over_later : (c : Mutation) (b : Bool) (q : List ℕ) (noted noted' : List Mutation) (x : Option (List ℕ)) →
    (b ≡ true → (y z : Option (List ℕ)) → value_after c q y ≡ value_after c q z) → (b ≡ false → (y : Option (List ℕ)) → value_after c q y ≡ y) →
    noted' ≡ cond b [] noted → value_after_all noted' q (value_after c q x) ≡ value_after c q (value_after_all noted q x)
over_later c true q noted noted' x any alone is = ap (λ ms. value_after_all ms q (value_after c q x)) is ∙ any refl x (value_after_all noted q x)
over_later c false q noted noted' x any alone is =
    ap (λ ms. value_after_all ms q (value_after c q x)) is ∙ ap (value_after_all noted q) (alone refl x) ∙ sym (alone refl (value_after_all noted q x))

set_over : (k v q : List ℕ) (noted noted' : List Mutation) (x : Option (List ℕ)) → noted' ≡ cond (is_eq (key_cmp k q)) [] noted →
    value_after_all noted' q (value_after (Set k v) q x) ≡ value_after (Set k v) q (value_after_all noted q x)
set_over k v q noted noted' x is = over_later (Set k v) (is_eq (key_cmp k q)) q noted noted' x
    (λ e y z. ap (λ t. cond t (Some v) y) (sym (tied_swap k q) ∙ e) ∙ sym (ap (λ t. cond t (Some v) z) (sym (tied_swap k q) ∙ e)))
    (λ e y. ap (λ t. cond t (Some v) y) (sym (tied_swap k q) ∙ e)) is

clear_over : (r : KeyRange) (q : List ℕ) (noted noted' : List Mutation) (x : Option (List ℕ)) → noted' ≡ cond (contains r q) [] noted →
    value_after_all noted' q (value_after (ClearRange r) q x) ≡ value_after (ClearRange r) q (value_after_all noted q x)
clear_over r q noted notes' x is = over_later (ClearRange r) (contains r q) q noted notes' x
    (λ e y z. ap (λ t. cond t None y) e ∙ sym (ap (λ t. cond t None z) e)) (λ e y. ap (λ t. cond t None y) e) is

add_over : (k o q : List ℕ) (noted : List Mutation) (x : Option (List ℕ)) → (is_eq (key_cmp q k) ≡ true → noted ≡ []) →
    value_after_all noted q (value_after (Add k o) q x) ≡ value_after (Add k o) q (value_after_all noted q x)
add_over k o q noted x none = elim (cases_Bool (is_eq (key_cmp q k))) [
  | inl here ↦
      ap (λ ms. value_after_all ms q (value_after (Add k o) q x)) (none here) ∙ sym (ap (λ ms. value_after (Add k o) q (value_after_all ms q x)) (none here))
  | inr other ↦
      ap (value_after_all noted q) (ap (λ t. cond t (Some (added x o)) x) other)
      ∙ sym (ap (λ t. cond t (Some (added (value_after_all noted q x) o)) (value_after_all noted q x)) other)
]

-- an Add or a comparison leaves other keys alone
pub add_alone : (k o q : List ℕ) (before : Option (List ℕ)) → is_eq (key_cmp k q) ≡ false → value_after (Add k o) q before ≡ before
add_alone k o q before other = ap (λ t. cond t (Some (added before o)) before) (sym (tied_swap k q) ∙ other)

pub compare_alone : (k o q : List ℕ) (before : Option (List ℕ)) → is_eq (key_cmp k q) ≡ false → value_after (CompareAndClear k o) q before ≡ before
compare_alone k o q before other = ap (λ t. cond (t && is_just o before) None before) (sym (tied_swap k q) ∙ other)

-- own writes with one more mutation of a key after the others
pub with_noted : (self own : OwnWrites) (c : Mutation) (k : List ℕ) (compared : BTreeMap (List ℕ) (List Mutation)) → own ≡ record self { compared = compared } →
    ((q : List ℕ) (before : Option (List ℕ)) → is_eq (key_cmp k q) ≡ false → value_after c q before ≡ before) →
    ((q : List ℕ) → compared_at compared q ≡ cond (is_eq (key_cmp k q)) (compared_at self.compared q ++ c ∷ []) (compared_at self.compared q)) →
    (key : List ℕ) (before : Option (List ℕ)) → under (own_state own) key before ≡ value_after c key (under (own_state self) key before)
with_noted self own c k compared own_is alone noted key before =
    let x = known (own_state self) key before in
    let mine = compared_at self.compared key in
    (λ i. under (own_state (own_is i)) key before)
    ∙ elim (cases_Bool (is_eq (key_cmp k key))) [
      | inl here ↦
          ap (λ ms. value_after_all ms key x) (noted key ∙ ap (λ t. cond t (mine ++ c ∷ []) mine) here)
          ∙ value_after_all-append mine (c ∷ []) key x
      | inr other ↦
          ap (λ ms. value_after_all ms key x) (noted key ∙ ap (λ t. cond t (mine ++ c ∷ []) mine) other)
          ∙ sym (alone key (value_after_all mine key x) other)
    ]

-- no mutation makes nothing of any value
pub under_none : (w : Map) (c : List KeyRange) (sum : Sums) (q : List ℕ) (before : Option (List ℕ)) → w ≡ empty → c ≡ [] → worth_of (get w q) sum (left_of c q before) ≡ before
under_none w c sum q before is_empty none = (λ i. worth_of ((ap (λ m. get m q) is_empty ∙ get-empty key_cmp q) i) sum (left_of (none i) q before))

-- a sum over no value is one over the empty one
pub from_nothing : (operands : List (List ℕ)) (before : Option (List ℕ)) → sum_over operands (Some (unwrap_or before [])) ≡ sum_over operands before
from_nothing [] before = refl
from_nothing (x ∷ operands) before = refl

-- own writes with a Set, an Add and a ClearRange after them
pub with_set : (self own : OwnWrites) (written : Map) (mutation : Mutation) (k v : List ℕ) (sums : BTreeMap (List ℕ) (List (List ℕ))) (compared : BTreeMap (List ℕ) (List Mutation)) →
    mutation ≡ Set k v → own ≡ record self { sums = sums; compared = compared } →
    written ≡ after mutation own.written → ((q : List ℕ) → sum_at sums.entries q ≡ cond (is_eq (key_cmp k q)) None (sum_at self.sums.entries q)) →
    ((q : List ℕ) → compared_at compared q ≡ cond (is_eq (key_cmp k q)) [] (compared_at self.compared q)) →
    (key : List ℕ) (before : Option (List ℕ)) →
    under (record { written = written; cleared = own.cleared; sums = own.sums.entries; compared = own.compared }) key before ≡ value_after mutation key (under (own_state self) key before)
with_set self own written mutation k v sums compared is_set own_is now gone forgot key before =
    (λ i. value_after_all (compared_at (own_is i).compared key) key
    (worth_of (get ((now ∙ (λ j. after (is_set j) (own_is j).written)) i) key) (sum_at (own_is i).sums.entries key) (left_of (own_is i).cleared key before)))
    ∙ ap (value_after_all (compared_at compared key) key) (set_under self.written self.cleared k v key (sum_at self.sums.entries key) (sum_at sums.entries key) before (gone key))
    ∙ set_over k v key (compared_at self.compared key) (compared_at compared key) (known (own_state self) key before) (forgot key)
    ∙ ap (λ m. value_after m key (under (own_state self) key before)) (sym is_set)

pub with_clear : (self own : OwnWrites) (written : Map) (mutation : Mutation) (range : KeyRange) (cleared : List KeyRange) (compared : BTreeMap (List ℕ) (List Mutation)) →
    mutation ≡ ClearRange range → own ≡ record self { cleared = cleared; compared = compared } →
    written ≡ after mutation own.written → ((q : List ℕ) → covers cleared q ≡ (covers self.cleared q || contains range q)) →
    ((q : List ℕ) → compared_at compared q ≡ cond (contains range q) [] (compared_at self.compared q)) →
    (key : List ℕ) (before : Option (List ℕ)) →
    under (record { written = written; cleared = own.cleared; sums = own.sums.entries; compared = own.compared }) key before ≡ value_after mutation key (under (own_state self) key before)
with_clear self own written mutation range cleared compared is_clear own_is now more forgot key before =
    (λ i. value_after_all (compared_at (own_is i).compared key) key
    (worth_of (get ((now ∙ (λ j. after (is_clear j) (own_is j).written)) i) key) (sum_at (own_is i).sums.entries key) (left_of (own_is i).cleared key before)))
    ∙ ap (value_after_all (compared_at compared key) key) (clear_under self.written self.cleared cleared range key (sum_at self.sums.entries key) before (more key))
    ∙ clear_over range key (compared_at self.compared key) (compared_at compared key) (known (own_state self) key before) (forgot key)
    ∙ ap (λ m. value_after m key (under (own_state self) key before)) (sym is_clear)

pub with_add : (self own added_to : OwnWrites) (written : Map) (mutation : Mutation) (k o : List ℕ) → mutation ≡ Add k o → own ≡ added_to →
    written ≡ after mutation own.written → added_to.written ≡ self.written → added_to.cleared ≡ self.cleared →
    added_to.compared ≡ self.compared → compared_at self.compared k ≡ [] →
    ((q : List ℕ) → is_eq (key_cmp k q) ≡ false → sum_at added_to.sums.entries q ≡ sum_at self.sums.entries q) →
    ((before : Option (List ℕ)) → worth (added (get self.written k) o) (sum_at added_to.sums.entries k) before ≡ added (worth_of (get self.written k) (sum_at self.sums.entries k) before) o) →
    (key : List ℕ) (before : Option (List ℕ)) →
    under (record { written = written; cleared = own.cleared; sums = own.sums.entries; compared = own.compared }) key before ≡ value_after mutation key (under (own_state self) key before)
with_add self own added_to written mutation k o is_add own_is now same_written same_cleared same_compared uncompared others at key before =
    (λ i. value_after_all (compared_at ((ap (λ x. x.compared) own_is ∙ same_compared) i) key) key
    (worth_of (get ((now ∙ (λ j. after (is_add j) ((ap (λ x. x.written) own_is ∙ same_written) j))) i) key) (sum_at (own_is i).sums.entries key)
    (left_of ((ap (λ x. x.cleared) own_is ∙ same_cleared) i) key before)))
    ∙ ap (value_after_all (compared_at self.compared key) key) (add_under self.written self.cleared k o key (sum_at self.sums.entries) (sum_at added_to.sums.entries) before others at)
    ∙ add_over k o key (compared_at self.compared key) (known (own_state self) key before) (λ here. ap (compared_at self.compared) (tied_keys key k here) ∙ uncompared)
    ∙ ap (λ m. value_after m key (under (own_state self) key before)) (sym is_add)

-- one operand earlier is added to the last one
pub plus_turn : (operands rest : List (List ℕ)) (earlier last next : List ℕ) (sum : Option (List ℕ) → List ℕ) → length last ≤ length earlier → operands ≡ rest ++ earlier ∷ [] →
    next ≡ added (Some earlier) last → ((before : Option (List ℕ)) → added (Some (sum_over operands before)) last ≡ sum before) →
    (before : Option (List ℕ)) → added (Some (sum_over rest before)) next ≡ sum before
plus_turn operands rest earlier last next sum longer is next_is so before =
    ap (added (Some (sum_over rest before))) next_is ∙ sym (added_twice (Some (sum_over rest before)) earlier last longer)
    ∙ ap (λ x. added (Some x) last) (sym (sum-pushed rest earlier before) ∙ ap (λ xs. sum_over xs before) (sym is)) ∙ so before

-- own writes that have noted the first mutations, with the others noted after them
pub caught_up : (own noted : OwnWrites) (mutations rest : List Mutation) → IsNoted own mutations → rest ≡ drop own.noted mutations →
    ((key : List ℕ) (before : Option (List ℕ)) → under (own_state noted) key before ≡ value_after_all rest key (under (own_state own) key before)) → Follow noted mutations
caught_up own noted mutations rest is rest_is on key before =
    on key before ∙ (λ i. value_after_all (rest_is i) key (is.1 key before i))
    ∙ sym (value_after_all-append (take own.noted mutations) (drop own.noted mutations) key before)
    ∙ ap (λ ms. value_after_all ms key before) (take-append-drop own.noted mutations)

-- own writes that follow all mutations have noted all of them
pub noted_all : (own : OwnWrites) (mutations : List Mutation) → own.noted ≡ length mutations → Follow own mutations → IsNoted own mutations
noted_all own mutations count follow =
    (omega (arith, count), λ key before. follow key before ∙ ap (λ ms. value_after_all ms key before) (sym (ap (λ n. take n mutations) count ∙ take-length mutations)))

-- own writes that have noted all mutations follow them
pub noted_follow : (own : OwnWrites) (mutations : List Mutation) → IsNoted own mutations → own.noted ≡ length mutations → Follow own mutations
noted_follow own mutations is count =
    λ key before. is.1 key before ∙ ap (λ ms. value_after_all ms key before) (ap (λ n. take n mutations) count ∙ take-length mutations)

-- a list from a place on
pub rest_from : (n : ℕ) (mutations : List Mutation) → take (length mutations - n) (drop n mutations) ≡ drop n mutations
rest_from n mutations = ap (λ k. take k (drop n mutations)) (sym (length-drop n mutations)) ∙ take-length (drop n mutations)
