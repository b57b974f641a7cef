-- What the last mutation of a key tells of it, and how it is found and noted.
use Rattle.std.proofs.Common.{◌≡◌, ℕ, ◌+◌, ◌<◌, ◌≤◌, Bool, true, false, cond, ◌&&◌, arith, get_or, length, take, Option, None, Some, List, [], ◌∷◌, ◌++◌, inl, inr, refl, sym, ap, subst, ◌∙◌}
use Rattle.std.proofs.Math.Seq.{get_or-append_seam, take-length}
use Rattle.std.proofs.lemmas.Bool.{cases_Bool, true≢false}
use Rattle.std.proofs.lemmas.Cmp.{nat_list_cmp_total, tied_itself}
use Rattle.std.proofs.lemmas.List.{get_or_append_left, length-append, length-take, take-append-le, take_more}
use Rattle.std.specs.HashMap.{get}
use Rattle.std.specs.Map.{lookup}
use Rattle.std.specs.Ordering.{eq_by_cmp, is_eq}
use Rattle.kv_core.specs.Bytes.{key_cmp}
use Rattle.kv_core.specs.Map.{value_after, value_after_all}
use Rattle.kv_core.specs.Range.{KeyRange, contains}
use Rattle.kv_core.specs.declared.change.Mutation.{Mutation}
use Rattle.kv_core.specs.declared.change.Mutation.TheVariants.{Set, ClearRange, Add, CompareAndClear}
use Rattle.kv_core.proofs.Order.{contains-point, tied_keys, tied_swap}
use Rattle.kv_core.proofs.Pairs.{contains-point-is}
use Rattle.std.proofs.lemmas.List.Sums.{sum_by-append}
use Rattle.kv_core.specs.Limits.{size_of, size_of_all}
use Rattle.kv_core.specs.declared.change.CommitRequest.{CommitRequest}
use Rattle.kv_core.specs.declared.limits.TheConstants.{MAX_TRANSACTION_BYTES}
use Rattle.txn.proofs.OneMore.{add_alone, compare_alone, value_after_all-append}
use Rattle.txn.specs.Latest.{Decides, WritesJust, IsLastPlace, LeaveAlone, Notes, NotesFirst}
use Rattle.txn.specs.Reads.{Follow, IsNoted, IsTransaction}
use Rattle.txn.specs.declared.latest.Latest.{Latest}
use Rattle.txn.specs.declared.own.OwnWrites.{OwnWrites}

-- a mutation of one key leaves the others alone
other_key : (m : Mutation) (k q : List ℕ) (before : Option (List ℕ)) → WritesJust m k → is_eq (key_cmp k q) ≡ false → value_after m q before ≡ before
other_key (Set own v) k q before is other =
    ap (λ x. cond (is_eq (key_cmp q x)) (Some v) before) is ∙ ap (λ t. cond t (Some v) before) (tied_swap q k ∙ other)
other_key (Add own o) k q before is other = ap (λ x. value_after (Add x o) q before) is ∙ add_alone k o q before other
other_key (CompareAndClear own o) k q before is other = ap (λ x. value_after (CompareAndClear x o) q before) is ∙ compare_alone k o q before other
other_key (ClearRange r) k q before is other =
    ap (λ r. cond (contains r q) None before) is ∙ ap (λ t. cond t None before) (contains-point-is k q ∙ other)

-- one more mutation at the end acts on what the others make
more_at_end : (ms : List Mutation) (m : Mutation) (key : List ℕ) (before : Option (List ℕ)) →
    value_after_all (ms ++ m ∷ []) key before ≡ value_after m key (value_after_all ms key before)
more_at_end ms m key before = value_after_all-append ms (m ∷ []) key before

-- the last one of those that are left writes the key
pub found_last : (ms rest front : List Mutation) (last : Mutation) (own key : List ℕ) → rest ≡ front ++ last ∷ [] → WritesJust last own → is_eq (key_cmp own key) ≡ true →
    ((before : Option (List ℕ)) → value_after_all ms key before ≡ value_after_all rest key before) → Decides last ms key
found_last ms rest front last own key is of tie same = (
  subst (WritesJust last) (tied_keys own key tie) of,
  λ before. (value_after_all front key before, same before ∙ ap (λ xs. value_after_all xs key before) is ∙ more_at_end front last key before),
)

-- it writes another one, and is passed
pub passed_last : (ms rest front : List Mutation) (last : Mutation) (own key : List ℕ) → rest ≡ front ++ last ∷ [] → WritesJust last own → is_eq (key_cmp own key) ≡ false →
    ((before : Option (List ℕ)) → value_after_all ms key before ≡ value_after_all rest key before) →
    (before : Option (List ℕ)) → value_after_all ms key before ≡ value_after_all front key before
passed_last ms rest front last own key is of other same before =
    same before ∙ ap (λ xs. value_after_all xs key before) is ∙ more_at_end front last key before
    ∙ other_key last own key (value_after_all front key before) of other

-- where a mutation is put at the end, its key's place is that end, and other keys keep theirs
place_here : (ms : List Mutation) (m : Mutation) (k q : List ℕ) → WritesJust m k → is_eq (key_cmp k q) ≡ true → IsLastPlace (Some (length ms)) (ms ++ m ∷ []) q
place_here ms m k q is here = (
  omega (arith, length-append ms (m ∷ [])),
  λ other. subst (λ x. Decides x (ms ++ m ∷ []) q) (sym (get_or-append_seam ms m [] other))
      (subst (WritesJust m) (tied_keys k q here) is, λ before. (value_after_all ms q before, more_at_end ms m q before)),
)

place_there : (ms : List Mutation) (m : Mutation) (k q : List ℕ) (place : Option ℕ) → WritesJust m k → is_eq (key_cmp k q) ≡ false → IsLastPlace place ms q → IsLastPlace place (ms ++ m ∷ []) q
place_there ms m k q None is there alone =
    λ before. more_at_end ms m q before ∙ other_key m k q (value_after_all ms q before) is there ∙ alone before
place_there ms m k q (Some place) is there (below, decides) = (
  omega (arith, length-append ms (m ∷ [])),
  λ other. subst (λ x. Decides x (ms ++ m ∷ []) q) (sym (get_or_append_left ms (m ∷ []) other place below)) (
    (decides other).0,
    λ before. (
      ((decides other).1 before).0,
      more_at_end ms m q before ∙ other_key m k q (value_after_all ms q before) is there ∙ ((decides other).1 before).1,
    ),
  ),
)

place_more : (ms : List Mutation) (m : Mutation) (k q : List ℕ) (old new : Option ℕ) → WritesJust m k → new ≡ cond (is_eq (key_cmp k q)) (Some (length ms)) old → IsLastPlace old ms q →
    IsLastPlace new (ms ++ m ∷ []) q
place_more ms m k q old new is step place = elim (cases_Bool (is_eq (key_cmp k q))) [
  | inl here ↦ subst (λ p. IsLastPlace p (ms ++ m ∷ []) q) (sym (step ∙ ap (λ t. cond t (Some (length ms)) old) here)) (place_here ms m k q is here)
  | inr there ↦ subst (λ p. IsLastPlace p (ms ++ m ∷ []) q) (sym (step ∙ ap (λ t. cond t (Some (length ms)) old) there)) (place_there ms m k q old is there place)
]

-- a mutation of one key is noted
pub noted_key : (old new : Latest) (m : Mutation) (k put : List ℕ) → WritesJust m k → put ≡ k → new.noted ≡ old.noted + 1 → new.is_cut ≡ old.is_cut →
    ((q : List ℕ) → get (eq_by_cmp key_cmp) new.places q ≡ cond (eq_by_cmp key_cmp put q) (Some old.noted) (get (eq_by_cmp key_cmp) old.places q)) →
    (ms : List Mutation) → Notes old ms → Notes new (ms ++ m ∷ [])
noted_key old new m k put is same count cut step ms (counted, places) = (
  omega (arith, count, counted, length-append ms (m ∷ [])),
  λ whole q. place_more ms m k q (get (eq_by_cmp key_cmp) old.places q) (get (eq_by_cmp key_cmp) new.places q) is
      (step q ∙ (λ i. cond (is_eq (key_cmp (same i) q)) (Some (counted i)) (get (eq_by_cmp key_cmp) old.places q))) (places (sym cut ∙ whole) q),
)

-- a range is noted, and with it that the places say nothing
pub noted_wide : (old new : Latest) (m : Mutation) → new.noted ≡ old.noted + 1 → new.is_cut ≡ true → (ms : List Mutation) → Notes old ms → Notes new (ms ++ m ∷ [])
noted_wide old new m count cut ms (counted, places) =
    (omega (arith, count, counted, length-append ms (m ∷ [])), λ whole q. absurd (true≢false (sym cut ∙ whole)))

-- nothing is noted
pub none_noted : (latest : Latest) → latest.noted ≡ 0 → latest.places.entries ≡ [] → Notes latest []
none_noted latest count empty =
    (count, λ whole q. subst (λ es. IsLastPlace (lookup (eq_by_cmp key_cmp q) es) [] q) (sym empty) (λ before. refl))

-- what is noted is what it was
pub still_noted : (old new : Latest) → new.places.entries ≡ old.places.entries → new.noted ≡ old.noted → new.is_cut ≡ old.is_cut →
    (ms : List Mutation) → Notes old ms → Notes new ms
still_noted old new same count cut ms (counted, places) =
    (count ∙ counted, λ whole q. subst (λ es. IsLastPlace (lookup (eq_by_cmp key_cmp q) es) ms q) (sym same) (places (sym cut ∙ whole) q))

-- the next mutation of a list is noted
pub noted_next : (old new : Latest) (ms : List Mutation) (next : Mutation) → NotesFirst old ms → old.noted < length ms → next ≡ get_or ms old.noted next →
    ((firsts : List Mutation) → Notes old firsts → Notes new (firsts ++ next ∷ [])) → NotesFirst new ms
noted_next old new ms next (within, notes) below is more =
    let first : take old.noted ms ++ next ∷ [] ≡ take (old.noted + 1) ms =
    ap (λ m. take old.noted ms ++ m ∷ []) is ∙ sym (take_more ms old.noted next below) in
    let all : Notes new (take (old.noted + 1) ms) = subst (Notes new) first (more (take old.noted ms) notes) in
    let count : new.noted ≡ old.noted + 1 = all.0 ∙ simp length-take (omega arith) in
    (omega arith, subst (λ n. Notes new (take n ms)) (sym count) all)

-- and that is one more
pub noted_one_more : (old new : Latest) (ms : List Mutation) (next : Mutation) → NotesFirst old ms → old.noted < length ms →
    ((firsts : List Mutation) → Notes old firsts → Notes new (firsts ++ next ∷ [])) → new.noted ≡ old.noted + 1
noted_one_more old new ms next (within, notes) below more =
    (more (take old.noted ms) notes).0 ∙ simp (length-append, length-take) (omega arith)

-- it isn't, and what was noted still is
pub noted_as_far : (old new : Latest) (ms : List Mutation) → NotesFirst old ms → ((firsts : List Mutation) → Notes old firsts → Notes new firsts) → NotesFirst new ms
noted_as_far old new ms (within, notes) more =
    let still = more (take old.noted ms) notes in
    let count : new.noted ≡ old.noted = still.0 ∙ simp length-take (omega arith) in
    (omega arith, subst (λ n. Notes new (take n ms)) (sym count) still)

-- where all are noted, what is noted is that of the list
pub noted_all : (latest : Latest) (ms : List Mutation) → NotesFirst latest ms → length ms ≤ latest.noted → Notes latest ms
noted_all latest ms (within, notes) all =
    let count : latest.noted ≡ length ms = omega arith in
    subst (Notes latest) (ap (λ n. take n ms) count ∙ take-length ms) notes

pub noted_whole : (latest : Latest) (ms : List Mutation) → Notes latest ms → NotesFirst latest ms
noted_whole latest ms (count, places) =
    (omega arith, subst (Notes latest) (sym (ap (λ n. take n ms) count ∙ take-length ms)) (count, places))

-- ---- what the last mutation tells

pub set_tells : (ms : List Mutation) (own v key : List ℕ) (before : Option (List ℕ)) → Decides (Set own v) ms key → value_after_all ms key before ≡ Some v
set_tells ms own v key before (of, decides) =
    (decides before).1
    ∙ ap (λ t. cond t (Some v) (decides before).0) (ap (λ x. is_eq (key_cmp key x)) of ∙ ap is_eq (tied_itself nat_list_cmp_total key))

pub clear_tells : (ms : List Mutation) (range : KeyRange) (key : List ℕ) (before : Option (List ℕ)) → Decides (ClearRange range) ms key → value_after_all ms key before ≡ None
clear_tells ms range key before (of, decides) =
    (decides before).1 ∙ ap (λ r. cond (contains r key) None (decides before).0) of ∙ ap (λ t. cond t None (decides before).0) (contains-point key)

-- ---- a transaction with more mutations

-- own writes, and the places that are noted, are those of the first ones still
noted_more : (own : OwnWrites) (ms more : List Mutation) → IsNoted own ms → IsNoted own (ms ++ more)
noted_more own ms more (within, follow) =
    (omega (arith, length-append ms more), subst (Follow own) (sym (take-append-le own.noted ms more within)) follow)

placed_more : (latest : Latest) (ms more : List Mutation) → NotesFirst latest ms → NotesFirst latest (ms ++ more)
placed_more latest ms more (within, notes) =
    (omega (arith, length-append ms more), subst (Notes latest) (sym (take-append-le latest.noted ms more within)) notes)

pub with_more : (old new : CommitRequest) (size grown : ℕ) (own : OwnWrites) (latest : Latest) (more : List Mutation) → IsTransaction old size own latest →
    new.mutations ≡ old.mutations ++ more → grown ≡ size + size_of_all more → grown ≤ MAX_TRANSACTION_BYTES → IsTransaction new grown own latest
with_more old new size grown own latest more is added sized small = record {
  sized = sized ∙ ap (λ n. n + size_of_all more) is.sized ∙ sym (sum_by-append size_of old.mutations more) ∙ ap size_of_all (sym added);
  small = small;
  noted = subst (IsNoted own) (sym added) (noted_more own old.mutations more is.noted);
  placed = subst (NotesFirst latest) (sym added) (placed_more latest old.mutations more is.placed);
}

-- one whose mutations are as they were
pub as_before : (old new : CommitRequest) (size : ℕ) (own : OwnWrites) (latest : Latest) → IsTransaction old size own latest → new.mutations ≡ old.mutations →
    IsTransaction new size own latest
as_before old new size own latest is same = record {
  sized = is.sized ∙ ap size_of_all (sym same);
  small = is.small;
  noted = subst (IsNoted own) (sym same) is.noted;
  placed = subst (NotesFirst latest) (sym same) is.placed;
}

-- one that noted more of its mutations
pub looked_up : (request : CommitRequest) (size : ℕ) (own : OwnWrites) (latest now : Latest) (ms : List Mutation) → IsTransaction request size own latest → ms ≡ request.mutations →
    NotesFirst now ms → IsTransaction request size own now
looked_up request size own latest now ms is same placed = record {
  sized = is.sized;
  small = is.small;
  noted = is.noted;
  placed = subst (NotesFirst now) same placed;
}

pub caught_up_too : (request : CommitRequest) (size : ℕ) (own caught : OwnWrites) (latest now : Latest) (ms : List Mutation) → IsTransaction request size own latest → ms ≡ request.mutations →
    IsNoted caught ms → NotesFirst now ms → IsTransaction request size caught now
caught_up_too request size own caught latest now ms is same noted placed = record {
  sized = is.sized;
  small = is.small;
  noted = subst (IsNoted caught) same noted;
  placed = subst (NotesFirst now) same placed;
}

-- what is seen at a key whose last mutation puts a value
pub set_seen : (ms mutations : List Mutation) (last : Mutation) (own v copied key : List ℕ) (stored : Option (List ℕ)) → Decides last ms key → last ≡ Set own v → copied ≡ v → ms ≡ mutations →
    Some copied ≡ value_after_all mutations key stored
set_seen ms mutations last own v copied key stored decides is same all =
    ap Some same ∙ sym (set_tells ms own v key stored (subst (λ m. Decides m ms key) is decides)) ∙ ap (λ xs. value_after_all xs key stored) all

-- and at one whose last mutation clears it
pub clear_seen : (ms mutations : List Mutation) (last : Mutation) (range : KeyRange) (key : List ℕ) (stored : Option (List ℕ)) → Decides last ms key → last ≡ ClearRange range → ms ≡ mutations →
    None ≡ value_after_all mutations key stored
clear_seen ms mutations last range key stored decides is all =
    sym (clear_tells ms range key stored (subst (λ m. Decides m ms key) is decides)) ∙ ap (λ xs. value_after_all xs key stored) all
