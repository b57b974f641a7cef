-- The read ranges that are kept decide what was read.
use Rattle.std.proofs.Common.{◌≡◌, ℕ, ◌≤◌, Bool, true, cond, ◌&&◌, List, [], ◌∷◌, ◌++◌, length, Option, sym, ap, subst, ◌∙◌, inl, inr}
use Rattle.std.proofs.lemmas.Bool.{and_parts, or_cases, or_left, or_right, cases_Bool}
use Rattle.std.proofs.lemmas.List.Folds.{list_any-append}
use Rattle.std.specs.List.{list_any}
use Rattle.std.specs.Ordering.{is_eq}
use Rattle.std.specs.FinMap.{get}
use Rattle.kv_core.specs.Bytes.{key_cmp, key_le, key_lt}
use Rattle.kv_core.specs.Range.{KeyRange, contains, covers, point, is_same_range, with_range}
use Rattle.kv_core.specs.Map.{Map, Agree, after_all, value_after_all}
use Rattle.kv_core.specs.declared.change.Mutation.{Mutation}
use Rattle.txn.specs.declared.own.OwnWrites.{OwnWrites}
use Rattle.txn.specs.Own.{IsUnder, own_state}
use Rattle.kv_core.specs.Read.{read_of, range_read, last_key}
use Rattle.kv_core.specs.declared.change.CommitRequest.{CommitRequest}
use Rattle.kv_core.proofs.Order.{tied_keys, contains-point}
use Rattle.kv_core.proofs.Changes.{same-after_all, get-after_all-value}
use Rattle.kv_core.proofs.Pairs.{last_inside, read_of-same}
use Rattle.txn.specs.Reads.{seen, has_read, Follow, PointDecides, RangeDecides}

-- a range that equals one of the list is covered by it
same_covers : (r : KeyRange) (k : List ℕ) (rs : List KeyRange) → list_any (is_same_range r) rs ≡ true → contains r k ≡ true → covers rs k ≡ true
same_covers r k [] any h = any
same_covers r k (x ∷ rs) any h =
    elim (or_cases (is_same_range r x) (list_any (is_same_range r) rs) any) [
      | inl here ↦
          let parts = and_parts (is_eq (key_cmp r.begin x.begin)) (is_eq (key_cmp r.end x.end)) here in
          or_left _ _ (subst (λ e. (key_le x.begin k && key_lt k e) ≡ true) (tied_keys r.end x.end parts.1) (subst (λ b. (key_le b k && key_lt k r.end) ≡ true) (tied_keys r.begin x.begin parts.0) h))
      | inr later ↦ or_right _ _ (same_covers r k rs later h)
    ]

-- the list with a range covers the keys of the range
pub covers-with_range : (r : KeyRange) (rs : List KeyRange) (k : List ℕ) → contains r k ≡ true → covers (with_range r rs) k ≡ true
covers-with_range r rs k h =
    elim (cases_Bool (list_any (is_same_range r) rs)) [
      | inl there ↦ subst (λ b. covers (cond b rs (rs ++ r ∷ [])) k ≡ true) (sym there) (same_covers r k rs there h)
      | inr new ↦ subst (λ b. covers (cond b rs (rs ++ r ∷ [])) k ≡ true) (sym new) (list_any-append (λ x. contains x k) rs (r ∷ []) ∙ or_right _ _ (or_left _ _ h))
    ]

pub point_decides : PointDecides
point_decides tx key m n agree = same-after_all tx.mutations m n key (agree key (covers-with_range (point key) tx.reads key (contains-point key)))

pub range_decides : RangeDecides
range_decides tx range limit reversed m n some agree =
    read_of-same (seen tx m) (seen tx n) range limit reversed some
    (λ q h. same-after_all tx.mutations m n q (agree q (covers-with_range (range_read range limit reversed (read_of (seen tx m) range limit reversed)) tx.reads q h)))

-- what is seen at a key, from what the snapshot has there
pub seen_at : (tx : CommitRequest) (base m : Map) (key : List ℕ) → Agree (has_read (point key) tx).reads base m →
    value_after_all tx.mutations key (get base key) ≡ get (seen tx m) key
seen_at tx base m key agree = sym (get-after_all-value tx.mutations base key) ∙ point_decides tx key base m agree

-- the value that a transaction answers, step by step, is what it sees over every map that agrees on the ranges kept
pub get_answer : (maps : ℕ → Map) (tx : CommitRequest) (key : List ℕ) (range : KeyRange) (stored value : Option (List ℕ)) (kept : List KeyRange) →
    range ≡ point key → stored ≡ get (maps tx.read_version) key → value ≡ value_after_all tx.mutations key stored → kept ≡ with_range range tx.reads →
    (m : Map) → Agree kept (maps tx.read_version) m → value ≡ get (seen tx m) key
get_answer maps tx key range stored value kept is_point is_stored is_value is_kept m agree =
    is_value ∙ ap (value_after_all tx.mutations key) is_stored
    ∙ seen_at tx (maps tx.read_version) m key (subst (λ rs. Agree rs (maps tx.read_version) m) (is_kept ∙ ap (λ r. with_range r tx.reads) is_point) agree)

-- the pairs that a transaction answers, step by step, are those that it sees over every map that agrees on the ranges kept
pub range_answer : (maps : ℕ → Map) (request tx : CommitRequest) (range read : KeyRange) (limit : ℕ) (b : Bool) (pairs : List (List ℕ × List ℕ)) (kept : List KeyRange) →
    request ≡ tx → 1 ≤ limit → pairs ≡ read_of (seen request (maps request.read_version)) range limit b → read ≡ range_read range limit b pairs → kept ≡ with_range read request.reads →
    (m : Map) → Agree kept (maps tx.read_version) m → pairs ≡ read_of (seen tx m) range limit b
range_answer maps request tx range read limit b pairs kept same some is is_read is_kept m agree =
    let base = maps request.read_version in
    let kept' : kept ≡ with_range (range_read range limit b (read_of (seen request base) range limit b)) request.reads =
    is_kept ∙ ap (λ r. with_range r request.reads) (is_read ∙ ap (range_read range limit b) is) in
    let agree' : Agree (with_range (range_read range limit b (read_of (seen request base) range limit b)) request.reads) base m =
    subst (λ (t : CommitRequest). Agree (with_range (range_read range limit b (read_of (seen request base) range limit b)) request.reads) (maps t.read_version) m) (sym same)
    (subst (λ rs. Agree rs (maps tx.read_version) m) kept' agree) in
    subst (λ (t : CommitRequest). pairs ≡ read_of (seen t m) range limit b) same (is ∙ range_decides request range limit b base m some agree')

-- the map that a transaction sees is its snapshot's under own writes that follow its mutations
pub seen_under : (own : OwnWrites) (mutations slice : List Mutation) (base : Map) → slice ≡ mutations → Follow own slice → IsUnder (own_state own) base (after_all mutations base)
seen_under own mutations slice base is follow = λ key.
    get-after_all-value mutations base key ∙ ap (λ ms. value_after_all ms key (get base key)) (sym is) ∙ sym (follow key (get base key))

-- the last key of a read that stopped at its limit lies in the range
pub last_seen : (tx : CommitRequest) (base : Map) (range : KeyRange) (limit : ℕ) (b : Bool) (pairs : List (List ℕ × List ℕ)) → 1 ≤ limit → pairs ≡ read_of (seen tx base) range limit b →
    limit ≤ length pairs → contains range (last_key range.begin pairs) ≡ true
last_seen tx base range limit b pairs some is full =
    subst (λ ps. contains range (last_key range.begin ps) ≡ true) (sym is) (last_inside (seen tx base) range limit b some (subst (λ ps. limit ≤ length ps) is full))
