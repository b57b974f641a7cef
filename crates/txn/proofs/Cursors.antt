-- A range read in batches: what is left behind a batch has the pairs that the batch leaves.
use Rattle.std.proofs.Common.{◌≡◌, ℕ, ◌≤◌, Bool, true, false, cond, nat_lt, Option, None, Some, List, [], ◌++◌, length, take, drop, min, refl, sym, ap, subst, ◌∙◌, arith}
use Rattle.std.proofs.Math.ListN.{drop_of_length-le}
use Rattle.std.proofs.Math.Seq.{drop-append_seam}
use Rattle.std.proofs.lemmas.Bool.{and_parts, le-ltb, ltb-false, ltb-true}
use Rattle.std.proofs.lemmas.List.{length-take}
use Rattle.std.specs.Option.{option_map_or}
use Rattle.kv_core.specs.Bytes.{key_lt, key_le, key_max, key_min, next_key}
use Rattle.kv_core.specs.Map.{Map, Agree, pairs_in}
use Rattle.kv_core.specs.Range.{KeyRange, contains, part_before, part_from, with_range}
use Rattle.kv_core.specs.Read.{last_key, range_read, read_of}
use Rattle.kv_core.specs.declared.change.CommitRequest.{CommitRequest}
use Rattle.kv_core.proofs.Order.{le_both, le_from_lt, le_gives, le_trans, less_self}
use Rattle.kv_core.proofs.Pairs.{directed, last_inside, next_least, read_of-part}
use Rattle.kv_core.proofs.Parts.{directed-parts, far, near}
use Rattle.txn.specs.Cursor.{HasBatch, behind_last, rest_behind}
use Rattle.txn.specs.Reads.{has_read, seen}
use Rattle.txn.specs.declared.cursor.RangeCursor.{RangeCursor}
use Rattle.txn.specs.declared.cursor.TheConstants.{BATCH}
use Rattle.txn.proofs.Deciding.{range_answer}
use Rattle.txn.proofs.Merging.{Pairs}
use Rattle.txn.proofs.Rounds.{read_back, read_on}

max_is : (a b : List ℕ) → key_le a b ≡ true → key_max a b ≡ b
max_is a b h = by (key_lt a b) refl
  where
    by : (t : Bool) → key_lt a b ≡ t → key_max a b ≡ b
    by true before = ap (λ t. cond t b a) before
    by false past = ap (λ t. cond t b a) past ∙ le_both a b past (le_gives a b h)

min_is : (a b : List ℕ) → key_lt a b ≡ false → key_min a b ≡ b
min_is a b upto = by (key_lt b a) refl
  where
    by : (t : Bool) → key_lt b a ≡ t → key_min a b ≡ b
    by true before = ap (λ t. cond t b a) before
    by false past = ap (λ t. cond t b a) past ∙ le_both a b upto past

-- the part of a range before one of its keys ends with the key, and the part behind it begins with the next one
part_before-inside : (range : KeyRange) (key : List ℕ) → contains range key ≡ true → part_before key range ≡ record { begin = range.begin; end = key }
part_before-inside range key h =
    let own = and_parts (key_le range.begin key) (key_lt key range.end) h in
    let end : key_max range.begin (key_min key range.end) ≡ key =
    ap (λ t. key_max range.begin (cond t range.end key)) (le_gives key range.end (le_from_lt key range.end own.1)) ∙ max_is range.begin key own.0 in
    λ i. record { begin = range.begin; end = end i }

part_from-next : (range : KeyRange) (key : List ℕ) → contains range key ≡ true → part_from (next_key key) range ≡ record { begin = next_key key; end = range.end }
part_from-next range key h =
    let own = and_parts (key_le range.begin key) (key_lt key range.end) h in
    let next = next_key key in
    let past : key_max range.begin next ≡ next = max_is range.begin next (le_trans range.begin key next own.0 (le_from_lt key next (less_self key))) in
    let begin : key_min range.end (key_max range.begin next) ≡ next = ap (key_min range.end) past ∙ min_is range.end next (next_least key range.end own.1) in
    λ i. record { begin = begin i; end = range.end }

-- what is left of a range behind a read that stopped at its limit
rest_is : (range : KeyRange) (limit : ℕ) (b : Bool) (pairs : Pairs) → limit ≤ length pairs →
    rest_behind range limit b pairs ≡ Some (behind_last range b pairs)
rest_is range limit b pairs full = ap (λ t. cond t None (Some (behind_last range b pairs))) (le-ltb (length pairs) limit full)

pub rest_before : (range : KeyRange) (limit : ℕ) (b : Bool) (pairs : Pairs) (last : List ℕ) → b ≡ true → limit ≤ length pairs → last ≡ last_key range.begin pairs →
    contains range (last_key range.begin pairs) ≡ true → Some (part_before last range) ≡ rest_behind range limit b pairs
rest_before range limit b pairs last is_back full last_is inside =
    ap (λ k. Some (part_before k range)) last_is ∙ ap Some (part_before-inside range (last_key range.begin pairs) inside)
    ∙ ap (λ t. Some (behind_last range t pairs)) (sym is_back) ∙ sym (rest_is range limit b pairs full)

pub rest_from : (range : KeyRange) (limit : ℕ) (b : Bool) (pairs : Pairs) (next : List ℕ) → b ≡ false → limit ≤ length pairs → next ≡ next_key (last_key range.begin pairs) →
    contains range (last_key range.begin pairs) ≡ true → Some (part_from next range) ≡ rest_behind range limit b pairs
rest_from range limit b pairs next is_on full next_is inside =
    ap (λ k. Some (part_from k range)) next_is ∙ ap Some (part_from-next range (last_key range.begin pairs) inside)
    ∙ ap (λ t. Some (behind_last range t pairs)) (sym is_on) ∙ sym (rest_is range limit b pairs full)

-- the pairs of a range, in the direction of a read that stopped at its limit: those of the read, and those behind it
split_behind : (m : Map) (range : KeyRange) (limit : ℕ) (b : Bool) (pairs : Pairs) → 1 ≤ limit → limit ≤ length pairs → pairs ≡ read_of m range limit b →
    directed b (pairs_in m range) ≡ pairs ++ directed b (pairs_in m (behind_last range b pairs))
split_behind m range limit b pairs some full is = by b refl
  where
    last : List ℕ
    last = last_key range.begin pairs

    inside : contains range last ≡ true
    inside = subst (λ ps. contains range (last_key range.begin ps) ≡ true) (sym is) (last_inside m range limit b some (subst (λ ps. limit ≤ length ps) is full))

    here : pairs ≡ directed b (pairs_in m (range_read range limit b pairs))
    here = is ∙ read_of-part m range limit b some ∙ ap (λ ps. directed b (pairs_in m (range_read range limit b ps))) (sym is)

    joined : (place : List ℕ) → near b place range ≡ range_read range limit b pairs → far b place range ≡ behind_last range b pairs →
        directed b (pairs_in m range) ≡ pairs ++ directed b (pairs_in m (behind_last range b pairs))
    joined place near_is far_is =
        directed-parts m b range place
        ∙ (λ i. (ap (λ r. directed b (pairs_in m r)) near_is ∙ sym here) i ++ directed b (pairs_in m (far_is i)))

    by : (t : Bool) → b ≡ t → directed b (pairs_in m range) ≡ pairs ++ directed b (pairs_in m (behind_last range b pairs))
    by true e =
        joined last (ap (λ t. near t last range) e ∙ read_back range limit b pairs last e full refl inside)
        (ap (λ t. far t last range) e ∙ part_before-inside range last inside ∙ ap (λ t. behind_last range t pairs) (sym e))
    by false e =
        joined (next_key last) (ap (λ t. near t (next_key last) range) e ∙ read_on range limit b pairs (next_key last) e full refl inside)
        (ap (λ t. far t (next_key last) range) e ∙ part_from-next range last inside ∙ ap (λ t. behind_last range t pairs) (sym e))

-- what is left behind a read has the pairs that the read leaves
left_behind : (m : Map) (range : KeyRange) (limit : ℕ) (b : Bool) (pairs : Pairs) → 1 ≤ limit → pairs ≡ read_of m range limit b →
    option_map_or (λ r. directed b (pairs_in m r)) (rest_behind range limit b pairs) [] ≡ drop limit (directed b (pairs_in m range))
left_behind m range limit b pairs some is = by (nat_lt (length pairs) limit) refl
  where
    all : Pairs
    all = directed b (pairs_in m range)

    counted : length pairs ≡ min limit (length all)
    counted = ap length is ∙ length-take limit all

    by : (t : Bool) → nat_lt (length pairs) limit ≡ t → option_map_or (λ r. directed b (pairs_in m r)) (rest_behind range limit b pairs) [] ≡ drop limit all
    by true e =
        let fewer = ltb-true (length pairs) limit e in
        ap (λ t. option_map_or (λ r. directed b (pairs_in m r)) (cond t None (Some (behind_last range b pairs))) []) e
        ∙ sym (drop_of_length-le all (omega (arith, fewer, counted)))
    by false e =
        let full = ltb-false (length pairs) limit e in
        let behind_it = directed b (pairs_in m (behind_last range b pairs)) in
        let as_many : length pairs ≡ limit = omega (arith, full, counted) in
        ap (λ o. option_map_or (λ r. directed b (pairs_in m r)) o []) (rest_is range limit b pairs full)
        ∙ sym (ap (drop limit) (split_behind m range limit b pairs some full is) ∙ ap (λ n. drop n (pairs ++ behind_it)) (sym as_many) ∙ drop-append_seam pairs behind_it)

-- a read of what a cursor had left, of which its range is kept as read, is a batch
pub batch_read : (maps : ℕ → Map) (before between after : CommitRequest) (old : RangeCursor) (range read : KeyRange) (rest : Option KeyRange) (pairs : Pairs) → old.rest ≡ Some range →
    pairs ≡ read_of (seen before (maps before.read_version)) range BATCH old.reverse → between ≡ before → read ≡ range_read range BATCH old.reverse pairs →
    rest ≡ rest_behind range BATCH old.reverse pairs → after ≡ has_read read between → HasBatch maps old pairs (record { rest = rest; reverse = old.reverse }) before after
batch_read maps before between after old range read rest pairs was given same is_read is_rest added = record {
  range = range;
  was = was;
  is = ap (λ o. record { rest = o; reverse = old.reverse }) is_rest;
  reads = added ∙ ap (has_read read) same ∙ ap (λ r. has_read r before) is_read;
  batch = λ m agree. seen_over m agree ∙ ap (take BATCH) (sym (left m));
  left = λ m agree.
      ap (λ o. option_map_or (λ r. directed old.reverse (pairs_in (seen before m) r)) o []) is_rest
      ∙ left_behind (seen before m) range BATCH old.reverse pairs (omega arith) (seen_over m agree) ∙ ap (drop BATCH) (sym (left m));
}
  where
    left : (m : Map) → option_map_or (λ r. directed old.reverse (pairs_in (seen before m) r)) old.rest [] ≡ directed old.reverse (pairs_in (seen before m) range)
    left m = ap (λ o. option_map_or (λ r. directed old.reverse (pairs_in (seen before m) r)) o []) was

    seen_over : (m : Map) → Agree after.reads (maps before.read_version) m → pairs ≡ read_of (seen before m) range BATCH old.reverse
    seen_over =
        range_answer maps before before range read BATCH old.reverse pairs after.reads refl (omega arith) given is_read
        (ap (λ (t : CommitRequest). t.reads) added ∙ ap (λ (t : CommitRequest). with_range read t.reads) same)
