-- A read in rounds: what one round decides of the rest of a range, and what is left.
use Rattle.std.proofs.Common.{◌≡◌, ℕ, zero, suc, ◌+◌, ◌-◌, ◌<◌, ◌≤◌, Bool, true, false, cond, nat_lt, Option, None, Some, List, [], ◌∷◌, ◌++◌, length, take, ◌⊎◌, inl, inr, refl, sym, ap, subst, ◌∙◌, arith}
use Rattle.std.proofs.lemmas.Bool.{true≢false, and_from, and_parts, le-ltb}
use Rattle.std.proofs.lemmas.List.{append-nil, append_assoc, length-append}
use Rattle.std.specs.FinMap.{entries, get, retain_keys}
use Rattle.std.specs.List.{slice_get}
use Rattle.std.specs.Option.{is_some, option_map, unwrap_or}
use Rattle.std.specs.FinMap.Entries.{find}
use Rattle.kv_core.specs.Bytes.{key_cmp, key_le, key_lt, next_key}
use Rattle.kv_core.specs.Range.{KeyRange, contains, covers, has_keys, part_before, part_from}
use Rattle.kv_core.specs.Map.{Map, pairs_in}
use Rattle.kv_core.specs.Read.{read_of, range_read, last_key}
use Rattle.kv_core.proofs.Changes.{get-kept, same_maps}
use Rattle.kv_core.proofs.Counts.{pairs_in-fewer}
use Rattle.kv_core.proofs.Order.{cases_key, has_keys-from, le_trans, lt_le_trans}
use Rattle.kv_core.proofs.Pairs.{directed, inside_read, last_inside, read_of-part}
use Rattle.kv_core.proofs.Parts.{contains-before, contains-from, directed-parts, far, near, part_before-next, part_from-inside}
use Rattle.txn.specs.Own.{left_of}
use Rattle.txn.specs.Reading.{CoversTo, IsPlaceBehind, IsReadSoFar, IsRestOf, Tell}
use Rattle.kv_core.specs.Parts.{IsPart}
use Rattle.txn.proofs.Merging.{Pairs, length-directed, stored_at, whole_read}

-- whether a key comes before a place in the direction of a read
abbrev pub nearer : Bool → List ℕ → List ℕ → Bool
nearer true place q = key_le place q
nearer false place q = key_lt q place

same_left : (cleared : List KeyRange) (q : List ℕ) (x y : Option (List ℕ)) → covers cleared q ≡ true → left_of cleared q x ≡ left_of cleared q y
same_left cleared q x y h = ap (λ t. cond t None x) h ∙ sym (ap (λ t. cond t None y) h)

-- up to a place all keys behind which are cleared, the stored pairs tell what is left of the map
pub known_at : (cleared : List KeyRange) (m : Map) (range : KeyRange) (limit : ℕ) (b : Bool) (stored : Pairs) (place : List ℕ) → 1 ≤ limit → stored ≡ read_of m range limit b →
    limit ≤ length stored → CoversTo cleared b (last_key range.begin stored) place →
    (q : List ℕ) → contains range q ≡ true → nearer b place q ≡ true → left_of cleared q (find key_cmp q stored) ≡ left_of cleared q (get m q)
known_at cleared m range limit true stored place some is full clear q h near =
    let last = last_key range.begin stored in
    let stopped : range_read range limit true stored ≡ record { begin = last; end = range.end } =
    ap (λ t. cond t range (record { begin = last; end = range.end })) (le-ltb (length stored) limit full) in
    elim (cases_key q last) [
      | inl back ↦ same_left cleared q (find key_cmp q stored) (get m q) (clear q near back)
      | inr in_part ↦ ap (left_of cleared q) (stored_at m range limit true stored some is q
          (subst (λ r. contains r q ≡ true) (sym stopped) (and_from (key_le last q) (key_lt q range.end) in_part (and_parts (key_le range.begin q) (key_lt q range.end) h).1)))
    ]
known_at cleared m range limit false stored place some is full clear q h near =
    let last = last_key range.begin stored in
    let stopped : range_read range limit false stored ≡ record { begin = range.begin; end = next_key last } =
    ap (λ t. cond t range (record { begin = range.begin; end = next_key last })) (le-ltb (length stored) limit full) in
    elim (cases_key q (next_key last)) [
      | inl in_part ↦ ap (left_of cleared q) (stored_at m range limit false stored some is q
          (subst (λ r. contains r q ≡ true) (sym stopped) (and_from (key_le range.begin q) (key_lt q (next_key last)) (and_parts (key_le range.begin q) (key_lt q range.end) h).0 in_part)))
      | inr on ↦ same_left cleared q (find key_cmp q stored) (get m q) (clear q on near)
    ]

-- where the stored pairs are all of the range, they tell it everywhere
pub known_whole : (cleared : List KeyRange) (m : Map) (range : KeyRange) (limit : ℕ) (b : Bool) (stored : Pairs) → 1 ≤ limit → stored ≡ read_of m range limit b →
    nat_lt (length stored) limit ≡ true → (q : List ℕ) → contains range q ≡ true → left_of cleared q (find key_cmp q stored) ≡ left_of cleared q (get m q)
known_whole cleared m range limit b stored some is short q h =
    ap (left_of cleared q) (stored_at m range limit b stored some is q (subst (λ r. contains r q ≡ true) (sym (whole_read range limit b stored short)) h))

-- the first elements of two lists, by those of the first list
take-front : (n : ℕ) (xs ys : Pairs) → n ≤ length (take n xs) → take n (xs ++ ys) ≡ take n xs
take-front zero xs ys h = refl
take-front (suc n) [] ys h = absurd (omega (arith, h))
take-front (suc n) (x ∷ xs) ys h = ap (λ t. x ∷ t) (take-front n xs ys (omega (arith, h)))

take-both : (n : ℕ) (xs ys : Pairs) → length (take n xs) < n → take n (xs ++ ys) ≡ take n xs ++ take (n - length (take n xs)) ys
take-both zero xs ys h = absurd (omega (arith, h))
take-both (suc n) [] ys h = let all : suc n ≡ suc n - 0 = omega arith in ap (λ k. take k ys) all
take-both (suc n) (x ∷ xs) ys h =
    let left : n - length (take n xs) ≡ suc n - suc (length (take n xs)) = omega arith in
    ap (λ t. x ∷ t) (take-both n xs ys (omega (arith, h)) ∙ ap (λ k. take n xs ++ take k ys) left)

-- a part of a range has no more pairs
part-fewer : (m : Map) (part whole : KeyRange) → IsPart part whole → length (pairs_in m part) ≤ length (pairs_in m whole)
part-fewer m part whole inside =
    subst (λ es. length es ≤ length (pairs_in m whole)) (sym same)
    (pairs_in-fewer kept m whole (λ q h some. has_more (contains part q) (get m q) (sym (ap is_some (get-kept m (contains part) q)) ∙ some)))
  where
    kept : Map
    kept = retain_keys m (contains part)

    has_more : (t : Bool) (o : Option (List ℕ)) → is_some (cond t o None) ≡ true → is_some o ≡ true
    has_more true o h = h
    has_more false o h = absurd (true≢false (sym h))

    both : (q : List ℕ) (t u : Bool) → (t ≡ true → u ≡ true) → cond t (get m q) None ≡ cond u (cond t (get m q) None) None
    both q true u h = ap (λ x. cond x (get m q) None) (sym (h refl))
    both q false true h = refl
    both q false false h = refl

    same : pairs_in m part ≡ pairs_in kept whole
    same =
        ap entries (same_maps kept (retain_keys kept (contains whole))
        (λ q. get-kept m (contains part) q ∙ both q (contains part q) (contains whole q) (inside q)
        ∙ sym (get-kept kept (contains whole) q ∙ ap (λ o. cond (contains whole q) o None) (get-kept m (contains part) q))))

-- the keys of a part before or behind a place
near_gives : (b : Bool) (place : List ℕ) (range : KeyRange) (q : List ℕ) → contains (near b place range) q ≡ true → (contains range q ≡ true) × (nearer b place q ≡ true)
near_gives true place range q h = and_parts (contains range q) (key_le place q) (sym (contains-from range place q) ∙ h)
near_gives false place range q h = and_parts (contains range q) (key_lt q place) (sym (contains-before range place q) ∙ h)

near_from : (b : Bool) (place : List ℕ) (range : KeyRange) (q : List ℕ) → contains range q ≡ true → nearer b place q ≡ true → contains (near b place range) q ≡ true
near_from true place range q h n = contains-from range place q ∙ and_from (contains range q) (key_le place q) h n
near_from false place range q h n = contains-before range place q ∙ and_from (contains range q) (key_lt q place) h n

far_part : (b : Bool) (place : List ℕ) (range : KeyRange) → IsPart (far b place range) range
far_part true place range q h = (and_parts (contains range q) (key_lt q place) (sym (contains-before range place q) ∙ h)).0
far_part false place range q h = (and_parts (contains range q) (key_le place q) (sym (contains-from range place q) ∙ h)).0

-- the range that decided the stored pairs lies before a place behind the last of them
stored_near : (b : Bool) (range : KeyRange) (asked : ℕ) (stored : Pairs) (place : List ℕ) → asked ≤ length stored → IsPlaceBehind b (last_key range.begin stored) place →
    (q : List ℕ) → contains (range_read range asked b stored) q ≡ true → nearer b place q ≡ true
stored_near true range asked stored place full behind q h =
    let last = last_key range.begin stored in
    le_trans place last q behind
    (and_parts (key_le last q) (key_lt q range.end) (sym (ap (λ t. contains (cond t range (record { begin = last; end = range.end })) q) (le-ltb (length stored) asked full)) ∙ h)).0
stored_near false range asked stored place full behind q h =
    let last = last_key range.begin stored in
    lt_le_trans q (next_key last) place
    (and_parts (key_le range.begin q) (key_lt q (next_key last)) (sym (ap (λ t. contains (cond t range (record { begin = range.begin; end = next_key last })) q) (le-ltb (length stored) asked full)) ∙ h)).1
    behind

-- behind stored pairs fewer are left
pub fewer_left : (b : Bool) (base : Map) (range : KeyRange) (asked : ℕ) (stored : Pairs) (place : List ℕ) → 1 ≤ asked → asked ≤ length stored → stored ≡ read_of base range asked b →
    IsPlaceBehind b (last_key range.begin stored) place → length (pairs_in base (far b place range)) < length (pairs_in base range)
fewer_left b base range asked stored place some full is behind =
    let part = range_read range asked b stored in
    let in_near : IsPart part (near b place range) =
    λ q h. near_from b place range q (inside_read base range asked b some q (subst (λ ps. contains (range_read range asked b ps) q ≡ true) is h)) (stored_near b range asked stored place full behind q h) in
    let all : length stored ≡ length (pairs_in base part) =
    ap length (is ∙ read_of-part base range asked b some ∙ ap (λ ps. directed b (pairs_in base (range_read range asked b ps))) (sym is)) ∙ length-directed b (pairs_in base part) in
    let fewer : length (pairs_in base part) ≤ length (pairs_in base (near b place range)) = part-fewer base part (near b place range) in_near in
    let split : length (pairs_in base range) ≡ length (pairs_in base (near b place range)) + length (pairs_in base (far b place range)) =
    sym (length-directed b (pairs_in base range)) ∙ ap length (directed-parts base b range place)
    ∙ length-append (directed b (pairs_in base (near b place range))) (directed b (pairs_in base (far b place range)))
    ∙ (λ i. length-directed b (pairs_in base (near b place range)) i + length-directed b (pairs_in base (far b place range)) i) in
    omega (arith, some, full, all, fewer, split)

-- what stored pairs tell up to a place behind the last of them, all keys up to which are cleared
pub tell_near : (b : Bool) (cleared : List KeyRange) (base : Map) (range : KeyRange) (asked : ℕ) (stored : Pairs) (place : List ℕ) → 1 ≤ asked → asked ≤ length stored →
    stored ≡ read_of base range asked b → CoversTo cleared b (last_key range.begin stored) place → Tell cleared stored base (near b place range)
tell_near b cleared base range asked stored place some full is clear q h =
    let at = near_gives b place range q h in
    known_at cleared base range asked b stored place some is full clear q at.0 at.1

-- a range without keys has no pairs
no_pairs : (m : Map) (range : KeyRange) (b : Bool) → has_keys range ≡ false → directed b (pairs_in m range) ≡ []
no_pairs m range b none = by (directed b (pairs_in m range)) refl
  where
    by : (es : Pairs) → directed b (pairs_in m range) ≡ es → directed b (pairs_in m range) ≡ []
    by [] is = is
    by (e ∷ es) is =
        let some : 1 ≤ length (read_of m range 1 b) = subst (λ ps. 1 ≤ length (take 1 ps)) (sym is) (omega arith) in
        absurd (true≢false (sym (has_keys-from range (last_key range.begin (read_of m range 1 b)) (last_inside m range 1 b (omega arith) some)) ∙ none))

-- after a round the rest is to be read where pairs are wanting and there are keys left
module _ (b : Bool) (range : KeyRange) (place : List ℕ) (limit : ℕ) (pairs : Pairs) (rest : Option KeyRange) (wanted : Bool) (rest_is : rest ≡ cond wanted (Some (far b place range)) None)
    (wanting : wanted ≡ true → length pairs < limit) where
  pub gives_round : (m : Map) → pairs ≡ read_of m (near b place range) limit b → (wanted ≡ false → (limit ≤ length pairs) ⊎ (has_keys (far b place range) ≡ false)) → IsReadSoFar m range limit b pairs rest
  gives_round m is done = subst (IsReadSoFar m range limit b pairs) (sym rest_is) (by wanted refl)
    where
      first : Pairs
      first = directed b (pairs_in m (near b place range))

      second : Pairs
      second = directed b (pairs_in m (far b place range))

      split : directed b (pairs_in m range) ≡ first ++ second
      split = directed-parts m b range place

      by : (t : Bool) → wanted ≡ t → IsReadSoFar m range limit b pairs (cond t (Some (far b place range)) None)
      by true e =
          let less : length (take limit first) < limit = subst (λ ps. length ps < limit) is (wanting e) in
          ap (take limit) split ∙ take-both limit first second less ∙ ap (λ ps. ps ++ take (limit - length ps) second) (sym is)
      by false e = is ∙ sym (ap (take limit) split ∙ elim (done e) [
        | inl enough ↦ take-front limit first second (subst (λ ps. limit ≤ length ps) is enough)
        | inr none ↦ ap (λ es. take limit (first ++ es)) (no_pairs m (far b place range) b none) ∙ ap (take limit) (append-nil first)
      ])

  pub left_round : (base : Map) → length (pairs_in base (far b place range)) < length (pairs_in base range) → IsRestOf base range limit pairs rest
  left_round base fewer = subst (IsRestOf base range limit pairs) (sym rest_is) (by wanted refl)
    where
      by : (t : Bool) → wanted ≡ t → IsRestOf base range limit pairs (cond t (Some (far b place range)) None)
      by true e = (wanting e, fewer, far_part b place range)
      by false e = tt

-- a round of the rest goes on with the read
module _ (range part : KeyRange) (limit count : ℕ) (pairs more all : Pairs) (left : Option KeyRange) (left_is : left ≡ Some part) (counted : count ≡ length pairs) (all_is : all ≡ pairs ++ more) where
  both : length all ≡ length pairs + length more
  both = ap length all_is ∙ length-append pairs more

  pub gives_on : (m : Map) (b : Bool) (rest : Option KeyRange) → IsReadSoFar m range limit b pairs left → IsReadSoFar m part (limit - count) b more rest → IsReadSoFar m range limit b all rest
  gives_on m b None so on = all_is ∙ sym (subst (IsReadSoFar m range limit b pairs) left_is so ∙ ap (λ n. pairs ++ read_of m part (limit - n) b) (sym counted) ∙ ap (λ ps. pairs ++ ps) (sym on))
  gives_on m b (Some rest) so on =
      let counts : (limit - count) - length more ≡ limit - length all = omega (arith, both, counted) in
      subst (IsReadSoFar m range limit b pairs) left_is so ∙ ap (λ n. pairs ++ read_of m part (limit - n) b) (sym counted) ∙ ap (λ ps. pairs ++ ps) on
      ∙ sym (append_assoc pairs more (read_of m rest ((limit - count) - length more) b)) ∙ (λ i. sym all_is i ++ read_of m rest (counts i) b)

  pub left_on : (base : Map) (rest : Option KeyRange) → IsRestOf base range limit pairs left → IsRestOf base part (limit - count) more rest → IsRestOf base range limit all rest
  left_on base None so on = tt
  left_on base (Some rest) so on =
      let before = subst (IsRestOf base range limit pairs) left_is so in
      (omega (arith, both, counted, before.0, on.0), omega (arith, before.1, on.1), λ q h. before.2 q (on.2 q h))

-- the pair that stands last has the last key
pub last_of : (key : List ℕ) (ps : Pairs) (p : List ℕ × List ℕ) → Some p ≡ slice_get ps (length ps - 1) → p.0 ≡ last_key key ps
last_of key [] p is = ap (λ o. unwrap_or (option_map (λ (x : List ℕ × List ℕ). x.0) o) key) is
last_of key (x ∷ []) p is = ap (λ o. unwrap_or (option_map (λ (x : List ℕ × List ℕ). x.0) o) key) is
last_of key (x ∷ y ∷ ps) p is =
    let n : suc (suc (length ps)) - 1 ≡ suc (length ps) = omega arith in
    let m : suc (length ps) - 1 ≡ length ps = omega arith in
    last_of x.0 (y ∷ ps) p (is ∙ ap (slice_get (x ∷ y ∷ ps)) n ∙ ap (slice_get (y ∷ ps)) (sym m))

-- the range that decides a read which stopped at its limit
pub read_back : (range : KeyRange) (limit : ℕ) (b : Bool) (pairs : Pairs) (last : List ℕ) → b ≡ true → limit ≤ length pairs → last ≡ last_key range.begin pairs →
    contains range (last_key range.begin pairs) ≡ true → part_from last range ≡ range_read range limit b pairs
read_back range limit b pairs last is_back full last_is inside =
    ap (λ k. part_from k range) last_is ∙ part_from-inside range (last_key range.begin pairs) inside
    ∙ sym ((λ i. range_read range limit (is_back i) pairs) ∙ ap (λ t. cond t range (record { begin = last_key range.begin pairs; end = range.end })) (le-ltb (length pairs) limit full))

pub read_on : (range : KeyRange) (limit : ℕ) (b : Bool) (pairs : Pairs) (last : List ℕ) → b ≡ false → limit ≤ length pairs → last ≡ next_key (last_key range.begin pairs) →
    contains range (last_key range.begin pairs) ≡ true → part_before last range ≡ range_read range limit b pairs
read_on range limit b pairs last is_on full last_is inside =
    ap (λ k. part_before k range) last_is ∙ part_before-next range (last_key range.begin pairs) inside
    ∙ sym ((λ i. range_read range limit (is_on i) pairs) ∙ ap (λ t. cond t range (record { begin = range.begin; end = next_key (last_key range.begin pairs) })) (le-ltb (length pairs) limit full))
