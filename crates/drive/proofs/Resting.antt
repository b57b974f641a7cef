-- What is left of a range beside the keys that are covered from one end on.
use Rattle.std.proofs.Common.{◌≡◌, ℕ, ◌+◌, ◌<◌, List, [], ◌∷◌, ◌++◌, length, take, get_or, Bool, true, false, ◌&&◌, ◌||◌, inl, inr, Option, Some, None, Result, Ok, Err, refl, sym, ap, subst, ◌∙◌, arith}
use Rattle.std.specs.declared.alloc.AllocError.{AllocError}
use Rattle.std.specs.Prelude.{Contains, IsTrue, IfOk, IfSome, IfNone, MatchBool}
use Rattle.std.specs.List.{AllByRecursion, list_any}
use Rattle.std.proofs.lemmas.Bool.{and_from, and_parts, or_cases, or_left, or_right, false≢true, true≢false}
use Rattle.std.proofs.lemmas.List.{take_more}
use Rattle.std.proofs.lemmas.List.Elements.{Contains-append_right}
use Rattle.std.proofs.lemmas.List.Folds.{list_any-append}
use Rattle.kv_core.specs.Bytes.{key_le, key_lt, end_of_keys}
use Rattle.kv_core.specs.Range.{KeyRange, contains, covers, is_key_range}
use Rattle.kv_core.proofs.Order.{le_from, le_from_lt, le_refl, le_trans, lt_le_trans}
use Rattle.drive.specs.Wanted.{AreWithin, HasFrom, IsAllCovered, IsLeftBetween, IsRemainder, IsUncoveredFrom, ReadsFrom}
use Rattle.drive.specs.declared.wanted.Want.{Want}

-- nothing is left where the keys from its begin on are covered up to its end
pub covered_forward : (covered : List KeyRange) (range : KeyRange) (place : List ℕ) →
    ((q : List ℕ) → IsTrue (key_le range.begin q) → IsTrue (key_lt q place) → IsTrue (covers covered q)) →
    key_lt place range.end ≡ false → IsAllCovered covered range
covered_forward covered range place are ends key inside =
    let parts = and_parts (key_le range.begin key) (key_lt key range.end) inside in
    are key parts.0 (lt_le_trans key range.end place parts.1 (le_from range.end place ends))

-- nothing is left where the keys before its end are covered down to its begin
pub covered_reverse : (covered : List KeyRange) (range : KeyRange) (place : List ℕ) →
    ((q : List ℕ) → IsTrue (key_le place q) → IsTrue (key_lt q range.end) → IsTrue (covers covered q)) →
    key_lt range.begin place ≡ false → IsAllCovered covered range
covered_reverse covered range place are ends key inside =
    let parts = and_parts (key_le range.begin key) (key_lt key range.end) inside in
    are key (le_trans place range.begin key (le_from place range.begin ends) parts.0) parts.1

-- so many ranges and the next one are covered where those before it are, and it is
pub within_turn : (covered ranges : List KeyRange) (i : ℕ) (range : KeyRange) → i < length ranges → range ≡ get_or ranges i range →
    AreWithin covered (take i ranges) → IsAllCovered covered range → AreWithin covered (take (i + 1) ranges)
within_turn covered ranges i range inside is before here key h =
    let p : KeyRange → Bool = λ one. contains one key in
    elim (or_cases (list_any p (take i ranges)) (list_any p (range ∷ []))
    (sym (list_any-append p (take i ranges) (range ∷ [])) ∙ ap (λ one. list_any p (take i ranges ++ one ∷ [])) is ∙ ap (list_any p) (sym (take_more ranges i range inside)) ∙ h)) [
      | inl earlier ↦ before key earlier
      | inr now ↦ elim (or_cases (contains range key) false now) [ inl found ↦ here key found | inr never ↦ absurd (false≢true never) ]
    ]

-- one more that is wanted isn't covered either
pub wanted_more : (P : Want → Type 0) (wants : List Want) (want : Want) → AllByRecursion P wants → P want → AllByRecursion P (wants ++ want ∷ [])
wanted_more P [] want all one = (one, tt)
wanted_more P (first ∷ wants) want all one = (all.0, wanted_more P wants want all.1 one)

-- what has something at its end isn't empty
pub has_last : (wants : List Want) (want : Want) → wants ++ want ∷ [] ≡ [] → ⊥
has_last [] want same = absurd (cc)
has_last (first ∷ wants) want same = absurd (cc)

-- the part of a range from a key in it on may be written so
pub lawful_rest : (range : KeyRange) (b e : List ℕ) → is_key_range range ≡ true → e ≡ range.end → key_lt b range.end ≡ true → is_key_range (record { begin = b; end = e }) ≡ true
lawful_rest range b e lawful same below =
    let parts = and_parts (key_le range.begin range.end) (key_le range.end end_of_keys) lawful in
    subst (λ x. (key_le b x && key_le x end_of_keys) ≡ true) (sym same) (and_from (key_le b range.end) (key_le range.end end_of_keys) (le_from_lt b range.end below) parts.1)

-- and so may the part before one
pub lawful_front : (range : KeyRange) (b e : List ℕ) → is_key_range range ≡ true → b ≡ range.begin → key_lt range.begin e ≡ true → key_le e range.end ≡ true → is_key_range (record { begin = b; end = e }) ≡ true
lawful_front range b e lawful same below upto =
    let parts = and_parts (key_le range.begin range.end) (key_le range.end end_of_keys) lawful in
    subst (λ x. (key_le x e && key_le e end_of_keys) ≡ true) (sym same) (and_from (key_le range.begin e) (key_le e end_of_keys) (le_from_lt range.begin e below) (le_trans e range.end end_of_keys upto parts.1))

-- a range that may be written so is made
pub none_never : (found : Option KeyRange) (range : KeyRange) (P : Type 0) → is_key_range range ≡ true → IfNone found (is_key_range range ≡ false) → IfNone found P
none_never None range P lawful refused = absurd (true≢false (sym lawful ∙ refused))
none_never (Some found) range P lawful refused = refused

-- what is made is just that
pub some_made : (found : Option KeyRange) (made : KeyRange) (P : KeyRange → Type 0) → IfSome found (λ range. range ≡ made) → P made → IfSome found P
some_made None made P is so = is
some_made (Some found) made P is so = subst P (sym is) so

-- what is so where there is none is so
pub when_none : (found : Option Want) (P : Type 0) → IfNone found P → found ≡ None → P
when_none None P is same = is
when_none (Some found) P is same = absurd (cc)

-- what is left of a range after its first keys
pub left_forward : (covered : List KeyRange) (range : KeyRange) (place e : List ℕ) → e ≡ range.end → IsTrue (key_le range.begin place) →
    ((q : List ℕ) → IsTrue (key_le range.begin q) → IsTrue (key_lt q place) → IsTrue (covers covered q)) → IsRemainder covered range (record { begin = place; end = e })
left_forward covered range place e same from are = subst (λ x. IsRemainder covered range (record { begin = place; end = x })) (sym same) base
  where
    by_test : (key : List ℕ) → IsTrue (key_le range.begin key) → IsTrue (key_lt key range.end) → (b : Bool) → key_lt key place ≡ b → ((key_le place key && key_lt key range.end) || covers covered key) ≡ true
    by_test key after before true below = or_right (key_le place key && key_lt key range.end) (covers covered key) (are key after below)
    by_test key after before false here = or_left (key_le place key && key_lt key range.end) (covers covered key) (and_from (key_le place key) (key_lt key range.end) (le_from place key here) before)

    base : IsRemainder covered range (record { begin = place; end = range.end })
    base = record {
      within = λ key inside.
          let parts = and_parts (key_le place key) (key_lt key range.end) inside in
          and_from (key_le range.begin key) (key_lt key range.end) (le_trans range.begin place key from parts.0) parts.1;
      others = λ key inside.
          let parts = and_parts (key_le range.begin key) (key_lt key range.end) inside in
          by_test key parts.0 parts.1 (key_lt key place) refl;
    }

-- and before its last ones
pub left_reverse : (covered : List KeyRange) (range : KeyRange) (b place : List ℕ) → b ≡ range.begin → IsTrue (key_le place range.end) →
    ((q : List ℕ) → IsTrue (key_le place q) → IsTrue (key_lt q range.end) → IsTrue (covers covered q)) → IsRemainder covered range (record { begin = b; end = place })
left_reverse covered range b place same upto are = subst (λ x. IsRemainder covered range (record { begin = x; end = place })) (sym same) base
  where
    by_test : (key : List ℕ) → IsTrue (key_le range.begin key) → IsTrue (key_lt key range.end) → (b : Bool) → key_lt key place ≡ b → ((key_le range.begin key && key_lt key place) || covers covered key) ≡ true
    by_test key after before true below = or_left (key_le range.begin key && key_lt key place) (covers covered key) (and_from (key_le range.begin key) (key_lt key place) after below)
    by_test key after before false here = or_right (key_le range.begin key && key_lt key place) (covers covered key) (are key (le_from place key here) before)

    base : IsRemainder covered range (record { begin = range.begin; end = place })
    base = record {
      within = λ key inside.
          let parts = and_parts (key_le range.begin key) (key_lt key place) inside in
          and_from (key_le range.begin key) (key_lt key range.end) parts.0 (lt_le_trans key place range.end parts.1 upto);
      others = λ key inside.
          let parts = and_parts (key_le range.begin key) (key_lt key range.end) inside in
          by_test key parts.0 parts.1 (key_lt key place) refl;
    }

-- what is left of what is left
pub left_left : (covered : List KeyRange) (range part rest : KeyRange) → IsRemainder covered range part → IsRemainder covered part rest → IsRemainder covered range rest
left_left covered range part rest first then = record {
  within = λ key inside. first.within key (then.within key inside);
  others = λ key inside. elim (or_cases (contains part key) (covers covered key) (first.others key inside)) [
    | inl here ↦ then.others key here
    | inr there ↦ or_right (contains rest key) (covers covered key) there
  ];
}

-- nothing is left of a range of which nothing is left in the part that was left
pub left_none : (covered : List KeyRange) (range part : KeyRange) → IsRemainder covered range part → IsAllCovered covered part → IsAllCovered covered range
left_none covered range part first all key inside = elim (or_cases (contains part key) (covers covered key) (first.others key inside)) [
  | inl here ↦ all key here
  | inr there ↦ there
]

-- what is so of what is found is so of it
pub when_some : (found : Option Want) (first : Want) (P : Want → Type 0) → IfSome found P → found ≡ Some first → P first
when_some None first P is same = absurd (cc)
when_some (Some other) first P is same = let found : other ≡ first = cc in subst P found is

-- what is left between the first keys that are covered and the last ones
pub left_between : (covered : List KeyRange) (range : KeyRange) (first : Option KeyRange) (part : KeyRange) (found : Result (Option KeyRange) AllocError) → first ≡ Some part → IfSome first (IsUncoveredFrom covered false) → IfSome first (IsRemainder covered range) →
    IfOk found (λ rest. IfSome rest (IsUncoveredFrom covered true)) → IfOk found (λ rest. IfSome rest (IsRemainder covered part)) → IfOk found (λ rest. IfSome rest (λ one. one.begin ≡ part.begin)) → IfOk found (λ rest. IfSome rest (IsLeftBetween covered range))
left_between covered range None part found is opens outer ends inner begin = absurd (cc)
left_between covered range (Some other) part (Err error) is opens outer ends inner begin = tt
left_between covered range (Some other) part (Ok None) is opens outer ends inner begin = tt
left_between covered range (Some other) part (Ok (Some rest)) is opens outer ends inner begin =
    let same : other ≡ part = cc in
    let both = left_left covered range part rest (subst (IsRemainder covered range) same outer) inner in
    record {
      within = both.within;
      begins = (ends.0, ap (covers covered) begin ∙ (subst (IsUncoveredFrom covered false) same opens).1);
      ends = ends;
      others = both.others;
    }

-- a range that has the end of a part and begins no later reads it first, back from there
pub first_backward : (reverse test : Bool) (range part : KeyRange) → reverse ≡ true → range.end ≡ part.end → test ≡ key_le range.begin part.begin → MatchBool test (ReadsFrom reverse range part) (Unit {0})
first_backward false test range part back same is = absurd (false≢true back)
first_backward true false range part back same is = tt
first_backward true true range part back same is = (same, sym is)

-- and one that has its begin and ends no earlier does so from there on
pub first_forward : (reverse test : Bool) (range part : KeyRange) → reverse ≡ false → range.begin ≡ part.begin → test ≡ key_le part.end range.end → MatchBool test (ReadsFrom reverse range part) (Unit {0})
first_forward true test range part on same is = absurd (true≢false on)
first_forward false false range part on same is = tt
first_forward false true range part on same is = (same, sym is)

-- what is added at the end reads its own range first
pub pushed_first : (before after : List Want) (want : Want) → after ≡ before ++ want ∷ [] → HasFrom after want.range
pushed_first before after want grown =
    (want, subst (λ wants. Contains wants want) (sym grown) (Contains-append_right before (want ∷ []) want (0, omega arith, refl)), own want.reverse want.range)
  where
    own : (reverse : Bool) (range : KeyRange) → ReadsFrom reverse range range
    own false range = (refl, le_refl range.end)
    own true range = (refl, le_refl range.begin)

-- what is found among these is among the same ones
pub kept_first : (test : Bool) (wants same : List Want) (part : KeyRange) → test ≡ true → MatchBool test (HasFrom wants part) (Unit {0}) → same ≡ wants → HasFrom same part
kept_first true wants same part found has is = subst (λ ws. HasFrom ws part) (sym is) has
kept_first false wants same part found has is = absurd (false≢true found)
