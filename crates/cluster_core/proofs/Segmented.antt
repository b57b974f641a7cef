-- Which segment is over a key, and the newest place among the segments that have keys of a range.
use Rattle.std.proofs.Common.{◌≡◌, ℕ, ◌≤◌, max, Bool, true, false, None, Some, Option, cond, ◌&&◌, [], ◌∷◌, ◌⊎◌, inl, inr, refl, sym, ap, subst, ◌∙◌, arith}
use Rattle.std.proofs.lemmas.Bool.{and_from, and_parts, cases_Bool, true≢false}
use Rattle.std.specs.BTreeMap.{is_at}
use Rattle.std.specs.List.{filter}
use Rattle.std.specs.Map.{lookup}
use Rattle.std.specs.Ordering.{is_eq}
use Rattle.kv_core.specs.Bytes.{key_cmp, key_le, key_lt}
use Rattle.kv_core.specs.Range.{contains}
use Rattle.kv_core.proofs.Order.{cases_key, clash, le_both, le_from_lt, le_gives, le_lt_trans, le_refl, le_trans, tied_keys}
use Rattle.cluster_core.specs.declared.segments.Segment.{Segment}
use Rattle.cluster_core.specs.Segments.{Begins, HaveKeys, IsCovered, IsNewestOver, IsOver, SegmentHolds}
use Rattle.cluster_core.specs.Tree.{InOrder, IsLastUpto, between, later, newest_of}
use Rattle.cluster_core.proofs.InOrder.{Key, Run, begins_here, begins_later, nothing_is, only_one}

-- the segment that begins last of those that don't begin after a key is over it where it has it
pub floor_over : (es : Run) (key b : Key) (s : Segment) → IsLastUpto es key b s → key_lt key s.end ≡ true → IsOver es key b s
floor_over es key b s floor before = record { stands = floor.stands; from = floor.from; before = before; last = floor.last }

pub floor_of : (es : Run) (key b : Key) (s : Segment) → IsOver es key b s → IsLastUpto es key b s
floor_of es key b s over = record { stands = over.stands; from = over.from; last = over.last }

-- what is over the key is that segment
pub floor_same : (es : Run) (key b c : Key) (s t : Segment) → IsLastUpto es key b s → IsOver es key c t → (b ≡ c) × (s ≡ t)
floor_same es key b c s t floor over =
    let same : b ≡ c = le_both b c (le_gives c b (floor.last c t over.stands over.from)) (le_gives b c (over.last b s floor.stands floor.from)) in
    (same, only_one (sym (subst (λ k. Begins es k s) same floor.stands) ∙ over.stands))

pub floor_short : (es : Run) (key b c : Key) (s t : Segment) → IsLastUpto es key b s → key_lt key s.end ≡ false → IsOver es key c t → ⊥
floor_short es key b c s t floor short over =
    true≢false (sym over.before ∙ subst (λ x. key_lt key x.end ≡ false) (floor_same es key b c s t floor over).1 short)

pub floor_none : (es : Run) (key c : Key) (t : Segment) → ((q : Key) (s : Segment) → Begins es q s → key_lt key q ≡ true) → IsOver es key c t → ⊥
floor_none es key c t none over = clash key c (none c t over.stands) over.from

-- a segment that has a key holds it
pub over_holds : (es : Run) (key b : Key) (s : Segment) → IsOver es key b s → SegmentHolds es key s.place
over_holds es key b s over = record { begin = b; segment = s; stands = over.stands; from = over.from; before = over.before; placed = refl }

-- the later of two places is one of them, and is not before either
later_either : (own : Option ℕ) (place result : ℕ) → Some result ≡ later own (Some place) → (result ≡ place) ⊎ (own ≡ Some result)
later_either None place result is = inl (only_one is)
later_either (Some own) place result is =
    let same : result ≡ max own place = only_one is in
    elim (Rattle.std.proofs.lemmas.Bool.cases_order own place) [
      | inl tied ↦ inl (omega arith)
      | inr (inl less) ↦ inl (omega arith)
      | inr (inr more) ↦ inr (ap Some (omega arith))
    ]

later_above : (own : Option ℕ) (place result : ℕ) → Some result ≡ later own (Some place) → place ≤ result
later_above None place result is = let same : result ≡ place = only_one is in omega arith
later_above (Some own) place result is = let same : result ≡ max own place = only_one is in omega arith

later_kept : (own : Option ℕ) (place result at : ℕ) → Some result ≡ later own (Some place) → own ≡ Some at → at ≤ result
later_kept None place result at is own_is = absurd (nothing_is own_is)
later_kept (Some own) place result at is own_is =
    let same : result ≡ max own place = only_one is in
    let at_is : own ≡ at = only_one own_is in
    omega arith

-- the newest place of those that pass a test is that of one of them, and is not before any
newest_one : (p : Key → Bool) (es : Run) (place : ℕ) → InOrder es → newest_of (filter (λ e. p e.0) es) ≡ Some place →
    (q : Key) × (s : Segment) × Begins es q s × (p q ≡ true) × (s.place ≡ place)
newest_one p [] place order is = absurd (nothing_is is)
newest_one p (e ∷ es) place order is = elim (cases_Bool (p e.0)) [
  | inl passes ↦
      let given = ap (λ b. newest_of (cond b (e ∷ filter (λ f. p f.0) es) (filter (λ f. p f.0) es))) passes in
      elim (later_first (newest_of (filter (λ f. p f.0) es)) e.1.place place (sym is ∙ given)) [
        | inl here ↦ (e.0, e.1, begins_here es e.0 e.1, passes, here)
        | inr there ↦ further (newest_one p es place order.1 there)
      ]
  | inr fails ↦
      further (newest_one p es place order.1 (sym (ap (λ b. newest_of (cond b (e ∷ filter (λ f. p f.0) es) (filter (λ f. p f.0) es))) fails) ∙ is))
]
  where
    further : (q : Key) × (s : Segment) × Begins es q s × (p q ≡ true) × (s.place ≡ place) →
        (q : Key) × (s : Segment) × Begins (e ∷ es) q s × (p q ≡ true) × (s.place ≡ place)
    further one = (one.0, one.1, begins_later e es one.0 one.1 order one.2, one.3, one.4)

    later_first : (rest : Option ℕ) (own at : ℕ) → Some at ≡ later (Some own) rest → (own ≡ at) ⊎ (rest ≡ Some at)
    later_first None own at is = inl (sym (only_one is))
    later_first (Some rest) own at is =
        let same : at ≡ max own rest = only_one is in
        elim (Rattle.std.proofs.lemmas.Bool.cases_order own rest) [
          | inl tied ↦ inl (omega arith)
          | inr (inl less) ↦ inr (ap Some (omega arith))
          | inr (inr more) ↦ inl (omega arith)
        ]

newest_above : (p : Key → Bool) (es : Run) (q : Key) (s : Segment) → Begins es q s → p q ≡ true →
    (newest : ℕ) × (newest_of (filter (λ e. p e.0) es) ≡ Some newest) × (s.place ≤ newest)
newest_above p [] q s there passes = absurd (nothing_is there)
newest_above p (e ∷ es) q s there passes = elim (cases_Bool (is_eq (key_cmp q e.0))) [
  | inl tied ↦
      let same : e.1 ≡ s = only_one (sym (ap (λ b. cond b (Some e.1) (lookup (is_at (key_cmp q)) es)) tied) ∙ there) in
      let mine : p e.0 ≡ true = subst (λ k. p k ≡ true) (tied_keys q e.0 tied) passes in
      let own = with_own (newest_of (filter (λ f. p f.0) es)) in
      let up : e.1.place ≤ own.0 = own.2.0 in (
        own.0,
        ap (λ b. newest_of (cond b (e ∷ filter (λ f. p f.0) es) (filter (λ f. p f.0) es))) mine ∙ own.1,
        subst (λ x. x.place ≤ own.0) same up,
      )
  | inr apart ↦
      let rest = newest_above p es q s (sym (ap (λ b. cond b (Some e.1) (lookup (is_at (key_cmp q)) es)) apart) ∙ there) passes in
      elim (cases_Bool (p e.0)) [
        | inl mine ↦
            let own = with_own (newest_of (filter (λ f. p f.0) es)) in
            let low : s.place ≤ rest.0 = rest.2 in
            let up : rest.0 ≤ own.0 = own.2.1 rest.0 rest.1 in (
              own.0,
              ap (λ b. newest_of (cond b (e ∷ filter (λ f. p f.0) es) (filter (λ f. p f.0) es))) mine ∙ own.1,
              omega (arith, low, up),
            )
        | inr other ↦ (rest.0, ap (λ b. newest_of (cond b (e ∷ filter (λ f. p f.0) es) (filter (λ f. p f.0) es))) other ∙ rest.1, rest.2)
      ]
]
  where
    with_own : (rest : Option ℕ) →
        (newest : ℕ) × (later (Some e.1.place) rest ≡ Some newest) × ((e.1.place ≤ newest) × ((at : ℕ) → rest ≡ Some at → at ≤ newest))
    with_own None = (e.1.place, refl, (omega arith, λ at is. absurd (nothing_is is)))
    with_own (Some rest) =
        (max e.1.place rest, refl, (omega arith, λ at is. let same : rest ≡ at = only_one is in omega arith))

-- the newest place over a range: of the segments that begin in it, and of the one over its first key
module _ (es : Run) (low high : Key) (begun : Option ℕ) (keys : HaveKeys es) (order : InOrder es) (some : key_lt low high ≡ true)
    (is : begun ≡ newest_of (between low high es)) where
  begun_found : (place : ℕ) → begun ≡ Some place → (key : Key) × (contains (record { begin = low; end = high }) key ≡ true) × SegmentHolds es key place
  begun_found place there =
      let one = newest_one (λ q. key_lt low q && key_lt q high) es place order (sym is ∙ there) in
      let parts = and_parts (key_lt low one.0) (key_lt one.0 high) one.3 in (
        one.0,
        and_from (key_le low one.0) (key_lt one.0 high) (le_from_lt low one.0 parts.0) parts.1,
        record { begin = one.0; segment = one.1; stands = one.2; from = le_refl one.0; before = keys one.0 one.1 one.2; placed = one.4 },
      )

  begun_above : (q : Key) (s : Segment) → Begins es q s → key_lt low q ≡ true → key_lt q high ≡ true → (newest : ℕ) × (begun ≡ Some newest) × (s.place ≤ newest)
  begun_above q s there past before =
      let one = newest_above (λ k. key_lt low k && key_lt k high) es q s there (and_from (key_lt low q) (key_lt q high) past before) in
      (one.0, is ∙ one.1, one.2)

  -- what covers a key of the range begins in it, or is over its first key
  covers : (key : Key) (place : ℕ) → contains (record { begin = low; end = high }) key ≡ true → (h : IsCovered es key place) →
      ((newest : ℕ) × (begun ≡ Some newest) × (place ≤ newest)) ⊎ IsOver es low h.begin h.segment
  covers key place inside h =
      let parts = and_parts (key_le low key) (key_lt key high) inside in
      elim (cases_key low h.begin) [
        | inl past ↦
            let one = begun_above h.begin h.segment h.over.stands past (le_lt_trans h.begin key high h.over.from parts.1) in
            let up : h.segment.place ≤ one.0 = one.2 in
            let placed = h.placed in
            inl (one.0, one.1, omega (arith, up, placed))
        | inr upto ↦ inr (record {
          stands = h.over.stands;
          from = upto;
          before = le_lt_trans low key h.segment.end parts.0 h.over.before;
          last = λ other next there from. h.over.last other next there (le_trans other low key from parts.0);
        })
      ]

  pub newest_with : (b : Key) (s : Segment) (result : ℕ) → IsOver es low b s → Some result ≡ later begun (Some s.place) →
      IsNewestOver es (record { begin = low; end = high }) (Some result)
  newest_with b s result over latest = record {
    found = λ place there. subst (λ p. (key : Key) × (contains (record { begin = low; end = high }) key ≡ true) × SegmentHolds es key p) (only_one there)
        (elim (later_either begun s.place result latest) [
          | inl here ↦ (low, and_from (key_le low low) (key_lt low high) (le_refl low) some, subst (SegmentHolds es low) (sym here) (over_holds es low b s over))
          | inr own ↦ begun_found result own
        ]);
    others = λ key place inside h. elim (covers key place inside h) [
      | inl one ↦
          let up = later_kept begun s.place result one.0 latest one.1 in
          let low' : place ≤ one.0 = one.2 in
          (result, refl, omega (arith, up, low'))
      | inr first ↦
          let same = floor_same es low b h.begin s h.segment (floor_of es low b s over) first in
          let up = later_above begun s.place result latest in
          let placed : place ≤ s.place = subst (λ x. place ≤ x.place) (sym same.1) h.placed in
          (result, refl, omega (arith, up, placed))
    ];
  }

  pub newest_alone : ((at : ℕ) → IsCovered es low at → ⊥) → IsNewestOver es (record { begin = low; end = high }) begun
  newest_alone none = record {
    found = begun_found;
    others = λ key place inside h. elim (covers key place inside h) [
      | inl one ↦ one
      | inr first ↦ absurd (none h.segment.place (record { begin = h.begin; segment = h.segment; over = first; placed = omega arith }))
    ];
  }

-- no key lies between keys that don't rise
pub newest_nowhere : (es : Run) (low high : Key) → key_lt low high ≡ false → IsNewestOver es (record { begin = low; end = high }) None
newest_nowhere es low high empty = record {
  found = λ place is. absurd (nothing_is is);
  others = λ key place inside covered.
      let parts = and_parts (key_le low key) (key_lt key high) inside in
      absurd (true≢false (sym (le_lt_trans low key high parts.0 parts.1) ∙ empty));
}
