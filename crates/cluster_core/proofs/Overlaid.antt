-- What has a key and what covers it where segments are cut, and where one is laid over them.
use Rattle.std.proofs.Common.{◌≡◌, ℕ, ◌≤◌, true, false, None, Some, Option, cond, [], ◌∷◌, ◌++◌, append_assoc, ◌⊎◌, inl, inr, refl, sym, ap, subst, ◌∙◌, arith}
use Rattle.std.proofs.lemmas.Bool.{and_from, and_parts, cases_Bool}
use Rattle.std.proofs.lemmas.Cmp.{nat_list_cmp_total, tied_itself}
use Rattle.std.specs.BTreeMap.{is_at}
use Rattle.std.specs.List.{AllByRecursion}
use Rattle.std.specs.Map.{lookup}
use Rattle.std.specs.Ordering.{is_eq}
use Rattle.kv_core.specs.Bytes.{key_cmp, key_le, key_lt}
use Rattle.kv_core.specs.Range.{contains}
use Rattle.kv_core.proofs.Order.{cases_key, clash, le_both, le_from, le_from_lt, le_gives, le_lt_trans, le_refl, le_trans, lt_le_trans, tied_keys, tied_swap}
use Rattle.cluster_core.specs.declared.segments.Segment.{Segment}
use Rattle.cluster_core.specs.Segments.{Begins, HaveKeys, IsCovered, IsCutAt, IsOver, IsPartFrom, Overlays, from_to}
use Rattle.cluster_core.specs.Tree.{InOrder, IsLaid, at_key}
use Rattle.cluster_core.proofs.InOrder.{Key, Run, all_append, all_begins, all_front, all_map, begins_cases, begins_here, begins_left, begins_right, nothing_is, only_one, order_append, order_back, order_front}
use Rattle.cluster_core.proofs.Segmented.{floor_of, floor_same}

-- a segment over a key is over each earlier one from its begin on
over_earlier : (es : Run) (key at b : Key) (s : Segment) → IsOver es at b s → key_le b key ≡ true → key_le key at ≡ true → IsOver es key b s
over_earlier es key at b s over from upto = record {
  stands = over.stands;
  from = from;
  before = le_lt_trans key at s.end upto over.before;
  last = λ other next there le. over.last other next there (le_trans other key at le upto);
}

pub part_nowhere : (es : Run) (key : Key) → ((at : ℕ) → IsCovered es key at → ⊥) → IsPartFrom es key None
part_nowhere es key none = record {
  found = λ own is. absurd (nothing_is is);
  none = λ is b s over. absurd (none s.place (record { begin = b; segment = s; over = over; placed = omega arith }));
}

pub part_begun : (es : Run) (key b : Key) (s : Segment) → IsOver es key b s → key_lt b key ≡ false → IsPartFrom es key None
part_begun es key b s over begun = record {
  found = λ own is. absurd (nothing_is is);
  none = λ is c t other. subst (λ k. key_le key k ≡ true) (floor_same es key b c s t (floor_of es key b s over) other).0 (le_from key b begun);
}

cut_nowhere : (es : Run) (key : Key) → IsPartFrom es key None → IsCutAt key es es
cut_nowhere es key part = record {
  holds = λ at place h. h;
  kept = λ at place h. h;
  begun = λ at b s over upto. elim (cases_key b key) [
    | inl before ↦ part.none refl b s (over_earlier es key at b s over (le_from_lt b key before) upto)
    | inr from ↦ from
  ];
}

-- a key at which a value was put has that one, and the others have what they had
at_put : (new old : Run) (key : Key) (own : Segment) → ((q : Key) → lookup (is_at (key_cmp q)) new ≡ cond (is_eq (key_cmp key q)) (Some own) (lookup (is_at (key_cmp q)) old)) → Begins new key own
at_put new old key own are = are key ∙ ap (λ b. cond b (Some own) (lookup (is_at (key_cmp key)) old)) (ap is_eq (tied_itself nat_list_cmp_total key))

put_cases : (new old : Run) (key : Key) (own : Segment) → ((q : Key) → lookup (is_at (key_cmp q)) new ≡ cond (is_eq (key_cmp key q)) (Some own) (lookup (is_at (key_cmp q)) old)) →
    (q : Key) (s : Segment) → Begins new q s → ((q ≡ key) × (s ≡ own)) ⊎ Begins old q s
put_cases new old key own are q s there = elim (cases_Bool (is_eq (key_cmp key q))) [
  | inl tied ↦ inl (sym (tied_keys key q tied), only_one (sym there ∙ are q ∙ ap (λ b. cond b (Some own) (lookup (is_at (key_cmp q)) old)) tied))
  | inr apart ↦ inr (sym (are q ∙ ap (λ b. cond b (Some own) (lookup (is_at (key_cmp q)) old)) apart) ∙ there)
]

put_other : (new old : Run) (key : Key) (own : Segment) → ((q : Key) → lookup (is_at (key_cmp q)) new ≡ cond (is_eq (key_cmp key q)) (Some own) (lookup (is_at (key_cmp q)) old)) →
    (q : Key) (s : Segment) → (key ≡ q → ⊥) → Begins old q s → Begins new q s
put_other new old key own are q s other there = elim (cases_Bool (is_eq (key_cmp key q))) [
  | inl tied ↦ absurd (other (tied_keys key q tied))
  | inr apart ↦ are q ∙ ap (λ b. cond b (Some own) (lookup (is_at (key_cmp q)) old)) apart ∙ there
]

module _ (old new : Run) (key b : Key) (own : Segment) (over : IsOver old key b own) (before : key_lt b key ≡ true)
    (are : (q : Key) → lookup (is_at (key_cmp q)) new ≡ cond (is_eq (key_cmp key q)) (Some own) (lookup (is_at (key_cmp q)) old)) where
  cases : (q : Key) (s : Segment) → Begins new q s → ((q ≡ key) × (s ≡ own)) ⊎ Begins old q s
  cases = put_cases new old key own are

  stays : (q : Key) (s : Segment) → Begins old q s → Begins new q s
  stays q s there = put_other new old key own are q s (λ same. clash b key before (over.last key s (subst (λ k. Begins old k s) (sym same) there) (le_refl key))) there

  -- the last of the new ones that begin at a key or before it
  last_of : (at c : Key) (s : Segment) → IsOver old at c s → (key_le key at ≡ true → key_le key c ≡ true) →
      (other : Key) (next : Segment) → Begins new other next → key_le other at ≡ true → key_le other c ≡ true
  last_of at c s was own_first other next there le = elim (cases other next there) [
    | inl here ↦ subst (λ k. key_le k c ≡ true) (sym here.0) (own_first (subst (λ k. key_le k at ≡ true) here.0 le))
    | inr there' ↦ was.last other next there' le
  ]

  kept_over : (at c : Key) (s : Segment) (place : ℕ) → IsOver old at c s → place ≤ s.place → (key_le key at ≡ true → key_le key c ≡ true) → IsCovered new at place
  kept_over at c s place was placed own_first = record {
    begin = c;
    segment = s;
    over = record { stands = stays c s was.stands; from = was.from; before = was.before; last = last_of at c s was own_first };
    placed = placed;
  }

  kept_here : (at c : Key) (s : Segment) (place : ℕ) → IsOver old at c s → place ≤ s.place → key_le key at ≡ true → key_lt c key ≡ true → IsCovered new at place
  kept_here at c s place was placed upto earlier =
      let same = floor_same old key b c own s (floor_of old key b own over) (over_earlier old key at c s was (le_from_lt c key earlier) upto) in
      record {
        begin = key;
        segment = own;
        over = record {
          stands = at_put new old key own are;
          from = upto;
          before = subst (λ x. key_lt at x.end ≡ true) (sym same.1) was.before;
          last = λ other next there le. elim (cases other next there) [
            | inl here ↦ subst (λ k. key_le k key ≡ true) (sym here.0) (le_refl key)
            | inr there' ↦ le_trans other c key (was.last other next there' le) (le_from_lt c key earlier)
          ];
        };
        placed = subst (λ x. place ≤ x.place) (sym same.1) placed;
      }

  cut_here : IsCutAt key old new
  cut_here = record {
    holds = λ at place h. elim (cases h.begin h.segment h.stands) [
      | inl here ↦ record {
        begin = b;
        segment = own;
        stands = over.stands;
        from = le_trans b key at (le_from_lt b key before) (subst (λ k. key_le k at ≡ true) here.0 h.from);
        before = subst (λ x. key_lt at x.end ≡ true) here.1 h.before;
        placed = subst (λ x. x.place ≡ place) here.1 h.placed;
      }
      | inr there ↦ record { begin = h.begin; segment = h.segment; stands = there; from = h.from; before = h.before; placed = h.placed }
    ];
    kept = λ at place h. elim (cases_key at key) [
      | inl earlier ↦ kept_over at h.begin h.segment place h.over h.placed (λ from. absurd (clash at key earlier from))
      | inr upto ↦ elim (cases_key h.begin key) [
        | inl begun ↦ kept_here at h.begin h.segment place h.over h.placed upto begun
        | inr from ↦ kept_over at h.begin h.segment place h.over h.placed (λ _. from)
      ]
    ];
    begun = λ at c s was upto. was.last key own (at_put new old key own are) upto;
  }

  cut_keys : HaveKeys old → HaveKeys new
  cut_keys keys = λ q s there. elim (cases q s there) [
    | inl here ↦ subst (λ k. key_lt k s.end ≡ true) (sym here.0) (subst (λ x. key_lt key x.end ≡ true) (sym here.1) over.before)
    | inr there' ↦ keys q s there'
  ]

-- a segment stands from one key up to another, in place of those that began there
pub record StandsOver (old new : Run) (begin end : Key) (place : ℕ) : Type 0 where
  pub laid : Begins new begin (record { end = end; place = place })
  pub beside : (q : Key) (s : Segment) → Begins old q s → (key_lt q begin ≡ true) ⊎ (key_le end q ≡ true) → Begins new q s
  -- what begins there now is that segment, or one of before that begins beside it
  pub cases :
      (q : Key) (s : Segment) → Begins new q s →
      ((q ≡ begin) × (s ≡ record { end = end; place = place })) ⊎ (Begins old q s × ((key_lt q begin ≡ true) ⊎ (key_le end q ≡ true)))

module _ (old new : Run) (begin end : Key) (place : ℕ) (some : key_lt begin end ≡ true) (is : StandsOver old new begin end place) where
  abbrev own : Segment
  own = record { end = end; place = place }

  laid_keys : HaveKeys old → HaveKeys new
  laid_keys have = λ q s there. elim (is.cases q s there) [
    | inl here ↦ subst (λ k. key_lt k s.end ≡ true) (sym here.0) (subst (λ x. key_lt begin x.end ≡ true) (sym here.1) some)
    | inr before ↦ have q s before.0
  ]

  laid_covers : (key : Key) → contains (from_to begin end) key ≡ true → IsCovered new key place
  laid_covers key inside =
      let parts = and_parts (key_le begin key) (key_lt key end) inside in
      record {
        begin = begin;
        segment = own;
        over = record {
          stands = is.laid;
          from = parts.0;
          before = parts.1;
          last = λ q s there le. elim (is.cases q s there) [
            | inl here ↦ subst (λ k. key_le k begin ≡ true) (sym here.0) (le_refl begin)
            | inr before ↦ elim before.1 [
              | inl earlier ↦ le_from_lt q begin earlier
              | inr later ↦ absurd (clash key end parts.1 (le_trans end q key later le))
            ]
          ];
        };
        placed = omega arith;
      }

  laid_overlays : (first : Run) → IsCutAt end first old → Overlays (contains (from_to begin end)) place first new
  laid_overlays first cut = record {
    holds = λ key at h. elim (is.cases h.begin h.segment h.stands) [
      | inl here ↦ inr (
        and_from (key_le begin key) (key_lt key end) (subst (λ k. key_le k key ≡ true) here.0 h.from) (subst (λ x. key_lt key x.end ≡ true) here.1 h.before),
        sym h.placed ∙ ap (λ x. x.place) here.1,
      )
      | inr before ↦ inl (cut.holds key at (record { begin = h.begin; segment = h.segment; stands = before.0; from = h.from; before = h.before; placed = h.placed }))
    ];
    kept = λ key at upto covered.
        let h = cut.kept key at covered in
        elim (cases_key key begin) [
          | inl earlier ↦ beside key at h (inl (le_lt_trans h.begin key begin h.over.from earlier)) (λ from. absurd (clash key begin earlier from))
          | inr from ↦ elim (cases_key key end) [
            | inl inside ↦
                let c = laid_covers key (and_from (key_le begin key) (key_lt key end) from inside) in
                let le : place ≤ c.segment.place = c.placed in
                record { begin = c.begin; segment = c.segment; over = c.over; placed = omega (arith, le, upto) }
            | inr past ↦
                let later = cut.begun key h.begin h.segment h.over past in
                beside key at h (inr later) (λ _. le_from_lt begin h.begin (lt_le_trans begin end h.begin some later))
          ]
        ];
  }
    where
      beside : (key : Key) (at : ℕ) (h : IsCovered old key at) → (key_lt h.begin begin ≡ true) ⊎ (key_le end h.begin ≡ true) → (key_le begin key ≡ true → key_le begin h.begin ≡ true) → IsCovered new key at
      beside key at h apart own_first = record {
        begin = h.begin;
        segment = h.segment;
        over = record {
          stands = is.beside h.begin h.segment h.over.stands apart;
          from = h.over.from;
          before = h.over.before;
          last = λ q s there le. elim (is.cases q s there) [
            | inl here ↦ subst (λ k. key_le k h.begin ≡ true) (sym here.0) (own_first (subst (λ k. key_le k key ≡ true) here.0 le))
            | inr before ↦ h.over.last q s before.0 le
          ];
        };
        placed = h.placed;
      }

-- what holds after that
pub record IsOverlay (old new : Run) (begin end : Key) (place : ℕ) : Type 0 where
  pub keys : HaveKeys new
  pub order : InOrder new
  pub overlays : Overlays (contains (from_to begin end)) place old new
  pub covered : (key : Key) → contains (from_to begin end) key ≡ true → IsCovered new key place

-- a segment put behind those that begin before it
lookup_put : (a b : Run) (k q : Key) (s : Segment) → AllByRecursion (λ e. key_lt e.0 k ≡ true) a →
    lookup (is_at (key_cmp q)) (a ++ (k, s) ∷ b) ≡ cond (is_eq (key_cmp k q)) (Some s) (lookup (is_at (key_cmp q)) (a ++ b))
lookup_put [] b k q s below = ap (λ t. cond t (Some s) (lookup (is_at (key_cmp q)) b)) (tied_swap q k)
lookup_put (e ∷ a) b k q s below = elim (cases_Bool (is_eq (key_cmp q e.0))) [
  | inl tied ↦
      ap (λ t. cond t (Some e.1) (lookup (is_at (key_cmp q)) (a ++ (k, s) ∷ b))) tied ∙ sym (ap (λ t. cond t (Some e.1) (lookup (is_at (key_cmp q)) (a ++ b))) tied)
      ∙ sym (ap (λ t. cond t (Some s) (lookup (is_at (key_cmp q)) (e ∷ (a ++ b)))) (apart tied))
  | inr other ↦
      ap (λ t. cond t (Some e.1) (lookup (is_at (key_cmp q)) (a ++ (k, s) ∷ b))) other ∙ lookup_put a b k q s below.1
      ∙ ap (λ o. cond (is_eq (key_cmp k q)) (Some s) o) (sym (ap (λ t. cond t (Some e.1) (lookup (is_at (key_cmp q)) (a ++ b))) other))
]
  where
    apart : is_eq (key_cmp q e.0) ≡ true → is_eq (key_cmp k q) ≡ false
    apart tied = elim (cases_Bool (is_eq (key_cmp k q))) [
      | inl same ↦ absurd (clash e.0 k below.0 (subst (λ x. key_le k x ≡ true) (tied_keys k q same ∙ tied_keys q e.0 tied) (le_refl k)))
      | inr differ ↦ differ
    ]

-- one laid over others, with what is left of the last of them behind it
module _ (old new rest : Run) (begin end : Key) (place : ℕ) (some : key_lt begin end ≡ true) (order : InOrder old) (part : Option Segment)
    (left_is : IsPartFrom old end part) (rest_is : rest ≡ at_key end part) (l : IsLaid begin (record { end = end; place = place }) rest old new) where
  abbrev whole : Segment
  whole = record { end = end; place = place }

  -- the segments once the last of them is cut
  abbrev cut : Run
  cut = l.before ++ (l.within ++ (rest ++ l.after))

  old_is : old ≡ l.before ++ (l.within ++ l.after)
  old_is = l.begun.whole ∙ ap (λ xs. l.before ++ xs) l.ended.whole

  old_order : InOrder (l.before ++ (l.within ++ l.after))
  old_order = subst InOrder old_is order

  within_from : AllByRecursion (λ e. key_le begin e.0 ≡ true) l.within
  within_from = all_front (λ e. key_le begin e.0 ≡ true) l.within l.after (subst (AllByRecursion (λ e. key_le begin e.0 ≡ true)) l.ended.whole l.begun.from)

  rest_from : (o : Option Segment) → AllByRecursion (λ e. key_le end e.0 ≡ true) (at_key end o)
  rest_from None = tt
  rest_from (Some s) = (le_refl end, tt)

  behind : AllByRecursion (λ e. key_le end e.0 ≡ true) (rest ++ l.after)
  behind = all_append (λ e. key_le end e.0 ≡ true) rest l.after (subst (AllByRecursion (λ e. key_le end e.0 ≡ true)) (sym rest_is) (rest_from part)) l.ended.from

  below_end : AllByRecursion (λ e. key_lt e.0 end ≡ true) (l.before ++ l.within)
  below_end =
      all_append (λ e. key_lt e.0 end ≡ true) l.before l.within
      (all_map (λ e. key_lt e.0 begin ≡ true) (λ e. key_lt e.0 end ≡ true) (λ e h. lt_le_trans e.0 begin end h (le_from_lt begin end some)) l.before l.begun.below) l.ended.below

  -- what begins at a key once the last segment is cut, or where none is
  cut_same : rest ≡ [] → old ≡ cut
  cut_same is = old_is ∙ ap (λ xs. l.before ++ (l.within ++ (xs ++ l.after))) (sym is)

  cut_has : (own : Segment) → rest ≡ (end, own) ∷ [] → (q : Key) →
      lookup (is_at (key_cmp q)) cut ≡ cond (is_eq (key_cmp end q)) (Some own) (lookup (is_at (key_cmp q)) old)
  cut_has own is q =
      ap (lookup (is_at (key_cmp q))) (ap (λ xs. l.before ++ (l.within ++ (xs ++ l.after))) is ∙ sym (append_assoc l.before l.within ((end, own) ∷ l.after)))
      ∙ lookup_put (l.before ++ l.within) l.after end q own below_end
      ∙ ap (λ xs. cond (is_eq (key_cmp end q)) (Some own) (lookup (is_at (key_cmp q)) xs)) (append_assoc l.before l.within l.after ∙ sym old_is)

  laid_cut : (o : Option Segment) → IsPartFrom old end o → rest ≡ at_key end o → IsCutAt end old cut
  laid_cut None none is = subst (IsCutAt end old) (cut_same is) (cut_nowhere old end none)
  laid_cut (Some own) found is = let over = found.found own refl in cut_here old cut end over.0 own over.1 over.2 (cut_has own is)

  laid_cut_keys : (o : Option Segment) → IsPartFrom old end o → rest ≡ at_key end o → HaveKeys old → HaveKeys cut
  laid_cut_keys None none is keys = subst HaveKeys (cut_same is) keys
  laid_cut_keys (Some own) found is keys = let over = found.found own refl in cut_keys old cut end over.0 own over.1 over.2 (cut_has own is) keys

  -- what begins behind it
  begins_behind : (q : Key) (s : Segment) → Begins ((begin, whole) ∷ (rest ++ l.after)) q s → ((q ≡ begin) × (s ≡ whole)) ⊎ Begins (rest ++ l.after) q s
  begins_behind q s there = elim (cases_Bool (is_eq (key_cmp q begin))) [
    | inl tied ↦ inl (tied_keys q begin tied, only_one (sym there ∙ ap (λ b. cond b (Some whole) (lookup (is_at (key_cmp q)) (rest ++ l.after))) tied))
    | inr apart ↦ inr (sym (ap (λ b. cond b (Some whole) (lookup (is_at (key_cmp q)) (rest ++ l.after))) apart) ∙ there)
  ]

  stands_behind : (q : Key) (s : Segment) → key_le end q ≡ true → Begins (rest ++ l.after) q s → Begins ((begin, whole) ∷ (rest ++ l.after)) q s
  stands_behind q s from there = elim (cases_Bool (is_eq (key_cmp q begin))) [
    | inl tied ↦ absurd (clash begin end some (subst (λ k. key_le end k ≡ true) (tied_keys q begin tied) from))
    | inr apart ↦ ap (λ b. cond b (Some whole) (lookup (is_at (key_cmp q)) (rest ++ l.after))) apart ∙ there
  ]

  from_end : (q : Key) (s : Segment) → Begins (rest ++ l.after) q s → key_le end q ≡ true
  from_end q s there = all_begins (λ e. key_le end e.0 ≡ true) (rest ++ l.after) q s behind there

  upto_end : (q : Key) → key_le end q ≡ true → key_le begin q ≡ true
  upto_end q from = le_trans begin end q (le_from_lt begin end some) from

  laid_over : StandsOver cut new begin end place
  laid_over = record {
    laid = subst (λ xs. Begins xs begin whole) (sym l.made) (begins_right l.before ((begin, whole) ∷ (rest ++ l.after)) begin begin whole l.begun.below (le_refl begin) (begins_here (rest ++ l.after) begin whole));
    beside = λ q s there apart. subst (λ xs. Begins xs q s) (sym l.made) (elim (begins_cases l.before (l.within ++ (rest ++ l.after)) q s there) [
      | inl first ↦ begins_left l.before ((begin, whole) ∷ (rest ++ l.after)) q s first
      | inr onward ↦ elim (begins_cases l.within (rest ++ l.after) q s onward) [
        | inl gone ↦ absurd (elim apart [
          | inl earlier ↦ clash q begin earlier (all_begins (λ e. key_le begin e.0 ≡ true) l.within q s within_from gone)
          | inr later ↦ clash q end (all_begins (λ e. key_lt e.0 end ≡ true) l.within q s l.ended.below gone) later
        ])
        | inr last ↦
            let from = from_end q s last in
            begins_right l.before ((begin, whole) ∷ (rest ++ l.after)) begin q s l.begun.below (upto_end q from) (stands_behind q s from last)
      ]
    ]);
    cases = λ q s there. elim (begins_cases l.before ((begin, whole) ∷ (rest ++ l.after)) q s (subst (λ xs. Begins xs q s) l.made there)) [
      | inl first ↦ inr (begins_left l.before (l.within ++ (rest ++ l.after)) q s first, inl (all_begins (λ e. key_lt e.0 begin ≡ true) l.before q s l.begun.below first))
      | inr onward ↦ elim (begins_behind q s onward) [
        | inl here ↦ inl here
        | inr last ↦
            let from = from_end q s last in
            inr (
              begins_right l.before (l.within ++ (rest ++ l.after)) begin q s l.begun.below (upto_end q from)
                  (begins_right l.within (rest ++ l.after) end q s l.ended.below from last),
              inr from,
            )
      ]
    ];
  }

  laid_order : InOrder new
  laid_order =
      subst InOrder (sym l.made)
      (order_append l.before ((begin, whole) ∷ (rest ++ l.after)) begin (order_front l.before (l.within ++ l.after) old_order) (
        all_map (λ e. key_le end e.0 ≡ true) (λ e. key_lt begin e.0 ≡ true) (λ e h. lt_le_trans begin end e.0 some h) (rest ++ l.after) behind,
        subst (λ xs. InOrder (xs ++ l.after)) (sym rest_is) (with_rest part left_is),
      )
      l.begun.below
      (le_refl begin, all_map (λ e. key_le end e.0 ≡ true) (λ e. key_le begin e.0 ≡ true) (λ e h. upto_end e.0 h) (rest ++ l.after) behind))
    where
      after_order : InOrder l.after
      after_order = order_back l.within l.after (order_back l.before (l.within ++ l.after) old_order)

      -- where a segment goes on beyond the end, none begins there
      strictly : (a : Run) → InOrder a → AllByRecursion (λ e. key_le end e.0 ≡ true) a → ((q : Key) (s : Segment) → Begins a q s → end ≡ q → ⊥) → AllByRecursion (λ e. key_lt end e.0 ≡ true) a
      strictly [] o h none = tt
      strictly (e ∷ a) o h none =
          let past : key_lt end e.0 ≡ true = elim (cases_key end e.0) [
            | inl p ↦ p
            | inr upto ↦ absurd (none e.0 e.1 (begins_here a e.0 e.1) (le_both end e.0 (le_gives e.0 end upto) (le_gives end e.0 h.0)))
          ] in
          (past, all_map (λ f. key_lt e.0 f.0 ≡ true) (λ f. key_lt end f.0 ≡ true) (λ f g. lt_le_trans end e.0 f.0 past (le_from_lt e.0 f.0 g)) a o.0)

      stands_in_old : (q : Key) (s : Segment) → end ≡ q → Begins l.after q s → Begins old q s
      stands_in_old q s same there =
          let from : key_le end q ≡ true = subst (λ k. key_le end k ≡ true) same (le_refl end) in
          subst (λ xs. Begins xs q s) (sym old_is)
          (begins_right l.before (l.within ++ l.after) begin q s l.begun.below (upto_end q from) (begins_right l.within l.after end q s l.ended.below from there))

      with_rest : (o : Option Segment) → IsPartFrom old end o → InOrder (at_key end o ++ l.after)
      with_rest None none = after_order
      with_rest (Some own) found =
          let over = found.found own refl in (
            strictly l.after after_order l.ended.from (λ q s there same.
                clash over.0 end over.2 (over.1.last end s (subst (λ k. Begins old k s) (sym same) (stands_in_old q s same there)) (le_refl end))),
            after_order,
          )

  pub overlay : HaveKeys old → IsOverlay old new begin end place
  overlay keys = record {
    keys = laid_keys cut new begin end place some laid_over (laid_cut_keys part left_is rest_is keys);
    order = laid_order;
    overlays = laid_overlays cut new begin end place some laid_over old (laid_cut part left_is rest_is);
    covered = laid_covers cut new begin end place some laid_over;
  }
