-- Points as segments: what has a key and what covers it, after a key is noted and after old ones are dropped, and the
-- newest place over a range.
use Rattle.std.proofs.Common.{◌≡◌, ℕ, ◌≤◌, true, false, cond, nat_le, length, Option, None, Some, List, [], ◌∷◌, inl, inr, refl, sym, ap, subst, ◌∙◌, arith}
use Rattle.std.proofs.lemmas.Bool.{and_from, and_parts, cases_Bool, false≢true, leb-true, le-leb, true≢false}
use Rattle.std.proofs.lemmas.Cmp.{eq_by_cmp_equiv, nat_list_cmp_total}
use Rattle.std.proofs.lemmas.Map.Entries.{lookup-filter-values, option_filter}
use Rattle.std.specs.List.{IsDistinct, filter}
use Rattle.std.specs.BTreeMap.{is_at}
use Rattle.std.specs.Map.{keys_of, lookup}
use Rattle.std.specs.Ordering.{eq_by_cmp, is_eq}
use Rattle.kv_core.specs.Bytes.{key_cmp, key_le, key_lt, next_key}
use Rattle.kv_core.specs.Range.{KeyRange, contains, point}
use Rattle.kv_core.proofs.Order.{contains-point, le_from, le_from_lt, le_lt_trans, le_refl, le_trans, less_self, tied_keys}
use Rattle.kv_core.proofs.Pairs.{contains-point-is}
use Rattle.cluster_core.specs.Decision.{Owned, cut, owns}
use Rattle.cluster_core.specs.Points.{AreSpanned, kept_place, points_of, reaches, spans}
use Rattle.cluster_core.specs.Segments.{Begins, IsCovered, IsNewestOver, Overlays, SegmentHolds}
use Rattle.cluster_core.specs.declared.points.Hull.{Hull}
use Rattle.cluster_core.specs.declared.segments.Segment.{Segment}
use Rattle.cluster_core.proofs.InOrder.{Key, nothing_is, only_one}
use Rattle.cluster_core.specs.Cuts.{contains-cut, cut_has}
use Rattle.cluster_core.proofs.Ownership.{point_key}

abbrev Places : Type 0
Places = List (Key × ℕ)

-- the segment of a key
abbrev own_segment : Key → ℕ → Segment
own_segment key place = record { end = next_key key; place = place }

-- ---- a key and its segment

begins_point : (es : Places) (key : Key) (place : ℕ) → kept_place es key ≡ Some place → Begins (points_of es) key (own_segment key place)
begins_point [] key place there = absurd (nothing_is there)
begins_point (e ∷ es) key place there = elim (cases_Bool (is_eq (key_cmp key e.0))) [
  | inl tied ↦
      let here : e.1 ≡ place = only_one (sym (ap (λ b. cond b (Some e.1) (kept_place es key)) tied) ∙ there) in
      ap (λ b. cond b (Some (own_segment e.0 e.1)) (lookup (is_at (key_cmp key)) (points_of es))) tied
      ∙ (λ i. Some (own_segment (sym (tied_keys key e.0 tied) i) (here i)))
  | inr apart ↦
      ap (λ b. cond b (Some (own_segment e.0 e.1)) (lookup (is_at (key_cmp key)) (points_of es))) apart
      ∙ begins_point es key place (sym (ap (λ b. cond b (Some e.1) (kept_place es key)) apart) ∙ there)
]

point_begins : (es : Places) (key : Key) (s : Segment) → Begins (points_of es) key s → (kept_place es key ≡ Some s.place) × (s.end ≡ next_key key)
point_begins [] key s there = absurd (nothing_is there)
point_begins (e ∷ es) key s there = elim (cases_Bool (is_eq (key_cmp key e.0))) [
  | inl tied ↦
      let same : own_segment e.0 e.1 ≡ s =
      only_one (sym (ap (λ b. cond b (Some (own_segment e.0 e.1)) (lookup (is_at (key_cmp key)) (points_of es))) tied) ∙ there) in (
        ap (λ b. cond b (Some e.1) (kept_place es key)) tied ∙ ap (λ x. Some x.place) same,
        ap (λ x. x.end) (sym same) ∙ ap next_key (sym (tied_keys key e.0 tied)),
      )
  | inr apart ↦
      let rest =
      point_begins es key s (sym (ap (λ b. cond b (Some (own_segment e.0 e.1)) (lookup (is_at (key_cmp key)) (points_of es))) apart) ∙ there) in
      (ap (λ b. cond b (Some e.1) (kept_place es key)) apart ∙ rest.0, rest.1)
]

-- a key that is in the segment of another one is that one
in_point : (own key : Key) (end : Key) → key_le own key ≡ true → key_lt key end ≡ true → end ≡ next_key own → own ≡ key
in_point own key end from before is = point_key own key (and_from (key_le own key) (key_lt key (next_key own)) from (subst (λ x. key_lt key x ≡ true) is before))

-- ---- what has a key, and what covers it

pub point_holds : (es : Places) (key : Key) (place : ℕ) → SegmentHolds (points_of es) key place → kept_place es key ≡ Some place
point_holds es key place h =
    let own = point_begins es h.begin h.segment h.stands in
    let same = in_point h.begin key h.segment.end h.from h.before own.1 in
    subst (λ k. kept_place es k ≡ Some place) same (own.0 ∙ ap Some h.placed)

pub holds_point : (es : Places) (key : Key) (place : ℕ) → kept_place es key ≡ Some place → SegmentHolds (points_of es) key place
holds_point es key place there =
    record { begin = key; segment = own_segment key place; stands = begins_point es key place there; from = le_refl key; before = less_self key; placed = refl }

pub point_covered : (es : Places) (key : Key) (place : ℕ) → IsCovered (points_of es) key place → (own : ℕ) × (kept_place es key ≡ Some own) × (place ≤ own)
point_covered es key place h =
    let own = point_begins es h.begin h.segment h.over.stands in
    let same = in_point h.begin key h.segment.end h.over.from h.over.before own.1 in
    (h.segment.place, subst (λ k. kept_place es k ≡ Some h.segment.place) same own.0, h.placed)

pub covered_point : (es : Places) (key : Key) (place own : ℕ) → kept_place es key ≡ Some own → place ≤ own → IsCovered (points_of es) key place
covered_point es key place own there upto = record {
  begin = key;
  segment = own_segment key own;
  over = record { stands = begins_point es key own there; from = le_refl key; before = less_self key; last = λ other next begins from. from };
  placed = upto;
}

-- ---- a key is noted

module _ (old new : Places) (key put : Key) (place : ℕ) (is : put ≡ key)
    (step : (q : Key) → kept_place new q ≡ cond (eq_by_cmp key_cmp put q) (Some place) (kept_place old q)) where
  place_here : (q : Key) → is_eq (key_cmp key q) ≡ true → kept_place new q ≡ Some place
  place_here q tied = step q ∙ ap (λ k. cond (is_eq (key_cmp k q)) (Some place) (kept_place old q)) is ∙ ap (λ b. cond b (Some place) (kept_place old q)) tied

  place_there : (q : Key) → is_eq (key_cmp key q) ≡ false → kept_place new q ≡ kept_place old q
  place_there q apart = step q ∙ ap (λ k. cond (is_eq (key_cmp k q)) (Some place) (kept_place old q)) is ∙ ap (λ b. cond b (Some place) (kept_place old q)) apart

  pub noted_overlays : Overlays (contains (point key)) place (points_of old) (points_of new)
  noted_overlays = record {
    holds = λ q at h. elim (cases_Bool (is_eq (key_cmp key q))) [
      | inl tied ↦ inr (contains-point-is key q ∙ tied, only_one (sym (point_holds new q at h) ∙ place_here q tied))
      | inr apart ↦ inl (holds_point old q at (sym (place_there q apart) ∙ point_holds new q at h))
    ];
    kept = λ q at upto h. elim (cases_Bool (is_eq (key_cmp key q))) [
      | inl tied ↦ covered_point new q at place (place_here q tied) upto
      | inr apart ↦ let own = point_covered old q at h in covered_point new q at own.0 (place_there q apart ∙ own.1) own.2
    ];
  }

  pub noted_covered : (q : Key) → contains (point key) q ≡ true → IsCovered (points_of new) q place
  noted_covered q inside = covered_point new q place place (place_here q (sym (contains-point-is key q) ∙ inside)) (omega arith)

  pub noted_spanned : (hull : Hull) → AreSpanned hull old → spans hull key ≡ true → AreSpanned hull new
  noted_spanned hull was own q at there = elim (cases_Bool (is_eq (key_cmp key q))) [
    | inl tied ↦ subst (λ k. spans hull k ≡ true) (tied_keys key q tied) own
    | inr apart ↦ was q at (sym (place_there q apart) ∙ there)
  ]

-- ---- the hull

pub spans_own : (hull : Hull) (key : Key) → hull.least ≡ key → hull.greatest ≡ key → spans hull key ≡ true
spans_own hull key least greatest =
    and_from (key_le hull.least key) (key_le key hull.greatest) (subst (λ k. key_le k key ≡ true) (sym least) (le_refl key)) (subst (λ k. key_le key k ≡ true) (sym greatest) (le_refl key))

-- a hull that spans what it did, and doesn't begin after a key
pub record IsLowered (old new : Hull) (key : Key) : Type 0 where
  pub wider : (own : Key) → spans old own ≡ true → spans new own ≡ true
  pub upto : key_le new.least key ≡ true

pub lowered : (hull : Hull) (key least : Key) → least ≡ key → key_lt key hull.least ≡ true → IsLowered hull (record { least = least; greatest = hull.greatest }) key
lowered hull key least is before = record {
  wider = λ own h.
      let parts = and_parts (key_le hull.least own) (key_le own hull.greatest) h in
      and_from (key_le least own) (key_le own hull.greatest) (subst (λ k. key_le k own ≡ true) (sym is) (le_trans key hull.least own (le_from_lt key hull.least before) parts.0)) parts.1;
  upto = subst (λ k. key_le k key ≡ true) (sym is) (le_refl key);
}

pub low_already : (hull : Hull) (key : Key) → key_lt key hull.least ≡ false → IsLowered hull hull key
low_already hull key from = record { wider = λ own h. h; upto = le_from hull.least key from }

module _ (old new : Hull) (key : Key) (low : IsLowered old new key) where
  pub raised_wider : (greatest : Key) → greatest ≡ key → key_lt new.greatest key ≡ true → (own : Key) → spans old own ≡ true → spans (record { least = new.least; greatest = greatest }) own ≡ true
  raised_wider greatest is after own h =
      let parts = and_parts (key_le new.least own) (key_le own new.greatest) (low.wider own h) in
      and_from (key_le new.least own) (key_le own greatest) parts.0 (subst (λ k. key_le own k ≡ true) (sym is) (le_trans own new.greatest key parts.1 (le_from_lt new.greatest key after)))

  pub raised_spans : (greatest : Key) → greatest ≡ key → spans (record { least = new.least; greatest = greatest }) key ≡ true
  raised_spans greatest is = and_from (key_le new.least key) (key_le key greatest) low.upto (subst (λ k. key_le key k ≡ true) (sym is) (le_refl key))

  pub high_already : key_lt new.greatest key ≡ false → spans new key ≡ true
  high_already from = and_from (key_le new.least key) (key_le key new.greatest) low.upto (le_from key new.greatest from)

pub widened : (old new : Hull) (es : Places) → ((key : Key) → spans old key ≡ true → spans new key ≡ true) → AreSpanned old es → AreSpanned new es
widened old new es wider was key place there = wider key (was key place there)

pub none_spanned : (hull : Hull) (es : Places) → length es ≡ 0 → AreSpanned hull es
none_spanned hull [] empty key place there = absurd (nothing_is there)
none_spanned hull (e ∷ es) empty key place there = absurd (omega arith)

-- ---- old ones are dropped

module _ (old new : Places) (least : ℕ) (distinct : IsDistinct (eq_by_cmp key_cmp) (keys_of old)) (is : new ≡ filter (λ e. nat_le least e.1) old) where
  left : (key : Key) → kept_place new key ≡ option_filter (nat_le least) (kept_place old key)
  left key = ap (λ es. kept_place es key) is ∙ lookup-filter-values (eq_by_cmp_equiv nat_list_cmp_total) (nat_le least) key old distinct

  left_had : (key : Key) (place : ℕ) → kept_place new key ≡ Some place → (kept_place old key ≡ Some place) × (least ≤ place)
  left_had key place there = by (kept_place old key) refl
    where
      by : (o : Option ℕ) → kept_place old key ≡ o → (kept_place old key ≡ Some place) × (least ≤ place)
      by None none = absurd (nothing_is (sym (left key ∙ ap (option_filter (nat_le least)) none) ∙ there))
      by (Some at) some = elim (cases_Bool (nat_le least at)) [
        | inl keeps ↦
            let same : at ≡ place = only_one (sym (left key ∙ ap (option_filter (nat_le least)) some ∙ ap (λ b. cond b (Some at) None) keeps) ∙ there) in
            (some ∙ ap Some same, subst (λ n. least ≤ n) same (leb-true least at keeps))
        | inr drops ↦ absurd (nothing_is (sym (left key ∙ ap (option_filter (nat_le least)) some ∙ ap (λ b. cond b (Some at) None) drops) ∙ there))
      ]

  pub left_holds : (key : Key) (place : ℕ) → SegmentHolds (points_of new) key place → SegmentHolds (points_of old) key place
  left_holds key place h = holds_point old key place (left_had key place (point_holds new key place h)).0

  pub left_recent : (key : Key) (place : ℕ) → SegmentHolds (points_of new) key place → least ≤ place
  left_recent key place h = (left_had key place (point_holds new key place h)).1

  pub left_kept : (key : Key) (place : ℕ) → least ≤ place → IsCovered (points_of old) key place → IsCovered (points_of new) key place
  left_kept key place from h =
      let own = point_covered old key place h in
      let upto : place ≤ own.0 = own.2 in
      covered_point new key place own.0
      (left key ∙ ap (option_filter (nat_le least)) own.1 ∙ ap (λ b. cond b (Some own.0) None) (le-leb least own.0 (omega (arith, from, upto)))) upto

  pub left_spanned : (hull : Hull) → AreSpanned hull old → AreSpanned hull new
  left_spanned hull was key place there = was key place (left_had key place there).0

-- ---- the newest place over a range

-- of the point of a key that is the owner's it is the key's
pub newest_at : (es : Places) (owner : Owned) (range : KeyRange) (newest : Option ℕ) → range ≡ point range.begin → owns owner range.begin ≡ true →
    newest ≡ kept_place es range.begin → IsNewestOver (points_of es) (cut owner range) newest
newest_at es owner range newest is own found = record {
  found = λ place some. (
    range.begin,
    contains-cut owner.from owner.upto range range.begin own (subst (λ r. contains r range.begin ≡ true) (sym is) (contains-point range.begin)),
    holds_point es range.begin place (sym found ∙ some),
  );
  others = λ key place inside covered.
      let within = cut_has owner.from owner.upto range key inside in
      let same = point_key range.begin key (subst (λ r. contains r key ≡ true) is within.1) in
      let at = point_covered es key place covered in
      (at.0, found ∙ ap (kept_place es) same ∙ at.1, at.2);
}

-- and else none
pub newest_of_others : (es : Places) (owner : Owned) (range : KeyRange) → range ≡ point range.begin → owns owner range.begin ≡ false → IsNewestOver (points_of es) (cut owner range) None
newest_of_others es owner range is other = record {
  found = λ place some. absurd (nothing_is some);
  others = λ key place inside covered.
      let within = cut_has owner.from owner.upto range key inside in
      let same = point_key range.begin key (subst (λ r. contains r key ≡ true) is within.1) in
      absurd (false≢true (sym other ∙ subst (λ k. owns owner k ≡ true) (sym same) within.0));
}

-- nor is there any over a range off the hull
pub newest_off : (es : Places) (hull : Hull) (owner : Owned) (range : KeyRange) → AreSpanned hull es → reaches hull range ≡ false → IsNewestOver (points_of es) (cut owner range) None
newest_off es hull owner range spanned off = record {
  found = λ place some. absurd (nothing_is some);
  others = λ key place inside covered.
      let within = and_parts (key_le range.begin key) (key_lt key range.end) (cut_has owner.from owner.upto range key inside).1 in
      let at = point_covered es key place covered in
      let own = and_parts (key_le hull.least key) (key_le key hull.greatest) (spanned key at.0 at.1) in
      absurd (true≢false (sym (and_from (key_lt hull.least range.end) (key_le range.begin hull.greatest)
      (le_lt_trans hull.least key range.end own.0 within.1) (le_trans range.begin key hull.greatest within.0 own.1)) ∙ off));
}
