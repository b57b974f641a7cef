-- What becomes of stretches to which a range is added.
use Rattle.std.proofs.Common.{◌≡◌, Bool, true, false, None, Some, Option, cond, not, ◌&&◌, ◌||◌, List, [], ◌∷◌, ◌⊎◌, inl, inr, sym, ap, subst, ◌∙◌}
use Rattle.std.proofs.lemmas.Bool.{false≢true, true≢false, and_from, and_parts, or_cases, or_left, or_right, cases_Bool, false_from_ne_true, not-false}
use Rattle.std.proofs.lemmas.Cmp.{nat_list_cmp_total, tied_itself}
use Rattle.std.specs.BTreeMap.{is_at}
use Rattle.std.specs.List.{list_any}
use Rattle.std.specs.Map.{lookup}
use Rattle.std.specs.Ordering.{is_eq}
use Rattle.kv_core.specs.Bytes.{has_key, key_cmp, key_le, key_lt}
use Rattle.kv_core.specs.Range.{KeyRange, contains, covers, has_keys, is_within}
use Rattle.kv_core.specs.Coverage.{AreStretches, AreSwallowed, EndsAt, stretches_of}
use Rattle.kv_core.proofs.Lists.{same_truth}
use Rattle.kv_core.proofs.Order.{cases_key, clash, le_from_lt, le_lt_trans, le_refl, le_trans, lt_le_trans, tied_keys}
use Rattle.kv_core.proofs.Stretches.{IsAscending, Key, Pair, any_at, any_from, nowhere, one_end, same_end}

-- the end at a begin after a range is put in
abbrev put_at : KeyRange → List Pair → Key → Option Key
put_at range es q = cond (is_eq (key_cmp range.begin q)) (Some range.end) (lookup (is_at (key_cmp q)) es)

-- a range put into stretches, in none of which it lies, and those that it swallows taken out
pub record Adds (range : KeyRange) (es ns : List Pair) (begins : List Key) : Type 0 where
  pub ascending : IsAscending es
  pub ascends : IsAscending ns
  pub stretches : AreStretches es
  pub swallowed : AreSwallowed range es begins
  pub keys : has_keys range ≡ true
  pub outside : list_any (is_within range) (stretches_of es) ≡ false
  pub ends : (q : Key) → lookup (is_at (key_cmp q)) ns ≡ cond (has_key begins q) None (cond (is_eq (key_cmp range.begin q)) (Some range.end) (lookup (is_at (key_cmp q)) es))

-- so it is where the range is put in and the begins within it are taken out
pub adds : (range : KeyRange) (own : List KeyRange) (es ms ns : List Pair) (begins keys : List Key) (b e : Key) (empty whole : Bool) →
    stretches_of es ≡ own → IsAscending es → IsAscending ns → AreStretches es →
    empty ≡ not (has_keys range) → empty ≡ false → whole ≡ list_any (is_within range) own → whole ≡ false → AreSwallowed range es begins → keys ≡ begins → b ≡ range.begin → e ≡ range.end →
    ((q : Key) → lookup (is_at (key_cmp q)) ms ≡ cond (is_eq (key_cmp b q)) (Some e) (lookup (is_at (key_cmp q)) es)) →
    ((q : Key) → lookup (is_at (key_cmp q)) ns ≡ cond (has_key keys q) None (lookup (is_at (key_cmp q)) ms)) → Adds range es ns begins
adds range own es ms ns begins keys b e empty whole view up ups s is_empty full is_whole new swallowed listed p r put gone = record {
  ascending = up;
  ascends = ups;
  stretches = s;
  swallowed = swallowed;
  keys = not-false (has_keys range) (sym is_empty ∙ full);
  outside = ap (list_any (is_within range)) view ∙ sym is_whole ∙ new;
  ends = λ q.
      gone q ∙ (λ i. cond (has_key (listed i) q) None (put q i))
      ∙ (λ i. cond (has_key begins q) None (cond (is_eq (key_cmp (p i) q)) (Some (r i)) (lookup (is_at (key_cmp q)) es)));
}

module _ (range : KeyRange) (es ns : List Pair) (begins : List Key) (a : Adds range es ns begins) where
  -- what begins before the range or with it ends before it does
  ends_before : (q t : Key) → EndsAt es q t → key_le q range.begin ≡ true → key_lt t range.end ≡ true
  ends_before q t h before = elim (cases_key t range.end) [
    | inl less ↦ less
    | inr past ↦ absurd (false≢true (sym a.outside ∙ any_from (is_within range) es q t h (and_from (key_le q range.begin) (key_le range.end t) before past)))
  ]

  -- what stands in the end: the range itself, or a stretch of before that ends after the range if it begins after it
  new_ends : (q t : Key) → EndsAt ns q t → ((q ≡ range.begin) × (t ≡ range.end)) ⊎ (EndsAt es q t × (key_lt range.begin q ≡ true → key_lt range.end t ≡ true))
  new_ends q t h = elim (cases_Bool (has_key begins q)) [
    | inl gone ↦ absurd (nowhere (sym (a.ends q ∙ ap (λ b. cond b None (put_at range es q)) gone) ∙ h))
    | inr stays ↦
        let there = sym (a.ends q ∙ ap (λ b. cond b None (put_at range es q)) stays) ∙ h in
        elim (cases_Bool (is_eq (key_cmp range.begin q))) [
          | inl same ↦ inl (sym (tied_keys range.begin q same), one_end (sym there ∙ ap (λ b. cond b (Some range.end) (lookup (is_at (key_cmp q)) es)) same))
          | inr other ↦
              let was = sym (ap (λ b. cond b (Some range.end) (lookup (is_at (key_cmp q)) es)) other) ∙ there in
              inr (
                was,
                λ after. elim (cases_key range.end t) [
                  | inl less ↦ less
                  | inr inside ↦ absurd (true≢false (sym ((a.swallowed q).1 (t, was, after, inside)) ∙ stays))
                ],
              )
        ]
  ]

  -- so the ends rise as before
  pub new_stretches : AreStretches ns
  new_stretches = record {
    have_keys = λ q t h. elim (new_ends q t h) [
      | inl own ↦ subst (λ e. key_lt q e ≡ true) (sym own.1) (subst (λ b. key_lt b range.end ≡ true) (sym own.0) a.keys)
      | inr was ↦ a.stretches.have_keys q t was.0
    ];
    rise = λ q t r u h k before. elim (new_ends q t h) [
      | inl own ↦ elim (new_ends r u k) [
        | inl other ↦ absurd (clash q r before (subst (λ x. key_le r x ≡ true) (other.0 ∙ sym own.0) (le_refl r)))
        | inr was ↦ subst (λ e. key_lt e u ≡ true) (sym own.1) (was.1 (subst (λ b. key_lt b r ≡ true) own.0 before))
      ]
      | inr first ↦ elim (new_ends r u k) [
        | inl own ↦ subst (λ e. key_lt t e ≡ true) (sym own.1) (ends_before q t first.0 (le_from_lt q range.begin (subst (λ b. key_lt q b ≡ true) own.0 before)))
        | inr was ↦ a.stretches.rise q t r u first.0 was.0 before
      ]
    ];
  }

  -- the range itself stands
  own_ends : EndsAt ns range.begin range.end
  own_ends =
      a.ends range.begin ∙ ap (λ b. cond b None (put_at range es range.begin)) stays
      ∙ ap (λ b. cond b (Some range.end) (lookup (is_at (key_cmp range.begin)) es)) (ap is_eq (tied_itself nat_list_cmp_total range.begin))
    where
      stays : has_key begins range.begin ≡ false
      stays = false_from_ne_true _ (λ h. let given = (a.swallowed range.begin).0 h in clash range.begin range.begin given.2 (le_refl range.begin))

  -- the stretch that has a key stands, or the range has the key
  still_ends : (q t k : Key) → EndsAt es q t → key_le q k ≡ true → key_lt k t ≡ true → EndsAt ns q t ⊎ (contains range k ≡ true)
  still_ends q t k h from before = elim (cases_Bool (has_key begins q)) [
    | inl gone ↦
        let given = (a.swallowed q).0 gone in
        let inside = subst (λ e. key_le e range.end ≡ true) (same_end es q given.0 t given.1 h) given.3 in
        inr (and_from (key_le range.begin k) (key_lt k range.end) (le_trans range.begin q k (le_from_lt range.begin q given.2) from) (lt_le_trans k t range.end before inside))
    | inr stays ↦ elim (cases_Bool (is_eq (key_cmp range.begin q))) [
      | inl same ↦
          let is = tied_keys range.begin q same in
          let ends = ends_before q t h (subst (λ b. key_le q b ≡ true) (sym is) (le_refl q)) in
          inr (and_from (key_le range.begin k) (key_lt k range.end) (subst (λ b. key_le b k ≡ true) (sym is) from) (lt_le_trans k t range.end before (le_from_lt t range.end ends)))
      | inr other ↦
          inl (a.ends q ∙ ap (λ b. cond b None (put_at range es q)) stays ∙ ap (λ b. cond b (Some range.end) (lookup (is_at (key_cmp q)) es)) other ∙ h)
    ]
  ]

  -- the keys of the range are covered, and those that were, and no others
  pub new_covers : (k : Key) → covers (stretches_of ns) k ≡ (covers (stretches_of es) k || contains range k)
  new_covers k = same_truth _ _ only all
    where
      only : covers (stretches_of ns) k ≡ true → (covers (stretches_of es) k || contains range k) ≡ true
      only h =
          let one = any_at (λ own. contains own k) ns a.ascends h in
          elim (new_ends one.0 one.1 one.2) [
            | inl own ↦ or_right _ _ (subst (λ e. (key_le range.begin k && key_lt k e) ≡ true) own.1 (subst (λ b. (key_le b k && key_lt k one.1) ≡ true) own.0 one.3))
            | inr was ↦ or_left _ _ (any_from (λ own. contains own k) es one.0 one.1 was.0 one.3)
          ]

      inside : contains range k ≡ true → covers (stretches_of ns) k ≡ true
      inside h = any_from (λ own. contains own k) ns range.begin range.end own_ends h

      all : (covers (stretches_of es) k || contains range k) ≡ true → covers (stretches_of ns) k ≡ true
      all h = elim (or_cases (covers (stretches_of es) k) (contains range k) h) [
        | inl was ↦
            let one = any_at (λ own. contains own k) es a.ascending was in
            let parts = and_parts (key_le one.0 k) (key_lt k one.1) one.3 in
            elim (still_ends one.0 one.1 k one.2 parts.0 parts.1) [
              | inl stays ↦ any_from (λ own. contains own k) ns one.0 one.1 stays one.3
              | inr own ↦ inside own
            ]
        | inr own ↦ inside own
      ]

-- a range that lies within a stretch, or has no keys, is covered already
pub whole_covers : (range : KeyRange) (own : List KeyRange) (k : Key) → list_any (is_within range) own ≡ true → covers own k ≡ (covers own k || contains range k)
whole_covers range own k h = same_truth _ _ (λ c. or_left _ _ c) (λ c. elim (or_cases (covers own k) (contains range k) c) [ inl was ↦ was | inr inside ↦ held own h inside ])
  where
    held : (rs : List KeyRange) → list_any (is_within range) rs ≡ true → contains range k ≡ true → covers rs k ≡ true
    held [] any inside = any
    held (r ∷ rs) any inside = elim (or_cases (is_within range r) (list_any (is_within range) rs) any) [
      | inl here ↦
          let ends = and_parts (key_le r.begin range.begin) (key_le range.end r.end) here in
          let parts = and_parts (key_le range.begin k) (key_lt k range.end) inside in
          or_left _ _ (and_from (key_le r.begin k) (key_lt k r.end) (le_trans r.begin range.begin k ends.0 parts.0) (lt_le_trans k range.end r.end parts.1 ends.1))
      | inr later ↦ or_right _ _ (held rs later inside)
    ]

pub empty_covers : (range : KeyRange) (own : List KeyRange) (k : Key) → has_keys range ≡ false → covers own k ≡ (covers own k || contains range k)
empty_covers range own k h = same_truth _ _ (λ c. or_left _ _ c) (λ c. elim (or_cases (covers own k) (contains range k) c) [
  | inl was ↦ was
  | inr inside ↦
      let parts = and_parts (key_le range.begin k) (key_lt k range.end) inside in
      absurd (true≢false (sym (le_lt_trans range.begin k range.end parts.0 parts.1) ∙ h))
])
