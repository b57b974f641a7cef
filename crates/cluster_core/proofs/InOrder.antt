-- Segments in key order: what begins in a part of them, and where two parts are joined.
use Rattle.std.proofs.Common.{◌≡◌, ℕ, true, false, cond, None, Some, List, [], ◌∷◌, ◌++◌, ◌⊎◌, inl, inr, refl, sym, ap, subst, ◌∙◌, append_assoc}
use Rattle.std.proofs.lemmas.Bool.{cases_Bool}
use Rattle.std.proofs.lemmas.Cmp.{nat_list_cmp_total, tied_itself}
use Rattle.std.specs.BTreeMap.{is_at}
use Rattle.std.specs.List.{AllByRecursion}
use Rattle.std.specs.Map.{lookup}
use Rattle.std.specs.Ordering.{is_eq}
use Rattle.kv_core.specs.Bytes.{key_cmp, key_le, key_lt}
use Rattle.kv_core.proofs.Order.{clash, le_from, le_from_lt, le_refl, le_trans, lt_le_trans, tied_keys}
use Rattle.cluster_core.specs.declared.segments.Segment.{Segment}
use Rattle.cluster_core.specs.Segments.{Begins}
use Rattle.cluster_core.specs.Tree.{InOrder, IsLastUpto, IsSplit}

abbrev pub Key : Type 0
Key = List ℕ

abbrev pub Run : Type 0
Run = List (Key × Segment)

pub nothing_is : {X : Type 0} {x : X} → None ≡ Some x → ⊥
nothing_is h = cc

pub only_one : {X : Type 0} {x y : X} → Some x ≡ Some y → x ≡ y
only_one h = cc

-- what holds of each segment of a list
pub all_map : (P Q : Key × Segment → Type 0) → ((e : Key × Segment) → P e → Q e) → (es : Run) → AllByRecursion P es → AllByRecursion Q es
all_map P Q f [] a = tt
all_map P Q f (e ∷ es) a = (f e a.0, all_map P Q f es a.1)

pub all_append : (P : Key × Segment → Type 0) (a b : Run) → AllByRecursion P a → AllByRecursion P b → AllByRecursion P (a ++ b)
all_append P [] b h k = k
all_append P (e ∷ a) b h k = (h.0, all_append P a b h.1 k)

pub all_front : (P : Key × Segment → Type 0) (a b : Run) → AllByRecursion P (a ++ b) → AllByRecursion P a
all_front P [] b h = tt
all_front P (e ∷ a) b h = (h.0, all_front P a b h.1)

pub all_back : (P : Key × Segment → Type 0) (a b : Run) → AllByRecursion P (a ++ b) → AllByRecursion P b
all_back P [] b h = h
all_back P (e ∷ a) b h = all_back P a b h.1

-- what holds of each holds of one that begins with a key
pub all_begins : (P : Key × Segment → Type 0) (es : Run) (q : Key) (s : Segment) → AllByRecursion P es → Begins es q s → P (q, s)
all_begins P [] q s h there = absurd (nothing_is there)
all_begins P (e ∷ es) q s h there = elim (cases_Bool (is_eq (key_cmp q e.0))) [
  | inl tied ↦
      let same : e.1 ≡ s = only_one (sym (ap (λ b. cond b (Some e.1) (lookup (is_at (key_cmp q)) es)) tied) ∙ there) in
      subst (λ t. P (q, t)) same (subst (λ k. P (k, e.1)) (sym (tied_keys q e.0 tied)) h.0)
  | inr apart ↦ all_begins P es q s h.1 (sym (ap (λ b. cond b (Some e.1) (lookup (is_at (key_cmp q)) es)) apart) ∙ there)
]

-- two parts
pub begins_left : (a b : Run) (q : Key) (s : Segment) → Begins a q s → Begins (a ++ b) q s
begins_left [] b q s there = absurd (nothing_is there)
begins_left (e ∷ a) b q s there = elim (cases_Bool (is_eq (key_cmp q e.0))) [
  | inl tied ↦
      ap (λ t. cond t (Some e.1) (lookup (is_at (key_cmp q)) (a ++ b))) tied ∙ sym (ap (λ t. cond t (Some e.1) (lookup (is_at (key_cmp q)) a)) tied) ∙ there
  | inr apart ↦
      ap (λ t. cond t (Some e.1) (lookup (is_at (key_cmp q)) (a ++ b))) apart
      ∙ begins_left a b q s (sym (ap (λ t. cond t (Some e.1) (lookup (is_at (key_cmp q)) a)) apart) ∙ there)
]

pub begins_cases : (a b : Run) (q : Key) (s : Segment) → Begins (a ++ b) q s → Begins a q s ⊎ Begins b q s
begins_cases [] b q s there = inr there
begins_cases (e ∷ a) b q s there = elim (cases_Bool (is_eq (key_cmp q e.0))) [
  | inl tied ↦
      inl (ap (λ t. cond t (Some e.1) (lookup (is_at (key_cmp q)) a)) tied ∙ sym (ap (λ t. cond t (Some e.1) (lookup (is_at (key_cmp q)) (a ++ b))) tied) ∙ there)
  | inr apart ↦ elim (begins_cases a b q s (sym (ap (λ t. cond t (Some e.1) (lookup (is_at (key_cmp q)) (a ++ b))) apart) ∙ there)) [
    | inl left ↦ inl (ap (λ t. cond t (Some e.1) (lookup (is_at (key_cmp q)) a)) apart ∙ left)
    | inr right ↦ inr right
  ]
]

-- a look-up passes over segments that begin before a key
pub lookup_past : (a b : Run) (k q : Key) → AllByRecursion (λ e. key_lt e.0 k ≡ true) a → key_le k q ≡ true →
    lookup (is_at (key_cmp q)) (a ++ b) ≡ lookup (is_at (key_cmp q)) b
lookup_past [] b k q h from = refl
lookup_past (e ∷ a) b k q h from = elim (cases_Bool (is_eq (key_cmp q e.0))) [
  | inl tied ↦ absurd (clash e.0 k h.0 (subst (λ x. key_le k x ≡ true) (tied_keys q e.0 tied) from))
  | inr apart ↦ ap (λ t. cond t (Some e.1) (lookup (is_at (key_cmp q)) (a ++ b))) apart ∙ lookup_past a b k q h.1 from
]

pub begins_right : (a b : Run) (k q : Key) (s : Segment) → AllByRecursion (λ e. key_lt e.0 k ≡ true) a → key_le k q ≡ true → Begins b q s → Begins (a ++ b) q s
begins_right a b k q s below from there = lookup_past a b k q below from ∙ there

pub begins_here : (es : Run) (q : Key) (s : Segment) → Begins ((q, s) ∷ es) q s
begins_here es q s = ap (λ r. cond (is_eq r) (Some s) (lookup (is_at (key_cmp q)) es)) (tied_itself nat_list_cmp_total q)

-- what begins behind the first of segments in order
pub begins_later : (e : Key × Segment) (es : Run) (q : Key) (s : Segment) → InOrder (e ∷ es) → Begins es q s → Begins (e ∷ es) q s
begins_later e es q s order there = elim (cases_Bool (is_eq (key_cmp q e.0))) [
  | inl tied ↦
      absurd (clash e.0 q (all_begins (λ f. key_lt e.0 f.0 ≡ true) es q s order.0 there) (subst (λ k. key_le k e.0 ≡ true) (sym (tied_keys q e.0 tied)) (le_refl e.0)))
  | inr apart ↦ ap (λ b. cond b (Some e.1) (lookup (is_at (key_cmp q)) es)) apart ∙ there
]

-- the parts of segments in order are in order
pub order_front : (a b : Run) → InOrder (a ++ b) → InOrder a
order_front [] b h = tt
order_front (e ∷ a) b h = (all_front (λ f. key_lt e.0 f.0 ≡ true) a b h.0, order_front a b h.1)

pub order_back : (a b : Run) → InOrder (a ++ b) → InOrder b
order_back [] b h = h
order_back (e ∷ a) b h = order_back a b h.1

-- and parts before and after a key are in order together
pub order_append : (a b : Run) (k : Key) → InOrder a → InOrder b → AllByRecursion (λ e. key_lt e.0 k ≡ true) a → AllByRecursion (λ e. key_le k e.0 ≡ true) b → InOrder (a ++ b)
order_append [] b k oa ob below from = ob
order_append (e ∷ a) b k oa ob below from = (
  all_append (λ f. key_lt e.0 f.0 ≡ true) a b oa.0 (all_map (λ f. key_le k f.0 ≡ true) (λ f. key_lt e.0 f.0 ≡ true) (λ f h. lt_le_trans e.0 k f.0 below.0 h) b from),
  order_append a b k oa.1 ob below.1 from,
)

-- segments in order around one of them
pub record Around (l : Run) (e : Key × Segment) (r : Run) : Type 0 where
  pub left : InOrder l
  pub right : InOrder r
  pub before : AllByRecursion (λ f. key_lt f.0 e.0 ≡ true) l
  pub after : AllByRecursion (λ f. key_lt e.0 f.0 ≡ true) r

pub around : (l : Run) (e : Key × Segment) (r : Run) → InOrder (l ++ e ∷ r) → Around l e r
around [] e r h = record { left = tt; right = h.1; before = tt; after = h.0 }
around (f ∷ l) e r h =
    let rest = around l e r h.1 in
    record {
      left = (all_front (λ g. key_lt f.0 g.0 ≡ true) l (e ∷ r) h.0, rest.left);
      right = rest.right;
      before = ((all_back (λ g. key_lt f.0 g.0 ≡ true) l (e ∷ r) h.0).0, rest.before);
      after = rest.after;
    }

-- a split of one side gives one of the whole
module _ (es l : Run) (e : Key × Segment) (r before after joined : Run) (key : Key) (is : es ≡ l ++ e ∷ r) (order : InOrder (l ++ e ∷ r)) where
  sides : Around l e r
  sides = around l e r order

  pub split_right : joined ≡ l ++ e ∷ before → key_lt e.0 key ≡ true → IsSplit r key before after → IsSplit es key joined after
  split_right all past split = record {
    whole = is ∙ ap (λ xs. l ++ e ∷ xs) split.whole ∙ sym (append_assoc l (e ∷ before) after) ∙ ap (λ xs. xs ++ after) (sym all);
    below =
        subst (AllByRecursion (λ f. key_lt f.0 key ≡ true)) (sym all)
        (all_append (λ f. key_lt f.0 key ≡ true) l (e ∷ before)
        (all_map (λ f. key_lt f.0 e.0 ≡ true) (λ f. key_lt f.0 key ≡ true) (λ f h. lt_le_trans f.0 e.0 key h (le_from_lt e.0 key past)) l sides.before) (past, split.below));
    from = split.from;
  }

  pub split_left : joined ≡ after ++ e ∷ r → key_lt e.0 key ≡ false → IsSplit l key before after → IsSplit es key before joined
  split_left all upto split = record {
    whole = is ∙ ap (λ xs. xs ++ e ∷ r) split.whole ∙ append_assoc before after (e ∷ r) ∙ ap (λ xs. before ++ xs) (sym all);
    below = split.below;
    from =
        subst (AllByRecursion (λ f. key_le key f.0 ≡ true)) (sym all)
        (all_append (λ f. key_le key f.0 ≡ true) after (e ∷ r) split.from (
          le_from key e.0 upto,
          all_map (λ f. key_lt e.0 f.0 ≡ true) (λ f. key_le key f.0 ≡ true) (λ f h. le_trans key e.0 f.0 (le_from key e.0 upto) (le_from_lt e.0 f.0 h)) r sides.after,
        ));
  }

-- the last segment that begins at a key or before it
module _ (l : Run) (e : Key × Segment) (r : Run) (key : Key) (order : InOrder (l ++ e ∷ r)) where
  at' : Around l e r
  at' = around l e r order

  -- where the one in the middle begins after the key, those behind it do too
  pub behind : key_lt key e.0 ≡ true → (q : Key) (s : Segment) → Begins (e ∷ r) q s → key_lt key q ≡ true
  behind before q s there =
      all_begins (λ f. key_lt key f.0 ≡ true) (e ∷ r) q s
      (before, all_map (λ f. key_lt e.0 f.0 ≡ true) (λ f. key_lt key f.0 ≡ true) (λ f h. lt_le_trans key e.0 f.0 before (le_from_lt e.0 f.0 h)) r at'.after) there

  pub last_left : (b : Key) (s : Segment) → key_lt key e.0 ≡ true → IsLastUpto l key b s → IsLastUpto (l ++ e ∷ r) key b s
  last_left b s before last = record {
    stands = begins_left l (e ∷ r) b s last.stands;
    from = last.from;
    last = λ q t there upto. elim (begins_cases l (e ∷ r) q t there) [
      | inl left ↦ last.last q t left upto
      | inr right ↦ absurd (clash key q (behind before q t right) upto)
    ];
  }

  pub none_left : key_lt key e.0 ≡ true → ((q : Key) (t : Segment) → Begins l q t → key_lt key q ≡ true) →
      (q : Key) (t : Segment) → Begins (l ++ e ∷ r) q t → key_lt key q ≡ true
  none_left before none q t there = elim (begins_cases l (e ∷ r) q t there) [ inl left ↦ none q t left | inr right ↦ behind before q t right ]

  -- those before the one in the middle
  in_front : (q : Key) (t : Segment) → Begins l q t → key_lt q e.0 ≡ true
  in_front q t there = all_begins (λ f. key_lt f.0 e.0 ≡ true) l q t at'.before there

  after_it : (q : Key) (t : Segment) → Begins r q t → key_lt e.0 q ≡ true
  after_it q t there = all_begins (λ f. key_lt e.0 f.0 ≡ true) r q t at'.after there

  -- what begins in the middle or after it
  cases_from : (q : Key) (t : Segment) → Begins (e ∷ r) q t → (q ≡ e.0) ⊎ Begins r q t
  cases_from q t there = elim (cases_Bool (is_eq (key_cmp q e.0))) [
    | inl tied ↦ inl (tied_keys q e.0 tied)
    | inr apart ↦ inr (sym (ap (λ b. cond b (Some e.1) (lookup (is_at (key_cmp q)) r)) apart) ∙ there)
  ]

  begins_from : (q : Key) (t : Segment) → key_le e.0 q ≡ true → Begins (e ∷ r) q t → Begins (l ++ e ∷ r) q t
  begins_from q t from there = begins_right l (e ∷ r) e.0 q t at'.before from there

  begins_after : (q : Key) (t : Segment) → Begins r q t → Begins (l ++ e ∷ r) q t
  begins_after q t there =
      let past = after_it q t there in
      begins_from q t (le_from_lt e.0 q past)
      (elim (cases_Bool (is_eq (key_cmp q e.0))) [
        | inl tied ↦ absurd (clash e.0 q past (subst (λ k. key_le k e.0 ≡ true) (sym (tied_keys q e.0 tied)) (le_refl e.0)))
        | inr apart ↦ ap (λ b. cond b (Some e.1) (lookup (is_at (key_cmp q)) r)) apart ∙ there
      ])

  pub last_right : (b : Key) (s : Segment) → IsLastUpto r key b s → IsLastUpto (l ++ e ∷ r) key b s
  last_right b s last =
      let past = after_it b s last.stands in
      record {
        stands = begins_after b s last.stands;
        from = last.from;
        last = λ q t there upto. elim (begins_cases l (e ∷ r) q t there) [
          | inl left ↦ le_trans q e.0 b (le_from_lt q e.0 (in_front q t left)) (le_from_lt e.0 b past)
          | inr right ↦ elim (cases_from q t right) [
            | inl same ↦ subst (λ k. key_le k b ≡ true) (sym same) (le_from_lt e.0 b past)
            | inr later ↦ last.last q t later upto
          ]
        ];
      }

  pub last_here : key_lt key e.0 ≡ false → ((q : Key) (t : Segment) → Begins r q t → key_lt key q ≡ true) → IsLastUpto (l ++ e ∷ r) key e.0 e.1
  last_here from none = record {
    stands = begins_from e.0 e.1 (le_refl e.0) (begins_here r e.0 e.1);
    from = le_from e.0 key from;
    last = λ q t there upto. elim (begins_cases l (e ∷ r) q t there) [
      | inl left ↦ le_from_lt q e.0 (in_front q t left)
      | inr right ↦ elim (cases_from q t right) [
        | inl same ↦ subst (λ k. key_le k e.0 ≡ true) (sym same) (le_refl e.0)
        | inr later ↦ absurd (clash key q (none q t later) upto)
      ]
    ];
  }
