-- From where on the stretches cover the keys up to a key.
use Rattle.std.proofs.Common.{◌≡◌, Bool, true, false, Some, cond, not, ◌&&◌, List, [], ◌∷◌, ◌++◌, ◌⊎◌, inl, inr, refl, sym, ap, subst, ◌∙◌}
use Rattle.std.proofs.lemmas.Bool.{cases_Bool, false_from_ne_true}
use Rattle.std.proofs.lemmas.Map.Keys.{sorted_head, sorted_tail}
use Rattle.std.specs.declared.cmp.Ordering.{Ordering}
use Rattle.std.specs.declared.cmp.Ordering.TheVariants.{Less, Equal, Greater}
use Rattle.std.specs.BTreeMap.{is_at}
use Rattle.std.specs.List.{AllByRecursion, filter}
use Rattle.std.specs.List.Sorted.{IsStrictlySortedBy}
use Rattle.std.specs.Map.{keys_of, lookup}
use Rattle.std.specs.Ordering.{is_eq, is_gt, is_le, is_lt}
use Rattle.kv_core.specs.Bytes.{key_cmp, key_le, key_lt}
use Rattle.kv_core.specs.Range.{covers}
use Rattle.kv_core.specs.Coverage.{AreStretches, BeginsAt, EndsAt, stretches_of}
use Rattle.kv_core.proofs.Order.{cases_key, clash, le_from, le_from_lt, le_refl, le_trans, lt_is_gt, lt_le_trans}
use Rattle.kv_core.proofs.Stretches.{IsAscending, Key, Pair, ends_cases, ends_first, ends_later, nowhere}
use Rattle.kv_core.proofs.Reaching.{ascending_filter, covers_from, covers_gives, in_filter, kept}

-- the ends at the begins of a list with one more stretch at its end
ends_front : (more : List Pair) (e : Pair) (q t : Key) → EndsAt more q t → EndsAt (more ++ e ∷ []) q t
ends_front [] e q t h = absurd (nowhere h)
ends_front (x ∷ more) e q t h = elim (cases_Bool (is_eq (key_cmp q x.0))) [
  | inl same ↦ ap (λ b. cond b (Some x.1) (lookup (is_at (key_cmp q)) (more ++ e ∷ []))) same ∙ sym (ap (λ b. cond b (Some x.1) (lookup (is_at (key_cmp q)) more)) same) ∙ h
  | inr other ↦
      ap (λ b. cond b (Some x.1) (lookup (is_at (key_cmp q)) (more ++ e ∷ []))) other
      ∙ ends_front more e q t (sym (ap (λ b. cond b (Some x.1) (lookup (is_at (key_cmp q)) more)) other) ∙ h)
]

ends_back : (more : List Pair) (e : Pair) (q t : Key) → EndsAt (more ++ e ∷ []) q t → EndsAt more q t ⊎ ((q ≡ e.0) × (t ≡ e.1))
ends_back [] e q t h = elim (ends_cases e [] q t h) [ inl here ↦ inr here | inr none ↦ absurd (nowhere none) ]
ends_back (x ∷ more) e q t h = elim (cases_Bool (is_eq (key_cmp q x.0))) [
  | inl same ↦ inl (ap (λ b. cond b (Some x.1) (lookup (is_at (key_cmp q)) more)) same ∙ sym (ap (λ b. cond b (Some x.1) (lookup (is_at (key_cmp q)) (more ++ e ∷ []))) same) ∙ h)
  | inr other ↦ elim (ends_back more e q t (sym (ap (λ b. cond b (Some x.1) (lookup (is_at (key_cmp q)) (more ++ e ∷ []))) other) ∙ h)) [
    | inl left ↦ inl (ap (λ b. cond b (Some x.1) (lookup (is_at (key_cmp q)) more)) other ∙ left)
    | inr last ↦ inr last
  ]
]

All-front : (P : Key → Type 0) (xs : List Key) (x : Key) → AllByRecursion P (xs ++ x ∷ []) → AllByRecursion P xs × P x
All-front P [] x a = (tt, a.0)
All-front P (y ∷ xs) x a = let rest = All-front P xs x a.1 in ((a.0, rest.0), rest.1)

-- keys in order with one more at the end, after which none of the others comes
ascending_front : (ks : List Key) (k : Key) → IsStrictlySortedBy key_cmp (ks ++ k ∷ []) → IsStrictlySortedBy key_cmp ks
unfolding IsStrictlySortedBy
ascending_front [] k up = tt
ascending_front (x ∷ ks) k up =
    ((All-front (λ y. key_cmp x y ≡ Less) ks k (sorted_head key_cmp x (ks ++ k ∷ []) up)).0, ascending_front ks k (sorted_tail key_cmp x (ks ++ k ∷ []) up))

keys_back : (more : List Pair) (e : Pair) → keys_of (more ++ e ∷ []) ≡ keys_of more ++ e.0 ∷ []
keys_back [] e = refl
keys_back (x ∷ more) e = ap (λ ks. x.0 ∷ ks) (keys_back more e)

ascending_init : (more : List Pair) (e : Pair) → IsAscending (more ++ e ∷ []) → IsAscending more
ascending_init more e up = ascending_front (keys_of more) e.0 (subst (IsStrictlySortedBy key_cmp) (keys_back more e) up)

before_last : (more : List Pair) (e : Pair) (q t : Key) → IsAscending (more ++ e ∷ []) → EndsAt more q t → key_lt q e.0 ≡ true
before_last [] e q t up h = absurd (nowhere h)
before_last (x ∷ more) e q t up h = elim (ends_cases x more q t h) [
  | inl here ↦
      subst (λ k. key_lt k e.0 ≡ true) (sym here.0)
      (ap is_lt ((All-front (λ y. key_cmp x.0 y ≡ Less) (keys_of more) e.0 (subst (AllByRecursion (λ y. key_cmp x.0 y ≡ Less)) (keys_back more e) (sorted_head key_cmp x.0 (keys_of (more ++ e ∷ [])) up))).1))
  | inr later ↦ before_last more e q t (sorted_tail key_cmp x.0 (keys_of (more ++ e ∷ [])) up) later
]

last_ends : (more : List Pair) (e : Pair) → IsAscending (more ++ e ∷ []) → EndsAt (more ++ e ∷ []) e.0 e.1
last_ends [] e up = ends_first e []
last_ends (x ∷ more) e up = ends_later x (more ++ e ∷ []) e.0 e.1 up (last_ends more e (sorted_tail key_cmp x.0 (keys_of (more ++ e ∷ [])) up))

-- a walk back along the stretches before a key, which has come to a place: those that are left begin before it, and the others don't
pub record WalksBack (es rest : List Pair) (key place : Key) : Type 0 where
  pub ascending : IsAscending rest
  pub within : (q t : Key) → EndsAt rest q t → EndsAt es q t
  pub others : (q t : Key) → EndsAt es q t → EndsAt rest q t ⊎ (key_le place q ≡ true)
  pub behind : (q t : Key) → EndsAt rest q t → key_lt q place ≡ true
  pub upto : key_le place key ≡ true
  pub covered : (q : Key) → key_le place q ≡ true → key_lt q key ≡ true → covers (stretches_of es) q ≡ true

same_less : (r : Ordering) → not (is_le r) ≡ is_gt r
same_less Less = refl
same_less Equal = refl
same_less Greater = refl

-- its start, one turn, and its ends
pub walk_back : (es rest : List Pair) (key : Key) → IsAscending es → rest ≡ filter (λ e. true && not (is_le (key_cmp key e.0))) es → WalksBack es rest key key
walk_back es rest key up is = subst (λ xs. WalksBack es xs key key) (sym is) (record {
  ascending = ascending_filter earlier es up;
  within = λ q t h. (in_filter earlier es q t h).1;
  others = λ q t h. elim (cases_key q key) [
    | inl before ↦ inl (kept earlier es q t (is_earlier q ∙ before) h)
    | inr past ↦ inr past
  ];
  behind = λ q t h. sym (is_earlier q) ∙ (in_filter earlier es q t h).0;
  upto = le_refl key;
  covered = λ q from before. absurd (clash q key before from);
})
  where
    earlier : Key → Bool
    earlier q = true && not (is_le (key_cmp key q))

    is_earlier : (q : Key) → earlier q ≡ key_lt q key
    is_earlier q = same_less (key_cmp key q) ∙ sym (lt_is_gt key q)

pub walk_back_turn : (es rest more : List Pair) (key place b e : Key) → rest ≡ more ++ (b, e) ∷ [] → key_lt e place ≡ false → WalksBack es rest key place → WalksBack es more key b
walk_back_turn es rest more key place b e is near walk = record {
  ascending = ascending_init more (b, e) w.ascending;
  within = λ q t h. w.within q t (ends_front more (b, e) q t h);
  others = λ q t h. elim (w.others q t h) [
    | inl left ↦ elim (ends_back more (b, e) q t left) [
      | inl earlier ↦ inl earlier
      | inr here ↦ inr (subst (λ x. key_le x q ≡ true) here.0 (le_refl q))
    ]
    | inr done ↦ inr (le_trans b place q (le_from_lt b place further) done)
  ];
  behind = λ q t h. before_last more (b, e) q t w.ascending h;
  upto = le_trans b place key (le_from_lt b place further) w.upto;
  covered = λ q from before. elim (cases_key q place) [
    | inl earlier ↦ covers_from es b e q (w.within b e (last_ends more (b, e) w.ascending)) from (lt_le_trans q place e earlier (le_from place e near))
    | inr past ↦ w.covered q past before
  ];
}
  where
    w : WalksBack es (more ++ (b, e) ∷ []) key place
    w = subst (λ xs. WalksBack es xs key place) is walk

    further : key_lt b place ≡ true
    further = w.behind b e (last_ends more (b, e) w.ascending)

-- a place begins a covered part where no stretch that begins before it comes near
begins_at : (es rest : List Pair) (key place e : Key) → IsAscending es → WalksBack es rest key place → ((q t : Key) → EndsAt rest q t → key_le t e ≡ true) → key_lt e place ≡ true → BeginsAt (stretches_of es) place
begins_at es rest key place e up w far near begin before = elim (cases_key begin e) [
  | inl earlier ↦ (e, le_from_lt begin e earlier, near, bare e (le_refl e) near)
  | inr past ↦ (begin, le_refl begin, before, bare begin past before)
]
  where
    bare : (q : Key) → key_le e q ≡ true → key_lt q place ≡ true → covers (stretches_of es) q ≡ false
    bare q from upto = false_from_ne_true _
        (λ h. let one = covers_gives es q up h in
        elim (w.others one.0 one.1 one.2) [
          | inl left ↦ clash q one.1 one.4 (le_trans one.1 e q (far one.0 one.1 left) from)
          | inr done ↦ clash q place upto (le_trans place one.0 q done one.3)
        ])

pub walk_back_stop : (es rest more : List Pair) (key place b e : Key) → IsAscending es → AreStretches es → rest ≡ more ++ (b, e) ∷ [] → key_lt e place ≡ true → WalksBack es rest key place → BeginsAt (stretches_of es) place
walk_back_stop es rest more key place b e up s is far walk = begins_at es (more ++ (b, e) ∷ []) key place e up w
    (λ q t h. elim (ends_back more (b, e) q t h) [
      | inl earlier ↦ le_from_lt t e (s.rise q t b e (w.within q t h) (w.within b e (last_ends more (b, e) w.ascending)) (before_last more (b, e) q t w.ascending earlier))
      | inr here ↦ subst (λ x. key_le t x ≡ true) here.1 (le_refl t)
    ])
    far
  where
    w : WalksBack es (more ++ (b, e) ∷ []) key place
    w = subst (λ xs. WalksBack es xs key place) is walk

pub walk_back_end : (es rest : List Pair) (key place : Key) → IsAscending es → rest ≡ [] → WalksBack es rest key place → BeginsAt (stretches_of es) place
walk_back_end es rest key place up is walk begin before =
    begins_at es [] key place begin up (subst (λ xs. WalksBack es xs key place) is walk) (λ q t h. absurd (nowhere h)) before begin before
