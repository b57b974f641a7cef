-- How far the stretches cover the keys on from a key.
use Rattle.std.proofs.Common.{◌≡◌, Bool, true, false, None, Some, Option, cond, not, ◌&&◌, List, [], ◌∷◌, ◌⊎◌, inl, inr, refl, sym, ap, subst, ◌∙◌}
use Rattle.std.proofs.lemmas.Bool.{and_from, and_parts, false_from_ne_true}
use Rattle.std.proofs.lemmas.List.Kept.{IsStrictlySortedBy-filter}
use Rattle.std.proofs.lemmas.Map.Entries.{lookup-filter-keys}
use Rattle.std.proofs.lemmas.Map.Keys.{sorted_tail}
use Rattle.std.specs.BTreeMap.{is_at}
use Rattle.std.specs.List.{filter}
use Rattle.std.specs.List.Sorted.{IsStrictlySortedBy}
use Rattle.std.specs.Map.{keys_of, lookup}
use Rattle.std.specs.Option.{IsSome, is_some}
use Rattle.std.specs.Ordering.{is_gt, is_lt}
use Rattle.kv_core.specs.Bytes.{key_cmp, key_le, key_lt}
use Rattle.kv_core.specs.Range.{contains, covers}
use Rattle.kv_core.specs.Coverage.{AreStretches, EndsAt, Reaches, stretches_of}
use Rattle.kv_core.proofs.Lists.{same_truth}
use Rattle.kv_core.proofs.Order.{cases_key, clash, le_from, le_from_lt, le_gives, le_lt_trans, le_refl, le_trans, lt_is_gt, lt_le_trans, tied_keys}
use Rattle.kv_core.proofs.Stretches.{IsAscending, Key, Pair, after_first, any_at, any_from, ends_cases, ends_first, ends_later, nowhere, rises_upto, stretches_tail}

has_end : {v : Key} (o : Option Key) → o ≡ Some v → IsSome o
has_end o h = ap is_some h

-- a key is covered where a stretch begins at it or before it and ends after it
pub covers_from : (es : List Pair) (p t key : Key) → EndsAt es p t → key_le p key ≡ true → key_lt key t ≡ true → covers (stretches_of es) key ≡ true
covers_from es p t key at_p from before = any_from (λ r. contains r key) es p t at_p (and_from (key_le p key) (key_lt key t) from before)

pub covers_gives : (es : List Pair) (key : Key) → IsAscending es → covers (stretches_of es) key ≡ true → (p : Key) × (t : Key) × EndsAt es p t × (key_le p key ≡ true) × (key_lt key t ≡ true)
covers_gives es key up h =
    let one = any_at (λ r. contains r key) es up h in
    let parts = and_parts (key_le one.0 key) (key_lt key one.1) one.3 in
    (one.0, one.1, one.2, parts.0, parts.1)

-- a key is covered where the stretches reach further than it
pub covers_reached : (key : Key) (es : List Pair) (place : Key) → IsAscending es → Reaches es key place → key_lt key place ≡ covers (stretches_of es) key
covers_reached key es place up r = same_truth _ _
    (λ h. r.covered key (le_refl key) h)
    (λ h. let one = covers_gives es key up h in lt_le_trans key one.1 place one.4 (r.others one.0 one.1 one.2 one.3))

-- where the stretch that begins last of those that don't begin after a key ends after it, the stretches reach that end
pub reaches_end : (key : Key) (es : List Pair) (p t : Key) → AreStretches es → EndsAt es p t → is_gt (key_cmp p key) ≡ false →
    ((q : Key) → is_gt (key_cmp q key) ≡ false → IsSome (lookup (is_at (key_cmp q)) es) → is_lt (key_cmp p q) ≡ false) → key_lt key t ≡ true → Reaches es key t
reaches_end key es p t s at_p upto last past = record {
  from = le_from_lt key t past;
  covered = λ q from before. covers_from es p t q at_p (le_trans p key q begins from) before;
  others = λ b e at_b from. rises_upto es s p t b e at_p at_b (last b (sym (lt_is_gt b key) ∙ le_gives b key from) (has_end _ at_b));
  ahead = λ b e at_b after. le_from_lt t e (s.rise p t b e at_p at_b (le_lt_trans p key b begins after));
}
  where
    begins : key_le p key ≡ true
    begins = le_from p key (lt_is_gt p key ∙ upto)

-- where it doesn't, or there is none, they reach no further than the key
pub reaches_key : (key : Key) (es : List Pair) → AreStretches es → ((b e : Key) → EndsAt es b e → key_le b key ≡ true → key_le e key ≡ true) → Reaches es key key
reaches_key key es s behind = record {
  from = le_refl key;
  covered = λ q from before. absurd (clash q key before from);
  others = behind;
  ahead = λ b e at_b after. le_from_lt key e (lt_le_trans key b e after (le_from_lt b e (s.have_keys b e at_b)));
}

pub reaches_short : (key : Key) (es : List Pair) (p t : Key) → AreStretches es → EndsAt es p t → is_gt (key_cmp p key) ≡ false →
    ((q : Key) → is_gt (key_cmp q key) ≡ false → IsSome (lookup (is_at (key_cmp q)) es) → is_lt (key_cmp p q) ≡ false) → key_lt key t ≡ false → Reaches es key key
reaches_short key es p t s at_p upto last short = reaches_key key es s
    (λ b e at_b from. le_trans e t key (rises_upto es s p t b e at_p at_b (last b (sym (lt_is_gt b key) ∙ le_gives b key from) (has_end _ at_b))) (le_from t key short))

pub reaches_none : (key : Key) (es : List Pair) → AreStretches es → ((q : Key) → is_gt (key_cmp q key) ≡ false → lookup (is_at (key_cmp q)) es ≡ None) → Reaches es key key
reaches_none key es s none = reaches_key key es s (λ b e at_b from. absurd (nowhere (sym (none b (sym (lt_is_gt b key) ∙ le_gives b key from)) ∙ at_b)))

-- the stretches whose begins pass a test, which is that of a walk's range
ends_filter : (p : Key → Bool) (es : List Pair) (q : Key) → lookup (is_at (key_cmp q)) (filter (λ e. p e.0) es) ≡ cond (p q) (lookup (is_at (key_cmp q)) es) None
ends_filter p es q = lookup-filter-keys (is_at (key_cmp q)) p (p q) (λ k t. ap p (sym (tied_keys q k t))) es

keys_filter : (p : Key → Bool) (es : List Pair) → keys_of (filter (λ e. p e.0) es) ≡ filter p (keys_of es)
keys_filter p [] = refl
keys_filter p (e ∷ es) = elim (p e.0) as (λ b. keys_of (cond b (e ∷ filter (λ e. p e.0) es) (filter (λ e. p e.0) es)) ≡ cond b (e.0 ∷ filter p (keys_of es)) (filter p (keys_of es))) [
  | true ↦ ap (λ ks. e.0 ∷ ks) (keys_filter p es)
  | false ↦ keys_filter p es
]

pub ascending_filter : (p : Key → Bool) (es : List Pair) → IsAscending es → IsAscending (filter (λ e. p e.0) es)
ascending_filter p es up = subst (IsStrictlySortedBy key_cmp) (sym (keys_filter p es)) (IsStrictlySortedBy-filter key_cmp p (keys_of es) up)

passed : (b : Bool) (o : Option Key) (t : Key) → cond b o None ≡ Some t → (b ≡ true) × (o ≡ Some t)
passed true o t h = (refl, h)
passed false o t h = absurd (nowhere h)

pub in_filter : (p : Key → Bool) (es : List Pair) (q t : Key) → EndsAt (filter (λ e. p e.0) es) q t → (p q ≡ true) × EndsAt es q t
in_filter p es q t h = passed (p q) (lookup (is_at (key_cmp q)) es) t (sym (ends_filter p es q) ∙ h)

pub kept : (p : Key → Bool) (es : List Pair) (q t : Key) → p q ≡ true → EndsAt es q t → EndsAt (filter (λ e. p e.0) es) q t
kept p es q t passes h = ends_filter p es q ∙ ap (λ b. cond b (lookup (is_at (key_cmp q)) es) None) passes ∙ h

-- a walk along the stretches from a key on, which has reached a place: those that are left end after it, and the others don't
pub record WalksOn (es rest : List Pair) (key place : Key) : Type 0 where
  pub ascending : IsAscending rest
  pub stretches : AreStretches rest
  pub within : (q t : Key) → EndsAt rest q t → EndsAt es q t
  pub others : (q t : Key) → EndsAt es q t → EndsAt rest q t ⊎ (key_le t place ≡ true)
  pub ahead : (q t : Key) → EndsAt rest q t → key_le place t ≡ true
  pub from : key_le key place ≡ true
  pub covered : (q : Key) → key_le key q ≡ true → key_lt q place ≡ true → covers (stretches_of es) q ≡ true

-- its start, one turn, and its ends
pub walk_on : (es rest : List Pair) (key place : Key) → IsAscending es → AreStretches es → Reaches es key place →
    rest ≡ filter (λ e. is_lt (key_cmp key e.0) && not false) es → WalksOn es rest key place
walk_on es rest key place up s r is = subst (λ xs. WalksOn es xs key place) (sym is) (record {
  ascending = ascending_filter after es up;
  stretches = record {
    have_keys = λ q t h. s.have_keys q t (in_filter after es q t h).1;
    rise = λ q t o u h k. s.rise q t o u (in_filter after es q t h).1 (in_filter after es o u k).1;
  };
  within = λ q t h. (in_filter after es q t h).1;
  others = λ q t h. elim (cases_key key q) [
    | inl later ↦ inl (kept after es q t (and_from (key_lt key q) true later refl) h)
    | inr upto ↦ inr (r.others q t h upto)
  ];
  ahead = λ q t h. let given = in_filter after es q t h in r.ahead q t given.1 (and_parts (key_lt key q) true given.0).0;
  from = r.from;
  covered = r.covered;
})
  where
    after : Key → Bool
    after q = is_lt (key_cmp key q) && not false

pub walk_on_turn : (es rest more : List Pair) (key place b e : Key) → rest ≡ (b, e) ∷ more → key_lt place b ≡ false → WalksOn es rest key place → WalksOn es more key e
walk_on_turn es rest more key place b e is near walk = record {
  ascending = sorted_tail key_cmp b (keys_of more) w.ascending;
  stretches = stretches_tail (b, e) more w.ascending w.stretches;
  within = λ q t h. w.within q t (ends_later (b, e) more q t w.ascending h);
  others = λ q t h. elim (w.others q t h) [
    | inl left ↦ elim (ends_cases (b, e) more q t left) [
      | inl here ↦ inr (subst (λ x. key_le t x ≡ true) here.1 (le_refl t))
      | inr later ↦ inl later
    ]
    | inr done ↦ inr (le_trans t place e done further)
  ];
  ahead = λ q t h. le_from_lt e t (w.stretches.rise b e q t first (ends_later (b, e) more q t w.ascending h) (after_first (b, e) more q t w.ascending h));
  from = le_trans key place e w.from further;
  covered = λ q from before. elim (cases_key q place) [
    | inl earlier ↦ w.covered q from earlier
    | inr past ↦ covers_from es b e q (w.within b e first) (le_trans b place q (le_from b place near) past) before
  ];
}
  where
    w : WalksOn es ((b, e) ∷ more) key place
    w = subst (λ xs. WalksOn es xs key place) is walk

    first : EndsAt ((b, e) ∷ more) b e
    first = ends_first (b, e) more

    further : key_le place e ≡ true
    further = w.ahead b e first

-- what a walk has reached isn't covered where it begins before all stretches that are left
reached : (es rest : List Pair) (key place : Key) → IsAscending es → WalksOn es rest key place → ((q t : Key) → EndsAt rest q t → key_lt place q ≡ true) → covers (stretches_of es) place ≡ false
reached es rest key place up w far = false_from_ne_true _
    (λ h. let one = covers_gives es place up h in
    elim (w.others one.0 one.1 one.2) [
      | inl left ↦ clash place one.0 (far one.0 one.1 left) one.3
      | inr done ↦ clash place one.1 one.4 done
    ])

pub walk_on_stop : (es rest more : List Pair) (key place b e : Key) → IsAscending es → rest ≡ (b, e) ∷ more → key_lt place b ≡ true → WalksOn es rest key place → covers (stretches_of es) place ≡ false
walk_on_stop es rest more key place b e up is far walk = reached es ((b, e) ∷ more) key place up w
    (λ q t h. elim (ends_cases (b, e) more q t h) [
      | inl here ↦ subst (λ x. key_lt place x ≡ true) (sym here.0) far
      | inr later ↦ lt_le_trans place b q far (le_from_lt b q (after_first (b, e) more q t w.ascending later))
    ])
  where
    w : WalksOn es ((b, e) ∷ more) key place
    w = subst (λ xs. WalksOn es xs key place) is walk

pub walk_on_end : (es rest : List Pair) (key place : Key) → IsAscending es → rest ≡ [] → WalksOn es rest key place → covers (stretches_of es) place ≡ false
walk_on_end es rest key place up is walk = reached es [] key place up (subst (λ xs. WalksOn es xs key place) is walk) (λ q t h. absurd (nowhere h))
