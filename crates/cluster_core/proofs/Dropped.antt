-- What has a key and what covers it where the segments before a place are dropped.
use Rattle.std.proofs.Common.{◌≡◌, ℕ, ◌≤◌, Bool, true, false, None, Some, Option, cond, ◌↔◌, [], ◌∷◌, refl, sym, ap, subst, ◌∙◌, inl, inr, arith}
use Rattle.std.proofs.lemmas.Bool.{cases_Bool, true≢false}
use Rattle.std.proofs.lemmas.Cmp.{eq_by_cmp_equiv, nat_list_cmp_total}
use Rattle.std.proofs.lemmas.Map.Entries.{lookup-filter-values, option_filter}
use Rattle.std.proofs.lemmas.Map.Keys.{IsDistinct-from_sorted}
use Rattle.std.specs.BTreeMap.{is_at}
use Rattle.std.specs.List.{AllByRecursion, filter}
use Rattle.std.specs.List.Sorted.{IsStrictlySortedBy}
use Rattle.std.specs.Map.{keys_of, lookup}
use Rattle.std.specs.Ordering.{is_lt}
use Rattle.std.specs.declared.cmp.Ordering.{Ordering}
use Rattle.std.specs.declared.cmp.Ordering.TheVariants.{Less, Equal, Greater}
use Rattle.kv_core.specs.Bytes.{key_cmp, key_lt}
use Rattle.cluster_core.specs.declared.segments.Segment.{Segment}
use Rattle.cluster_core.specs.Segments.{Begins, IsCovered, SegmentHolds}
use Rattle.cluster_core.specs.Tree.{InOrder}
use Rattle.cluster_core.proofs.InOrder.{Key, Run, nothing_is, only_one}

-- what is left of the segments whose places pass a test
left : (o : Option Segment) (p : Segment → Bool) (s : Segment) → option_filter p o ≡ Some s → (o ≡ Some s) × (p s ≡ true)
left None p s is = absurd (nothing_is is)
left (Some t) p s is = elim (cases_Bool (p t)) [
  | inl passes ↦
      let same : t ≡ s = only_one (sym (ap (λ b. cond b (Some t) None) passes) ∙ is) in
      (ap Some same, subst (λ x. p x ≡ true) same passes)
  | inr fails ↦ absurd (nothing_is (sym (ap (λ b. cond b (Some t) None) fails) ∙ is))
]

-- begins in order are so in std's words
less : (r : Ordering) → is_lt r ≡ true → r ≡ Less
less Less e = refl
less Equal e = absurd (true≢false (sym e))
less Greater e = absurd (true≢false (sym e))

sorted_keys : (es : Run) → InOrder es → IsStrictlySortedBy key_cmp (keys_of es)
unfolding IsStrictlySortedBy
sorted_keys [] order = tt
sorted_keys (e ∷ es) order = (keys_after e.0 es order.0, sorted_keys es order.1)
  where
    keys_after : (k : Key) (rest : Run) → AllByRecursion (λ f. key_lt k f.0 ≡ true) rest → AllByRecursion (λ q. key_cmp k q ≡ Less) (keys_of rest)
    keys_after k [] h = tt
    keys_after k (f ∷ rest) h = (less (key_cmp k f.0) h.0, keys_after k rest h.1)

pub order_filter : (p : Segment → Bool) (es : Run) → InOrder es → InOrder (filter (λ e. p e.1) es)
order_filter p [] order = tt
order_filter p (e ∷ es) order = elim (p e.1) as (λ b. InOrder (cond b (e ∷ filter (λ f. p f.1) es) (filter (λ f. p f.1) es))) [
  | true ↦ (all_filter (λ f. key_lt e.0 f.0 ≡ true) es order.0, order_filter p es order.1)
  | false ↦ order_filter p es order.1
]
  where
    all_filter : (P : Key × Segment → Type 0) (rest : Run) → AllByRecursion P rest → AllByRecursion P (filter (λ f. p f.1) rest)
    all_filter P [] h = tt
    all_filter P (f ∷ rest) h = elim (p f.1) as (λ b. AllByRecursion P (cond b (f ∷ filter (λ g. p g.1) rest) (filter (λ g. p g.1) rest))) [
      | true ↦ (h.0, all_filter P rest h.1)
      | false ↦ all_filter P rest h.1
    ]

pub retained : (es : Run) (p : Segment → Bool) (q : Key) (s : Segment) → InOrder es → Begins (filter (λ e. p e.1) es) q s ↔ (Begins es q s × (p s ≡ true))
retained es p q s order =
    let is : lookup (is_at (key_cmp q)) (filter (λ e. p e.1) es) ≡ option_filter p (lookup (is_at (key_cmp q)) es) =
    lookup-filter-values (eq_by_cmp_equiv nat_list_cmp_total) p q es (IsDistinct-from_sorted key_cmp (keys_of es) (sorted_keys es order)) in (
      λ there. left (lookup (is_at (key_cmp q)) es) p s (sym is ∙ there),
      λ given. is ∙ ap (option_filter p) given.0 ∙ ap (λ b. cond b (Some s) None) given.1,
    )

-- what is held and covered where the segments before a place are dropped
module _ (old new : Run) (least : ℕ) (dropped : (q : Key) (s : Segment) → Begins new q s ↔ (Begins old q s × (least ≤ s.place))) where
  pub dropped_holds : (key : Key) (place : ℕ) → SegmentHolds new key place → SegmentHolds old key place
  dropped_holds key place h = record { begin = h.begin; segment = h.segment; stands = ((dropped h.begin h.segment).0 h.stands).0; from = h.from; before = h.before; placed = h.placed }

  pub dropped_kept : (key : Key) (place : ℕ) → least ≤ place → IsCovered old key place → IsCovered new key place
  dropped_kept key place from h =
      let placed = h.placed in
      record {
        begin = h.begin;
        segment = h.segment;
        over = record {
          stands = (dropped h.begin h.segment).1 (h.over.stands, omega (arith, from, placed));
          from = h.over.from;
          before = h.over.before;
          last = λ q s there le. h.over.last q s ((dropped q s).0 there).0 le;
        };
        placed = h.placed;
      }
