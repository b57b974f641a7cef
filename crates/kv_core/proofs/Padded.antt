-- Byte strings that lie in runs of one length, with zero bytes behind their ends: the runs decide, and else the lengths do.
use Rattle.std.proofs.Common.{◌≡◌, ℕ, zero, suc, ◌+◌, ◌-◌, ◌≤◌, ◌<◌, Bool, true, false, List, [], ◌∷◌, ◌++◌, length, take, drop, replicate, slice_index, refl, sym, ap, ◌∙◌, arith}
use Rattle.std.proofs.lemmas.Cmp.{nat_list_cmp_total, tied_itself}
use Rattle.std.proofs.lemmas.List.{ext_get_or, get_or-append_right, get_or-drop, take_more}
use Rattle.std.specs.Bool.{MatchBool}
use Rattle.std.specs.Cmp.{nat_cmp_is, ranks}
use Rattle.std.specs.Ordering.{is_eq, nat_cmp, ordering_then, MatchOrdering}
use Rattle.std.specs.declared.cmp.Ordering.{Ordering}
use Rattle.std.specs.declared.cmp.Ordering.TheVariants.{Less, Equal, Greater}
use Rattle.kv_core.specs.Bytes.{key_cmp, next_key}
use Rattle.kv_core.specs.ShortBytes.{AreZeroFrom}
use Rattle.kv_core.proofs.Order.{tied_keys}
use Rattle.kv_core.proofs.Spelling.{less, greater, then_assoc}

-- zero bytes come before as many others, or are these
zeros_first : (us vs : List ℕ) → length us ≡ length vs → AreZeroFrom 0 us → ordering_then (key_cmp us vs) Less ≡ Less
zeros_first [] [] e z = refl
zeros_first [] (v ∷ vs) e z = absurd (omega (arith, e))
zeros_first (u ∷ us) [] e z = absurd (omega (arith, e))
zeros_first (u ∷ us) (v ∷ vs) e z =
    ap (λ x. ordering_then (ordering_then (nat_cmp x v) (key_cmp us vs)) Less) (z 0 (omega arith)) ∙ by v (zeros_first us vs (omega (arith, e)) (λ k l. z (suc k) (omega arith)))
  where
    by : (v : ℕ) → ordering_then (key_cmp us vs) Less ≡ Less → ordering_then (ordering_then (nat_cmp 0 v) (key_cmp us vs)) Less ≡ Less
    by zero rest = rest
    by (suc v) rest = ap (λ r. ordering_then (ordering_then r (key_cmp us vs)) Less) (less 0 (suc v) (omega arith))

zeros_last : (us vs : List ℕ) → length us ≡ length vs → AreZeroFrom 0 vs → ordering_then (key_cmp us vs) Greater ≡ Greater
zeros_last [] [] e z = refl
zeros_last [] (v ∷ vs) e z = absurd (omega (arith, e))
zeros_last (u ∷ us) [] e z = absurd (omega (arith, e))
zeros_last (u ∷ us) (v ∷ vs) e z =
    ap (λ x. ordering_then (ordering_then (nat_cmp u x) (key_cmp us vs)) Greater) (z 0 (omega arith)) ∙ by u (zeros_last us vs (omega (arith, e)) (λ k l. z (suc k) (omega arith)))
  where
    by : (u : ℕ) → ordering_then (key_cmp us vs) Greater ≡ Greater → ordering_then (ordering_then (nat_cmp u 0) (key_cmp us vs)) Greater ≡ Greater
    by zero rest = rest
    by (suc u) rest = ap (λ r. ordering_then (ordering_then r (key_cmp us vs)) Greater) (greater (suc u) 0 (omega arith))

zeros_tie : (us vs : List ℕ) → length us ≡ length vs → AreZeroFrom 0 us → AreZeroFrom 0 vs → key_cmp us vs ≡ Equal
zeros_tie us vs e y z = ap (key_cmp us) (sym (ext_get_or 0 us vs e (λ k l. y k (omega arith) ∙ sym (z k (omega arith))))) ∙ tied_itself nat_list_cmp_total us

one_more : (m n : ℕ) → nat_cmp m n ≡ nat_cmp (suc m) (suc n)
one_more m n = nat_cmp_is (suc m) (suc n) (nat_cmp m n) (by (nat_cmp m n) (ranks m n))
  where
    by : (r : Ordering) → MatchOrdering r (m < n) (m ≡ n) (n < m) → MatchOrdering r (suc m < suc n) (suc m ≡ suc n) (suc n < suc m)
    by Less l = omega (arith, l)
    by Equal e = omega (arith, e)
    by Greater l = omega (arith, l)

-- byte strings in runs of one length, in which zero bytes are behind them, compare as the runs do, and else as their lengths
padded_order : (us vs : List ℕ) (m n : ℕ) → length us ≡ length vs → m ≤ length us → n ≤ length vs → AreZeroFrom m us → AreZeroFrom n vs
    → key_cmp (take m us) (take n vs) ≡ ordering_then (key_cmp us vs) (nat_cmp m n)
padded_order us vs zero zero e p q y z = sym (ap (λ r. ordering_then r Equal) (zeros_tie us vs e y z))
padded_order us [] zero (suc n) e p q y z = absurd (omega (arith, q))
padded_order us (v ∷ vs) zero (suc n) e p q y z = sym (ap (ordering_then (key_cmp us (v ∷ vs))) (less 0 (suc n) (omega arith)) ∙ zeros_first us (v ∷ vs) e y)
padded_order [] vs (suc m) n e p q y z = absurd (omega (arith, p))
padded_order (u ∷ us) vs (suc m) zero e p q y z = sym (ap (ordering_then (key_cmp (u ∷ us) vs)) (greater (suc m) 0 (omega arith)) ∙ zeros_last (u ∷ us) vs e z)
padded_order (u ∷ us) [] (suc m) (suc n) e p q y z = absurd (omega (arith, q))
padded_order (u ∷ us) (v ∷ vs) (suc m) (suc n) e p q y z =
    ap (ordering_then (nat_cmp u v)) (padded_order us vs m n (omega (arith, e)) (omega (arith, p)) (omega (arith, q)) (λ k l. y (suc k) (omega (arith, l))) (λ k l. z (suc k) (omega (arith, l))))
    ∙ then_assoc (nat_cmp u v) (key_cmp us vs) (nat_cmp m n) ∙ ap (ordering_then (key_cmp (u ∷ us) (v ∷ vs))) (one_more m n)

module _ (us vs : List ℕ) (m n : ℕ) (e : length us ≡ length vs) (p : m ≤ length us) (q : n ≤ length vs) (y : AreZeroFrom m us) (z : AreZeroFrom n vs) where
  -- so runs that differ decide
  pub padded_differ : (us ≡ vs → ⊥) → key_cmp us vs ≡ key_cmp (take m us) (take n vs)
  padded_differ differ = sym (padded_order us vs m n e p q y z ∙ by (key_cmp us vs) (λ tie. differ (tied_keys us vs tie)))
    where
      by : (r : Ordering) → (is_eq r ≡ true → ⊥) → ordering_then r (nat_cmp m n) ≡ r
      by Less d = refl
      by Equal d = absurd (d refl)
      by Greater d = refl

  -- and where they are equal the lengths do
  pub padded_same : us ≡ vs → nat_cmp m n ≡ key_cmp (take m us) (take n vs)
  padded_same same = sym (padded_order us vs m n e p q y z ∙ ap (λ r. ordering_then r (nat_cmp m n)) (ap (key_cmp us) (sym same) ∙ tied_itself nat_list_cmp_total us))

  -- equal byte strings lie in equal runs
  runs_tie : take m us ≡ take n vs → us ≡ vs
  runs_tie alike =
      tied_keys us vs (first_tie (key_cmp us vs) (nat_cmp m n) (sym (padded_order us vs m n e p q y z) ∙ ap (key_cmp (take m us)) (sym alike) ∙ tied_itself nat_list_cmp_total (take m us)))
    where
      first_tie : (r o : Ordering) → ordering_then r o ≡ Equal → is_eq r ≡ true
      first_tie Less o tie = ap is_eq tie
      first_tie Equal o tie = refl
      first_tie Greater o tie = ap is_eq tie

-- the byte string with a zero byte behind it lies in the same run
padded_next : (vs : List ℕ) (n : ℕ) → n < length vs → AreZeroFrom n vs → take (n + 1) vs ≡ next_key (take n vs)
padded_next vs n q z = take_more vs n 0 q ∙ ap (λ x. take n vs ++ x ∷ []) (z n (omega arith))

-- so a byte string that is longer by a byte than another one is that one followed by a zero byte exactly where their runs are equal
pub padded_is_next : (us vs : List ℕ) (m n : ℕ) (same : Bool) → length us ≡ length vs → m ≤ length us → AreZeroFrom m us → AreZeroFrom n vs → m ≡ n + 1 → MatchBool same (us ≡ vs) (us ≡ vs → ⊥)
    → MatchBool same (take m us ≡ next_key (take n vs)) (take m us ≡ next_key (take n vs) → ⊥)
padded_is_next us vs m n true e p y z more is = (λ i. take (more i) (is i)) ∙ padded_next vs n (omega (arith, e, p, more)) z
padded_is_next us vs m n false e p y z more differ = λ next.
    differ (runs_tie us vs m (n + 1) e p (omega (arith, e, p, more)) y (λ k l. z k (omega (arith, l))) (next ∙ sym (padded_next vs n (omega (arith, e, p, more)) z)))

zeros : (n k : ℕ) → slice_index (replicate n 0) k ≡ 0
zeros zero k = refl
zeros (suc n) zero = refl
zeros (suc n) (suc k) = zeros n k

-- bytes written over the first ones of a run of zero bytes have zero bytes behind them
pub zero_behind : (own : List ℕ) (n : ℕ) → AreZeroFrom (length own) (own ++ drop (length own) (replicate n 0))
zero_behind own n k l =
    get_or-append_right own (drop (length own) (replicate n 0)) (length own) k 0 refl l ∙ get_or-drop (length own) (replicate n 0) (k - length own) 0
    ∙ zeros n (length own + (k - length own))
