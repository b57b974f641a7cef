-- Trees whose sides are about as high: they are low for their segments, and where a node is joined further down.
use Rattle.std.proofs.Common.{◌≡◌, ℕ, ◌+◌, ◌*◌, ◌^◌, ◌≤◌, ◌<◌, max, List, ◌∷◌, ◌++◌, length, length-append, append_assoc, inl, inr, arith, ap, subst, sym, ◌∙◌}
use Rattle.std.proofs.Math.Nat.{max_comm, mul-le-mul_left, mul-le-mul_right}
use Rattle.std.proofs.Math.Pow.{pow_mono}
use Rattle.std.proofs.lemmas.Bool.{cases_lt}
use Rattle.std.proofs.lemmas.Nat.{pow-add}
use Rattle.cluster_core.specs.declared.segments.Segment.{Segment}
use Rattle.cluster_core.specs.Tree.{AreNear, IsJoined, Shape, forked}
use Rattle.cluster_core.proofs.InOrder.{Key}

-- where the powers of both heights are within the squares, that of the higher one and one is within the square of the sum
doubled : (a b m n : ℕ) → b ≤ a → a ≤ b + 2 → 2 ^ a ≤ m * m → 2 ^ b ≤ n * n → 2 ^ (a + 1) ≤ (m + n) * (m + n)
doubled a b m n low near p q = elim (cases_lt m (n + n)) [
  | inl few ↦ let k : m * m ≤ m * (n + n) = mul-le-mul_left m (omega (arith, few)) in omega (arith, p, k, pow-add 2 a 1)
  | inr many ↦ let k : (n + n) * n ≤ m * n = mul-le-mul_right n many in omega (arith, p, q, k, pow_mono near, pow-add 2 a 1, pow-add 2 b 2)
]

within : (a b m n : ℕ) → a ≤ b + 2 → b ≤ a + 2 → 2 ^ a ≤ m * m → 2 ^ b ≤ n * n → 2 ^ (max a b + 1) ≤ (m + n) * (m + n)
within a b m n near far p q = elim (cases_lt a b) [
  | inl low ↦
      let k : 2 ^ (b + 1) ≤ (n + m) * (n + m) = doubled b a n m (omega (arith, low)) far q p in
      let h : max a b ≡ b = omega (arith, low) in
      rw h omega (arith, k)
  | inr low ↦
      let k : 2 ^ (a + 1) ≤ (m + n) * (m + n) = doubled a b m n low near p q in
      let h : max a b ≡ a = omega (arith, low) in
      rw h k
]

pub shallow : {E : Type 0} (l r : List E) (e : E) (a b : ℕ) → a ≤ b + 2 → b ≤ a + 2 → 2 ^ a ≤ (length l + 1) * (length l + 1) → 2 ^ b ≤ (length r + 1) * (length r + 1) →
    2 ^ (max a b + 1) ≤ (length (l ++ e ∷ r) + 1) * (length (l ++ e ∷ r) + 1)
shallow l r e a b near far p q =
    let is : 2 ^ (max a b + 1) ≤ (length l + 1 + (length r + 1)) * (length l + 1 + (length r + 1)) = within a b (length l + 1) (length r + 1) near far p q in
    let n : length l + 1 + (length r + 1) ≡ length (l ++ e ∷ r) + 1 = omega (arith, length-append l (e ∷ r)) in
    subst (λ x. 2 ^ (max a b + 1) ≤ x * x) n is

-- a node that is joined between the higher tree's inner side and the lower tree, in heights
goes_down : (high outer inner low joined new : ℕ) → high ≡ max outer inner + 1 → AreNear 2 outer inner → low + 2 < high → max inner low ≤ joined → joined ≤ max inner low + 1 →
    max outer joined ≤ new → new ≤ max outer joined + 1 → (AreNear 2 outer joined → new ≡ max outer joined + 1) → (high ≤ new) × (new ≤ high + 1)
goes_down high outer inner low joined new is near above j k p q even = elim (cases_lt (outer + 2) joined) [
  | inl up ↦ (omega (arith, is, near.0, near.1, up, p), omega (arith, is, near.0, near.1, above, k, q))
  | inr level ↦
      let one : new ≡ max outer joined + 1 = even (omega (arith, near.0, j), level) in
      (omega (arith, is, j, one), omega (arith, is, near.0, near.1, above, k, q))
]

pub joined_right : (left outer inner right joined new : Shape) (b m : Key) (s t : Segment) → left ≡ forked outer b s inner → AreNear 2 outer.height inner.height →
    right.height + 2 < left.height → IsJoined inner m t right joined → IsJoined outer b s joined new →
    (AreNear 2 outer.height joined.height → new.height ≡ max outer.height joined.height + 1) → IsJoined left m t right new
joined_right left outer inner right joined new b m s t is near above join balance even =
    let h = goes_down left.height outer.height inner.height right.height joined.height new.height (ap (λ (t : Shape). t.height) is) near above join.least join.most balance.least balance.most even in
    record {
      entries =
          balance.entries ∙ ap (λ xs. outer.entries ++ (b, s) ∷ xs) join.entries ∙ sym (append_assoc outer.entries ((b, s) ∷ inner.entries) ((m, t) ∷ right.entries))
          ∙ ap (λ (x : Shape). x.entries ++ (m, t) ∷ right.entries) (sym is);
      least = omega (arith, above, h.0);
      most = omega (arith, above, h.1);
    }

pub joined_left : (left inner outer right joined new : Shape) (b m : Key) (s t : Segment) → right ≡ forked inner b s outer → AreNear 2 inner.height outer.height →
    left.height + 2 < right.height → IsJoined left m t inner joined → IsJoined joined b s outer new →
    (AreNear 2 joined.height outer.height → new.height ≡ max joined.height outer.height + 1) → IsJoined left m t right new
joined_left left inner outer right joined new b m s t is near above join balance even =
    let h = goes_down right.height outer.height inner.height left.height joined.height new.height
    (ap (λ (t : Shape). t.height) is ∙ ap (λ n. n + 1) (max_comm inner.height outer.height)) (near.1, near.0) above
    (omega (arith, join.least)) (omega (arith, join.most)) (omega (arith, balance.least)) (omega (arith, balance.most))
    (λ level. even (level.1, level.0) ∙ ap (λ n. n + 1) (max_comm joined.height outer.height)) in
    record {
      entries =
          balance.entries ∙ ap (λ xs. xs ++ (b, s) ∷ outer.entries) join.entries ∙ append_assoc left.entries ((m, t) ∷ inner.entries) ((b, s) ∷ outer.entries)
          ∙ ap (λ (x : Shape). left.entries ++ (m, t) ∷ x.entries) (sym is);
      least = omega (arith, above, h.0);
      most = omega (arith, above, h.1);
    }
