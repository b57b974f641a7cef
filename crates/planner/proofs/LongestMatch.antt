-- The order of matches, and the longest of them.
use Rattle.std.specs.Prelude.{◌≡◌, ℕ, ◌<◌, ◌≤◌, Bool, true, false, ◌⊎◌, List, [], ◌∷◌, length, fold, refl, if◌then◌else◌}
use Rattle.std.specs.Bool.{Decides}
use Rattle.std.proofs.Common.{ap, sym, ◌∙◌, arith, inl, inr}
use Rattle.std.proofs.lemmas.Bool.{cases_lt}
use Rattle.std.proofs.lemmas.Bool.Decides.{Decides-or, Decides-and, Decides-ltb, Decides-eqb}
use Rattle.metadata.specs.declared.definition.TypeDefinition.{TypeDefinition}
use Rattle.planner.specs.Match.{Path, path_number, Conjunct, Match, match_of, match_reach, is_longer}
use Rattle.planner.specs.Planned.{Matched, longer_of, matched_paths}
use Rattle.planner.specs.Choice.{IsLongest}
use Rattle.planner.proofs.Ranges.{Each}
use Rattle.planner.proofs.Residual.{Member, here, there}
use Rattle.planner.proofs.Unsorted.{longest_has}
use Rattle.planner.proofs.Lists.{contains_member, each_all}

pub false_of : (b : Bool) → (b ≡ true → ⊥) → b ≡ false
false_of true h = absurd (h refl)
false_of false h = refl

pub not_both : (b : Bool) → b ≡ true → b ≡ false → ⊥
not_both b e f = never (sym e ∙ f)
  where
    never : true ≡ false → ⊥
    never e = cc

-- ---- the order of matches

-- more columns in all, or as many and more of them fixed, or as many and a smaller number
abbrev pub Longer : ℕ → ℕ → ℕ → ℕ → ℕ → ℕ → Type 0
Longer r f p s g q = (s < r) ⊎ ((r ≡ s) × ((g < f) ⊎ ((f ≡ g) × (p < q))))

pub longer_decides : (p q : ℕ) (m n : Match) → Decides (is_longer (p, m) (q, n)) (Longer (match_reach m) (length m.fixed) p (match_reach n) (length n.fixed) q)
longer_decides p q m n =
    Decides-or _ _ (Decides-ltb (match_reach n) (match_reach m))
    (Decides-and _ _ (Decides-eqb (match_reach m) (match_reach n))
    (Decides-or _ _ (Decides-ltb (length n.fixed) (length m.fixed)) (Decides-and _ _ (Decides-eqb (length m.fixed) (length n.fixed)) (Decides-ltb p q))))

pub never_both : (r f p s g q : ℕ) → Longer r f p s g q → Longer s g q r f p → ⊥
never_both r f p s g q (inl a) (inl b) = omega (arith, a, b)
never_both r f p s g q (inl a) (inr b) = omega (arith, a, b.0)
never_both r f p s g q (inr a) (inl b) = omega (arith, a.0, b)
never_both r f p s g q (inr a) (inr b) = by a.1 b.1
  where
    by : (g < f) ⊎ ((f ≡ g) × (p < q)) → (f < g) ⊎ ((g ≡ f) × (q < p)) → ⊥
    by (inl c) (inl d) = omega (arith, c, d)
    by (inl c) (inr d) = omega (arith, c, d.0)
    by (inr c) (inl d) = omega (arith, c.0, d)
    by (inr c) (inr d) = omega (arith, c.1, d.1)

-- of a longer one and a shorter one, any third is shorter than the first or longer than the second
pub either_longer : (r f p s g o u h q : ℕ) → Longer r f p u h q → Longer r f p s g o ⊎ Longer s g o u h q
either_longer r f p s g o u h q l = elim (cases_lt s r) [
  | inl a ↦ inl (inl a)
  | inr a ↦ elim (cases_lt u s) [ inl b ↦ inr (inl b) | inr b ↦ same_reach a b l ]
]
  where
    same_fixed : r ≡ s → s ≡ u → f ≤ g → g ≤ h → (h < f) ⊎ ((f ≡ h) × (p < q)) → Longer r f p s g o ⊎ Longer s g o u h q
    same_fixed e e' a b (inl c) = absurd (omega (arith, a, b, c))
    same_fixed e e' a b (inr c) = elim (cases_lt p o) [
      | inl d ↦ inl (inr (e, inr (omega (arith, a, b, c.0), d)))
      | inr d ↦ inr (inr (e', inr (omega (arith, a, b, c.0), omega (arith, c.1, d))))
    ]

    same_reach : r ≤ s → s ≤ u → Longer r f p u h q → Longer r f p s g o ⊎ Longer s g o u h q
    same_reach a b (inl c) = absurd (omega (arith, a, b, c))
    same_reach a b (inr c) = elim (cases_lt g f) [
      | inl d ↦ inl (inr (omega (arith, a, b, c.0), inl d))
      | inr d ↦ elim (cases_lt h g) [
        | inl k ↦ inr (inr (omega (arith, a, b, c.0), inl k))
        | inr k ↦ same_fixed (omega (arith, a, b, c.0)) (omega (arith, a, b, c.0)) d k c.1
      ]
    ]

abbrev pub longer_than : Matched → Matched → Bool
longer_than q p = is_longer (path_number q.0, q.1) (path_number p.0, p.1)

abbrev pub LongerThan : Matched → Matched → Type 0
LongerThan q p = Longer (match_reach q.1) (length q.1.fixed) (path_number q.0) (match_reach p.1) (length p.1.fixed) (path_number p.0)

pub says_longer : (q p : Matched) → longer_than q p ≡ true → LongerThan q p
says_longer q p e = (longer_decides (path_number q.0) (path_number p.0) q.1 p.1).0 e

pub is_said : (q p : Matched) → LongerThan q p → longer_than q p ≡ true
is_said q p l = (longer_decides (path_number q.0) (path_number p.0) q.1 p.1).1 l

pub asymmetric : (q p : Matched) → longer_than q p ≡ true → longer_than p q ≡ true → ⊥
asymmetric q p e f = never_both (match_reach q.1) (length q.1.fixed) (path_number q.0) (match_reach p.1) (length p.1.fixed) (path_number p.0) (says_longer q p e) (says_longer p q f)

pub third : (q p x : Matched) → longer_than q p ≡ true → (longer_than q x ≡ true) ⊎ (longer_than x p ≡ true)
third q p x e = elim (either_longer (match_reach q.1) (length q.1.fixed) (path_number q.0) (match_reach x.1) (length x.1.fixed) (path_number x.0) (match_reach p.1) (length p.1.fixed) (path_number p.0) (says_longer q p e)) [
  | inl a ↦ inl (is_said q x a)
  | inr a ↦ inr (is_said x p a)
]

-- none is longer than the one that is kept
pub none_longer : (p : Matched) (ps : List Matched) → (longer_than p (fold longer_of p ps) ≡ false) × Each (λ q. longer_than q (fold longer_of p ps) ≡ false) ps
none_longer p [] = (false_of (longer_than p p) (λ e. asymmetric p p e e), tt)
none_longer p (q ∷ ps) = by (longer_than q p) refl (none_longer q ps) (none_longer p ps)
  where
    by : (b : Bool) → longer_than q p ≡ b → (longer_than q (fold longer_of q ps) ≡ false) × Each (λ x. longer_than x (fold longer_of q ps) ≡ false) ps →
        (longer_than p (fold longer_of p ps) ≡ false) × Each (λ x. longer_than x (fold longer_of p ps) ≡ false) ps →
        (longer_than p (fold longer_of (if b then q else p) ps) ≡ false) × ((longer_than q (fold longer_of (if b then q else p) ps) ≡ false) × Each (λ x. longer_than x (fold longer_of (if b then q else p) ps) ≡ false) ps)
    by true e with_q with_p = (
      false_of (longer_than p (fold longer_of q ps)) (λ h. elim (third p (fold longer_of q ps) q h) [
        | inl a ↦ asymmetric q p e a
        | inr a ↦ not_both (longer_than q (fold longer_of q ps)) a with_q.0
      ]),
      (with_q.0, with_q.1),
    )
    by false e with_q with_p = (
      with_p.0,
      (
        false_of (longer_than q (fold longer_of p ps)) (λ h. elim (third q (fold longer_of p ps) p h) [
          | inl a ↦ not_both (longer_than q p) a e
          | inr a ↦ not_both (longer_than p (fold longer_of p ps)) a with_p.0
        ]),
        with_p.1,
      ),
    )

-- the path that is kept is the one of the longest match
pub longest_path : (t : TypeDefinition) (cs : List Conjunct) (p : Path) (ps : List Path) →
    ((fold longer_of (p, match_of t cs p) (matched_paths t cs ps)).1 ≡ match_of t cs (fold longer_of (p, match_of t cs p) (matched_paths t cs ps)).0)
    × IsLongest t cs (p ∷ ps) (fold longer_of (p, match_of t cs p) (matched_paths t cs ps)).0
longest_path t cs p ps =
    let m : (b.1 ≡ match_of t cs b.0) × Member b.0 (p ∷ ps) = longest_has IsOne (p, match_of t cs p) (matched_paths t cs ps) (refl, here) (each_one ps (λ q k. there k)) in
    let none : (longer_than (p, match_of t cs p) b ≡ false) × Each (λ q. longer_than q b ≡ false) (matched_paths t cs ps) = none_longer (p, match_of t cs p) (matched_paths t cs ps) in (
      m.0,
      record {
        is_one = contains_member b.0 (p ∷ ps) m.1;
        none_longer = each_all (λ q. is_longer (path_number q, match_of t cs q) (path_number b.0, match_of t cs b.0) ≡ false) (p ∷ ps)
            (with_its_match p none.0 m.0, each_path ps none.1 m.0);
      },
    )
  where
    b : Matched
    b = fold longer_of (p, match_of t cs p) (matched_paths t cs ps)

    IsOne : Matched → Type 0
    IsOne q = (q.1 ≡ match_of t cs q.0) × Member q.0 (p ∷ ps)

    each_one : (qs : List Path) → ((q : Path) → Member q qs → Member q (p ∷ ps)) → Each IsOne (matched_paths t cs qs)
    each_one [] f = tt
    each_one (q ∷ qs) f = ((refl, f q here), each_one qs (λ x k. f x (there k)))

    with_its_match : (q : Path) → longer_than (q, match_of t cs q) b ≡ false → b.1 ≡ match_of t cs b.0 → is_longer (path_number q, match_of t cs q) (path_number b.0, match_of t cs b.0) ≡ false
    with_its_match q e same = ap (λ m. is_longer (path_number q, match_of t cs q) (path_number b.0, m)) (sym same) ∙ e

    each_path : (qs : List Path) → Each (λ q. longer_than q b ≡ false) (matched_paths t cs qs) → b.1 ≡ match_of t cs b.0 → Each (λ q. is_longer (path_number q, match_of t cs q) (path_number b.0, match_of t cs b.0) ≡ false) qs
    each_path [] e same = tt
    each_path (q ∷ qs) e same = (with_its_match q e.0 same, each_path qs e.1 same)
