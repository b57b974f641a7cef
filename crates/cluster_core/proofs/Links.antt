-- The links of a chain: those later than a version come first.
use Rattle.std.proofs.Common.{arith, add-one, is_some, ◌≡◌, ℕ, zero, suc, ◌+◌, ◌<◌, ◌≤◌, Bool, true, false, cond, nat_lt, nat_le, Option, None, Some, List, [], ◌∷◌, ◌++◌, get_or, length, take, refl, sym, ap, ◌∙◌}
use Rattle.std.proofs.lemmas.Bool.{true≢false, ltb-true, ltb-false, lt-ltb, le-leb, lt-leb}
use Rattle.std.proofs.lemmas.List.{append-nil}
use Rattle.std.specs.List.{slice_get}
use Rattle.std.specs.List.Sorted.{IsPartitionedBy, IsPartitionPoint}
use Rattle.cluster_core.specs.declared.chain.Link.{Link}
use Rattle.cluster_core.specs.Chains.{Falls, IsFalling, later, needed, present, value_at}

-- whether a link is later than a version
abbrev pub is_later : ℕ → Link → Bool
is_later version link = nat_lt version link.version

pub not_later : (version : ℕ) (link : Link) → is_later version link ≡ false → nat_le link.version version ≡ true
not_later version link h = le-leb link.version version (ltb-false version link.version h)

pub is_past : (version : ℕ) (link : Link) → is_later version link ≡ true → nat_le link.version version ≡ false
is_past version link h = lt-leb link.version version (ltb-true version link.version h)

-- the place that a binary search finds is their number
pub later_point : (version : ℕ) (links : List Link) (n : ℕ) → n ≤ length links →
    IsPartitionPoint (λ l. is_later version l ≡ true) (λ l. is_later version l ≡ false) links n → n ≡ later version links
later_point version [] n upto point = omega (arith, upto)
later_point version (link ∷ links) zero upto point = sym (ap (λ b. cond b 0 (suc (later version links))) (not_later version link (point.1 0 link (omega arith) (omega arith))))
later_point version (link ∷ links) (suc n) upto point =
    ap suc (later_point version links n (omega (arith, upto)) (λ k d low high. point.0 (suc k) d (omega arith) (omega (arith, high)), λ k d low high. point.1 (suc k) d (omega (arith, low)) (omega (arith, high))))
    ∙ sym (ap (λ b. cond b 0 (suc (later version links))) (is_past version link (point.0 0 link (omega arith) (omega arith))))

-- versions that fall are no greater further on
falls_below : (bound : ℕ) (links : List Link) (j : ℕ) (d : Link) → Falls bound links → j < length links → (get_or links j d).version < bound
falls_below bound [] j d falls below = absurd (omega (arith, below))
falls_below bound (link ∷ links) zero d falls below = falls.0
falls_below bound (link ∷ links) (suc j) d falls below = let h = falls_below link.version links j d falls.1 (omega (arith, below)) in omega (arith, h, falls.0)

falls_on : (bound : ℕ) (links : List Link) (i j : ℕ) (d : Link) → Falls bound links → i ≤ j → j < length links → (get_or links j d).version ≤ (get_or links i d).version
falls_on bound [] i j d falls upto below = absurd (omega (arith, below))
falls_on bound (link ∷ links) zero zero d falls upto below = omega arith
falls_on bound (link ∷ links) zero (suc j) d falls upto below = let h = falls_below link.version links j d falls.1 (omega (arith, below)) in omega (arith, h)
falls_on bound (link ∷ links) (suc i) zero d falls upto below = absurd (omega (arith, upto))
falls_on bound (link ∷ links) (suc i) (suc j) d falls upto below = falls_on link.version links i j d falls.1 (omega (arith, upto)) (omega (arith, below))

pub falls_from_falling : (links : List Link) → IsFalling links → (bound : ℕ) × Falls bound links
falls_from_falling [] falling = (0, tt)
falls_from_falling (link ∷ links) falling = (link.version + 1, (omega arith, falling))

pub falling_from_falls : (bound : ℕ) (links : List Link) → Falls bound links → IsFalling links
falling_from_falls bound [] falls = tt
falling_from_falls bound (link ∷ links) falls = falls.1

pub later_first : (version : ℕ) (links : List Link) → IsFalling links → IsPartitionedBy (is_later version) links
later_first version links falling i j d upto below is =
    let h = falls_from_falling links falling in
    let further = falls_on h.0 links i j d h.1 upto below in
    let at = ltb-true version (get_or links j d).version is in
    lt-ltb version (get_or links i d).version (omega (arith, further, at))

-- what stands at that place decides the value
abbrev pub link_value : Option Link → Option (List ℕ)
link_value None = None
link_value (Some link) = link.value

pub value_there : (version : ℕ) (links : List Link) → value_at version links ≡ link_value (slice_get links (later version links))
value_there version [] = refl
value_there version (link ∷ links) =
    elim (nat_le link.version version) as (λ b. cond b link.value (value_at version links) ≡ link_value (slice_get (link ∷ links) (cond b 0 (suc (later version links))))) [
      | true ↦ refl
      | false ↦ value_there version links
    ]

-- and with those before it is what is needed
abbrev pub present_link : Option Link → List Link
present_link None = []
present_link (Some link) = present link.version link.value

pub needed_there : (floor : ℕ) (links : List Link) → needed floor links ≡ take (later floor links) links ++ present_link (slice_get links (later floor links))
needed_there floor [] = refl
needed_there floor (link ∷ links) =
    elim (nat_le link.version floor) as (λ b. cond b (present link.version link.value) (link ∷ needed floor links) ≡
    take (cond b 0 (suc (later floor links))) (link ∷ links) ++ present_link (slice_get (link ∷ links) (cond b 0 (suc (later floor links))))) [
      | true ↦ refl
      | false ↦ ap (λ ls. link ∷ ls) (needed_there floor links)
    ]

present_some : (link : Link) → is_some link.value ≡ true → present link.version link.value ≡ link ∷ []
present_some link h = by link.value refl h
  where
    by : (o : Option (List ℕ)) → link.value ≡ o → is_some o ≡ true → present link.version o ≡ link ∷ []
    by None is h = absurd (true≢false (sym h))
    by (Some v) is h = λ i. record { version = link.version; value = sym is i } ∷ []

present_none : (link : Link) → is_some link.value ≡ false → present link.version link.value ≡ []
present_none link h = by link.value h
  where
    by : (o : Option (List ℕ)) → is_some o ≡ false → present link.version o ≡ []
    by None h = refl
    by (Some v) h = absurd (true≢false h)

take_there : {X : Type 0} (xs : List X) (n : ℕ) (x : X) → slice_get xs n ≡ Some x → take (suc n) xs ≡ take n xs ++ x ∷ []
take_there [] n x is = cc
take_there (y ∷ xs) zero x is = let same : y ≡ x = cc in λ i. same i ∷ []
take_there (y ∷ xs) (suc n) x is = ap (λ ys. y ∷ ys) (take_there xs n x is)

pub needed_with : (floor : ℕ) (links : List Link) (link : Link) → slice_get links (later floor links) ≡ Some link → is_some link.value ≡ true →
    take (later floor links + 1) links ≡ needed floor links
needed_with floor links link is has =
    ap (λ n. take n links) (add-one (later floor links)) ∙ take_there links (later floor links) link is
    ∙ ap (λ ls. take (later floor links) links ++ ls) (sym (ap present_link is ∙ present_some link has)) ∙ sym (needed_there floor links)

pub needed_without : (floor : ℕ) (links : List Link) (link : Link) → slice_get links (later floor links) ≡ Some link → is_some link.value ≡ false →
    take (later floor links) links ≡ needed floor links
needed_without floor links link is has =
    sym (append-nil (take (later floor links) links)) ∙ ap (λ ls. take (later floor links) links ++ ls) (sym (ap present_link is ∙ present_none link has)) ∙ sym (needed_there floor links)

pub needed_all : (floor : ℕ) (links : List Link) → slice_get links (later floor links) ≡ None → take (later floor links) links ≡ needed floor links
needed_all floor links is =
    sym (append-nil (take (later floor links) links)) ∙ ap (λ ls. take (later floor links) links ++ ls) (sym (ap present_link is)) ∙ sym (needed_there floor links)
