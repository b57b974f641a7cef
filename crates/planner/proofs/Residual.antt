-- The conjuncts that a match uses say exactly what it admits, so a scan of its range and the other conjuncts are the filter.
use Rattle.std.specs.Prelude.{◌≡◌, ℕ, Bool, true, false, cond, not, ◌&&◌, ◌||◌, ◌==◌, List, [], ◌∷◌, ◌++◌, map, filter, Option, Some, None, option_map, refl, if◌then◌else◌, bytes_eq}
use Rattle.std.specs.List.{list_all, list_any, cons_option}
use Rattle.std.proofs.Common.{ap, sym, ◌∙◌, subst}
use Rattle.std.proofs.lemmas.Option.{same_Some}
use Rattle.std.proofs.lemmas.Bool.{eqb-true}
use Rattle.std.proofs.lemmas.List.Elements.{All-filter, All-from_recursion, recursion_from_All}
use Rattle.std.specs.Cmp.{first_so, second_so, both_ways}
use Rattle.std.specs.Cmp.Derive.{both_true}
use Rattle.std.specs.Cmp.Lexicographic.{same_text}
use Rattle.std.specs.Ordering.{is_eq}
use Rattle.metadata.specs.declared.cells.Cell.{Cell}
use Rattle.metadata.specs.declared.cells.Cell.TheVariants.{Null, Int, Text, Bytes}
use Rattle.metadata.specs.Record.{Record}
use Rattle.metadata.specs.Order.{cell_cmp}
use Rattle.query.specs.Fields.{cell_named}
use Rattle.query.specs.declared.filter.Operator.TheVariants.{Equal, NotEqual, Less, AtMost, Greater, AtLeast}
use Rattle.query.specs.Filter.{Filter, compare, null_field, starts, all_of, some_of, negation}
use Rattle.query.specs.Truth.{selects, null_test, is_true}
use Rattle.planner.specs.Range.{Bound, above, from, below, up_to, prefixed}
use Rattle.planner.specs.Match.{Conjunct, fixing, bounding, said, first, column_in_front, matching, used, others}
use Rattle.planner.proofs.Admits.{lets_in, admits}
use Rattle.planner.proofs.Ranges.{Each, comparison_true, at_null}
use Rattle.metadata.specs.Order.{is_string}
use Rattle.metadata.specs.Cell.{is_null as is_null_cell}

-- what a checked query says of a leaf: a value that isn't null, a prefix that is text or bytes
abbrev pub HasValue : (Cell → Type 0) → Filter → Type 0
HasValue IsStored (compare n o v) = IsStored v × (is_null_cell v ≡ false)
HasValue IsStored (null_field n) = Unit {0}
HasValue IsStored (starts n p) = IsStored p × (is_string p ≡ true)
HasValue IsStored (all_of fs) = Unit {0}
HasValue IsStored (some_of fs) = Unit {0}
HasValue IsStored (negation f) = Unit {0}

-- ---- one conjunct

-- two names that are tested equal are equal
same_name : (a b : List ℕ) → bytes_eq a b ≡ true → a ≡ b
same_name a b e = same_text a b (sym e)

pub if_some : {A : Type 0} (t : Bool) (x y : A) → (if t then Some x else None) ≡ Some y → (t ≡ true) × (x ≡ y)
if_some true x y e = (refl, same_Some x y e)
if_some false x y e = cc

module _ (IsStored : Cell → Type 0) (r : Record) where
  null_selects : (c : Cell) → is_true (null_test c) ≡ is_eq (cell_cmp c Null)
  null_selects Null = refl
  null_selects (Int z) = refl
  null_selects (Text t) = refl
  null_selects (Bytes b) = refl

  -- a conjunct that fixes a field says that the field has that cell
  fixing_selects : (name : List ℕ) (f : Filter) (v : Cell) → HasValue IsStored f → fixing name f ≡ Some v → selects f r ≡ is_eq (cell_cmp (cell_named r name) v)
  fixing_selects name (compare n Equal w) v h e =
      let p : (bytes_eq n name ≡ true) × (w ≡ v) = if_some (bytes_eq n name) w v e in
      comparison_true Equal (cell_named r n) w ∙ sym (at_null is_eq (cell_named r n) w refl h.1)
      ∙ (λ i. is_eq (cell_cmp (cell_named r (same_name n name p.0 i)) (p.1 i)))
  fixing_selects name (compare n NotEqual w) v h e = cc
  fixing_selects name (compare n Less w) v h e = cc
  fixing_selects name (compare n AtMost w) v h e = cc
  fixing_selects name (compare n Greater w) v h e = cc
  fixing_selects name (compare n AtLeast w) v h e = cc
  fixing_selects name (null_field n) v h e =
      let p : (bytes_eq n name ≡ true) × (Null ≡ v) = if_some (bytes_eq n name) Null v e in
      null_selects (cell_named r n) ∙ (λ i. is_eq (cell_cmp (cell_named r (same_name n name p.0 i)) (p.1 i)))
  fixing_selects name (starts n w) v h e = cc
  fixing_selects name (all_of fs) v h e = cc
  fixing_selects name (some_of fs) v h e = cc
  fixing_selects name (negation f) v h e = cc

  -- a conjunct that bounds a field says that the bound lets its cell in
  bounding_selects : (name : List ℕ) (f : Filter) (b : Bound) → bounding name f ≡ Some b → selects f r ≡ lets_in b (cell_named r name)
  bounding_selects name (compare n Equal w) b e = cc
  bounding_selects name (compare n NotEqual w) b e = cc
  bounding_selects name (compare n Less w) b e =
      let p : (bytes_eq n name ≡ true) × (below w ≡ b) = if_some (bytes_eq n name) (below w) b e in λ i. lets_in (p.1 i) (cell_named r (same_name n name p.0 i))
  bounding_selects name (compare n AtMost w) b e =
      let p : (bytes_eq n name ≡ true) × (up_to w ≡ b) = if_some (bytes_eq n name) (up_to w) b e in λ i. lets_in (p.1 i) (cell_named r (same_name n name p.0 i))
  bounding_selects name (compare n Greater w) b e =
      let p : (bytes_eq n name ≡ true) × (above w ≡ b) = if_some (bytes_eq n name) (above w) b e in λ i. lets_in (p.1 i) (cell_named r (same_name n name p.0 i))
  bounding_selects name (compare n AtLeast w) b e =
      let p : (bytes_eq n name ≡ true) × (from w ≡ b) = if_some (bytes_eq n name) (from w) b e in λ i. lets_in (p.1 i) (cell_named r (same_name n name p.0 i))
  bounding_selects name (null_field n) b e = cc
  bounding_selects name (starts n w) b e =
      let p : (bytes_eq n name ≡ true) × (prefixed w ≡ b) = if_some (bytes_eq n name) (prefixed w) b e in λ i. lets_in (p.1 i) (cell_named r (same_name n name p.0 i))
  bounding_selects name (all_of fs) b e = cc
  bounding_selects name (some_of fs) b e = cc
  bounding_selects name (negation f) b e = cc

-- ---- members

-- x is an element of the list
pub data Member {A : Type 0} (x : A) : List A → Type 0 where
  here : {xs : List A} → Member x (x ∷ xs)
  there : {y : A} {xs : List A} → Member x xs → Member x (y ∷ xs)

pub each_member : {A : Type 0} (P : A → Type 0) {x : A} {xs : List A} → Each P xs → Member x xs → P x
each_member P e here = e.0
each_member P e (there m) = each_member P e.1 m

pub each_from_members : {A : Type 0} (P : A → Type 0) (xs : List A) → ((x : A) → Member x xs → P x) → Each P xs
each_from_members P [] f = tt
each_from_members P (x ∷ xs) f = (f x here, each_from_members P xs (λ y m. f y (there m)))

pub each_map : {A : Type 0} (P Q : A → Type 0) → ((x : A) → P x → Q x) → (xs : List A) → Each P xs → Each Q xs
each_map P Q f [] e = tt
each_map P Q f (x ∷ xs) e = (f x e.0, each_map P Q f xs e.1)

pub each_append : {A : Type 0} (P : A → Type 0) (xs ys : List A) → Each P xs → Each P ys → Each P (xs ++ ys)
each_append P [] ys e f = f
each_append P (x ∷ xs) ys e f = (e.0, each_append P xs ys e.1 f)

pub each_of_map : {A B : Type 0} (P : B → Type 0) (g : A → B) (xs : List A) → Each (λ x. P (g x)) xs → Each P (map g xs)
each_of_map P g [] e = tt
each_of_map P g (x ∷ xs) e = (e.0, each_of_map P g xs e.1)

pub each_from_list_all : {A : Type 0} (p : A → Bool) (xs : List A) → list_all p xs ≡ true → Each (λ x. p x ≡ true) xs
each_from_list_all p [] e = tt
each_from_list_all p (x ∷ xs) e = (first_so _ _ e, each_from_list_all p xs (second_so (p x) _ e))

pub list_all_from_each : {A : Type 0} (p : A → Bool) (xs : List A) → Each (λ x. p x ≡ true) xs → list_all p xs ≡ true
list_all_from_each p [] e = refl
list_all_from_each p (x ∷ xs) e = both_true e.0 (list_all_from_each p xs e.1)

pub member_where : {A : Type 0} (p : A → Bool) (x : A) (xs : List A) → Member x xs → p x ≡ true → Member x (filter p xs)
member_where p x [] m e = elim m [ ]
member_where p x (y ∷ xs) here e = subst (λ t. Member x (cond t (x ∷ filter p xs) (filter p xs))) (sym e) here
member_where p x (y ∷ xs) (there m) e = by (p y) (member_where p x xs m e)
  where
    by : (t : Bool) → Member x (filter p xs) → Member x (cond t (y ∷ filter p xs) (filter p xs))
    by true n = there n
    by false n = n

pub each_where : {A : Type 0} (P : A → Type 0) (p : A → Bool) (xs : List A) → Each P xs → Each P (filter p xs)
each_where P p xs e = recursion_from_All P (filter p xs) (All-filter p P xs (All-from_recursion P xs e))

member_from_any : (i : ℕ) (places : List ℕ) → list_any (◌==◌ i) places ≡ true → Member i places
member_from_any i [] e = cc
member_from_any i (j ∷ places) e = by (i == j) refl (λ h. member_from_any i places h) e
  where
    by : (t : Bool) → (i == j) ≡ t → (list_any (◌==◌ i) places ≡ true → Member i places) → (t || list_any (◌==◌ i) places) ≡ true → Member i (j ∷ places)
    by true q more e = subst (λ k. Member i (k ∷ places)) (eqb-true i j q) here
    by false q more e = there (more e)

-- ---- a match and its conjuncts

-- a place has one conjunct
abbrev pub IsNumbered : List Conjunct → Type 0
IsNumbered cs = (i : ℕ) (f g : Filter) → Member (i, f) cs → Member (i, g) cs → f ≡ g

-- an entry of a match comes from a conjunct
abbrev pub IsFrom : {A : Type 0} → (Filter → Option A) → List Conjunct → ℕ × A → Type 0
IsFrom what cs e = (f : Filter) × Member (e.0, f) cs × (what f ≡ Some e.1)

pub said_from : {A : Type 0} (what : Filter → Option A) (cs : List Conjunct) → Each (IsFrom what cs) (said what cs)
said_from what [] = tt
said_from {A} what (c ∷ cs) =
    by (what c.1) refl (each_map (IsFrom what cs) (IsFrom what (c ∷ cs)) (λ e m. (m.0, there m.1, m.2)) (said what cs) (said_from what cs))
  where
    by : (o : Option A) → what c.1 ≡ o → Each (IsFrom what (c ∷ cs)) (said what cs) → Each (IsFrom what (c ∷ cs)) (cons_option (option_map (λ a. (c.0, a)) o) (said what cs))
    by None q later = later
    by (Some a) q later = ((c.1, here, q), later)

pub first_has : {A : Type 0} (P : A → Type 0) (xs : List A) (x : A) → first xs ≡ Some x → Each P xs → P x
first_has P [] x e h = absurd (elim (none_some x e) [ ])
  where
    none_some : {B : Type 0} (y : B) → ◌≡◌ {A = Option B} None (Some y) → ⊥
    none_some y e = cc
first_has P (y ∷ xs) x e h = subst P (same_Some y x e) h.0

module _ (IsStored : Cell → Type 0) (r : Record) (cs : List Conjunct) (values : Each (λ c. HasValue IsStored c.1) cs) where
  abbrev IsTrueAt : ℕ → Type 0
  IsTrueAt i = (f : Filter) × Member (i, f) cs × (selects f r ≡ true)

  -- where all conjuncts are true, the record's cells are admitted
  pub admits_if_true : Each (λ c. selects c.1 r ≡ true) cs → (names : List (List ℕ)) (rest : List Cell) →
      admits (map (λ f. f.1) (matching cs names).fixed) (map (λ b. b.1) (matching cs names).bounds) (map (cell_named r) names ++ rest) ≡ true
  admits_if_true true_all [] rest = refl
  admits_if_true true_all (name ∷ names) rest = by (first (said (fixing name) cs)) refl (admits_if_true true_all names rest)
    where
      bounds_let : (bs : List (ℕ × Bound)) → Each (IsFrom (bounding name) cs) bs → list_all (λ b. lets_in b (cell_named r name)) (map (λ b. b.1) bs) ≡ true
      bounds_let [] e = refl
      bounds_let (b ∷ bs) e =
          both_true (sym (bounding_selects IsStored r name e.0.0 b.1 e.0.2) ∙ each_member (λ c. selects c.1 r ≡ true) true_all e.0.1) (bounds_let bs e.1)

      open_admits : (bs : List (ℕ × Bound)) → Each (IsFrom (bounding name) cs) bs → admits [] (map (λ b. b.1) bs) (cell_named r name ∷ (map (cell_named r) names ++ rest)) ≡ true
      open_admits [] e = refl
      open_admits (b ∷ bs) e = bounds_let (b ∷ bs) e

      by : (o : Option (ℕ × Cell)) → first (said (fixing name) cs) ≡ o →
          admits (map (λ f. f.1) (matching cs names).fixed) (map (λ b. b.1) (matching cs names).bounds) (map (cell_named r) names ++ rest) ≡ true →
          admits (map (λ f. f.1) (column_in_front o (said (bounding name) cs) (matching cs names)).fixed) (map (λ b. b.1) (column_in_front o (said (bounding name) cs) (matching cs names)).bounds)
          (cell_named r name ∷ (map (cell_named r) names ++ rest)) ≡ true
      by None q more = open_admits (said (bounding name) cs) (said_from (bounding name) cs)
      by (Some f) q more =
          let m : IsFrom (fixing name) cs f = first_has (IsFrom (fixing name) cs) (said (fixing name) cs) f q (said_from (fixing name) cs) in
          both_true (sym (fixing_selects IsStored r name m.0 f.1 (each_member (λ c. HasValue IsStored c.1) values m.1) m.2) ∙ each_member (λ c. selects c.1 r ≡ true) true_all m.1) more

  -- where they are admitted, each conjunct that the match uses is true
  used_true : (names : List (List ℕ)) (rest : List Cell) →
      admits (map (λ f. f.1) (matching cs names).fixed) (map (λ b. b.1) (matching cs names).bounds) (map (cell_named r) names ++ rest) ≡ true →
      Each (λ f. IsTrueAt f.0) (matching cs names).fixed × Each (λ b. IsTrueAt b.0) (matching cs names).bounds
  used_true [] rest h = (tt, tt)
  used_true (name ∷ names) rest h = by (first (said (fixing name) cs)) refl (λ g. used_true names rest g) h
    where
      bounds_true : (bs : List (ℕ × Bound)) → Each (IsFrom (bounding name) cs) bs → list_all (λ b. lets_in b (cell_named r name)) (map (λ b. b.1) bs) ≡ true → Each (λ b. IsTrueAt b.0) bs
      bounds_true [] e h = tt
      bounds_true (b ∷ bs) e h =
          ((e.0.0, e.0.1, bounding_selects IsStored r name e.0.0 b.1 e.0.2 ∙ first_so _ _ h), bounds_true bs e.1 (second_so (lets_in b.1 (cell_named r name)) _ h))

      open_true : (bs : List (ℕ × Bound)) → Each (IsFrom (bounding name) cs) bs → admits [] (map (λ b. b.1) bs) (cell_named r name ∷ (map (cell_named r) names ++ rest)) ≡ true → Each (λ b. IsTrueAt b.0) bs
      open_true [] e h = tt
      open_true (b ∷ bs) e h = bounds_true (b ∷ bs) e h

      by : (o : Option (ℕ × Cell)) → first (said (fixing name) cs) ≡ o →
          (admits (map (λ f. f.1) (matching cs names).fixed) (map (λ b. b.1) (matching cs names).bounds) (map (cell_named r) names ++ rest) ≡ true →
          Each (λ f. IsTrueAt f.0) (matching cs names).fixed × Each (λ b. IsTrueAt b.0) (matching cs names).bounds) →
          admits (map (λ f. f.1) (column_in_front o (said (bounding name) cs) (matching cs names)).fixed) (map (λ b. b.1) (column_in_front o (said (bounding name) cs) (matching cs names)).bounds)
          (cell_named r name ∷ (map (cell_named r) names ++ rest)) ≡ true →
          Each (λ f. IsTrueAt f.0) (column_in_front o (said (bounding name) cs) (matching cs names)).fixed × Each (λ b. IsTrueAt b.0) (column_in_front o (said (bounding name) cs) (matching cs names)).bounds
      by None q more h = (tt, open_true (said (bounding name) cs) (said_from (bounding name) cs) h)
      by (Some f) q more h =
          let m : IsFrom (fixing name) cs f = first_has (IsFrom (fixing name) cs) (said (fixing name) cs) f q (said_from (fixing name) cs) in
          let later : Each (λ f. IsTrueAt f.0) (matching cs names).fixed × Each (λ b. IsTrueAt b.0) (matching cs names).bounds =
          more (second_so (is_eq (cell_cmp (cell_named r name) f.1)) _ h) in
          (((m.0, m.1, fixing_selects IsStored r name m.0 f.1 (each_member (λ c. HasValue IsStored c.1) values m.1) m.2 ∙ first_so _ _ h), later.0), later.1)

  -- whether the record's cells are admitted along columns of these names
  abbrev pub admitted : List (List ℕ) → List Cell → Bool
  admitted names rest = admits (map (λ f. f.1) (matching cs names).fixed) (map (λ b. b.1) (matching cs names).bounds) (map (cell_named r) names ++ rest)

  -- a conjunct is true where the match admits the record, if the match uses it, and else where the others are true
  each_true : IsNumbered cs → (names : List (List ℕ)) (rest : List Cell) → admitted names rest ≡ true →
      list_all (λ c. selects c.1 r) (others (used (matching cs names)) cs) ≡ true → (c : Conjunct) → Member c cs → selects c.1 r ≡ true
  each_true numbered names rest h g c m = by (list_any (◌==◌ c.0) (used (matching cs names))) refl
    where
      places_true : Each IsTrueAt (used (matching cs names))
      places_true =
          let u : Each (λ f. IsTrueAt f.0) (matching cs names).fixed × Each (λ b. IsTrueAt b.0) (matching cs names).bounds = used_true names rest h in
          each_append IsTrueAt (map (λ f. f.0) (matching cs names).fixed) (map (λ b. b.0) (matching cs names).bounds)
          (each_of_map IsTrueAt (λ f. f.0) (matching cs names).fixed u.0) (each_of_map IsTrueAt (λ b. b.0) (matching cs names).bounds u.1)

      by : (t : Bool) → list_any (◌==◌ c.0) (used (matching cs names)) ≡ t → selects c.1 r ≡ true
      by true q =
          let at : IsTrueAt c.0 = each_member IsTrueAt places_true (member_from_any c.0 (used (matching cs names)) q) in
          ap (λ f. selects f r) (numbered c.0 c.1 at.0 m at.1) ∙ at.2
      by false q =
          each_member (λ d. selects d.1 r ≡ true) (each_from_list_all (λ d. selects d.1 r) (others (used (matching cs names)) cs) g)
          (member_where (λ d. not (list_any (◌==◌ d.0) (used (matching cs names)))) c cs m (ap not q))

  -- a scan of what the match admits and the conjuncts that it doesn't use are all conjuncts
  pub residual_exact : IsNumbered cs → (names : List (List ℕ)) (rest : List Cell) →
      (admitted names rest && list_all (λ c. selects c.1 r) (others (used (matching cs names)) cs)) ≡ list_all (λ c. selects c.1 r) cs
  residual_exact numbered names rest = both_ways _ _
      (λ h. list_all_from_each (λ c. selects c.1 r) cs
      (each_from_members (λ c. selects c.1 r ≡ true) cs (λ c m. each_true numbered names rest (first_so _ _ h) (second_so (admitted names rest) _ h) c m)))
      (λ h.
      let e : Each (λ c. selects c.1 r ≡ true) cs = each_from_list_all (λ c. selects c.1 r) cs h in
      both_true (admits_if_true e names rest)
      (list_all_from_each (λ c. selects c.1 r) (others (used (matching cs names)) cs)
      (each_where (λ c. selects c.1 r ≡ true) (λ d. not (list_any (◌==◌ d.0) (used (matching cs names)))) cs e)))
