-- Blocks of which each two neighbours are too many for one, and how many there are then.
use Rattle.std.proofs.Common.{ℕ, zero, suc, ◌+◌, ◌*◌, ◌<◌, ◌≤◌, true, false, cond, nat_le, inl, inr, List, [], ◌∷◌, ◌++◌, length, length-append, sym, subst, arith, leb-false}
use Rattle.std.proofs.lemmas.Bool.{cases_Bool}
use Rattle.std.specs.List.{AllByRecursion}
use Rattle.block_map.specs.Blocks.{AreDense, Overfills, block_at, edited, block_entries, cut_blocks, joined_blocks, most}

module _ {X : Type 0} where
  -- each two neighbours but those from a place on, or from either of two
  abbrev pub Loose : ℕ → List (List (List ℕ × X)) → Type 0
  Loose i [] = Unit {0}
  Loose zero (b ∷ bs) = AreDense bs
  Loose (suc i) (b ∷ bs) = Overfills b bs × Loose i bs

  abbrev pub LooseTwice : ℕ → ℕ → List (List (List ℕ × X)) → Type 0
  LooseTwice i j [] = Unit {0}
  LooseTwice zero zero (b ∷ bs) = ⊥
  LooseTwice zero (suc j) (b ∷ bs) = Loose j bs
  LooseTwice (suc i) zero (b ∷ bs) = ⊥
  LooseTwice (suc i) (suc j) (b ∷ bs) = Overfills b bs × LooseTwice i j bs

  -- ---- joining the two

  overfills_joined : (b : List (List ℕ × X)) (i : ℕ) (bs : List (List (List ℕ × X))) → Overfills b bs → Overfills b (joined_blocks i bs)
  overfills_joined b i [] over = tt
  overfills_joined b zero (c ∷ []) over = over
  overfills_joined b zero (c ∷ d ∷ bs) over = elim (nat_le (length c + length d) most) as (λ t. Overfills b (cond t ((c ++ d) ∷ bs) (c ∷ d ∷ bs))) [
    | true ↦ omega (arith, length-append c d)
    | false ↦ over
  ]
  overfills_joined b (suc i) (c ∷ bs) over = over

  overfills_more : (b c : List (List ℕ × X)) (bs : List (List (List ℕ × X))) → Overfills c bs → Overfills (b ++ c) bs
  overfills_more b c [] over = tt
  overfills_more b c (d ∷ bs) over = omega (arith, length-append b c)

  pub dense_joined : (i : ℕ) (bs : List (List (List ℕ × X))) → Loose i bs → AreDense (joined_blocks i bs)
  dense_joined i [] loose = tt
  dense_joined zero (b ∷ []) loose = (tt, tt)
  dense_joined zero (b ∷ c ∷ bs) loose = elim (cases_Bool (nat_le (length b + length c) most)) [
    | inl fitting ↦ subst (λ t. AreDense (cond t ((b ++ c) ∷ bs) (b ∷ c ∷ bs))) (sym fitting) (overfills_more b c bs loose.0, loose.1)
    | inr full ↦ subst (λ t. AreDense (cond t ((b ++ c) ∷ bs) (b ∷ c ∷ bs))) (sym full) (leb-false (length b + length c) most full, loose)
  ]
  dense_joined (suc i) (b ∷ bs) loose = (overfills_joined b i bs loose.0, dense_joined i bs loose.1)

  pub loose_joined : (i j : ℕ) (bs : List (List (List ℕ × X))) → LooseTwice i j bs → Loose i (joined_blocks j bs)
  loose_joined i j [] loose = tt
  loose_joined zero zero (b ∷ bs) loose = absurd loose
  loose_joined zero (suc j) (b ∷ bs) loose = dense_joined j bs loose
  loose_joined (suc i) zero (b ∷ bs) loose = absurd loose
  loose_joined (suc i) (suc j) (b ∷ bs) loose = (overfills_joined b j bs loose.0, loose_joined i j bs loose.1)

  -- ---- a block that is cut in two

  pub loose_forked : (left right : List (List ℕ × X)) (bs : List (List (List ℕ × X))) → AreDense bs → most < length left + length right → Loose 1 (cut_blocks 0 left right bs)
  loose_forked left right [] dense over = tt
  loose_forked left right (b ∷ bs) dense over = (over, dense.1)

  first_forked : (b : List (List ℕ × X)) (i : ℕ) (left right : List (List ℕ × X)) (bs : List (List (List ℕ × X))) → Overfills b bs → Overfills b (cut_blocks (suc i) left right bs)
  first_forked b i left right [] over = tt
  first_forked b i left right (c ∷ bs) over = over

  pub loose_forked_twice : (i : ℕ) (left right : List (List ℕ × X)) (bs : List (List (List ℕ × X))) → AreDense bs → most < length left + length right → LooseTwice i (suc (suc i)) (cut_blocks (suc i) left right bs)
  loose_forked_twice i left right [] dense over = tt
  loose_forked_twice zero left right (b ∷ []) dense over = tt
  loose_forked_twice zero left right (b ∷ c ∷ bs) dense over = (over, dense.1.1)
  loose_forked_twice (suc i) left right (b ∷ bs) dense over = (first_forked b i left right bs dense.0, loose_forked_twice i left right bs dense.1 over)

  -- ---- a block that has become smaller

  pub loose_edited : (f : List (List ℕ × X) → List (List ℕ × X)) (bs : List (List (List ℕ × X))) → AreDense bs → Loose 0 (edited 0 f bs)
  loose_edited f [] dense = tt
  loose_edited f (b ∷ bs) dense = dense.1

  first_edited : (b : List (List ℕ × X)) (i : ℕ) (f : List (List ℕ × X) → List (List ℕ × X)) (bs : List (List (List ℕ × X))) → Overfills b bs → Overfills b (edited (suc i) f bs)
  first_edited b i f [] over = tt
  first_edited b i f (c ∷ bs) over = over

  pub loose_edited_twice : (i : ℕ) (f : List (List ℕ × X) → List (List ℕ × X)) (bs : List (List (List ℕ × X))) → AreDense bs → LooseTwice i (suc i) (edited (suc i) f bs)
  loose_edited_twice i f [] dense = tt
  loose_edited_twice zero f (b ∷ []) dense = tt
  loose_edited_twice zero f (b ∷ c ∷ bs) dense = dense.1.1
  loose_edited_twice (suc i) f (b ∷ bs) dense = (first_edited b i f bs dense.0, loose_edited_twice i f bs dense.1)

  -- ---- a block that has become larger

  longer : (b c : List (List ℕ × X)) (bs : List (List (List ℕ × X))) → length b ≤ length c → Overfills b bs → Overfills c bs
  longer b c [] more over = tt
  longer b c (d ∷ bs) more over = omega arith

  before_longer : (b : List (List ℕ × X)) (i : ℕ) (f : List (List ℕ × X) → List (List ℕ × X)) (bs : List (List (List ℕ × X))) → length (block_at bs i) ≤ length (f (block_at bs i)) → Overfills b bs → Overfills b (edited i f bs)
  before_longer b i f [] more over = tt
  before_longer b zero f (c ∷ bs) more over = omega arith
  before_longer b (suc i) f (c ∷ bs) more over = over

  pub dense_edited : (i : ℕ) (f : List (List ℕ × X) → List (List ℕ × X)) (bs : List (List (List ℕ × X))) → AreDense bs → length (block_at bs i) ≤ length (f (block_at bs i)) → AreDense (edited i f bs)
  dense_edited i f [] dense more = tt
  dense_edited zero f (b ∷ bs) dense more = (longer b (f b) bs more dense.0, dense.1)
  dense_edited (suc i) f (b ∷ bs) dense more = (before_longer b i f bs more dense.0, dense_edited i f bs dense.1 more)

  -- ---- each block has entries then

  rest_filled : (b : List (List ℕ × X)) (bs : List (List (List ℕ × X))) → length b ≤ most → AllByRecursion (λ c. length c ≤ most) bs → AreDense (b ∷ bs) → AllByRecursion (λ c. 0 < length c) bs
  rest_filled b [] fits all dense = tt
  rest_filled b (c ∷ bs) fits all dense = let over = dense.0 in (omega arith, rest_filled c bs all.0 all.1 dense.1)

  pub filled_dense : (bs : List (List (List ℕ × X))) → 2 ≤ length bs → AllByRecursion (λ c. length c ≤ most) bs → AreDense bs → AllByRecursion (λ c. 0 < length c) bs
  filled_dense [] some all dense = absurd (omega arith)
  filled_dense (b ∷ []) some all dense = absurd (omega arith)
  filled_dense (b ∷ c ∷ bs) some all dense =
      let over = dense.0 in let fits = all.1.0 in
      let first : 0 < length b = omega arith in (first, rest_filled b (c ∷ bs) all.0 all.1 dense)

  -- ---- how many blocks there are: two for each most and one entries at most, and one

  pub few : (bs : List (List (List ℕ × X))) → AreDense bs → 65 * length bs ≤ 2 * length (block_entries bs) + 65
  few [] dense = omega arith
  few (b ∷ []) dense = omega arith
  few (b ∷ c ∷ bs) dense =
      let more = few bs dense.1.1 in
      let over = dense.0 in
      let count = length-append b (c ++ block_entries bs) in
      let rest = length-append c (block_entries bs) in
      omega arith
