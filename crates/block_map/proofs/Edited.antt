-- Blocks with another one at a place.
use Rattle.std.proofs.Common.{◌≡◌, ℕ, zero, suc, ◌<◌, true, false, cond, inl, inr, List, [], ◌∷◌, length, get_or, set, refl, sym, ap, subst, arith}
use Rattle.std.proofs.lemmas.Bool.{cases_Bool}
use Rattle.std.specs.List.{AllByRecursion}
use Rattle.kv_core.specs.Bytes.{key_lt}
use Rattle.block_map.specs.Blocks.{AreBefore, AreFrom, AreLaid, block_at, edited, block_entries, bounds_upto}
use Rattle.block_map.proofs.Keys.{all_both, all_left, all_right}

module _ {X : Type 0} where
  pub length-edited : (i : ℕ) (f : List (List ℕ × X) → List (List ℕ × X)) (bs : List (List (List ℕ × X))) → length (edited i f bs) ≡ length bs
  length-edited i f [] = refl
  length-edited zero f (b ∷ bs) = refl
  length-edited (suc i) f (b ∷ bs) = ap suc (length-edited i f bs)

  -- a block that is written
  pub set-edited : (bs : List (List (List ℕ × X))) (i : ℕ) (own : List (List ℕ × X)) → set bs i own ≡ edited i (λ _. own) bs
  set-edited [] i own = refl
  set-edited (b ∷ bs) zero own = refl
  set-edited (b ∷ bs) (suc i) own = ap (λ l. b ∷ l) (set-edited bs i own)

  -- edits that make the same of a block
  pub edited-same : (i : ℕ) (f g : List (List ℕ × X) → List (List ℕ × X)) (bs : List (List (List ℕ × X))) → f (block_at bs i) ≡ g (block_at bs i) → edited i f bs ≡ edited i g bs
  edited-same i f g [] same = refl
  edited-same zero f g (b ∷ bs) same = ap (λ own. own ∷ bs) same
  edited-same (suc i) f g (b ∷ bs) same = ap (λ l. b ∷ l) (edited-same i f g bs same)

  -- what the element of a list of blocks is, whatever is read past its end
  pub block_is : (bs : List (List (List ℕ × X))) (i : ℕ) (own : List (List ℕ × X)) → i < length bs → own ≡ get_or bs i own → own ≡ block_at bs i
  block_is [] i own within is = absurd (omega arith)
  block_is (b ∷ bs) zero own within is = is
  block_is (b ∷ bs) (suc i) own within is = block_is bs i own (omega arith) is

  -- a block with an entry is there
  pub block_there : (bs : List (List (List ℕ × X))) (i place : ℕ) → place < length (block_at bs i) → i < length bs
  block_there [] i place within = absurd (omega arith)
  block_there (b ∷ bs) zero place within = omega arith
  block_there (b ∷ bs) (suc i) place within = let more = block_there bs i place within in omega arith

  -- what holds of each block
  pub each_edited : (Q : List (List ℕ × X) → Type 0) (f : List (List ℕ × X) → List (List ℕ × X)) (i : ℕ) (bs : List (List (List ℕ × X))) → AllByRecursion Q bs → (i < length bs → Q (f (block_at bs i))) → AllByRecursion Q (edited i f bs)
  each_edited Q f i [] all own = tt
  each_edited Q f zero (b ∷ bs) all own = (own (omega arith), all.1)
  each_edited Q f (suc i) (b ∷ bs) all own = (all.0, each_edited Q f i bs all.1 (λ h. own (omega arith)))

  pub each_at : (Q : List (List ℕ × X) → Type 0) (i : ℕ) (bs : List (List (List ℕ × X))) → AllByRecursion Q bs → i < length bs → Q (block_at bs i)
  each_at Q i [] all within = absurd (omega arith)
  each_at Q zero (b ∷ bs) all within = all.0
  each_at Q (suc i) (b ∷ bs) all within = each_at Q i bs all.1 (omega arith)

  -- what holds of each entry
  pub all_edited : (P : List ℕ × X → Type 0) (f : List (List ℕ × X) → List (List ℕ × X)) → ((es : List (List ℕ × X)) → AllByRecursion P es → AllByRecursion P (f es)) → (i : ℕ) (bs : List (List (List ℕ × X))) → AllByRecursion P (block_entries bs) → AllByRecursion P (block_entries (edited i f bs))
  all_edited P f keeps i [] all = tt
  all_edited P f keeps zero (b ∷ bs) all = all_both P (f b) (block_entries bs) (keeps b (all_left P b (block_entries bs) all)) (all_right P b (block_entries bs) all)
  all_edited P f keeps (suc i) (b ∷ bs) all = all_both P b (block_entries (edited i f bs)) (all_left P b (block_entries bs) all) (all_edited P f keeps i bs (all_right P b (block_entries bs) all))

  -- ---- a bound before its block and those behind it

  pub record IsBound (bound : List ℕ) (first : List (List ℕ × X)) (bounds : List (List ℕ)) (blocks : List (List (List ℕ × X))) : Type 0 where
    pub before : AreBefore bound first
    pub from : AreFrom bound (block_entries blocks)
    pub rise : AllByRecursion (λ next. key_lt bound next ≡ true) bounds
    pub laid : AreLaid bounds blocks
    pub some : 0 < length blocks

  pub laid_cons : (k : List ℕ) (b : List (List ℕ × X)) (ks : List (List ℕ)) (bs : List (List (List ℕ × X))) → IsBound k b ks bs → AreLaid (k ∷ ks) (b ∷ bs)
  laid_cons k b ks [] is = let some = is.some in absurd (omega arith)
  laid_cons k b ks (c ∷ bs) is = (is.before, is.from, is.rise, is.laid)

  pub laid_uncons : (k : List ℕ) (b : List (List ℕ × X)) (ks : List (List ℕ)) (bs : List (List (List ℕ × X))) → AreLaid (k ∷ ks) (b ∷ bs) → IsBound k b ks bs
  laid_uncons k b ks [] laid = absurd laid
  laid_uncons k b ks (c ∷ bs) laid = record { before = laid.0; from = laid.1; rise = laid.2; laid = laid.3; some = omega arith }

  -- where there is no bound there is one block
  pub laid_one : (b c : List (List ℕ × X)) (bs : List (List (List ℕ × X))) → AreLaid [] (b ∷ bs) → AreLaid [] (c ∷ bs)
  laid_one b c [] laid = tt
  laid_one b c (d ∷ bs) laid = absurd laid

  pub laid_no_more : (b : List (List ℕ × X)) (bs : List (List (List ℕ × X))) → AreLaid [] (b ∷ bs) → length bs ≡ 0
  laid_no_more b [] laid = refl
  laid_no_more b (c ∷ bs) laid = absurd laid

  -- ---- an edit of a block that keeps to its bounds

  pub record KeepsBounds (f : List (List ℕ × X) → List (List ℕ × X)) : Type 0 where
    pub before : (k : List ℕ) (es : List (List ℕ × X)) → AreBefore k es → AreBefore k (f es)
    pub from : (k : List ℕ) (es : List (List ℕ × X)) → AreFrom k es → AreFrom k (f es)

  pub laid_edited : (f : List (List ℕ × X) → List (List ℕ × X)) → KeepsBounds f → (i : ℕ) (ks : List (List ℕ)) (bs : List (List (List ℕ × X))) → AreLaid ks bs → AreLaid ks (edited i f bs)
  laid_edited f keeps i ks [] laid = laid
  laid_edited f keeps zero [] (b ∷ bs) laid = laid_one b (f b) bs laid
  laid_edited f keeps zero (k ∷ ks) (b ∷ bs) laid =
      let is = laid_uncons k b ks bs laid in
      laid_cons k (f b) ks bs (record { before = keeps.before k b is.before; from = is.from; rise = is.rise; laid = is.laid; some = is.some })
  laid_edited f keeps (suc i) [] (b ∷ []) laid = tt
  laid_edited f keeps (suc i) [] (b ∷ c ∷ bs) laid = absurd laid
  laid_edited f keeps (suc i) (k ∷ ks) (b ∷ bs) laid =
      let is = laid_uncons k b ks bs laid in
      let some = is.some in
      laid_cons k b ks (edited i f bs) (record {
        before = is.before;
        from = all_edited (λ e. key_lt e.0 k ≡ false) f (keeps.from k) i bs is.from;
        rise = is.rise;
        laid = laid_edited f keeps i ks bs is.laid;
        some = omega (arith, length-edited i f bs);
      })

  -- ---- an edit at a key, in the block to which it belongs

  pub record KeepsBoundsAt (key : List ℕ) (f : List (List ℕ × X) → List (List ℕ × X)) : Type 0 where
    pub before : (k : List ℕ) → key_lt key k ≡ true → (es : List (List ℕ × X)) → AreBefore k es → AreBefore k (f es)
    pub from : (k : List ℕ) → key_lt key k ≡ false → (es : List (List ℕ × X)) → AreFrom k es → AreFrom k (f es)

  pub laid_put : (key : List ℕ) (f : List (List ℕ × X) → List (List ℕ × X)) → KeepsBoundsAt key f → (ks : List (List ℕ)) (bs : List (List (List ℕ × X))) → AreLaid ks bs → AreLaid ks (edited (bounds_upto key ks) f bs)
  laid_put key f keeps ks [] laid = laid
  laid_put key f keeps [] (b ∷ bs) laid = laid_one b (f b) bs laid
  laid_put key f keeps (k ∷ ks) (b ∷ bs) laid =
      let is = laid_uncons k b ks bs laid in
      let some = is.some in
      elim (cases_Bool (key_lt key k)) [
        | inl here ↦
            subst (λ t. AreLaid (k ∷ ks) (edited (cond t 0 (suc (bounds_upto key ks))) f (b ∷ bs))) (sym here)
            (laid_cons k (f b) ks bs (record { before = keeps.before k here b is.before; from = is.from; rise = is.rise; laid = is.laid; some = is.some }))
        | inr there ↦
            subst (λ t. AreLaid (k ∷ ks) (edited (cond t 0 (suc (bounds_upto key ks))) f (b ∷ bs))) (sym there)
            (laid_cons k b ks (edited (bounds_upto key ks) f bs) (record {
              before = is.before;
              from = all_edited (λ e. key_lt e.0 k ≡ false) f (keeps.from k there) (bounds_upto key ks) bs is.from;
              rise = is.rise;
              laid = laid_put key f keeps ks bs is.laid;
              some = omega (arith, length-edited (bounds_upto key ks) f bs);
            }))
      ]
