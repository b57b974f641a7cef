-- The newest place of segments in parts, and of those that begin within bounds around one of them.
use Rattle.std.proofs.Common.{◌≡◌, ℕ, Bool, true, false, cond, ◌&&◌, max, Option, None, Some, List, [], ◌∷◌, ◌++◌, refl, sym, ap, ◌∙◌, arith}
use Rattle.std.proofs.lemmas.Bool.{and_from}
use Rattle.std.proofs.lemmas.List.Elements.{filter-append}
use Rattle.std.specs.List.{AllByRecursion, filter}
use Rattle.kv_core.specs.Bytes.{key_lt}
use Rattle.kv_core.proofs.Order.{le_from, le_from_lt, le_gives, le_trans, lt_le_trans}
use Rattle.cluster_core.specs.declared.segments.Segment.{Segment}
use Rattle.cluster_core.specs.Tree.{InOrder, between, later, newest_of}
use Rattle.cluster_core.proofs.InOrder.{Around, Key, Run, all_map, around}

later_assoc : (a b c : Option ℕ) → later (later a b) c ≡ later a (later b c)
later_assoc None b c = refl
later_assoc (Some a) None c = refl
later_assoc (Some a) (Some b) None = refl
later_assoc (Some a) (Some b) (Some c) = ap Some (omega arith)

newest_append : (a b : Run) → newest_of (a ++ b) ≡ later (newest_of a) (newest_of b)
newest_append [] b = refl
newest_append (e ∷ a) b = ap (later (Some e.1.place)) (newest_append a b) ∙ sym (later_assoc (Some e.1.place) (newest_of a) (newest_of b))

turned : (l r : Option ℕ) (p : ℕ) → later r (later l (Some p)) ≡ later l (later (Some p) r)
turned None None p = refl
turned None (Some r) p = ap Some (omega arith)
turned (Some l) None p = refl
turned (Some l) (Some r) p = ap Some (omega arith)

-- the newest place of a node and both its sides, from those of the sides and its own
pub newest_fork : (l r : Run) (e : Key × Segment) (side here : ℕ) →
    Some side ≡ later (newest_of l) (Some e.1.place) → Some here ≡ later (newest_of r) (Some side) → Some here ≡ newest_of (l ++ e ∷ r)
newest_fork l r e side here one two = two ∙ ap (later (newest_of r)) one ∙ turned (newest_of l) (newest_of r) e.1.place ∙ sym (newest_append l (e ∷ r))

-- the segments whose begins pass a test
abbrev passing : (Key → Bool) → Run → Run
passing p = filter (λ e. p e.0)

passing_none : (p : Key → Bool) (es : Run) → AllByRecursion (λ e. p e.0 ≡ false) es → passing p es ≡ []
passing_none p [] h = refl
passing_none p (e ∷ es) h = ap (λ b. cond b (e ∷ passing p es) (passing p es)) h.0 ∙ passing_none p es h.1

passing_all : (p : Key → Bool) (es : Run) → AllByRecursion (λ e. p e.0 ≡ true) es → passing p es ≡ es
passing_all p [] h = refl
passing_all p (e ∷ es) h = ap (λ b. cond b (e ∷ passing p es) (passing p es)) h.0 ∙ ap (λ xs. e ∷ xs) (passing_all p es h.1)

passing_same : (p t : Key → Bool) (es : Run) → AllByRecursion (λ e. p e.0 ≡ t e.0) es → passing p es ≡ passing t es
passing_same p t [] h = refl
passing_same p t (e ∷ es) h =
    ap (λ b. cond b (e ∷ passing p es) (passing p es)) h.0 ∙ ap (λ xs. cond (t e.0) (e ∷ xs) xs) (passing_same p t es h.1)

module _ (p : Key → Bool) (l : Run) (e : Key × Segment) (r : Run) where
  parts : passing p (l ++ e ∷ r) ≡ passing p l ++ cond (p e.0) (e ∷ passing p r) (passing p r)
  parts = filter-append (λ f. p f.0) l (e ∷ r)

  on_right : AllByRecursion (λ f. p f.0 ≡ false) l → p e.0 ≡ false → passing p (l ++ e ∷ r) ≡ passing p r
  on_right none fails =
      parts ∙ ap (λ xs. xs ++ cond (p e.0) (e ∷ passing p r) (passing p r)) (passing_none p l none) ∙ ap (λ b. cond b (e ∷ passing p r) (passing p r)) fails

  on_left : p e.0 ≡ false → AllByRecursion (λ f. p f.0 ≡ false) r → passing p (l ++ e ∷ r) ≡ passing p l
  on_left fails none =
      parts ∙ ap (λ b. passing p l ++ cond b (e ∷ passing p r) (passing p r)) fails ∙ ap (λ xs. passing p l ++ xs) (passing_none p r none)
      ∙ Rattle.std.proofs.Common.append-nil (passing p l)

  on_both : p e.0 ≡ true → passing p (l ++ e ∷ r) ≡ passing p l ++ e ∷ passing p r
  on_both passes = parts ∙ ap (λ b. passing p l ++ cond b (e ∷ passing p r) (passing p r)) passes

and_right : (a b : Bool) → b ≡ true → (a && b) ≡ a
and_right true b h = h
and_right false b h = refl

and_fails : (a b : Bool) → b ≡ false → (a && b) ≡ false
and_fails true b h = h
and_fails false b h = refl

module _ (l : Run) (e : Key × Segment) (r : Run) (order : InOrder (l ++ e ∷ r)) where
  at : Around l e r
  at = around l e r order

  -- the segments before and after the one in the middle, where it is passed over
  before_low : (low : Key) → key_lt low e.0 ≡ false → AllByRecursion (λ f. key_lt low f.0 ≡ false) l
  before_low low upto =
      all_map (λ f. key_lt f.0 e.0 ≡ true) (λ f. key_lt low f.0 ≡ false) (λ f h. le_gives f.0 low (le_trans f.0 e.0 low (le_from_lt f.0 e.0 h) (le_from e.0 low upto))) l at.before

  from_high : (high : Key) → key_lt e.0 high ≡ false → AllByRecursion (λ f. key_lt f.0 high ≡ false) r
  from_high high past =
      all_map (λ f. key_lt e.0 f.0 ≡ true) (λ f. key_lt f.0 high ≡ false) (λ f h. le_gives high f.0 (le_trans high e.0 f.0 (le_from high e.0 past) (le_from_lt e.0 f.0 h))) r at.after

  -- and where it lies within the bound
  after_low : (low : Key) → key_lt low e.0 ≡ true → AllByRecursion (λ f. key_lt low f.0 ≡ true) r
  after_low low past = all_map (λ f. key_lt e.0 f.0 ≡ true) (λ f. key_lt low f.0 ≡ true) (λ f h. lt_le_trans low e.0 f.0 past (le_from_lt e.0 f.0 h)) r at.after

  before_high : (high : Key) → key_lt e.0 high ≡ true → AllByRecursion (λ f. key_lt f.0 high ≡ true) l
  before_high high before = all_map (λ f. key_lt f.0 e.0 ≡ true) (λ f. key_lt f.0 high ≡ true) (λ f h. lt_le_trans f.0 e.0 high h (le_from_lt e.0 high before)) l at.before

  pub after_on_right : (low : Key) → key_lt low e.0 ≡ false → filter (λ f. key_lt low f.0) (l ++ e ∷ r) ≡ filter (λ f. key_lt low f.0) r
  after_on_right low upto = on_right (key_lt low) l e r (before_low low upto) upto

  pub after_here : (low : Key) → key_lt low e.0 ≡ true → filter (λ f. key_lt low f.0) (l ++ e ∷ r) ≡ filter (λ f. key_lt low f.0) l ++ e ∷ r
  after_here low past =
      on_both (key_lt low) l e r past ∙ ap (λ xs. filter (λ f. key_lt low f.0) l ++ e ∷ xs) (passing_all (key_lt low) r (after_low low past))

  pub before_on_left : (high : Key) → key_lt e.0 high ≡ false → filter (λ f. key_lt f.0 high) (l ++ e ∷ r) ≡ filter (λ f. key_lt f.0 high) l
  before_on_left high past = on_left (λ q. key_lt q high) l e r past (from_high high past)

  pub before_here : (high : Key) → key_lt e.0 high ≡ true → filter (λ f. key_lt f.0 high) (l ++ e ∷ r) ≡ l ++ e ∷ filter (λ f. key_lt f.0 high) r
  before_here high before =
      on_both (λ q. key_lt q high) l e r before ∙ ap (λ xs. xs ++ e ∷ filter (λ f. key_lt f.0 high) r) (passing_all (λ q. key_lt q high) l (before_high high before))

  pub between_on_right : (low high : Key) → key_lt low e.0 ≡ false → between low high (l ++ e ∷ r) ≡ between low high r
  between_on_right low high upto =
      on_right (λ q. key_lt low q && key_lt q high) l e r
      (all_map (λ f. key_lt low f.0 ≡ false) (λ f. (key_lt low f.0 && key_lt f.0 high) ≡ false) (λ f h. ap (λ b. b && key_lt f.0 high) h) l (before_low low upto))
      (ap (λ b. b && key_lt e.0 high) upto)

  pub between_on_left : (low high : Key) → key_lt e.0 high ≡ false → between low high (l ++ e ∷ r) ≡ between low high l
  between_on_left low high past =
      on_left (λ q. key_lt low q && key_lt q high) l e r (and_fails (key_lt low e.0) (key_lt e.0 high) past)
      (all_map (λ f. key_lt f.0 high ≡ false) (λ f. (key_lt low f.0 && key_lt f.0 high) ≡ false) (λ f h. and_fails (key_lt low f.0) (key_lt f.0 high) h) r (from_high high past))

  pub between_here : (low high : Key) → key_lt low e.0 ≡ true → key_lt e.0 high ≡ true →
      between low high (l ++ e ∷ r) ≡ filter (λ f. key_lt low f.0) l ++ e ∷ filter (λ f. key_lt f.0 high) r
  between_here low high past before =
      on_both (λ q. key_lt low q && key_lt q high) l e r (and_from (key_lt low e.0) (key_lt e.0 high) past before)
      ∙ ap (λ xs. xs ++ e ∷ between low high r)
      (passing_same (λ q. key_lt low q && key_lt q high) (key_lt low) l (all_map (λ f. key_lt f.0 high ≡ true) (λ f. (key_lt low f.0 && key_lt f.0 high) ≡ key_lt low f.0) (λ f h. and_right (key_lt low f.0) (key_lt f.0 high) h) l (before_high high before)))
      ∙ ap (λ xs. filter (λ f. key_lt low f.0) l ++ e ∷ xs)
      (passing_same (λ q. key_lt low q && key_lt q high) (λ q. key_lt q high) r (all_map (λ f. key_lt low f.0 ≡ true) (λ f. (key_lt low f.0 && key_lt f.0 high) ≡ key_lt f.0 high) (λ f h. ap (λ b. b && key_lt f.0 high) h) r (after_low low past)))
