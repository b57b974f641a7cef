use Rattle.std.proofs.Common.{◌≡◌, ℕ, ◌+◌, ◌≤◌, List, length, drop, refl, sym, ap, ◌∙◌, arith}
use Rattle.std.specs.Ordering.{is_eq, nat_cmp}
use Rattle.kv_core.specs.Bytes.{key_cmp}
use Rattle.kv_core.proofs.Order.{tied_keys}
use Rattle.kv_core.proofs.Spelling.{AreBytes, word, level, eq_isnt_ne, ne_is_ne, word_decides, word_is_last, word_passes}
use Rattle.kv_core.proofs.short_bytes.first_differing.Goals as goal

module _ (own other : List ℕ) (p : length own ≡ 30) (q : length other ≡ 30) (g : AreBytes own) (h : AreBytes other) where
  -- what stands from a place on decides
  abbrev Decides : ℕ → Type 0
  Decides at = key_cmp own other ≡ key_cmp (drop at own) (drop at other)

  pass : (width at a b : ℕ) → at + width ≤ 30 → a ≡ word width own at → b ≡ word width other at → a ≡ b → Decides at → Decides (at + width)
  pass width at a b l is js e before = word_passes width own other at (nat_cmp a b) (omega (arith, p, l)) (omega (arith, q, l)) g h (λ i. nat_cmp (is i) (js i)) before (eq_isnt_ne a b e)

  decide : (width at a b : ℕ) → at + width ≤ 30 → a ≡ word width own at → b ≡ word width other at → (a ≡ b → ⊥) → Decides at → nat_cmp a b ≡ key_cmp own other
  decide width at a b l is js e before = word_decides width own other at (nat_cmp a b) (omega (arith, p, l)) (omega (arith, q, l)) g h (λ i. nat_cmp (is i) (js i)) before (ne_is_ne a b e)

  last : (a b : ℕ) → a ≡ word 2 own 28 → b ≡ word 2 other 28 → Decides 28 → nat_cmp a b ≡ key_cmp own other
  last a b is js before = word_is_last 2 own other 28 (nat_cmp a b) (omega (arith, p)) (omega (arith, q)) g h (λ i. nat_cmp (is i) (js i)) before p q

  same : (a b : ℕ) → a ≡ b → nat_cmp a b ≡ key_cmp own other → own ≡ other
  same a b e order = tied_keys own other (ap is_eq (sym order ∙ ap (nat_cmp a) (sym e) ∙ level a))

pub returns-then-word-other-clause-order : goal.returns-then-word-other-clause-order
returns-then-word-other-clause-order c =
    let own = c.args.bytes.now in
    let other = c.args.others.now in
    decide own other c.told-bytes c.told-others c.fits-bytes c.fits-others 8 0 _ _ (omega arith) c.word_at-word.ensures c.word_at-other.ensures c.if-word-other.true
    refl

pub returns-then-word-other-2-clause-order : goal.returns-then-word-other-2-clause-order
returns-then-word-other-2-clause-order c =
    let own = c.args.bytes.now in
    let other = c.args.others.now in
    decide own other c.told-bytes c.told-others c.fits-bytes c.fits-others 8 8 _ _ (omega arith) c.word_at-word-2.ensures c.word_at-other-2.ensures c.if-word-other-2.true
    (pass own other c.told-bytes c.told-others c.fits-bytes c.fits-others 8 0 _ _ (omega arith) c.word_at-word.ensures c.word_at-other.ensures c.if-word-other.false
    refl)

pub returns-then-word-other-3-clause-order : goal.returns-then-word-other-3-clause-order
returns-then-word-other-3-clause-order c =
    let own = c.args.bytes.now in
    let other = c.args.others.now in
    decide own other c.told-bytes c.told-others c.fits-bytes c.fits-others 8 16 _ _ (omega arith) c.word_at-word-3.ensures c.word_at-other-3.ensures c.if-word-other-3.true
    (pass own other c.told-bytes c.told-others c.fits-bytes c.fits-others 8 8 _ _ (omega arith) c.word_at-word-2.ensures c.word_at-other-2.ensures c.if-word-other-2.false
    (pass own other c.told-bytes c.told-others c.fits-bytes c.fits-others 8 0 _ _ (omega arith) c.word_at-word.ensures c.word_at-other.ensures c.if-word-other.false
    refl))

pub returns-then-half-other-clause-order : goal.returns-then-half-other-clause-order
returns-then-half-other-clause-order c =
    let own = c.args.bytes.now in
    let other = c.args.others.now in
    (λ i. nat_cmp (c.from.ensures i) (c.from-then-half-other.ensures i))
    ∙ decide own other c.told-bytes c.told-others c.fits-bytes c.fits-others 4 24 _ _ (omega arith) c.half_at-half.ensures c.half_at-other.ensures c.if-half-other.true
    (pass own other c.told-bytes c.told-others c.fits-bytes c.fits-others 8 16 _ _ (omega arith) c.word_at-word-3.ensures c.word_at-other-3.ensures c.if-word-other-3.false
    (pass own other c.told-bytes c.told-others c.fits-bytes c.fits-others 8 8 _ _ (omega arith) c.word_at-word-2.ensures c.word_at-other-2.ensures c.if-word-other-2.false
    (pass own other c.told-bytes c.told-others c.fits-bytes c.fits-others 8 0 _ _ (omega arith) c.word_at-word.ensures c.word_at-other.ensures c.if-word-other.false
    refl)))

pub returns-then-quarter-other-clause-order : goal.returns-then-quarter-other-clause-order
returns-then-quarter-other-clause-order c =
    let own = c.args.bytes.now in
    let other = c.args.others.now in
    (λ i. nat_cmp (c.from-then-quarter-other.ensures i) (c.from-then-quarter-other-2.ensures i))
    ∙ last own other c.told-bytes c.told-others c.fits-bytes c.fits-others _ _ c.quarter_at-quarter.ensures c.quarter_at-other.ensures
    (pass own other c.told-bytes c.told-others c.fits-bytes c.fits-others 4 24 _ _ (omega arith) c.half_at-half.ensures c.half_at-other.ensures c.if-half-other.false
    (pass own other c.told-bytes c.told-others c.fits-bytes c.fits-others 8 16 _ _ (omega arith) c.word_at-word-3.ensures c.word_at-other-3.ensures c.if-word-other-3.false
    (pass own other c.told-bytes c.told-others c.fits-bytes c.fits-others 8 8 _ _ (omega arith) c.word_at-word-2.ensures c.word_at-other-2.ensures c.if-word-other-2.false
    (pass own other c.told-bytes c.told-others c.fits-bytes c.fits-others 8 0 _ _ (omega arith) c.word_at-word.ensures c.word_at-other.ensures c.if-word-other.false
    refl))))

pub returns-clause-same : goal.returns-clause-same
returns-clause-same c =
    let own = c.args.bytes.now in
    let other = c.args.others.now in
    same own other c.told-bytes c.told-others c.fits-bytes c.fits-others _ _ c.if-quarter-other.false
    (last own other c.told-bytes c.told-others c.fits-bytes c.fits-others _ _ c.quarter_at-quarter.ensures c.quarter_at-other.ensures
    (pass own other c.told-bytes c.told-others c.fits-bytes c.fits-others 4 24 _ _ (omega arith) c.half_at-half.ensures c.half_at-other.ensures c.if-half-other.false
    (pass own other c.told-bytes c.told-others c.fits-bytes c.fits-others 8 16 _ _ (omega arith) c.word_at-word-3.ensures c.word_at-other-3.ensures c.if-word-other-3.false
    (pass own other c.told-bytes c.told-others c.fits-bytes c.fits-others 8 8 _ _ (omega arith) c.word_at-word-2.ensures c.word_at-other-2.ensures c.if-word-other-2.false
    (pass own other c.told-bytes c.told-others c.fits-bytes c.fits-others 8 0 _ _ (omega arith) c.word_at-word.ensures c.word_at-other.ensures c.if-word-other.false
    refl)))))
