-- Chains by their keys, and what one key's change makes of them.
use Rattle.std.proofs.Common.{inl, inr, ◌≡◌, ℕ, cond, Option, List, [], sym, ap, subst, ◌∙◌}
use Rattle.std.proofs.lemmas.Bool.{cases_Bool}
use Rattle.std.specs.BTreeMap.{BTreeMap, UpdatesBy, get}
use Rattle.std.specs.Ordering.{is_eq}
use Rattle.kv_core.specs.Bytes.{key_cmp}
use Rattle.kv_core.proofs.Order.{tied_keys}
use Rattle.cluster_core.specs.declared.chain.Chain.{Chain}
use Rattle.cluster_core.specs.declared.chain.Link.{Link}
use Rattle.cluster_core.specs.Chains.{links_at, links_in}
use Rattle.cluster_core.proofs.OwnMaps.{either_way}

abbrev Tree : Type 0
Tree = BTreeMap (List ℕ) Chain

-- at a key alone the links are others
abbrev pub ChangesAt : List ℕ → (List Link → List Link) → Tree → Tree → Type 0
ChangesAt key f old new = (own : List ℕ) → links_at new own ≡ cond (is_eq (key_cmp key own)) (f (links_at old own)) (links_at old own)

pub changes_at : (key : List ℕ) (f : List Link → List Link) (old new : Tree) (w : Option Chain) → UpdatesBy key_cmp (key_cmp key) old new w →
    links_in w ≡ f (links_at old key) → ChangesAt key f old new
changes_at key f old new w h is own = ap links_in (h.0 own) ∙ elim (cases_Bool (is_eq (key_cmp key own))) [
  | inl here ↦
      ap (λ b. links_in (cond b w (get key_cmp old own))) here ∙ is ∙ ap (λ k. f (links_at old k)) (tied_keys key own here)
      ∙ sym (ap (λ b. cond b (f (links_at old own)) (links_at old own)) here)
  | inr other ↦ ap (λ b. links_in (cond b w (get key_cmp old own))) other ∙ sym (ap (λ b. cond b (f (links_at old own)) (links_at old own)) other)
]

-- a key that has no links has none after a change that makes some of them alone
pub changes_none : (key : List ℕ) (f : List Link → List Link) (old new : Tree) → new ≡ old → links_at old key ≡ [] → f [] ≡ [] → ChangesAt key f old new
changes_none key f old new same none empty own = ap (λ t. links_at t own) same ∙ elim (cases_Bool (is_eq (key_cmp key own))) [
  | inl here ↦
      let nothing : links_at old own ≡ [] = ap (links_at old) (sym (tied_keys key own here)) ∙ none in
      nothing ∙ sym empty ∙ sym (ap f nothing) ∙ sym (ap (λ b. cond b (f (links_at old own)) (links_at old own)) here)
  | inr other ↦ sym (ap (λ b. cond b (f (links_at old own)) (links_at old own)) other)
]

-- two changes at a key, one after the other
pub changes_twice : (key : List ℕ) (f g h : List Link → List Link) (old mid new : Tree) → ChangesAt key f old mid → ChangesAt key g mid new →
    g (f (links_at old key)) ≡ h (links_at old key) → ChangesAt key h old new
changes_twice key f g h old mid new first second is own = second own ∙ elim (cases_Bool (is_eq (key_cmp key own))) [
  | inl here ↦
      ap (λ b. cond b (g (links_at mid own)) (links_at mid own)) here ∙ ap g (first own ∙ ap (λ b. cond b (f (links_at old own)) (links_at old own)) here)
      ∙ subst (λ k. g (f (links_at old k)) ≡ h (links_at old k)) (tied_keys key own here) is
      ∙ sym (ap (λ b. cond b (h (links_at old own)) (links_at old own)) here)
  | inr other ↦
      ap (λ b. cond b (g (links_at mid own)) (links_at mid own)) other ∙ first own ∙ ap (λ b. cond b (f (links_at old own)) (links_at old own)) other
      ∙ sym (ap (λ b. cond b (h (links_at old own)) (links_at old own)) other)
]

pub changes_nothing : (key : List ℕ) (old new : Tree) (w : Option Chain) → UpdatesBy key_cmp (key_cmp key) old new w → links_in w ≡ links_at old key →
    (own : List ℕ) → links_at new own ≡ links_at old own
changes_nothing key old new w h is own = changes_at key (λ links. links) old new w h is own ∙ either_way (is_eq (key_cmp key own)) (links_at old own)
