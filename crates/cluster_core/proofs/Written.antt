-- Writes at the version to come, and what takes them back.
use Rattle.std.proofs.Common.{arith, ◌≡◌, ℕ, ◌+◌, ◌<◌, ◌≤◌, ◌==◌, nat_le, Bool, true, false, cond, ◌||◌, Option, None, Some, Result, Ok, Err, OnOk, OnErr, get_or, length, take, List, [], ◌∷◌, ◌++◌, inl, inr, refl, sym, ap, subst, ◌∙◌}
use Rattle.std.proofs.lemmas.Bool.{cases_Bool, or_parts, eq-eqb, eqb-true, le-leb, leb-true, ne_eqb}
use Rattle.std.proofs.lemmas.List.Folds.{list_any-append}
use Rattle.std.proofs.lemmas.List.{take_all, take_more}
use Rattle.std.specs.BTreeMap.{BTreeMap}
use Rattle.std.specs.Ordering.{is_eq}
use Rattle.kv_core.specs.Bytes.{has_key, key_cmp}
use Rattle.kv_core.proofs.Order.{tied_swap}
use Rattle.kv_core.proofs.Stored.{taken_more}
use Rattle.cluster_core.specs.declared.chain.Chain.{Chain}
use Rattle.cluster_core.specs.declared.chain.Link.{Link}
use Rattle.cluster_core.specs.Chains.{AreBelow, AreFalling, Falls, IsFalling, Writes, links_at, needed, present, put, value_at, without}
use Rattle.cluster_core.proofs.ChainMaps.{ChangesAt}
use Rattle.cluster_core.proofs.Links.{falling_from_falls, falls_from_falling}
use Rattle.cluster_core.proofs.Shown.{value_at-put}

abbrev Tree : Type 0
Tree = BTreeMap (List ℕ) Chain

-- what is put at a version is no part of the links without it
pub without-put : (version : ℕ) (value : Option (List ℕ)) (links : List Link) → without version (put version value links) ≡ without version links
without-put version value links = ap (λ b. cond b (without version links) (put version value links)) (eq-eqb version version refl)

-- a key that isn't in a longer list is in no part of it
pub key_push : (keys : List (List ℕ)) (key own : List ℕ) → has_key (keys ++ key ∷ []) own ≡ false → (has_key keys own ≡ false) × (is_eq (key_cmp key own) ≡ false)
key_push keys key own h =
    let parts = or_parts (has_key keys own) (has_key (key ∷ []) own) (sym (list_any-append (λ k. is_eq (key_cmp own k)) keys (key ∷ [])) ∙ h) in
    (parts.0, tied_swap key own ∙ (or_parts (is_eq (key_cmp own key)) false parts.1).0)

-- one write more, done or left
pub write_done : (version : ℕ) (value : Option (List ℕ)) (listed relisted : List (List ℕ)) (key : List ℕ) (old new : Tree) → relisted ≡ listed ++ key ∷ [] →
    ChangesAt key (put version value) old new → Writes version listed old relisted new
write_done version value listed relisted key old new is changes = record {
  kept = λ own. ap (without version) (changes own) ∙ kept_by (is_eq (key_cmp key own)) (links_at old own);
  same = λ own other.
      let parts = key_push listed key own (sym (ap (λ keys. has_key keys own) is) ∙ other) in
      (parts.0, changes own ∙ ap (λ b. cond b (put version value (links_at old own)) (links_at old own)) parts.1);
}
  where
    kept_by : (b : Bool) (links : List Link) → without version (cond b (put version value links) links) ≡ without version links
    kept_by true links = without-put version value links
    kept_by false links = refl

pub write_left : (version : ℕ) (listed relisted : List (List ℕ)) (key : List ℕ) (old new : Tree) → relisted ≡ listed ++ key ∷ [] →
    ((own : List ℕ) → links_at new own ≡ links_at old own) → Writes version listed old relisted new
write_left version listed relisted key old new is nothing = record {
  kept = λ own. ap (without version) (nothing own);
  same = λ own other. ((key_push listed key own (sym (ap (λ keys. has_key keys own) is) ∙ other)).0, nothing own);
}

pub Writes-refl : (version : ℕ) (listed relisted : List (List ℕ)) (old new : Tree) → relisted ≡ listed → new ≡ old → Writes version listed old relisted new
Writes-refl version listed relisted old new is same = record {
  kept = λ own. ap (λ t. without version (links_at t own)) same;
  same = λ own other. (sym (ap (λ keys. has_key keys own) is) ∙ other, ap (λ t. links_at t own) same);
}

pub Writes-trans : (version : ℕ) (xs ys zs : List (List ℕ)) (old mid new : Tree) → Writes version xs old ys mid → Writes version ys mid zs new → Writes version xs old zs new
Writes-trans version xs ys zs old mid new a b = record {
  kept = λ own. b.kept own ∙ a.kept own;
  same = λ own other.
      let late = b.same own other in
      let early = a.same own late.0 in
      (early.0, late.1 ∙ early.1);
}

-- versions that fall below a version fall with a link of it too
falling_with : (version : ℕ) (links : List Link) → Falls version (without version links) → IsFalling links
falling_with version [] falls = tt
falling_with version (link ∷ links) falls = elim (cases_Bool (link.version == version)) [
  | inl here ↦
      let own : link.version ≡ version = eqb-true link.version version here in
      subst (λ v. Falls v links) (sym own) (subst (λ b. Falls version (cond b links (link ∷ links))) here falls)
  | inr other ↦ (subst (λ b. Falls version (cond b links (link ∷ links))) other falls).1
]

pub below_falling : (version : ℕ) (chains : Tree) → AreBelow version chains → AreFalling chains
below_falling version chains below key = falling_with version (links_at chains key) (below key)

pub below_after : (version : ℕ) (xs ys : List (List ℕ)) (old new : Tree) → AreBelow version old → Writes version xs old ys new → AreBelow version new
below_after version xs ys old new below writes key = subst (Falls version) (sym (writes.kept key)) (below key)

-- what follows from a value as from an error
pub either_result : {T E P Q R : Type 0} (r : Result T E) → (P → R) → (Q → R) → OnOk r P → OnErr r Q → R
either_result (Ok x) f g a b = f a
either_result (Err e) f g a b = g b

-- a list of keys with one more
has_more : (keys : List (List ℕ)) (i : ℕ) (k q : List ℕ) → i < length keys → k ≡ get_or keys i k → has_key (take (i + 1) keys) q ≡ (has_key (take i keys) q || (is_eq (key_cmp k q) || false))
has_more keys i k q below is =
    ap (λ ks. has_key ks q) (take_more keys i k below) ∙ list_any-append (λ own. is_eq (key_cmp q own)) (take i keys) (get_or keys i k ∷ [])
    ∙ ap (λ b. has_key (take i keys) q || (b || false)) (ap (λ x. is_eq (key_cmp q x)) (sym is) ∙ tied_swap q k)

-- the same change at one key after another
pub changed_more : (f : List Link → List Link) (keys : List (List ℕ)) (i : ℕ) (k : List ℕ) (first old new : Tree) → ((q : List ℕ) → f (f (links_at first q)) ≡ f (links_at first q)) →
    i < length keys → k ≡ get_or keys i k → ((q : List ℕ) → links_at old q ≡ cond (has_key (take i keys) q) (f (links_at first q)) (links_at first q)) → ChangesAt k f old new →
    (q : List ℕ) → links_at new q ≡ cond (has_key (take (i + 1) keys) q) (f (links_at first q)) (links_at first q)
changed_more f keys i k first old new again below is before changes q =
    changes q ∙ ap (λ links. cond (is_eq (key_cmp k q)) (f links) links) (before q)
    ∙ both (is_eq (key_cmp k q)) (has_key (take i keys) q) (links_at first q) (again q)
    ∙ ap (λ b. cond b (f (links_at first q)) (links_at first q)) (sym (has_more keys i k q below is))
  where
    both : (a b : Bool) (links : List Link) → f (f links) ≡ f links →
        cond a (f (cond b (f links) links)) (cond b (f links) links) ≡ cond (b || (a || false)) (f links) links
    both true true links h = h
    both true false links h = refl
    both false true links h = refl
    both false false links h = refl

-- the values of one key after another are taken out
pub cleared_more : (v : ℕ) (keys : List (List ℕ)) (i : ℕ) (k : List ℕ) (first old new : Tree) → i < length keys → k ≡ get_or keys i k →
    ((q : List ℕ) → value_at v (links_at old q) ≡ cond (has_key (take i keys) q) None (value_at v (links_at first q))) → ChangesAt k (put v None) old new →
    (q : List ℕ) → value_at v (links_at new q) ≡ cond (has_key (take (i + 1) keys) q) None (value_at v (links_at first q))
cleared_more v keys i k first old new below is before changes q =
    taken_more keys i k q (value_at v (links_at first q)) (value_at v (links_at old q)) (value_at v (links_at new q)) below is (before q)
    (ap (value_at v) (changes q)
    ∙ elim (is_eq (key_cmp k q)) as (λ b. value_at v (cond b (put v None (links_at old q)) (links_at old q)) ≡ cond b None (value_at v (links_at old q))) [
      | true ↦ value_at-put v None (links_at old q)
      | false ↦ refl
    ])

pub without_again : (version : ℕ) (links : List Link) → Falls version links → without version links ≡ links
without_again version [] falls = refl
without_again version (link ∷ links) falls =
    let below = falls.0 in ap (λ b. cond b links (link ∷ links)) (ne_eqb link.version version (λ same. omega (arith, same, below)))

pub without_twice : (version : ℕ) (chains : Tree) → AreBelow version chains → (q : List ℕ) → without version (without version (links_at chains q)) ≡ without version (links_at chains q)
without_twice version chains below q = without_again version (without version (links_at chains q)) (below q)

needed_present : (floor version : ℕ) (value : Option (List ℕ)) → version ≤ floor → needed floor (present version value) ≡ present version value
needed_present floor version None below = refl
needed_present floor version (Some x) below = ap (λ b. cond b (present version (Some x)) (record { version = version; value = Some x } ∷ [])) (le-leb version floor below)

pub needed_again : (floor : ℕ) (links : List Link) → needed floor (needed floor links) ≡ needed floor links
needed_again floor [] = refl
needed_again floor (link ∷ links) = elim (cases_Bool (nat_le link.version floor)) [
  | inl old ↦
      ap (λ b. needed floor (cond b (present link.version link.value) (link ∷ needed floor links))) old
      ∙ needed_present floor link.version link.value (leb-true link.version floor old)
      ∙ sym (ap (λ b. cond b (present link.version link.value) (link ∷ needed floor links)) old)
  | inr new ↦
      ap (λ b. needed floor (cond b (present link.version link.value) (link ∷ needed floor links))) new
      ∙ ap (λ b. cond b (present link.version link.value) (link ∷ needed floor (needed floor links))) new
      ∙ ap (λ ls. link ∷ ls) (needed_again floor links)
      ∙ sym (ap (λ b. cond b (present link.version link.value) (link ∷ needed floor links)) new)
]

-- what is left where all that was written is taken back
pub all_taken : (version : ℕ) (written : List (List ℕ)) (n : ℕ) (old new : Tree) → length written ≤ n →
    ((key : List ℕ) → has_key written key ≡ false → without version (links_at old key) ≡ links_at old key) →
    ((key : List ℕ) → links_at new key ≡ cond (has_key (take n written) key) (without version (links_at old key)) (links_at old key)) →
    (key : List ℕ) → links_at new key ≡ without version (links_at old key)
all_taken version written n old new all same done key =
    done key ∙ ap (λ ks. cond (has_key ks key) (without version (links_at old key)) (links_at old key)) (take_all n written all)
    ∙ elim (cases_Bool (has_key written key)) [
      | inl there ↦ ap (λ b. cond b (without version (links_at old key)) (links_at old key)) there
      | inr other ↦ ap (λ b. cond b (without version (links_at old key)) (links_at old key)) other ∙ sym (same key other)
    ]

pub falls_needed : (floor bound : ℕ) (links : List Link) → Falls bound links → Falls bound (needed floor links)
falls_needed floor bound [] falls = tt
falls_needed floor bound (link ∷ links) falls =
    elim (nat_le link.version floor) as (λ b. Falls bound (cond b (present link.version link.value) (link ∷ needed floor links))) [
      | true ↦ falls_present link.value falls.0
      | false ↦ (falls.0, falls_needed floor link.version links falls.1)
    ]
  where
    falls_present : (o : Option (List ℕ)) → link.version < bound → Falls bound (present link.version o)
    falls_present None below = tt
    falls_present (Some x) below = (below, tt)

falling_needed : (floor : ℕ) (links : List Link) → IsFalling links → IsFalling (needed floor links)
falling_needed floor links falling = let h = falls_from_falling links falling in falling_from_falls h.0 (needed floor links) (falls_needed floor h.0 links h.1)

pub settled_falling : (floor : ℕ) (keys : List (List ℕ)) (first old : Tree) → AreFalling first →
    ((q : List ℕ) → links_at old q ≡ cond (has_key keys q) (needed floor (links_at first q)) (links_at first q)) → AreFalling old
settled_falling floor keys first old falling settled q =
    subst IsFalling (sym (settled q))
    (elim (has_key keys q) as (λ b. IsFalling (cond b (needed floor (links_at first q)) (links_at first q))) [ true ↦ falling_needed floor (links_at first q) (falling q) | false ↦ falling q ])
