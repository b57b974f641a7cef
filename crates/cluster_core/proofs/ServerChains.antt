-- What a server keeps of a key, from one version to the next.
use Rattle.std.proofs.Common.{arith, ◌≡◌, ℕ, suc, ◌+◌, ◌-◌, ◌<◌, ◌≤◌, ◌==◌, nat_le, true, false, cond, Option, None, Some, List, [], ◌∷◌, ◌++◌, length, inl, inr, refl, sym, ap, subst, ◌∙◌, unwrap_or}
use Rattle.std.proofs.lemmas.Bool.{true≢false, cases_Bool, cases_lt, eqb-true, le-leb, lt-leb, leb-true, leb-false}
use Rattle.std.proofs.lemmas.List.{length_push}
use Rattle.std.specs.List.{AllByRecursion}
use Rattle.kv_core.specs.Bytes.{has_key}
use Rattle.cluster_core.specs.declared.chain.Link.{Link}
use Rattle.cluster_core.specs.Chains.{Falls, needed, present, value_at, without}
use Rattle.cluster_core.specs.Server.{IsChain, written_back}
use Rattle.cluster_core.proofs.Keeping.{get_before, get_last}
use Rattle.cluster_core.proofs.Written.{falls_needed, needed_again}

abbrev Keys : Type 0
Keys = List (List ℕ)

falls_wider : (bound wide : ℕ) (links : List Link) → bound ≤ wide → Falls bound links → Falls wide links
falls_wider bound wide [] h falls = tt
falls_wider bound wide (link ∷ links) h falls = let below = falls.0 in (omega (arith, h, below), falls.1)

-- what holds of the links of versions below a bound
below_all : (P Q : ℕ → Type 0) (bound : ℕ) (links : List Link) → ((v : ℕ) → v < bound → P v → Q v) → Falls bound links → AllByRecursion (λ l. P l.version) links → AllByRecursion (λ l. Q l.version) links
below_all P Q bound [] f falls all = tt
below_all P Q bound (link ∷ links) f falls all =
    (f link.version falls.0 all.0, below_all P Q link.version links (λ v h. let below = falls.0 in f v (omega (arith, h, below))) falls.1 all.1)

-- the links of a key that the next version doesn't write
still_chain : (version : ℕ) (recent : List Keys) (written : Keys) (key : List ℕ) (links : List Link) → IsChain version recent key links → IsChain (version + 1) (written ∷ recent) key links
still_chain version recent written key links is = record {
  falls = falls_wider (version + 1) (version + 1 + 1) links (omega arith) is.falls;
  needed = let floor : (version + 1) - suc (length recent) ≡ version - length recent = omega arith in ap (λ n. needed n links) floor ∙ is.needed;
  listed = below_all (λ v. version - length recent < v → has_key (written_back recent (version - v)) key ≡ true)
      (λ v. (version + 1) - suc (length recent) < v → has_key (written_back (written ∷ recent) ((version + 1) - v)) key ≡ true) (version + 1) links
      (λ v below listed after.
      let back : (version + 1) - v ≡ suc (version - v) = omega (arith, below) in
      ap (λ n. has_key (written_back (written ∷ recent) n) key) back ∙ listed (omega (arith, after)))
      is.falls is.listed;
}

-- the next version's link in front
new_chain : (version : ℕ) (recent : List Keys) (written : Keys) (key : List ℕ) (link : Link) (links : List Link) → link.version ≡ version + 1 → has_key written key ≡ true →
    IsChain version recent key links → IsChain (version + 1) (written ∷ recent) key (link ∷ links)
new_chain version recent written key link links own listed is =
    let still = still_chain version recent written key links is in
    let past : (version + 1) - suc (length recent) < link.version = omega (arith, own) in record {
      falls = (omega (arith, own), subst (λ v. Falls v links) (sym own) is.falls);
      needed = ap (λ b. cond b (present link.version link.value) (link ∷ needed ((version + 1) - suc (length recent)) links)) (lt-leb link.version ((version + 1) - suc (length recent)) past)
          ∙ ap (λ ls. link ∷ ls) still.needed;
      listed = (λ after. let here : (version + 1) - link.version ≡ 0 = omega (arith, own) in ap (λ n. has_key (written_back (written ∷ recent) n) key) here ∙ listed, still.listed);
    }

shorter : (links : List Link) (link : Link) → links ≡ link ∷ links → ⊥
shorter links link same = let n : length links ≡ suc (length links) = ap length same in omega (arith, n)

pub pushed_chain : (version : ℕ) (recent : List Keys) (written : Keys) (key : List ℕ) (links : List Link) → IsChain version recent key (without (version + 1) links) →
    (has_key written key ≡ false → without (version + 1) links ≡ links) → IsChain (version + 1) (written ∷ recent) key links
pushed_chain version recent written key [] is same = still_chain version recent written key [] is
pushed_chain version recent written key (link ∷ links) is same = elim (cases_Bool (link.version == version + 1)) [
  | inl here ↦
      let rest : without (version + 1) (link ∷ links) ≡ links = ap (λ b. cond b links (link ∷ links)) here in
      let listed : has_key written key ≡ true = elim (cases_Bool (has_key written key)) [
        | inl there ↦ there
        | inr other ↦ absurd (shorter links link (sym rest ∙ same other))
      ] in
      new_chain version recent written key link links (eqb-true link.version (version + 1) here) listed (subst (IsChain version recent key) rest is)
  | inr older ↦ still_chain version recent written key (link ∷ links) (subst (IsChain version recent key) (ap (λ b. cond b links (link ∷ links)) older) is)
]

-- the needed links are some of the links
needed_all_of : (Q : ℕ → Type 0) (floor : ℕ) (links : List Link) → AllByRecursion (λ l. Q l.version) links → AllByRecursion (λ l. Q l.version) (needed floor links)
needed_all_of Q floor [] all = tt
needed_all_of Q floor (link ∷ links) all =
    elim (nat_le link.version floor) as (λ b. AllByRecursion (λ l. Q l.version) (cond b (present link.version link.value) (link ∷ needed floor links))) [
      | true ↦ one link.value
      | false ↦ (all.0, needed_all_of Q floor links all.1)
    ]
  where
    one : (o : Option (List ℕ)) → AllByRecursion (λ (l : Link). Q l.version) (present link.version o)
    one None = tt
    one (Some x) = (all.0, tt)

-- the oldest list is dropped, and what it alone made needed
pub trimmed_chain : (version : ℕ) (front : List Keys) (last : Keys) (key : List ℕ) (links : List Link) → IsChain version (front ++ last ∷ []) key links →
    IsChain version front key (needed (version - length front) links)
trimmed_chain version front last key links is =
    let count : length (front ++ last ∷ []) ≡ length front + 1 = length_push front last in record {
      falls = falls_needed (version - length front) (version + 1) links is.falls;
      needed = needed_again (version - length front) links;
      listed = needed_all_of (λ v. version - length front < v → has_key (written_back front (version - v)) key ≡ true) (version - length front) links
          (below_all (λ v. version - length (front ++ last ∷ []) < v → has_key (written_back (front ++ last ∷ []) (version - v)) key ≡ true)
          (λ v. version - length front < v → has_key (written_back front (version - v)) key ≡ true) (version + 1) links
          (λ v below listed after.
          sym (ap (λ o. has_key (unwrap_or o []) key) (get_before front (last ∷ []) (version - v) (omega (arith, after, below)))) ∙ listed (omega (arith, after, count)))
          is.falls is.listed);
    }

needed_same : (floor other : ℕ) (links : List Link) → AllByRecursion (λ l. nat_le l.version floor ≡ nat_le l.version other) links → needed floor links ≡ needed other links
needed_same floor other [] all = refl
needed_same floor other (link ∷ links) all = (λ i. cond (all.0 i) (present link.version link.value) (link ∷ needed_same floor other links all.1 i))

-- a key that the dropped list doesn't have keeps its links
pub unlisted_chain : (version : ℕ) (front : List Keys) (last : Keys) (key : List ℕ) (links : List Link) → IsChain version (front ++ last ∷ []) key links → has_key last key ≡ false →
    needed (version - length front) links ≡ links
unlisted_chain version front last key links is other =
    let count : length (front ++ last ∷ []) ≡ length front + 1 = length_push front last in
    needed_same (version - length front) (version - length (front ++ last ∷ [])) links
    (below_all (λ v. version - length (front ++ last ∷ []) < v → has_key (written_back (front ++ last ∷ []) (version - v)) key ≡ true)
    (λ v. nat_le v (version - length front) ≡ nat_le v (version - length (front ++ last ∷ []))) (version + 1) links
    (λ v below listed. elim (cases_lt (version - length (front ++ last ∷ [])) v) [
      | inl after ↦ elim (cases_lt (version - length front) v) [
        | inl past ↦ lt-leb v (version - length front) past ∙ sym (lt-leb v (version - length (front ++ last ∷ [])) after)
        | inr upto ↦
            let back : version - v ≡ length front = omega (arith, after, upto, count) in
            absurd (true≢false (sym (listed after) ∙ ap (λ n. has_key (written_back (front ++ last ∷ []) n) key) back ∙ ap (λ o. has_key (unwrap_or o []) key) (get_last front last) ∙ other))
      ]
      | inr upto ↦ le-leb v (version - length front) (omega (arith, upto, count)) ∙ sym (le-leb v (version - length (front ++ last ∷ [])) upto)
    ])
    is.falls is.listed)
    ∙ is.needed

-- no more links than versions that need them
needed_count : (floor bound : ℕ) (links : List Link) → Falls bound links → length (needed floor links) ≤ suc (bound - suc floor)
needed_count floor bound [] falls = omega arith
needed_count floor bound (link ∷ links) falls = elim (cases_Bool (nat_le link.version floor)) [
  | inl old ↦
      let one = present_one link.value in
      subst (λ ls. length ls ≤ suc (bound - suc floor)) (sym (ap (λ b. cond b (present link.version link.value) (link ∷ needed floor links)) old)) (omega (arith, one))
  | inr new ↦
      let more = needed_count floor link.version links falls.1 in
      let below = falls.0 in
      let past = leb-false link.version floor new in
      subst (λ ls. length ls ≤ suc (bound - suc floor)) (sym (ap (λ b. cond b (present link.version link.value) (link ∷ needed floor links)) new)) (omega (arith, more, below, past))
]
  where
    present_one : (o : Option (List ℕ)) → length (present link.version o) ≤ 1
    present_one None = omega arith
    present_one (Some x) = omega arith

pub short_chain : (version : ℕ) (recent : List Keys) (key : List ℕ) (links : List Link) → IsChain version recent key links → length links ≤ length recent + 1
short_chain version recent key links is =
    let h = needed_count (version - length recent) (version + 1) links is.falls in
    subst (λ ls. length ls ≤ length recent + 1) is.needed (omega (arith, h))

-- the value at a version, whatever is needed from it on, or is put after it
pub value-needed : (floor v : ℕ) (links : List Link) → floor ≤ v → value_at v (needed floor links) ≡ value_at v links
value-needed floor v [] h = refl
value-needed floor v (link ∷ links) h = elim (cases_Bool (nat_le link.version floor)) [
  | inl old ↦
      let below = leb-true link.version floor old in
      let upto : nat_le link.version v ≡ true = le-leb link.version v (omega (arith, below, h)) in
      ap (λ b. value_at v (cond b (present link.version link.value) (link ∷ needed floor links))) old ∙ one link.value upto
      ∙ sym (ap (λ b. cond b link.value (value_at v links)) upto)
  | inr new ↦
      ap (λ b. value_at v (cond b (present link.version link.value) (link ∷ needed floor links))) new
      ∙ ap (cond (nat_le link.version v) link.value) (value-needed floor v links h)
]
  where
    one : (o : Option (List ℕ)) → nat_le link.version v ≡ true → value_at v (present link.version o) ≡ o
    one None upto = refl
    one (Some x) upto = ap (λ b. cond b (Some x) None) upto

pub value-without : (version v : ℕ) (links : List Link) → v < version → value_at v (without version links) ≡ value_at v links
value-without version v [] h = refl
value-without version v (link ∷ links) h = elim (cases_Bool (link.version == version)) [
  | inl here ↦
      let own = eqb-true link.version version here in
      ap (λ b. value_at v (cond b links (link ∷ links))) here
      ∙ sym (ap (λ b. cond b link.value (value_at v links)) (lt-leb link.version v (omega (arith, own, h))))
  | inr other ↦ ap (λ b. value_at v (cond b links (link ∷ links))) other
]

pub value-next : (version : ℕ) (links : List Link) → Falls (version + 1) links → value_at (version + 1) links ≡ value_at version links
value-next version [] falls = refl
value-next version (link ∷ links) falls =
    let below = falls.0 in
    ap (λ b. cond b link.value (value_at (version + 1) links)) (le-leb link.version (version + 1) (omega (arith, below)))
    ∙ sym (ap (λ b. cond b link.value (value_at version links)) (le-leb link.version version (omega (arith, below))))
