-- Writes that are put into segments one after another.
use Rattle.std.proofs.Common.{◌≡◌, ℕ, zero, suc, nat_eq, ◌+◌, ◌<◌, ◌≤◌, Bool, true, false, List, [], ◌∷◌, ◌++◌, length, take, get_or, ◌⊎◌, inl, inr, refl, sym, ap, subst, ◌∙◌, arith}
use Rattle.std.proofs.lemmas.Bool.{eq-eqb, eqb-true, false≢true, or_cases, or_left, or_right}
use Rattle.std.proofs.lemmas.Grind.{get_or_default_zero}
use Rattle.std.proofs.lemmas.List.{take_all, take_more}
use Rattle.std.proofs.lemmas.List.Elements.{All-get_or}
use Rattle.std.proofs.lemmas.List.Folds.{list_any-append}
use Rattle.std.specs.List.{list_any}
use Rattle.kv_core.specs.Change.{write_range, write_ranges}
use Rattle.kv_core.specs.Range.{contains, covers}
use Rattle.kv_core.specs.declared.change.CommitRequest.{CommitRequest}
use Rattle.kv_core.specs.declared.change.Mutation.{Mutation}
use Rattle.cluster_core.specs.Decision.{Owned, owns}
use Rattle.cluster_core.specs.Kept.{PutsEach, has_place, rise_between, writes_key}
use Rattle.cluster_core.specs.Segments.{IsCovered, Overlays}
use Rattle.cluster_core.proofs.Ownership.{any_of_map}
use Rattle.cluster_core.proofs.Rising.{rise_before}
use Rattle.cluster_core.proofs.InOrder.{Key, Run}

pub overlays_more : (first next all : Key → Bool) (place : ℕ) (a b c : Run) → ((key : Key) → first key ≡ true → all key ≡ true) → ((key : Key) → next key ≡ true → all key ≡ true) →
    Overlays first place a b → Overlays next place b c → Overlays all place a c
overlays_more first next all place a b c one two o p = record {
  holds = λ key at h. elim (p.holds key at h) [
    | inl before ↦ elim (o.holds key at before) [ inl there ↦ inl there | inr wrote ↦ inr (one key wrote.0, wrote.1) ]
    | inr wrote ↦ inr (two key wrote.0, wrote.1)
  ];
  kept = λ key at upto h. p.kept key at upto (o.kept key at upto h);
}

-- what the mutation at an index writes all of them write
at_index : {X : Type 0} (p : X → Bool) (xs : List X) (i : ℕ) (x : X) → i < length xs → x ≡ get_or xs i x → p x ≡ true → list_any p xs ≡ true
at_index p [] i x inside is passes = absurd (omega (arith, inside))
at_index p (y ∷ xs) zero x inside is passes = or_left (p y) (list_any p xs) (subst (λ z. p z ≡ true) is passes)
at_index p (y ∷ xs) (suc i) x inside is passes = or_right (p y) (list_any p xs) (at_index p xs i x (omega (arith, inside)) is passes)

-- what so many and one more write: what the ones before write, or what this one writes
one_more : {X : Type 0} (p : X → Bool) (xs : List X) (i : ℕ) (x : X) → i < length xs → x ≡ get_or xs i x → list_any p (take (i + 1) xs) ≡ true →
    (list_any p (take i xs) ≡ true) ⊎ (p x ≡ true)
one_more p xs i x inside is any =
    elim (or_cases (list_any p (take i xs)) (list_any p (x ∷ []))
    (sym (list_any-append p (take i xs) (x ∷ [])) ∙ ap (λ y. list_any p (take i xs ++ y ∷ [])) is ∙ ap (list_any p) (sym (take_more xs i x inside)) ∙ any)) [
      | inl before ↦ inl before
      | inr here ↦ elim (or_cases (p x) false here) [ inl now ↦ inr now | inr never ↦ absurd (false≢true never) ]
    ]

abbrev pub writes : Key → Mutation → Bool
writes key mutation = contains (write_range mutation) key

covers_is : (mutations : List Mutation) (key : Key) → list_any (writes key) mutations ≡ covers (write_ranges mutations) key
covers_is mutations key = any_of_map (λ r. contains r key) write_range mutations

-- the mutations so far are put under a place
pub record PutSo (owner : Owned) (mutations : List Mutation) (place i : ℕ) (old now : Run) : Type 0 where
  pub overlays : Overlays (covers (write_ranges mutations)) place old now
  pub covered : (key : Key) → owns owner key ≡ true → list_any (writes key) (take i mutations) ≡ true → IsCovered now key place

pub put_over : (mutations : List Mutation) (place i : ℕ) (old now next : Run) (m : Mutation) → i < length mutations → m ≡ get_or mutations i m →
    Overlays (contains (write_range m)) place now next → Overlays (covers (write_ranges mutations)) place old now → Overlays (covers (write_ranges mutations)) place old next
put_over mutations place i old now next m inside is overlays so =
    overlays_more (covers (write_ranges mutations)) (contains (write_range m)) (covers (write_ranges mutations)) place old now next (λ key h. h)
    (λ key h. sym (covers_is mutations key) ∙ at_index (writes key) mutations i m inside is h) so overlays

pub put_more : (owner : Owned) (mutations : List Mutation) (place i : ℕ) (old now next : Run) (m : Mutation) → i < length mutations → m ≡ get_or mutations i m →
    Overlays (contains (write_range m)) place now next → ((key : Key) → owns owner key ≡ true → contains (write_range m) key ≡ true → IsCovered next key place) →
    PutSo owner mutations place i old now → PutSo owner mutations place (i + 1) old next
put_more owner mutations place i old now next m inside is overlays covered so = record {
  overlays = put_over mutations place i old now next m inside is overlays so.overlays;
  covered = λ key own any. elim (one_more (writes key) mutations i m inside is any) [
    | inl before ↦ overlays.kept key place (omega arith) (so.covered key own before)
    | inr here ↦ covered key own here
  ];
}

pub put_end : (owner : Owned) (mutations : List Mutation) (place i : ℕ) (old now : Run) → length mutations ≤ i → PutSo owner mutations place i old now →
    (key : Key) → owns owner key ≡ true → covers (write_ranges mutations) key ≡ true → IsCovered now key place
put_end owner mutations place i old now all so key own written =
    so.covered key own (ap (list_any (writes key)) (take_all i mutations all) ∙ covers_is mutations key ∙ written)

-- the requests at the places so far are put under their places, but for those before the least one
pub record EachSo (owner : Owned) (requests : List CommitRequest) (least : ℕ) (places : List ℕ) (i : ℕ) (old now : Run) : Type 0 where
  pub puts : PutsEach requests places old now
  pub covered : (key : Key) (place : ℕ) → least ≤ place → has_place (take i places) place ≡ true → owns owner key ≡ true → writes_key requests place key ≡ true → IsCovered now key place

pub each_over : (requests : List CommitRequest) (places : List ℕ) (i place : ℕ) (old now next : Run) → i < length places → place ≡ get_or places i 0 →
    Overlays (writes_key requests place) place now next → PutsEach requests places old now → PutsEach requests places old next
each_over requests places i place old now next inside here overlays puts = record {
  holds = λ key at h. elim (overlays.holds key at h) [
    | inl before ↦ puts.holds key at before
    | inr wrote ↦ inr (
      at_index (nat_eq at) places i at inside (wrote.1 ∙ here ∙ sym (get_or_default_zero places i at inside)) (eq-eqb at at refl),
      subst (λ p. writes_key requests p key ≡ true) (sym wrote.1) wrote.0,
    )
  ];
  kept = λ key at upto h.
      let le : at ≤ get_or places i 0 = All-get_or (λ p. at ≤ p) places i 0 inside upto in
      overlays.kept key at (omega (arith, le, here)) (puts.kept key at upto h);
}

pub each_skipped : (owner : Owned) (requests : List CommitRequest) (least : ℕ) (places : List ℕ) (i place : ℕ) (old now : Run) → i < length places → place ≡ get_or places i 0 →
    place < least → EachSo owner requests least places i old now → EachSo owner requests least places (i + 1) old now
each_skipped owner requests least places i place old now inside here early so = record {
  puts = so.puts;
  covered = λ key at from any own wrote. elim (one_more (nat_eq at) places i (get_or places i 0) inside (sym (get_or_default_zero places i (get_or places i 0) inside)) any) [
    | inl before ↦ so.covered key at from before own wrote
    | inr now' ↦
        let same : at ≡ place = eqb-true at (get_or places i 0) now' ∙ sym here in
        absurd (omega (arith, same, early, from))
  ];
}

pub each_more : (owner : Owned) (requests : List CommitRequest) (least : ℕ) (places : List ℕ) (i place : ℕ) (old now next : Run) →
    rise_between 0 (length requests) places ≡ true → i < length places → place ≡ get_or places i 0 → Overlays (writes_key requests place) place now next →
    (least ≤ place → (key : Key) → owns owner key ≡ true → writes_key requests place key ≡ true → IsCovered next key place) →
    EachSo owner requests least places i old now → EachSo owner requests least places (i + 1) old next
each_more owner requests least places i place old now next rising inside here overlays covered so = record {
  puts = each_over requests places i place old now next inside here overlays so.puts;
  covered = λ key at from any own wrote. elim (one_more (nat_eq at) places i (get_or places i 0) inside (sym (get_or_default_zero places i (get_or places i 0) inside)) any) [
    | inl before ↦
        let earlier = rise_before 0 (length requests) places i at rising inside before in
        overlays.kept key at (omega (arith, earlier, here)) (so.covered key at from before own wrote)
    | inr now' ↦
        let same : at ≡ place = eqb-true at (get_or places i 0) now' ∙ sym here in
        subst (IsCovered next key) (sym same) (covered (omega (arith, same, from)) key own (subst (λ p. writes_key requests p key ≡ true) same wrote))
  ];
}
