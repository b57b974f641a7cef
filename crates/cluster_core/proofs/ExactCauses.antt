-- The cause against an entry: at the first owner that doesn't agree, the first range read that was written, and the newest version that wrote there.
use Rattle.std.proofs.Common.{◌≡◌, ℕ, ◌+◌, ◌-◌, ◌<◌, ◌≤◌, Bool, true, cond, nat_lt, nat_le, ◌&&◌, ◌||◌, not, Option, None, Some, is_none, List, [], ◌∷◌, ◌++◌, inl, inr, refl, sym, ap, subst, ◌∙◌, reverse, arith}
use Rattle.std.proofs.lemmas.Bool.{true≢false, and_from, and_parts, or_cases, or_left, or_right, not-true, not_from_false, ltb-true, leb-true, le-leb, cases_Bool}
use Rattle.std.proofs.lemmas.List.{reverse-append}
use Rattle.std.proofs.lemmas.List.Elements.{recursion_from_All, All-from_recursion}
use Rattle.std.specs.List.{AllByRecursion, list_all, find}
use Rattle.std.specs.Option.{option_map, option_or}
use Rattle.kv_core.specs.Range.{KeyRange}
use Rattle.cluster_core.specs.History.{Entry, until, IsRising}
use Rattle.cluster_core.specs.Decision.{Owned, owners, disturbs, writes_in, agreed_above, newer_agreed, agrees, Cause, cause, first_disturbed, first_cause, seen_in}
use Rattle.cluster_core.specs.Laws.{ReadsBelow, Counts, IsUnwritten, IsNewestIn, CauseIsExact}
use Rattle.cluster_core.proofs.Versions.{until-suc, until-none, In}
use Rattle.cluster_core.proofs.Legality.{up, Has, agreed_has}
use Rattle.cluster_core.proofs.Causes.{Told, all_told, positive, agrees-none, none-find, In-from, Contains-from}

-- the versions strictly fall
abbrev Falls : List Entry → Type 0
Falls [] = Unit {0}
Falls (e ∷ es) = AllByRecursion (λ later. later.version < e.version) es × Falls es

by_weaker : {X : Type 0} (P Q : X → Type 0) → ((x : X) → P x → Q x) → (xs : List X) → AllByRecursion P xs → AllByRecursion Q xs
by_weaker P Q weaker [] all = tt
by_weaker P Q weaker (x ∷ xs) all = (weaker x all.0, by_weaker P Q weaker xs all.1)

-- where nothing is found no element passes
none_found : {X : Type 0} (p : X → Bool) (xs : List X) → find p xs ≡ None → list_all (λ x. not (p x)) xs ≡ true
none_found p xs none = sym (none-find p xs) ∙ ap is_none none

-- what is found passes, and has what all have
found_has : (Q : Entry → Type 0) (p : Entry → Bool) (w : Entry) (xs : List Entry) → AllByRecursion Q xs → find p xs ≡ Some w → Q w × (p w ≡ true)
found_has Q p w [] all found = absurd (cc)
found_has Q p w (x ∷ xs) all found = elim (cases_Bool (p x)) [
  | inl passes ↦
      let same : x ≡ w = let e : cond (p x) (Some x) (find p xs) ≡ Some x = ap (λ b. cond b (Some x) (find p xs)) passes in cc in
      (subst Q same all.0, subst (λ y. p y ≡ true) same passes)
  | inr fails ↦ found_has Q p w xs all.1 (sym (ap (λ b. cond b (Some x) (find p xs)) fails) ∙ found)
]

-- none that passes is newer than the one found, where the versions fall
abbrev older : (Entry → Bool) → Entry → Entry → Bool
older p w x = not (p x) || nat_le x.version w.version

found_newest : (p : Entry → Bool) (w : Entry) (xs : List Entry) → Falls xs → find p xs ≡ Some w → list_all (older p w) xs ≡ true
found_newest p w [] falls found = refl
found_newest p w (x ∷ xs) falls found = elim (cases_Bool (p x)) [
  | inl passes ↦
      let same : x ≡ w = let e : cond (p x) (Some x) (find p xs) ≡ Some x = ap (λ b. cond b (Some x) (find p xs)) passes in cc in
      and_from _ _
      (or_right (not (p x)) (nat_le x.version w.version) (le-leb x.version w.version (let e : x.version ≡ w.version = ap (λ y. y.version) same in omega (arith, e))))
      (rest xs (subst (λ y. AllByRecursion (λ later. later.version < y.version) xs) same falls.0))
  | inr fails ↦ and_from _ _ (or_left (not (p x)) (nat_le x.version w.version) (not_from_false (p x) fails))
      (found_newest p w xs falls.1 (sym (ap (λ b. cond b (Some x) (find p xs)) fails) ∙ found))
]
  where
    rest : (xs : List Entry) → AllByRecursion (λ later. later.version < w.version) xs → list_all (older p w) xs ≡ true
    rest [] a = refl
    rest (y ∷ ys) a = let lt : y.version < w.version = a.0 in
        and_from _ _ (or_right (not (p y)) (nat_le y.version w.version) (le-leb y.version w.version (omega (arith, lt)))) (rest ys a.1)

module _ (owner : Owned) (es : List Entry) (rising : IsRising es) (below : ReadsBelow es) (r : ℕ) where
  -- an entry above r and up to v that the owner agrees to
  abbrev Agreed : ℕ → Entry → Type 0
  Agreed v e = In es e × (r < e.version) × (e.version ≤ v) × (agrees owner es e ≡ true)

  abbrev newest_first : ℕ → List Entry
  newest_first v = agreed_above owner r (reverse (until v es))

  abbrev Counted : ℕ → List Entry → Type 0
  Counted v xs = AllByRecursion (Agreed v) xs × Falls xs

  later : (v : ℕ) (xs : List Entry) → Counted v xs → Counted (v + 1) xs
  later v xs c = (by_weaker (Agreed v) (Agreed (v + 1)) (λ e a. let le : e.version ≤ v = a.2 in (a.0, a.1, omega (arith, le), a.3)) xs c.0, c.1)

  -- the entries agreed to above r and up to v are such, the newest first
  counted : (v : ℕ) → Counted v (newest_first v)
  counted v = up (λ v. Counted v (newest_first v)) 0
      (subst (λ xs. Counted 0 (agreed_above owner r (reverse xs))) (sym (until-none 0 0 es (omega arith) (positive es es (all_told es below)))) (tt, tt))
      step v (omega arith)
    where
      step : (v : ℕ) → 0 ≤ v → Counted v (newest_first v) → Counted (v + 1) (newest_first (v + 1))
      step v le before = elim (until-suc (Told es) v es rising (all_told es below)) [
        | inl same ↦ subst (λ xs. Counted (v + 1) (agreed_above owner r (reverse xs))) (sym same) (later v (newest_first v) before)
        | inr found ↦
            let e = found.0 in
            let rest = newest_first v in
            let own = list_all (λ newer. not (disturbs owner newer.request e.request)) (agreed_above owner e.request.read_version (reverse (until v es))) in
            let more : Counted (v + 1) (agreed_above owner r (e ∷ reverse (until v es))) = elim (cases_Bool (nat_lt r e.version && own)) [
              | inl passes ↦
                  let parts = and_parts (nat_lt r e.version) own passes in
                  let ver : v ≡ e.version - 1 = omega (arith, found.1) in
                  let mine : agrees owner es e ≡ true =
                  subst (λ n. list_all (λ newer. not (disturbs owner newer.request e.request)) (agreed_above owner e.request.read_version (reverse (until n es))) ≡ true) ver parts.1 in
                  let kept = later v rest before in
                  subst (λ b. Counted (v + 1) (cond b (e ∷ rest) rest)) (sym passes) (
                    ((found.2.0, ltb-true r e.version parts.0, omega (arith, found.1), mine), kept.0),
                    (by_weaker (Agreed v) (λ x. x.version < e.version) (λ x a. let lt : x.version ≤ v = a.2 in omega (arith, lt, found.1)) rest before.0, kept.1),
                  )
              | inr fails ↦ subst (λ b. Counted (v + 1) (cond b (e ∷ rest) rest)) (sym fails) (later v rest before)
            ] in
            subst (λ xs. Counted (v + 1) (agreed_above owner r xs)) (sym (ap reverse found.3 ∙ reverse-append (until v es) (e ∷ []))) more
      ]

module _ (owner : Owned) (es : List Entry) (c : Entry) (rising : IsRising es) (below : ReadsBelow es) where
  -- an entry that counts passes each test that all passed
  counts_has : (newer : Entry) → Counts owner es c newer → Has (newer_agreed owner es c) newer
  counts_has newer counts =
      let after = counts.after in
      let before = counts.before in
      agreed_has owner c.request.read_version es newer (newer.version - 1) rising (In-from es newer counts.stands) (omega (arith, after)) after counts.agreed (c.version - 1) (omega (arith, after, before))

  counts_from : (w : Entry) → Agreed owner es rising below c.request.read_version (c.version - 1) w → Counts owner es c w
  counts_from w a =
      let after : c.request.read_version < w.version = a.1 in
      let upto : w.version ≤ c.version - 1 = a.2 in
      record { stands = Contains-from es w a.0; after = after; before = omega (arith, after, upto); agreed = a.3 }

  abbrev pub writer_in : KeyRange → Option Entry
  writer_in range = find (λ e. writes_in owner range e.request) (newer_agreed owner es c)

  unwritten_from : (range : KeyRange) → writer_in range ≡ None → IsUnwritten owner es c range
  unwritten_from range none newer counts =
      counts_has newer counts (λ e. not (writes_in owner range e.request)) (none_found (λ e. writes_in owner range e.request) (newer_agreed owner es c) none)

  newest_from : (range : KeyRange) (w : Entry) → writer_in range ≡ Some w → IsNewestIn owner es c range w.version
  newest_from range w found =
      let all = counted owner es rising below c.request.read_version (c.version - 1) in
      let p : Entry → Bool = λ e. writes_in owner range e.request in
      let at = found_has (Agreed owner es rising below c.request.read_version (c.version - 1)) p w (newer_agreed owner es c) all.0 found in
      record {
        writer = w;
        counts = counts_from w at.0;
        writes = at.1;
        given = refl;
        newest = λ newer counts wrote. elim (or_cases (not (p newer)) (nat_le newer.version w.version) (counts_has newer counts (older p w) (found_newest p w (newer_agreed owner es c) all.1 found))) [
          | inl not_wrote ↦ absurd (true≢false (sym wrote ∙ not-true (p newer) not_wrote))
          | inr le ↦ leb-true newer.version w.version le
        ];
      }

  -- who writes in a range that is unwritten doesn't count
  pub none_from : (range : KeyRange) → IsUnwritten owner es c range → writer_in range ≡ None
  none_from range unwritten = by (writer_in range) refl
    where
      by : (o : Option Entry) → writer_in range ≡ o → writer_in range ≡ None
      by None found = found
      by (Some w) found = let n = newest_from range w found in absurd (true≢false (sym n.writes ∙ not-true (writes_in owner range n.writer.request) (unwritten n.writer n.counts)))

  -- the newest version is the found entry's
  pub seen_from : (range : KeyRange) (version : ℕ) → IsNewestIn owner es c range version → (w : Entry) × (writer_in range ≡ Some w) × (w.version ≡ version)
  seen_from range version newest = by (writer_in range) refl
    where
      by : (o : Option Entry) → writer_in range ≡ o → (w : Entry) × (writer_in range ≡ Some w) × (w.version ≡ version)
      by None found = absurd (true≢false (sym newest.writes ∙ not-true (writes_in owner range newest.writer.request) (unwritten_from range found newest.writer newest.counts)))
      by (Some w) found =
          let n = newest_from range w found in
          let given = newest.given in
          let low = newest.newest n.writer n.counts n.writes in
          let high = n.newest newest.writer newest.counts newest.writes in
          let same = n.given in
          (w, found, omega (arith, given, low, high, same))

  -- the parts of the ranges read round the first that was written
  record IsFirst (reads : List KeyRange) (why : Cause) : Type 0 where
    ranges : List KeyRange
    more : List KeyRange
    split : reads ≡ ranges ++ why.range ∷ more
    unwritten : AllByRecursion (IsUnwritten owner es c) ranges
    seen : IsNewestIn owner es c why.range why.seen

  first_gives : (reads : List KeyRange) (why : Cause) → first_disturbed owner (newer_agreed owner es c) reads ≡ Some why → IsFirst reads why
  first_gives [] why told = absurd (cc)
  first_gives (range ∷ ranges) why told = by (first_gives ranges why) (writer_in range) refl
    where
      by : (first_disturbed owner (newer_agreed owner es c) ranges ≡ Some why → IsFirst ranges why) → (o : Option Entry) → writer_in range ≡ o → IsFirst (range ∷ ranges) why
      by ih None found =
          let rest = ih (sym (ap (λ o. option_or (option_map (seen_in range) o) (first_disturbed owner (newer_agreed owner es c) ranges)) found) ∙ told) in
          record {
            ranges = range ∷ rest.ranges;
            more = rest.more;
            split = ap (λ xs. range ∷ xs) rest.split;
            unwritten = (unwritten_from range found, rest.unwritten);
            seen = rest.seen;
          }
      by ih (Some w) found =
          let same : seen_in range w ≡ why =
          let e : Some (seen_in range w) ≡ Some why = sym (ap (λ o. option_or (option_map (seen_in range) o) (first_disturbed owner (newer_agreed owner es c) ranges)) found) ∙ told in cc in
          subst (IsFirst (range ∷ ranges)) same (record { ranges = []; more = ranges; split = refl; unwritten = tt; seen = newest_from range w found })

  first_from : (ranges more : List KeyRange) (why : Cause) → AllByRecursion (IsUnwritten owner es c) ranges → IsNewestIn owner es c why.range why.seen →
      first_disturbed owner (newer_agreed owner es c) (ranges ++ why.range ∷ more) ≡ Some why
  first_from [] more why unwritten seen =
      let at = seen_from why.range why.seen seen in
      ap (λ o. option_or (option_map (seen_in why.range) o) (first_disturbed owner (newer_agreed owner es c) more)) at.1
      ∙ ap (λ n. Some (record { seen = n; range = why.range })) at.2
  first_from (range ∷ ranges) more why unwritten seen =
      ap (λ o. option_or (option_map (seen_in range) o) (first_disturbed owner (newer_agreed owner es c) (ranges ++ why.range ∷ more))) (none_from range unwritten.0)
      ∙ first_from ranges more why unwritten.1 seen

module _ (es : List Entry) (c : Entry) (rising : IsRising es) (below : ReadsBelow es) where
  -- the owners round the first that doesn't agree, and its cause
  record IsFirstOf (all : List Owned) (why : Cause) : Type 0 where
    agreeing : List Owned
    owner : Owned
    others : List Owned
    split : all ≡ agreeing ++ owner ∷ others
    agreed : AllByRecursion (λ other. agrees other es c ≡ true) agreeing
    told : first_disturbed owner (newer_agreed owner es c) c.request.reads ≡ Some why

  first_owner : (all : List Owned) (why : Cause) → first_cause all es c ≡ Some why → IsFirstOf all why
  first_owner [] why told = absurd (cc)
  first_owner (owner ∷ others) why told = by (first_owner others why) (first_disturbed owner (newer_agreed owner es c) c.request.reads) refl
    where
      by : (first_cause others es c ≡ Some why → IsFirstOf others why) → (o : Option Cause) → first_disturbed owner (newer_agreed owner es c) c.request.reads ≡ o → IsFirstOf (owner ∷ others) why
      by ih None none =
          let rest = ih (sym (ap (λ o. option_or o (first_cause others es c)) none) ∙ told) in
          record {
            agreeing = owner ∷ rest.agreeing;
            owner = rest.owner;
            others = rest.others;
            split = ap (λ xs. owner ∷ xs) rest.split;
            agreed = (agrees-none owner (newer_agreed owner es c) c.request.reads ∙ ap is_none none, rest.agreed);
            told = rest.told;
          }
      by ih (Some cause) some =
          record {
            agreeing = [];
            owner = owner;
            others = others;
            split = refl;
            agreed = tt;
            told = some ∙ sym (ap (λ o. option_or o (first_cause others es c)) some) ∙ told;
          }

  owner_first : (agreeing others : List Owned) (owner : Owned) (why : Cause) → AllByRecursion (λ other. agrees other es c ≡ true) agreeing →
      first_disturbed owner (newer_agreed owner es c) c.request.reads ≡ Some why → first_cause (agreeing ++ owner ∷ others) es c ≡ Some why
  owner_first [] others owner why agreed told = ap (λ o. option_or o (first_cause others es c)) told
  owner_first (first ∷ agreeing) others owner why agreed told =
      ap (λ o. option_or o (first_cause (agreeing ++ owner ∷ others) es c))
      (is_none-None (first_disturbed first (newer_agreed first es c) c.request.reads) (sym (agrees-none first (newer_agreed first es c) c.request.reads) ∙ agreed.0))
      ∙ owner_first agreeing others owner why agreed.1 told
    where
      is_none-None : (o : Option Cause) → is_none o ≡ true → o ≡ None
      is_none-None None e = refl
      is_none-None (Some x) e = absurd (true≢false (sym e))

-- the law whole
pub cause_exact : CauseIsExact
cause_exact splits es c why rising below = (
  λ told.
      let at = first_owner es c rising below (owners splits) why told in
      let first = first_gives at.owner es c rising below c.request.reads why at.told in
      record {
        agreeing = at.agreeing;
        owner = at.owner;
        others = at.others;
        in_order = at.split;
        agreed = All-from_recursion (λ other. agrees other es c ≡ true) at.agreeing at.agreed;
        ranges = first.ranges;
        more = first.more;
        reads = first.split;
        unwritten = All-from_recursion (IsUnwritten at.owner es c) first.ranges first.unwritten;
        seen = first.seen;
      },
  λ given.
      ap (λ all. first_cause all es c) given.in_order
      ∙ owner_first es c rising below given.agreeing given.others given.owner why (recursion_from_All (λ other. agrees other es c ≡ true) given.agreeing given.agreed)
      (ap (first_disturbed given.owner (newer_agreed given.owner es c)) given.reads
      ∙ first_from given.owner es c rising below given.ranges given.more why (recursion_from_All (IsUnwritten given.owner es c) given.ranges given.unwritten) given.seen),
)
