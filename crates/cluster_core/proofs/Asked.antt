-- The cause against a request, from the segments of what earlier ones wrote to which an owner agrees.
use Rattle.std.proofs.Common.{◌≡◌, ℕ, zero, ◌+◌, ◌-◌, ◌^◌, ◌<◌, ◌≤◌, true, false, cond, nat_lt, Option, None, Some, List, [], ◌∷◌, length, drop, get_or, inl, inr, refl, sym, ap, subst, ◌∙◌, arith}
use Rattle.std.proofs.Math.Logic.{∥∥₁_elim}
use Rattle.std.proofs.lemmas.Bool.{cases_Bool, cases_order, false≢true, ltb-true, ltb-false, not_from_false, or_cases, or_left, or_right}
use Rattle.std.specs.List.{list_any, slice_get}
use Rattle.std.specs.Option.{option_map, option_map_or, option_or}
use Rattle.kv_core.specs.Change.{write_ranges}
use Rattle.kv_core.specs.Range.{KeyRange, contains, covers}
use Rattle.kv_core.specs.declared.change.CommitRequest.{CommitRequest}
use Rattle.cluster_core.specs.Cuts.{contains-cut, cut_has}
use Rattle.cluster_core.specs.History.{Entry}
use Rattle.cluster_core.specs.Decision.{Owned, Cause, agrees, cut, first_disturbed, meets_within, newer_agreed, numbered, owns, seen_in, writes_in}
use Rattle.cluster_core.specs.Kept.{FindsNewest, KnowsKeys, KnowsWriters, WritersState, agreed_at, least_of, since, writes_key}
use Rattle.cluster_core.specs.Laws.{Counts, IsNewestIn, IsUnwritten, ReadsBelow}
use Rattle.cluster_core.specs.Progress.{answer_of}
use Rattle.cluster_core.specs.Segments.{IsNewestOver}
use Rattle.cluster_core.proofs.Bridge.{at_place, entry_of, in_from, numbered_at, version_at}
use Rattle.cluster_core.proofs.Causes.{Contains-from}
use Rattle.cluster_core.proofs.ExactCauses.{none_from, seen_from, writer_in}
use Rattle.cluster_core.proofs.Ownership.{list_any-weaker, meets_within-from, meets_within-gives}
use Rattle.cluster_core.proofs.Places.{drop_item}
use Rattle.cluster_core.proofs.InOrder.{Key, Run, nothing_is, only_one}
use Rattle.cluster_core.proofs.Versions.{rising-numbered}

-- the request of the entry at a place
pub request_at : (start : ℕ) (requests : List CommitRequest) (n : ℕ) (e : Entry) → slice_get (numbered start requests) n ≡ Some e → slice_get requests n ≡ Some e.request
request_at start requests n e there = by (slice_get requests n) refl
  where
    by : (o : Option CommitRequest) → slice_get requests n ≡ o → slice_get requests n ≡ Some e.request
    by None is = absurd (nothing_is (sym (numbered_at start requests n ∙ ap (option_map (entry_of start n)) is) ∙ there))
    by (Some q) is = is ∙ ap (λ x. Some x.request) (only_one (sym (numbered_at start requests n ∙ ap (option_map (entry_of start n)) is) ∙ there))

-- what the request at a place asks for
pub least_is_at : (start : ℕ) (requests : List CommitRequest) (place : ℕ) (entry : Entry) → slice_get (numbered start requests) place ≡ Some entry →
    least_of start requests place ≡ entry.request.read_version - start
least_is_at start requests place entry here = ap (λ o. option_map_or (λ (q : CommitRequest). q.read_version - start) o zero) (request_at start requests place entry here)

pub least_at_place : (start : ℕ) (requests : List CommitRequest) (place : ℕ) (request : CommitRequest) → place < length requests → request ≡ get_or requests place request →
    least_of start requests place ≡ request.read_version - start
least_at_place start requests place request inside is = ap (λ o. option_map_or (λ (q : CommitRequest). q.read_version - start) o zero) (at_place requests place request inside is)

-- ranges that write in another one write a key of it that is the owner's
written_key : (owner : Owned) (range : KeyRange) (ws : List KeyRange) → list_any (λ write. meets_within owner write range) ws ≡ true →
    (key : Key) × (owns owner key ≡ true) × (contains range key ≡ true) × (covers ws key ≡ true)
written_key owner range [] any = absurd (false≢true any)
written_key owner range (w ∷ ws) any = elim (or_cases (meets_within owner w range) (list_any (λ write. meets_within owner write range) ws) any) [
  | inl here ↦ let k = meets_within-gives owner w range here in (k.0, k.1, k.3, or_left (contains w k.0) (covers ws k.0) k.2)
  | inr later ↦ let k = written_key owner range ws later in (k.0, k.1, k.2, or_right (contains w k.0) (covers ws k.0) k.3)
]

-- what was seen of the newest place in a range
abbrev pub seen_at : ℕ → KeyRange → ℕ → Cause
seen_at start range place = record { seen = start + place + 1; range = range }

module _ (owner : Owned) (start : ℕ) (requests : List CommitRequest) (place : ℕ) (entry : Entry) (here : slice_get (numbered start requests) place ≡ Some entry) where
  abbrev es_at : List Entry
  es_at = numbered start requests

  abbrev least_at : ℕ
  least_at = entry.request.read_version - start

  counted_at : (n : ℕ) → least_at ≤ n → n < place → agreed_at owner start requests n ≡ true → (newer : Entry) × (slice_get es_at n ≡ Some newer) × Counts owner es_at entry newer
  counted_at n from before agreed = by (slice_get es_at n) refl
    where
      by : (o : Option Entry) → slice_get es_at n ≡ o → (newer : Entry) × (slice_get es_at n ≡ Some newer) × Counts owner es_at entry newer
      by None is = absurd (false≢true (sym (ap (λ o. option_map_or (agrees owner es_at) o false) is) ∙ agreed))
      by (Some newer) is =
          let own = version_at start requests n newer is in
          let at = version_at start requests place entry here in (
            newer,
            is,
            record {
              stands = Contains-from es_at newer (in_from es_at n newer is);
              after = omega (arith, own, from);
              before = omega (arith, own, at, before);
              agreed = sym (ap (λ o. option_map_or (agrees owner es_at) o false) is) ∙ agreed;
            },
          )

  -- who counts stands at a place among those asked for
  pub place_at : (newer : Entry) → Counts owner es_at entry newer → (n : ℕ) × (slice_get es_at n ≡ Some newer) × (least_at ≤ n) × (n < place) × (agreed_at owner start requests n ≡ true)
  place_at newer counts =
      let n = counts.stands.0 in
      let there : slice_get es_at n ≡ Some newer = at_place es_at n newer counts.stands.1 (sym counts.stands.2) in
      let own = version_at start requests n newer there in
      let at = version_at start requests place entry here in
      let after = counts.after in
      let before = counts.before in
      (n, there, omega (arith, own, after), omega (arith, own, at, before), ap (λ o. option_map_or (agrees owner es_at) o false) there ∙ counts.agreed)

module _ (owner : Owned) (start : ℕ) (requests : List CommitRequest) (below : ReadsBelow (numbered start requests)) (place : ℕ) (entry : Entry)
    (here : slice_get (numbered start requests) place ≡ Some entry) where
  -- where no request that the owner agreed to stands above the read version there is no cause
  pub quiet : ((n : ℕ) → entry.request.read_version - start ≤ n → n < place → agreed_at owner start requests n ≡ true → ⊥) →
      None ≡ answer_of owner (numbered start requests) entry
  quiet none = each entry.request.reads
    where
      nobody : (range : KeyRange) → IsUnwritten owner (numbered start requests) entry range
      nobody range newer counts = let at = place_at owner start requests place entry here newer counts in absurd (none at.0 at.2 at.3 at.4)

      each : (reads : List KeyRange) → None ≡ first_disturbed owner (newer_agreed owner (numbered start requests) entry) reads
      each [] = refl
      each (range ∷ reads) =
          each reads
          ∙ sym (ap (λ o. option_or (option_map (seen_in range) o) (first_disturbed owner (newer_agreed owner (numbered start requests) entry) reads))
          (none_from owner (numbered start requests) entry (rising-numbered start requests) below range (nobody range)))

module _ (owner : Owned) (start : ℕ) (requests : List CommitRequest) (below : ReadsBelow (numbered start requests)) (place : ℕ) (entry : Entry)
    (here : slice_get (numbered start requests) place ≡ Some entry) (segments : Run)
    (knows : KnowsKeys owner start requests (least_of start requests place) place place segments) where
  abbrev es : List Entry
  es = numbered start requests

  abbrev least : ℕ
  least = entry.request.read_version - start

  abbrev place_of : (newer : Entry) → Counts owner es entry newer →
      (n : ℕ) × (slice_get es n ≡ Some newer) × (least ≤ n) × (n < place) × (agreed_at owner start requests n ≡ true)
  place_of newer counts = place_at owner start requests place entry here newer counts

  module _ (range : KeyRange) (newest : Option ℕ) (over : IsNewestOver segments (cut owner range) newest) where
    -- who counts and writes in the range isn't after the newest place
    reached : (newer : Entry) (counts : Counts owner es entry newer) → writes_in owner range newer.request ≡ true →
        ((later : ℕ) → newest ≡ Some later → (place_of newer counts).0 ≤ later → ⊥) → ⊥
    reached newer counts wrote refutes =
        let at = place_of newer counts in
        let k = written_key owner range (write_ranges newer.request.mutations) wrote in
        let written : writes_key requests at.0 k.0 ≡ true = ap (λ o. option_map_or (λ (q : CommitRequest). covers (write_ranges q.mutations) k.0) o false) (request_at start requests at.0 newer at.1) ∙ k.3 in
        let from : least_of start requests place ≤ at.0 = (let le = at.2 in let is = least_is_at start requests place entry here in omega (arith, is, le)) in
        ∥∥₁_elim (knows.settled k.0 at.0 from at.3 at.4 k.1 written) (λ a b. absurd a)
        (λ covered. let later = over.others k.0 at.0 (contains-cut owner.from owner.upto range k.0 k.1 k.2) covered in refutes later.0 later.1 later.2)

    found_place : (n : ℕ) → newest ≡ Some n → (n < place) × (agreed_at owner start requests n ≡ true) × ((newer : Entry) → slice_get es n ≡ Some newer → writes_in owner range newer.request ≡ true)
    found_place n is =
        let found = over.found n is in
        let inside = cut_has owner.from owner.upto range found.0 found.1 in
        let sound = knows.sound found.0 n found.2 in (
          sound.0,
          sound.1,
          λ newer there.
              let written : covers (write_ranges newer.request.mutations) found.0 ≡ true =
              sym (ap (λ o. option_map_or (λ (q : CommitRequest). covers (write_ranges q.mutations) found.0) o false) (request_at start requests n newer there)) ∙ sound.2 in
              list_any-weaker (λ write. contains write found.0) (λ write. meets_within owner write range) (λ write q. meets_within-from owner write range found.0 inside.0 q inside.1)
              (write_ranges newer.request.mutations) written,
        )

    newest_is : (n : ℕ) → newest ≡ Some n → least ≤ n → IsNewestIn owner es entry range (start + n + 1)
    newest_is n is from =
        let found = found_place n is in
        let at = counted_at owner start requests place entry here n from found.0 found.1 in
        record {
          writer = at.0;
          counts = at.2;
          writes = found.2 at.0 at.1;
          given = version_at start requests n at.0 at.1;
          newest = λ newer counts wrote.
              let own = place_of newer counts in
              let version = version_at start requests own.0 newer own.1 in
              elim (cases_order own.0 n) [
                | inl same ↦ omega (arith, version, same)
                | inr (inl earlier) ↦ omega (arith, version, earlier)
                | inr (inr later) ↦ absurd (reached newer counts wrote (λ last last_is le. let one : last ≡ n = only_one (sym last_is ∙ is) in omega (arith, later, le, one)))
              ];
        }

    unwritten : ((n : ℕ) → newest ≡ Some n → n < least) → IsUnwritten owner es entry range
    unwritten old newer counts = elim (cases_Bool (writes_in owner range newer.request)) [
      | inl wrote ↦ absurd (reached newer counts wrote (λ last is le.
          let from : least ≤ (place_of newer counts).0 = (place_of newer counts).2 in
          let short = old last is in
          omega (arith, from, short, le)))
      | inr not_wrote ↦ not_from_false (writes_in owner range newer.request) not_wrote
    ]

    abbrev writer : Option Entry
    writer = writer_in owner es entry (rising-numbered start requests) below range

    -- what is seen of the newest place is the newest writer
    seen_same : option_map (seen_at start range) (since least newest) ≡ option_map (seen_in range) writer
    seen_same = by newest refl
      where
        nothing : ((n : ℕ) → newest ≡ Some n → n < least) → None ≡ option_map (seen_in range) writer
        nothing old = sym (ap (option_map (seen_in range)) (none_from owner es entry (rising-numbered start requests) below range (unwritten old)))

        by : (o : Option ℕ) → newest ≡ o → option_map (seen_at start range) (since least o) ≡ option_map (seen_in range) writer
        by None is = nothing (λ n some. absurd (nothing_is (sym is ∙ some)))
        by (Some n) is = elim (cases_Bool (nat_lt n least)) [
          | inl short ↦
              let before = ltb-true n least short in
              ap (λ b. option_map (seen_at start range) (cond b None (Some n))) short
              ∙ nothing (λ m some. let same : m ≡ n = only_one (sym some ∙ is) in omega (arith, before, same))
          | inr long ↦
              let from = ltb-false n least long in
              let seen = seen_from owner es entry (rising-numbered start requests) below range (start + n + 1) (newest_is n is from) in
              ap (λ b. option_map (seen_at start range) (cond b None (Some n))) long
              ∙ ap (λ v. Some (record { seen = v; range = range })) (sym seen.2)
              ∙ sym (ap (option_map (seen_in range)) seen.1)
        ]

  abbrev first : List KeyRange → Option Cause
  first reads = first_disturbed owner (newer_agreed owner es entry) reads

  abbrev whole : Option Cause
  whole = answer_of owner es entry

  module _ (reads : List KeyRange) (i : ℕ) (range : KeyRange) (newest : Option ℕ) (inside : i < length reads) (is : range ≡ get_or reads i range)
      (over : IsNewestOver segments (cut owner range) newest) (so : first (drop i reads) ≡ whole) where
    here_first : option_or (option_map (seen_at start range) (since least newest)) (first (drop (i + 1) reads)) ≡ whole
    here_first = ap (λ o. option_or o (first (drop (i + 1) reads))) (seen_same range newest over) ∙ sym (ap first (drop_item reads i range inside is)) ∙ so

    pub range_none : None ≡ since least newest → first (drop (i + 1) reads) ≡ whole
    range_none none = ap (λ o. option_or (option_map (seen_at start range) o) (first (drop (i + 1) reads))) none ∙ here_first

    pub range_some : (n seen : ℕ) (own : KeyRange) → Some n ≡ since least newest → seen ≡ start + n + 1 → own ≡ range → Some (record { seen = seen; range = own }) ≡ whole
    range_some n seen own some number copied =
        let same : ◌≡◌ {A = Option Cause} (Some (record { seen = seen; range = own })) (Some (seen_at start range n)) = λ k. Some (record { seen = number k; range = copied k }) in
        same ∙ ap (λ o. option_or (option_map (seen_at start range) o) (first (drop (i + 1) reads))) some ∙ here_first

-- the newest place is before the one that is asked for
pub since_some : (low n : ℕ) (newest : Option ℕ) → Some n ≡ since low newest → newest ≡ Some n
since_some low n None is = absurd (nothing_is (sym is))
since_some low n (Some m) is = elim (cases_Bool (nat_lt m low)) [
  | inl short ↦ absurd (nothing_is (sym (is ∙ ap (λ b. cond b None (Some m)) short)))
  | inr long ↦ sym (is ∙ ap (λ b. cond b None (Some m)) long)
]

pub before_place : (owner : Owned) (start : ℕ) (requests : List CommitRequest) (from before upto : ℕ) (segments : Run) (range : KeyRange) (low n : ℕ) (newest : Option ℕ) →
    KnowsKeys owner start requests from before upto segments → IsNewestOver segments range newest → Some n ≡ since low newest → n < upto
before_place owner start requests from before upto segments range low n newest knows over is =
    let found = over.found n (since_some low n newest is) in
    (knows.sound found.0 n found.2).0

-- the request at a place is that of the entry there
pub same_request : (start : ℕ) (requests : List CommitRequest) (place : ℕ) (request : CommitRequest) (entry : Entry) → place < length requests → request ≡ get_or requests place request →
    slice_get (numbered start requests) place ≡ Some entry → request ≡ entry.request
same_request start requests place request entry inside is here = only_one (sym (at_place requests place request inside is) ∙ request_at start requests place entry here)

-- what was found of a range by one that asks as far back as the request at a place
pub asked_newest : (owner : Owned) (start : ℕ) (requests : List CommitRequest) (place least : ℕ) (request : CommitRequest) (writers : WritersState) (range : KeyRange) (newest : Option ℕ) →
    place < length requests → request ≡ get_or requests place request → least ≡ request.read_version - start →
    (KnowsWriters owner start requests least place writers → FindsNewest owner start requests least place range newest) →
    KnowsWriters owner start requests (least_of start requests place) place writers → FindsNewest owner start requests (least_of start requests place) place range newest
asked_newest owner start requests place least request writers range newest inside is asks finds known =
    let same : least_of start requests place ≡ least = least_at_place start requests place request inside is ∙ sym asks in
    subst (λ n. FindsNewest owner start requests n place range newest) (sym same) (finds (subst (λ n. KnowsWriters owner start requests n place writers) same known))

-- and the version after its place fits
pub seen_fits : (owner : Owned) (start : ℕ) (requests : List CommitRequest) (least low place n : ℕ) (range : KeyRange) (newest : Option ℕ) →
    FindsNewest owner start requests least place range newest → Some n ≡ since low newest → place < length requests → start + length requests < 2 ^ 64 → start + n + 1 < 2 ^ 64
seen_fits owner start requests least low place n range newest found some inside fits =
    let before = before_place owner start requests least place place found.segments (cut owner range) low n newest found.knows found.over some in
    omega (arith, before, fits, inside)
