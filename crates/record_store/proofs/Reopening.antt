-- A store that stands open in a transaction is opened again by the two reads of its opening, which are there.
use Rattle.std.proofs.Common.{◌≡◌, ℕ, ◌||◌, true, false, cond, Bool, None, Some, List, [], ◌∷◌, ◌++◌, map, append-nil, refl, sym, ap, subst, subst₂, ◌∙◌, arith}
use Rattle.std.proofs.lemmas.Bool.{and_from, or_left, or_right}
use Rattle.std.proofs.lemmas.Cmp.{nat_list_cmp_total, tied_itself}
use Rattle.std.proofs.lemmas.List.Folds.{list_any-append}
use Rattle.std.specs.FinMap.{get}
use Rattle.std.specs.List.{AllByRecursion, list_any}
use Rattle.std.specs.Ordering.{is_eq}
use Rattle.kv_core.specs.Bytes.{key_cmp}
use Rattle.kv_core.specs.Map.{Agree, Map, after_all}
use Rattle.kv_core.specs.Range.{KeyRange, contains, covers, is_same_range, point, with_range}
use Rattle.kv_core.specs.declared.change.CommitRequest.{CommitRequest}
use Rattle.kv_core.specs.declared.change.Mutation.{Mutation}
use Rattle.kv_core.proofs.Changes.{after_all-append, pairs_in-same, same-after_all}
use Rattle.kv_core.proofs.Order.{contains-point}
use Rattle.kv_core.specs.declared.snapshot.ReadError.{ReadError}
use Rattle.kv_core.specs.declared.snapshot.ReadError.TheVariants as read
use Rattle.txn.specs.Reads.{seen}
use Rattle.txn.specs.Runs.{Ran, with_ranges}
use Rattle.txn.proofs.Deciding.{covers-with_range}
use Rattle.metadata.specs.Lawful.{IsLawfulSchema}
use Rattle.metadata.specs.Schema.{Schema}
use Rattle.metadata.specs.Written.{schema_bytes}
use Rattle.record_store.specs.Call.{Call, IsAnswered, IsOpenAs, Opened}
use Rattle.record_store.specs.Holds.{Holds, IsListed}
use Rattle.record_store.specs.Layout.{schema_key, state_pair, states_range}
use Rattle.record_store.specs.Store.{Serial, Store}
use Rattle.record_store.specs.Opening.{AtSerials, HasSchema, IsOpenFailure, IsOpened, IsRefusalOfRead, IsThereAs, IsUnopened, StandsOpen, StandsThere, opening_reach}
use Rattle.record_store.specs.Steps.{DidRead, of_read}
use Rattle.record_store.proofs.Held.{schema_held}
use Rattle.record_store.proofs.Listed.{store_listed}
use Rattle.record_store.proofs.Openings.{opened_there}
use Rattle.record_store.proofs.StatePairs.{states_held}

-- a list that has a range has it after another one was added, and one that was added is there
same_itself : (r : KeyRange) → is_same_range r r ≡ true
same_itself r =
    and_from (is_eq (key_cmp r.begin r.begin)) (is_eq (key_cmp r.end r.end)) (ap is_eq (tied_itself nat_list_cmp_total r.begin))
    (ap is_eq (tied_itself nat_list_cmp_total r.end))

kept_range : (r s : KeyRange) (rs : List KeyRange) → list_any (is_same_range r) rs ≡ true → list_any (is_same_range r) (with_range s rs) ≡ true
kept_range r s rs there = go (list_any (is_same_range s) rs)
  where
    go : (b : Bool) → list_any (is_same_range r) (cond b rs (rs ++ s ∷ [])) ≡ true
    go true = there
    go false = list_any-append (is_same_range r) rs (s ∷ []) ∙ or_left (list_any (is_same_range r) rs) (is_same_range r s || false) there

added_range : (r : KeyRange) (rs : List KeyRange) → list_any (is_same_range r) (with_range r rs) ≡ true
added_range r rs = go (list_any (is_same_range r) rs) refl
  where
    go : (b : Bool) → list_any (is_same_range r) rs ≡ b → list_any (is_same_range r) (cond b rs (rs ++ r ∷ [])) ≡ true
    go true there = there
    go false none =
        list_any-append (is_same_range r) rs (r ∷ [])
        ∙ or_right (list_any (is_same_range r) rs) (is_same_range r r || false) (or_left (is_same_range r r) false (same_itself r))

-- OPENED: a store that was opened stands open
pub opened_stands : (maps : ℕ → Map) (opened : Opened) (old new : CommitRequest) → IsOpened maps opened old new → StandsOpen maps opened new
opened_stands maps opened old new is =
    let schema = point (schema_key opened.prefix) in
    let states = states_range opened.prefix in
    let begun = with_range schema old.reads in
    let mutations = is.ran.wrote ∙ append-nil old.mutations in
    record {
      schema_read = ap (list_any (is_same_range schema)) is.ran.reads ∙ kept_range schema states begun (added_range schema old.reads);
      states_read = ap (list_any (is_same_range states)) is.ran.reads ∙ added_range states begun;
      stands = λ m agree.
          subst (λ s. Fact s) (ap (λ ms. after_all ms m) (sym mutations))
          (is.ran.over m (subst (λ v. Agree new.reads (maps v) m) is.ran.version agree));
    }
  where
    Fact : Map → Type 0
    Fact m = HasSchema opened m × AtSerials opened.prefix m (IsThereAs opened)

module _ (maps : ℕ → Map) (opened : Opened) (tx : CommitRequest) (stood : StandsOpen maps opened tx) where
  schema_listed : with_range (point (schema_key opened.prefix)) tx.reads ≡ tx.reads
  schema_listed = ap (λ b. cond b tx.reads (tx.reads ++ point (schema_key opened.prefix) ∷ [])) stood.schema_read

  both_listed : with_ranges (opening_reach opened.prefix) tx.reads ≡ tx.reads
  both_listed =
      ap (with_range (states_range opened.prefix)) schema_listed
      ∙ ap (λ b. cond b tx.reads (tx.reads ++ states_range opened.prefix ∷ [])) stood.states_read

  -- AGAIN: it is opened where neither read is refused
  pub opened_again : IsOpened maps opened tx tx
  opened_again = record { ran = record { version = refl; wrote = sym (append-nil tx.mutations); reads = sym both_listed; over = stood.stands } }

  module _ (refuses : KeyRange → ℕ → ReadError → Type 0) where
    -- it isn't where one is
    schema_failure : (error : ReadError) (m : Map) → refuses (point (schema_key opened.prefix)) tx.read_version error →
        IsOpenFailure (λ range. refuses range tx.read_version) opened.prefix (of_read error) [] m
    schema_failure read.Memory m refused = record { rest = opening_reach opened.prefix; is = refl }
    schema_failure read.TooOld m refused = (
      record { rest = opening_reach opened.prefix; is = refl },
      record { range = point (schema_key opened.prefix); rest = states_range opened.prefix ∷ []; next = refl; refused = refused },
    )
    schema_failure read.FutureVersion m refused = (
      record { rest = opening_reach opened.prefix; is = refl },
      record { range = point (schema_key opened.prefix); rest = states_range opened.prefix ∷ []; next = refl; refused = refused },
    )

    pub schema_refused : (error : ReadError) → refuses (point (schema_key opened.prefix)) tx.read_version error → IsUnopened maps refuses opened.prefix (of_read error) tx tx
    schema_refused error refused = record {
      added = [];
      ran = record { version = refl; wrote = sym (append-nil tx.mutations); reads = refl; over = λ m agree. schema_failure error (seen tx m) refused };
    }

    states_failure : (error : ReadError) (m : Map) → refuses (states_range opened.prefix) tx.read_version error →
        IsOpenFailure (λ range. refuses range tx.read_version) opened.prefix (of_read error) (point (schema_key opened.prefix) ∷ []) m
    states_failure read.Memory m refused = record { rest = states_range opened.prefix ∷ []; is = refl }
    states_failure read.TooOld m refused = (
      record { rest = states_range opened.prefix ∷ []; is = refl },
      record { range = states_range opened.prefix; rest = []; next = refl; refused = refused },
    )
    states_failure read.FutureVersion m refused = (
      record { rest = states_range opened.prefix ∷ []; is = refl },
      record { range = states_range opened.prefix; rest = []; next = refl; refused = refused },
    )

    pub states_refused : (error : ReadError) → refuses (states_range opened.prefix) tx.read_version error → IsUnopened maps refuses opened.prefix (of_read error) tx tx
    states_refused error refused = record {
      added = point (schema_key opened.prefix) ∷ [];
      ran = record { version = refl; wrote = sym (append-nil tx.mutations); reads = sym schema_listed; over = λ m agree. states_failure error (seen tx m) refused };
    }

-- and with nothing else
pub schema_read_refused : (prefix : List ℕ) (refuses : KeyRange → ReadError → Type 0) (error : ReadError) → refuses (point (schema_key prefix)) error → IsRefusalOfRead refuses (opening_reach prefix) (of_read error)
schema_read_refused prefix refuses error refused = record { range = point (schema_key prefix); among = (0, omega arith, refl); why = error; is = refl; refused = refused }

pub states_read_refused : (prefix : List ℕ) (refuses : KeyRange → ReadError → Type 0) (error : ReadError) → refuses (states_range prefix) error → IsRefusalOfRead refuses (opening_reach prefix) (of_read error)
states_read_refused prefix refuses error refused = record { range = states_range prefix; among = (1, omega arith, refl); why = error; is = refl; refused = refused }

-- ---- a store that stands there at the read version

-- the map that holds it has its schema and its states
has_of_store : (opened : Opened) (m : Map) (store : Store) → Holds opened.prefix m (Some store) → IsOpenAs opened store → HasSchema opened m
has_of_store opened m store holds same = record {
  made = subst IsLawfulSchema same.schema holds.lawful.schema;
  listed = subst₂ (λ (s : Schema) states. AllByRecursion (IsListed s.indexes) states) same.schema same.states (store_listed store);
  bytes = schema_held opened.prefix m store holds ∙ ap (λ s. Some (schema_bytes s)) same.schema;
  states = states_held opened.prefix m store holds ∙ ap (map (state_pair opened.prefix)) same.states;
}

-- THERE: then it stands open, since what an opening reads decides the schema and the states that are seen
pub there_stands : (maps : ℕ → Map) (opened : Opened) (tx : CommitRequest) → StandsThere maps opened tx → StandsOpen maps opened tx
there_stands maps opened tx there = record {
  schema_read = there.schema_read;
  states_read = there.states_read;
  stands = λ m agree.
      let has : HasSchema opened (seen tx m) = record {
        made = before.made;
        listed = before.listed;
        bytes = sym (seen_alike m agree schema there.schema_read (schema_key opened.prefix) (contains-point (schema_key opened.prefix))) ∙ before.bytes;
        states = sym (pairs_in-same (seen tx base) (seen tx m) states (λ q inside. seen_alike m agree states there.states_read q inside)) ∙ before.states;
      } in (has, λ serial holds. opened_there opened.prefix (seen tx m) opened.schema opened.states serial has holds);
}
  where
    base : Map
    base = maps tx.read_version

    schema : KeyRange
    schema = point (schema_key opened.prefix)

    states : KeyRange
    states = states_range opened.prefix

    before : HasSchema opened (seen tx base)
    before = has_of_store opened (seen tx base) there.store there.holds there.same

    seen_alike : (m : Map) → Agree tx.reads base m → (range : KeyRange) → list_any (is_same_range range) tx.reads ≡ true → (q : List ℕ) → contains range q ≡ true → get (seen tx base) q ≡ get (seen tx m) q
    seen_alike m agree range listed q inside =
        same-after_all tx.mutations base m q
        (agree q (subst (λ rs. covers rs q ≡ true) (ap (λ b. cond b tx.reads (tx.reads ++ range ∷ [])) listed) (covers-with_range range tx.reads q inside)))

-- a store that was opened stands there, where what the transaction saw before holds one or none
pub opened_there_stands : (maps : ℕ → Map) (opened : Opened) (old new : CommitRequest) → IsOpened maps opened old new → (serial : Serial) → Holds opened.prefix (seen old (maps old.read_version)) serial → StandsThere maps opened new
opened_there_stands maps opened old new is serial holds = by_serial serial holds (((is.ran.over (maps old.read_version) (λ key inside. refl)).1) serial holds)
  where
    stood : StandsOpen maps opened new
    stood = opened_stands maps opened old new is

    by_serial : (s : Serial) → Holds opened.prefix (seen old (maps old.read_version)) s → IsThereAs opened s → StandsThere maps opened new
    by_serial None holds same = absurd same
    by_serial (Some store) holds same = record {
      schema_read = stood.schema_read;
      states_read = stood.states_read;
      store = store;
      holds =
          subst (λ v. Holds opened.prefix (seen new (maps v)) (Some store)) (sym is.ran.version)
          (subst (λ ms. Holds opened.prefix (after_all ms (maps old.read_version)) (Some store)) (sym (is.ran.wrote ∙ append-nil old.mutations)) holds);
      same = same;
    }

-- ranges that are there stay there
kept_ranges : (r : KeyRange) (added reads : List KeyRange) → list_any (is_same_range r) reads ≡ true → list_any (is_same_range r) (with_ranges added reads) ≡ true
kept_ranges r [] reads there = there
kept_ranges r (s ∷ added) reads there = kept_ranges r added (with_range s reads) (kept_range r s reads there)

-- AFTER: it stands there after a run whose writes make of the store one that was opened so
pub ran_stays : (maps : ℕ → Map) (opened : Opened) {added : List KeyRange} {old new : CommitRequest} {written : List Mutation} {F : Map → Type 0} → Ran maps added old new written F → (there : StandsThere maps opened old) →
    (store : Store) → Holds opened.prefix (after_all written (seen old (maps old.read_version))) (Some store) → IsOpenAs opened store → StandsThere maps opened new
ran_stays maps opened {added} {old} {new} {written} ran there store holds same = record {
  schema_read = ap (list_any (is_same_range (point (schema_key opened.prefix)))) ran.reads ∙ kept_ranges (point (schema_key opened.prefix)) added old.reads there.schema_read;
  states_read = ap (list_any (is_same_range (states_range opened.prefix))) ran.reads ∙ kept_ranges (states_range opened.prefix) added old.reads there.states_read;
  store = store;
  holds =
      subst (λ v. Holds opened.prefix (seen new (maps v)) (Some store)) (sym ran.version)
      (subst (λ m. Holds opened.prefix m (Some store)) (sym (ap (λ ms. after_all ms (maps old.read_version)) ran.wrote ∙ after_all-append old.mutations written (maps old.read_version))) holds);
  same = same;
}

-- so after a run that writes nothing
pub read_stays : (maps : ℕ → Map) (opened : Opened) {added : List KeyRange} {old new : CommitRequest} {F : Map → Type 0} → DidRead maps added old new F → StandsThere maps opened old → StandsThere maps opened new
read_stays maps opened ran there = ran_stays maps opened ran there there.store there.holds there.same

-- and after a call that was answered, whose store after it has the schema and the states as before
pub answered_stays : {A : Type 0} (maps : ℕ → Map) (opened : Opened) (call : Call A) (answer : A) (old new : CommitRequest) → (is : IsAnswered maps opened call answer old new) →
    ((store : Store) → IsOpenAs opened store → IsOpenAs opened (is.service.meaning.after store)) → StandsThere maps opened old → StandsThere maps opened new
answered_stays maps opened call answer old new is still there =
    let base = maps old.read_version in
    let agree : Agree new.reads base base = λ key inside. refl in
    let done = (is.ran.over base agree).2 there.store there.holds there.same in
    ran_stays maps opened is.ran there (is.service.meaning.after there.store) done.holds (still there.store there.same)
