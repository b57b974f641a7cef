-- What reading a record and opening a store establish.
use Rattle.std.proofs.Common.{◌≡◌, inl, inr, ℕ, Bool, true, false, cond, List, [], ◌∷◌, ◌++◌, refl, sym, ap, subst, ◌∙◌, Option, Some, None, append-nil, map, pos}
use Rattle.std.specs.List.{AllByRecursion, filter}
use Rattle.std.specs.FinMap.{entries, get}
use Rattle.tuple_codec.specs.Item.{int}
use Rattle.kv_core.specs.Range.{KeyRange, contains, point}
use Rattle.kv_core.specs.Map.{Map, pairs_in}
use Rattle.kv_core.specs.declared.change.CommitRequest.{CommitRequest}
use Rattle.kv_core.proofs.Pairs.{entries-kept}
use Rattle.kv_core.specs.declared.snapshot.ReadError.{ReadError}
use Rattle.txn.proofs.Running.{ran_because, ran_then}
use Rattle.metadata.specs.declared.index.State.{State}
use Rattle.metadata.specs.Lawful.{IsLawfulSchema}
use Rattle.metadata.specs.Schema.{Schema}
use Rattle.metadata.specs.Written.{schema_bytes}
use Rattle.metadata.proofs.OneSchema.{written_once}
use Rattle.record_store.specs.declared.error.StoreError.{StoreError}
use Rattle.record_store.specs.declared.error.StoreError.TheVariants.{Memory, Read, Write, Corrupt, Refused, NoStore, AlreadyThere, OtherSchema, NotAggregate, NotReadable, WrongState, NotBuilt}
use Rattle.record_store.specs.Store.{Serial, listed_states}
use Rattle.record_store.specs.Layout.{schema_key, state_pair, states_range}
use Rattle.record_store.specs.Holds.{Holds, IsListed}
use Rattle.record_store.specs.Form.{IsFirstBad, IsOpeningPair, IsSchemaPair, IsStatePair, read_in}
use Rattle.record_store.specs.Opening.{HasSchema, IsOpenFailure, IsOpened, IsThereAs, IsUnopened, opening_reach}
use Rattle.record_store.proofs.Stopping.{all_begin, error_behind, error_more}
use Rattle.record_store.specs.Reading.{AreStates, HasNotRead, HaveNoStates, IsBadSchema, IsBadStateAmong}
use Rattle.record_store.specs.Reading.{IsNoSchemaFound, IsNoState, IsReadError, IsSchema}
use Rattle.record_store.specs.Steps.{DidRead, no_memory}
use Rattle.record_store.proofs.Held.{no_schema_held, no_schema_state, no_states, schema_held}
use Rattle.record_store.proofs.Kept.{itself, other_place}
use Rattle.record_store.proofs.StatePairs.{same_states, states_held}
use Rattle.record_store.proofs.Listed.{schema_apart, states_low, store_listed, store_low}
use Rattle.record_store.proofs.RecordPairs.{at_key, none_bad, pairs_at}

abbrev Pair : Type 0
Pair = List ℕ × List ℕ

module _ (prefix : List ℕ) where
  pub both_read : {maps : ℕ → Map} {old mid new : CommitRequest} {F G : Map → Type 0} → DidRead maps (point (schema_key prefix) ∷ []) old mid F → DidRead maps (states_range prefix ∷ []) mid new G →
      DidRead maps (opening_reach prefix) old new (λ m. F m × G m)
  both_read one two = ran_then one two (λ m f g. (f, g))

  -- an error of the opening's reads is one of the opening
  open_error : (refuses : KeyRange → ReadError → Type 0) (added : List KeyRange) (error : StoreError) (m : Map) → IsReadError refuses (opening_reach prefix) added error → IsOpenFailure refuses prefix error added m
  open_error refuses added Memory m says = says
  open_error refuses added (Read error) m says = says
  open_error refuses added (Write error) m says = absurd says
  open_error refuses added (Corrupt key) m says = absurd says
  open_error refuses added (Refused refusal) m says = absurd says
  open_error refuses added NoStore m says = absurd says
  open_error refuses added AlreadyThere m says = absurd says
  open_error refuses added OtherSchema m says = absurd says
  open_error refuses added NotAggregate m says = absurd says
  open_error refuses added NotReadable m says = absurd says
  open_error refuses added WrongState m says = absurd says
  open_error refuses added NotBuilt m says = absurd says

  -- the first read of an opening came to an error, or the second did
  pub first_failed : {maps : ℕ → Map} {refuses : KeyRange → ℕ → ReadError → Type 0} {old new : CommitRequest} (error : StoreError) → HasNotRead maps refuses (point (schema_key prefix) ∷ []) error old new →
      HasNotRead maps refuses (opening_reach prefix) error old new
  first_failed {refuses = refuses} {old = old} error is = record {
    added = is.added;
    ran = ran_because is.ran (λ m says. error_more (λ range. refuses range old.read_version) (point (schema_key prefix) ∷ []) is.added (states_range prefix ∷ []) error says);
  }

  pub then_failed : {maps : ℕ → Map} {refuses : KeyRange → ℕ → ReadError → Type 0} {old mid new : CommitRequest} {F : Map → Type 0} (error : StoreError) →
      DidRead maps (point (schema_key prefix) ∷ []) old mid F → HasNotRead maps refuses (states_range prefix ∷ []) error mid new → HasNotRead maps refuses (opening_reach prefix) error old new
  then_failed {refuses = refuses} {old = old} error one is = record {
    added = point (schema_key prefix) ∷ is.added;
    ran = ran_then one is.ran (λ m found says.
        error_behind (λ range. refuses range old.read_version) (point (schema_key prefix) ∷ []) (states_range prefix ∷ []) is.added error
        (subst (λ v. IsReadError (λ range. refuses range v) (states_range prefix ∷ []) is.added error) one.version says));
  }

  -- UNOPENED: a read came to an error
  pub unopened : {maps : ℕ → Map} {refuses : KeyRange → ℕ → ReadError → Type 0} {old new : CommitRequest} (error : StoreError) → HasNotRead maps refuses (opening_reach prefix) error old new → IsUnopened maps refuses prefix error old new
  unopened {refuses = refuses} {old = old} error is =
      record { added = is.added; ran = ran_because is.ran (λ m says. open_error (λ range. refuses range old.read_version) is.added error m says) }

  -- OPENED: the map has the schema and the states that were read, and all that it holds is a store with them
  has_schema : (m : Map) (schema : Schema) (states : List (ℕ × State)) (written : Option (List ℕ)) (pairs : List Pair) → IsSchema written schema → AreStates prefix schema.indexes pairs states →
      written ≡ get m (schema_key prefix) → pairs ≡ pairs_in m (states_range prefix) → HasSchema (record { prefix = prefix; schema = schema; states = states }) m
  has_schema m schema states written pairs is are found listed = record { made = is.made; listed = are.are_listed; bytes = sym found ∙ is.bytes; states = sym listed ∙ are.are }

  pub opened_there : (m : Map) (schema : Schema) (states : List (ℕ × State)) (serial : Serial) → HasSchema (record { prefix = prefix; schema = schema; states = states }) m → Holds prefix m serial →
      IsThereAs (record { prefix = prefix; schema = schema; states = states }) serial
  opened_there m schema states None has holds =
      let some : ◌≡◌ {A = Option (List ℕ)} (Some (schema_bytes schema)) None = sym has.bytes ∙ no_schema_held prefix m holds in absurd (cc)
  opened_there m schema states (Some store) has holds =
      let both : ◌≡◌ {A = Option (List ℕ)} (Some (schema_bytes store.schema)) (Some (schema_bytes schema)) = sym (schema_held prefix m store holds) ∙ has.bytes in
      let bytes : schema_bytes store.schema ≡ schema_bytes schema = cc in record {
        schema = written_once store.schema schema holds.lawful.schema has.made bytes;
        states =
            same_states prefix (listed_states store) states (store_low store holds.lawful.schema)
            (states_low schema.indexes states (schema_apart schema has.made) has.listed) (sym (states_held prefix m store holds) ∙ has.states);
      }

  pub opened_now : {maps : ℕ → Map} {old mid new : CommitRequest} (written : Option (List ℕ)) (pairs : List Pair) (schema : Schema) (states : List (ℕ × State)) →
      DidRead maps (point (schema_key prefix) ∷ []) old mid (λ m. written ≡ get m (schema_key prefix)) → DidRead maps (states_range prefix ∷ []) mid new (λ m. pairs ≡ pairs_in m (states_range prefix)) →
      IsSchema written schema → AreStates prefix schema.indexes pairs states → IsOpened maps (record { prefix = prefix; schema = schema; states = states }) old new
  opened_now written pairs schema states one two is are = record {
    ran = ran_because (both_read one two) (λ m found.
        let has = has_schema m schema states written pairs is are found.0 found.1 in (has, λ serial holds. opened_there m schema states serial has holds));
  }

  -- the pairs of a range lie in it
  kept_lie : (range : KeyRange) (es : List Pair) → AllByRecursion (λ (e : Pair). contains range e.0 ≡ true) (filter (λ (e : Pair). contains range e.0) es)
  kept_lie range [] = tt
  kept_lie range (e ∷ es) = by_test (contains range e.0) refl (kept_lie range es)
    where
      by_test : (b : Bool) → contains range e.0 ≡ b → AllByRecursion (λ (e : Pair). contains range e.0 ≡ true) (filter (λ (e : Pair). contains range e.0) es) → AllByRecursion (λ (e : Pair). contains range e.0 ≡ true) (cond b (e ∷ filter (λ (e : Pair). contains range e.0) es) (filter (λ (e : Pair). contains range e.0) es))
      by_test true is rest = (is, rest)
      by_test false is rest = rest

  pub pairs_lie : (m : Map) (range : KeyRange) → AllByRecursion (λ (e : Pair). contains range e.0 ≡ true) (pairs_in m range)
  pairs_lie m range = subst (AllByRecursion (λ (e : Pair). contains range e.0 ≡ true)) (sym (entries-kept m (contains range))) (kept_lie range (entries m))

  -- no state is the pair of a schema
  no_state : (pair : Pair) → contains (states_range prefix) pair.0 ≡ true → IsSchemaPair prefix pair → ⊥
  no_state pair inside is =
      let at : contains (states_range prefix) (schema_key prefix) ≡ true = ap (contains (states_range prefix)) (sym (ap (λ (p : Pair). p.0) is.is)) ∙ inside in
      let out : contains (states_range prefix) (schema_key prefix) ≡ false = no_schema_state prefix in cc

  -- the pairs read at an opening
  opening_pairs : (m : Map) (written : Option (List ℕ)) (states : List Pair) → written ≡ get m (schema_key prefix) → states ≡ pairs_in m (states_range prefix) →
      read_in m (opening_reach prefix) ≡ at_key (schema_key prefix) written ++ states
  opening_pairs m written states found listed =
      (λ i. pairs_at m (schema_key prefix) written (sym found) i ++ append-nil (pairs_in m (states_range prefix)) i) ∙ ap (λ ps. at_key (schema_key prefix) written ++ ps) (sym listed)

  -- the pairs of states of a schema that the map has are of the form
  states_form : (m : Map) (schema : Schema) (states : List (ℕ × State)) → IsLawfulSchema schema → get m (schema_key prefix) ≡ Some (schema_bytes schema) → AllByRecursion (IsListed schema.indexes) states →
      AllByRecursion (IsOpeningPair prefix m) (map (state_pair prefix) states)
  states_form m schema [] made written all = tt
  states_form m schema (one ∷ states) made written all =
      (inr (record { schema = schema; made = made; written = written; is = record { listed = one; is_listed = all.0; is = refl } }), states_form m schema states made written all.1)

  -- all pairs read of what holds a store are of the form
  opening_form : (m : Map) (serial : Serial) → Holds prefix m serial → AllByRecursion (IsOpeningPair prefix m) (read_in m (opening_reach prefix))
  opening_form m None holds =
      subst (AllByRecursion (IsOpeningPair prefix m)) (sym (opening_pairs m None [] (sym (no_schema_held prefix m holds)) (sym (no_states prefix m holds)))) tt
  opening_form m (Some store) holds =
      subst (AllByRecursion (IsOpeningPair prefix m)) (sym (opening_pairs m (Some (schema_bytes store.schema)) (map (state_pair prefix) (listed_states store)) (sym (schema_held prefix m store holds)) (sym (states_held prefix m store holds)))) (
        inl (record { schema = store.schema; made = holds.lawful.schema; is = refl }),
        states_form m store.schema (listed_states store) holds.lawful.schema (schema_held prefix m store holds) (store_listed store),
      )

  -- a damaged opening
  damaged : (refuses : KeyRange → ReadError → Type 0) (m : Map) (bytes key : List ℕ) → Some bytes ≡ get m (schema_key prefix) → IsFirstBad (IsOpeningPair prefix m) (read_in m (opening_reach prefix)) key →
      IsOpenFailure refuses prefix (Corrupt key) (opening_reach prefix) m
  damaged refuses m bytes key found bad = (refl, λ none. let some : ◌≡◌ {A = Option (List ℕ)} (Some bytes) None = found ∙ none in absurd (cc), bad, λ serial holds. none_bad (read_in m (opening_reach prefix)) key (opening_form m serial holds) bad)

  bad_schema : (refuses : KeyRange → ReadError → Type 0) (m : Map) (bytes : List ℕ) (pairs : List Pair) (error : StoreError) → Some bytes ≡ get m (schema_key prefix) → pairs ≡ pairs_in m (states_range prefix) →
      IsBadSchema prefix bytes error → IsOpenFailure refuses prefix error (opening_reach prefix) m
  bad_schema refuses m bytes pairs Memory found listed says = all_begin (opening_reach prefix)
  bad_schema refuses m bytes pairs (Read error) found listed says = absurd says
  bad_schema refuses m bytes pairs (Write error) found listed says = absurd says
  bad_schema refuses m bytes pairs (Refused refusal) found listed says = absurd says
  bad_schema refuses m bytes pairs NoStore found listed says = absurd says
  bad_schema refuses m bytes pairs AlreadyThere found listed says = absurd says
  bad_schema refuses m bytes pairs OtherSchema found listed says = absurd says
  bad_schema refuses m bytes pairs NotAggregate found listed says = absurd says
  bad_schema refuses m bytes pairs NotReadable found listed says = absurd says
  bad_schema refuses m bytes pairs WrongState found listed says = absurd says
  bad_schema refuses m bytes pairs NotBuilt found listed says = absurd says
  bad_schema refuses m bytes pairs (Corrupt key) found listed says =
      damaged refuses m bytes key found (record {
        before = [];
        bad = (schema_key prefix, bytes);
        behind = pairs;
        split = opening_pairs m (Some bytes) pairs found listed;
        good = tt;
        malformed = malformed;
        at = says.0;
      })
    where
      malformed : IsOpeningPair prefix m (schema_key prefix, bytes) → ⊥
      malformed (inl pair) = says.1 pair.schema pair.made (ap (λ (p : Pair). p.1) pair.is)
      malformed (inr state) = other_place prefix 5 (int (pos state.is.listed.0) ∷ []) 0 [] (schema_key prefix) refl (itself (schema_key prefix)) (ap (λ (p : Pair). p.0) state.is.is)

  -- what lies in the middle
  in_middle : (before behind : List Pair) (bad : Pair) → AllByRecursion (λ (e : Pair). contains (states_range prefix) e.0 ≡ true) (before ++ bad ∷ behind) → contains (states_range prefix) bad.0 ≡ true
  in_middle [] behind bad all = all.0
  in_middle (pair ∷ before) behind bad all = in_middle before behind bad all.1

  module _ (m : Map) (bytes : List ℕ) (pairs : List Pair) (schema : Schema) (is : IsSchema (Some bytes) schema) (found : Some bytes ≡ get m (schema_key prefix)) (listed : pairs ≡ pairs_in m (states_range prefix)) where
    bad_state : (error : StoreError) (key : List ℕ) (among : IsBadStateAmong prefix schema.indexes pairs error) → IsNoState prefix schema.indexes among.bad (Corrupt key) → IsFirstBad (IsOpeningPair prefix m) (read_in m (opening_reach prefix)) key
    bad_state error key among says = record {
      before = (schema_key prefix, bytes) ∷ among.before;
      bad = among.bad;
      behind = among.behind;
      split = opening_pairs m (Some bytes) pairs found listed ∙ ap (λ ps. (schema_key prefix, bytes) ∷ ps) among.split;
      good = (
        inl (record { schema = schema; made = is.made; is = λ i. (schema_key prefix, written i) }),
        subst (AllByRecursion (IsOpeningPair prefix m)) (sym among.good.are) (states_form m schema among.states is.made (sym found ∙ is.bytes) among.good.are_listed),
      );
      malformed = malformed;
      at = says.0;
    }
      where
        written : bytes ≡ schema_bytes schema
        written = let both : ◌≡◌ {A = Option (List ℕ)} (Some bytes) (Some (schema_bytes schema)) = is.bytes in cc

        inside : contains (states_range prefix) among.bad.0 ≡ true
        inside =
            in_middle among.before among.behind among.bad
            (subst (AllByRecursion (λ (e : Pair). contains (states_range prefix) e.0 ≡ true)) (sym listed ∙ among.split) (pairs_lie m (states_range prefix)))

        malformed : IsOpeningPair prefix m among.bad → ⊥
        malformed (inl pair) = no_state among.bad inside pair
        malformed (inr state) =
            let both : ◌≡◌ {A = Option (List ℕ)} (Some (schema_bytes state.schema)) (Some (schema_bytes schema)) = sym state.written ∙ sym found ∙ is.bytes in
            let same : schema_bytes state.schema ≡ schema_bytes schema = cc in
            says.1 (subst (λ (s : Schema). IsStatePair prefix s.indexes among.bad) (written_once state.schema schema state.made is.made same) state.is)

    states_failure : (refuses : KeyRange → ReadError → Type 0) (error : StoreError) → HaveNoStates prefix schema.indexes pairs error → IsOpenFailure refuses prefix error (opening_reach prefix) m
    states_failure refuses error (inl memory) = subst (λ e. IsOpenFailure refuses prefix e (opening_reach prefix) m) (sym memory) (all_begin (opening_reach prefix))
    states_failure refuses error (inr among) = by_error error among.none
      where
        by_error : (e : StoreError) → IsNoState prefix schema.indexes among.bad e → IsOpenFailure refuses prefix e (opening_reach prefix) m
        by_error Memory says = all_begin (opening_reach prefix)
        by_error (Read reason) says = absurd says
        by_error (Write reason) says = absurd says
        by_error (Refused refusal) says = absurd says
        by_error NoStore says = absurd says
        by_error AlreadyThere says = absurd says
        by_error OtherSchema says = absurd says
        by_error NotAggregate says = absurd says
        by_error NotReadable says = absurd says
        by_error WrongState says = absurd says
        by_error NotBuilt says = absurd says
        by_error (Corrupt key) says = damaged refuses m bytes key found (bad_state error key among says)

  -- nothing is there
  pub nothing_there : (m : Map) (serial : Serial) → None ≡ get m (schema_key prefix) → Holds prefix m serial → serial ≡ None
  nothing_there m None found holds = refl
  nothing_there m (Some store) found holds =
      let some : ◌≡◌ {A = Option (List ℕ)} None (Some (schema_bytes store.schema)) = found ∙ schema_held prefix m store holds in absurd (cc)

  schema_failure : (refuses : KeyRange → ReadError → Type 0) (m : Map) (written : Option (List ℕ)) (pairs : List Pair) (error : StoreError) → written ≡ get m (schema_key prefix) → pairs ≡ pairs_in m (states_range prefix) →
      IsNoSchemaFound prefix written error → IsOpenFailure refuses prefix error (opening_reach prefix) m
  schema_failure refuses m None pairs error found listed says =
      subst (λ e. IsOpenFailure refuses prefix e (opening_reach prefix) m) (sym says) (refl, sym found, λ serial holds. nothing_there m serial found holds)
  schema_failure refuses m (Some bytes) pairs error found listed bad = bad_schema refuses m bytes pairs error found listed bad

  all_failure : (refuses : KeyRange → ReadError → Type 0) (m : Map) (written : Option (List ℕ)) (pairs : List Pair) (schema : Schema) (error : StoreError) → IsSchema written schema → written ≡ get m (schema_key prefix) → pairs ≡ pairs_in m (states_range prefix) →
      HaveNoStates prefix schema.indexes pairs error → IsOpenFailure refuses prefix error (opening_reach prefix) m
  all_failure refuses m None pairs schema error is found listed says = let some : ◌≡◌ {A = Option (List ℕ)} None (Some (schema_bytes schema)) = is.bytes in absurd (cc)
  all_failure refuses m (Some bytes) pairs schema error is found listed says = states_failure m bytes pairs schema is found listed refuses error says

  module _ {maps : ℕ → Map} {refuses : KeyRange → ℕ → ReadError → Type 0} {old mid new : CommitRequest} (written : Option (List ℕ)) (pairs : List Pair)
      (one : DidRead maps (point (schema_key prefix) ∷ []) old mid (λ m. written ≡ get m (schema_key prefix))) (two : DidRead maps (states_range prefix ∷ []) mid new (λ m. pairs ≡ pairs_in m (states_range prefix))) where
    -- MEMORY: it is wanting after both reads
    pub opened_memory : IsUnopened maps refuses prefix no_memory old new
    opened_memory = record { added = opening_reach prefix; ran = ran_because (both_read one two) (λ m found. all_begin (opening_reach prefix)) }

    pub unopened_schema : (error : StoreError) → IsNoSchemaFound prefix written error → IsUnopened maps refuses prefix error old new
    unopened_schema error says = record {
      added = opening_reach prefix;
      ran = ran_because (both_read one two) (λ m found. schema_failure (λ range. refuses range old.read_version) m written pairs error found.0 found.1 says);
    }

    pub unopened_states : (schema : Schema) (error : StoreError) → IsSchema written schema → HaveNoStates prefix schema.indexes pairs error → IsUnopened maps refuses prefix error old new
    unopened_states schema error is says = record {
      added = opening_reach prefix;
      ran = ran_because (both_read one two) (λ m found. all_failure (λ range. refuses range old.read_version) m written pairs schema error is found.0 found.1 says);
    }
