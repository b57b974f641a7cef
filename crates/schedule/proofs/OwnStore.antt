-- What one transaction makes of all stores: its own has what its commands make of it, and each other one and what is outside all stay.
use Rattle.std.proofs.Common.{◌≡◌, ℕ, Bool, true, false, cond, ◌==◌, List, ◌++◌, refl, sym, ap, subst, ◌∙◌, None}
use Rattle.std.specs.FinMap.{empty, get, get-empty}
use Rattle.kv_core.specs.Bytes.{key_cmp}
use Rattle.record_store.specs.Layout.{is_store_number, store_prefix}
use Rattle.std.proofs.lemmas.Bool.{eqb-false, eqb-true}
use Rattle.kv_core.specs.Change.{write_ranges}
use Rattle.kv_core.specs.Range.{covers}
use Rattle.kv_core.specs.Map.{Agree, Map, after_all}
use Rattle.kv_core.specs.declared.change.CommitRequest.{CommitRequest}
use Rattle.kv_core.proofs.Changes.{get-after_all}
use Rattle.tuple_codec.specs.Subspace.{BeginsWith}
use Rattle.record_store.specs.Store.{Serial}
use Rattle.record_store.proofs.Stores.{apart, held_within}
use Rattle.schedule.specs.Past.{Attempt, Open, accepted}
use Rattle.schedule.specs.Holds.{HoldsAll, Stands, Stores, no_stores}
use Rattle.schedule.specs.Exact.{commands_written, IsSerialAt}
use Rattle.schedule.specs.Turns.{fresh_request, IsOpenTransaction}
use Rattle.schedule.proofs.Rightly.{written_by}
use Rattle.schedule.proofs.Turning.{after_attempts, done_serve, done_writes}
use Rattle.schedule.proofs.Within.{written_within}

-- the attempts of a transaction, and its store
abbrev pub Turn : Type 0
Turn = ℕ × List Attempt

-- each accepted command has its reply in the transaction's store
abbrev pub Replied : Stores → Turn → Type 0
Replied stores turn = IsSerialAt (stores turn.0) turn.1

-- the transaction's store changes, and each other one stays
abbrev pub turned : Stores → Turn → Stores
turned stores turn = λ number. cond (turn.0 == number) (after_attempts (stores number) turn.1) (stores number)

-- an empty map holds no store
pub holds_nothing : HoldsAll empty no_stores
holds_nothing = record { each = λ number lawful bytes. get-empty key_cmp (store_prefix number ++ bytes); nothing_else = λ key none. get-empty key_cmp key }

-- ---- one transaction

-- what is written for the commands of a transaction lies in its store
module _ (maps : ℕ → Map) (one : Open) (request : CommitRequest) (reported : ℕ) (open_as : IsOpenTransaction maps reported one request) (m : Map) (stores : Stores) (holds : HoldsAll m stores) (agree : Agree request.reads (maps request.read_version) m) where
  abbrev next : Map
  next = after_all request.mutations m

  here : Stands one.store m (stores one.store)
  here = holds.each one.store open_as.store

  written : request.mutations ≡ commands_written one.store m (stores one.store) (accepted one.attempts)
  written = done_writes one.store maps one.attempts (fresh_request one.read_version) request open_as.done m (stores one.store) agree here

  leaves : (key : List ℕ) → (BeginsWith (store_prefix one.store) key → ⊥) → get next key ≡ get m key
  leaves key outside = get-after_all request.mutations m key (by_test (covers (write_ranges request.mutations) key) refl)
    where
      by_test : (b : Bool) → covers (write_ranges request.mutations) key ≡ b → b ≡ false
      by_test false is = refl
      by_test true is = absurd (outside (written_within one.store key (stores one.store) one.attempts
          (written_by one.store (stores one.store) m one.attempts key (ap (λ ms. covers (write_ranges ms) key) (sym written) ∙ is))))

  pub served : IsSerialAt (stores one.store) one.attempts × Stands one.store next (after_attempts (stores one.store) one.attempts)
  served = done_serve one.store maps one.attempts (fresh_request one.read_version) request open_as.done m (stores one.store) agree here

  other_store : (number : ℕ) → is_store_number number ≡ true → (one.store ≡ number → ⊥) → Stands number next (stores number)
  other_store number lawful differs =
      held_within (store_prefix number) m next (λ bytes. leaves (store_prefix number ++ bytes) (λ own. differs (apart one.store number (store_prefix number ++ bytes) open_as.store lawful own (bytes, refl)))) (stores number) (holds.each number lawful)

  each_after : (number : ℕ) → is_store_number number ≡ true → Stands number next (turned stores (one.store, one.attempts) number)
  each_after number lawful = by_test (one.store == number) refl
    where
      by_test : (b : Bool) → (one.store == number) ≡ b → Stands number next (cond b (after_attempts (stores number) one.attempts) (stores number))
      by_test true is = subst (λ n. Stands n next (after_attempts (stores n) one.attempts)) (eqb-true one.store number is) served.1
      by_test false is = other_store number lawful (eqb-false one.store number is)

  pub all_after : HoldsAll next (turned stores (one.store, one.attempts))
  all_after = record {
    each = each_after;
    nothing_else = λ key none. leaves key (λ own. none one.store open_as.store own) ∙ holds.nothing_else key none;
  }
