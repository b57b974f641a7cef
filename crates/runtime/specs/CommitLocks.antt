-- Private: the rule of a lock whose holders know their last numbers, and what its steps tell. Word 0 is 0 where the
-- value is at home, and 1 where a thread has it. The holder at place 0 opened the lock; the others speak for the
-- clients in turn.
use Rattle.std.specs.Prelude.{◌≡◌, ◌≢◌, ℕ, zero, suc, ◌+◌, ◌≤◌, List, [], ◌∷◌, length, slice_index}
use Rattle.std.specs.Prelude.{Option, Some, None, MatchOption}
use mathlib.Core.Option.{some}
use lib.ListN.{get_elem?}
use Rattle.std.specs.declared.snapshot.Snapshot.{Snapshot}
use Rattle.atomic_table.specs.Table.{State, Me, Step, rest}
use Rattle.runtime.specs.History.{Name}
use Rattle.runtime.specs.declared.commit_lock.KeyHolder.{KeyHolder}

-- the last number of the client for whom a holder speaks; the opener speaks for none, and keeps its own
abbrev pub number_for : List ℕ → Option ℕ → ℕ → ℕ
number_for numbers None own = own
number_for numbers (Some client) own = slice_index numbers client

-- for whom the holder at a place speaks
abbrev pub client_at : ℕ → Option ℕ
client_at zero = None
client_at (suc client) = Some client

module _ {T : Type 0} where
  -- who opens a lock
  abbrev pub opener : Snapshot T → KeyHolder T
  opener about = record { about = about; client = None; last = 0; next = 0; taken = None }

  -- the same once one client more has a key
  abbrev pub with_one_more : KeyHolder T → KeyHolder T
  with_one_more v = record v { next = v.next + 1 }

  -- the holder of that client's key
  abbrev pub with_client : KeyHolder T → KeyHolder T
  with_client v = record { about = v.about; client = Some v.next; last = 0; next = 0; taken = None }

  -- the holder has taken this value
  abbrev pub taken_by : T → KeyHolder T → KeyHolder T
  taken_by x v = record v { taken = Some (record v.about { value = x }) }

  -- the holder has nothing, and its last number is this one
  abbrev pub with_last : ℕ → KeyHolder T → KeyHolder T
  with_last number v = record v { last = number; taken = None }

  -- the holder has nothing, and its last number is that which these are of its client
  abbrev pub returned_with : List ℕ → KeyHolder T → KeyHolder T
  returned_with numbers v = with_last (number_for numbers v.client v.last) v

module _ {T : Type 0} (last_of : T → List ℕ) where
  -- what the holder has taken may go home with these numbers: only that of the holder's client may be another one
  abbrev pub MayReturn : KeyHolder T → List ℕ → Type 0
  MayReturn v numbers =
      MatchOption v.taken ⊥ (λ x. (client : ℕ) → v.client ≢ Some client →
      slice_index numbers client ≡ slice_index (last_of x.value) client)

  -- one holder has the value, which had these numbers when it was taken
  pub record IsOut (numbers : List ℕ) (views : List (KeyHolder T)) : Type 0 where
    pub seat : ℕ
    pub holder : KeyHolder T
    pub there : get_elem? views seat ≡ some holder
    pub value : Snapshot T
    pub taken : holder.taken ≡ Some value
    pub has : last_of value.value ≡ numbers
    pub others : (j : ℕ) (v : KeyHolder T) → get_elem? views j ≡ some v → j ≢ seat → v.taken ≡ None

  -- the numbers of the value in a slot, if there is one
  abbrev pub numbers_of : Option T → List ℕ
  numbers_of None = []
  numbers_of (Some x) = last_of x

  -- those of the value that a thread has in hand: of the slot that it emptied last
  abbrev pub carried_numbers : List (ℕ × Option T) → List ℕ
  carried_numbers [] = []
  carried_numbers (slot ∷ slots) = numbers_of slot.1

  -- the value went home, and the holder knows its number there
  abbrev pub Returned :
      Step (Option T) → Me (Option T) (KeyHolder T) → ℕ → Me (Option T) (KeyHolder T) → Type 0
  Returned st m n w = w ≡ (returned_with (carried_numbers m.1) m.0, rest m.1)

module _ {T : Type 0} (name_of : T → Name) where
  -- the holder at a place knows which database it is, for whom it speaks, and that client's last number; the opener
  -- knows which client is next
  pub record IsHolder (name : Name) (numbers : List ℕ) (keys place : ℕ) (v : KeyHolder T) : Type 0 where
    pub of_it : name_of v.about.value ≡ name
    pub speaks : v.client ≡ client_at place
    pub known : number_for numbers v.client v.last ≡ v.last
    pub counted : place ≡ 0 → suc v.next ≡ keys

  -- each holder does
  abbrev pub AreHolders : Name → List ℕ → ℕ → List (KeyHolder T) → Type 0
  AreHolders name numbers keys views =
      (j : ℕ) (v : KeyHolder T) → get_elem? views j ≡ some v → IsHolder name numbers keys j v

module _ {T : Type 0} (name_of : T → Name) (last_of : T → List ℕ) where
  -- the value is at home with these numbers, and nobody has it
  pub record IsHome (name : Name) (numbers : List ℕ) (s : State (Option T) (KeyHolder T)) : Type 0 where
    pub value : T
    pub there : get_elem? s.homes 0 ≡ some (some (Some value))
    pub of_it : name_of value ≡ name
    pub has : last_of value ≡ numbers
    pub none_out : (j : ℕ) (v : KeyHolder T) → get_elem? s.views j ≡ some v → v.taken ≡ None

  -- the numbers are those that the holders know, and clients to come have none
  pub record IsLocked (name : Name) (s : State (Option T) (KeyHolder T)) : Type 0 where
    pub one_word : length s.words ≡ 1
    pub one_slot : length s.homes ≡ 1
    pub numbers : List ℕ
    pub holders : AreHolders name_of name numbers (length s.views) s.views
    pub fresh : (client : ℕ) → length s.views ≤ suc client → slice_index numbers client ≡ 0
    pub home : slice_index s.words 0 ≡ 0 → IsHome name numbers s
    pub out : slice_index s.words 0 ≢ 0 → IsOut last_of numbers s.views

  -- the rule, of the database of the value that was locked up
  abbrev pub Locked : Snapshot T → State (Option T) (KeyHolder T) → Type 0
  Locked key s = IsLocked (name_of key.value) s

  -- at 0 the value was taken, which is of the holder's database and has its last number
  abbrev pub Taken :
      Step (Option T) → Me (Option T) (KeyHolder T) → ℕ → Me (Option T) (KeyHolder T) → Type 0
  Taken st m n w =
      (n ≡ 0 → (x : T) × (w ≡ (taken_by x m.0, (0, Some x) ∷ []))
      × (name_of x ≡ name_of m.0.about.value)
      × (number_for (last_of x) m.0.client m.0.last ≡ m.0.last))
      × (n ≢ 0 → w ≡ m)
