-- What a transaction makes of all stores: its own has what its commands make of it, and each other one stays.
use Rattle.std.proofs.Common.{◌≡◌, ℕ, ◌==◌, Bool, true, false, cond, List, [], ◌∷◌, ◌++◌, map, refl, ap, subst, ◌∙◌}
use Rattle.std.specs.FinMap.{get, get-empty}
use Rattle.std.proofs.lemmas.Bool.{eqb-false, eqb-true}
use Rattle.kv_core.specs.Bytes.{key_cmp}
use Rattle.kv_core.specs.Change.{write_ranges}
use Rattle.kv_core.specs.Map.{Map, after_all}
use Rattle.kv_core.specs.Range.{covers}
use Rattle.kv_core.specs.declared.change.Mutation.{Mutation}
use Rattle.kv_core.proofs.Changes.{get-after_all}
use Rattle.tuple_codec.specs.Subspace.{BeginsWith}
use Rattle.record_store.specs.Layout.{is_store_number, store_prefix}
use Rattle.record_store.specs.Store.{Serial}
use Rattle.record_store.proofs.Stores.{apart, held_within}
use Rattle.schedule.specs.declared.reply.Reply.TheVariants.{Done}
use Rattle.schedule.specs.declared.step.Command.{Command}
use Rattle.schedule.specs.Exact.{commands_written}
use Rattle.schedule.specs.Holds.{HoldsAll, Stands, Stores}
use Rattle.schedule.specs.Past.{Attempt, accepted}
use Rattle.schedule.specs.Serve.{effects}
use Rattle.schedule.proofs.Rightly.{written_by}
use Rattle.schedule.proofs.Within.{written_within}
use Rattle.replay.specs.Logged.{empty_database, stores_after}

-- an empty map holds no store
pub holds_nothing : HoldsAll empty_database.map empty_database.stores
holds_nothing = record { each = λ number lawful bytes. get-empty key_cmp (store_prefix number ++ bytes); nothing_else = λ key none. get-empty key_cmp key }

-- ---- one transaction

-- attempts at commands, each of which is accepted
abbrev made : List Command → List Attempt
made commands = map (λ command. record { command = command; reply = Done }) commands

made_accepted : (commands : List Command) → accepted (made commands) ≡ commands
made_accepted [] = refl
made_accepted (command ∷ commands) = ap (λ rest. command ∷ rest) (made_accepted commands)

-- what commands write lies in their store
module _ (number : ℕ) (m : Map) (serial : Serial) (commands : List Command) where
  abbrev written : List Mutation
  written = commands_written number m serial commands

  pub elsewhere : (key : List ℕ) → (BeginsWith (store_prefix number) key → ⊥) → get (after_all written m) key ≡ get m key
  elsewhere key outside = get-after_all written m key (by_test (covers (write_ranges written) key) refl)
    where
      by_test : (b : Bool) → covers (write_ranges written) key ≡ b → b ≡ false
      by_test false is = refl
      by_test true is = absurd (outside (written_within number key serial (made commands)
          (written_by number serial m (made commands) key (ap (λ cs. covers (write_ranges (commands_written number m serial cs)) key) (made_accepted commands) ∙ is))))

-- so a map that holds all stores leads to one that does
pub holds_after : (number : ℕ) (m : Map) (stores : Stores) (commands : List Command) → is_store_number number ≡ true → HoldsAll m stores →
    Stands number (after_all (commands_written number m (stores number) commands) m) (effects (stores number) commands) →
    HoldsAll (after_all (commands_written number m (stores number) commands) m) (stores_after stores number commands)
holds_after number m stores commands own_lawful holds own = record {
  each = λ other lawful. by_test other lawful (number == other) refl;
  nothing_else = λ key none. leaves key (λ within. none number own_lawful within) ∙ holds.nothing_else key none;
}
  where
    next : Map
    next = after_all (commands_written number m (stores number) commands) m

    leaves : (key : List ℕ) → (BeginsWith (store_prefix number) key → ⊥) → get next key ≡ get m key
    leaves = elsewhere number m (stores number) commands

    stays : (other : ℕ) → is_store_number other ≡ true → (number ≡ other → ⊥) → Stands other next (stores other)
    stays other lawful differs =
        held_within (store_prefix other) m next (λ bytes. leaves (store_prefix other ++ bytes) (λ within. differs (apart number other (store_prefix other ++ bytes) own_lawful lawful within (bytes, refl)))) (stores other) (holds.each other lawful)

    by_test : (other : ℕ) → is_store_number other ≡ true → (b : Bool) → (number == other) ≡ b → Stands other next (cond b (effects (stores other) commands) (stores other))
    by_test other lawful true is = subst (λ n. Stands n next (effects (stores n) commands)) (eqb-true number other is) own
    by_test other lawful false is = stays other lawful (eqb-false number other is)
