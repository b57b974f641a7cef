-- What commands come to that only look at what was opened.
use Rattle.std.proofs.Common.{◌≡◌, ℕ, Bool, true, false, not, cond, [], inl, refl, sym, ap, subst, Some, None}
use Rattle.kv_core.specs.Range.{KeyRange}
use Rattle.kv_core.specs.Map.{Map}
use Rattle.kv_core.specs.declared.change.CommitRequest.{CommitRequest}
use Rattle.kv_core.specs.declared.snapshot.ReadError.{ReadError}
use Rattle.txn.proofs.Running.{ran_because}
use Rattle.record_store.specs.declared.error.StoreError.TheVariants.{Memory}
use Rattle.record_store.specs.Store.{Store, Serial}
use Rattle.record_store.specs.Call.{IsOpenAs, Opened, whole}
use Rattle.record_store.specs.Opening.{IsOpened, IsThereAs, opening_reach}
use Rattle.record_store.specs.Layout.{store_prefix}
use Rattle.schedule.specs.declared.step.Command.{Command}
use Rattle.schedule.specs.declared.reply.Reply.{Reply}
use Rattle.schedule.specs.Serve.{IsReply, effect}
use Rattle.schedule.specs.Past.{is_accepted, tells_change}
use Rattle.schedule.specs.Holds.{Stands}
use Rattle.schedule.specs.Reach.{open_reach, own_damage, own_reading, writes}
use Rattle.schedule.specs.Performed.{IsCommandSound, IsPerformed, IsPerformedAt}
use Rattle.schedule.specs.Performed.{TellsOfPairs}
use Rattle.schedule.specs.Calls.{IsCommandRefused}
use Rattle.schedule.proofs.Reached.{all_added, opening_added, sound_by}
use Rattle.schedule.proofs.Stops.{at, memory_opened, served_idle}
use Rattle.schedule.proofs.Outcomes.{at_serial, located}

-- what a command with this reply is that only looks at what was opened: it reads nothing behind the opening, writes nothing, and leaves each store that was opened so as it was
pub record Looks (number : ℕ) (opened : Opened) (command : Command) (answer : Reply) : Type 0 where
  pub opens : open_reach number command ≡ opening_reach (store_prefix number)
  pub reads : own_reading (Some opened) command ≡ whole []
  pub undamaged : (m : Map) → own_damage (Some opened) command m ≡ None
  pub looking : tells_change answer ≡ false
  pub told : (m : Map) → IsCommandSound number (Some opened) command answer m → TellsOfPairs number (Some opened) command answer m
  pub replies : (store : Store) → IsOpenAs opened store → IsReply (Some store) command answer
  pub idle : (m : Map) (store : Store) → IsOpenAs opened store → writes number m (Some store) command ≡ []
  pub leaves : (store : Store) → IsOpenAs opened store → effect (Some store) command ≡ Some store

looked_at : (number : ℕ) {maps : ℕ → Map} {refuses : KeyRange → ReadError → Type 0} {old new : CommitRequest} (opened : Opened) (command : Command) (answer : Reply) →
    Looks number (at number opened) command answer → IsOpened maps (at number opened) old new → IsPerformed number maps refuses command answer old new
looked_at number {refuses = refuses} {old = old} opened command answer looks is = record {
  opened = Some (at number opened);
  added = opening_reach (store_prefix number);
  written = [];
  changes = ap not (sym looks.looking);
  ran = ran_because is.ran (λ m has. (
    record {
      there = (refl, has.0);
      reads = all_added answer (opening_added number (Some (at number opened)) command m looks.opens looks.reads);
      told = looks.told m (sound_by number (at number opened) command answer m (whole []) looks.reads (looks.undamaged m) tt);
    },
    λ serial stands. here m serial stands (has.1 serial stands),
  ));
}
  where
    same : {A : Type 0} (b : Bool) (x y : A) → x ≡ y → y ≡ cond b x y
    same true x y is = sym is
    same false x y is = refl

    here : (m : Map) (serial : Serial) → Stands number m serial → IsThereAs (at number opened) serial → IsPerformedAt number refuses command answer old.mutations [] (opening_reach (store_prefix number)) m serial
    here m None stands has = absurd has
    here m (Some store) stands has = record {
      right = inl (served_idle number m old.mutations (Some store) command answer (looks.idle m store has) (looks.replies store has));
      wrote = same (is_accepted answer) (writes number m (Some store) command) [] (looks.idle m store has);
      holds = subst (Stands number m) (same (is_accepted answer) (effect (Some store) command) (Some store) (looks.leaves store has)) stands;
      reads = all_added answer (at_serial number opened command m (Some store) (opening_reach (store_prefix number)) stands has (opening_added number (Some (at number opened)) command m looks.opens looks.reads));
    }

-- LOOKED: a store was opened, and the command asks for nothing else
pub looked : (number : ℕ) {maps : ℕ → Map} {refuses : KeyRange → ReadError → Type 0} {old new : CommitRequest} (opened : Opened) (command : Command) (answer : Reply) → opened.prefix ≡ store_prefix number →
    Looks number (at number opened) command answer → IsOpened maps opened old new → IsPerformed number maps refuses command answer old new
looked number {maps = maps} {old = old} {new = new} opened command answer here looks is_opened =
    looked_at number opened command answer looks (subst (λ o. IsOpened maps o old new) (located number opened here) is_opened)

-- LOOKED: memory is wanting
pub looked_memory : (number : ℕ) {maps : ℕ → Map} {refuses : KeyRange → ℕ → ReadError → Type 0} {old new : CommitRequest} (opened : Opened) (command : Command) → opened.prefix ≡ store_prefix number →
    open_reach number command ≡ opening_reach (store_prefix number) → IsOpened maps opened old new → IsCommandRefused number maps refuses command Memory old new
looked_memory number {maps = maps} {old = old} {new = new} opened command here opens is_opened =
    memory_opened number opened command opens (subst (λ o. IsOpened maps o old new) (located number opened here) is_opened)
