-- What commands read: by a schema and a map, and by what is there.
use Rattle.std.proofs.Common.{◌≡◌, ℕ, Bool, true, false, List, [], ◌∷◌, ◌++◌, sym, ap, subst, ◌∙◌, append-nil, Option, Some, None, Ok, Err, Result, length}
use Rattle.std.specs.Prelude.{drop}
use Rattle.std.specs.FinMap.{get}
use Rattle.std.proofs.lemmas.Bool.{or_left, or_right}
use Rattle.std.proofs.lemmas.List.Folds.{list_any-append}
use Rattle.kv_core.specs.Range.{KeyRange, contains, covers}
use Rattle.kv_core.specs.Map.{Map}
use Rattle.kv_core.specs.declared.snapshot.ReadError.{ReadError}
use Rattle.metadata.specs.declared.refusal.Refusal.{Refusal as SchemaRefusal}
use Rattle.schedule.specs.declared.refusal.Refusal.{Refusal}
use Rattle.schedule.specs.declared.refusal.Refusal.TheVariants.{NoStore}
use Rattle.metadata.specs.Asked.{schema_asked}
use Rattle.metadata.specs.Schema.{Schema}
use Rattle.record_store.specs.Layout.{schema_key, store_prefix}
use Rattle.record_store.specs.Call.{Opened, Reading, whole}
use Rattle.record_store.specs.Call as call
use Rattle.record_store.specs.Opening.{opening_reach}
use Rattle.record_store.specs.Steps.{IsBeginning, IsNextRefused}
use Rattle.record_store.proofs.Stopping.{all_begin, begin_more}
use Rattle.schedule.specs.declared.step.Command.{Command}
use Rattle.schedule.specs.declared.step.Command.TheVariants as commands
use Rattle.schedule.specs.declared.step.Command.TheVariants.{Create, «Type», Save, Load, Remove, Query, Plan, Execute, Index, Drop, Disable, WriteOnly, Readable, Build, State, Aggregate}
use Rattle.schedule.specs.declared.reply.Reply.{Reply}
use Rattle.schedule.specs.declared.reply.Reply.TheVariants as reply
use Rattle.schedule.specs.Past.{is_accepted}
use Rattle.schedule.specs.Performed.{HasAdded, HasAddedSo, IsCommandSound, IsMadeOf, IsReadRefusedAs, IsSoundSo, TellsOfPairs}
use Rattle.schedule.specs.Performed.{is_unread}
use Rattle.schedule.specs.Reach.{added_by, open_reach, own_damage, own_reading, reach}

-- ---- what is asked for

-- the ranges of the opening are asked for first, then the command's own
pub opening_asked : (number : ℕ) (opened : Option Opened) (command : Command) (m : Map) → open_reach number command ≡ opening_reach (store_prefix number) → (k : List ℕ) → covers (opening_reach (store_prefix number)) k ≡ true → covers (reach number opened command m) k ≡ true
opening_asked number opened command m opens k h =
    list_any-append (λ range. contains range k) (open_reach number command) ((own_reading opened command).asked m)
    ∙ or_left (covers (open_reach number command) k) (covers ((own_reading opened command).asked m) k) (ap (λ ranges. covers ranges k) opens ∙ h)

pub own_asked : (number : ℕ) (opened : Option Opened) (command : Command) (m : Map) (reading : Reading) → own_reading opened command ≡ reading → (k : List ℕ) → covers (reading.asked m) k ≡ true → covers (reach number opened command m) k ≡ true
own_asked number opened command m reading is k h =
    list_any-append (λ range. contains range k) (open_reach number command) ((own_reading opened command).asked m)
    ∙ or_right (covers (open_reach number command) k) (covers ((own_reading opened command).asked m) k) (ap (λ (r : Reading). covers (r.asked m) k) is ∙ h)

-- a range that is refused behind the first ones is one of those asked for
later_covers : (n : ℕ) (asked rest : List KeyRange) (range : KeyRange) → drop n asked ≡ range ∷ rest → (k : List ℕ) → contains range k ≡ true → covers asked k ≡ true
later_covers Rattle.std.proofs.Common.zero asked rest range is k h = ap (λ ranges. covers ranges k) is ∙ or_left (contains range k) (covers rest k) h
later_covers (Rattle.std.proofs.Common.suc n) [] rest range is k h = absurd (cc)
later_covers (Rattle.std.proofs.Common.suc n) (one ∷ asked) rest range is k h = or_right (contains one k) (covers asked k) (later_covers n asked rest range is k h)

pub next_within : (refuses : KeyRange → ReadError → Type 0) (asked added far : List KeyRange) (error : ReadError) → ((k : List ℕ) → covers asked k ≡ true → covers far k ≡ true) → IsNextRefused refuses asked added error →
    IsReadRefusedAs refuses far error
next_within refuses asked added far error wider next =
    record { range = next.range; inside = λ k h. wider k (later_covers (length added) asked next.rest next.range next.next k h); refused = next.refused }

-- ---- what is added

-- all ranges were added, or the first ones: by what the reply tells
pub all_added : (answer : Reply) {all ranges : List KeyRange} → ranges ≡ all → HasAdded answer all ranges
all_added answer {all = all} {ranges = ranges} is = by_test (is_unread answer)
  where
    by_test : (b : Bool) → HasAddedSo b all ranges
    by_test true = subst (IsBeginning ranges) is (all_begin ranges)
    by_test false = is

pub added_begin : (answer : Reply) {all ranges : List KeyRange} → HasAdded answer all ranges → IsBeginning ranges all
added_begin answer {all = all} {ranges = ranges} has = by_test (is_unread answer) has
  where
    by_test : (b : Bool) → HasAddedSo b all ranges → IsBeginning ranges all
    by_test true begin = begin
    by_test false is = subst (IsBeginning ranges) is (all_begin ranges)

-- the first ones of an opening's ranges are the first ones of a command's
pub begin_open : (number : ℕ) (command : Command) {ranges : List KeyRange} (rest : List KeyRange) → open_reach number command ≡ opening_reach (store_prefix number) → IsBeginning ranges (opening_reach (store_prefix number)) → IsBeginning ranges (open_reach number command ++ rest)
begin_open number command {ranges = ranges} rest opens begin = subst (λ first. IsBeginning ranges (first ++ rest)) (sym opens) (begin_more rest begin)

-- an opening is all that a command reads that reads nothing of its own
pub opening_added : (number : ℕ) (opened : Option Opened) (command : Command) (m : Map) → open_reach number command ≡ opening_reach (store_prefix number) → own_reading opened command ≡ whole [] → opening_reach (store_prefix number) ≡ added_by number opened command m
opening_added number opened command m opens none = sym (append-nil (opening_reach (store_prefix number))) ∙ (λ i. sym opens i ++ (sym none i).added m)

-- ---- what a reply tells

-- that all pairs are of the written form
pub told_refusal : (number : ℕ) (opened : Option Opened) (command : Command) (refusal : Refusal) (m : Map) → IsCommandSound number opened command (reply.Refused refusal) m → TellsOfPairs number opened command (reply.Refused refusal) m
told_refusal number opened command refusal m sound = by_test (is_unread (reply.Refused refusal))
  where
    by_test : (b : Bool) → IsSoundSo number b opened command (reply.Refused refusal) m
    by_test true = tt
    by_test false = sound

pub told_accepted : (number : ℕ) (opened : Option Opened) (command : Command) (answer : Reply) (m : Map) → is_accepted answer ≡ true → IsCommandSound number opened command answer m → TellsOfPairs number opened command answer m
told_accepted number opened command (reply.Refused refusal) m is sound = absurd (cc)
told_accepted number opened command (reply.Corrupt key) m is sound = absurd (cc)
told_accepted number opened command reply.Stopped m is sound = absurd (cc)
told_accepted number opened command (reply.Begun version) m is sound = sound
told_accepted number opened command reply.Done m is sound = sound
told_accepted number opened command reply.SavedNew m is sound = sound
told_accepted number opened command (reply.SavedOver cells) m is sound = sound
told_accepted number opened command (reply.Found cells) m is sound = sound
told_accepted number opened command reply.Absent m is sound = sound
told_accepted number opened command reply.Removed m is sound = sound
told_accepted number opened command (reply.Rows rows) m is sound = sound
told_accepted number opened command (reply.Planned plan) m is sound = sound
told_accepted number opened command (reply.Indexed state) m is sound = sound
told_accepted number opened command (reply.State state) m is sound = sound
told_accepted number opened command (reply.Total total) m is sound = sound
told_accepted number opened command (reply.Built records range) m is sound = sound
told_accepted number opened command reply.Finished m is sound = sound
told_accepted number opened command (reply.Submitted version) m is sound = sound
told_accepted number opened command reply.ReadOnly m is sound = sound
told_accepted number opened command reply.Nothing m is sound = sound
told_accepted number opened command (reply.Reported reports) m is sound = sound

-- that no schema stands there
pub sound_none : (number : ℕ) (command : Command) (m : Map) → get m (schema_key (store_prefix number)) ≡ None → IsCommandSound number None command (reply.Refused NoStore) m
sound_none number (Create request) m none = by_schema (schema_asked request)
  where
    by_schema : (o : Result Schema SchemaRefusal) → IsMadeOf number o (reply.Refused NoStore) m
    by_schema (Ok opened) = none
    by_schema (Err refusal) = tt
sound_none number («Type» request) m none = none
sound_none number (commands.Field name field) m none = none
sound_none number (Save name cells) m none = none
sound_none number (Load name cells) m none = none
sound_none number (Remove name cells) m none = none
sound_none number (Query query) m none = none
sound_none number (Plan query) m none = none
sound_none number (Execute plan) m none = none
sound_none number (Index request) m none = none
sound_none number (Drop name) m none = none
sound_none number (Disable name) m none = none
sound_none number (WriteOnly name) m none = none
sound_none number (Readable name) m none = none
sound_none number (Build name Rattle.std.proofs.Common.zero) m none = tt
sound_none number (Build name (Rattle.std.proofs.Common.suc more)) m none = none
sound_none number (State name) m none = none
sound_none number (Aggregate name group) m none = none

-- that all pairs of a reading are, and that there is no damage
pub sound_by : (number : ℕ) (opened : Opened) (command : Command) (answer : Reply) (m : Map) (reading : Reading) → own_reading (Some opened) command ≡ reading → own_damage (Some opened) command m ≡ None → call.IsSound opened reading m → IsCommandSound number (Some opened) command answer m
sound_by number opened command answer m reading is undamaged good = (subst (λ (r : Reading). call.IsSound opened r m) (sym is) good, undamaged)
