-- What each command is by the call that it makes on the open store: the general law, and the commands on types and records.
use Rattle.std.proofs.Common.{◌≡◌, ℕ, Bool, true, false, List, refl, sym, ap, ◌∙◌, Option, Some, None, Result, Ok, Err}
use Rattle.std.specs.Option.{option_map, option_map_or}
use Rattle.kv_core.specs.Map.{Map}
use Rattle.metadata.specs.declared.cells.Cell.{Cell}
use Rattle.metadata.specs.declared.definition.TypeRequest.{TypeRequest}
use Rattle.metadata.specs.declared.index.State.{State}
use Rattle.metadata.specs.declared.refusal.Refusal.{Refusal as SchemaRefusal}
use Rattle.metadata.specs.declared.definition.Field.{Field}
use Rattle.metadata.specs.Change.{add_field, add_type}
use Rattle.metadata.specs.Record.{Record, key_of, record_of}
use Rattle.metadata.specs.Schema.{Schema}
use Rattle.record_store.specs.Store.{Store, listed_states}
use Rattle.record_store.specs.Call.{Footprint, IsOpenAs, Opened, call_on}
use Rattle.record_store.specs.declared.error.StoreError.{StoreError}
use Rattle.record_store.specs.declared.error.StoreError.TheVariants.{Refused}
use Rattle.record_store.specs.Calls.{field_call, load_call, load_footprint, remove_call, remove_footprint, save_as_call, save_footprint, type_call, type_footprint}
use Rattle.record_store.specs.Meaning.{Meaning, by_schema, field_meaning, load_meaning, remove_meaning, save_meaning, type_meaning}
use Rattle.record_store.specs.Opening.{opening_reach}
use Rattle.record_store.specs.Layout.{store_prefix}
use Rattle.schedule.specs.declared.refusal.Refusal.{Refusal}
use Rattle.schedule.specs.declared.step.Command.{Command}
use Rattle.schedule.specs.declared.step.Command.TheVariants as commands
use Rattle.schedule.specs.declared.step.Command.TheVariants.{«Type», Save, Load, Remove}
use Rattle.schedule.specs.declared.reply.Reply.{Reply}
use Rattle.schedule.specs.declared.reply.Reply.TheVariants as reply
use Rattle.schedule.specs.Refusals.{of_schema, reply_of}
use Rattle.schedule.specs.Serve.{calling, done, serial_line, reply_to_load, reply_to_remove, reply_to_save}
use Rattle.schedule.specs.Past.{is_accepted, tells_change}
use Rattle.schedule.specs.Reach.{footprint_in, footprint_on, open_reach, own_damage}
use Rattle.schedule.proofs.Outcomes.{Meets}
use Rattle.schedule.proofs.Stops.{at, opened_same}

-- an error is a refusal
abbrev pub IsRefusal : StoreError → Type 0
IsRefusal error = (refusal : Refusal) × (reply_of error ≡ Some (reply.Refused refusal))

-- MEETS: a command is what its call is where its line and its footprint are those of what the call asks for, which it is refused for only with a refusal, and where what it replies to an answer is accepted, and tells that something was changed where the answer does
module _ (number : ℕ) {K A : Type 0} (asked : Schema → List (ℕ × State) → Result K StoreError) (meaning : K → Meaning A) (footprint : Opened → K → Footprint) (told : A → Reply) (opened : Opened) (command : Command) where
  pub meets : open_reach number command ≡ opening_reach (store_prefix number) → ((m : Map) → own_damage (Some (at number opened)) command m ≡ None) →
      ((store : Store) → serial_line (Some store) command ≡ calling store told meaning (asked store.schema (listed_states store))) → ((o : Opened) → footprint_in o command ≡ footprint_on (footprint o) (asked o.schema o.states)) →
      ((error : StoreError) → asked opened.schema opened.states ≡ Err error → IsRefusal error) → ((answer : A) → is_accepted (told answer) ≡ true) →
      ((value : K) (answer : A) → (meaning value).changes answer ≡ tells_change (told answer)) →
      Meets number (at number opened) command (call_on meaning (footprint (at number opened)) (asked opened.schema opened.states)) told
  meets opens undamaged lines prints own accepted telling = by_outcome (asked opened.schema opened.states) refl
    where
      lines_so : {o : Result K StoreError} (store : Store) → IsOpenAs (at number opened) store → asked opened.schema opened.states ≡ o → serial_line (Some store) command ≡ calling store told meaning o
      lines_so store same is = lines store ∙ (λ i. calling store told meaning (asked (same.schema i) (same.states i))) ∙ ap (calling store told meaning) is

      print_so : {o : Result K StoreError} → asked opened.schema opened.states ≡ o → footprint_in (at number opened) command ≡ footprint_on (footprint (at number opened)) o
      print_so is = prints (at number opened) ∙ ap (footprint_on (footprint (at number opened))) is

      by_outcome : (o : Result K StoreError) → asked opened.schema opened.states ≡ o → Meets number (at number opened) command (call_on meaning (footprint (at number opened)) o) told
      by_outcome (Ok value) is = record {
        opens = opens;
        reads = ap (λ (f : Footprint). f.reading) (print_so is);
        undamaged = undamaged;
        accepted = accepted;
        telling = telling value;
        lines = λ store same. lines_so store same is;
        prints = λ m store same. ap (λ (o : Opened). (footprint_in o command).writes m store) (sym (opened_same number opened store same)) ∙ ap (λ (f : Footprint). f.writes m store) (print_so is);
      }
      by_outcome (Err error) is =
          let refused = own error is in record {
            opens = opens;
            reads = ap (λ (f : Footprint). f.reading) (print_so is);
            undamaged = undamaged;
            refusal = refused.0;
            told = refused.1;
            lines = λ store same. lines_so store same is;
          }

-- what the schema refuses is a refusal
pub schema_refuses : {K : Type 0} (o : Result K SchemaRefusal) (error : StoreError) → by_schema o ≡ Err error → IsRefusal error
schema_refuses (Ok value) error is = absurd (cc)
schema_refuses (Err refusal) error is = let same : Refused refusal ≡ error = cc in (of_schema refusal, ap reply_of (sym same))

-- ---- load

load_accepted : (found : Option Record) → is_accepted (reply_to_load found) ≡ true
load_accepted None = refl
load_accepted (Some r) = refl

load_tells : (found : Option Record) → false ≡ tells_change (reply_to_load found)
load_tells None = refl
load_tells (Some r) = refl

-- what is replied to the cells of the record that was found is replied to that record
pub loaded_is : (found : Option Record) (cells : Option (List Cell)) → cells ≡ option_map (λ (r : Record). r.cells) found → option_map_or reply.Found cells reply.Absent ≡ reply_to_load found
loaded_is found cells is = ap (λ o. option_map_or reply.Found o reply.Absent) is ∙ of_record found
  where
    of_record : (o : Option Record) → option_map_or reply.Found (option_map (λ (r : Record). r.cells) o) reply.Absent ≡ reply_to_load o
    of_record None = refl
    of_record (Some r) = refl

pub load_meets : (number : ℕ) (opened : Opened) (name : List ℕ) (cells : List Cell) → Meets number (at number opened) (Load name cells) (load_call (at number opened) name cells) reply_to_load
load_meets number opened name cells =
    meets number (λ schema states. by_schema (key_of schema name cells)) load_meaning load_footprint reply_to_load opened (Load name cells) refl (λ m. refl) (λ store. refl) (λ o. refl)
    (schema_refuses (key_of opened.schema name cells)) load_accepted (λ key. load_tells)

-- ---- remove

remove_accepted : (was_there : Bool) → is_accepted (reply_to_remove was_there) ≡ true
remove_accepted true = refl
remove_accepted false = refl

remove_tells : (was_there : Bool) → was_there ≡ tells_change (reply_to_remove was_there)
remove_tells true = refl
remove_tells false = refl

pub remove_meets : (number : ℕ) (opened : Opened) (name : List ℕ) (cells : List Cell) → Meets number (at number opened) (Remove name cells) (remove_call (at number opened) name cells) reply_to_remove
remove_meets number opened name cells =
    meets number (λ schema states. by_schema (key_of schema name cells)) remove_meaning remove_footprint reply_to_remove opened (Remove name cells) refl (λ m. refl) (λ store. refl) (λ o. refl)
    (schema_refuses (key_of opened.schema name cells)) remove_accepted (λ key. remove_tells)

-- ---- save

save_accepted : (found : Option Record) → is_accepted (reply_to_save found) ≡ true
save_accepted None = refl
save_accepted (Some r) = refl

save_tells : (found : Option Record) → true ≡ tells_change (reply_to_save found)
save_tells None = refl
save_tells (Some r) = refl

pub save_meets : (number : ℕ) (opened : Opened) (name : List ℕ) (cells : List Cell) → Meets number (at number opened) (Save name cells) (save_as_call (at number opened) name cells) reply_to_save
save_meets number opened name cells =
    meets number (λ schema states. by_schema (record_of schema name cells)) save_meaning save_footprint reply_to_save opened (Save name cells) refl (λ m. refl) (λ store. refl) (λ o. refl)
    (schema_refuses (record_of opened.schema name cells)) save_accepted (λ r. save_tells)

-- ---- field

pub field_meets : (number : ℕ) (opened : Opened) (name : List ℕ) (field : Field) → Meets number (at number opened) (commands.Field name field) (field_call (at number opened) name field) done
field_meets number opened name field =
    meets number (λ schema states. by_schema (add_field schema name field)) field_meaning type_footprint done opened (commands.Field name field) refl (λ m. refl) (λ store. refl) (λ o. refl)
    (schema_refuses (add_field opened.schema name field)) (λ schema. refl) (λ schema answer. refl)

-- ---- type

pub type_meets : (number : ℕ) (opened : Opened) (request : TypeRequest) → Meets number (at number opened) («Type» request) (type_call (at number opened) request) done
type_meets number opened request =
    meets number (λ schema states. by_schema (add_type schema request)) type_meaning type_footprint done opened («Type» request) refl (λ m. refl) (λ store. refl) (λ o. refl)
    (schema_refuses (add_type opened.schema request)) (λ schema. refl) (λ schema answer. refl)
