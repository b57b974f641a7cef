-- The refusals that a step replies: those that the schema, a record, an index or a query meets, and their names.
use Rattle.std.specs.Prelude.{ℕ, List, Option, Some, None, codes}
use Rattle.metadata.specs.declared.refusal.Refusal.{Refusal as SchemaRefusal}
use Rattle.metadata.specs.declared.refusal.Refusal.TheVariants as schema
use Rattle.record_store.specs.declared.error.StoreError.{StoreError}
use Rattle.record_store.specs.declared.error.StoreError.TheVariants as store
use Rattle.query.specs.declared.error.QueryError.{QueryError}
use Rattle.query.specs.declared.error.QueryError.TheVariants as query
use Rattle.kv_core.specs.declared.change.WriteError.{WriteError}
use Rattle.kv_core.specs.declared.change.WriteError.TheVariants as write
use Rattle.kv_core.specs.declared.snapshot.ReadError.{ReadError}
use Rattle.kv_core.specs.declared.snapshot.ReadError.TheVariants as read
use Rattle.schedule.specs.declared.reply.Reply.{Reply}
use Rattle.schedule.specs.declared.reply.Reply.TheVariants as reply
use Rattle.schedule.specs.declared.refusal.Refusal.{Refusal}
use Rattle.schedule.specs.declared.refusal.Refusal.TheVariants.{NoSuchClient, NoSuchStore, NoSuchRole, Busy}
use Rattle.schedule.specs.declared.refusal.Refusal.TheVariants.{NoTransaction, NoPlan}
use Rattle.schedule.specs.declared.refusal.Refusal.TheVariants.{BadLimit, BadName, IndexNotReadable, NotAggregate}
use Rattle.schedule.specs.declared.refusal.Refusal.TheVariants.{NotBuilt, NotReadable, WrongState}
use Rattle.schedule.specs.declared.refusal.Refusal.TheVariants.{NameTaken, UnknownType, UnknownIndex, UnknownField}
use Rattle.schedule.specs.declared.refusal.Refusal.TheVariants.{WrongKind, NullKey, BadSchema, TooMany, AlreadyThere}
use Rattle.schedule.specs.declared.refusal.Refusal.TheVariants.{TooDeep, TooLarge, SortTwice, SortNotServed}
use Rattle.schedule.specs.declared.refusal.Refusal.TheVariants.{NoStore, OtherSchema, FutureVersion, TooOld}
use Rattle.schedule.specs.declared.refusal.Refusal.TheVariants.{VersionsExhausted, KeyOutside}
use Rattle.schedule.specs.declared.refusal.Refusal.TheVariants.{KeyTooLarge, ValueTooLarge}
use Rattle.schedule.specs.declared.refusal.Refusal.TheVariants.{TransactionTooLarge}

-- the refusal of a step whose schema or record is refused so
abbrev pub of_schema : SchemaRefusal → Refusal
of_schema schema.BadName = BadName
of_schema schema.NameTaken = NameTaken
of_schema schema.UnknownType = UnknownType
of_schema schema.UnknownIndex = UnknownIndex
of_schema schema.UnknownField = UnknownField
of_schema schema.WrongKind = WrongKind
of_schema schema.NullKey = NullKey
of_schema schema.BadSchema = BadSchema
of_schema schema.TooMany = TooMany

-- the reply that a refused read is; want of memory is none
abbrev pub read_reply : ReadError → Option Reply
read_reply read.FutureVersion = Some (reply.Refused FutureVersion)
read_reply read.TooOld = Some (reply.Refused TooOld)
read_reply read.Memory = None

-- the reply that a refused write is; want of memory is none
abbrev pub write_reply : WriteError → Option Reply
write_reply write.KeyOutside = Some (reply.Refused KeyOutside)
write_reply write.KeyTooLarge = Some (reply.Refused KeyTooLarge)
write_reply write.ValueTooLarge = Some (reply.Refused ValueTooLarge)
write_reply write.TransactionTooLarge = Some (reply.Refused TransactionTooLarge)
write_reply write.Memory = None

-- the reply that an error is; want of memory is none
abbrev pub reply_of : StoreError → Option Reply
reply_of store.Memory = None
reply_of (store.Read error) = read_reply error
reply_of (store.Write error) = write_reply error
reply_of (store.Corrupt key) = Some (reply.Corrupt key)
reply_of (store.Refused refusal) = Some (reply.Refused (of_schema refusal))
reply_of store.NoStore = Some (reply.Refused NoStore)
reply_of store.AlreadyThere = Some (reply.Refused AlreadyThere)
reply_of store.OtherSchema = Some (reply.Refused OtherSchema)
reply_of store.NotAggregate = Some (reply.Refused NotAggregate)
reply_of store.NotReadable = Some (reply.Refused NotReadable)
reply_of store.WrongState = Some (reply.Refused WrongState)
reply_of store.NotBuilt = Some (reply.Refused NotBuilt)

-- the refusal of a step whose query is refused so
abbrev pub of_query : QueryError → Refusal
of_query query.UnknownType = UnknownType
of_query query.TooDeep = TooDeep
of_query query.TooLarge = TooLarge
of_query query.UnknownField = UnknownField
of_query query.WrongKind = WrongKind
of_query query.SortTwice = SortTwice

-- the name that is printed
abbrev pub refusal_name : Refusal → List ℕ
refusal_name NoSuchClient = codes "NoSuchClient"
refusal_name NoSuchStore = codes "NoSuchStore"
refusal_name NoSuchRole = codes "NoSuchRole"
refusal_name Busy = codes "Busy"
refusal_name NoTransaction = codes "NoTransaction"
refusal_name NoPlan = codes "NoPlan"
refusal_name BadName = codes "BadName"
refusal_name NameTaken = codes "NameTaken"
refusal_name UnknownType = codes "UnknownType"
refusal_name UnknownIndex = codes "UnknownIndex"
refusal_name UnknownField = codes "UnknownField"
refusal_name WrongKind = codes "WrongKind"
refusal_name NullKey = codes "NullKey"
refusal_name BadSchema = codes "BadSchema"
refusal_name TooMany = codes "TooMany"
refusal_name TooDeep = codes "TooDeep"
refusal_name TooLarge = codes "TooLarge"
refusal_name SortTwice = codes "SortTwice"
refusal_name SortNotServed = codes "SortNotServed"
refusal_name AlreadyThere = codes "AlreadyThere"
refusal_name NoStore = codes "NoStore"
refusal_name OtherSchema = codes "OtherSchema"
refusal_name IndexNotReadable = codes "IndexNotReadable"
refusal_name NotAggregate = codes "NotAggregate"
refusal_name NotReadable = codes "NotReadable"
refusal_name WrongState = codes "WrongState"
refusal_name NotBuilt = codes "NotBuilt"
refusal_name BadLimit = codes "BadLimit"
refusal_name FutureVersion = codes "FutureVersion"
refusal_name TooOld = codes "TooOld"
refusal_name VersionsExhausted = codes "VersionsExhausted"
refusal_name KeyOutside = codes "KeyOutside"
refusal_name KeyTooLarge = codes "KeyTooLarge"
refusal_name ValueTooLarge = codes "ValueTooLarge"
refusal_name TransactionTooLarge = codes "TransactionTooLarge"
