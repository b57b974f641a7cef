-- The locked state and a client may go to another thread, since nothing that they own is bound to one.
use base.Fml.{Lft}
use denote.RattleType.{RattleType}
use denote.Ref.{MutRef}
use denote.Param.Send.{IsSend, mut_send, sendable, struct_send, recorded_send, view_send}
use denote.Struct.Declared.{shape}
use mir.Syntax.{Lifetime}
use Rattle.std.proofs.Crossing.{crosses, Arc-send}
use Rattle.std.proofs.alloc.Global.TheSendSync as heap
use Rattle.kv_core.proofs.bytes.Bytes.TheSendSync as bytes
use Rattle.kv_core.proofs.change.CommitRequest.TheSendSync as request
use Rattle.cluster_core.proofs.answers.Splits.TheSendSync as splits
use Rattle.cluster_core.proofs.kept.Cause.TheSendSync as cause
use Rattle.cluster_core.proofs.log.Log.TheSendSync as log
use Rattle.cluster_core.proofs.part.Part.TheSendSync as part
use Rattle.cluster_core.proofs.past.Past.TheSendSync as past
use Rattle.cluster_core.proofs.points.Points.TheSendSync as points
use Rattle.cluster_core.proofs.tree.Tree.TheLaws.TheKnot as knot
use Rattle.cluster_core.specs.contracts.requests.Requests as Requests
use Rattle.cluster_core.specs.contracts.segments.Segments as Segments
use Rattle.cluster_core.specs.contracts.kept.Writers as Writers
use Rattle.cluster_core.specs.contracts.resolver.Resolver as Resolver
use Rattle.cluster_core.specs.contracts.pipeline.Pipeline as Pipeline
use Rattle.command_log.proofs.entry.Entry.TheSendSync as kept_entry
use Rattle.schedule.proofs.known.Known.TheSendSync as known
use Rattle.runtime.proofs.publisher.Publisher.TheSendSync as publisher
use Rattle.runtime.proofs.log_prefix.LogHead.TheSendSync as head
use Rattle.runtime.proofs.log_prefix.LogPrefix.TheSendSync as prefix
use Rattle.runtime.proofs.in_flight.InFlight.TheSendSync as in_flight
use Rattle.runtime.specs.contracts.commit_state.CommitState as CommitState
use Rattle.runtime.specs.contracts.commit_state.CommitState.TheInside as inside
use Rattle.runtime.specs.contracts.client.Client as Client
use Rattle.runtime.specs.contracts.client.Client.TheInside as of_client
use Rattle.runtime.specs.contracts.locked_state.LockedState as LockedState
use Rattle.runtime.specs.contracts.locked_state.LockedState.TheInside as of_locked
use Rattle.runtime.specs.Keeping.{LockedView}
use Rattle.runtime.proofs.keeping.Keeping.TheSendSync as keeping
use Rattle.runtime.specs.declared.commit_lock.Lockable as bounds
use Rattle.runtime.specs.declared.locked_state.End.{Ghosts}
use Rattle.runtime.proofs.commit_lock.CommitLock.TheSendSync as lock
use Rattle.runtime.proofs.open_transaction.OpenTransaction.TheSendSync as open_tx
use Rattle.runtime.proofs.published.Published.TheSendSync as published
use Rattle.runtime.specs.contracts.published.Published as Published
use Rattle.runtime.specs.contracts.published.View as View
use Rattle.runtime.specs.contracts.publication.PublishedRule as PublishedRule
use Rattle.runtime.specs.contracts.publication.PublishedRuleProtocolPublishedView.TheImpl as well_formed
use Rattle.left_right.specs.contracts.reader.Reader as Reader
use Rattle.std.specs.contracts.alloc.Global as Heap
use Rattle.std.specs.contracts.impls.GlobalAllocator.TheImpl as allocator
use Rattle.left_right.proofs.reader.Reader.TheSendSync as reader
use Rattle.atomic_table.proofs.shared.Seat.TheSendSync as seat
use Rattle.std.proofs.option.Option.TheSendSync as option

segments_send : IsSend Segments.the_row
segments_send = search (knot.crosses, bytes.the_send, sendable, crosses) depth 20

writers_send : IsSend Writers.the_row
writers_send = search (points.the_send, segments_send, sendable, crosses) depth 20

resolver_send : IsSend Resolver.the_row
resolver_send = search (part.the_send, writers_send, cause.the_send, sendable, crosses) depth 20

requests_send : IsSend Requests.the_row
requests_send = search (request.the_field_send, past.the_send, sendable, crosses) depth 20

pipeline_send : IsSend Pipeline.the_row
pipeline_send =
    search (splits.the_send, requests_send, resolver_send, log.the_send, sendable, crosses) depth 20

pub hold_send : IsSend CommitState.the_row
hold_send =
    view_send inside.the_row _ _ _ _
    (recorded_send (inside.the_field).row _ _ (inside.the_type).to_one
    (struct_send (shape inside.the_type) (
      heap.the_field_send,
      (
        pipeline_send,
        (
          publisher.the_send,
          (
            head.the_send,
            (
              prefix.the_send,
              (in_flight.the_field_send, (search (sendable, crosses) depth 20, tt)),
            ),
          ),
        ),
      ),
    )))

owned_send : (E : RattleType) (g : Ghosts E.Denot) → IsSend E → IsSend (LockedState.the_row E g)
owned_send E g s =
    view_send (of_locked.the_row E g) _ _ _ _
    (recorded_send (of_locked.the_field E g).row _ _ (of_locked.the_type E g).to_one
    (struct_send (shape (of_locked.the_type E g)) (hold_send, (s, (keeping.the_field_send, (search (kept_entry.the_send, sendable, crosses) depth 20, tt))))))

reader_send :
    IsSend (Reader.the_row Published.the_row View.the_row PublishedRule.the_row Heap.the_row well_formed.ghosts allocator.ghosts)
reader_send = search (reader.the_send, published.the_sync, sendable, crosses) depth 20

-- how the locked state is bound to its database
abbrev bound_of : (E : RattleType) (g : Ghosts E.Denot) → bounds.Ghosts (LockedState.the_row E g).Denot
bound_of E g = record { name = λ (o : LockedView E.Denot). o.state.name; last = λ (o : LockedView E.Denot). o.state.last }

pub client_send : (E : RattleType) (g : Ghosts E.Denot) → IsSend E → IsSend (Client.the_row E g)
client_send E g s =
    let owned : IsSend (LockedState.the_row E g) = owned_send E g s in
    view_send (of_client.the_row E g) _ _ _ _
    (recorded_send ((of_client.the_field E g).row) _ _ (of_client.the_type E g).to_one
    (struct_send (shape (of_client.the_type E g)) (
      heap.the_field_send,
      (
        Arc-send _ (lock.the_send (LockedState.the_row E g) (bound_of E g) owned) (lock.the_sync (LockedState.the_row E g) (bound_of E g) owned),
        (
          seat.the_send _ _ (option.the_send _ owned),
          (
            option.the_field_send _ reader_send,
            (
              prefix.the_send,
              (search (sendable, crosses), (search (sendable, crosses), (option.the_field_send _ open_tx.the_send, (known.the_field_send, tt)))),
            ),
          ),
        ),
      ),
    )))

-- and so may one that is lent
pub lent_send :
    (E : RattleType) (g : Ghosts E.Denot) (ℓ : Lifetime) (κ : Lft) → IsSend E → IsSend (MutRef ℓ κ (Client.the_row E g))
lent_send E g ℓ κ s = mut_send ℓ κ _ (client_send E g s)
