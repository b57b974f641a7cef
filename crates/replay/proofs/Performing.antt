-- Commands that are performed in one transaction in a store, one after another.
use Rattle.std.proofs.Common.{◌≡◌, ℕ, suc, ◌+◌, ◌<◌, true, false, cond, inl, inr, List, [], ◌∷◌, ◌++◌, length, take, drop, get_or, refl, sym, ap, subst, subst₂, ◌∙◌, append_assoc, append-nil, arith}
use Rattle.std.proofs.Math.Seq.{split_at}
use Rattle.std.proofs.lemmas.Bool.{true≢false}
use Rattle.std.proofs.lemmas.List.{length-take-le, take_more}
use Rattle.kv_core.specs.Map.{Map, after_all}
use Rattle.kv_core.specs.Range.{KeyRange}
use Rattle.kv_core.specs.declared.change.CommitRequest.{CommitRequest}
use Rattle.kv_core.specs.declared.change.Mutation.{Mutation}
use Rattle.kv_core.proofs.Changes.{after_all-append}
use Rattle.kv_core.specs.declared.snapshot.ReadError.{ReadError}
use Rattle.txn.specs.Reads.{seen}
use Rattle.record_store.specs.Store.{Serial}
use Rattle.schedule.specs.declared.reply.Reply.{Reply}
use Rattle.schedule.specs.declared.reply.Reply.TheVariants as replies
use Rattle.schedule.specs.declared.step.Command.{Command}
use Rattle.schedule.specs.Past.{is_accepted}
use Rattle.schedule.specs.Serve.{effect, effects}
use Rattle.schedule.specs.Holds.{Stands}
use Rattle.schedule.specs.Reach.{writes}
use Rattle.schedule.specs.Performed.{IsPerformed, IsPerformedAt, IsServed}
use Rattle.schedule.specs.Exact.{commands_written}
use Rattle.command_log.specs.declared.change.Change.{Change}
use Rattle.replay.specs.Commands.{command_of, commands_of}
use Rattle.replay.specs.Logged.{AreAccepted, AreServed}
use Rattle.replay.specs.Replaying.{AllDone, AreRefused, AreUndone, IsDoneAt, IsRefusalOf, IsRefusedAt}
use Rattle.replay.specs.declared.error.PerformError.{PerformError}
use Rattle.replay.specs.declared.error.PerformError.TheVariants as performs
use Rattle.replay.proofs.Accepting.{same_acceptance}

module _ (number : ℕ) where
  -- ---- one command more

  effects_append : (serial : Serial) (commands : List Command) (command : Command) → effects serial (commands ++ command ∷ []) ≡ effect (effects serial commands) command
  effects_append serial [] command = refl
  effects_append serial (first ∷ commands) command = effects_append (effect serial first) commands command

  written_append : (m : Map) (serial : Serial) (commands : List Command) (command : Command) →
      commands_written number m serial (commands ++ command ∷ []) ≡ commands_written number m serial commands ++ writes number (after_all (commands_written number m serial commands) m) (effects serial commands) command
  written_append m serial [] command = append-nil (writes number m serial command)
  written_append m serial (first ∷ commands) command =
      let w = writes number m serial first in
      let n = after_all w m in
      let s = effect serial first in
      let c = commands_written number n s commands in
      ap (λ ms. w ++ ms) (written_append n s commands command)
      ∙ sym (append_assoc w c (writes number (after_all c n) (effects s commands) command))
      ∙ ap (λ o. (w ++ c) ++ writes number o (effects s commands) command) (sym (after_all-append w c m))

  served_append : (m : Map) (before : List Mutation) (serial : Serial) (commands : List Command) (answers : List Reply) (command : Command) (answer : Reply) →
      AreServed number m before serial commands answers → is_accepted answer ≡ true →
      IsServed number (after_all (commands_written number m serial commands) m) (before ++ commands_written number m serial commands) (effects serial commands) command answer →
      AreServed number m before serial (commands ++ command ∷ []) (answers ++ answer ∷ [])
  served_append m before serial [] [] command answer are accepts served = (accepts, subst (λ ms. IsServed number m ms serial command answer) (append-nil before) served, tt)
  served_append m before serial [] (reply ∷ answers) command answer are accepts served = absurd are
  served_append m before serial (first ∷ commands) [] command answer are accepts served = absurd are
  served_append m before serial (first ∷ commands) (reply ∷ answers) command answer (agrees, one, rest) accepts served =
      let w = writes number m serial first in
      let n = after_all w m in
      let s = effect serial first in
      let c = commands_written number n s commands in (
        agrees,
        one,
        served_append n (before ++ w) s commands answers command answer rest accepts
            (subst₂ (λ o ms. IsServed number o ms (effects s commands) command answer) (after_all-append w c m) (sym (append_assoc before w c)) served),
      )

  -- a command that was performed over a map alone, which refuses no read, has the reply that it is served
  performed_at : (m : Map) (refuses : KeyRange → ReadError → Type 0) (never : (range : KeyRange) (error : ReadError) → refuses range error → ⊥) (command : Command) (answer : Reply) (old new : CommitRequest) (performed : IsPerformed number (λ v. m) refuses command answer old new) (serial : Serial) →
      Stands number (seen old m) serial → IsPerformedAt number refuses command answer old.mutations performed.written performed.added (seen old m) serial
  performed_at m refuses never command answer old new performed serial holds = (performed.ran.over m (λ key h. refl)).1 serial holds

  served_at : (m : Map) (refuses : KeyRange → ReadError → Type 0) (never : (range : KeyRange) (error : ReadError) → refuses range error → ⊥) (command : Command) (answer : Reply) (old new : CommitRequest) → IsPerformed number (λ v. m) refuses command answer old new → (serial : Serial) →
      Stands number (seen old m) serial → IsServed number (seen old m) old.mutations serial command answer
  served_at m refuses never command answer old new performed serial holds =
      elim (performed_at m refuses never command answer old new performed serial holds).right [ inl served ↦ served | inr refused ↦ absurd (never refused.refused.range refused.error refused.refused.refused) ]

  done_more : (m : Map) (serial : Serial) (commands : List Command) (answers : List Reply) (refuses : KeyRange → ReadError → Type 0) (never : (range : KeyRange) (error : ReadError) → refuses range error → ⊥) (command : Command) (answer : Reply) (old new : CommitRequest) →
      IsDoneAt number m serial commands answers old.mutations → IsPerformed number (λ v. m) refuses command answer old new → is_accepted answer ≡ true →
      IsDoneAt number m serial (commands ++ command ∷ []) (answers ++ answer ∷ []) new.mutations
  done_more m serial commands answers refuses never command answer old new done performed accepts =
      let now : Map = seen old m in
      let s : Serial = effects serial commands in
      let at = performed_at m refuses never command answer old new performed s done.holds in
      let wrote : performed.written ≡ writes number now s command = at.wrote ∙ ap (λ b. cond b (writes number now s command) []) accepts in
      let after : after_all performed.written now ≡ after_all new.mutations m = sym (ap (λ ms. after_all ms m) performed.ran.wrote ∙ after_all-append old.mutations performed.written m) in
      record {
        served = served_append m [] serial commands answers command answer done.served accepts
            (subst (λ ms. IsServed number (after_all ms m) ms s command answer) done.wrote (served_at m refuses never command answer old new performed s done.holds));
        wrote = performed.ran.wrote ∙ ap (λ ms. old.mutations ++ ms) wrote ∙ ap (λ ms. ms ++ writes number (after_all ms m) s command) done.wrote ∙ sym (written_append m serial commands command);
        holds = subst₂ (Stands number) after (ap (λ b. cond b (effect s command) s) accepts ∙ sym (effects_append serial commands command)) at.holds;
      }

  -- ---- the loop

  -- nothing is done yet
  pub done_none : (m : Map) (old : CommitRequest) → old.mutations ≡ [] → AllDone number m [] [] old.mutations
  done_none m old is serial holds = record { served = tt; wrote = is; holds = subst (λ ms. Stands number (after_all ms m) serial) (sym is) holds }

  -- one more of the commands is done
  pub done_turn : (m : Map) (commands : List Command) (i : ℕ) (command : Command) (before after : List Reply) (refuses : KeyRange → ReadError → Type 0) (never : (range : KeyRange) (error : ReadError) → refuses range error → ⊥) (answer : Reply) (old new : CommitRequest) →
      i < length commands → command ≡ get_or commands i command → after ≡ before ++ answer ∷ [] → AllDone number m (take i commands) before old.mutations → IsPerformed number (λ v. m) refuses command answer old new → is_accepted answer ≡ true →
      AllDone number m (take (i + 1) commands) after new.mutations
  done_turn m commands i command before after refuses never answer old new within is pushed done performed accepts serial holds =
      let longer : take (i + 1) commands ≡ take i commands ++ command ∷ [] = take_more commands i command within ∙ ap (λ s. take i commands ++ s ∷ []) (sym is) in
      subst₂ (λ cs rs. IsDoneAt number m serial cs rs new.mutations) (sym longer) (sym pushed) (done_more m serial (take i commands) before refuses never command answer old new (done serial holds) performed accepts)

  -- the next one is refused
  pub refused_turn : (m : Map) (commands : List Command) (i : ℕ) (command : Command) (before : List Reply) (refuses : KeyRange → ReadError → Type 0) (never : (range : KeyRange) (error : ReadError) → refuses range error → ⊥) (answer : Reply) (old new : CommitRequest) →
      i < length commands → command ≡ get_or commands i command → AllDone number m (take i commands) before old.mutations → IsPerformed number (λ v. m) refuses command answer old new → is_accepted answer ≡ false →
      AreRefused number m commands i answer
  refused_turn m commands i command before refuses never answer old new within is done performed refused serial holds =
      let so = done serial holds in
      let s : Serial = effects serial (take i commands) in
      record {
        first = take i commands;
        command = command;
        others = drop (suc i) commands;
        split = split_at commands i command within ∙ ap (λ c. take i commands ++ c ∷ drop (suc i) commands) (sym is);
        at = length-take-le i commands (omega (arith, within));
        before = (before, so.served);
        refused = refused;
        answered = subst (λ ms. IsServed number (after_all ms m) ms s command answer) so.wrote (served_at m refuses never command answer old new performed s so.holds);
      }

  -- so it is told
  pub refusal_told : (m : Map) (commands : List Command) (place : ℕ) (answer : Reply) (error : PerformError) → IsRefusalOf place answer error → AreRefused number m commands place answer → AreUndone number m commands error
  refusal_told m commands place answer performs.Memory told refused = tt
  refusal_told m commands place answer (performs.Refused at refusal) told refused = subst₂ (AreRefused number m commands) (sym told.0) told.1 refused
  refusal_told m commands place answer (performs.Corrupt at key) told refused = subst₂ (AreRefused number m commands) (sym told.0) told.1 refused

  -- ---- what is refused isn't accepted

  record IsServedBehind (m : Map) (before : List Mutation) (serial : Serial) (commands : List Command) (command : Command) : Type 0 where
    reply : Reply
    accepts : is_accepted reply ≡ true
    served : IsServed number (after_all (commands_written number m serial commands) m) (before ++ commands_written number m serial commands) (effects serial commands) command reply

  served_behind : (m : Map) (before : List Mutation) (serial : Serial) (first : List Command) (command : Command) (others : List Command) (answers : List Reply) → AreServed number m before serial (first ++ command ∷ others) answers → IsServedBehind m before serial first command
  served_behind m before serial [] command others [] are = absurd are
  served_behind m before serial [] command others (reply ∷ answers) (agrees, one, rest) = record { reply = reply; accepts = agrees; served = subst (λ ms. IsServed number m ms serial command reply) (sym (append-nil before)) one }
  served_behind m before serial (c ∷ first) command others [] are = absurd are
  served_behind m before serial (c ∷ first) command others (reply ∷ answers) (agrees, one, rest) =
      let w = writes number m serial c in
      let n = after_all w m in
      let s = effect serial c in
      let d = commands_written number n s first in
      let found = served_behind n (before ++ w) s first command others answers rest in
      record {
        reply = found.reply;
        accepts = found.accepts;
        served = subst₂ (λ o ms. IsServed number o ms (effects s first) command found.reply) (sym (after_all-append w d m)) (append_assoc before w d) found.served;
      }

  -- each of the commands that changes are is one
  is_change : (changes : List Change) (first : List Command) (command : Command) (others : List Command) → commands_of changes ≡ first ++ command ∷ others → (change : Change) × (command ≡ command_of change)
  is_change [] [] command others is = absurd (cc)
  is_change [] (c ∷ first) command others is = absurd (cc)
  is_change (change ∷ changes) [] command others is = (change, cc)
  is_change (change ∷ changes) (c ∷ first) command others is = let rest : commands_of changes ≡ first ++ command ∷ others = cc in is_change changes first command others rest

  pub refused_unaccepted : (m : Map) (serial : Serial) (changes : List Change) (place : ℕ) (answer : Reply) → IsRefusedAt number m serial (commands_of changes) place answer → AreAccepted number m serial (commands_of changes) → ⊥
  refused_unaccepted m serial changes place answer refused (answers, served) =
      let c = commands_written number m serial refused.first in
      let n = after_all c m in
      let s = effects serial refused.first in
      let found = served_behind m [] serial refused.first refused.command refused.others answers (subst (λ cs. AreServed number m [] serial cs answers) refused.split served) in
      let (change, is) = is_change changes refused.first refused.command refused.others refused.split in
      let same = same_acceptance number n c s change found.reply answer (subst (λ k. IsServed number n c s k found.reply) is found.served) (subst (λ k. IsServed number n c s k answer) is refused.answered) in
      true≢false (sym found.accepts ∙ same ∙ refused.refused)

  pub undone_unaccepted : (m : Map) (serial : Serial) (changes : List Change) (error : PerformError) → (error ≡ performs.Memory → ⊥) → AreUndone number m (commands_of changes) error → Stands number m serial → AreAccepted number m serial (commands_of changes) → ⊥
  undone_unaccepted m serial changes performs.Memory other undone holds accepted = other refl
  undone_unaccepted m serial changes (performs.Refused place refusal) other undone holds accepted = refused_unaccepted m serial changes place (replies.Refused refusal) (undone serial holds) accepted
  undone_unaccepted m serial changes (performs.Corrupt place key) other undone holds accepted = refused_unaccepted m serial changes place (replies.Corrupt key) (undone serial holds) accepted
