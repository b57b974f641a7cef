-- Commands over the pairs that were given, and over a database that has them in what is covered.
use Rattle.std.proofs.Common.{◌≡◌, ℕ, ◌+◌, ◌<◌, List, [], ◌∷◌, ◌++◌, length, take, get_or, refl, sym, ap, subst, subst₂, ◌∙◌}
use Rattle.std.proofs.lemmas.List.{take_more}
use Rattle.std.specs.Prelude.{IsTrue}
use Rattle.kv_core.specs.Range.{KeyRange, covers}
use Rattle.kv_core.specs.Map.{Map, Agree}
use Rattle.kv_core.specs.declared.change.CommitRequest.{CommitRequest}
use Rattle.kv_core.specs.declared.change.Mutation.{Mutation}
use Rattle.schedule.specs.declared.step.Command.{Command}
use Rattle.schedule.specs.declared.reply.Reply.{Reply}
use Rattle.schedule.specs.Performed.{IsPerformed}
use Rattle.schedule.specs.Turns.{AreDone}
use Rattle.schedule.proofs.Turning.{performed_did}
use Rattle.txn.proofs.Running.{ran_keeps}
use Rattle.std.specs.List.{AllByRecursion}
use Rattle.drive.specs.declared.wanted.Want.{Want}
use Rattle.drive.specs.Driving.{ArePerformed, IsHostAnswered, IsHostAsked, attempts_at, host_store, resumed}
use Rattle.drive.specs.Wanted.{AreWithin, HasFrom, IsLeftOfOne, IsUncovered}

-- a command over the given pairs is one over each database that agrees with them on what was read
one_over : (pairs : Map) (maps : ℕ → Map) (command : Command) (reply : Reply) (old new : CommitRequest) → Agree new.reads pairs (maps old.read_version) → IsPerformed host_store (λ version. pairs) (λ range error. ⊥) command reply old new → IsPerformed host_store maps (λ range error. ⊥) command reply old new
one_over pairs maps command reply old new base did = record {
  opened = did.opened;
  added = did.added;
  written = did.written;
  changes = did.changes;
  ran = record {
    version = did.ran.version;
    wrote = did.ran.wrote;
    reads = did.ran.reads;
    over = λ m agree. did.ran.over m (λ key h. base key h ∙ agree key h);
  };
}

-- what was read stays among what is read later
keeps_reads : (maps : ℕ → Map) (commands : List Command) (replies : List Reply) (old new : CommitRequest) → ArePerformed maps commands replies old new → (key : List ℕ) → IsTrue (covers old.reads key) → IsTrue (covers new.reads key)
keeps_reads maps [] [] old new same key h = subst (λ (t : CommitRequest). IsTrue (covers t.reads key)) same h
keeps_reads maps [] (reply ∷ replies) old new done key h = absurd done
keeps_reads maps (command ∷ commands) [] old new done key h = absurd done
keeps_reads maps (command ∷ commands) (reply ∷ replies) old new (mid, did, rest) key h = keeps_reads maps commands replies mid new rest key (ran_keeps did.ran key h)

-- the read version stays
pub keeps_version : (maps : ℕ → Map) (commands : List Command) (replies : List Reply) (old new : CommitRequest) → ArePerformed maps commands replies old new → new.read_version ≡ old.read_version
keeps_version maps [] [] old new same = ap (λ (t : CommitRequest). t.read_version) (sym same)
keeps_version maps [] (reply ∷ replies) old new done = absurd done
keeps_version maps (command ∷ commands) [] old new done = absurd done
keeps_version maps (command ∷ commands) (reply ∷ replies) old new (mid, did, rest) = keeps_version maps commands replies mid new rest ∙ did.ran.version

-- so are commands in turn
all_over : (pairs : Map) (maps : ℕ → Map) (version : ℕ) (commands : List Command) (replies : List Reply) (old new : CommitRequest) → old.read_version ≡ version → Agree new.reads pairs (maps version) → ArePerformed (λ v. pairs) commands replies old new → ArePerformed maps commands replies old new
all_over pairs maps version [] [] old new at base done = done
all_over pairs maps version [] (reply ∷ replies) old new at base done = absurd done
all_over pairs maps version (command ∷ commands) [] old new at base done = absurd done
all_over pairs maps version (command ∷ commands) (reply ∷ replies) old new at base (mid, did, rest) =
    let inside : Agree mid.reads pairs (maps version) = λ key h. base key (keeps_reads (λ v. pairs) commands replies mid new rest key h) in (
      mid,
      one_over pairs maps command reply old mid (subst (λ v. Agree mid.reads pairs (maps v)) (sym at) inside) did,
      all_over pairs maps version commands replies mid new (did.ran.version ∙ at) base rest,
    )

-- they are attempts that were made
done_of : (maps : ℕ → Map) (commands : List Command) (replies : List Reply) (old new : CommitRequest) → ArePerformed maps commands replies old new → AreDone host_store maps (attempts_at commands replies) old new
done_of maps [] [] old new same = same
done_of maps [] (reply ∷ replies) old new done = absurd done
done_of maps (command ∷ commands) [] old new done = absurd done
done_of maps (command ∷ commands) (reply ∷ replies) old new (mid, did, rest) =
    (mid, performed_did host_store maps (λ range error. ⊥) command reply old mid did, done_of maps commands replies mid new rest)

-- one more command with its reply
pub performed_append : (maps : ℕ → Map) (commands : List Command) (replies : List Reply) (command : Command) (reply : Reply) (old mid new : CommitRequest) →
    ArePerformed maps commands replies old mid → IsPerformed host_store maps (λ range error. ⊥) command reply mid new → ArePerformed maps (commands ++ command ∷ []) (replies ++ reply ∷ []) old new
performed_append maps [] [] command reply old mid new same did = (new, subst (λ (t : CommitRequest). IsPerformed host_store maps (λ range error. ⊥) command reply t new) (sym same) did, refl)
performed_append maps [] (first ∷ replies) command reply old mid new done did = absurd done
performed_append maps (one ∷ commands) [] command reply old mid new done did = absurd done
performed_append maps (one ∷ commands) (first ∷ replies) command reply old mid new (next, earlier, rest) did = (next, earlier, performed_append maps commands replies command reply next mid new rest did)

-- so it is once the next command of a list is performed
pub performed_turn : (maps : ℕ → Map) (commands : List Command) (i : ℕ) (command : Command) (before after : List Reply) (reply : Reply) (old mid new : CommitRequest) → i < length commands → command ≡ get_or commands i command → after ≡ before ++ reply ∷ [] →
    ArePerformed maps (take i commands) before old mid → IsPerformed host_store maps (λ range error. ⊥) command reply mid new → ArePerformed maps (take (i + 1) commands) after old new
performed_turn maps commands i command before after reply old mid new within is pushed done did =
    let longer : take (i + 1) commands ≡ take i commands ++ command ∷ [] = take_more commands i command within ∙ ap (λ s. take i commands ++ s ∷ []) (sym is) in
    subst₂ (λ cs rs. ArePerformed maps cs rs old new) (sym longer) (sym pushed) (performed_append maps (take i commands) before command reply old mid new done did)

-- what commands come to that read what is covered alone
pub host_answered : (version : ℕ) (covered : List KeyRange) (pairs : Map) (written : List Mutation) (commands : List Command) (replies : List Reply) (request : CommitRequest) →
    AreWithin covered request.reads → ArePerformed (λ v. pairs) commands replies (resumed version written) request →
    IsHostAnswered version covered pairs written commands replies request
host_answered version covered pairs written commands replies request within done =
    let over : (maps : ℕ → Map) → Agree covered pairs (maps version) → ArePerformed maps commands replies (resumed version written) request =
    λ maps agree. all_over pairs maps version commands replies (resumed version written) request refl (λ key h. agree key (within key h)) done in
    record {
      within = within;
      performed = over;
      done = λ maps agree. done_of maps commands replies (resumed version written) request (over maps agree);
    }

-- so it is by other names of what is the same
pub host_answered_by : (version : ℕ) (covered : List KeyRange) (pairs pairs2 : Map) (written : List Mutation) (commands commands2 : List Command) (replies : List Reply) (old new request : CommitRequest) (reads : List KeyRange) →
    pairs2 ≡ pairs → commands2 ≡ commands → old ≡ resumed version written → request ≡ new → reads ≡ request.reads →
    AreWithin covered reads → ArePerformed (λ v. pairs2) commands2 replies old new → IsHostAnswered version covered pairs written commands replies request
host_answered_by version covered pairs pairs2 written commands commands2 replies old new request reads same_pairs same_commands same_old same_new same_reads within done =
    let done1 = subst (λ p. ArePerformed (λ v. p) commands2 replies old new) same_pairs done in
    let done2 = subst (λ cs. ArePerformed (λ v. pairs) cs replies old new) same_commands done1 in
    let done3 = subst (λ (o : CommitRequest). ArePerformed (λ v. pairs) commands replies o new) same_old done2 in
    let done4 = subst (λ (n : CommitRequest). ArePerformed (λ v. pairs) commands replies (resumed version written) n) (sym same_new) done3 in
    host_answered version covered pairs written commands replies request (subst (λ rs. AreWithin covered rs) same_reads within) done4

-- what commands come to that read what isn't covered
pub host_asked_by : (version : ℕ) (covered : List KeyRange) (pairs pairs2 : Map) (written : List Mutation) (commands commands2 : List Command) (replies : List Reply) (old new request : CommitRequest) (reads : List KeyRange) (wants : List Want) (first : KeyRange) →
    pairs2 ≡ pairs → commands2 ≡ commands → old ≡ resumed version written → request ≡ new → reads ≡ request.reads →
    AllByRecursion (IsUncovered covered) wants → HasFrom wants first → IsLeftOfOne covered reads first → ArePerformed (λ v. pairs2) commands2 replies old new → IsHostAsked version covered pairs written commands wants
host_asked_by version covered pairs pairs2 written commands commands2 replies old new request reads wants first same_pairs same_commands same_old same_new same_reads all from left done =
    let done1 = subst (λ p. ArePerformed (λ v. p) commands2 replies old new) same_pairs done in
    let done2 = subst (λ cs. ArePerformed (λ v. pairs) cs replies old new) same_commands done1 in
    let done3 = subst (λ (o : CommitRequest). ArePerformed (λ v. pairs) commands replies o new) same_old done2 in
    let done4 = subst (λ (n : CommitRequest). ArePerformed (λ v. pairs) commands replies (resumed version written) n) (sym same_new) done3 in
    record {
      wanted = all;
      replies = replies;
      request = request;
      performed = done4;
      want = from.0;
      among = from.1;
      needed = (first, subst (λ rs. IsLeftOfOne covered rs first) same_reads left, from.2);
    }
