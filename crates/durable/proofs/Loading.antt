-- What the byte strings of a file come to.
use Rattle.std.proofs.Common.{◌≡◌, ℕ, ◌<◌, ◌^◌, inl, inr, List, [], ◌∷◌, ◌++◌, length, map, drop, min, refl, sym, ap, ap₂, subst, ◌∙◌, arith, length-append}
use Rattle.std.specs.Prelude.{Some, None}
use Rattle.std.specs.FinMap.{from_entries}
use Rattle.std.proofs.lemmas.List.{drop_at, length-map}
use Rattle.std.proofs.lemmas.List.Elements.{recursion_from_All}
use Rattle.command_log.specs.declared.entry.Entry.{Entry}
use Rattle.command_log.proofs.Bytes.{one_entry}
use Rattle.replay.specs.Logged.{IsLawfulLog}
use Rattle.replay.specs.Replaying.{AreWrittenAs, Image, IsLogged, IsNoLog, IsNoLogOn, IsReplay, IsReplayOn, IsUnreplayed, IsUnreplayedOn}
use Rattle.replay.specs.declared.error.ReplayError.{ReplayError}
use Rattle.replay.specs.declared.error.ReplayError.TheVariants as replays
use Rattle.durable.specs.declared.heads.Head.{Head}
use Rattle.durable.specs.declared.error.ReopenError.TheVariants.{NotACheckpoint}
use Rattle.durable.specs.Checkpoints.{IsBaseOf, IsCheckpoint}
use Rattle.durable.specs.Heads.{head_before, checkpoint_head, written_pair, pairs_after}
use Rattle.durable.specs.Keeping.{Base, no_base}
use Rattle.durable.specs.Reopening.{IsLoaded, IsLogOn, IsNotLoaded}
use Rattle.durable.specs.Told.{reopen_error}
use Rattle.durable.proofs.HeadsRead.{behind_again, head_again, no_head_before}

-- byte strings are those of one list of entries
pub same_entries : (log : List (List ℕ)) (a b : List Entry) → AreWrittenAs log a → AreWrittenAs log b → a ≡ b
same_entries [] [] [] one other = refl
same_entries [] [] (entry ∷ b) one other = absurd other
same_entries [] (entry ∷ a) b one other = absurd one
same_entries (bytes ∷ log) [] b one other = absurd one
same_entries (bytes ∷ log) (entry ∷ a) [] one other = absurd other
same_entries (bytes ∷ log) (first ∷ a) (second ∷ b) (is, one) (too, other) = ap₂ (λ e es. e ∷ es) (one_entry bytes first second is too) (same_entries log a b one other)

some_same : {X : Type 0} (a b : X) → Some a ≡ Some b → a ≡ b
some_same a b is = cc

-- ---- the log from the first transaction on

without_front : (log : List (List ℕ)) (base : Base) (after : List Entry) (on : IsLogOn log base after) → base ≡ no_base → log ≡ on.written
without_front log base after on is = on.split ∙ ap (λ (b : Base). b.front ++ on.written) is

-- a checkpoint's head comes first
pub head_first : (log : List (List ℕ)) (base : Base) (after : List Entry) (on : IsLogOn log base after) (point : IsCheckpoint on.generation base) → head_before log ≡ Some (checkpoint_head on.generation point.version point.pairs)
head_first log base after on point =
    ap head_before (on.split ∙ ap (λ front. front ++ on.written) point.front)
    ∙ head_again (checkpoint_head on.generation point.version point.pairs) point.small point.version_small point.few

pub headless : (log : List (List ℕ)) (base : Base) (after : List Entry) (on : IsLogOn log base after) → base ≡ no_base → head_before log ≡ None
headless log base after on is = ap head_before (without_front log base after on is) ∙ no_head_before on.written after on.are

first_kind : (log : List (List ℕ)) (base : Base) (after : List Entry) (on : IsLogOn log base after) → head_before log ≡ None → base ≡ no_base
first_kind log base after on none = by_kind on.is_base
  where
    by_kind : IsBaseOf on.generation base → base ≡ no_base
    by_kind (inl first) = first.1
    by_kind (inr point) = let some = head_first log base after on point in absurd (cc (some, none))

pub replayed_loaded : (log : List (List ℕ)) (image : Image) → head_before log ≡ None → IsReplay log image → IsLoaded log image
replayed_loaded log image none replay base after on =
    let nothing = first_kind log base after on none in
    let same = same_entries log replay.entries after replay.written (subst (λ l. AreWrittenAs l after) (sym (without_front log base after on nothing)) on.are) in
    subst (λ (b : Base). IsLogged (b.before ++ after) image) (sym nothing) (subst (λ es. IsLogged es image) same replay.logged)

no_log : (log : List (List ℕ)) → head_before log ≡ None → IsNoLog log → (base : Base) (after : List Entry) → IsLogOn log base after → IsLawfulLog (base.before ++ after) → ⊥
no_log log none never base after on lawful =
    let nothing = first_kind log base after on none in
    never after (subst (λ l. AreWrittenAs l after) (sym (without_front log base after on nothing)) on.are) (subst (λ (b : Base). IsLawfulLog (b.before ++ after)) nothing lawful)

pub unreplayed_loaded : (log : List (List ℕ)) (error : ReplayError) → head_before log ≡ None → IsUnreplayed log error → IsNotLoaded log (reopen_error error)
unreplayed_loaded log replays.Memory none unreplayed = tt
unreplayed_loaded log (replays.NotAnEntry place error) none unreplayed = no_log log none unreplayed
unreplayed_loaded log (replays.OutOfOrder place) none unreplayed = no_log log none unreplayed
unreplayed_loaded log (replays.NoSuchStore place) none unreplayed = no_log log none unreplayed
unreplayed_loaded log (replays.Refused place error) none unreplayed = no_log log none unreplayed

-- ---- a log behind a checkpoint

-- what stands behind this head in byte strings that are such a log
record IsBehind (head : Head) (others : List (List ℕ)) (base : Base) (after : List Entry) : Type 0 where
  pairs : List (List ℕ × List ℕ)
  logged : IsLogged base.before (record { map = from_entries pairs; version = head.version })
  told : pairs_after head.count others ≡ Some pairs
  are : AreWrittenAs (drop (min (length others) head.count) others) after

behind : (log others : List (List ℕ)) (head : Head) → others ≡ drop 1 log → head_before log ≡ Some head → (base : Base) (after : List Entry) (on : IsLogOn log base after) → IsBehind head others base after
behind log others head split is base after on = by_kind on.is_base
  where
    by_kind : IsBaseOf on.generation base → IsBehind head others base after
    by_kind (inl none) = let nothing = headless log base after on none.1 in absurd (cc (nothing, is))
    by_kind (inr point) = record {
      pairs = point.pairs;
      logged = subst (λ v. IsLogged base.before (record { map = from_entries point.pairs; version = v })) (ap (λ (h : Head). h.version) same) point.logged;
      told = ap₂ pairs_after (sym counted) behind_is ∙ behind_again point.pairs on.written (recursion_from_All (λ pair. length pair.0 < 2 ^ 64) point.pairs point.keys_small);
      are = subst (λ l. AreWrittenAs l after) (sym rest) on.are;
    }
      where
        same : checkpoint_head on.generation point.version point.pairs ≡ head
        same = some_same _ _ (sym (head_first log base after on point) ∙ is)

        counted : length point.pairs ≡ head.count
        counted = ap (λ (h : Head). h.count) same

        written : List (List ℕ)
        written = map written_pair point.pairs

        behind_is : others ≡ written ++ on.written
        behind_is = split ∙ ap (drop 1) (on.split ∙ ap (λ front. front ++ on.written) point.front)

        many : length written ≡ head.count
        many = length-map point.pairs written_pair ∙ counted

        few : min (length others) head.count ≡ length written
        few = omega (arith, many, ap length behind_is, length-append written on.written)

        rest : drop (min (length others) head.count) others ≡ on.written
        rest = ap₂ drop few behind_is ∙ drop_at written on.written (length written) refl

module _ (log others : List (List ℕ)) (head : Head) (split : others ≡ drop 1 log) (is : head_before log ≡ Some head) where
  pub without_pairs : pairs_after head.count others ≡ None → IsNotLoaded log NotACheckpoint
  without_pairs none base after on lawful = let told = (behind log others head split is base after on).told in absurd (cc (told, none))

  module _ (pairs : List (List ℕ × List ℕ)) (told : pairs_after head.count others ≡ Some pairs) (image : Image) (made : image ≡ record { map = from_entries pairs; version = head.version })
      (entries : List (List ℕ)) (rest : entries ≡ drop (min (length others) head.count) others) where
    starts : (base : Base) (after : List Entry) → IsLogOn log base after → IsLogged base.before image
    starts base after on =
        let b = behind log others head split is base after on in
        let same : b.pairs ≡ pairs = some_same _ _ (sym b.told ∙ told) in
        subst (IsLogged base.before) (ap (λ ps. record { map = from_entries ps; version = head.version }) same ∙ sym made) b.logged

    pub behind_loaded : (next : Image) → ((before : List Entry) → IsLogged before image → IsReplayOn before entries next) → IsLoaded log next
    behind_loaded next replayed base after on =
        let b = behind log others head split is base after on in
        let replay = replayed base.before (starts base after on) in
        subst (λ es. IsLogged (base.before ++ es) next) (same_entries entries replay.entries after replay.written (subst (λ l. AreWrittenAs l after) (sym rest) b.are)) replay.logged

    no_log_behind : ((before : List Entry) → IsLogged before image → IsNoLogOn before entries) → (base : Base) (after : List Entry) → IsLogOn log base after → IsLawfulLog (base.before ++ after) → ⊥
    no_log_behind never base after on lawful =
        let b = behind log others head split is base after on in
        never base.before (starts base after on) after (subst (λ l. AreWrittenAs l after) (sym rest) b.are) lawful

    pub behind_unreplayed : (error : ReplayError) → ((before : List Entry) → IsLogged before image → IsUnreplayedOn before entries error) → IsNotLoaded log (reopen_error error)
    behind_unreplayed replays.Memory unreplayed = tt
    behind_unreplayed (replays.NotAnEntry place error) unreplayed = no_log_behind unreplayed
    behind_unreplayed (replays.OutOfOrder place) unreplayed = no_log_behind unreplayed
    behind_unreplayed (replays.NoSuchStore place) unreplayed = no_log_behind unreplayed
    behind_unreplayed (replays.Refused place error) unreplayed = no_log_behind unreplayed
