use Rattle.std.specs.Prelude.{◌≡◌, ℕ, List, ◌++◌, length, take, drop, IfErr, IfOk}
use Rattle.std.proofs.Common.{ap, sym, ◌∙◌, append-nil, arith, subst}
use Rattle.std.proofs.lemmas.List.{drop_all}
use Rattle.std.proofs.Math.Seq.{take-length}
use Rattle.plan_exec.specs.Levels.{joined_levels}
use Rattle.plan_exec.specs.Sources.{entries_left, source_left}
use Rattle.plan_exec.specs.Streams.{HasGiven, HasNotGiven}
use Rattle.plan_exec.specs.Entry.{Entry}
use Rattle.plan_exec.specs.declared.level.Level.{Level}
use Rattle.plan_exec.specs.declared.record_streams.EntryStream.{EntryStream}
use Rattle.plan_exec.proofs.fetch_streams.SourceStreamStream.next.Goals as goal

-- what is written into a whole vector is all that is in it then
all_written : {X : Type 0} (new old : List X) (n : ℕ) → length new ≡ length old → n ≡ length old → take n (new ++ drop (length new) old) ≡ new
all_written new old n same is =
    ap (λ xs. take n (new ++ xs)) (drop_all (length new) old (omega (arith, same)))
    ∙ ap (take n) (append-nil new)
    ∙ ap (λ m. take m new) (is ∙ sym same)
    ∙ take-length new

pub returns-in-Shared-clause-given : goal.returns-in-Shared-clause-given
returns-in-Shared-clause-given g c =
    let new : List (Level EntryStream Entry) = c.next_joined.new.levels in
    let old : List (Level EntryStream Entry) = c.in-Shared.levels.items in
    let written : take c.in-Shared.levels.len (new ++ drop (length new) old) ≡ new =
    all_written new old c.in-Shared.levels.len (c.next_joined.auto.levels ∙ ap length c.as_mut_slice.ensures.value) c.in-Shared.levels.ok.0 in
    subst (λ course. IfOk c.next_joined.result (λ given. HasGiven (g.S.Snapshot.map_at c.args.db.now) course given (joined_levels entries_left (λ entry. entry.primary_key) (take c.in-Shared.levels.len (new ++ drop (length new) old))) c.args.tx.now c.next_joined.new.tx))
    (sym (ap source_left c.in-Shared.is ∙ ap (joined_levels entries_left (λ entry. entry.primary_key)) (sym c.as_mut_slice.ensures.value)))
    (subst (λ levels. IfOk c.next_joined.result (λ given. HasGiven (g.S.Snapshot.map_at c.args.db.now) (joined_levels entries_left (λ entry. entry.primary_key) c.as_mut_slice.result.now) given (joined_levels entries_left (λ entry. entry.primary_key) levels) c.args.tx.now c.next_joined.new.tx))
    (sym written) c.next_joined.ensures.given)

pub returns-in-Shared-clause-stopped : goal.returns-in-Shared-clause-stopped
returns-in-Shared-clause-stopped g c =
    subst (λ course. IfErr c.next_joined.result (λ error. HasNotGiven (g.S.Snapshot.map_at c.args.db.now) (g.S.Snapshot.may_refuse c.args.db.now) course error c.args.tx.now c.next_joined.new.tx))
    (sym (ap source_left c.in-Shared.is ∙ ap (joined_levels entries_left (λ entry. entry.primary_key)) (sym c.as_mut_slice.ensures.value)))
    c.next_joined.ensures.stopped
