-- Where a reading stopped that is done behind others, or of which something is made.
use Rattle.std.specs.Prelude.{◌≡◌, ℕ, List, [], ◌∷◌, ◌++◌, drop, length, Result, Ok, Err, refl}
use Rattle.std.specs.Result.{result_err, result_map_both}
use Rattle.std.proofs.Common.{ap, sym, ◌∙◌, subst}
use Rattle.std.proofs.lemmas.List.{map-append}
use Rattle.kv_core.specs.Range.{KeyRange}
use Rattle.kv_core.specs.declared.snapshot.ReadError.{ReadError}
use Rattle.record_store.specs.Steps.{IsBeginning, IsNextRefused}
use Rattle.record_store.proofs.Stopping.{begin_behind}
use Rattle.plan_exec.specs.Executing.{IsExecutionStopped, ranges_added, ranges_asked}
use Rattle.plan_exec.specs.Reads.{PlanRead, PlanReading}
use Rattle.plan_exec.specs.declared.error.ExecError.{ExecError}
use Rattle.plan_exec.specs.declared.error.ExecError.TheVariants.{OtherSchema, IndexNotReadable, Read, Corrupt, Memory}

-- ---- reads behind others

first_behind : {added : List KeyRange} (reads more : List PlanRead) → IsBeginning added (ranges_added more) → IsBeginning (ranges_added reads ++ added) (ranges_added (reads ++ more))
first_behind {added = added} reads more begin = subst (IsBeginning (ranges_added reads ++ added)) (sym (map-append (λ (r : PlanRead). r.added) reads more)) (begin_behind (ranges_added reads) begin)

drop_reads : (reads : List PlanRead) (added asked : List KeyRange) → drop (length (ranges_added reads ++ added)) (ranges_asked reads ++ asked) ≡ drop (length added) asked
drop_reads [] added asked = refl
drop_reads (read ∷ reads) added asked = drop_reads reads added asked

asked_behind : {refuses : KeyRange → ReadError → Type 0} {added : List KeyRange} {error : ReadError} (reads more : List PlanRead) → IsNextRefused refuses (ranges_asked more) added error →
    IsNextRefused refuses (ranges_asked (reads ++ more)) (ranges_added reads ++ added) error
asked_behind {refuses = refuses} {added = added} {error = error} reads more next =
    subst (λ asked. IsNextRefused refuses asked (ranges_added reads ++ added) error) (sym (map-append (λ (r : PlanRead). r.asked) reads more))
    (record { range = next.range; rest = next.rest; next = drop_reads reads added (ranges_asked more) ∙ next.next; refused = next.refused })

-- ---- where reads stopped

-- in the second one
pub stop_second : {B : Type 0} (refuses : KeyRange → ReadError → Type 0) (reads : List PlanRead) (second : PlanReading B) (e : ExecError) (added : List KeyRange) →
    IsExecutionStopped refuses second.reads (result_err second.found) e added → IsExecutionStopped refuses (reads ++ second.reads) (result_err second.found) e (ranges_added reads ++ added)
stop_second refuses reads second Memory added says = first_behind reads second.reads says
stop_second refuses reads second (Read error) added says = (first_behind reads second.reads says.0, asked_behind reads second.reads says.1)
stop_second refuses reads second (Corrupt key) added says = (ap (λ rs. ranges_added reads ++ rs) says.0 ∙ sym (map-append (λ (r : PlanRead). r.added) reads second.reads), says.1)
stop_second refuses reads second OtherSchema added says = absurd says
stop_second refuses reads second IndexNotReadable added says = absurd says

-- of what is made of a reading
pub stop_made : {A B : Type 0} (refuses : KeyRange → ReadError → Type 0) (f : A → B) (reads : List PlanRead) (res : Result A (List ℕ)) (e : ExecError) (added : List KeyRange) →
    IsExecutionStopped refuses reads (result_err res) e added → IsExecutionStopped refuses reads (result_err (result_map_both f (λ key. key) res)) e added
stop_made refuses f reads (Ok a) e added says = says
stop_made refuses f reads (Err key) e added says = says
