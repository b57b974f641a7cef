use Rattle.std.proofs.Common.{◌≡◌, ℕ, List, Some, None, Err, true, sym, ap, subst, ◌∙◌}
use Rattle.std.proofs.lemmas.Bool.{false≢true}
use Rattle.std.proofs.lemmas.Bool.Decides.{Decides-eqb}
use Rattle.std.proofs.lemmas.Result.{err_from_is_err_and}
use Rattle.std.proofs.lemmas.Slice.Eq.{slice_eq-Decides}
use Rattle.command_log.specs.declared.entry.Entry.{Entry}
use Rattle.command_log.specs.Answers.{AnswersEntry, IsWrittenAs}
use Rattle.command_log.specs.Reading.{entry_in}
use Rattle.command_log.proofs.Bytes.{read_same, same_bytes, unread_never, unspelled_never}
use Rattle.command_log.proofs.form.entry_of.Goals as goal

pub returns-in_err-tuple-clause-given_back : goal.returns-in_err-tuple-clause-given_back
returns-in_err-tuple-clause-given_back c = λ entry is.
    let told = err_from_is_err_and c.from_residual.result c.from_residual.ensures.1 in
    subst (AnswersEntry entry) (sym told.1) (told.2 ∙ unspelled_never c.args.bytes.now c.in_err-tuple.field-0.0 entry c.in_err-tuple.ensures.reads is)

pub returns-in_default-clause-refused : goal.returns-in_default-clause-refused
returns-in_default-clause-refused c = λ entry is.
    unread_never c.args.bytes.now c.in_ok-tuple.tuple c.in_ok-tuple.ensures.spelled (sym c.in_ok-entry.ensures ∙ c.in_default.is) entry is

pub returns-in_default-clause-given_back : goal.returns-in_default-clause-given_back
returns-in_default-clause-given_back c = λ entry is.
    absurd (unread_never c.args.bytes.now c.in_ok-tuple.tuple c.in_ok-tuple.ensures.spelled (sym c.in_ok-entry.ensures ∙ c.in_default.is) entry is)

pub returns-then-eq-clause-given_back : goal.returns-then-eq-clause-given_back
returns-then-eq-clause-given_back c = λ entry is.
    read_same c.args.bytes.now c.in_ok-tuple.tuple c.in-Some.entry c.in_ok-tuple.ensures.spelled (sym c.in_ok-entry.ensures ∙ c.in-Some.is) entry is

pub returns-clause-refused : goal.returns-clause-refused
returns-clause-refused c = λ entry is.
    let bytes = c.args.bytes.now in
    let same = same_bytes bytes c.in_ok-written.written.items c.in_ok-tuple.tuple c.in-Some.entry c.in_ok-tuple.ensures.spelled (sym c.in_ok-entry.ensures ∙ c.in-Some.is) c.in_ok-written.ensures entry is in
    let equal = slice_eq-Decides Decides-eqb c.as_slice.result.now bytes c.eq.result c.eq.ensures in
    false≢true (sym c.if-eq.false ∙ equal.1 (c.as_slice.ensures.value ∙ same))

pub returns-clause-given_back : goal.returns-clause-given_back
returns-clause-given_back c = λ entry is.
    let bytes = c.args.bytes.now in
    let same = same_bytes bytes c.in_ok-written.written.items c.in_ok-tuple.tuple c.in-Some.entry c.in_ok-tuple.ensures.spelled (sym c.in_ok-entry.ensures ∙ c.in-Some.is) c.in_ok-written.ensures entry is in
    let equal = slice_eq-Decides Decides-eqb c.as_slice.result.now bytes c.eq.result c.eq.ensures in
    absurd (false≢true (sym c.if-eq.false ∙ equal.1 (c.as_slice.ensures.value ∙ same)))
