use Rattle.std.proofs.Common.{refl}
use Rattle.std.proofs.lemmas.Result.{err_from_is_err_and}
use Rattle.metadata.proofs.OneSchema.{none_other, refused_bytes, refused_tuple, told_bytes, told_other}
use Rattle.metadata.specs.Written.{written}
use Rattle.metadata.proofs.schema.Schema.decode.Goals as goal

pub returns-in_err-tuple-clause-refused : goal.returns-in_err-tuple-clause-refused
returns-in_err-tuple-clause-refused c =
    let p = err_from_is_err_and c.from_residual.result c.from_residual.ensures.1 in
    rw (p.1, p.2) (refused_bytes _ c.args.bytes.now c.in_err-tuple.ensures.refused)

pub returns-in_err-schema-clause-refused : goal.returns-in_err-schema-clause-refused
returns-in_err-schema-clause-refused c =
    let p = err_from_is_err_and c.from_residual-in_err-schema.result c.from_residual-in_err-schema.ensures.1 in
    rw (p.1, p.2) (refused_tuple _ c.args.bytes.now _ c.in_ok-tuple.ensures.spelled c.in_err-schema.ensures.refused)

pub returns-then-is_written-clause-bytes : goal.returns-then-is_written-clause-bytes
returns-then-is_written-clause-bytes c = told_bytes c.args.bytes.now c.in_ok-tuple.tuple c.in_ok-schema.schema c.is_written.result c.in_ok-tuple.ensures.spelled c.is_written.ensures c.if-is_written.true

pub returns-clause-refused : goal.returns-clause-refused
returns-clause-refused c =
    (refl, none_other c.args.bytes.now c.in_ok-tuple.tuple c.in_ok-schema.schema c.in_ok-tuple.ensures.spelled c.in_ok-schema.ensures.made.1 (told_other c.in_ok-tuple.tuple (written c.in_ok-schema.schema) c.is_written.result c.is_written.ensures c.if-is_written.false))
