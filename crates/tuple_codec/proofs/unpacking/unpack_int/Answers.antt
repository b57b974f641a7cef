use Rattle.std.proofs.Common.{sym, ◌∙◌}
use Rattle.tuple_codec.proofs.Firsts.{int_one, int_read, int_refused, no_int_code, none_first}
use Rattle.tuple_codec.specs.Item.{int}
use Rattle.tuple_codec.proofs.unpacking.unpack_int.Goals as goal

pub returns-in_default-clause-reads : goal.returns-in_default-clause-reads
returns-in_default-clause-reads c z rest first = none_first c.args.bytes.now (int z) rest c.in_default.ensures.cases first

pub returns-then-not-is_int_code-clause-reads : goal.returns-then-not-is_int_code-clause-reads
returns-then-not-is_int_code-clause-reads c z rest first =
    no_int_code c.args.bytes.now c.in-Some.code.now c.in-Some.rest.now c.in-Some.ensures.cases.0 z rest (sym c.is_int_code.ensures.value ∙ c.if-not-is_int_code.true) first

pub returns-in-Ok-clause-first : goal.returns-in-Ok-clause-first
returns-in-Ok-clause-first c =
    let code = c.is_int_code.ensures.range c.if-not-is_int_code.false in
    int_read c.args.bytes.now c.in-Some.code.now c.in-Some.rest.now c.in-Some.ensures.cases.0 code.0 code.1 c.in-Ok.found.0 c.in-Ok.found.1.now c.bytes_known.ensures c.in-Ok.ensures.gives

pub returns-in-Ok-clause-reads : goal.returns-in-Ok-clause-reads
returns-in-Ok-clause-reads c z rest first =
    let code = c.is_int_code.ensures.range c.if-not-is_int_code.false in
    int_one c.args.bytes.now c.in-Some.code.now c.in-Some.rest.now c.in-Some.ensures.cases.0 code.0 code.1 c.in-Ok.found.0 c.in-Ok.found.1 z rest c.bytes_known.ensures c.in-Ok.ensures.gives first

pub returns-in-Err-clause-reads : goal.returns-in-Err-clause-reads
returns-in-Err-clause-reads c z rest first =
    let code = c.is_int_code.ensures.range c.if-not-is_int_code.false in
    int_refused c.args.bytes.now c.in-Some.code.now c.in-Some.rest.now c.in-Some.ensures.cases.0 code.0 code.1 c.in-Err.field-0 z rest c.in-Err.ensures.gives first
