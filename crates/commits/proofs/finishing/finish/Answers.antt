use Rattle.std.specs.Prelude.{Result, Ok, Err, OnErr}
use Rattle.commits.specs.Finishing.{HasGoneOn}
use Rattle.commits.proofs.GoingOn.{finished_is, finished_told, gone_on_trans, still_answered, still_unfinished}
use Rattle.commits.proofs.finishing.finish.Goals as goal

on_err : {A E P : Type 0} (r : Result A E) → P → OnErr r P
on_err (Ok a) p = tt
on_err (Err e) p = p

pub append_rest-requires : goal.append_rest-requires
append_rest-requires c = record {
  unfinished = still_unfinished c.args.pipeline.now c.resolve_rest.new.pipeline c.requires c.resolve_rest.ensures.on;
  resolved = c.in_ok-resolve_rest.ensures.all;
}

pub returns-in_err-append_rest-clause-stays : goal.returns-in_err-append_rest-clause-stays
returns-in_err-append_rest-clause-stays c =
    on_err c.from_residual-in_err-append_rest.result (gone_on_trans c.args.pipeline.now c.resolve_rest.new.pipeline c.append_rest.new.pipeline c.resolve_rest.ensures.on c.append_rest.ensures.on)

pub returns-clause-handled : goal.returns-clause-handled
returns-clause-handled c =
    let mid = c.resolve_rest.new.pipeline in
    let last = c.append_rest.new.pipeline in
    let on : HasGoneOn c.args.pipeline.now last = gone_on_trans c.args.pipeline.now mid last c.resolve_rest.ensures.on c.append_rest.ensures.on in
    finished_is c.args.pipeline.now last c.report.new.self c.report.result c.requires on c.read_version.ensures.clocks
    (still_answered mid last c.append_rest.ensures.on c.append_rest.ensures.resolved c.in_ok-resolve_rest.ensures.all) c.in_ok-append_rest.ensures.all
    c.report.ensures.told c.report.ensures.step

pub returns-clause-told : goal.returns-clause-told
returns-clause-told c =
    let mid = c.resolve_rest.new.pipeline in
    let last = c.append_rest.new.pipeline in
    let on : HasGoneOn c.args.pipeline.now last = gone_on_trans c.args.pipeline.now mid last c.resolve_rest.ensures.on c.append_rest.ensures.on in
    finished_told c.args.pipeline.now last c.report.new.self c.report.result c.requires on c.read_version.ensures.clocks
    (still_answered mid last c.append_rest.ensures.on c.append_rest.ensures.resolved c.in_ok-resolve_rest.ensures.all) c.in_ok-append_rest.ensures.all
    c.report.ensures.told c.report.ensures.step
