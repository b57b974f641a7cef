use Rattle.std.proofs.Common.{◌∙◌, ap}
use Rattle.cluster_core.specs.Roles.{forget}
use Rattle.record_layer.proofs.Settling.{forgotten_is, forgotten_pulled, forgotten_readable, forgotten_told, settled_is, settled_pulled, settled_readable, settled_told}
use Rattle.record_layer.proofs.finishing.finish.Goals as goal

pub returns-clause-handled : goal.returns-clause-handled
returns-clause-handled c =
    forgotten_is c.report-reported.new.self c.forget.new.self (settled_readable c.args.cluster.now c.resolve_rest.new.cluster c.append_rest.new.cluster c.pull_all.new.self c.report-reported.new.self c.report-reported.result c.requires
    c.resolve_rest.ensures.on c.resolve_rest.ensures.servers c.in_ok-resolve_rest.ensures.all
    c.append_rest.ensures.on c.append_rest.ensures.servers c.append_rest.ensures.resolved c.in_ok-append_rest.ensures.all
    c.pull_all.ensures.pulled c.in_ok-pull_all.ensures.all c.read_version.ensures.clocks c.report-reported.ensures.told c.report-reported.ensures.step) c.forget.ensures.step
    ∙ ap forget (settled_is c.args.cluster.now c.resolve_rest.new.cluster c.append_rest.new.cluster c.pull_all.new.self c.report-reported.new.self c.report-reported.result c.requires
    c.resolve_rest.ensures.on c.resolve_rest.ensures.servers c.in_ok-resolve_rest.ensures.all
    c.append_rest.ensures.on c.append_rest.ensures.servers c.append_rest.ensures.resolved c.in_ok-append_rest.ensures.all
    c.pull_all.ensures.pulled c.in_ok-pull_all.ensures.all c.read_version.ensures.clocks c.report-reported.ensures.told c.report-reported.ensures.step)

pub returns-clause-told : goal.returns-clause-told
returns-clause-told c =
    forgotten_told c.report-reported.new.self c.forget.new.self (settled_readable c.args.cluster.now c.resolve_rest.new.cluster c.append_rest.new.cluster c.pull_all.new.self c.report-reported.new.self c.report-reported.result c.requires
    c.resolve_rest.ensures.on c.resolve_rest.ensures.servers c.in_ok-resolve_rest.ensures.all
    c.append_rest.ensures.on c.append_rest.ensures.servers c.append_rest.ensures.resolved c.in_ok-append_rest.ensures.all
    c.pull_all.ensures.pulled c.in_ok-pull_all.ensures.all c.read_version.ensures.clocks c.report-reported.ensures.told c.report-reported.ensures.step) c.forget.ensures.step c.report-reported.result (settled_told c.args.cluster.now c.resolve_rest.new.cluster c.append_rest.new.cluster c.pull_all.new.self c.report-reported.new.self c.report-reported.result c.requires
    c.resolve_rest.ensures.on c.resolve_rest.ensures.servers c.in_ok-resolve_rest.ensures.all
    c.append_rest.ensures.on c.append_rest.ensures.servers c.append_rest.ensures.resolved c.in_ok-append_rest.ensures.all
    c.pull_all.ensures.pulled c.in_ok-pull_all.ensures.all c.read_version.ensures.clocks c.report-reported.ensures.told c.report-reported.ensures.step)

pub returns-clause-readable : goal.returns-clause-readable
returns-clause-readable c =
    forgotten_readable c.report-reported.new.self c.forget.new.self (settled_readable c.args.cluster.now c.resolve_rest.new.cluster c.append_rest.new.cluster c.pull_all.new.self c.report-reported.new.self c.report-reported.result c.requires
    c.resolve_rest.ensures.on c.resolve_rest.ensures.servers c.in_ok-resolve_rest.ensures.all
    c.append_rest.ensures.on c.append_rest.ensures.servers c.append_rest.ensures.resolved c.in_ok-append_rest.ensures.all
    c.pull_all.ensures.pulled c.in_ok-pull_all.ensures.all c.read_version.ensures.clocks c.report-reported.ensures.told c.report-reported.ensures.step) c.forget.ensures.step

pub returns-clause-pulled : goal.returns-clause-pulled
returns-clause-pulled c =
    forgotten_pulled c.report-reported.new.self c.forget.new.self (settled_readable c.args.cluster.now c.resolve_rest.new.cluster c.append_rest.new.cluster c.pull_all.new.self c.report-reported.new.self c.report-reported.result c.requires
    c.resolve_rest.ensures.on c.resolve_rest.ensures.servers c.in_ok-resolve_rest.ensures.all
    c.append_rest.ensures.on c.append_rest.ensures.servers c.append_rest.ensures.resolved c.in_ok-append_rest.ensures.all
    c.pull_all.ensures.pulled c.in_ok-pull_all.ensures.all c.read_version.ensures.clocks c.report-reported.ensures.told c.report-reported.ensures.step) c.forget.ensures.step c.args.cluster.now (settled_pulled c.args.cluster.now c.resolve_rest.new.cluster c.append_rest.new.cluster c.pull_all.new.self c.report-reported.new.self c.report-reported.result c.requires
    c.resolve_rest.ensures.on c.resolve_rest.ensures.servers c.in_ok-resolve_rest.ensures.all
    c.append_rest.ensures.on c.append_rest.ensures.servers c.append_rest.ensures.resolved c.in_ok-append_rest.ensures.all
    c.pull_all.ensures.pulled c.in_ok-pull_all.ensures.all c.read_version.ensures.clocks c.report-reported.ensures.told c.report-reported.ensures.step)
