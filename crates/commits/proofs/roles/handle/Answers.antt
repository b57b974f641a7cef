use Rattle.std.proofs.Common.{refl, subst, sym}
use Rattle.cluster_core.specs.Roles.{is_caught_up}
use Rattle.commits.proofs.Handling.{held_appending, held_resolving, logs-there, new-is, result-decided, result-told, waiting}
use Rattle.commits.proofs.roles.handle.Goals as goal

pub returns-in_default-clause-refused :
    goal.returns-in_default-clause-refused
returns-in_default-clause-refused g c =
    held_resolving (g.R.Roles.state c.args.roles.now) c.args.request c.reported.ensures.clocks c.requires.caught_up (g.R.Roles.state c.submit.new.self) (g.R.Roles.state c.resolve_each.new.roles)
    c.in_ok-submit.ensures.given c.in_ok-submit.ensures.allowed c.in_default.ensures.err

pub append_each-requires : goal.append_each-requires
append_each-requires g c =
    waiting (g.R.Roles.state c.args.roles.now) c.args.request c.reported.ensures.clocks c.requires.caught_up (g.R.Roles.state c.submit.new.self) (g.R.Roles.state c.resolve_each.new.roles)
    c.in_ok-submit.ensures.given c.in-Ok.ensures.ok

pub returns-in_default-append_each-clause-refused :
    goal.returns-in_default-append_each-clause-refused
returns-in_default-append_each-clause-refused g c =
    held_appending (g.R.Roles.state c.args.roles.now) c.args.request c.reported.ensures.clocks c.requires.caught_up (g.R.Roles.state c.submit.new.self) (g.R.Roles.state c.resolve_each.new.roles)
    c.in_ok-submit.ensures.given c.in-Ok.ensures.ok (g.R.Roles.state c.append_each.new.roles) c.in_ok-submit.ensures.allowed c.in_default-append_each.ensures.err

pub returns-clause-handled : goal.returns-clause-handled
returns-clause-handled g c =
    new-is (g.R.Roles.state c.args.roles.now) c.args.request c.reported.ensures.clocks c.requires.caught_up (g.R.Roles.state c.submit.new.self) (g.R.Roles.state c.resolve_each.new.roles)
    c.in_ok-submit.ensures.given c.in-Ok.ensures.ok (g.R.Roles.state c.append_each.new.roles) (g.R.Roles.state c.report.new.self) c.report.result c.in-Ok-append_each.ensures.ok
    c.report.ensures.told c.report.ensures.step

pub returns-clause-told : goal.returns-clause-told
returns-clause-told g c =
    result-told (g.R.Roles.state c.args.roles.now) c.args.request c.reported.ensures.clocks c.requires.caught_up (g.R.Roles.state c.submit.new.self) (g.R.Roles.state c.resolve_each.new.roles)
    c.in_ok-submit.ensures.given c.in-Ok.ensures.ok (g.R.Roles.state c.append_each.new.roles) (g.R.Roles.state c.report.new.self) c.report.result c.in-Ok-append_each.ensures.ok
    c.report.ensures.told c.report.ensures.step

pub returns-clause-decided : goal.returns-clause-decided
returns-clause-decided g c =
    result-decided (g.R.Roles.state c.args.roles.now) c.args.request c.reported.ensures.clocks c.requires.caught_up (g.R.Roles.state c.submit.new.self) (g.R.Roles.state c.resolve_each.new.roles)
    c.in_ok-submit.ensures.given c.in-Ok.ensures.ok (g.R.Roles.state c.append_each.new.roles) (g.R.Roles.state c.report.new.self) c.report.result c.in-Ok-append_each.ensures.ok
    c.report.ensures.told c.report.ensures.step

pub returns-clause-some_log : goal.returns-clause-some_log
returns-clause-some_log g c =
    logs-there (g.R.Roles.state c.args.roles.now) c.args.request c.reported.ensures.clocks c.requires.caught_up (g.R.Roles.state c.submit.new.self) (g.R.Roles.state c.resolve_each.new.roles)
    c.in_ok-submit.ensures.given c.in-Ok.ensures.ok (g.R.Roles.state c.append_each.new.roles) (g.R.Roles.state c.report.new.self) c.report.result c.in-Ok-append_each.ensures.ok
    c.report.ensures.told c.report.ensures.step

pub returns-clause-ready : goal.returns-clause-ready
returns-clause-ready g c = subst is_caught_up (sym (returns-clause-handled g c)) refl
