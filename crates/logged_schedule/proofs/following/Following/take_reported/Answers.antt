use Rattle.std.proofs.Common.{◌≡◌, ◌∙◌, ◌++◌, Option, ap, sym, drop, option_to_list, append-nil, drop-drop}
use Rattle.std.specs.Prelude.{Vec}
use Rattle.std.specs.declared.alloc.Global.{Global}
use Rattle.command_log.specs.declared.entry.Entry.{Entry}
use Rattle.logged_schedule.specs.Entries.{told_first}
use Rattle.logged_schedule.proofs.Waiting.{told_further}
use Rattle.logged_schedule.proofs.following.Following.take_reported.Goals as goal
use Rattle.logged_schedule.proofs.following.Following.take_reported.Goals.{in-Some+in_ok-push, in_default}

pub loop-report-preserved : goal.loop-report-preserved
loop-report-preserved c =
    let reports = c.args.reports.now in
    let i = c.loop-report.report-index in
    let before = c.loop-report.told in
    let after = c.match-take_next.told in
    let waiting = c.loop-report.self.waiting.items in
    let now : after.items ≡ before.items ++ option_to_list c.take_next.result = elim c.match-take_next.branch [
      | in-Some+in_ok-push w ↦ ap (λ (v : Vec Entry Global). v.items) w.told-is ∙ w.in_ok-push.ensures.items ∙ ap (λ (o : Option Entry). before.items ++ option_to_list o) (sym w.in-Some.is)
      | in_default w ↦ ap (λ (v : Vec Entry Global). v.items) w.told-is ∙ sym (append-nil before.items) ∙ ap (λ (o : Option Entry). before.items ++ option_to_list o) (sym w.in_default.is)
    ] in
    record {
      told = told_further reports i c.report-item.result waiting c.take_next.new.self.waiting.items before.items after.items (told_first reports c.args.self.now.waiting.items) c.take_next.result c.loop-report-test.true c.report-item.is now c.take_next.ensures.told
          c.take_next.ensures.others c.loop-report.invariant.told;
      others = c.take_next.ensures.others ∙ ap (drop 1) c.loop-report.invariant.others ∙ drop-drop 1 i c.args.self.now.waiting.items;
      places = c.take_next.ensures.places ∙ c.loop-report.invariant.places;
    }
