use Rattle.std.proofs.Common.{◌∙◌, ap, length, nat_lt, sym}
use Rattle.std.specs.List.{list_all}
use Rattle.cluster_core.specs.Roles.{may_report}
use Rattle.cluster_core.proofs.Clocks.{all_past}
use Rattle.cluster_core.proofs.pipeline.Pipeline.may_report.Goals as goal

pub returns : goal.returns
returns c =
    c.all_logged.ensures
    ∙ ap (list_all (λ passes. nat_lt c.self.inside.reported (length passes))) c.as_slice.ensures.value
    ∙ sym (all_past c.self.inside.start c.self.inside.reported (λ passes. length passes) c.self.inside.logs.items)
    ∙ ap may_report c.self.view_is
