use Rattle.std.proofs.Common.{◌∙◌, ap, sym}
use Rattle.cluster_core.proofs.Links.{link_value, value_there}
use Rattle.cluster_core.proofs.chain.value_upto.Goals as goal

pub returns-in-Some : goal.returns-in-Some
returns-in-Some c =
    c.as_ref.ensures.value ∙ ap link_value c.in-Some.ensures ∙ sym (value_there c.args.version c.args.links.now.items)

pub returns-in-None : goal.returns-in-None
returns-in-None c = ap link_value c.in-None.ensures ∙ sym (value_there c.args.version c.args.links.now.items)
