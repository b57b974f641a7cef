use Rattle.std.proofs.Common.{ap, sym, subst, ◌∙◌, map}
use Rattle.planner.specs.ByField.{IsByField}
use Rattle.planner.specs.Match.{used}
use Rattle.planner.specs.View.{conjunct_of, match_of}
use Rattle.planner.proofs.ByField.{others_by_field}
use Rattle.planner.proofs.draft.along_index.Goals as goal

pub add_joining-requires : goal.add_joining-requires
add_joining-requires c =
    subst IsByField (sym (ap (map conjunct_of) c.as_slice-then-joins.ensures.value ∙ c.in_ok-left.ensures)) (others_by_field (used (match_of c.args.m)) (map conjunct_of c.args.by_field.now) c.requires)
