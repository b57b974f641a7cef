use Rattle.std.proofs.Common.{ap, sym, subst, ◌∙◌, map, rules}
use Rattle.planner.specs.ByField.{IsByField}
use Rattle.planner.specs.Match.{used}
use Rattle.planner.specs.View.{conjunct_of, match_of}
use Rattle.planner.proofs.ByField.{others_by_field}
use Rattle.planner.proofs.draft.+add_joining.Goals as goal

-- the conjuncts that are left still stand in the order of their fields
pub add_joining-requires : goal.add_joining-requires
add_joining-requires t c = (
  search rules,
  subst IsByField (sym (ap (map conjunct_of) c.as_slice.ensures.value ∙ c.in_ok-left-in-len1-up.ensures))
      (others_by_field (used (match_of c.in_ok-columns-in-len1-up.columns)) (map conjunct_of c.args.conjuncts.now) c.requires),
)
