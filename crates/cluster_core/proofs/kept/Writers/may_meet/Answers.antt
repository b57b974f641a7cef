use Rattle.std.proofs.Common.{◌≡◌, ◌-◌, ◌<◌, arith, get_or, length, subst, sym, true}
use Rattle.std.proofs.lemmas.Bool.{leb-false}
use Rattle.cluster_core.specs.Kept.{rise_between}
use Rattle.cluster_core.proofs.Rising.{rise_last}
use Rattle.cluster_core.proofs.kept.Writers.may_meet.Goals as goal

pub returns-in-Some : goal.returns-in-Some
returns-in-Some c = λ earlier.
    let ps = c.self.inside.pending.items in
    let found = c.in-Some.ensures.item.3 in
    let some : 0 < length ps = subst (λ xs. 0 < length xs) c.deref.ensures.value found.0 in
    let last : c.in-Some.place.now ≡ get_or ps (length ps - 1) 0 = subst (λ xs. c.in-Some.place.now ≡ get_or xs (length xs - 1) 0) c.deref.ensures.value (found.1 0) in
    let below = leb-false c.args.least c.in-Some.place.now earlier in
    let rises = subst (λ w. rise_between w.ranges.ordered c.requires.0 w.ranges.pending ≡ true) (sym c.self.view_is) c.requires.1 in
    subst (λ w. rise_between w.ranges.ordered c.args.least w.ranges.pending ≡ true) c.self.view_is
    (rise_last c.self.inside.ordered c.requires.0 c.args.least ps rises some (omega (arith, below, last)))
