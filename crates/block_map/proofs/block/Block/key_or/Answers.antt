use Rattle.std.proofs.Common.{◌∙◌, ap, slice_get, sym, unwrap_or}
use Rattle.std_collections.proofs.Zip.{slice_get_at}
use Rattle.block_map.proofs.Zipped.{keys_are, slice_get_none}
use Rattle.block_map.proofs.block.Block.key_or.Goals as goal

pub returns-in-Some : goal.returns-in-Some
returns-in-Some g c =
    let h = c.in-Some.ensures.lookup in
    let are = c.deref.ensures.value ∙ keys_are c.self.inside.keys.items c.self.inside.values.items c.args.self.now c.self.invariant.even c.self.view_is in
    sym (ap (λ o. unwrap_or o c.args.other.now) (sym (ap (λ l. slice_get l c.args.place) are) ∙ slice_get_at c.deref.result.now c.args.place c.in-Some.key.now h.3.0 h.1))

pub returns-in-None : goal.returns-in-None
returns-in-None g c =
    let h = c.in-None.ensures.lookup in
    let are = c.deref.ensures.value ∙ keys_are c.self.inside.keys.items c.self.inside.values.items c.args.self.now c.self.invariant.even c.self.view_is in
    sym (ap (λ o. unwrap_or o c.args.other.now) (sym (ap (λ l. slice_get l c.args.place) are) ∙ slice_get_none c.deref.result.now c.args.place h.3))
