use Rattle.std.proofs.Common.{◌∙◌, ◌-◌, ◌<◌, [], Err, ap, arith, length, sym}
use Rattle.std.proofs.lemmas.List.{get_or_default}
use Rattle.kv_core.specs.Bytes.{key_cmp}
use Rattle.block_map.proofs.Sought.{found_in, gap_upto}
use Rattle.block_map.proofs.Zipped.{keys_are}
use Rattle.block_map.proofs.block.Block.find.Goals as goal

pub returns-then-place-eq0 : goal.returns-then-place-eq0
returns-then-place-eq0 g c =
    let s = c.self.inside in
    let told = c.count_upto-place.ensures in
    ap Err (sym c.if-place-eq0.true)
    ∙ sym (gap_upto c.args.key.now c.args.self.now c.as_slice-keys.result.now c.count_upto-place.result
    (c.as_slice-keys.ensures.value ∙ keys_are s.keys.items s.values.items c.args.self.now c.self.invariant.even c.self.view_is) c.requires told.within told.from
    (λ some tied. omega (arith, c.if-place-eq0.true)) told.before)

pub returns-in-Equal : goal.returns-in-Equal
returns-in-Equal g c =
    let s = c.self.inside in
    let keys = c.as_slice-keys.result.now in
    let place = c.count_upto-place.result in
    let within = c.count_upto-place.ensures.within in
    let some : 0 < place = omega (arith, c.if-place-eq0.false) in
    let read = c.index-keys-place.is ∙ get_or_default keys (place - 1) c.index-keys-place.result [] (omega arith) in
    sym (found_in c.args.key.now c.args.self.now keys place
    (c.as_slice-keys.ensures.value ∙ keys_are s.keys.items s.values.items c.args.self.now c.self.invariant.even c.self.view_is) c.requires some within
    (ap (λ own. key_cmp own c.args.key.now) (sym read) ∙ sym c.compare.ensures ∙ c.in-Equal.is))

pub returns-in_default : goal.returns-in_default
returns-in_default g c =
    let s = c.self.inside in
    let keys = c.as_slice-keys.result.now in
    let place = c.count_upto-place.result in
    let told = c.count_upto-place.ensures in
    let within = told.within in
    let there : place - 1 < length keys = omega (arith, c.if-place-eq0.false) in
    let read = c.index-keys-place.is ∙ get_or_default keys (place - 1) c.index-keys-place.result [] there in
    sym (gap_upto c.args.key.now c.args.self.now keys place
    (c.as_slice-keys.ensures.value ∙ keys_are s.keys.items s.values.items c.args.self.now c.self.invariant.even c.self.view_is) c.requires told.within told.from
    (λ some tied. c.in_default.not-Equal (c.compare.ensures ∙ ap (λ own. key_cmp own c.args.key.now) read ∙ tied)) told.before)
