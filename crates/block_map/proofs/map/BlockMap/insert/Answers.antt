use Rattle.std.proofs.Common.{◌+◌, ◌∙◌, ap, sym}
use Rattle.block_map.proofs.Mapped.{gone, place_within, put_count, put_updates, replaced_count, replaced_entries, replaced_updates, replaced_whole, value_is}
use Rattle.std.specs.Result.{OnErr}
use Rattle.std.specs.declared.result.Result.{Result}
use Rattle.std.specs.declared.result.Result.TheVariants.{Ok, Err}
use Rattle.block_map.proofs.map.BlockMap.insert.Goals as goal

-- what holds in any case holds of an error
on_err : {T E P : Type 0} (r : Result T E) → P → OnErr r P
on_err (Ok x) p = tt
on_err (Err e) p = p

pub replace-requires : goal.replace-requires
replace-requires g c =
    let ks = c.self.inside.blocks.bounds.items in
    let bs = c.self.inside.blocks.list.items in
    let whole = c.self.invariant.0 in
    let at = sym c.find_near.ensures.place ∙ c.in_default-Ok.is-1 in
    place_within c.args.key ks bs whole c.args.self.now c.self.view_is c.find_near.result.0 c.find_near.ensures.block c.in_default-Ok.place at

pub invariant_of-self : goal.invariant_of-self
invariant_of-self g c =
    let ks = c.self.inside.blocks.bounds.items in
    let bs = c.self.inside.blocks.list.items in
    let whole = c.self.invariant.0 in
    let at = sym c.find_near.ensures.place ∙ c.in_default-Ok.is-1 in
    (replaced_whole c.args.key ks bs whole c.args.self.now c.self.view_is c.find_near.result.0 c.find_near.ensures.block c.in_default-Ok.place at c.args.value c.replace.new.self.bounds.items c.replace.new.self.list.items c.replace.ensures.bounds c.replace.ensures.list, c.self.invariant.1 ∙ sym (replaced_count c.args.key ks bs whole c.args.self.now c.self.view_is c.find_near.result.0 c.find_near.ensures.block c.in_default-Ok.place at c.args.value c.replace.new.self.bounds.items c.replace.new.self.list.items c.replace.ensures.bounds c.replace.ensures.list))

pub returns-then-self-clause-absent : goal.returns-then-self-clause-absent
returns-then-self-clause-absent g c =
    let ks = c.self.inside.blocks.bounds.items in
    let bs = c.self.inside.blocks.list.items in
    let whole = c.self.invariant.0 in
    let at = sym c.find_near.ensures.place ∙ c.in_default-Err.is-1 in
    gone c.args.key ks bs whole c.args.self.now c.self.view_is c.find_near.result.0 c.find_near.ensures.block c.in_default-Err.place at

pub returns-in_err-put-in_default-Err-clause-absent : goal.returns-in_err-put-in_default-Err-clause-absent
returns-in_err-put-in_default-Err-clause-absent g c =
    let ks = c.self.inside.blocks.bounds.items in
    let bs = c.self.inside.blocks.list.items in
    let whole = c.self.invariant.0 in
    let at = sym c.find_near.ensures.place ∙ c.in_default-Err.is-1 in
    on_err c.from_residual.result (gone c.args.key ks bs whole c.args.self.now c.self.view_is c.find_near.result.0 c.find_near.ensures.block c.in_default-Err.place at)

pub invariant_of-self-in_default-Err : goal.invariant_of-self-in_default-Err
invariant_of-self-in_default-Err g c =
    let ks = c.self.inside.blocks.bounds.items in
    let bs = c.self.inside.blocks.list.items in
    let whole = c.self.invariant.0 in
    let at = sym c.find_near.ensures.place ∙ c.in_default-Err.is-1 in
    let more = put_count c.args.key ks bs whole c.args.self.now c.self.view_is c.find_near.result.0 c.find_near.ensures.block c.in_default-Err.place at c.args.value c.put.new.self.list.items c.in_ok-put-in_default-Err.ensures.ok in
    (c.in_ok-put-in_default-Err.ensures.whole, ap (λ n. n + 1) c.self.invariant.1 ∙ sym more)

pub returns-in_default-Ok-clause-old : goal.returns-in_default-Ok-clause-old
returns-in_default-Ok-clause-old g c =
    let ks = c.self.inside.blocks.bounds.items in
    let bs = c.self.inside.blocks.list.items in
    let whole = c.self.invariant.0 in
    let at = sym c.find_near.ensures.place ∙ c.in_default-Ok.is-1 in
    value_is c.args.key ks bs whole c.args.self.now c.self.view_is c.find_near.result.0 c.find_near.ensures.block c.in_default-Ok.place at c.replace.result c.replace.ensures.old

pub returns-in_default-Ok-clause-updates : goal.returns-in_default-Ok-clause-updates
returns-in_default-Ok-clause-updates g c =
    let ks = c.self.inside.blocks.bounds.items in
    let bs = c.self.inside.blocks.list.items in
    let whole = c.self.invariant.0 in
    let at = sym c.find_near.ensures.place ∙ c.in_default-Ok.is-1 in
    replaced_updates c.args.key ks bs whole c.args.self.now c.self.view_is c.find_near.result.0 c.find_near.ensures.block c.in_default-Ok.place at c.args.value c.replace.new.self.bounds.items c.replace.new.self.list.items c.replace.ensures.bounds c.replace.ensures.list

pub returns-in_default-Ok-clause-entries : goal.returns-in_default-Ok-clause-entries
returns-in_default-Ok-clause-entries g c =
    let ks = c.self.inside.blocks.bounds.items in
    let bs = c.self.inside.blocks.list.items in
    let whole = c.self.invariant.0 in
    let at = sym c.find_near.ensures.place ∙ c.in_default-Ok.is-1 in
    replaced_entries c.args.key ks bs whole c.args.self.now c.self.view_is c.find_near.result.0 c.find_near.ensures.block c.in_default-Ok.place at c.args.value c.replace.new.self.bounds.items c.replace.new.self.list.items c.replace.ensures.bounds c.replace.ensures.list

pub returns-in_default-Ok-clause-ordered : goal.returns-in_default-Ok-clause-ordered
returns-in_default-Ok-clause-ordered g c =
    let ks = c.self.inside.blocks.bounds.items in
    let bs = c.self.inside.blocks.list.items in
    let whole = c.self.invariant.0 in
    let at = sym c.find_near.ensures.place ∙ c.in_default-Ok.is-1 in
    (replaced_whole c.args.key ks bs whole c.args.self.now c.self.view_is c.find_near.result.0 c.find_near.ensures.block c.in_default-Ok.place at c.args.value c.replace.new.self.bounds.items c.replace.new.self.list.items c.replace.ensures.bounds c.replace.ensures.list).sorted

pub returns-in_ok-put-in_default-Err-clause-old : goal.returns-in_ok-put-in_default-Err-clause-old
returns-in_ok-put-in_default-Err-clause-old g c =
    let ks = c.self.inside.blocks.bounds.items in
    let bs = c.self.inside.blocks.list.items in
    let whole = c.self.invariant.0 in
    let at = sym c.find_near.ensures.place ∙ c.in_default-Err.is-1 in
    sym (gone c.args.key ks bs whole c.args.self.now c.self.view_is c.find_near.result.0 c.find_near.ensures.block c.in_default-Err.place at)

pub returns-in_ok-put-in_default-Err-clause-updates : goal.returns-in_ok-put-in_default-Err-clause-updates
returns-in_ok-put-in_default-Err-clause-updates g c =
    let ks = c.self.inside.blocks.bounds.items in
    let bs = c.self.inside.blocks.list.items in
    let whole = c.self.invariant.0 in
    let at = sym c.find_near.ensures.place ∙ c.in_default-Err.is-1 in
    put_updates c.args.key ks bs whole c.args.self.now c.self.view_is c.find_near.result.0 c.find_near.ensures.block c.in_default-Err.place at c.args.value c.put.new.self.list.items c.in_ok-put-in_default-Err.ensures.ok
