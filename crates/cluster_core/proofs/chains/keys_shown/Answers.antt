use Rattle.std.proofs.Common.{◌∙◌, ◌++◌, ap, false, subst, sym}
use Rattle.std.proofs.lemmas.List.{append-nil}
use Rattle.std.specs.List.{AllByRecursion}
use Rattle.std.specs.Map.{keys_of}
use Rattle.cluster_core.specs.Chains.{IsFalling, links_of}
use Rattle.cluster_core.proofs.Shown.{chains_between, falling_in, pairs_in-shown, pairs_shown}
use Rattle.cluster_core.proofs.chains.keys_shown.Goals as goal

pub loop-key-init : goal.loop-key-init
loop-key-init c =
    let rest =
    c.into_iter-key-iterator.ensures.into_iter_gives ∙ c.range-key-items.ensures.between
    ∙ chains_between c.args.range.now _ _ c.args.chains.now.entries c.begin.ensures.value c.end.ensures in record {
      keys = ap (λ xs. xs ++ keys_of (pairs_shown c.args.version c.into_iter-key-iterator.result)) c.new-keys.ensures.items ∙ ap (λ es. keys_of (pairs_shown c.args.version es)) rest;
      falling = subst (AllByRecursion (λ e. IsFalling (links_of e.1))) (sym rest) (falling_in c.args.range.now c.args.chains.now false c.range-key-items.ensures.ordered c.requires);
    }

pub returns : goal.returns
returns c =
    let keys = c.loop-key.keys.items in
    sym (ap (λ es. keys ++ keys_of (pairs_shown c.args.version es)) c.in-None.ensures.steps.0 ∙ append-nil keys)
    ∙ c.loop-key.invariant.keys
    ∙ ap keys_of (sym (pairs_in-shown c.args.version c.args.range.now c.args.chains.now.entries c.range-key-items.ensures.ordered))
