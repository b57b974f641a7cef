use Rattle.std.proofs.Common.{◌≡◌, ◌∙◌, ◌<◌, ◌≤◌, subst, sym, take}
use Rattle.std.specs.List.{AllByRecursion}
use Rattle.cluster_core.specs.Chains.{IsFalling, links_of}
use Rattle.cluster_core.specs.Server.{turned}
use Rattle.cluster_core.proofs.Shown.{chains_between, chains_in, falling_in, pairs_shown, read-shown, read_full, read_pair, read_start, read_stops}
use Rattle.cluster_core.proofs.chains.Chains.read_between.Goals as goal
use Rattle.cluster_core.proofs.chains.Chains.read_between.Goals.{else-loop-rest-test, then-loop-rest-test+in_default}

pub loop-rest-init : goal.loop-rest-init
loop-rest-init c =
    let es = c.args.self.now.chains.entries in
    let rest = c.range-rest.ensures.between ∙ chains_between c.args.range.now _ _ es c.begin.ensures.value c.end.ensures in record {
      pairs = read_start c.args.version c.args.limit c.args.reverse c.range-rest.result (chains_in c.args.range.now es) c.new-pairs.result.items c.new-pairs.ensures.items rest;
      falling = subst (λ r. AllByRecursion (λ e. IsFalling (links_of e.1)) (turned c.args.reverse r)) (sym rest)
          (falling_in c.args.range.now c.args.self.now.chains c.args.reverse c.range-rest.ensures.ordered c.requires);
    }

pub loop-rest-preserved-in_ok-push_pair : goal.loop-rest-preserved-in_ok-push_pair
loop-rest-preserved-in_ok-push_pair c =
    let old = turned c.args.reverse c.loop-rest.rest in
    let more = turned c.args.reverse c.next_of.new.rest in
    let next = c.in-Some.ensures in record {
      pairs = read_pair c.args.version c.args.limit old more (c.in-Some.key.now, c.in-Some.chain.now) c.in-Some-value_at.value.now c.in_ok-copy.field-0 c.in_ok-copy-2.field-0 c.loop-rest.pairs.items
          c.push_pair.new.pairs.items _ (subst (λ n. n < c.args.limit) (c.len.ensures ∙ c.loop-rest.pairs.ok.0) c.loop-rest-test.true) next (sym c.in-Some-value_at.ensures) c.in_ok-copy.ensures c.in_ok-copy-2.ensures
          c.in_ok-push_pair.ensures c.loop-rest.invariant.pairs;
      falling = (subst (AllByRecursion (λ e. IsFalling (links_of e.1))) next c.loop-rest.invariant.falling).1;
    }

pub returns : goal.returns
returns c =
    let pairs = c.loop-rest.pairs.items in
    let rest = turned c.args.reverse c.loop-rest.rest in
    let es = c.args.self.now.chains.entries in
    let asked = take c.args.limit (pairs_shown c.args.version (turned c.args.reverse (chains_in c.args.range.now es))) in
    let done : pairs ≡ asked = elim c.loop-rest-test.branch [
      | else-loop-rest-test w ↦
          read_full c.args.version c.args.limit rest pairs asked (subst (λ n. c.args.limit ≤ n) (c.len.ensures ∙ c.loop-rest.pairs.ok.0) w.loop-rest-test.false) c.loop-rest.invariant.pairs
      | then-loop-rest-test+in_default w ↦ read_stops c.args.version c.args.limit rest pairs asked w.in_default.ensures c.loop-rest.invariant.pairs
    ] in
    done ∙ sym (read-shown c.args.version c.args.range.now es c.args.limit c.args.reverse c.range-rest.ensures.ordered)
