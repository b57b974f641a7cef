use Rattle.std.proofs.Common.{◌≡◌, ◌++◌, [], sym, ap, ◌∙◌, subst, rules}
use Rattle.cluster_core.specs.Roles.{whole}
use Rattle.runtime.specs.History.{log_prefix}
use Rattle.runtime.specs.Logs.{AreCounted, AreGiven, pipeline_of, is_numbered}
use Rattle.runtime.proofs.Numbers.{counted_none, given_first}
use Rattle.runtime.specs.Origins.{origin_of}
use Rattle.runtime.specs.Publication.{PublisherView}
use Rattle.runtime.proofs.WellFormed.{pipeline_first}
use Rattle.runtime.proofs.Places.{places_counted}
use Rattle.runtime.proofs.commit_state.CommitState.open.Goals as goal

pub open-requires : goal.open-requires
open-requires g c = record { readers = places_counted c.args.config.now c.in_ok-pipeline.ensures.allowed; logged = c.requires.logged; above = c.requires.above }

pub invariant_of-result : goal.invariant_of-result
invariant_of-result g c =
    let e = c.in_ok-publisher.ensures.made in
    let log : c.in_ok-publisher.publisher.published ++ c.in_ok-publisher.publisher.pending ≡ [] = ap (λ (s : PublisherView). s.published ++ s.pending) e in (
      sym (ap (λ (s : PublisherView). s.name.book) e),
      c.prefix-prefix.ensures ∙ ap (log_prefix c.in_ok-publisher.publisher.name) (ap (λ (s : PublisherView). s.published) e ∙ sym log),
      ap whole c.in_ok-pipeline.ensures.made ∙ sym (pipeline_first (origin_of c.args.config.now c.args.base.now.entries.items)) ∙ sym (ap (λ (s : PublisherView). pipeline_of s.name.origin (s.published ++ s.pending)) e),
      ap (is_numbered c.in_ok-last.last.items) log,
      subst (AreGiven c.in_ok-last.last.items) (sym log) (given_first c.in_ok-last.last.items c.args.config.now.places (search rules)),
      subst (AreCounted c.in_ok-last.last.items) (sym log) (counted_none c.in_ok-last.last.items c.args.config.now.places (search rules)),
    )
