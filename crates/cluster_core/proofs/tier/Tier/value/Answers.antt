use Rattle.std.proofs.Common.{◌∙◌, None, Some, ap, inr, refl, sym}
use Rattle.std.specs.Option.{is_some}
use Rattle.cluster_core.proofs.OwnerReads.{owner_falling, owner_refusal, owner_value}
use Rattle.cluster_core.proofs.tier.Tier.value.Goals as goal

pub returns-in_default-clause-value : goal.returns-in_default-clause-value
returns-in_default-clause-value c = owner_value c.args.self.now c.self.inside.splits c.self.inside.window c.self.inside.servers.items c.as_slice.result.now c.args.version c.args.key.now None c.self.view_is c.self.invariant c.as_slice.ensures.value c.in_default.ensures

pub returns-in_default-clause-allowed : goal.returns-in_default-clause-allowed
returns-in_default-clause-allowed c = ap is_some (sym (owner_refusal c.args.self.now c.self.inside.splits c.self.inside.window c.self.inside.servers.items c.as_slice.result.now c.args.version c.args.key.now None c.self.view_is c.self.invariant c.as_slice.ensures.value c.in_default.ensures))

pub returns-in-Some-refusal_at-clause-refused : goal.returns-in-Some-refusal_at-clause-refused
returns-in-Some-refusal_at-clause-refused c =
    inr (sym (owner_refusal c.args.self.now c.self.inside.splits c.self.inside.window c.self.inside.servers.items c.as_slice.result.now c.args.version c.args.key.now (Some c.in-Some.server.now) c.self.view_is c.self.invariant c.as_slice.ensures.value c.in-Some.ensures) ∙ sym c.in-Some-refusal_at.ensures)

pub value-requires : goal.value-requires
value-requires c = owner_falling c.args.self.now c.self.inside.splits c.self.inside.window c.self.inside.servers.items c.as_slice.result.now c.args.version c.args.key.now (Some c.in-Some.server.now) c.self.view_is c.self.invariant c.as_slice.ensures.value c.in-Some.ensures c.in-Some.server.now refl

pub returns-in_ok-copy-in-Some-value-clause-value : goal.returns-in_ok-copy-in-Some-value-clause-value
returns-in_ok-copy-in-Some-value-clause-value c =
    ap Some c.in_ok-copy-in-Some-value.ensures ∙ c.in-Some-value.ensures ∙ owner_value c.args.self.now c.self.inside.splits c.self.inside.window c.self.inside.servers.items c.as_slice.result.now c.args.version c.args.key.now (Some c.in-Some.server.now) c.self.view_is c.self.invariant c.as_slice.ensures.value c.in-Some.ensures

pub returns-in_ok-copy-in-Some-value-clause-allowed : goal.returns-in_ok-copy-in-Some-value-clause-allowed
returns-in_ok-copy-in-Some-value-clause-allowed c =
    ap is_some (sym (owner_refusal c.args.self.now c.self.inside.splits c.self.inside.window c.self.inside.servers.items c.as_slice.result.now c.args.version c.args.key.now (Some c.in-Some.server.now) c.self.view_is c.self.invariant c.as_slice.ensures.value c.in-Some.ensures) ∙ sym c.in_default-refusal_at.ensures)

pub returns-in-None-clause-value : goal.returns-in-None-clause-value
returns-in-None-clause-value c = c.in-None.ensures ∙ owner_value c.args.self.now c.self.inside.splits c.self.inside.window c.self.inside.servers.items c.as_slice.result.now c.args.version c.args.key.now (Some c.in-Some.server.now) c.self.view_is c.self.invariant c.as_slice.ensures.value c.in-Some.ensures

pub returns-in-None-clause-allowed : goal.returns-in-None-clause-allowed
returns-in-None-clause-allowed c = ap is_some (sym (owner_refusal c.args.self.now c.self.inside.splits c.self.inside.window c.self.inside.servers.items c.as_slice.result.now c.args.version c.args.key.now (Some c.in-Some.server.now) c.self.view_is c.self.invariant c.as_slice.ensures.value c.in-Some.ensures) ∙ sym c.in_default-refusal_at.ensures)
