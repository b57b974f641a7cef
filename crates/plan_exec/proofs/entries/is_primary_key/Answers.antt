use Rattle.std.proofs.Common.{◌∙◌, ap, sym}
use Rattle.plan_exec.specs.Decoding.{is_pack_of}
use Rattle.plan_exec.proofs.EntryCells.{key_test, number_stops, number_then}
use Rattle.plan_exec.proofs.entries.is_primary_key.Goals as goal

pub returns-in_ok-so-in-Some : goal.returns-in_ok-so-in-Some
returns-in_ok-so-in-Some c =
    c.in_ok-so-in-Some.ensures ∙ ap (λ kinds. is_pack_of (key_test kinds) c.in-Some.key.now) c.requires
    ∙ sym (number_then c.args.definition.now c.args.bytes.now c.in-Some.key.now c.in-Some.ensures.told)

pub returns-in-None : goal.returns-in-None
returns-in-None c = sym (number_stops c.args.definition.now c.args.bytes.now c.after_number.ensures.fits c.in-None.ensures.told)
