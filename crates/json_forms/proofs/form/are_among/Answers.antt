use Rattle.std.proofs.Common.{◌≡◌, map, false, string_bytes, sym, ap, ◌∙◌}
use Rattle.json_forms.specs.Json.{is_among}
use Rattle.json_forms.proofs.Keys.{all_among, among_entries, first_is_not}
use Rattle.json_forms.proofs.form.are_among.Goals as goal

pub returns-then-not-is_among : goal.returns-then-not-is_among
returns-then-not-is_among c =
    let keys = map (λ key. key.now) c.args.keys.now in
    let outside : is_among keys (string_bytes c.in-Some.key.now) ≡ false = cc in
    sym (among_entries keys c.args.members.now.entries ∙ sym c.loop-key.invariant ∙ ap (all_among keys) c.in-Some.ensures.steps ∙ first_is_not keys c.in-Some.key.now _ outside)

pub returns : goal.returns
returns c =
    let keys = map (λ key. key.now) c.args.keys.now in
    sym (among_entries keys c.args.members.now.entries ∙ sym c.loop-key.invariant ∙ ap (all_among keys) c.in-None.ensures.steps.0)
